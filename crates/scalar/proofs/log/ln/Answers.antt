use Rattle.std.proofs.Common.{sym, ap, ◌∙◌}
use Rattle.scalar.specs.Ln.{ln_of}
use Rattle.scalar.proofs.Logarithm.{top_is, zero_is, none_is}
use Rattle.scalar.proofs.log.ln.Goals as goal

pub ln_digits-requires : goal.ln_digits-requires
ln_digits-requires c = let f = c.in-Finite.ensures.kind in (f.some, f.few, f.low)

pub returns-in-Finite : goal.returns-in-Finite
returns-in-Finite c = c.ln_digits.ensures ∙ sym (ap ln_of c.in-Finite.ensures.kind.is)

pub returns-in-Infinite : goal.returns-in-Infinite
returns-in-Infinite c = let e = c.in-Infinite.ensures.kind in e ∙ sym (ap ln_of e ∙ top_is)

pub returns-in-Zero : goal.returns-in-Zero
returns-in-Zero c = sym (zero_is c.args.a c.in-Zero.ensures.kind)

pub returns-in-Other : goal.returns-in-Other
returns-in-Other c = let f = c.in-Other.ensures.kind in sym (none_is c.args.a f.0 f.1)
