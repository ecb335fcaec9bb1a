use mathlib.Core.Path.{◌≡◌, sym, ap, ◌∙◌}
use Prim.Native.Nat.{ℕ, suc, ◌+◌, min, max}
use native.Mathlib.Numerals.{add-one}
use native.Mathlib.Omega.{arith}
use mathlib.Core.Bool.{Bool, cond}
use lib.ListN.{length, get_or, set}
use borrow.Author.Tests.{le-ltb}
use Rattle.search_rows.specs.declared.rows.Row.{Row}
use Rattle.search_rows.specs.Rows.{entry_of}
use Rattle.search_rows.proofs.Joining.{first_set, end_set}
use Rattle.search_rows.proofs.rows.Row.join.Goals as goal

pub returns : goal.returns
returns c =
    let r = c.args.self.now.slots in
    let k = c.args.k in
    let i = c.args.i in
    let long : length r ≡ 17 = omega arith in
    let whole = c.requires.2 in
    let first : c.min-self.result ≡ _ = c.min-self.ensures ∙ ap (λ (e : Row). min e.first k) whole ∙ sym (first_set r k (i + 1) (omega (arith, c.requires.0, long)) (omega arith)) in
    let end : c.max-self.result ≡ _ = c.max-self.ensures ∙ ap (λ (e : Row). max e.end (k + 1)) whole ∙ sym (end_set r k (i + 1) (omega (arith, c.requires.0, long)) (omega arith)) in
    (λ z. record { slots = set r k (i + 1); first = first z; end = end z })
    ∙ ap (λ (v : ℕ). entry_of (set r k v)) (add-one i)
    ∙ sym (ap (λ (b : Bool). entry_of (cond b r (set r k (suc i)))) (le-ltb 0 (get_or r k 0) c.if-self-k-gt0.false))
