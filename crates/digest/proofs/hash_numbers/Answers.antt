use Rattle.std.proofs.Common.{rules, ◌≡◌, ◌∙◌}
use Rattle.std.specs.List.{fold}
use Rattle.scalar.specs.Scalar.{bits_of}
use Rattle.digest.specs.Digest.{fnv1a, word_bytes}
use Rattle.digest.proofs.Mixing.{each_mixes}
use Rattle.digest.proofs.hash_numbers.Goals as goal

pub returns : goal.returns
returns c =
    let e : c.fold.result ≡ fold (λ h x. fnv1a h (word_bytes (bits_of x))) c.args.h c.args.numbers.now = search rules in
    e ∙ each_mixes (λ x. word_bytes (bits_of x)) c.args.h c.args.numbers.now
