use Rattle.std.proofs.Common.{rules, ◌≡◌, ◌∙◌}
use Rattle.std.specs.List.{fold}
use Rattle.digest.specs.Digest.{fnv1a, word_bytes}
use Rattle.digest.proofs.Mixing.{each_mixes}
use Rattle.digest.proofs.hash_words.Goals as goal

pub returns : goal.returns
returns c =
    let e : c.fold.result ≡ fold (λ h w. fnv1a h (word_bytes w)) c.args.h c.args.words.now = search rules in
    e ∙ each_mixes word_bytes c.args.h c.args.words.now
