use Rattle.print.proofs.Putting.{puts_more, puts_same}
use Rattle.print.specs.Text.{track_line, assoc_line, texts, short_form}
use Rattle.bounds.specs.Bounds.{HEAD, TRACK, LINK}
use mathlib.Core.Path.{ap, ◌∙◌}
use mathlib.Core.List.{List}
use Prim.Native.Nat.{ℕ, ◌+◌, ◌*◌}
use Rattle.print.proofs.short.put_frame.Goals as goal

pub returns : goal.returns
unfolding short_form
returns c =
    let w = c.args.words.now in
    let t = c.of-counts.ensures.tracks in
    let a = c.of-counts.ensures.associations in
    let lines : ℕ → ℕ → List ℕ = λ k m. texts (λ j. assoc_line w (HEAD + TRACK * k + LINK * j)) m in
    puts_more c.put_head-a.ensures
    (puts_more (puts_same (ap (texts (track_line w c.args.x.now)) t) c.put_tracks-b.ensures)
    (puts_same (ap (λ o. texts (λ j. assoc_line w (o + LINK * j)) c.of-counts.result.associations) c.associations_from.ensures ∙ (λ i. lines (t i) (a i))) c.put_associations.ensures))
