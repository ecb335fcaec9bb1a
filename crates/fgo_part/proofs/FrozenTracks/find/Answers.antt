use native.Mathlib.Omega.{arith}
use mathlib.Core.Path.{◌≡◌, sym, ap, ◌∙◌}
use Rattle.engine.proofs.Ids.{other_id}
use Rattle.fgo_part.specs.Parts.{part_id}
use Rattle.fgo_part.proofs.Places.{place_own}
use Rattle.fgo_part.proofs.FrozenTracks.find.Goals as goal
use Rattle.fgo_part.proofs.FrozenTracks.find.Goals.{else-k-self-via-then-k-self+else-eq, else-k-self-via-else-k-self}

pub returns-else-k-self : goal.returns-else-k-self
returns-else-k-self c = λ k h e.
    let s = c.args.self.now in
    let q : c.place_of-k.result ≡ k = c.place_of-k.ensures.0 ∙ place_own s.rises c.args.id.0 k h e in
    elim c.else-k-self.branch [
      | else-k-self-via-then-k-self+else-eq w ↦ other_id w.eq.ensures w.if-eq.false (w.part_id.ensures ∙ ap (part_id s.tracks.now) q ∙ sym e)
      | else-k-self-via-else-k-self w ↦ absurd (omega (arith, w.if-k-self.false))
    ]
