use Prim.Native.Nat.{ℕ, ◌+◌, ◌<◌}
use mathlib.Core.Path.{◌≡◌, ap, ◌∙◌}
use mathlib.Core.List.{List}
use native.Mathlib.Nat.{zero-add}
use mir.Syntax.{w64}
use mir.Val.{to_z, of_z}
use mir.Facts.{to_z-of_z}
use lib.ListN.{get_or, drop}
use lib.Seq.{get_or-take, get_or-drop}
use lib.Ieee.{Float, nan}
use Rattle.bounds.specs.Bounds.{HEIGHTS}
use Rattle.fgo_part.specs.Parts.{part_last_ns, part_height_count, part_heights_at, prefix_in}
use Rattle.fgo_part.proofs.Parts.{heights_same}
use Rattle.fgo_part.proofs.FrozenParts.prefix_at.Goals as goal

pub returns : goal.returns
unfolding prefix_in
returns c = let a = c.args in
    let time : to_z w64 (of_z w64 c.part_last_ns.result) ≡ part_last_ns a.self.now.tracks a.k = to_z-of_z {w = w64} (record { sfits = c.part_last_ns.type_inv }) ∙ c.part_last_ns.ensures in
    let same : (i : ℕ) → i < HEIGHTS → get_or c.array_at.result (0 + i) nan ≡ get_or a.self.now.filters (part_heights_at a.k + i) nan =
    λ i h. ap (λ (n : ℕ). get_or c.array_at.result n nan) (zero-add i) ∙ ap (λ (l : List Float). get_or l i nan) c.array_at.ensures ∙ get_or-take HEIGHTS (drop (part_heights_at a.k) a.self.now.filters) i nan h ∙ get_or-drop (part_heights_at a.k) a.self.now.filters i nan in
    rw (c.part_kf.ensures, c.part_last_frame.ensures, time, c.part_count.ensures, c.part_class.ensures, c.part_height_count.ensures, heights_same c.array_at.result a.self.now.filters 0 (part_heights_at a.k) same (part_height_count a.self.now.tracks a.k))
