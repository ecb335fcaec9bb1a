use Prim.Native.Nat.{◌+◌, ◌*◌}
use mathlib.Core.Path.{◌≡◌, ap, ◌∙◌}
use mir.Syntax.{w64}
use mir.Val.{SFits, of_z}
use mir.Facts.{to_z-of_z}
use lib.ListN.{length}
use Rattle.bounds.specs.Bounds.{PARTS, KF, FILTER, FILTERS}
use Rattle.scalar.specs.Scalar.{word}
use Rattle.kf.specs.Filter.{kf_numbers}
use Rattle.buffers.specs.Buffers.{over}
use Rattle.fgo_part.specs.Parts.{heights_of, height_numbers}
use Rattle.fgo_part.proofs.Parts.{two-over, heights-long, part_put}
use borrow.Author.Rules.{rules}
use Rattle.fgo_part.proofs.FrozenParts.put.Goals as goal

pub returns : goal.returns
returns c = let a = c.args in
    let w : length a.self.now.tracks ≡ PARTS = search rules in
    let d : length a.self.now.filters ≡ FILTERS = search rules in
    let f : SFits w64 a.p.last_ns = record { sfits = search rules } in
    let t : c.to_word.result ≡ word a.p.last_ns = c.to_word.ensures ∙ ap (of_z w64) (to_z-of_z f) in
    let n = heights-long a.p.heights.values 0 a.p.heights.count c.requires.1 in
    part_put a.self.now.tracks a.self.now.filters a.k c.requires.0 w d a.id.0 a.p (to_z-of_z f) (rw c.class_word.ensures.0 at c.class_word.ensures.1)
    (c.put.ensures ∙ rw (t, c.class_word.ensures.0, n))
    (two-over a.self.now.filters (FILTER * a.k) (kf_numbers a.p.kf) (height_numbers (heights_of a.p.heights)) (search rules)
    (c.put-2.ensures ∙ ap (λ g. over (FILTER * a.k) g a.self.now.filters) c.numbers.ensures)
    (c.put-3.ensures ∙ ap (λ g. over (FILTER * a.k + KF) g c.put-2.new.out) c.numbers-2.ensures))
