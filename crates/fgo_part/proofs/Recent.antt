-- One height more, in an array of HEIGHTS. Assumes nothing.
use Prim.Native.Nat.{ℕ, ◌+◌, ◌-◌, ◌≤◌, ◌<◌}
use mathlib.Core.Path.{◌≡◌, refl, sym, ap, ◌∙◌}
use mathlib.Core.Bool.{Bool, true, false, cond}
use mathlib.Core.List.{List, [], ◌∷◌, ◌++◌}
use native.Mathlib.Omega.{arith}
use borrow.Author.Tests.{leb-true, le-leb}
use lib.ListN.{length, get_or, set, drop, length-append, length-drop}
use lib.Dec.{leb}
use lib.Ieee.{Float, nan}
use lib.Seq.{take_all, drop-append-le}
use Rattle.bounds.specs.Bounds.{HEIGHTS}
use Rattle.buffers.specs.Buffers.{over}
use Rattle.buffers.proofs.Over.{length_over}
use Rattle.engine.proofs.Passing.{length-rows}
use Rattle.fgo_spec.specs.Lists.{segment}
use Rattle.fgo_spec.specs.Freezing.{recent}
use Rattle.fgo_part.specs.Parts.{cells, heights_in}
use Rattle.fgo_part.proofs.Cells.{cells-take, cells-set, cells_over}

module _ (l : List Float) (n : ℕ) (z : Float) (high : length l ≡ HEIGHTS) where
  -- while there are fewer than HEIGHTS, the new one goes to the end
  pub few_heights : n < HEIGHTS → heights_in (set l n z) 0 (n + 1) ≡ recent (heights_in l 0 n ++ (z ∷ []))
  few_heights h =
      let k : List Float = cells nan l 0 n in
      let e : length (k ++ (z ∷ [])) - HEIGHTS ≡ 0 = omega (arith, length-append k (z ∷ []), length-rows (λ i. get_or l (0 + i) nan) 0 n) in
      rw (le-leb (n + 1) HEIGHTS (omega arith), le-leb n HEIGHTS (omega arith), e) (cells-set nan l n z (omega arith))

  -- else the oldest one goes
  pub full_heights : n ≤ HEIGHTS → HEIGHTS ≤ n → heights_in (set (over 0 (segment 1 HEIGHTS l) l) (HEIGHTS - 1) z) 0 HEIGHTS ≡ recent (heights_in l 0 n ++ (z ∷ []))
  full_heights h k =
      let q : n ≡ HEIGHTS = omega arith in
      let g : List Float = segment 1 HEIGHTS l in
      let g' : g ≡ drop 1 l = take_all (HEIGHTS - 1) (drop 1 l) (omega (arith, length-drop 1 l)) in
      let long : HEIGHTS - 1 ≡ length g = omega (arith, ap length g', length-drop 1 l) in
      let l' : List Float = over 0 g l in
      let written : cells nan l' 0 (HEIGHTS - 1) ≡ drop 1 l = ap (cells nan l' 0) long ∙ cells_over nan g l (omega arith) ∙ g' in
      let all : cells nan l 0 HEIGHTS ≡ l = cells-take nan l HEIGHTS (omega arith) ∙ take_all HEIGHTS l (omega arith) in
      let e : length (l ++ (z ∷ [])) - HEIGHTS ≡ 1 = omega (arith, length-append l (z ∷ [])) in
      rw q
      (cells-set nan l' (HEIGHTS - 1) z (omega (arith, length_over 0 g l (omega arith)))
      ∙ rw (written, all, e) (sym (drop-append-le 1 l (z ∷ []) (omega arith))))

-- more than HEIGHTS are none
pub heights_few : (l : List Float) (o n : ℕ) → 1 ≤ length (heights_in l o n) → n ≤ HEIGHTS
heights_few l o n = by (leb n HEIGHTS) refl
  where
    by : (b : Bool) → leb n HEIGHTS ≡ b → 1 ≤ length (cond b (cells nan l o n) []) → n ≤ HEIGHTS
    by true e h = leb-true n HEIGHTS e
    by false e h = absurd (omega arith)
