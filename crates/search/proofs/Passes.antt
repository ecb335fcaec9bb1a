-- One pass: what it comes to, and what it leaves to the next. Assumes nothing.
use Rattle.search_rows.specs.declared.rows.Row.{Row}
use Rattle.search.specs.declared.marks.Mark.{Mark}
use Prim.Native.Nat.{ℕ, ◌<◌}
use native.Mathlib.Omega.{arith}
use mathlib.Core.Path.{◌≡◌, ap, ◌∙◌}
use mathlib.Core.List.{List}
use lib.ListN.{get_or, take}
use lib.Ieee.{Float}
use Rattle.search_rows.specs.declared.moves.Tally.{Tally}
use Rattle.search_rows.specs.Rows.{present_in}
use Rattle.search_rows.specs.Moves.{begun}
use Rattle.search.specs.Pass.{Scene, progress_of, sweep, visit, pass_over, pair_rest, IdTable, Rests, Grows, Visits, Left}

-- a pass, from its moves
pub pass_is :
    (e : Scene) (ids : List ℕ) (t₀ : Tally) (n : ℕ) (table : List ℕ) {ids' : List ℕ} {b t : Tally} →
    take n table ≡ present_in e.hall.detections ids → b ≡ begun t₀ →
    progress_of ids' t ≡ visit e (take n table) (sweep e ids (take n table) (progress_of ids b)) → progress_of ids' t ≡ pass_over e (progress_of ids t₀)
unfolding pass_over
pass_is e ids t₀ n table is b v =
    v
    ∙ ap (λ (b : Tally). visit e (take n table) (sweep e ids (take n table) (progress_of ids b))) b
    ∙ (λ i. visit e (is i) (sweep e ids (is i) (progress_of ids (begun t₀))))

-- ---- what it leaves to the next

module _ {e : Scene} {n next : ℕ} {table : List ℕ} {rows : List Row} {swept : List Mark} {ids : List ℕ} {costs : List Float} {moved : List Mark} (listed : IdTable n table) (rests : (i j : ℕ) → i < j → j < n → Rests e table rows swept i j) (v : Visits e n table rows n next ids costs moved) (grows : Grows n swept moved) where
  pub pass_leaves : Left e n table ids costs moved
  pass_leaves =
      record {
        listed = listed;
        costed = v.swept.costed;
        marks = v.swept.marks;
        pair = λ i j h g p q.
            let under : i < n = omega arith in
            (λ m. pair_rest e (get_or table i 0) (get_or table j 0) (v.swept.same i under p m) (v.swept.same j g q m)) ∙ (rests i j h g).pair (grows.back i under p) (grows.back j g q);
        track = v.rested;
      }
