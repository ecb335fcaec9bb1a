-- A track is live in the lent memory where it is so in the state that it means. Assumes nothing.
use Prim.Native.Nat.{ℕ, zero, suc}
use mathlib.Core.Path.{◌≡◌, refl, sym, ap, ◌∙◌}
use mathlib.Core.Bool.{Bool, true, false, ◌||◌}
use mathlib.Core.List.{List}
use lib.Dec.{eqb}
use lib.Ieee.{Float}
use Rattle.engine.specs.Body.{rows}
use Rattle.fgo_spec.specs.Lists.{any, has, find, found_if, is_some}
use Rattle.fgo_spec.specs.Windows.{present, live}
use Rattle.fgo_part.specs.Parts.{entry_in, table_in, part_ids}
use Rattle.fgo_state.specs.Memory.{scans_in, live_in}
use Rattle.fgo_state.proofs.Present.{present-has}

-- a key is found where it stands
found_has : {A : Type 0} (x : ℕ) (g : ℕ → ℕ × A) (o n : ℕ) → is_some (find x (rows g o n)) ≡ has x (rows (λ k. (g k).0) o n)
unfolding rows find any
found_has x g o zero = refl
found_has x g o (suc n) = go (eqb x (g o).0) (found_has x g (suc o) n)
  where
    go :
        (b : Bool) → is_some (find x (rows g (suc o) n)) ≡ has x (rows (λ k. (g k).0) (suc o) n) →
        is_some (found_if b (g o).1 (find x (rows g (suc o) n))) ≡ (b || has x (rows (λ k. (g k).0) (suc o) n))
    go true h = refl
    go false h = h

pub live_rule : (bodies columns : List ℕ) (first held : ℕ) (tracks : List ℕ) (filters : List Float) (frozen x : ℕ) → live_in bodies columns first held tracks frozen x ≡ live (table_in tracks filters frozen) (scans_in bodies columns first held) x
unfolding live_in
live_rule bodies columns first held tracks filters frozen x =
    ap (λ b. has x (part_ids tracks frozen) || b) (sym (present-has x (scans_in bodies columns first held)))
    ∙ ap (λ b. b || has x (present (scans_in bodies columns first held))) (sym (found_has x (entry_in tracks filters) 0 frozen))
