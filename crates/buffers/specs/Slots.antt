-- Slots of equal size in a lent array, used in turn: what has the number n lies in slot n mod slots. Definitions only.
use Rattle.std.specs.Prelude.{ℕ, suc, ◌*◌, ◌%◌}
use mathlib.Core.List.{List, [], ◌∷◌}
use Rattle.buffers.specs.Buffers.{over}

-- slots of so many cells, and how many they are
module _ {A : Type 0} (wide slots : ℕ) where
  -- an array with lists in its slots, one in each, of which the first has the number n
  unfoldable pub slotted : ℕ → List (List A) → List A → List A
  slotted n [] l = l
  slotted n (g ∷ gs) l = slotted (suc n) gs (over (n % slots * wide) g l)
