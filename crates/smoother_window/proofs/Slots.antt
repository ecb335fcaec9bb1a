-- Slots in a window: each lies within its buffer. Assumes nothing.
use mathlib.Core.Path.{◌≡◌, refl, ◌∙◌}
use mathlib.Core.List.{List}
use Prim.Native.Nat.{ℕ, suc, ◌+◌, ◌*◌, ◌%◌, ◌≤◌}
use native.Mathlib.Omega.{arith}
use native.Mathlib.Nat.{mul-le-mul_right, suc-mul, mod-lt, mod-add-mod, add-mod-mod}
use lib.ListN.{length, take, drop, length-drop}
use lib.Seq.{length-take-le}
use Rattle.smoother_window.specs.declared.FixedLagSmoother.{FixedLagSmoother}
use Rattle.smoother_window.specs.Config.{lag}
use Rattle.smoother_window.specs.Window.{slot_of}

-- a slot's place in the round
pub slot_within : (s : FixedLagSmoother) (k : ℕ) → slot_of s k ≤ lag s.config
unfolding slot_of
slot_within s k = omega (arith, mod-lt (s.first + k) {m = lag s.config + 1} (omega arith))

pub turned : (s : FixedLagSmoother) (k : ℕ) → (s.first % (lag s.config + 1) + k) % (lag s.config + 1) ≡ slot_of s k
unfolding slot_of
turned s k = mod-add-mod s.first (lag s.config + 1) k

pub turned_in : (s : FixedLagSmoother) (k : ℕ) → (s.first % (lag s.config + 1) + k % (lag s.config + 1)) % (lag s.config + 1) ≡ slot_of s k
turned_in s k = add-mod-mod (s.first % (lag s.config + 1)) k (lag s.config + 1) ∙ turned s k

-- of n + 1 slots of equal size, each ends within the buffer
pub room : {at n w wide long : ℕ} → at ≤ n → w ≡ wide → long ≡ (n + 1) * wide → at * w + w ≤ long
room {at} {n} {w} {wide} h d e =
    let l : suc at ≤ n + 1 = omega arith in
    rw (d, e) (rw (suc-mul at wide) at (mul-le-mul_right wide l))

-- so it is whole there
pub slot_whole : {A : Type 0} (s : FixedLagSmoother) (k w : ℕ) (d : List A) → length d ≡ (lag s.config + 1) * w → length (take w (drop (slot_of s k * w) d)) ≡ w
slot_whole s k w d h = length-take-le w (drop (slot_of s k * w) d) (omega (arith, room (slot_within s k) refl h, length-drop (slot_of s k * w) d))
