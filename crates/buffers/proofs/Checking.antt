-- A refusal that is numbered decides an opening, a push or a take. Assumes nothing.
use Prim.Native.Nat.{ℕ, zero, suc}
use mathlib.Core.Path.{◌≡◌, refl, ap}
use mathlib.Core.Option.{Option, none, some, some-injective, none-ne-some}
use Rattle.buffers.specs.Answer.{Opening, unopened, opened, opened_by, left_by, Reply, refused, checked}

pub open_refused : {S : Type 0} (n : ℕ) (s : S) → (n ≡ 0 → ⊥) → unopened n ≡ opened_by n s
open_refused zero s h = absurd (h refl)
open_refused (suc n) s h = refl

-- and leaves what there was
pub left_refused : {A : Type 0} (n : ℕ) (new old : A) → (n ≡ 0 → ⊥) → old ≡ left_by n new old
left_refused zero new old h = absurd (h refl)
left_refused (suc n) new old h = refl

-- what an opening gives
abbrev given_by : {S : Type 0} → Opening S → Option S
given_by (unopened n) = none
given_by (opened s) = some s

-- one that gives a state has no refusal
pub open_passed : {S : Type 0} (n : ℕ) (s t : S) → opened_by n s ≡ opened t → (n ≡ 0) × (s ≡ t)
open_passed zero s t e = (refl, some-injective s t (ap given_by e))
open_passed (suc n) s t e = absurd (none-ne-some t (ap given_by e))

pub check_refused : {E S : Type 0} (n : ℕ) (s : S) (a : Reply E × S) → (n ≡ 0 → ⊥) → checked n s a ≡ (refused n, s)
check_refused zero s a h = absurd (h refl)
check_refused (suc n) s a h = refl
