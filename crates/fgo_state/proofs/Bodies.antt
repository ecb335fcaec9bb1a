-- Held bodies: that those that pass the test of all pass each by itself, and that they are of bytes where the memory
-- is. Assumes nothing.
use Prim.Native.Nat.{ℕ, zero, suc, ◌+◌, ◌*◌, ◌<◌}
use mathlib.Core.Path.{◌≡◌}
use mathlib.Core.Bool.{true}
use mathlib.Core.List.{List, [], ◌∷◌}
use lib.ListN.{take, drop, get_or}
use mir.Syntax.{w8}
use mir.Val.{Fits}
use borrow.Author.Tests.{eqb-true}
use Rattle.bounds.specs.Bounds.{BODY}
use Rattle.engine.specs.Body.{body_refusal}
use Rattle.engine.proofs.Every.{all-at}
use Rattle.fgo_spec.specs.Rule.{All, Bytes}
use Rattle.fgo_state.specs.Memory.{head_at, length_in, slot_at, bytes_at, body_at}
use Rattle.fgo_state.specs.Sound.{bodies_ok}

pub body-passes : (bodies columns : List ℕ) (first held : ℕ) → bodies_ok bodies columns first held ≡ true → (i : ℕ) → i < held → body_refusal (body_at bodies columns (first + i)) ≡ 0
unfolding bodies_ok
body-passes bodies columns first held h i l = eqb-true _ 0 (all-at _ held i h l)

all_take : {A : Type 0} (P : A → Type 0) (n : ℕ) (l : List A) → All P l → All P (take n l)
all_take P zero l h = tt
all_take P (suc n) [] h = tt
all_take P (suc n) (a ∷ l) h = (h.0, all_take P n l h.1)

all_drop : {A : Type 0} (P : A → Type 0) (n : ℕ) (l : List A) → All P l → All P (drop n l)
all_drop P zero l h = h
all_drop P (suc n) [] h = tt
all_drop P (suc n) (a ∷ l) h = all_drop P n l h.1

pub bytes_held : (bodies columns : List ℕ) (n : ℕ) → Bytes bodies → Bytes (bytes_at bodies columns n)
unfolding bytes_at
bytes_held bodies columns n h = all_take (λ b. b < 256) (length_in (head_at columns n)) (drop (BODY * slot_at n) bodies) (all_drop (λ b. b < 256) (BODY * slot_at n) bodies h)

-- a list whose entries are bytes
pub bytes_of : (l : List ℕ) → ((i : ℕ) → Fits w8 (get_or l i 0)) → Bytes l
bytes_of [] h = tt
bytes_of (b ∷ l) h = ((h 0).fits, bytes_of l (λ i. h (suc i)))
