-- What is written within the slot of a held scan leaves the scans in other slots as they were. Assumes nothing.
use Prim.Native.Nat.{ℕ, ◌+◌, ◌*◌, ◌≤◌, ◌<◌}
use native.Mathlib.Omega.{arith}
use mathlib.Core.Path.{◌≡◌, refl, ap, ◌∙◌}
use mathlib.Core.Bool.{Bool, true, false, cond}
use mathlib.Core.List.{List}
use lib.ListN.{length, take, drop, get_or}
use lib.Dec.{ltb}
use borrow.Author.Tests.{ltb-true}
use Rattle.bounds.specs.Bounds.{ASSOCIATIONS, BODY, COLUMN}
use Rattle.engine.specs.Body.{Body, body, frame_in, associations_in, rows}
use Rattle.buffers.specs.Buffers.{over}
use Rattle.buffers.proofs.Over.{length_over}
use Rattle.buffers.proofs.Apart.{over_other}
use Rattle.fgo_state.specs.Memory.{slot_at, head_at, length_in, kind_in, bytes_at, body_at, id_at, scan_in, scans_in}
use Rattle.fgo_spec.proofs.Rows.{rows_same}
use Rattle.fgo_state.proofs.Heads.{length_few}
use Rattle.buffers.proofs.Agreeing.{part_same}

-- every cell outside of the slot of the scan n is as it was
pub record WithinSlot (n : ℕ) (bodies columns bodies' columns' : List ℕ) : Type 0 where
  pub long : length bodies' ≡ length bodies
  pub bytes : (i : ℕ) → (BODY * slot_at n ≤ i → i < BODY * slot_at n + BODY → ⊥) → get_or bodies' i 0 ≡ get_or bodies i 0
  pub words : (i : ℕ) → (COLUMN * slot_at n ≤ i → i < COLUMN * slot_at n + COLUMN → ⊥) → get_or columns' i 0 ≡ get_or columns i 0

-- a list written into its body, and one into its column, each from the start
pub written_within :
    (n : ℕ) (g h bodies columns : List ℕ) → length g ≤ BODY → length h ≤ COLUMN → BODY * slot_at n + length g ≤ length bodies →
    COLUMN * slot_at n + length h ≤ length columns → WithinSlot n bodies columns (over (BODY * slot_at n) g bodies) (over (COLUMN * slot_at n) h columns)
written_within n g h bodies columns a b p q =
    record {
      long = length_over (BODY * slot_at n) g bodies p;
      bytes = λ i d. over_other (BODY * slot_at n) g bodies p i 0 (λ x y. d x (omega arith));
      words = λ i d. over_other (COLUMN * slot_at n) h columns q i 0 (λ x y. d x (omega arith));
    }

module _ {n : ℕ} {bodies columns bodies' columns' : List ℕ} (w : WithinSlot n bodies columns bodies' columns') where
  -- a scan in another slot
  module _ (m : ℕ) (apart : slot_at m ≡ slot_at n → ⊥) where
    head-else : head_at columns' m ≡ head_at columns m
    head-else = w.words (COLUMN * slot_at m) (λ a b. apart (omega arith))

    pub id_else : (j : ℕ) → id_at columns' m j ≡ id_at columns m j
    unfolding id_at
    id_else j = go (ltb j ASSOCIATIONS) refl
      where
        go : (b : Bool) → ltb j ASSOCIATIONS ≡ b → cond b (get_or columns' (COLUMN * slot_at m + (1 + j)) 0) 0 ≡ cond b (get_or columns (COLUMN * slot_at m + (1 + j)) 0) 0
        go true e =
            let f : j < ASSOCIATIONS = ltb-true j ASSOCIATIONS e in
            w.words (COLUMN * slot_at m + (1 + j)) (λ a b. apart (omega arith))
        go false e = refl

    pub body_else : body_at bodies' columns' m ≡ body_at bodies columns m
    unfolding bytes_at
    body_else =
        ap (λ (h : ℕ). body (kind_in h) (take (length_in h) (drop (BODY * slot_at m) bodies'))) head-else
        ∙ ap (body (kind_in (head_at columns m)))
        (part_same 0 bodies' bodies (BODY * slot_at m) (length_in (head_at columns m)) w.long
        (λ i h. let l = length_few (head_at columns m) in w.bytes (BODY * slot_at m + i) (λ a b. apart (omega arith))))

    pub scan_else : scan_in bodies' columns' m ≡ scan_in bodies columns m
    unfolding scan_in
    scan_else =
        ap (λ (s : Body). record { frame = frame_in s; ids = rows (id_at columns' m) 0 (associations_in s) }) body_else
        ∙ ap (λ (is : List ℕ). record { frame = frame_in (body_at bodies columns m); ids = is })
        (rows_same (id_at columns' m) (id_at columns m) 0 (associations_in (body_at bodies columns m)) (λ j a b. id_else j))

  -- scans in other slots
  pub scans_else : (first held : ℕ) → ((m : ℕ) → first ≤ m → m < first + held → slot_at m ≡ slot_at n → ⊥) → scans_in bodies' columns' first held ≡ scans_in bodies columns first held
  scans_else first held apart = rows_same (scan_in bodies' columns') (scan_in bodies columns) first held (λ m a b. scan_else m (apart m a b))
