-- The slot of a held scan, cleared: it fits, and the scans in other slots are as they were. Assumes nothing.
use Prim.Native.Nat.{ℕ, ◌+◌, ◌-◌, ◌*◌, ◌≤◌, ◌<◌}
use native.Mathlib.Nat.{mod-lt}
use native.Mathlib.Omega.{arith}
use mathlib.Core.Path.{◌≡◌}
use mathlib.Core.List.{List}
use lib.ListN.{length, drop, replicate, length-take}
use Rattle.std.proofs.lemmas.List.{length-replicate}
use Rattle.bounds.specs.Bounds.{SCANS, BODY, COLUMN, BODIES, COLUMNS}
use Rattle.engine.specs.Body.{body_refusal, associations_in}
use Rattle.fgo_state.specs.declared.scans.Scans.{Scans}
use Rattle.fgo_state.specs.Memory.{slot_at, head_at, length_in, bytes_at, body_at, scans_in}
use Rattle.fgo_state.specs.Contents.{slot_cleared}
use Rattle.fgo_state.proofs.Counts.{associations_few}
use Rattle.fgo_state.proofs.Heads.{length_few}
use Rattle.fgo_state.proofs.OtherSlots.{WithinSlot, written_within, scans_else}

-- the bytes of a scan fit its slot
pub bytes_few : (bodies columns : List ℕ) (n : ℕ) → length (bytes_at bodies columns n) ≤ BODY
unfolding bytes_at
bytes_few bodies columns n =
    let h = head_at columns n in
    omega (arith, length-take (length_in h) (drop (BODY * slot_at n) bodies), length_few h)

module _ (s : Scans) (n : ℕ) where
  slot : slot_at n < SCANS
  slot = mod-lt n (omega arith)

  pub clear_body : length s.bodies ≡ BODIES → BODY * slot_at n + length (bytes_at s.bodies s.columns n) ≤ length s.bodies
  clear_body long = omega (arith, slot, bytes_few s.bodies s.columns n)

  pub clear_column : length s.columns ≡ COLUMNS → body_refusal (body_at s.bodies s.columns n) ≡ 0 → COLUMN * slot_at n + (1 + associations_in (body_at s.bodies s.columns n)) ≤ length s.columns
  clear_column wide passes = omega (arith, slot, associations_few (body_at s.bodies s.columns n) passes)

  module _ (long : length s.bodies ≡ BODIES) (wide : length s.columns ≡ COLUMNS) (passes : body_refusal (body_at s.bodies s.columns n) ≡ 0) where
    pub clear_within : WithinSlot n s.bodies s.columns (slot_cleared n s).bodies (slot_cleared n s).columns
    clear_within =
        let a : ℕ = length (bytes_at s.bodies s.columns n) in
        let b : ℕ = 1 + associations_in (body_at s.bodies s.columns n) in
        let p : length (replicate {A = ℕ} a 0) ≡ a = length-replicate a 0 in
        let q : length (replicate {A = ℕ} b 0) ≡ b = length-replicate b 0 in
        written_within n (replicate a 0) (replicate b 0) s.bodies s.columns (omega (arith, bytes_few s.bodies s.columns n))
        (omega (arith, associations_few (body_at s.bodies s.columns n) passes)) (omega (arith, clear_body long)) (omega (arith, clear_column wide passes))

    -- the scans after it
    pub scans_left : (held : ℕ) → held ≤ SCANS → scans_in (slot_cleared n s).bodies (slot_cleared n s).columns (n + 1) (held - 1) ≡ scans_in s.bodies s.columns (n + 1) (held - 1)
    scans_left held few = scans_else clear_within (n + 1) (held - 1) (λ m a b e. omega arith)
