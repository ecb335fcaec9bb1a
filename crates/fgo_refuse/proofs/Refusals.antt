-- The refusal that the code finds is the one of the refiner as defined, and a push is what that refusal leaves. Assumes
-- nothing.
use Prim.Native.Nat.{ℕ, zero, suc, ◌+◌}
use native.Mathlib.Omega.{arith}
use mathlib.Core.Path.{◌≡◌, refl, ap, ◌∙◌}
use mathlib.Core.Bool.{Bool, true, false}
use mathlib.Core.Option.{Option, none}
use lib.ListN.{length}
use lib.Dec.{ltb}
use Rattle.bounds.specs.Bounds.{DETECTIONS, OWNED}
use Rattle.buffers.specs.Answer.{Reply, refused}
use Rattle.engine.specs.declared.config.FgoConfig.{FgoConfig}
use Rattle.engine.specs.Frame.{Frame}
use Rattle.engine.specs.Body.{Body, frame_in, body_refusal, decoded_by, decode}
use Rattle.engine.proofs.Passing.{length-rows}
use Rattle.fgo_spec.specs.Windows.{window_count}
use Rattle.fgo_spec.specs.Refiner as spec
use Rattle.fgo_spec.specs.Emitting.{Emitted}
use Rattle.fgo_spec.specs.Refiner.{State, full8, full9, full10, id_count, first_of, push_by, push_read, push_frame}
use Rattle.fgo_state.specs.declared.state.FixedLagRefiner.{FixedLagRefiner}
use Rattle.fgo_part.specs.Parts.{entry_in}
use Rattle.fgo_state.specs.declared.state.Memory.{Memory}
use Rattle.fgo_state.specs.Memory.{scan_in, scans_in, owner_entry, or_none, state_of}
use Rattle.fgo_refuse.specs.Refusing.{full_in, joined_in, refused_by, push_refusal}
use Rattle.fgo_spec.proofs.Rows.{map_rows}

-- how many detections lie in windows
abbrev pub detections : FixedLagRefiner → Memory → ℕ
detections r m = window_count (scans_in m.scans.bodies m.scans.columns r.first.0 r.held)

module _ (r : FixedLagRefiner) (m : Memory) (s : Body) where
  abbrev t : State
  t = state_of r m

  abbrev f : Frame
  f = frame_in s

  -- 8, 9 and 10, on the lent memory
  abbrev pub found : Option ℕ
  found =
      first_of (full_in r) (ltb DETECTIONS (r.frozen + detections r m + id_count f.associations))
      (ltb OWNED (length (joined_in m.owners r.owned s 0)))

  eight : full8 t ≡ full_in r
  unfolding full8 full_in state_of
  eight = rw (length-rows (scan_in m.scans.bodies m.scans.columns) r.first.0 r.held)

  nine : full9 t f ≡ ltb DETECTIONS (r.frozen + detections r m + id_count f.associations)
  unfolding full9 state_of
  nine = rw (length-rows (entry_in m.parts.tracks m.parts.filters) 0 r.frozen)

  ten : full10 t f ≡ ltb OWNED (length (joined_in m.owners r.owned s 0))
  unfolding full10 joined_in state_of
  ten = rw (map_rows (λ o. o.0) (owner_entry m.owners) 0 r.owned)

  pub found_same : first_of (full8 t) (full9 t f) (full10 t f) ≡ found
  found_same = ap (λ b. first_of b (full9 t f) (full10 t f)) eight ∙ ap (λ b. first_of (full_in r) b (full10 t f)) nine ∙ ap (first_of (full_in r) _) ten

  -- no number refuses the frame
  pub none_found : push_refusal r (detections r m) m.owners s ≡ 0 → (body_refusal s ≡ 0) × (found ≡ none)
  unfolding push_refusal
  none_found = by (body_refusal s) (full_in r) _ _
    where
      by : (n : ℕ) (a b d : Bool) → refused_by n (or_none (first_of a b d)) ≡ 0 → (n ≡ 0) × (first_of a b d ≡ none)
      by zero true b d e = absurd (omega arith)
      by zero false true d e = absurd (omega arith)
      by zero false false true e = absurd (omega arith)
      by zero false false false e = (refl, refl)
      by (suc n) a b d e = absurd (omega arith)

  -- ---- push

  abbrev c : FgoConfig
  c = r.config

  abbrev pushed_by : ℕ → Option ℕ → Reply Emitted × State
  pushed_by zero o = push_by o c t f
  pushed_by (suc n) o = (refused (suc n), t)

  push_by_lem : spec.push c t s ≡ pushed_by (body_refusal s) found
  unfolding spec.push decode push_frame
  push_by_lem = by (body_refusal s)
    where
      by : (n : ℕ) → push_read c t (decoded_by n f) ≡ pushed_by n found
      by zero = ap (λ o. push_by o c t f) found_same
      by (suc n) = refl

  -- a number refuses it
  pub push_refused : (k : ℕ) → push_refusal r (detections r m) m.owners s ≡ suc k → spec.push c t s ≡ (refused (suc k), t)
  unfolding push_refusal
  push_refused k h = push_by_lem ∙ by (body_refusal s) (full_in r) _ _ h
    where
      by : (n : ℕ) (a b d : Bool) → refused_by n (or_none (first_of a b d)) ≡ suc k → pushed_by n (first_of a b d) ≡ (refused (suc k), t)
      by zero true b d e = ap (λ (i : ℕ). (refused i, t)) e
      by zero false true d e = ap (λ (i : ℕ). (refused i, t)) e
      by zero false false true e = ap (λ (i : ℕ). (refused i, t)) e
      by zero false false false e = absurd (omega arith)
      by (suc n) a b d e = ap (λ (i : ℕ). (refused i, t)) e

  -- none does: the frame arrives
  pub push-accepted : push_refusal r (detections r m) m.owners s ≡ 0 → spec.push c t s ≡ push_by none c t f
  push-accepted h = let a = none_found h in push_by_lem ∙ ap (λ (n : ℕ). pushed_by n found) a.0 ∙ ap (λ o. push_by o c t f) a.1
