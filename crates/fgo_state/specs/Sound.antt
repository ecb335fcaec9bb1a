-- Document 01, "Refiner state rule", of a refiner and its lent memory. Definitions only.
use Rattle.std.specs.Prelude.{ℕ, ◌+◌, ◌<◌, ◌≡◌, Bool, ◌&&◌, List, eqb}
use Rattle.engine.specs.Body.{all, body_refusal}
use Rattle.fgo_spec.specs.Rule.{Rule, rule_ok}
use Rattle.fgo_state.specs.declared.state.FixedLagRefiner.{FixedLagRefiner}
use Rattle.fgo_state.specs.declared.state.Memory.{Memory}
use Rattle.fgo_state.specs.Memory.{body_at, state_of}

-- "none of which 5, 6 or 7 would refuse"
unfoldable pub bodies_ok : List ℕ → List ℕ → ℕ → ℕ → Bool
bodies_ok bodies columns first held = all (λ i. eqb (body_refusal (body_at bodies columns (first + i))) 0) held

-- a refiner and its memory meet the state rule
unfoldable pub sound_ok : FixedLagRefiner → Memory → Bool
sound_ok r m = bodies_ok m.scans.bodies m.scans.columns r.first.0 r.held && rule_ok r.config (state_of r m)

-- the same, by document 01's own words: no held body is refused by 5, 6 or 7, and the state meets the rule
pub record Sound (r : FixedLagRefiner) (m : Memory) : Type 0 where
  pub bodies : (i : ℕ) → i < r.held → body_refusal (body_at m.scans.bodies m.scans.columns (r.first.0 + i)) ≡ 0
  pub rule : Rule r.config (state_of r m)

-- the law, in proofs/, of memory whose bodies are bytes:
-- tested : Bytes m.scans.bodies → (sound_ok r m ≡ true → Sound r m) × (Sound r m → sound_ok r m ≡ true)
