-- A frame that no number refuses, at a refiner that meets the rule: the rule and the room as fgo_spec has them, and
-- what holding the frame asks. Assumes nothing.
use Prim.Native.Nat.{◌+◌, ◌≤◌, ◌<◌}
use native.Mathlib.Omega.{arith}
use mathlib.Core.Path.{◌≡◌, refl, ◌∙◌}
use mathlib.Core.Bool.{Bool, true, false}
use mathlib.Core.Option.{none, some-ne-none}
use borrow.Author.Tests.{ltb-false, leb-false}
use Rattle.bounds.specs.Bounds.{ACCEPTED, COUNTED}
use Rattle.engine.specs.Body.{Body, frame_in, body_refusal}
use Rattle.engine.proofs.Every.{neither}
use Rattle.fgo_spec.specs.Refiner.{first_of}
use Rattle.fgo_spec.specs.Rule.{Bytes, Rule}
use Rattle.fgo_spec.proofs.Accepting.{Room, has_room}
use Rattle.fgo_state.specs.declared.state.FixedLagRefiner.{FixedLagRefiner}
use Rattle.fgo_state.specs.declared.state.Memory.{Memory}
use Rattle.fgo_state.specs.Memory.{state_of}
use Rattle.fgo_refuse.specs.Refusing.{full_in}
use Rattle.fgo_arrive.specs.Arriving.{Holds, Arrives}
use Rattle.fgo_state.proofs.Testing.{tested}
use Rattle.fgo_arrive.proofs.ReadyLaw.{sound_tells}
use Rattle.fgo_refuse.proofs.Refusals.{found_same, none_found}

-- ---- 8

-- no count is at its end
pub record Spaced (r : FixedLagRefiner) : Type 0 where
  pub scans : r.first.0 + r.held < ACCEPTED
  pub ids : r.next_id.0 ≤ COUNTED
  pub swaps : r.counters.swaps ≤ COUNTED
  pub merges : r.counters.merges ≤ COUNTED
  pub splits : r.counters.splits ≤ COUNTED
  pub drops : r.counters.drops ≤ COUNTED

spaced_of : (r : FixedLagRefiner) → full_in r ≡ false → Spaced r
unfolding full_in
spaced_of r h =
    let h1 = neither _ _ h in
    let h2 = neither _ _ h1.1 in
    let h3 = neither _ _ h2.1 in
    let h4 = neither _ _ h3.1 in
    let h5 = neither _ _ h4.1 in
    record {
      scans = leb-false ACCEPTED _ h1.0;
      ids = ltb-false _ _ h2.0;
      swaps = ltb-false _ _ h3.0;
      merges = ltb-false _ _ h4.0;
      splits = ltb-false _ _ h5.0;
      drops = ltb-false _ _ h5.1;
    }

-- ---- a frame that is accepted

module _ (r : FixedLagRefiner) (m : Memory) (s : Body) (a : Arrives r m s) where
  pub passes : body_refusal s ≡ 0
  passes = (none_found r m s a.accepted).0

  pub room : Room (state_of r m) (frame_in s)
  room = has_room (state_of r m) (frame_in s) (found_same r m s ∙ (none_found r m s a.accepted).1)

  pub spaced : Spaced r
  spaced = spaced_of r (first-false (full_in r) _ _ (none_found r m s a.accepted).1)
    where
      first-false : (a b d : Bool) → first_of a b d ≡ none → a ≡ false
      first-false true b d e = absurd (some-ne-none _ e)
      first-false false b d e = refl

  module _ (l : Bytes m.scans.bodies) where
    pub rule : Rule r.config (state_of r m)
    rule = ((tested r m l).0 a.sound).rule

    pub holds : Holds r s
    holds =
        let k = sound_tells r m a.sound in
        record {
          passes = passes;
          few = omega (arith, k.lagged, k.short);
          early = omega (arith, spaced.scans);
          owned = k.owners;
          ids = spaced.ids;
        }
