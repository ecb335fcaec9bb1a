use mathlib.Core.Path.{◌≡◌, refl, ◌∙◌}
use mathlib.Core.Bool.{Bool, true, false, ◌||◌, not}
use Rattle.fgo_state.proofs.Tracks.{same_tracks}
use Rattle.fgo_rule.specs.Tests.{owned_at}
use Rattle.fgo_rule.proofs.is_owned.Goals as goal

-- passed over, and tested
passed : {b l : Bool} (t : Bool) → b ≡ l → b ≡ false → not b ≡ (not l || t)
passed t e f = rw (← e, f) refl

tested : {b l t r : Bool} → b ≡ l → b ≡ true → r ≡ t → r ≡ (not l || t)
tested e f q = rw (← e, f) q

pub returns-then-not-is_last : goal.returns-then-not-is_last
unfolding owned_at
returns-then-not-is_last c = passed _ c.is_last.ensures c.if-not-is_last.true

pub returns-else-not-is_last : goal.returns-else-not-is_last
unfolding owned_at
returns-else-not-is_last c = tested c.is_last.ensures c.if-not-is_last.false (rw (c.owner_of.ensures, c.latest.ensures) at c.eq.ensures ∙ same_tracks _ _)
