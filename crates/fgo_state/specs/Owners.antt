-- The engine ids of the owner entries, the place of one among them, and the track of a number. Definitions only.
use Rattle.std.specs.Prelude.{ℕ, zero, suc, ◌<◌, ◌≡◌, List, Option, None, Some}
use Rattle.std.specs.Option.{MatchOption}
use Rattle.engine.specs.declared.types.RefinedId.{RefinedId}
use Rattle.engine.specs.Body.{rows}
use Rattle.fgo_state.specs.Memory.{engine_at}

-- the engine ids of the first n entries
abbrev pub engines_in : List ℕ → ℕ → List ℕ
engines_in owners n = rows (engine_at owners) 0 n

-- r is the place of the first of n owner entries with the engine id e; there is none where no entry has it
abbrev pub IsPlaceOf : List ℕ → ℕ → ℕ → Option ℕ → Type 0
IsPlaceOf owners n e r =
    MatchOption r ((k : ℕ) → k < n → e ≡ engine_at owners k → ⊥)
    (λ i. (i < n) × (e ≡ engine_at owners i) × ((k : ℕ) → k < i → e ≡ engine_at owners k → ⊥))

-- the refined id of a number, where 0 stands for none
unfoldable pub id_from : ℕ → Option RefinedId
id_from zero = None
id_from (suc x) = Some (record { 0 = suc x })
