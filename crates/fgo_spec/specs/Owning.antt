-- Document 01: "Finally each engine id that has detections in windows goes to the track that holds its latest one".
-- Definitions only.
use Rattle.std.specs.Prelude.{ℕ, zero, suc, max, Bool, false, cond, List, [], ◌∷◌, map, eqb, None, Some}
use Rattle.engine.specs.declared.types.Association.{Association}
use Rattle.fgo_spec.specs.Lists.{keep}
use Rattle.fgo_spec.specs.Windows.{Scan, Prefix, live}
use Rattle.engine.specs.Frame.{Associated}

-- the association has the engine id e
abbrev pub is_engine : ℕ → Associated → Bool
is_engine e None = false
is_engine e (Some k) = eqb e k.0

-- "if two are in equal scans, the track with the greater id gets it": the greatest id that holds the engine id e in a
-- scan, 0 if none
unfoldable pub holder_in : ℕ → List Association → List ℕ → ℕ
holder_in e [] is = 0
holder_in e (a ∷ l) [] = 0
holder_in e (a ∷ l) (i ∷ is) = max (cond (is_engine e a.track) i 0) (holder_in e l is)

-- x, or y where x is 0
abbrev pub or_else : ℕ → ℕ → ℕ
or_else zero y = y
or_else (suc x) y = suc x

-- "the track that holds its latest one", or y where no window has one
unfoldable pub latest : ℕ → ℕ → List Scan → ℕ
latest e y [] = y
latest e y (s ∷ ss) = latest e (or_else (holder_in e s.frame.associations s.ids) y) ss

-- "dead owner entries go"
abbrev pub live_owners : List (ℕ × Prefix) → List Scan → List (ℕ × ℕ) → List (ℕ × ℕ)
live_owners ps ss os = keep (λ o. live ps ss o.1) os

-- every engine id in a window has an entry, so the entries are gone through; one that has none in any window keeps its
-- owner while that track lives
unfoldable pub reown : List (ℕ × Prefix) → List Scan → List (ℕ × ℕ) → List (ℕ × ℕ)
reown ps ss os = live_owners ps ss (map (λ o. (o.0, latest o.0 o.1 ss)) os)
