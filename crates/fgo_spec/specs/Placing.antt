-- Document 01, "placing": "Push takes the frame's associations in order." Definitions only.
use Rattle.std.specs.Prelude.{ℕ, suc, cond, ◌&&◌, not, List, [], ◌∷◌, ◌++◌, None, Some}
use Rattle.std.proofs.Math.Option.{Option, none, some}
use Rattle.engine.specs.declared.types.Association.{Association}
use Rattle.fgo_spec.specs.Lists.{has, find, assign}
use Rattle.fgo_spec.specs.Windows.{Scan, Prefix, live}
use Rattle.engine.specs.Frame.{Associated}

-- the ids given so far, the owner of each engine id, and the next id
pub record Placing : Type 0 where
  pub ids : List ℕ
  pub owners : List (ℕ × ℕ)
  pub next_id : ℕ

-- "the track that owns this engine id, if that track is live and has no detection in this scan yet"
abbrev pub free_owner : List (ℕ × Prefix) → List Scan → List ℕ → Option ℕ → Option ℕ
free_owner ps ss is none = none
free_owner ps ss is (some x) = cond (live ps ss x && not (has x is)) (some x) none

-- "Otherwise it starts a track under the next id", which owns the engine id from then on
abbrev pub place_track : Placing → ℕ → Option ℕ → Placing
place_track p e (some x) = record { ids = p.ids ++ (x ∷ []); owners = p.owners; next_id = p.next_id }
place_track p e none = record { ids = p.ids ++ (p.next_id ∷ []); owners = assign e p.next_id p.owners; next_id = suc p.next_id }

-- "One without an engine id becomes clutter."
abbrev pub place_one : List (ℕ × Prefix) → List Scan → Placing → Associated → Placing
place_one ps ss p None = record { ids = p.ids ++ (0 ∷ []); owners = p.owners; next_id = p.next_id }
place_one ps ss p (Some e) = place_track p e.0 (free_owner ps ss p.ids (find e.0 p.owners))

-- "Push takes the frame's associations in order."
unfoldable pub place : List (ℕ × Prefix) → List Scan → List Association → Placing → Placing
place ps ss [] p = p
place ps ss (a ∷ l) p = place ps ss l (place_one ps ss p a.track)
