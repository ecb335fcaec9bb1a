-- Document 01, "placing", on the lent owner table. Definitions only.
--
-- By the state rule every owner before the push is live, and no track from the next id on is. So an owner is live just
-- where it is below the next id as it was before the push.
use Rattle.std.specs.Prelude.{ℕ, ◌+◌, ◌*◌, ◌≤◌, ◌≡◌, cond, ◌&&◌, not, leb, ltb, None, Some}
use Rattle.std.specs.Prelude.{List, [], ◌∷◌, ◌++◌, length, take, drop}
use Rattle.bounds.specs.Bounds.{ASSOCIATIONS, OWNED, OWNER, OWNERS}
use Rattle.engine.specs.declared.types.Association.{Association}
use Rattle.fgo_spec.specs.Lists.{has, find, assign}
use Rattle.fgo_spec.specs.Placing as spec
use Rattle.fgo_place.specs.declared.placing.Placing.{Placing}
use Rattle.fgo_state.specs.Memory.{or_none, owners_in}
use Rattle.engine.specs.Frame.{Associated}

-- the table has room for OWNED entries
abbrev pub assigned_in : ℕ → ℕ → List (ℕ × ℕ) → List (ℕ × ℕ)
assigned_in e x os = let l = assign e x os in cond (leb (length l) OWNED) l os

-- "the track that owns this engine id, if that track is live and has no detection in this scan yet"; 0 if none
abbrev pub free_below : ℕ → List ℕ → ℕ → ℕ
free_below old is x = cond (ltb x old && not (has x is)) x 0

-- "goes to the track", or "starts a track under the next id"
abbrev pub placed_track : spec.Placing → ℕ → ℕ → spec.Placing
placed_track p e x =
    cond (ltb 0 x)
    (record { ids = p.ids ++ (x ∷ []); owners = p.owners; next_id = p.next_id })
    (record { ids = p.ids ++ (p.next_id ∷ []); owners = assigned_in e p.next_id p.owners; next_id = p.next_id + 1 })

-- "One without an engine id becomes clutter. One with an engine id goes to the track that owns this engine id"
abbrev pub placed_one : ℕ → spec.Placing → Associated → spec.Placing
placed_one old p None = record { ids = p.ids ++ (0 ∷ []); owners = p.owners; next_id = p.next_id }
placed_one old p (Some e) = placed_track p e.0 (free_below old p.ids (or_none (find e.0 p.owners)))

-- "Push takes the frame's associations in order", of tracks below the id old
unfoldable pub placed_all : ℕ → List Association → spec.Placing → spec.Placing
placed_all old [] p = p
placed_all old (a ∷ l) p = placed_all old l (placed_one old p a.track)

-- a table of n entries has r in use now, no fewer: the cells past these are as they were
pub record Grown (n r : ℕ) (owners owners' : List ℕ) : Type 0 where
  pub more : n ≤ r
  pub rest : drop (OWNER * r) owners' ≡ drop (OWNER * r) owners

-- placing so far stands in the lent arrays: j ids, the owner table, the next id
pub record Placed (j : ℕ) (p : spec.Placing) (r : Placing) (owners ids : List ℕ) : Type 0 where
  pub few : r.owned ≤ OWNED
  pub owners_long : length owners ≡ OWNERS
  pub ids_long : length ids ≡ ASSOCIATIONS
  pub ids_are : take j ids ≡ p.ids
  pub owners_are : owners_in owners r.owned ≡ p.owners
  pub next_is : r.next_id.0 ≡ p.next_id

-- placing begins with no id
abbrev pub begins : List ℕ → ℕ → ℕ → spec.Placing
begins owners owned next = record { ids = []; owners = owners_in owners owned; next_id = next }
