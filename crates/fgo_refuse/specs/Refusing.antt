-- Document 01's table, "refiner push": which refusal a frame gets, on the lent memory. Definitions only.
use Rattle.std.specs.Prelude.{ℕ, zero, suc, ◌+◌, ◌≤◌, Bool, cond, ◌||◌, length, drop, leb, ltb, None, Some}
use mathlib.Core.List.{List, [], ◌∷◌, ◌++◌, foldr}
use Rattle.bounds.specs.Bounds.{SCANS, ACCEPTED, COUNTED, DETECTIONS, FROZEN, OWNED}
use Rattle.engine.specs.Body.{Body, frame_in, body_refusal}
use Rattle.fgo_spec.specs.Lists.{has}
use Rattle.fgo_spec.specs.Refiner.{first_of, id_count, join}
use Rattle.fgo_state.specs.declared.state.FixedLagRefiner.{FixedLagRefiner}
use Rattle.fgo_state.specs.Memory.{or_none}
use Rattle.fgo_state.specs.Owners.{engines_in}
use Rattle.engine.specs.Frame.{Associated}

-- 8: "4,294,967,295 scans accepted, or next id or a counter above 2^60"
unfoldable pub full_in : FixedLagRefiner → Bool
full_in r =
    let k = r.counters in
    leb ACCEPTED (r.first.0 + r.held)
    || (ltb COUNTED r.next_id.0
    || (ltb COUNTED k.swaps || (ltb COUNTED k.merges || (ltb COUNTED k.splits || ltb COUNTED k.drops))))

-- a list with one more engine id, if it is not there
abbrev pub join_end : Associated → List ℕ → List ℕ
join_end None l = l
join_end (Some e) l = cond (has e.0 l) l (l ++ (e.0 ∷ []))

-- "engine ids with a live owner, joined with the frame's", of the associations from j on
unfoldable pub joined_in : List ℕ → ℕ → Body → ℕ → List ℕ
joined_in owners owned b j = foldr (λ a. join a.track) (engines_in owners owned) (drop j (frame_in b).associations)

-- 5, 6 or 7, else what comes after them
abbrev pub refused_by : ℕ → ℕ → ℕ
refused_by zero n = n
refused_by (suc m) n = suc m

-- 5, 6 and 7, then 8, 9 and 10, where so many detections lie in windows; 0 for none
unfoldable pub push_refusal : FixedLagRefiner → ℕ → List ℕ → Body → ℕ
push_refusal r detections owners b =
    refused_by (body_refusal b)
    (or_none
    (first_of (full_in r)
    (ltb DETECTIONS (r.frozen + detections + id_count (frame_in b).associations))
    (ltb OWNED (length (joined_in owners r.owned b 0)))))

-- what finding it asks: counts that are few
pub record Refuses (r : FixedLagRefiner) (detections : ℕ) : Type 0 where
  pub few : r.held ≤ SCANS
  pub early : r.first.0 + r.held ≤ ACCEPTED + 1
  pub frozen : r.frozen ≤ FROZEN
  pub owned : r.owned ≤ OWNED
  pub room : detections ≤ DETECTIONS
