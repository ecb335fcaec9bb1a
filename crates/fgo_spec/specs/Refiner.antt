-- The refiner: its state, push and take, and the refusals 5 to 10 and 13. Definitions only.
use Rattle.std.specs.Prelude.{ℕ, suc, ◌+◌, Bool, true, false, cond, ◌||◌, length, leb, ltb, None, Some}
use mathlib.Core.List.{List, [], ◌∷◌, ◌++◌, map, foldr}
use Rattle.std.proofs.Math.Option.{Option, none, some}
use Rattle.bounds.specs.Bounds.{ACCEPTED, COUNTED, DETECTIONS, OWNED}
use Rattle.buffers.specs.Answer.{Op, pushed, taken, Reply, refused, waits, gives}
use Rattle.engine.specs.declared.config.FgoConfig.{FgoConfig}
use Rattle.engine.specs.declared.types.Association.{Association}
use Rattle.engine.specs.Config.{lag}
use Rattle.engine.specs.Frame.{Frame, Associated}
use Rattle.engine.specs.Body.{Body, layout, Decoded, decode, refused as unread, read}
use Rattle.fgo_spec.specs.declared.moves.FgoCounters.{FgoCounters}
use Rattle.fgo_spec.specs.Lists.{keep, has}
use Rattle.fgo_spec.specs.Windows.{Scan, Prefix, window_count}
use Rattle.fgo_spec.specs.Placing.{Placing, place}
use Rattle.fgo_spec.specs.Searching.{Searched, improve}
use Rattle.fgo_spec.specs.Owning.{live_owners, reown}
use Rattle.fgo_spec.specs.Freezing.{freeze_scan, remember}
use Rattle.fgo_spec.specs.Emitting.{Emitted, listing}

-- what a refiner keeps: the number of its oldest scan, the held scans, the frozen parts by ascending id, the owner of
-- each engine id, the next id and the counters
pub record State : Type 0 where
  pub first : ℕ
  pub scans : List Scan
  pub prefixes : List (ℕ × Prefix)
  pub owners : List (ℕ × ℕ)
  pub next_id : ℕ
  pub counters : FgoCounters

-- "a new refiner": "ids begin at 1"
abbrev pub new : State
new =
    record {
      first = 0;
      scans = [];
      prefixes = [];
      owners = [];
      next_id = 1;
      counters = record { swaps = 0; merges = 0; splits = 0; drops = 0 };
    }

-- ---- a frame arrives: placing, searching, owning

-- the ids that placing gives
abbrev pub placed : State → Frame → Placing
placed t f = place t.prefixes t.scans f.associations (record { ids = []; owners = t.owners; next_id = t.next_id })

-- the held scans and the new one
abbrev pub with_scan : State → Frame → List Scan
with_scan t f = t.scans ++ (record { frame = f; ids = (placed t f).ids } ∷ [])

-- what the search makes of them
abbrev pub searched : FgoConfig → State → Frame → Searched
searched c t f = improve c t.first t.prefixes (with_scan t f) (placed t f).next_id t.counters

-- the state with the new scan in it
unfoldable pub arrive : FgoConfig → State → Frame → State
arrive c t f =
    let r = (searched c t f).search in
    record {
      first = t.first;
      scans = r.scans;
      prefixes = t.prefixes;
      owners = reown t.prefixes r.scans (placed t f).owners;
      next_id = r.next_id;
      counters = r.counters;
    }

-- ---- the oldest scan leaves: freezing, listing, forgetting

-- the frame that the scan s, of number n, becomes
unfoldable pub emit : FgoConfig → ℕ → List (ℕ × Prefix) → Scan → Emitted
emit c n ps s = record { scan = s; tracks = listing c s.frame.time (freeze_scan c n s ps) }

-- the state without it
unfoldable pub leave : FgoConfig → State → Scan → List Scan → State
leave c t s ss =
    let ps = remember c s.frame.time ss (freeze_scan c t.first s t.prefixes) in
    record {
      first = suc t.first;
      scans = ss;
      prefixes = ps;
      owners = live_owners ps ss t.owners;
      next_id = t.next_id;
      counters = t.counters;
    }

-- 13: "no frame held"
unfoldable pub freeze_oldest : FgoConfig → State → List Scan → Reply Emitted × State
freeze_oldest c t [] = (refused 13, t)
freeze_oldest c t (s ∷ ss) = (gives (emit c t.first t.prefixes s), leave c t s ss)

-- ---- push

-- "When more than lag scans are held, the oldest one leaves"
unfoldable pub settle : FgoConfig → State → Bool → Reply Emitted × State
settle c t true = freeze_oldest c t t.scans
settle c t false = (waits, t)

-- 8: "4,294,967,295 scans accepted, or next id or a counter above 2^60"
unfoldable pub full8 : State → Bool
full8 t =
    leb ACCEPTED (t.first + length t.scans)
    || (ltb COUNTED t.next_id
    || (ltb COUNTED t.counters.swaps
    || (ltb COUNTED t.counters.merges || (ltb COUNTED t.counters.splits || ltb COUNTED t.counters.drops))))

-- the association has an engine id
abbrev pub has_id : Associated → Bool
has_id None = false
has_id (Some e) = true

-- "new associations with an id"
abbrev pub id_count : List Association → ℕ
id_count l = length (keep (λ a. has_id a.track) l)

-- 9: "frozen tracks + detections in track windows + new associations with an id exceed 128"
unfoldable pub full9 : State → Frame → Bool
full9 t f = ltb DETECTIONS (length t.prefixes + window_count t.scans + id_count f.associations)

-- an engine id joined to those of a list
abbrev pub join : Associated → List ℕ → List ℕ
join None l = l
join (Some e) l = cond (has e.0 l) l (e.0 ∷ l)

-- 10: "engine ids with a live owner, joined with the frame's, exceed 256"; by the state rule every entry has a live
-- owner
unfoldable pub full10 : State → Frame → Bool
full10 t f = ltb OWNED (length (foldr (λ a. join a.track) (map (λ o. o.0) t.owners) f.associations))

-- "The checks run in the order of the table, and the first condition that holds decides the answer"
abbrev pub first_of : Bool → Bool → Bool → Option ℕ
first_of true b d = some 8
first_of false true d = some 9
first_of false false true = some 10
first_of false false false = none

-- a refusal changes nothing; else the frame arrives: "When more than lag scans are held, the oldest one leaves"
abbrev pub push_by : Option ℕ → FgoConfig → State → Frame → Reply Emitted × State
push_by (some n) c t f = (refused n, t)
push_by none c t f = let u = arrive c t f in settle c u (ltb (lag c) (length u.scans))

-- a frame that neither 5, 6 nor 7 refuses
unfoldable pub push_frame : FgoConfig → State → Frame → Reply Emitted × State
push_frame c t f = push_by (first_of (full8 t) (full9 t f) (full10 t f)) c t f

-- a body that is refused, or the frame that it says
abbrev pub push_read : FgoConfig → State → Decoded → Reply Emitted × State
push_read c t (unread n) = (refused n, t)
push_read c t (read f) = push_frame c t f

-- push, of a frame's body: 5, 6, 7, then 8, 9, 10
unfoldable pub push : FgoConfig → State → Body → Reply Emitted × State
push c t b = push_read c t (decode (layout b) b.bytes)

-- take
unfoldable pub takes : FgoConfig → State → Reply Emitted × State
takes c t = freeze_oldest c t t.scans

-- the reply to a push or a take, and the state after it
abbrev pub reply : FgoConfig → State → Op Body → Reply Emitted × State
reply c t (pushed b) = push c t b
reply c t taken = takes c t

-- "`finish` is take, repeated until 13"
unfoldable pub finish : FgoConfig → State → List Scan → List Emitted
finish c t [] = []
finish c t (s ∷ ss) = emit c t.first t.prefixes s ∷ finish c (leave c t s ss) ss
