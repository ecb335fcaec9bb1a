-- The detections in windows of the held scans, gathered in order into flat lists, and their ids put back. Definitions
-- only.
use Rattle.std.specs.Prelude.{ℕ, zero, suc, ◌+◌, ◌-◌, ◌*◌, ◌<◌, ◌≤◌, max, ◌≡◌, cond, length, drop, get_or, eqb}
use mathlib.Core.List.{List, [], ◌∷◌, ◌++◌, map, foldr}
use Rattle.bounds.specs.Bounds.{SCANS, STARTS, ACCEPTED, DETECTIONS, COLUMN}
use Rattle.scalar.specs.Scalar.{seconds_of}
use Rattle.engine.specs.declared.config.FgoConfig.{FgoConfig}
use Rattle.kf.specs.declared.filter.Dot.{Dot}
use Rattle.engine.specs.declared.types.Association.{Association}
use Rattle.engine.specs.Frame.{Frame, engine_of}
use Rattle.engine.specs.Body.{Body, frame_in, body_refusal, rows}
use Rattle.fgo_spec.specs.Windows.{Scan, Detection, in_windows, window_count, detection_of, noise}
use Rattle.fgo_spec.specs.Owning.{or_else}
use Rattle.fgo_spec.specs.Gathered.{spread}
use Rattle.buffers.specs.Buffers.{over}
use Rattle.fgo_state.specs.Memory.{slot_at, body_at, id_at, association_in, scan_by, scans_in}
use Rattle.fgo_state.specs.Contents.{ids_put}

-- a detection in a window: its engine id, its refined id, and its observation
pub record HeldDetection : Type 0 where
  pub engine : ℕ
  pub id : ℕ
  pub dot : Detection

-- those of scan n, in order
unfoldable pub gathered_in : ℕ → Frame → List Association → List ℕ → List HeldDetection
gathered_in n f [] is = []
gathered_in n f (a ∷ l) [] = []
gathered_in n f (a ∷ l) (zero ∷ is) = gathered_in n f l is
gathered_in n f (a ∷ l) (suc i ∷ is) =
    record { engine = engine_of a.track; id = suc i; dot = detection_of n f a } ∷ gathered_in n f l is

-- those of a held scan, which has the number n
abbrev pub gathered_of : ℕ → Scan → List HeldDetection
gathered_of n s = gathered_in n s.frame s.frame.associations s.ids

-- those of scans of which the first has the number n
unfoldable pub gathered : ℕ → List Scan → List HeldDetection
gathered n [] = []
gathered n (s ∷ ss) = gathered_of n s ++ gathered (suc n) ss

-- their refined ids
abbrev pub ids_of : List HeldDetection → List ℕ
ids_of gs = map (λ g. g.id) gs

-- their engine ids
abbrev pub engines_of : List HeldDetection → List ℕ
engines_of gs = map (λ g. g.engine) gs

-- a detection as the search sees it: where it lies, the variance of its position, and the time in seconds
abbrev pub dot_of : FgoConfig → Detection → Dot
dot_of c d = record { x = d.x; y = d.y; r = noise c d; t = seconds_of d.time }

-- that of a held one
abbrev pub held_dot : FgoConfig → HeldDetection → Dot
held_dot c g = dot_of c g.dot

-- those of all
abbrev pub dots_of : FgoConfig → List HeldDetection → List Dot
dots_of c gs = map (held_dot c) gs

-- that of association j of a body
abbrev pub dot_in : FgoConfig → Body → ℕ → Dot
dot_in c b j = dot_of c (detection_of 0 (frame_in b) (association_in b j))

-- the detections in windows of scan n, of which the body is b
abbrev pub found_in : List ℕ → ℕ → Body → List HeldDetection
found_in columns n b = gathered_of n (scan_by columns n b)

-- the detections in windows of the held scans
abbrev pub found_of : List ℕ → List ℕ → ℕ → ℕ → List HeldDetection
found_of bodies columns first held = gathered first (scans_in bodies columns first held)

-- ---- what gathering asks and gives

-- the held scans, each of a body that passes, with few detections in windows
pub record HeldScans (bodies columns : List ℕ) (first held : ℕ) : Type 0 where
  pub few : held ≤ SCANS
  pub early : first + held ≤ ACCEPTED + 1
  pub passes : (i : ℕ) → i < held → body_refusal (body_at bodies columns (first + i)) ≡ 0
  pub room : window_count (scans_in bodies columns first held) ≤ DETECTIONS

-- of one scan, of the body b, from place o on
pub record GathersScan (b : Body) (columns : List ℕ) (n o : ℕ) (is es : List ℕ) : Type 0 where
  pub room : o + length (found_in columns n b) ≤ length is
  pub beside : length es ≡ length is

-- after the detections gs of one scan were written from place o on: r is the place after them
pub record GatheredScan (gs : List HeldDetection) (o r : ℕ) (is es is' es' : List ℕ) : Type 0 where
  pub count : r ≡ o + length gs
  pub ids : is' ≡ over o (ids_of gs) is
  pub engines : es' ≡ over o (engines_of gs) es

-- of all the scans, with the number of those before each scan; no detection is past the scans held
pub record GatheredAll (bodies columns : List ℕ) (first held r : ℕ) (is es is' es' ts' : List ℕ) : Type 0 where
  pub scans : GatheredScan (found_of bodies columns first held) 0 r is es is' es'
  pub starts : (k : ℕ) → k ≤ held → get_or ts' k 0 ≡ length (found_of bodies columns first k)
  pub beyond : (k : ℕ) → held ≤ k → k < STARTS → get_or ts' k 0 ≡ r
  pub long : length ts' ≡ STARTS

-- the starts of the scans held are places of the gathered detections, of which there are count, or the place after them
pub record StartsWithin (starts : List ℕ) (held count : ℕ) : Type 0 where
  pub few : held ≤ SCANS
  pub most : (k : ℕ) → k ≤ held → get_or starts k 0 ≤ count

-- ---- the latest holder of an engine id among what was gathered

-- the greatest id that holds the engine id e, of those from place a to before place b; 0 if none
unfoldable pub holder_of : ℕ → List ℕ → List ℕ → ℕ → ℕ → ℕ
holder_of e ids engines a b = foldr max 0 (rows (λ i. cond (eqb e (get_or engines i 0)) (get_or ids i 0) 0) a (b - a))

-- "the track that holds its latest one": of the first k scans; 0 if none
unfoldable pub latest_of : ℕ → List ℕ → List ℕ → List ℕ → ℕ → ℕ
latest_of e ids engines starts zero = 0
latest_of e ids engines starts (suc k) =
    or_else (holder_of e ids engines (get_or starts k 0) (get_or starts (suc k) 0)) (latest_of e ids engines starts k)

-- "Finally each engine id that has detections in windows goes to the track that holds its latest one", by what was
-- gathered
abbrev pub held_latest : List ℕ → List ℕ → List ℕ → ℕ → List (ℕ × ℕ) → List (ℕ × ℕ)
held_latest ids engines starts held os = map (λ o. (o.0, or_else (latest_of o.0 ids engines starts held) o.1)) os

-- ---- ids put back

-- how many of the first m associations of scan n lie in windows
abbrev pub count_in : List ℕ → ℕ → ℕ → ℕ
count_in columns n m = in_windows (rows (id_at columns n) 0 m)

-- after the ids of scan n, of m associations, were put back, taken from place o on; every other cell is as it was
pub record ScatteredScan (n m o : ℕ) (ids columns columns' : List ℕ) : Type 0 where
  pub column : rows (id_at columns' n) 0 m ≡ spread (rows (id_at columns n) 0 m) (drop o ids)
  pub before : (i : ℕ) → i ≤ COLUMN * slot_at n → get_or columns' i 0 ≡ get_or columns i 0
  pub after : (i : ℕ) → COLUMN * slot_at n + (1 + m) ≤ i → get_or columns' i 0 ≡ get_or columns i 0
  pub long : length columns' ≡ length columns

-- scans with the ids of their detections in windows anew
unfoldable pub spread_all : List Scan → List ℕ → List Scan
spread_all [] xs = []
spread_all (s ∷ ss) xs =
    record { frame = s.frame; ids = spread s.ids xs } ∷ spread_all ss (drop (in_windows s.ids) xs)

-- after the ids of the held scans were put back; every other cell is as it was
pub record Scattered (bodies : List ℕ) (first held : ℕ) (ids columns columns' : List ℕ) : Type 0 where
  pub put : columns' ≡ ids_put first (spread_all (scans_in bodies columns first held) ids) columns
  pub scans : scans_in bodies columns' first held ≡ spread_all (scans_in bodies columns first held) ids
  pub same : (i : ℕ) → i < held → body_at bodies columns' (first + i) ≡ body_at bodies columns (first + i)
  pub long : length columns' ≡ length columns
