-- Demand 3: what a user may hold the refiner to, over every list of pushes and takes. Definitions only.
use Rattle.std.specs.Prelude.{ℕ, ◌≤◌, ◌<◌, ◌≡◌, true, ◌⊎◌, length, get_or, drop, T, ℤ, ◌-ℤ◌, ◌≤ℤ◌, Float, None}
use mathlib.Core.List.{List, [], ◌∷◌, ◌++◌, map, Memᴰ}
use Rattle.std.proofs.Math.Option.{Option, none, some}
use Rattle.std.specs.Int.Signed.{le_z}
use Rattle.bounds.specs.Bounds.{TRACKS}
use Rattle.buffers.specs.Answer.{Op, pushed, taken, refused}
use Rattle.buffers.specs.Run.{Run, run_from}
use Rattle.scalar.specs.F64.{f64}
use Rattle.scalar.specs.Scalar.{seconds_of}
use Rattle.engine.specs.declared.config.FgoConfig.{FgoConfig}
use Rattle.engine.specs.Config.{density, variance, coast, forget_after, legal}
use Rattle.engine.specs.Frame.{Frame, ClassLabel}
use Rattle.engine.specs.Body.{Body, frame_in, index_of, NamedOnce}
use Rattle.kf.specs.declared.filter.Kf.{Kf}
use Rattle.kf.specs.Plain as Plain
use Rattle.kf.specs.Plain.{Observed}
use Rattle.kf.specs.Filter.{kf_of, predicted, observed}
use Rattle.fgo_spec.specs.Lists.{times}
use Rattle.fgo_spec.specs.Windows.{Scan, Detection, window, noise}
use Rattle.fgo_spec.specs.Freezing.{recent, mean, newer}
use Rattle.fgo_spec.specs.Emitting.{Listed, Emitted}
use Rattle.fgo_spec.specs.Refiner.{State, new, arrive, reply}
use Rattle.fgo_spec.specs.Rule.{All, Bytes, Rule}

-- ---- a run: "any list of pushes and takes runs from a new refiner, refused ones included"

-- pushes of bodies and takes from a new refiner on, in order; where what is pushed has to be bytes, it is said
abbrev pub run : FgoConfig → List (Op Body) → Run Frame Emitted State
run c ops = run_from frame_in (reply c) new ops

-- ---- "01's plain filter run afresh"

-- a detection, as the filter observes it
abbrev pub observed_of : FgoConfig → Detection → Observed Float
observed_of c d = observed (seconds_of d.time) d.x d.y (noise c d)

-- the plain filter over observations, from the first on
unfoldable pub filter_over : FgoConfig → Detection → List Detection → Kf
filter_over c d ds = kf_of (Plain.run f64 (density c) (variance c) (observed_of c d) (map (observed_of c) ds)).filter

-- the last of d and ds
abbrev pub last_of : Detection → List Detection → Detection
last_of d [] = d
last_of d (e ∷ ds) = last_of e ds

-- the newest class known
unfoldable pub class_over : ClassLabel → List Detection → ClassLabel
class_over k [] = k
class_over k (d ∷ ds) = class_over (newer d.class k) ds

-- What is emitted of the id x at a time, worked out from its observations alone: the plain filter over them, predicted
-- to that time; the mean of their last five heights; their number; the last one's time and its age; the newest class;
-- the last one's variance. Nothing without observations.
unfoldable pub afresh : FgoConfig → ℤ → ℕ → List Detection → Option Listed
afresh c now x [] = none
afresh c now x (d ∷ ds) =
    some
    (record {
      id = x;
      last_ns = (last_of d ds).time;
      age = now -ℤ (last_of d ds).time;
      class = class_over None (d ∷ ds);
      count = length (d ∷ ds);
      kf = predicted (filter_over c d ds) (seconds_of now) (density c);
      height = mean (recent (map (λ e. e.z) (d ∷ ds)));
      r = noise c (last_of d ds);
    })

-- ---- the theorem

-- the emitted frames as scans with their ids
abbrev pub scans_of : List Emitted → List Scan
scans_of es = map (λ e. e.scan) es

-- the time of an emitted frame
abbrev pub time_of : Emitted → ℤ
time_of e = e.scan.frame.time

-- "emitted times never go back": each is at or after the one before it
unfoldable pub NeverBack : List ℤ → Type 0
NeverBack [] = Unit {0}
NeverBack (s ∷ []) = Unit {0}
NeverBack (s ∷ t ∷ ts) = (s ≤ℤ t) × NeverBack (t ∷ ts)

-- each number is above the one before it
unfoldable pub Rising : List ℕ → Type 0
Rising [] = Unit {0}
Rising (x ∷ []) = Unit {0}
Rising (x ∷ y ∷ l) = (x < y) × Rising (y ∷ l)

-- "the observations emitted so far under that id, this frame's included"
abbrev pub seen : List Emitted → Emitted → ℕ → List Detection
seen past e x = window x 0 (scans_of past ++ (e.scan ∷ []))

-- a track that the frame e, emitted after the frames past, has to list: "position, speed and covariance are, bit for
-- bit, 01's plain filter run afresh over exactly the observations emitted so far under that id, this frame's included,
-- then predicted to this frame's time, its count and height those of the same observations"
pub record ToList (c : FgoConfig) (past : List Emitted) (e : Emitted) (l : Listed) : Type 0 where
  pub id : 0 < l.id
  pub fresh : afresh c (time_of e) l.id (seen past e l.id) ≡ some l
  pub young : T (le_z l.age (coast c))

-- what holds of the frame e that is emitted after the frames past
pub record Told (c : FgoConfig) (past : List Emitted) (e : Emitted) : Type 0 where
  -- "each with its own associations in order": an id for each of them, 0 for none
  pub complete : length e.scan.ids ≡ length e.scan.frame.associations
  -- each association names an observation of the frame, and no two name one
  pub named : NamedOnce e.scan.frame
  -- "no two with one id"
  pub apart : (x : ℕ) → 0 < x → times x e.scan.ids ≤ 1
  -- the listed tracks are in id order, and no more than those that a smoother takes
  pub rising : Rising (map (λ l. l.id) e.tracks)
  pub few : length e.tracks ≤ TRACKS
  -- each track that the frame lists is one to list
  pub listed : (l : Listed) → Memᴰ l e.tracks → ToList c past e l
  -- "if emitted times never go back and coast_ns <= forget_after_ns, the listed ids are exactly those emitted with age
  -- <= coast_ns": and no other is
  pub exact : NeverBack (map time_of (past ++ (e ∷ []))) → coast c ≤ℤ forget_after c → (l : Listed) → ToList c past e l → Memᴰ l e.tracks

-- the held scans after placing and search: the oldest is what a push, or a take, has to give
abbrev pub settled : FgoConfig → State → Op Body → List Scan
settled c t (pushed b) = (arrive c t (frame_in b)).scans
settled c t taken = t.scans

-- what is pushed are bytes
abbrev pub Sent : Op Body → Type 0
Sent (pushed b) = Bytes b.bytes
Sent taken = Unit {0}

-- x stands in one of the scans
abbrev pub Stands : ℕ → List Scan → Type 0
Stands x ss = (s : Scan) × Memᴰ s ss × (0 < times x s.ids)

-- the scans emitted and those held after some pushes and takes, in the order accepted, each with its ids
abbrev pub standing : FgoConfig → List (Op Body) → List Scan
standing c ops = scans_of (run c ops).emitted ++ (run c ops).state.scans

-- observation i of the n-th of the frames es stands under the id x: by association j, after the frames before it
pub record Under (es : List Emitted) (n i x : ℕ) : Type 0 where
  pub frame : Emitted
  pub after : List Emitted
  pub there : drop n es ≡ frame ∷ after
  pub j : ℕ
  pub one : j < length frame.scan.frame.associations
  pub observation : index_of frame.scan.frame j ≡ i
  pub id : get_or frame.scan.ids j 0 ≡ x

-- demand 3, of a list of operations
pub record History (c : FgoConfig) (ops : List (Op Body)) : Type 0 where
  -- "frames come out in the order accepted"
  pub in_order : map (λ e. e.scan.frame) (run c ops).emitted ++ map (λ s. s.frame) (run c ops).state.scans ≡ (run c ops).accepted
  -- every emitted frame
  pub every : (past : List Emitted) (e : Emitted) (later : List Emitted) → (run c ops).emitted ≡ past ++ (e ∷ later) → Told c past e
  -- "with the ids that 01's placing and search give": a frame that one more operation emits is the oldest scan then
  -- held, with the ids that it then has
  pub as_searched :
      (o : Op Body) (e : Emitted) → (run c (ops ++ (o ∷ []))).emitted ≡ (run c ops).emitted ++ (e ∷ []) →
      (rest : List Scan) × (settled c (run c ops).state o ≡ e.scan ∷ rest)
  -- "each dot under one id only": an observation, by its frame and its place in it, that is emitted under an id (0 for
  -- none) is emitted under no other, whatever comes later
  pub dots : (more : List (Op Body)) (n i x y : ℕ) → Under (run c ops).emitted n i x → Under (run c (ops ++ more)).emitted n i y → x ≡ y
  -- the next id is above every id that an emitted or held scan has, and never goes down
  pub used : (x : ℕ) → 0 < x → Stands x (standing c ops) → x < (run c ops).state.next_id
  pub rises : (more : List (Op Body)) → (run c ops).state.next_id ≤ (run c (ops ++ more)).state.next_id
  -- an id is given out once: what stands after one more operation stood before it or begins with the next id; and one
  -- that stood and is gone stays gone
  pub given :
      (o : Op Body) (x : ℕ) → 0 < x → Stands x (standing c (ops ++ (o ∷ []))) → Stands x (standing c ops) ⊎ ((run c ops).state.next_id ≤ x)
  pub once :
      (more rest : List (Op Body)) (x : ℕ) → 0 < x → Stands x (standing c ops) → (Stands x (standing c (ops ++ more)) → ⊥) →
      Stands x (standing c ((ops ++ more) ++ rest)) → ⊥
  -- "After it the state and the lent buffers hold what they held before the call": an operation that is refused changes
  -- nothing
  pub refusals : (o : Op Body) (n : ℕ) → (reply c (run c ops).state o).0 ≡ refused n → run c (ops ++ (o ∷ [])) ≡ run c ops
  -- every state that bytes lead to meets the state rule, so 3 is never answered to who keeps to push and take
  pub ruled : legal c ≡ true → All Sent ops → Rule c (run c ops).state

-- the theorem, in proofs/: history : (c : FgoConfig) (ops : List (Op Body)) → History c ops
