-- Demand 3 in what a caller has: the bytes of the bodies pushed, and the words and numbers written. The file to open
-- first. Definitions only.
--
-- Notation.
--   x : A              x is an A. ℕ: whole numbers from 0 on; ℤ: of either sign; Float: f64, bit for bit;
--                      List A: lists; Body: the bytes of a frame's body
--   f a b              the function f at a and b; λ x. e is the function that gives e for x
--   a ≡ b              a and b are the same;  a × b both hold;  a ⊎ b one of them does;  ⊥ what cannot be
--   (x : A) → B        for every x of A, B holds; in A → B → C: where A and B hold, so does C
--   (x : A) × B        there is an x of A such that B holds
--   record R .. where  what holds together, a named clause after each `pub`; r.name is that clause, or field, of r
--   [], a ∷ l, l ++ m  the empty list; a before l; l before m. take n l, drop n l: the first n of l, and the others
--   get_or l i d       the element at place i of l, counted from 0; d past the end
--   some a, none       an answer a, or none;  cond t a b: a where the test t holds, else b
--   Names in capitals are bounds and strides, in crates/bounds. `abbrev`, `unfoldable` and `pub` say how a definition
--   is used, not what it is.
--
-- A worked reading, of `Heard.tracks` below. A refiner was opened and called any number of times; bs are the bodies of
-- the pushes that were accepted, and o is a frame that was written, after the frames before. Take its i-th listed
-- track; its words begin with an id, x. Go over the frames written so far, with the bodies that they are of, and pick
-- each dot whose association was written with the id x: that is `observed x 0 bs (before ++ (o ∷ []))`. Run the plain
-- filter over these dots alone, from nothing, and predict to this frame's time: that is `afresh`. Then the words and
-- numbers that o has of the track are just those that come out. With one frame, one dot at (1, 2, 0.5) and engine id 7
-- (document 01's printed frame) x is 1, `observed` has that dot, and the words are 1, 0, 0, 0, 4294967296, 1.
--
-- Not here: that the ids are those that placing and search give (`as_searched` of fgo_spec/specs/History.antt), and the
-- smoothed form (Joined.antt).
use Rattle.std.specs.Prelude.{ℕ, suc, ◌+◌, ◌*◌, ◌≤◌, ◌<◌, ◌≡◌, length, get_or, take, drop, T, ℤ, ◌≤ℤ◌}
use mathlib.Core.List.{List, [], ◌∷◌, ◌++◌, map, Memᴰ}
use Rattle.std.proofs.Math.Option.{some}
use Rattle.std.specs.Float.{nan}
use Rattle.std.specs.Int.Signed.{le_z}
use Rattle.bounds.specs.Bounds.{HEAD, TRACK, LINK, STATE}
use Rattle.buffers.specs.Answer.{Written}
use Rattle.scalar.specs.Scalar.{word}
use Rattle.engine.specs.declared.config.FgoConfig.{FgoConfig}
use Rattle.engine.specs.Config.{coast, forget_after, max_passes_of}
use Rattle.engine.specs.Frame.{no_association, mode_number}
use Rattle.engine.specs.Body.{Body, frame_in, rows, NamedOnce}
use Rattle.fgo_spec.specs.Lists.{times}
use Rattle.fgo_spec.specs.Windows.{Detection, under}
use Rattle.fgo_spec.specs.Emitting.{Listed, track_words, track_numbers, association_words, cost_number}
use Rattle.fgo_spec.specs.History.{NeverBack, Rising, afresh}
use Rattle.fgo_spec.specs.Following.{sighted_all}
use Rattle.smoother_frame.specs.Frame.{track_count, association_count, id_word, associations_from, sensor_word, words_long, costs_from, numbers_long}

-- ---- what a written frame says

-- the id that association j was written with: "per association index, id (0 none), outcome, cost present"
abbrev pub id_at : Written → ℕ → ℕ
id_at o j = get_or o.words (associations_from o.words + LINK * j + 1) 0

-- those of all its associations, in order
unfoldable pub ids_in : Written → List ℕ
ids_in o = rows (id_at o) 0 (association_count o.words)

-- the words of association j
abbrev pub link_in : Written → ℕ → List ℕ
link_in o j = take LINK (drop (associations_from o.words + LINK * j) o.words)

-- the ids of the tracks that it lists, in order
unfoldable pub tracks_in : Written → List ℕ
tracks_in o = rows (id_word o.words) 0 (track_count o.words)

-- the words and numbers of track i
abbrev pub track_in : Written → ℕ → Written
track_in o i = record { words = take TRACK (drop (HEAD + TRACK * i) o.words); numbers = take STATE (drop (STATE * i) o.numbers) }

-- those of a track that is to be listed
abbrev pub line_of : Listed → Written
line_of l = record { words = track_words l; numbers = track_numbers l }

-- ---- what was seen

-- "the observations emitted so far under that id": of the bodies bs, the first of which has the number n, each with the
-- frame os that was written of it
unfoldable pub observed : ℕ → ℕ → List Body → List Written → List Detection
observed x n [] os = []
observed x n (b ∷ bs) [] = []
observed x n (b ∷ bs) (o ∷ os) = under x n (frame_in b) (frame_in b).associations (ids_in o) ++ observed x (suc n) bs os

-- the engine id of each dot that has one, with the id under which the dot was written
unfoldable pub named : List Body → List Written → List (ℕ × ℕ)
named [] os = []
named (b ∷ bs) [] = []
named (b ∷ bs) (o ∷ os) = sighted_all (frame_in b).associations (ids_in o) ++ named bs os

-- the times that bodies say
abbrev pub times_in : List Body → List ℤ
times_in bs = map (λ b. (frame_in b).time) bs

-- ---- the theorem

-- bs are the bodies accepted, in order; the frame o was written after the frames before
pub record Heard (c : FgoConfig) (bs : List Body) (before : List Written) (o : Written) : Type 0 where
  -- "frames come out in the order accepted": o is of the body that has its number
  pub body : Body
  pub later : List Body
  pub own : drop (length before) bs ≡ body ∷ later
  -- "time, mode, tracks, associations, sensors, smoothed": of that body; no track is there twice
  pub head :
      (let f = frame_in body in
      take HEAD o.words
      ≡ word f.time ∷ mode_number f.mode ∷ track_count o.words ∷ length f.associations ∷ length f.sensors ∷ 0 ∷ [])
  pub rising : Rising (tracks_in o)
  -- "each with its own associations in order", each with one id, or 0 for none; no two with one id
  pub links :
      (j : ℕ) → j < length (frame_in body).associations →
      link_in o j ≡ association_words (get_or (frame_in body).associations j no_association) (id_at o j)
  pub apart : (x : ℕ) → 0 < x → times x (ids_in o) ≤ 1
  -- its cost, 0.0 where it has none; "then the frame's sensors"; and nothing else: "these two lists at their exact
  -- length"
  pub costs :
      (j : ℕ) → j < length (frame_in body).associations →
      get_or o.numbers (costs_from o.words + j) nan ≡ get_or (map (λ a. cost_number a.cost) (frame_in body).associations) j nan
  pub sensors : (k : ℕ) → sensor_word o.words k ≡ get_or (frame_in body).sensors k 0
  pub long : (length o.words ≡ words_long o.words) × (length o.numbers ≡ numbers_long o.words)
  -- each association names an observation of the body, and no two name one: so each dot is under one id only
  pub dots : NamedOnce (frame_in body)
  -- each listed track is "bit for bit, 01's plain filter run afresh over exactly the observations emitted so far under
  -- that id, this frame's included, then predicted to this frame's time, its count and height those of the same
  -- observations", and young enough
  pub tracks :
      (i : ℕ) → i < track_count o.words →
      (let x = id_word o.words i in
      (l : Listed)
      × (0 < x)
      × (afresh c (frame_in body).time x (observed x 0 bs (before ++ (o ∷ []))) ≡ some l)
      × T (le_z l.age (coast c))
      × (track_in o i ≡ line_of l))
  -- "if emitted times never go back and coast_ns <= forget_after_ns, the listed ids are exactly those emitted with age
  -- <= coast_ns"
  pub exact :
      NeverBack (times_in (take (suc (length before)) bs)) → coast c ≤ℤ forget_after c → (x : ℕ) (l : Listed) → 0 < x →
      afresh c (frame_in body).time x (observed x 0 bs (before ++ (o ∷ []))) ≡ some l → T (le_z l.age (coast c)) → Memᴰ x (tracks_in o)

-- of all that was written
pub record Audited (c : FgoConfig) (bs : List Body) (os : List Written) : Type 0 where
  -- no more frames than bodies, and each as above
  pub few : length os ≤ length bs
  pub every : (before : List Written) (o : Written) (after : List Written) → os ≡ before ++ (o ∷ after) → Heard c bs before o
  -- where no pass runs, dots of two engine ids are never written under one id
  pub placed : max_passes_of c ≡ 0 → (d e x : ℕ) → 0 < x → Memᴰ (d, x) (named bs os) → Memᴰ (e, x) (named bs os) → d ≡ e

-- the theorem, in proofs/: audited : .. → refiner.Session c r m ks → Audited c (accepted (λ b. b) ks) (wrote ks)
