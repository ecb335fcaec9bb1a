-- Examples that pin one definition each: the checker computes them, and what they should give is in document 01's
-- words, quoted beside them. Assumes nothing.
use Prim.Native.Nat.{ℕ}
use mathlib.Core.Path.{◌≡◌, refl}
use mathlib.Core.Bool.{true, false}
use mathlib.Core.List.{List, [], ◌∷◌, ◌++◌, map, flat_map}
use lib.IntN.{negsuc}
use lib.Ieee.{Float, binary64, of_bits}
use Rattle.buffers.specs.Answer.{refused}
use Rattle.scalar.specs.Scalar.{seconds_of, bits_of}
use Rattle.engine.specs.declared.config.FgoConfig.{FgoConfig}
use Rattle.engine.specs.declared.types.TrackingMode.TheVariants.{CameraAssisted}
use Rattle.engine.specs.declared.types.Outcome.TheVariants.{Updated, Spawned}
use Rattle.engine.specs.Config.{defaults}
use Rattle.engine.specs.Little.{little}
use Rattle.engine.specs.Frame.{Frame}
use Rattle.engine.specs.Body.{rows, frame_of, frame_in}
use Rattle.kf.specs.declared.filter.Kf.{Kf}
use Rattle.cost.specs.declared.Fold.{Fold}
use Rattle.cost.specs.declared.Fold.TheVariants.{Frozen, Going}
use Rattle.cost.specs.Cost.{misses_of, added, fold_one}
use Rattle.fgo_spec.specs.declared.moves.TrackMove.{TrackMove}
use Rattle.fgo_spec.specs.declared.moves.TrackMove.TheVariants.{Split, Drop}
use Rattle.fgo_spec.specs.declared.moves.FgoCounters.{FgoCounters}
use Rattle.fgo_spec.specs.Lists.{keep, any, up_from, find}
use Rattle.fgo_spec.specs.Windows.{Scan, Prefix, detection_of, under, window, price}
use Rattle.fgo_spec.specs.Searching.{◌⊕◌, ◌⊖◌, rest, close, cuts, try_split, try_drop, track_candidates, improve}
use Rattle.fgo_spec.specs.Freezing.{mean}
use Rattle.fgo_spec.specs.Emitting.{Emitted, listing, words_of, numbers_of}
use Rattle.fgo_spec.specs.Refiner.{State, new, full8, full9, full10, push_frame}
use Rattle.fgo_spec.proofs.Examples.{spot, Sight, sight, body, tuned, shown}
use Rattle.std.specs.Prelude.{None, Some}

-- ---- refusals 8, 9 and 10

-- a frame with all there is, a second before time 0: two sensors of its engine track, a dot with engine id e at a cost
-- of 1.5, and a dot without one
abbrev rich : ℕ → Frame
rich e =
    let o = of_bits binary64 0 in
    record {
      mode = CameraAssisted;
      time = negsuc 999999999;
      tracks = record { id = record { 0 = e }; class = Some 6 } ∷ [];
      sensors = 4 ∷ 5 ∷ [];
      observations = record { x = o; y = o; z = o } ∷ record { x = o; y = o; z = o } ∷ [];
      associations =
          record { index = record { 0 = 1 }; track = Some (record { 0 = e }); outcome = Updated; cost = Some (of_bits binary64 0x3ff8_0000_0000_0000) }
          ∷ record { index = record { 0 = 0 }; track = None; outcome = Spawned; cost = None }
          ∷ [];
    }

-- a state that holds one such scan, of number n, with a detection in the window of track 1 and one that is clutter; it
-- has k frozen tracks, and m engine ids, from 10 on, which track 1 owns
abbrev holding : ℕ → Prefix → ℕ → ℕ → ℕ → FgoCounters → State
holding n p k m next counters =
    record {
      first = n;
      scans = record { frame = rich 10; ids = 1 ∷ 0 ∷ [] } ∷ [];
      prefixes = map (λ i. (i, p)) (up_from 1 k);
      owners = map (λ e. (e, 1)) (up_from 10 m);
      next_id = next;
      counters = counters;
    }

-- one that has accepted n scans and that one, by its next id, swaps, merges, splits and drops
abbrev numbered : Prefix → ℕ → ℕ → ℕ → ℕ → ℕ → ℕ → State
numbered p n next a b c d = holding n p 1 1 next (record { swaps = a; merges = b; splits = c; drops = d })

-- one by how full it is
abbrev crowded : Prefix → ℕ → ℕ → ℕ → State
crowded p k m next = holding 0 p k m next new.counters

-- 2^60
abbrev most : ℕ
most = 0x1000_0000_0000_0000

-- one more
abbrev above : ℕ
above = 0x1000_0000_0000_0001

-- 8: "4,294,967,295 scans accepted, or next id or a counter above 2^60"
pub eight_from :
    (p : Prefix) →
    map full8
    (numbered p 4294967293 most most most most most
    ∷ numbered p 4294967294 2 0 0 0 0
    ∷ numbered p 1 above 0 0 0 0
    ∷ numbered p 1 2 above 0 0 0
    ∷ numbered p 1 2 0 above 0 0
    ∷ numbered p 1 2 0 0 above 0
    ∷ numbered p 1 2 0 0 0 above
    ∷ [])
    ≡ false ∷ true ∷ true ∷ true ∷ true ∷ true ∷ true ∷ []
unfolding full8
eight_from p = refl

-- 9: "frozen tracks + detections in track windows + new associations with an id exceed 128"
pub nine_from : (p : Prefix) → (full9 (crowded p 126 1 200) (rich 9) ≡ false) × (full9 (crowded p 127 1 200) (rich 9) ≡ true)
unfolding full9 keep up_from flat_map
nine_from p = (refl, refl)

-- 10: "engine ids with a live owner, joined with the frame's, exceed 256"; 10 is the engine id of such an owner, and 9
-- is not
pub ten_from :
    (p : Prefix) →
    map (λ t. map (λ e. full10 t (rich e)) (9 ∷ 10 ∷ [])) (crowded p 1 255 2 ∷ crowded p 1 256 2 ∷ []) ≡ (false ∷ false ∷ []) ∷ (true ∷ false ∷ []) ∷ []
unfolding full10 any up_from
ten_from p = refl

-- "The checks run in the order of the table, and the first condition that holds decides the answer": where all three
-- hold, where 9 and 10 do, and where 10 does
pub in_order :
    (p : Prefix) →
    map (λ t. (push_frame defaults t (rich 9)).0) (crowded p 127 256 above ∷ crowded p 127 256 200 ∷ crowded p 1 256 2 ∷ [])
    ≡ refused 8 ∷ refused 9 ∷ refused 10 ∷ []
unfolding push_frame full8 full9 full10 keep any up_from flat_map
in_order p = refl

-- ---- pairs and cuts

-- "in one scan or in two consecutive scans": a metre apart, in equal scans, one scan later and earlier, and two
pub close_scans_lem :
    map (λ n. close defaults 0 [] (spot 5 0) (spot n 0x3ff0_0000_0000_0000)) (3 ∷ 4 ∷ 5 ∷ 6 ∷ 7 ∷ []) ≡ false ∷ true ∷ true ∷ true ∷ false ∷ []
unfolding shown
close_scans_lem = refl

-- a held scan: its dots, each with an engine id, and the ids of the tracks in whose windows they lie
abbrev held : List Sight → List ℕ → Scan
held l is = record { frame = frame_in (body 0 l); ids = is }

-- a dot on the line y = 0
abbrev at : ℕ → Sight
at x = sight x 0 0 7

-- "it notes the earlier of their scans, f. The cuts of a pair are all its f and f + 1, in ascending order": in scan 5
-- and 6, and again in scan 8, the last one
pub cuts_are :
    cuts defaults 5 []
    (held (at 0 ∷ []) (1 ∷ [])
    ∷ held (at 0x3ff0_0000_0000_0000 ∷ []) (2 ∷ [])
    ∷ held [] []
    ∷ held (at 0x4022_0000_0000_0000 ∷ at 0x4024_0000_0000_0000 ∷ []) (1 ∷ 2 ∷ [])
    ∷ [])
    1 2
    ≡ 5 ∷ 6 ∷ 8 ∷ 9 ∷ []
unfolding shown
cuts_are = refl

-- ---- moves of a single track

-- a move and its scan: 1 for a split, 2 for a drop
abbrev kind : TrackMove → ℕ × ℕ
kind (Split f g) = (1, f.0)
kind (Drop f g) = (2, f.0)

-- the moves of track 1 that are tried, in order, where the oldest scan held is 5
abbrev tried : List (ℕ × Prefix) → List Scan → List (ℕ × ℕ)
tried ps ss = map kind (track_candidates defaults 5 ps ss 9 1)

-- a scan with one dot, which lies in the window of track 1
abbrev one : Scan
one = held (at 0 ∷ []) (1 ∷ [])

-- "Splits of the window are tried after its detection 1, 2 and so on", then "the drop of each single detection": of a
-- window with scans 5, 6 and 8
pub tried_of_three : tried [] (one ∷ one ∷ held [] [] ∷ one ∷ []) ≡ (1, 6) ∷ (1, 8) ∷ (2, 5) ∷ (2, 6) ∷ (2, 8) ∷ []
unfolding track_candidates try_split try_drop rest find window under detection_of frame_of rows little body
tried_of_three = refl

-- "if the window's length, plus 1 where there is a frozen part, exceeds 1": a lone detection is dropped after a frozen
-- part only
pub tried_of_one : (p : Prefix) → (tried [] (one ∷ []) ≡ []) × (tried ((1, p) ∷ []) (one ∷ []) ≡ (2, 5) ∷ [])
unfolding track_candidates try_split try_drop rest find window under detection_of frame_of rows little body
tried_of_one p = (refl, refl)

-- "The tail has no frozen part": a tail of one detection costs 25, whatever is frozen
pub tail_afresh :
    (ps : List (ℕ × Prefix)) (base : Float) →
    try_split defaults 5 ps 1 9 (one ∷ one ∷ []) base (spot 6 0)
    ≡ Split (record { 0 = 6 }) (price defaults (find 1 ps) (spot 5 0 ∷ []) ⊕ of_bits binary64 0x4039_0000_0000_0000 ⊖ base)
unfolding shown
tail_afresh ps base = refl

-- ---- misses

-- "scans skipped since the last (or frozen last) are misses": after scan 5 none at 6 and two at 8, here beside four
-- from before, and beside none
pub misses_are :
    (c : FgoConfig) (k : Kf) (total t x y r : Float) →
    let misses : Fold → List ℕ = λ from. map (λ n. misses_of (fold_one c from (record { scan = n; t = t; x = x; y = y; r = r }))) (6 ∷ 8 ∷ []) in
    (misses (Going (record { kf = k; total = total; last = record { 0 = 5 }; misses = 4 })) ≡ 4 ∷ 6 ∷ []) × (misses (Frozen k (record { 0 = 5 })) ≡ 0 ∷ 2 ∷ [])
unfolding fold_one added
misses_are c k total t x y r = (refl, refl)

-- ---- passes

-- a window of three detections that lie 100 and 200 metres apart
abbrev apart : List Scan
apart = one ∷ held (at 0x4059_0000_0000_0000 ∷ []) (1 ∷ []) ∷ held (at 0x4072_c000_0000_0000 ∷ []) (1 ∷ []) ∷ []

-- what a search of k passes at most makes of it: its splits, and how many passes ran
abbrev searching : ℕ → ℕ × ℕ
searching k =
    let r = improve (tuned 10 k) 0 [] apart 2 new.counters in
    (r.search.counters.splits, r.ran)

-- "The passes end when max_passes have run or when one made no move"; the tail of a split "is visited from the next
-- pass on"
pub passes_are : map searching (0 ∷ 1 ∷ 2 ∷ 20 ∷ []) ≡ (0, 0) ∷ (1, 1) ∷ (2, 2) ∷ (2, 3) ∷ []
unfolding shown
passes_are = refl

-- ---- heights

-- "their mean adds them oldest first, beginning with the oldest itself": of -0.0 twice it is -0.0; of 1, 2^53 and -2^53
-- it is 0, since the 1 is lost
pub means_are :
    map (λ hs. bits_of (mean (map (of_bits binary64) hs)))
    ((0x8000_0000_0000_0000 ∷ 0x8000_0000_0000_0000 ∷ []) ∷ (0x3ff0_0000_0000_0000 ∷ 0x4340_0000_0000_0000 ∷ 0xc340_0000_0000_0000 ∷ []) ∷ [])
    ≡ 0x8000_0000_0000_0000 ∷ 0 ∷ []
unfolding shown
means_are = refl

-- ---- an emitted frame

-- a frozen part whose heights rise from 1 to 3 metres, seen last a quarter of a second before that frame
abbrev risen : Prefix
risen =
    let f = of_bits binary64 in
    let last = negsuc 1249999999 in
    record {
      kf =
          record {
            x = f 0x3ff0_0000_0000_0000;
            y = f 0x4000_0000_0000_0000;
            vx = f 0x4008_0000_0000_0000;
            vy = f 0x4010_0000_0000_0000;
            p00 = f 0x4014_0000_0000_0000;
            p01 = f 0x4018_0000_0000_0000;
            p11 = f 0x401c_0000_0000_0000;
            t = seconds_of last;
          };
      last_frame = 2;
      last_ns = last;
      count = 2;
      heights = f 0x3ff0_0000_0000_0000 ∷ f 0x4008_0000_0000_0000 ∷ [];
      class = Some 6;
    }

-- the frame as emitted, where that is track 3, in which its first association lies, and the other lies in none
abbrev listed : Emitted
listed = record { scan = record { frame = rich 9; ids = 3 ∷ 0 ∷ [] }; tracks = listing defaults (rich 9).time ((3, risen) ∷ []) }

-- "time, mode, tracks, associations, sensors, smoothed; per track id, lifecycle (0 tentative, 1 confirmed), last time,
-- age, class (2^32 if none), count; per association index, id (0 none), outcome, cost present; then the frame's
-- sensors"
pub words_are :
    words_of listed
    ≡ (18446744072709551616 ∷ 2 ∷ 1 ∷ 2 ∷ 2 ∷ 0 ∷ [])
    ++ ((3 ∷ 1 ∷ 18446744072459551616 ∷ 250000000 ∷ 6 ∷ 2 ∷ [])
    ++ ((1 ∷ 3 ∷ 0 ∷ 1 ∷ 0 ∷ 0 ∷ 2 ∷ 0 ∷ [])
    ++ (4 ∷ 5 ∷ [])))
unfolding shown
words_are = refl

-- "per track position 3, velocity 3, covariance 36 by rows; then one cost per association": "its height is the mean,
-- and the speed of the height is 0"
pub numbers_are :
    map bits_of (numbers_of listed)
    ≡ 0x3ffc_0000_0000_0000 ∷ 0x4008_0000_0000_0000 ∷ 0x4000_0000_0000_0000 ∷ 0x4008_0000_0000_0000 ∷ 0x4010_0000_0000_0000 ∷ 0
    ∷ 0x4020_e155_5555_5555 ∷ 0 ∷ 0 ∷ 0x401f_1000_0000_0000 ∷ 0 ∷ 0
    ∷ 0 ∷ 0x4020_e155_5555_5555 ∷ 0 ∷ 0 ∷ 0x401f_1000_0000_0000 ∷ 0
    ∷ 0 ∷ 0 ∷ 0x3fb0_0000_0000_0000 ∷ 0 ∷ 0 ∷ 0
    ∷ 0x401f_1000_0000_0000 ∷ 0 ∷ 0 ∷ 0x401c_8000_0000_0000 ∷ 0 ∷ 0
    ∷ 0 ∷ 0x401f_1000_0000_0000 ∷ 0 ∷ 0 ∷ 0x401c_8000_0000_0000 ∷ 0
    ∷ 0 ∷ 0 ∷ 0 ∷ 0 ∷ 0 ∷ 0x3fb0_0000_0000_0000
    ∷ 0x3ff8_0000_0000_0000 ∷ 0 ∷ []
unfolding shown
numbers_are = refl
