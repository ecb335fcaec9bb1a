-- Examples without a letter: edges that document 01 names, and runs that the checker computes, from the bytes of the
-- bodies to the emitted words and numbers. What these should give was read off the published Rust, with document 01's
-- logarithm. Assumes nothing.
use Prim.Native.Nat.{ℕ, suc}
use mathlib.Core.Path.{◌≡◌, refl}
use mathlib.Core.Bool.{true, false}
use mathlib.Core.List.{List, [], ◌∷◌, ◌++◌, map, flat_map}
use lib.Count.{count_trailing_zeros}
use lib.ListN.{length}
use lib.IntN.{pos, negsuc}
use lib.Ieee.{binary64, add, sub, mul, div, lt, round, of_int, of_bits, to_bits, neg, sum, units, odd, size, span, climb, of_fields}
use Rattle.buffers.specs.Answer.{Op, pushed, taken}
use Rattle.buffers.specs.Run.{Run, step, run_from}
use Rattle.scalar.specs.Scalar.{finite, bits_of}
use Rattle.scalar.specs.Ln.{ln_of}
use Rattle.engine.specs.declared.config.FgoConfig.{FgoConfig}
use Rattle.engine.specs.declared.types.BodyKind.TheVariants.{Narrow}
use Rattle.engine.specs.declared.types.EngineTrack.{EngineTrack}
use Rattle.engine.specs.Config.{defaults}
use Rattle.engine.specs.Little.{little}
use Rattle.engine.specs.Frame.{Frame}
use Rattle.engine.specs.Body.{Body, all, code_ok, present_ok, time_ok, track_ok, association_ok, observation_ok, zeros_ok, index_ok, head_ok, tracks_ok, associations_ok, observations_ok, indices_ok, refusal, rows, track_at, observation_at, association_at, frame_of, decode}
use Rattle.engine.specs.Encode.{bytes_of}
use Rattle.cost.specs.Cost.{added, fold_one as cost_step, fold_over as cost_run, closed}
use Rattle.fgo_spec.specs.Lists.{keep, any, up_from, insert, find, put, assign}
use Rattle.fgo_spec.specs.Windows.{Detection, Prefix, class_among, detection_of, under, window, present, price}
use Rattle.fgo_spec.specs.Placing.{place}
use Rattle.fgo_spec.specs.Searching.{recolumn, shared, rest, track_cost, close, is_cut, cuts, neighbours_of, neighbours, try_swap, try_merge, pair_candidates, best_of_pair, try_split, try_drop, track_candidates, best_of_track, pair_step, track_step, pass, passes, improve}
use Rattle.fgo_spec.specs.Owning.{holder_in, latest, reown}
use Rattle.fgo_spec.specs.Freezing.{mean, freeze, freeze_all, listable, remember}
use Rattle.fgo_spec.specs.Emitting.{Listed, Emitted, report, listing, associations_words, words_of, numbers_of, prediction_only_of}
use Rattle.fgo_spec.specs.Refiner.{State, arrive, emit, leave, freeze_oldest, settle, full8, full9, full10, push_frame, push, takes}
use Rattle.fgo_spec.specs.History.{run}
use Rattle.std.specs.Prelude.{None, Some}

-- ---- edges

-- "defaults: age 500,000,000 listed, one more not"
pub listed_until : (p : Prefix) → p.last_ns ≡ pos 0 → (listable defaults (pos 500000000) (1, p) ≡ true) × (listable defaults (pos 500000001) (1, p) ≡ false)
listed_until p e = (rw e, rw e)

-- a repeated engine id: "the last of them counts"
abbrev classed : ℕ → EngineTrack
classed n = record { id = record { 0 = 7 }; class = Some n }

pub last_counts : class_among 7 None (classed 1 ∷ classed 2 ∷ []) ≡ Some 2
unfolding class_among
last_counts = refl

-- "prediction_only is age > 0": not at -1 and 0, but at 1
pub predicted-from : (l : Listed) → (l.age ≡ negsuc 0 → prediction_only_of l ≡ false) × (l.age ≡ pos 0 → prediction_only_of l ≡ false) × (l.age ≡ pos 1 → prediction_only_of l ≡ true)
predicted-from l = (λ e. rw e, λ e. rw e, λ e. rw e)

-- "at a squared distance below radius²": 1.5 metres are not below 1.5, and 1.25 are
abbrev pub spot : ℕ → ℕ → Detection
spot n x = let o = of_bits binary64 0 in record { scan = n; time = pos 0; x = of_bits binary64 x; y = o; z = o; class = None }

pub close_below : (close defaults 0 [] (spot 0 0) (spot 0 0x3ff8_0000_0000_0000) ≡ false) × (close defaults 0 [] (spot 0 0) (spot 0 0x3ff4_0000_0000_0000) ≡ true)
unfolding close add sub mul lt round of_bits neg sum units odd size span climb of_fields count_trailing_zeros
close_below = (refl, refl)

-- ---- bodies

-- a dot and the engine id of its association
pub record Sight : Type 0 where
  pub x : ℕ
  pub y : ℕ
  pub z : ℕ
  pub engine : ℕ

abbrev pub sight : ℕ → ℕ → ℕ → ℕ → Sight
sight x y z e = record { x = x; y = y; z = z; engine = e }

unfoldable pub spot_bytes : Sight → List ℕ
spot_bytes s = bytes_of 8 s.x ++ (bytes_of 8 s.y ++ bytes_of 8 s.z)

-- "Associations: bytes index, id present, outcome, cost present, four zeros, u64 id, f64 cost", of outcome 1 and
-- without a cost
unfoldable pub sight_bytes : ℕ → List Sight → List ℕ
sight_bytes i [] = []
sight_bytes i (s ∷ l) = (i ∷ 1 ∷ 1 ∷ 0 ∷ bytes_of 4 0) ++ (bytes_of 8 s.engine ++ (bytes_of 8 0 ++ sight_bytes (suc i) l))

-- a body of mode 0 without engine tracks
unfoldable pub body : ℕ → List Sight → Body
body t l =
    record {
      kind = Narrow;
      bytes = (0 ∷ 0 ∷ length l ∷ length l ∷ bytes_of 4 0) ++ (bytes_of 8 t ++ (flat_map spot_bytes l ++ sight_bytes 0 l));
    }

-- default settings, with another lag and another max_passes
abbrev pub tuned : ℕ → ℕ → FgoConfig
tuned n k =
    record {
      lag_frames = n;
      radius_m = defaults.radius_m;
      birth_cost = defaults.birth_cost;
      miss_cost = defaults.miss_cost;
      clutter_cost = defaults.clutter_cost;
      accel_spectral_density = defaults.accel_spectral_density;
      position_sigma_m = defaults.position_sigma_m;
      initial_velocity_variance = defaults.initial_velocity_variance;
      coast_ns = defaults.coast_ns;
      forget_after_ns = defaults.forget_after_ns;
      max_passes = k;
    }

-- with another lag
abbrev pub lagging : ℕ → FgoConfig
lagging n = tuned n defaults.max_passes

-- "swaps, merges, splits, drops"
unfoldable pub counts : Run Frame Emitted State → List ℕ
counts r = let k = r.state.counters in k.swaps ∷ k.merges ∷ k.splits ∷ k.drops ∷ []

-- position, speed, p00, p01 and p11
unfoldable pub figures : Listed → List ℕ
figures l = let k = l.kf in map bits_of (k.x ∷ k.y ∷ l.height ∷ k.vx ∷ k.vy ∷ k.p00 ∷ k.p01 ∷ k.p11 ∷ [])

-- of each emitted frame its words, then the figures of each listed track; at the end the counters. What has to be
-- computed for that is opened here.
unfoldable pub shown : FgoConfig → List (Op Body) → List (List ℕ)
unfolding run_from step push takes decode refusal head_ok tracks_ok associations_ok observations_ok indices_ok all code_ok present_ok time_ok track_ok association_ok observation_ok index_ok rows track_at observation_at association_at frame_of little bytes_of spot_bytes sight_bytes body flat_map finite push_frame arrive emit leave freeze_oldest settle full8 full9 full10 report listing associations_words words_of numbers_of mean freeze freeze_all remember holder_in latest reown recolumn shared rest track_cost close is_cut cuts neighbours_of neighbours try_swap try_merge pair_candidates best_of_pair try_split try_drop track_candidates best_of_track pair_step track_step pass passes improve place class_among detection_of under window present price keep any up_from insert find put assign added cost_step cost_run closed ln_of add sub mul div lt round of_int of_bits to_bits neg sum units odd size span climb of_fields count_trailing_zeros zeros_ok counts figures
shown c ops = let r = run c ops in flat_map (λ e. words_of e ∷ map figures e.tracks) r.emitted ++ (counts r ∷ [])

-- ---- document 01's printed frame

-- "Default settings with lag 0, one frame: mode 0, time 0, no engine track, observation (1, 2, 0.5), association 0 with
-- engine id 7, outcome 1"
pub printed_run : List (Op Body)
printed_run = pushed (body 0 (sight 0x3ff0_0000_0000_0000 0x4000_0000_0000_0000 0x3fe0_0000_0000_0000 7 ∷ [])) ∷ []

abbrev pub printed_shows : List (List ℕ)
printed_shows =
    (0 ∷ 0 ∷ 1 ∷ 1 ∷ 0 ∷ 0 ∷ 1 ∷ 0 ∷ 0 ∷ 0 ∷ 4294967296 ∷ 1 ∷ 0 ∷ 1 ∷ 1 ∷ 0 ∷ [])
    ∷ (0x3ff0_0000_0000_0000 ∷ 0x4000_0000_0000_0000 ∷ 0x3fe0_0000_0000_0000 ∷ 0 ∷ 0 ∷ 0x3fb0_0000_0000_0000 ∷ 0 ∷ 0x3ff0_0000_0000_0000 ∷ [])
    ∷ (0 ∷ 0 ∷ 0 ∷ 0 ∷ [])
    ∷ []

pub printed_is : shown (lagging 0) printed_run ≡ printed_shows
unfolding shown printed_run
printed_is = refl

-- its numbers in their places: position and velocity, the covariance by rows, the cost
abbrev pub printed_numbers : List ℕ
printed_numbers =
    0x3ff0_0000_0000_0000 ∷ 0x4000_0000_0000_0000 ∷ 0x3fe0_0000_0000_0000 ∷ 0 ∷ 0 ∷ 0
    ∷ 0x3fb0_0000_0000_0000 ∷ 0 ∷ 0 ∷ 0 ∷ 0 ∷ 0
    ∷ 0 ∷ 0x3fb0_0000_0000_0000 ∷ 0 ∷ 0 ∷ 0 ∷ 0
    ∷ 0 ∷ 0 ∷ 0x3fb0_0000_0000_0000 ∷ 0 ∷ 0 ∷ 0
    ∷ 0 ∷ 0 ∷ 0 ∷ 0x3ff0_0000_0000_0000 ∷ 0 ∷ 0
    ∷ 0 ∷ 0 ∷ 0 ∷ 0 ∷ 0x3ff0_0000_0000_0000 ∷ 0
    ∷ 0 ∷ 0 ∷ 0 ∷ 0 ∷ 0 ∷ 0x3fb0_0000_0000_0000
    ∷ 0 ∷ []

pub printed_numbers_lem : map (λ e. map bits_of (numbers_of e)) (run (lagging 0) printed_run).emitted ≡ printed_numbers ∷ []
unfolding shown printed_run
printed_numbers_lem = refl

-- ---- a run in which a drop is chosen

-- the engine strays for one frame: the detection of that frame becomes clutter
pub drop_run : List (Op Body)
drop_run =
    pushed (body 0 (sight 0xbfe0_0000_0000_0000 0xbff4_0000_0000_0000 0x3ff0_0000_0000_0000 8 ∷ []))
    ∷ pushed (body 100000000 (sight 0x3fe0_0000_0000_0000 0x3ff0_0000_0000_0000 0 8 ∷ []))
    ∷ pushed (body 200000000 (sight 0xbff4_0000_0000_0000 0xbff8_0000_0000_0000 0x3ff8_0000_0000_0000 8 ∷ []))
    ∷ taken ∷ taken ∷ []

abbrev pub drop_shows : List (List ℕ)
drop_shows =
    (0 ∷ 0 ∷ 1 ∷ 1 ∷ 0 ∷ 0 ∷ 1 ∷ 0 ∷ 0 ∷ 0 ∷ 4294967296 ∷ 1 ∷ 0 ∷ 1 ∷ 1 ∷ 0 ∷ [])
    ∷ (0xbfe0_0000_0000_0000 ∷ 0xbff4_0000_0000_0000 ∷ 0x3ff0_0000_0000_0000 ∷ 0 ∷ 0 ∷ 0x3fb0_0000_0000_0000 ∷ 0 ∷ 0x3ff0_0000_0000_0000 ∷ [])
    ∷ (100000000 ∷ 0 ∷ 1 ∷ 1 ∷ 0 ∷ 0 ∷ 1 ∷ 0 ∷ 0 ∷ 100000000 ∷ 4294967296 ∷ 1 ∷ 0 ∷ 0 ∷ 2 ∷ 0 ∷ [])
    ∷ (0xbfe0_0000_0000_0000 ∷ 0xbff4_0000_0000_0000 ∷ 0x3ff0_0000_0000_0000 ∷ 0 ∷ 0 ∷ 0x3fb2_9a48_5cd7_b901 ∷ 0x3fba_3d70_a3d7_0a3e ∷ 0x3ff0_cccc_cccc_cccd ∷ [])
    ∷ (200000000 ∷ 0 ∷ 1 ∷ 1 ∷ 0 ∷ 0 ∷ 1 ∷ 1 ∷ 200000000 ∷ 0 ∷ 4294967296 ∷ 2 ∷ 0 ∷ 1 ∷ 1 ∷ 0 ∷ [])
    ∷ (0xbfee_fb61_fceb_fdf4 ∷ 0xbff6_7f3a_ff7c_aa53 ∷ 0x3ff4_0000_0000_0000 ∷ 0xbfee_4cf4_334d_778a ∷ 0xbfd4_334d_7788_fa5c ∷ 0x3fa3_f9d7_fbe5_5298 ∷ 0x3fb4_334d_7788_fa5a ∷ 0x3fea_b740_be6f_6de4 ∷ [])
    ∷ (0 ∷ 0 ∷ 0 ∷ 1 ∷ [])
    ∷ []

pub drop_is : shown (lagging 2) drop_run ≡ drop_shows
unfolding shown drop_run
drop_is = refl

-- ---- forgetting

-- a track without a window that is older than forget_after_ns is forgotten: its engine id starts another
pub forget_run : List (Op Body)
forget_run =
    pushed (body 0 (sight 0x3ff0_0000_0000_0000 0x4000_0000_0000_0000 0x3fe0_0000_0000_0000 7 ∷ []))
    ∷ pushed (body 3000000000 (sight 0x3ff0_0000_0000_0000 0x4000_0000_0000_0000 0x3fe0_0000_0000_0000 8 ∷ []))
    ∷ pushed (body 3100000000 (sight 0x3ff0_0000_0000_0000 0x4000_0000_0000_0000 0x3fe0_0000_0000_0000 7 ∷ []))
    ∷ []

abbrev pub forget_shows : List (List ℕ)
forget_shows =
    (0 ∷ 0 ∷ 1 ∷ 1 ∷ 0 ∷ 0 ∷ 1 ∷ 0 ∷ 0 ∷ 0 ∷ 4294967296 ∷ 1 ∷ 0 ∷ 1 ∷ 1 ∷ 0 ∷ [])
    ∷ (0x3ff0_0000_0000_0000 ∷ 0x4000_0000_0000_0000 ∷ 0x3fe0_0000_0000_0000 ∷ 0 ∷ 0 ∷ 0x3fb0_0000_0000_0000 ∷ 0 ∷ 0x3ff0_0000_0000_0000 ∷ [])
    ∷ (3000000000 ∷ 0 ∷ 1 ∷ 1 ∷ 0 ∷ 0 ∷ 2 ∷ 0 ∷ 3000000000 ∷ 0 ∷ 4294967296 ∷ 1 ∷ 0 ∷ 2 ∷ 1 ∷ 0 ∷ [])
    ∷ (0x3ff0_0000_0000_0000 ∷ 0x4000_0000_0000_0000 ∷ 0x3fe0_0000_0000_0000 ∷ 0 ∷ 0 ∷ 0x3fb0_0000_0000_0000 ∷ 0 ∷ 0x3ff0_0000_0000_0000 ∷ [])
    ∷ (3100000000 ∷ 0 ∷ 2 ∷ 1 ∷ 0 ∷ 0 ∷ 2 ∷ 0 ∷ 3000000000 ∷ 100000000 ∷ 4294967296 ∷ 1 ∷ 3 ∷ 0 ∷ 3100000000 ∷ 0 ∷ 4294967296 ∷ 1 ∷ 0 ∷ 3 ∷ 1 ∷ 0 ∷ [])
    ∷ (0x3ff0_0000_0000_0000 ∷ 0x4000_0000_0000_0000 ∷ 0x3fe0_0000_0000_0000 ∷ 0 ∷ 0 ∷ 0x3fb2_9a48_5cd7_b902 ∷ 0x3fba_3d70_a3d7_0a44 ∷ 0x3ff0_cccc_cccc_cccd ∷ [])
    ∷ (0x3ff0_0000_0000_0000 ∷ 0x4000_0000_0000_0000 ∷ 0x3fe0_0000_0000_0000 ∷ 0 ∷ 0 ∷ 0x3fb0_0000_0000_0000 ∷ 0 ∷ 0x3ff0_0000_0000_0000 ∷ [])
    ∷ (0 ∷ 0 ∷ 0 ∷ 0 ∷ [])
    ∷ []

pub forget_is : shown (lagging 0) forget_run ≡ forget_shows
unfolding shown forget_run
forget_is = refl

-- one that has a window is kept
pub keep_run : List (Op Body)
keep_run =
    pushed (body 0 (sight 0x3ff0_0000_0000_0000 0x4000_0000_0000_0000 0x3fe0_0000_0000_0000 7 ∷ []))
    ∷ pushed (body 3000000000 [])
    ∷ pushed (body 3100000000 (sight 0x3ff0_0000_0000_0000 0x4000_0000_0000_0000 0x3ff8_0000_0000_0000 7 ∷ []))
    ∷ taken ∷ []

abbrev pub keep_shows : List (List ℕ)
keep_shows =
    (0 ∷ 0 ∷ 1 ∷ 1 ∷ 0 ∷ 0 ∷ 1 ∷ 0 ∷ 0 ∷ 0 ∷ 4294967296 ∷ 1 ∷ 0 ∷ 1 ∷ 1 ∷ 0 ∷ [])
    ∷ (0x3ff0_0000_0000_0000 ∷ 0x4000_0000_0000_0000 ∷ 0x3fe0_0000_0000_0000 ∷ 0 ∷ 0 ∷ 0x3fb0_0000_0000_0000 ∷ 0 ∷ 0x3ff0_0000_0000_0000 ∷ [])
    ∷ (3000000000 ∷ 0 ∷ 0 ∷ 0 ∷ 0 ∷ 0 ∷ [])
    ∷ (3100000000 ∷ 0 ∷ 1 ∷ 1 ∷ 0 ∷ 0 ∷ 1 ∷ 1 ∷ 3100000000 ∷ 0 ∷ 4294967296 ∷ 2 ∷ 0 ∷ 1 ∷ 1 ∷ 0 ∷ [])
    ∷ (0x3ff0_0000_0000_0000 ∷ 0x4000_0000_0000_0000 ∷ 0x3ff0_0000_0000_0000 ∷ 0 ∷ 0 ∷ 0x3faf_dd2b_a375_3a99 ∷ 0x3f97_f4c8_ee7d_4ce1 ∷ 0x3fdf_618d_1808_2408 ∷ [])
    ∷ (0 ∷ 0 ∷ 0 ∷ 0 ∷ [])
    ∷ []

pub keep_is : shown (lagging 1) keep_run ≡ keep_shows
unfolding shown keep_run
keep_is = refl
