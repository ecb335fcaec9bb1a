-- Runs that the checker computes, from the bytes of the bodies to the smoothed words and numbers. What these should
-- give was worked out apart from the definitions, in f64 by document 01's steps. Assumes nothing.
use Prim.Native.Nat.{ℕ}
use mathlib.Core.Path.{◌≡◌, refl}
use mathlib.Core.List.{List, [], ◌∷◌, ◌++◌, map, flat_map}
use lib.Count.{count_trailing_zeros}
use lib.IntN.{pos}
use lib.Ieee.{binary64, add, sub, mul, div, lt, le, round, of_int, of_bits, to_bits, neg, sum, units, odd, size, span, climb, of_fields}
use Rattle.bounds.specs.Bounds.{TRACKS}
use Rattle.buffers.specs.Answer.{Op, pushed, taken, Written}
use Rattle.buffers.specs.Run.{step, run_from}
use Rattle.scalar.specs.Scalar.{finite, bits_of}
use Rattle.scalar.specs.Ln.{ln_of}
use Rattle.engine.specs.declared.types.BodyKind.TheVariants.{Narrow}
use Rattle.engine.specs.declared.types.TrackingMode.TheVariants.{LidarOnly}
use Rattle.engine.specs.declared.types.Outcome.TheVariants.{Spawned}
use Rattle.engine.specs.Config.{defaults, density}
use Rattle.engine.specs.Little.{little}
use Rattle.engine.specs.Frame.{Frame}
use Rattle.engine.specs.Body.{Body, body, all, code_ok, present_ok, time_ok, track_ok, association_ok, observation_ok, zeros_ok, index_ok, head_ok, tracks_ok, associations_ok, observations_ok, indices_ok, refusal, rows, track_at, observation_at, association_at, frame_of, decode}
use Rattle.engine.specs.Encode.{bytes_of, laid, encode}
use Rattle.cost.specs.Cost.{added, fold_one as cost_step, fold_over as cost_run, closed}
use Rattle.scalar.specs.Root.{floor_root, near_root, root_of}
use Rattle.linalg.specs.Grown.{tabulate, grown, backed}
use Rattle.linalg.specs.Matrix.{mul as mat_mul, mul_vec, transpose, add as mat_add, sub as mat_sub, scale, half_sum}
use Rattle.linalg.specs.Cholesky.{less, factor_column, columns, cholesky, positive, forward, backward, inverse}
use Rattle.models.specs.Motion.{cv_f, cv_q}
use Rattle.rts.specs.Smoothing.{x_pred, p_pred, gain, smoothed_x, smoothed_p, smoothed, back}
use Rattle.fgo_spec.specs.Lists.{keep, any, up_from, insert, find, put, assign}
use Rattle.fgo_spec.specs.Windows.{class_among, detection_of, under, window, present, price}
use Rattle.fgo_spec.specs.Placing.{place}
use Rattle.fgo_spec.specs.Searching.{recolumn, shared, rest, track_cost, close, is_cut, cuts, neighbours_of, neighbours, try_swap, try_merge, pair_candidates, best_of_pair, try_split, try_drop, track_candidates, best_of_track, pair_step, track_step, pass, passes, improve}
use Rattle.fgo_spec.specs.Owning.{holder_in, latest, reown}
use Rattle.fgo_spec.specs.Freezing.{mean, freeze, freeze_all, remember}
use Rattle.fgo_spec.specs.Emitting.{Emitted, report, listing, associations_words, words_of, numbers_of, written}
use Rattle.fgo_spec.specs.Refiner.{arrive, emit, leave, freeze_oldest, settle, full8, full9, full10, push_frame, push, takes}
use Rattle.fgo_spec.specs.History.{run}
use Rattle.fgo_spec.proofs.Examples.{lagging}
use Rattle.smoother_frame.specs.Frame.{head_ok as form_head, track_ok as form_track, association_ok as form_association, sensor_ok, exact, rows_ok, well_formed}
use Rattle.smoother_window.specs.declared.SmootherConfig.{SmootherConfig}
use Rattle.smoother_pass.specs.Pass.{chain, run_back, smoothed_at, states_to, emitted, state_at, last_at, track_state}
use Rattle.smoother.specs.Smoother.{settle as settle_frame, emit_oldest, push as push_smoother, takes as take_smoother}
use Rattle.histories.specs.Audit.{ids_in, observed}
use Rattle.histories.specs.Smoothed.{smoothing}
use Rattle.std.specs.Prelude.{None, Some}

-- a dot at (x, 2, 0.5) at time t, of engine id 7
dotted : ℕ → ℕ → Frame
dotted t x =
    record {
      mode = LidarOnly;
      time = pos t;
      tracks = [];
      sensors = [];
      observations = record { x = of_bits binary64 x; y = of_bits binary64 0x4000_0000_0000_0000; z = of_bits binary64 0x3fe0_0000_0000_0000 } ∷ [];
      associations = record { index = record { 0 = 0 }; track = Some (record { 0 = 7 }); outcome = Spawned; cost = None } ∷ [];
    }

-- it stands at x 1 at time 0, then at 1.25 at time t
twice : ℕ → List (Op Body)
twice t =
    pushed (body Narrow (encode Narrow (dotted 0 0x3ff0_0000_0000_0000))) ∷ pushed (body Narrow (encode Narrow (dotted t 0x3ff4_0000_0000_0000))) ∷ []

-- a smoother of lag 1
abbrev later : SmootherConfig
later = record { lag_frames = 1; accel_spectral_density = density defaults; max_tracks = TRACKS }

-- each emitted frame is pushed, and then two takes ask for one frame more than is held
handing : List Emitted → List (Op Written)
handing es = map (λ e. pushed (written e)) es ++ (taken ∷ taken ∷ [])

-- the words of each frame that came out, and the bits of its numbers
pub shown : List Written → List (List ℕ)
shown os = flat_map (λ o. o.words ∷ map bits_of o.numbers ∷ []) os

-- What has to be computed for that is opened here.
pub smoothed_twice : ℕ → List (List ℕ)
unfolding shown handing twice dotted run_from step push takes decode refusal head_ok tracks_ok associations_ok observations_ok indices_ok all code_ok present_ok time_ok track_ok association_ok observation_ok zeros_ok index_ok rows track_at observation_at association_at frame_of little bytes_of laid encode flat_map finite push_frame arrive emit leave freeze_oldest settle full8 full9 full10 report listing associations_words words_of numbers_of mean freeze freeze_all remember holder_in latest reown recolumn shared rest track_cost close is_cut cuts neighbours_of neighbours try_swap try_merge pair_candidates best_of_pair try_split try_drop track_candidates best_of_track pair_step track_step pass passes improve place class_among detection_of under window present price keep any up_from insert find put assign added cost_step cost_run closed ln_of add sub mul div lt le round of_int of_bits to_bits neg sum units odd size span climb of_fields count_trailing_zeros form_head form_track form_association sensor_ok exact rows_ok well_formed state_at last_at track_state chain run_back smoothed_at states_to emitted settle_frame emit_oldest push_smoother take_smoother back smoothed x_pred p_pred gain smoothed_x smoothed_p mat_mul mul_vec transpose mat_add mat_sub scale half_sum less factor_column columns cholesky positive forward backward inverse tabulate grown backed cv_f cv_q floor_root near_root root_of
smoothed_twice t = shown (smoothing later (handing (run (lagging 0) (twice t)).emitted)).emitted

-- ---- no time goes by

-- 1.125, 2, 0.5, no speed; p00 0.03125, r 0.0625, p11 1; no cost
abbrev pub last_state : List ℕ
last_state =
    0x3ff2_0000_0000_0000 ∷ 0x4000_0000_0000_0000 ∷ 0x3fe0_0000_0000_0000 ∷ 0 ∷ 0 ∷ 0
    ∷ 0x3fa0_0000_0000_0000 ∷ 0 ∷ 0 ∷ 0 ∷ 0 ∷ 0
    ∷ 0 ∷ 0x3fa0_0000_0000_0000 ∷ 0 ∷ 0 ∷ 0 ∷ 0
    ∷ 0 ∷ 0 ∷ 0x3fb0_0000_0000_0000 ∷ 0 ∷ 0 ∷ 0
    ∷ 0 ∷ 0 ∷ 0 ∷ 0x3ff0_0000_0000_0000 ∷ 0 ∷ 0
    ∷ 0 ∷ 0 ∷ 0 ∷ 0 ∷ 0x3ff0_0000_0000_0000 ∷ 0
    ∷ 0 ∷ 0 ∷ 0 ∷ 0 ∷ 0 ∷ 0x3fb0_0000_0000_0000
    ∷ 0 ∷ []

-- "dt ≤ 0.0 skips, keeping the later state": both frames come out with it, each with its own words but the flag
pub skipped :
    smoothed_twice 0
    ≡ (0 ∷ 0 ∷ 1 ∷ 1 ∷ 0 ∷ 1 ∷ 1 ∷ 0 ∷ 0 ∷ 0 ∷ 4294967296 ∷ 1 ∷ 0 ∷ 1 ∷ 1 ∷ 0 ∷ [])
    ∷ last_state
    ∷ (0 ∷ 0 ∷ 1 ∷ 1 ∷ 0 ∷ 1 ∷ 1 ∷ 1 ∷ 0 ∷ 0 ∷ 4294967296 ∷ 2 ∷ 0 ∷ 1 ∷ 1 ∷ 0 ∷ [])
    ∷ last_state
    ∷ []
unfolding smoothed_twice
skipped = refl

-- ---- one step back over 100 ms

-- the first frame's state, smoothed
abbrev pub stepped_state : List ℕ
stepped_state =
    0x3ff1_d97d_511f_e1b3 ∷ 0x4000_0000_0000_0000 ∷ 0x3fe0_0000_0000_0000 ∷ 0x3fc7_acaa_74cb_48ec ∷ 0 ∷ 0
    ∷ 0x3fa1_3415_7700_f26e ∷ 0 ∷ 0 ∷ 0xbfa7_acaa_74cb_48ec ∷ 0 ∷ 0
    ∷ 0 ∷ 0x3fa1_3415_7700_f26e ∷ 0 ∷ 0 ∷ 0xbfa7_acaa_74cb_48ec ∷ 0
    ∷ 0 ∷ 0 ∷ 0x3fb0_116f_3816_4e08 ∷ 0 ∷ 0 ∷ 0xbf66_0928_0631_39b2
    ∷ 0xbfa7_acaa_74cb_48ec ∷ 0 ∷ 0 ∷ 0x3fed_a1ee_f452_124f ∷ 0 ∷ 0
    ∷ 0 ∷ 0xbfa7_acaa_74cb_48ec ∷ 0 ∷ 0 ∷ 0x3fed_a1ee_f452_124f ∷ 0
    ∷ 0 ∷ 0 ∷ 0xbf66_0928_0631_39b2 ∷ 0 ∷ 0 ∷ 0x3fa8_0998_cb56_37b0
    ∷ 0 ∷ []

-- the second frame's own
abbrev pub own_state : List ℕ
own_state =
    0x3ff2_2682_aee0_1e4e ∷ 0x4000_0000_0000_0000 ∷ 0x3fe0_0000_0000_0000 ∷ 0x3fc8_442e_b7b6_c458 ∷ 0 ∷ 0
    ∷ 0x3fa1_3415_7700_f26d ∷ 0 ∷ 0 ∷ 0x3fa8_442e_b7b6_c456 ∷ 0 ∷ 0
    ∷ 0 ∷ 0x3fa1_3415_7700_f26d ∷ 0 ∷ 0 ∷ 0x3fa8_442e_b7b6_c456 ∷ 0
    ∷ 0 ∷ 0 ∷ 0x3fb0_0000_0000_0000 ∷ 0 ∷ 0 ∷ 0
    ∷ 0x3fa8_442e_b7b6_c456 ∷ 0 ∷ 0 ∷ 0x3fef_1cd9_ee73_06c2 ∷ 0 ∷ 0
    ∷ 0 ∷ 0x3fa8_442e_b7b6_c456 ∷ 0 ∷ 0 ∷ 0x3fef_1cd9_ee73_06c2 ∷ 0
    ∷ 0 ∷ 0 ∷ 0 ∷ 0 ∷ 0 ∷ 0x3fb0_0000_0000_0000
    ∷ 0 ∷ []

pub stepped :
    smoothed_twice 100000000
    ≡ (0 ∷ 0 ∷ 1 ∷ 1 ∷ 0 ∷ 1 ∷ 1 ∷ 0 ∷ 0 ∷ 0 ∷ 4294967296 ∷ 1 ∷ 0 ∷ 1 ∷ 1 ∷ 0 ∷ [])
    ∷ stepped_state
    ∷ (100000000 ∷ 0 ∷ 1 ∷ 1 ∷ 0 ∷ 1 ∷ 1 ∷ 1 ∷ 100000000 ∷ 0 ∷ 4294967296 ∷ 2 ∷ 0 ∷ 1 ∷ 1 ∷ 0 ∷ [])
    ∷ own_state
    ∷ []
unfolding smoothed_twice
stepped = refl

-- ---- what was seen under an id, read off bodies and words alone

-- the bodies, and what is written of them
pub seen_twice : ℕ → List ℕ
unfolding smoothed_twice observed ids_in
seen_twice x =
    map (λ d. bits_of d.x)
    (observed x 0 (body Narrow (encode Narrow (dotted 0 0x3ff0_0000_0000_0000)) ∷ body Narrow (encode Narrow (dotted 100000000 0x3ff4_0000_0000_0000)) ∷ [])
    (map written (run (lagging 0) (twice 100000000)).emitted))

-- both dots under 1, and none under 2
pub seen_twice_lem : (seen_twice 1 ≡ 0x3ff0_0000_0000_0000 ∷ 0x3ff4_0000_0000_0000 ∷ []) × (seen_twice 2 ≡ [])
unfolding seen_twice
seen_twice_lem = (refl, refl)
