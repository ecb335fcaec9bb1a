-- Runs of the refiner as fgo_spec defines it, one each in which a swap, a merge and a split is chosen: the checker
-- computes them, from the bytes of the bodies to the emitted words and numbers. What they should give was read off the
-- published Rust, with document 01's logarithm. Assumes nothing.
use Prim.Native.Nat.{ℕ}
use mathlib.Core.Path.{◌≡◌, refl}
use mathlib.Core.List.{List, [], ◌∷◌}
use Rattle.buffers.specs.Answer.{Op, pushed, taken}
use Rattle.engine.specs.Body.{Body}
use Rattle.fgo_spec.proofs.Examples.{sight, body, lagging, shown}

-- two people side by side; the engine exchanges their ids in the fourth frame, when each has a frozen part, and a swap
-- undoes it
pub swap_run : List (Op Body)
swap_run =
    pushed (body 0 (sight 0 0 0x3fe0_0000_0000_0000 7 ∷ sight 0 0x3ff0_0000_0000_0000 0x3ff0_0000_0000_0000 8 ∷ []))
    ∷ pushed (body 100000000 (sight 0x3fd0_0000_0000_0000 0 0x3fe0_0000_0000_0000 7 ∷ sight 0x3fd0_0000_0000_0000 0x3ff0_0000_0000_0000 0x3ff0_0000_0000_0000 8 ∷ []))
    ∷ pushed (body 200000000 (sight 0x3fe0_0000_0000_0000 0 0x3fe0_0000_0000_0000 7 ∷ sight 0x3fe0_0000_0000_0000 0x3ff0_0000_0000_0000 0x3ff0_0000_0000_0000 8 ∷ []))
    ∷ pushed (body 300000000 (sight 0x3fe8_0000_0000_0000 0 0x3fe0_0000_0000_0000 8 ∷ sight 0x3fe8_0000_0000_0000 0x3ff0_0000_0000_0000 0x3ff0_0000_0000_0000 7 ∷ []))
    ∷ taken ∷ taken ∷ []

abbrev pub swap_shows : List (List ℕ)
swap_shows =
    (0 ∷ 0 ∷ 2 ∷ 2 ∷ 0 ∷ 0 ∷ 1 ∷ 0 ∷ 0 ∷ 0 ∷ 4294967296 ∷ 1 ∷ 2 ∷ 0 ∷ 0 ∷ 0 ∷ 4294967296 ∷ 1 ∷ 0 ∷ 1 ∷ 1 ∷ 0 ∷ 1 ∷ 2 ∷ 1 ∷ 0 ∷ [])
    ∷ (0 ∷ 0 ∷ 0x3fe0_0000_0000_0000 ∷ 0 ∷ 0 ∷ 0x3fb0_0000_0000_0000 ∷ 0 ∷ 0x3ff0_0000_0000_0000 ∷ [])
    ∷ (0 ∷ 0x3ff0_0000_0000_0000 ∷ 0x3ff0_0000_0000_0000 ∷ 0 ∷ 0 ∷ 0x3fb0_0000_0000_0000 ∷ 0 ∷ 0x3ff0_0000_0000_0000 ∷ [])
    ∷ (100000000 ∷ 0 ∷ 2 ∷ 2 ∷ 0 ∷ 0 ∷ 1 ∷ 1 ∷ 100000000 ∷ 0 ∷ 4294967296 ∷ 2 ∷ 2 ∷ 1 ∷ 100000000 ∷ 0 ∷ 4294967296 ∷ 2 ∷ 0 ∷ 1 ∷ 1 ∷ 0 ∷ 1 ∷ 2 ∷ 1 ∷ 0 ∷ [])
    ∷ (0x3fc1_3415_7700_f26e ∷ 0 ∷ 0x3fe0_0000_0000_0000 ∷ 0x3fc8_442e_b7b6_c458 ∷ 0 ∷ 0x3fa1_3415_7700_f26d ∷ 0x3fa8_442e_b7b6_c456 ∷ 0x3fef_1cd9_ee73_06c2 ∷ [])
    ∷ (0x3fc1_3415_7700_f26e ∷ 0x3ff0_0000_0000_0000 ∷ 0x3ff0_0000_0000_0000 ∷ 0x3fc8_442e_b7b6_c458 ∷ 0 ∷ 0x3fa1_3415_7700_f26d ∷ 0x3fa8_442e_b7b6_c456 ∷ 0x3fef_1cd9_ee73_06c2 ∷ [])
    ∷ (200000000 ∷ 0 ∷ 2 ∷ 2 ∷ 0 ∷ 0 ∷ 1 ∷ 1 ∷ 200000000 ∷ 0 ∷ 4294967296 ∷ 3 ∷ 2 ∷ 1 ∷ 200000000 ∷ 0 ∷ 4294967296 ∷ 3 ∷ 0 ∷ 1 ∷ 1 ∷ 0 ∷ 1 ∷ 2 ∷ 1 ∷ 0 ∷ [])
    ∷ (0x3fd3_fdee_93ad_5964 ∷ 0 ∷ 0x3fe0_0000_0000_0000 ∷ 0x3fe4_3328_c740_ad4e ∷ 0 ∷ 0x3f9d_5bd0_037e_62bc ∷ 0x3fb4_62d5_da8a_23c1 ∷ 0x3fea_b6d6_1a33_7608 ∷ [])
    ∷ (0x3fd3_fdee_93ad_5964 ∷ 0x3ff0_0000_0000_0000 ∷ 0x3ff0_0000_0000_0000 ∷ 0x3fe4_3328_c740_ad4e ∷ 0 ∷ 0x3f9d_5bd0_037e_62bc ∷ 0x3fb4_62d5_da8a_23c1 ∷ 0x3fea_b6d6_1a33_7608 ∷ [])
    ∷ (300000000 ∷ 0 ∷ 2 ∷ 2 ∷ 0 ∷ 0 ∷ 1 ∷ 1 ∷ 300000000 ∷ 0 ∷ 4294967296 ∷ 4 ∷ 2 ∷ 1 ∷ 300000000 ∷ 0 ∷ 4294967296 ∷ 4 ∷ 0 ∷ 1 ∷ 1 ∷ 0 ∷ 1 ∷ 2 ∷ 1 ∷ 0 ∷ [])
    ∷ (0x3fe1_857a_d46d_0c5d ∷ 0 ∷ 0x3fe0_0000_0000_0000 ∷ 0x3ff2_aefc_766d_e984 ∷ 0 ∷ 0x3f9d_66ca_3d22_3ee9 ∷ 0x3fb6_eb8c_1737_ab7c ∷ 0x3fe4_b8ed_bf9e_692e ∷ [])
    ∷ (0x3fe1_857a_d46d_0c5d ∷ 0x3ff0_0000_0000_0000 ∷ 0x3ff0_0000_0000_0000 ∷ 0x3ff2_aefc_766d_e984 ∷ 0 ∷ 0x3f9d_66ca_3d22_3ee9 ∷ 0x3fb6_eb8c_1737_ab7c ∷ 0x3fe4_b8ed_bf9e_692e ∷ [])
    ∷ (1 ∷ 0 ∷ 0 ∷ 0 ∷ [])
    ∷ []

pub swap_is : shown (lagging 2) swap_run ≡ swap_shows
unfolding shown swap_run
swap_is = refl

-- the engine follows one person under two ids: the window of one goes into the other, and its two losers become clutter
pub merge_run : List (Op Body)
merge_run =
    pushed (body 0 (sight 0x3ff8_0000_0000_0000 0xbfd0_0000_0000_0000 0 8 ∷ sight 0xbfe8_0000_0000_0000 0xbfe0_0000_0000_0000 0x3ff8_0000_0000_0000 7 ∷ []))
    ∷ pushed (body 100000000 (sight 0xbff4_0000_0000_0000 0x3ff8_0000_0000_0000 0x3ff8_0000_0000_0000 8 ∷ sight 0xbff4_0000_0000_0000 0x3ff0_0000_0000_0000 0x3ff0_0000_0000_0000 7 ∷ []))
    ∷ taken ∷ taken ∷ []

abbrev pub merge_shows : List (List ℕ)
merge_shows =
    (0 ∷ 0 ∷ 1 ∷ 2 ∷ 0 ∷ 0 ∷ 1 ∷ 0 ∷ 0 ∷ 0 ∷ 4294967296 ∷ 1 ∷ 0 ∷ 0 ∷ 2 ∷ 0 ∷ 1 ∷ 1 ∷ 1 ∷ 0 ∷ [])
    ∷ (0xbfe8_0000_0000_0000 ∷ 0xbfe0_0000_0000_0000 ∷ 0x3ff8_0000_0000_0000 ∷ 0 ∷ 0 ∷ 0x3fb0_0000_0000_0000 ∷ 0 ∷ 0x3ff0_0000_0000_0000 ∷ [])
    ∷ (100000000 ∷ 0 ∷ 1 ∷ 2 ∷ 0 ∷ 0 ∷ 1 ∷ 1 ∷ 100000000 ∷ 0 ∷ 4294967296 ∷ 2 ∷ 0 ∷ 0 ∷ 2 ∷ 0 ∷ 1 ∷ 1 ∷ 1 ∷ 0 ∷ [])
    ∷ (0xbff0_4d05_5dc0_3c9c ∷ 0x3fd3_9c40_6502_d74a ∷ 0x3ff4_0000_0000_0000 ∷ 0xbfd8_442e_b7b6_c458 ∷ 0x3ff2_3323_09c9_1342 ∷ 0x3fa1_3415_7700_f26d ∷ 0x3fa8_442e_b7b6_c456 ∷ 0x3fef_1cd9_ee73_06c2 ∷ [])
    ∷ (0 ∷ 1 ∷ 0 ∷ 0 ∷ [])
    ∷ []

pub merge_is : shown (lagging 2) merge_run ≡ merge_shows
unfolding shown merge_run
merge_is = refl

-- the engine goes on from one person with another: the third detection starts a track of its own, and what comes after
-- it gets the id after that
pub split_run : List (Op Body)
split_run =
    pushed (body 0 (sight 0xbff8_0000_0000_0000 0x3fe0_0000_0000_0000 0x3ff0_0000_0000_0000 7 ∷ []))
    ∷ pushed (body 100000000 (sight 0xbfd0_0000_0000_0000 0x3fe0_0000_0000_0000 0x3ff0_0000_0000_0000 7 ∷ []))
    ∷ pushed (body 200000000 (sight 0x3ff4_0000_0000_0000 0xbff0_0000_0000_0000 0x3ff0_0000_0000_0000 7 ∷ []))
    ∷ pushed (body 300000000 (sight 0x4010_0000_0000_0000 0x4010_0000_0000_0000 0x3ff0_0000_0000_0000 9 ∷ []))
    ∷ taken ∷ taken ∷ []

abbrev pub split_shows : List (List ℕ)
split_shows =
    (0 ∷ 0 ∷ 1 ∷ 1 ∷ 0 ∷ 0 ∷ 1 ∷ 0 ∷ 0 ∷ 0 ∷ 4294967296 ∷ 1 ∷ 0 ∷ 1 ∷ 1 ∷ 0 ∷ [])
    ∷ (0xbff8_0000_0000_0000 ∷ 0x3fe0_0000_0000_0000 ∷ 0x3ff0_0000_0000_0000 ∷ 0 ∷ 0 ∷ 0x3fb0_0000_0000_0000 ∷ 0 ∷ 0x3ff0_0000_0000_0000 ∷ [])
    ∷ (100000000 ∷ 0 ∷ 1 ∷ 1 ∷ 0 ∷ 0 ∷ 1 ∷ 1 ∷ 100000000 ∷ 0 ∷ 4294967296 ∷ 2 ∷ 0 ∷ 1 ∷ 1 ∷ 0 ∷ [])
    ∷ (0xbfea_7ee5_2b3e_d0f6 ∷ 0x3fe0_0000_0000_0000 ∷ 0x3ff0_0000_0000_0000 ∷ 0x3fee_553a_65a4_756e ∷ 0 ∷ 0x3fa1_3415_7700_f26d ∷ 0x3fa8_442e_b7b6_c456 ∷ 0x3fef_1cd9_ee73_06c2 ∷ [])
    ∷ (200000000 ∷ 0 ∷ 2 ∷ 1 ∷ 0 ∷ 0 ∷ 1 ∷ 1 ∷ 100000000 ∷ 100000000 ∷ 4294967296 ∷ 2 ∷ 2 ∷ 0 ∷ 200000000 ∷ 0 ∷ 4294967296 ∷ 1 ∷ 0 ∷ 2 ∷ 1 ∷ 0 ∷ [])
    ∷ (0xbfe7_765f_5447_f86b ∷ 0x3fe0_0000_0000_0000 ∷ 0x3ff0_0000_0000_0000 ∷ 0x3fee_553a_65a4_756e ∷ 0 ∷ 0x3fab_1ebd_ec39_451a ∷ 0x3fc2_d4e7_f8d4_05b6 ∷ 0x3ff0_5b39_c406_502e ∷ [])
    ∷ (0x3ff4_0000_0000_0000 ∷ 0xbff0_0000_0000_0000 ∷ 0x3ff0_0000_0000_0000 ∷ 0 ∷ 0 ∷ 0x3fb0_0000_0000_0000 ∷ 0 ∷ 0x3ff0_0000_0000_0000 ∷ [])
    ∷ (300000000 ∷ 0 ∷ 3 ∷ 1 ∷ 0 ∷ 0 ∷ 1 ∷ 1 ∷ 100000000 ∷ 200000000 ∷ 4294967296 ∷ 2 ∷ 2 ∷ 0 ∷ 200000000 ∷ 100000000 ∷ 4294967296 ∷ 1 ∷ 3 ∷ 0 ∷ 300000000 ∷ 0 ∷ 4294967296 ∷ 1 ∷ 0 ∷ 3 ∷ 1 ∷ 0 ∷ [])
    ∷ (0xbfe4_6dd9_7d51_1fe0 ∷ 0x3fe0_0000_0000_0000 ∷ 0x3ff0_0000_0000_0000 ∷ 0x3fee_553a_65a4_756e ∷ 0 ∷ 0x3fb7_c09c_b721_3779 ∷ 0x3fd0_1e4d_a6fb_e57d ∷ 0x3ff1_2806_90d3_1cfb ∷ [])
    ∷ (0x3ff4_0000_0000_0000 ∷ 0xbff0_0000_0000_0000 ∷ 0x3ff0_0000_0000_0000 ∷ 0 ∷ 0 ∷ 0x3fb2_9a48_5cd7_b901 ∷ 0x3fba_3d70_a3d7_0a40 ∷ 0x3ff0_cccc_cccc_cccd ∷ [])
    ∷ (0x4010_0000_0000_0000 ∷ 0x4010_0000_0000_0000 ∷ 0x3ff0_0000_0000_0000 ∷ 0 ∷ 0 ∷ 0x3fb0_0000_0000_0000 ∷ 0 ∷ 0x3ff0_0000_0000_0000 ∷ [])
    ∷ (0 ∷ 0 ∷ 1 ∷ 0 ∷ [])
    ∷ []

pub split_is : shown (lagging 2) split_run ≡ split_shows
unfolding shown split_run
split_is = refl
