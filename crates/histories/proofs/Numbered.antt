-- A refiner's push and take are refused by 5 and above. Assumes nothing.
use native.Mathlib.Omega.{arith}
use mathlib.Core.Bool.{Bool, true, false, cond, ◌&&◌}
use mathlib.Core.List.{List, [], ◌∷◌}
use lib.ListN.{length}
use lib.Dec.{ltb}
use Rattle.buffers.specs.Answer.{Op, pushed, taken}
use Rattle.engine.specs.declared.config.FgoConfig.{FgoConfig}
use Rattle.engine.specs.Config.{lag}
use Rattle.engine.specs.Frame.{Frame}
use Rattle.engine.specs.Body.{Body, layout, head_ok, tracks_ok, associations_ok, observations_ok, indices_ok, refusal, frame_in, decode, decoded_by}
use Rattle.fgo_spec.specs.Windows.{Scan}
use Rattle.fgo_spec.specs.Refiner.{State, arrive, freeze_oldest, settle, full8, full9, full10, first_of, push_by, push_read, push_frame, push, takes, reply}
use Rattle.histories.proofs.CallsLaw.{Numbered}

module _ (c : FgoConfig) where
  released : (t : State) (l : List Scan) → Numbered (freeze_oldest c t l).0
  unfolding freeze_oldest
  released t [] = omega arith
  released t (s ∷ ss) = tt

  settled : (t : State) (b : Bool) → Numbered (settle c t b).0
  unfolding settle
  settled t true = released t t.scans
  settled t false = tt

  full : (t : State) (f : Frame) (a b d : Bool) → Numbered (push_by (first_of a b d) c t f).0
  full t f true b d = omega arith
  full t f false true d = omega arith
  full t f false false true = omega arith
  full t f false false false = let u = arrive c t f in settled u (ltb (lag c) (length u.scans))

  read : (t : State) (f : Frame) (a b d : Bool) → Numbered (push_read c t (decoded_by (cond a (cond b (cond d 0 7) 6) 5) f)).0
  unfolding push_frame
  read t f true true true = full t f (full8 t) (full9 t f) (full10 t f)
  read t f true true false = omega arith
  read t f true false d = omega arith
  read t f false b d = omega arith

  pub numbered : (t : State) (o : Op Body) → Numbered (reply c t o).0
  unfolding push decode refusal takes
  numbered t (pushed b) =
      let k = layout b in
      let s = b.bytes in
      read t (frame_in b) (head_ok k s && (tracks_ok k s && associations_ok k s)) (observations_ok k s) (indices_ok k s)
  numbered t taken = released t t.scans
