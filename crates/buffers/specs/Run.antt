-- What any list of pushes and takes leads to, refused ones included: of a refiner and of a smoother alike. Definitions
-- only.
use Rattle.std.specs.Prelude.{ℕ}
use mathlib.Core.List.{List, [], ◌∷◌, ◌++◌, foldl}
use Rattle.std.proofs.Math.Option.{Option, none, some}
use Rattle.buffers.specs.Answer.{Op, pushed, taken, Reply, refused, waits, gives, refusal_in}

-- what has happened: the state, the frames accepted and the frames emitted, in order
pub record Run (F E S : Type 0) : Type 0 where
  pub state : S
  pub accepted : List F
  pub emitted : List E

-- nothing has
abbrev pub begin : {F E S : Type 0} → S → Run F E S
begin s = record { state = s; accepted = []; emitted = [] }

-- the frame that a reply gives
abbrev pub emitted_by : {E : Type 0} → Reply E → List E
emitted_by (refused n) = []
emitted_by waits = []
emitted_by (gives e) = e ∷ []

-- the frame of what is pushed, where there is no refusal
abbrev pub accepted_by : {A F : Type 0} → (A → F) → Op A → Option ℕ → List F
accepted_by frame (pushed a) none = frame a ∷ []
accepted_by frame (pushed a) (some n) = []
accepted_by frame taken r = []

-- what is pushed says a frame, and a state has a reply to each push and take, and goes over to another
module _ {A F E S : Type 0} (frame : A → F) (reply : S → Op A → Reply E × S) where
  -- one push or take more
  unfoldable pub step : Run F E S → Op A → Run F E S
  step r o =
      let a = reply r.state o in
      record {
        state = a.1;
        accepted = r.accepted ++ accepted_by frame o (refusal_in a.0);
        emitted = r.emitted ++ emitted_by a.0;
      }

  -- pushes and takes from a state on, in order
  unfoldable pub run_from : S → List (Op A) → Run F E S
  run_from s ops = foldl step (begin s) ops
