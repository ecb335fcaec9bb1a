-- Calls of a refiner or of a smoother, one after another, with any buffers: what is handed on, what a caller sees, and
-- what it is due. Definitions only.
use Rattle.std.specs.Prelude.{ℕ, suc, ◌≡◌, Bool, true, false, cond, length, take, Float}
use mathlib.Core.List.{List, [], ◌∷◌, ◌++◌, map, flat_map}
use Rattle.buffers.specs.Answer.{Op, taken, Reply, Written, roomy, refusal_of, checked, answer_of, words_after, numbers_after, Answer, Refused, Held, Frame}
use Rattle.buffers.specs.Run.{Run, accepted_by, run_from}
use Rattle.fgo_spec.specs.Lists.{keep}
use Rattle.fgo_spec.specs.Rule.{All}

-- ---- a call

-- what is sent, a push of something or a take, with the memory and the two buffers for a frame that are lent; and what
-- comes back: the answer, the value that is handed on and the memory that goes with it, and the two buffers
pub record Call (A R M : Type 0) : Type 0 where
  pub sent : Op A
  pub lent : M
  pub words : List ℕ
  pub numbers : List Float
  pub answer : Answer
  pub value : R
  pub memory : M
  pub words_back : List ℕ
  pub numbers_back : List Float

-- what a call wrote: where it answers a frame, as many words and numbers as it says, off the start of the buffers
abbrev pub written_by : Answer → List ℕ → List Float → List Written
written_by (Refused n) ws ns = []
written_by Held ws ns = []
written_by (Frame w n) ws ns = record { words = take w ws; numbers = take n ns } ∷ []

module _ {A R M : Type 0} where
  -- ---- calls one after another

  -- each is given the value that the one before it gave back, and keeps to its contract after the memory that came with
  -- it
  unfoldable pub Calls : (R → M → Call A R M → Type 0) → R → M → List (Call A R M) → Type 0
  Calls Keeps r m [] = Unit {0}
  Calls Keeps r m (k ∷ ks) = Keeps r m k × Calls Keeps k.value k.memory ks

  -- the value and the memory after them
  unfoldable pub left : R → M → List (Call A R M) → R × M
  left r m [] = (r, m)
  left r m (k ∷ ks) = left k.value k.memory ks

  -- ---- what a caller sees

  -- the output buffers are long enough
  abbrev pub enough : Call A R M → Bool
  enough k = roomy (length k.words) (length k.numbers)

  -- the pushes and takes among the calls: all but those that 4 refuses
  unfoldable pub operations : List (Call A R M) → List (Op A)
  operations ks = map (λ k. k.sent) (keep enough ks)

  -- the frames that the calls accepted, in order
  unfoldable pub accepted : {F : Type 0} → (A → F) → List (Call A R M) → List F
  accepted frame ks = flat_map (λ k. accepted_by frame k.sent (refusal_of k.answer)) ks

  -- what the calls wrote, in order
  unfoldable pub wrote : List (Call A R M) → List Written
  wrote ks = flat_map (λ k. written_by k.answer k.words_back k.numbers_back) ks

  -- "`finish` is take, repeated until 13"
  unfoldable pub Finish : List (Call A R M) → Type 0
  Finish [] = ⊥
  Finish (k ∷ []) = (k.sent ≡ taken) × (k.answer ≡ Refused 13)
  Finish (k ∷ l ∷ ks) = (k.sent ≡ taken) × (k.answer ≡ Refused 13 → ⊥) × Finish (l ∷ ks)

  -- it ends: takes with buffers that are long enough, one more than frames are held
  pub record Ending (held : ℕ) (fs : List (Call A R M)) : Type 0 where
    pub taking : All (λ k. (k.sent ≡ taken) × (enough k ≡ true)) fs
    pub once_more : length fs ≡ suc held

  -- ---- what is due

  -- what is pushed says a frame; a state has a reply to each push and take; a frame is written so; a value and its
  -- memory mean a state
  module _ {F E S : Type 0} (frame : A → F) (reply : S → Op A → Reply E × S) (start : S) (written : E → Written) (state_of : R → M → S) where
    -- pushes and takes from the start on
    abbrev ran : List (Op A) → Run F E S
    ran ops = run_from frame reply start ops

    -- the reply to a call that comes after the pushes and takes ops: 4 where a buffer is short, else that of the state
    -- then
    abbrev pub due_after : List (Op A) → Call A R M → Reply E
    due_after ops k = let s = (ran ops).state in (checked (cond (enough k) 0 4) s (reply s k.sent)).0

    -- what holds of a call that comes after the pushes and takes ops and is given the value r
    pub record Served (ops : List (Op A)) (r : R) (k : Call A R M) : Type 0 where
      -- the answer is the due one; a frame that is due is written at the start of the buffers, and "The rest stays";
      -- else nothing is written
      pub answer : k.answer ≡ answer_of written (due_after ops k)
      pub words : k.words_back ≡ words_after written (due_after ops k) k.words
      pub numbers : k.numbers_back ≡ numbers_after written (due_after ops k) k.numbers
      -- the buffers keep their lengths: a frame always has room
      pub room : (length k.words_back ≡ length k.words) × (length k.numbers_back ≡ length k.numbers)
      -- 2 and 3 are never answered, and 4 just where a buffer is short
      pub sound : (k.answer ≡ Refused 2 → ⊥) × (k.answer ≡ Refused 3 → ⊥)
      pub short : (enough k ≡ false → k.answer ≡ Refused 4) × (k.answer ≡ Refused 4 → enough k ≡ false)
      -- "After it the state and the lent buffers hold what they held before the call"
      pub refusals :
          (n : ℕ) → k.answer ≡ Refused n →
          (k.value ≡ r) × (k.memory ≡ k.lent) × (k.words_back ≡ k.words) × (k.numbers_back ≡ k.numbers)

    -- what holds of the calls ks that begin with the value r and the memory m
    pub record Delivered (r : R) (m : M) (ks : List (Call A R M)) : Type 0 where
      -- every call
      pub every :
          (past : List (Call A R M)) (k : Call A R M) (later : List (Call A R M)) → ks ≡ past ++ (k ∷ later) →
          Served (operations past) (left r m past).0 k
      -- the frames written are those emitted, one for one and in order
      pub frames : wrote ks ≡ map written (ran (operations ks)).emitted
      -- and so are the frames accepted
      pub taken_in : accepted frame ks ≡ (ran (operations ks)).accepted
      -- the value and its memory mean the state
      pub state : state_of (left r m ks).0 (left r m ks).1 ≡ (ran (operations ks)).state
