-- What refiner and smoother answer alike: an opening, and a push or a take, with the buffers that are lent for a frame.
-- Definitions only.
use Rattle.std.specs.Prelude.{ℕ, zero, suc, ◌≤◌, ◌≡◌, Bool, ◌&&◌, List, length, leb, Float, Result, Ok, Err, Some, None}
use Rattle.std.specs.Prelude.{Option as Maybe}
use Rattle.std.proofs.Math.Option.{Option, none, some}
use Rattle.bounds.specs.Bounds.{WORDS, NUMBERS}
use Rattle.refusals.specs.declared.Refusal.{Refusal}
use Rattle.refusals.specs.Refusals as refusals
use Rattle.buffers.specs.declared.FrameSize.{FrameSize}
use Rattle.buffers.specs.Buffers.{over}

-- ---- opening

-- what an opening answers: a refusal's number, or a state
pub data Opening (S : Type 0) : Type 0 where
  unopened : ℕ → Opening S
  opened : S → Opening S

-- what an opening in code gives, so read
abbrev pub opening_of : {S : Type 0} → Result S Refusal → Opening S
opening_of (Ok s) = opened s
opening_of (Err r) = unopened (refusals.number_of r)

-- by the refusal that the opening gets, 0 for none
abbrev pub opened_by : {S : Type 0} → ℕ → S → Opening S
opened_by zero s = opened s
opened_by (suc n) s = unopened (suc n)

-- what an opening leaves, by the refusal that it gets: what is new, or what there was
abbrev pub left_by : {A : Type 0} → ℕ → A → A → A
left_by zero new old = new
left_by (suc n) new old = old

-- ---- push and take

-- what is asked: a push of something, or a take
pub data Op (A : Type 0) : Type 0 where
  pushed : A → Op A
  taken : Op A

-- what is answered: a refusal's number, "held", or a frame
pub data Reply (E : Type 0) : Type 0 where
  refused : ℕ → Reply E
  waits : Reply E
  gives : E → Reply E

-- the number of a refusal
abbrev pub refusal_in : {E : Type 0} → Reply E → Option ℕ
refusal_in (refused n) = some n
refusal_in waits = none
refusal_in (gives e) = none

-- an answer, by value: a refusal's number, "held", or a frame of so many words and numbers
pub data Answer : Type 0 where
  Refused : ℕ → Answer
  Held : Answer
  Frame : ℕ → ℕ → Answer

-- what push and take answer in code, so read
abbrev pub answer_in : Result (Maybe FrameSize) Refusal → Answer
answer_in (Err r) = Refused (refusals.number_of r)
answer_in (Ok None) = Held
answer_in (Ok (Some f)) = Frame f.words f.numbers

-- a frame in "Emitted words" and "Numbers": the two lists at their exact length
pub record Written : Type 0 where
  pub words : List ℕ
  pub numbers : List Float

-- 4: "output buffers under 910 words or 5,408 numbers" are not
abbrev pub roomy : ℕ → ℕ → Bool
roomy words numbers = leb WORDS words && leb NUMBERS numbers

-- that of an answer
abbrev pub refusal_of : Answer → Option ℕ
refusal_of (Refused n) = some n
refusal_of Held = none
refusal_of (Frame w n) = none

-- by a refusal, 0 for none, that comes before: it leaves the state s; else a is the reply, and the state after it
abbrev pub checked : {E S : Type 0} → ℕ → S → Reply E × S → Reply E × S
checked zero s a = a
checked (suc n) s a = (refused (suc n), s)

-- how a frame is written
module _ {E : Type 0} (written : E → Written) where
  -- "Push gives a frame, or "held" with no output written": a reply, by value
  abbrev pub answer_of : Reply E → Answer
  answer_of (refused n) = Refused n
  answer_of waits = Held
  answer_of (gives e) = Frame (length (written e).words) (length (written e).numbers)

  -- the buffer of words after a reply: a frame that is given stands at its start, and "The rest stays"
  abbrev pub words_after : Reply E → List ℕ → List ℕ
  words_after (refused n) ws = ws
  words_after waits ws = ws
  words_after (gives e) ws = over 0 (written e).words ws

  -- the buffer of numbers after a reply, likewise
  abbrev pub numbers_after : Reply E → List Float → List Float
  numbers_after (refused n) ns = ns
  numbers_after waits ns = ns
  numbers_after (gives e) ns = over 0 (written e).numbers ns

  -- a frame that is given is no longer than the buffers must be
  abbrev pub Small : Reply E → Type 0
  Small (refused n) = Unit {0}
  Small waits = Unit {0}
  Small (gives e) = (length (written e).words ≤ WORDS) × (length (written e).numbers ≤ NUMBERS)

-- "After it the state and the lent buffers hold what they held before the call": of a value r that is handed on, and
-- the memory m that goes with it
abbrev pub Unchanged : {E R M : Type 0} → Reply E → R → M → R → M → Type 0
Unchanged (refused n) r m r' m' = (r' ≡ r) × (m' ≡ m)
Unchanged waits r m r' m' = Unit {0}
Unchanged (gives e) r m r' m' = Unit {0}

-- A call that is given the value r, the memory m and the buffers ws and ns, and is due the reply and the state a: what
-- it answers, and what it leaves.
module _ {E S R M : Type 0} (written : E → Written) (state_of : R → M → S) where
  pub record Ends (a : Reply E × S) (r : R) (m : M) (ws : List ℕ) (ns : List Float)
      (answer : Answer) (r' : R) (m' : M) (ws' : List ℕ) (ns' : List Float) : Type 0 where
    pub answered : answer ≡ answer_of written a.0
    pub state : state_of r' m' ≡ a.1
    pub words : ws' ≡ words_after written a.0 ws
    pub numbers : ns' ≡ numbers_after written a.0 ns
    pub small : Small written a.0
    pub unchanged : Unchanged a.0 r m r' m'
