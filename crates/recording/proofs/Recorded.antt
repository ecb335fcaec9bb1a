-- What a recording that passes tells. Assumes nothing.
use Prim.Native.Nat.{ℕ, zero, suc, ◌+◌, ◌*◌, ◌<◌, ◌≤◌}
use mathlib.Core.Path.{◌≡◌, refl, subst}
use mathlib.Core.List.{List}
use mathlib.Core.Bool.{Bool, true, false, cond, not, ◌&&◌}
use native.Mathlib.Omega.{arith}
use native.Mathlib.Numerals.{add-one}
use lib.ListN.{length}
use lib.Dec.{eqb, ltb, leb}
use borrow.Author.Tests.{eqb-true, eqb-false, ltb-false, leb-true}
use Rattle.bounds.specs.Bounds.{CONTENTS, ENTRY, FRAMES, RECORDING}
use Rattle.engine.specs.declared.config.FgoConfig.{FgoConfig}
use Rattle.engine.specs.Config.{legal}
use Rattle.engine.specs.Body.{all}
use Rattle.engine.proofs.Every.{both, neither, all-at}
use Rattle.recording.specs.Recording.{Contents, Refused, Frames, count, offset, size, settings, start, ill_sized, fills, refusal, holds, contents_by, contents_of}

pub start-more : (s : List ℕ) (i : ℕ) → start s (i + 1) ≡ start s i + size s i
unfolding start
start-more s i = rw add-one

-- a body ends no later than those after it begin
pub start_grows : (s : List ℕ) (i n : ℕ) → i < n → start s i + size s i ≤ start s n
unfolding start
start_grows s i zero h = absurd (omega arith)
start_grows s i (suc n) h = grow (eqb i n) refl (λ g. start_grows s i n g)
  where
    grow : (t : Bool) → eqb i n ≡ t → (i < n → start s i + size s i ≤ start s n) → start s i + size s i ≤ start s n + size s n
    grow true e ih = let d = eqb-true i n e in rw d (omega arith)
    grow false e ih = let g = ih (omega (arith, eqb-false i n e)) in omega arith

-- one that 11 does not refuse
pub record Sized (s : List ℕ) : Type 0 where
  pub short : length s ≤ RECORDING
  pub few : count s ≤ FRAMES
  pub table : CONTENTS + ENTRY * count s ≤ length s

pub sized : (s : List ℕ) → ill_sized s ≡ false → Sized s
unfolding ill_sized
sized s h =
    let h1 = neither (ltb RECORDING (length s)) _ h in
    let h2 = neither (ltb FRAMES (count s)) _ h1.1 in
    record { short = ltb-false _ _ h1.0; few = ltb-false _ _ h2.0; table = ltb-false _ _ h2.1 }

-- one that 12 does not refuse
pub record Full (s : List ℕ) : Type 0 where
  pub places : (i : ℕ) → i < count s → offset s i ≡ start s i
  pub whole : start s (count s) ≡ length s

pub full : (s : List ℕ) → fills s ≡ true → Full s
unfolding fills
full s h =
    let g = both (all (λ i. eqb (offset s i) (start s i)) (count s)) (eqb (start s (count s)) (length s)) h in
    record { places = λ i l. eqb-true _ _ (all-at (λ i. eqb (offset s i) (start s i)) (count s) i g.0 l); whole = eqb-true _ _ g.1 }

-- what is so of the settings and the count that a recording gives
abbrev Given : Contents → Type 0
Given (Refused r) = Unit {0}
Given (Frames c n) = (legal c ≡ true) × (n ≤ FRAMES)

given : (s : List ℕ) → Given (contents_of s)
unfolding contents_of refusal
given s = go (ill_sized s) (fills s) (legal (settings s)) refl refl
  where
    go : (t u v : Bool) → ill_sized s ≡ t → legal (settings s) ≡ v → Given (contents_by (cond t 11 (cond (not u) 12 (cond (not v) 1 0))) (settings s) (count s))
    go true u v e f = tt
    go false false v e f = tt
    go false true false e f = tt
    go false true true e f = (f, (sized s e).few)

-- one that is not refused has legal settings, and at most FRAMES frames
pub passed : (s : List ℕ) (c : FgoConfig) (n : ℕ) → contents_of s ≡ Frames c n → (legal c ≡ true) × (n ≤ FRAMES)
passed s c n e = subst Given e (given s)

-- what an entry that a recording holds tells
pub held : (s : List ℕ) (i : ℕ) → holds s i ≡ true → (CONTENTS + ENTRY * i + ENTRY ≤ length s) × (offset s i + size s i ≤ length s)
unfolding holds
held s i e =
    let a = both (leb (CONTENTS + ENTRY * i + ENTRY) (length s)) (ltb i (count s) && leb (offset s i + size s i) (length s)) e in
    let b = both (ltb i (count s)) (leb (offset s i + size s i) (length s)) a.1 in
    (leb-true _ _ a.0, leb-true _ _ b.1)
