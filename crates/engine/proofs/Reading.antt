-- What the readers answer: row by row on any bytes, and what that is for a body that passes, for any layout. Assumes
-- nothing.
use Prim.Native.Nat.{ℕ, ◌+◌, ◌*◌, ◌<◌, ◌≤◌}
use mathlib.Core.Path.{◌≡◌, refl, sym, ap, ◌∙◌}
use mathlib.Core.List.{List}
use mathlib.Core.Bool.{Bool, true, false, cond}
use native.Mathlib.Omega.{arith}
use native.Mathlib.Nat.{mul-suc, mul-le-mul_left}
use lib.ListN.{length, get_or}
use lib.Dec.{leb, ltb}
use borrow.Author.Tests.{leb-true, leb-false, le-leb, lt-leb, le-ltb}
use Rattle.std.specs.Prelude.{Option, None, Some}
use Rattle.std.specs.Option.{MatchOption}
use Rattle.std.proofs.lemmas.Option.{none-some, same_Some}
use Rattle.bounds.specs.Bounds.{ENGINE, SENSOR, OBSERVATION, ASSOCIATION}
use Rattle.engine.specs.Frame.{no_track, no_observation, no_association}
use Rattle.engine.specs.Body.{Layout, refusal, rows, frame_of, row_read, time_read, sensor_read, track_read, observation_read, association_read}
use Rattle.engine.proofs.Passing.{sized-body, row_at, row_past}

-- an answer, and what it is where P holds
pub and_where : {A P : Type 0} {r x y : A} → (P → x ≡ y) → r ≡ x → (r ≡ x) × (P → r ≡ y)
and_where f e = (e, λ p. e ∙ f p)

-- a row past the last, and one that is there
module _ {A : Type 0} (none : A) (at : ℕ → A) (s : List ℕ) (w n o i : ℕ) where
  pub read_past : n ≤ i → none ≡ row_read none at s w n o i
  unfolding row_read
  read_past h = rw (le-leb n i h)

  pub read_there : i < n → o + w * i + w ≤ length s → at (o + w * i) ≡ row_read none at s w n o i
  unfolding row_read
  read_there h g = rw (lt-leb n i h, le-ltb (length s) (o + w * i + w) g)

  -- where the bytes of all n are there, a row is read as the list of them has it
  read-rows : o + w * n ≤ length s → row_read none at s w n o i ≡ get_or (rows (λ j. at (o + w * j)) 0 n) i none
  read-rows h = go (leb n i) refl
    where
      go : (b : Bool) → leb n i ≡ b → row_read none at s w n o i ≡ get_or (rows (λ j. at (o + w * j)) 0 n) i none
      go true e = let g = leb-true n i e in sym (read_past g) ∙ sym (row_past _ n i none g)
      go false e =
          let g = leb-false n i e in
          sym (read_there g (omega (arith, mul-le-mul_left w g, mul-suc w i))) ∙ sym (row_at _ n i none g)

  -- the row whose place is told: what is answered for none, and what of its place
  pub read_none : None ≡ row_read None Some s w n o i → none ≡ row_read none at s w n o i
  unfolding row_read
  read_none e = go (leb n i) (ltb (length s) (o + w * i + w)) e
    where
      go : (a b : Bool) → None ≡ cond a None (cond b None (Some (o + w * i))) → none ≡ cond a none (cond b none (at (o + w * i)))
      go true b e = refl
      go false true e = refl
      go false false e = absurd (none-some _ e)

  pub read_some : (x : ℕ) → Some x ≡ row_read None Some s w n o i → at x ≡ row_read none at s w n o i
  unfolding row_read
  read_some x e = go (leb n i) (ltb (length s) (o + w * i + w)) e
    where
      go : (a b : Bool) → Some x ≡ cond a None (cond b None (Some (o + w * i))) → at x ≡ cond a none (cond b none (at (o + w * i)))
      go true b e = absurd (none-some _ (sym e))
      go false true e = absurd (none-some _ (sym e))
      go false false e = ap at (same_Some _ _ e)

  -- and of either
  pub read_by : {r d : A} {P : ℕ → Type 0} (q : Option ℕ) → q ≡ row_read None Some s w n o i → MatchOption q (r ≡ d) P → d ≡ none → ((x : ℕ) → P x → r ≡ at x) → r ≡ row_read none at s w n o i
  read_by None e m z k = m ∙ z ∙ read_none e
  read_by (Some x) e m z k = k x m ∙ read_some x e

-- ---- a body that passes

module _ (k : Layout) (s : List ℕ) where
  pub time_passed : refusal k s ≡ 0 → time_read k s ≡ (frame_of k s).time
  unfolding frame_of
  time_passed h = rw (le-ltb (length s) k.head (sized-body k s h).long)

  pub sensor_passed : (i : ℕ) → refusal k s ≡ 0 → sensor_read k s i ≡ get_or (frame_of k s).sensors i 0
  unfolding frame_of
  sensor_passed i h = read-rows _ _ s SENSOR _ _ i (omega (arith, (sized-body k s h).exact))

  pub track_passed : (i : ℕ) → refusal k s ≡ 0 → track_read k s i ≡ get_or (frame_of k s).tracks i no_track
  unfolding frame_of
  track_passed i h = read-rows _ _ s ENGINE _ _ i (omega (arith, (sized-body k s h).exact))

  pub observation_passed : (i : ℕ) → refusal k s ≡ 0 → observation_read k s i ≡ get_or (frame_of k s).observations i no_observation
  unfolding frame_of
  observation_passed i h = read-rows _ _ s OBSERVATION _ _ i (omega (arith, (sized-body k s h).exact))

  pub association_passed : (j : ℕ) → refusal k s ≡ 0 → association_read k s j ≡ get_or (frame_of k s).associations j no_association
  unfolding frame_of
  association_passed j h = read-rows _ _ s ASSOCIATION _ _ j (omega (arith, (sized-body k s h).exact))
