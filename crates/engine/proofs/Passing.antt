-- What a body that passes tells, and the rows of a body, for any layout. Assumes nothing.
use Prim.Native.Nat.{ℕ, zero, suc, ◌+◌, ◌<◌, ◌≤◌}
use mathlib.Core.Path.{◌≡◌, refl}
use mathlib.Core.List.{List}
use mathlib.Core.Bool.{Bool, true, false, cond, ◌&&◌}
use native.Mathlib.Omega.{arith}
use native.Mathlib.Nat.{zero-add}
use lib.ListN.{length, get_or, get_or-eq_default}
use lib.Dec.{eqb}
use borrow.Author.Tests.{eqb-true, leb-true}
use Rattle.bounds.specs.Bounds.{ENGINES, SENSORS}
use Rattle.engine.specs.Body.{Layout, code_ok, time_ok, zeros_ok, track_count, sensor_count, observation_count, association_count, size, time, head_ok, tracks_ok, associations_ok, observations_ok, indices_ok, refusal, rows}
use Rattle.engine.proofs.Every.{both}

-- what the header's test tells
pub record Sized (k : Layout) (s : List ℕ) : Type 0 where
  pub long : k.head ≤ length s
  pub mode : code_ok (get_or s 0 0) ≡ true
  pub tracks : track_count k s ≤ ENGINES
  pub observations : observation_count k s ≤ k.observations
  pub associations : association_count k s ≤ k.associations
  pub sensors : sensor_count k s ≤ cond (eqb (track_count k s) 0) 0 SENSORS
  pub zeros : zeros_ok k.zeros s ≡ true
  pub time : time_ok (time k s) ≡ true
  pub exact : length s ≡ size k s

pub sized : (k : Layout) (s : List ℕ) → head_ok k s ≡ true → Sized k s
unfolding head_ok
sized k s h =
    let h1 = both _ _ h in
    let h2 = both _ _ h1.1 in
    let h3 = both _ _ h2.1 in
    let h4 = both _ _ h3.1 in
    let h5 = both _ _ h4.1 in
    let h6 = both _ _ h5.1 in
    let h7 = both (zeros_ok k.zeros s) (time_ok (time k s) && eqb (length s) (size k s)) h6.1 in
    let h8 = both (time_ok (time k s)) (eqb (length s) (size k s)) h7.1 in
    record {
      long = leb-true _ _ h1.0;
      mode = h2.0;
      tracks = leb-true _ _ h3.0;
      observations = leb-true _ _ h4.0;
      associations = leb-true _ _ h5.0;
      sensors = leb-true _ _ h6.0;
      zeros = h7.0;
      time = h8.0;
      exact = eqb-true _ _ h8.1;
    }

-- no more sensors than there may be, with tracks or without
pub few_sensors : {k : Layout} {s : List ℕ} → Sized k s → sensor_count k s ≤ SENSORS
few_sensors {k} {s} h = go (eqb (track_count k s) 0) h.sensors
  where
    go : (t : Bool) → sensor_count k s ≤ cond t 0 SENSORS → sensor_count k s ≤ SENSORS
    go true l = omega arith
    go false l = l

pub record Passed (k : Layout) (s : List ℕ) : Type 0 where
  pub head : head_ok k s ≡ true
  pub tracks : tracks_ok k s ≡ true
  pub associations : associations_ok k s ≡ true
  pub observations : observations_ok k s ≡ true
  pub indices : indices_ok k s ≡ true

pick : (a b d : Bool) → ◌≡◌ {A = ℕ} (cond a (cond b (cond d 0 7) 6) 5) 0 → (a ≡ true) × (b ≡ true) × (d ≡ true)
pick true true true e = (refl, refl, refl)
pick true true false e = absurd (omega arith)
pick true false d e = absurd (omega arith)
pick false b d e = absurd (omega arith)

pub passed_all : (k : Layout) (s : List ℕ) → refusal k s ≡ 0 → Passed k s
unfolding refusal
passed_all k s e =
    let p = pick (head_ok k s && (tracks_ok k s && associations_ok k s)) (observations_ok k s) (indices_ok k s) e in
    let a = both _ _ p.0 in
    let b = both _ _ a.1 in
    record { head = a.0; tracks = b.0; associations = b.1; observations = p.1; indices = p.2 }

pub sized-body : (k : Layout) (s : List ℕ) → refusal k s ≡ 0 → Sized k s
sized-body k s e = sized k s (passed_all k s e).head

-- ---- rows

pub length-rows : {A : Type 0} (g : ℕ → A) (i n : ℕ) → length (rows g i n) ≡ n
unfolding rows
length-rows g i zero = refl
length-rows g i (suc n) = let ih = length-rows g (suc i) n in rw ih

get_d_rows : {A : Type 0} (g : ℕ → A) (i n j : ℕ) (d : A) → j < n → get_or (rows g i n) j d ≡ g (i + j)
unfolding rows
get_d_rows g i zero j d h = absurd (omega arith)
get_d_rows g i (suc n) zero d h = let e : i + 0 ≡ i = omega arith in rw e
get_d_rows g i (suc n) (suc j) d h =
    let e : i + suc j ≡ suc i + j = omega arith in rw e (get_d_rows g (suc i) n j d (omega arith))

-- row j of n rows, and what stands past the last
pub row_at : {A : Type 0} (g : ℕ → A) (n j : ℕ) (d : A) → j < n → get_or (rows g 0 n) j d ≡ g j
row_at g n j d h = rw zero-add at (get_d_rows g 0 n j d h)

pub row_past : {A : Type 0} (g : ℕ → A) (n j : ℕ) (d : A) → n ≤ j → get_or (rows g 0 n) j d ≡ d
row_past g n j d h = get_or-eq_default (rows g 0 n) d (rw length-rows h)
