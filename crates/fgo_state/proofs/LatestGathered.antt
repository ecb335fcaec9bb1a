-- The latest holder of an engine id, read off the gathered lists, is fgo_spec's: of the scans with the gathered ids put
-- back. Assumes nothing.
use Prim.Native.Nat.{ℕ, zero, suc, ◌+◌, ◌-◌, ◌≤◌, ◌<◌, max}
use native.Mathlib.Nat.{add-zero, add-suc, suc-add}
use native.Mathlib.Omega.{arith}
use mathlib.Core.Path.{◌≡◌, refl, sym, ap, ◌∙◌}
use mathlib.Core.Bool.{Bool, true, false, cond}
use mathlib.Core.List.{List, [], ◌∷◌, map, foldr}
use lib.ListN.{length, get_or, take, drop}
use lib.Seq.{drop-cons, get_or-take}
use lib.Dec.{eqb}
use Rattle.engine.specs.Frame.{engine_of, Associated}
use Rattle.engine.specs.declared.types.Association.{Association}
use Rattle.engine.specs.Body.{rows}
use Rattle.fgo_spec.specs.Windows.{Scan}
use Rattle.fgo_spec.specs.Owning.{is_engine, holder_in, or_else, latest}
use Rattle.fgo_spec.proofs.Ties.{Engine, Tied, TiedScan}
use Rattle.fgo_spec.specs.Lists.{segment}
use Rattle.fgo_spec.specs.Gathered.{column_at, picked, spread, put_back}
use Rattle.fgo_spec.proofs.Rows.{rows_same}
use Rattle.fgo_state.specs.Gathering.{holder_of, latest_of, StartsWithin}
use Rattle.std.specs.Prelude.{None, Some}

-- something of each scan of a list, by its number: the first is the k-th
abbrev pub Each : (ℕ → Scan → Type 0) → ℕ → List Scan → Type 0
Each P k [] = Unit {0}
Each P k (s ∷ ss) = P k s × Each P (suc k) ss

-- the engine ids of the associations that lie in windows
abbrev pub engines_in : List ℕ → List Association → List ℕ
engines_in is l = map (λ a. engine_of a.track) (picked is l)

-- the k-th scan has its engine ids gathered, and those without one are in clutter
pub record Engines (starts engines : List ℕ) (k : ℕ) (s : Scan) : Type 0 where
  pub column : column_at starts engines k ≡ engines_in s.ids s.frame.associations
  pub tied : TiedScan (λ e. Unit {0}) s

-- ---- in one scan

-- the greatest of the ids beside the engine id e
abbrev holder_by : ℕ → List ℕ → List ℕ → ℕ
holder_by e [] gs = 0
holder_by e (n ∷ ns) [] = 0
holder_by e (n ∷ ns) (g ∷ gs) = max (cond (eqb e n) g 0) (holder_by e ns gs)

by_none : (e : ℕ) (ns : List ℕ) → holder_by e ns [] ≡ 0
by_none e [] = refl
by_none e (n ∷ ns) = refl

cond-zero : (b : Bool) → ◌≡◌ {A = ℕ} (cond b 0 0) 0
cond-zero true = refl
cond-zero false = refl

engine_same : (e : ℕ) (o : Associated) → Engine (λ e. Unit {0}) o → is_engine e o ≡ eqb e (engine_of o)
engine_same e None h = absurd h
engine_same e (Some k) h = refl

-- of the column with the ids put back
scan_holder : (e : ℕ) (l : List Association) (is gs : List ℕ) → Tied (λ e. Unit {0}) l is → holder_in e l (spread is gs) ≡ holder_by e (engines_in is l) gs
unfolding holder_in spread picked Tied
scan_holder e [] is gs h = refl
scan_holder e (a ∷ l) [] gs h = refl
scan_holder e (a ∷ l) (zero ∷ is) gs h = let z = cond-zero (is_engine e a.track) in let r = scan_holder e l is gs h.1 in omega arith
scan_holder e (a ∷ l) (suc i ∷ is) [] h =
    let z = cond-zero (is_engine e a.track) in
    let r = scan_holder e l is [] h.1 in
    let n = by_none e (engines_in is l) in
    omega arith
scan_holder e (a ∷ l) (suc i ∷ is) (g ∷ gs) h =
    ap (λ b. max (cond b g 0) (holder_in e l (spread is gs))) (engine_same e a.track (h.0 (omega arith)))
    ∙ ap (max (cond (eqb e (engine_of a.track)) g 0)) (scan_holder e l is gs h.1)

module _ (e : ℕ) (ids engines : List ℕ) where
  flat-holder :
      (a n : ℕ) → ((i : ℕ) → a ≤ i → i < a + n → (i < length ids) × (i < length engines)) →
      foldr max 0 (rows (λ i. cond (eqb e (get_or engines i 0)) (get_or ids i 0) 0) a n) ≡ holder_by e (take n (drop a engines)) (take n (drop a ids))
  unfolding rows
  flat-holder a zero h = refl
  flat-holder a (suc n) h =
      let l = h a (omega arith) (omega arith) in
      rw (drop-cons engines a 0 l.1, drop-cons ids a 0 l.0)
      (ap (max (cond (eqb e (get_or engines a 0)) (get_or ids a 0) 0)) (flat-holder (suc a) n (λ i p q. h i (omega arith) (omega arith))))

  -- of the places from a to before b
  holder-segment : (a b : ℕ) → b ≤ length ids → b ≤ length engines → holder_of e ids engines a b ≡ holder_by e (segment a b engines) (segment a b ids)
  unfolding holder_of
  holder-segment a b h k = flat-holder a (b - a) (λ i p q. (omega arith, omega arith))

-- ---- over the scans

or_assoc : (x y z : ℕ) → or_else x (or_else y z) ≡ or_else (or_else x y) z
or_assoc zero y z = refl
or_assoc (suc x) y z = refl

module _ (e y : ℕ) (ids engines starts : List ℕ) where
  abbrev last : ℕ → ℕ
  last k = latest_of e ids engines starts k

  latest-from :
      (k : ℕ) (ss : List Scan) → ((j : ℕ) → j < k + length ss → (get_or starts (suc j) 0 ≤ length ids) × (get_or starts (suc j) 0 ≤ length engines)) →
      Each (Engines starts engines) k ss →
      latest e (or_else (last k) y) (put_back starts ids k ss) ≡ or_else (last (k + length ss)) y
  unfolding latest put_back latest_of
  latest-from k [] f h = ap (λ (n : ℕ). or_else (last n) y) (sym (add-zero k))
  latest-from k (s ∷ ss) f h =
      let b = f k (omega arith) in
      let q : holder_in e s.frame.associations (spread s.ids (column_at starts ids k)) ≡ holder_of e ids engines (get_or starts k 0) (get_or starts (suc k) 0) =
      scan_holder e s.frame.associations s.ids (column_at starts ids k) h.0.tied
      ∙ ap (λ (ns : List ℕ). holder_by e ns (column_at starts ids k)) (sym h.0.column)
      ∙ sym (holder-segment e ids engines (get_or starts k 0) (get_or starts (suc k) 0) b.0 b.1) in
      ap (λ (x : ℕ). latest e x (put_back starts ids (suc k) ss))
      (ap (λ (x : ℕ). or_else x (or_else (last k) y)) q ∙ or_assoc (holder_of e ids engines (get_or starts k 0) (get_or starts (suc k) 0)) (last k) y)
      ∙ latest-from (suc k) ss (λ j l. f j (omega arith)) h.1
      ∙ ap (λ (n : ℕ). or_else (last n) y) (suc-add k (length ss) ∙ sym (add-suc k (length ss)))

  -- the latest holder among the gathered ids, as they may have been changed: of the scans with those ids put back
  pub latest-gathered :
      (ss : List Scan) → ((j : ℕ) → j < length ss → (get_or starts (suc j) 0 ≤ length ids) × (get_or starts (suc j) 0 ≤ length engines)) →
      Each (Engines starts engines) 0 ss →
      latest e y (put_back starts ids 0 ss) ≡ or_else (latest_of e ids engines starts (length ss)) y
  unfolding latest_of
  latest-gathered ss f h = let z : 0 + length ss ≡ length ss = omega arith in latest-from 0 ss (λ j l. f j (omega arith)) h ∙ ap (λ (n : ℕ). or_else (last n) y) z

-- ---- engine ids that agree

module _ {starts : List ℕ} {held n : ℕ} (s : StartsWithin starts held n) (e : ℕ) (ids engines : List ℕ) where
  holder-taken : (a b : ℕ) → b ≤ n → holder_of e ids (take n engines) a b ≡ holder_of e ids engines a b
  unfolding holder_of
  holder-taken a b h =
      ap (foldr max 0)
      (rows_same (λ i. cond (eqb e (get_or (take n engines) i 0)) (get_or ids i 0) 0) (λ i. cond (eqb e (get_or engines i 0)) (get_or ids i 0) 0) a (b - a)
      (λ i p q. ap (λ (x : ℕ). cond (eqb e x) (get_or ids i 0) 0) (get_or-take n engines i 0 (omega arith))))

  taken-from : (k : ℕ) → k ≤ held → latest_of e ids (take n engines) starts k ≡ latest_of e ids engines starts k
  unfolding latest_of
  taken-from zero l = refl
  taken-from (suc k) l =
      ap (λ (x : ℕ). or_else x (latest_of e ids (take n engines) starts k)) (holder-taken (get_or starts k 0) (get_or starts (suc k) 0) (s.most (suc k) l))
      ∙ ap (or_else (holder_of e ids engines (get_or starts k 0) (get_or starts (suc k) 0))) (taken-from k (omega arith))

  -- the places after the last gathered detection do not count
  pub latest-taken : latest_of e ids (take n engines) starts held ≡ latest_of e ids engines starts held
  latest-taken = taken-from held (omega arith)
