-- The holder of an engine id's latest detection: it is present, and its engine id is one that the columns are tied to.
-- Assumes nothing.
use Prim.Native.Nat.{ℕ, zero, suc, ◌≤◌, ◌<◌, max}
use native.Mathlib.Nat.{le_trans}
use native.Mathlib.Omega.{arith}
use native.Mathlib.Decide.{dec_le}
use mathlib.Core.Path.{◌≡◌, refl, sym, subst}
use mathlib.Core.Logic.{◌⊎◌, inl, inr}
use mathlib.Core.Bool.{Bool, true, false, cond}
use mathlib.Core.List.{List, [], ◌∷◌, ◌++◌}
use lib.ListN.{length}
use lib.Dec.{T}
use borrow.Author.Tests.{eq-eqb, eqb-true}
use Rattle.engine.specs.declared.types.Association.{Association}
use Rattle.fgo_spec.specs.Lists.{has, times}
use Rattle.fgo_spec.specs.Windows.{Scan, present}
use Rattle.fgo_spec.specs.Owning.{is_engine, holder_in, or_else, latest}
use Rattle.fgo_spec.specs.Rule.{All}
use Rattle.fgo_spec.proofs.All.{All_weaken, All_mem, mem_All}
use Rattle.fgo_spec.proofs.Counting.{times_here, times_tail}
use Rattle.fgo_spec.proofs.Presence.{stands_present}
use Rattle.fgo_spec.proofs.Ties.{Engine, Tied, TiedScan}
use Rattle.std.specs.Prelude.{None, Some}
use Rattle.engine.specs.Frame.{Associated}

-- the one, or else the other
pub or_some : (x : ℕ) → 0 < x → (y : ℕ) → or_else x y ≡ x
or_some zero h y = absurd (omega arith)
or_some (suc x) h y = refl

pub or_none_lem : (x : ℕ) → x ≤ 0 → (y : ℕ) → or_else x y ≡ y
or_none_lem zero h y = refl
or_none_lem (suc x) h y = absurd (omega arith)

abbrev pub holder : ℕ → Scan → ℕ
holder e s = holder_in e s.frame.associations s.ids

-- ---- in one scan

-- "if two are in equal scans, the track with the greater id gets it": no association with that engine id is in the
-- window of a greater id than the holder
pub holder_most :
    (e : ℕ) (k l : List Association) (js is : List ℕ) (a : Association) (i : ℕ) → length js ≡ length k → is_engine e a.track ≡ true →
    i ≤ holder_in e (k ++ (a ∷ l)) (js ++ (i ∷ is))
unfolding holder_in
holder_most e [] l [] is a i h q = rw q (omega arith)
holder_most e [] l (j ∷ js) is a i h q = absurd (omega arith)
holder_most e (b ∷ k) l [] is a i h q = absurd (omega arith)
holder_most e (b ∷ k) l (j ∷ js) is a i h q = le_trans (holder_most e k l js is a i (omega arith) q) (omega arith)

-- the holder is at the first association, with that engine id, or further on
abbrev pub Case : ℕ → Association → List Association → ℕ → List ℕ → Type 0
Case e a l i is =
    let x = holder_in e (a ∷ l) (i ∷ is) in
    ((is_engine e a.track ≡ true) × (0 < i) × (x ≡ i)) ⊎ ((0 < holder_in e l is) × (x ≡ holder_in e l is))

pub holder_cases : (e : ℕ) (a : Association) (l : List Association) (i : ℕ) (is : List ℕ) → 0 < holder_in e (a ∷ l) (i ∷ is) → Case e a l i is
unfolding holder_in
holder_cases e a l i is h = go (is_engine e a.track) (dec_le i (holder_in e l is)) h
  where
    n : ℕ
    n = holder_in e l is

    go : (b : Bool) → Dec (i ≤ n) → 0 < max (cond b i 0) n → ((b ≡ true) × (0 < i) × (max (cond b i 0) n ≡ i)) ⊎ ((0 < n) × (max (cond b i 0) n ≡ n))
    go true (yes k) p = inr (omega arith, omega arith)
    go true (no k) p = inl (refl, omega arith, omega arith)
    go false d p = inr (omega arith, omega arith)

-- its engine id is one that the column is tied to
engine_is : (K : ℕ → Type 0) (e : ℕ) (o : Associated) → is_engine e o ≡ true → Engine K o → K e
engine_is K e None q k = absurd k
engine_is K e (Some i) q k = subst K (sym (eqb-true e i.0 q)) k

holder_known : (K : ℕ → Type 0) (e : ℕ) (l : List Association) (is : List ℕ) → Tied K l is → 0 < holder_in e l is → K e
unfolding Tied
holder_known K e [] is t h = absurd (unfold holder_in in (omega arith))
holder_known K e (a ∷ l) [] t h = absurd (unfold holder_in in (omega arith))
holder_known K e (a ∷ l) (i ∷ is) t h = go (holder_cases e a l i is h) (holder_known K e l is t.1)
  where
    go : Case e a l i is → (0 < holder_in e l is → K e) → K e
    go (inl q) r = engine_is K e a.track q.0 (t.0 q.1)
    go (inr q) r = r q.0

-- it stands in the column
holder_stands : (e : ℕ) (l : List Association) (is : List ℕ) → 0 < holder_in e l is → 0 < times (holder_in e l is) is
holder_stands e [] is h = absurd (unfold holder_in in (omega arith))
holder_stands e (a ∷ l) [] h = absurd (unfold holder_in in (omega arith))
holder_stands e (a ∷ l) (i ∷ is) h = go (holder_cases e a l i is h) (holder_stands e l is)
  where
    x : ℕ
    x = holder_in e (a ∷ l) (i ∷ is)

    go : Case e a l i is → (0 < holder_in e l is → 0 < times (holder_in e l is) is) → 0 < times x (i ∷ is)
    go (inl q) r = omega (arith, times_here x i is q.2)
    go (inr q) r = le_trans (subst (λ z. 0 < times z is) (sym q.1) (r q.0)) (times_tail x i is)

-- a tied column is tied to what holds of the engine ids that are held in it
tied_held : (K L : ℕ → Type 0) (l : List Association) (is : List ℕ) → ((e : ℕ) → 0 < holder_in e l is → L e) → Tied K l is → Tied L l is
unfolding Tied holder_in
tied_held K L [] is f h = tt
tied_held K L (a ∷ l) [] f h = tt
tied_held K L (a ∷ l) (i ∷ is) f h = (
  (λ p. here a.track (h.0 p) p (λ e q. f e (omega arith))),
  tied_held K L l is (λ e q. f e (omega arith)) h.1,
)
  where
    here : (o : Associated) → Engine K o → 0 < i → ((e : ℕ) → 0 < cond (is_engine e o) i 0 → L e) → Engine L o
    here None k p g = k
    here (Some e) k p g = g e.0 (rw (eq-eqb e.0 e.0 refl) p)

-- ---- over the scans

-- the latest holder does not turn on the default, or there is none
latest-or : (e : ℕ) (ss : List Scan) → ((y z : ℕ) → latest e y ss ≡ latest e z ss) ⊎ ((y : ℕ) → latest e y ss ≡ y)
unfolding latest
latest-or e [] = inr (λ y. refl)
latest-or e (s ∷ ss) = go (holder e s) (latest-or e ss)
  where
    go :
        (h : ℕ) → ((y z : ℕ) → latest e y ss ≡ latest e z ss) ⊎ ((y : ℕ) → latest e y ss ≡ y) →
        ((y z : ℕ) → latest e (or_else h y) ss ≡ latest e (or_else h z) ss) ⊎ ((y : ℕ) → latest e (or_else h y) ss ≡ y)
    go h (inl f) = inl (λ y z. f (or_else h y) (or_else h z))
    go zero (inr f) = inr f
    go (suc h) (inr f) = inl (λ y z. refl)

pub latest-any : (e : ℕ) (ss : List Scan) (y : ℕ) → 0 < latest e 0 ss → latest e y ss ≡ latest e 0 ss
latest-any e ss y h = go (latest-or e ss)
  where
    go : ((y z : ℕ) → latest e y ss ≡ latest e z ss) ⊎ ((y : ℕ) → latest e y ss ≡ y) → latest e y ss ≡ latest e 0 ss
    go (inl f) = f y 0
    go (inr f) = absurd (omega (arith, f 0))

-- what holds of the holders in the scans, and of the default, holds of the latest
pub latest_is :
    (e : ℕ) (Q : ℕ → Type 0) (ss : List Scan) → All (λ s. 0 < holder e s → Q (holder e s)) ss → (y : ℕ) → (0 < y → Q y) → 0 < latest e y ss →
    Q (latest e y ss)
unfolding latest
latest_is e Q [] h y f p = f p
latest_is e Q (s ∷ ss) h y f p = latest_is e Q ss h.1 (or_else (holder e s) y) (go (holder e s) h.0) p
  where
    go : (n : ℕ) → (0 < n → Q n) → 0 < or_else n y → Q (or_else n y)
    go zero k q = f q
    go (suc n) k q = k q

pub latest_known : (K : ℕ → Type 0) (e : ℕ) (ss : List Scan) → All (TiedScan K) ss → 0 < latest e 0 ss → K e
latest_known K e ss h p =
    latest_is e (λ x. K e) ss
    (All_weaken (TiedScan K) (λ s. 0 < holder e s → K e) ss (λ s t. holder_known K e s.frame.associations s.ids t) h)
    0 (λ q. absurd (omega arith)) p

pub latest-present : (e : ℕ) (ss : List Scan) → 0 < latest e 0 ss → T (has (latest e 0 ss) (present ss))
latest-present e ss p =
    latest_is e (λ x. T (has x (present ss))) ss
    (mem_All (λ s. 0 < holder e s → T (has (holder e s) (present ss))) ss
    (λ s m q. stands_present (holder e s) ss q m (holder_stands e s.frame.associations s.ids q)))
    0 (λ q. absurd (omega arith)) p

pub latest_later : (e : ℕ) (ss : List Scan) (y : ℕ) → 0 < y → 0 < latest e y ss
unfolding latest
latest_later e [] y h = h
latest_later e (s ∷ ss) y h = latest_later e ss (or_else (holder e s) y) (go (holder e s))
  where
    go : (n : ℕ) → 0 < or_else n y
    go zero = h
    go (suc n) = omega arith

-- an engine id that is held in a scan has a latest holder
latest-held : (e : ℕ) (ss : List Scan) (y : ℕ) → All (λ s. 0 < holder e s → 0 < latest e y ss) ss
unfolding latest
latest-held e [] y = tt
latest-held e (s ∷ ss) y = ((λ h. go (holder e s) h), latest-held e ss (or_else (holder e s) y))
  where
    go : (n : ℕ) → 0 < n → 0 < latest e (or_else n y) ss
    go zero h = absurd (omega arith)
    go (suc n) h = latest_later e ss (suc n) h

-- tied columns are tied to what holds of the engine ids that have a latest holder
pub tied_latest : (K L : ℕ → Type 0) (ss : List Scan) → ((e : ℕ) → 0 < latest e 0 ss → L e) → All (TiedScan K) ss → All (TiedScan L) ss
tied_latest K L ss f h =
    mem_All (TiedScan L) ss
    (λ s m. tied_held K L s.frame.associations s.ids (λ e p. f e (All_mem (λ s. 0 < holder e s → 0 < latest e 0 ss) ss (latest-held e ss 0) m p))
    (All_mem (TiedScan K) ss h m))
