-- A column put back from the ids of those gathered. Assumes nothing.
use Prim.Native.Nat.{ℕ, zero, suc, ◌<◌}
use native.Mathlib.Omega.{arith}
use mathlib.Core.Path.{◌≡◌, refl, ap}
use mathlib.Core.Bool.{Bool, true, false, ◌||◌}
use mathlib.Core.List.{List, [], ◌∷◌, map}
use lib.ListN.{length}
use lib.Dec.{eqb, ltb}
use borrow.Author.Tests.{ne_eqb, lt-ltb}
use Rattle.engine.specs.declared.types.Association.{Association}
use Rattle.fgo_spec.specs.Lists.{keep, any, has}
use Rattle.fgo_spec.specs.Gathered.{picked, spread}

-- there is one id to each entry of a column that is above 0
abbrev pub Fills : List ℕ → List ℕ → Type 0
Fills is gs = length gs ≡ length (keep (ltb 0) is)

pub above : (i : ℕ) → ltb 0 (suc i) ≡ true
above i = lt-ltb 0 (suc i) (omega arith)

pub picked-length : (is : List ℕ) (l : List Association) → length is ≡ length l → length (picked is l) ≡ length (keep (ltb 0) is)
unfolding picked keep
picked-length [] [] e = refl
picked-length [] (a ∷ l) e = absurd (omega arith)
picked-length (i ∷ is) [] e = absurd (omega arith)
picked-length (zero ∷ is) (a ∷ l) e = picked-length is l (omega arith)
picked-length (suc i ∷ is) (a ∷ l) e = rw (above i) (ap suc (picked-length is l (omega arith)))

-- a renaming that leaves 0 alone
pub spread-map : (f : ℕ → ℕ) → f 0 ≡ 0 → (is gs : List ℕ) → spread is (map f gs) ≡ map f (spread is gs)
unfolding spread
spread-map f z [] gs = refl
spread-map f z (zero ∷ is) gs = rw z (ap (λ (l : List ℕ). 0 ∷ l) (spread-map f z is gs))
spread-map f z (suc i ∷ is) [] = rw z (ap (λ (l : List ℕ). 0 ∷ l) (spread-map f z is []))
spread-map f z (suc i ∷ is) (g ∷ gs) = ap (λ (l : List ℕ). f g ∷ l) (spread-map f z is gs)

-- those of a column put back that pass a test that 0 does not pass
pub spread-keep : (f : ℕ → Bool) → f 0 ≡ false → (is gs : List ℕ) → Fills is gs → keep f (spread is gs) ≡ keep f gs
unfolding spread keep
spread-keep f z [] [] e = refl
spread-keep f z [] (g ∷ gs) e = absurd (omega arith)
spread-keep f z (zero ∷ is) gs e = rw z (spread-keep f z is gs e)
spread-keep f z (suc i ∷ is) [] e = absurd (let q = rw (above i) at e in omega arith)
spread-keep f z (suc i ∷ is) (g ∷ gs) e = rw (spread-keep f z is gs (let q = rw (above i) at e in omega arith))

spread-any : (f : ℕ → Bool) → f 0 ≡ false → (is gs : List ℕ) → Fills is gs → any f (spread is gs) ≡ any f gs
unfolding spread any keep
spread-any f z [] [] e = refl
spread-any f z [] (g ∷ gs) e = absurd (omega arith)
spread-any f z (zero ∷ is) gs e = rw z (spread-any f z is gs e)
spread-any f z (suc i ∷ is) [] e = absurd (let q = rw (above i) at e in omega arith)
spread-any f z (suc i ∷ is) (g ∷ gs) e = ap (λ (b : Bool). f g || b) (spread-any f z is gs (let q = rw (above i) at e in omega arith))

pub spread-has : (x : ℕ) → 0 < x → (is gs : List ℕ) → Fills is gs → has x (spread is gs) ≡ has x gs
spread-has x h = spread-any (eqb x) (ne_eqb x 0 (λ e. omega arith))

-- the ids gathered from a column give that column again
pub spread_self : (is : List ℕ) → spread is (keep (ltb 0) is) ≡ is
unfolding spread keep
spread_self [] = refl
spread_self (zero ∷ is) = ap (λ (l : List ℕ). 0 ∷ l) (spread_self is)
spread_self (suc i ∷ is) = rw (above i) (ap (λ (l : List ℕ). suc i ∷ l) (spread_self is))
