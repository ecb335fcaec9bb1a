-- A pair has cuts just where some scan is noted. Assumes nothing.
use Prim.Native.Nat.{ℕ, zero, suc, ◌+◌, ◌-◌, ◌≤◌}
use native.Mathlib.Omega.{arith}
use mathlib.Core.Path.{◌≡◌, refl, sym, ◌∙◌, subst}
use mathlib.Core.Bool.{Bool, true, false, cond, ◌||◌}
use mathlib.Core.List.{List, [], ◌∷◌, map}
use lib.ListN.{length, get_or}
use lib.Dec.{T, eqb}
use lib.Ieee.{Float}
use Rattle.kf.specs.declared.filter.Dot.{Dot}
use Rattle.bounds.specs.Bounds.{SCANS, STARTS}
use Rattle.fgo_spec.specs.Lists.{keep, cons_if, any, up_from}
use Rattle.fgo_spec.proofs.All.{mem_All}
use Rattle.fgo_spec.proofs.Counting.{any-All, or_right}
use Rattle.search_neighbours.specs.Near.{close_at, close_scans, any_close}
use Rattle.search_pair.specs.Pair.{cut_at, cuts_of}
use Rattle.search_rows.proofs.Filled.{map_up_length}
use Rattle.search.proofs.CutTests.{or_left, same_answer}

-- a list has an element
abbrev pub filled : {A : Type 0} → List A → Bool
filled [] = false
filled (a ∷ l) = true

filled_keep : {A : Type 0} (f : A → Bool) (l : List A) → filled (keep f l) ≡ any f l
unfolding keep any
filled_keep f [] = refl
filled_keep f (a ∷ l) = go (f a) (filled_keep f l)
  where
    go : (b : Bool) → filled (keep f l) ≡ any f l → filled (cons_if b a (keep f l)) ≡ (b || any f l)
    go true r = refl
    go false r = r

pub filled_map : {A B : Type 0} (f : A → B) (l : List A) → filled (map f l) ≡ filled l
filled_map f [] = refl
filled_map f (a ∷ l) = refl

any_at : (close : List Bool) (k : ℕ) → T (get_or close k false) → T (any_close close)
unfolding any
any_at [] k t = absurd t
any_at (b ∷ l) zero t = or_left b (any_close l) t
any_at (b ∷ l) (suc k) t = or_right b (any_close l) (any_at l k t)

-- a test that passes, among m numbers from n on, where one of at most m marks is set
any-up_from : (f : ℕ → Bool) (n m : ℕ) (l : List Bool) → length l ≤ m → ((k : ℕ) → T (get_or l k false) → T (f (n + k))) → T (any_close l) → T (any f (up_from n m))
unfolding any up_from
any-up_from f n m [] h g t = absurd t
any-up_from f n zero (b ∷ l) h g t = absurd (omega arith)
any-up_from f n (suc m) (b ∷ l) h g t =
    go b refl t (λ u. any-up_from f (suc n) m l (omega arith) (λ k v. subst (λ j. T (f j)) (let e : n + suc k ≡ suc n + k = omega arith in e) (g (suc k) v)) u)
  where
    go : (d : Bool) → b ≡ d → T (d || any_close l) → (T (any_close l) → T (any f (up_from (suc n) m))) → T (f n || any f (up_from (suc n) m))
    go true e u r = or_left (f n) (any f (up_from (suc n) m)) (subst (λ j. T (f j)) (let e : n + 0 ≡ n = omega arith in e) (g 0 (subst T (sym e) tt)))
    go false e u r = or_right (f n) (any f (up_from (suc n) m)) (r u)

pub filled_cuts : (close : List Bool) → length close ≤ STARTS → filled (cuts_of close) ≡ any_close close
unfolding cuts_of
filled_cuts close h =
    filled_keep (cut_at close) (up_from 0 STARTS)
    ∙ same_answer (any (cut_at close) (up_from 0 STARTS)) (any_close close)
    (any-All (cut_at close) (λ g. Unit {0}) (λ g u t. noted g (get_or close g false) refl (eqb g 0) t) (up_from 0 STARTS) (mem_All (λ g. Unit {0}) (up_from 0 STARTS) (λ g m. tt)))
    (any-up_from (cut_at close) 0 STARTS close h (λ k t. subst (λ j. T (cut_at close j)) (let e : k ≡ 0 + k = omega arith in e) (cut (get_or close k false) (cond (eqb k 0) false (get_or close (k - 1) false)) t)))
  where
    noted : (g : ℕ) (b : Bool) → get_or close g false ≡ b → (d : Bool) → T (cond b true (cond d false (get_or close (g - 1) false))) → T (any_close close)
    noted g true e d t = any_at close g (subst T (sym e) tt)
    noted g false e true t = absurd t
    noted g false e false t = any_at close (g - 1) t

    cut : (b d : Bool) → T b → T (cond b true d)
    cut true d t = tt
    cut false d t = absurd t

-- a note for each of SCANS scans
pub close_long : (radius2 : Float) (dots : List Dot) (a b : List ℕ) → length (close_scans radius2 dots a b) ≡ SCANS
unfolding close_scans
close_long radius2 dots a b = map_up_length (close_at radius2 dots a b) 0 SCANS
