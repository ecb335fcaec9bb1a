-- Where a row begins and ends. Assumes nothing.
use Prim.Native.Nat.{ℕ, zero, suc, ◌+◌, ◌-◌, ◌≤◌, ◌<◌}
use native.Mathlib.Nat.{le_refl, le_trans, le_antisymm}
use native.Mathlib.Omega.{arith}
use native.Mathlib.Decide.{dec_lt}
use mathlib.Core.Path.{◌≡◌, refl}
use mathlib.Core.Bool.{Bool, true, false, cond}
use mathlib.Core.List.{List, [], ◌∷◌}
use lib.ListN.{length, get_or, get_or-eq_default}
use lib.Dec.{ltb}
use borrow.Author.Tests.{ltb-true, lt-ltb}
use Rattle.search_rows.specs.Rows.{first_in, end_from}

-- a detection comes no earlier than the first
pub first_by : (r : List ℕ) (k : ℕ) → 0 < get_or r k 0 → first_in r ≤ k
unfolding first_in
first_by [] k h = absurd (omega arith)
first_by (x ∷ r) zero h = rw (lt-ltb 0 x h) (le_refl 0)
first_by (x ∷ r) (suc k) h = go (ltb 0 x) (first_by r k h)
  where
    go : (b : Bool) → first_in r ≤ k → cond b 0 (suc (first_in r)) ≤ suc k
    go true i = omega arith
    go false i = omega arith

end_keeps : (n e : ℕ) (r : List ℕ) → e ≤ n → e ≤ end_from n e r
unfolding end_from
end_keeps n e [] h = le_refl e
end_keeps n e (x ∷ r) h = go (ltb 0 x) (λ d. end_keeps (suc n) d r)
  where
    go : (b : Bool) → ((d : ℕ) → d ≤ suc n → d ≤ end_from (suc n) d r) → e ≤ end_from (suc n) (cond b (suc n) e) r
    go true f = le_trans (omega arith) (f (suc n) (le_refl (suc n)))
    go false f = f e (omega arith)

-- nor is it past the last
pub end_past : (n e : ℕ) (r : List ℕ) (k : ℕ) → e ≤ n → 0 < get_or r k 0 → n + suc k ≤ end_from n e r
unfolding end_from
end_past n e [] k h g = absurd (omega arith)
end_past n e (x ∷ r) zero h g = rw (lt-ltb 0 x g) (le_trans (omega arith) (end_keeps (suc n) (suc n) r (le_refl (suc n))))
end_past n e (x ∷ r) (suc k) h g = go (ltb 0 x) (λ d l. end_past (suc n) d r k l g)
  where
    go : (b : Bool) → ((d : ℕ) → d ≤ suc n → suc n + suc k ≤ end_from (suc n) d r) → n + suc (suc k) ≤ end_from (suc n) (cond b (suc n) e) r
    go true f = le_trans (omega arith) (f (suc n) (le_refl (suc n)))
    go false f = le_trans (omega arith) (f e (omega arith))

-- no detection from the end on
pub end_empty : (r : List ℕ) (k : ℕ) → end_from 0 0 r ≤ k → get_or r k 0 ≡ 0
end_empty r k h = go (get_or r k 0) (λ g. end_past 0 0 r k (le_refl 0) g)
  where
    go : (x : ℕ) → (0 < x → 0 + suc k ≤ end_from 0 0 r) → x ≡ 0
    go zero f = refl
    go (suc x) f = absurd (omega (arith, f (omega arith)))

-- and where there is none from t on, the end is t at the latest
pub end-under : (n e t : ℕ) (r : List ℕ) → e ≤ t → ((j : ℕ) → t ≤ n + j → get_or r j 0 ≤ 0) → end_from n e r ≤ t
unfolding end_from
end-under n e t [] h z = h
end-under n e t (x ∷ r) h z = go (ltb 0 x) (λ p. z 0 p) (λ p. ltb-true 0 x p) (λ d l. end-under (suc n) d t r l (λ j g. z (suc j) (omega arith)))
  where
    go : (b : Bool) → (t ≤ n + 0 → x ≤ 0) → (b ≡ true → 0 < x) → ((d : ℕ) → d ≤ t → end_from (suc n) d r ≤ t) → end_from (suc n) (cond b (suc n) e) r ≤ t
    go true a p f = f (suc n) (elim (dec_lt n t) [ yes l ↦ l | no l ↦ absurd (omega (arith, a (omega arith), p refl)) ])
    go false a p f = f e h

pub end_by : (r : List ℕ) → end_from 0 0 r ≤ length r
end_by r = end-under 0 0 (length r) r (omega arith) (λ j h. rw (get_or-eq_default r 0 {n = j} (omega arith)) (le_refl 0))

-- a row whose last detection is just before e ends there
pub end-at : (r : List ℕ) (e : ℕ) → (0 < e → 0 < get_or r (e - 1) 0) → ((j : ℕ) → e ≤ j → get_or r j 0 ≤ 0) → e ≡ end_from 0 0 r
end-at r e l z = le_antisymm (reached (dec_lt 0 e)) (end-under 0 0 e r (omega arith) (λ j h. z j (omega arith)))
  where
    reached : Dec (0 < e) → e ≤ end_from 0 0 r
    reached (yes h) = le_trans (omega arith) (end_past 0 0 r (e - 1) (le_refl 0) (l h))
    reached (no h) = omega arith
