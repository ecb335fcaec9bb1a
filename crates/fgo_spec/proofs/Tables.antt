-- Tables by id: what is found after a change, in tables with distinct keys and in those with rising ones. Assumes
-- nothing.
use Prim.Native.Nat.{ℕ, suc, ◌≤◌, ◌<◌, compare, Ordering}
use native.Mathlib.Nat.{le_refl, le_trans}
use native.Mathlib.Decide.{ℕ_discrete, dec_le}
use native.Mathlib.Omega.{arith}
use mathlib.Core.Path.{◌≡◌, refl, sym, ap, ◌∙◌, subst}
use mathlib.Core.Logic.{◌⊎◌, inl, inr}
use mathlib.Core.Bool.{Bool, true, false, cond}
use mathlib.Core.List.Memᴰ
use mathlib.Core.List.{List, [], ◌∷◌, map, Memᴰ}
use mathlib.Core.Option.{Option, none, some, none-ne-some, some-injective}
use lib.ListN.{length}
use lib.Dec.{T, eqb}
use borrow.Author.Tests.{eq-eqb, ne_eqb}
use Rattle.fgo_spec.specs.Lists.{keep, cons_if, has, times, find, put, put_by, assign}
use Rattle.fgo_spec.proofs.Counting.{count-cons, times_here, times_past, times_tail, count-le, any-count, count-any, bump_mono, compare_eq, compare_lt, compare_gt}

module _ {A : Type 0} where
  abbrev pub keys : List (ℕ × A) → List ℕ
  keys t = map (λ e. e.0) t

  pub found_here : (x : ℕ) (e : ℕ × A) (t : List (ℕ × A)) → x ≡ e.0 → find x (e ∷ t) ≡ some e.1
  unfolding find
  found_here x e t h = rw (eq-eqb x e.0 h)

  pub found_past : (x : ℕ) (e : ℕ × A) (t : List (ℕ × A)) → (x ≡ e.0 → ⊥) → find x (e ∷ t) ≡ find x t
  unfolding find
  found_past x e t h = rw (ne_eqb x e.0 h)

  -- ---- a new entry: what put and assign leave is found as if it stood in front

  -- the first of two entries with one key is found
  shadow : (x : ℕ) (e d : ℕ × A) (t : List (ℕ × A)) → e.0 ≡ d.0 → find x (e ∷ t) ≡ find x (e ∷ d ∷ t)
  shadow x e d t h = go (ℕ_discrete x e.0)
    where
      go : Dec (x ≡ e.0) → find x (e ∷ t) ≡ find x (e ∷ d ∷ t)
      go (yes k) = found_here x e t k ∙ sym (found_here x e (d ∷ t) k)
      go (no n) = found_past x e t n ∙ sym (found_past x e (d ∷ t) n ∙ found_past x d t (λ k. n (k ∙ sym h)))

  exchanged : (x : ℕ) (e d : ℕ × A) (t u : List (ℕ × A)) → (e.0 ≡ d.0 → ⊥) → find x u ≡ find x (e ∷ t) → find x (d ∷ u) ≡ find x (e ∷ d ∷ t)
  exchanged x e d t u h r = go (ℕ_discrete x e.0) (ℕ_discrete x d.0)
    where
      go : Dec (x ≡ e.0) → Dec (x ≡ d.0) → find x (d ∷ u) ≡ find x (e ∷ d ∷ t)
      go (yes k) (yes l) = absurd (h (sym k ∙ l))
      go (yes k) (no l) = found_past x d u l ∙ r ∙ found_here x e t k ∙ sym (found_here x e (d ∷ t) k)
      go (no k) (yes l) = found_here x d u l ∙ sym (found_past x e (d ∷ t) k ∙ found_here x d t l)
      go (no k) (no l) = found_past x d u l ∙ r ∙ found_past x e t k ∙ sym (found_past x e (d ∷ t) k ∙ found_past x d t l)

  pub find-put : (x y : ℕ) (a : A) (t : List (ℕ × A)) → find x (put y a t) ≡ find x ((y, a) ∷ t)
  unfolding put
  find-put x y a [] = refl
  find-put x y a (e ∷ t) = go (compare y e.0) refl (find-put x y a t)
    where
      go : (o : Ordering) → compare y e.0 ≡ o → find x (put y a t) ≡ find x ((y, a) ∷ t) → find x (put_by o (y, a) e t (put y a t)) ≡ find x ((y, a) ∷ e ∷ t)
      go Ordering.lt h r = refl
      go Ordering.eq h r = shadow x (y, a) e t (compare_eq y e.0 h)
      go Ordering.gt h r = exchanged x (y, a) e t (put y a t) (λ k. let z : e.0 < y = compare_gt y e.0 h in omega arith) r

  pub find-assign : (x y : ℕ) (a : A) (t : List (ℕ × A)) → find x (assign y a t) ≡ find x ((y, a) ∷ t)
  unfolding assign
  find-assign x y a [] = refl
  find-assign x y a (e ∷ t) = go (ℕ_discrete y e.0) (find-assign x y a t)
    where
      go : Dec (y ≡ e.0) → find x (assign y a t) ≡ find x ((y, a) ∷ t) → find x (cond (eqb y e.0) ((y, a) ∷ t) (e ∷ assign y a t)) ≡ find x ((y, a) ∷ e ∷ t)
      go (yes h) r = rw (eq-eqb y e.0 h) (shadow x (y, a) e t h)
      go (no h) r = rw (ne_eqb y e.0 h) (exchanged x (y, a) e t (assign y a t) h r)

  -- ---- distinct keys

  abbrev pub Distinct : List (ℕ × A) → Type 0
  Distinct t = (x : ℕ) → times x (keys t) ≤ 1

  pub distinct_tail : (e : ℕ × A) (t : List (ℕ × A)) → Distinct (e ∷ t) → Distinct t
  distinct_tail e t d x = le_trans (times_tail x e.0 (keys t)) (d x)

  pub distinct_head : (e : ℕ × A) (t : List (ℕ × A)) → Distinct (e ∷ t) → times e.0 (keys t) ≡ 0
  distinct_head e t d = omega (arith, d e.0, times_here e.0 e.0 (keys t) refl)

  pub find_none : (x : ℕ) (t : List (ℕ × A)) → times x (keys t) ≡ 0 → find x t ≡ none
  find_none x [] h = unfold find in refl
  find_none x (e ∷ t) h = go (ℕ_discrete x e.0) (find_none x t)
    where
      go : Dec (x ≡ e.0) → (times x (keys t) ≡ 0 → find x t ≡ none) → find x (e ∷ t) ≡ none
      go (yes k) r = absurd (omega (arith, times_here x e.0 (keys t) k))
      go (no n) r = found_past x e t n ∙ r (sym (times_past x e.0 (keys t) n) ∙ h)

  -- a new entry leaves the other keys as they are, and its own stands once
  assign_other : (x y : ℕ) (a : A) (t : List (ℕ × A)) → (x ≡ y → ⊥) → times x (keys (assign y a t)) ≡ times x (keys t)
  unfolding assign
  assign_other x y a [] n = times_past x y [] n
  assign_other x y a (e ∷ t) n = go (ℕ_discrete y e.0) (assign_other x y a t n)
    where
      go :
          Dec (y ≡ e.0) → times x (keys (assign y a t)) ≡ times x (keys t) →
          times x (keys (cond (eqb y e.0) ((y, a) ∷ t) (e ∷ assign y a t))) ≡ times x (e.0 ∷ keys t)
      go (yes h) r = rw (eq-eqb y e.0 h, h)
      go (no h) r = rw (ne_eqb y e.0 h, count-cons (eqb x) e.0 (keys (assign y a t)), r, ← (count-cons (eqb x) e.0 (keys t)))

  assign-own : (y : ℕ) (a : A) (t : List (ℕ × A)) → times y (keys t) ≤ 1 → times y (keys (assign y a t)) ≤ 1
  unfolding assign
  assign-own y a [] d = omega (arith, count-le (eqb y) (y ∷ []))
  assign-own y a (e ∷ t) d = go (ℕ_discrete y e.0) (assign-own y a t)
    where
      go : Dec (y ≡ e.0) → (times y (keys t) ≤ 1 → times y (keys (assign y a t)) ≤ 1) → times y (keys (cond (eqb y e.0) ((y, a) ∷ t) (e ∷ assign y a t))) ≤ 1
      go (yes h) r = rw (eq-eqb y e.0 h) (subst (λ z. times y (z ∷ keys t) ≤ 1) (sym h) d)
      go (no h) r = rw (ne_eqb y e.0 h, times_past y e.0 (keys (assign y a t)) h) (r (rw (times_past y e.0 (keys t) h) at d))

  pub distinct_assign : (y : ℕ) (a : A) (t : List (ℕ × A)) → Distinct t → Distinct (assign y a t)
  distinct_assign y a t d x = go (ℕ_discrete x y)
    where
      go : Dec (x ≡ y) → times x (keys (assign y a t)) ≤ 1
      go (yes e) = rw e (assign-own y a t (d y))
      go (no n) = rw (assign_other x y a t n) (d x)

  -- a key after a new entry is its own or an old one
  pub assign_key : (Q : ℕ → Type 0) (y : ℕ) (a : A) (t : List (ℕ × A)) → Q y → ((x : ℕ) → T (has x (keys t)) → Q x) → (x : ℕ) → T (has x (keys (assign y a t))) → Q x
  assign_key Q y a t q f x h = go (ℕ_discrete x y)
    where
      go : Dec (x ≡ y) → Q x
      go (yes e) = subst Q (sym e) q
      go (no n) = f x (count-any (eqb x) (keys t) (rw (assign_other x y a t n) at (any-count (eqb x) (keys (assign y a t)) h)))

  -- an entry that is kept keeps its key
  pub keys_keep : (g : ℕ × A → Bool) (x : ℕ) (t : List (ℕ × A)) → times x (keys (keep g t)) ≤ times x (keys t)
  unfolding keep
  keys_keep g x [] = le_refl (times x [])
  keys_keep g x (e ∷ t) = go (g e) (keys_keep g x t)
    where
      go : (b : Bool) → times x (keys (keep g t)) ≤ times x (keys t) → times x (keys (cons_if b e (keep g t))) ≤ times x (e.0 ∷ keys t)
      go true r = rw (count-cons (eqb x) e.0 (keys (keep g t)), count-cons (eqb x) e.0 (keys t)) (bump_mono (eqb x e.0) (eqb x e.0) (λ k. k) r)
      go false r = le_trans r (times_tail x e.0 (keys t))

  -- what is found after some entries went
  abbrev pub only : (ℕ × A → Bool) → ℕ → Option A → Option A
  only g x none = none
  only g x (some a) = cond (g (x, a)) (some a) none

  pub find-keep : (g : ℕ × A → Bool) (x : ℕ) (t : List (ℕ × A)) → Distinct t → find x (keep g t) ≡ only g x (find x t)
  unfolding keep
  find-keep g x [] d = unfold find in refl
  find-keep g x (e ∷ t) d = go (g e) refl (ℕ_discrete x e.0) (find-keep g x t (distinct_tail e t d))
    where
      go : (b : Bool) → g e ≡ b → Dec (x ≡ e.0) → find x (keep g t) ≡ only g x (find x t) → find x (cons_if b e (keep g t)) ≡ only g x (find x (e ∷ t))
      go true q (yes k) r = found_here x e (keep g t) k ∙ sym (ap (only g x) (found_here x e t k) ∙ rw (k, q))
      go false q (yes k) r =
          r ∙ ap (only g x) (find_none x t (subst (λ z. times z (keys t) ≡ 0) (sym k) (distinct_head e t d))) ∙ sym (ap (only g x) (found_here x e t k) ∙ rw (k, q))
      go true q (no n) r = found_past x e (keep g t) n ∙ r ∙ sym (ap (only g x) (found_past x e t n))
      go false q (no n) r = r ∙ sym (ap (only g x) (found_past x e t n))

  pub only_some : (g : ℕ × A → Bool) (x : ℕ) (o : Option A) {a : A} → only g x o ≡ some a → (o ≡ some a) × T (g (x, a))
  only_some g x none e = absurd (none-ne-some _ e)
  only_some g x (some b) {a} e = go (g (x, b)) refl e
    where
      go : (d : Bool) → g (x, b) ≡ d → cond d (some b) none ≡ some a → (some b ≡ some a) × T (g (x, a))
      go true h k = (k, subst (λ z. T (g (x, z))) (some-injective _ _ k) (subst T (sym h) tt))
      go false h k = absurd (none-ne-some _ k)

  -- ---- entries
  pub find_mem : (x : ℕ) (t : List (ℕ × A)) {a : A} → find x t ≡ some a → Memᴰ (x, a) t
  unfolding find
  find_mem x [] h = absurd (none-ne-some _ h)
  find_mem x (e ∷ t) {a} h = go (ℕ_discrete x e.0) (find_mem x t)
    where
      go : Dec (x ≡ e.0) → (find x t ≡ some a → Memᴰ (x, a) t) → Memᴰ (x, a) (e ∷ t)
      go (yes k) r =
          let q : a ≡ e.1 = some-injective _ _ (sym h ∙ found_here x e t k) in
          Memᴰ.head (λ i. (k i, q i))
      go (no n) r = Memᴰ.tail (r (sym (found_past x e t n) ∙ h))

  mem-key : (e : ℕ × A) (t : List (ℕ × A)) → Memᴰ e t → 0 < times e.0 (keys t)
  mem-key e [] m = absurd (Memᴰ.not-nil m)
  mem-key e (b ∷ t) m = go (Memᴰ.cases_cons m) (mem-key e t)
    where
      go : (e ≡ b) ⊎ Memᴰ e t → (Memᴰ e t → 0 < times e.0 (keys t)) → 0 < times e.0 (b.0 ∷ keys t)
      go (inl q) r = omega (arith, times_here e.0 b.0 (keys t) (ap (λ p. p.0) q))
      go (inr m') r = le_trans (r m') (times_tail e.0 b.0 (keys t))

  pub mem_find : (e : ℕ × A) (t : List (ℕ × A)) → Distinct t → Memᴰ e t → find e.0 t ≡ some e.1
  mem_find e [] d m = absurd (Memᴰ.not-nil m)
  mem_find e (b ∷ t) d m = go (mem_find e t (distinct_tail b t d)) (Memᴰ.cases_cons m)
    where
      go : (Memᴰ e t → find e.0 t ≡ some e.1) → (e ≡ b) ⊎ Memᴰ e t → find e.0 (b ∷ t) ≡ some e.1
      go r (inl q) = found_here e.0 b t (ap (λ p. p.0) q) ∙ ap some (sym (ap (λ p. p.1) q))
      go r (inr m') =
          found_past e.0 b t
          (λ k. let z : times e.0 (keys t) ≡ 0 = subst (λ z. times z (keys t) ≡ 0) (sym k) (distinct_head b t d) in omega (arith, mem-key e t m'))
          ∙ r m'

  -- ---- rising keys, above k

  abbrev pub Up : ℕ → List (ℕ × A) → Type 0
  Up k [] = Unit {0}
  Up k (e ∷ t) = (k < e.0) × Up e.0 t

  pub up_lower : (j k : ℕ) (t : List (ℕ × A)) → j ≤ k → Up k t → Up j t
  up_lower j k [] h u = tt
  up_lower j k (e ∷ t) h u = (le_trans (omega arith) u.0, u.1)

  pub up_put : (k x : ℕ) (a : A) (t : List (ℕ × A)) → k < x → Up k t → Up k (put x a t)
  unfolding put
  up_put k x a [] h u = (h, tt)
  up_put k x a (e ∷ t) h u = go (compare x e.0) refl (λ g. up_put e.0 x a t g u.1)
    where
      go : (o : Ordering) → compare x e.0 ≡ o → (e.0 < x → Up e.0 (put x a t)) → Up k (put_by o (x, a) e t (put x a t))
      go Ordering.lt q r = (h, (compare_lt x e.0 q, u.1))
      go Ordering.eq q r = (h, subst (λ z. Up z t) (sym (compare_eq x e.0 q)) u.1)
      go Ordering.gt q r = (u.0, r (compare_gt x e.0 q))

  pub up_keep : (k : ℕ) (g : ℕ × A → Bool) (t : List (ℕ × A)) → Up k t → Up k (keep g t)
  unfolding keep
  up_keep k g [] u = tt
  up_keep k g (e ∷ t) u = go (g e) (up_keep e.0 g t u.1)
    where
      go : (b : Bool) → Up e.0 (keep g t) → Up k (cons_if b e (keep g t))
      go true r = (u.0, r)
      go false r = let h : k < e.0 = u.0 in up_lower k e.0 (keep g t) (omega arith) r

  -- no key up to k
  pub up_below : (k x : ℕ) (t : List (ℕ × A)) → x ≤ k → Up k t → times x (keys t) ≡ 0
  up_below k x [] h u = unfold keep in refl
  up_below k x (e ∷ t) h u =
      let z : k < e.0 = u.0 in
      times_past x e.0 (keys t) (λ q. omega arith) ∙ up_below e.0 x t (omega arith) u.1

  pub up_distinct : (k : ℕ) (t : List (ℕ × A)) → Up k t → Distinct t
  up_distinct k [] u x = unfold keep in (omega arith)
  up_distinct k (e ∷ t) u x = go (ℕ_discrete x e.0) (up_distinct e.0 t u.1 x)
    where
      go : Dec (x ≡ e.0) → times x (keys t) ≤ 1 → times x (e.0 ∷ keys t) ≤ 1
      go (yes q) r = omega (arith, times_here x e.0 (keys t) q, up_below e.0 x t (omega arith) u.1)
      go (no n) r = rw (times_past x e.0 (keys t) n) r

  pub up_found : (k x : ℕ) (t : List (ℕ × A)) {a : A} → Up k t → find x t ≡ some a → k < x
  up_found k x t {a} u e = elim (dec_le x k) [ yes h ↦ absurd (none-ne-some _ (sym (find_none x t (up_below k x t h u)) ∙ e)) | no n ↦ omega (arith, n) ]

  -- a new entry makes a table at most one longer
  pub put-length : (x : ℕ) (a : A) (t : List (ℕ × A)) → length (put x a t) ≤ suc (length t)
  unfolding put
  put-length x a [] = le_refl 1
  put-length x a (e ∷ t) = go (compare x e.0) (put-length x a t)
    where
      go : (o : Ordering) → length (put x a t) ≤ suc (length t) → length (put_by o (x, a) e t (put x a t)) ≤ suc (suc (length t))
      go Ordering.lt h = le_refl (suc (suc (length t)))
      go Ordering.eq h = omega arith
      go Ordering.gt h = omega arith
