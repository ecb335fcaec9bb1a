-- Small functions on lists, by tests that compute. Definitions only.
use Prim.Native.Nat.{ℕ, zero, suc, ◌-◌, compare, Ordering}
use Rattle.std.specs.Prelude.{Bool, true, false, cond, ◌||◌, List, [], ◌∷◌, length, take, drop, eqb, ltb}
use Rattle.std.proofs.Math.Option.{Option, none, some}

module _ {A : Type 0} where
  -- a in front of l, if the test passes
  abbrev pub cons_if : Bool → A → List A → List A
  cons_if true a l = a ∷ l
  cons_if false a l = l

  -- those that pass the test
  unfoldable pub keep : (A → Bool) → List A → List A
  keep f [] = []
  keep f (a ∷ l) = cons_if (f a) a (keep f l)

  -- one of them passes the test
  unfoldable pub any : (A → Bool) → List A → Bool
  any f [] = false
  any f (a ∷ l) = f a || any f l

-- n, n + 1, .. : k numbers
unfoldable pub up_from : ℕ → ℕ → List ℕ
up_from n zero = []
up_from n (suc k) = n ∷ up_from (suc n) k

-- the entries of a list from a up to b
abbrev pub segment : {A : Type 0} → ℕ → ℕ → List A → List A
segment a b l = take (b - a) (drop a l)

-- the first place in an ascending list whose entry is not below x
unfoldable pub place_in : ℕ → List ℕ → ℕ
place_in x [] = 0
place_in x (y ∷ l) = cond (ltb y x) (suc (place_in x l)) 0

-- x stands in a list
abbrev pub has : ℕ → List ℕ → Bool
has x l = any (eqb x) l

-- how often x stands in a list
abbrev pub times : ℕ → List ℕ → ℕ
times x l = length (keep (eqb x) l)

-- by how x compares with the first, y
abbrev pub insert_by : Ordering → ℕ → ℕ → List ℕ → List ℕ → List ℕ
insert_by Ordering.lt x y ys r = x ∷ y ∷ ys
insert_by Ordering.eq x y ys r = y ∷ ys
insert_by Ordering.gt x y ys r = y ∷ r

-- x added to an ascending list, once
unfoldable pub insert : ℕ → List ℕ → List ℕ
insert x [] = x ∷ []
insert x (y ∷ ys) = insert_by (compare x y) x y ys (insert x ys)

-- "Maps become tables by id": pairs of a key and a value
module _ {A : Type 0} where
  -- a, if the key is the one asked for
  abbrev pub found_if : Bool → A → Option A → Option A
  found_if true a r = some a
  found_if false a r = r

  -- the value of a key
  unfoldable pub find : ℕ → List (ℕ × A) → Option A
  find x [] = none
  find x (e ∷ t) = found_if (eqb x e.0) e.1 (find x t)

  -- by how the key compares with that of the first entry
  abbrev pub put_by : Ordering → ℕ × A → ℕ × A → List (ℕ × A) → List (ℕ × A) → List (ℕ × A)
  put_by Ordering.lt n e t r = n ∷ e ∷ t
  put_by Ordering.eq n e t r = n ∷ t
  put_by Ordering.gt n e t r = e ∷ r

  -- a value put under its key into a table by ascending key
  unfoldable pub put : ℕ → A → List (ℕ × A) → List (ℕ × A)
  put x a [] = (x, a) ∷ []
  put x a (e ∷ t) = put_by (compare x e.0) (x, a) e t (put x a t)

  -- a table in any order: a new key goes to the end
  unfoldable pub assign : ℕ → A → List (ℕ × A) → List (ℕ × A)
  assign x a [] = (x, a) ∷ []
  assign x a (e ∷ t) = cond (eqb x e.0) ((x, a) ∷ t) (e ∷ assign x a t)

-- there is a value
abbrev pub is_some : {A : Type 0} → Option A → Bool
is_some none = false
is_some (some a) = true
