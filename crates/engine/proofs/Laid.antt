-- Fields and rows laid out in a list are read there: one law for a number's bytes, one for fields one after the other,
-- one for rows of one size. Assumes nothing.
use Prim.Native.Nat.{ℕ, zero, suc, ◌+◌, ◌*◌, ◌/◌, ◌%◌, ◌^◌, ◌<◌}
use mathlib.Core.Path.{◌≡◌, refl, ap, ◌∙◌}
use mathlib.Core.List.{List, [], ◌∷◌, ◌++◌, flat_map}
use native.Mathlib.Omega.{arith}
use native.Mathlib.Nat.{pow-suc, add-zero, add_assoc, mul-suc, mul-zero}
use lib.ListN.{length, get_or, length-append, get_or-append}
use lib.Seq.{get_or-append-add, ext_get_or}
use Rattle.engine.specs.Little.{little}
use Rattle.engine.specs.Body.{rows}
use Rattle.engine.specs.Encode.{bytes_of, laid}
use Rattle.engine.proofs.Passing.{length-rows, row_at}

-- b lies in s from place o on
abbrev pub Lies : List ℕ → ℕ → List ℕ → Type 0
Lies s o b = (i : ℕ) → i < length b → get_or s (o + i) 0 ≡ get_or b i 0

module _ (s : List ℕ) (o : ℕ) (a b : List ℕ) (h : Lies s o (a ++ b)) where
  pub lies_left : Lies s o a
  lies_left i g = h i (simp length-append (omega arith)) ∙ get_or-append a b 0 i g

  pub lies_right : Lies s (o + length a) b
  lies_right i g = rw add_assoc (h (length a + i) (simp length-append (omega arith)) ∙ get_or-append-add a b i 0)

-- ---- a number

pub read_bytes : (w n : ℕ) (s : List ℕ) (o : ℕ) → n < 256 ^ w → Lies s o (bytes_of w n) → little w s o ≡ n
unfolding little bytes_of
read_bytes zero n s o f h = omega arith
read_bytes (suc w) n s o f h =
    let a : get_or s o 0 ≡ n % 256 = rw add-zero at (h 0 (omega arith)) in
    let b : little w s (suc o) ≡ n / 256 = read_bytes w (n / 256) s (suc o) (omega (arith, rw pow-suc at f)) (λ i g. let e : o + suc i ≡ suc o + i = omega arith in rw e at (h (suc i) (omega arith))) in
    rw (a, b) (omega arith)

length_bytes : (w n : ℕ) → length (bytes_of w n) ≡ w
unfolding bytes_of
length_bytes zero n = refl
length_bytes (suc w) n = ap suc (length_bytes w (n / 256))

-- ---- fields

-- each number has room in its bytes
abbrev pub Fit : List (ℕ × ℕ) → Type 0
Fit [] = Unit
Fit (x ∷ l) = (x.1 < 256 ^ x.0) × Fit l

-- the bytes of the fields, all together
abbrev pub widths : List (ℕ × ℕ) → ℕ
widths [] = 0
widths (x ∷ l) = x.0 + widths l

-- from a places past o on, each field is read in s
abbrev pub Reads : List ℕ → ℕ → ℕ → List (ℕ × ℕ) → Type 0
Reads s o a [] = Unit
Reads s o a (x ∷ l) = (little x.0 s (o + a) ≡ x.1) × Reads s o (a + x.0) l

pub length-laid : (l : List (ℕ × ℕ)) → length (laid l) ≡ widths l
unfolding laid
length-laid [] = refl
length-laid (x ∷ l) = let ih = length-laid l in simp (length-append, length_bytes, ih)

pub read_fields : (s : List ℕ) (o a : ℕ) (l : List (ℕ × ℕ)) → Fit l → Lies s (o + a) (laid l) → Reads s o a l
unfolding laid
read_fields s o a [] f h = tt
read_fields s o a (x ∷ l) f h = (
  read_bytes x.0 x.1 s (o + a) f.0 (lies_left s (o + a) (bytes_of x.0 x.1) (laid l) h),
  read_fields s o (a + x.0) l f.1 (rw (length_bytes, add_assoc) at (lies_right s (o + a) (bytes_of x.0 x.1) (laid l) h)),
)

-- ---- rows

pub length-flat : {A B : Type 0} (g : A → List B) (k : ℕ) → ((x : A) → length (g x) ≡ k) → (l : List A) → length (flat_map g l) ≡ k * length l
unfolding flat_map
length-flat g k sized [] = simp mul-zero
length-flat g k sized (x ∷ l) = let ih = length-flat g k sized l in simp (length-append, sized, ih, mul-suc) (omega arith)

module _ {A : Type 0} (g : A → List ℕ) (k : ℕ) (sized : (x : A) → length (g x) ≡ k) where
  -- row j of rows of k bytes
  pub lies_row : (s : List ℕ) (o : ℕ) (l : List A) (d : A) → Lies s o (flat_map g l) → (j : ℕ) → j < length l → Lies s (o + k * j) (g (get_or l j d))
  unfolding flat_map
  lies_row s o [] d h j f = absurd (omega arith)
  lies_row s o (x ∷ l) d h zero f = rw (mul-zero, add-zero) (lies_left s o (g x) (flat_map g l) h)
  lies_row s o (x ∷ l) d h (suc j) f =
      let e : o + length (g x) + k * j ≡ o + k * suc j = rw (sized x, mul-suc) (omega arith) in
      rw (← e) (lies_row s (o + length (g x)) l d (lies_right s o (g x) (flat_map g l) h) j (omega arith))

  -- what stands after the rows
  pub lies_after : (s : List ℕ) (o : ℕ) (l : List A) (b : List ℕ) → Lies s o (flat_map g l ++ b) → Lies s (o + k * length l) b
  lies_after s o l b h = rw (length-flat g k sized l) at (lies_right s o (flat_map g l) b h)

pub rows_back : {A : Type 0} (h : ℕ → A) (d : A) (l : List A) → ((j : ℕ) → j < length l → h j ≡ get_or l j d) → rows h 0 (length l) ≡ l
rows_back h d l e =
    ext_get_or d (rows h 0 (length l)) l (length-rows h 0 (length l))
    (λ j g. let f : j < length l = rw length-rows at g in row_at h (length l) j d f ∙ e j f)
