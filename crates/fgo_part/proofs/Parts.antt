-- Frozen parts in memory and by value. Assumes nothing.
use Prim.Native.Nat.{ℕ, zero, suc, ◌+◌, ◌-◌, ◌*◌, ◌≤◌, ◌<◌}
use mathlib.Core.Path.{◌≡◌, refl, sym, ap, ◌∙◌}
use mathlib.Core.Bool.{Bool, true, false, cond}
use mathlib.Core.List.{List, [], ◌++◌, append_assoc, flat_map}
use native.Mathlib.Nat.{add-zero, zero-add, add_assoc}
use native.Mathlib.Omega.{arith}
use borrow.Author.Tests.{leb-true, le-leb, ltb-true, ltb-false}
use lib.Dec.{leb, ltb, lit<}
use lib.ListN.{length, get_or, take, drop, length-append, length-drop, get_or-append, replicate}
use lib.Seq.{get_or-append-add, get_or-take, get_or-drop, length-take-le}
use lib.Ieee.{Float, nan, binary64}
use Rattle.std.specs.List.{copy_within}
use Rattle.std.specs.Float.Ieee.{of_bits}
use Rattle.std.proofs.lemmas.List.{length-replicate, drop-replicate}
use Rattle.bounds.specs.Bounds.{FROZEN, PART, PARTS, KF, HEIGHTS, FILTER, FILTERS}
use Rattle.scalar.specs.Scalar.{word, signed}
use Rattle.kf.specs.Filter.{kf_in, kf_numbers}
use Rattle.buffers.specs.Buffers.{over}
use Rattle.buffers.proofs.Over.{over-before, over_in, over_after, over-more}
use Rattle.engine.specs.Body.{rows}
use Rattle.engine.proofs.Laid.{length-flat}
use Rattle.engine.proofs.Passing.{length-rows}
use Rattle.fgo_spec.specs.Windows as windows
use Rattle.fgo_spec.specs.Lists.{segment}
use Rattle.fgo_spec.specs.Emitting.{class_word}
use Rattle.fgo_spec.proofs.Rows.{rows_same}
use Rattle.fgo_part.specs.declared.Prefix.{Prefix}
use Rattle.fgo_part.specs.Parts.{cells, class_in, heights_in, part_id, part_height_count, part_kf, part_heights_at, prefix_in, entry_in, table_in, prefix_of, part_words, height_numbers, part_numbers, Put}
use Rattle.fgo_part.proofs.Cells.{cells-take, cells_are}

-- ---- a piece of a list

module _ {A : Type 0} (l : List A) (o n : ℕ) where
  pub segment_long : o + n ≤ length l → length (segment o (o + n) l) ≡ n
  segment_long h =
      let e : o + n - o ≡ n = omega arith in
      rw e (length-take-le n (drop o l) (omega (arith, length-drop o l)))

  pub segment-at : (d : A) (i : ℕ) → i < n → get_or (segment o (o + n) l) i d ≡ get_or l (o + i) d
  segment-at d i h =
      let e : o + n - o ≡ n = omega arith in
      rw e (get_or-take n (drop o l) i d h ∙ get_or-drop o l i d)

-- a piece copied within its list
pub copy_over : {A : Type 0} (l : List A) (o n k : ℕ) → o + n ≤ length l → copy_within l o (o + n) k ≡ over k (segment o (o + n) l) l
unfolding over
copy_over l o n k h =
    let e : o + n - o ≡ n = omega arith in
    rw (segment_long l o n h, e) (append_assoc (take k l) (take n (drop o l)) (drop (k + n) l))

-- one list after another
pub two-over :
    {A : Type 0} (l : List A) (o : ℕ) (g h : List A) {l' l'' : List A} → o + length g ≤ length l → l' ≡ over o g l → l'' ≡ over (o + length g) h l' →
    l'' ≡ over o (g ++ h) l
two-over l o g h fits e f = f ∙ ap (over (o + length g) h) e ∙ over-more o g l fits h

-- ---- heights

-- those of HEIGHTS places
module _ (l ns : List Float) (p o : ℕ) (same : (i : ℕ) → i < HEIGHTS → get_or l (p + i) nan ≡ get_or ns (o + i) nan) where
  heights-by : (n : ℕ) (b : Bool) → leb n HEIGHTS ≡ b → cond b (cells nan l p n) [] ≡ cond b (cells nan ns o n) []
  heights-by n true h = rows_same (λ i. get_or l (p + i) nan) (λ i. get_or ns (o + i) nan) 0 n (λ k a b. same k (omega (arith, leb-true n HEIGHTS h)))
  heights-by n false h = refl

  pub heights_same : (n : ℕ) → heights_in l p n ≡ heights_in ns o n
  heights_same n = heights-by n (leb n HEIGHTS) refl

-- they are as many as they should be
pub heights-long : (l : List Float) (o n : ℕ) → n ≤ HEIGHTS → length (heights_in l o n) ≡ n
heights-long l o n h = rw (le-leb n HEIGHTS h) (length-rows (λ i. get_or l (o + i) nan) 0 n)

-- and no more than HEIGHTS
pub heights_most : (l : List Float) (o n : ℕ) → length (heights_in l o n) ≤ HEIGHTS
heights_most l o n = by (leb n HEIGHTS) refl
  where
    by : (b : Bool) → leb n HEIGHTS ≡ b → length (cond b (cells nan l o n) []) ≤ HEIGHTS
    by true h = omega (arith, leb-true n HEIGHTS h, length-rows (λ i. get_or l (o + i) nan) 0 n)
    by false h = omega arith

-- the first ones of an array, and 0.0 in each place that has none
pub heights_over : (l : List Float) (n : ℕ) → length l ≡ HEIGHTS → n ≤ HEIGHTS → over 0 (take n l) (replicate HEIGHTS (of_bits binary64 0)) ≡ height_numbers (heights_in l 0 n)
unfolding over
heights_over l n high h =
    let e : length (take n l) ≡ n = length-take-le n l (omega arith) in
    rw (le-leb n HEIGHTS h, cells-take nan l n (omega arith), e, zero-add n, drop-replicate n HEIGHTS (of_bits binary64 0))

-- ---- a part is its words and its numbers

-- a filter whose numbers stand in another place
pub kf_same : (f g : List Float) (o p : ℕ) → ((i : ℕ) → i < KF → get_or f (o + i) nan ≡ get_or g (p + i) nan) → kf_in f o ≡ kf_in g p
kf_same f g o p same =
    let first : get_or f o nan ≡ get_or g p nan = rw (add-zero, add-zero) at (same 0 (lit< tt)) in
    λ i. record {
      x = first i;
      y = same 1 (lit< tt) i;
      vx = same 2 (lit< tt) i;
      vy = same 3 (lit< tt) i;
      p00 = same 4 (lit< tt) i;
      p01 = same 5 (lit< tt) i;
      p11 = same 6 (lit< tt) i;
      t = same 7 (lit< tt) i;
    }

module _ (t : List ℕ) (f : List Float) (k : ℕ) (t' : List ℕ) (f' : List Float) (k' : ℕ)
    (words : (a : ℕ) → a < PART → get_or t' (PART * k' + a) 0 ≡ get_or t (PART * k + a) 0)
    (numbers : (b : ℕ) → b < FILTER → get_or f' (FILTER * k' + b) nan ≡ get_or f (FILTER * k + b) nan) where
  key-same : part_id t' k' ≡ part_id t k
  key-same = rw (add-zero, add-zero) at (words 0 (lit< tt))

  tail : (i : ℕ) → i < HEIGHTS → get_or f' (part_heights_at k' + i) nan ≡ get_or f (part_heights_at k + i) nan
  tail i h = rw (add_assoc, add_assoc) (numbers (KF + i) (omega arith))

  pub entry_same : entry_in t' f' k' ≡ entry_in t f k
  unfolding prefix_in
  entry_same =
      rw (
        key-same,
        kf_same f' f (FILTER * k') (FILTER * k) (λ i h. numbers i (omega arith)),
        words 1 (lit< tt),
        words 2 (lit< tt),
        words 3 (lit< tt),
        words 4 (lit< tt),
        words 5 (lit< tt),
        heights_same f' f (part_heights_at k') (part_heights_at k) tail (part_height_count t k),
      )

-- ---- the words and the numbers of parts

-- a part with no more heights than may be has FILTER numbers
pub part_long : (e : ℕ × windows.Prefix) → length e.1.heights ≤ HEIGHTS → length (part_numbers e) ≡ FILTER
part_long e high =
    let hs = e.1.heights in
    let r : List Float = replicate (HEIGHTS - length hs) (of_bits binary64 0) in
    omega (arith, length-append (kf_numbers e.1.kf) (hs ++ r), length-append hs r, length-replicate (HEIGHTS - length hs) (of_bits binary64 0))

-- those of n parts in memory
module _ (t : List ℕ) (f : List Float) where
  pub words_long : (n : ℕ) → length (flat_map part_words (table_in t f n)) ≡ PART * n
  words_long n = length-flat part_words PART (λ e. refl) (table_in t f n) ∙ ap (λ (m : ℕ). PART * m) (length-rows (entry_in t f) 0 n)

  rows_long : (o n : ℕ) → length (flat_map part_numbers (rows (entry_in t f) o n)) ≡ FILTER * n
  unfolding flat_map rows prefix_in
  rows_long o zero = refl
  rows_long o (suc n) =
      let e = entry_in t f o in
      let rest : List Float = flat_map part_numbers (rows (entry_in t f) (suc o) n) in
      let a : length (part_numbers e) ≡ FILTER = part_long e (heights_most f (part_heights_at o) (part_height_count t o)) in
      omega (arith, length-append (part_numbers e) rest, rows_long (suc o) n)

  pub numbers_long : (n : ℕ) → length (flat_map part_numbers (table_in t f n)) ≡ FILTER * n
  numbers_long = rows_long 0

-- ---- words and numbers written over the part k

module _ (t : List ℕ) (f : List Float) (k : ℕ) (few : k < FROZEN) (wide : length t ≡ PARTS) (deep : length f ≡ FILTERS) where
  module _ (ws : List ℕ) (ns : List Float) (words : length ws ≡ PART) (numbers : length ns ≡ FILTER) where
    fits-words : PART * k + length ws ≤ length t
    fits-words = omega arith

    fits-numbers : FILTER * k + length ns ≤ length f
    fits-numbers = omega arith

    -- what stands there
    pub word_in : (a : ℕ) → a < PART → get_or (over (PART * k) ws t) (PART * k + a) 0 ≡ get_or ws a 0
    word_in a h = over_in (PART * k) ws t fits-words a 0 (omega arith)

    pub number_in : (b : ℕ) → b < FILTER → get_or (over (FILTER * k) ns f) (FILTER * k + b) nan ≡ get_or ns b nan
    number_in b h = over_in (FILTER * k) ns f fits-numbers b nan (omega arith)

    -- every other part is as it was
    word_else : (j : ℕ) (d : Bool) → ltb j k ≡ d → (j ≡ k → ⊥) → (a : ℕ) → a < PART → get_or (over (PART * k) ws t) (PART * j + a) 0 ≡ get_or t (PART * j + a) 0
    word_else j true q ne a h = over-before (PART * k) ws t fits-words (PART * j + a) 0 (omega (arith, ltb-true j k q))
    word_else j false q ne a h = let z : k < j = omega (arith, ltb-false j k q, ne) in over_after (PART * k) ws t fits-words (PART * j + a) 0 (omega arith)

    number-else : (j : ℕ) (d : Bool) → ltb j k ≡ d → (j ≡ k → ⊥) → (b : ℕ) → b < FILTER → get_or (over (FILTER * k) ns f) (FILTER * j + b) nan ≡ get_or f (FILTER * j + b) nan
    number-else j true q ne a h = over-before (FILTER * k) ns f fits-numbers (FILTER * j + a) nan (omega (arith, ltb-true j k q))
    number-else j false q ne a h = let z : k < j = omega (arith, ltb-false j k q, ne) in over_after (FILTER * k) ns f fits-numbers (FILTER * j + a) nan (omega arith)

    pub others_stay : (j : ℕ) → (j ≡ k → ⊥) → entry_in (over (PART * k) ws t) (over (FILTER * k) ns f) j ≡ entry_in t f j
    others_stay j ne = entry_same t f j (over (PART * k) ws t) (over (FILTER * k) ns f) j (word_else j (ltb j k) refl ne) (number-else j (ltb j k) refl ne)

  -- a part written there, of which each word says what it stands for
  module _ (x : ℕ) (q : windows.Prefix) (high : length q.heights ≤ HEIGHTS) (time : signed (word q.last_ns) ≡ q.last_ns) (class : class_in (class_word q.class) ≡ q.class) where
    abbrev ws : List ℕ
    ws = part_words (x, q)

    abbrev ns : List Float
    ns = part_numbers (x, q)

    long : length ns ≡ FILTER
    long = part_long (x, q) high

    pub part_here : entry_in (over (PART * k) ws t) (over (FILTER * k) ns f) k ≡ (x, q)
    unfolding prefix_in
    part_here =
        let w = word_in ws ns refl long in
        let n = number_in ws ns refl long in
        let t₁ : List ℕ = over (PART * k) ws t in
        let f₁ : List Float = over (FILTER * k) ns f in
        let hs = q.heights in
        let e0 : part_id t₁ k ≡ x = rw add-zero at (w 0 (lit< tt)) in
        let g : part_kf f₁ k ≡ q.kf = kf_same f₁ ns (FILTER * k) 0 (λ i h. n i (omega arith) ∙ ap (λ (m : ℕ). get_or ns m nan) (sym (zero-add i))) in
        let h : heights_in f₁ (part_heights_at k) (length hs) ≡ hs =
        rw (le-leb (length hs) HEIGHTS high)
        (cells_are nan f₁ hs (part_heights_at k)
        (λ i l. ap (λ (m : ℕ). get_or f₁ m nan) (add_assoc (FILTER * k) KF i) ∙ n (KF + i) (omega arith) ∙ get_or-append-add (kf_numbers q.kf) (height_numbers hs) i nan ∙ get_or-append hs (replicate (HEIGHTS - length hs) (of_bits binary64 0)) nan i l))
        in
        rw (e0, g, w 1 (lit< tt), w 2 (lit< tt), w 3 (lit< tt), w 4 (lit< tt), w 5 (lit< tt), time, class, h)

  -- a part by value put there
  pub part_put :
      (x : ℕ) (p : Prefix) {t' : List ℕ} {f' : List Float} → signed (word p.last_ns) ≡ p.last_ns →
      class_in (class_word p.class) ≡ p.class → t' ≡ over (PART * k) (part_words (x, prefix_of p)) t → f' ≡ over (FILTER * k) (part_numbers (x, prefix_of p)) f → Put k x p t f t' f'
  part_put x p time class et ef =
      let q = prefix_of p in
      let high : length q.heights ≤ HEIGHTS = heights_most p.heights.values 0 p.heights.count in
      record {
        words = et;
        numbers = ef;
        here = rw (et, ef) (part_here x q high time class);
        others = rw (et, ef) (others_stay (part_words (x, q)) (part_numbers (x, q)) refl (part_long (x, q) high));
      }
