-- Frozen parts that stay, moved together, and the others cleared. Assumes nothing.
use Prim.Native.Nat.{ℕ, suc, ◌+◌, ◌-◌, ◌*◌, ◌≤◌, ◌<◌}
use mathlib.Core.Path.{◌≡◌, refl, sym, ap, ◌∙◌}
use mathlib.Core.Bool.{true, false, ◌&&◌}
use mathlib.Core.List.{List, [], ◌∷◌, ◌++◌, append-nil, flat_map}
use native.Mathlib.Nat.{zero-add}
use native.Mathlib.Numerals.{add-one}
use native.Mathlib.Omega.{arith}
use borrow.Author.Tests.{lt-ltb}
use lib.IntN.{ℤ}
use lib.Ieee.{Float, nan, binary64}
use lib.ListN.{length, replicate}
use Rattle.std.specs.Float.Ieee.{of_bits}
use Rattle.std.proofs.lemmas.List.{length-replicate}
use Rattle.std.proofs.lemmas.Grind.{flat_map-append}
use Rattle.bounds.specs.Bounds.{FROZEN, HEIGHTS, PART, PARTS, FILTER, FILTERS}
use Rattle.buffers.specs.Buffers.{over, cleared}
use Rattle.buffers.proofs.Over.{over-before}
use Rattle.buffers.proofs.Apart.{renewed_by}
use Rattle.buffers.proofs.Writes.{WrittenOver, written_none, written-more, written_same}
use Rattle.engine.specs.declared.config.FgoConfig.{FgoConfig}
use Rattle.engine.specs.Body.{rows}
use Rattle.fgo_spec.specs.Lists.{cons_if, keep, has}
use Rattle.fgo_spec.specs.Windows as windows
use Rattle.fgo_spec.specs.Windows.{Scan, present}
use Rattle.fgo_spec.specs.Freezing.{kept, remember}
use Rattle.fgo_spec.proofs.Counting.{keep_append}
use Rattle.fgo_spec.proofs.Rows.{rows_more, rows_same}
use Rattle.fgo_part.specs.declared.Prefix.{Prefix}
use Rattle.fgo_part.specs.Parts.{part_id, prefix_in, entry_in, table_in, prefix_of, part_words, part_numbers, Put}
use Rattle.fgo_part.proofs.Parts.{entry_same, heights_most, part_long, words_long, numbers_long}
use Rattle.fgo_part.proofs.Recent.{heights_few}
use Rattle.fgo_state.specs.Memory.{in_window}
use Rattle.fgo_state.proofs.Present.{present-has}
use Rattle.fgo_freeze.specs.Frozen.{kept_in, Remembered}

-- an id stands in a window where it stands in a column
pub present-held : (x : ℕ) (ss : List Scan) → 0 < x → has x (present ss) ≡ in_window x ss
present-held x ss h = present-has x ss ∙ ap (λ b. b && in_window x ss) (lt-ltb 0 x h)

-- the code's test is the definition's
pub kept_is : (c : FgoConfig) (now : ℤ) (ss : List Scan) (t : List ℕ) (f : List Float) (k : ℕ) → 0 < part_id t k → kept_in c now ss t k ≡ kept c now ss (entry_in t f k)
unfolding prefix_in
kept_is c now ss t f k h = rw (present-held (part_id t k) ss h)

-- of the first k parts those that stay are the first w, written over what there was
pub record Keeping (c : FgoConfig) (now : ℤ) (ss : List Scan) (t : List ℕ) (f : List Float) (k w : ℕ) (t' : List ℕ) (f' : List Float) : Type 0 where
  pub within : w ≤ k
  pub low : table_in t' f' w ≡ remember c now ss (table_in t f k)
  pub high : (j : ℕ) → k ≤ j → entry_in t' f' j ≡ entry_in t f j
  pub words : WrittenOver 0 (flat_map part_words (remember c now ss (table_in t f k))) t t'
  pub numbers : WrittenOver 0 (flat_map part_numbers (remember c now ss (table_in t f k))) f f'

-- one more is written after the others
written_one :
    {A E : Type 0} (g : E → List A) (e : E) (ps qs : List E) {l l' l'' : List A} (o : ℕ) → o ≡ length (flat_map g ps) → WrittenOver 0 (flat_map g ps) l l' →
    o + length (g e) ≤ length l → l'' ≡ over o (g e) l' → qs ≡ ps ++ (e ∷ []) → WrittenOver 0 (flat_map g qs) l l''
unfolding flat_map
written_one {A = A} g e ps qs {l' = l'} {l'' = l''} o long w fits h q =
    let front : List A = flat_map g ps in
    let all : flat_map g qs ≡ front ++ g e = ap (flat_map g) q ∙ flat_map-append g ps (e ∷ []) ∙ ap (λ r. front ++ r) (append-nil (g e)) in
    let z : o ≡ 0 + length front = omega arith in
    written_same 0 _ (written-more 0 _ front (g e) w (omega arith) (h ∙ ap (λ (n : ℕ). over n (g e) l') z)) (sym all) refl

module _ (c : FgoConfig) (now : ℤ) (ss : List Scan) (t : List ℕ) (f : List Float) where
  pub keeping_none : Keeping c now ss t f 0 0 t f
  unfolding remember keep rows flat_map
  keeping_none =
      record { within = omega arith; low = refl; high = λ j h. refl; words = written_none 0 t; numbers = written_none 0 f }

  -- one part more is tested
  tested : (k : ℕ) → remember c now ss (table_in t f (suc k)) ≡ remember c now ss (table_in t f k) ++ cons_if (kept c now ss (entry_in t f k)) (entry_in t f k) []
  unfolding remember keep
  tested k =
      let e : table_in t f (suc k) ≡ table_in t f k ++ (entry_in t f k ∷ []) = rw zero-add at (rows_more (entry_in t f) 0 k) in
      ap (keep (kept c now ss)) e ∙ keep_append (kept c now ss) (table_in t f k) (entry_in t f k ∷ [])

  module _ {k w : ℕ} {t₁ : List ℕ} {f₁ : List Float} (g : Keeping c now ss t f k w t₁ f₁) where
    pub keeping_skip : kept c now ss (entry_in t f k) ≡ false → Keeping c now ss t f (k + 1) w t₁ f₁
    keeping_skip e =
        let same : remember c now ss (table_in t f (suc k)) ≡ remember c now ss (table_in t f k) = tested k ∙ rw e (append-nil (remember c now ss (table_in t f k))) in
        rw add-one
        (record {
          within = omega (arith, g.within);
          low = g.low ∙ sym same;
          high = λ j h. g.high j (omega arith);
          words = rw same g.words;
          numbers = rw same g.numbers;
        })

    -- a part that stays has few heights
    pub kept_few : 1 ≤ length (entry_in t f k).1.heights → (p : Prefix) → prefix_of p ≡ prefix_in t₁ f₁ k → p.heights.count ≤ HEIGHTS
    kept_few h p e =
        let q : (prefix_of p).heights ≡ (entry_in t f k).1.heights = ap (λ u. u.heights) e ∙ ap (λ u. u.1.heights) (g.high k (omega arith)) in
        heights_few p.heights.values 0 p.heights.count (rw (← q) at h)

    module _ (few : k < FROZEN) (wide : length t ≡ PARTS) (deep : length f ≡ FILTERS) (x : ℕ) (p : Prefix) (same : (x, prefix_of p) ≡ entry_in t₁ f₁ k) where
      pub keeping_more : {t₂ : List ℕ} {f₂ : List Float} → Put w x p t₁ f₁ t₂ f₂ → kept c now ss (entry_in t f k) ≡ true → Keeping c now ss t f (k + 1) (w + 1) t₂ f₂
      keeping_more {t₂} {f₂} u e =
          let ps : List (ℕ × windows.Prefix) = remember c now ss (table_in t f k) in
          let qs : List (ℕ × windows.Prefix) = remember c now ss (table_in t f (suc k)) in
          let d : ℕ × windows.Prefix = (x, prefix_of p) in
          let front : table_in t₂ f₂ w ≡ table_in t₁ f₁ w = rows_same (entry_in t₂ f₂) (entry_in t₁ f₁) 0 w (λ j a b. u.others j (λ (z : j ≡ w). omega arith)) in
          let one : d ≡ entry_in t f k = same ∙ g.high k (omega arith) in
          let more : qs ≡ ps ++ (d ∷ []) = tested k ∙ rw (e, one) refl in
          let a : PART * w ≡ length (flat_map part_words ps) = sym (words_long t₁ f₁ w) ∙ ap (λ l. length (flat_map part_words l)) g.low in
          let b : FILTER * w ≡ length (flat_map part_numbers ps) = sym (numbers_long t₁ f₁ w) ∙ ap (λ l. length (flat_map part_numbers l)) g.low in
          let long = part_long d (heights_most p.heights.values 0 p.heights.count) in
          rw (add-one, add-one)
          (record {
            within = omega (arith, g.within);
            low = rows_more (entry_in t₂ f₂) 0 w ∙ rw (zero-add, front, u.here, g.low) (sym more);
            high = λ j h. u.others j (λ (z : j ≡ w). omega (arith, g.within)) ∙ g.high j (omega arith);
            words = written_one part_words d ps qs (PART * w) a g.words (omega (arith, g.within)) u.words more;
            numbers = written_one part_numbers d ps qs (FILTER * w) b g.numbers (omega (arith, g.within, long)) u.numbers more;
          })

-- cells from a place on are cleared: the parts before it are as they were
before_cleared :
    (t : List ℕ) (f : List Float) (w r : ℕ) → w + r ≤ FROZEN → length t ≡ PARTS → length f ≡ FILTERS →
    table_in (cleared 0 (PART * w) (PART * r) t) (cleared (of_bits binary64 0) (FILTER * w) (FILTER * r) f) w ≡ table_in t f w
before_cleared t f w r few wide deep =
    let zs : List ℕ = replicate (PART * r) 0 in
    let ns : List Float = replicate (FILTER * r) (of_bits binary64 0) in
    let a : length zs ≡ PART * r = length-replicate (PART * r) 0 in
    let b : length ns ≡ FILTER * r = length-replicate (FILTER * r) (of_bits binary64 0) in
    rows_same (entry_in (over (PART * w) zs t) (over (FILTER * w) ns f)) (entry_in t f) 0 w
    (λ j h l.
    entry_same t f j (over (PART * w) zs t) (over (FILTER * w) ns f) j (λ i m. over-before (PART * w) zs t (omega (arith, a)) (PART * j + i) 0 (omega arith))
    (λ i m. over-before (FILTER * w) ns f (omega (arith, b)) (FILTER * j + i) nan (omega arith)))

-- all are tested, and the others are cleared
pub keeping_all :
    (c : FgoConfig) (now : ℤ) (ss : List Scan) (t : List ℕ) (f : List Float) (n w : ℕ) {t₁ t' : List ℕ} {f₁ f' : List Float} → Keeping c now ss t f n w t₁ f₁ →
    n ≤ FROZEN → length t ≡ PARTS → length f ≡ FILTERS → t' ≡ cleared 0 (PART * w) (PART * (n - w)) t₁ →
    f' ≡ cleared (of_bits binary64 0) (FILTER * w) (FILTER * (n - w)) f₁ → Remembered (remember c now ss (table_in t f n)) n w t f t' f'
keeping_all c now ss t f n w {t₁} {t'} {f₁} {f'} g few wide deep et ef =
    let ps : List (ℕ × windows.Prefix) = remember c now ss (table_in t f n) in
    let a : length (flat_map part_words ps) ≡ PART * w = ap (λ l. length (flat_map part_words l)) (sym g.low) ∙ words_long t₁ f₁ w in
    let b : length (flat_map part_numbers ps) ≡ FILTER * w = ap (λ l. length (flat_map part_numbers l)) (sym g.low) ∙ numbers_long t₁ f₁ w in
    let p : PART * (n - w) ≡ PART * n - length (flat_map part_words ps) = omega arith in
    let q : FILTER * (n - w) ≡ FILTER * n - length (flat_map part_numbers ps) = omega arith in
    record {
      table = rw (et, ef) (before_cleared t₁ f₁ w (n - w) (omega (arith, g.within)) (g.words.long ∙ wide) (g.numbers.long ∙ deep)) ∙ g.low;
      words = et ∙ rw (p, ← a, g.words.written) (renewed_by 0 (PART * n) (flat_map part_words ps) t (omega (arith, g.within)) (omega arith));
      numbers = ef ∙ rw (q, ← b, g.numbers.written) (renewed_by (of_bits binary64 0) (FILTER * n) (flat_map part_numbers ps) f (omega (arith, g.within)) (omega arith));
    }
