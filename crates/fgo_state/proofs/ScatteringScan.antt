-- The ids put back into the column of a scan, cell by cell. Assumes nothing.
use Prim.Native.Nat.{ℕ, zero, suc, ◌+◌, ◌-◌, ◌*◌, ◌≤◌, ◌<◌}
use native.Mathlib.Nat.{zero-add, add-zero}
use native.Mathlib.Numerals.{add-one}
use native.Mathlib.Omega.{arith}
use mathlib.Core.Path.{◌≡◌, refl, sym, ap, ◌∙◌}
use mathlib.Core.Bool.{Bool}
use mathlib.Core.List.{List, [], ◌∷◌, ◌++◌}
use lib.ListN.{length, drop, get_or, set, length-set}
use lib.Seq.{drop-nil, get_or-drop, get_or-set_same, get_or-set_other}
use lib.Dec.{ltb}
use borrow.Author.Tests.{lt-ltb, le-ltb}
use Rattle.bounds.specs.Bounds.{ASSOCIATIONS, DETECTIONS, COLUMN}
use Rattle.engine.specs.Body.{rows}
use Rattle.fgo_spec.specs.Lists.{keep}
use Rattle.fgo_spec.specs.Windows.{in_windows}
use Rattle.fgo_spec.proofs.Counting.{bump, count_snoc, count-append}
use Rattle.fgo_spec.specs.Gathered.{spread}
use Rattle.fgo_spec.proofs.Spreads.{above}
use Rattle.fgo_part.specs.Parts.{cells}
use Rattle.fgo_state.specs.Memory.{slot_at, id_at}
use Rattle.fgo_state.specs.Gathering.{count_in, ScatteredScan}
use Rattle.fgo_spec.proofs.Rows.{rows_more, rows_parts, rows_same}

-- ---- a column put back, one id more

spread-more : (is : List ℕ) (i : ℕ) (gs : List ℕ) → spread (is ++ (i ∷ [])) gs ≡ spread is gs ++ spread (i ∷ []) (drop (in_windows is) gs)
unfolding spread keep
spread-more [] i gs = refl
spread-more (zero ∷ is) i gs = ap (λ (l : List ℕ). 0 ∷ l) (spread-more is i gs)
spread-more (suc x ∷ is) i [] = rw (above x) (ap (λ (l : List ℕ). 0 ∷ l) (spread-more is i [] ∙ ap (λ (l : List ℕ). spread is [] ++ spread (i ∷ []) l) (drop-nil (in_windows is))))
spread-more (suc x ∷ is) i (g ∷ gs) = rw (above x) (ap (λ (l : List ℕ). g ∷ l) (spread-more is i gs))

spread-held : (i : ℕ) (gs : List ℕ) → 0 < i → spread (i ∷ []) gs ≡ get_or gs 0 0 ∷ []
unfolding spread
spread-held zero gs h = absurd (omega arith)
spread-held (suc i) [] h = refl
spread-held (suc i) (g ∷ gs) h = refl

spread-clutter : (i : ℕ) (gs : List ℕ) → i ≤ 0 → spread (i ∷ []) gs ≡ 0 ∷ []
unfolding spread
spread-clutter zero gs h = refl
spread-clutter (suc i) gs h = absurd (omega arith)

-- ---- the cells of a column

count_rise : (g : ℕ → ℕ) (j m : ℕ) → j ≤ m → in_windows (rows g 0 j) ≤ in_windows (rows g 0 m)
count_rise g j m h =
    let e : j + (m - j) ≡ m = omega arith in
    let p : rows g 0 m ≡ rows g 0 j ++ rows g (0 + j) (m - j) = ap (rows g 0) (sym e) ∙ rows_parts g 0 j (m - j) in
    omega (arith, ap in_windows p, count-append (ltb 0) (rows g 0 j) (rows g (0 + j) (m - j)))

-- one cell more
cells-more : (l : List ℕ) (a j : ℕ) → cells 0 l a (j + 1) ≡ cells 0 l a j ++ (get_or l (a + j) 0 ∷ [])
cells-more l a j = ap (cells 0 l a) (add-one j) ∙ rows_more (λ i. get_or l (a + i) 0) 0 j ∙ ap (λ (i : ℕ). cells 0 l a j ++ (get_or l (a + i) 0 ∷ [])) (zero-add j)

count_held : (l : List ℕ) (a j : ℕ) → 0 < get_or l (a + j) 0 → in_windows (cells 0 l a (j + 1)) ≡ in_windows (cells 0 l a j) + 1
count_held l a j h =
    ap in_windows (cells-more l a j)
    ∙ count_snoc (ltb 0) (cells 0 l a j) (get_or l (a + j) 0)
    ∙ ap (λ (b : Bool). bump b (in_windows (cells 0 l a j))) (lt-ltb 0 (get_or l (a + j) 0) h)
    ∙ sym (add-one (in_windows (cells 0 l a j)))

count-clutter : (l : List ℕ) (a j : ℕ) → get_or l (a + j) 0 ≤ 0 → in_windows (cells 0 l a (j + 1)) ≡ in_windows (cells 0 l a j)
count-clutter l a j h = ap in_windows (cells-more l a j) ∙ count_snoc (ltb 0) (cells 0 l a j) (get_or l (a + j) 0) ∙ ap (λ (b : Bool). bump b (in_windows (cells 0 l a j))) (le-ltb 0 (get_or l (a + j) 0) h)

-- the ids of scan n are the cells after the length of its body
pub column-cells : (columns : List ℕ) (n m : ℕ) → m ≤ ASSOCIATIONS → rows (id_at columns n) 0 m ≡ cells 0 columns (COLUMN * slot_at n + 1) m
unfolding id_at
column-cells columns n m h =
    rows_same (id_at columns n) (λ i. get_or columns (COLUMN * slot_at n + 1 + i) 0) 0 m
    (λ i l k. let e : COLUMN * slot_at n + (1 + i) ≡ COLUMN * slot_at n + 1 + i = omega arith in rw (lt-ltb i ASSOCIATIONS (omega arith), e))

-- ---- a loop that puts ids back stands at cell j, of those from place a on

pub record Scatters (a o j p : ℕ) (ids cs cs' : List ℕ) : Type 0 where
  pub place : p ≡ o + in_windows (cells 0 cs a j)
  pub long : length cs' ≡ length cs
  pub column : cells 0 cs' a j ≡ spread (cells 0 cs a j) (drop o ids)
  pub before : (i : ℕ) → i < a → get_or cs' i 0 ≡ get_or cs i 0
  pub after : (i : ℕ) → a + j ≤ i → get_or cs' i 0 ≡ get_or cs i 0

module _ (a o : ℕ) (ids cs : List ℕ) where
  pub scatters_none : Scatters a o 0 o ids cs cs
  unfolding rows spread keep
  scatters_none = record { place = omega arith; long = refl; column = refl; before = λ i h. refl; after = λ i h. refl }

  module _ {j p : ℕ} {cs' : List ℕ} (g : Scatters a o j p ids cs cs') where
    -- what was read is what stood there
    scatters-read : get_or cs' (a + j) 0 ≡ get_or cs (a + j) 0
    scatters-read = g.after (a + j) (omega arith)

    pub scatters_held : {q : ℕ} {cs'' : List ℕ} → 0 < get_or cs' (a + j) 0 → a + j < length cs → cs'' ≡ set cs' (a + j) (get_or ids p 0) → q ≡ p + 1 → Scatters a o (j + 1) q ids cs cs''
    scatters_held {q} {cs''} h l e eq =
        let x = get_or ids p 0 in
        let w = in_windows (cells 0 cs a j) in
        let held : 0 < get_or cs (a + j) 0 = rw scatters-read at h in
        let ll = g.long in
        let here : get_or cs'' (a + j) 0 ≡ x = ap (λ (t : List ℕ). get_or t (a + j) 0) e ∙ get_or-set_same cs' (a + j) x 0 (omega arith) in
        let there : (i : ℕ) → (i ≡ a + j → ⊥) → get_or cs'' i 0 ≡ get_or cs' i 0 = λ i d. ap (λ (t : List ℕ). get_or t i 0) e ∙ get_or-set_other cs' (a + j) i x 0 d in
        let same : cells 0 cs'' a j ≡ cells 0 cs' a j = rows_same (λ i. get_or cs'' (a + i) 0) (λ i. get_or cs' (a + i) 0) 0 j (λ i b d. there (a + i) (λ z. omega arith)) in
        let next : get_or (drop w (drop o ids)) 0 0 ≡ x = get_or-drop w (drop o ids) 0 0 ∙ ap (λ (i : ℕ). get_or (drop o ids) i 0) (add-zero w) ∙ get_or-drop o ids w 0 ∙ ap (λ (i : ℕ). get_or ids i 0) (sym g.place) in
        record {
          place = omega (arith, g.place, count_held cs a j held);
          long = ap length e ∙ length-set cs' (a + j) x ∙ g.long;
          column =
              cells-more cs'' a j
              ∙ ap (λ (t : List ℕ). t ++ (get_or cs'' (a + j) 0 ∷ [])) (same ∙ g.column)
              ∙ ap (λ (i : ℕ). spread (cells 0 cs a j) (drop o ids) ++ (i ∷ [])) (here ∙ sym next)
              ∙ ap (λ (t : List ℕ). spread (cells 0 cs a j) (drop o ids) ++ t) (sym (spread-held (get_or cs (a + j) 0) (drop w (drop o ids)) held))
              ∙ sym (spread-more (cells 0 cs a j) (get_or cs (a + j) 0) (drop o ids))
              ∙ ap (λ (t : List ℕ). spread t (drop o ids)) (sym (cells-more cs a j));
          before = λ i k. there i (λ z. omega arith) ∙ g.before i k;
          after = λ i k. there i (λ z. omega arith) ∙ g.after i (omega arith);
        }

    pub scatters_clutter : {q : ℕ} {cs'' : List ℕ} → get_or cs' (a + j) 0 ≤ 0 → cs'' ≡ cs' → q ≡ p → Scatters a o (j + 1) q ids cs cs''
    scatters_clutter {q} {cs''} h e eq =
        let w = in_windows (cells 0 cs a j) in
        let clutter : get_or cs (a + j) 0 ≤ 0 = rw scatters-read at h in
        let zero : get_or cs' (a + j) 0 ≡ 0 = omega arith in
        record {
          place = omega (arith, g.place, count-clutter cs a j clutter);
          long = ap length e ∙ g.long;
          column =
              ap (λ (t : List ℕ). cells 0 t a (j + 1)) e
              ∙ cells-more cs' a j
              ∙ ap (λ (t : List ℕ). t ++ (get_or cs' (a + j) 0 ∷ [])) g.column
              ∙ ap (λ (i : ℕ). spread (cells 0 cs a j) (drop o ids) ++ (i ∷ [])) zero
              ∙ ap (λ (t : List ℕ). spread (cells 0 cs a j) (drop o ids) ++ t) (sym (spread-clutter (get_or cs (a + j) 0) (drop w (drop o ids)) clutter))
              ∙ sym (spread-more (cells 0 cs a j) (get_or cs (a + j) 0) (drop o ids))
              ∙ ap (λ (t : List ℕ). spread t (drop o ids)) (sym (cells-more cs a j));
          before = λ i k. ap (λ (t : List ℕ). get_or t i 0) e ∙ g.before i k;
          after = λ i k. ap (λ (t : List ℕ). get_or t i 0) e ∙ g.after i (omega arith);
        }

-- of scan n, all its cells
module _ (n m o : ℕ) (ids cs : List ℕ) (few : m ≤ ASSOCIATIONS) {a j p : ℕ} {cs' : List ℕ} (g : Scatters a o j p ids cs cs') (at : a ≡ COLUMN * slot_at n + 1) where
  counted : count_in cs n m ≡ in_windows (cells 0 cs a m)
  counted = ap in_windows (column-cells cs n m few) ∙ ap (λ (i : ℕ). in_windows (cells 0 cs i m)) (sym at)

  -- there is an id for the next cell
  pub scatters_room : o + count_in cs n m ≤ DETECTIONS → j < m → 0 < get_or cs' (a + j) 0 → p < DETECTIONS
  scatters_room r l h =
      let held : 0 < get_or cs (a + j) 0 = rw (scatters-read a o ids cs g) at h in
      omega (arith, g.place, counted, count_held cs a j held, count_rise (λ i. get_or cs (a + i) 0) (j + 1) m (omega arith))

  pub scatters_all : j ≡ m → (p ≡ o + count_in cs n m) × ScatteredScan n m o ids cs cs'
  scatters_all z = (
    g.place ∙ ap (λ (i : ℕ). o + in_windows (cells 0 cs a i)) z ∙ ap (λ (i : ℕ). o + i) (sym counted),
    record {
      column =
          column-cells cs' n m few
          ∙ ap (λ (i : ℕ). cells 0 cs' i m) (sym at)
          ∙ ap (cells 0 cs' a) (sym z)
          ∙ g.column
          ∙ ap (λ (i : ℕ). spread (cells 0 cs a i) (drop o ids)) z
          ∙ ap (λ (i : ℕ). spread (cells 0 cs i m) (drop o ids)) at
          ∙ ap (λ (t : List ℕ). spread t (drop o ids)) (sym (column-cells cs n m few));
      before = λ i h. g.before i (omega arith);
      after = λ i h. g.after i (omega arith);
      long = g.long;
    },
  )
