-- What a pass takes over from the last one. Assumes nothing.
use Rattle.search_rows.specs.declared.rows.Row.{Row}
use Rattle.search.specs.declared.marks.Mark.{Mark}
use Rattle.search.specs.declared.marks.Mark.TheVariants.{Resting, ByTrack}
use Rattle.std.specs.Prelude.{◌≢◌}
use Prim.Native.Nat.{ℕ, ◌+◌, ◌<◌}
use native.Mathlib.Decide.{ℕ_discrete, dec_lt}
use native.Mathlib.Omega.{arith}
use mathlib.Core.Path.{◌≡◌, sym, ap, ◌∙◌, subst}
use mathlib.Core.Bool.{true}
use mathlib.Core.List.{List}
use lib.ListN.{get_or, set, length-set}
use lib.Seq.{get_or-set_same, get_or-set_other}
use lib.Ieee.{Float}
use Rattle.bounds.specs.Bounds.{DETECTIONS}
use Rattle.search_rows.specs.Rows.{Tabled}
use Rattle.search_neighbours.specs.Near.{row_at}
use Rattle.search.specs.Pass.{Scene, row_on, cost_on, pair_rest, track_rest, IdTable, Due, Left, From, Carried}
use Rattle.search.proofs.Costing.{costed_more}
use Rattle.search.proofs.Meeting.{table_row}

-- ---- place by place

module _ {e : Scene} {n : ℕ} {old : List ℕ} {moved : List Mark} {table ids : List ℕ} where
  module _ {i : ℕ} {costs : List Float} {due : List Mark} (h : i < DETECTIONS) (o : Carried e n old moved table ids i costs due) where
    -- one place more
    pub carried-more :
        (v : Float) (m : Mark) → v ≡ cost_on e ids (get_or table i 0) → (m ≢ ByTrack → From n old moved (get_or table i 0) m) →
        Carried e n old moved table ids (i + 1) (set costs i v) (set due i m)
    carried-more v m q f =
        record {
          costed = costed_more h o.costed v q;
          long = length-set due i m ∙ o.long;
          from = λ j b z. from j b z (ℕ_discrete j i);
        }
      where
        is : get_or (set due i m) i Resting ≡ m
        is = get_or-set_same due i m Resting (omega (arith, h, o.long))

        from : (j : ℕ) → j < i + 1 → get_or (set due i m) j Resting ≢ ByTrack → Dec (j ≡ i) → From n old moved (get_or table j 0) (get_or (set due i m) j Resting)
        from j b z (yes q) =
            subst (λ (j : ℕ). From n old moved (get_or table j 0) (get_or (set due i m) j Resting)) (sym q)
            (subst (From n old moved (get_or table i 0)) (sym is) (f (subst (λ (v : Mark). v ≢ ByTrack) is (subst (λ (j : ℕ). get_or (set due i m) j Resting ≢ ByTrack) q z))))
        from j b z (no q) =
            subst (From n old moved (get_or table j 0)) (sym (get_or-set_other due i j m Resting q))
            (o.from j (omega arith) (subst (λ (v : Mark). v ≢ ByTrack) (get_or-set_other due i j m Resting q) z))

-- ---- what is due

resting : {m : Mark} → m ≡ Resting → m ≢ ByTrack
resting p e = let w : Resting ≡ ByTrack = sym p ∙ e in cc

-- places of ascending ids are in their order
listed_order : {n : ℕ} {table : List ℕ} → IdTable n table → (k m : ℕ) → k < n → m < n → get_or table k 0 < get_or table m 0 → k < m
listed_order {n} {table} l k m h g b = go (dec_lt k m) (ℕ_discrete k m)
  where
    go : Dec (k < m) → Dec (k ≡ m) → k < m
    go (yes d) q = d
    go (no d) (yes q) = let w : get_or table k 0 ≡ get_or table m 0 = ap (λ (j : ℕ). get_or table j 0) q in absurd (omega arith)
    go (no d) (no q) = absurd (omega (arith, l.rises m k (omega arith) h))

module _ {e : Scene} {n count : ℕ} {old : List ℕ} {moved : List Mark} {table ids : List ℕ} {rows : List Row} {due : List Mark} {paid costs : List Float} (l : Left e count old ids paid moved) (listed : IdTable n table) (tabled : Tabled e.starts ids table n rows) (o : Carried e count old moved table ids n costs due) where
  due-pair :
      (i j : ℕ) → i < j → j < n → From count old moved (get_or table i 0) (get_or due i Resting) → From count old moved (get_or table j 0) (get_or due j Resting) →
      get_or due i Resting ≡ Resting → get_or due j Resting ≡ Resting → pair_rest e (get_or table i 0) (get_or table j 0) (row_at rows i) (row_at rows j) ≡ true
  due-pair i j h g f t p q =
      (λ m. pair_rest e (get_or table i 0) (get_or table j 0) (table_row tabled i (omega arith) m) (table_row tabled j g m))
      ∙ sym (λ m. pair_rest e (f.is m) (t.is m) (row_on e ids (f.is m)) (row_on e ids (t.is m)))
      ∙ l.pair f.place t.place
      (listed_order l.listed f.place t.place f.within t.within (omega (arith, f.is, t.is, listed.rises i j h g)))
      t.within (f.mark ∙ p) (t.mark ∙ q)

  due-track : (i : ℕ) → i < n → get_or due i Resting ≢ ByTrack → From count old moved (get_or table i 0) (get_or due i Resting) → track_rest e (get_or table i 0) (row_at rows i) ≡ true
  due-track i h z f =
      ap (track_rest e (get_or table i 0)) (table_row tabled i h)
      ∙ sym (λ m. track_rest e (f.is m) (row_on e ids (f.is m)))
      ∙ l.track f.place f.within (λ e. z (sym f.mark ∙ e))

  pub due_is : Due e n table rows due
  due_is =
      record {
        long = o.long;
        pair = λ i j h g. record { pair = λ p q. due-pair i j h g (o.from i (omega arith) (resting p)) (o.from j g (resting q)) p q };
        track = λ i h z. due-track i h z (o.from i h z);
      }
