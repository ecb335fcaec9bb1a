-- The fold over the scans of a row before a cut, kept and taken on: what it gives with the rest, and that its misses
-- stay few. Assumes nothing.
use mathlib.Core.Path.{◌≡◌, refl, sym, ap, ◌∙◌}
use mathlib.Core.List.{List, ◌++◌, append-nil}
use Prim.Native.Nat.{ℕ, ◌+◌, ◌-◌, ◌^◌, ◌≤◌, ◌<◌}
use native.Mathlib.Nat.{zero-add}
use native.Mathlib.Omega.{arith}
use lib.ListN.{length, get_or, take, drop, length-take, length-drop, take-append-drop}
use lib.Seq.{length-take-le, take-add, get_or-drop, ext_get_or}
use Rattle.bounds.specs.Bounds.{SCANS}
use Rattle.engine.specs.declared.config.FgoConfig.{FgoConfig}
use Rattle.engine.specs.declared.types.ScanIndex.{ScanIndex}
use Rattle.cost.specs.declared.Fold.{Fold}
use Rattle.cost.specs.Cost.{Measurement, View, measurements, fold_over, closed, cost, misses_of}
use Rattle.cost.proofs.Steps.{fold-append, dets_append, dets_none, misses_fold}
use Rattle.fgo_spec.specs.Lists.{segment}
use Rattle.search_rows.specs.Rows.{end_from}
use Rattle.search_rows.proofs.RowEnds.{end_empty, end_by}
use Rattle.cost_row.specs.Price.{Fit, Until, EndsBy, row_cost, head_of, crossed, on_to}

module _ (c : FgoConfig) (v : View) (p : Fold) (r : List ℕ) where
  -- what follows the scans before k goes on from the head
  goes_on : (k : ℕ) (q : List ℕ) → k ≤ length r → fold_over c p (measurements v 0 (take k r ++ q)) ≡ fold_over c (head_of c v p r k) (measurements v k q)
  goes_on k q h =
      ap (fold_over c p) (dets_append v 0 (take k r) q)
      ∙ fold-append c p (measurements v 0 (take k r)) (measurements v (0 + length (take k r)) q)
      ∙ ap (λ (n : ℕ). fold_over c (head_of c v p r k) (measurements v n q)) (zero-add (length (take k r)) ∙ length-take-le k r h)

  -- the head goes on to the next cut
  head-on : (k g : ℕ) → k ≤ g → g ≤ length r → on_to c v k g r (head_of c v p r k) ≡ head_of c v p r g
  head-on k g h l =
      let e : k + (g - k) ≡ g = omega arith in
      sym (goes_on k (segment k g r) (omega arith)) ∙ ap (λ (q : List ℕ). fold_over c p (measurements v 0 q)) (sym (take-add k (g - k) r) ∙ ap (λ (n : ℕ). take n r) e)

  -- the tail of another row
  pub crossed-cost : (k : ℕ) (q : List ℕ) → k ≤ length r → cost c (head_of c v p r k) (measurements v k (drop k q)) ≡ row_cost c v p (crossed k r q)
  crossed-cost k q h = sym (ap (closed c) (goes_on k (drop k q) h))

  -- few misses
  head_few : (k : ℕ) → v.first < 2 ^ 33 → length r ≡ SCANS → misses_of p ≡ 0 → misses_of (head_of c v p r k) < 2 ^ 58
  head_few k e l z =
      let m : length (take k r) ≤ SCANS = omega (arith, length-take k r) in
      omega (arith, misses_fold c v p 0 (take k r) (omega arith))

-- the scan of a number
pub scan_by : {s : ScanIndex} {n : ℕ} → s.0 ≡ n → s ≡ record { 0 = n }
scan_by e = λ i. record { 0 = e i }

-- ---- the rest of a row, up to its end

pub ends_at : {r : List ℕ} {e : ℕ} → length r ≡ SCANS → e ≡ end_from 0 0 r → EndsBy e r
ends_at {r} {e} l q = record { within = omega (arith, end_by r); long = l; empty = λ k h. end_empty r k (omega arith) }

pub ends_later : {r : List ℕ} {d e : ℕ} → d ≤ e → e ≤ SCANS → EndsBy d r → EndsBy e r
ends_later h l s = record { within = l; long = s.long; empty = λ k g. s.empty k (omega arith) }

-- rows that have ended before a cut are not changed by it
pub ends_same : {end : ℕ} {r q : List ℕ} → EndsBy end r → EndsBy end q → (g : ℕ) → end ≤ g → crossed g r q ≡ r
ends_same {end} {r} {q} s t g h =
    ap (λ (l : List ℕ). take g r ++ l)
    (ext_get_or 0 (drop g q) (drop g r) (omega (arith, length-drop g q, length-drop g r, s.long, t.long)) (λ i l. get_or-drop g q i 0 ∙ t.empty (g + i) (omega arith) ∙ sym (get_or-drop g r i 0 ∙ s.empty (g + i) (omega arith))))
    ∙ take-append-drop g r

module _ {end : ℕ} {r : List ℕ} (e : EndsBy end r) (c : FgoConfig) (v : View) (f : Fold) (k : ℕ) where
  -- nothing is left
  pub rest_gone : end ≤ k → closed c f ≡ cost c f (measurements v k (drop k r))
  unfolding fold_over
  rest_gone h = sym (ap (cost c f) (dets_none v k (drop k r) (λ j. get_or-drop k r j 0 ∙ e.empty (k + j) (omega arith))))

  -- what is left lies before the end
  pub rest-held : k ≤ end → cost c f (measurements v k (segment k end r)) ≡ cost c f (measurements v k (drop k r))
  rest-held h =
      ap (cost c f)
      (sym (append-nil (measurements v k (segment k end r)))
      ∙ ap (λ (l : List Measurement). measurements v k (segment k end r) ++ l) (sym (dets_none v (k + length (segment k end r)) (drop (end - k) (drop k r)) past))
      ∙ sym (dets_append v k (segment k end r) (drop (end - k) (drop k r)))
      ∙ ap (measurements v k) (take-append-drop (end - k) (drop k r)))
    where
      past : (j : ℕ) → get_or (drop (end - k) (drop k r)) j 0 ≡ 0
      past j = get_or-drop (end - k) (drop k r) j 0 ∙ get_or-drop k r (end - k + j) 0 ∙ e.empty (k + (end - k + j)) (omega arith)

-- f is the head of a row before a scan that is no later than k
pub record Along (c : FgoConfig) (v : View) (p : Fold) (r : List ℕ) (k done : ℕ) (f : Fold) : Type 0 where
  pub before : done ≤ k
  pub is : f ≡ head_of c v p r done

pub begins : (c : FgoConfig) (v : View) (p : Fold) (r : List ℕ) → Along c v p r 0 0 p
unfolding fold_over measurements
begins c v p r = record { before = omega arith; is = refl }

module _ {c : FgoConfig} {v : View} {p : Fold} {r : List ℕ} {k done : ℕ} {f : Fold} (a : Along c v p r k done f) where
  -- one scan passed
  pub passes : Along c v p r (k + 1) done f
  passes = record { before = omega (arith, a.before); is = a.is }

  pub on_to_lem : k ≤ length r → on_to c v done k r f ≡ head_of c v p r k
  on_to_lem h = ap (on_to c v done k r) a.is ∙ head-on c v p r done k a.before h

  -- and taken on to the scan
  pub taken_on : k ≤ length r → Along c v p r (k + 1) k (on_to c v done k r f)
  taken_on h = record { before = omega arith; is = on_to_lem h }

  pub until : v.first < 2 ^ 33 → Fit p r → Until k done f r
  until e t = record { before = a.before; few = rw a.is (head_few c v p r done e t.long t.idle); long = t.long }

  -- few misses there too
  pub few_on : k ≤ length r → v.first < 2 ^ 33 → Fit p r → {g : Fold} → g ≡ on_to c v done k r f → misses_of g < 2 ^ 58
  few_on h e t q = rw (q, on_to_lem h) (head_few c v p r k e t.long t.idle)
