-- How the fold over a row goes on: what is left of it, and the misses it counts. Assumes nothing.
use Rattle.std.specs.Prelude.{Option, Some, None, MatchOption}
use Rattle.std.specs.List.{AllWithin, HoldsAt}
use mathlib.Core.Path.{◌≡◌, refl, sym, ap, ◌∙◌}
use mathlib.Core.List.{List, [], ◌∷◌, foldl}
use Prim.Native.Nat.{ℕ, zero, suc, ◌+◌, ◌-◌, ◌*◌, ◌^◌, ◌≤◌, ◌<◌}
use native.Mathlib.Nat.{add-zero, add-suc, suc-add}
use native.Mathlib.Omega.{arith}
use native.Mathlib.Numerals.{add-one}
use lib.ListN.{length, get_or, drop}
use lib.Seq.{drop-cons}
use lib.Ieee.{Float}
use Rattle.engine.specs.declared.config.FgoConfig.{FgoConfig}
use Rattle.engine.specs.declared.types.ScanIndex.{ScanIndex}
use Rattle.engine.specs.Config.{density}
use Rattle.kf.specs.declared.filter.Kf.{Kf}
use Rattle.cost.specs.declared.Sums.{Sums}
use Rattle.cost.specs.declared.Fold.{Fold}
use Rattle.cost.specs.declared.Fold.TheVariants.{Fresh, Frozen, Going}
use Rattle.cost.specs.Cost.{Measurement, View, added, born, resumed, fold_one, fold_over, measurement_at, measurements}
use Rattle.cost.proofs.Steps.{misses_added}
use Rattle.cost_fold.specs.Fold.{Bare, Leading}

-- after a detection the fold is one over sums
pub fold_going : (c : FgoConfig) (s : Sums) (ds : List Measurement) → fold_over c (Going s) ds ≡ Going (foldl (added (density c)) s ds)
unfolding fold_over fold_one
fold_going c s [] = refl
fold_going c s (d ∷ ds) = fold_going c (added (density c) s d) ds

-- the rest of a row from i on: what a loop has left
pub rest_none : (v : View) (k i : ℕ) (r : List ℕ) → length r ≤ i → measurements v (k + i) (drop i r) ≡ []
unfolding measurements
rest_none v k i [] h = drop-nil i
  where
    drop-nil : (i : ℕ) → measurements v (k + i) (drop i []) ≡ []
    drop-nil zero = refl
    drop-nil (suc i) = refl
rest_none v k zero (x ∷ r) h = absurd (omega arith)
rest_none v k (suc i) (x ∷ r) h = rw (add-suc k i, ← suc-add k i) (rest_none v (suc k) i r (omega arith))

module _ (v : View) (k i : ℕ) (r : List ℕ) (h : i < length r) where
  rest_at : (x : ℕ) → get_or r i 0 ≡ x → measurements v (k + i) (drop i r) ≡ measurements v (k + i) (x ∷ drop (suc i) r)
  rest_at x e = ap (measurements v (k + i)) (drop-cons r i 0 h) ∙ ap (λ (x : ℕ). measurements v (k + i) (x ∷ drop (suc i) r)) e

  move : k + (i + 1) ≡ suc (k + i)
  move = omega arith

  -- no detection at i
  pub rest_skips : get_or r i 0 ≤ 0 → measurements v (k + i) (drop i r) ≡ measurements v (k + (i + 1)) (drop (i + 1) r)
  unfolding measurements
  rest_skips z = rw (move, add-one i) (rest_at 0 (omega arith))

  -- one
  pub rest-takes : 0 < get_or r i 0 → measurements v (k + i) (drop i r) ≡ measurement_at v (k + i) (get_or r i 0 - 1) ∷ measurements v (k + (i + 1)) (drop (i + 1) r)
  unfolding measurements
  rest-takes z = rw (move, add-one i) (rest_at (suc (get_or r i 0 - 1)) (omega arith))

-- the invariant of a loop: what is left, taken on from s, gives the whole; and misses stay few
pub record Inv (q : Float) (v : View) (whole : Sums) (most : ℕ) (r : List ℕ) (k : ℕ) (s : Sums) (i : ℕ) : Type 0 where
  pub few : s.misses ≤ most + i * 2 ^ 34
  pub rest : foldl (added q) s (measurements v (k + i) (drop i r)) ≡ whole

module _ {q : Float} {v : View} {whole : Sums} {most : ℕ} {r : List ℕ} {k : ℕ} {s : Sums} {i : ℕ} (inv : Inv q v whole most r k s i) where
  -- no detection in this scan
  pub skips : i < length r → get_or r i 0 ≤ 0 → Inv q v whole most r k s (i + 1)
  skips h z = record { few = omega (arith, inv.few); rest = sym (ap (foldl (added q) s) (rest_skips v k i r h z)) ∙ inv.rest }

  -- one in this scan
  pub takes : i < length r → 0 < get_or r i 0 → v.first + (k + i) < 2 ^ 34 → Inv q v whole most r k (added q s (measurement_at v (k + i) (get_or r i 0 - 1))) (i + 1)
  takes h z early =
      record {
        few = omega (arith, inv.few, misses_added q s (measurement_at v (k + i) (get_or r i 0 - 1)));
        rest = sym (ap (foldl (added q) s) (rest-takes v k i r h z)) ∙ inv.rest;
      }

  pub ends : length r ≤ i → s ≡ whole
  ends h = sym (ap (foldl (added q) s) (rest_none v k i r h)) ∙ inv.rest

-- slots without a detection are left out
passed : (r : List ℕ) (n : ℕ) → n ≤ length r → ((j : ℕ) → j < n → get_or r j 0 ≤ 0) → (v : View) (k : ℕ) → measurements v k r ≡ measurements v (k + n) (drop n r)
passed r zero h z v k = ap (λ n. measurements v n r) (sym (add-zero k))
passed r (suc n) h z v k = passed r n (omega arith) (λ j g. z j (omega arith)) v k ∙ rest_skips v k n r (omega arith) (z n (omega arith)) ∙ ap (λ m. measurements v (k + m) (drop m r)) (add-one n)

-- where the first detection stands, or none does
pub first_by : (r : List ℕ) (o : Option ℕ) → MatchOption o (AllWithin (λ x. x ≤ 0) r 0 (length r)) (λ i. (i < length r) × HoldsAt (λ x. 0 < x) r i × AllWithin (λ x. x ≤ 0) r 0 i) → MatchOption o (Bare r) (Leading r)
first_by r None a = λ v k. passed r (length r) (omega arith) (λ j g. a j 0 (omega arith) g) v k ∙ rest_none v k (length r) r (omega arith)
first_by r (Some i) a = record { rest = passed r i (omega (arith, a.0)) (λ j g. a.2 j 0 (omega arith) g); within = a.0; found = a.1 0 }

-- the fold over a row without a detection
pub bare_fold : (c : FgoConfig) (v : View) (k : ℕ) (r : List ℕ) (f : Fold) → Bare r → f ≡ fold_over c f (measurements v k r)
unfolding fold_over
bare_fold c v k r f h = sym (ap (fold_over c f) (h v k))

-- and after its leading slots: where the first detection starts it, and where it goes on from a frozen part
module _ (c : FgoConfig) (v : View) (k n : ℕ) (r : List ℕ) (l : Leading r n) where
  leads : measurements v k r ≡ measurement_at v (k + n) (get_or r n 0 - 1) ∷ measurements v (k + (n + 1)) (drop (n + 1) r)
  leads = l.rest v k ∙ rest-takes v k n r l.within l.found

  pub leads_born : fold_over c (Going (born c (measurement_at v (k + n) (get_or r n 0 - 1)))) (measurements v (k + (n + 1)) (drop (n + 1) r)) ≡ fold_over c Fresh (measurements v k r)
  unfolding fold_over fold_one
  leads_born = sym (ap (fold_over c Fresh) leads)

  pub leads_frozen : (f : Kf) (s : ScanIndex) → fold_over c (Going (resumed f s)) (measurements v (k + n) (drop n r)) ≡ fold_over c (Frozen f s) (measurements v k r)
  unfolding fold_over fold_one
  leads_frozen f s = ap (fold_over c (Going (resumed f s))) (sym (l.rest v k) ∙ leads) ∙ sym (ap (fold_over c (Frozen f s)) leads)
