-- How the fold over a window goes on: its parts, and the misses it counts. Assumes nothing.
use Rattle.std.proofs.Common.{◌≡◌, ℕ, zero, suc, ◌+◌, ◌*◌, ◌^◌, ◌≤◌, List, [], ◌∷◌, ◌++◌, length, get_or, sym, refl, ap, ◌∙◌, add-zero, add-suc, suc-add, arith}
use lib.Ieee.{Float}
use Rattle.engine.specs.declared.config.FgoConfig.{FgoConfig}
use Rattle.engine.specs.Config.{density}
use Rattle.cost.specs.declared.Sums.{Sums}
use Rattle.cost.specs.declared.Fold.{Fold}
use Rattle.cost.specs.declared.Fold.TheVariants.{Fresh, Frozen, Going}
use Rattle.cost.specs.Cost.{Measurement, View, added, resumed, fold_one, fold_over, measurement_at, measurements, misses_of}

-- a fold over head and tail is the fold over the tail from where the head ended
pub fold-append : (c : FgoConfig) (s : Fold) (ds es : List Measurement) → fold_over c s (ds ++ es) ≡ fold_over c (fold_over c s ds) es
unfolding fold_over
fold-append c s [] es = refl
fold-append c s (d ∷ ds) es = fold-append c (fold_one c s d) ds es

-- and so of the parts of a row
pub dets_append : (v : View) (k : ℕ) (r q : List ℕ) → measurements v k (r ++ q) ≡ measurements v k r ++ measurements v (k + length r) q
unfolding measurements
dets_append v k [] q = rw (add-zero k)
dets_append v k (zero ∷ r) q = dets_append v (suc k) r q ∙ ap (λ (n : ℕ). measurements v (suc k) r ++ measurements v n q) (suc-add k (length r) ∙ sym (add-suc k (length r)))
dets_append v k (suc j ∷ r) q =
    ap (λ (l : List Measurement). measurement_at v k j ∷ l)
    (dets_append v (suc k) r q ∙ ap (λ (n : ℕ). measurements v (suc k) r ++ measurements v n q) (suc-add k (length r) ∙ sym (add-suc k (length r))))

-- slots without a detection
pub dets_none : (v : View) (k : ℕ) (r : List ℕ) → ((j : ℕ) → get_or r j 0 ≡ 0) → measurements v k r ≡ []
unfolding measurements
dets_none v k [] h = refl
dets_none v k (zero ∷ r) h = dets_none v (suc k) r (λ j. h (suc j))
dets_none v k (suc x ∷ r) h = absurd (omega (arith, h 0))

-- one detection adds at most its scan's number
pub misses_added : (q : Float) (s : Sums) (d : Measurement) → (added q s d).misses ≤ s.misses + d.scan
unfolding added
misses_added q s d = omega arith

misses_step : (c : FgoConfig) (s : Fold) (d : Measurement) → misses_of (fold_one c s d) ≤ misses_of s + d.scan
unfolding fold_one
misses_step c Fresh d = omega arith
misses_step c (Frozen k l) d = misses_added (density c) (resumed k l) d
misses_step c (Going s) d = misses_added (density c) s d

-- the misses of a whole fold
pub misses_fold : (c : FgoConfig) (v : View) (s : Fold) (k : ℕ) (r : List ℕ) → v.first + (k + length r) ≤ 2 ^ 34 → misses_of (fold_over c s (measurements v k r)) ≤ misses_of s + length r * 2 ^ 34
unfolding fold_over measurements
misses_fold c v s k [] h = omega arith
misses_fold c v s k (zero ∷ r) h = let m = misses_fold c v s (suc k) r (omega arith) in omega arith
misses_fold c v s k (suc j ∷ r) h =
    let m = misses_fold c v (fold_one c s (measurement_at v k j)) (suc k) r (omega arith) in
    let o = misses_step c s (measurement_at v k j) in
    omega arith
