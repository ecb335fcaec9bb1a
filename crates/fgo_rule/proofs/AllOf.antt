-- A test of all numbers below a bound, and a test of all of a list. Assumes nothing.
use Prim.Native.Nat.{ℕ, zero, suc, ◌+◌, ◌<◌}
use native.Mathlib.Nat.{zero-add, add-zero, add-suc, suc-add}
use native.Mathlib.Omega.{arith}
use mathlib.Core.Path.{◌≡◌, refl, sym, ap, ◌∙◌}
use mathlib.Core.Bool.{Bool, true, false, ◌&&◌, and_assoc}
use mathlib.Core.List.{List, [], ◌∷◌, ◌++◌}
use Rattle.engine.specs.Body.{all, rows}
use Rattle.engine.proofs.Every.{all_front}
use Rattle.fgo_spec.specs.Rule.{all_of}

-- tests that agree
pub all_same : (p q : ℕ → Bool) (n : ℕ) → ((i : ℕ) → i < n → p i ≡ q i) → all p n ≡ all q n
unfolding all
all_same p q zero h = refl
all_same p q (suc n) h = ap (λ b. b && p n) (all_same p q n (λ i l. h i (omega arith))) ∙ ap (λ b. all q n && b) (h n (omega arith))

module _ {A : Type 0} (q : A → Bool) where
  pub all_of-append : (k l : List A) → all_of q (k ++ l) ≡ (all_of q k && all_of q l)
  all_of-append [] l = refl
  all_of-append (a ∷ k) l = ap (λ b. q a && b) (all_of-append k l) ∙ sym (and_assoc (q a) (all_of q k) (all_of q l))

  -- of rows
  pub all-rows : (g : ℕ → A) (o n : ℕ) → all (λ i. q (g (o + i))) n ≡ all_of q (rows g o n)
  unfolding rows
  all-rows g o zero = unfold all in refl
  all-rows g o (suc n) =
      all_front (λ i. q (g (o + i))) n
      ∙ ap (λ (k : ℕ). q (g k) && all (λ i. q (g (o + suc i))) n) (add-zero o)
      ∙ ap (λ b. q (g o) && b) (all_same (λ i. q (g (o + suc i))) (λ i. q (g (suc o + i))) n (λ i l. ap (λ (k : ℕ). q (g k)) (add-suc o i ∙ sym (suc-add o i))) ∙ all-rows g (suc o) n)

-- of the numbers themselves
pub all-numbers : (p : ℕ → Bool) (n : ℕ) → all p n ≡ all_of p (rows (λ i. i) 0 n)
all-numbers p n = all_same p (λ i. p (0 + i)) n (λ i l. ap p (sym (zero-add i))) ∙ all-rows p (λ i. i) 0 n

-- two tests
pub all_both : (p q : ℕ → Bool) (n : ℕ) → all (λ i. p i && q i) n ≡ (all p n && all q n)
unfolding all
all_both p q zero = refl
all_both p q (suc n) = ap (λ b. b && (p n && q n)) (all_both p q n) ∙ swap (all p n) (all q n) (p n) (q n)
  where
    swap : (a b c d : Bool) → (a && b) && (c && d) ≡ (a && c) && (b && d)
    swap true true c d = refl
    swap true false true d = refl
    swap true false false d = refl
    swap false b c d = refl
