-- What the two renamings, an exchange of two ids and the clearing of one, do to a column. Assumes nothing.
use Prim.Native.Nat.{ℕ, zero, suc, ◌≤◌, ◌<◌}
use native.Mathlib.Decide.{ℕ_discrete}
use native.Mathlib.Omega.{arith}
use mathlib.Core.Path.{◌≡◌, refl, sym, ap, ◌∙◌, subst}
use mathlib.Core.Bool.{Bool, true, false, cond}
use mathlib.Core.List.{List, map}
use lib.ListN.{length}
use lib.Dec.{T, eqb, ltb, eqb→eq, lt→ltb}
use borrow.Author.Tests.{eqb-true, eq-eqb, ne_eqb}
use Rattle.fgo_spec.specs.Lists.{keep, has, times}
use Rattle.fgo_spec.specs.Windows.{in_windows}
use Rattle.fgo_spec.specs.Searching.{exchange, clear, absorb}
use Rattle.fgo_spec.proofs.All.{mem_All}
use Rattle.fgo_spec.proofs.Counting.{keep_const, count_map, count_mono, has-not}

-- ---- one id

pub exchange-left : (a b i : ℕ) → a ≡ i → exchange a b i ≡ b
exchange-left a b i e = rw (eq-eqb a i e)

pub exchange-right : (a b i : ℕ) → (a ≡ i → ⊥) → b ≡ i → exchange a b i ≡ a
exchange-right a b i f e = simp (ne_eqb a i f, eq-eqb b i e)

pub exchange_other : (a b i : ℕ) → (a ≡ i → ⊥) → (b ≡ i → ⊥) → exchange a b i ≡ i
exchange_other a b i f g = rw (ne_eqb a i f, ne_eqb b i g)

pub exchange_twice : (a b i : ℕ) → exchange a b (exchange a b i) ≡ i
exchange_twice a b i = go (ℕ_discrete a i) (ℕ_discrete b i)
  where
    go : Dec (a ≡ i) → Dec (b ≡ i) → exchange a b (exchange a b i) ≡ i
    go (yes e) (yes g) = ap (exchange a b) (exchange-left a b i e) ∙ exchange-left a b b (e ∙ sym g) ∙ g
    go (yes e) (no g) = ap (exchange a b) (exchange-left a b i e) ∙ exchange-right a b b (λ h. g (sym h ∙ e)) refl ∙ e
    go (no f) (yes g) = ap (exchange a b) (exchange-right a b i f g) ∙ exchange-left a b a refl ∙ g
    go (no f) (no g) = ap (exchange a b) (exchange_other a b i f g) ∙ exchange_other a b i f g

-- what holds of both and of an id holds of what the exchange makes of it
pub exchange_is : (Q : ℕ → Type 0) (a b i : ℕ) → Q a → Q b → Q i → Q (exchange a b i)
exchange_is Q a b i p q r = go (eqb a i) (eqb b i)
  where
    go : (u v : Bool) → Q (cond u b (cond v a i))
    go true v = q
    go false true = p
    go false false = r

pub exchange-zero : (a b : ℕ) → 0 < a → 0 < b → exchange a b 0 ≡ 0
exchange-zero a b ha hb = exchange_other a b 0 (λ e. omega arith) (λ e. omega arith)

pub clear_zero : (a : ℕ) → clear a 0 ≡ 0
clear_zero a = go (eqb a 0)
  where
    go : (b : Bool) → ◌≡◌ {A = ℕ} (cond b 0 0) 0
    go true = refl
    go false = refl

-- ---- who stands where

-- x stands after a renaming g just where y stood before
abbrev pub Renames : (ℕ → ℕ) → ℕ → ℕ → Type 0
Renames g x y = (i : ℕ) → eqb x (g i) ≡ eqb y i

pub renames_exchange : (a b x : ℕ) → Renames (exchange a b) x (exchange a b x)
renames_exchange a b x i = go (ℕ_discrete x (exchange a b i))
  where
    go : Dec (x ≡ exchange a b i) → eqb x (exchange a b i) ≡ eqb (exchange a b x) i
    go (yes e) = eq-eqb x (exchange a b i) e ∙ sym (eq-eqb (exchange a b x) i (ap (exchange a b) e ∙ exchange_twice a b i))
    go (no d) =
        ne_eqb x (exchange a b i) d
        ∙ sym (ne_eqb (exchange a b x) i (λ e. d (sym (exchange_twice a b x) ∙ ap (exchange a b) e)))

-- a cleared id stands nowhere, and each other one where it stood
clears : (a i : ℕ) → 0 < a → eqb a (clear a i) ≡ false
clears a i h = go (eqb a i) refl
  where
    go : (b : Bool) → eqb a i ≡ b → eqb a (cond b 0 i) ≡ false
    go true e = ne_eqb a 0 (λ z. omega arith)
    go false e = e

pub renames_clear : (a x : ℕ) → 0 < x → (a ≡ x → ⊥) → Renames (clear a) x x
renames_clear a x h d i = go (eqb a i) refl
  where
    go : (b : Bool) → eqb a i ≡ b → eqb x (cond b 0 i) ≡ eqb x i
    go true e = ne_eqb x 0 (λ z. omega arith) ∙ sym (ne_eqb x i (λ z. d (eqb-true a i e ∙ sym z)))
    go false e = refl

-- ---- a column

pub times-exchange : (a b x : ℕ) (is : List ℕ) → times x (map (exchange a b) is) ≡ times (exchange a b x) is
times-exchange a b x is = count_map (eqb x) (exchange a b) is ∙ (λ k. length (keep (λ i. renames_exchange a b x i k) is))

pub times-clear : (a x : ℕ) (is : List ℕ) → 0 < x → times x (map (clear a) is) ≤ times x is
times-clear a x is h = rw (count_map (eqb x) (clear a) is) (count_mono (λ i. eqb x (clear a i)) (eqb x) (λ i. stood i (eqb a i)) is)
  where
    stood : (i : ℕ) (b : Bool) → T (eqb x (cond b 0 i)) → T (eqb x i)
    stood i true t = let z : x ≡ 0 = eqb→eq x 0 t in absurd (omega arith)
    stood i false t = t

pub times_cleared : (a : ℕ) (is : List ℕ) → 0 < a → times a (map (clear a) is) ≡ 0
times_cleared a is h =
    count_map (eqb a) (clear a) is ∙ ap length (keep_const false (λ i. eqb a (clear a i)) is (mem_All (λ i. eqb a (clear a i) ≡ false) is (λ i m. clears a i h)))

-- "After a merge the other track's window is empty": nothing stands under the other
pub absorb_other : (k o : ℕ) → 0 < k → 0 < o → (k ≡ o → ⊥) → (own : Bool) (is : List ℕ) → times o (absorb own k o is) ≡ 0
absorb_other k o hk ho d true is = go (has k is) refl
  where
    go : (b : Bool) → has k is ≡ b → times o (cond b (map (clear o) is) (map (exchange k o) is)) ≡ 0
    go true q = times_cleared o is ho
    go false q = times-exchange k o o is ∙ ap (λ y. times y is) (exchange-right k o o d refl) ∙ has-not k is q
absorb_other k o hk ho d false is = go (has o is) refl
  where
    go : (b : Bool) → has o is ≡ b → times o (cond b (map (exchange k o) (map (clear k) is)) is) ≡ 0
    go true q = times-exchange k o o (map (clear k) is) ∙ ap (λ y. times y (map (clear k) is)) (exchange-right k o o d refl) ∙ times_cleared k is hk
    go false q = has-not o is q

-- a renaming that leaves 0 alone puts no more into windows
pub fewer-map : (g : ℕ → ℕ) → g 0 ≡ 0 → (is : List ℕ) → in_windows (map g is) ≤ in_windows is
fewer-map g e is = rw (count_map (ltb 0) g is) (count_mono (λ i. ltb 0 (g i)) (ltb 0) stood is)
  where
    stood : (i : ℕ) → T (ltb 0 (g i)) → T (ltb 0 i)
    stood zero t = absurd (subst (λ n. T (ltb 0 n)) e t)
    stood (suc i) t = lt→ltb 0 (suc i) (omega arith)
