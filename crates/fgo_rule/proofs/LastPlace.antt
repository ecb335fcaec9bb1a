-- The last place of an id in a list, by the ids after it. Assumes nothing.
use Prim.Native.Nat.{ℕ, suc, ◌+◌, ◌-◌, ◌<◌}
use native.Mathlib.Omega.{arith}
use mathlib.Core.Path.{◌≡◌, refl, sym, ap, ◌∙◌, subst}
use mathlib.Core.Bool.{Bool, true, false, ◌&&◌, ◌||◌, not, and-false}
use mathlib.Core.Logic.{◌⊎◌, inl, inr}
use mathlib.Core.List.{List, [], ◌∷◌}
use lib.Dec.{eqb}
use lib.ListN.{length, get_or, drop, length-drop}
use lib.Seq.{get_or-drop}
use borrow.Author.Tests.{eq-eqb, ne_eqb, eqb-true}
use Rattle.std.specs.Prelude.{Option, None, Some}
use Rattle.std.specs.Option.{option_eq}
use Rattle.std.proofs.lemmas.Bool.{cases_order}
use Rattle.engine.specs.Body.{all}
use Rattle.engine.proofs.Every.{all-at, all_front}
use Rattle.fgo_spec.specs.Lists.{any, has}
use Rattle.fgo_spec.specs.Rule.{all_of}
use Rattle.id_index.specs.Index.{IsLastPlace}
use Rattle.id_index.proofs.Standing.{place-has}
use Rattle.fgo_rule.specs.Tests.{last_at, distinct_in}

module _ (ids : List ℕ) (k : ℕ) (l : k < length ids) where
  abbrev x : ℕ
  x = get_or ids k 0

  abbrev later : List ℕ
  later = drop (suc k) ids

  after : (j : ℕ) → get_or later j 0 ≡ get_or ids (suc k + j) 0
  after j = get_or-drop (suc k) ids j 0

  told : (i : ℕ) → IsLastPlace ids x (Some i) → (i ≡ k) ⊎ ((i < k) ⊎ (k < i)) → eqb i k ≡ last_at ids k
  unfolding last_at
  told i h (inl e) = rw (eq-eqb i k e) (ap not (place-has x later None (λ j p q. h.2 (suc k + j) (omega arith) (omega (arith, length-drop (suc k) ids)) (q ∙ after j))))
  told i h (inr (inl b)) = absurd (h.2 k b l refl)
  told i h (inr (inr b)) =
      let j : ℕ = i - suc k in
      let e : i ≡ suc k + j = omega arith in
      rw (ne_eqb i k (λ q. omega arith))
      (ap not (place-has x later (Some j) (
        omega (arith, length-drop (suc k) ids, h.0),
        h.1 ∙ ap (λ (n : ℕ). get_or ids n 0) e ∙ sym (after j),
        λ m p q z. h.2 (suc k + m) (omega arith) (omega (arith, length-drop (suc k) ids)) (z ∙ after m),
      )))

  -- a place is the last one of its id where that stands at no later one
  pub last_told : (r : Option ℕ) → IsLastPlace ids x r → option_eq eqb r (Some k) ≡ last_at ids k
  last_told None h = absurd (h k l refl)
  last_told (Some i) h = told i h (cases_order i k)

-- of ids that are distinct none stands before its last place
pub only_place : (ids : List ℕ) (e i j : ℕ) → distinct_in ids ≡ true → IsLastPlace ids e (Some i) → j < i → e ≡ get_or ids j 0 → ⊥
unfolding distinct_in
only_place ids e i j d h b q =
    let l : j < length ids = omega (arith, h.0) in
    let t = last_told ids j l (Some i) (subst (λ (x : ℕ). IsLastPlace ids x (Some i)) q h) ∙ all-at (last_at ids) (length ids) j d l in
    omega (arith, eqb-true i j t)

-- ---- a test of each id at its last place is a test of all

module _ (p : ℕ → Bool) where
  again : (e : ℕ) (es : List ℕ) → has e es ≡ true → all_of p es ≡ (p e && all_of p es)
  unfolding any
  again e [] q = absurd (let z : ◌≡◌ {A = ℕ} 0 1 = cc in omega arith)
  again e (y ∷ ys) q = go (eqb e y) refl q (again e ys)
    where
      twice : (a b : Bool) → a && b ≡ a && (a && b)
      twice true b = refl
      twice false b = refl

      between : (a b c : Bool) → c ≡ a && c → b && c ≡ a && (b && c)
      between true b c h = refl
      between false b c h = ap (λ x. b && x) h ∙ and-false b

      go : (t : Bool) → eqb e y ≡ t → (t || has e ys) ≡ true → (has e ys ≡ true → all_of p ys ≡ (p e && all_of p ys)) → p y && all_of p ys ≡ p e && (p y && all_of p ys)
      go true s h r = let d = eqb-true e y s in rw d (twice (p y) (all_of p ys))
      go false s h r = between (p e) (p y) (all_of p ys) (r h)

  pub all_lasts : (es : List ℕ) → all (λ i. not (last_at es i) || p (get_or es i 0)) (length es) ≡ all_of p es
  unfolding last_at
  all_lasts [] = unfold all in refl
  all_lasts (e ∷ es) =
      all_front (λ i. not (last_at (e ∷ es) i) || p (get_or (e ∷ es) i 0)) (length es)
      ∙ ap (λ b. (not (not (has e es)) || p e) && b) (all_lasts es)
      ∙ front (has e es) refl
    where
      front : (b : Bool) → has e es ≡ b → (not (not b) || p e) && all_of p es ≡ p e && all_of p es
      front true q = again e es q
      front false q = refl
