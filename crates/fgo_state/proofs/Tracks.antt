-- A track by its number, of which 0 stands for none. Assumes nothing.
use Prim.Native.Nat.{ℕ, zero, suc, ◌<◌}
use native.Mathlib.Omega.{arith}
use mathlib.Core.Path.{◌≡◌, refl, sym, ap, subst, ◌∙◌}
use mathlib.Core.Bool.{Bool, true, false, cond}
use lib.Dec.{eqb, ltb}
use borrow.Author.Tests.{lt-ltb, ne_eqb}
use Rattle.std.specs.Prelude.{Option, None, Some}
use Rattle.std.specs.Option.{MatchOption, IsSomeAnd, option_eq, option_or, unwrap_or}
use Rattle.std.specs.Bool.{then_some}
use Rattle.engine.specs.declared.types.RefinedId.{RefinedId}
use Rattle.fgo_spec.specs.Owning.{or_else}
use Rattle.fgo_state.specs.Owners.{id_from}

-- the number of an id, 0 if there is none
abbrev pub number : Option RefinedId → ℕ
number None = 0
number (Some x) = x.0

-- an id that is kept where it is above 0
above : (n : ℕ) (x : RefinedId) → x.0 ≡ n → (b : Bool) → b ≡ ltb 0 n → then_some b x ≡ id_from n
unfolding id_from
above zero x e b q = rw q refl
above (suc n) x e b q = rw (q ∙ lt-ltb 0 (suc n) (omega arith)) (ap (λ (i : ℕ). Some (record { 0 = i })) e)

pub kept : {Q : RefinedId → Bool → Type 0} (o r : Option RefinedId) → MatchOption o (r ≡ None) (λ x. (b : Bool) × Q x b × (r ≡ then_some b x)) → ((x : RefinedId) (b : Bool) → Q x b → b ≡ ltb 0 x.0) → r ≡ id_from (number o)
unfolding id_from
kept None r h k = h
kept (Some x) r h k = h.2 ∙ above x.0 x refl h.0 (k x h.0 h.1)

-- an id of which P holds
pub at_some : {P : RefinedId → Type 0} (r : Option RefinedId) → IsSomeAnd r P → {n : ℕ} → ((x : RefinedId) → P x → x.0 ≡ n) → number r ≡ n
at_some None h k = absurd h
at_some (Some x) h k = k x h

-- a number made an id
pub numbered : {P : ℕ → RefinedId → Type 0} (o : Option ℕ) (r : Option RefinedId) → MatchOption o (r ≡ None) (λ x. IsSomeAnd r (P x)) → ((x : ℕ) (y : RefinedId) → P x y → y.0 ≡ x) → number r ≡ unwrap_or o 0
numbered None r h k = ap number h
numbered (Some x) r h k = at_some r h (k x)

-- the track of one number, or else of another
pub id_or : (m n : ℕ) → option_or (id_from m) (id_from n) ≡ id_from (or_else m n)
unfolding id_from
id_or zero n = refl
id_or (suc m) n = refl

-- a `filter` by the number of an id
pub filtered :
    (test : ℕ → Bool) (n : ℕ) {Q : RefinedId → Bool → Type 0} (o r : Option RefinedId) → o ≡ id_from n →
    MatchOption o (r ≡ None) (λ x. (b : Bool) × Q x b × (r ≡ then_some b x)) → ((x : RefinedId) (b : Bool) → Q x b → b ≡ test x.0) →
    r ≡ id_from (cond (test n) n 0)
unfolding id_from
filtered test n {Q} o r e h k = go n (subst (λ p. MatchOption p (r ≡ None) (λ x. (b : Bool) × Q x b × (r ≡ then_some b x))) e h)
  where
    of : (b : Bool) (m : ℕ) → then_some b (record { 0 = suc m }) ≡ id_from (cond b (suc m) 0)
    of true m = refl
    of false m = refl

    go : (m : ℕ) → MatchOption (id_from m) (r ≡ None) (λ x. (b : Bool) × Q x b × (r ≡ then_some b x)) → r ≡ id_from (cond (test m) m 0)
    go zero p = p ∙ both (test 0)
      where
        both : (b : Bool) → None ≡ id_from (cond b 0 0)
        both true = refl
        both false = refl
    go (suc m) p = p.2 ∙ ap (λ b. then_some b (record { 0 = suc m })) (k (record { 0 = suc m }) p.0 p.1) ∙ of (test (suc m)) m

-- what an id says of its number
pub from_some : (n : ℕ) (x : RefinedId) → id_from n ≡ Some x → (n ≡ x.0) × (0 < x.0)
unfolding id_from
from_some zero x e = absurd (let z : ◌≡◌ {A = ℕ} 0 1 = ap (λ o. elim o [ None ↦ 0 | Some y ↦ 1 ]) e in cc)
from_some (suc n) x e =
    let q : suc n ≡ x.0 = ap number e in
    (q, omega arith)

pub from_none : (n : ℕ) → id_from n ≡ None → n ≡ 0
unfolding id_from
from_none zero e = refl
from_none (suc n) e = absurd (let z : ◌≡◌ {A = ℕ} 1 0 = ap (λ (o : Option RefinedId). elim o [ None ↦ 0 | Some y ↦ 1 ]) e in cc)

-- two tracks are one where their numbers are
pub same_tracks : (m n : ℕ) → option_eq (λ x y. eqb x.0 y.0) (id_from m) (id_from n) ≡ eqb m n
unfolding id_from
same_tracks zero zero = refl
same_tracks zero (suc n) = sym (ne_eqb 0 (suc n) (λ e. omega arith))
same_tracks (suc m) zero = sym (ne_eqb (suc m) 0 (λ e. omega arith))
same_tracks (suc m) (suc n) = refl
