-- What a comparison of two ids says of their numbers. Assumes nothing.
use Prim.Native.Nat.{ℕ, ◌≤◌, ◌<◌}
use mathlib.Core.Path.{◌≡◌, refl, sym, ◌∙◌}
use mathlib.Core.Bool.{Bool, true, false, true≢false}
use lib.Dec.{eqb, ltb}
use native.Mathlib.Omega.{arith}
use borrow.Author.Tests.{eqb-true, eqb-false, ltb-false}
use Rattle.std.proofs.Common.{is_le, nat_cmp}
use Rattle.std.proofs.lemmas.Map.Keys.{le_from_is_le}

module _ {a b : ℕ} {t : Bool} where
  pub same_id : t ≡ eqb a b → t ≡ true → a ≡ b
  same_id e h = eqb-true a b (sym e ∙ h)

  pub other_id : t ≡ eqb a b → t ≡ false → a ≡ b → ⊥
  other_id e h = eqb-false a b (sym e ∙ h)

module _ (a b : ℕ) {t : Bool} where
  pub id_to : t ≡ is_le (nat_cmp a b) → t ≡ true → a ≤ b
  id_to e h = le_from_is_le a b (sym e ∙ h)

  pub id_past : t ≡ is_le (nat_cmp a b) → t ≡ false → b < a
  id_past e h = go (ltb a b) (eqb a b) refl refl (sym e ∙ h)
    where
      go : (p q : Bool) → ltb a b ≡ p → eqb a b ≡ q → is_le (nat_cmp a b) ≡ false → b < a
      go true q l z g = absurd (true≢false (rw l at g))
      go false true l z g = absurd (true≢false (rw (l, z) at g))
      go false false l z g = let n = eqb-false a b z in let m = ltb-false a b l in omega (arith, n, m)
