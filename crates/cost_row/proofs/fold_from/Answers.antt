use Prim.Native.Nat.{ℕ, zero, suc, ◌+◌, ◌≤◌, ◌<◌}
use native.Mathlib.Nat.{eq-or-lt_of_le}
use native.Mathlib.Omega.{arith}
use mathlib.Core.Path.{◌≡◌, refl, sym, ◌∙◌}
use mathlib.Core.Logic.{⊎_elim}
use mathlib.Core.List.{List}
use lib.Ieee.{Float}
use borrow.Author.Tests.{eq-eqb, ne_eqb}
use Rattle.std.proofs.Common.{rules, tests}
use Rattle.std.specs.Prelude.{Option, None, Some}
use Rattle.std.specs.Option.{MatchOption}
use Rattle.cost.specs.declared.Fold.TheVariants.{Fresh}
use Rattle.fgo_part.specs.Parts.{part_id}
use Rattle.fgo_part.proofs.Places.{rises_below}
use Rattle.cost_row.specs.Price.{frozen_at, fold_after}
use Rattle.cost_row.proofs.fold_from.Goals as goal

module _ (ts : List ℕ) (fs : List Float) (x : ℕ) where
  -- the first track of the id
  found : (o m i : ℕ) → o ≤ i → i < o + m → x ≡ part_id ts i → ((k : ℕ) → o ≤ k → k < i → x ≡ part_id ts k → ⊥) → fold_after ts fs x o m ≡ frozen_at ts fs i
  unfolding fold_after
  found o zero i h l q none = absurd (omega arith)
  found o (suc m) i h l q none =
      ⊎_elim
      (λ (d : o ≡ i). let s : x ≡ part_id ts o = rw d q in rw (eq-eqb x (part_id ts o) s, d) refl)
      (λ (d : o < i). rw (ne_eqb x (part_id ts o) (none o (omega arith) d)) (found (suc o) m i (omega arith) (omega arith) q (λ k a b. none k (omega arith) b)))
      (eq-or-lt_of_le h)

  -- no track has it
  lacking : (o m : ℕ) → ((k : ℕ) → o ≤ k → k < o + m → x ≡ part_id ts k → ⊥) → fold_after ts fs x o m ≡ Fresh
  unfolding fold_after
  lacking o zero none = refl
  lacking o (suc m) none = rw (ne_eqb x (part_id ts o) (none o (omega arith) (omega arith))) (lacking (suc o) m (λ k a b. none k (omega arith) (omega arith)))

-- two facts of one value, or of none
either : {A N M : Type 0} {S T : ℕ → Type 0} (r : Option ℕ) → MatchOption r N S → MatchOption r M T → (N → M → A) → ((i : ℕ) → S i → T i → A) → A
either None h k n s = n h k
either (Some i) h k n s = s i h k

pub returns : goal.returns
returns c =
    let f = c.args.frozen.now in
    let ts = f.tracks.now in
    let fs = c.args.filters.now in
    let x = c.args.x.0 in
    either c.find.result c.find.ensures c.map_or.ensures
    (λ none r. r ∙ sym (lacking ts fs x 0 f.count (λ k h l. none k (omega arith))))
    (λ i there r. let v : c.map_or.result ≡ frozen_at ts fs i = search (rules, tests) in v ∙ sym (found ts fs x 0 f.count i (omega arith) (omega arith) there.1 (λ k h l e. omega (arith, rises_below f.rises k i l there.0))))
