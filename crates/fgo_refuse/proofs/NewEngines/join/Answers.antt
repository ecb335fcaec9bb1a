use native.Mathlib.Omega.{arith}
use mathlib.Core.Path.{◌≡◌, refl, sym, ap, ◌∙◌}
use mathlib.Core.Bool.{Bool, true, false}
use mathlib.Core.List.{List, [], ◌∷◌, ◌++◌, append_assoc}
use Prim.Native.Nat.{ℕ, ◌≤◌}
use lib.Dec.{eqb}
use lib.ListN.{length, take}
use Rattle.std.specs.List.{list_any}
use Rattle.std.specs.Prelude.{Some}
use Rattle.engine.specs.declared.types.EngineId.{EngineId}
use Rattle.fgo_spec.specs.Lists.{has}
use Rattle.fgo_spec.proofs.Counting.{any_append}
use Rattle.fgo_part.specs.Parts.{cells}
use Rattle.fgo_part.proofs.Cells.{cells-take, cells-set}
use Rattle.fgo_state.proofs.Standing.{contains-has}
use Rattle.fgo_refuse.specs.Refusing.{join_end}
use Rattle.fgo_refuse.proofs.NewEngines.join.Goals as goal
use Rattle.fgo_refuse.proofs.NewEngines.join.Goals.{else-not-has-via-then-not-has+else-not-contains, else-not-has-via-else-not-has}

-- whether an engine id is among the first n, as `contains` tells it
there : (all : List ℕ) (n e : ℕ) → n ≤ length all → {t : Bool} → t ≡ list_any (λ y. eqb y e) (take n all) → has e (cells 0 all 0 n) ≡ t
there all n e h q = ap (has e) (cells-take 0 all n h) ∙ sym (contains-has e (take n all)) ∙ sym q

module _ (k l : List ℕ) (e : EngineId) where
  fresh : {m : List ℕ} → has e.0 k ≡ false → has e.0 l ≡ false → m ≡ l ++ (e.0 ∷ []) → k ++ m ≡ join_end (Some e) (k ++ l)
  fresh a b q = rw (any_append (eqb e.0) k l, a, b) (ap (λ x. k ++ x) q ∙ sym (append_assoc k l (e.0 ∷ [])))

  in_first : has e.0 k ≡ true → k ++ l ≡ join_end (Some e) (k ++ l)
  in_first a = rw (any_append (eqb e.0) k l, a) refl

  in_second : has e.0 k ≡ false → has e.0 l ≡ true → k ++ l ≡ join_end (Some e) (k ++ l)
  in_second a b = rw (any_append (eqb e.0) k l, a, b) refl

pub returns-then-not-contains-clause-ids : goal.returns-then-not-contains-clause-ids
returns-then-not-contains-clause-ids c =
    let l = c.args.self.now in
    fresh _ _ c.args.e (sym c.has.ensures ∙ c.if-not-has.true) (there l.all l.count c.args.e.0 (omega (arith, c.requires)) c.contains.ensures.value ∙ c.if-not-contains.true) (cells-set 0 l.all l.count c.args.e.0 (omega (arith, c.requires)))

pub returns-else-not-has-clause-ids : goal.returns-else-not-has-clause-ids
returns-else-not-has-clause-ids c =
    let l = c.args.self.now in
    elim c.else-not-has.branch [
      | else-not-has-via-then-not-has+else-not-contains w ↦
          in_second _ _ c.args.e (sym c.has.ensures ∙ w.if-not-has.true) (there l.all l.count c.args.e.0 (omega (arith, c.requires)) w.contains.ensures.value ∙ w.if-not-contains.false)
      | else-not-has-via-else-not-has w ↦ in_first _ _ c.args.e (sym c.has.ensures ∙ w.if-not-has.false)
    ]
