use Prim.Native.Nat.{ℕ}
use native.Mathlib.Omega.{arith}
use mathlib.Core.Path.{◌≡◌, refl, sym, ap, ◌∙◌}
use mathlib.Core.Bool.{Bool, true, false, cond}
use mathlib.Core.List.{List, [], ◌∷◌}
use lib.ListN.{length}
use Rattle.std.proofs.Common.{rules, tests}
use Rattle.std.specs.List.{range_with_len, filter}
use Rattle.std.specs.Prelude.{None, Some, is_some}
use Rattle.std.proofs.lemmas.Iterator.{YieldsList-from_range}
use Rattle.std.proofs.lemmas.Iterator.Consumers.{YieldsList-from_filter, count_from_yields_List}
use Rattle.engine.specs.declared.types.Association.{Association}
use Rattle.engine.specs.Frame.{Associated, no_association}
use Rattle.engine.specs.Body.{Body, body_of, frame_of, frame_in, associations_in, rows}
use Rattle.engine.proofs.Passing.{row_at}
use Rattle.fgo_spec.specs.Lists.{keep, cons_if}
use Rattle.fgo_spec.specs.Refiner.{has_id, id_count}
use Rattle.fgo_spec.proofs.Counting.{count_map, count-le}
use Rattle.fgo_spec.proofs.Rows.{rows_same}
use Rattle.fgo_part.proofs.Places.{rows_range}
use Rattle.fgo_state.proofs.Counts.{associations_long, associations_few}
use Rattle.fgo_state.specs.Memory.{association_in}
use Rattle.fgo_refuse.proofs.id_count.Goals as goal

has_id_is : (a : Associated) → has_id a ≡ is_some a
has_id_is None = refl
has_id_is (Some e) = refl

one : (b : Bool) (a : ℕ) {k l : List ℕ} → k ≡ l → cond b (a ∷ k) k ≡ cons_if b a l
one true a e = ap (λ k. a ∷ k) e
one false a e = e

kept : (p : ℕ → Bool) (l : List ℕ) → filter p l ≡ keep p l
unfolding keep
kept p [] = refl
kept p (a ∷ l) = one (p a) a (kept p l)

module _ (s : Body) where
  abbrev with_id : Association → Bool
  with_id a = has_id a.track

  rows_in : rows (association_in s) 0 (associations_in s) ≡ (frame_in s).associations
  unfolding frame_of
  rows_in = rows_same (association_in s) _ 0 (associations_in s) (λ k a b. row_at _ (associations_in s) k no_association (omega arith))

  counted : (n : ℕ) → n ≡ associations_in s → length (filter (λ j. with_id (association_in s j)) (range_with_len 0 n)) ≡ id_count (frame_in s).associations
  counted n h =
      ap length (kept (λ j. with_id (association_in s j)) (range_with_len 0 n))
      ∙ sym (count_map with_id (association_in s) (range_with_len 0 n))
      ∙ ap (λ (l : List Association). length (keep with_id l)) (sym (rows_range (association_in s) 0 n) ∙ ap (rows (association_in s) 0) h ∙ rows_in)

pub returns : goal.returns
returns c =
    let s = body_of c.args.b.now.body in
    let n = c.association_count.result in
    let is : c.count.result ≡ id_count (frame_in s).associations =
    count_from_yields_List c.filter.result _ c.count.ensures.ran
    (YieldsList-from_filter _ (λ j. has_id (association_in s j).track) (YieldsList-from_range 0 n n c.filter.ensures.source (omega arith)) c.filter.ensures.closure
    (λ j b q t. let k : (q ≡ _) × (b ≡ is_some (association_in s j).track) = search (rules, tests) in (k.0, k.1 ∙ sym (has_id_is _))))
    ∙ counted s n c.association_count.ensures.count in
    (is, rw is (omega (arith, count-le (with_id s) (frame_in s).associations, associations_long s, associations_few s c.args.b.now.passes)))
