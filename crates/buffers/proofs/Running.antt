-- A run grows by one push or take at a time, and not by one that is refused. Assumes nothing.
use Prim.Native.Nat.{ℕ}
use mathlib.Core.Path.{◌≡◌, refl, sym, ap, ◌∙◌}
use mathlib.Core.List.{List, [], ◌∷◌, ◌++◌, foldl, foldl-append, append-nil, append_assoc}
use mathlib.Core.Option.{some}
use Rattle.buffers.specs.Answer.{Op, pushed, taken, Reply, refused, refusal_in}
use Rattle.buffers.specs.Run.{Run, begin, emitted_by, accepted_by, step, run_from}

module _ {A F E S : Type 0} (frame : A → F) (reply : S → Op A → Reply E × S) where
  -- one more
  pub run_snoc : (s : S) (ops : List (Op A)) (o : Op A) → run_from frame reply s (ops ++ (o ∷ [])) ≡ step frame reply (run_from frame reply s ops) o
  unfolding run_from
  run_snoc s ops o = foldl-append (step frame reply) (begin s) ops (o ∷ [])

  -- what each step adds to stays
  module _ {B : Type 0} (gathered : Run F E S → List B) (adds : Run F E S → Op A → List B)
      (added : (r : Run F E S) (o : Op A) → gathered (step frame reply r o) ≡ gathered r ++ adds r o) where
    grows : (r : Run F E S) (more : List (Op A)) → (rest : List B) × (gathered (foldl (step frame reply) r more) ≡ gathered r ++ rest)
    grows r [] = ([], sym (append-nil (gathered r)))
    grows r (o ∷ more) =
        let g = grows (step frame reply r o) more in
        (adds r o ++ g.0, g.1 ∙ ap (λ l. l ++ g.0) (added r o) ∙ append_assoc (gathered r) (adds r o) g.0)

    run-grows : (s : S) (ops more : List (Op A)) → (rest : List B) × (gathered (run_from frame reply s (ops ++ more)) ≡ gathered (run_from frame reply s ops) ++ rest)
    unfolding run_from
    run-grows s ops more =
        let g = grows (foldl (step frame reply) (begin s) ops) more in
        (g.0, ap gathered (foldl-append (step frame reply) (begin s) ops more) ∙ g.1)

  pub emitted_grows : (s : S) (ops more : List (Op A)) → (rest : List E) × ((run_from frame reply s (ops ++ more)).emitted ≡ (run_from frame reply s ops).emitted ++ rest)
  emitted_grows = run-grows (λ r. r.emitted) (λ r o. emitted_by (reply r.state o).0) (λ r o. unfold step in refl)

  pub accepted_grows : (s : S) (ops more : List (Op A)) → (rest : List F) × ((run_from frame reply s (ops ++ more)).accepted ≡ (run_from frame reply s ops).accepted ++ rest)
  accepted_grows = run-grows (λ r. r.accepted) (λ r o. accepted_by frame o (refusal_in (reply r.state o).0)) (λ r o. unfold step in refl)

  -- one that is refused, and leaves the state as it is
  pub step_stays : (r : Run F E S) (o : Op A) (n : ℕ) → reply r.state o ≡ (refused n, r.state) → step frame reply r o ≡ r
  unfolding step
  step_stays r o n h =
      ap (λ a. record { state = a.1; accepted = r.accepted ++ accepted_by frame o (refusal_in a.0); emitted = r.emitted ++ emitted_by a.0 }) h
      ∙ (λ i. record { state = r.state; accepted = none_more o i; emitted = append-nil r.emitted i })
    where
      none_more : (o : Op A) → r.accepted ++ accepted_by frame o (some n) ≡ r.accepted
      none_more (pushed a) = append-nil r.accepted
      none_more taken = append-nil r.accepted
