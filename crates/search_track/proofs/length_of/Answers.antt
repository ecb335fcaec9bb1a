use Rattle.std.proofs.Common.{◌≡◌, ℕ, suc, ◌+◌, Bool, true, false, List, [], ◌∷◌, length, get_or, ltb, refl, sym, ap, ◌∙◌, zero-add, rules, arith}
use Rattle.std.proofs.lemmas.List.Sums.{length-filter}
use Rattle.std.specs.List.{count_by, filter}
use Rattle.bounds.specs.Bounds.{SCANS}
use Rattle.fgo_spec.specs.Lists.{cons_if, keep, up_from}
use Rattle.search_rows.specs.Moves.{has_slot}
use Rattle.search_track.specs.Track.{marks}
use Rattle.search_track.proofs.length_of.Goals as goal

-- of the scans from k on, those in which the rest of a row has a detection
marks_from : (t : ℕ → Bool) (k : ℕ) (r : List ℕ) → ((j : ℕ) → t (k + j) ≡ ltb 0 (get_or r j 0)) → length (keep t (up_from k (length r))) ≡ length (filter (λ x. ltb 0 x) r)
unfolding keep up_from
marks_from t k [] h = refl
marks_from t k (x ∷ r) h = go (t k) (ap t (omega arith) ∙ h 0) (marks_from t (suc k) r (λ j. ap t (omega arith) ∙ h (suc j)))
  where
    go : (b : Bool) → b ≡ ltb 0 x → length (keep t (up_from (suc k) (length r))) ≡ length (filter (λ x. ltb 0 x) r) →
        length (cons_if b k (keep t (up_from (suc k) (length r)))) ≡ length (filter (λ x. ltb 0 x) (x ∷ r))
    go true q rest = rw (← q) (ap suc rest)
    go false q rest = rw (← q) rest

marks_counted : (r : List ℕ) → length r ≡ SCANS → length (marks r) ≡ count_by (λ x. ltb 0 x) r
unfolding marks
marks_counted r l = ap (λ n. length (keep (has_slot r) (up_from 0 n))) (sym l) ∙ marks_from (has_slot r) 0 r (λ j. ap (has_slot r) (zero-add j)) ∙ length-filter (λ x. ltb 0 x) r

pub returns : goal.returns
returns c = search (rules, marks_counted c.args.row.now c.told-row)
