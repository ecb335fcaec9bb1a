-- The gathered ids after a move still stand for scans that are regular, and name no id from the next one on. Assumes
-- nothing.
use Rattle.std.specs.Prelude.{Some}
use Prim.Native.Nat.{ℕ, ◌<◌}
use native.Mathlib.Omega.{arith}
use mathlib.Core.Path.{◌≡◌, sym, subst}
use mathlib.Core.Logic.{inl, inr}
use mathlib.Core.List.{List, []}
use lib.ListN.{length}
use Rattle.bounds.specs.Bounds.{DETECTIONS}
use Rattle.fgo_spec.specs.declared.moves.PairMove.{PairMove}
use Rattle.fgo_spec.specs.declared.moves.TrackMove.{TrackMove}
use Rattle.fgo_spec.specs.declared.moves.TrackMove.TheVariants.{Split, Drop}
use Rattle.fgo_spec.specs.Lists.{times}
use Rattle.fgo_spec.specs.Windows.{Scan}
use Rattle.fgo_spec.specs.Searching.{next_after, after_pair, after_track}
use Rattle.fgo_spec.specs.Faithful.{Regular}
use Rattle.fgo_spec.specs.Rule.{All}
use Rattle.fgo_spec.proofs.All.{All_both}
use Rattle.fgo_spec.proofs.Presence.{Names}
use Rattle.fgo_spec.proofs.Keeping.{Beside, beside-All, beside_same, Known, Kept, regular_exchange, regular_clear, kept_pair, kept_track}
use Rattle.search_rows.specs.Moves.{pair_ids, track_ids}
use Rattle.search.specs.Pass.{Scene, row_on}
use Rattle.search_rows.proofs.Renamed.{renamed_length}
use Rattle.search.proofs.Standing.{scans_now, Standing, Fits}
use Rattle.search.proofs.MoveRows.{pair_ids_lem, track_ids_lem}

-- a regular scan, whose ids are below the next one
abbrev Good : ℕ → Scan → Scan → Type 0
Good = Kept (λ x. ⊥) 1 (λ s t. Regular t)

below : (n x : ℕ) → Known (λ x. ⊥) 1 n x → x < n
below n x (inl o) = absurd o
below n x (inr k) = k.1

module _ {e : Scene} {next : ℕ} {ss : List Scan} {ids : List ℕ} (s : Standing e next ss ids) where
  good : Beside (Good next) (scans_now e ss ids) (scans_now e ss ids)
  good =
      beside_same (Good next) (λ t. Good next t t) (λ t h. h) (scans_now e ss ids)
      (All_both Regular (λ t. (x : ℕ) → 0 < x → 0 < times x t.ids → x < next) (λ t. Good next t t) (scans_now e ss ids)
      (λ t r k. record { holds = r; named = λ x p q. inr (p, k x p q) }) s.regular s.known)

  standing : (n : ℕ) (ids' : List ℕ) (ts : List Scan) → scans_now e ss ids' ≡ ts → length ids' ≡ DETECTIONS → 0 < n → Beside (Good n) (scans_now e ss ids) ts → Standing e n ss ids'
  standing n ids' ts q l h k =
      record {
        held = s.held;
        long = l;
        regular = subst (All Regular) (sym q) (beside-All (Good n) Regular (λ t u g. g.holds) (scans_now e ss ids) ts k);
        known =
            subst (All (Names (λ x. x < n))) (sym q)
            (beside-All (Good n) (Names (λ x. x < n)) (λ t u g x p r. below n x (g.named x p r)) (scans_now e ss ids) ts k);
        begun = h;
      }

  pub pair_standing :
      (a b : ℕ) → 0 < a → 0 < b → (a ≡ b → ⊥) → a < next → b < next → (m : PairMove) → Fits a b (Some m) →
      Standing e next ss (pair_ids e.hall.first.0 e.starts m a b (row_on e ids a) (row_on e ids b) ids)
  unfolding pair_ids
  pair_standing a b ha hb d la lb m f =
      standing next (pair_ids e.hall.first.0 e.starts m a b (row_on e ids a) (row_on e ids b) ids)
      (after_pair e.hall.config e.hall.first.0 [] a b (scans_now e ss ids) (Some m)) (pair_ids_lem e next [] ss ids s a b ha hb d m f)
      (renamed_length s.held.starts a b _ ids s.long) s.begun
      (kept_pair (λ x. ⊥) 1 (omega arith) (λ s t. Regular t) (λ s t a b. regular_exchange t a b) (λ s t a. regular_clear t a)
      e.hall.config e.hall.first.0 [] (scans_now e ss ids) next a b (ha, inr (ha, la)) (hb, inr (hb, lb)) (Some m) f (scans_now e ss ids) good)

  next-begun : (m : TrackMove) → 0 < next_after (Some m) next
  next-begun (Split f g) = omega arith
  next-begun (Drop f g) = s.begun

  pub track_standing :
      (a : ℕ) → 0 < a → a < next → (m : TrackMove) → Standing e (next_after (Some m) next) ss (track_ids e.hall.first.0 e.starts m a next ids)
  unfolding track_ids
  track_standing a ha la m =
      standing (next_after (Some m) next) (track_ids e.hall.first.0 e.starts m a next ids)
      (after_track e.hall.config e.hall.first.0 [] a next (scans_now e ss ids) (Some m)) (track_ids_lem e next [] ss ids s a next ha s.begun m)
      (renamed_length s.held.starts a next _ ids s.long) (next-begun m)
      (kept_track (λ x. ⊥) 1 (omega arith) (λ s t. Regular t) (λ s t a b. regular_exchange t a b) (λ s t a. regular_clear t a)
      e.hall.config e.hall.first.0 [] (scans_now e ss ids) next a s.begun (ha, inr (ha, la)) (Some m) (scans_now e ss ids) good)
