-- The laws of moves and passes hold where the frozen parts lent are fgo_spec's. Assumes nothing.
use Prim.Native.Nat.{ℕ}
use mathlib.Core.List.{List}
use Rattle.fgo_spec.specs.Windows.{Scan, Prefix}
use Rattle.search.specs.Pass.{Scene}
use Rattle.search.proofs.Standing.{PartsOk}
use Rattle.search.proofs.WindowRows.{window-rows}
use Rattle.search.proofs.SharedRows.{shared-rows}
use Rattle.search.proofs.PresentRows.{present_rows}
use Rattle.search.proofs.CutRows.{cut_rows}
use Rattle.search.proofs.MoveRows.{pair_ids_lem, track_ids_lem}
use Rattle.search.proofs.PairLink.{pair_best_lem, pair_fits}
use Rattle.search.proofs.TrackLink.{track_best_lem}
use Rattle.search.proofs.KeptStanding.{pair_standing, track_standing}
use Rattle.search.proofs.PassLaws.{PassLaws}

pub laws_hold : (e : Scene) (ps : List (ℕ × Prefix)) (ss : List Scan) → PartsOk e ps → PassLaws e ps ss
laws_hold e ps ss parts =
    record {
      present_rows = λ next ids s. present_rows e next ps ss ids s;
      cut_rows = λ next ids s. cut_rows e next ps ss ids s;
      pair_ids_lem = λ next ids s. pair_ids_lem e next ps ss ids s;
      track_ids_lem = λ next ids s. track_ids_lem e next ps ss ids s;
      pair_best_lem = λ next ids s. pair_best_lem e next ps ss ids s parts (window-rows e next ps ss ids s) (shared-rows e next ps ss ids s);
      track_best_lem = λ next ids s. track_best_lem e next ps ss ids s parts (window-rows e next ps ss ids s);
      fits = pair_fits e;
      pair_stands = λ next ids s. pair_standing s;
      track_stands = λ next ids s. track_standing s;
    }
