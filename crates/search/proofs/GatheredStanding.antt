-- The gathered ids stand, as the search begins, for the scans that they were gathered from. Assumes nothing.
use Prim.Native.Nat.{ℕ, suc, ◌+◌, ◌≤◌, ◌<◌}
use native.Mathlib.Omega.{arith}
use mathlib.Core.Path.{◌≡◌, refl, sym, ap, ◌∙◌, subst}
use mathlib.Core.List.{List, [], ◌∷◌}
use lib.ListN.{length}
use Rattle.bounds.specs.Bounds.{SCANS, DETECTIONS}
use Rattle.fgo_spec.specs.declared.moves.FgoCounters.{FgoCounters}
use Rattle.fgo_spec.specs.Lists.{times}
use Rattle.fgo_spec.specs.Windows.{Scan, Prefix}
use Rattle.fgo_spec.specs.Faithful.{Regular}
use Rattle.fgo_spec.specs.Rule.{All}
use Rattle.search_rows.specs.Rows.{Starts}
use Rattle.search.specs.Pass.{Scene}
use Rattle.fgo_spec.specs.Gathered.{spread, put_back}
use Rattle.search.specs.Represents.{RepresentsScan, RepresentsFrom, Represents}
use Rattle.search.proofs.Standing.{HeldScan, HeldFrom, scans_now, Standing}
use Rattle.fgo_spec.proofs.Spreads.{picked-length, spread_self}
use Rattle.search.proofs.WindowRows.{column-length}

module _ (e : Scene) (ids : List ℕ) where
  now-from : (ss : List Scan) (k : ℕ) → RepresentsFrom e ids k ss → put_back e.starts ids k ss ≡ ss
  unfolding put_back
  now-from [] k g = refl
  now-from (s ∷ ss) k g = λ i. record { frame = s.frame; ids = (ap (spread s.ids) g.0.column ∙ spread_self s.ids) i } ∷ now-from ss (suc k) g.1 i

  regular-from : (ss : List Scan) (k : ℕ) → RepresentsFrom e ids k ss → All Regular ss
  regular-from [] k g = tt
  regular-from (s ∷ ss) k g = (g.0.regular, regular-from ss (suc k) g.1)

  module _ (begins : Starts e.starts) (long : length ids ≡ DETECTIONS) where
    held-scan : (k : ℕ) (s : Scan) → k < SCANS → RepresentsScan e ids k s → HeldScan e k s
    held-scan k s h g =
        record {
          complete = g.regular.complete;
          size =
              omega (
                arith,
                begins.rises k h,
                column-length begins ids long k h,
                ap length g.column,
                picked-length s.ids s.frame.associations g.regular.complete,
              );
          dots = g.dots;
        }

    held-from : (ss : List Scan) (k : ℕ) → k + length ss ≤ SCANS → RepresentsFrom e ids k ss → HeldFrom e k ss
    held-from [] k h g = tt
    held-from (s ∷ ss) k h g = (held-scan k s (omega arith) g.0, held-from ss (suc k) (omega arith) g.1)

module _ {e : Scene} {next : ℕ} {k : FgoCounters} {ids : List ℕ} {ps : List (ℕ × Prefix)} {ss : List Scan} (g : Represents e next k ids ps ss) where
  pub gathered_now : scans_now e ss ids ≡ ss
  gathered_now = now-from e ids ss 0 g.scans

  pub gathered-standing : Starts e.starts → Standing e next ss ids
  gathered-standing b =
      record {
        held =
            record {
              few = g.few;
              starts = b;
              begins = g.begins;
              empty = g.empty;
              ends = g.ends;
              scans = held-from e ids b g.long ss 0 (omega (arith, g.few)) g.scans;
            };
        long = g.long;
        regular = subst (All Regular) (sym gathered_now) (regular-from e ids ss 0 g.scans);
        known = subst (All (λ s. (x : ℕ) → 0 < x → 0 < times x s.ids → x < next)) (sym gathered_now) g.known;
        begun = g.begun;
      }
