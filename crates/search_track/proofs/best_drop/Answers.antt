use borrow.Author.Tests.{lt-ltb, le-ltb}
use Rattle.std.specs.Prelude.{Option}
use mathlib.Core.Path.{◌≡◌, refl, sym, ◌∙◌}
use mathlib.Core.Bool.{true, false}
use mathlib.Core.List.{List}
use Prim.Native.Nat.{ℕ, ◌+◌, ◌≤◌, ◌<◌}
use native.Mathlib.Omega.{arith}
use lib.ListN.{get_or}
use lib.Ieee.{Float}
use Rattle.bounds.specs.Bounds.{SCANS}
use Rattle.fgo_spec.specs.declared.moves.TrackMove.{TrackMove}
use Rattle.fgo_spec.specs.Searching.{better_track}
use Rattle.search_rows.specs.Moves.{has_slot}
use Rattle.search_track.specs.Track.{marks, best_drop_by}
use Rattle.cost_row.specs.Price.{EndsBy}
use Rattle.cost_row.proofs.Left.{best_yes, best_no, best_over}
use Rattle.cost_row.proofs.Heads.{scan_by}
use Rattle.search_track.proofs.best_drop.Invariants.{Drops, by}
use Rattle.search_track.proofs.best_drop.Goals as goal
use Rattle.search_track.proofs.best_drop.Goals.{else-w-k-gt0, then-w-k-gt0}

module _ {first : ℕ} {gains : List Float} {r : List ℕ} {end : ℕ} {start best : Option TrackMove} {k : ℕ} (e : EndsBy end r) (s : Drops first gains r end start best k) where
  tries : k < end → has_slot r k ≡ true → Drops first gains r end start (better_track best (by first gains k)) (k + 1)
  tries g t = record { within = omega arith; left = best_yes better_track (by first gains) (has_slot r) SCANS k best (omega (arith, e.within)) t ∙ s.left }

  skips : k < end → has_slot r k ≡ false → Drops first gains r end start best (k + 1)
  skips g t = record { within = omega arith; left = best_no better_track (by first gains) (has_slot r) SCANS k best (omega (arith, e.within)) t ∙ s.left }

  ends : end ≤ k → best ≡ best_drop_by first gains r start
  ends g = sym (best_over better_track (by first gains) (has_slot r) SCANS k best (λ j h. le-ltb 0 (get_or r j 0) (omega (arith, e.empty j (omega arith))))) ∙ s.left

pub loop-k-init : goal.loop-k-init
unfolding best_drop_by marks
loop-k-init c = record { within = omega arith; left = refl }

pub loop-k-preserved : goal.loop-k-preserved
loop-k-preserved c =
    let i = c.loop-k.invariant in
    let e = c.args.w.now.row.ends in
    let g = c.loop-k-test.true in
    elim c.if-w-k-gt0.branch [
      | then-w-k-gt0 w ↦ rw (w.best-is, w.better-best.ensures, scan_by w.later-scan.ensures) (tries e i g (lt-ltb _ _ w.if-w-k-gt0.true))
      | else-w-k-gt0 w ↦ rw w.best-is (skips e i g (le-ltb _ _ w.if-w-k-gt0.false))
    ]

pub returns : goal.returns
returns c = ends c.args.w.now.row.ends c.loop-k.invariant c.loop-k-test.false
