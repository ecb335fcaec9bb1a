use Prim.Native.Nat.{ℕ, ◌+◌, ◌-◌}
use borrow.Author.Rules.{rules}
use mathlib.Core.Path.{◌≡◌, refl}
use mathlib.Core.List.{List}
use lib.ListN.{replicate}
use lib.Seq.{drop-drop}
use borrow.Rule.Slice.PartMut.{put_mid}
use Rattle.std.proofs.lemmas.List.{length-replicate}
use Rattle.bounds.specs.Bounds.{STARTS}
use Rattle.buffers.specs.Buffers.{over}
use Rattle.fgo_state.proofs.gather.Gathered.add.Goals as goal

-- the starts that are filled
filled : (k p : ℕ) (ts : List ℕ) {fs : List ℕ} → fs ≡ replicate (STARTS - (k + 1)) p → put_mid (k + 1) (STARTS - (k + 1)) ts fs ≡ over (k + 1) (replicate (STARTS - (k + 1)) p) ts
unfolding over
filled k p ts f = rw (f, length-replicate (STARTS - (k + 1)) p, drop-drop (STARTS - (k + 1)) (k + 1) ts)

pub returns : goal.returns
returns c =
    let a = c.args.self.now in
    record { scan = c.gather_scan-self.ensures; starts = filled a.held c.gather_scan-self.result a.starts (search rules); held = refl }
