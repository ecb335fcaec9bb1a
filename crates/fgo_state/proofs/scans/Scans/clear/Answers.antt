use Prim.Native.Nat.{◌+◌, ◌*◌}
use native.Mathlib.Omega.{arith}
use mathlib.Core.Path.{◌≡◌, ap, ◌∙◌}
use lib.ListN.{length}
use borrow.Author.Rules.{rules}
use Rattle.bounds.specs.Bounds.{BODY, BODIES, COLUMN, COLUMNS}
use Rattle.buffers.specs.Buffers.{cleared}
use Rattle.fgo_state.specs.Memory.{bytes_at, body_at}
use Rattle.fgo_state.proofs.Counts.{associations_few}
use Rattle.fgo_state.proofs.SlotClearing.{clear_body, clear_column}
use Rattle.fgo_state.proofs.scans.Scans.clear.Goals as goal

pub clear-requires : goal.clear-requires
clear-requires c =
    let s = c.args.self.now in
    let long : length s.bodies ≡ BODIES = search rules in
    let size : length c.body.result.bytes.now ≡ length (bytes_at s.bodies s.columns c.args.n.0) = ap (λ b. length b.bytes) c.body.ensures in
    omega (arith, size, c.slot_of-slot.ensures.0, clear_body s c.args.n.0 long)

pub overflow_add-count : goal.overflow_add-count
overflow_add-count c =
    let s = c.args.self.now in
    omega (arith, c.count_of-count.ensures, associations_few (body_at s.bodies s.columns c.args.n.0) c.requires)

pub clear-requires-2 : goal.clear-requires-2
clear-requires-2 c =
    let s = c.args.self.now in
    let wide : length s.columns ≡ COLUMNS = search rules in
    omega (arith, c.count_of-count.ensures, c.slot_of-slot.ensures.0, clear_column s c.args.n.0 wide c.requires)

pub returns : goal.returns
returns c =
    let s = c.args.self.now in
    let slot = c.slot_of-slot.ensures.0 in
    λ t. record {
      bodies = (c.clear.ensures ∙ (λ i. cleared 0 (BODY * slot i) (length (c.body.ensures i).bytes) s.bodies)) t;
      columns = (c.clear-2.ensures ∙ (λ i. cleared 0 (COLUMN * slot i) (1 + c.count_of-count.ensures i) s.columns)) t;
    }
