use mathlib.Core.Path.{sym, ◌∙◌}
use Rattle.recording.proofs.Recorded.{held}
use Rattle.recording.proofs.body_at.Goals as goal

pub offset_of-from-requires : goal.offset_of-from-requires
offset_of-from-requires c = (held c.args.s.now c.args.i (sym c.entry_holds.ensures ∙ c.if-not-entry_holds.false)).0
