use native.Mathlib.Omega.{arith}
use Rattle.calls_cells.proofs.Opened.{not_opened, is_opened}
use Rattle.calls_refiner.proofs.open.Goals as goal

pub returns-in-Err-clause-text : goal.returns-in-Err-clause-text
returns-in-Err-clause-text c =
    (not_opened (omega arith) _ c.args.r.now c.args.r.now _ _ (rw c.settings_of.ensures at c.in-Err.ensures.opened) c.put_refused.ensures).1

pub returns-in-Ok-clause-text : goal.returns-in-Ok-clause-text
returns-in-Ok-clause-text c =
    (is_opened (omega arith) _ c.args.r.now c.args.r.now _ c.in-Ok.refiner (rw c.settings_of.ensures at c.in-Ok.ensures.opened) c.put_opened.ensures).1
