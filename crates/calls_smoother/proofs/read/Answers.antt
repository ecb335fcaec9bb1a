use mathlib.Core.Path.{sym}
use native.Mathlib.Omega.{arith}
use Rattle.engine.proofs.Laid.{rows_back}
use Rattle.calls_smoother.proofs.read.Goals as goal

pub returns : goal.returns
returns g c = rw (← c.loop-i.auto.list) (sym (rows_back _ _ _ (λ j h. c.loop-i.invariant j (omega (arith, h, c.loop-i-test.false, c.loop-i.auto.list)))))
