use native.Mathlib.Omega.{arith}
use Rattle.print.proofs.Fitting.{counted_few, ready}
use Rattle.calls_refiner.proofs.Telling.{counting}
use Rattle.calls_refiner.proofs.count.Goals as goal

pub returns : goal.returns
returns c = rw (← counting _ _ _ (c.counters-k.ensures c.args.memory.now.parts.filters)) (ready c.put_counted.ensures (counted_few _) (omega arith))
