use native.Mathlib.Omega.{arith}
use mathlib.Core.Path.{sym}
use lib.Seq.{length-take-le}
use Rattle.print.proofs.Fitting.{bad_few, ready}
use Rattle.calls.proofs.print_bad.Goals as goal

pub slice_bounds-out-end : goal.slice_bounds-out-end
slice_bounds-out-end g c = (ready c.put_bad-end.ensures bad_few (omega arith)).within

pub slice_bounds-write-end : goal.slice_bounds-write-end
slice_bounds-write-end g c = sym (length-take-le _ _ (ready c.put_bad-end.ensures bad_few (omega arith)).within)
