use native.Mathlib.Omega.{arith}
use Rattle.print.proofs.Fitting.{digest_few, ready}
use Rattle.print.specs.Text.{digest_line}
use Rattle.print.proofs.Putting.{puts_same}
use Rattle.calls.proofs.calling.tell_digest.Goals as goal

pub returns : goal.returns
returns c =
    ready (puts_same (λ i. digest_line (c.hash_refiner-a.ensures i) (c.hash_smoother-b.ensures i) (c.hash_output-c.ensures i)) c.put_digest.ensures)
    (digest_few _ _ _) (omega arith)
