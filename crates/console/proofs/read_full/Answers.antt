use Rattle.std.proofs.Common.{rules, arith}
use Rattle.console.proofs.Reading.{consumed_more}
use Rattle.console.proofs.read_full.Goals as goal

pub loop-n-preserved : goal.loop-n-preserved
loop-n-preserved g c = record {
  within = search rules;
  long = search rules;
  consumed = consumed_more _ _ _ _ _ _ _ _ c.loop-n.invariant.within (omega (arith, c.in-Ok.ensures.bound)) c.loop-n.invariant.consumed c.in-Ok.ensures.bytes.0;
}
