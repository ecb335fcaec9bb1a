use Rattle.std.proofs.Common.{arith}
use Rattle.std.proofs.lemmas.Bool.Decides.{nat_tests}
use Rattle.engine.specs.Body.{body_of}
use Rattle.fgo_state.proofs.Counts.{associations_few}
use Rattle.fgo_rule.specs.Tests.{id_ok}
use Rattle.fgo_rule.proofs.id_ok.Goals as goal

pub overflow_add-j : goal.overflow_add-j
overflow_add-j c = record { fits = omega (arith, associations_few (body_of c.args.s.now.frame.body) c.args.s.now.frame.passes, c.requires) }

pub returns-then-lt : goal.returns-then-lt
unfolding id_ok
returns-then-lt c = grind (arith, nat_tests)

pub returns-else-lt : goal.returns-else-lt
unfolding id_ok
returns-else-lt c = grind (arith, nat_tests)
