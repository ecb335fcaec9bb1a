use Rattle.std.proofs.Common.{arith}
use Rattle.std.proofs.lemmas.Bool.Decides.{nat_tests}
use Rattle.smoother_window.proofs.Forms.{frames_long}
use Rattle.smoother.specs.Smoother as Smoother
use Rattle.smoother.specs.Promise.{state_in}
use Rattle.smoother.proofs.rule_ok.Goals as goal

pub returns-then-window : goal.returns-then-window
unfolding Smoother.rule_ok state_in
returns-then-window c = let w = c.args.window.now in rw (frames_long w.state w.words.now w.values.now 0 w.state.held) (grind (arith, nat_tests))

pub returns-else-window : goal.returns-else-window
unfolding Smoother.rule_ok state_in
returns-else-window c = let w = c.args.window.now in rw (frames_long w.state w.words.now w.values.now 0 w.state.held) (grind (arith, nat_tests))
