use Rattle.std.proofs.Common.{◌-◌}
use Rattle.smoother_pass.proofs.pass.+pass.Given as goal

-- how many frames are left
abbrev pub decreases-pass : goal.decreases-pass
decreases-pass l = l.held.now.window.state.held - l.k
