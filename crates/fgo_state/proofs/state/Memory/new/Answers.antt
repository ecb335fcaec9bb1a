use Rattle.fgo_state.proofs.state.Memory.new.Goals as goal

pub returns : goal.returns
returns c = rw (c.new.ensures, c.new-2.ensures)
