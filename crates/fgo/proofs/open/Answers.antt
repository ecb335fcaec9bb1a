use mathlib.Core.Path.{sym, ◌∙◌}
use Rattle.fgo.proofs.open.Goals as goal

pub returns-then-is_legal : goal.returns-then-is_legal
returns-then-is_legal c = let legal = sym c.is_legal.ensures ∙ c.if-is_legal.true in
    record { opened = rw (c.new.ensures, legal); memory = rw (c.clear.ensures, legal) }

pub returns-else-is_legal : goal.returns-else-is_legal
returns-else-is_legal c = let illegal = sym c.is_legal.ensures ∙ c.if-is_legal.false in record { opened = rw illegal; memory = rw illegal }
