use mathlib.Core.Logic.{⊎_elim}
use Rattle.cost.specs.Cost.{closed}
use Rattle.cost.proofs.Fold.close.Goals as goal

pub returns-in-Fresh : goal.returns-in-Fresh
unfolding closed
returns-in-Fresh c = ⊎_elim (λ e. rw e) (λ k. rw k.2) c.in-Fresh.is

pub returns-in-Going : goal.returns-in-Going
unfolding closed
returns-in-Going c = rw (c.in-Going.is, c.nearest_u64_to_f64.ensures)
