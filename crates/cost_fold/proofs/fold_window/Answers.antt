use Rattle.std.proofs.lemmas.List.{take_rest}
use Rattle.cost.specs.Cost.{view_in}
use Rattle.cost_fold.proofs.Steps.{fold_going, bare_fold, leads_born, leads_frozen}
use Rattle.cost_fold.proofs.fold_window.Goals as goal

pub returns-in_default : goal.returns-in_default
returns-in_default c = let p = c.args.prices.now in rw c.in-Fresh.is (bare_fold p.config (view_in p) c.args.k _ _ c.in_default.ensures)

pub returns-in_default-first_detection : goal.returns-in_default-first_detection
returns-in_default-first_detection c = let p = c.args.prices.now in rw c.in-Frozen.is (bare_fold p.config (view_in p) c.args.k _ _ c.in_default-first_detection.ensures)

pub returns-in-Some : goal.returns-in-Some
returns-in-Some c =
    let s = c.args in
    let p = s.prices.now in
    rw (c.fold_on.ensures, take_rest, ← fold_going p.config, c.born_at-r.ensures, c.later-scan.ensures, c.dot_at.ensures, c.in-Fresh.is) (leads_born p.config (view_in p) s.k _ _ c.in-Some.ensures)

pub returns-in-Some-first_detection : goal.returns-in-Some-first_detection
returns-in-Some-first_detection c =
    let s = c.args in
    let p = s.prices.now in
    rw (c.fold_on-in-Frozen.ensures, take_rest, ← fold_going p.config, c.resume-r.ensures, c.in-Frozen.is) (leads_frozen p.config (view_in p) s.k _ _ c.in-Some-first_detection.ensures _ _)

pub returns-in-Going : goal.returns-in-Going
returns-in-Going c = let p = c.args.prices.now in rw (c.fold_on-in-Going.ensures, ← fold_going p.config, c.in-Going.is)
