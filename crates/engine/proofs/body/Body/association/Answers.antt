use Rattle.std.proofs.Common.{◌∙◌}
use Rattle.engine.specs.Body.{layout_of}
use Rattle.engine.proofs.Reading.{and_where, read_none, read_some, association_passed}
use Rattle.engine.proofs.body.Body.association.Goals as goal

pub returns-in-None : goal.returns-in-None
returns-in-None c = and_where (association_passed (layout_of c.args.self.now.kind) _ _) (c.no_association.ensures ∙ read_none _ _ _ _ _ _ _ (rw (c.association_count.ensures.count, c.associations_from-from.ensures.place) at c.in-None.ensures.place))

pub returns-in-Some : goal.returns-in-Some
returns-in-Some c = and_where (association_passed (layout_of c.args.self.now.kind) _ _) (c.association_at.ensures ∙ read_some _ _ _ _ _ _ _ _ (rw (c.association_count.ensures.count, c.associations_from-from.ensures.place) at c.in-Some.ensures.place))
