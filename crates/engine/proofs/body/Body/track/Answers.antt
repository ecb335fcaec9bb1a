use Rattle.std.proofs.Common.{rules, tests}
use Rattle.engine.specs.Body.{layout_of}
use Rattle.engine.proofs.Reading.{and_where, read_by, track_passed}
use Rattle.engine.proofs.body.Body.track.Goals as goal

pub returns : goal.returns
returns c = and_where (track_passed (layout_of c.args.self.now.kind) _ _) (read_by _ _ _ _ _ _ _ _ (rw (c.track_count.ensures.count, c.header_size.ensures.size) at c.row_from.ensures.place) c.map_or.ensures c.no_track.ensures (λ x h. search (rules, tests)))
