use Rattle.std.proofs.Common.{refl, rules, tests, ◌+◌, ◌*◌}
use Rattle.std.proofs.iter.Serving.{serving}
use Rattle.bounds.specs.Bounds.{ENGINE}
use Rattle.engine.specs.Body.{track_ok, tracks_ok}
use Rattle.engine.proofs.Passing.{sized}
use Rattle.engine.proofs.Ranges.{all_of_range}
use Rattle.engine_check.proofs.headed.HeadedBody.tracks_ok.Goals as goal

pub all-requires-clause-callable : goal.all-requires-clause-callable
all-requires-clause-callable c = let z = sized _ _ c.args.self.now.headed in grind (serving, z.exact)

pub returns : goal.returns
unfolding tracks_ok
returns c = rw (c.track_count.ensures.count, c.header_size-from.ensures.size) at (all_of_range (λ i. track_ok c.args.self.now.body.bytes.now (c.header_size-from.result + ENGINE * i)) _ refl c.all.ensures.ran (λ x b q k. search (rules, tests)))
