use Rattle.std.proofs.Common.{None, sym, ap, ◌∙◌, arith, rules, tests, take_all}
use Rattle.std.proofs.lemmas.Iterator.{YieldsList-from_map}
use Rattle.std.proofs.lemmas.Iterator.Adapters.{option_map_id}
use Rattle.std.proofs.lemmas.Iterator.Search.{find_from_yields_List}
use Rattle.std.specs.Option.{option_and_then}
use Rattle.engine.specs.Body.{body_of, frame_in}
use Rattle.fgo_spec.specs.Windows.{class_among}
use Rattle.fgo_state.proofs.Counts.{tracks_long}
use Rattle.fgo_state.proofs.Down.{YieldsList-from_rev_range}
use Rattle.fgo_freeze.proofs.Classes.{and_then_is, at, named, class_found}
use Rattle.fgo_freeze.proofs.class_among.Goals as goal

pub returns : goal.returns
returns c =
    let e = c.args.e.0 in
    let b = body_of c.args.b.now.body in
    let l = (frame_in b).tracks in
    let n = c.track_count.result in
    let found = sym (option_map_id c.find.result) ∙ find_from_yields_List (named e) _ _ c.find.result c.find.ensures.ran (YieldsList-from_map _ (at l) (YieldsList-from_rev_range n (ap (λ s. s.iter) c.map.ensures.source ∙ c.rev.ensures.source)) c.map.ensures.closure (λ i t q k. search (rules, tests))) (λ t r q k. search (rules, tests)) in
    and_then_is c.find.result c.and_then.result (λ t. t.class) c.and_then.ensures (λ t k. search rules)
    ∙ ap (option_and_then (λ t. t.class)) found
    ∙ class_found e l n (omega (arith, c.track_count.ensures, tracks_long b))
    ∙ ap (class_among e None) (take_all n l (omega (arith, c.track_count.ensures, tracks_long b)))
