use mathlib.Core.Path.{◌≡◌, ap, ◌∙◌}
use lib.ListN.{get_or}
use mir.Syntax.{w64}
use mir.Facts.{to_z-of_z}
use Rattle.scalar.specs.Scalar.{seconds_of}
use Rattle.engine.specs.declared.types.Association.{Association}
use Rattle.engine.specs.Frame.{no_observation}
use Rattle.engine.specs.Body.{body_of, frame_in}
use Rattle.fgo_spec.specs.Windows.{detection_of}
use Rattle.fgo_state.specs.Memory.{association_in}
use Rattle.fgo_state.proofs.gather.dot_in.Goals as goal

pub returns : goal.returns
unfolding detection_of
returns c =
    let a = c.args in
    let b = body_of a.s.now.frame.body in
    let f = frame_in b in
    let o : c.observation-d.result ≡ get_or f.observations (association_in b a.j).index.0 no_observation =
    c.observation-d.ensures ∙ ap (λ (x : Association). get_or f.observations x.index.0 no_observation) c.association.ensures in
    let t : c.seconds.result ≡ seconds_of f.time = c.seconds.ensures ∙ ap seconds_of (to_z-of_z {w = w64} (record { sfits = c.time.type_inv }) ∙ c.time.ensures) in
    rw (o, t, c.position_variance.ensures)
