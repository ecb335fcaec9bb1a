use Rattle.std.proofs.Common.{◌*◌, ◌∙◌}
use Rattle.buffers.specs.Buffers.{over}
use Rattle.smoother_window.specs.Window.{Fits}
use Rattle.smoother_window.proofs.Storing.{stored}
use Rattle.smoother_window.proofs.FixedLagSmoother.store.Goals as goal

pub returns : goal.returns
returns c =
    let g = c.args in
    let p = c.requires in
    let at = c.slot-at.ensures.turned in
    let n = c.slot_size-size.ensures in
    let w = c.words.ensures in
    let x = c.numbers.ensures in
    let fit : Fits g.self.now.config g.frame.now = record { words = w.whole; numbers = x.whole; tracks = p.few; associations = w.counted.associations; sensors = w.counted.sensors } in
    stored g.self.now g.words.now g.values.now g.frame.now p.free p.fitting fit
    (c.put.ensures ∙ (λ i. over (at i * n.words i) (w.value i) g.words.now))
    (c.put-2.ensures ∙ (λ i. over (at i * n.numbers i) (x.value i) g.values.now))
