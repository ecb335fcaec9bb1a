use Rattle.std.proofs.Common.{arith, ◌+◌, ◌*◌, ap, sym, ◌∙◌, length}
use Rattle.bounds.specs.Bounds.{HEAD, TRACK, LINK, STATE}
use Rattle.std.specs.Float.{binary64}
use Rattle.std.specs.Float.Ieee.{of_bits}
use Rattle.buffers.specs.Buffers.{cleared}
use Rattle.smoother_frame.specs.Frame.{words_long, numbers_long}
use Rattle.smoother_window.proofs.Slots.{room}
use Rattle.smoother_window.proofs.Storing.{held_words, held_numbers, dropped}
use Rattle.smoother_window.proofs.FixedLagSmoother.drop_oldest.Goals as goal

pub of-counts-requires : goal.of-counts-requires
of-counts-requires c =
    let k = c.requires.counted 0 c.requires.some in
    let v = c.slot_words.ensures.value in
    rw v (record { long = omega (arith, ap length v, c.slot_words.ensures.whole); tracks = omega (arith, k, c.requires.fitting); associations = k.associations; sensors = k.sensors })

pub clear-requires : goal.clear-requires
clear-requires c =
    let k = c.requires.counted 0 c.requires.some in
    let v = ap words_long c.slot_words.ensures.value in
    let r = room c.slot-at.ensures.within c.slot_size-size.ensures.words c.requires.fitting.words in
    omega (arith, r, v, k, c.of-counts.ensures, c.words_long.ensures, c.slot_size-size.ensures)

pub clear-requires-2 : goal.clear-requires-2
clear-requires-2 c =
    let k = c.requires.counted 0 c.requires.some in
    let v = ap numbers_long c.slot_words.ensures.value in
    let r = room c.slot-at.ensures.within c.slot_size-size.ensures.numbers c.requires.fitting.numbers in
    omega (arith, r, v, k, c.of-counts.ensures, c.numbers_long.ensures, c.slot_size-size.ensures)

pub returns : goal.returns
returns c =
    let g = c.args in
    let p = c.requires in
    let k = p.counted 0 p.some in
    let at = c.slot-at.ensures.turned in
    let n = c.slot_size-size.ensures in
    let m = c.of-counts.ensures in
    let a = c.words_long.ensures ∙ (λ i. HEAD + TRACK * m.tracks i + LINK * m.associations i + m.sensors i) ∙ ap words_long c.slot_words.ensures.value ∙ sym (held_words g.self.now g.words.now g.values.now 0 p.fitting k) in
    let b = c.numbers_long.ensures ∙ (λ i. STATE * m.tracks i + m.associations i) ∙ ap numbers_long c.slot_words.ensures.value ∙ sym (held_numbers g.self.now g.words.now g.values.now 0 p.fitting k) in
    rw c.slot-self.ensures.turned
    (dropped g.self.now g.words.now g.values.now p.fitting p.few p.some k
    (c.clear.ensures ∙ (λ i. cleared 0 (at i * n.words i) (a i) g.words.now))
    (c.clear-2.ensures ∙ (λ i. cleared (of_bits binary64 0) (at i * n.numbers i) (b i) g.values.now)))
