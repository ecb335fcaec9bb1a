use Rattle.std.proofs.Common.{◌≡◌, ◌+◌, ◌-◌, sym, ap, ◌∙◌}
use lib.Ieee.{binary64, sub}
use Rattle.std.proofs.Math.Option.{some, none}
use Rattle.scalar.specs.F64.{f64}
use Rattle.rts.specs.Smoothing.{back_from}
use Rattle.smoother_frame.specs.Frame.{time, track_count}
use Rattle.smoother_window.specs.Config.{density}
use Rattle.smoother_window.specs.Window.{frames_from}
use Rattle.smoother_window.specs.Held.{frame_of}
use Rattle.smoother_pass.specs.Pass.{last_at, state_at, chain_in, run_back, dt_of}
use Rattle.smoother_pass.proofs.Chains.{last_below, lacks, none_left, last_one, goes_on}
use Rattle.smoother_pass.proofs.pass.+pass.Goals as goal

pub state_of-a-requires : goal.state_of-a-requires
state_of-a-requires t c = rw c.frame-frame.ensures (last_below c.args.id.0 _ _ c.args.i c.requires.found)

pub returns : goal.returns
returns t c =
    let g = c.args in
    let h = g.held.now.window in
    let q = density h.state.config in
    let f = c.frame-frame.ensures in
    let n = c.frame-next.ensures in
    let b = c.seconds.ensures in
    let d = c.seconds-2.ensures in
    let a = c.state_of-a.ensures ∙ ap (λ f. state_at f.numbers g.i) f in
    let m = ap (λ f. last_at g.id.0 f.words (track_count f.words)) (sym n) ∙ sym c.in-Some.ensures in
    c.step_back.ensures
    ∙ (λ j. back_from f64 q (sub binary64 (b j) (d j)) (a j) (c.pass-later.ensures j))
    ∙ (λ j. back_from f64 q (dt_of (time (f j).words) (time (n j).words)) (state_at (frame_of g.held.now g.k).numbers g.i) (run_back q (chain_in g.id.0 (frames_from h.state h.words.now h.values.now (g.k + 1) (h.state.held - (g.k + 1))))))
    ∙ sym (goes_on h.state h.words.now h.values.now g.id.0 q g.k g.i c.requires.there c.requires.found _ c.if-held-n.false m)

pub returns-in_default : goal.returns-in_default
returns-in_default t c =
    let g = c.args in
    let h = g.held.now.window in
    let a = ap some (c.state_of-a.ensures ∙ ap (λ f. state_at f.numbers g.i) c.frame-frame.ensures) in
    let z : none ≡ last_at g.id.0 c.frame-next.result.words (track_count c.frame-next.result.words) = c.in_default.ensures in
    let m = ap (λ f. last_at g.id.0 f.words (track_count f.words)) (sym c.frame-next.ensures) ∙ sym z in
    a ∙ sym (last_one h.state h.words.now h.values.now g.id.0 _ g.k g.i c.requires.there c.requires.found (lacks h.state h.words.now h.values.now g.id.0 _ c.if-held-n.false m))

pub returns-then-held-n : goal.returns-then-held-n
returns-then-held-n t c =
    let g = c.args in
    let h = g.held.now.window in
    let a = ap some (c.state_of-a.ensures ∙ ap (λ f. state_at f.numbers g.i) c.frame-frame.ensures) in
    a ∙ sym (last_one h.state h.words.now h.values.now g.id.0 _ g.k g.i c.requires.there c.requires.found (none_left h.state h.words.now h.values.now g.id.0 _ c.if-held-n.true))
