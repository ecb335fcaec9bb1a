use Rattle.std.proofs.Common.{◌≡◌, sym, ap, ◌∙◌}
use Rattle.std.proofs.Math.Option.{none}
use Rattle.smoother_frame.specs.Frame.{track_count, id_word}
use Rattle.smoother_window.specs.Config.{density}
use Rattle.smoother_window.specs.Held.{frames_of}
use Rattle.smoother_pass.specs.Pass.{last_at, chain_in, run_back, ran_back}
use Rattle.smoother_pass.proofs.Chains.{lacks, from_oldest}
use Rattle.smoother_pass.proofs.pass.pass_of.Goals as goal

pub returns-in_err-at : goal.returns-in_err-at
unfolding run_back
returns-in_err-at c =
    let g = c.args in
    let h = g.held.now.window in
    let id = c.track_id-id.result.0 in
    let z : none ≡ last_at id c.frame-frame.result.words (track_count c.frame-frame.result.words) = c.in_err-at.ensures in
    let m = ap (λ f. last_at id f.words (track_count f.words)) (sym c.frame-frame.ensures) ∙ sym z in
    let e = c.track_id-id.ensures ∙ ap (λ f. id_word f.words g.i) c.frame-frame.ensures in
    ap ran_back c.from_residual.ensures
    ∙ ap (run_back (density h.state.config)) (sym (lacks h.state h.words.now h.values.now id 0 g.held.now.some m) ∙ from_oldest h.state h.words.now h.values.now id ∙ ap (λ id. chain_in id (frames_of g.held.now)) e)

pub returns : goal.returns
returns c =
    let g = c.args in
    let h = g.held.now.window in
    let e = c.track_id-id.ensures ∙ ap (λ f. id_word f.words g.i) c.frame-frame.ensures in
    c.pass.ensures ∙ ap (run_back (density h.state.config)) (from_oldest h.state h.words.now h.values.now c.track_id-id.result.0 ∙ ap (λ id. chain_in id (frames_of g.held.now)) e)
