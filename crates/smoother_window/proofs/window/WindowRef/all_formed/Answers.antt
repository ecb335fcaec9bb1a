use Rattle.std.proofs.Common.{refl, sym, ◌∙◌, rules, tests}
use Rattle.smoother_frame.specs.Frame.{well_formed}
use Rattle.engine.proofs.Ranges.{all_of_range}
use Rattle.smoother_window.specs.Config.{most}
use Rattle.smoother_window.specs.Window.{held_frame}
use Rattle.smoother_window.proofs.Forms.{all_held}
use Rattle.smoother_window.proofs.window.WindowRef.all_formed.Goals as goal

pub returns : goal.returns
returns c =
    let s = c.args.self.now in
    all_of_range (λ k. well_formed (most s.state.config) (held_frame s.state s.words.now s.values.now k)) s.state.held refl c.all.ensures.ran (λ x b q k. search (rules, tests))
    ∙ sym (all_held s.state s.words.now s.values.now)
