use Rattle.std.proofs.Common.{◌≡◌, true, sym, ◌∙◌, rules}
use Rattle.smoother_frame.specs.Frame.{Counts}
use Rattle.smoother_frame.proofs.WellFormed.{headed, counts}
use Rattle.smoother_frame.proofs.counts.FrameCounts.checked.Goals as goal

pub then-requires : goal.then-requires
then-requires c =
    let h : c.head_ok.result ≡ true → Counts c.args.words.now = λ t. counts _ _ c.requires (headed _ _ (sym c.head_ok.ensures ∙ t)) in
    search (rules, h)
