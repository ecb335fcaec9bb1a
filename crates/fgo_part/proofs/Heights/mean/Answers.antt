use Rattle.std.proofs.Common.{◌≡◌, take, length, sym, ap, ◌∙◌, arith, rules, tests, length-take-le, le-leb}
use lib.Ieee.{nan, binary64, add}
use Rattle.std.proofs.lemmas.Iterator.{YieldsList-from_slice}
use Rattle.std.proofs.lemmas.Iterator.Consumers.{YieldsList-from_copied}
use Rattle.bounds.specs.Bounds.{HEIGHTS}
use Rattle.fgo_spec.specs.Freezing as freezing
use Rattle.fgo_part.proofs.Cells.{cells-take}
use Rattle.fgo_part.proofs.Summing.{reduced, mean_by}
use Rattle.fgo_part.proofs.Heights.mean.Goals as goal

pub returns : goal.returns
returns c =
    let hs = c.args.self.values in
    let n = c.args.self.count in
    let high : length hs ≡ HEIGHTS = search rules in
    let long : length (take n hs) ≡ n = length-take-le n hs (omega arith) in
    mean_by (take n hs) c.reduce-sum.result _ (reduced _ (add binary64) (λ a x b q k. search (rules, tests)) c.reduce-sum.result c.reduce-sum.ensures.ran (YieldsList-from_copied (YieldsList-from_slice (take n hs) (cc)))) c.map_or.ensures (λ x k. rw long (search rules))
    ∙ ap freezing.mean (sym (rw (le-leb n HEIGHTS c.requires) (cells-take nan hs n (omega arith))))
