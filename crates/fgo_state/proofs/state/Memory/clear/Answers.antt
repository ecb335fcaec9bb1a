use mathlib.Core.Path.{◌≡◌, ◌∙◌}
use lib.ListN.{length}
use borrow.Author.Rules.{rules}
use Rattle.bounds.specs.Bounds.{BODIES, COLUMNS, OWNERS, PARTS, FILTERS}
use Rattle.buffers.proofs.Agreeing.{cleared_all}
use Rattle.fgo_state.proofs.state.Memory.clear.Goals as goal

pub returns : goal.returns
returns c =
    let m = c.args.self.now in
    let bodies : length m.scans.bodies ≡ BODIES = search rules in
    let columns : length m.scans.columns ≡ COLUMNS = search rules in
    let owners : length m.owners ≡ OWNERS = search rules in
    let tracks : length m.parts.tracks ≡ PARTS = search rules in
    let filters : length m.parts.filters ≡ FILTERS = search rules in
    λ t. record {
      scans =
          record {
            bodies = (c.clear.ensures ∙ cleared_all 0 BODIES m.scans.bodies bodies) t;
            columns = (c.clear-2.ensures ∙ cleared_all 0 COLUMNS m.scans.columns columns) t;
          };
      owners = (c.clear-3.ensures ∙ cleared_all 0 OWNERS m.owners owners) t;
      parts =
          record {
            tracks = (c.clear-4.ensures ∙ cleared_all 0 PARTS m.parts.tracks tracks) t;
            filters = (c.clear-5.ensures ∙ cleared_all _ FILTERS m.parts.filters filters) t;
          };
    }
