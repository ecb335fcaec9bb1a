use Rattle.search.specs.Lent.{scene_in}
use Rattle.search.proofs.Costing.{row_fit}
use Rattle.search.proofs.scene.SceneRef.track_cost.Goals as goal

pub row_cost-requires : goal.row_cost-requires
row_cost-requires c =
    let s = c.args in
    let f = row_fit (scene_in s.self.now) s.ids.now s.x.0 c.row_of-row.ensures c.fold_of-from.ensures in
    f.idle
