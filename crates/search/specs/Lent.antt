-- The scene of what is lent. Definitions only.
use Rattle.search.specs.declared.scene.SceneRef.{SceneRef}
use Rattle.search.specs.Pass.{Scene, scene_of}

-- the scene that a search is lent
abbrev pub scene_in : SceneRef → Scene
scene_in s =
    let p = s.prices.now in
    scene_of (record { config = p.config; first = p.first; detections = s.detections; frozen = s.frozen.now.count }) s.starts.now.places.now p.dots.now
    s.frozen.now.tracks.now s.filters.now
