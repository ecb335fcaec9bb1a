-- How a pass stands, by what it is lent and what goes on changing in it. Definitions only.
use Rattle.std.specs.Prelude.{ℕ, ◌<◌, List, get_or, take}
use Rattle.fgo_spec.specs.Rule.{All}
use Rattle.search_rows.specs.Rows.{present_in, Tabled}
use Rattle.search.specs.declared.marks.Mark.{Mark}
use Rattle.search.specs.declared.tables.PassState.{PassState}
use Rattle.search.specs.declared.listed.Pass.{Pass}
use Rattle.search.specs.declared.listed.Listing.{Listing}
use Rattle.search.specs.declared.scene.SceneRef.{SceneRef}
use Rattle.search.specs.Lent.{scene_in}
use Rattle.search.specs.Pass.{Scene, Progress, progress_of, Rests, Swept, Visits, Left}

-- what a search has made of the ids and of the tally
abbrev pub progress_in : PassState → Progress
progress_in c = progress_of c.ids c.tally

-- the last pass has left it so
abbrev pub LeftIn : SceneRef → Listing → PassState → Type 0
LeftIn s l c = Left (scene_in s) l.count l.table c.ids c.costs c.moved

-- the ids that have a window are below the next one
abbrev pub KnownIn : SceneRef → PassState → Type 0
KnownIn s c = All (λ x. x < c.tally.next_id.0) (present_in s.detections c.ids)

-- the scene that a pass goes over
abbrev pub scene_under : Pass → Scene
scene_under p = scene_in p.scene.now

-- the ids that it lists
abbrev pub listed_in : Pass → List ℕ
listed_in p = take p.list.now.count p.list.now.table

-- the id at place i
abbrev pub listed_at : Pass → ℕ → ℕ
listed_at p i = get_or p.list.now.table i 0

-- its rows are those of the ids is
abbrev pub TabledIn : Pass → List ℕ → Type 0
TabledIn p is = Tabled (scene_under p).starts is p.list.now.table p.list.now.count p.list.now.rows

-- the places i and j have no move by its rows, if neither is marked
abbrev pub RestsIn : Pass → List Mark → ℕ → ℕ → Type 0
RestsIn p marks i j = Rests (scene_under p) p.list.now.table p.list.now.rows marks i j

-- its pairs are being swept
abbrev pub SweptIn : Pass → PassState → Type 0
SweptIn p c = Swept (scene_under p) p.list.now.count p.list.now.table p.list.now.rows c.tally.next_id.0 c.ids c.costs c.moved

-- its tracks before place i have been visited
abbrev pub VisitsIn : Pass → ℕ → PassState → Type 0
VisitsIn p i c = Visits (scene_under p) p.list.now.count p.list.now.table p.list.now.rows i c.tally.next_id.0 c.ids c.costs c.moved
