-- The detections of the held windows, gathered: their ids in one list, scan by scan, and where each scan's begin; and
-- the columns of the held scans again, from the gathered ids. Definitions only.
use Rattle.std.specs.Prelude.{ℕ, zero, suc, List, [], ◌∷◌, get_or}
use Rattle.engine.specs.declared.types.Association.{Association}
use Rattle.fgo_spec.specs.Lists.{segment}
use Rattle.fgo_spec.specs.Windows.{Scan}

-- the ids of scan k
abbrev pub column_at : List ℕ → List ℕ → ℕ → List ℕ
column_at starts ids k = segment (get_or starts k 0) (get_or starts (suc k) 0) ids

-- the associations of a scan that lie in windows
unfoldable pub picked : List ℕ → List Association → List Association
picked is [] = []
picked [] (a ∷ l) = []
picked (zero ∷ is) (a ∷ l) = picked is l
picked (suc i ∷ is) (a ∷ l) = a ∷ picked is l

-- a column again, from the ids of those gathered: what was clutter stays clutter
unfoldable pub spread : List ℕ → List ℕ → List ℕ
spread [] gs = []
spread (zero ∷ is) gs = 0 ∷ spread is gs
spread (suc i ∷ is) [] = 0 ∷ spread is []
spread (suc i ∷ is) (g ∷ gs) = g ∷ spread is gs

-- the scans with the gathered ids put back; the first of them is the k-th
unfoldable pub put_back : List ℕ → List ℕ → ℕ → List Scan → List Scan
put_back starts ids k [] = []
put_back starts ids k (s ∷ ss) = record { frame = s.frame; ids = spread s.ids (column_at starts ids k) } ∷ put_back starts ids (suc k) ss
