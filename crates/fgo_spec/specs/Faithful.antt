-- What document 01 says of windows, in its own words: the parts of a window, two windows as one, and what each move
-- leaves. Definitions only.
use Prim.Native.Nat.{ℕ, suc, ◌<◌, ◌≤◌, compare, Ordering}
use Rattle.std.specs.Prelude.{◌≡◌, Bool, cond, length, eqb, leb, ltb}
use mathlib.Core.List.{List, [], ◌∷◌, ◌++◌, map, flat_map}
use Rattle.engine.specs.Frame.{Frame}
use Rattle.fgo_spec.specs.Lists.{keep, any, times}
use Rattle.fgo_spec.specs.Windows.{Scan, Detection, detection_of, window}
use Rattle.fgo_spec.specs.Searching.{shared}

-- ---- parts of a window

-- the part of a window before the cut
abbrev pub before : ℕ → List Detection → List Detection
before f w = keep (λ d. ltb d.scan f) w

-- "the parts of their windows from the cut on"
abbrev pub from : ℕ → List Detection → List Detection
from f w = keep (λ d. leb f d.scan) w

-- ---- two windows as one

-- by which of two detections has the earlier scan; own says whose is kept in equal scans
abbrev pub beside_by :
    Ordering → Bool → Detection → Detection → (List Detection → List Detection) →
    List Detection → List Detection → List Detection
beside_by Ordering.lt own d e later w r = d ∷ later (e ∷ w)
beside_by Ordering.eq own d e later w r = cond own d e ∷ later w
beside_by Ordering.gt own d e later w r = e ∷ r

-- the keeper's detection d beside the other's window w, where `later` joins the keeper's later detections with a
-- window: in equal scans d is kept, or else the other's
unfoldable pub beside : Bool → Detection → (List Detection → List Detection) → List Detection → List Detection
beside own d later [] = d ∷ later []
beside own d later (e ∷ w) = beside_by (compare d.scan e.scan) own d e later w (beside own d later w)

-- the keeper's window and the other's, by rising scan: "in the scans that both tracks share, first the keeper's own
-- detections are kept, then the other track's"
unfoldable pub joined : Bool → List Detection → List Detection → List Detection
joined own [] w = w
joined own (d ∷ v) w = beside own d (joined own v) w

-- a window has a detection in the scan of d
abbrev pub shares : List Detection → Detection → Bool
shares w d = any (λ e. eqb d.scan e.scan) w

-- "The detections not kept are the losers": the other's, or the keeper's, in shared scans
abbrev pub losers : Bool → List Detection → List Detection → List Detection
losers own v w = keep (shares (cond own v w)) (cond own w v)

-- ---- what a move leaves: ts is what it makes of the scans ss, of which the first has the number n

-- "The two tracks exchange the parts of their windows from the cut on"
pub record Swapped (a b f n : ℕ) (ss ts : List Scan) : Type 0 where
  pub first : window a n ts ≡ before f (window a n ss) ++ from f (window b n ss)
  pub second : window b n ts ≡ before f (window b n ss) ++ from f (window a n ss)
  pub others : (x : ℕ) → (a ≡ x → ⊥) → (b ≡ x → ⊥) → window x n ts ≡ window x n ss

-- "The detections not kept are the losers and become clutter." "After a merge the other track's window is empty."
pub record Merged (own : Bool) (k o n : ℕ) (ss ts : List Scan) : Type 0 where
  pub keeper : window k n ts ≡ joined own (window k n ss) (window o n ss)
  pub other : window o n ts ≡ []
  pub others : (x : ℕ) → 0 < x → (k ≡ x → ⊥) → (o ≡ x → ⊥) → window x n ts ≡ window x n ss
  pub lost : shared k o ss ≡ length (losers own (window k n ss) (window o n ss))

-- "Splits of the window", at its detection d, which has the detections v before it and u after it: the tail "gets the
-- next id", here x
pub record Halved (a x n : ℕ) (v : List Detection) (d : Detection) (u : List Detection) (ss ts : List Scan) : Type 0 where
  pub head : window a n ts ≡ v
  pub tail : window x n ts ≡ d ∷ u
  pub others : (y : ℕ) → (a ≡ y → ⊥) → (x ≡ y → ⊥) → window y n ts ≡ window y n ss

-- "the drop of each single detection", here of d, which has the detections v before it and u after it
pub record Dropped (a n : ℕ) (v : List Detection) (d : Detection) (u : List Detection) (ss ts : List Scan) : Type 0 where
  pub left : window a n ts ≡ v ++ u
  pub others : (x : ℕ) → 0 < x → (a ≡ x → ⊥) → window x n ts ≡ window x n ss

-- ---- "each held association lies in exactly one window or in clutter"

-- a scan that has an id for each association, and no track twice
pub record Regular (s : Scan) : Type 0 where
  pub complete : length s.ids ≡ length s.frame.associations
  pub apart : (x : ℕ) → 0 < x → times x s.ids ≤ 1

-- the observations of scan n, one for each association
abbrev pub detections_of : ℕ → Frame → List Detection
detections_of n f = map (detection_of n f) f.associations

-- the held observations, one for each held association, in order
unfoldable pub held_detections : ℕ → List Scan → List Detection
held_detections n [] = []
held_detections n (s ∷ ss) = detections_of n s.frame ++ held_detections (suc n) ss

-- the ids of the held associations, in the same order
abbrev pub ids : List Scan → List ℕ
ids ss = flat_map (λ s. s.ids) ss

-- those of a list whose entry in a list of marks is x
unfoldable pub marked : ℕ → List Detection → List ℕ → List Detection
marked x [] is = []
marked x (d ∷ ds) [] = []
marked x (d ∷ ds) (i ∷ is) = cond (eqb x i) (d ∷ marked x ds is) (marked x ds is)

-- There is one id to each held observation, and the window of each id, and clutter, which is that of 0, has just the
-- observations whose id it is.
pub record Parted (n : ℕ) (ss : List Scan) : Type 0 where
  pub each : length (ids ss) ≡ length (held_detections n ss)
  pub windows : (x : ℕ) → window x n ss ≡ marked x (held_detections n ss) (ids ss)
