-- The columns of held scans. Assumes nothing.
use Prim.Native.Nat.{ℕ, ◌-◌, ◌<◌}
use mathlib.Core.Path.{◌≡◌, refl, sym, ◌∙◌}
use mathlib.Core.Bool.{Bool}
use mathlib.Core.List.{List}
use native.Mathlib.Omega.{arith}
use lib.ListN.{length, get_or}
use Rattle.engine.specs.Body.{Body, frame_in, associations_in, rows}
use Rattle.engine.proofs.Passing.{length-rows, row_at}
use Rattle.fgo_spec.specs.Lists.{has}
use Rattle.fgo_state.specs.Memory.{body_at, id_at, scan_in}
use Rattle.fgo_state.proofs.Counts as counts

-- whether an id stands in the column of scan n, of m associations
pub stands : (bodies columns : List ℕ) (n x : ℕ) {m : ℕ} {b : Bool} → m ≡ associations_in (body_at bodies columns n) → b ≡ has x (rows (id_at columns n) 0 (m - 0)) → has x (scan_in bodies columns n).ids ≡ b
unfolding scan_in
stands bodies columns n x {m} em eb = let z : m - 0 ≡ m = omega arith in rw (eb, z, em)

-- ---- scan n, of which the body is s

module _ (bodies columns : List ℕ) (n : ℕ) {s : Body} (is : s ≡ body_at bodies columns n) where
  pub scan_frame : (scan_in bodies columns n).frame ≡ frame_in s
  unfolding scan_in
  scan_frame = rw is

  pub associations_long : length (scan_in bodies columns n).frame.associations ≡ associations_in s
  associations_long = rw scan_frame (counts.associations_long s)

  pub ids_long : length (scan_in bodies columns n).ids ≡ associations_in s
  unfolding scan_in
  ids_long = rw is (length-rows (id_at columns n) 0 (associations_in (body_at bodies columns n)))

  -- the id of association j
  pub id_here : (j : ℕ) → j < associations_in s → get_or (scan_in bodies columns n).ids j 0 ≡ id_at columns n j
  unfolding scan_in
  id_here j h = row_at (id_at columns n) (associations_in (body_at bodies columns n)) j 0 (rw is at h)

-- an id for each association
pub scan_complete : (bodies columns : List ℕ) (n : ℕ) → length (scan_in bodies columns n).ids ≡ length (scan_in bodies columns n).frame.associations
scan_complete bodies columns n = ids_long bodies columns n refl ∙ sym (associations_long bodies columns n refl)
