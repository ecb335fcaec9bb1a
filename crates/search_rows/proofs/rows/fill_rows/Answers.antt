use mathlib.Core.Path.{◌≡◌, ◌∙◌, subst}
use Prim.Native.Nat.{ℕ}
use native.Mathlib.Omega.{arith}
use lib.ListN.{length, get_or, take, drop, length-append, length-drop, get_or-append}
use lib.Seq.{length-take-le}
use Rattle.bounds.specs.Bounds.{SCANS}
use Rattle.search_rows.specs.Rows.{no_row, Tabled}
use Rattle.search_rows.proofs.Joining.{table_empty, table_whole}
use Rattle.search_rows.proofs.rows.fill_rows.Goals as goal

pub loop-k-init : goal.loop-k-init
loop-k-init c =
    let s = c.args in
    let l = s.rows.now in
    let made = c.clear.new.rows in
    let long : length made ≡ s.n = c.clear.auto.rows ∙ length-take-le s.n l (omega (arith, c.requires.within, c.told-rows)) in
    table_empty s.starts.now.rise s.ids.now (omega arith) (omega (arith, length-append made (drop s.n l), length-drop s.n l, c.requires.within, c.told-rows))
    (λ j h. get_or-append made (drop s.n l) no_row j (omega arith) ∙ c.clear.ensures j (omega arith))

pub returns : goal.returns
returns c =
    let s = c.args in
    let q : c.loop-k.k ≡ SCANS = omega arith in
    table_whole s.starts.now.rise s.ids.now (omega arith) (subst (λ (k : ℕ). Tabled s.starts.now.places.now (take (get_or s.starts.now.places.now k 0) s.ids.now) s.table.now s.n c.loop-k.rows) q c.loop-k.invariant)
