-- A held scan, as the memory has it: in a column that passes those without engine id are in clutter. Assumes nothing.
use Prim.Native.Nat.{ℕ, zero, suc, ◌+◌, ◌-◌, ◌*◌, ◌≤◌, ◌<◌}
use native.Mathlib.Omega.{arith}
use mathlib.Core.Path.{◌≡◌, subst}
use mathlib.Core.Bool.{true, ◌&&◌, ◌||◌, not}
use mathlib.Core.List.{List}
use lib.Dec.{eqb, ltb}
use borrow.Author.Tests.{eqb-true}
use Rattle.bounds.specs.Bounds.{ASSOCIATION}
use Rattle.engine.specs.declared.types.Association.{Association}
use Rattle.engine.specs.Frame.{no_association, Associated}
use Rattle.engine.specs.Body.{Body, layout, association_at, associations_from, associations_in, frame_of, rows}
use Rattle.engine.proofs.Every.{both, all-at}
use Rattle.engine.proofs.Passing.{row_at}
use Rattle.fgo_spec.specs.Lists.{has}
use Rattle.fgo_spec.specs.Rule.{loose_ok}
use Rattle.fgo_spec.proofs.Ties.{Engine, Tied, TiedScan}
use Rattle.fgo_state.specs.Memory.{body_at, id_at, scan_in, association_in}
use Rattle.fgo_rule.specs.Tests.{id_ok, column_in}
use Rattle.std.specs.Prelude.{None, Some}

-- association j, where a body has one
abbrev pub row_in : Body → ℕ → Association
row_in b j = association_at (layout b).width b.bytes (associations_from (layout b) b.bytes + ASSOCIATION * j)

pub association_row : (b : Body) (j : ℕ) → j < associations_in b → association_in b j ≡ row_in b j
unfolding frame_of
association_row b j h = row_at (row_in b) (associations_in b) j no_association h

tied_rows : (K : ℕ → Type 0) (g : ℕ → Association) (f : ℕ → ℕ) (o m : ℕ) → ((j : ℕ) → o ≤ j → j < o + m → 0 < f j → Engine K (g j).track) → Tied K (rows g o m) (rows f o m)
unfolding rows Tied
tied_rows K g f o zero h = tt
tied_rows K g f o (suc m) h = (h o (omega arith) (omega arith), tied_rows K g f (suc o) m (λ j a b. h j (omega arith) (omega arith)))

loose_engine : (o : Associated) (i : ℕ) → loose_ok o i ≡ true → 0 < i → Engine (λ e. Unit {0}) o
loose_engine None i h p = absurd (omega (arith, eqb-true i 0 h))
loose_engine (Some e) i h p = tt

id_loose : (next : ℕ) (columns : List ℕ) (b : Body) (n j : ℕ) → id_ok next columns b n j ≡ true → loose_ok (association_in b j).track (id_at columns n j) ≡ true
unfolding id_ok
id_loose next columns b n j h =
    let x = id_at columns n j in
    let l = loose_ok (association_in b j).track x in
    (both (ltb x next) l (both (eqb x 0 || not (has x (rows (id_at columns n) (suc j) (associations_in b - suc j)))) (ltb x next && l) h).1).1

-- a column that passes is tied to engine ids
pub tied_column : (next : ℕ) (bodies columns : List ℕ) (n : ℕ) → column_in next columns (body_at bodies columns n) n ≡ true → TiedScan (λ e. Unit {0}) (scan_in bodies columns n)
unfolding column_in scan_in frame_of
tied_column next bodies columns n h =
    let b = body_at bodies columns n in
    tied_rows (λ e. Unit {0}) (row_in b) (id_at columns n) 0 (associations_in b)
    (λ j o p q.
    let l : j < associations_in b = omega arith in
    loose_engine (row_in b j).track (id_at columns n j) (subst (λ (x : Association). loose_ok x.track (id_at columns n j) ≡ true) (association_row b j l) (id_loose next columns b n j (all-at _ _ j h l))) q)
