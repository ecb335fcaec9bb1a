use Prim.Native.Nat.{◌+◌}
use native.Mathlib.Omega.{arith}
use mathlib.Core.Path.{◌≡◌, sym, ap, ◌∙◌}
use lib.ListN.{length}
use borrow.Author.Rules.{rules}
use Rattle.bounds.specs.Bounds.{OWNERS}
use Rattle.fgo_state.specs.Memory.{owners_in}
use Rattle.fgo_place.proofs.Owners.{grown_put, passed_all, assigned_here, assigned_end, assigned_full}
use Rattle.fgo_place.proofs.place.assign.Goals as goal

pub returns-in-Some-clause-owners : goal.returns-in-Some-clause-owners
returns-in-Some-clause-owners c =
    let f = c.args in
    let os = f.owners.now in
    let p = c.in-Some.ensures in
    let long : length os ≡ OWNERS = search rules in
    ap (λ z. owners_in z f.owned) c.put_owner.ensures
    ∙ assigned_here os f.e.0 f.owned f.x.0 c.in-Some.k p.0 c.requires long (sym p.1) (passed_all os f.e.0 f.owned f.x.0 c.in-Some.k (omega arith) p.2)

pub returns-in-Some-clause-grown : goal.returns-in-Some-clause-grown
returns-in-Some-clause-grown c =
    let f = c.args in
    let os = f.owners.now in
    let long : length os ≡ OWNERS = search rules in
    grown_put f.owned f.owned c.in-Some.k f.e.0 f.x.0 os (omega arith) c.in-Some.ensures.0 (omega (arith, c.requires)) c.put_owner.ensures

pub returns-then-owned-lt-OWNED-clause-owners : goal.returns-then-owned-lt-OWNED-clause-owners
returns-then-owned-lt-OWNED-clause-owners c =
    let f = c.args in
    let os = f.owners.now in
    let long : length os ≡ OWNERS = search rules in
    ap (λ z. owners_in z (f.owned + 1)) c.put_owner-then-owned-lt-OWNED.ensures
    ∙ assigned_end os f.e.0 f.owned f.x.0 (omega arith) long (passed_all os f.e.0 f.owned f.x.0 f.owned (omega arith) c.in_default.ensures)

pub returns-then-owned-lt-OWNED-clause-grown : goal.returns-then-owned-lt-OWNED-clause-grown
returns-then-owned-lt-OWNED-clause-grown c =
    let f = c.args in
    let os = f.owners.now in
    let long : length os ≡ OWNERS = search rules in
    grown_put f.owned (f.owned + 1) f.owned f.e.0 f.x.0 os (omega arith) (omega arith) (omega (arith, c.if-owned-lt-OWNED.true)) c.put_owner-then-owned-lt-OWNED.ensures

pub returns-clause-owners : goal.returns-clause-owners
returns-clause-owners c =
    let f = c.args in
    let os = f.owners.now in
    assigned_full os f.e.0 f.owned f.x.0 (omega arith) (passed_all os f.e.0 f.owned f.x.0 f.owned (omega arith) c.in_default.ensures)
