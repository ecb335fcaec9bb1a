use Prim.Native.Nat.{ℕ, suc, ◌+◌, ◌≤◌}
use native.Mathlib.Omega.{arith}
use mathlib.Core.Path.{◌≡◌}
use mathlib.Core.Bool.{Bool, true, ◌&&◌}
use mathlib.Core.List.{List}
use lib.ListN.{length, take, length-replicate}
use borrow.Author.Rules.{rules}
use borrow.Author.Tests.{ltb-true}
use Rattle.engine.proofs.Every.{both, all-at}
use Rattle.fgo_part.specs.Parts.{part_id, Rises}
use Rattle.std.proofs.lemmas.Bool.Decides.{nat_tests}
use Rattle.bounds.specs.Bounds.{DETECTIONS}
use Rattle.fgo_spec.specs.Windows.{window_count}
use Rattle.fgo_state.specs.declared.state.FixedLagRefiner.{FixedLagRefiner}
use Rattle.fgo_state.specs.declared.scans.Scans.{Scans}
use Rattle.fgo_state.specs.declared.held.HeldRef.{HeldRef}
use Rattle.fgo_state.specs.declared.gather.Gathered.{Gathered}
use Rattle.fgo_state.specs.Memory.{scans_in}
use Rattle.fgo_state.specs.Sound.{bodies_ok}
use Rattle.fgo_state.specs.Gathered.{GatheredOf}
use Rattle.fgo_rule.specs.Tests.{counts_ok, columns_ok, part_ok, parts_ok, owned_all, owned_in, Owning, sound_in}
use Rattle.fgo_rule.proofs.OwnedGathered.{owned_gathered}
use Rattle.fgo_rule.proofs.FewScans.{lag_few}
use Rattle.fgo_state.proofs.Bodies.{body-passes}
use Rattle.fgo_state.proofs.Detections.{found_few}
use Rattle.fgo_rule.proofs.gather_sound.Goals as goal

-- the test of the frozen parts tells their order
parts_rise : (first next : ℕ) (tracks : List ℕ) (n : ℕ) → parts_ok first next tracks n ≡ true → Rises tracks n
unfolding parts_ok part_ok
parts_rise first next tracks n h = record { next = λ k l. ltb-true (part_id tracks k) (part_id tracks (suc k)) (both _ _ (all-at (part_ok first next tracks) n (suc k) h l)).0 }

-- what the tests of the counts and of the held scans tell, where few detections lie in windows
owning :
    (r : FixedLagRefiner) (s : Scans) (h : HeldRef) → (h.scans.now ≡ s) × (h.first ≡ r.first) × (h.count ≡ r.held) → {a b : Bool} {w : ℕ} → a ≡ counts_ok r → a ≡ true →
    b ≡ bodies_ok h.scans.now.bodies h.scans.now.columns h.first.0 h.count && columns_ok r.next_id.0 h.scans.now.bodies h.scans.now.columns h.first.0 h.count → b ≡ true →
    w ≡ window_count (scans_in h.scans.now.bodies h.scans.now.columns h.first.0 h.count) → r.frozen + w ≤ DETECTIONS → Owning s.bodies s.columns r.first.0 r.held
unfolding counts_ok
owning r s h e counts counted scans tested many few =
    let t = rw (e.0, e.1, e.2) at scans in
    let m = rw (e.0, e.1, e.2) at many in
    record {
      scans = record {
        few = grind (arith, nat_tests, lag_few);
        early = grind (arith, nat_tests);
        passes = body-passes _ _ _ _ (grind (arith, nat_tests, t));
        room = omega (arith, m);
      };
      ordered = (r.next_id.0, grind (arith, nat_tests, t));
    }

-- the test of the owners on what was gathered
tested : (s : Scans) (first held : ℕ) (owners : List ℕ) (owned : ℕ) {es es' ids : List ℕ} {g : Gathered} → Owning s.bodies s.columns first held → length es ≡ DETECTIONS → GatheredOf s first held es g es' → ids ≡ take g.count es' → owned_all g.ids ids g.starts g.held owners owned ≡ owned_in s.bodies s.columns first held owners owned
tested s first held owners owned h l g e = rw (e, g.as_many) (owned_gathered _ _ _ _ _ _ _ _ _ _ _ _ h g.all (length-replicate {A = ℕ} DETECTIONS 0) l)

pub returns-then-not-counts_ok-clause-sound : goal.returns-then-not-counts_ok-clause-sound
unfolding sound_in
returns-then-not-counts_ok-clause-sound c = grind (arith, nat_tests)

pub returns-then-not-scans_ok-clause-sound : goal.returns-then-not-scans_ok-clause-sound
unfolding sound_in
returns-then-not-scans_ok-clause-sound c = grind (arith, nat_tests)

pub held_in-held-requires : goal.held_in-held-requires
unfolding counts_ok
held_in-held-requires c = grind (arith, nat_tests)

pub parts_ok-requires : goal.parts_ok-requires
unfolding counts_ok
parts_ok-requires c = grind (arith, nat_tests)

pub live_in-live-requires : goal.live_in-live-requires
unfolding counts_ok
live_in-live-requires c =
    let a = c.args in
    (grind (arith, nat_tests), grind (arith, nat_tests), parts_rise a.r.now.first.0 a.r.now.next_id.0 a.tracks.now a.r.now.frozen (grind (arith, nat_tests)))

pub invariant_of-owners : goal.invariant_of-owners
unfolding counts_ok
invariant_of-owners c = record { few = grind (arith, nat_tests) }

pub window_count-requires : goal.window_count-requires
unfolding counts_ok
window_count-requires c = grind (arith, nat_tests, lag_few)

pub overflow_add-r : goal.overflow_add-r
unfolding counts_ok
overflow_add-r c = let a = c.args in let h = found_few a.scans.now.bodies a.scans.now.columns a.r.now.first.0 a.r.now.held in record { fits = grind (arith, nat_tests, lag_few, h) }

pub gather-gathered-requires : goal.gather-gathered-requires
gather-gathered-requires c =
    let h = c.held_in-held.ensures in
    rw (h.0, h.1, h.2) (owning _ _ c.held_in-held.result h c.counts_ok.ensures c.if-not-counts_ok.false c.scans_ok.ensures c.if-not-scans_ok.false c.window_count.ensures (omega (arith, c.if-r-window_count-gt-DETECTIONS.false))).scans

pub returns-then-r-window_count-gt-DETECTIONS-clause-sound : goal.returns-then-r-window_count-gt-DETECTIONS-clause-sound
unfolding sound_in
returns-then-r-window_count-gt-DETECTIONS-clause-sound c = grind (arith, nat_tests)

pub returns-then-owners_ok-clause-sound : goal.returns-then-owners_ok-clause-sound
unfolding sound_in
returns-then-owners_ok-clause-sound c =
    let a = c.args in
    let h = c.held_in-held.ensures in
    let w = owning _ _ c.held_in-held.result h c.counts_ok.ensures c.if-not-counts_ok.false c.scans_ok.ensures c.if-not-scans_ok.false c.window_count.ensures (omega (arith, c.if-r-window_count-gt-DETECTIONS.false)) in
    let t = tested _ _ _ a.owners.now a.r.now.owned w (search rules) (rw (h.0, h.1, h.2) at c.gather-gathered.ensures) c.of-index.ensures in
    grind (arith, nat_tests, t)

pub returns-clause-sound : goal.returns-clause-sound
unfolding sound_in
returns-clause-sound c =
    let a = c.args in
    let h = c.held_in-held.ensures in
    let w = owning _ _ c.held_in-held.result h c.counts_ok.ensures c.if-not-counts_ok.false c.scans_ok.ensures c.if-not-scans_ok.false c.window_count.ensures (omega (arith, c.if-r-window_count-gt-DETECTIONS.false)) in
    let t = tested _ _ _ a.owners.now a.r.now.owned w (search rules) (rw (h.0, h.1, h.2) at c.gather-gathered.ensures) c.of-index.ensures in
    grind (arith, nat_tests, t)
