-- A refiner that meets the state rule is ready for the inner steps. Assumes nothing.
use Prim.Native.Nat.{ℕ, ◌+◌, ◌≤◌, ◌<◌}
use native.Mathlib.Nat.{zero-add, le_trans}
use native.Mathlib.Omega.{arith}
use mathlib.Core.Path.{◌≡◌, subst}
use mathlib.Core.Bool.{true}
use mathlib.Core.List.{List, [], ◌∷◌}
use lib.ListN.{length}
use lib.Dec.{leb, ltb}
use borrow.Author.Tests.{leb-true, ltb-true}
use Rattle.bounds.specs.Bounds.{LAG, ACCEPTED, DETECTIONS, OWNED, HEIGHTS}
use Rattle.engine.specs.Config.{legal, lag}
use Rattle.engine.proofs.Every.{both}
use Rattle.engine.proofs.Settings.{legal_tells}
use Rattle.engine.proofs.Passing.{length-rows}
use Rattle.fgo_spec.specs.Windows as windows
use Rattle.fgo_spec.specs.Windows.{window_count}
use Rattle.fgo_spec.specs.Rule.{All, prefix_ok, rises_ok, rule_ok}
use Rattle.fgo_spec.proofs.RuleLaw.{rule_passed}
use Rattle.fgo_spec.proofs.Rows.{row_of}
use Rattle.fgo_part.specs.Parts.{entry_in, table_in}
use Rattle.fgo_state.specs.declared.state.FixedLagRefiner.{FixedLagRefiner}
use Rattle.fgo_state.specs.declared.state.Memory.{Memory}
use Rattle.fgo_state.specs.Memory.{scan_in, scans_in, owner_entry, state_of}
use Rattle.fgo_state.specs.Sound.{bodies_ok, sound_ok}
use Rattle.fgo_state.proofs.Bodies.{body-passes}
use Rattle.fgo_freeze.specs.Frozen.{Ordered, PartOk}
use Rattle.fgo_arrive.specs.Arriving.{Ready}

-- ---- frozen parts

module _ (first next : ℕ) where
  -- what the rule says of the first frozen part, and of the others
  record First (x : ℕ) (e : ℕ × windows.Prefix) (ps : List (ℕ × windows.Prefix)) : Type 0 where
    above : x < e.0
    count : e.1.count ≤ first
    part : PartOk e
    others : rises_ok first next e.0 ps ≡ true

  first_of : (x : ℕ) (e : ℕ × windows.Prefix) (ps : List (ℕ × windows.Prefix)) → rises_ok first next x (e ∷ ps) ≡ true → First x e ps
  unfolding rises_ok
  first_of x e ps h =
      let n = length e.1.heights in
      let h1 = both (ltb x e.0) _ h in
      let h2 = both (ltb e.0 next) _ h1.1 in
      let h3 = both (prefix_ok first e.1) _ h2.1 in
      let p1 = both (leb 1 e.1.count) _ h3.0 in
      let p2 = both (leb e.1.count first) _ p1.1 in
      let p3 = both (leb 1 n) _ p2.1 in
      let p4 = both (leb n HEIGHTS) _ p3.1 in
      let p5 = both (ltb e.1.last_frame first) _ p4.1 in
      let above : x < e.0 = ltb-true _ _ h1.0 in
      record {
        above = above;
        count = leb-true _ _ p2.0;
        part = record { named = omega arith; height = leb-true _ _ p3.0; timed = p5.1 };
        others = h3.1;
      }

  -- ids rise, and each part can move on
  pub rises_ordered : first ≤ ACCEPTED → (x : ℕ) (ps : List (ℕ × windows.Prefix)) → rises_ok first next x ps ≡ true → Ordered ACCEPTED x ps
  rises_ordered f x [] h = tt
  rises_ordered f x (e ∷ ps) h = let t = first_of x e ps h in (t.above, t.part.height, le_trans t.count f, rises_ordered f e.0 ps t.others)

  -- of each part ages can be told
  pub rises_parts : (x : ℕ) (ps : List (ℕ × windows.Prefix)) → rises_ok first next x ps ≡ true → All PartOk ps
  rises_parts x [] h = tt
  rises_parts x (e ∷ ps) h = let t = first_of x e ps h in (t.part, rises_parts e.0 ps t.others)

-- ---- the refiner

module _ (r : FixedLagRefiner) (m : Memory) where
  -- what the rule says of the settings, the counts, the bodies, the frozen parts and the sum
  pub record SoundTells : Type 0 where
    pub settings : legal r.config ≡ true
    pub lagged : r.held ≤ lag r.config
    pub short : lag r.config ≤ LAG
    pub early : r.first.0 + r.held ≤ ACCEPTED
    pub bodies : bodies_ok m.scans.bodies m.scans.columns r.first.0 r.held ≡ true
    pub parts : rises_ok r.first.0 r.next_id.0 0 (table_in m.parts.tracks m.parts.filters r.frozen) ≡ true
    pub room : r.frozen + window_count (scans_in m.scans.bodies m.scans.columns r.first.0 r.held) ≤ DETECTIONS
    pub owners : r.owned ≤ OWNED

  pub sound_tells : sound_ok r m ≡ true → SoundTells
  unfolding sound_ok state_of
  sound_tells h =
      let held : length (scans_in m.scans.bodies m.scans.columns r.first.0 r.held) ≡ r.held = length-rows (scan_in m.scans.bodies m.scans.columns) r.first.0 r.held in
      let frozen : length (table_in m.parts.tracks m.parts.filters r.frozen) ≡ r.frozen = length-rows (entry_in m.parts.tracks m.parts.filters) 0 r.frozen in
      let owned = length-rows (owner_entry m.owners) 0 r.owned in
      let s = both (bodies_ok m.scans.bodies m.scans.columns r.first.0 r.held) (rule_ok r.config (state_of r m)) h in
      let p = rule_passed r.config (state_of r m) s.1 in
      record {
        settings = p.settings;
        lagged = omega (arith, held, p.lagged);
        short = (legal_tells r.config p.settings).lag;
        early = omega (arith, held, p.room);
        bodies = s.0;
        parts = p.prefixes;
        room = omega (arith, frozen, p.sum);
        owners = omega (arith, owned, p.few);
      }

  -- a refiner that meets the rule
  pub sound_ready : sound_ok r m ≡ true → Ready r m
  sound_ready h =
      let k = sound_tells h in
      let early = k.early in
      let lagged = k.lagged in
      let f : r.first.0 ≤ ACCEPTED = omega arith in
      record {
        few = omega (arith, k.short);
        early = omega arith;
        passes = body-passes m.scans.bodies m.scans.columns r.first.0 r.held k.bodies;
        ordered = rises_ordered r.first.0 r.next_id.0 f 0 (table_in m.parts.tracks m.parts.filters r.frozen) k.parts;
        parts =
            λ i l.
            subst (λ (j : ℕ). PartOk (entry_in m.parts.tracks m.parts.filters j)) (zero-add i)
            (row_of PartOk (entry_in m.parts.tracks m.parts.filters) 0 r.frozen i (rises_parts r.first.0 r.next_id.0 0 (table_in m.parts.tracks m.parts.filters r.frozen) k.parts) l);
        room = k.room;
        owners = k.owners;
      }
