-- What holds of a state, with the frames accepted and emitted before it, along every run. Assumes nothing.
use Prim.Native.Nat.{ℕ, ◌+◌, ◌≤◌, ◌<◌}
use native.Mathlib.Omega.{arith}
use mathlib.Core.Path.{◌≡◌, refl}
use mathlib.Core.List.{List, [], ◌∷◌, ◌++◌, map, flat_map}
use mathlib.Core.Option.{none, some, none-ne-some}
use lib.ListN.{length}
use lib.Dec.{T}
use lib.IntN.{ℤ, ◌-ℤ◌}
use lib.Signed.{le_z, ◌≤ℤ◌}
use Rattle.bounds.specs.Bounds.{ACCEPTED, DETECTIONS}
use Rattle.engine.specs.declared.config.FgoConfig.{FgoConfig}
use Rattle.engine.specs.Config.{coast, forget_after}
use Rattle.engine.specs.Frame.{Frame}
use Rattle.fgo_spec.specs.Lists.{keep, find}
use Rattle.fgo_spec.specs.Windows.{Scan, Prefix, window, window_count}
use Rattle.fgo_spec.specs.Owning.{latest}
use Rattle.fgo_spec.specs.Emitting.{Emitted}
use Rattle.fgo_spec.specs.Refiner.{State, new}
use Rattle.fgo_spec.specs.Rule.{All}
use Rattle.fgo_spec.specs.History.{scans_of, time_of, NeverBack}
use Rattle.fgo_spec.proofs.Tables.{Up}
use Rattle.fgo_spec.proofs.Growing.{grown}
use Rattle.fgo_spec.proofs.Owners.{Owned}
use Rattle.fgo_spec.proofs.Arrival.{Column}

-- the last of some times is not after a time
unfoldable pub LastBy : List ℤ → ℤ → Type 0
LastBy [] now = Unit {0}
LastBy (s ∷ []) now = s ≤ℤ now
LastBy (s ∷ t ∷ ts) now = LastBy (t ∷ ts) now

module _ (c : FgoConfig) where
  -- x's frozen part is what the scans emitted have under x
  abbrev pub True : List Scan → List (ℕ × Prefix) → ℕ → Type 0
  True past ps x = find x ps ≡ grown c none (window x 0 past)

  -- and x is below the next id
  abbrev pub Good : List Scan → List (ℕ × Prefix) → ℕ → ℕ → Type 0
  Good past ps next x = True past ps x × (x < next)

  pub record Inv (es : List Emitted) (acc : List Frame) (t : State) : Type 0 where
    pub order : map (λ e. e.scan.frame) es ++ map (λ s. s.frame) t.scans ≡ acc
    pub first : t.first ≡ length (scans_of es)
    pub room : t.first + length t.scans ≤ ACCEPTED
    pub begun : 0 < t.next_id
    -- frozen parts: of ids that are frozen, that stand in a held scan, and of new ones, the frozen part is true
    pub rise : Up 0 t.prefixes
    pub frozen : (x : ℕ) (p : Prefix) → find x t.prefixes ≡ some p → Good (scans_of es) t.prefixes t.next_id x
    pub held : All (Column (Good (scans_of es) t.prefixes t.next_id)) t.scans
    pub fresh : (x : ℕ) → t.next_id ≤ x → True (scans_of es) t.prefixes x
    -- what was emitted under other ids is too old to be listed
    pub dead :
        NeverBack (map time_of es) → coast c ≤ℤ forget_after c → (x : ℕ) (p : Prefix) → 0 < x → find x t.prefixes ≡ none →
        grown c none (window x 0 (scans_of es)) ≡ some p → (now : ℤ) → LastBy (map time_of es) now → T (le_z (now -ℤ p.last_ns) (coast c)) → ⊥
    pub gone : All (Column (λ x. x < t.next_id)) (scans_of es)
    pub sum : length t.prefixes + window_count t.scans ≤ DETECTIONS
    pub owners : Owned t.prefixes t.scans t.owners

  pub inv_new : Inv [] [] new
  unfolding find window grown latest keep flat_map
  inv_new =
      record {
        order = refl;
        first = refl;
        room = omega arith;
        begun = omega arith;
        rise = tt;
        frozen = λ x p e. absurd (none-ne-some _ e);
        held = tt;
        fresh = λ x h. refl;
        dead = λ nb cf x p h e g now lb a. none-ne-some _ g;
        gone = tt;
        sum = omega arith;
        owners = record { tied = tt; owned = λ e h. absurd (omega arith); distinct = λ e. omega arith; alive = tt; few = omega arith };
      }
