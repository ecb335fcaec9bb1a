-- A column is tied: each association in a window has an engine id, of which something holds. Assumes nothing.
use Prim.Native.Nat.{ℕ, zero, suc, ◌<◌}
use native.Mathlib.Omega.{arith}
use mathlib.Core.Path.{◌≡◌, refl}
use mathlib.Core.List.{List, [], ◌∷◌, ◌++◌, map}
use lib.ListN.{length}
use Rattle.engine.specs.declared.types.Association.{Association}
use Rattle.fgo_spec.specs.Windows.{Scan}
use Rattle.fgo_spec.specs.Rule.{LooseOne, Loose}
use Rattle.std.specs.Prelude.{None, Some}
use Rattle.engine.specs.Frame.{Associated}

abbrev pub Engine : (ℕ → Type 0) → Associated → Type 0
Engine K None = ⊥
Engine K (Some e) = K e.0

unfoldable pub Tied : (ℕ → Type 0) → List Association → List ℕ → Type 0
Tied K [] is = Unit {0}
Tied K (a ∷ l) [] = Unit {0}
Tied K (a ∷ l) (i ∷ is) = (0 < i → Engine K a.track) × Tied K l is

abbrev pub TiedScan : (ℕ → Type 0) → Scan → Type 0
TiedScan K s = Tied K s.frame.associations s.ids

-- a renaming that leaves 0 alone keeps a column tied
pub tied_map : (K : ℕ → Type 0) (g : ℕ → ℕ) → g 0 ≡ 0 → (l : List Association) (is : List ℕ) → Tied K l is → Tied K l (map g is)
unfolding Tied
tied_map K g z [] is h = tt
tied_map K g z (a ∷ l) [] h = tt
tied_map K g z (a ∷ l) (i ∷ is) h = ((λ k. h.0 (back i k)), tied_map K g z l is h.1)
  where
    back : (i : ℕ) → 0 < g i → 0 < i
    back zero k = absurd (let e = z in omega arith)
    back (suc i) k = omega arith

engine_weaken : (K L : ℕ → Type 0) → ((e : ℕ) → K e → L e) → (o : Associated) → Engine K o → Engine L o
engine_weaken K L f None k = k
engine_weaken K L f (Some e) k = f e.0 k

pub tied_weaken : (K L : ℕ → Type 0) → ((e : ℕ) → K e → L e) → (l : List Association) (is : List ℕ) → Tied K l is → Tied L l is
unfolding Tied
tied_weaken K L f [] is h = tt
tied_weaken K L f (a ∷ l) [] h = tt
tied_weaken K L f (a ∷ l) (i ∷ is) h = ((λ k. engine_weaken K L f a.track (h.0 k)), tied_weaken K L f l is h.1)

pub tied_snoc :
    (K : ℕ → Type 0) (l : List Association) (is : List ℕ) (a : Association) (i : ℕ) → length is ≡ length l → Tied K l is →
    (0 < i → Engine K a.track) → Tied K (l ++ (a ∷ [])) (is ++ (i ∷ []))
unfolding Tied
tied_snoc K [] [] a i e h k = (k, tt)
tied_snoc K [] (j ∷ is) a i e h k = absurd (omega arith)
tied_snoc K (b ∷ l) [] a i e h k = absurd (omega arith)
tied_snoc K (b ∷ l) (j ∷ is) a i e h k = (h.0, tied_snoc K l is a i (omega arith) h.1 k)

-- "those without engine id in clutter"
pub tied_loose : (K : ℕ → Type 0) (l : List Association) (is : List ℕ) → Tied K l is → Loose l is
unfolding Tied
tied_loose K [] is h = tt
tied_loose K (a ∷ l) [] h = tt
tied_loose K (a ∷ l) (i ∷ is) h = (one a.track i h.0, tied_loose K l is h.1)
  where
    one : (o : Associated) (i : ℕ) → (0 < i → Engine K o) → LooseOne o i
    one None zero f = refl
    one None (suc i) f = absurd (f (omega arith))
    one (Some e) i f = tt

pub loose_tied : (l : List Association) (is : List ℕ) → Loose l is → Tied (λ e. Unit {0}) l is
unfolding Tied
loose_tied [] is h = tt
loose_tied (a ∷ l) [] h = tt
loose_tied (a ∷ l) (i ∷ is) h = (one a.track h.0, loose_tied l is h.1)
  where
    one : (o : Associated) → LooseOne o i → 0 < i → Engine (λ e. Unit {0}) o
    one None z k = omega arith
    one (Some e) z k = tt
