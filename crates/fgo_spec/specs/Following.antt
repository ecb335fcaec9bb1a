-- What placing does, to be checked from outside: with max_passes 0 no search runs, so each dot keeps the id under which
-- it was placed. Definitions only.
use Rattle.std.specs.Prelude.{ℕ, ◌≤◌, ◌<◌, ◌≡◌, length, T, None, Some}
use mathlib.Core.List.{List, [], ◌∷◌, ◌++◌, flat_map, Memᴰ}
use Rattle.buffers.specs.Answer.{Op, pushed}
use Rattle.engine.specs.declared.config.FgoConfig.{FgoConfig}
use Rattle.engine.specs.declared.types.Association.{Association}
use Rattle.engine.specs.Frame.{Frame, Associated}
use Rattle.engine.specs.Body.{Body}
use Rattle.fgo_spec.specs.Lists.{keep}
use Rattle.fgo_spec.specs.Windows.{Scan, live}
use Rattle.fgo_spec.specs.Owning.{is_engine}
use Rattle.fgo_spec.specs.Rule.{All}
use Rattle.fgo_spec.specs.History.{run, standing}

-- an association's engine id, if it has one, and the id x under which its dot stands
abbrev pub sighted : Associated → ℕ → List (ℕ × ℕ)
sighted None x = []
sighted (Some e) x = (e.0, x) ∷ []

-- those of associations with their ids
unfoldable pub sighted_all : List Association → List ℕ → List (ℕ × ℕ)
sighted_all [] is = []
sighted_all (a ∷ l) [] = []
sighted_all (a ∷ l) (i ∷ is) = sighted a.track i ++ sighted_all l is

-- those of scans
unfoldable pub sightings : List Scan → List (ℕ × ℕ)
sightings ss = flat_map (λ s. sighted_all s.frame.associations s.ids) ss

-- each engine id stands at most once in the frame
abbrev pub Unrepeated : Frame → Type 0
Unrepeated f = (e : ℕ) → length (keep (λ a. is_engine e a.track) f.associations) ≤ 1

-- what holds after pushes and takes where max_passes is 0
pub record Followed (c : FgoConfig) (ops : List (Op Body)) : Type 0 where
  -- dots of two engine ids never stand under one id
  pub apart : (d e x : ℕ) → 0 < x → Memᴰ (d, x) (sightings (standing c ops)) → Memᴰ (e, x) (sightings (standing c ops)) → d ≡ e
  -- a further operation leaves the dots where they are, and adds at most one scan
  pub stay : (o : Op Body) → (new : List Scan) × (standing c (ops ++ (o ∷ [])) ≡ standing c ops ++ new) × (length new ≤ 1)
  -- With each engine id at most once a frame: where dots of an engine id stand under x, and the track x still lives (it
  -- has a frozen part or a window), the next one that is pushed comes under x too.
  pub together :
      (b : Body) (s : Scan) → standing c (ops ++ (pushed b ∷ [])) ≡ standing c ops ++ (s ∷ []) →
      All Unrepeated (run c (ops ++ (pushed b ∷ []))).accepted →
      (e x y : ℕ) → 0 < x → Memᴰ (e, x) (sightings (standing c ops)) → T (live (run c ops).state.prefixes (run c ops).state.scans x) →
      Memᴰ (e, y) (sightings (s ∷ [])) → y ≡ x

-- the theorem, in proofs/:
-- followed : (c : FgoConfig) → max_passes_of c ≡ 0 → (ops : List (Op Body)) → Followed c ops
