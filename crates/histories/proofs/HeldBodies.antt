-- The bodies of held scans: what they say of the scans, and how long they and their columns are. Assumes nothing.
use Prim.Native.Nat.{suc, ◌≤◌}
use native.Mathlib.Omega.{arith}
use mathlib.Core.Path.{◌≡◌, refl, sym, ap, ◌∙◌}
use mathlib.Core.List.{List, [], ◌∷◌, ◌++◌, map, map-append, head-eq_of_cons-eq, tail-eq_of_cons-eq}
use lib.ListN.{length, length-map}
use Rattle.bounds.specs.Bounds.{BODY, COLUMN, ASSOCIATIONS}
use Rattle.engine.specs.Body.{Body, frame_in, body_refusal, associations_in}
use Rattle.buffers.proofs.Slots.{Narrow}
use Rattle.fgo_spec.specs.Windows.{Scan}
use Rattle.fgo_spec.specs.Rule.{All}
use Rattle.fgo_spec.proofs.All.{All-append}
use Rattle.fgo_state.specs.Memory.{column_words}
use Rattle.fgo_state.specs.Contents.{columns_of}
use Rattle.fgo_arrive.proofs.HeldScans.{body_fits}
use Rattle.fgo_state.proofs.Counts.{associations_long, associations_few}

-- an id for each association
abbrev pub Complete : Scan → Type 0
Complete s = length s.ids ≡ length s.frame.associations

-- as many bodies as scans: each body passes, and says the frame of its scan, which has an id for each association
pub record Bodied (bs : List Body) (ss : List Scan) : Type 0 where
  pub frames : map frame_in bs ≡ map (λ s. s.frame) ss
  pub passes : All (λ b. body_refusal b ≡ 0) bs
  pub complete : All Complete ss

pub bodied_many : (bs : List Body) (ss : List Scan) → Bodied bs ss → length bs ≡ length ss
bodied_many bs ss h = sym (length-map bs frame_in) ∙ ap length h.frames ∙ length-map ss (λ s. s.frame)

-- ---- the first, and the others

module _ (b : Body) (bs : List Body) (s : Scan) (ss : List Scan) (h : Bodied (b ∷ bs) (s ∷ ss)) where
  pub bodied_ids : length s.ids ≡ associations_in b
  bodied_ids = h.complete.0 ∙ ap (λ f. length f.associations) (sym (head-eq_of_cons-eq h.frames)) ∙ associations_long b

  -- its ids fit their column
  pub bodied_few : length s.ids ≤ ASSOCIATIONS
  bodied_few = omega (arith, bodied_ids, associations_few b h.passes.0)

  pub bodied_rest : Bodied bs ss
  bodied_rest = record { frames = tail-eq_of_cons-eq h.frames; passes = h.passes.1; complete = h.complete.1 }

-- one more of both
pub bodied_more :
    (bs : List Body) (ss : List Scan) (b : Body) (s : Scan) → Bodied bs ss → body_refusal b ≡ 0 → frame_in b ≡ s.frame → Complete s →
    Bodied (bs ++ (b ∷ [])) (ss ++ (s ∷ []))
bodied_more bs ss b s h p e k =
    record {
      frames = map-append frame_in bs (b ∷ []) ∙ (λ i. h.frames i ++ (e i ∷ [])) ∙ sym (map-append (λ s. s.frame) ss (s ∷ []));
      passes = All-append (λ b. body_refusal b ≡ 0) bs (b ∷ []) h.passes (p, tt);
      complete = All-append Complete ss (s ∷ []) h.complete (k, tt);
    }

-- ---- how long the parts are

pub bytes_wide : (bs : List Body) → All (λ b. body_refusal b ≡ 0) bs → Narrow BODY (map (λ b. b.bytes) bs)
bytes_wide [] h = tt
bytes_wide (b ∷ bs) h = (body_fits b h.0, bytes_wide bs h.1)

pub columns_wide : (bs : List Body) (ss : List Scan) → Bodied bs ss → Narrow COLUMN (columns_of bs ss)
unfolding columns_of
columns_wide [] ss h = tt
columns_wide (b ∷ bs) [] h = tt
columns_wide (b ∷ bs) (s ∷ ss) h = (omega (arith, bodied_few b bs s ss h), columns_wide bs ss (bodied_rest b bs s ss h))

pub columns_many : (bs : List Body) (ss : List Scan) → length bs ≡ length ss → length (columns_of bs ss) ≡ length bs
unfolding columns_of
columns_many [] ss h = refl
columns_many (b ∷ bs) [] h = absurd (omega arith)
columns_many (b ∷ bs) (s ∷ ss) h = ap suc (columns_many bs ss (omega arith))

pub columns_more :
    (bs : List Body) (ss : List Scan) (b : Body) (s : Scan) → length bs ≡ length ss →
    columns_of (bs ++ (b ∷ [])) (ss ++ (s ∷ [])) ≡ columns_of bs ss ++ (column_words b.kind (length b.bytes) s.ids ∷ [])
unfolding columns_of
columns_more [] [] b s h = refl
columns_more [] (t ∷ ss) b s h = absurd (omega arith)
columns_more (a ∷ bs) [] b s h = absurd (omega arith)
columns_more (a ∷ bs) (t ∷ ss) b s h = ap (λ l. column_words a.kind (length a.bytes) t.ids ∷ l) (columns_more bs ss b s (omega arith))
