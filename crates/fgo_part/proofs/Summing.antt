-- What `reduce` answers, and the mean of heights by it. Assumes nothing.
use Rattle.std.proofs.Common.{◌≡◌, None, List, [], ◌∷◌, length, pos, sym, refl, ap, subst, ◌∙◌}
use mathlib.Core.List.{foldl, map-id}
use denote.Param.Members.{Mut}
use lib.Ieee.{Float, binary64, add, div, of_int, of_bits}
use Rattle.std.specs.Prelude.{Option, Some}
use Rattle.std.specs.Fn.{Called}
use Rattle.std.specs.Iterator.{ReducesItems, FoldTurn}
use Rattle.std.specs.List.{FoldsTo, fold, reduce}
use Rattle.std.specs.Option.{MatchOption}
use Rattle.std.proofs.iter.Yields.{gives_Drains}
use Rattle.std.proofs.lemmas.Iterator.{YieldsList}
use Rattle.std.proofs.lemmas.Option.{MatchOption-at_none, MatchOption-at_some}
use Rattle.fgo_spec.specs.Freezing as freezing

module _ {A F : Type 0} (g : Mut F (A × (A × Unit {0})) A) (h : A → A → A) {f : F} (acts : (a x b : A) (q : F) → Called g f (a, (x, tt)) b q → (q ≡ f) × (b ≡ h a x)) where
  folded : (xs : List A) (p r : F × A) → p.0 ≡ f → FoldsTo {P = F × A} (FoldTurn g) p xs r → r.1 ≡ fold h p.1 xs
  folded [] p r e t = ap (λ (u : F × A). u.1) (sym t)
  folded (x ∷ xs) p r e t =
      let k = acts p.1 x t.0.1 t.0.0 (subst (λ (u : F). Called g u (p.1, (x, tt)) t.0.1 t.0.0) e t.1) in
      folded xs t.0 r k.0 t.2 ∙ ap (λ a. fold h a xs) k.1

  -- over what an iterator yields
  pub reduced : {S : Type 0} {steps : S → Option A → S → Type 0} {s : S} {all : List A} (r : Option A) → ReducesItems steps g s f r → YieldsList steps (λ x. x) s all → r ≡ reduce h all
  reduced {S} {steps} {s} {all} None d road = ap (reduce h) (gives_Drains steps (λ x. x) [] all s road.runs d)
  reduced {S} {steps} {s} {all} (Some y) d road =
      ap Some (folded d.1 (f, d.0) (d.2, y) refl d.4) ∙ ap (reduce h) (sym (map-id (d.0 ∷ d.1)) ∙ gives_Drains steps (λ x. x) (d.0 ∷ d.1) all s road.runs d.3)

left_fold : {A B : Type 0} (h : B → A → B) (a : B) (l : List A) → fold h a l ≡ foldl h a l
left_fold h a [] = refl
left_fold h a (x ∷ l) = left_fold h (h a x) l

-- the sum of heights, divided by how many they are
pub mean_by : {Post : Float → Type 0} (l : List Float) (r : Option Float) (m : Float) → r ≡ reduce (add binary64) l → MatchOption r (m ≡ of_bits binary64 0) Post → ((x : Float) → Post x → m ≡ div binary64 x (of_int binary64 (pos (length l)))) → m ≡ freezing.mean l
unfolding freezing.mean
mean_by [] r m e p k = MatchOption-at_none _ _ e p
mean_by (h ∷ l) r m e p k = k _ (MatchOption-at_some _ _ (fold (add binary64) h l) e p) ∙ ap (λ x. div binary64 x (of_int binary64 (pos (length (h ∷ l))))) (left_fold (add binary64) h l)
