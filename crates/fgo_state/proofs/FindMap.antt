-- `find_map`: what a function gives first of a list, by what the iterator's calls say. Assumes nothing.
use Prim.Native.Nat.{ℕ, zero, suc}
use mathlib.Core.Path.{◌≡◌, refl, sym, ap, subst, ◌∙◌}
use mathlib.Core.Bool.{true}
use mathlib.Core.List.{List, [], ◌∷◌}
use denote.Param.Members.{Mut}
use Rattle.std.specs.Prelude.{Option, None, Some}
use Rattle.std.specs.Option.{MatchOption, IfSome, option_or}
use Rattle.std.specs.Fn.{Called}
use Rattle.std.specs.List.{FoldsTo, slice_get}
use Rattle.std.specs.Iterator.{Yields, YieldsThen, AlwaysYields, FindsMapped}
use Rattle.std.specs.Iterator.Runs.{Run, SomeRun, YieldsRun, AllItemsGive}
use Rattle.std.proofs.lemmas.Iterator.{YieldsList}

-- the first that h gives
abbrev pub first_given : {B C : Type 0} → (B → Option C) → List B → Option C
first_given h [] = None
first_given h (z ∷ l) = option_or (h z) (first_given h l)

module _ {S A B C F : Type 0} (steps : S → Option A → S → Type 0) (v : A → B) (g : Mut F (A × Unit {0}) (Option C)) (f : F) (h : B → Option C)
    (k : (x : A) (r : Option C) (q : F) → Called g f (x, tt) r q → (q ≡ f) × (r ≡ h (v x))) where
  -- it gives nothing at any item
  misses : (xs : List A) (all : List B) (s t : S) → AlwaysYields steps v s all → Yields steps s xs t → ((u : S) × steps t None u)
      → ((n : ℕ) → IfSome (slice_get xs n) (λ x. Called g f (x, tt) None f)) → None ≡ first_given h all
  misses [] [] s t e y p c = refl
  misses [] (z ∷ all) s t e y p c = absurd (e.0 p.0 (subst (λ w. steps w None p.0) (sym y) p.1))
  misses (x ∷ xs) [] s t e y p c = absurd (e x y.0 y.1)
  misses (x ∷ xs) (z ∷ all) s t e y p c =
      let m = e.1 x y.0 y.1 in
      let none : h z ≡ None = ap h (sym m.0) ∙ sym (k x None f (c zero)).1 in
      misses xs all y.0 t m.1 y.2 p (λ n. c (suc n)) ∙ ap (λ o. option_or o (first_given h all)) (sym none)

  -- it gives c at x, and nothing at the items before
  hits : (xs : List A) (all : List B) (s t u : S) (j q : F) (x : A) (c : C) → AlwaysYields steps v s all → Yields steps s xs t → steps t (Some x) u
      → FoldsTo (λ p a w. Called g p (a, tt) None w) f xs j → Called g j (x, tt) (Some c) q → Some c ≡ first_given h all
  hits [] [] s t u j q x c e y p d w = absurd (e x u (subst (λ a. steps a (Some x) u) (sym y) p))
  hits [] (z ∷ all) s t u j q x c e y p d w =
      let m = e.1 x u (subst (λ a. steps a (Some x) u) (sym y) p) in
      let given : Some c ≡ h z = (k x (Some c) q (subst (λ a. Called g a (x, tt) (Some c) q) (sym d) w)).1 ∙ ap h m.0 in
      ap (λ o. option_or o (first_given h all)) given
  hits (a ∷ xs) [] s t u j q x c e y p d w = absurd (e a y.0 y.1)
  hits (a ∷ xs) (z ∷ all) s t u j q x c e y p d w =
      let m = e.1 a y.0 y.1 in
      let n = k a None d.0 d.1 in
      let none : h z ≡ None = ap h (sym m.0) ∙ sym n.1 in
      hits xs all y.0 t u j q x c m.1 y.2 p (subst (λ b. FoldsTo (λ p i w. Called g p (i, tt) None w) b xs j) n.0 d.2) w
      ∙ ap (λ o. option_or o (first_given h all)) (sym none)

  module _ {s u : S} {all : List B} (Q : C → Run steps → Type 0) where
    pub find_map_from_yields_List : (r : Option C) → FindsMapped steps g s f r u
        → SomeRun steps s (λ p. MatchOption r ((p.whole ≡ true) × AllItemsGive p g f None) (λ c. Q c p)) → YieldsList steps v s all → r ≡ first_given h all
    unfolding YieldsRun
    find_map_from_yields_List None d e y =
        let p = e.0 in
        let gave = p.gave in
        let called = e.2.1 (λ a r q w. (k a.0 r q w).0) in
        misses p.items all s gave.0.0 y.runs (subst (λ a. Yields steps a p.items gave.0.0) e.1 gave.0.1) (gave.0.2 e.2.0)
        (λ n. subst (λ o. IfSome o (λ x. Called g f (x, tt) None f)) (gave.1 n) (called n))
    find_map_from_yields_List (Some c) d e y = stopped d.1 d.3 d.5
      where
        stopped : (o : Option A) → YieldsThen steps s d.0 o u → MatchOption o (Some c ≡ None) (λ x. (q : F) × Called g d.2 (x, tt) (Some c) q) → Some c ≡ first_given h all
        stopped None p w = absurd (let z : ◌≡◌ {A = ℕ} 1 0 = ap (λ o. elim o [ None ↦ 0 | Some a ↦ 1 ]) w in cc)
        stopped (Some x) p w = hits d.0 all s p.0 u d.2 w.0 x c y.runs p.1 p.2 d.4 w.1
