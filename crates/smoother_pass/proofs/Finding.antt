-- The last track with an id, by a search of a range from its end. Assumes nothing.
use Prim.Native.Nat.{ℕ, suc, ◌+◌, ◌-◌, ◌≤◌, ◌<◌}
use mathlib.Core.Path.{◌≡◌, refl, sym, ap, subst, ◌∙◌}
use mathlib.Core.List.{List, [], ◌∷◌}
use mathlib.Core.Bool.{Bool, true, false, cond}
use mathlib.Core.Option.{none, some}
use native.Mathlib.Omega.{arith}
use lib.Dec.{eqb}
use denote.Param.Members.{Mut}
use denote.Ref.{Bor}
use Rattle.std.specs.Prelude.{Option as Maybe, Some, None}
use Rattle.std.specs.Fn.{CalledAt}
use Rattle.std.specs.Iterator.{Yields, YieldsThen}
use Rattle.std.specs.List.{FoldsTo}
use Rattle.std.specs.Option.{MatchOption, IfSome}
use Rattle.std.specs.declared.ops.Range.{Range}
use Rattle.smoother_frame.specs.Frame.{id_word}
use Rattle.smoother_pass.specs.Pass.{last_at, found_at}

-- a step from the end of a range
abbrev pub back : Range ℕ → Maybe ℕ → Range ℕ → Type 0
back s r t = (t.start ≡ s.start) × MatchOption r ((s.end - s.start ≡ 0) × (t.end ≡ s.end)) (λ x. (0 < s.end - s.start) × (x ≡ t.end) × (s.end ≡ t.end + 1))

module _ (id : ℕ) (w : List ℕ) where
  step : (k : ℕ) → 0 < k → (b : Bool) → eqb (id_word w (k - 1)) id ≡ b → last_at id w k ≡ cond b (some (k - 1)) (last_at id w (k - 1))
  unfolding last_at
  step k h b e =
      let n : k ≡ suc (k - 1) = omega arith in
      let r : last_at id w (suc (k - 1)) ≡ cond b (some (k - 1)) (last_at id w (k - 1)) = rw e in
      ap (last_at id w) n ∙ r

  ended : (k : ℕ) → k ≤ 0 → last_at id w k ≡ none
  unfolding last_at
  ended k h = let n : k ≡ 0 = omega arith in rw n

  module _ {F : Type 0} {g : Mut F (Bor ℕ × Unit) Bool} {f : F} (tells : (x : ℕ) (b : Bool) (q : F) → CalledAt g f x b q → (q ≡ f) × (b ≡ eqb (id_word w x) id)) where
    told : (x : ℕ) (b : Bool) (p q : F) → p ≡ f → CalledAt g p x b q → (q ≡ f) × (eqb (id_word w x) id ≡ b)
    told x b p q e c = let h = tells x b q (subst (λ p. CalledAt g p x b q) e c) in (h.0, sym h.1)

    go : (xs : List ℕ) (s t u : Range ℕ) (p j : F) (r : Maybe ℕ) → s.start ≡ 0 → p ≡ f → Yields back s xs t → back t r u → FoldsTo (λ p x q. CalledAt g p x false q) p xs j
        → IfSome r (λ x. (h : F) × CalledAt g j x true h) → found_at r ≡ last_at id w s.end
    go [] s t u p j None z e y d c m =
        let n : s.end ≡ t.end = ap (λ (k : Range ℕ). k.end) y in
        let o : s.start ≡ t.start = ap (λ (k : Range ℕ). k.start) y in
        sym (ended s.end (omega (arith, d.1.0)))
    go [] s t u p j (Some x) z e y d c m =
        let n : s.end ≡ t.end = ap (λ (k : Range ℕ). k.end) y in
        let at : x ≡ s.end - 1 = omega (arith, d.1.1, d.1.2) in
        let h = told x true j m.0 (sym c ∙ e) m.1 in
        ap some at ∙ sym (step s.end (omega (arith, d.1.2)) true (subst (λ k. eqb (id_word w k) id ≡ true) at h.1))
    go (x ∷ xs) s t u p j r z e y d c m =
        let at : x ≡ s.end - 1 = omega (arith, y.1.1.1, y.1.1.2) in
        let end : y.0.end ≡ s.end - 1 = omega (arith, y.1.1.2) in
        let h = told x false p c.0 e c.1 in
        go xs y.0 t u c.0 j r (y.1.0 ∙ z) h.0 y.2 d c.2 m
        ∙ ap (last_at id w) end
        ∙ sym (step s.end (omega (arith, y.1.1.2)) false (subst (λ k. eqb (id_word w k) id ≡ false) at h.1))

    -- where each call says whether the track has the id, and changes nothing
    pub last_of_range : {n : ℕ} {s : Range ℕ} (u : Range ℕ) (r : Maybe ℕ) → s ≡ record { start = 0; end = n }
        → (xs : List ℕ) × (j : F) × YieldsThen back s xs r u × FoldsTo (λ p x q. CalledAt g p x false q) f xs j × IfSome r (λ x. (h : F) × CalledAt g j x true h)
        → found_at r ≡ last_at id w n
    last_of_range {n} {s} u r e d =
        go d.0 s d.2.0 u f d.1 r (ap (λ (k : Range ℕ). k.start) e) refl d.2.1 d.2.2 d.3 d.4 ∙ ap (λ (k : Range ℕ). last_at id w k.end) e
