-- A range from its end on: the numbers that it gives. Assumes nothing.
use Prim.Native.Nat.{ℕ, zero, suc, ◌+◌, ◌-◌, ◌<◌}
use native.Mathlib.Omega.{arith}
use mathlib.Core.Path.{◌≡◌, sym, ap, subst, ◌∙◌}
use mathlib.Core.List.{List, [], ◌∷◌}
use lib.ListN.{length}
use Rattle.std.specs.Prelude.{Option, None, Some}
use Rattle.std.specs.Option.{MatchOption}
use Rattle.std.specs.Iterator.Adapters.{rev_steps}
use Rattle.std.specs.declared.iter.Rev.{Rev}
use Rattle.std.specs.declared.ops.Range.{Range}
use Rattle.std.proofs.lemmas.Iterator.{YieldsList}
use Rattle.std.proofs.lemmas.Iterator.Consumers.{YieldsList-from_shown}

-- a + n - 1, .., a
abbrev pub down : ℕ → ℕ → List ℕ
down a zero = []
down a (suc n) = (a + n) ∷ down a n

-- a step of a range from its end on
abbrev steps_back : Range ℕ → Option ℕ → Range ℕ → Type 0
steps_back s r t = (t.start ≡ s.start) × MatchOption r ((s.end - s.start ≡ 0) × (t.end ≡ s.end)) (λ x. (0 < s.end - s.start) × (x ≡ t.end) × (s.end ≡ t.end + 1))

abbrev left : Rev (Range ℕ) → List ℕ
left s = down s.iter.start (s.iter.end - s.iter.start)

ended : (s t : Rev (Range ℕ)) → steps_back s.iter None t.iter → length (left s) ≡ 0
ended s t p = ap (λ n. length (down s.iter.start n)) p.1.0

went : (s : Rev (Range ℕ)) (x : ℕ) (t : Rev (Range ℕ)) → steps_back s.iter (Some x) t.iter → left s ≡ x ∷ left t
went s x t p =
    let e : s.iter.end - s.iter.start ≡ suc (t.iter.end - t.iter.start) = omega (arith, p.0, p.1.0, p.1.2) in
    let f : s.iter.start + (t.iter.end - t.iter.start) ≡ x = omega (arith, p.0, p.1.0, p.1.1, p.1.2) in
    ap (down s.iter.start) e ∙ ap (λ k. k ∷ down s.iter.start (t.iter.end - t.iter.start)) f ∙ ap (λ a. x ∷ down a (t.iter.end - t.iter.start)) (sym p.0)

pub YieldsList-from_rev_range : {s : Rev (Range ℕ)} (n : ℕ) → s.iter ≡ record { start = 0; end = n } → YieldsList (rev_steps steps_back) (λ x. x) s (down 0 n)
YieldsList-from_rev_range {s} n e =
    let z : n - 0 ≡ n = omega arith in
    rw z at (subst (λ (u : Range ℕ). YieldsList (rev_steps steps_back) (λ x. x) s (down u.start (u.end - u.start))) e (YieldsList-from_shown (rev_steps steps_back) (λ x. x) left ended went s))
