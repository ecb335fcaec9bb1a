use Rattle.std.proofs.Common.{◌≡◌, ◌+◌, ◌*◌, ◌<◌, refl, ◌∙◌, arith, rules, tests, List, Bool, true, false, ℕ}
use Rattle.std.proofs.lemmas.Grind.{common_steps}
use Rattle.std.specs.Prelude.{Option, None, Some}
use Rattle.std.specs.Option.{MatchOption}
use lib.Dec.{eqb}
use lib.ListN.{length}
use borrow.Author.Tests.{eq-eqb, ne_eqb}
use Rattle.bounds.specs.Bounds.{CONTENTS, ENTRY}
use Rattle.engine.specs.Body.{all}
use Rattle.engine.proofs.Bytes.{little_below}
use Rattle.engine.proofs.Every.{all_none, all_more, all-less}
use Rattle.recording.specs.Recording.{count, offset, size, start, fills}
use Rattle.recording.proofs.Recorded.{start-more}
use Rattle.engine.proofs.Turns.{asked, ended}
use Rattle.recording.specs.contracts.fn.fills_rest.try_fold as closure
use Rattle.recording.proofs.fills_rest.Goals as goal

module _ (s : List ℕ) where
  -- whether frame i begins where it has to
  abbrev ok : ℕ → Bool
  ok i = eqb (offset s i) (start s i)

  -- before turn i
  record Filled (i : ℕ) (bytes : List ℕ) (at : ℕ) : Type 0 where
    same : bytes ≡ s
    place : at ≡ start s i
    passed : all ok i ≡ true

  none : {n : ℕ} → n ≡ count s → Filled 0 s (CONTENTS + ENTRY * n)
  unfolding start
  none e = record { same = refl; place = rw e refl; passed = all_none _ }

  more : {i at at' : ℕ} {bytes bytes' : List ℕ} → Filled i bytes at → (bytes' ≡ bytes) × (offset bytes i ≡ at) × (at' ≡ at + size bytes i) → Filled (i + 1) bytes' at'
  more {i} h t =
      let p = h.place in
      let o = rw h.same at t.1 in
      record { same = t.0 ∙ h.same; place = t.2 ∙ rw (h.same, h.place, start-more s i) refl; passed = all_more ok i h.passed (eq-eqb (offset s i) (start s i) (o ∙ p)) }

  module _ {n : ℕ} (e : n ≡ count s) {r : Bool} {bytes : List ℕ} {at : ℕ} where
    -- after the last turn
    whole : Filled n bytes at → r ≡ eqb at (length s) → r ≡ fills s
    unfolding fills
    whole h t =
        let p = rw e at h.passed in
        let q = rw e at h.place in
        rw (p, ← q) t

    -- and at the turn that broke off
    broken : {x : ℕ} → x < n → Filled x bytes at → (offset bytes x ≡ at → ⊥) → r ≡ false → r ≡ fills s
    unfolding fills
    broken {x} l h d t =
        let f : all ok (count s) ≡ false = all-less ok x (count s) (rw e at l) (ne_eqb (offset s x) (start s x) (λ q. d (rw (h.same, h.place) q))) in
        rw f t

pub try_fold-requires-clause-callable : goal.try_fold-requires-clause-callable
try_fold-requires-clause-callable c =
    let s = c.args.s.now in
    let t = c.requires.1 in
    asked _ c.count_of-n.result (λ i p. Filled s i (closure.captures p.0).s.now p.1) (λ i q v h j k. more s j (search (rules, tests))) refl (none s c.count_of-n.ensures)
    (λ i q h j. let a = little_below 4 s (CONTENTS + ENTRY * i) c.type_inv.s in let b = little_below 4 s (CONTENTS + ENTRY * i + 4) c.type_inv.s in grind (arith, common_steps, t, a, b, c.count_of-n.ensures))

-- two facts of one value, or of none
either : {A N M : Type 0} {S T : ℕ → Type 0} (o : Option ℕ) → MatchOption o N S → MatchOption o M T → (N → M → A) → ((x : ℕ) → S x → T x → A) → A
either None h k n s = n h k
either (Some x) h k n s = s x h k

pub returns : goal.returns
returns c =
    let s = c.args.s.now in
    let n = c.count_of-n.result in
    let ran = c.try_fold.ensures.ran in
    either ran.1
    (ended _ n (λ i p. Filled s i (closure.captures p.0).s.now p.1) (λ i q v h j k. more s j (search (rules, tests))) refl (none s c.count_of-n.ensures) _ ran.0 ran.1 (ran.2, ran.3) ran.4 ran.5)
    ran.6
    (λ f m. let v = rw m at c.is_some_and.ensures in whole s c.count_of-n.ensures f (search (rules, tests)))
    (λ x f m. let v = rw m.5 at c.is_some_and.ensures in broken s c.count_of-n.ensures f.0 f.1 (λ q. let k = m.3 in let e = m.4 in search (rules, tests)) (search (rules, tests)))
