-- A body that passes names no observation twice, and none that is not there. Assumes nothing.
use Prim.Native.Nat.{ℕ, ◌+◌, ◌*◌, ◌<◌}
use native.Mathlib.Omega.{arith}
use mathlib.Core.Path.{◌≡◌, refl, sym, ap, ◌∙◌}
use mathlib.Core.Bool.{Bool, true, false, not, true≢false}
use mathlib.Core.List.{List}
use lib.ListN.{length}
use lib.Dec.{ltb, eqb}
use borrow.Author.Tests.{ltb-true, ltb-false, eq-eqb}
use Rattle.bounds.specs.Bounds.{ASSOCIATION, OBSERVATION}
use Rattle.engine.specs.Frame.{no_association}
use Rattle.engine.specs.Body.{Body, Layout, layout, all, index_at, index_ok, indices_ok, associations_from, observations_from, association_count, observation_count, association_at, observation_at, frame_of, frame_in, body_refusal, index_of, NamedOnce}
use Rattle.engine.proofs.Every.{both, all-at}
use Rattle.engine.proofs.Passing.{passed_all, length-rows, row_at}

module _ (k : Layout) (s : List ℕ) (ok : indices_ok k s ≡ true) where
  -- the index of association j, off the bytes
  abbrev at : ℕ → ℕ
  at j = index_at k.width s (associations_from k s) j

  abbrev many : ℕ
  many = association_count k s

  tested : (j : ℕ) → j < many → (ltb (at j) (observation_count k s) ≡ true) × (all (λ i. not (eqb (at i) (at j))) j ≡ true)
  unfolding indices_ok index_ok
  tested j h = both _ _ (all-at (index_ok k.width s (associations_from k s) (observation_count k s)) many j ok h)

  -- no earlier association names what association j names
  clash : (i j : ℕ) → i < j → j < many → at i ≡ at j → ⊥
  clash i j l h e =
      true≢false (sym (all-at (λ i. not (eqb (at i) (at j))) j i (tested j h).1 l) ∙ ap not (eq-eqb (at i) (at j) e))

  same : (i j : ℕ) → i < many → j < many → at i ≡ at j → i ≡ j
  same i j h g e = go (ltb i j) refl (ltb j i) refl
    where
      go : (x : Bool) → ltb i j ≡ x → (y : Bool) → ltb j i ≡ y → i ≡ j
      go true p y q = absurd (clash i j (ltb-true i j p) g e)
      go false p true q = absurd (clash j i (ltb-true j i q) h (sym e))
      go false p false q = omega (arith, ltb-false i j p, ltb-false j i q)

  long : length (frame_of k s).associations ≡ many
  unfolding frame_of
  long = length-rows (λ j. association_at k.width s (associations_from k s + ASSOCIATION * j)) 0 many

  there : length (frame_of k s).observations ≡ observation_count k s
  unfolding frame_of
  there = length-rows (λ i. observation_at s (observations_from k s + OBSERVATION * i)) 0 (observation_count k s)

  read : (j : ℕ) → j < many → index_of (frame_of k s) j ≡ at j
  unfolding frame_of association_at
  read j h = ap (λ a. a.index.0) (row_at (λ j. association_at k.width s (associations_from k s + ASSOCIATION * j)) many j no_association h)

  named : NamedOnce (frame_of k s)
  named =
      record {
        within = λ j h. let g : j < many = omega (arith, long) in omega (arith, read j g, ltb-true (at j) (observation_count k s) (tested j g).0, there);
        once = λ i j h g e.
            let l : i < many = omega (arith, long) in
            let m : j < many = omega (arith, long) in
            same i j l m (sym (read i l) ∙ e ∙ read j m);
      }

pub named_once : (b : Body) → body_refusal b ≡ 0 → NamedOnce (frame_in b)
named_once b h = named (layout b) b.bytes (passed_all (layout b) b.bytes h).indices
