-- Engine ids joined at the end of a list and at its front: the same ids, and as many. Assumes nothing.
use Prim.Native.Nat.{ℕ, suc, ◌+◌, ◌-◌, ◌≤◌, ◌<◌}
use native.Mathlib.Nat.{add_comm}
use native.Mathlib.Omega.{arith}
use mathlib.Core.Path.{◌≡◌, refl, sym, ap, ◌∙◌}
use mathlib.Core.Bool.{Bool, true, false, cond, ◌||◌, or_comm, or_assoc}
use mathlib.Core.List.{List, [], ◌∷◌, ◌++◌, foldr}
use lib.ListN.{length, length-append, drop_of_length-le}
use lib.Seq.{drop-cons}
use lib.Dec.{eqb}
use Rattle.engine.specs.declared.types.Association.{Association}
use Rattle.engine.specs.Frame.{no_association, Associated}
use Rattle.engine.specs.Body.{Body, frame_in, associations_in, rows}
use Rattle.fgo_spec.specs.Lists.{any, has, keep, cons_if}
use Rattle.fgo_spec.specs.Refiner.{has_id, id_count, join}
use Rattle.fgo_part.specs.Parts.{cells}
use Rattle.fgo_state.specs.Memory.{association_in, engine_at}
use Rattle.fgo_state.specs.Owners.{engines_in}
use Rattle.fgo_refuse.specs.Refusing.{join_end, joined_in}
use Rattle.engine.proofs.Passing.{length-rows}
use Rattle.fgo_state.proofs.Counts.{associations_long}
use Rattle.std.specs.Prelude.{None, Some}
use Rattle.std.proofs.lemmas.List.{append-nil}

-- the same ids, and as many
pub record Alike (k l : List ℕ) : Type 0 where
  pub same : (x : ℕ) → has x k ≡ has x l
  pub long : length k ≡ length l

has_end : (x y : ℕ) (l : List ℕ) → has x (l ++ (y ∷ [])) ≡ (eqb x y || has x l)
unfolding any
has_end x y [] = refl
has_end x y (z ∷ l) =
    ap (λ (b : Bool). eqb x z || b) (has_end x y l)
    ∙ sym (or_assoc (eqb x z) (eqb x y) (has x l))
    ∙ ap (λ (b : Bool). b || has x l) (or_comm (eqb x z) (eqb x y))
    ∙ or_assoc (eqb x y) (eqb x z) (has x l)

-- one id more
pub alike_joined : (a : Associated) (k l : List ℕ) → Alike k l → Alike (join_end a k) (join a l)
unfolding any
alike_joined None k l p = p
alike_joined (Some e) k l p = go (has e.0 k) (has e.0 l) (p.same e.0)
  where
    go : (b d : Bool) → b ≡ d → Alike (cond b k (k ++ (e.0 ∷ []))) (cond d l (e.0 ∷ l))
    go true true q = p
    go false false q =
        record {
          same = λ x. has_end x e.0 k ∙ ap (λ (b : Bool). eqb x e.0 || b) (p.same x);
          long = length-append k (e.0 ∷ []) ∙ add_comm (length k) 1 ∙ ap (λ (n : ℕ). 1 + n) p.long ∙ omega arith;
        }
    go true false q = let z : ◌≡◌ {A = ℕ} 0 1 = cc in absurd (omega arith)
    go false true q = let z : ◌≡◌ {A = ℕ} 0 1 = cc in absurd (omega arith)

-- no more than the ids of the list and the associations that have one
joined_few : (l : List ℕ) (bs : List Association) → length (foldr (λ a. join a.track) l bs) ≤ length l + id_count bs
unfolding keep
joined_few l [] = omega arith
joined_few l (a ∷ bs) = go a.track (foldr (λ b. join b.track) l bs) (joined_few l bs)
  where
    go : (e : Associated) (k : List ℕ) → length k ≤ length l + id_count bs → length (join e k) ≤ length l + length (cons_if (has_id e) a (keep (λ b. has_id b.track) bs))
    go None k h = h
    go (Some e) k h = new (has e.0 k)
      where
        new : (b : Bool) → length (cond b k (e.0 ∷ k)) ≤ length l + suc (id_count bs)
        new true = omega arith
        new false = omega arith

-- ---- the associations of a body from the last one on

module _ (owners : List ℕ) (owned : ℕ) (s : Body) where
  pub joined_none : (j : ℕ) → associations_in s ≤ j → joined_in owners owned s j ≡ engines_in owners owned
  unfolding joined_in
  joined_none j h =
      ap (foldr (λ (a : Association). join a.track) (engines_in owners owned)) (drop_of_length-le (frame_in s).associations {i = j} (rw (associations_long s) h))

  pub joined-more : (j : ℕ) → j < associations_in s → joined_in owners owned s j ≡ join (association_in s j).track (joined_in owners owned s (suc j))
  unfolding joined_in
  joined-more j h =
      ap (foldr (λ (a : Association). join a.track) (engines_in owners owned)) (drop-cons (frame_in s).associations j no_association (rw (associations_long s) h))

  pub joined_most : length (joined_in owners owned s 0) ≤ owned + id_count (frame_in s).associations
  unfolding joined_in
  joined_most = omega (arith, joined_few (engines_in owners owned) (frame_in s).associations, length-rows (engine_at owners) 0 owned)

  -- where the engine ids with an owner and the first n of a list are those joined with the associations' from j on
  pub record Joins (all : List ℕ) (n j : ℕ) : Type 0 where
    pub some : j ≤ associations_in s
    pub few : n + j ≤ associations_in s
    pub alike : Alike (engines_in owners owned ++ cells 0 all 0 n) (joined_in owners owned s j)

  pub joins_none : {all : List ℕ} (j : ℕ) → j ≡ associations_in s → Joins all 0 j
  unfolding rows
  joins_none j h =
      let f = append-nil (engines_in owners owned) ∙ sym (joined_none j (omega arith)) in
      record { some = omega arith; few = omega arith; alike = record { same = λ x. ap (has x) f; long = ap length f } }

  pub joins_more :
      {all all' : List ℕ} {n n' j : ℕ} {a : Associated} → Joins all n j → 0 < j → a ≡ (association_in s (j - 1)).track →
      engines_in owners owned ++ cells 0 all' 0 n' ≡ join_end a (engines_in owners owned ++ cells 0 all 0 n) → n' ≤ n + 1 → Joins all' n' (j - 1)
  joins_more {all} {all'} {n} {n'} {j} {a} p h ea e few =
      let i : suc (j - 1) ≡ j = omega arith in
      let some = p.some in
      let count = p.few in
      let step : joined_in owners owned s (j - 1) ≡ join a (joined_in owners owned s j) =
      joined-more (j - 1) (omega arith) ∙ ap (λ (k : ℕ). join (association_in s (j - 1)).track (joined_in owners owned s k)) i ∙ ap (λ (b : Associated). join b (joined_in owners owned s j)) (sym ea) in
      let q = alike_joined a (engines_in owners owned ++ cells 0 all 0 n) (joined_in owners owned s j) p.alike in
      record {
        some = omega arith;
        few = omega arith;
        alike = record { same = λ x. ap (has x) e ∙ q.same x ∙ ap (has x) (sym step); long = ap length e ∙ q.long ∙ ap length (sym step) };
      }

  pub joins_all : {all : List ℕ} {n j : ℕ} → Joins all n j → j ≤ 0 → owned + n ≡ length (joined_in owners owned s 0)
  joins_all {all} {n} {j} p h =
      let z : j ≡ 0 = omega arith in
      let long = length-append (engines_in owners owned) (cells 0 all 0 n) in
      let m : length (engines_in owners owned) ≡ owned = length-rows _ 0 owned in
      let k : length (cells 0 all 0 n) ≡ n = length-rows _ 0 n in
      let g : owned + n ≡ length (engines_in owners owned ++ cells 0 all 0 n) = omega arith in
      g ∙ p.alike.long ∙ ap (λ (k : ℕ). length (joined_in owners owned s k)) z
