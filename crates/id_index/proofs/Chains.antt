-- Chains of places, as the list grows. Assumes nothing.
use Rattle.std.proofs.Common.{◌≡◌, ℕ, ◌+◌, ◌-◌, ◌<◌, List, length, get_or, set, replicate, get_or-set_same, get_or-set_other, below_more, arith, sym, ◌∙◌}
use Rattle.std.proofs.lemmas.List.{get_or-replicate}
use native.Mathlib.Decide.{ℕ_discrete}
use Rattle.id_index.specs.Index.{residue, TellsLast, Chained}
use Rattle.bounds.specs.Bounds.{RESIDUES}

module _ {ids : List ℕ} where
  -- no place
  tells_none : {r p : ℕ} → p ≡ 0 → TellsLast ids 0 r p
  tells_none e = record { none_past = λ i h _. absurd (omega arith); stands = λ t. absurd (omega arith) }

  -- a place more, with this residue
  tells_here : (n : ℕ) {r : ℕ} → residue (get_or ids n 0) ≡ r → TellsLast ids (n + 1) r (n + 1)
  tells_here n e = record {
    none_past = λ i h _. h;
    stands = λ _. let k : n + 1 - 1 ≡ n = omega arith in (omega arith, rw k e);
  }

  -- a place more, with another residue
  tells_other : {n r p : ℕ} → (residue (get_or ids n 0) ≡ r → ⊥) → TellsLast ids n r p → TellsLast ids (n + 1) r p
  tells_other {n} {r} {p} other t = record {
    none_past = below_more (λ i. residue (get_or ids i 0) ≡ r → i < p) n t.none_past (λ e. absurd (other e));
    stands = λ h. let s = t.stands h in (omega arith, s.1);
  }

  pub chained_none : (before : List ℕ) → Chained ids 0 (replicate RESIDUES 0) before
  chained_none before = record {
    lasts = λ r h. tells_none (get_or-replicate RESIDUES r 0 0 h);
    befores = λ k h. absurd (omega arith);
  }

  pub chained_more :
      {n r : ℕ} {last before : List ℕ} → Chained ids n last before → r ≡ residue (get_or ids n 0) → length last ≡ RESIDUES → n < length before
      → Chained ids (n + 1) (set last r (n + 1)) (set before n (get_or last r 0))
  chained_more {n} {r} {last} {before} c e long room =
      let p = get_or last r 0 in
      record {
        lasts = λ s h. go s h (ℕ_discrete s r);
        befores = below_more (λ k. TellsLast ids k (residue (get_or ids k 0)) (get_or (set before n p) k 0)) n
            (λ k h. rw (get_or-set_other before n k p 0 (λ t. omega arith)) (c.befores k h))
            (rw (get_or-set_same before n p 0 room, ← e) (c.lasts r (omega arith)));
      }
    where
      go : (s : ℕ) → s < RESIDUES → Dec (s ≡ r) → TellsLast ids (n + 1) s (get_or (set last r (n + 1)) s 0)
      go s h (yes t) = rw (t, get_or-set_same last r (n + 1) 0 (omega arith)) (tells_here n (sym e))
      go s h (no t) = rw (get_or-set_other last r s (n + 1) 0 t) (tells_other (λ q. t (sym q ∙ sym e)) (c.lasts s h))
