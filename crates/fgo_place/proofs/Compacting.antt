-- The owner table, those that pass a test moved together, and the others cleared. Assumes nothing.
use Prim.Native.Nat.{ℕ, ◌+◌, ◌-◌, ◌*◌, ◌≤◌, ◌<◌}
use native.Mathlib.Omega.{arith}
use mathlib.Core.Path.{◌≡◌, refl, sym, ap, ◌∙◌}
use mathlib.Core.Bool.{Bool, true, false}
use mathlib.Core.List.{List, [], ◌∷◌, ◌++◌, append-nil, flat_map}
use lib.ListN.{length, drop}
use Rattle.bounds.specs.Bounds.{OWNER}
use Rattle.buffers.specs.Buffers.{cleared, renewed}
use Rattle.engine.specs.Body.{rows}
use Rattle.engine.proofs.Passing.{length-rows}
use Rattle.fgo_spec.specs.Lists.{cons_if, keep}
use Rattle.fgo_spec.proofs.Counting.{keep_append}
use Rattle.fgo_state.specs.Memory.{engine_at, owner_at, owner_words, owner_entry, owners_in}
use Rattle.fgo_state.proofs.OwnerCells.{owners_left}
use Rattle.fgo_spec.proofs.Rows.{front_more}
use Rattle.fgo_place.proofs.Owners.{owning, owning_long, owning_else, owning_rest, owning_more}

-- where those of the first k entries that pass, w of them, were moved together
pub record Compacts (p : ℕ × ℕ → Bool) (os : List ℕ) (n w k : ℕ) (os' : List ℕ) : Type 0 where
  pub some : k ≤ n
  pub few : w ≤ k
  pub long : length os' ≡ length os
  pub kept : owners_in os' w ≡ keep p (owners_in os k)
  pub rest : (i : ℕ) → k ≤ i → owner_entry os' i ≡ owner_entry os i
  pub past : drop (OWNER * n) os' ≡ drop (OWNER * n) os

module _ (p : ℕ × ℕ → Bool) (os : List ℕ) (n : ℕ) where
  pub compacts_none : Compacts p os n 0 0 os
  unfolding rows keep
  compacts_none = record { some = omega arith; few = omega arith; long = refl; kept = refl; rest = λ i h. refl; past = refl }

  keep-more : (k : ℕ) → keep p (owners_in os (k + 1)) ≡ keep p (owners_in os k) ++ cons_if (p (owner_entry os k)) (owner_entry os k) []
  unfolding keep
  keep-more k = ap (keep p) (front_more (owner_entry os) k) ∙ keep_append p (owners_in os k) (owner_entry os k ∷ [])

  entry : {w k : ℕ} {os' : List ℕ} → Compacts p os n w k os' → owner_entry os' k ≡ owner_entry os k
  entry {w} {k} {os'} c = c.rest k (omega arith)

  pub compacts_more : {w w' k : ℕ} {os' os'' : List ℕ} → Compacts p os n w k os' → k < n → OWNER * n ≤ length os → p (owner_entry os' k) ≡ true → os'' ≡ owning os' w (engine_at os' k) (owner_at os' k) → w' ≡ w + 1 → Compacts p os n w' (k + 1) os''
  compacts_more {w} {w'} {k} {os'} {os''} c h room t e ew =
      let few = c.few in
      let long = c.long in
      let a = engine_at os' k in
      let b = owner_at os' k in
      let r : OWNER * w + OWNER ≤ length os' = omega arith in
      let same = entry c in
      let test : p (owner_entry os k) ≡ true = ap p (sym same) ∙ t in
      record {
        some = omega arith;
        few = omega arith;
        long = ap length e ∙ owning_long os' w a b r ∙ long;
        kept =
            ap (λ (l : List ℕ). owners_in l w') e
            ∙ ap (owners_in (owning os' w a b)) ew
            ∙ owning_more os' w a b r
            ∙ ap (λ (l : List (ℕ × ℕ)). l ++ (owner_entry os' k ∷ [])) c.kept
            ∙ ap (λ (o : ℕ × ℕ). keep p (owners_in os k) ++ (o ∷ [])) same
            ∙ sym (keep-more k ∙ ap (λ (x : Bool). keep p (owners_in os k) ++ cons_if x (owner_entry os k) []) test);
        rest = λ i g. ap (λ (l : List ℕ). owner_entry l i) e ∙ owning_else os' w a b r i (λ q. omega arith) ∙ c.rest i (omega arith);
        past = ap (drop (OWNER * n)) e ∙ owning_rest os' w a b r n (omega arith) ∙ c.past;
      }

  pub compacts_same : {w w' k : ℕ} {os' os'' : List ℕ} → Compacts p os n w k os' → k < n → p (owner_entry os' k) ≡ false → os'' ≡ os' → w' ≡ w → Compacts p os n w' (k + 1) os''
  compacts_same {w} {w'} {k} {os'} {os''} c h t e ew =
      let few = c.few in
      let test : p (owner_entry os k) ≡ false = ap p (sym (entry c)) ∙ t in
      record {
        some = omega arith;
        few = omega arith;
        long = ap length e ∙ c.long;
        kept =
            ap (λ (l : List ℕ). owners_in l w') e
            ∙ ap (owners_in os') ew
            ∙ c.kept
            ∙ sym (keep-more k ∙ ap (λ (x : Bool). keep p (owners_in os k) ++ cons_if x (owner_entry os k) []) test ∙ append-nil (keep p (owners_in os k)));
        rest = λ i g. ap (λ (l : List ℕ). owner_entry l i) e ∙ c.rest i (omega arith);
        past = ap (drop (OWNER * n)) e ∙ c.past;
      }

  -- where the entries from w on are then cleared
  pub compacts_all :
      {w k : ℕ} {os' os'' : List ℕ} → Compacts p os n w k os' → n ≤ k → OWNER * n ≤ length os → os'' ≡ cleared 0 (OWNER * w) (OWNER * (n - w)) os' →
      (w ≡ length (keep p (owners_in os n))) × (os'' ≡ renewed 0 (OWNER * n) (flat_map owner_words (keep p (owners_in os n))) os)
  compacts_all {w} {k} {os'} {os''} c h room e =
      let some = c.some in
      let few = c.few in
      let long = c.long in
      let z : k ≡ n = omega arith in
      let left = owners_left w n os' os (omega arith) (omega arith) c.past e in
      let kept : owners_in os'' w ≡ keep p (owners_in os n) = left.0 ∙ c.kept ∙ ap (λ (i : ℕ). keep p (owners_in os i)) z in (
        sym (length-rows (owner_entry os'') 0 w) ∙ ap length kept,
        left.1 ∙ ap (λ (q : List (ℕ × ℕ)). renewed 0 (OWNER * n) (flat_map owner_words q) os) kept,
      )
