-- Owners told anew, one after the other. Assumes nothing.
use Prim.Native.Nat.{ℕ, ◌+◌, ◌*◌, ◌≤◌, ◌<◌}
use native.Mathlib.Decide.{ℕ_discrete}
use native.Mathlib.Omega.{arith}
use mathlib.Core.Path.{◌≡◌, refl, sym, ap, ◌∙◌}
use mathlib.Core.List.{List}
use lib.ListN.{length, drop}
use Rattle.bounds.specs.Bounds.{OWNED, OWNER, OWNERS}
use Rattle.fgo_spec.specs.Owning.{or_else}
use Rattle.fgo_state.specs.Memory.{engine_at, owner_at, owner_entry, owners_in}
use Rattle.fgo_state.specs.Gathering.{latest_of, held_latest}
use Rattle.fgo_spec.proofs.Latest.{or_some, or_none_lem}
use Rattle.fgo_spec.proofs.Rows.{rows_same, map_rows}
use Rattle.fgo_place.proofs.Owners.{owning, owning_long, owning_at, owning_else, owning_rest}

module _ (ids engines starts : List ℕ) (held : ℕ) where
  abbrev pub latest : ℕ → ℕ
  latest e = latest_of e ids engines starts held

  -- an entry told anew
  abbrev pub told : ℕ × ℕ → ℕ × ℕ
  told o = (o.0, or_else (latest o.0) o.1)

  -- of the first n entries of a table
  module _ (before : List ℕ) (n : ℕ) where
    pub record Telling (k : ℕ) (owners : List ℕ) : Type 0 where
      pub long : length owners ≡ OWNERS
      pub done : (i : ℕ) → i < k → owner_entry owners i ≡ told (owner_entry before i)
      pub left : (i : ℕ) → k ≤ i → owner_entry owners i ≡ owner_entry before i
      pub rest : drop (OWNER * n) owners ≡ drop (OWNER * n) before

    -- those before k, and k
    one_more_lem :
        (k : ℕ) (owners owners' : List ℕ) → Telling k owners → length owners' ≡ OWNERS → ((i : ℕ) → (i ≡ k → ⊥) → owner_entry owners' i ≡ owner_entry owners i) →
        owner_entry owners' k ≡ told (owner_entry owners k) → drop (OWNER * n) owners' ≡ drop (OWNER * n) owners → Telling (k + 1) owners'
    one_more_lem k owners owners' h l other here past =
        record {
          long = l;
          done = λ i q. go i q (ℕ_discrete i k);
          left = λ i q. other i (λ e. omega arith) ∙ h.left i (omega arith);
          rest = past ∙ h.rest;
        }
      where
        go : (i : ℕ) → i < k + 1 → Dec (i ≡ k) → owner_entry owners' i ≡ told (owner_entry before i)
        go i q (yes e) = ap (owner_entry owners') e ∙ here ∙ ap told (h.left k (omega arith)) ∙ ap (λ (j : ℕ). told (owner_entry before j)) (sym e)
        go i q (no d) = other i d ∙ h.done i (omega arith)

    module _ (k : ℕ) (owners : List ℕ) (h : Telling k owners) {e x : ℕ} (engine : e ≡ engine_at owners k) (is : x ≡ latest e) where
      holder : x ≡ latest (engine_at owners k)
      holder = is ∙ ap latest engine

      pub kept : x ≤ 0 → Telling (k + 1) owners
      kept l = one_more_lem k owners owners h h.long (λ i d. refl) (λ t. (engine_at owners k, sym (ap (λ (z : ℕ). or_else z (owner_at owners k)) (sym holder) ∙ or_none_lem x l (owner_at owners k)) t)) refl

      pub changed : k < n → n ≤ OWNED → 0 < x → {owners' : List ℕ} → owners' ≡ owning owners k e x → Telling (k + 1) owners'
      changed f few l {owners'} is' =
          let room : OWNER * k + OWNER ≤ length owners = omega (arith, h.long) in
          one_more_lem k owners owners' h (ap length is' ∙ owning_long owners k e x room ∙ h.long) (λ i d. ap (λ o. owner_entry o i) is' ∙ owning_else owners k e x room i d)
          (ap (λ o. owner_entry o k) is' ∙ owning_at owners k e x room ∙ (λ t. (engine t, sym (ap (λ (z : ℕ). or_else z (owner_at owners k)) (sym holder) ∙ or_some x l (owner_at owners k)) t)))
          (ap (drop (OWNER * n)) is' ∙ owning_rest owners k e x room n f)

    pub all_told : (k : ℕ) (owners : List ℕ) → n ≤ k → Telling k owners → owners_in owners n ≡ held_latest ids engines starts held (owners_in before n)
    all_told k owners l h =
        rows_same (owner_entry owners) (λ i. told (owner_entry before i)) 0 n (λ i a b. h.done i (omega arith))
        ∙ sym (map_rows told (owner_entry before) 0 n)
