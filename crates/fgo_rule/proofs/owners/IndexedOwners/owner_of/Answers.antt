use Prim.Native.Nat.{ℕ, zero, suc, ◌+◌, ◌≤◌, ◌<◌}
use native.Mathlib.Nat.{eq-or-lt_of_le}
use native.Mathlib.Omega.{arith}
use mathlib.Core.Path.{◌≡◌, sym, ap, subst, ◌∙◌}
use mathlib.Core.Bool.{true}
use mathlib.Core.List.{List}
use mathlib.Core.Logic.{⊎_elim}
use mathlib.Core.Option.{some}
use lib.ListN.{length, get_or}
use Rattle.std.proofs.Common.{rules, tests}
use Rattle.std.specs.Option.{MatchOption, IsSomeAnd}
use Rattle.std.specs.Prelude.{Option, None, Some}
use Rattle.engine.specs.Body.{rows}
use Rattle.engine.specs.declared.types.RefinedId.{RefinedId}
use Rattle.engine.proofs.Passing.{length-rows, row_at}
use Rattle.fgo_spec.specs.Lists.{times, find}
use Rattle.fgo_spec.proofs.Counting.{has-not}
use Rattle.fgo_spec.proofs.Rows.{map_rows}
use Rattle.fgo_spec.proofs.Tables.{found_here, found_past, find_none}
use Rattle.fgo_state.specs.Memory.{engine_at, owner_at, owner_of, owner_entry, owners_in, or_none}
use Rattle.fgo_state.specs.Owners.{engines_in, id_from}
use Rattle.fgo_state.proofs.Tracks.{number, kept, at_some}
use Rattle.id_index.specs.Index.{IsLastPlace}
use Rattle.id_index.proofs.Standing.{place-has}
use Rattle.fgo_rule.specs.Tests.{distinct_in}
use Rattle.fgo_rule.proofs.LastPlace.{only_place}
use Rattle.fgo_rule.proofs.owners.IndexedOwners.owner_of.Goals as goal

-- the entry of a key is found where no entry before it has the key
found : (g : ℕ → ℕ × ℕ) (e o n i : ℕ) → o ≤ i → i < o + n → e ≡ (g i).0 → ((k : ℕ) → k < i → e ≡ (g k).0 → ⊥) → find e (rows g o n) ≡ some (g i).1
unfolding rows
found g e o zero i h l q none = absurd (omega arith)
found g e o (suc n) i h l q none =
    ⊎_elim
    (λ (d : o ≡ i). rw d (found_here e (g i) (rows g (suc i) n) q))
    (λ (d : o < i). found_past e (g o) (rows g (suc o) n) (none o d) ∙ found g e (suc o) n i (omega arith) (omega arith) q none)
    (eq-or-lt_of_le h)

module _ (owners : List ℕ) (owned e : ℕ) (d : distinct_in (engines_in owners owned) ≡ true) where
  abbrev keys : List ℕ
  keys = engines_in owners owned

  -- the owner of an engine id, by its last entry
  owner_by : {P : ℕ → RefinedId → Type 0} (r : Option ℕ) (o : Option RefinedId) → IsLastPlace keys e r → MatchOption r (o ≡ None) (λ k. IsSomeAnd o (P k)) → ((k : ℕ) (y : RefinedId) → k < owned → P k y → y.0 ≡ owner_at owners k) → number o ≡ owner_of owners owned e
  owner_by None o h q t =
      ap number q ∙ sym (ap or_none (find_none e (owners_in owners owned) (ap (times e) (map_rows (λ p. p.0) (owner_entry owners) 0 owned) ∙ has-not e keys (sym (place-has e keys None h)))))
  owner_by (Some i) o h q t =
      let long : length keys ≡ owned = length-rows (engine_at owners) 0 owned in
      let l : i < owned = omega (arith, h.0) in
      let at : (k : ℕ) → k < owned → get_or keys k 0 ≡ engine_at owners k = λ k g. row_at (engine_at owners) owned k 0 g in
      let entry : find e (owners_in owners owned) ≡ some (owner_at owners i) =
      found (owner_entry owners) e 0 owned i (omega arith) (omega arith) (h.1 ∙ at i l) (λ k b z. only_place keys e i k d h b (z ∙ sym (at k (omega arith)))) in
      at_some o q (λ y k. t i y l k) ∙ sym (ap or_none entry)

pub returns : goal.returns
returns c =
    let s = c.args.self.now in
    let os = s.owners.entries.now in
    let n = s.owners.owned in
    let e = c.args.e.0 in
    let owner : number c.map.result ≡ owner_of os n e =
    owner_by os n e (subst (λ (k : List ℕ). distinct_in k ≡ true) s.indexed s.distinct) c.place_of.result c.map.result (subst (λ (k : List ℕ). IsLastPlace k e c.place_of.result) s.indexed c.place_of.ensures) c.map.ensures.cases (λ k y l q. search (rules, tests)) in
    kept _ _ c.filter.ensures (λ x b q. search (rules, tests)) ∙ ap id_from owner
