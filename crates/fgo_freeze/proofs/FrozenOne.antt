-- One detection frozen into the table, on the lent memory. Assumes nothing.
use Prim.Native.Nat.{ℕ, suc, ◌+◌, ◌^◌, ◌≤◌, ◌<◌}
use mathlib.Core.Path.{◌≡◌, sym, ap, ◌∙◌}
use mathlib.Core.List.{List}
use mathlib.Core.Option.{Option, none, some}
use native.Mathlib.Nat.{zero-add}
use native.Mathlib.Numerals.{add-one}
use native.Mathlib.Omega.{arith}
use lib.ListN.{length}
use lib.Ieee.{Float}
use Rattle.bounds.specs.Bounds.{HEIGHTS}
use Rattle.engine.specs.declared.config.FgoConfig.{FgoConfig}
use Rattle.engine.proofs.Passing.{length-rows}
use Rattle.fgo_spec.specs.Lists.{find, put, place_in}
use Rattle.fgo_spec.specs.Windows as windows
use Rattle.fgo_spec.specs.Windows.{Detection}
use Rattle.fgo_spec.specs.Freezing.{freeze}
use Rattle.fgo_part.specs.declared.Prefix.{Prefix}
use Rattle.fgo_part.specs.Parts.{part_id, prefix_in, entry_in, table_in, prefix_of, Put, part_ids}
use Rattle.fgo_part.proofs.Recent.{heights_few}
use Rattle.fgo_freeze.specs.Frozen.{Moves, Raised, Ordered, frozen_by}
use Rattle.fgo_freeze.proofs.Table.{found, replaced, inserted}
use Rattle.fgo_freeze.proofs.Order.{ordered_at, absent, put-grows, frozen_tall}

module _ (c : FgoConfig) (t : List ℕ) (f : List Float) (n x k : ℕ) (d : Detection) (place : k ≡ place_in x (part_ids t n)) where
  abbrev T : List (ℕ × windows.Prefix)
  T = table_in t f n

  -- a part of a table in order can move on
  pub can_move : (b : ℕ) → suc b < 2 ^ 64 → Ordered b 0 T → k < n → (p : Prefix) → prefix_of p ≡ prefix_in t f k → Moves p
  can_move b s o h p e =
      let w = ordered_at (entry_in t f) b 0 0 n k o h in
      let z : 0 + k ≡ k = zero-add k in
      let l : 1 ≤ length (prefix_in t f k).heights = rw z at w.0 in
      let m : (prefix_in t f k).count ≤ b = rw z at w.1 in
      let q : p.count ≡ (prefix_in t f k).count = ap (λ u. u.count) e in
      record { heights = heights_few p.heights.values 0 p.heights.count (rw (← ap (λ u. u.heights) e) at l); count = omega arith }

  -- the track has a frozen part
  pub one_moved : k < n → part_id t k ≡ x → (p q : Prefix) → prefix_of p ≡ prefix_in t f k → prefix_of q ≡ freeze c (some (prefix_of p)) d → {t' : List ℕ} {f' : List Float} → Put k x q t f t' f' → table_in t' f' n ≡ frozen_by c x d T
  one_moved h q p r ep er {t'} {f'} u =
      let z : 0 + k ≡ k = zero-add k in
      let fd : find x T ≡ some (prefix_in t f k) = found (entry_in t f) x 0 n k place h (rw z q) ∙ ap (λ (j : ℕ). some (prefix_in t f j)) z in
      let w : freeze c (find x T) d ≡ prefix_of r = rw (fd, ← ep) (sym er) in
      replaced (entry_in t f) x (prefix_of r) (entry_in t' f') 0 n k place h (rw z q) (rw z u.here) (λ j ne. u.others j (λ (v : j ≡ k). ne (v ∙ sym z)))
      ∙ ap (λ a. put x a T) (sym w)

  -- it has none
  pub one-begun : (b : ℕ) → Ordered b 0 T → (k < n → part_id t k ≡ x → ⊥) → (q : Prefix) → prefix_of q ≡ freeze c none d
      → {t₁ : List ℕ} {f₁ : List Float} → Raised k n t f t₁ f₁ → {t' : List ℕ} {f' : List Float} → Put k x q t₁ f₁ t' f' → table_in t' f' (n + 1) ≡ frozen_by c x d T
  one-begun b o ne r er ra {t'} {f'} u =
      let z : 0 + k ≡ k = zero-add k in
      let gone : k < n → (entry_in t f (0 + k)).0 ≡ x → ⊥ = λ h v. ne h (rw z at v) in
      let fd : find x T ≡ none = absent (entry_in t f) x b 0 0 n k place o gone in
      let w : freeze c (find x T) d ≡ prefix_of r = rw fd (sym er) in
      rw add-one
      (inserted (entry_in t f) x (prefix_of r) (entry_in t' f') 0 n k place gone (rw z u.here)
      (λ j l. u.others j (λ (v : j ≡ k). omega arith) ∙ ra.below j (omega arith))
      (λ j l m. u.others (suc j) (λ (v : suc j ≡ k). omega arith) ∙ ra.above j (omega arith) (omega arith))
      ∙ ap (λ a. put x a T) (sym w))

-- what freezing leaves has few heights
pub few_frozen : (c : FgoConfig) (o : Option windows.Prefix) (d : Detection) (q : Prefix) → prefix_of q ≡ freeze c o d → q.heights.count ≤ HEIGHTS
few_frozen c o d q e = heights_few q.heights.values 0 q.heights.count (rw (ap (λ u. u.heights) e) (frozen_tall c o d))

-- the table has no fewer parts than before
pub frozen_more :
    (c : FgoConfig) (x : ℕ) (d : Detection) (t : List ℕ) (f : List Float) (n : ℕ) (t' : List ℕ) (f' : List Float) (m : ℕ) →
    table_in t' f' m ≡ frozen_by c x d (table_in t f n) → n ≤ m
frozen_more c x d t f n t' f' m e =
    omega (arith, length-rows (entry_in t f) 0 n, length-rows (entry_in t' f') 0 m, ap length e, put-grows x (freeze c (find x (table_in t f n)) d) (table_in t f n))
