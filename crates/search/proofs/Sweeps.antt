-- The loops over the pairs of a table: what is left of the sweep, and what of it is at rest. Assumes nothing.
use Rattle.search_rows.specs.declared.rows.Row.{Row}
use Rattle.search.specs.declared.marks.Mark.{Mark}
use Rattle.search.specs.declared.marks.Mark.TheVariants.{Resting}
use Prim.Native.Nat.{ℕ, ◌+◌, ◌≤◌, ◌<◌}
use native.Mathlib.Decide.{ℕ_discrete}
use native.Mathlib.Omega.{arith}
use mathlib.Core.Path.{◌≡◌, refl, sym, ap, ◌∙◌}
use mathlib.Core.Bool.{Bool, true, false, cond, ◌&&◌, true≢false}
use mathlib.Core.List.{List}
use lib.ListN.{get_or, take, drop}
use lib.Ieee.{Float}
use Rattle.search_rows.specs.declared.moves.Tally.{Tally}
use Rattle.search_rows.specs.Rows.{no_row, Tabled}
use Rattle.search_neighbours.specs.Near.{any_close, meets, row_at, close_rows}
use Rattle.std.specs.Prelude.{is_some, is_none, Some, None}
use Rattle.std.specs.Bool.{then_some}
use Rattle.std.specs.Option.{unwrap_or}
use Rattle.search.specs.Pass.{Scene, progress_of, row_on, radius2_on, close_on, pair_best, pair_step_on, pair_if, sweep_one, sweep, IdTable, Rests, Grows, Due, Swept}
use Rattle.search.proofs.Listing.{listed_next, listed_end}
use Rattle.search.proofs.Meeting.{table_row, table_close}
use Rattle.search.proofs.Resting.{rest-passes, stay_rests, apart_rests, grows_on, rests_grow}

-- ---- a pair

-- what the pair at places i, j comes to, by the rows at the beginning of the pass
abbrev pub Turned : Scene → ℕ → ℕ → ℕ → List ℕ → List Row → List ℕ → Tally → List ℕ → List Mark → Tally → Type 0
Turned e n i j table rows ids t ids' moved' t' =
    (is : List ℕ) → Tabled e.starts is table n rows →
    (progress_of ids' t' ≡ pair_if e (close_on e (row_on e is (get_or table i 0)) (row_on e is (get_or table j 0))) (get_or table i 0) (get_or table j 0) (progress_of ids t))
    × Rests e table rows moved' i j

-- of what is given if a test passes
given_none : {A : Type 0} (x : A) (b : Bool) → None ≡ then_some b x → b ≡ false
given_none x true o = absurd (true≢false (sym (ap is_some o)))
given_none x false o = refl

given_some : {A : Type 0} (x y : A) (b : Bool) → Some y ≡ then_some b x → (b ≡ true) × (y ≡ x)
given_some x y true o = (refl, λ i. unwrap_or (o i) x)
given_some x y false o = absurd (true≢false (ap is_some o))

module _ {e : Scene} {n i j : ℕ} {table ids : List ℕ} {rows : List Row} {costs : List Float} {moved : List Mark} (t : Tally) (h : i < j) (g : j < n) (s : Swept e n table rows t.next_id.0 ids costs moved) where
  -- neither row changed since the pair was last looked at
  pub turn_rests :
      {due : List Mark} → Due e n table rows due → (get_or due i Resting ≡ Resting) × (get_or moved i Resting ≡ Resting) × (get_or due j Resting ≡ Resting) × (get_or moved j Resting ≡ Resting) →
      Turned e n i j table rows ids t ids moved t
  turn_rests d m is b =
      let r = (d.pair i j h g).pair m.0 m.2 in (
        sym
            (ap (λ (c : List Bool). pair_if e c (get_or table i 0) (get_or table j 0) (progress_of ids t)) (sym (λ k. close_on e (table_row b i (omega arith) k) (table_row b j g k)))
            ∙ rest-passes e (get_or table i 0) (get_or table j 0) ids (s.same i (omega arith) m.1) (s.same j g m.3) t r),
        record { pair = λ p q. r },
      )

  -- what was found of the entries of the table is so of the rows
  is-close :
      (is : List ℕ) → Tabled e.starts is table n rows →
      (meets (get_or rows i no_row) (get_or rows j no_row) && any_close (close_on e (row_at rows i) (row_at rows j)))
      ≡ any_close (close_on e (row_on e is (get_or table i 0)) (row_on e is (get_or table j 0)))
  is-close is b = table_close (radius2_on e) e.dots b i j (omega arith) g

  -- they are close nowhere
  pub turn_apart : None ≡ close_rows (radius2_on e) e.dots (get_or rows i no_row) (get_or rows j no_row) → Turned e n i j table rows ids t ids moved t
  turn_apart o is b =
      let c = close_on e (row_on e is (get_or table i 0)) (row_on e is (get_or table j 0)) in
      let z : any_close c ≡ false = sym (is-close is b) ∙ given_none _ _ o in (
        sym (ap (λ (u : Bool). cond u (pair_step_on e c (get_or table i 0) (get_or table j 0) (progress_of ids t)) (progress_of ids t)) z),
        record {
          pair = λ p q.
              apart_rests e (get_or table i 0) (get_or table j 0) (row_at rows i) (row_at rows j)
              (ap any_close (λ k. close_on e (table_row b i (omega arith) k) (table_row b j g k)) ∙ z);
        },
      )

  -- its step is made
  pub turn_steps :
      {close : List Bool} {ids' : List ℕ} {moved' : List Mark} {t' : Tally} → Some close ≡ close_rows (radius2_on e) e.dots (get_or rows i no_row) (get_or rows j no_row) →
      progress_of ids' t' ≡ pair_step_on e close (get_or table i 0) (get_or table j 0) (progress_of ids t) → Grows n moved moved' →
      (get_or moved' i Resting ≡ Resting → is_none (pair_best e close (get_or table i 0) (get_or table j 0) ids) ≡ true) → Turned e n i j table rows ids t ids' moved' t'
  turn_steps {close} o step grows stays is b =
      let a = get_or table i 0 in
      let d = get_or table j 0 in
      let c = close_on e (row_on e is a) (row_on e is d) in
      let f = given_some _ close _ o in (
        step
            ∙ ap (λ (u : List Bool). pair_step_on e u a d (progress_of ids t)) (f.1 ∙ (λ k. close_on e (table_row b i (omega arith) k) (table_row b j g k)))
            ∙ sym (ap (λ (u : Bool). cond u (pair_step_on e c a d (progress_of ids t)) (progress_of ids t)) (sym (is-close is b) ∙ f.0)),
        record {
          pair = λ p q.
              stay_rests e a d ids (s.same i (omega arith) (grows.back i (omega arith) p)) (s.same j g (grows.back j g q)) f.1 (stays p);
        },
      )

-- ---- the id at place i with each after it

-- those before j are done
pub record SweptOne (e : Scene) (n i : ℕ) (table : List ℕ) (rows : List Row) (ids₀ : List ℕ) (moved₀ : List Mark) (t₀ : Tally) (ids : List ℕ) (costs : List Float) (moved : List Mark) (t : Tally) (j : ℕ) : Type 0 where
  pub after : i < j
  pub within : j ≤ n
  pub stands : Swept e n table rows t.next_id.0 ids costs moved
  pub grows : Grows n moved₀ moved
  pub left :
      (is : List ℕ) → Tabled e.starts is table n rows →
      (sweep_one e is (get_or table i 0) (drop (i + 1) (take n table)) (progress_of ids₀ t₀) ≡ sweep_one e is (get_or table i 0) (drop j (take n table)) (progress_of ids t))
      × ((k : ℕ) → i < k → k < j → Rests e table rows moved i k)

module _ {e : Scene} {n i : ℕ} {table ids₀ : List ℕ} {rows : List Row} {moved₀ : List Mark} {t₀ : Tally} (listed : IdTable n table) where
  module _ {ids : List ℕ} {costs : List Float} {moved : List Mark} {t : Tally} {j : ℕ} (o : SweptOne e n i table rows ids₀ moved₀ t₀ ids costs moved t j) where
    pub one_next :
        {ids' : List ℕ} {costs' : List Float} {moved' : List Mark} {t' : Tally} → j < n → Turned e n i j table rows ids t ids' moved' t' →
        Swept e n table rows t'.next_id.0 ids' costs' moved' → Grows n moved moved' → SweptOne e n i table rows ids₀ moved₀ t₀ ids' costs' moved' t' (j + 1)
    unfolding sweep_one
    one_next {moved'} h turn s g =
        record {
          after = omega (arith, o.after);
          within = omega arith;
          stands = s;
          grows = grows_on o.grows g;
          left = λ is b. (
            (o.left is b).0
                ∙ ap (λ (l : List ℕ). sweep_one e is (get_or table i 0) l (progress_of ids t)) (listed_next listed j h)
                ∙ ap (sweep_one e is (get_or table i 0) (drop (j + 1) (take n table))) (sym (turn is b).0),
            λ k after before. rests k after before (ℕ_discrete k j) (o.left is b).1 (turn is b).1,
          );
        }
      where
        rests : (k : ℕ) → i < k → k < j + 1 → Dec (k ≡ j) → ((k : ℕ) → i < k → k < j → Rests e table rows moved i k) → Rests e table rows moved' i j → Rests e table rows moved' i k
        rests k a b (yes q) all one = rw q one
        rests k a b (no q) all one = rests_grow g (omega (arith, o.after)) (omega arith) (all k a (omega arith))

    pub one_done : n ≤ j → (is : List ℕ) → Tabled e.starts is table n rows →
        (progress_of ids t ≡ sweep_one e is (get_or table i 0) (drop (i + 1) (take n table)) (progress_of ids₀ t₀)) × ((k : ℕ) → i < k → k < n → Rests e table rows moved i k)
    unfolding sweep_one
    one_done h is b =
        let q : j ≡ n = omega (arith, o.within) in (
          sym ((o.left is b).0 ∙ ap (λ (l : List ℕ). sweep_one e is (get_or table i 0) l (progress_of ids t)) (ap (λ (k : ℕ). drop k (take n table)) q ∙ listed_end listed)),
          λ k a c. (o.left is b).1 k a (omega arith),
        )

-- ---- every pair

-- the ids before place i are done, each with all after it
pub record SweptAll (e : Scene) (n : ℕ) (table : List ℕ) (rows : List Row) (ids₀ : List ℕ) (t₀ : Tally) (ids : List ℕ) (costs : List Float) (moved : List Mark) (t : Tally) (i : ℕ) : Type 0 where
  pub within : i ≤ n
  pub stands : Swept e n table rows t.next_id.0 ids costs moved
  pub left :
      (is : List ℕ) → Tabled e.starts is table n rows →
      (sweep e is (take n table) (progress_of ids₀ t₀) ≡ sweep e is (drop i (take n table)) (progress_of ids t))
      × ((h k : ℕ) → h < i → h < k → k < n → Rests e table rows moved h k)

module _ {e : Scene} {n : ℕ} {table ids₀ : List ℕ} {rows : List Row} {t₀ : Tally} (listed : IdTable n table) where
  module _ {ids : List ℕ} {costs : List Float} {moved : List Mark} {t : Tally} {i : ℕ} (o : SweptAll e n table rows ids₀ t₀ ids costs moved t i) where
    pub all-step :
        {ids' : List ℕ} {costs' : List Float} {moved' : List Mark} {t' : Tally} → i < n →
        ((is : List ℕ) → Tabled e.starts is table n rows →
        (progress_of ids' t' ≡ sweep_one e is (get_or table i 0) (drop (i + 1) (take n table)) (progress_of ids t)) × ((k : ℕ) → i < k → k < n → Rests e table rows moved' i k)) →
        Swept e n table rows t'.next_id.0 ids' costs' moved' → Grows n moved moved' → SweptAll e n table rows ids₀ t₀ ids' costs' moved' t' (i + 1)
    unfolding sweep
    all-step {moved'} h step s g =
        record {
          within = omega arith;
          stands = s;
          left = λ is b. (
            (o.left is b).0
                ∙ ap (λ (l : List ℕ). sweep e is l (progress_of ids t)) (listed_next listed i h)
                ∙ ap (sweep e is (drop (i + 1) (take n table))) (sym (step is b).0),
            λ m k a c d. rests m k a c d (ℕ_discrete m i) (o.left is b).1 (step is b).1,
          );
        }
      where
        rests : (m k : ℕ) → m < i + 1 → m < k → k < n → Dec (m ≡ i) → ((h k : ℕ) → h < i → h < k → k < n → Rests e table rows moved h k) →
            ((k : ℕ) → i < k → k < n → Rests e table rows moved' i k) → Rests e table rows moved' m k
        rests m k a c d (yes q) all one = rw q (one k (omega arith) d)
        rests m k a c d (no q) all one = rests_grow g (omega arith) d (all m k (omega arith) c d)

    pub all_done : n ≤ i → (is : List ℕ) → Tabled e.starts is table n rows →
        (progress_of ids t ≡ sweep e is (take n table) (progress_of ids₀ t₀)) × ((h k : ℕ) → h < k → k < n → Rests e table rows moved h k)
    unfolding sweep
    all_done h is b =
        let q : i ≡ n = omega (arith, o.within) in (
          sym ((o.left is b).0 ∙ ap (λ (l : List ℕ). sweep e is l (progress_of ids t)) (ap (λ (k : ℕ). drop k (take n table)) q ∙ listed_end listed)),
          λ m k c d. (o.left is b).1 m k (omega arith) c d,
        )
