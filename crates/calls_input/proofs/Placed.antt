-- What is known of the call at a place of a list: it lies within the list, the next is further on, and it is sane.
-- Assumes nothing.
use Prim.Native.Nat.{ℕ, ◌+◌, ◌-◌, ◌*◌, ◌≤◌, ◌<◌}
use native.Mathlib.Omega.{arith}
use mathlib.Core.Path.{◌≡◌, refl, ◌∙◌}
use mathlib.Core.Bool.{Bool, true, false, cond, ◌&&◌}
use mathlib.Core.List.{List}
use lib.ListN.{length, take, drop}
use lib.Dec.{leb, eqb}
use borrow.Author.Tests.{leb-true, le-leb, eqb-true}
use Rattle.bounds.specs.Bounds.{SETTING, SETTINGS, WINDOW, VALUES, CALL, LENT_WORDS, LENT_NUMBERS}
use Rattle.engine.specs.Little.{little}
use Rattle.engine.proofs.Every.{both}
use Rattle.std.specs.Prelude.{Result, Ok, Err, Option, Some, None, IfSome}
use Rattle.std.specs.Bool.{then_some}
use Rattle.std.specs.Option.{option_map, option_and_then}
use Rattle.calls_input.specs.declared.cells.Cell.{Cell}
use Rattle.calls_input.specs.declared.cells.NoPlace.{NoPlace}
use Rattle.calls_input.specs.declared.Call.{Call}
use Rattle.calls_input.specs.declared.Next.{Next}
use Rattle.calls_input.specs.Input.{
  number,
  within,
  lengths,
  cell_in,
  cell_by,
  cell,
  sized,
  pushing,
  refiner_place,
  refiner_has,
  smoother_place,
  smoother_has,
  call_in,
  bad_at,
  next_at,
  Sane,
}

-- ---- what follows a call

-- two lengths that are within bounds
within_bounds : (f : List ℕ) (words numbers : ℕ) → within f words numbers ≡ true → (number f 0 ≤ words) × (number f 1 ≤ numbers)
within_bounds f words numbers h =
    let k = both (leb (number f 0) words) (leb (number f 1) numbers) h in
    (leb-true (number f 0) words k.0, leb-true (number f 1) numbers k.1)

-- a call that is sane, with what follows it, if it is one
record Fine (o : Option Call) (f : List ℕ) : Type 0 where
  pub sane : IfSome o (λ c. Sane c f)

-- a bad one is none
bad : {f : List ℕ} → Fine None f
bad = record { sane = tt {0} }

-- one of two
pick : (b : Bool) (x y : Option Call) {f : List ℕ} → (b ≡ true → Fine x f) → Fine y f → Fine (cond b x y) f
pick true x y h k = h refl
pick false x y h k = k

module _ (f : List ℕ) where
  sized-fine : (n : ℕ) {c : Call} → (length f ≡ n → Fine (Some c) f) → Fine (sized f n c) f
  sized-fine n {c} h = by (eqb (length f) n) (λ e. h (eqb-true (length f) n e))
    where
      by : (b : Bool) → (b ≡ true → Fine (Some c) f) → Fine (then_some b c) f
      by true k = k refl
      by false k = bad

  -- a call by the two lengths that it begins with
  lengths-fine :
      {S : Type 0} (words numbers : ℕ) (size : ℕ × ℕ → S) (call : S → Option Call) →
      (number f 0 ≤ words → number f 1 ≤ numbers → Fine (call (size (number f 0, number f 1))) f) →
      Fine (option_and_then call (option_map size (lengths f words numbers))) f
  lengths-fine words numbers size call h = by (leb (SETTING * 2) (length f) && within f words numbers) refl
    where
      by :
          (b : Bool) →
          leb (SETTING * 2) (length f) && within f words numbers ≡ b →
          Fine (option_and_then call (option_map size (then_some b (number f 0, number f 1)))) f
      by true e =
          let w = within_bounds f words numbers (both (leb (SETTING * 2) (length f)) (within f words numbers) e).1 in
          h w.0 w.1
      by false e = bad

  pushing-fine : Fine (pushing f) f
  unfolding pushing
  pushing-fine = lengths-fine LENT_WORDS LENT_NUMBERS _ _ (λ w x. sized-fine _ (λ e. record { sane = (w, x, e) }))

  -- a call that writes a cell
  cell-fine :
      {P : Type 0} (place : ℕ → Result P NoPlace) (has : Cell P → Bool) (write : Cell P → Call) →
      ((c : Cell P) → has c ≡ true → Fine (Some (write c)) f) →
      Fine (option_map write (cell f place has)) f
  cell-fine {P} place has write h = at (eqb (length f) (SETTING * 3))
    where
      taken : (p : P) (b : Bool) → has (cell_in f p) ≡ b → Fine (option_map write (then_some b (cell_in f p))) f
      taken p true e = h (cell_in f p) e
      taken p false e = bad

      by : (r : Result P NoPlace) → Fine (option_map write (cell_by f has r)) f
      by (Ok p) = taken p (has (cell_in f p)) refl
      by (Err e) = bad

      at : (b : Bool) → Fine (option_map write (cond b (cell_by f has (place (number f 0))) None)) f
      at true = by (place (number f 0))
      at false = bad

  -- the call of a code
  call-fine : (code : ℕ) → Fine (call_in code f) f
  unfolding call_in
  call-fine code =
      pick (eqb code 1) _ _ (λ e. sized-fine SETTINGS (λ h. record { sane = h }))
      (pick (eqb code 2) _ _ (λ e. record { sane = tt {0} })
      (pick (eqb code 4) _ _ (λ e. sized-fine 0 (λ h. record { sane = tt {0} }))
      (pick (eqb code 5) _ _ (λ e. sized-fine 0 (λ h. record { sane = tt {0} }))
      (pick (eqb code 6) _ _ (λ e. lengths-fine LENT_WORDS LENT_NUMBERS _ _ (λ w x. sized-fine (SETTING * 2) (λ h. record { sane = (w, x) })))
      (pick (eqb code 7) _ _ (λ e. cell-fine refiner_place refiner_has _ (λ c h. record { sane = h }))
      (pick (eqb code 9) _ _ (λ e. sized-fine 0 (λ h. record { sane = tt {0} }))
      (pick (eqb code 11) _ _ (λ e. sized-fine (SETTING * 3) (λ h. record { sane = h }))
      (pick (eqb code 12) _ _ (λ e. sized-fine 0 (λ h. record { sane = tt {0} }))
      (pick (eqb code 13) _ _ (λ e. pushing-fine)
      (pick (eqb code 14) _ _ (λ e. sized-fine 0 (λ h. record { sane = tt {0} }))
      (pick (eqb code 16) _ _ (λ e. lengths-fine WINDOW VALUES _ _ (λ w x. sized-fine (SETTING * 2) (λ h. record { sane = (w, x) })))
      (pick (eqb code 17) _ _ (λ e. cell-fine smoother_place smoother_has _ (λ c h. record { sane = h })) bad))))))))))))

-- ---- the call at a place

module _ (s : List ℕ) (at : ℕ) where
  -- what is read there, where it all lies within the list
  pub reads_next :
      {code size : ℕ} {k : Option Call} →
      code ≡ little 4 s at →
      size ≡ little 4 s (at + 4) →
      at + CALL + size ≤ length s →
      k ≡ call_in code (take (at + CALL + size - (at + CALL)) (drop (at + CALL) s)) →
      ◌≡◌ {A = Next} (record { call = k; from = at + CALL; end = at + CALL + size }) (next_at s at)
  unfolding next_at
  reads_next {code} {size} {k} c z fits call =
      let e : at + CALL + size - (at + CALL) ≡ little 4 s (at + 4) = omega arith in
      let h : at + CALL + little 4 s (at + 4) ≤ length s = omega arith in
      let g : k ≡ call_in (little 4 s at) (take (little 4 s (at + 4)) (drop (at + CALL) s)) = call ∙ (λ i. call_in (c i) (take (e i) (drop (at + CALL) s))) in
      rw (le-leb (at + CALL) (length s) (omega arith), le-leb (at + CALL + little 4 s (at + 4)) (length s) h)
      (λ i. record { call = g i; from = at + CALL; end = at + CALL + z i })

  -- where it lies
  pub record Placed (n : Next) : Type 0 where
    pub from_end : n.from ≤ n.end
    pub within : n.end ≤ length s
    pub on : at < length s → at < n.end
    pub sane : IfSome n.call (λ c. Sane c (take (n.end - n.from) (drop n.from s)))

  pub placed : at ≤ length s → Placed (next_at s at)
  unfolding next_at
  placed h = go (leb (at + CALL) (length s) && leb (at + CALL + size) (length s)) refl
    where
      size : ℕ
      size = little 4 s (at + 4)

      there : Next
      there = record { call = call_in (little 4 s at) (take size (drop (at + CALL) s)); from = at + CALL; end = at + CALL + size }

      go : (b : Bool) → leb (at + CALL) (length s) && leb (at + CALL + size) (length s) ≡ b → Placed (cond b there (bad_at s))
      go true e =
          let k = both (leb (at + CALL) (length s)) (leb (at + CALL + size) (length s)) e in
          let d : at + CALL + size - (at + CALL) ≡ size = omega arith in
          record {
            from_end = omega arith;
            within = leb-true (at + CALL + size) (length s) k.1;
            on = λ x. omega arith;
            sane = rw d (call-fine (take size (drop (at + CALL) s)) (little 4 s at)).sane;
          }
      go false e = record { from_end = omega arith; within = omega arith; on = λ x. x; sane = tt {0} }
