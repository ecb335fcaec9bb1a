use Prim.Native.Nat.{ℕ, ◌+◌, ◌*◌}
use native.Mathlib.Omega.{arith}
use mathlib.Core.Path.{◌≡◌, ◌∙◌}
use borrow.Author.Rules.{rules}
use lib.ListN.{length, take}
use lib.Seq.{length-take-le}
use Rattle.std.specs.Float.{binary64}
use Rattle.std.specs.Float.Ieee.{of_bits}
use Rattle.bounds.specs.Bounds.{SETTING, LENT_WORDS, LENT_NUMBERS}
use Rattle.engine.specs.Body.{rows}
use Rattle.engine.specs.Little.{little}
use Rattle.calls_smoother.proofs.Reading.{front_read, told_as}
use Rattle.calls_smoother.proofs.push_read.Goals as goal

pub returns : goal.returns
returns c =
    let a = c.args in
    let i = a.smoother.now.input in
    let w = a.size.words in
    let x = a.size.numbers in
    let ws : length i.words ≡ LENT_WORDS = search rules in
    let ns : length i.numbers ≡ LENT_NUMBERS = search rules in
    let u : length (take w i.words) ≡ w = length-take-le w i.words (rw ws c.requires.0) in
    let v : length (take x i.numbers) ≡ x = length-take-le x i.numbers (rw ns c.requires.1) in
    let at : (k : ℕ) → SETTING * 2 + SETTING * k ≡ SETTING * (2 + k) = λ k. omega arith in
    let on : (k : ℕ) → SETTING * (2 + w) + SETTING * k ≡ SETTING * (2 + w + k) = λ k. omega arith in
    told_as c.push.ensures
    (front_read w _ _ (c.read.auto.list ∙ u) ∙ c.read.ensures ∙ (λ t. rows (λ k. little SETTING a.s.now (at k t)) 0 (u t)))
    (front_read x _ _ (c.read-2.auto.list ∙ v) ∙ c.read-2.ensures ∙ (λ t. rows (λ k. of_bits binary64 (little SETTING a.s.now (on k t))) 0 (v t)))
