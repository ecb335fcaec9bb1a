-- The field of 23 elements as an arithmetic, in which the squares other than 0 are above 0: one that is exact and
-- computes. Definitions only.
use Rattle.std.specs.Prelude.{ℕ, ◌+◌, ◌-◌, ◌*◌, ◌%◌, ◌^◌, Bool, ◌||◌, T, List, map, ◌==◌, nat_lt}
use Rattle.std.proofs.Common.{mod-lt, zero-lt-suc, lt→ltb}
use Rattle.scalar.specs.Num.{Num}

-- a number below 23
pub record Residue : Type 0 where
  pub value : ℕ
  pub below : T (nat_lt value 23)

-- what n leaves over when it is divided by 23
abbrev pub residue : ℕ → Residue
residue n = record { value = n % 23; below = lt→ltb (n % 23) 23 (mod-lt n (zero-lt-suc 22)) }

-- the same of each number of a list
abbrev pub residues : List ℕ → List Residue
residues l = map residue l

-- b is above a: b − a is the square of a number other than 0. Those are 1, 2, 3, 4, 6, 8, 9, 12, 13, 16 and 18, whose
-- 11th power is 1
abbrev pub under : Residue → Residue → Bool
under a b = (b.value + (23 - a.value)) ^ 11 % 23 == 1

-- sums, differences and products are what they leave over when they are divided by 23; nothing is asked of ln, pi, past
-- and le
abbrev pub twenty_three : Num
twenty_three =
    record {
      F = Residue;
      add = λ a b. residue (a.value + b.value);
      sub = λ a b. residue (a.value + (23 - b.value));
      mul = λ a b. residue (a.value * b.value);
      -- 1/b is b²¹, as b²² is 1
      div = λ a b. residue (a.value * b.value ^ 21);
      ln = λ a. a;
      -- (a⁶)² is a¹² = a¹¹ a, which is a for a square; and a⁶ is a square
      root = λ a. residue (a.value ^ 6);
      lt = under;
      le = λ a b. under a b || (a.value == b.value);
      zero = residue 0;
      half = residue 12;
      one = residue 1;
      two = residue 2;
      three = residue 3;
      pi = residue 3;
      past = residue 0;
    }
