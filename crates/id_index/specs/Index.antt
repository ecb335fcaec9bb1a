-- Places of ids in a list, chained by the remainders of the ids. Definitions only.
use Rattle.std.specs.Prelude.{ℕ, ◌-◌, ◌<◌, ◌≡◌, ◌%◌, List, length, get_or, Option}
use Rattle.std.specs.Option.{MatchOption}
use Rattle.bounds.specs.Bounds.{RESIDUES}

-- the remainder of an id
abbrev pub residue : ℕ → ℕ
residue x = x % RESIDUES

-- p tells the last place before n whose id has the residue r: as one more than it is, or as 0 where there is none
pub record TellsLast (ids : List ℕ) (n r p : ℕ) : Type 0 where
  pub none_past : (i : ℕ) → i < n → residue (get_or ids i 0) ≡ r → i < p
  pub stands : 0 < p → (p - 1 < n) × (residue (get_or ids (p - 1) 0) ≡ r)

-- The first n places of a list are chained: `last` tells the last place of each residue, `before` of each place the
-- last one before it with the same residue.
pub record Chained (ids : List ℕ) (n : ℕ) (last before : List ℕ) : Type 0 where
  pub lasts : (r : ℕ) → r < RESIDUES → TellsLast ids n r (get_or last r 0)
  pub befores : (k : ℕ) → k < n → TellsLast ids k (residue (get_or ids k 0)) (get_or before k 0)

-- x stands in a list below p alone, if at all
abbrev pub StandsBelow : List ℕ → ℕ → ℕ → Type 0
StandsBelow ids x p = (i : ℕ) → i < length ids → x ≡ get_or ids i 0 → i < p

-- r is the last place of x in a list; there is none where it does not stand there
abbrev pub IsLastPlace : List ℕ → ℕ → Option ℕ → Type 0
IsLastPlace ids x r =
    MatchOption r ((k : ℕ) → k < length ids → x ≡ get_or ids k 0 → ⊥)
    (λ i. (i < length ids) × (x ≡ get_or ids i 0) × ((k : ℕ) → i < k → k < length ids → x ≡ get_or ids k 0 → ⊥))
