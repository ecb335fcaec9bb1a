-- Logarithms worked out before. Definitions only.
use Rattle.std.specs.Prelude.{◌≡◌, ℕ, ◌<◌, true, not, T, List, from_bits, is_nan, slice_index_or}
use Rattle.std.specs.Float.{nan, binary64}
use Rattle.std.specs.Float.Ieee.{fits, lt}
use Rattle.bounds.specs.Bounds.{KEPT}
use Rattle.cost.specs.declared.logs.Logged.{Logged}
use Rattle.scalar.specs.F64.{f64}
use Rattle.kf.specs.Plain.{log_term}

-- what stands past the end of a table
abbrev pub past_end : Logged
past_end = record { variance = nan; log = nan }

-- a variance s above 0, and beside it ln((2·pi)·s); 0.0 where there is none
pub record Right (e : Logged) : Type 0 where
  pub held : T (fits binary64 e.variance)
  pub number : T (not (is_nan e.variance))
  pub log : lt (from_bits binary64 0) e.variance ≡ true → e.log ≡ log_term f64 e.variance

-- each entry of a table is right
pub record LogsKept (entries : List Logged) : Type 0 where
  pub right : (i : ℕ) → i < KEPT → Right (slice_index_or entries i past_end)
