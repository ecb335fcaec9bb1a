-- The plain filter at f64: "The filter is x, y, their speeds, p00, p01, p11 and t". Definitions only.
use Rattle.std.specs.Prelude.{ℕ, ◌+◌, List, [], ◌∷◌, get_or, Float}
use Rattle.std.specs.Float.{nan}
use Rattle.scalar.specs.F64.{f64}
use Rattle.kf.specs.declared.filter.Kf.{Kf}
use Rattle.kf.specs.declared.filter.Updated.{Updated}
use Rattle.kf.specs.Plain.{Axis, Cov, Filter, Observed, After, start, predict, gain, update, log_term, work}

-- "p00, p01, p11"
abbrev pub cov_of : Kf → Cov Float
cov_of k = record { p00 = k.p00; p01 = k.p01; p11 = k.p11 }

-- the two axes, "x, y, their speeds", the covariance and the time
abbrev pub filter_of : Kf → Filter Float
filter_of k = record { axes = record { at = k.x; speed = k.vx } ∷ record { at = k.y; speed = k.vy } ∷ []; cov = cov_of k; t = k.t }

-- axis n of a filter
abbrev pub axis : Filter Float → ℕ → Axis Float
axis k n = get_or k.axes n (record { at = nan; speed = nan })

-- the filter of x and y
abbrev pub kf_of : Filter Float → Kf
kf_of k =
    let x = axis k 0 in
    let y = axis k 1 in
    let p = k.cov in
    record { x = x.at; y = y.at; vx = x.speed; vy = y.speed; p00 = p.p00; p01 = p.p01; p11 = p.p11; t = k.t }

-- all that an update gives, as the code answers it
abbrev pub updated_of : After Float → Updated
updated_of a = record { kf = kf_of a.filter; nll = a.nll }

-- "Start": at a position and a time, r the variance of the position and v that of the speed
abbrev pub started : Float → Float → Float → Float → Float → Kf
started x y t r v = kf_of (start f64 (x ∷ y ∷ []) t r v)

-- "Predict": to the time t, q the acceleration spectral density
abbrev pub predicted : Kf → Float → Float → Kf
predicted k t q = kf_of (predict f64 q (filter_of k) t)

-- "Update" with a position, r its variance; and the NLL
abbrev pub updated : Kf → Float → Float → Float → Updated
updated k x y r = updated_of (update f64 r (x ∷ y ∷ []) (filter_of k))

-- an observation on the plane: at the time t, r the variance of its position
abbrev pub observed : Float → Float → Float → Float → Observed Float
observed t x y r = record { t = t; at = x ∷ y ∷ []; r = r }

-- "Track work is: predict to a time, then update with a position"
abbrev pub worked : Kf → Float → Float → Float → Float → Float → Updated
worked k t q x y r = updated_of (work f64 q (filter_of k) (observed t x y r))

-- the logarithm of an update
abbrev pub log_of : Kf → Float → Float
log_of k r = log_term f64 (gain f64 r (cov_of k)).s

-- "The filter is x, y, their speeds, p00, p01, p11 and t": the one whose eight numbers stand in a list from place o on
abbrev pub kf_in : List Float → ℕ → Kf
kf_in ns o =
    record {
      x = get_or ns o nan;
      y = get_or ns (o + 1) nan;
      vx = get_or ns (o + 2) nan;
      vy = get_or ns (o + 3) nan;
      p00 = get_or ns (o + 4) nan;
      p01 = get_or ns (o + 5) nan;
      p11 = get_or ns (o + 6) nan;
      t = get_or ns (o + 7) nan;
    }

-- and its eight numbers, in that order
abbrev pub kf_numbers : Kf → List Float
kf_numbers k = k.x ∷ k.y ∷ k.vx ∷ k.vy ∷ k.p00 ∷ k.p01 ∷ k.p11 ∷ k.t ∷ []
