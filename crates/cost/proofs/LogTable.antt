-- Logarithms worked out before: what a table of them is when it begins, and after one is put in. Assumes nothing.
use Rattle.std.proofs.Common.{◌≡◌, true, T, replicate, sym, ap, ◌∙◌, subst}
use lib.ListN.{get_or-replicate}
use lib.Ieee.{Float, binary64, fits, is_nan, of_bits, to_bits, lt}
use lib.Ieee.Bits.{of_bits-to_bits}
use Rattle.bounds.specs.Bounds.{KEPT}
use Rattle.scalar.specs.F64.{f64}
use Rattle.kf.specs.Plain.{log_term}
use Rattle.cost.specs.declared.logs.Logged.{Logged}
use Rattle.cost.specs.Logs.{past_end, Right, LogsKept}

abbrev nought : Float
nought = of_bits binary64 0

abbrev none_yet : Logged
none_yet = record { variance = nought; log = nought }

-- none yet: 0.0 is not above 0
right_none : Right none_yet
right_none = record { held = unfold of_bits fits in tt; number = unfold of_bits is_nan in tt; log = λ e. absurd (not_above e) }
  where
    not_above : lt nought nought ≡ true → ⊥
    not_above e = unfold of_bits lt in subst T (sym e) tt

pub kept_none : LogsKept (replicate KEPT none_yet)
kept_none = record { right = λ i h. subst Right (sym (get_or-replicate KEPT i none_yet past_end h)) right_none }

module _ (s : Float) (held : T (fits binary64 s)) (above : lt nought s ≡ true) where
  -- that of the same bits is that of s
  pub found : (e : Logged) → Right e → to_bits binary64 e.variance ≡ to_bits binary64 s → e.log ≡ log_term f64 s
  found e r q =
      let same : e.variance ≡ s = sym (of_bits-to_bits binary64 e.variance r.held) ∙ ap (of_bits binary64) q ∙ of_bits-to_bits binary64 s held in
      r.log (rw same above) ∙ ap (log_term f64) same
