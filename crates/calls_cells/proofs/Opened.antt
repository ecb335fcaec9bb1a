-- What an opening leaves and prints, by what it answers. Assumes nothing.
use Prim.Native.Nat.{ℕ, zero, suc, ◌≤◌}
use native.Mathlib.Omega.{arith}
use mathlib.Core.Path.{◌≡◌, refl, ◌∙◌}
use mathlib.Core.List.{List, ◌++◌}
use lib.ListN.{length}
use Rattle.std.proofs.lemmas.List.{length-append, take-append-le}
use Rattle.bounds.specs.Bounds.{TEXT}
use Rattle.buffers.specs.Answer.{opened, unopened, opened_by, left_by}
use Rattle.print.specs.Text.{Puts, Ready, refused_line, opened_line}
use Rattle.print.proofs.Fitting.{refused_few, opened_few, ready}
use Rattle.calls_cells.specs.Opening.{opening_text}

-- a text that is ready in the front of a buffer is ready in the buffer
pub ready_in : {text front : List ℕ} {e : ℕ} (rest : List ℕ) → Ready text front e → Ready text (front ++ rest) e
ready_in {text} {front} {e} rest r =
    record {
      within = omega (arith, r.within, length-append front rest);
      stands = take-append-le e front rest r.within ∙ r.stands;
    }

module _ {out out' : List ℕ} {e : ℕ} (room : TEXT ≤ length out) where
  refused_ready : (n code : ℕ) → code ≡ n → Puts (refused_line code) 0 out out' e → Ready (refused_line n) out' e
  refused_ready n code h p = rw (← h) (ready p (refused_few code) (omega arith))

  module _ {S A : Type 0} (state : S) (new old : A) where
    -- of one that is refused
    pub not_opened :
        (n code : ℕ) → unopened code ≡ opened_by n state → Puts (refused_line code) 0 out out' e → (old ≡ left_by n new old) × Ready (opening_text n) out' e
    not_opened zero code h p = cc
    not_opened (suc k) code h p = (refl, refused_ready (suc k) code (cc) p)

    -- of one that is not
    pub is_opened : (n : ℕ) (s : S) → opened s ≡ opened_by n state → Puts opened_line 0 out out' e → (new ≡ left_by n new old) × Ready (opening_text n) out' e
    is_opened zero s h p = (refl, ready p opened_few (omega arith))
    is_opened (suc k) s h p = cc
