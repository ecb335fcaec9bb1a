-- Cells past the first frozen parts that stay as they were. Assumes nothing.
use Prim.Native.Nat.{ℕ, ◌+◌, ◌-◌, ◌*◌, ◌≤◌, ◌<◌}
use mathlib.Core.Path.{◌≡◌, refl, sym, ap, ◌∙◌}
use mathlib.Core.List.{List, ◌++◌, append_assoc}
use native.Mathlib.Omega.{arith}
use lib.ListN.{length, take, drop, replicate, length-append, length-replicate}
use lib.Seq.{length-take-le, drop_at, drop-drop}
use lib.Ieee.{Float}
use Rattle.bounds.specs.Bounds.{FROZEN, PART, PARTS, FILTER, FILTERS}
use Rattle.buffers.proofs.Agreeing.{drop_later, drop_over}
use Rattle.fgo_part.specs.declared.Prefix.{Prefix}
use Rattle.fgo_part.specs.Parts.{prefix_of, Put}
use Rattle.fgo_part.proofs.Parts.{heights_most, part_long}
use Rattle.fgo_freeze.specs.Frozen.{Past}

module _ (n : ℕ) (t : List ℕ) (f : List Float) where
  pub past_none : Past n t f t f
  past_none = record { words = refl; numbers = refl }

  module _ {t₁ : List ℕ} {f₁ : List Float} (p : Past n t f t₁ f₁) where
    -- past more parts
    pub past_more : (m : ℕ) → n ≤ m → Past m t f t₁ f₁
    past_more m h =
        record {
          words = drop_later t₁ t (PART * n) (PART * m) (omega arith) p.words;
          numbers = drop_later f₁ f (FILTER * n) (FILTER * m) (omega arith) p.numbers;
        }

    -- one change after another
    pub past_then : {t₂ : List ℕ} {f₂ : List Float} → Past n t₁ f₁ t₂ f₂ → Past n t f t₂ f₂
    past_then q = record { words = q.words ∙ p.words; numbers = q.numbers ∙ p.numbers }

  -- one of the parts is written
  pub past_put :
      (k x : ℕ) (p : Prefix) {t' : List ℕ} {f' : List Float} → k < n → k < FROZEN → length t ≡ PARTS → length f ≡ FILTERS → Put k x p t f t' f' → Past n t f t' f'
  past_put k x p h few wide deep u =
      let long = part_long (x, prefix_of p) (heights_most p.heights.values 0 p.heights.count) in
      record {
        words = ap (drop (PART * n)) u.words ∙ drop_over (PART * k) _ t (omega arith) (PART * n) (omega arith);
        numbers = ap (drop (FILTER * n)) u.numbers ∙ drop_over (FILTER * k) _ f (omega (arith, long)) (FILTER * n) (omega (arith, long));
      }
