-- How long a text is at most: whatever is printed fits a buffer of TEXT bytes, and is what stands at its front. Assumes
-- nothing.
use Prim.Native.Nat.{ℕ, zero, suc, ◌+◌, ◌*◌, ◌/◌, ◌%◌, ◌^◌, ◌≤◌}
use native.Mathlib.Nat.{mul-suc}
use native.Mathlib.Omega.{arith}
use mathlib.Core.Path.{◌≡◌, refl, ap, ◌∙◌}
use mathlib.Core.Bool.{Bool, true, false, cond}
use mathlib.Core.List.{List, [], ◌∷◌, ◌++◌}
use lib.ListN.{length, take, drop, get_or, length-append, length-take}
use lib.Seq.{take-append_seam}
use lib.Dec.{leb}
use lib.IntN.{ℤ, pos, negsuc}
use lib.Ieee.{Float, nan}
use Rattle.io.specs.Digits.{last_digits, hex_digit_ascii}
use Rattle.std.specs.Prelude.{Result, Ok, Err}
use Rattle.refusals.specs.declared.Refusal.{Refusal}
use Rattle.refusals.specs.Refusals.{number_of}
use Rattle.bounds.specs.Bounds.{WORDS, NUMBERS, LINK, STATE, DECIMAL, HEXADECIMAL, TEXT}
use Rattle.scalar.specs.Scalar.{bits_of}
use Rattle.buffers.specs.Buffers.{over}
use Rattle.smoother_frame.specs.Frame.{time, track_count, association_count, associations_from, id_word, lifecycle_word, count_word, Counts}
use Rattle.fgo_spec.specs.declared.moves.FgoCounters.{FgoCounters}
use Rattle.print.specs.Text.{
  ascii,
  Puts,
  Ready,
  tens,
  decimal,
  signed_decimal,
  hexadecimal,
  field,
  word_field,
  bits_field,
  end,
  texts,
  refused_line,
  counters_line,
  counted_line,
  frame_line,
  age,
  position,
  track_line,
  assoc_line,
  assoc_of,
  short_form,
  words_line,
  numbers_line,
  full_form,
  short_answer,
  full_answer,
  opened_line,
  digest_line,
  bad_line,
  call_answer,
}
use Rattle.print.specs.Printed.{Shown, Counted}
use Rattle.print.proofs.Putting.{put_whole, put_long}
use Rattle.buffers.specs.Answer.{Answer, Refused, Held, Frame}

-- a text has at most so many bytes
pub record Few (text : List ℕ) (most : ℕ) : Type 0 where
  pub few : length text ≤ most

-- one after another
both : {a b : List ℕ} {m n : ℕ} → Few a m → Few b n → Few (a ++ b) (m + n)
both {a} {b} h k = record { few = omega (arith, length-append a b, h.few, k.few) }

-- so many are not too many
under : {a : List ℕ} {m : ℕ} (n : ℕ) → Few a m → m ≤ n → Few a n
under n h k = record { few = omega (arith, h.few) }

-- one that is written out
written_out : (text : List ℕ) → Few text (length text)
written_out text = record { few = omega arith }

texts_few : (f : ℕ → List ℕ) (k : ℕ) → ((i : ℕ) → Few (f i) k) → (n : ℕ) → Few (texts f n) (k * n)
unfolding texts
texts_few f k h zero = record { few = omega arith }
texts_few f k h (suc n) = under (k * suc n) (both (texts_few f k h n) (h n)) (omega (arith, mul-suc k n))

-- ---- numbers

digits_long : (b k n : ℕ) → length (last_digits b k n) ≡ k
digits_long b zero n = refl
digits_long b (suc k) n = omega (arith, length-append (last_digits b k (n / b)) (hex_digit_ascii (n % b) ∷ []), digits_long b k (n / b))

tens_few : (k n : ℕ) → tens k n ≤ k
unfolding tens
tens_few zero n = omega arith
tens_few (suc k) n = go (leb (10 ^ suc k) n) (tens_few k n)
  where
    go : (b : Bool) → tens k n ≤ k → cond b (suc k) (tens k n) ≤ suc k
    go true h = omega arith
    go false h = omega arith

decimal_few : (n : ℕ) → Few (decimal n) 20
unfolding decimal
decimal_few n = record { few = omega (arith, digits_long 10 (suc (tens 19 n)) n, tens_few 19 n) }

signed_few : (z : ℤ) → Few (signed_decimal z) 21
unfolding signed_decimal
signed_few (pos n) = under 21 (decimal_few n) (omega arith)
signed_few (negsuc n) = both (written_out (ascii "-")) (decimal_few (suc n))

-- ---- fields and lines

field_few : {t : List ℕ} {n : ℕ} → Few t n → Few (field t) (1 + n)
field_few h = both (written_out (ascii " ")) h

word_few : (n : ℕ) → Few (field (decimal n)) DECIMAL
word_few n = field_few (decimal_few n)

hex_few : (n : ℕ) → Few (field (hexadecimal n)) HEXADECIMAL
unfolding hexadecimal
hex_few n = field_few {n = 16} (record { few = omega (arith, digits_long 16 16 n) })

bits_few : (x : List Float) (i : ℕ) → Few (bits_field x i) HEXADECIMAL
bits_few x i = hex_few (bits_of (get_or x i nan))

end_few : Few end 1
end_few = written_out end

pub refused_few : (n : ℕ) → Few (refused_line n) 29
unfolding refused_line
refused_few n = both (written_out (ascii "refused")) (both (word_few n) end_few)

pub counters_few : (k : FgoCounters) → Few (counters_line k) 93
unfolding counters_line
counters_few k =
    both (written_out (ascii "counters"))
    (both (word_few k.swaps) (both (word_few k.merges) (both (word_few k.splits) (both (word_few k.drops) end_few))))

pub counted_few : (k : Result FgoCounters Refusal) → Few (counted_line k) 93
unfolding counted_line
counted_few (Ok k) = counters_few k
counted_few (Err r) = under 93 (refused_few (number_of r)) (omega arith)

pub opened_few : Few opened_line 7
opened_few = written_out opened_line

pub digest_few : (a b c : ℕ) → Few (digest_line a b c) 58
unfolding digest_line
digest_few a b c = both (written_out (ascii "digest")) (both (hex_few a) (both (hex_few b) (both (hex_few c) end_few)))

pub bad_few : Few bad_line 9
bad_few = written_out bad_line

frame_few : (w : List ℕ) → Few (frame_line w) 70
unfolding frame_line
frame_few w =
    both (written_out (ascii "frame"))
    (both (field_few (signed_few (time w))) (both (word_few (track_count w)) (both (word_few (association_count w)) end_few)))

position_few : (x : List Float) (i : ℕ) → Few (position x i) 51
unfolding position
position_few x i = both (bits_few x (STATE * i)) (both (bits_few x (STATE * i + 1)) (bits_few x (STATE * i + 2)))

track_few : (w : List ℕ) (x : List Float) (i : ℕ) → Few (track_line w x i) 142
unfolding track_line
track_few w x i =
    both (written_out (ascii "track"))
    (both (word_few (id_word w i))
    (both (word_few (lifecycle_word w i)) (both (field_few (signed_few (age w i))) (both (word_few (count_word w i)) (both (position_few x i) end_few)))))

assoc_few : (w : List ℕ) (o : ℕ) → Few (assoc_line w o) 69
unfolding assoc_line
assoc_few w o =
    both (written_out (ascii "assoc"))
    (both (word_few (get_or w o 0)) (both (word_few (get_or w (o + 1) 0)) (both (word_few (get_or w (o + 2) 0)) end_few)))

-- ---- frames

short_few : (w : List ℕ) (x : List Float) → Counts w → Few (short_form w x) TEXT
unfolding short_form
short_few w x h =
    let t = texts_few (track_line w x) 142 (track_few w x) (track_count w) in
    let a = texts_few (assoc_of w) 69 (λ j. assoc_few w (associations_from w + LINK * j)) (association_count w) in
    under TEXT (both (frame_few w) (both t a)) (omega (arith, h.tracks, h.associations))

full_few : (w : List ℕ) (x : List Float) → length w ≤ WORDS → length x ≤ NUMBERS → Few (full_form w x) TEXT
unfolding full_form words_line numbers_line
full_few w x h k =
    let t = both (texts_few (word_field w) DECIMAL (λ i. word_few (get_or w i 0)) (length w)) end_few in
    let a = both (texts_few (bits_field x) HEXADECIMAL (bits_few x) (length x)) end_few in
    under TEXT (both (both (written_out (ascii "words")) t) (both (written_out (ascii "numbers")) a)) (omega arith)

-- ---- answers

module _ (ws : List ℕ) (xs : List Float) where
  pub full_answer_few : (a : Answer) → Shown a ws xs → Few (full_answer a ws xs) TEXT
  unfolding full_answer
  full_answer_few (Refused n) h = under TEXT (refused_few n) (omega arith)
  full_answer_few Held h = record { few = omega arith }
  full_answer_few (Frame w x) h =
      full_few (take w ws) (take x xs) (omega (arith, length-take w ws, h.wide)) (omega (arith, length-take x xs, h.deep))

  pub short_answer_few : (a : Answer) → Counted a ws → Few (short_answer a ws xs) TEXT
  unfolding short_answer
  short_answer_few (Refused n) h = under TEXT (refused_few n) (omega arith)
  short_answer_few Held h = record { few = omega arith }
  short_answer_few (Frame w x) h = short_few (take w ws) (take x xs) h

  pub call_answer_few : (a : Answer) → Shown a ws xs → Few (call_answer a ws xs) TEXT
  unfolding call_answer
  call_answer_few (Refused n) h = full_answer_few (Refused n) h
  call_answer_few Held h = under TEXT (written_out (ascii "held\n")) (omega arith)
  call_answer_few (Frame w x) h = full_answer_few (Frame w x) h

-- ---- a text that fits stands whole at the front of the buffer

pub ready : {text l l' : List ℕ} {r : ℕ} {most : ℕ} → Puts text 0 l l' r → Few text most → most ≤ length l → Ready text l' r
unfolding over
ready {text} {l} {l'} {r} p few room =
    let e : r ≡ length text = omega (arith, p.fits (omega (arith, few.few))) in
    let g : l' ≡ text ++ drop (0 + length text) l = p.written ∙ put_whole text 0 l (omega (arith, few.few)) in
    let k : length l' ≡ length l = ap length p.written ∙ put_long text 0 l in
    record {
      within = omega (arith, few.few);
      stands = (λ i. take (e i) (g i)) ∙ take-append_seam text (drop (0 + length text) l);
    }
