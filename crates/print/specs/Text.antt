-- Document 01, "Recording and print": what the programs print, as bytes, in the words and numbers of a frame.
-- Definitions only.
use Rattle.std.specs.Prelude.{ℕ, zero, suc, ◌+◌, ◌-◌, ◌*◌, ◌^◌, ◌≤◌, ◌<◌, ◌≡◌, cond, leb, ℤ, pos, negsuc}
use Rattle.std.specs.Prelude.{List, [], ◌∷◌, ◌++◌, length, take, get_or, Float, Result, Ok, Err}
use Prim.Native.String.{String}
use Prim.Native.Char.{code}
use Rattle.std.specs.Float.{nan}
use Rattle.io.specs.Digits.{last_digits}
use Rattle.bounds.specs.Bounds.{HEAD, TRACK, LINK, STATE}
use Rattle.buffers.specs.Buffers.{over}
use Rattle.scalar.specs.Scalar.{bits_of, signed}
use Rattle.smoother_frame.specs.Frame.{time, track_count, association_count, associations_from, id_word, lifecycle_word, count_word}
use Rattle.fgo_spec.specs.declared.moves.FgoCounters.{FgoCounters}
use Rattle.refusals.specs.declared.Refusal.{Refusal}
use Rattle.refusals.specs.Refusals.{number_of}
use Rattle.buffers.specs.Answer.{Answer, Refused, Held, Frame}

-- ---- a text in a lent buffer

-- a text of ASCII characters, as its bytes
abbrev pub ascii : String → List ℕ
ascii String.[] = []
ascii (String.◌∷◌ c s) = code c ∷ ascii s

-- as much of a text as there is room for, put over the list l from place n on
unfoldable pub put : ℕ → List ℕ → List ℕ → List ℕ
put n text l = over n (take (length l - n) text) l

-- a text is put over the list l from place n on, which leaves l'; r is the place where it ends, or past the list where
-- there is no room for all of it
pub record Puts (text : List ℕ) (n : ℕ) (l l' : List ℕ) (r : ℕ) : Type 0 where
  pub written : l' ≡ put n text l
  pub fits : n + length text ≤ length l → r ≡ n + length text
  pub past : length l < n + length text → length l < r

-- a text stands in the bytes up to a place, ready to be written
pub record Ready (text : List ℕ) (out : List ℕ) (end : ℕ) : Type 0 where
  pub within : end ≤ length out
  pub stands : take end out ≡ text

-- ---- numbers as text

-- the greatest of 0 to k whose power of ten is at most n, 0 for none
unfoldable pub tens : ℕ → ℕ → ℕ
tens zero n = 0
tens (suc k) n = cond (leb (10 ^ suc k) n) (suc k) (tens k n)

-- a number below 10^20 in decimal, in as few digits as hold it
unfoldable pub decimal : ℕ → List ℕ
decimal n = last_digits 10 (suc (tens 19 n)) n

-- "Times and ages print signed": a minus before a number below 0
unfoldable pub signed_decimal : ℤ → List ℕ
signed_decimal (pos n) = decimal n
signed_decimal (negsuc n) = ascii "-" ++ decimal (suc n)

-- "bits in hexadecimal": 16 digits
unfoldable pub hexadecimal : ℕ → List ℕ
hexadecimal n = last_digits 16 16 n

-- ---- lines: a name, fields, an end

-- a field stands after a space
abbrev pub field : List ℕ → List ℕ
field t = ascii " " ++ t

-- word i in decimal
abbrev pub word_field : List ℕ → ℕ → List ℕ
word_field w i = field (decimal (get_or w i 0))

-- word i in decimal, signed
abbrev pub signed_field : List ℕ → ℕ → List ℕ
signed_field w i = field (signed_decimal (signed (get_or w i 0)))

-- the bits of number i in hexadecimal
abbrev pub bits_field : List Float → ℕ → List ℕ
bits_field x i = field (hexadecimal (bits_of (get_or x i nan)))

-- the end of a line
abbrev pub end : List ℕ
end = ascii "\n"

-- the texts of 0 to n - 1, one after the other
unfoldable pub texts : (ℕ → List ℕ) → ℕ → List ℕ
texts f zero = []
texts f (suc n) = texts f n ++ f n

-- "prints `refused N`"
unfoldable pub refused_line : ℕ → List ℕ
refused_line n = ascii "refused" ++ (field (decimal n) ++ end)

-- "swaps, merges, splits, drops"
unfoldable pub counters_line : FgoCounters → List ℕ
counters_line k =
    ascii "counters"
    ++ (field (decimal k.swaps)
    ++ (field (decimal k.merges) ++ (field (decimal k.splits) ++ (field (decimal k.drops) ++ end))))

-- the line of the counters, or of a refusal
unfoldable pub counted_line : Result FgoCounters Refusal → List ℕ
counted_line (Ok k) = counters_line k
counted_line (Err r) = refused_line (number_of r)

-- "`opened`"
abbrev pub opened_line : List ℕ
opened_line = ascii "opened\n"

-- "`digest` and three numbers of 16 hexadecimal digits"
unfoldable pub digest_line : ℕ → ℕ → ℕ → List ℕ
digest_line a b c = ascii "digest" ++ (field (hexadecimal a) ++ (field (hexadecimal b) ++ (field (hexadecimal c) ++ end)))

-- "`bad call`"
abbrev pub bad_line : List ℕ
bad_line = ascii "bad call\n"

-- ---- a frame in short

-- "Time, tracks, associations"
unfoldable pub frame_line : List ℕ → List ℕ
frame_line w =
    ascii "frame"
    ++ (field (signed_decimal (time w)) ++ (field (decimal (track_count w)) ++ (field (decimal (association_count w)) ++ end)))

-- "age" of track i
abbrev pub age : List ℕ → ℕ → ℤ
age w i = signed (get_or w (HEAD + TRACK * i + 3) 0)

-- "position bits in hexadecimal", of track i
unfoldable pub position : List Float → ℕ → List ℕ
position x i = bits_field x (STATE * i) ++ (bits_field x (STATE * i + 1) ++ bits_field x (STATE * i + 2))

-- "id, lifecycle, age, count, position bits in hexadecimal", of track i
unfoldable pub track_line : List ℕ → List Float → ℕ → List ℕ
track_line w x i =
    ascii "track"
    ++ (field (decimal (id_word w i))
    ++ (field (decimal (lifecycle_word w i))
    ++ (field (signed_decimal (age w i)) ++ (field (decimal (count_word w i)) ++ (position x i ++ end)))))

-- "index, id, outcome", of the association whose words begin at place o
unfoldable pub assoc_line : List ℕ → ℕ → List ℕ
assoc_line w o = ascii "assoc" ++ (word_field w o ++ (word_field w (o + 1) ++ (word_field w (o + 2) ++ end)))

-- that of association j
abbrev pub assoc_of : List ℕ → ℕ → List ℕ
assoc_of w j = assoc_line w (associations_from w + LINK * j)

-- a line of the frame, one of each track and one of each association
unfoldable pub short_form : List ℕ → List Float → List ℕ
short_form w x = frame_line w ++ (texts (track_line w x) (track_count w) ++ texts (assoc_of w) (association_count w))

-- ---- a frame in full

-- all its words
unfoldable pub words_line : List ℕ → List ℕ
words_line w = ascii "words" ++ (texts (word_field w) (length w) ++ end)

-- all its numbers
unfoldable pub numbers_line : List Float → List ℕ
numbers_line x = ascii "numbers" ++ (texts (bits_field x) (length x) ++ end)

-- a line of its words, and one of its numbers
unfoldable pub full_form : List ℕ → List Float → List ℕ
full_form w x = words_line w ++ numbers_line x

-- ---- an answer: the line of a refusal; nothing where a frame is held; a frame at the front of the buffers

-- with its frame in short
unfoldable pub short_answer : Answer → List ℕ → List Float → List ℕ
short_answer (Refused n) ws xs = refused_line n
short_answer Held ws xs = []
short_answer (Frame w x) ws xs = short_form (take w ws) (take x xs)

-- with its frame in full
unfoldable pub full_answer : Answer → List ℕ → List Float → List ℕ
full_answer (Refused n) ws xs = refused_line n
full_answer Held ws xs = []
full_answer (Frame w x) ws xs = full_form (take w ws) (take x xs)

-- with its frame in full, and `held` where one is held
unfoldable pub call_answer : Answer → List ℕ → List Float → List ℕ
call_answer (Refused n) ws xs = full_answer (Refused n) ws xs
call_answer Held ws xs = ascii "held\n"
call_answer (Frame w x) ws xs = full_answer (Frame w x) ws xs
