-- The 64-bit FNV-1a hash, and the bytes that it goes over: a word is eight bytes, least first, and a number is the word
-- of its bits. Definitions only.
use Rattle.std.specs.Prelude.{ℕ, ◌*◌, ◌/◌, ◌%◌, ◌^◌, List, [], ◌∷◌, bit_xor, Float}
use Rattle.std.specs.List.{flat_map, fold}
use Rattle.scalar.specs.Scalar.{bits_of}

-- where it begins
abbrev pub BASIS : ℕ
BASIS = 0xcbf2_9ce4_8422_2325

-- what each step multiplies by
abbrev pub PRIME : ℕ
PRIME = 0x100_0000_01b3

-- a byte more
abbrev pub mixed : ℕ → ℕ → ℕ
mixed h b = bit_xor h b * PRIME % 2 ^ 64

-- bytes more, one after the other
unfoldable pub fnv1a : ℕ → List ℕ → ℕ
fnv1a h bytes = fold mixed h bytes

-- the bytes of a word
abbrev pub word_bytes : ℕ → List ℕ
word_bytes w =
    w % 256
    ∷ w / 2 ^ 8 % 256
    ∷ w / 2 ^ 16 % 256
    ∷ w / 2 ^ 24 % 256
    ∷ w / 2 ^ 32 % 256
    ∷ w / 2 ^ 40 % 256
    ∷ w / 2 ^ 48 % 256
    ∷ w / 2 ^ 56 % 256
    ∷ []

-- those of words
abbrev pub words_bytes : List ℕ → List ℕ
words_bytes ws = flat_map word_bytes ws

-- those of numbers: a NaN is 7ff8000000000000
abbrev pub numbers_bytes : List Float → List ℕ
numbers_bytes xs = flat_map (λ x. word_bytes (bits_of x)) xs
