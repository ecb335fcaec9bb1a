-- Texts put into a buffer, one after the other; and numbers as text. Assumes nothing.
use Prim.Native.Nat.{ℕ, zero, suc, ◌+◌, ◌-◌, ◌%◌, ◌^◌, ◌≤◌, ◌<◌}
use native.Mathlib.Nat.{zero-lt-suc, pow-le-pow_right}
use native.Mathlib.Numerals.{add-one}
use native.Mathlib.Omega.{arith}
use mathlib.Core.Path.{◌≡◌, refl, sym, ap, subst, ◌∙◌}
use mathlib.Core.Bool.{Bool, true, false, cond}
use mathlib.Core.List.{List, [], ◌++◌}
use lib.ListN.{length, take, length-append, length-take}
use lib.Seq.{take_all, take-nil, take-append-le, take-append-add}
use borrow.Author.Tests.{lt-ltb, le-ltb, leb-true, leb-false}
use lib.Dec.{leb, ltb}
use Rattle.io.specs.Digits.{last_digits, IsDigitCount}
use Rattle.scalar.specs.Scalar.{signed}
use Rattle.buffers.specs.Buffers.{over}
use Rattle.buffers.proofs.Over.{length_over, over-more}
use Rattle.buffers.proofs.Writes.{written_none}
use Rattle.print.specs.Text.{ascii, put, Puts, tens, decimal, signed_decimal, hexadecimal, texts}

-- ---- a text, where there is room for all of it and where there is for nothing

module _ (text : List ℕ) (n : ℕ) (l : List ℕ) where
  pub put_whole : n + length text ≤ length l → put n text l ≡ over n text l
  unfolding put
  put_whole h = ap (λ (t : List ℕ). over n t l) (take_all (length l - n) text (omega arith))

  pub put_nothing : length l ≤ n → put n text l ≡ l
  unfolding put
  put_nothing h =
      let z : length l - n ≡ 0 = omega arith in
      ap (λ (k : ℕ). over n (take k text) l) z ∙ sym (written_none n l).written

  -- the buffer stays as long as it was
  pub put_long : length (put n text l) ≡ length l
  unfolding put
  put_long = go (leb n (length l)) refl
    where
      go : (b : Bool) → leb n (length l) ≡ b → length (put n text l) ≡ length l
      go true e = length_over n (take (length l - n) text) l (omega (arith, leb-true n (length l) e, length-take (length l - n) text))
      go false e = ap length (put_nothing (omega (arith, leb-false n (length l) e)))

  -- what is put then, and where it ends
  pub puts_nothing : length l < n → Puts text n l l n
  puts_nothing h = record { written = sym (put_nothing (omega arith)); fits = λ g. omega arith; past = λ g. h }

  pub puts_part : {l' : List ℕ} → length l - n < length text → l' ≡ over n (take (length l - n) text) l → Puts text n l l' (length l' + 1)
  unfolding put
  puts_part {l'} h e =
      let k : length l' ≡ length l = ap length e ∙ put_long in
      record { written = e; fits = λ g. omega arith; past = λ g. omega arith }

  pub puts_whole : {l' : List ℕ} → n + length text ≤ length l → l' ≡ over n text l → Puts text n l l' (n + length text)
  puts_whole h e = record { written = e ∙ sym (put_whole h); fits = λ g. refl; past = λ g. g }

-- ---- one text after another

module _ (a b : List ℕ) (n : ℕ) (l : List ℕ) where
  -- there is room for a
  after-whole : n + length a ≤ length l → put (n + length a) b (put n a l) ≡ put n (a ++ b) l
  unfolding put
  after-whole h =
      let L : ℕ = length l in
      let k : ℕ = L - (n + length a) in
      let e : put n a l ≡ over n a l = put_whole a n l h in
      let g : length (over n a l) ≡ L = length_over n a l h in
      let s : L - n ≡ length a + k = omega arith in
      let t : take (L - n) (a ++ b) ≡ a ++ take k b = ap (λ (i : ℕ). take i (a ++ b)) s ∙ take-append-add a b k in
      ap (put (n + length a) b) e
      ∙ ap (λ (i : ℕ). over (n + length a) (take (i - (n + length a)) b) (over n a l)) g
      ∙ over-more n a l h (take k b)
      ∙ ap (λ (x : List ℕ). over n x l) (sym t)

  -- there is none for all of a
  after-part : length l < n + length a → {m : ℕ} → length l < m → put m b (put n a l) ≡ put n (a ++ b) l
  unfolding put
  after-part h {m} g =
      let k : length l - n ≤ length a = omega arith in
      put_nothing b m (put n a l) (omega (arith, put_long a n l))
      ∙ ap (λ (x : List ℕ). over n x l) (sym (take-append-le (length l - n) a b k))

  after : {m : ℕ} → (n + length a ≤ length l → m ≡ n + length a) → (length l < n + length a → length l < m) → put m b (put n a l) ≡ put n (a ++ b) l
  after {m} f g = go (leb (n + length a) (length l)) refl
    where
      go : (t : Bool) → leb (n + length a) (length l) ≡ t → put m b (put n a l) ≡ put n (a ++ b) l
      go true e = let h = leb-true (n + length a) (length l) e in ap (λ (i : ℕ). put i b (put n a l)) (f h) ∙ after-whole h
      go false e = let h = leb-false (n + length a) (length l) e in after-part h (g h)

-- nothing
pub puts_none : (n : ℕ) (l : List ℕ) → Puts [] n l l n
unfolding put
puts_none n l =
    let e : take (length l - n) [] ≡ [] = take-nil (length l - n) in
    record { written = (written_none n l).written ∙ ap (λ (t : List ℕ). over n t l) (sym e); fits = λ h. omega arith; past = λ h. omega arith }

-- b after a
pub puts_more : {a b : List ℕ} {n m r : ℕ} {l l' l'' : List ℕ} → Puts a n l l' m → Puts b m l' l'' r → Puts (a ++ b) n l l'' r
puts_more {a} {b} {n} {m} {r} {l} {l'} {l''} p q =
    let k : length l' ≡ length l = ap length p.written ∙ put_long a n l in
    let s = length-append a b in
    record {
      written = q.written ∙ ap (put m b) p.written ∙ after a b n l p.fits p.past;
      fits = λ h. let e = p.fits (omega arith) in omega (arith, e, q.fits (omega arith));
      past = λ h. go h (leb (n + length a) (length l)) refl;
    }
  where
    go : length l < n + length (a ++ b) → (t : Bool) → leb (n + length a) (length l) ≡ t → length l < r
    go h true e =
        let k : length l' ≡ length l = ap length p.written ∙ put_long a n l in
        let d = p.fits (leb-true (n + length a) (length l) e) in
        omega (arith, q.past (omega (arith, length-append a b)))
    go h false e =
        let k : length l' ≡ length l = ap length p.written ∙ put_long a n l in
        let d = p.past (leb-false (n + length a) (length l) e) in
        omega (arith, q.past (omega arith))

-- the same text, said otherwise
pub puts_same : {a b : List ℕ} {n r : ℕ} {l l' : List ℕ} → a ≡ b → Puts a n l l' r → Puts b n l l' r
puts_same {a} {b} {n} {r} {l} {l'} e p = subst (λ (t : List ℕ). Puts t n l l' r) e p

-- ---- a loop that has put the first i of many texts

pub record Put (f : ℕ → List ℕ) (many n : ℕ) (l : List ℕ) (i : ℕ) (l' : List ℕ) (at : ℕ) : Type 0 where
  pub some : i ≤ many
  pub puts : Puts (texts f i) n l l' at
  pub long : length l' ≡ length l

module _ {f : ℕ → List ℕ} {many n : ℕ} {l : List ℕ} where
  pub put_none : Put f many n l 0 l n
  unfolding texts
  put_none = record { some = omega arith; puts = puts_none n l; long = refl }

  pub put_next :
      {i : ℕ} {l' l'' : List ℕ} {at r : ℕ} → Put f many n l i l' at → i < many → Puts (f i) at l' l'' r → Put f many n l (i + 1) l'' r
  unfolding texts
  put_next {i} {l'} {l''} {at} {r} p h q =
      record {
        some = omega arith;
        puts = subst (λ (x : ℕ). Puts (texts f x) n l l'' r) (sym (add-one i)) (puts_more p.puts q);
        long = ap length q.written ∙ put_long (f i) at l' ∙ p.long;
      }

  pub put_all : {i : ℕ} {l' : List ℕ} {at : ℕ} → Put f many n l i l' at → many ≤ i → Puts (texts f many) n l l' at
  put_all {i} {l'} {at} p h = let e : i ≡ many = omega (arith, p.some) in subst (λ (x : ℕ). Puts (texts f x) n l l' at) e p.puts

-- ---- numbers as text

-- the fewest digits that hold n are as many as its powers of ten tell
fewest_tens : (m n k : ℕ) → IsDigitCount 10 1 n k → k ≤ suc m → k ≡ suc (tens m n)
unfolding tens
fewest_tens zero n k h l = omega (arith, h.0)
fewest_tens (suc m) n k h l = go (fewest_tens m n k h) (leb (10 ^ suc m) n) refl (leb k (suc m)) refl
  where
    go : (k ≤ suc m → k ≡ suc (tens m n)) → (a : Bool) → leb (10 ^ suc m) n ≡ a → (b : Bool) → leb k (suc m) ≡ b → k ≡ suc (cond a (suc m) (tens m n))
    go f true e true d =
        let g : 10 ^ k ≤ 10 ^ suc m = pow-le-pow_right (zero-lt-suc 9) (leb-true k (suc m) d) in
        omega (arith, g, leb-true (10 ^ suc m) n e, h.1)
    go f true e false d = omega (arith, leb-false k (suc m) d, l)
    go f false e true d = f (leb-true k (suc m) d)
    go f false e false d =
        let s : k ≡ suc (suc m) = omega (arith, leb-false k (suc m) d, l) in
        let z : k - 1 ≡ suc m = omega (arith, s) in
        let g : 10 ^ suc m ≤ n = subst (λ (x : ℕ). 10 ^ x ≤ n) z (h.2 (omega (arith, s))) in
        omega (arith, leb-false (10 ^ suc m) n e, g)

-- a number below b^m takes at most m digits, or the least that are asked for
digits_few : (b m least n k : ℕ) → 0 < b → IsDigitCount b least n k → n < b ^ m → least ≤ m → k ≤ m
digits_few b m least n k p h l g = go (leb k m) refl
  where
    go : (a : Bool) → leb k m ≡ a → k ≤ m
    go true e = leb-true k m e
    go false e =
        let d = leb-false k m e in
        let q : b ^ m ≤ b ^ (k - 1) = pow-le-pow_right p (omega (arith, d)) in
        omega (arith, q, l, h.2 (omega (arith, d, g)))

-- what io::decimal writes
pub decimal-text : {t : List ℕ} (n k : ℕ) → n ≤ 18446744073709551615 → IsDigitCount 10 1 n k → t ≡ last_digits 10 k n → t ≡ decimal n
unfolding decimal
decimal-text n k b h e =
    let l = digits_few 10 20 1 n k (zero-lt-suc 9) h (omega arith) (omega arith) in
    e ∙ ap (λ (x : ℕ). last_digits 10 x n) (fewest_tens 19 n k h l)

-- what io::hex writes at a width of 16
pub hex_text : {t : List ℕ} (n k : ℕ) → n ≤ 18446744073709551615 → IsDigitCount 16 16 n k → t ≡ last_digits 16 k n → t ≡ hexadecimal n
unfolding hexadecimal
hex_text n k b h e =
    let l = digits_few 16 16 16 n k (zero-lt-suc 15) h (omega arith) (omega arith) in
    let s : k ≡ 16 = omega (arith, h.0, l) in
    e ∙ ap (λ (x : ℕ). last_digits 16 x n) s

-- a word below 2^63 is that number
pub signed_low : (w : ℕ) → w < 9223372036854775808 → signed_decimal (signed w) ≡ decimal w
unfolding signed_decimal
signed_low w h = let e : ltb w 9223372036854775808 ≡ true = lt-ltb w 9223372036854775808 h in rw e refl

-- any other is as far below 0 as it is below 2^64
pub signed_high :
    (w m : ℕ) → 9223372036854775808 ≤ w → w < 18446744073709551616 → m < 18446744073709551616 → (m + w) % 18446744073709551616 ≡ 0
    → signed_decimal (signed w) ≡ ascii "-" ++ decimal m
unfolding signed_decimal
signed_high w m h l k z =
    let e : ltb w 9223372036854775808 ≡ false = le-ltb w 9223372036854775808 h in
    let g : suc (18446744073709551616 - suc w) ≡ m = omega arith in
    rw (e, g) refl
