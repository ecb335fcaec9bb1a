-- The order of whole numbers, and how an age grows with time. Assumes nothing.
use Prim.Native.Nat.{ℕ, zero, suc, ◌+◌, ◌-◌, ◌≤◌, ◌<◌}
use native.Mathlib.Nat.{le_trans}
use native.Mathlib.Omega.{arith}
use mathlib.Core.Path.{◌≡◌, sym, ap, ◌∙◌, subst}
use lib.IntN.{ℤ, pos, negsuc, neg_ℤ, suc_ℤ, ◌+ℤ◌, ◌-ℤ◌, sub_ℕ, +ℤ_assoc, +ℤ_comm, +ℤ_idr, +ℤ-suc_ℤ}
use lib.Dec.{T, leb→le, le→leb}
use lib.Signed.{le_z, ◌≤ℤ◌, ≤ℤ_refl}
use borrow.Author.Tests.{lt-ltb, le-ltb}

-- one step up keeps the order
step_up : (a b : ℤ) → T (le_z a b) → T (le_z a (suc_ℤ b))
step_up (pos a) (pos b) t = le→leb a (suc b) (le_trans (leb→le a b t) (omega arith))
step_up (pos a) (negsuc b) t = absurd t
step_up (negsuc a) (pos b) t = tt
step_up (negsuc a) (negsuc zero) t = tt
step_up (negsuc a) (negsuc (suc b)) t = le→leb b a (le_trans (omega arith) (leb→le (suc b) a t))

up : (a : ℤ) (k : ℕ) → T (le_z a (a +ℤ pos k))
up a zero = rw (+ℤ_idr a) (≤ℤ_refl a).le
up a (suc k) = rw (+ℤ-suc_ℤ a (pos k)) (step_up a (a +ℤ pos k) (up a k))

trans_le : (a b c : ℤ) → T (le_z a b) → T (le_z b c) → T (le_z a c)
trans_le (pos a) (pos b) (pos c) h k = le→leb a c (le_trans (leb→le a b h) (leb→le b c k))
trans_le (pos a) (pos b) (negsuc c) h k = k
trans_le (pos a) (negsuc b) c h k = absurd h
trans_le (negsuc a) (pos b) (pos c) h k = tt
trans_le (negsuc a) (pos b) (negsuc c) h k = absurd k
trans_le (negsuc a) (negsuc b) (pos c) h k = tt
trans_le (negsuc a) (negsuc b) (negsuc c) h k = le→leb c a (le_trans (leb→le c b k) (leb→le b a h))

sub-le : (x y : ℕ) → y ≤ x → sub_ℕ x y ≡ pos (x - y)
sub-le x y h = rw (le-ltb x y h)

sub-lt : (x y : ℕ) → x < y → sub_ℕ x y ≡ negsuc (y - suc x)
sub-lt x y h = rw (lt-ltb x y h)

down : (a b : ℤ) → T (le_z a b) → (k : ℕ) × (b ≡ a +ℤ pos k)
down (pos a) (pos b) t = (b - a, ap pos (let h : a ≤ b = leb→le a b t in omega arith))
down (pos a) (negsuc b) t = absurd t
down (negsuc a) (pos b) t = (b + suc a, sym (sub-le (b + suc a) (suc a) (omega arith) ∙ ap pos (omega arith)))
down (negsuc a) (negsuc b) t =
    let h : b ≤ a = leb→le b a t in
    (a - b, sym (sub-lt (a - b) (suc a) (omega arith) ∙ ap negsuc (omega arith)))

-- the age of a thing at an earlier time is no greater
pub age_mono : (a b t c : ℤ) → a ≤ℤ b → T (le_z (b -ℤ t) c) → T (le_z (a -ℤ t) c)
age_mono a b t c h k =
    let d : (k : ℕ) × (b ≡ a +ℤ pos k) = down a b h.le in
    let e : b -ℤ t ≡ a -ℤ t +ℤ pos d.0 =
    ap (λ z. z -ℤ t) d.1 ∙ +ℤ_assoc a (pos d.0) (neg_ℤ t) ∙ ap (λ z. a +ℤ z) (+ℤ_comm (pos d.0) (neg_ℤ t)) ∙ sym (+ℤ_assoc a (neg_ℤ t) (pos d.0)) in
    trans_le (a -ℤ t) (b -ℤ t) c (subst (λ z. T (le_z (a -ℤ t) z)) (sym e) (up (a -ℤ t) d.0)) k

pub ≤ℤ_trans : {a b c : ℤ} → a ≤ℤ b → b ≤ℤ c → a ≤ℤ c
≤ℤ_trans {a} {b} {c} h k = record { le = trans_le a b c h.le k.le }
