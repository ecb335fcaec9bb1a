-- At exact arithmetic the plain filter's update is the textbook's: S, its inverse, K, ν, x = x⁻ + K ν, P = (I − K H) P⁻
-- and the likelihood. Assumes nothing.
use mathlib.Core.Path.{◌≡◌, refl, sym, ap, ap₂, ◌∙◌}
use mathlib.Core.Bool.{true}
use Prim.Native.Nat.{ℕ, ◌+◌, ◌<◌}
use native.Mathlib.Omega.{arith}
use lib.ListN.{length, length-map, get_or}
use Rattle.scalar.specs.Num.{Num, Exact}
use Rattle.scalar.proofs.Algebra as Algebra
use Rattle.linalg.specs.Matrix.{at, unit}
use Rattle.linalg.specs.Sizes.{sum, image, prod, turned, minus, diagonal, blocks}
use Rattle.linalg.proofs.Sums.{sum_ext, sum_nought}
use Rattle.linalg.proofs.Diagonal.{diagonal_same, diagonal_other, diagonal_flip, diagonal_nought, diagonal_shift, diagonal_each, picked, picked-right}
use Rattle.linalg.proofs.Products.{prod_ext, unit_left, unit-right}
use Rattle.linalg.proofs.Blocks.{by_halves, above_left, below_left, by_blocks, blocks_same, blocks_each, blocks_product}
use Rattle.kf.specs.Plain.{Axis, Cov, Filter, Observed, Gain, along, start_axis, predict_axis, gain, innovation, update_axis, term, predict, work}
use Rattle.textbook.specs.Kalman as Kalman
use Rattle.textbook.specs.Kalman.{Same, Kalman, axis_at, estimate_of}
use Rattle.textbook.proofs.Axes.{along-at, along_long, fold-sum, position_is, speed_is}
use Rattle.textbook.proofs.Predicting.{predicts}

module _ (N : Num) (X : Exact N) where
  open N use {F, add as ◌⊕◌, sub as ◌⊖◌, mul as ◌⊗◌, div as ◌⊘◌, ln, lt, zero as nought, half, one, two, pi, past}

  infixl 60 ◌⊕◌ ◌⊖◌
  infixl 70 ◌⊗◌ ◌⊘◌
  -- multiples of the unit matrix, multiplied
  scaled : (x y : F) (i j : ℕ) → x ⊗ diagonal N y i j ≡ diagonal N (x ⊗ y) i j
  scaled x y = diagonal_each N (λ (v w : F). x ⊗ w) (Algebra.mul-zero N X x) y y

  scaled-right : (x y : F) (i j : ℕ) → diagonal N x i j ⊗ y ≡ diagonal N (x ⊗ y) i j
  scaled-right x y = diagonal_each N (λ (v w : F). v ⊗ y) (Algebra.zero-mul N X y) x x

  -- a product with Hᵀ keeps the columns of the positions
  keeps : (n : ℕ) (a : ℕ → ℕ → F) (i j : ℕ) → j < n → prod N n a (turned N (unit N)) i j ≡ a i j
  keeps n a i j h = prod_ext N X n a a (turned N (unit N)) (unit N) i j (λ k l. refl) (λ k l. diagonal_flip N one j k) ∙ unit-right N X n a i j h

  -- the unit matrix, in blocks
  unit-blocks : (n : ℕ) → Same (n + n) (n + n) (unit N) (blocks N n one nought nought one)
  unit-blocks n =
      by_blocks N n one nought nought one (unit N)
      (λ i j h g. refl)
      (λ i j h g. diagonal_other N one i (n + j) (λ e. absurd (omega arith)) ∙ sym (diagonal_nought N i j))
      (λ i j h g. diagonal_other N one (n + i) j (λ e. absurd (omega arith)) ∙ sym (diagonal_nought N i j))
      (λ i j h g. diagonal_shift N one n i j)

  -- x y + (0 − 0) w = x y, and (0 − k) d + (1 − 0) e = e − k d
  first : (x y w : F) → x ⊗ y ⊕ (nought ⊖ nought) ⊗ w ≡ x ⊗ y
  first x y w = simp (Algebra.sub-zero N X, Algebra.zero-mul N X, X.field.add_zero)

  second : (k d e : F) → (nought ⊖ k) ⊗ d ⊕ (one ⊖ nought) ⊗ e ≡ e ⊖ k ⊗ d
  second k d e =
      ap₂ ◌⊕◌ (Algebra.sub-mul N X nought k d ∙ ap (λ (w : F). w ⊖ k ⊗ d) (Algebra.zero-mul N X d)) (ap (λ (w : F). w ⊗ e) (Algebra.sub-zero N X one) ∙ X.field.one_mul e)
      ∙ X.field.add_comm (nought ⊖ k ⊗ d) e
      ∙ sym (Algebra.sub_is N X e (k ⊗ d))

  -- b − (b/s) a = (1 − a/s) b: the covariance stays symmetric
  cross : (a b s : F) → lt nought s ≡ true → b ⊖ b ⊘ s ⊗ a ≡ (one ⊖ a ⊘ s) ⊗ b
  cross a b s h =
      let turn : b ⊗ (one ⊘ s) ⊗ a ≡ a ⊗ (one ⊘ s) ⊗ b = simp (X.field.mul_assoc, X.field.mul_comm, Algebra.mul_left N X) in
      ap (λ (w : F). b ⊖ w)
      (ap (λ (w : F). w ⊗ a) (Algebra.div_is N X b s h)
      ∙ turn
      ∙ ap (λ (w : F). w ⊗ b) (sym (Algebra.div_is N X a s h)))
      ∙ sym (Algebra.sub-mul N X one (a ⊘ s) b ∙ ap (λ (w : F). w ⊖ a ⊘ s ⊗ b) (X.field.one_mul b))

  -- from the state `was` by the observation o: k is what predict makes of it
  module _ (n : ℕ) (q : F) (was : Filter F) (o : Observed F) (held : length was.axes ≡ n) (wide : length o.at ≡ n)
      (above : lt nought ((predict N q was o.t).cov.p00 ⊕ o.r) ≡ true) where
    abbrev k : Filter F
    k = predict N q was o.t

    abbrev p : Cov F
    p = k.cov

    abbrev s : F
    s = p.p00 ⊕ o.r

    abbrev g : Gain F
    g = gain N o.r p

    long : length k.axes ≡ n
    long = length-map was.axes (predict_axis N (o.t ⊖ was.t)) ∙ held

    abbrev x⁻ : ℕ → F
    x⁻ = Kalman.x⁻ N n q (estimate_of N n was) o.t

    abbrev P⁻ : ℕ → ℕ → F
    P⁻ = Kalman.P⁻ N n q (estimate_of N n was) o.t

    abbrev S : ℕ → ℕ → F
    S = Kalman.S N n q (estimate_of N n was) o.t o.r (at N o.at)

    abbrev ν : ℕ → F
    ν = Kalman.ν N n q (estimate_of N n was) o.t o.r (at N o.at)

    x-is : (i : ℕ) → i < n + n → x⁻ i ≡ (estimate_of N n k).x i
    x-is i h = sym ((predicts N X n q was o.t held).state i h)

    P-is : Same (n + n) (n + n) P⁻ (estimate_of N n k).P
    P-is i j h l = sym ((predicts N X n q was o.t held).covariance i j h l)

    above-block : Same n n P⁻ (diagonal N p.p00)
    above-block i j h l = P-is i j (omega arith) (omega arith) ∙ above_left N n p.p00 p.p01 p.p01 p.p11 i j h l

    below-block : (i j : ℕ) → i < n → j < n → P⁻ (n + i) j ≡ diagonal N p.p01 i j
    below-block i j h l = P-is (n + i) j (omega arith) (omega arith) ∙ below_left N n p.p00 p.p01 p.p01 p.p11 i j l

    -- S is s times the unit matrix
    S-is : Same n n S (diagonal N s)
    S-is i j h l =
        let h2 : i < n + n = omega arith in
        let l2 : j < n + n = omega arith in
        ap (λ (w : F). w ⊕ diagonal N o.r i j) (keeps (n + n) (prod N (n + n) (unit N) P⁻) i j l2 ∙ unit_left N X (n + n) P⁻ i j h2 ∙ above-block i j h l)
        ∙ diagonal_each N ◌⊕◌ (X.field.add_zero nought) p.p00 o.r i j

    abbrev inverse : ℕ → ℕ → F
    inverse = diagonal N (one ⊘ s)

    left : Same n n (prod N n inverse S) (unit N)
    left i j h l =
        prod_ext N X n inverse inverse S (diagonal N s) i j (λ k o. refl) (λ k o. S-is k j o l)
        ∙ picked N X (one ⊘ s) (λ k. diagonal N s k j) n i h
        ∙ scaled (one ⊘ s) s i j
        ∙ ap (λ w. diagonal N w i j) (Algebra.div_mul N X one s above)

    right : Same n n (prod N n S inverse) (unit N)
    right i j h l =
        prod_ext N X n S (diagonal N s) inverse inverse i j (λ k o. S-is i k h o) (λ k o. refl)
        ∙ picked-right N X (one ⊘ s) (diagonal N s i) n j l
        ∙ scaled-right s (one ⊘ s) i j
        ∙ ap (λ w. diagonal N w i j) (X.field.mul_comm s (one ⊘ s) ∙ Algebra.div_mul N X one s above)

    abbrev K : ℕ → ℕ → F
    K = prod N n (prod N (n + n) P⁻ (turned N (unit N))) inverse

    -- K is k0 times the unit matrix above, and k1 times it below
    K-at : (i j : ℕ) → j < n → K i j ≡ P⁻ i j ⊗ (one ⊘ s)
    K-at i j l =
        prod_ext N X n (prod N (n + n) P⁻ (turned N (unit N))) P⁻ inverse inverse i j (λ k o. keeps (n + n) P⁻ i k (omega arith)) (λ k o. refl)
        ∙ picked-right N X (one ⊘ s) (P⁻ i) n j l

    quotient : (x : F) (i j : ℕ) → diagonal N x i j ⊗ (one ⊘ s) ≡ diagonal N (x ⊘ s) i j
    quotient x i j = scaled-right x (one ⊘ s) i j ∙ ap (λ w. diagonal N w i j) (sym (Algebra.div_is N X x s above))

    K-above : Same n n K (diagonal N g.k0)
    K-above i j h l = K-at i j l ∙ ap (λ (w : F). w ⊗ (one ⊘ s)) (above-block i j h l) ∙ quotient p.p00 i j

    K-below : (i j : ℕ) → i < n → j < n → K (n + i) j ≡ diagonal N g.k1 i j
    K-below i j h l = K-at (n + i) j l ∙ ap (λ (w : F). w ⊗ (one ⊘ s)) (below-block i j h l) ∙ quotient p.p01 i j

    -- K H
    KH-is : Same (n + n) (n + n) (prod N n K (unit N)) (blocks N n g.k0 nought g.k1 nought)
    KH-is =
        by_blocks N n g.k0 nought g.k1 nought (prod N n K (unit N))
        (λ i j h l. unit-right N X n K i j l ∙ K-above i j h l)
        (λ i j h l. none i j ∙ sym (diagonal_nought N i j))
        (λ i j h l. unit-right N X n K (n + i) j l ∙ K-below i j h l)
        (λ i j h l. none (n + i) j ∙ sym (diagonal_nought N i j))
      where
        none : (i j : ℕ) → prod N n K (unit N) i (n + j) ≡ nought
        none i j =
            sum_nought N X (λ k. K i k ⊗ unit N k (n + j)) n
            (λ k o. ap (λ (w : F). K i k ⊗ w) (diagonal_other N one k (n + j) (λ e. absurd (omega arith))) ∙ Algebra.mul-zero N X (K i k))

    -- P = (I − K H) P⁻
    covariance : Same (n + n) (n + n) (estimate_of N n (work N q was o).filter).P (prod N (n + n) (minus N (unit N) (prod N n K (unit N))) P⁻)
    covariance i j h l =
        sym
        (prod_ext N X (n + n) (minus N (unit N) (prod N n K (unit N))) (blocks N n (one ⊖ g.k0) (nought ⊖ nought) (nought ⊖ g.k1) (one ⊖ nought))
        P⁻ (blocks N n p.p00 p.p01 p.p01 p.p11) i j
        (λ k o.
        ap₂ ◌⊖◌ (unit-blocks n i k h o) (KH-is i k h o)
        ∙ blocks_each N ◌⊖◌ (Algebra.sub-zero N X nought) n one nought nought one g.k0 nought g.k1 nought i k)
        (λ k o. P-is k j o l)
        ∙ blocks_product N X n (one ⊖ g.k0) (nought ⊖ nought) (nought ⊖ g.k1) (one ⊖ nought) p.p00 p.p01 p.p01 p.p11 i j h l
        ∙ blocks_same N n i j
        (first (one ⊖ g.k0) p.p00 p.p01)
        (first (one ⊖ g.k0) p.p01 p.p11)
        (second g.k1 p.p00 p.p01 ∙ cross p.p00 p.p01 s above)
        (second g.k1 p.p01 p.p11))

    -- ν, axis by axis
    ν-is : (i : ℕ) → i < n → ν i ≡ innovation N (at N o.at i) (axis_at N k i)
    ν-is i h =
        let h2 : i < n + n = omega arith in
        ap (λ (w : F). at N o.at i ⊖ w) (picked N X one x⁻ (n + n) i h2 ∙ X.field.one_mul (x⁻ i) ∙ x-is i h2 ∙ position_is N n k i h)

    abbrev after : Filter F
    after = (work N q was o).filter

    axis-is : (i : ℕ) → i < n → axis_at N after i ≡ update_axis N g (at N o.at i) (axis_at N k i)
    axis-is i h = along-at (update_axis N g) past (start_axis N past) (start_axis N past) o.at k.axes i (rw wide h) (rw long h)

    -- what a row of K adds
    adds : (c : F) (row : ℕ → F) (i : ℕ) → i < n → ((m : ℕ) → m < n → row m ≡ diagonal N c i m)
        → sum N (λ m. row m ⊗ ν m) n ≡ c ⊗ innovation N (at N o.at i) (axis_at N k i)
    adds c row i h e =
        sum_ext N X (λ m. row m ⊗ ν m) (λ m. diagonal N c i m ⊗ ν m) n (λ m o. ap (λ (w : F). w ⊗ ν m) (e m o))
        ∙ picked N X c ν n i h
        ∙ ap (λ (w : F). c ⊗ w) (ν-is i h)

    -- x = x⁻ + K ν
    state : (i : ℕ) → i < n + n → (estimate_of N n after).x i ≡ x⁻ i ⊕ image N n K ν i
    state =
        by_halves n (λ i. (estimate_of N n after).x i ≡ x⁻ i ⊕ image N n K ν i)
        (λ i h.
        position_is N n after i h
        ∙ ap (λ (a : Axis F). a.at) (axis-is i h)
        ∙ sym (ap₂ ◌⊕◌ (x-is i (omega arith) ∙ position_is N n k i h) (adds g.k0 (K i) i h (λ m o. K-above i m h o))))
        (λ i h.
        speed_is N n after i
        ∙ ap (λ (a : Axis F). a.speed) (axis-is i h)
        ∙ sym (ap₂ ◌⊕◌ (x-is (n + i) (omega arith) ∙ speed_is N n k i) (adds g.k1 (K (n + i)) i h (λ m o. K-below i m h o))))

    -- the likelihood of ν under S
    likelihood : (work N q was o).nll ≡ sum N (λ i. half ⊗ (ν i ⊗ ν i ⊘ S i i ⊕ ln (two ⊗ pi ⊗ S i i))) n
    likelihood =
        let nus = along (innovation N) o.at k.axes in
        fold-sum N X (term N s) past nought nus
        ∙ Algebra.zero-add N X (sum N (λ i. term N s (get_or nus i past)) (length nus))
        ∙ ap (sum N (λ i. term N s (get_or nus i past))) (along_long (innovation N) o.at k.axes n wide long)
        ∙ sum_ext N X (λ i. term N s (get_or nus i past)) (λ i. half ⊗ (ν i ⊗ ν i ⊘ S i i ⊕ ln (two ⊗ pi ⊗ S i i))) n
        (λ i h.
        ap₂ (λ (s nu : F). half ⊗ (nu ⊗ nu ⊘ s ⊕ ln (two ⊗ pi ⊗ s)))
        (sym (S-is i i h h ∙ diagonal_same N s i))
        (along-at (innovation N) past (start_axis N past) past o.at k.axes i (rw wide h) (rw long h) ∙ sym (ν-is i h)))

    -- track work is one step
    pub work_law : Kalman N n q (estimate_of N n was) o.t o.r (at N o.at) (estimate_of N n after) (work N q was o).nll
    work_law =
        record {
          inverse = inverse;
          left = left;
          right = right;
          K = K;
          gain = λ i j h l. refl;
          state = state;
          covariance = covariance;
          time = refl;
          apart = λ i j h l e. S-is i j h l ∙ diagonal_other N s i j e;
          likelihood = likelihood;
        }

    -- and leaves as many axes
    pub work_long : length after.axes ≡ n
    work_long = along_long (update_axis N g) o.at k.axes n wide long
