-- An arithmetic: a type of numbers with the operations of the filter and of the backward pass, and their constants; and
-- what exact arithmetic is.
-- The filter and the smoother are defined over any arithmetic. At f64 they are what the code computes; at an exact one
-- they are the textbook's. Definitions only.
use Rattle.std.specs.Prelude.{◌≡◌, Bool, true, ◌≢◌}

-- operations, comparisons and constants
pub record Num : Type 1 where
  pub F : Type 0
  pub add : F → F → F
  pub sub : F → F → F
  pub mul : F → F → F
  pub div : F → F → F
  pub ln : F → F
  pub root : F → F
  pub lt : F → F → Bool
  pub le : F → F → Bool
  pub zero : F
  pub half : F
  pub one : F
  pub two : F
  pub three : F
  pub pi : F
  -- what a list gives past its end
  pub past : F

-- a field: sums, differences, products and quotients are exact, and the constants are what their names say
pub record Field (N : Num) : Type 0 where
  pub add_assoc : (a b c : N.F) → N.add (N.add a b) c ≡ N.add a (N.add b c)
  pub add_comm : (a b : N.F) → N.add a b ≡ N.add b a
  pub add_zero : (a : N.F) → N.add a N.zero ≡ a
  pub sub_add : (a b : N.F) → N.add (N.sub a b) b ≡ a
  pub mul_assoc : (a b c : N.F) → N.mul (N.mul a b) c ≡ N.mul a (N.mul b c)
  pub mul_comm : (a b : N.F) → N.mul a b ≡ N.mul b a
  pub one_mul : (a : N.F) → N.mul N.one a ≡ a
  pub mul_add : (a b c : N.F) → N.mul a (N.add b c) ≡ N.add (N.mul a b) (N.mul a c)
  pub div_mul : (a b : N.F) → (b ≢ N.zero) → N.mul (N.div a b) b ≡ a
  pub two_is : N.two ≡ N.add N.one N.one
  pub three_is : N.three ≡ N.add N.two N.one
  pub half_is : N.mul N.half N.two ≡ N.one

-- which numbers are above 0: products of such are, and nothing is asked of sums
pub record Above (N : Num) : Type 0 where
  pub not_zero : (a : N.F) → N.lt N.zero a ≡ true → a ≢ N.zero
  pub mul_above : (a b : N.F) → N.lt N.zero a ≡ true → N.lt N.zero b ≡ true → N.lt N.zero (N.mul a b) ≡ true
  pub two_above : N.lt N.zero N.two ≡ true
  pub three_above : N.lt N.zero N.three ≡ true

-- what is above 0 has a root above 0, and that of a square is the number that was squared, if it is above 0
pub record Roots (N : Num) : Type 0 where
  pub root_mul : (a : N.F) → N.lt N.zero a ≡ true → N.mul (N.root a) (N.root a) ≡ a
  pub root_above : (a : N.F) → N.lt N.zero a ≡ true → N.lt N.zero (N.root a) ≡ true
  pub root_square : (a : N.F) → N.lt N.zero a ≡ true → N.root (N.mul a a) ≡ a

-- exact arithmetic: as far as the laws of the filter and the smoother need it
pub record Exact (N : Num) : Type 0 where
  pub field : Field N
  pub above : Above N
  pub roots : Roots N
