-- "Floats are f64, each operation rounded once, in the order written": f64 as an arithmetic. Definitions only.
use Rattle.std.specs.Prelude.{from_bits, Float}
use Rattle.std.specs.Float.Ieee as Ieee
use Rattle.std.specs.Float.{nan, binary64}
use Rattle.scalar.specs.Num.{Num}
use Rattle.scalar.specs.Ln.{ln_of}
use Rattle.scalar.specs.Root.{root_of}

-- the operations and constants of f64; pi is document 01's
abbrev pub f64 : Num
f64 =
    record {
      F = Float;
      add = Ieee.add binary64;
      sub = Ieee.sub binary64;
      mul = Ieee.mul binary64;
      div = Ieee.div binary64;
      ln = ln_of;
      root = root_of;
      lt = Ieee.lt;
      le = Ieee.le;
      zero = from_bits binary64 0;
      half = from_bits binary64 0x3fe0_0000_0000_0000;
      one = from_bits binary64 0x3ff0_0000_0000_0000;
      two = from_bits binary64 0x4000_0000_0000_0000;
      three = from_bits binary64 0x4008_0000_0000_0000;
      -- "Pi is 3.141592653589793"
      pi = from_bits binary64 0x4009_21fb_5444_2d18;
      past = nan;
    }
