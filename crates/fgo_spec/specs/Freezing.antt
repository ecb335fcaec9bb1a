-- Document 01, "fgo.rs: freezing". Definitions only.
use Rattle.std.specs.Prelude.{ℕ, zero, suc, ◌-◌, Bool, ◌||◌, length, drop, ℤ, pos, ◌-ℤ◌, Float, None, Some}
use mathlib.Core.List.{List, [], ◌∷◌, ◌++◌, foldl}
use Rattle.std.proofs.Math.Option.{Option, none, some}
use Rattle.std.specs.Int.Signed.{le_z}
use Rattle.std.specs.Float.{binary64}
use Rattle.std.specs.Float.Ieee.{add, div, of_bits, of_int}
use Rattle.bounds.specs.Bounds.{HEIGHTS}
use Rattle.scalar.specs.Scalar.{seconds_of}
use Rattle.engine.specs.declared.config.FgoConfig.{FgoConfig}
use Rattle.engine.specs.declared.types.Association.{Association}
use Rattle.engine.specs.Config.{density, variance, coast, forget_after}
use Rattle.engine.specs.Frame.{Frame, ClassLabel}
use Rattle.kf.specs.declared.filter.Kf.{Kf}
use Rattle.kf.specs.Filter.{started, worked}
use Rattle.fgo_spec.specs.Lists.{keep, has, find, put}
use Rattle.fgo_spec.specs.Windows.{Scan, Detection, Prefix, detection_of, noise, present}

-- the plain filter at its first observation
abbrev pub start_at : FgoConfig → Detection → Kf
start_at c d = started d.x d.y (seconds_of d.time) (noise c d) (variance c)

-- "Track work is: predict to a time, then update with a position"
abbrev pub move_on : FgoConfig → Kf → Detection → Kf
move_on c k d = (worked k (seconds_of d.time) (density c) d.x d.y (noise c d)).kf

-- "A track keeps its last five heights"
abbrev pub recent : List Float → List Float
recent hs = drop (length hs - HEIGHTS) hs

-- "their mean adds them oldest first, beginning with the oldest itself"
unfoldable pub mean : List Float → Float
mean [] = of_bits binary64 0
mean (h ∷ hs) = div binary64 (foldl (add binary64) h hs) (of_int binary64 (pos (length (h ∷ hs))))

-- "A track's class is the newest one known"
abbrev pub newer : ClassLabel → ClassLabel → ClassLabel
newer None k = k
newer (Some n) k = Some n

-- "The frozen filter moves on by one detection, or starts from it where the track had no frozen part"
unfoldable pub freeze : FgoConfig → Option Prefix → Detection → Prefix
freeze c none d =
    record { kf = start_at c d; last_frame = d.scan; last_ns = d.time; count = 1; heights = d.z ∷ []; class = d.class }
freeze c (some p) d =
    record {
      kf = move_on c p.kf d;
      last_frame = d.scan;
      last_ns = d.time;
      count = suc p.count;
      heights = recent (p.heights ++ (d.z ∷ []));
      class = newer d.class p.class;
    }

-- one detection of scan n is frozen into the track that has it; clutter into none
abbrev pub freeze_one : FgoConfig → ℕ → Frame → List (ℕ × Prefix) → Association → ℕ → List (ℕ × Prefix)
freeze_one c n f ps a zero = ps
freeze_one c n f ps a (suc i) = put (suc i) (freeze c (find (suc i) ps) (detection_of n f a)) ps

-- those of all associations, in order
unfoldable pub freeze_all : FgoConfig → ℕ → Frame → List Association → List ℕ → List (ℕ × Prefix) → List (ℕ × Prefix)
freeze_all c n f [] is ps = ps
freeze_all c n f (a ∷ l) [] ps = ps
freeze_all c n f (a ∷ l) (i ∷ is) ps = freeze_all c n f l is (freeze_one c n f ps a i)

-- "the oldest one leaves and its detections are frozen into their tracks"
abbrev pub freeze_scan : FgoConfig → ℕ → Scan → List (ℕ × Prefix) → List (ℕ × Prefix)
freeze_scan c n s ps = freeze_all c n s.frame s.frame.associations s.ids ps

-- the age of a frozen part at a time
abbrev pub age_of : ℤ → Prefix → ℤ
age_of now p = now -ℤ p.last_ns

-- "the tracks that have a frozen part and an age of at most coast_ns"
abbrev pub listable : FgoConfig → ℤ → ℕ × Prefix → Bool
listable c now e = le_z (age_of now e.1) (coast c)

-- the track has a window, or an age that is not above forget_after_ns
abbrev pub kept : FgoConfig → ℤ → List Scan → ℕ × Prefix → Bool
kept c now ss e = has e.0 (present ss) || le_z (age_of now e.1) (forget_after c)

-- "After the listing, the tracks that have no window and an age above forget_after_ns are removed"
unfoldable pub remember : FgoConfig → ℤ → List Scan → List (ℕ × Prefix) → List (ℕ × Prefix)
remember c now ss ps = keep (kept c now ss) ps
