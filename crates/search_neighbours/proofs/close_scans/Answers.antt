use mathlib.Core.Path.{◌≡◌, refl, sym, ap, ◌∙◌}
use mathlib.Core.Bool.{Bool, true, false, cond, ◌||◌, or-true}
use mathlib.Core.List.{List, [], ◌∷◌}
use Prim.Native.Nat.{ℕ, zero, suc, ◌+◌, ◌-◌, ◌≤◌, ◌<◌}
use native.Mathlib.Nat.{zero-add}
use native.Mathlib.Decide.{dec_lt}
use native.Mathlib.Omega.{arith}
use lib.ListN.{length, get_or, set, replicate, length-set}
use Rattle.std.specs.Bool.{then_some}
use lib.Seq.{ext_get_or, get_or-set_same, get_or-set_other}
use lib.Dec.{eqb-suc-zero}
use lib.Ieee.{Float, nan, inf, fin, binary64, add, sub, mul, neg, lt}
use borrow.Author.Count.{below_more}
use Rattle.bounds.specs.Bounds.{SCANS}
use Rattle.cost.specs.Cost.{dot_at}
use Rattle.fgo_spec.specs.Lists.{any}
use Rattle.fgo_spec.specs.Searching.{square}
use Rattle.kf.specs.declared.filter.Dot.{Dot}
use Rattle.search_neighbours.specs.declared.Point.{Point}
use Rattle.search_neighbours.specs.Near.{near_slots, close_slots, close_at, close_scans, any_close, point_at, near_points, close_points, CloseWithin}
use Rattle.search_rows.proofs.Filled.{map_up_length, map_up_at}
use Rattle.search_neighbours.proofs.close_scans.Invariants.{Noting}
use Rattle.search_neighbours.proofs.close_scans.Goals as goal
use Rattle.search_neighbours.proofs.close_scans.Goals.{else-close_points, then-close_points}

-- nothing is near what lies at NaN
none_near : (radius2 v w : Float) → lt (add binary64 (square (sub binary64 v nan)) w) radius2 ≡ false
unfolding sub neg mul add lt
none_near radius2 nan w = refl
none_near radius2 (inf s) w = refl
none_near radius2 (fin s m e) w = refl

-- two points are near where their entries are
near_same : (radius2 : Float) (dots : List Dot) (i j : ℕ) → near_points radius2 (point_at dots i) (point_at dots j) ≡ near_slots radius2 dots i j
unfolding near_points near_slots point_at sub mul add lt
near_same radius2 dots zero j = refl
near_same radius2 dots (suc i) zero = rw (eqb-suc-zero i) (none_near radius2 (dot_at dots (suc i - 1)).x _)
near_same radius2 dots (suc i) (suc j) = rw (eqb-suc-zero i, eqb-suc-zero j)

close_same : (radius2 : Float) (dots : List Dot) (x y nx ny : ℕ) → close_points radius2 (point_at dots x) (point_at dots y) (point_at dots nx) (point_at dots ny) ≡ close_slots radius2 dots x y nx ny
close_same radius2 dots x y nx ny = λ i. cond (near_same radius2 dots x y i) true (cond (near_same radius2 dots x ny i) true (near_same radius2 dots nx y i))

none_noted : (n m : ℕ) → get_or (replicate n false) m false ≡ false
none_noted zero m = refl
none_noted (suc n) zero = refl
none_noted (suc n) (suc m) = none_noted n m

any-set : (l : List Bool) (k : ℕ) → k < length l → any_close (set l k true) ≡ true
unfolding any
any-set [] k h = absurd (omega arith)
any-set (b ∷ l) zero h = refl
any-set (b ∷ l) (suc k) h = ap (λ (d : Bool). b || d) (any-set l k (omega arith)) ∙ or-true b

module _ {radius2 : Float} {dots : List Dot} {a b : List ℕ} {from to : ℕ} (w : CloseWithin radius2 dots a b from to) where
  noting-start : {x y : Point} → x ≡ point_at dots (get_or a from 0) → y ≡ point_at dots (get_or b from 0) → Noting radius2 dots a b (replicate SCANS false) false from x y
  unfolding any
  noting-start x y = record { long = refl; noted = λ m h. none_noted SCANS m ∙ sym (w.before m h); left = λ m h. none_noted SCANS m; any = refl; mine = x; theirs = y }

  module _ {close : List Bool} {found : Bool} {k : ℕ} {x y nx ny : Point} (o : Noting radius2 dots a b close found k x y) (h : k < to) (n : nx ≡ point_at dots (get_or a (k + 1) 0)) (m : ny ≡ point_at dots (get_or b (k + 1) 0)) {r : Bool} (e : r ≡ close_points radius2 x y nx ny) where
    at-scan : r ≡ close_at radius2 dots a b k
    unfolding close_at
    at-scan = e ∙ (λ i. close_points radius2 (o.mine i) (o.theirs i) (n i) (m i)) ∙ close_same radius2 dots (get_or a k 0) (get_or b k 0) (get_or a (k + 1) 0) (get_or b (k + 1) 0)

    -- the rows are close in scan k
    noting-close : r ≡ true → Noting radius2 dots a b (set close k true) true (k + 1) nx ny
    noting-close c =
        record {
          long = length-set close k true ∙ o.long;
          noted =
              below_more (λ (j : ℕ). get_or (set close k true) j false ≡ close_at radius2 dots a b j) k
              (λ j g. get_or-set_other close k j true false (λ (z : j ≡ k). omega arith) ∙ o.noted j g)
              (get_or-set_same close k true false (omega (arith, o.long, w.few)) ∙ sym c ∙ at-scan);
          left = λ j g. get_or-set_other close k j true false (λ (z : j ≡ k). omega arith) ∙ o.left j (omega arith);
          any = sym (any-set close k (omega (arith, o.long, w.few)));
          mine = n;
          theirs = m;
        }

    noting-apart : r ≡ false → Noting radius2 dots a b close found (k + 1) nx ny
    noting-apart c =
        record {
          long = o.long;
          noted = below_more (λ (j : ℕ). get_or close j false ≡ close_at radius2 dots a b j) k o.noted (o.left k (omega arith) ∙ sym c ∙ at-scan);
          left = λ j g. o.left j (omega arith);
          any = o.any;
          mine = n;
          theirs = m;
        }

  noting-done : {close : List Bool} {found : Bool} {k : ℕ} {x y : Point} → Noting radius2 dots a b close found k x y → to ≤ k → close ≡ close_scans radius2 dots a b
  unfolding close_scans
  noting-done {close} {found} {k} o h =
      ext_get_or false close (close_scans radius2 dots a b) (o.long ∙ sym (map_up_length (close_at radius2 dots a b) 0 SCANS))
      (λ m g. each m (dec_lt m k) ∙ sym (map_up_at (close_at radius2 dots a b) 0 SCANS m false (omega (arith, o.long)) ∙ ap (close_at radius2 dots a b) (zero-add m)))
    where
      each : (m : ℕ) → Dec (m < k) → get_or close m false ≡ close_at radius2 dots a b m
      each m (yes l) = o.noted m l
      each m (no l) = o.left m (omega arith) ∙ sym (w.after m (omega arith))

pub loop-k-init : goal.loop-k-init
loop-k-init c = noting-start c.requires (c.point_at-x.ensures ∙ ap (point_at _) c.byte_at.ensures.value) (c.point_at-y.ensures ∙ ap (point_at _) c.byte_at-2.ensures.value)

pub loop-k-preserved : goal.loop-k-preserved
loop-k-preserved c =
    let o = c.loop-k in
    let t = c.loop-k-test.true in
    let r = c.close_points.ensures in
    let n = c.point_at-nx.ensures ∙ ap (point_at _) c.byte_at-in-loop-k.ensures.value in
    let m = c.point_at-ny.ensures ∙ ap (point_at _) c.byte_at-in-loop-k-2.ensures.value in
    elim c.if-close_points.branch [
      | then-close_points w ↦ rw (w.close-is, w.found-is) (noting-close c.requires o.invariant t n m r w.if-close_points.true)
      | else-close_points w ↦ rw (w.close-is, w.found-is) (noting-apart c.requires o.invariant t n m r w.if-close_points.false)
    ]

pub returns : goal.returns
returns c =
    let o = c.loop-k.invariant in
    let d = noting-done c.requires o c.loop-k-test.false in
    c.then_some.ensures ∙ (λ i. then_some ((o.any ∙ ap any_close d) i) (d i))
