-- The ids present are those above 0 that stand in a scan. Assumes nothing.
use Prim.Native.Nat.{ℕ, ◌<◌}
use mathlib.Core.Path.{◌≡◌, refl, ap, ◌∙◌}
use mathlib.Core.Bool.{◌&&◌, ◌||◌}
use mathlib.Core.List.{List, flat_map, Memᴰ}
use mathlib.Core.Option.{Option, none, some}
use lib.Dec.{T, ltb, eqb, ltb→lt, lt→ltb}
use mir.Facts.{and_yes, yes_and}
use Rattle.fgo_spec.specs.Lists.{keep, any, has, times, find, is_some}
use Rattle.fgo_spec.specs.Windows.{Scan, Prefix, present, live}
use Rattle.fgo_spec.specs.Rule.{All}
use Rattle.fgo_spec.proofs.All.{mem_All}
use Rattle.fgo_spec.proofs.Counting.{any-All, any-count, count-any, any_flat_map, mem_any, has-sort, has-keep}

-- Q holds of each id above 0 that stands in a scan
abbrev pub Names : (ℕ → Type 0) → Scan → Type 0
Names Q s = (x : ℕ) → 0 < x → 0 < times x s.ids → Q x

-- the ids present are those above 0 that stand in a scan
pub present-has : (x : ℕ) (ss : List Scan) → has x (present ss) ≡ (ltb 0 x && any (λ s. has x s.ids) ss)
unfolding present
present-has x ss =
    let l = flat_map (λ (s : Scan). s.ids) ss in
    has-sort x (keep (ltb 0) l) ∙ has-keep (ltb 0) x l ∙ ap (λ b. ltb 0 x && b) (any_flat_map (eqb x) (λ s. s.ids) ss)

-- an id above 0 that stands in a scan is present
pub stands_present : (x : ℕ) (ss : List Scan) {s : Scan} → 0 < x → Memᴰ s ss → 0 < times x s.ids → T (has x (present ss))
stands_present x ss {s} h m t =
    rw (present-has x ss) (yes_and (ltb 0 x) (any (λ s. has x s.ids) ss) (lt→ltb 0 x h) (mem_any (λ s. has x s.ids) ss m (count-any (eqb x) s.ids t)))

-- what holds of the ids above 0 that stand in the scans holds of each id present
pub present_is : (Q : ℕ → Type 0) (ss : List Scan) → All (Names Q) ss → (x : ℕ) → T (has x (present ss)) → (0 < x) × Q x
present_is Q ss h x t =
    let p = and_yes (ltb 0 x) (any (λ s. has x s.ids) ss) (rw (present-has x ss) at t) in
    let z : 0 < x = ltb→lt 0 x p.0 in (
      z,
      any-All (λ s. has x s.ids) (Names Q) (λ s f k. f x z (any-count (eqb x) s.ids k)) ss h p.1,
    )

-- an id that is present stands
pub present_stands : (x : ℕ) (ss : List Scan) → T (has x (present ss)) → (s : Scan) × Memᴰ s ss × (0 < times x s.ids)
present_stands x ss t = (present_is (λ x. (s : Scan) × Memᴰ s ss × (0 < times x s.ids)) ss (mem_All (Names (λ x. (s : Scan) × Memᴰ s ss × (0 < times x s.ids))) ss (λ s m x h k. (s, m, k))) x t).1

-- what holds of frozen ids and of those that stand in the scans holds of live ones
pub live_is :
    (Q : ℕ → Type 0) (ps : List (ℕ × Prefix)) (ss : List Scan) → ((x : ℕ) (p : Prefix) → find x ps ≡ some p → (0 < x) × Q x) →
    All (Names Q) ss → (x : ℕ) → T (live ps ss x) → (0 < x) × Q x
live_is Q ps ss f h x t = go (find x ps) refl t
  where
    go : (o : Option Prefix) → find x ps ≡ o → T (is_some o || has x (present ss)) → (0 < x) × Q x
    go none e k = present_is Q ss h x k
    go (some p) e k = f x p e
