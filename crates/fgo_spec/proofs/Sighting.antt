-- Placing alone: dots of two engine ids never go under one id, and those of one engine id stay together while their
-- track lives. Assumes nothing.
use Prim.Native.Nat.{ℕ, zero, suc, ◌+◌, ◌≤◌, ◌<◌}
use native.Mathlib.Nat.{le_refl, le_trans}
use native.Mathlib.Decide.{ℕ_discrete}
use native.Mathlib.Omega.{arith}
use mathlib.Core.Path.{◌≡◌, refl, sym, ap, ◌∙◌, subst}
use mathlib.Core.Logic.{◌⊎◌, inl, inr}
use mathlib.Core.Bool.{Bool, true, false, cond, ◌&&◌, ◌||◌, not, true≢false}
use mathlib.Core.List.Memᴰ
use mathlib.Core.List.{List, [], ◌∷◌, ◌++◌, append-nil, append_assoc, Memᴰ}
use mathlib.Core.Option.{Option, none, some, none-ne-some, some-injective}
use lib.ListN.{length, length-append}
use lib.Dec.{T, eqb}
use lib.Ieee.Bits.{is_true}
use borrow.Author.Tests.{eq-eqb, ne_eqb, eqb-true}
use Rattle.engine.specs.declared.types.EngineId.{EngineId}
use Rattle.engine.specs.declared.types.Association.{Association}
use Rattle.fgo_spec.specs.Lists.{keep, any, has, find, assign}
use Rattle.fgo_spec.specs.Windows.{Scan, Prefix, live}
use Rattle.fgo_spec.specs.Placing.{Placing, free_owner, place_track, place_one, place}
use Rattle.fgo_spec.specs.Owning.{is_engine}
use Rattle.fgo_spec.specs.Following.{sighted, sighted_all}
use Rattle.fgo_spec.proofs.Counting.{count-append, count-cons, bump, bump_le, any_append}
use Rattle.fgo_spec.proofs.Tables.{found_here, found_past, find-assign}
use Rattle.std.specs.Prelude.{None, Some}
use Rattle.engine.specs.Frame.{Associated}

-- ---- sightings

pub sighted_snoc :
    (l : List Association) (is : List ℕ) (a : Association) (i : ℕ) → length is ≡ length l →
    sighted_all (l ++ (a ∷ [])) (is ++ (i ∷ [])) ≡ sighted_all l is ++ sighted a.track i
unfolding sighted_all
sighted_snoc [] [] a i h = append-nil (sighted a.track i)
sighted_snoc [] (j ∷ is) a i h = absurd (omega arith)
sighted_snoc (b ∷ l) [] a i h = absurd (omega arith)
sighted_snoc (b ∷ l) (j ∷ is) a i h =
    ap (λ k. sighted b.track j ++ k) (sighted_snoc l is a i (omega arith)) ∙ sym (append_assoc (sighted b.track j) (sighted_all l is) (sighted a.track i))

-- how often an engine id stands
abbrev pub often : ℕ → List Association → ℕ
often e l = length (keep (λ a. is_engine e a.track) l)

sighted_engine : (o : Associated) (i e x : ℕ) → Memᴰ (e, x) (sighted o i) → (is_engine e o ≡ true) × (x ≡ i)
sighted_engine None i e x m = absurd (Memᴰ.not-nil m)
sighted_engine (Some k) i e x m = let q = Memᴰ.eq_of_singleton m in (eq-eqb e k.0 (ap (λ p. p.0) q), ap (λ p. p.1) q)

-- an engine id that is sighted stands
sighted_often : (e x : ℕ) (l : List Association) (is : List ℕ) → Memᴰ (e, x) (sighted_all l is) → 0 < often e l
unfolding sighted_all
sighted_often e x [] is m = absurd (Memᴰ.not-nil m)
sighted_often e x (a ∷ l) [] m = absurd (Memᴰ.not-nil m)
sighted_often e x (a ∷ l) (i ∷ is) m = rw (count-cons (λ (a : Association). is_engine e a.track) a l) (go (Memᴰ.append_cases (sighted a.track i) m) (sighted_often e x l is))
  where
    go :
        Memᴰ (e, x) (sighted a.track i) ⊎ Memᴰ (e, x) (sighted_all l is) → (Memᴰ (e, x) (sighted_all l is) → 0 < often e l) →
        0 < bump (is_engine e a.track) (often e l)
    go (inl k) r = rw (sighted_engine a.track i e x k).0 (omega arith)
    go (inr k) r = le_trans (r k) (bump_le (is_engine e a.track) (often e l))

-- ---- who is seen under an id, in the sightings S or by the owners os

abbrev pub Sees : List (ℕ × ℕ) → List (ℕ × ℕ) → ℕ → ℕ → Type 0
Sees S os e x = Memᴰ (e, x) S ⊎ (find e os ≡ some x)

pub record Apart (S os : List (ℕ × ℕ)) (next : ℕ) : Type 0 where
  pub apart : (d e x : ℕ) → 0 < x → Sees S os d x → Sees S os e x → d ≡ e
  pub below : (e x : ℕ) → Sees S os e x → x < next

-- the same, seen otherwise
pub apart_by :
    (S os : List (ℕ × ℕ)) (next : ℕ) (S' os' : List (ℕ × ℕ)) (next' : ℕ) → next ≤ next' → ((e x : ℕ) → 0 < x → Sees S' os' e x → Sees S os e x) → 0 < next →
    Apart S os next → Apart S' os' next'
apart_by S os next S' os' next' n f b h =
    record { apart = λ d e x z p q. h.apart d e x z (f d x z p) (f e x z q); below = λ e x p. go e x p }
  where
    go : (e x : ℕ) → Sees S' os' e x → x < next'
    go e zero p = le_trans b n
    go e (suc x) p = le_trans (h.below e (suc x) (f e (suc x) (omega arith) p)) n

-- one more, under the next id
module _ (S os : List (ℕ × ℕ)) (next : ℕ) (h : Apart S os next) (k : ℕ) where
  abbrev S' : List (ℕ × ℕ)
  S' = S ++ ((k, next) ∷ [])

  abbrev os' : List (ℕ × ℕ)
  os' = assign k next os

  new-or : (e x : ℕ) → Sees S' os' e x → Sees S os e x ⊎ ((e ≡ k) × (x ≡ next))
  new-or e x (inl m) = go (Memᴰ.append_cases S m)
    where
      go : Memᴰ (e, x) S ⊎ Memᴰ {A = ℕ × ℕ} (e, x) ((k, next) ∷ []) → Sees S os e x ⊎ ((e ≡ k) × (x ≡ next))
      go (inl m) = inl (inl m)
      go (inr m) = let q = Memᴰ.eq_of_singleton m in inr (ap (λ p. p.0) q, ap (λ p. p.1) q)
  new-or e x (inr q) = go (ℕ_discrete e k)
    where
      go : Dec (e ≡ k) → Sees S os e x ⊎ ((e ≡ k) × (x ≡ next))
      go (yes z) = inr (z, sym (some-injective _ _ (sym (found_here e (k, next) os z) ∙ sym (find-assign e k next os) ∙ q)))
      go (no z) = inl (inr (sym (found_past e (k, next) os z) ∙ sym (find-assign e k next os) ∙ q))

  apart-new : Apart S' os' (suc next)
  apart-new = record { apart = λ d e x z p q. two d e x z (new-or d x p) (new-or e x q); below = λ e x p. one e x (new-or e x p) }
    where
      one : (e x : ℕ) → Sees S os e x ⊎ ((e ≡ k) × (x ≡ next)) → x < suc next
      one e x (inl s) = let b = h.below e x s in omega arith
      one e x (inr q) = let b = q.1 in omega arith

      two : (d e x : ℕ) → 0 < x → Sees S os d x ⊎ ((d ≡ k) × (x ≡ next)) → Sees S os e x ⊎ ((e ≡ k) × (x ≡ next)) → d ≡ e
      two d e x z (inl p) (inl q) = h.apart d e x z p q
      two d e x z (inl p) (inr q) = absurd (let b = h.below d x p in let w = q.1 in omega arith)
      two d e x z (inr p) (inl q) = absurd (let b = h.below e x q in let w = p.1 in omega arith)
      two d e x z (inr p) (inr q) = p.0 ∙ sym q.0

-- where dots of an engine id stand under x, and x lives, it is the owner
abbrev pub Follows : List (ℕ × Prefix) → List Scan → List (ℕ × ℕ) → List (ℕ × ℕ) → Type 0
Follows ps ss S os = (e x : ℕ) → 0 < x → Memᴰ (e, x) S → T (live ps ss x) → find e os ≡ some x

-- ---- placing, association by association

module _ (ps : List (ℕ × Prefix)) (ss : List Scan) (S os : List (ℕ × ℕ)) (start : ℕ) (begun : 0 < start) where
  -- after the associations l
  abbrev seen : List Association → Placing → List (ℕ × ℕ)
  seen l p = sighted_all l p.ids

  pub record Placed (l : List Association) (p : Placing) : Type 0 where
    pub complete : length p.ids ≡ length l
    pub low : start ≤ p.next_id
    pub apart : Apart (S ++ seen l p) p.owners p.next_id
    -- each id above 0 is that of a sighting
    pub from : (x : ℕ) → 0 < x → T (has x p.ids) → (e : ℕ) × Memᴰ (e, x) (seen l p)

  -- and where no engine id stands twice
  pub record Kept (l : List Association) (p : Placing) : Type 0 where
    pub kept : (e x : ℕ) → Memᴰ (e, x) (seen l p) → find e p.owners ≡ some x
    pub same : (e : ℕ) → often e l ≡ 0 → find e p.owners ≡ find e os
    pub follow : (e x y : ℕ) → 0 < x → Memᴰ (e, x) S → T (live ps ss x) → Memᴰ (e, y) (seen l p) → y ≡ x
    pub new : (e y : ℕ) → Memᴰ (e, y) (seen l p) → T (live ps ss y) ⊎ (start ≤ y)
    pub still : Follows ps ss S p.owners

  -- ---- one more association

  free-is :
      (is : List ℕ) (o : Option ℕ) (x : ℕ) → free_owner ps ss is o ≡ some x → (o ≡ some x) × T (live ps ss x)
  free-is is none x q = absurd (none-ne-some x q)
  free-is is (some y) x q = go (live ps ss y) (has y is) refl q
    where
      go : (a b : Bool) → live ps ss y ≡ a → cond (a && not b) (some y) none ≡ some x → (some y ≡ some x) × T (live ps ss x)
      go true false e q = (q, subst (λ z. T (live ps ss z)) (some-injective _ _ q) (subst T (sym e) tt))
      go true true e q = absurd (none-ne-some x q)
      go false b e q = absurd (none-ne-some x q)

  -- an owner that lives is free unless its id stands already
  not_free : (is : List ℕ) (x : ℕ) → free_owner ps ss is (some x) ≡ none → T (live ps ss x) → T (has x is)
  not_free is x q h = go (has x is) (ap (λ a. cond (a && not (has x is)) (some x) none) (sym (is_true (live ps ss x) h)) ∙ q)
    where
      go : (b : Bool) → cond (true && not b) (some x) none ≡ none → T b
      go true q = tt
      go false q = absurd (none-ne-some x (sym q))

  module _ (l : List Association) (p : Placing) (h : Placed l p) (a : Association) where
    -- with the id i
    abbrev with-id : ℕ → List (ℕ × ℕ) → ℕ → Placing
    with-id i os' n = record { ids = p.ids ++ (i ∷ []); owners = os'; next_id = n }

    seen-snoc : (i : ℕ) (os' : List (ℕ × ℕ)) (n : ℕ) → seen (l ++ (a ∷ [])) (with-id i os' n) ≡ seen l p ++ sighted a.track i
    seen-snoc i os' n = sighted_snoc l p.ids a i h.complete

    placed-with :
        (i : ℕ) (os' : List (ℕ × ℕ)) (n : ℕ) → p.next_id ≤ n → Apart ((S ++ seen l p) ++ sighted a.track i) os' n →
        (0 < i → (e : ℕ) × Memᴰ (e, i) (sighted a.track i)) → Placed (l ++ (a ∷ [])) (with-id i os' n)
    unfolding any
    placed-with i os' n up q f =
        record {
          complete = length-append p.ids (i ∷ []) ∙ ap (λ k. k + 1) h.complete ∙ sym (length-append l (a ∷ []));
          low = le_trans h.low up;
          apart = subst (λ k. Apart k os' n) (append_assoc S (seen l p) (sighted a.track i) ∙ ap (λ k. S ++ k) (sym (seen-snoc i os' n))) q;
          from = λ x z t. where-from x z (ℕ_discrete x i) (rw (any_append (eqb x) p.ids (i ∷ [])) at t);
        }
      where
        where-from : (x : ℕ) → 0 < x → Dec (x ≡ i) → T (has x p.ids || has x (i ∷ [])) → (e : ℕ) × Memᴰ (e, x) (seen (l ++ (a ∷ [])) (with-id i os' n))
        where-from x z (yes e) t =
            let r = f (subst (λ y. 0 < y) e z) in
            (r.0, subst (Memᴰ (r.0, x)) (sym (seen-snoc i os' n)) (Memᴰ.append_right (seen l p) (subst (λ y. Memᴰ (r.0, y) (sighted a.track i)) (sym e) r.1)))
        where-from x z (no g) t =
            let r = h.from x z (earlier (has x p.ids) (ne_eqb x i g) t) in
            (r.0, subst (Memᴰ (r.0, x)) (sym (seen-snoc i os' n)) (Memᴰ.append_left (sighted a.track i) r.1))
          where
            earlier : (b : Bool) → eqb x i ≡ false → T (b || has x (i ∷ [])) → T b
            earlier true q t = tt
            earlier false q t = subst (λ b. T (b || false)) q t

    -- an owner that is free keeps it
    abbrev owned : ℕ → Placing
    owned x = with-id x p.owners p.next_id

    apart-owned : (e x : ℕ) → find e p.owners ≡ some x → Apart ((S ++ seen l p) ++ ((e, x) ∷ [])) p.owners p.next_id
    apart-owned e x q = apart_by (S ++ seen l p) p.owners p.next_id ((S ++ seen l p) ++ ((e, x) ∷ [])) p.owners p.next_id (le_refl p.next_id) back (le_trans begun h.low) h.apart
      where
        back : (d y : ℕ) → 0 < y → Sees ((S ++ seen l p) ++ ((e, x) ∷ [])) p.owners d y → Sees (S ++ seen l p) p.owners d y
        back d y z (inr f) = inr f
        back d y z (inl m) = go (Memᴰ.append_cases (S ++ seen l p) m)
          where
            go : Memᴰ (d, y) (S ++ seen l p) ⊎ Memᴰ {A = ℕ × ℕ} (d, y) ((e, x) ∷ []) → Sees (S ++ seen l p) p.owners d y
            go (inl m) = inl m
            go (inr m) = let k = Memᴰ.eq_of_singleton m in inr (ap (λ v. find v.0 p.owners) k ∙ q ∙ ap (λ v. some v.1) (sym k))

    pub placed_one_lem : Placed (l ++ (a ∷ [])) (place_one ps ss p a.track)
    placed_one_lem = go a.track refl
      where
        track : (k : EngineId) → a.track ≡ Some k → (o : Option ℕ) → free_owner ps ss p.ids (find k.0 p.owners) ≡ o → Placed (l ++ (a ∷ [])) (place_track p k.0 o)
        track k e (some x) q =
            placed-with x p.owners p.next_id (le_refl p.next_id)
            (subst (λ o. Apart ((S ++ seen l p) ++ sighted o x) p.owners p.next_id) (sym e) (apart-owned k.0 x (free-is p.ids (find k.0 p.owners) x q).0))
            (λ z. subst (λ o. (e : ℕ) × Memᴰ (e, x) (sighted o x)) (sym e) (k.0, Memᴰ.head refl))
        track k e none q =
            let n = p.next_id in
            placed-with n (assign k.0 n p.owners) (suc n) (omega arith)
            (subst (λ o. Apart ((S ++ seen l p) ++ sighted o n) (assign k.0 n p.owners) (suc n)) (sym e) (apart-new (S ++ seen l p) p.owners n h.apart k.0))
            (λ z. subst (λ o. (e : ℕ) × Memᴰ (e, n) (sighted o n)) (sym e) (k.0, Memᴰ.head refl))

        go : (o : Associated) → a.track ≡ o → Placed (l ++ (a ∷ [])) (place_one ps ss p o)
        go None e =
            placed-with 0 p.owners p.next_id (le_refl p.next_id)
            (subst (λ o. Apart ((S ++ seen l p) ++ sighted o 0) p.owners p.next_id) (sym e)
            (subst (λ k. Apart k p.owners p.next_id) (sym (append-nil (S ++ seen l p))) h.apart))
            (λ z. absurd (omega arith))
        go (Some k) e = track k e (free_owner ps ss p.ids (find k.0 p.owners)) refl

    -- ---- where no engine id stands twice

    module _ (g : Kept l p) (few : (e : ℕ) → often e (l ++ (a ∷ [])) ≤ 1) where
      absent : (e : ℕ) → is_engine e a.track ≡ true → often e l ≡ 0
      absent e q =
          let n = few e in
          let k : often e (a ∷ []) ≡ 1 = count-cons (λ (b : Association). is_engine e b.track) a [] ∙ ap (λ b. bump b (often e [])) q ∙ unfold keep in refl in
          omega (arith, count-append (λ (b : Association). is_engine e b.track) l (a ∷ []))

      earlier : (e : ℕ) → often e (l ++ (a ∷ [])) ≡ 0 → (often e l ≡ 0) × (is_engine e a.track ≡ true → ⊥)
      earlier e z = (
        omega (arith, count-append (λ (b : Association). is_engine e b.track) l (a ∷ [])),
        λ q.
            let k : often e (a ∷ []) ≡ 1 = count-cons (λ (b : Association). is_engine e b.track) a [] ∙ ap (λ b. bump b (often e [])) q ∙ unfold keep in refl in
            omega (arith, count-append (λ (b : Association). is_engine e b.track) l (a ∷ [])),
      )

      -- what is seen after it
      either : (i : ℕ) (os' : List (ℕ × ℕ)) (n e x : ℕ) → Memᴰ (e, x) (seen (l ++ (a ∷ [])) (with-id i os' n)) → Memᴰ (e, x) (seen l p) ⊎ ((is_engine e a.track ≡ true) × (x ≡ i))
      either i os' n e x m = go (Memᴰ.append_cases (seen l p) (subst (Memᴰ (e, x)) (seen-snoc i os' n) m))
        where
          go : Memᴰ (e, x) (seen l p) ⊎ Memᴰ (e, x) (sighted a.track i) → Memᴰ (e, x) (seen l p) ⊎ ((is_engine e a.track ≡ true) × (x ≡ i))
          go (inl m) = inl m
          go (inr m) = inr (sighted_engine a.track i e x m)

      -- the id i goes to what has the engine id, and its owner is i; other owners stay
      kept-with :
          (i : ℕ) (os' : List (ℕ × ℕ)) (n : ℕ) → ((e : ℕ) → is_engine e a.track ≡ true → find e os' ≡ some i) →
          ((e : ℕ) → (is_engine e a.track ≡ true → ⊥) → find e os' ≡ find e p.owners) →
          ((e x : ℕ) → is_engine e a.track ≡ true → 0 < x → Memᴰ (e, x) S → T (live ps ss x) → i ≡ x) →
          ((e : ℕ) → is_engine e a.track ≡ true → T (live ps ss i) ⊎ (start ≤ i)) → Kept (l ++ (a ∷ [])) (with-id i os' n)
      kept-with i os' n own other follow new =
          record {
            kept = λ e x m. keeps e x (either i os' n e x m);
            same = λ e z. let k = earlier e z in other e k.1 ∙ g.same e k.0;
            follow = λ e x y z m t w. follows e x y z m t (either i os' n e y w);
            new = λ e y m. news e y (either i os' n e y m);
            still = λ e x z m t. stills e x z m t (is_engine e a.track) refl;
          }
        where
          -- one seen before has another engine id
          another : (e x : ℕ) → Memᴰ (e, x) (seen l p) → is_engine e a.track ≡ true → ⊥
          another e x m q = let k = sighted_often e x l p.ids m in omega (arith, absent e q)

          keeps : (e x : ℕ) → Memᴰ (e, x) (seen l p) ⊎ ((is_engine e a.track ≡ true) × (x ≡ i)) → find e os' ≡ some x
          keeps e x (inl m) = other e (another e x m) ∙ g.kept e x m
          keeps e x (inr q) = own e q.0 ∙ ap some (sym q.1)

          follows : (e x y : ℕ) → 0 < x → Memᴰ (e, x) S → T (live ps ss x) → Memᴰ (e, y) (seen l p) ⊎ ((is_engine e a.track ≡ true) × (y ≡ i)) → y ≡ x
          follows e x y z m t (inl w) = g.follow e x y z m t w
          follows e x y z m t (inr q) = q.1 ∙ follow e x q.0 z m t

          news : (e y : ℕ) → Memᴰ (e, y) (seen l p) ⊎ ((is_engine e a.track ≡ true) × (y ≡ i)) → T (live ps ss y) ⊎ (start ≤ y)
          news e y (inl m) = g.new e y m
          news e y (inr q) = subst (λ y. T (live ps ss y) ⊎ (start ≤ y)) (sym q.1) (new e q.0)

          stills : (e x : ℕ) → 0 < x → Memᴰ (e, x) S → T (live ps ss x) → (b : Bool) → is_engine e a.track ≡ b → find e os' ≡ some x
          stills e x z m t true q = own e q ∙ ap some (follow e x q z m t)
          stills e x z m t false q = other e (λ w. true≢false (sym w ∙ q)) ∙ g.still e x z m t

      pub kept-one : Kept (l ++ (a ∷ [])) (place_one ps ss p a.track)
      kept-one = go a.track refl
        where
          -- an engine id that is asked for is that of the association
          is-it : (k : EngineId) → a.track ≡ Some k → (e : ℕ) → is_engine e a.track ≡ true → e ≡ k.0
          is-it k q e z = eqb-true e k.0 (ap (is_engine e) (sym q) ∙ z)

          isn't : (k : EngineId) → a.track ≡ Some k → (e : ℕ) → (is_engine e a.track ≡ true → ⊥) → e ≡ k.0 → ⊥
          isn't k q e z w = z (ap (is_engine e) q ∙ eq-eqb e k.0 w)

          track : (k : EngineId) → a.track ≡ Some k → (o : Option ℕ) → free_owner ps ss p.ids (find k.0 p.owners) ≡ o → Kept (l ++ (a ∷ [])) (place_track p k.0 o)
          track k e (some x) q =
              let f = free-is p.ids (find k.0 p.owners) x q in
              kept-with x p.owners p.next_id (λ d z. ap (λ d. find d p.owners) (is-it k e d z) ∙ f.0) (λ d z. refl)
              (λ d y z w m t. some-injective _ _ (sym (ap (λ d. find d p.owners) (is-it k e d z) ∙ f.0) ∙ g.still d y w m t)) (λ d z. inl f.1)
          track k e none q =
              let n = p.next_id in
              kept-with n (assign k.0 n p.owners) (suc n) (λ d z. find-assign d k.0 n p.owners ∙ found_here d (k.0, n) p.owners (is-it k e d z))
              (λ d z. find-assign d k.0 n p.owners ∙ found_past d (k.0, n) p.owners (isn't k e d z))
              (λ d y z w m t. absurd (taken d y w m t (is-it k e d z) (absent d z))) (λ d z. inr h.low)
            where
              -- a live owner would have been free: its id stands under no other engine id
              taken : (d y : ℕ) → 0 < y → Memᴰ (d, y) S → T (live ps ss y) → d ≡ k.0 → often d l ≡ 0 → ⊥
              taken d y w m t u v =
                  let s = g.still d y w m t in
                  let r = h.from y w (not_free p.ids y (ap (free_owner ps ss p.ids) (sym s ∙ ap (λ d. find d p.owners) u) ∙ q) t) in
                  let c : r.0 ≡ d = h.apart.apart r.0 d y w (inl (Memᴰ.append_right S r.1)) (inr s) in
                  let b = sighted_often r.0 y l p.ids r.1 in
                  omega (arith, ap (λ e. often e l) c)

          go : (o : Associated) → a.track ≡ o → Kept (l ++ (a ∷ [])) (place_one ps ss p o)
          go None e =
              kept-with 0 p.owners p.next_id (λ d z. absurd (nobody d (ap (is_engine d) (sym e) ∙ z))) (λ d z. refl)
              (λ d x z w m t. absurd (nobody d (ap (is_engine d) (sym e) ∙ z))) (λ d z. absurd (nobody d (ap (is_engine d) (sym e) ∙ z)))
            where
              nobody : (d : ℕ) → is_engine d None ≡ true → ⊥
              nobody d q = true≢false (sym q)
          go (Some k) e = track k e (free_owner ps ss p.ids (find k.0 p.owners)) refl

  -- ---- all associations

  pub placed-all : (done l : List Association) (p : Placing) → Placed done p → Placed (done ++ l) (place ps ss l p)
  unfolding place
  placed-all done [] p h = subst (λ k. Placed k p) (sym (append-nil done)) h
  placed-all done (a ∷ l) p h =
      subst (λ k. Placed k (place ps ss l (place_one ps ss p a.track))) (append_assoc done (a ∷ []) l) (placed-all (done ++ (a ∷ [])) l (place_one ps ss p a.track) (placed_one_lem done p h a))

  pub kept-all :
      (done l : List Association) (p : Placing) → Placed done p → Kept done p → ((e : ℕ) → often e (done ++ l) ≤ 1) → Kept (done ++ l) (place ps ss l p)
  unfolding place
  kept-all done [] p h g few = subst (λ k. Kept k p) (sym (append-nil done)) g
  kept-all done (a ∷ l) p h g few =
      subst (λ k. Kept k (place ps ss l (place_one ps ss p a.track))) (append_assoc done (a ∷ []) l)
      (kept-all (done ++ (a ∷ [])) l (place_one ps ss p a.track) (placed_one_lem done p h a) (kept-one done p h a g (λ e. le_trans (fewer e) (few e)))
      (λ e. subst (λ k. often e k ≤ 1) (sym (append_assoc done (a ∷ []) l)) (few e)))
    where
      fewer : (e : ℕ) → often e (done ++ (a ∷ [])) ≤ often e (done ++ (a ∷ l))
      fewer e =
          omega (arith, ap (often e) (append_assoc done (a ∷ []) l), count-append (λ (b : Association). is_engine e b.track) (done ++ (a ∷ [])) l)
