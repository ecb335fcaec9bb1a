-- Placing a frame: what the ids that it gives, and the owner entries that it leaves, are. Assumes nothing.
use Prim.Native.Nat.{ℕ, suc, ◌+◌, ◌≤◌, ◌<◌}
use native.Mathlib.Nat.{le_refl, le_trans, lt_irrefl, eq-zero-or-pos}
use native.Mathlib.Decide.{ℕ_discrete}
use native.Mathlib.Omega.{arith}
use mathlib.Core.Path.{◌≡◌, refl, sym, ap, ◌∙◌, subst}
use mathlib.Core.Logic.{inl, inr}
use mathlib.Core.Bool.{Bool, true, false, cond}
use mathlib.Core.List.{List, [], ◌∷◌, ◌++◌, foldr, append-nil, append_assoc}
use mathlib.Core.Option.{Option, none, some}
use lib.ListN.{length, length-append}
use lib.Dec.{T, eqb, ltb, ltb→lt}
use borrow.Author.Tests.{eq-eqb, ne_eqb}
use Rattle.engine.specs.declared.types.EngineId.{EngineId}
use Rattle.engine.specs.declared.types.Association.{Association}
use Rattle.fgo_spec.specs.Lists.{any, has, times, find, assign, is_some}
use Rattle.fgo_spec.specs.Windows.{Scan, Prefix, in_windows, live}
use Rattle.fgo_spec.specs.Placing.{Placing, free_owner, place_track, place_one, place}
use Rattle.fgo_spec.specs.Refiner.{has_id, id_count, join}
use Rattle.fgo_spec.specs.Rule.{All}
use Rattle.fgo_spec.proofs.All.{All_weaken}
use Rattle.fgo_spec.proofs.Counting.{bump_mono, or_right, count_snoc, has-not}
use Rattle.fgo_spec.proofs.Tables.{found_here, found_past, find-assign, keys, Distinct, distinct_assign, assign_key}
use Rattle.fgo_spec.proofs.Keeping.{Known, known_up}
use Rattle.fgo_spec.proofs.Ties.{Engine, Tied, tied_weaken, tied_snoc}
use Rattle.std.specs.Prelude.{None, Some}
use Rattle.engine.specs.Frame.{Associated}

-- an engine id has an entry
abbrev pub Has : List (ℕ × ℕ) → ℕ → Type 0
Has os e = T (is_some (find e os))

pub has-entry : (os : List (ℕ × ℕ)) (e : ℕ) {x : ℕ} → find e os ≡ some x → Has os e
has-entry os e q = subst (λ o. T (is_some o)) (sym q) tt

has-assign : (os : List (ℕ × ℕ)) (k x e : ℕ) → Has os e → Has (assign k x os) e
has-assign os k x e h = subst (λ o. T (is_some o)) (sym (find-assign e k x os)) (go (ℕ_discrete e k))
  where
    go : Dec (e ≡ k) → Has ((k, x) ∷ os) e
    go (yes q) = has-entry ((k, x) ∷ os) e (found_here e (k, x) os q)
    go (no n) = subst (λ o. T (is_some o)) (sym (found_past e (k, x) os n)) h

-- an engine id, if any, is among some
abbrev Among : List ℕ → Associated → Type 0
Among l None = Unit {0}
Among l (Some e) = T (has e.0 l)

module _ (Old : ℕ → Type 0) (start : ℕ) (os : List (ℕ × ℕ)) (engines : List ℕ) where
  -- after the associations l
  pub record Placed (l : List Association) (p : Placing) : Type 0 where
    pub low : start ≤ p.next_id
    -- the column: an id for each, none twice, each an old one or a new one, and of those with an engine id only
    pub complete : length p.ids ≡ length l
    pub apart : (x : ℕ) → 0 < x → times x p.ids ≤ 1
    pub named : (x : ℕ) → 0 < x → 0 < times x p.ids → Known Old start p.next_id x
    pub tied : Tied (Has p.owners) l p.ids
    pub few : in_windows p.ids ≤ id_count l
    -- the entries: those before, and new ones for engine ids of the frame
    pub grows : (e : ℕ) → Has os e → Has p.owners e
    pub distinct : Distinct p.owners
    pub keyed : (e : ℕ) → T (has e (keys p.owners)) → T (has e engines)

module _ (Old : ℕ → Type 0) (start : ℕ) (begun : 0 < start) (below : (x : ℕ) → Old x → x < start) (ps : List (ℕ × Prefix)) (ss : List Scan)
    (alive : (x : ℕ) → T (live ps ss x) → Old x) (os : List (ℕ × ℕ)) (engines : List ℕ) where
  abbrev Placed' : List Association → Placing → Type 0
  Placed' = Placed Old start os engines

  -- one more association, with the id i
  module _ (l : List Association) (p : Placing) (h : Placed' l p) (a : Association) (i : ℕ) (os' : List (ℕ × ℕ)) (n : ℕ) where
    placed_snoc :
        p.next_id ≤ n → (0 < i → Known Old start n i × (times i p.ids ≡ 0) × Engine (Has os') a.track) →
        ((e : ℕ) → Has p.owners e → Has os' e) → Distinct os' → ((e : ℕ) → T (has e (keys os')) → T (has e engines)) →
        Placed' (l ++ (a ∷ [])) (record { ids = p.ids ++ (i ∷ []); owners = os'; next_id = n })
    placed_snoc up new grows distinct keyed =
        record {
          low = le_trans h.low up;
          complete = length-append p.ids (i ∷ []) ∙ ap (λ k. k + 1) h.complete ∙ sym (length-append l (a ∷ []));
          apart = λ x z. one x z (ℕ_discrete x i);
          named = λ x z q. known x z q (ℕ_discrete x i);
          tied = tied_snoc (Has os') l p.ids a i h.complete (tied_weaken (Has p.owners) (Has os') grows l p.ids h.tied) (λ z. (new z).2);
          few =
              rw (count_snoc (ltb 0) p.ids i, count_snoc (λ a. has_id a.track) l a)
              (bump_mono (ltb 0 i) (has_id a.track) (λ t. engined a.track (new (ltb→lt 0 i t)).2) h.few);
          grows = λ e z. grows e (h.grows e z);
          distinct = distinct;
          keyed = keyed;
        }
      where
        one : (x : ℕ) → 0 < x → Dec (x ≡ i) → times x (p.ids ++ (i ∷ [])) ≤ 1
        one x z (yes e) = rw (count_snoc (eqb x) p.ids i, eq-eqb x i e, e, (new (subst (λ y. 0 < y) e z)).1) (le_refl 1)
        one x z (no f) = rw (count_snoc (eqb x) p.ids i, ne_eqb x i f) (h.apart x z)

        known : (x : ℕ) → 0 < x → 0 < times x (p.ids ++ (i ∷ [])) → Dec (x ≡ i) → Known Old start n x
        known x z q (yes e) = subst (Known Old start n) (sym e) (new (subst (λ y. 0 < y) e z)).0
        known x z q (no f) = known_up Old start p.next_id n x up (h.named x z (rw (count_snoc (eqb x) p.ids i, ne_eqb x i f) at q))

        engined : (o : Associated) → Engine (Has os') o → T (has_id o)
        engined None k = k
        engined (Some e) k = tt

  -- the next id stands nowhere yet
  unused : (l : List Association) (p : Placing) → Placed' l p → times p.next_id p.ids ≡ 0
  unused l p h = elim (eq-zero-or-pos (times p.next_id p.ids)) [ inl e ↦ e | inr k ↦ absurd (never (h.named p.next_id (le_trans begun h.low) k)) ]
    where
      never : Known Old start p.next_id p.next_id → ⊥
      never (inl o) = lt_irrefl p.next_id (le_trans (below p.next_id o) h.low)
      never (inr k) = lt_irrefl p.next_id k.1

  -- a new track for the engine id e
  placed-new :
      (l : List Association) (p : Placing) → Placed' l p → (a : Association) (e : EngineId) → a.track ≡ Some e → T (has e.0 engines) →
      Placed' (l ++ (a ∷ [])) (place_track p e.0 none)
  placed-new l p h a e q t =
      placed_snoc l p h a p.next_id (assign e.0 p.next_id p.owners) (suc p.next_id) (omega arith)
      (λ z. (
        inr (h.low, le_refl (suc p.next_id)),
        unused l p h,
        subst (Engine (Has os')) (sym q) (has-entry os' e.0 (find-assign e.0 e.0 p.next_id p.owners ∙ found_here e.0 (e.0, p.next_id) p.owners refl)),
      ))
      (has-assign p.owners e.0 p.next_id) (distinct_assign e.0 p.next_id p.owners h.distinct)
      (assign_key (λ k. T (has k engines)) e.0 p.next_id p.owners t h.keyed)
    where
      os' : List (ℕ × ℕ)
      os' = assign e.0 p.next_id p.owners

  placed_one_lem :
      (l : List Association) (p : Placing) → Placed' l p → (a : Association) → Among engines a.track →
      Placed' (l ++ (a ∷ [])) (place_one ps ss p a.track)
  placed_one_lem l p h a t = go a.track refl t
    where
      -- an owner that is live and free, or not
      owner :
          (e : EngineId) (x : ℕ) → a.track ≡ Some e → T (has e.0 engines) → find e.0 p.owners ≡ some x → (b d : Bool) → live ps ss x ≡ b →
          has x p.ids ≡ d → Placed' (l ++ (a ∷ [])) (place_track p e.0 (free_owner ps ss p.ids (some x)))
      owner e x q t f false false u v = simp (u, v) (placed-new l p h a e q t)
      owner e x q t f false true u v = simp (u, v) (placed-new l p h a e q t)
      owner e x q t f true true u v = simp (u, v) (placed-new l p h a e q t)
      owner e x q t f true false u v =
          simp (u, v)
          (placed_snoc l p h a x p.owners p.next_id (le_refl p.next_id)
          (λ z. (
            inl (alive x (subst T (sym u) tt)),
            has-not x p.ids v,
            subst (Engine (Has p.owners)) (sym q) (has-entry p.owners e.0 f),
          ))
          (λ k z. z) h.distinct h.keyed)

      look :
          (e : EngineId) → a.track ≡ Some e → T (has e.0 engines) → (o : Option ℕ) → find e.0 p.owners ≡ o →
          Placed' (l ++ (a ∷ [])) (place_track p e.0 (free_owner ps ss p.ids o))
      look e q t none f = placed-new l p h a e q t
      look e q t (some x) f = owner e x q t f (live ps ss x) (has x p.ids) refl refl

      go : (o : Associated) → a.track ≡ o → Among engines o → Placed' (l ++ (a ∷ [])) (place_one ps ss p o)
      go None q t = placed_snoc l p h a 0 p.owners p.next_id (le_refl p.next_id) (λ z. absurd (omega arith)) (λ k z. z) h.distinct h.keyed
      go (Some e) q t = look e q t (find e.0 p.owners) refl

  pub placed-all : (l m : List Association) (p : Placing) → Placed' l p → All (λ a. Among engines a.track) m → Placed' (l ++ m) (place ps ss m p)
  unfolding place
  placed-all l [] p h t = rw (append-nil l) h
  placed-all l (a ∷ m) p h t =
      subst (λ k. Placed' k (place ps ss m (place_one ps ss p a.track))) (append_assoc l (a ∷ []) m)
      (placed-all (l ++ (a ∷ [])) m (place_one ps ss p a.track) (placed_one_lem l p h a t.0) t.1)

-- ---- the engine ids that have an owner, joined with the frame's

has_join : (o : Associated) (l : List ℕ) (x : ℕ) → T (has x l) → T (has x (join o l))
has_join None l x t = t
has_join (Some e) l x t = go (has e.0 l)
  where
    go : (b : Bool) → T (has x (cond b l (e.0 ∷ l)))
    go true = t
    go false = unfold any in (or_right (eqb x e.0) (has x l) t)

among_join : (o : Associated) (l : List ℕ) → Among (join o l) o
among_join None l = tt
among_join (Some e) l = go (has e.0 l) refl
  where
    go : (b : Bool) → has e.0 l ≡ b → T (has e.0 (cond b l (e.0 ∷ l)))
    go true q = subst T (sym q) tt
    go false q = unfold any in (rw (eq-eqb e.0 e.0 refl) tt)

among_weaken : (k l : List ℕ) → ((x : ℕ) → T (has x k) → T (has x l)) → (o : Associated) → Among k o → Among l o
among_weaken k l f None h = tt
among_weaken k l f (Some e) h = f e.0 h

module _ (ks : List ℕ) where
  abbrev pub joined_ids : List Association → List ℕ
  joined_ids l = foldr (λ a. join a.track) ks l

  pub joined_ids_old : (l : List Association) (x : ℕ) → T (has x ks) → T (has x (joined_ids l))
  joined_ids_old [] x t = t
  joined_ids_old (a ∷ l) x t = has_join a.track (joined_ids l) x (joined_ids_old l x t)

  pub joined_ids_new : (l : List Association) → All (λ a. Among (joined_ids l) a.track) l
  joined_ids_new [] = tt
  joined_ids_new (a ∷ l) = (
    among_join a.track (joined_ids l),
    All_weaken (λ b. Among (joined_ids l) b.track) (λ b. Among (joined_ids (a ∷ l)) b.track) l
        (λ b h. among_weaken (joined_ids l) (joined_ids (a ∷ l)) (has_join a.track (joined_ids l)) b.track h) (joined_ids_new l),
  )
