-- An id is given out once: what stands after an operation stood before it, or begins with the next id. Assumes nothing.
use Prim.Native.Nat.{ℕ, suc, ◌≤◌, ◌<◌}
use native.Mathlib.Nat.{le_refl, le_of_eq, le_trans, eq-zero-or-pos}
use mathlib.Core.Path.{◌≡◌, refl, sym, ap, ◌∙◌, subst}
use mathlib.Core.Logic.{◌⊎◌, inl, inr}
use mathlib.Core.List.Memᴰ
use mathlib.Core.List.{List, [], ◌∷◌, ◌++◌, nil≢cons, Memᴰ}
use mathlib.Core.Option.{none, some, none-ne-some}
use Rattle.buffers.specs.Answer.{Op, pushed, taken, Reply}
use Rattle.buffers.specs.Run.{emitted_by}
use Rattle.engine.specs.declared.config.FgoConfig.{FgoConfig}
use Rattle.engine.specs.Frame.{Frame}
use Rattle.engine.specs.Body.{Body, frame_in}
use Rattle.fgo_spec.specs.Lists.{times, find}
use Rattle.fgo_spec.specs.Windows.{Scan, Detection, Prefix, window}
use Rattle.fgo_spec.specs.Emitting.{Emitted}
use Rattle.fgo_spec.specs.Refiner.{State, searched, arrive, push, takes, reply}
use Rattle.fgo_spec.specs.History.{scans_of, Stands}
use Rattle.fgo_spec.proofs.All.{All_mem, mem_All}
use Rattle.fgo_spec.proofs.Tables.{up_found}
use Rattle.fgo_spec.proofs.Presence.{Names, live_is}
use Rattle.fgo_spec.proofs.Windows.{under_absent}
use Rattle.fgo_spec.proofs.Keeping.{Known}
use Rattle.fgo_spec.proofs.Growing.{grown}
use Rattle.fgo_spec.proofs.Arrival.{Column, Arrived, arrived}
use Rattle.fgo_spec.proofs.Invariant.{Good, Inv}
use Rattle.fgo_spec.proofs.Doing.{Leads, stays, goes, leads, take_does, push_does}

-- an id that has a window stands
window_stands : (x n : ℕ) (ss : List Scan) (d : Detection) (ds : List Detection) → window x n ss ≡ d ∷ ds → Stands x ss
unfolding window
window_stands x n [] d ds e = absurd (nil≢cons e)
window_stands x n (s ∷ ss) d ds e = go (eq-zero-or-pos (times x s.ids)) (window_stands x (suc n) ss d ds)
  where
    go : (times x s.ids ≡ 0) ⊎ (0 < times x s.ids) → (window x (suc n) ss ≡ d ∷ ds → Stands x ss) → Stands x (s ∷ ss)
    go (inl z) k =
        let r = k (ap (λ l. l ++ window x (suc n) ss) (sym (under_absent n s.frame x s.frame.associations s.ids z)) ∙ e) in
        (r.0, Memᴰ.tail r.1, r.2)
    go (inr h) k = (s, Memᴰ.head refl, h)

module _ (c : FgoConfig) (es : List Emitted) (acc : List Frame) (t : State) (i : Inv c es acc t) where
  abbrev before : List Scan
  before = scans_of es ++ t.scans

  abbrev Old : ℕ → Type 0
  Old x = Stands x before × (x < t.next_id)

  -- a frozen part has observations that were emitted
  frozen-stands : (x : ℕ) (p : Prefix) → find x t.prefixes ≡ some p → Stands x before
  unfolding grown
  frozen-stands x p e = go (window x 0 (scans_of es)) refl
    where
      go : (w : List Detection) → window x 0 (scans_of es) ≡ w → Stands x before
      go [] q = absurd (none-ne-some p (ap (grown c none) (sym q) ∙ sym (i.frozen x p e).0 ∙ e))
      go (d ∷ ds) q = let r = window_stands x 0 (scans_of es) d ds q in (r.0, Memᴰ.append_left t.scans r.1, r.2)

  held-named : (s : Scan) → Memᴰ s t.scans → Names Old s
  held-named s m x h k =
      ((s, Memᴰ.append_right (scans_of es) m, k), ((All_mem (Column (Good c (scans_of es) t.prefixes t.next_id)) t.scans i.held m).named x h k).1)

  module _ (f : Frame) where
    pub arrives : Arrived c t f Old (searched c t f).search
    arrives =
        arrived c t f Old
        (record {
          begun = i.begun;
          below = λ x o. o.1;
          alive =
              λ x k. (live_is Old t.prefixes t.scans (λ x p e. (up_found 0 x t.prefixes i.rise e, (frozen-stands x p e, (i.frozen x p e).1)))
              (mem_All (Names Old) t.scans held-named) x k).1;
          columns =
              mem_All (Column Old) t.scans
              (λ s m. record { regular = (All_mem (Column (Good c (scans_of es) t.prefixes t.next_id)) t.scans i.held m).regular; named = held-named s m });
          tied = i.owners.tied;
          distinct = i.owners.distinct;
        })

    arrive-rises : t.next_id ≤ (arrive c t f).next_id
    unfolding arrive
    arrive-rises = arrives.low

    arrive-gives : (x : ℕ) → 0 < x → Stands x (scans_of es ++ (arrive c t f).scans) → Stands x before ⊎ (t.next_id ≤ x)
    unfolding arrive
    arrive-gives x h (s, m, k) = go (Memᴰ.append_cases (scans_of es) m)
      where
        go : Memᴰ s (scans_of es) ⊎ Memᴰ s (searched c t f).search.scans → Stands x before ⊎ (t.next_id ≤ x)
        go (inl m) = inl (s, Memᴰ.append_left t.scans m, k)
        go (inr m) = from ((All_mem (Column (Known Old t.next_id (searched c t f).search.next_id)) (searched c t f).search.scans arrives.columns m).named x h k)
          where
            from : Known Old t.next_id (searched c t f).search.next_id x → Stands x before ⊎ (t.next_id ≤ x)
            from (inl o) = inl o.0
            from (inr o) = inr o.0

  -- after an operation
  abbrev after : Reply Emitted × State → List Scan
  after a = scans_of (es ++ emitted_by a.0) ++ a.1.scans

  pub record Gives (a : Reply Emitted × State) : Type 0 where
    pub rises : t.next_id ≤ a.1.next_id
    pub given : (x : ℕ) → 0 < x → Stands x (after a) → Stands x before ⊎ (t.next_id ≤ x)

  led :
      (u : State) (Q : Type 0) (a : Reply Emitted × State) → (t.next_id ≤ u.next_id) →
      ((x : ℕ) → 0 < x → Stands x (scans_of es ++ u.scans) → Stands x before ⊎ (t.next_id ≤ x)) → Leads c es t u Q a → Gives a
  led u Q a n k (stays s e m r) = record { rises = le_of_eq (sym e); given = λ x h z. inl (subst (Stands x) s z) }
  led u Q a n k (goes q s e r) = record { rises = le_trans n (le_of_eq (sym e)); given = λ x h z. k x h (subst (Stands x) s z) }

  pub gives_once : (o : Op Body) → Gives (reply c t o)
  gives_once (pushed b) =
      let f = frame_in b in
      led _ _ (push c t b) (arrive-rises f) (arrive-gives f) (leads c es t _ _ (push c t b) (push_does c t b))
  gives_once taken = led t _ (takes c t) (le_refl t.next_id) (λ x h z. inl z) (leads c es t t _ (takes c t) (take_does c t))
