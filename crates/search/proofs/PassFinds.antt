-- The passes over the gathered ids find what fgo_spec's search finds. Assumes nothing.
use Prim.Native.Nat.{ℕ, zero, suc, ◌+◌, ◌*◌, ◌^◌, ◌≤◌, ◌<◌, zero-le}
use native.Mathlib.Nat.{le_refl, le_trans}
use native.Mathlib.Omega.{arith}
use mathlib.Core.Path.{◌≡◌, refl, sym, ap, ◌∙◌, subst}
use mathlib.Core.Bool.{Bool, true, false, ◌&&◌, and-true, and-false}
use mathlib.Core.List.{List, foldl}
use mathlib.Core.Logic.{◌⊎◌, inl, inr}
use lib.ListN.{length}
use lib.Dec.{T}
use Rattle.bounds.specs.Bounds.{DETECTIONS, PASSES}
use Rattle.engine.specs.Config.{max_passes_of}
use Rattle.fgo_spec.specs.declared.moves.FgoCounters.{FgoCounters}
use Rattle.fgo_spec.specs.Lists.{keep, has}
use Rattle.fgo_spec.specs.Windows.{Scan, Prefix, present}
use Rattle.fgo_spec.specs.Searching.{Search as Model, Searched, neighbours, pair_step as on_pair, track_step as on_track, pass, passes, improve}
use Rattle.fgo_spec.proofs.Counting.{has-All, has-keep}
use Rattle.fgo_spec.proofs.Presence.{present_is}
use Rattle.search_rows.specs.declared.moves.Tally.{Tally}
use Rattle.search_rows.specs.Rows.{Starts, present_in}
use Rattle.search_rows.specs.Moves.{begun, one_more}
use Rattle.search.specs.Pass.{Scene, Progress, progress_of, sweep, visit, pass_over}
use Rattle.search.specs.Represents.{Represents, Finds}
use Rattle.search.proofs.Standing.{scans_now, PartsOk}
use Rattle.search_rows.specs.Rows.{Ascends}
use Rattle.search_rows.proofs.IdsAscend.{present_ascends, present-length, ascends_keep, ascends_same}
use Rattle.search.proofs.Absence.{Absent, missing_absent, absent_missing}
use Rattle.fgo_spec.specs.Rule.{All}
use Rattle.search.proofs.PassLaws.{PassLaws}
use Rattle.search.proofs.PassLawsHold.{laws_hold}
use Rattle.search.proofs.GatheredStanding.{gathered_now, gathered-standing}
use Rattle.search.proofs.Tying.{Tied, tied_less, model_of, room-less, one_more_lem}
use Rattle.search.proofs.Sweeping.{sweep_tied, visit_tied}

-- the most moves of a pass: one of each pair, and one of each track
abbrev moves : ℕ
moves = DETECTIONS * DETECTIONS + DETECTIONS

-- of no id it is known that it stands nowhere
abbrev None : ℕ → Type 0
None x = ⊥

module _ (e : Scene) (ps : List (ℕ × Prefix)) (ss : List Scan) (laws : PassLaws e ps ss) (few : e.hall.detections ≤ DETECTIONS) where
  -- ---- one pass

  module _ (p n : ℕ) (s : Progress) (q : Model) (t : Tied e ss None 0 p (moves + n) s q) (early : p ≤ PASSES) where
    listed : List ℕ
    listed = present_in e.hall.detections s.ids

    -- as the pass begins
    begins : Progress
    begins = progress_of s.ids (begun s.tally)

    -- after the pairs, here and in fgo_spec
    swept : Progress
    swept = sweep e s.ids listed begins

    paired : Model
    paired = foldl (on_pair e.hall.config e.hall.first.0 ps) (model_of e ss begins) (neighbours e.hall.config e.hall.first.0 ps (scans_now e ss s.ids) (present (scans_now e ss s.ids)))

    low : ℕ
    low = s.tally.next_id.0

    few-listed : length listed ≤ DETECTIONS
    unfolding listed
    few-listed = le_trans (present-length e.hall.detections s.ids) few

    listed-is : present (scans_now e ss s.ids) ≡ listed
    unfolding listed
    listed-is = laws.present_rows s.tally.next_id.0 s.ids t.stands

    used : (x : ℕ) → T (has x listed) → (0 < x) × (x < low)
    unfolding low
    used x h = present_is (λ x. x < s.tally.next_id.0) (scans_now e ss s.ids) t.stands.known x (subst (λ l. T (has x l)) (sym listed-is) h)

    begins-tied : Tied e ss (λ x. has x listed ≡ false) low (suc p) (moves + n) begins (model_of e ss begins)
    unfolding begins low
    begins-tied =
        record {
          same = refl;
          stands = t.stands;
          from = le_refl s.tally.next_id.0;
          passes = ap one_more t.passes ∙ one_more_lem p (omega arith);
          room = t.room;
          out = λ x h o. missing_absent x (scans_now e ss s.ids) h (ap (has x) listed-is ∙ o);
        }

    swept-tied : Tied e ss (λ x. has x listed ≡ false) low (suc p) (DETECTIONS + n) swept paired
    unfolding swept paired
    swept-tied =
        subst (λ l. Tied e ss (λ x. has x listed ≡ false) low (suc p) (DETECTIONS + n) (sweep e s.ids listed begins) (foldl (on_pair e.hall.config e.hall.first.0 ps) (model_of e ss begins) (neighbours e.hall.config e.hall.first.0 ps (scans_now e ss s.ids) l)))
        (sym listed-is)
        (sweep_tied e ps ss laws low (suc p) (λ x. has x listed ≡ false) s.tally.next_id.0 s.ids t.stands 0 listed (unfold listed in (present_ascends e.hall.detections s.ids))
        (has-All (λ b. (b < low) × (has b listed ≡ false → ⊥)) listed (λ x h. ((used x h).1, λ o. subst T o h)))
        few-listed (DETECTIONS + n) begins (model_of e ss begins)
        (tied_less e ss (λ x. has x listed ≡ false) low (suc p) (moves + n) (length listed * DETECTIONS + (DETECTIONS + n)) (let h = few-listed in omega arith) begins-tied))

    -- who is present after the pairs
    left : ℕ → Bool
    left x = has x (present paired.scans)

    scans-are : paired.scans ≡ scans_now e ss swept.ids
    scans-are = ap (λ (q : Model). q.scans) swept-tied.same

    left-ascends : Ascends 0 (present paired.scans)
    left-ascends = subst (Ascends 0) (sym (ap present scans-are ∙ laws.present_rows swept.tally.next_id.0 swept.ids swept-tied.stands)) (present_ascends e.hall.detections swept.ids)

    left_is : keep left listed ≡ present paired.scans
    unfolding left
    left_is =
        ascends_same 0 0 (keep left listed) (present paired.scans) (ascends_keep left 0 listed (unfold listed in (present_ascends e.hall.detections s.ids))) left-ascends
        (λ x. has-keep left x listed ∙ go x (has x listed) refl)
      where
        go : (x : ℕ) (b : Bool) → has x listed ≡ b → (left x && b) ≡ left x
        go x true h = and-true (left x)
        go x false h = and-false (left x) ∙ sym (absent_missing x paired.scans (λ k. subst (Absent x) (sym scans-are) (swept-tied.out x k h)))

    pass-ends : Tied e ss None 0 (suc p) n (visit e listed swept) (foldl (on_track e.hall.config e.hall.first.0 ps) paired (present paired.scans))
    unfolding left
    pass-ends =
        let v =
        visit_tied e ps ss laws low (suc p) left listed (has-All (λ x. (0 < x) × (x < low)) listed used) n swept paired
        (record {
          same = swept-tied.same;
          stands = swept-tied.stands;
          from = swept-tied.from;
          passes = swept-tied.passes;
          room = room-less (DETECTIONS + n) (length listed + n) swept.tally.next_id.0 swept.tally.counters (let h = few-listed in omega arith) swept-tied.room;
          out = λ x h o. subst (Absent x) scans-are (missing_absent x paired.scans h o.1);
        }) in
        record {
          same = ap (foldl (on_track e.hall.config e.hall.first.0 ps) paired) (sym left_is) ∙ v.same;
          stands = v.stands;
          from = zero-le;
          passes = v.passes;
          room = v.room;
          out = λ x h o. absurd o;
        }

    pass_tied : Tied e ss None 0 (suc p) n (pass_over e s) (pass e.hall.config e.hall.first.0 ps q)
    unfolding pass_over pass listed begins swept paired
    pass_tied = subst (λ q. Tied e ss None 0 (suc p) n (pass_over e s) (pass e.hall.config e.hall.first.0 ps q)) (sym t.same) pass-ends

-- ---- all of them

module _ (e : Scene) (ps : List (ℕ × Prefix)) (ss : List Scan) (next : ℕ) (k : FgoCounters) where
  -- n passes are left, of those of fgo_spec's search with this next id and these counters
  pub record Follows (n : ℕ) (s : Progress) : Type 0 where
    pub ran : ℕ
    pub early : n + ran ≤ PASSES
    pub model : Model
    pub tied : Tied e ss None 0 ran (n * moves) s model
    pub left : improve e.hall.config e.hall.first.0 ps ss next k ≡ passes e.hall.config e.hall.first.0 ps n ran model s.tally.moved

module _ {e : Scene} {ps : List (ℕ × Prefix)} {ss : List Scan} {next : ℕ} {k : FgoCounters} {n : ℕ} {s : Progress} where
  module _ (parts : PartsOk e ps) (few : e.hall.detections ≤ DETECTIONS) (f : Follows e ps ss next k (suc n) s) where
    one : Tied e ss None 0 f.ran (moves + n * moves) s f.model
    one = tied_less e ss None 0 f.ran (suc n * moves) (moves + n * moves) (omega arith) f.tied

    soon : f.ran ≤ PASSES
    soon = omega (arith, f.early)

    -- the ids that have a window are below the next one
    pub follows_known : All (λ x. x < s.tally.next_id.0) (present_in e.hall.detections s.ids)
    unfolding listed low
    follows_known =
        has-All (λ x. x < s.tally.next_id.0) (present_in e.hall.detections s.ids)
        (λ x h. (used e ps ss (laws_hold e ps ss parts) few f.ran (n * moves) s f.model one soon x h).1)

    pub follows_more : s.tally.moved ≡ true → {s' : Progress} → s' ≡ pass_over e s → Follows e ps ss next k n s'
    unfolding passes
    follows_more m q =
        let t = pass_tied e ps ss (laws_hold e ps ss parts) few f.ran (n * moves) s f.model one soon in
        subst (Follows e ps ss next k n) (sym q)
        record {
          ran = suc f.ran;
          early = omega (arith, f.early);
          model = pass e.hall.config e.hall.first.0 ps f.model;
          tied = t;
          left =
              f.left
              ∙ ap (passes e.hall.config e.hall.first.0 ps (suc n) f.ran f.model) m
              ∙ ap (λ (q : Model). passes e.hall.config e.hall.first.0 ps n (suc f.ran) (pass e.hall.config e.hall.first.0 ps f.model) q.moved) t.same;
        }

  -- where none is left, or the last one made no move, it has found what fgo_spec's does
  pub follows_ends : Follows e ps ss next k n s → (n ≡ 0) ⊎ (s.tally.moved ≡ false) → Finds e next k ps ss s.ids s.tally
  unfolding passes
  follows_ends f d =
      record {
        scans = ap (λ (f : Searched). f.search.scans) found;
        next_id = sym (ap (λ (f : Searched). f.search.next_id) found);
        counters = sym (ap (λ (f : Searched). f.search.counters) found);
        moved = sym (ap (λ (f : Searched). f.search.moved) found);
        passes = sym (ap (λ (f : Searched). f.ran) found);
      }
    where
      last : (n : ℕ) (b : Bool) → (n ≡ 0) ⊎ (b ≡ false) → passes e.hall.config e.hall.first.0 ps n f.ran f.model b ≡ record { search = f.model; ran = f.ran }
      last zero b d = refl
      last (suc n) false d = refl
      last (suc n) true (inl z) = absurd (omega arith)
      last (suc n) true (inr z) = cc

      found : improve e.hall.config e.hall.first.0 ps ss next k ≡ record { search = model_of e ss s; ran = s.tally.passes }
      found = f.left ∙ last n s.tally.moved d ∙ (λ i. record { search = f.tied.same i; ran = sym f.tied.passes i })

-- the search begins
pub follows_begins :
    {e : Scene} {ids : List ℕ} {ps : List (ℕ × Prefix)} {ss : List Scan} (t : Tally) → Starts e.starts → t.passes ≡ 0 → t.moved ≡ true →
    Represents e t.next_id.0 t.counters ids ps ss → Follows e ps ss t.next_id.0 t.counters (max_passes_of e.hall.config) (progress_of ids t)
unfolding improve
follows_begins {e} {ids} {ps} {ss} t begins none m g =
    record {
      ran = 0;
      early = omega (arith, g.passes);
      model = record { scans = ss; next_id = t.next_id.0; counters = t.counters; moved = true };
      tied =
          record {
            same = λ i. record { scans = sym (gathered_now g) i; next_id = t.next_id.0; counters = t.counters; moved = sym m i };
            stands = gathered-standing g begins;
            from = zero-le;
            passes = none;
            room =
                record {
                  ids = spare t.next_id.0 g.spare.ids;
                  swaps = spare t.counters.swaps g.spare.swaps;
                  merges = spare t.counters.merges g.spare.merges;
                  splits = spare t.counters.splits g.spare.splits;
                  drops = spare t.counters.drops g.spare.drops;
                };
            out = λ x h o. absurd o;
          };
      left = ap (passes e.hall.config e.hall.first.0 ps (max_passes_of e.hall.config) 0 (record { scans = ss; next_id = t.next_id.0; counters = t.counters; moved = true })) (sym m);
    }
  where
    spare : (i : ℕ) → i ≤ 2 ^ 61 → i + max_passes_of e.hall.config * moves ≤ 2 ^ 62
    spare i h = let m = g.passes in omega arith
