-- A frame arrives: what placing and searching leave of the scans, the ids and the owner entries. Assumes nothing.
use Prim.Native.Nat.{ℕ, ◌+◌, ◌≤◌, ◌<◌}
use native.Mathlib.Nat.{le_refl, le_trans}
use native.Mathlib.Omega.{arith}
use mathlib.Core.Path.{◌≡◌, refl, ◌∙◌, subst}
use mathlib.Core.Logic.{inl, inr}
use mathlib.Core.List.{List, [], ◌∷◌, ◌++◌, map, map-append}
use lib.ListN.{length, length-map}
use lib.Dec.{T}
use Rattle.engine.specs.declared.config.FgoConfig.{FgoConfig}
use Rattle.engine.specs.Frame.{Frame}
use Rattle.fgo_spec.specs.Lists.{keep}
use Rattle.fgo_spec.specs.Windows.{Scan, in_windows, window_count, live}
use Rattle.fgo_spec.specs.Placing.{Placing}
use Rattle.fgo_spec.specs.Searching.{exchange, clear, Search}
use Rattle.fgo_spec.specs.Refiner.{State, placed, with_scan, searched, id_count}
use Rattle.fgo_spec.specs.Rule.{All}
use Rattle.fgo_spec.specs.Faithful.{Regular}
use Rattle.fgo_spec.proofs.All.{All-append, All_both}
use Rattle.fgo_spec.proofs.Counting.{no_longer}
use Rattle.fgo_spec.proofs.Tables.{keys, Distinct}
use Rattle.fgo_spec.proofs.Renaming.{exchange-zero, clear_zero, fewer-map}
use Rattle.fgo_spec.proofs.Presence.{Names}
use Rattle.fgo_spec.proofs.Windows.{detections_cons, detections_snoc}
use Rattle.fgo_spec.proofs.Keeping.{with_ids, regular_exchange, regular_clear, Beside, beside-All, beside_same, Known, known_up, Kept, search_keeps}
use Rattle.fgo_spec.proofs.Ties.{Tied, TiedScan, tied_map, tied_weaken}
use Rattle.fgo_spec.proofs.Placement.{Has, Placed, placed-all, joined_ids, joined_ids_old, joined_ids_new}

-- ---- a column: an id for each association, none twice, and G of each

pub record Column (G : ℕ → Type 0) (s : Scan) : Type 0 where
  pub regular : Regular s
  pub named : Names G s

pub column_weaken : (G H : ℕ → Type 0) → ((x : ℕ) → G x → H x) → (s : Scan) → Column G s → Column H s
column_weaken G H k s f = record { regular = f.regular; named = λ x h t. k x (f.named x h t) }

-- ---- what a search keeps of a scan

module _ (K : ℕ → Type 0) where
  record Sound (s t : Scan) : Type 0 where
    frame : t.frame ≡ s.frame
    regular : Regular t
    tied : TiedScan K t
    few : in_windows t.ids ≤ in_windows s.ids

  sound-exchange : (s t : Scan) (a b : ℕ) → 0 < a → 0 < b → Sound s t → Sound s (with_ids t (map (exchange a b) t.ids))
  sound-exchange s t a b ha hb h =
      record {
        frame = h.frame;
        regular = regular_exchange t a b ha hb h.regular;
        tied = tied_map K (exchange a b) (exchange-zero a b ha hb) t.frame.associations t.ids h.tied;
        few = le_trans (fewer-map (exchange a b) (exchange-zero a b ha hb) t.ids) h.few;
      }

  sound-clear : (s t : Scan) (a : ℕ) → Sound s t → Sound s (with_ids t (map (clear a) t.ids))
  sound-clear s t a h =
      record {
        frame = h.frame;
        regular = regular_clear t a h.regular;
        tied = tied_map K (clear a) (clear_zero a) t.frame.associations t.ids h.tied;
        few = le_trans (fewer-map (clear a) (clear_zero a) t.ids) h.few;
      }

beside-frames :
    (P : Scan → Scan → Type 0) → ((s t : Scan) → P s t → t.frame ≡ s.frame) → (ss ts : List Scan) → Beside P ss ts →
    map (λ t. t.frame) ts ≡ map (λ s. s.frame) ss
beside-frames P f [] [] h = refl
beside-frames P f [] (t ∷ ts) h = absurd h
beside-frames P f (s ∷ ss) [] h = absurd h
beside-frames P f (s ∷ ss) (t ∷ ts) h = λ i. f s t h.0 i ∷ beside-frames P f ss ts h.1 i

beside_few :
    (P : Scan → Scan → Type 0) → ((s t : Scan) → P s t → in_windows t.ids ≤ in_windows s.ids) → (ss ts : List Scan) → Beside P ss ts →
    window_count ts ≤ window_count ss
beside_few P f [] [] h = le_refl (window_count [])
beside_few P f [] (t ∷ ts) h = absurd h
beside_few P f (s ∷ ss) [] h = absurd h
beside_few P f (s ∷ ss) (t ∷ ts) h = omega (arith, detections_cons s ss, detections_cons t ts, f s t h.0, beside_few P f ss ts h.1)

-- ---- placing and searching

module _ (c : FgoConfig) (t : State) (f : Frame) (Old : ℕ → Type 0) where
  -- what the ids and the entries were
  pub record Before : Type 0 where
    pub begun : 0 < t.next_id
    pub below : (x : ℕ) → Old x → x < t.next_id
    pub alive : (x : ℕ) → T (live t.prefixes t.scans x) → Old x
    pub columns : All (Column Old) t.scans
    pub tied : All (TiedScan (Has t.owners)) t.scans
    pub distinct : Distinct t.owners

  -- what they are, and the scans
  pub record Arrived (r : Search) : Type 0 where
    pub low : t.next_id ≤ r.next_id
    pub frames : map (λ s. s.frame) r.scans ≡ map (λ s. s.frame) t.scans ++ (f ∷ [])
    pub columns : All (Column (Known Old t.next_id r.next_id)) r.scans
    pub few : window_count r.scans ≤ window_count t.scans + id_count f.associations
    pub tied : All (TiedScan (Has (placed t f).owners)) r.scans
    pub distinct : Distinct (placed t f).owners
    -- no more entries than engine ids that had one, joined with the frame's
    pub entries : length (placed t f).owners ≤ length (joined_ids (keys t.owners) f.associations)

  module _ (b : Before) where
    abbrev p : Placing
    p = placed t f

    abbrev s : Scan
    s = record { frame = f; ids = p.ids }

    abbrev J : List ℕ
    J = joined_ids (keys t.owners) f.associations

    pub place_is : Placed Old t.next_id t.owners J f.associations p
    unfolding keep
    place_is =
        placed-all Old t.next_id b.begun b.below t.prefixes t.scans b.alive t.owners J [] f.associations
        (record { ids = []; owners = t.owners; next_id = t.next_id })
        (record {
          low = le_refl t.next_id;
          complete = refl;
          apart = λ x z. omega arith;
          named = λ x z q. absurd (omega arith);
          tied = unfold Tied in tt;
          few = le_refl 0;
          grows = λ e h. h;
          distinct = b.distinct;
          keyed = joined_ids_old (keys t.owners) f.associations;
        })
        (joined_ids_new (keys t.owners) f.associations)

    -- the ids that the search finds are those before and those that placing gave
    abbrev Old' : ℕ → Type 0
    Old' = Known Old t.next_id p.next_id

    abbrev K : ℕ → Type 0
    K = Has p.owners

    record Start (s : Scan) : Type 0 where
      column : Column Old' s
      tie : TiedScan K s

    start-all : All Start (with_scan t f)
    start-all =
        All-append Start t.scans (s ∷ [])
        (All_both (Column Old) (TiedScan (Has t.owners)) Start t.scans
        (λ r h k. record {
          column = column_weaken Old Old' (λ x o. inl o) r h;
          tie = tied_weaken (Has t.owners) K place_is.grows r.frame.associations r.ids k;
        })
        b.columns b.tied) (
          record {
            column = record { regular = record { complete = place_is.complete; apart = place_is.apart }; named = place_is.named };
            tie = place_is.tied;
          },
          tt,
        )

    searched-is : (let r = (searched c t f).search in (p.next_id ≤ r.next_id) × Beside (Kept Old' p.next_id (Sound K) r.next_id) (with_scan t f) r.scans)
    searched-is =
        search_keeps Old' p.next_id (le_trans b.begun place_is.low) (Sound K) (sound-exchange K) (sound-clear K)
        c t.first t.prefixes (with_scan t f) t.counters
        (beside_same (Kept Old' p.next_id (Sound K) p.next_id) Start
        (λ r h. record {
          holds = record { frame = refl; regular = h.column.regular; tied = h.tie; few = le_refl (in_windows r.ids) };
          named = λ x z q. inl (h.column.named x z q);
        })
        (with_scan t f) start-all)

    pub arrived : Arrived (searched c t f).search
    arrived =
        let r = (searched c t f).search in
        let low : p.next_id ≤ r.next_id = searched-is.0 in
        let all = searched-is.1 in
        let P = Kept Old' p.next_id (Sound K) r.next_id in
        record {
          low = le_trans place_is.low low;
          frames = beside-frames P (λ s t k. k.holds.frame) (with_scan t f) r.scans all ∙ map-append (λ s. s.frame) t.scans (s ∷ []);
          columns =
              beside-All P (Column (Known Old t.next_id r.next_id))
              (λ s t k. record { regular = k.holds.regular; named = λ x z q. join-known r.next_id low x (k.named x z q) })
              (with_scan t f) r.scans all;
          few =
              le_trans (beside_few P (λ s t k. k.holds.few) (with_scan t f) r.scans all)
              (let h = place_is.few in omega (arith, detections_snoc t.scans s));
          tied = beside-All P (TiedScan K) (λ s t k. k.holds.tied) (with_scan t f) r.scans all;
          distinct = place_is.distinct;
          entries = subst (λ n. n ≤ length J) (length-map p.owners (λ o. o.0)) (no_longer (keys p.owners) J place_is.distinct place_is.keyed);
        }
      where
        join-known : (n : ℕ) → p.next_id ≤ n → (x : ℕ) → Known Old' p.next_id n x → Known Old t.next_id n x
        join-known n h x (inl k) = known_up Old t.next_id p.next_id n x h k
        join-known n h x (inr k) = inr (le_trans place_is.low k.0, k.1)
