-- The oldest scan leaves: what each step asks of the one before it, and what is left, cell by cell. Assumes nothing.
use Prim.Native.Nat.{ℕ, zero, suc, ◌+◌, ◌-◌, ◌*◌, ◌≤◌, ◌<◌, compare, Ordering}
use native.Mathlib.Nat.{zero-add, add-zero, le_refl}
use native.Mathlib.Numerals.{add-one}
use native.Mathlib.Omega.{arith}
use mathlib.Core.Path.{◌≡◌, refl, sym, ap, subst, ◌∙◌}
use mathlib.Core.Bool.{true}
use mathlib.Core.List.{List, [], ◌∷◌, flat_map}
use mathlib.Core.Option.{Option, none, some}
use lib.ListN.{length, length-map, drop}
use lib.Dec.{eqb}
use lib.IntN.{ℤ}
use lib.Ieee.{Float}
use mir.Syntax.{w64}
use mir.Val.{to_z, of_z}
use mir.Facts.{to_z-of_z}
use Rattle.std.specs.Float.{binary64}
use Rattle.std.specs.Float.Ieee.{of_bits}
use Rattle.bounds.specs.Bounds.{ACCEPTED, DETECTIONS, FROZEN, BODIES, COLUMNS, OWNER, PART, FILTER}
use Rattle.engine.specs.declared.config.FgoConfig.{FgoConfig}
use Rattle.engine.specs.declared.types.Association.{Association}
use Rattle.engine.specs.Frame.{Frame}
use Rattle.engine.specs.Body.{Body, layout, time_ok, frame_of, frame_in, body_refusal}
use Rattle.engine.proofs.Every.{all-at, all_true}
use Rattle.engine.proofs.Passing.{sized-body, length-rows}
use Rattle.fgo_spec.specs.Lists.{keep, find, put, put_by}
use Rattle.fgo_spec.specs.Windows.{Scan, Detection, Prefix, detection_of, live, window_count}
use Rattle.fgo_spec.specs.Freezing as freezing
use Rattle.fgo_spec.specs.Freezing.{freeze, freeze_one, freeze_all, freeze_scan, remember}
use Rattle.fgo_spec.specs.Owning.{live_owners}
use Rattle.fgo_spec.specs.Emitting.{Emitted, report, listing}
use Rattle.fgo_spec.specs.Refiner as spec
use Rattle.fgo_spec.specs.Rule.{All}
use Rattle.fgo_spec.proofs.All.{mem_All}
use Rattle.fgo_spec.proofs.Counting.{count-le, keep_same}
use Rattle.fgo_spec.proofs.Windows.{detections_cons}
use Rattle.fgo_spec.proofs.Growing.{freeze_up, freeze-length}
use Rattle.fgo_spec.proofs.Tables.{Up, up_keep}
use Rattle.fgo_state.specs.declared.scans.Scans.{Scans}
use Rattle.fgo_state.specs.declared.state.FixedLagRefiner.{FixedLagRefiner}
use Rattle.buffers.specs.declared.FrameSize.{FrameSize}
use Rattle.buffers.specs.Buffers.{renewed}
use Rattle.buffers.specs.Answer.{taken, Reply, gives, Frame as Gives}
use Rattle.fgo_part.specs.Parts.{entry_in, table_in, part_words, part_numbers, Rises}
use Rattle.fgo_state.specs.declared.state.Memory.{Memory}
use Rattle.fgo_state.specs.Memory.{body_at, scan_in, scans_in, live_in, owner_entry, owner_words, owners_in, state_of}
use Rattle.fgo_state.specs.Contents.{slot_cleared, departed, settled}
use Rattle.fgo_freeze.specs.Frozen.{FreezesScan, PartOk, PartsOk, Past, Remembered}
use Rattle.fgo_emit.specs.Writing.{Roomy, emitted_in, PutsFrame, PutFrame}
use Rattle.fgo_state.specs.Sound.{bodies_ok}
use Rattle.fgo_arrive.specs.Arriving.{Ready}
use Rattle.fgo.specs.Promise.{Sized, Carried}
use Rattle.fgo_place.proofs.Owners.{owners_are}
use Rattle.fgo.proofs.Sizes.{sized-small}
use Rattle.fgo_spec.proofs.Rows.{rows_all, row_of, rows-first}
use Rattle.engine.proofs.ReadBack.{time_fits}
use Rattle.fgo_state.proofs.Counts.{sensors_long, sensors_few, associations_long, associations_few}
use Rattle.fgo_state.proofs.Columns.{scan_complete}
use Rattle.fgo_freeze.proofs.Order.{ordered_up, up_rises, frozen_fits}
use Rattle.fgo_state.proofs.Live.{live_rule}
use Rattle.fgo_state.proofs.OtherSlots.{body_else}
use Rattle.fgo_state.proofs.SlotClearing.{clear_within, scans_left}
use Rattle.buffers.proofs.Agreeing.{renewed_past}

-- ---- frozen parts of which ages can be told

module _ (P : ℕ × Prefix → Type 0) (x : ℕ) (a : Prefix) (new : P (x, a)) where
  put_all : (ps : List (ℕ × Prefix)) → All P ps → All P (put x a ps)
  unfolding put
  put_all [] h = (new, tt)
  put_all (e ∷ ps) h = by (compare x e.0) (put_all ps h.1)
    where
      by : (o : Ordering) → All P (put x a ps) → All P (put_by o (x, a) e ps (put x a ps))
      by Ordering.lt r = (new, h)
      by Ordering.eq r = (new, h.1)
      by Ordering.gt r = (h.0, r)

part_frozen : (c : FgoConfig) (x : ℕ) (o : Option Prefix) (d : Detection) → 0 < x → time_ok d.time ≡ true → PartOk (x, freeze c o d)
unfolding freeze
part_frozen c x none d h t = record { named = h; height = omega arith; timed = t }
part_frozen c x (some p) d h t = record { named = h; height = (frozen_fits c p.count (some p) d (le_refl p.count)).0; timed = t }

module _ (c : FgoConfig) (n : ℕ) (f : Frame) (timed : time_ok f.time ≡ true) where
  one_frozen : (a : Association) (i : ℕ) (ps : List (ℕ × Prefix)) → All PartOk ps → All PartOk (freeze_one c n f ps a i)
  unfolding detection_of
  one_frozen a zero ps h = h
  one_frozen a (suc i) ps h = put_all PartOk (suc i) (freeze c (find (suc i) ps) (detection_of n f a)) (part_frozen c (suc i) (find (suc i) ps) (detection_of n f a) (omega arith) timed) ps h

  -- they stay so
  parts-frozen : (l : List Association) (is : List ℕ) (ps : List (ℕ × Prefix)) → All PartOk ps → All PartOk (freeze_all c n f l is ps)
  unfolding freeze_all
  parts-frozen [] is ps h = h
  parts-frozen (a ∷ l) [] ps h = h
  parts-frozen (a ∷ l) (i ∷ is) ps h = parts-frozen l is (freeze_one c n f ps a i) (one_frozen a i ps h)

table_long : (tracks : List ℕ) (filters : List Float) (n : ℕ) → length (table_in tracks filters n) ≡ n
table_long tracks filters n = length-rows (entry_in tracks filters) 0 n

-- ---- the oldest scan

module _ (r : FixedLagRefiner) (m : Memory) (ready : Ready r m) (some : 1 ≤ r.held) where
  abbrev n : ℕ
  n = r.first.0

  abbrev s : Scan
  s = scan_in m.scans.bodies m.scans.columns n

  -- the frozen parts before and after
  abbrev ps : List (ℕ × Prefix)
  ps = table_in m.parts.tracks m.parts.filters r.frozen

  abbrev fs : List (ℕ × Prefix)
  fs = freeze_scan r.config n s ps

  -- the scans that stay
  abbrev ss : List Scan
  ss = scans_in m.scans.bodies m.scans.columns (n + 1) (r.held - 1)

  pub oldest-passes : body_refusal (body_at m.scans.bodies m.scans.columns n) ≡ 0
  oldest-passes = subst (λ (i : ℕ). body_refusal (body_at m.scans.bodies m.scans.columns i) ≡ 0) (add-zero n) (ready.passes 0 some)

  timed : time_ok s.frame.time ≡ true
  unfolding scan_in frame_of
  timed = (let b = body_at m.scans.bodies m.scans.columns n in (sized-body (layout b) b.bytes oldest-passes).time)

  -- its time, as the machine passes it on
  pub time-is : {b : Body} {t : ℤ} → b ≡ body_at m.scans.bodies m.scans.columns n → (body_refusal b ≡ 0 → t ≡ (frame_in b).time) → to_z w64 (of_z w64 t) ≡ s.frame.time
  unfolding scan_in
  time-is {b} {t} e h =
      let u : t ≡ s.frame.time = h (ap (λ (k : Body). body_refusal k) e ∙ oldest-passes) ∙ ap (λ (k : Body). (frame_in k).time) e in
      to_z-of_z (time_fits t (ap time_ok u ∙ timed)) ∙ u

  scans-are : scans_in m.scans.bodies m.scans.columns n r.held ≡ s ∷ ss
  scans-are = rows-first (scan_in m.scans.bodies m.scans.columns) n r.held some ∙ ap (λ (i : ℕ). s ∷ scans_in m.scans.bodies m.scans.columns i (r.held - 1)) (sym (add-one n))

  room : length ps + window_count (s ∷ ss) ≤ DETECTIONS
  room = omega (arith, ready.room, ap window_count scans-are, table_long m.parts.tracks m.parts.filters r.frozen)

  pub freezes : FreezesScan m.scans.bodies m.scans.columns n m.parts.tracks m.parts.filters r.frozen
  freezes =
      record {
        passes = oldest-passes;
        ordered = ready.ordered;
        room = omega (arith, room, detections_cons s ss, table_long m.parts.tracks m.parts.filters r.frozen);
      }

  frozen-few : length fs ≤ FROZEN
  frozen-few = omega (arith, room, detections_cons s ss, freeze-length r.config n s.frame s.frame.associations s.ids ps)

  frozen-parts : All PartOk fs
  frozen-parts =
      parts-frozen r.config n s.frame timed s.frame.associations s.ids ps
      (rows_all PartOk (entry_in m.parts.tracks m.parts.filters) 0 r.frozen (λ k l. subst (λ (i : ℕ). PartOk (entry_in m.parts.tracks m.parts.filters i)) (sym (zero-add k)) (ready.parts k l)))

  -- ---- after freezing

  module _ (tracks : List ℕ) (filters : List Float) (frozen : ℕ) (froze : table_in tracks filters frozen ≡ fs) where
    pub parts : {time : ℤ} → time ≡ s.frame.time → PartsOk time tracks filters frozen
    parts e =
        record {
          timed = ap time_ok e ∙ timed;
          few = omega (arith, frozen-few, ap length froze, table_long tracks filters frozen);
          parts =
              λ k l.
              subst (λ (i : ℕ). PartOk (entry_in tracks filters i)) (zero-add k)
              (row_of PartOk (entry_in tracks filters) 0 frozen k (subst (All PartOk) (sym froze) frozen-parts) l);
        }

    pub puts : {ws : List ℕ} {ns : List Float} → Roomy ws ns → PutsFrame m.scans.bodies m.scans.columns n tracks filters frozen ws ns
    puts room = record { passes = oldest-passes; parts = parts refl; room = room }

    -- what is written is what is emitted
    emits : emitted_in r.config m.scans.bodies m.scans.columns n tracks filters frozen ≡ spec.emit r.config n ps s
    unfolding spec.emit
    emits = rw froze

    -- ---- after forgetting

    pub forgets : {time : ℤ} → time ≡ s.frame.time → PartsOk time tracks filters frozen
    forgets e = parts e

    module _ (tracks' : List ℕ) (filters' : List Float) (kept : ℕ) {time : ℤ} (e : time ≡ s.frame.time)
        (forgot : Remembered (remember r.config time ss (table_in tracks filters frozen)) frozen kept tracks filters tracks' filters') where
      -- the frozen parts that stay
      staying : remember r.config time ss (table_in tracks filters frozen) ≡ remember r.config s.frame.time ss fs
      staying = ap (λ t. remember r.config t ss (table_in tracks filters frozen)) e ∙ ap (remember r.config s.frame.time ss) froze

      left : table_in tracks' filters' kept ≡ remember r.config s.frame.time ss fs
      left = forgot.table ∙ staying

      -- they lie at the front, and the others of the table are cleared
      parts-cells :
          {A : Type 0} (z : A) (width : ℕ) (cells : ℕ × Prefix → List A) (l k l' : List A) →
          l' ≡ renewed z (width * frozen) (flat_map cells (remember r.config time ss (table_in tracks filters frozen))) k → drop (width * frozen) k ≡ drop (width * frozen) l →
          l' ≡ renewed z (width * length fs) (flat_map cells (remember r.config s.frame.time ss fs)) l
      parts-cells z width cells l k l' q p =
          let many : length fs ≡ frozen = sym (ap length froze) ∙ table_long tracks filters frozen in
          q
          ∙ renewed_past z (width * frozen) (flat_map cells (remember r.config time ss (table_in tracks filters frozen))) k l p
          ∙ ap (λ es. renewed z (width * frozen) (flat_map cells es) l) staying
          ∙ ap (λ (n : ℕ). renewed z (width * n) (flat_map cells (remember r.config s.frame.time ss fs)) l) (sym many)

      -- they are few, and lie by rising ids
      pub kept-parts : (kept ≤ FROZEN) × Rises tracks' kept
      unfolding remember
      kept-parts =
          let keeps = freezing.kept r.config s.frame.time ss in
          let up : Up 0 fs = freeze_up r.config n s.frame s.frame.associations s.ids ps (ordered_up ACCEPTED 0 ps ready.ordered) in (
            omega (arith, frozen-few, ap length left, table_long tracks' filters' kept, count-le keeps fs),
            up_rises 0 tracks' filters' kept (subst (Up 0) (sym left) (up_keep 0 keeps fs up)),
          )

      -- ---- the owners

      -- those that have a live owner
      abbrev living : List (ℕ × ℕ)
      living = keep (λ o. live_in m.scans.bodies m.scans.columns (n + 1) (r.held - 1) tracks' kept o.1) (owners_in m.owners r.owned)

      module _ (owners' : List ℕ) (owned : ℕ) (alive : (owned ≡ length living) × (owners' ≡ renewed 0 (OWNER * r.owned) (flat_map owner_words living) m.owners)) where
        living-are : living ≡ live_owners (remember r.config s.frame.time ss fs) ss (owners_in m.owners r.owned)
        living-are =
            let os = owners_in m.owners r.owned in
            keep_same (λ o. live_in m.scans.bodies m.scans.columns (n + 1) (r.held - 1) tracks' kept o.1) (λ o. live (table_in tracks' filters' kept) ss o.1) os
            (mem_All (λ o. live_in m.scans.bodies m.scans.columns (n + 1) (r.held - 1) tracks' kept o.1 ≡ live (table_in tracks' filters' kept) ss o.1) os
            (λ o i. live_rule m.scans.bodies m.scans.columns (n + 1) (r.held - 1) tracks' filters' kept o.1))
            ∙ ap (λ es. live_owners es ss os) left

        owners-left : owners_in owners' owned ≡ live_owners (remember r.config s.frame.time ss fs) ss (owners_in m.owners r.owned)
        owners-left = owners_are living _ alive.0 alive.1 ∙ living-are

        -- ---- the slot is cleared, and no other one

        abbrev cleared : Scans
        cleared = slot_cleared n m.scans

        module _ (long : length m.scans.bodies ≡ BODIES) (wide : length m.scans.columns ≡ COLUMNS) where
          -- ---- the end

          abbrev refiner : FixedLagRefiner
          refiner =
              record {
                config = r.config;
                first = record { 0 = n + 1 };
                held = r.held - 1;
                frozen = kept;
                owned = owned;
                next_id = r.next_id;
                counters = r.counters;
              }

          abbrev after : Memory
          after = record { scans = cleared; owners = owners'; parts = record { tracks = tracks'; filters = filters' } }

          state-left : state_of refiner after ≡ spec.leave r.config (state_of r m) s ss
          unfolding state_of spec.leave
          state-left =
              λ i.
              record {
                first = add-one n i;
                scans = scans_left m.scans n long wide oldest-passes r.held ready.few i;
                prefixes = left i;
                owners = owners-left i;
                next_id = r.next_id.0;
                counters = r.counters;
              }

          bodies-left : bodies_ok m.scans.bodies m.scans.columns n r.held ≡ true → bodies_ok cleared.bodies cleared.columns (n + 1) (r.held - 1) ≡ true
          unfolding bodies_ok
          bodies-left h =
              all_true _ (r.held - 1)
              (λ i l.
              let q : n + suc i ≡ n + 1 + i = omega arith in
              subst (λ (b : Body). eqb (body_refusal b) 0 ≡ true) (sym (body_else (clear_within m.scans n long wide oldest-passes) (n + 1 + i) (λ z. let few = ready.few in omega arith)))
              (subst (λ (k : ℕ). eqb (body_refusal (body_at m.scans.bodies m.scans.columns k)) 0 ≡ true) q
              (all-at (λ j. eqb (body_refusal (body_at m.scans.bodies m.scans.columns (n + j))) 0) r.held (suc i) h (omega arith))))

          -- every cell
          memory-left :
              Past frozen m.parts.tracks m.parts.filters tracks filters →
              after ≡ departed r.config (state_of r m) s ss m
          unfolding state_of spec.leave
          memory-left past =
              λ i.
              record {
                scans = cleared;
                owners =
                    (alive.1
                    ∙ (λ j. renewed 0 (OWNER * sym (length-rows (owner_entry m.owners) 0 r.owned) j) (flat_map owner_words (living-are j)) m.owners))
                    i;
                parts =
                    record {
                      tracks = parts-cells 0 PART part_words m.parts.tracks tracks tracks' forgot.words past.words i;
                      filters = parts-cells (of_bits binary64 0) FILTER part_numbers m.parts.filters filters filters' forgot.numbers past.numbers i;
                    };
              }

          -- a frame lists no more than the frozen parts
          sized : Sized (spec.emit r.config n ps s)
          unfolding spec.emit listing scan_in
          sized =
              let b = body_at m.scans.bodies m.scans.columns n in
              let passing = keep (freezing.listable r.config s.frame.time) fs in
              record {
                tracks = omega (arith, frozen-few, length-map passing (λ e. report r.config s.frame.time e.0 e.1), count-le (freezing.listable r.config s.frame.time) fs);
                associations = rw (associations_long b) (associations_few b oldest-passes);
                sensors = rw (sensors_long b) (sensors_few b oldest-passes);
                complete = scan_complete m.scans.bodies m.scans.columns n;
              }

          pub leaving_ends :
              {z : FrameSize} {ws ws' : List ℕ} {ns ns' : List Float} →
              PutFrame (emitted_in r.config m.scans.bodies m.scans.columns n tracks filters frozen) z ws ns ws' ns' →
              Past frozen m.parts.tracks m.parts.filters tracks filters →
              Carried taken (spec.takes r.config (state_of r m)) r m ws ns (Gives z.words z.numbers) refiner after ws' ns'
          unfolding state_of spec.takes spec.freeze_oldest
          leaving_ends {z} {ws} {ws'} {ns} {ns'} u past =
              let g : Emitted = spec.emit r.config n ps s in
              let a : Reply Emitted × spec.State = (gives g, spec.leave r.config (state_of r m) s ss) in
              let is : spec.takes r.config (state_of r m) ≡ a = ap (spec.freeze_oldest r.config (state_of r m)) scans-are in
              let put = subst (λ e. PutFrame e z ws ns ws' ns') emits u in
              subst (λ x. Carried taken x r m ws ns (Gives z.words z.numbers) refiner after ws' ns') (sym is)
              (record {
                ends = record { answered = rw (put.words_count, put.numbers_count); state = state-left; words = put.words; numbers = put.numbers; small = sized-small g sized; unchanged = tt };
                memory = memory-left past ∙ ap (λ z. settled r.config (state_of r m) z m) (sym scans-are);
                settings = refl;
                bodies = bodies-left;
                sized = sized;
              })
