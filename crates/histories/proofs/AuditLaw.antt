-- Demand 3 in the bytes pushed and the words and numbers written. Assumes nothing but that each call is as the
-- contracts of push and take say.
use Prim.Native.Nat.{ℕ, zero, suc, ◌≤◌, ◌<◌}
use native.Mathlib.Omega.{arith}
use mathlib.Core.Path.{◌≡◌, refl, sym, ap, ◌∙◌, subst}
use mathlib.Core.List.Memᴰ
use mathlib.Core.List.{List, [], ◌∷◌, ◌++◌, map, flat_map, append_assoc, map-append, map-map, head-eq_of_cons-eq, tail-eq_of_cons-eq, nil≢cons, Memᴰ}
use mathlib.Core.Option.{Option, none, some, none-ne-some, some-injective}
use lib.ListN.{length, get_or, take, drop, length-append, length-map}
use lib.Seq.{drop_at}
use lib.Dec.{T}
use lib.Ieee.{nan}
use lib.Signed.{le_z, ◌≤ℤ◌}
use Rattle.bounds.specs.Bounds.{TRACK, LINK, STATE}
use Rattle.buffers.specs.Answer.{Op, pushed, taken, Written, refusal_of}
use Rattle.buffers.specs.Run.{accepted_by}
use Rattle.scalar.specs.Scalar.{word}
use Rattle.engine.specs.declared.config.FgoConfig.{FgoConfig}
use Rattle.engine.specs.Config.{coast, forget_after}
use Rattle.engine.specs.Frame.{Frame, no_association, mode_number}
use Rattle.engine.specs.Body.{Body, frame_in, rows, NamedOnce}
use Rattle.engine.proofs.Laid.{rows_back}
use Rattle.fgo_spec.specs.Lists.{times}
use Rattle.fgo_spec.specs.Windows.{Detection, under, window}
use Rattle.fgo_spec.specs.Emitting.{Listed, Emitted, association_words, cost_number, words_of, written}
use Rattle.fgo_spec.specs.Rule.{All}
use Rattle.fgo_spec.specs.History.{run, time_of, scans_of, standing, NeverBack, Rising, afresh, seen, Told}
use Rattle.fgo_spec.specs.Following.{sighted_all, sightings}
use Rattle.fgo_spec.proofs.All.{All-left, All-right, All_weaken, map-All}
use Rattle.fgo_spec.proofs.Arrival.{Column}
use Rattle.fgo_spec.proofs.HistoryLaw.{ran}
use Rattle.fgo_spec.proofs.Following.{sightings-append, followed}
use Rattle.fgo_state.specs.declared.state.FixedLagRefiner.{FixedLagRefiner}
use Rattle.fgo_state.specs.declared.state.Memory.{Memory}
use Rattle.smoother_frame.specs.Frame.{id_word}
use Rattle.histories.specs.Calls.{operations, accepted, wrote}
use Rattle.histories.specs.Refined.{Call, Session}
use Rattle.histories.specs.Audit.{id_at, ids_in, link_in, tracks_in, track_in, line_of, observed, named, times_in, Heard, Audited}
use Rattle.histories.proofs.Parts.{Around, around}
use Rattle.histories.proofs.Reading.{At, element, Associated, association, track_words_lem, track_numbers_lem, association_words_lem, association_word, cost-number, sensor_word_lem, words-length, numbers-length}
use Rattle.histories.proofs.Fresh.{id_is}
use Rattle.histories.proofs.RefinedLaw.{delivered}

-- ---- what a written frame says

abbrev Complete : Emitted → Type 0
Complete e = length e.scan.ids ≡ length e.scan.frame.associations

module _ (e : Emitted) where
  -- the ids of its tracks
  tracks-are : tracks_in (written e) ≡ map (λ l. l.id) e.tracks
  unfolding tracks_in words_of
  tracks-are =
      ap (rows (id_word (words_of e)) 0) (sym (length-map e.tracks (λ l. l.id)))
      ∙ rows_back (id_word (words_of e)) 0 (map (λ l. l.id) e.tracks)
      (λ i h. let k : i < length e.tracks = rw (length-map e.tracks (λ l. l.id)) at h in let a = element e.tracks i k in id_is e i k a ∙ sym (mapped e.tracks i a.item a.after a.here))
    where
      mapped : (l : List Listed) (i : ℕ) (m : Listed) (ms : List Listed) → drop i l ≡ m ∷ ms → get_or (map (λ l. l.id) l) i 0 ≡ m.id
      mapped [] zero m ms q = absurd (nil≢cons q)
      mapped [] (suc i) m ms q = absurd (nil≢cons q)
      mapped (n ∷ l) zero m ms q = ap (λ l. l.id) (head-eq_of_cons-eq q)
      mapped (n ∷ l) (suc i) m ms q = mapped l i m ms q

  -- words and numbers of a track
  track-is : (i : ℕ) → i < length e.tracks → (a : At e.tracks i) → track_in (written e) i ≡ line_of a.item
  track-is i h a = λ k. record { words = take TRACK (track_words_lem e i h a k); numbers = take STATE (track_numbers_lem e i h a k) }

  module _ (complete : Complete e) where
    row : (j : ℕ) → j < length e.scan.frame.associations → Associated e.scan.frame.associations e.scan.ids e.scan.frame.sensors j
    row j h = association e.scan.frame.associations e.scan.ids e.scan.frame.sensors j complete h

    id-at : (j : ℕ) → j < length e.scan.frame.associations → id_at (written e) j ≡ get_or e.scan.ids j 0
    unfolding words_of
    id-at j h = let a = row j h in association_word e j a 1 ∙ sym a.under

    -- the ids of its associations
    ids_are : ids_in (written e) ≡ e.scan.ids
    unfolding ids_in words_of
    ids_are =
        ap (rows (id_at (written e)) 0) (sym complete)
        ∙ rows_back (id_at (written e)) 0 e.scan.ids (λ j h. id-at j (subst (λ n. j < n) complete h))

    link-is : (j : ℕ) → j < length e.scan.frame.associations → link_in (written e) j ≡ association_words (get_or e.scan.frame.associations j no_association) (id_at (written e) j)
    unfolding words_of
    link-is j h =
        let a = row j h in
        ap (take LINK) (association_words_lem e j a) ∙ (λ k. association_words (sym a.at k) ((sym a.under ∙ sym (id-at j h)) k))

-- ---- what was seen

-- frames of bodies, in order
module _ (x : ℕ) where
  observed-is :
      (n : ℕ) (es : List Emitted) (bs : List Body) (rest : List Frame) → All Complete es → map frame_in bs ≡ map (λ e. e.scan.frame) es ++ rest →
      observed x n bs (map written es) ≡ window x n (scans_of es)
  unfolding observed window
  observed-is n [] [] rest h q = refl
  observed-is n [] (b ∷ bs) rest h q = refl
  observed-is n (e ∷ es) [] rest h q = absurd (nil≢cons q)
  observed-is n (e ∷ es) (b ∷ bs) rest h q =
      let f = head-eq_of_cons-eq q in
      λ i. under x n (f i) (f i).associations (ids_are e h.0 i) ++ observed-is (suc n) es bs rest h.1 (tail-eq_of_cons-eq q) i

named_is :
    (es : List Emitted) (bs : List Body) (rest : List Frame) → All Complete es → map frame_in bs ≡ map (λ e. e.scan.frame) es ++ rest →
    named bs (map written es) ≡ sightings (scans_of es)
unfolding named sightings flat_map
named_is [] [] rest h q = refl
named_is [] (b ∷ bs) rest h q = refl
named_is (e ∷ es) [] rest h q = absurd (nil≢cons q)
named_is (e ∷ es) (b ∷ bs) rest h q =
    let f = head-eq_of_cons-eq q in
    λ i. sighted_all (f i).associations (ids_are e h.0 i) ++ named_is es bs rest h.1 (tail-eq_of_cons-eq q) i

-- ---- a frame

module _ (c : FgoConfig) (past : List Emitted) (e : Emitted) (t : Told c past e) (complete : All Complete (past ++ (e ∷ []))) (b : Body) (bs more : List Body)
    (own : frame_in b ≡ e.scan.frame) (first : map frame_in bs ≡ map (λ e. e.scan.frame) past) where
  abbrev all : List Body
  all = bs ++ (b ∷ more)

  frames-are : map frame_in all ≡ map (λ e. e.scan.frame) (past ++ (e ∷ [])) ++ map frame_in more
  frames-are =
      map-append frame_in bs (b ∷ more)
      ∙ (λ i. first i ++ (own i ∷ map frame_in more))
      ∙ sym (append_assoc (map (λ e. e.scan.frame) past) (e.scan.frame ∷ []) (map frame_in more))
      ∙ ap (λ l. l ++ map frame_in more) (sym (map-append (λ e. e.scan.frame) past (e ∷ [])))

  seen-is : (x : ℕ) → observed x 0 all (map written past ++ (written e ∷ [])) ≡ seen past e x
  seen-is x =
      ap (observed x 0 all) (sym (map-append written past (e ∷ [])))
      ∙ observed-is x 0 (past ++ (e ∷ [])) all (map frame_in more) complete frames-are
      ∙ ap (window x 0) (map-append (λ e. e.scan) past (e ∷ []))

  afresh-is : (x : ℕ) → afresh c (frame_in b).time x (observed x 0 all (map written past ++ (written e ∷ []))) ≡ afresh c (time_of e) x (seen past e x)
  afresh-is x = λ i. afresh c (own i).time x (seen-is x i)

  count-is : length bs ≡ length (map written past)
  count-is = sym (length-map bs frame_in) ∙ ap length first ∙ length-map past (λ e. e.scan.frame) ∙ sym (length-map past written)

  own_is : drop (length (map written past)) all ≡ b ∷ more
  own_is = drop_at bs (b ∷ more) (length (map written past)) count-is

  times-are : times_in (take (suc (length (map written past))) all) ≡ map time_of (past ++ (e ∷ []))
  times-are =
      ap times_in (took bs (length (map written past)) count-is)
      ∙ sym (map-map (λ f. f.time) frame_in (bs ++ (b ∷ [])))
      ∙ ap (map (λ f. f.time)) (map-append frame_in bs (b ∷ []) ∙ (λ i. first i ++ (own i ∷ [])) ∙ sym (map-append (λ e. e.scan.frame) past (e ∷ [])))
      ∙ map-map (λ f. f.time) (λ e. e.scan.frame) (past ++ (e ∷ []))
    where
      took : (bs : List Body) (n : ℕ) → length bs ≡ n → take (suc n) (bs ++ (b ∷ more)) ≡ bs ++ (b ∷ [])
      took [] zero h = refl
      took [] (suc n) h = absurd (omega arith)
      took (d ∷ bs) zero h = absurd (omega arith)
      took (d ∷ bs) (suc n) h = ap (λ l. d ∷ l) (took bs n (omega arith))

  -- what is worked out of an id has that id
  fresh-id : (x : ℕ) (ds : List Detection) (l : Listed) → afresh c (time_of e) x ds ≡ some l → x ≡ l.id
  unfolding afresh
  fresh-id x [] l q = absurd (none-ne-some l q)
  fresh-id x (d ∷ ds) l q = ap (λ m. m.id) (some-injective _ _ q)

  whole : Complete e
  whole = (All-right Complete past (e ∷ []) complete).0

  heard : Heard c all (map written past) (written e)
  heard =
      record {
        body = b;
        later = more;
        own = own_is;
        head = unfold words_of in (ap (λ (f : Frame). word f.time ∷ mode_number f.mode ∷ length e.tracks ∷ length f.associations ∷ length f.sensors ∷ 0 ∷ []) (sym own));
        rising = subst Rising (sym (tracks-are e)) t.rising;
        links = λ j h. subst (λ f. (j : ℕ) → j < length f.associations → link_in (written e) j ≡ association_words (get_or f.associations j no_association) (id_at (written e) j)) (sym own) (link-is e whole) j h;
        apart = λ x h. subst (λ l. times x l ≤ 1) (sym (ids_are e whole)) (t.apart x h);
        costs = unfold words_of in (λ j h. cost-number e j ∙ ap (λ (f : Frame). get_or (map (λ a. cost_number a.cost) f.associations) j nan) (sym own));
        sensors = unfold words_of in (λ k. sensor_word_lem e whole k ∙ ap (λ (f : Frame). get_or f.sensors k 0) (sym own));
        long = (words-length e whole, numbers-length e);
        dots = subst NamedOnce (sym own) t.named;
        tracks = unfold words_of in track;
        exact = exact;
      }
    where
      track :
          (i : ℕ) → i < length e.tracks →
          (let x = id_word (words_of e) i in
          (l : Listed) × (0 < x) × (afresh c (frame_in b).time x (observed x 0 all (map written past ++ (written e ∷ []))) ≡ some l) × T (le_z l.age (coast c)) × (track_in (written e) i ≡ line_of l))
      track i h =
          let a = element e.tracks i h in
          let k = t.listed a.item a.among in
          let q = id_is e i h a in (
            a.item,
            subst (λ x. 0 < x) (sym q) k.id,
            afresh-is (id_word (words_of e) i) ∙ ap (λ x. afresh c (time_of e) x (seen past e x)) q ∙ k.fresh,
            k.young,
            track-is e i h a,
          )

      exact :
          NeverBack (times_in (take (suc (length (map written past))) all)) → coast c ≤ℤ forget_after c → (x : ℕ) (l : Listed) → 0 < x →
          afresh c (frame_in b).time x (observed x 0 all (map written past ++ (written e ∷ []))) ≡ some l → T (le_z l.age (coast c)) → Memᴰ x (tracks_in (written e))
      exact nb cf x l z q y =
          let f = sym (afresh-is x) ∙ q in
          let w = fresh-id x (seen past e x) l f in
          let m =
          t.exact (subst NeverBack times-are nb) cf l
          (record { id = subst (λ x. 0 < x) w z; fresh = subst (λ x. afresh c (time_of e) x (seen past e x) ≡ some l) w f; young = y }) in
          subst (Memᴰ x) (sym (tracks-are e)) (Memᴰ.cast w (Memᴰ.map (λ l. l.id) m))

-- ---- the theorem

-- the bodies accepted say the frames accepted
bodies_say : (ks : List Call) → map frame_in (accepted (λ b. b) ks) ≡ accepted frame_in ks
unfolding accepted flat_map
bodies_say [] = refl
bodies_say (k ∷ ks) =
    map-append frame_in (accepted_by (λ b. b) k.sent (refusal_of k.answer)) (accepted (λ b. b) ks)
    ∙ (λ i. one k.sent (refusal_of k.answer) i ++ bodies_say ks i)
  where
    one : (o : Op Body) (n : Option ℕ) → map frame_in (accepted_by (λ b. b) o n) ≡ accepted_by frame_in o n
    one (pushed b) none = refl
    one (pushed b) (some n) = refl
    one taken n = refl

module _ (c : FgoConfig) (r : FixedLagRefiner) (m : Memory) (ks : List Call) (s : Session c r m ks) where
  abbrev es : List Emitted
  es = (run c (operations ks)).emitted

  abbrev bs : List Body
  bs = accepted (λ b. b) ks

  order : map frame_in bs ≡ map (λ e. e.scan.frame) es ++ map (λ s. s.frame) (run c (operations ks)).state.scans
  order = let d = delivered c r m ks s in bodies_say ks ∙ d.delivered.taken_in ∙ sym d.history.in_order

  frames : wrote ks ≡ map written es
  frames = (delivered c r m ks s).delivered.frames

  complete-all : All Complete es
  complete-all =
      map-All (λ s. length s.ids ≡ length s.frame.associations) (λ e. e.scan) es
      (All_weaken (Column (λ x. x < (run c (operations ks)).state.next_id)) (λ s. length s.ids ≡ length s.frame.associations) (scans_of es) (λ s k. k.regular.complete)
      (ran c (operations ks)).inv.gone)

  every : (before : List Written) (o : Written) (after : List Written) → wrote ks ≡ before ++ (o ∷ after) → Heard c bs before o
  every before o after q =
      subst (λ l. Heard c l before o) (sym v.whole)
      (subst (λ l. Heard c (v.before ++ (v.item ∷ v.after)) l o) p.left
      (subst (Heard c (v.before ++ (v.item ∷ v.after)) (map written p.before)) p.here
      (heard c p.before p.item told done v.item v.before v.after v.here v.left)))
    where
      p : Around written es before o after
      p = around written es before o after (sym frames ∙ q)

      rest : List Frame
      rest = map (λ s. s.frame) (run c (operations ks)).state.scans

      apart : map (λ e. e.scan.frame) es ++ rest ≡ map (λ e. e.scan.frame) p.before ++ (p.item.scan.frame ∷ (map (λ e. e.scan.frame) p.after ++ rest))
      apart =
          ap (λ l. map (λ e. e.scan.frame) l ++ rest) p.whole
          ∙ ap (λ l. l ++ rest) (map-append (λ e. e.scan.frame) p.before (p.item ∷ p.after))
          ∙ append_assoc (map (λ e. e.scan.frame) p.before) (p.item.scan.frame ∷ map (λ e. e.scan.frame) p.after) rest

      v : Around frame_in bs (map (λ e. e.scan.frame) p.before) p.item.scan.frame (map (λ e. e.scan.frame) p.after ++ rest)
      v = around frame_in bs _ _ _ (order ∙ apart)

      told : Told c p.before p.item
      told = (delivered c r m ks s).history.every p.before p.item p.after p.whole

      done : All Complete (p.before ++ (p.item ∷ []))
      done =
          All-left Complete (p.before ++ (p.item ∷ [])) p.after
          (subst (All Complete) (p.whole ∙ sym (append_assoc p.before (p.item ∷ []) p.after)) complete-all)

  pub audited : Audited c bs (wrote ks)
  audited =
      record {
        few =
            omega (arith, ap length frames, length-map es written, ap length order, length-map bs frame_in, length-append (map (λ e. e.scan.frame) es) (map (λ s. s.frame) (run c (operations ks)).state.scans), length-map es (λ e. e.scan.frame));
        every = every;
        placed =
            λ z d e x h k l.
            (followed c z (operations ks)).apart d e x h (stands d x k) (stands e x l);
      }
    where
      stands : (e x : ℕ) → Memᴰ (e, x) (named bs (wrote ks)) → Memᴰ (e, x) (sightings (standing c (operations ks)))
      stands e x k =
          subst (Memᴰ (e, x)) (sym (sightings-append (scans_of es) (run c (operations ks)).state.scans))
          (Memᴰ.append_left (sightings (run c (operations ks)).state.scans) (subst (Memᴰ (e, x)) (ap (named bs) frames ∙ named_is es bs _ complete-all order) k))
