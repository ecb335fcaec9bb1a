-- The memory of a state and of the bodies of its scans: that of a new refiner, what a frame that arrives and the oldest
-- scan that leaves make of it, and the bodies read back. Assumes nothing.
use Prim.Native.Nat.{ℕ, suc, ◌+◌, ◌*◌, ◌%◌, ◌≤◌, ◌<◌}
use native.Mathlib.Nat.{mod-lt, mul_comm}
use native.Mathlib.Omega.{arith}
use mathlib.Core.Path.{◌≡◌, refl, sym, ap, ◌∙◌}
use mathlib.Core.List.{List, [], ◌∷◌, ◌++◌, map, map-append, flat_map, append-nil}
use lib.ListN.{length, take, drop, get_or, replicate, length-append, length-map, length-replicate}
use lib.Ieee.{Float}
use Rattle.std.specs.Float.{binary64}
use Rattle.std.specs.Float.Ieee.{of_bits}
use Rattle.std.proofs.lemmas.List.{drop_all}
use Rattle.bounds.specs.Bounds.{SCANS, BODY, BODIES, COLUMN, COLUMNS, OWNER, OWNERS, FROZEN, PART, PARTS, FILTER, FILTERS}
use Rattle.buffers.specs.Buffers.{over, cleared}
use Rattle.buffers.specs.Slots.{slotted}
use Rattle.buffers.proofs.Over.{length_over}
use Rattle.buffers.proofs.Apart.{renewed_laid}
use Rattle.buffers.proofs.Slots.{slotted_snoc, slot_within, slot_cleared, slot_here, slot_cell}
use Rattle.engine.specs.declared.config.FgoConfig.{FgoConfig}
use Rattle.engine.specs.Frame.{Frame}
use Rattle.engine.specs.Body.{Body, body, frame_in, body_refusal, associations_in, rows}
use Rattle.engine.proofs.Laid.{length-flat}
use Rattle.fgo_spec.specs.Windows.{Scan, Prefix}
use Rattle.fgo_spec.specs.Freezing.{freeze_scan}
use Rattle.fgo_spec.specs.Refiner.{State, new, placed, with_scan, searched, arrive, leave}
use Rattle.fgo_spec.specs.Rule.{All, Rule}
use Rattle.fgo_spec.proofs.All.{All-append, All_weaken}
use Rattle.fgo_spec.proofs.Keeping.{Known}
use Rattle.fgo_spec.proofs.Arrival.{Column}
use Rattle.fgo_spec.proofs.Accepting.{Room}
use Rattle.fgo_part.specs.Parts.{part_words, part_numbers}
use Rattle.fgo_part.proofs.Parts.{part_long}
use Rattle.fgo_state.specs.declared.state.FixedLagRefiner.{FixedLagRefiner}
use Rattle.fgo_state.specs.Memory.{memory, no_memory, slot_at, head_at, head_for, length_in, kind_in, bytes_at, body_at, column_words, owner_words}
use Rattle.fgo_state.specs.Contents.{ids_put, columns_of, arrived, departed, held_bodies, laid}
use Rattle.fgo_state.proofs.Heads.{head_length, head_kind}
use Rattle.fgo_state.proofs.OwnerCells.{words_long as owners_long}
use Rattle.fgo_arrive.proofs.HeldScans.{body_fits}
use Rattle.histories.proofs.StateRoom.{Low, Fits, arrives, places, owners_grow, owners_room, frozen_grow, frozen_room}
use Rattle.histories.proofs.HeldBodies.{Complete, Bodied, bodied_many, bodied_more, bodied_ids, bodied_few, bodied_rest}
use Rattle.histories.proofs.HeldBodies.{bytes_wide, columns_wide, columns_many, columns_more}

some : 0 < SCANS
some = omega arith

-- the bodies bs in their slots, of which the first has the number n, and the columns of their scans, over a list
abbrev bodies_in : ℕ → List Body → List ℕ → List ℕ
bodies_in n bs l = slotted BODY SCANS n (map (λ b. b.bytes) bs) l

abbrev columns_in : ℕ → List Body → List Scan → List ℕ → List ℕ
columns_in n bs ss l = slotted COLUMN SCANS n (columns_of bs ss) l

-- the column of a body
abbrev column_for : Body → List ℕ → List ℕ
column_for b is = column_words b.kind (length b.bytes) is

-- the arrays of slots, cleared
abbrev no_bodies : List ℕ
no_bodies = replicate BODIES 0

abbrev no_columns : List ℕ
no_columns = replicate COLUMNS 0

bodies_long : length no_bodies ≡ BODIES
bodies_long = length-replicate {A = ℕ} BODIES 0

columns_long : length no_columns ≡ COLUMNS
columns_long = length-replicate {A = ℕ} COLUMNS 0

-- ---- a new refiner's

over_nothing : {A : Type 0} (l : List A) → over 0 [] l ≡ l
unfolding over
over_nothing l = refl

pub new_laid : no_memory ≡ laid new []
unfolding laid slotted columns_of flat_map
new_laid =
    λ i.
    memory no_bodies no_columns (sym (over_nothing (replicate OWNERS 0)) i) (sym (over_nothing (replicate PARTS 0)) i)
    (sym (over_nothing (replicate FILTERS (of_bits binary64 0))) i)

-- ---- slots

-- a list put in the slot after those in use
slot_put :
    (wide n m : ℕ) (gs : List (List ℕ)) (g l : List ℕ) → m ≡ n + length gs →
    over (wide * slot_at m) g (slotted wide SCANS n gs l) ≡ slotted wide SCANS n (gs ++ (g ∷ [])) l
slot_put wide n m gs g l e =
    ap (λ (o : ℕ). over o g (slotted wide SCANS n gs l)) (mul_comm wide (slot_at m) ∙ ap (λ (m : ℕ). m % SCANS * wide) e)
    ∙ sym (slotted_snoc wide SCANS n gs g l)

-- a column with other ids, as many
column_anew : (h : ℕ) (is js : List ℕ) → length is ≡ length js → over 1 js (h ∷ is) ≡ h ∷ js
unfolding over
column_anew h is js e =
    ap (λ m. h ∷ (js ++ m)) (drop_all (1 + length js) (h ∷ is) (omega arith)) ∙ ap (λ m. h ∷ m) (append-nil js)

-- the columns of scans with their ids anew
ids_laid :
    (n : ℕ) (bs : List Body) (rs ss : List Scan) (l : List ℕ) → Bodied bs rs → Bodied bs ss → length bs ≤ SCANS → length l ≡ COLUMNS →
    ids_put n ss (columns_in n bs rs l) ≡ columns_in n bs ss l
unfolding ids_put columns_of slotted
ids_laid n [] rs [] l h k few long = refl
ids_laid n [] rs (s ∷ ss) l h k few long = absurd (omega (arith, bodied_many [] (s ∷ ss) k))
ids_laid n (b ∷ bs) [] ss l h k few long = absurd (omega (arith, bodied_many (b ∷ bs) [] h))
ids_laid n (b ∷ bs) (r ∷ rs) [] l h k few long = absurd (omega (arith, bodied_many (b ∷ bs) [] k))
ids_laid n (b ∷ bs) (r ∷ rs) (s ∷ ss) l h k few long =
    let gs : List (List ℕ) = columns_of bs rs in
    let g : List ℕ = column_for b s.ids in
    let o : ℕ = n % SCANS * COLUMN in
    let rest = bodied_rest b bs r rs h in
    let many : length gs ≡ length bs = columns_many bs rs (bodied_many bs rs rest) in
    let same : length r.ids ≡ length s.ids = bodied_ids b bs r rs h ∙ sym (bodied_ids b bs s ss k) in
    let low = bodied_few b bs r rs h in
    let at : COLUMN * slot_at n + 1 ≡ o + 1 = omega arith in
    let fits : o + length g ≤ length l = omega (arith, mod-lt n some) in
    ap (λ (m : ℕ). ids_put (suc n) ss (over m s.ids (slotted COLUMN SCANS n (column_for b r.ids ∷ gs) l))) at
    ∙ ap (ids_put (suc n) ss)
    (slot_within COLUMN SCANS some n (column_for b r.ids) gs l (omega arith) (omega arith) (columns_wide bs rs rest) (omega arith) 1 s.ids (omega arith))
    ∙ ap (λ x. ids_put (suc n) ss (slotted COLUMN SCANS (suc n) gs (over o x l))) (column_anew (head_for b.kind (length b.bytes)) r.ids s.ids same)
    ∙ ids_laid (suc n) bs rs ss (over o g l) rest (bodied_rest b bs s ss k) (omega arith) (length_over o g l fits ∙ long)

-- ---- how long what stands in the parts is

words_long : (ps : List (ℕ × Prefix)) → length (flat_map part_words ps) ≡ PART * length ps
words_long = length-flat part_words PART (λ e. refl)

numbers_long : (ps : List (ℕ × Prefix)) → All Low ps → length (flat_map part_numbers ps) ≡ FILTER * length ps
unfolding flat_map
numbers_long [] h = refl
numbers_long (e ∷ ps) h = omega (arith, length-append (part_numbers e) (flat_map part_numbers ps), part_long e h.0, numbers_long ps h.1)

-- ---- a frame arrives

module _ (c : FgoConfig) (t : State) (b : Body) (rule : Rule c t) (room : Room t (frame_in b)) (passes : body_refusal b ≡ 0)
    (bs : List Body) (h : Bodied bs t.scans) where
  abbrev f : Frame
  f = frame_in b

  abbrev u : State
  u = arrive c t f

  -- the scan as placing leaves it
  abbrev put : Scan
  put = record { frame = f; ids = (placed t f).ids }

  many : length bs ≡ length t.scans
  many = bodied_many bs t.scans h

  pub arrived_bodied : Bodied (bs ++ (b ∷ [])) u.scans
  unfolding arrive
  arrived_bodied =
      let a = arrives c t f rule room in
      let r = (searched c t f).search in
      record {
        frames = map-append frame_in bs (b ∷ []) ∙ ap (λ l. l ++ (f ∷ [])) h.frames ∙ sym a.frames;
        passes = All-append (λ b. body_refusal b ≡ 0) bs (b ∷ []) h.passes (passes, tt);
        complete = All_weaken (Column (Known (λ x. x < t.next_id) t.next_id r.next_id)) Complete r.scans (λ s k. k.regular.complete) a.columns;
      }

  placed_bodied : Bodied (bs ++ (b ∷ [])) (with_scan t f)
  placed_bodied = bodied_more bs t.scans b put h passes refl (places c t f rule room).complete

  -- its body and its column in their slots
  body-put :
      (l : List ℕ) → over (BODY * slot_at (t.first + length t.scans)) b.bytes (bodies_in t.first bs l) ≡ bodies_in t.first (bs ++ (b ∷ [])) l
  body-put l =
      let gs = map (λ b. b.bytes) bs in
      slot_put BODY t.first (t.first + length t.scans) gs b.bytes l (omega (arith, many, length-map bs (λ b. b.bytes)))
      ∙ ap (λ gs. slotted BODY SCANS t.first gs l) (sym (map-append (λ b. b.bytes) bs (b ∷ [])))

  column-put :
      (l : List ℕ) → over (COLUMN * slot_at (t.first + length t.scans)) (column_for b (placed t f).ids) (columns_in t.first bs t.scans l)
      ≡ columns_in t.first (bs ++ (b ∷ [])) (with_scan t f) l
  column-put l =
      let gs = columns_of bs t.scans in
      slot_put COLUMN t.first (t.first + length t.scans) gs (column_for b (placed t f).ids) l (omega (arith, many, columns_many bs t.scans many))
      ∙ ap (λ gs. slotted COLUMN SCANS t.first gs l) (sym (columns_more bs t.scans b put many))

  pub arrived_laid : length bs < SCANS → arrived c t b (laid t bs) ≡ laid u (bs ++ (b ∷ []))
  unfolding laid arrive
  arrived_laid few =
      let columns =
      ap (ids_put t.first u.scans) (column-put no_columns)
      ∙ ids_laid t.first (bs ++ (b ∷ [])) (with_scan t f) u.scans no_columns placed_bodied arrived_bodied
      (omega (arith, length-append bs (b ∷ []))) columns_long in
      let owners =
      renewed_laid 0 (OWNER * length (placed t f).owners) OWNERS (flat_map owner_words u.owners) (flat_map owner_words t.owners)
      (omega (arith, owners_long t.owners, owners_grow c t f rule room)) (omega (arith, owners_room c t f rule room)) in
      λ i.
      memory (body-put no_bodies i) (columns i) (owners i)
      (over 0 (flat_map part_words t.prefixes) (replicate PARTS 0))
      (over 0 (flat_map part_numbers t.prefixes) (replicate FILTERS (of_bits binary64 0)))

-- ---- bodies read back

-- the first
module _ (n : ℕ) (b : Body) (bs : List Body) (s : Scan) (ss : List Scan) (h : Bodied (b ∷ bs) (s ∷ ss)) (few : length bs < SCANS)
    (k l : List ℕ) (wide : length k ≡ BODIES) (deep : length l ≡ COLUMNS) where
  abbrev bodies : List ℕ
  bodies = bodies_in n (b ∷ bs) k

  abbrev columns : List ℕ
  columns = columns_in n (b ∷ bs) (s ∷ ss) l

  head_is : head_at columns n ≡ head_for b.kind (length b.bytes)
  unfolding columns_of
  head_is =
      let at : COLUMN * slot_at n ≡ (n + 0) % SCANS * COLUMN + 0 = omega arith in
      let gs : List (List ℕ) = columns_of (b ∷ bs) (s ∷ ss) in
      let many : length gs ≡ suc (length bs) = columns_many (b ∷ bs) (s ∷ ss) (bodied_many (b ∷ bs) (s ∷ ss) h) in
      ap (λ (o : ℕ). get_or columns o 0) at
      ∙ slot_cell COLUMN SCANS some n gs l (omega arith) (columns_wide (b ∷ bs) (s ∷ ss) h) (omega arith) 0 (omega arith) 0 0 (omega arith)

  bytes_is : bytes_at bodies columns n ≡ b.bytes
  unfolding bytes_at
  bytes_is =
      let at : BODY * slot_at n ≡ (n + 0) % SCANS * BODY = omega arith in
      let gs : List (List ℕ) = map (λ b. b.bytes) (b ∷ bs) in
      let many : length gs ≡ suc (length bs) = length-map (b ∷ bs) (λ b. b.bytes) in
      ap (λ (h : ℕ). take (length_in h) (drop (BODY * slot_at n) bodies)) head_is
      ∙ ap (λ (m : ℕ). take m (drop (BODY * slot_at n) bodies)) (head_length b.kind (length b.bytes) (body_fits b h.passes.0))
      ∙ ap (λ (o : ℕ). take (length b.bytes) (drop o bodies)) at
      ∙ slot_here BODY SCANS some n gs k (omega arith) (bytes_wide (b ∷ bs) h.passes) (omega arith) 0 (omega arith)

  body_is : body_at bodies columns n ≡ b
  body_is = let kind = ap kind_in head_is ∙ head_kind b.kind (length b.bytes) in λ i. body (kind i) (bytes_is i)

bodies_back :
    (n : ℕ) (bs : List Body) (ss : List Scan) (k l : List ℕ) → Bodied bs ss → length bs ≤ SCANS → length k ≡ BODIES → length l ≡ COLUMNS →
    rows (body_at (bodies_in n bs k) (columns_in n bs ss l)) n (length bs) ≡ bs
unfolding rows slotted columns_of
bodies_back n [] ss k l h few wide deep = refl
bodies_back n (b ∷ bs) [] k l h few wide deep = absurd (omega (arith, bodied_many (b ∷ bs) [] h))
bodies_back n (b ∷ bs) (s ∷ ss) k l h few wide deep =
    let o : ℕ = n % SCANS * BODY in
    let p : ℕ = n % SCANS * COLUMN in
    let g : List ℕ = column_for b s.ids in
    let slot = mod-lt n some in
    let x : length (over o b.bytes k) ≡ length k = length_over o b.bytes k (omega (arith, slot, body_fits b h.passes.0)) in
    let y : length (over p g l) ≡ length l = length_over p g l (omega (arith, slot, bodied_few b bs s ss h)) in
    λ i.
    body_is n b bs s ss h (omega arith) k l wide deep i
    ∷ bodies_back (suc n) bs ss (over o b.bytes k) (over p g l) (bodied_rest b bs s ss h) (omega arith) (x ∙ wide) (y ∙ deep) i

-- all that a refiner holds
pub held_laid :
    (r : FixedLagRefiner) (t : State) (bs : List Body) → r.first.0 ≡ t.first → r.held ≡ length bs → Bodied bs t.scans → length bs ≤ SCANS →
    held_bodies r (laid t bs) ≡ bs
unfolding laid
held_laid r t bs first held h few =
    let at = body_at (bodies_in t.first bs no_bodies) (columns_in t.first bs t.scans no_columns) in
    (λ i. rows at (first i) (held i)) ∙ bodies_back t.first bs t.scans no_bodies no_columns h few bodies_long columns_long

-- ---- the oldest scan leaves

module _ (c : FgoConfig) (t : State) (s : Scan) (ss : List Scan) (q : t.scans ≡ s ∷ ss) (k : Fits t)
    (b : Body) (bs : List Body) (h : Bodied (b ∷ bs) (s ∷ ss)) (few : length bs < SCANS) where
  abbrev n : ℕ
  n = t.first

  abbrev after : State
  after = leave c t s ss

  abbrev full : List ℕ
  full = bodies_in n (b ∷ bs) no_bodies

  abbrev all : List Scan → List ℕ
  all ts = columns_in n (b ∷ bs) ts no_columns

  rest : Bodied bs ss
  rest = bodied_rest b bs s ss h

  -- its slot, as much of it as the body that is read there says
  body-cleared : cleared 0 (BODY * slot_at n) (length (bytes_at full (all t.scans) n)) full ≡ bodies_in (suc n) bs no_bodies
  body-cleared =
      let gs = map (λ b. b.bytes) bs in
      let read : bytes_at full (all t.scans) n ≡ b.bytes =
      ap (λ ts. bytes_at full (all ts) n) q ∙ bytes_is n b bs s ss h few no_bodies no_columns bodies_long columns_long in
      ap (λ (x : List ℕ). cleared 0 (BODY * slot_at n) (length x) full) read
      ∙ ap (λ (o : ℕ). cleared 0 o (length b.bytes) full) (mul_comm BODY (slot_at n))
      ∙ slot_cleared BODY SCANS some 0 BODIES n (length b.bytes) b.bytes gs (omega (arith, length-map bs (λ b. b.bytes))) (omega arith)
      (body_fits b h.passes.0) (bytes_wide bs h.passes.1) (omega arith)

  column-cleared :
      cleared 0 (COLUMN * slot_at n) (1 + associations_in (body_at full (all t.scans) n)) (all t.scans) ≡ columns_in (suc n) bs ss no_columns
  unfolding columns_of
  column-cleared =
      let gs = columns_of bs ss in
      let m : ℕ = 1 + associations_in b in
      let read : body_at full (all t.scans) n ≡ b =
      ap (λ ts. body_at full (all ts) n) q ∙ body_is n b bs s ss h few no_bodies no_columns bodies_long columns_long in
      let low = bodied_few b bs s ss h in
      let ids = bodied_ids b bs s ss h in
      ap (λ (x : Body). cleared 0 (COLUMN * slot_at n) (1 + associations_in x) (all t.scans)) read
      ∙ ap (λ ts. cleared 0 (COLUMN * slot_at n) m (all ts)) q
      ∙ ap (λ (o : ℕ). cleared 0 o m (all (s ∷ ss))) (mul_comm COLUMN (slot_at n))
      ∙ slot_cleared COLUMN SCANS some 0 COLUMNS n m (column_for b s.ids) gs (omega (arith, columns_many bs ss (bodied_many bs ss rest))) (omega arith)
      (omega arith) (columns_wide bs ss rest) (omega arith)

  pub departed_laid : departed c t s ss (laid t (b ∷ bs)) ≡ laid after bs
  unfolding laid leave
  departed_laid =
      let m : ℕ = length (freeze_scan c n s t.prefixes) in
      let z : Float = of_bits binary64 0 in
      let grow : length t.prefixes ≤ m = frozen_grow c t s ss q k in
      let room : m ≤ FROZEN = frozen_room c t s ss q k in
      let owners =
      renewed_laid 0 (OWNER * length t.owners) OWNERS (flat_map owner_words after.owners) (flat_map owner_words t.owners)
      (omega (arith, owners_long t.owners)) (omega (arith, k.owners)) in
      let tracks =
      renewed_laid 0 (PART * m) PARTS (flat_map part_words after.prefixes) (flat_map part_words t.prefixes)
      (omega (arith, words_long t.prefixes)) (omega arith) in
      let filters =
      renewed_laid z (FILTER * m) FILTERS (flat_map part_numbers after.prefixes) (flat_map part_numbers t.prefixes)
      (omega (arith, numbers_long t.prefixes k.heights)) (omega arith) in
      λ i. memory (body-cleared i) (column-cleared i) (owners i) (tracks i) (filters i)
