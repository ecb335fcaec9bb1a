-- Document 01, "searching": pairs and cuts, the moves and their gains, passes. Definitions only.
use Rattle.std.specs.Prelude.{ℕ, zero, suc, ◌+◌, min, Bool, true, false, cond, ◌&&◌, ◌||◌, length, leb, eqb, ltb, pos, Float, Option, Some, None}
use mathlib.Core.List.{List, [], ◌∷◌, ◌++◌, map, foldl}
use Rattle.std.proofs.Math.Option.{none}
use Rattle.std.specs.Float.{binary64}
use Rattle.std.specs.Float.Ieee.{add, sub, mul, lt, of_bits, of_int}
use Rattle.engine.specs.declared.config.FgoConfig.{FgoConfig}
use Rattle.engine.specs.Config.{radius, clutter, max_passes_of}
use Rattle.fgo_spec.specs.declared.moves.PairMove.{PairMove}
use Rattle.fgo_spec.specs.declared.moves.PairMove.TheVariants.{Swap, Merge}
use Rattle.fgo_spec.specs.declared.moves.TrackMove.{TrackMove}
use Rattle.fgo_spec.specs.declared.moves.TrackMove.TheVariants.{Split, Drop}
use Rattle.fgo_spec.specs.declared.moves.FgoCounters.{FgoCounters}
use Rattle.fgo_spec.specs.Lists.{keep, any, has, up_from, find, is_some}
use Rattle.fgo_spec.specs.Windows.{Scan, Detection, Prefix, window, present, price}

infixl 65 ◌⊕◌ ◌⊖◌
infixl 70 ◌⊗◌
-- a sum, rounded once
abbrev pub ◌⊕◌ : Float → Float → Float
x ⊕ y = add binary64 x y

-- a difference
abbrev pub ◌⊖◌ : Float → Float → Float
x ⊖ y = sub binary64 x y

-- a product
abbrev pub ◌⊗◌ : Float → Float → Float
x ⊗ y = mul binary64 x y

-- "Squares are v·v"
abbrev pub square : Float → Float
square v = v ⊗ v

-- ---- moves: each renames ids within the scans

-- an id with a and b exchanged
abbrev pub exchange : ℕ → ℕ → ℕ → ℕ
exchange a b i = cond (eqb a i) b (cond (eqb b i) a i)

-- an id, or 0 where it is a
abbrev pub clear : ℕ → ℕ → ℕ
clear a i = cond (eqb a i) 0 i

-- each column changed by its scan's number
unfoldable pub recolumn : (ℕ → List ℕ → List ℕ) → ℕ → List Scan → List Scan
recolumn g n [] = []
recolumn g n (s ∷ ss) = record { frame = s.frame; ids = g n s.ids } ∷ recolumn g (suc n) ss

-- one scan of a merge: the keeper k takes over o's detection; where both have one, k's own is kept, or o's, and the
-- other becomes clutter
abbrev pub absorb : Bool → ℕ → ℕ → List ℕ → List ℕ
absorb true k o is = cond (has k is) (map (clear o) is) (map (exchange k o) is)
absorb false k o is = cond (has o is) (map (exchange k o) (map (clear k) is)) is

-- from the cut f on two ids are exchanged
abbrev pub swap_column : ℕ → ℕ → ℕ → ℕ → List ℕ → List ℕ
swap_column a b f n is = cond (leb f n) (map (exchange a b) is) is

-- in scan f the id a is cleared
abbrev pub drop_column : ℕ → ℕ → ℕ → List ℕ → List ℕ
drop_column a f n is = cond (eqb f n) (map (clear a) is) is

-- the one of a pair that is not the keeper
abbrev pub other_of : ℕ → ℕ → ℕ → ℕ
other_of a b k = cond (eqb a k) b a

-- ---- the best move

-- what a move of a pair gains
abbrev pub pair_gain : PairMove → Float
pair_gain (Swap f g) = g
pair_gain (Merge k own g) = g

-- likewise of a single track
abbrev pub track_gain : TrackMove → Float
track_gain (Split f g) = g
track_gain (Drop f g) = g

-- "a move with gain d wins only if d < best − 1e-9"
abbrev pub wins : Float → Float → Bool
wins d best = lt d (best ⊖ of_bits binary64 0x3e11_2e0b_e826_d695)

-- "The best gain begins at 0.0"
abbrev pub best_gain : {M : Type 0} → (M → Float) → Option M → Float
best_gain gain None = of_bits binary64 0
best_gain gain (Some m) = gain m

-- "keeps for each pair the best move with its gain": of equal gains the first tried stays; none while none wins
abbrev pub better : {M : Type 0} → (M → Float) → Option M → M → Option M
better gain best m = cond (wins (gain m) (best_gain gain best)) (Some m) best

-- the better move of a pair
abbrev pub better_pair : Option PairMove → PairMove → Option PairMove
better_pair best m = better pair_gain best m

-- and of a single track
abbrev pub better_track : Option TrackMove → TrackMove → Option TrackMove
better_track best m = better track_gain best m

-- ---- counting

-- the counters after the best move of a pair
abbrev pub count_pair : Option PairMove → FgoCounters → FgoCounters
count_pair None k = k
count_pair (Some (Swap f g)) k = record { swaps = suc k.swaps; merges = k.merges; splits = k.splits; drops = k.drops }
count_pair (Some (Merge i own g)) k = record { swaps = k.swaps; merges = suc k.merges; splits = k.splits; drops = k.drops }

-- the counters after the best move of a single track
abbrev pub count_track : Option TrackMove → FgoCounters → FgoCounters
count_track None k = k
count_track (Some (Split f g)) k = record { swaps = k.swaps; merges = k.merges; splits = suc k.splits; drops = k.drops }
count_track (Some (Drop f g)) k = record { swaps = k.swaps; merges = k.merges; splits = k.splits; drops = suc k.drops }

-- the tail of a split "gets the next id"
abbrev pub next_after : Option TrackMove → ℕ → ℕ
next_after None n = n
next_after (Some (Split f g)) n = suc n
next_after (Some (Drop f g)) n = n

-- a move was made
abbrev pub moves : {M : Type 0} → Option M → Bool
moves None = false
moves (Some m) = true

-- what a pass changes, and whether it made a move
pub record Search : Type 0 where
  pub scans : List Scan
  pub next_id : ℕ
  pub counters : FgoCounters
  pub moved : Bool

-- how many passes ran, and what they left
pub record Searched : Type 0 where
  pub search : Search
  pub ran : ℕ

-- two tracks that come close, with their cuts
pub record Pair : Type 0 where
  pub a : ℕ
  pub b : ℕ
  pub cuts : List ℕ

-- a pair that has cuts is listed
abbrev pub cons_pair : ℕ → ℕ → List ℕ → List Pair → List Pair
cons_pair a b [] ps = ps
cons_pair a b (g ∷ gs) ps = record { a = a; b = b; cuts = g ∷ gs } ∷ ps

-- the scans that both have: in each of them a merge has a loser
unfoldable pub shared : ℕ → ℕ → List Scan → ℕ
shared a b [] = 0
shared a b (s ∷ t) = cond (has a s.ids && has b s.ids) 1 0 + shared a b t

-- a window without its first detection
unfoldable pub rest : List Detection → List Detection
rest [] = []
rest (d ∷ ds) = ds

-- "if the window's length, plus 1 where there is a frozen part, exceeds 1, the drop of each single detection is tried"
abbrev pub droppable : Bool → List Detection → List Detection
droppable frozen w = cond (ltb 1 (length w + cond frozen 1 0)) w []

-- "squared distance"
abbrev pub distance2 : Detection → Detection → Float
distance2 d e = square (d.x ⊖ e.x) ⊕ square (d.y ⊖ e.y)

-- the settings, the number of the oldest scan held and the frozen parts do not change during a search
module _ (c : FgoConfig) (first : ℕ) (ps : List (ℕ × Prefix)) where
  -- "the old cost"
  unfoldable pub track_cost : ℕ → List Scan → Float
  track_cost x ss = price c (find x ps) (window x first ss)

  -- "The two tracks exchange the parts of their windows from the cut on"
  abbrev pub swapped : ℕ → ℕ → ℕ → List Scan → List Scan
  swapped a b f ss = recolumn (swap_column a b f) first ss

  -- "in the scans that both tracks share, first the keeper's own detections are kept, then the other track's. The
  -- detections not kept are the losers and become clutter." "After a merge the other track's window is empty."
  abbrev pub merged : Bool → ℕ → ℕ → List Scan → List Scan
  merged own k o ss = recolumn (λ n. absorb own k o) first ss

  -- a dropped detection becomes clutter
  abbrev pub dropped : ℕ → ℕ → List Scan → List Scan
  dropped a f ss = recolumn (drop_column a f) first ss

  -- what the best move leaves
  abbrev pub after_pair : ℕ → ℕ → List Scan → Option PairMove → List Scan
  after_pair a b ss None = ss
  after_pair a b ss (Some (Swap f g)) = swapped a b f.0 ss
  after_pair a b ss (Some (Merge k own g)) = merged own k.0 (other_of a b k.0) ss

  -- "The tail has no frozen part; it gets the next id", here x
  abbrev pub after_track : ℕ → ℕ → List Scan → Option TrackMove → List Scan
  after_track a x ss None = ss
  after_track a x ss (Some (Split f g)) = swapped a x f.0 ss
  after_track a x ss (Some (Drop f g)) = dropped a f.0 ss

  -- ---- "A pass first lists, in ascending order, the pairs of tracks a < b"

  -- "in one scan or in two consecutive scans, at a squared distance below radius²"
  unfoldable pub close : Detection → Detection → Bool
  close d e =
      leb d.scan (suc e.scan) && leb e.scan (suc d.scan) && lt (distance2 d e) (square (radius c))

  -- "it notes the earlier of their scans, f. The cuts of a pair are all its f and f + 1, in ascending order."
  unfoldable pub is_cut : List Detection → List Detection → ℕ → Bool
  is_cut v w g =
      any (λ d. any (λ e. (eqb g (min d.scan e.scan) || eqb g (suc (min d.scan e.scan))) && close d e) w) v

  -- the cuts of a pair, ascending: f and f + 1 are held scans or the one after
  unfoldable pub cuts : List Scan → ℕ → ℕ → List ℕ
  cuts ss a b = keep (is_cut (window a first ss) (window b first ss)) (up_from first (suc (length ss)))

  -- the pairs of a with later ids
  unfoldable pub neighbours_of : List Scan → ℕ → List ℕ → List Pair
  neighbours_of ss a [] = []
  neighbours_of ss a (b ∷ bs) = cons_pair a b (cuts ss a b) (neighbours_of ss a bs)

  -- the pairs a < b of a list of ascending ids
  unfoldable pub neighbours : List Scan → List ℕ → List Pair
  neighbours ss [] = []
  neighbours ss (a ∷ l) = neighbours_of ss a l ++ neighbours ss l

  -- ---- the best move of a pair: "The base is the old cost of a plus the old cost of b"

  -- "d = (new cost of a + new cost of b) − base"; a swap that leaves a's window equal never wins
  -- (proofs/NoGain.antt), so that it is as if skipped
  unfoldable pub try_swap : ℕ → ℕ → List Scan → Float → ℕ → PairMove
  try_swap a b ss base f =
      let t = swapped a b f ss in
      Swap (record { 0 = f }) (track_cost a t ⊕ track_cost b t ⊖ base)

  -- "With the merged track's cost, d = (cost + losers·clutter_cost) − base"
  unfoldable pub try_merge : ℕ → ℕ → ℕ → Bool → List Scan → Float → PairMove
  try_merge a b k own ss base =
      Merge (record { 0 = k }) own
      (track_cost k (merged own k (other_of a b k) ss) ⊕ of_int binary64 (pos (shared a b ss)) ⊗ clutter c ⊖ base)

  -- "Swaps are tried first, at each cut"; "Merges are tried next, with a as the keeper and then with b"
  unfoldable pub pair_candidates : List Scan → Pair → List PairMove
  pair_candidates ss p =
      let a = p.a in
      let b = p.b in
      let base = track_cost a ss ⊕ track_cost b ss in
      map (try_swap a b ss base) p.cuts
      ++ (try_merge a b a true ss base
      ∷ try_merge a b a false ss base
      ∷ try_merge a b b true ss base
      ∷ try_merge a b b false ss base
      ∷ [])

  -- the best of them, from no move on
  unfoldable pub best_of_pair : List Scan → Pair → Option PairMove
  best_of_pair ss p = foldl better_pair None (pair_candidates ss p)

  -- ---- the best move of a track: "for a move of a single track it is that track's old cost"

  -- "d = (cost of the head + cost of the tail) − base"
  unfoldable pub try_split : ℕ → ℕ → List Scan → Float → Detection → TrackMove
  try_split a x ss base d =
      let t = swapped a x d.scan ss in
      Split (record { 0 = d.scan }) (track_cost a t ⊕ price c none (window x first t) ⊖ base)

  -- "d = (cost + clutter_cost) − base"
  unfoldable pub try_drop : ℕ → List Scan → Float → Detection → TrackMove
  try_drop a ss base d =
      Drop (record { 0 = d.scan }) (track_cost a (dropped a d.scan ss) ⊕ clutter c ⊖ base)

  -- "Splits of the window are tried after its detection 1, 2 and so on"; then "the drop of each single detection is
  -- tried"
  unfoldable pub track_candidates : List Scan → ℕ → ℕ → List TrackMove
  track_candidates ss x a =
      let w = window a first ss in
      let base = track_cost a ss in
      map (try_split a x ss base) (rest w) ++ map (try_drop a ss base) (droppable (is_some (find a ps)) w)

  -- the best of them, from no move on
  unfoldable pub best_of_track : List Scan → ℕ → ℕ → Option TrackMove
  best_of_track ss x a = foldl better_track None (track_candidates ss x a)

  -- ---- passes

  -- a pair's best move, made
  unfoldable pub pair_step : Search → Pair → Search
  pair_step s p =
      let m = best_of_pair s.scans p in
      record {
        scans = after_pair p.a p.b s.scans m;
        next_id = s.next_id;
        counters = count_pair m s.counters;
        moved = s.moved || moves m;
      }

  -- a track's best move, made
  unfoldable pub track_step : Search → ℕ → Search
  track_step s a =
      let m = best_of_track s.scans s.next_id a in
      record {
        scans = after_track a s.next_id s.scans m;
        next_id = next_after m s.next_id;
        counters = count_track m s.counters;
        moved = s.moved || moves m;
      }

  -- the pairs listed at the start, with the windows as they are by then; "After the pairs the pass visits each id
  -- present"
  unfoldable pub pass : Search → Search
  pass s =
      let t = foldl pair_step (record { scans = s.scans; next_id = s.next_id; counters = s.counters; moved = false }) (neighbours s.scans (present s.scans)) in
      foldl track_step t (present t.scans)

  -- "The passes end when max_passes have run or when one made no move"
  unfoldable pub passes : ℕ → ℕ → Search → Bool → Searched
  passes zero ran s moved = record { search = s; ran = ran }
  passes (suc n) ran s false = record { search = s; ran = ran }
  passes (suc n) ran s true = let t = pass s in passes n (suc ran) t t.moved

  -- the search at one push
  unfoldable pub improve : List Scan → ℕ → FgoCounters → Searched
  improve ss next k = passes (max_passes_of c) 0 (record { scans = ss; next_id = next; counters = k; moved = true }) true
