-- Where the rows of an emitted frame stand in its words and numbers. Assumes nothing.
use Prim.Native.Nat.{ℕ, zero, suc, ◌+◌, ◌*◌, ◌≤◌, ◌<◌}
use native.Mathlib.Nat.{le_refl, mul-zero, mul-suc}
use native.Mathlib.Omega.{arith}
use mathlib.Core.Path.{◌≡◌, refl, sym, ap, ◌∙◌}
use mathlib.Core.List.{List, [], ◌∷◌, ◌++◌, map, flat_map, append_assoc, Memᴰ}
use lib.ListN.{length, get_or, take, drop, length-append, length-map}
use lib.Seq.{drop-length, drop-append-add, drop-drop, drop_at, get_or-drop}
use lib.Ieee.{Float, nan}
use Rattle.bounds.specs.Bounds.{HEAD, TRACK, LINK, VECTOR, COVARIANCE, STATE}
use Rattle.engine.specs.declared.types.Association.{Association}
use Rattle.engine.specs.Frame.{no_association}
use Rattle.engine.proofs.Laid.{length-flat}
use Rattle.fgo_spec.specs.Emitting.{Listed, Emitted, track_words, association_words, associations_words, head_words, words_of, track_numbers, cost_number, numbers_of}
use Rattle.smoother_frame.specs.Frame.{words_long, numbers_long}
use Rattle.smoother_pass.specs.Pass.{state_at}
use Rattle.histories.specs.Smoothed.{listed_estimate}

-- ---- lists

-- element i of a list
pub record At {A : Type 0} (l : List A) (i : ℕ) : Type 0 where
  pub item : A
  pub after : List A
  pub here : drop i l ≡ item ∷ after
  pub up : take (suc i) l ≡ take i l ++ (item ∷ [])
  pub among : Memᴰ item l

pub element : {A : Type 0} (l : List A) (i : ℕ) → i < length l → At l i
element [] i h = absurd (omega arith)
element (a ∷ l) zero h = record { item = a; after = l; here = refl; up = refl; among = Memᴰ.head refl }
element (a ∷ l) (suc i) h =
    let r = element l i (omega arith) in
    record { item = r.item; after = r.after; here = r.here; up = ap (λ k. a ∷ k) r.up; among = Memᴰ.tail r.among }

-- rows of k elements each, one after the other
module _ {A B : Type 0} (g : A → List B) (k : ℕ) (sized : (a : A) → length (g a) ≡ k) where
  rows-from : (l : List A) (r : List B) (i : ℕ) → i ≤ length l → drop (k * i) (flat_map g l ++ r) ≡ flat_map g (drop i l) ++ r
  unfolding flat_map
  rows-from l r zero h = ap (λ n. drop n (flat_map g l ++ r)) (mul-zero k)
  rows-from [] r (suc i) h = absurd (omega arith)
  rows-from (a ∷ l) r (suc i) h =
      let e : k * suc i ≡ length (g a) + k * i = rw (sized a, mul-suc) (omega arith) in
      ap (λ n. drop n (g a ++ flat_map g l ++ r)) e
      ∙ ap (drop (length (g a) + k * i)) (append_assoc (g a) (flat_map g l) r)
      ∙ drop-append-add (g a) (flat_map g l ++ r) (k * i)
      ∙ rows-from l r i (omega arith)

  row_at : (l : List A) (r : List B) (i : ℕ) → i < length l → (a : At l i) → drop (k * i) (flat_map g l ++ r) ≡ g a.item ++ (flat_map g a.after ++ r)
  unfolding flat_map
  row_at l r i h a =
      rows-from l r i (omega arith) ∙ ap (λ m. flat_map g m ++ r) a.here ∙ append_assoc (g a.item) (flat_map g a.after) r

  rows-past : (l : List A) (r : List B) → drop (k * length l) (flat_map g l ++ r) ≡ r
  unfolding flat_map
  rows-past l r = rows-from l r (length l) (le_refl (length l)) ∙ ap (λ m. flat_map g m ++ r) (drop-length l)

-- a place in a list, counted from another
place : {A : Type 0} (l m : List A) (n i : ℕ) (d : A) → drop n l ≡ m → get_or l (n + i) d ≡ get_or m i d
place l m n i d e = sym (get_or-drop n l i d) ∙ ap (λ k. get_or k i d) e

-- ---- associations

-- association j of a frame, with its id: its words, and its cost
pub record Associated (al : List Association) (is : List ℕ) (r : List ℕ) (j : ℕ) : Type 0 where
  pub item : Association
  pub id : ℕ
  pub after : List ℕ
  pub at : get_or al j no_association ≡ item
  pub under : get_or is j 0 ≡ id
  pub words : drop (LINK * j) (associations_words al is ++ r) ≡ association_words item id ++ after
  pub cost : get_or (map (λ a. cost_number a.cost) al) j nan ≡ cost_number item.cost

pub association : (al : List Association) (is r : List ℕ) (j : ℕ) → length is ≡ length al → j < length al → Associated al is r j
unfolding associations_words
association [] is r j e h = absurd (omega arith)
association (a ∷ al) [] r j e h = absurd (omega arith)
association (a ∷ al) (i ∷ is) r zero e h =
    record { item = a; id = i; after = associations_words al is ++ r; at = refl; under = refl; words = ap (λ n. drop n (associations_words (a ∷ al) (i ∷ is) ++ r)) (mul-zero LINK); cost = refl }
association (a ∷ al) (i ∷ is) r (suc j) e h =
    let b = association al is r j (omega arith) (omega arith) in
    let n : LINK * suc j ≡ LINK + LINK * j = omega arith in
    let l = associations_words (a ∷ al) (i ∷ is) ++ r in
    record { item = b.item; id = b.id; after = b.after; at = b.at; under = b.under; words = ap (λ k. drop k l) n ∙ sym (drop-drop (LINK * j) LINK l) ∙ b.words; cost = b.cost }

associations_length : (al : List Association) (is : List ℕ) → length is ≡ length al → length (associations_words al is) ≡ LINK * length al
unfolding associations_words
associations_length [] is e = refl
associations_length (a ∷ al) [] e = absurd (omega arith)
associations_length (a ∷ al) (i ∷ is) e = omega (arith, associations_length al is (omega arith))

-- ---- the words of an emitted frame

module _ (e : Emitted) where
  abbrev tracks : List Listed
  tracks = e.tracks

  abbrev ass : List Association
  ass = e.scan.frame.associations

  -- the words after the tracks, and the costs
  abbrev rest : List ℕ
  rest = associations_words ass e.scan.ids ++ e.scan.frame.sensors

  abbrev costs : List Float
  costs = map (λ a. cost_number a.cost) ass

  pub track_words_lem :
      (i : ℕ) → i < length tracks → (a : At tracks i) → drop (HEAD + TRACK * i) (words_of e) ≡ track_words a.item ++ (flat_map track_words a.after ++ rest)
  unfolding words_of
  track_words_lem i h a =
      drop-append-add (head_words e) (flat_map track_words tracks ++ rest) (TRACK * i) ∙ row_at track_words TRACK (λ l. refl) tracks rest i h a

  pub track_word :
      (i : ℕ) → i < length tracks → (a : At tracks i) (k : ℕ) →
      get_or (words_of e) (HEAD + TRACK * i + k) 0 ≡ get_or (track_words a.item ++ (flat_map track_words a.after ++ rest)) k 0
  track_word i h a k = place (words_of e) _ (HEAD + TRACK * i) k 0 (track_words_lem i h a)

  words-past : drop (HEAD + TRACK * length tracks) (words_of e) ≡ rest
  unfolding words_of
  words-past = drop-append-add (head_words e) (flat_map track_words tracks ++ rest) (TRACK * length tracks) ∙ rows-past track_words TRACK (λ l. refl) tracks rest

  pub track_numbers_lem : (i : ℕ) → i < length tracks → (a : At tracks i) → drop (STATE * i) (numbers_of e) ≡ track_numbers a.item ++ (flat_map track_numbers a.after ++ costs)
  unfolding numbers_of
  track_numbers_lem i h a = row_at track_numbers STATE (λ l. refl) tracks costs i h a

  pub numbers_past : drop (STATE * length tracks) (numbers_of e) ≡ costs
  unfolding numbers_of
  numbers_past = rows-past track_numbers STATE (λ l. refl) tracks costs

  -- the state of a track
  pub state_is : (i : ℕ) → i < length tracks → (a : At tracks i) → state_at (numbers_of e) i ≡ listed_estimate a.item
  unfolding state_at
  state_is i h a =
      let d = track_numbers_lem i h a in
      let f = sym (drop-drop VECTOR (STATE * i) (numbers_of e)) ∙ ap (drop VECTOR) d in
      λ j. record { x = take VECTOR (d j); p = take COVARIANCE (f j) }

  pub association_words_lem :
      (j : ℕ) (a : Associated ass e.scan.ids e.scan.frame.sensors j) →
      drop (HEAD + TRACK * length tracks + LINK * j) (words_of e) ≡ association_words a.item a.id ++ a.after
  association_words_lem j a = sym (drop-drop (LINK * j) (HEAD + TRACK * length tracks) (words_of e)) ∙ ap (drop (LINK * j)) words-past ∙ a.words

  pub association_word :
      (j : ℕ) (a : Associated ass e.scan.ids e.scan.frame.sensors j) (k : ℕ) →
      get_or (words_of e) (HEAD + TRACK * length tracks + LINK * j + k) 0 ≡ get_or (association_words a.item a.id ++ a.after) k 0
  association_word j a k = place (words_of e) _ (HEAD + TRACK * length tracks + LINK * j) k 0 (association_words_lem j a)

  pub cost-number : (j : ℕ) → get_or (numbers_of e) (STATE * length tracks + j) nan ≡ get_or costs j nan
  cost-number j = place (numbers_of e) costs (STATE * length tracks) j nan numbers_past

  module _ (complete : length e.scan.ids ≡ length ass) where
    pub sensor_word_lem : (k : ℕ) → get_or (words_of e) (HEAD + TRACK * length tracks + LINK * length ass + k) 0 ≡ get_or e.scan.frame.sensors k 0
    sensor_word_lem k =
        place (words_of e) e.scan.frame.sensors (HEAD + TRACK * length tracks + LINK * length ass) k 0
        (sym (drop-drop (LINK * length ass) (HEAD + TRACK * length tracks) (words_of e))
        ∙ ap (drop (LINK * length ass)) words-past
        ∙ drop_at (associations_words ass e.scan.ids) e.scan.frame.sensors (LINK * length ass) (associations_length ass e.scan.ids complete))

    pub words-length : length (words_of e) ≡ words_long (words_of e)
    unfolding words_of
    words-length =
        let a = length-flat track_words TRACK (λ l. refl) tracks in
        let b = associations_length ass e.scan.ids complete in
        omega (arith, a, b, length-append (flat_map track_words tracks) rest, length-append (associations_words ass e.scan.ids) e.scan.frame.sensors)

  pub numbers-length : length (numbers_of e) ≡ numbers_long (words_of e)
  unfolding words_of numbers_of
  numbers-length =
      omega (arith, length-append (flat_map track_numbers tracks) costs, length-flat track_numbers STATE (λ l. refl) tracks, length-map ass (λ a. cost_number a.cost))
