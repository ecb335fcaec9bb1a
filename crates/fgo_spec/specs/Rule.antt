-- Document 01, "Refiner state rule", as a proposition and as a test that computes. Definitions only.
--
-- Of the rule's parts these hold of every state by the way it is written: "every track is frozen or has a window;
-- windows hold only held associations". That they hold them "rising in scan", and that "each held association lies in
-- exactly one window or in clutter", is `complete` and `apart` of `ColumnRule`: an id for each association, and no
-- track twice in a scan.
use Rattle.std.specs.Prelude.{ℕ, zero, suc, ◌+◌, ◌≤◌, ◌<◌, ◌≡◌, Bool, true, false, ◌&&◌, ◌||◌, not, leb, ltb, eqb}
use Rattle.std.specs.Prelude.{List, [], ◌∷◌, map, length, T, None, Some}
use Rattle.std.proofs.Math.Option.{Option, none, some}
use Rattle.bounds.specs.Bounds.{ACCEPTED, DETECTIONS, OWNED, HEIGHTS}
use Rattle.engine.specs.declared.config.FgoConfig.{FgoConfig}
use Rattle.engine.specs.declared.types.Association.{Association}
use Rattle.engine.specs.Config.{legal, lag}
use Rattle.engine.specs.Frame.{Frame, Associated}
use Rattle.engine.specs.Body.{Body, time_ok, frame_in, body_refusal}
use Rattle.fgo_spec.specs.Lists.{has, times, find}
use Rattle.fgo_spec.specs.Windows.{Scan, Prefix, live, window_count}
use Rattle.fgo_spec.specs.Owning.{latest}
use Rattle.fgo_spec.specs.Refiner.{State}

-- P holds of each
abbrev pub All : {A : Type 0} → (A → Type 0) → List A → Type 0
All P [] = Unit {0}
All P (a ∷ l) = P a × All P l

-- ---- the proposition

-- each number is a byte
abbrev pub Bytes : List ℕ → Type 0
Bytes s = All (λ b. b < 256) s

-- "held, none of which 5, 6 or 7 would refuse": some body that passes says the frame
abbrev pub Spoken : Frame → Type 0
Spoken f = (b : Body) × Bytes b.bytes × (body_refusal b ≡ 0) × (frame_in b ≡ f)

-- "a frozen part has count 1 to first, 1 to 5 heights, last frame before first, time in bounds"
pub record PrefixRule (first : ℕ) (p : Prefix) : Type 0 where
  pub some_count : 1 ≤ p.count
  pub most_count : p.count ≤ first
  pub some_height : 1 ≤ length p.heights
  pub most_height : length p.heights ≤ HEIGHTS
  pub earlier : p.last_frame < first
  pub bounded : time_ok p.last_ns ≡ true

-- "ids rise, are at least 1 and below the next id": those above x
abbrev pub Rise : ℕ → ℕ → ℕ → List (ℕ × Prefix) → Type 0
Rise first next x [] = Unit {0}
Rise first next x (e ∷ ps) = (x < e.0) × (e.0 < next) × PrefixRule first e.1 × Rise first next e.0 ps

-- "those without engine id in clutter"
abbrev pub LooseOne : Associated → ℕ → Type 0
LooseOne None i = i ≡ 0
LooseOne (Some e) i = Unit {0}

-- of all associations of a scan, and their ids
abbrev pub Loose : List Association → List ℕ → Type 0
Loose [] is = Unit {0}
Loose (a ∷ l) [] = Unit {0}
Loose (a ∷ l) (i ∷ is) = LooseOne a.track i × Loose l is

-- a column: an id for each association, no track twice, ids below the next
pub record ColumnRule (next : ℕ) (s : Scan) : Type 0 where
  pub complete : length s.ids ≡ length s.frame.associations
  pub apart : (x : ℕ) → 0 < x → times x s.ids ≤ 1
  pub known : (x : ℕ) → 0 < x → 0 < times x s.ids → x < next
  pub loose : Loose s.frame.associations s.ids
  pub spoken : Spoken s.frame

-- "Refiner state rule"
pub record Rule (c : FgoConfig) (t : State) : Type 0 where
  pub settings : legal c ≡ true
  pub lagged : length t.scans ≤ lag c
  pub room : t.first + length t.scans ≤ ACCEPTED
  -- "ids begin at 1"
  pub begun : 0 < t.next_id
  pub prefixes : Rise t.first t.next_id 0 t.prefixes
  pub columns : All (ColumnRule t.next_id) t.scans
  -- "an engine id in a window is owned by the holder of its latest (equal scans, the greater id)"
  pub owned : (e : ℕ) → 0 < latest e 0 t.scans → find e t.owners ≡ some (latest e 0 t.scans)
  -- "9's sum holds"
  pub sum : length t.prefixes + window_count t.scans ≤ DETECTIONS
  -- "owner entries have distinct engine ids, live owners, at most 256"
  pub distinct : (e : ℕ) → times e (map (λ o. o.0) t.owners) ≤ 1
  pub alive : All (λ o. T (live t.prefixes t.scans o.1)) t.owners
  pub few : length t.owners ≤ OWNED

-- ---- the test

-- the test passes for each
abbrev pub all_of : {A : Type 0} → (A → Bool) → List A → Bool
all_of p [] = true
all_of p (a ∷ l) = p a && all_of p l

-- the test of `PrefixRule`
abbrev pub prefix_ok : ℕ → Prefix → Bool
prefix_ok first p =
    leb 1 p.count
    && (leb p.count first
    && (leb 1 (length p.heights) && (leb (length p.heights) HEIGHTS && (ltb p.last_frame first && time_ok p.last_ns))))

-- of `Rise`
unfoldable pub rises_ok : ℕ → ℕ → ℕ → List (ℕ × Prefix) → Bool
rises_ok first next x [] = true
rises_ok first next x (e ∷ ps) = ltb x e.0 && (ltb e.0 next && (prefix_ok first e.1 && rises_ok first next e.0 ps))

-- no number above 0 stands twice
unfoldable pub apart_ok : List ℕ → Bool
apart_ok [] = true
apart_ok (i ∷ is) = (eqb i 0 || not (has i is)) && apart_ok is

-- of `LooseOne`
abbrev pub loose_ok : Associated → ℕ → Bool
loose_ok None i = eqb i 0
loose_ok (Some e) i = true

-- of `Loose`
unfoldable pub clutter_ok : List Association → List ℕ → Bool
clutter_ok [] is = true
clutter_ok (a ∷ l) [] = true
clutter_ok (a ∷ l) (i ∷ is) = loose_ok a.track i && clutter_ok l is

-- of `ColumnRule`, apart from `spoken`
unfoldable pub column_ok : ℕ → Scan → Bool
column_ok next s =
    eqb (length s.ids) (length s.frame.associations)
    && (apart_ok s.ids && (all_of (λ i. ltb i next) s.ids && clutter_ok s.frame.associations s.ids))

-- the owner of an engine id is the one said
abbrev pub owner_is : Option ℕ → ℕ → Bool
owner_is none x = false
owner_is (some y) x = eqb y x

-- where the association lies in a window, its engine id is owned by the holder of the latest
abbrev pub owned_by : List (ℕ × ℕ) → List Scan → Associated → ℕ → Bool
owned_by os ss None i = true
owned_by os ss (Some e) zero = true
owned_by os ss (Some e) (suc i) = owner_is (find e.0 os) (latest e.0 0 ss)

-- of all associations of a scan
unfoldable pub owned_ok : List (ℕ × ℕ) → List Scan → List Association → List ℕ → Bool
owned_ok os ss [] is = true
owned_ok os ss (a ∷ l) [] = true
owned_ok os ss (a ∷ l) (i ∷ is) = owned_by os ss a.track i && owned_ok os ss l is

-- no number stands twice
unfoldable pub distinct_ok : List ℕ → Bool
distinct_ok [] = true
distinct_ok (e ∷ es) = not (has e es) && distinct_ok es

-- the rule, apart from the bodies' own: a state that passes, with frames that bodies say, meets it, and no other
unfoldable pub rule_ok : FgoConfig → State → Bool
rule_ok c t =
    legal c
    && (leb (length t.scans) (lag c)
    && (leb (t.first + length t.scans) ACCEPTED
    && (ltb 0 t.next_id
    && (rises_ok t.first t.next_id 0 t.prefixes
    && (all_of (column_ok t.next_id) t.scans
    && (all_of (λ s. owned_ok t.owners t.scans s.frame.associations s.ids) t.scans
    && (leb (length t.prefixes + window_count t.scans) DETECTIONS
    && (distinct_ok (map (λ o. o.0) t.owners)
    && (all_of (λ o. live t.prefixes t.scans o.1) t.owners && leb (length t.owners) OWNED)))))))))
