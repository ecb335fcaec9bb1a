-- The tracks that a frame lists, one frozen part more, in words and in numbers. Assumes nothing.
use Rattle.std.proofs.Common.{◌≡◌, ℕ, suc, ◌+◌, ◌*◌, ◌≤◌, Bool, true, false, List, [], ◌∷◌, ◌++◌, map, length, ℤ, ◌-ℤ◌, sym, refl, ap, ◌∙◌, append_assoc, append-nil, zero-add, add-one, arith, length-append}
use mathlib.Core.List.{flat_map, map-append}
use lib.Signed.{le_z}
use lib.Ieee.{Float}
use Rattle.bounds.specs.Bounds.{HEAD, TRACK, STATE}
use Rattle.engine.specs.declared.config.FgoConfig.{FgoConfig}
use Rattle.engine.specs.Config.{coast}
use Rattle.engine.specs.Body.{rows}
use Rattle.fgo_spec.specs.Windows.{Prefix}
use Rattle.fgo_spec.specs.Lists.{cons_if, keep}
use Rattle.fgo_spec.specs.Freezing.{listable}
use Rattle.fgo_spec.specs.Emitting.{Listed, report, listing, track_words, track_numbers}
use Rattle.fgo_spec.proofs.Counting.{keep_append}
use Rattle.buffers.specs.Buffers.{over}
use Rattle.fgo_part.specs.Parts.{prefix_in, entry_in, table_in, part_last_ns}
use Rattle.fgo_emit.specs.Writing.{report_in, PutTrack}
use Rattle.engine.proofs.Laid.{length-flat}
use Rattle.fgo_spec.proofs.Rows.{rows_more}
use Rattle.buffers.proofs.Writes.{WrittenOver, written_none, written-more, written_same}

-- ---- lists of equal length, one after another

module _ {A B : Type 0} (f : A → List B) where
  flat_map-more : (l : List A) (a : A) → flat_map f (l ++ (a ∷ [])) ≡ flat_map f l ++ f a
  unfolding flat_map
  flat_map-more [] a = append-nil (f a)
  flat_map-more (x ∷ l) a = ap (λ (m : List B). f x ++ m) (flat_map-more l a) ∙ sym (append_assoc (f x) (flat_map f l) (f a))

pub words_size : (ls : List Listed) → length (flat_map track_words ls) ≡ TRACK * length ls
words_size = length-flat track_words TRACK (λ l. refl)

pub numbers-size : (ls : List Listed) → length (flat_map track_numbers ls) ≡ STATE * length ls
numbers-size = length-flat track_numbers STATE (λ l. refl)

-- ---- the listed ones of the first k frozen parts

module _ (c : FgoConfig) (time : ℤ) (tracks : List ℕ) (filters : List Float) where
  abbrev listed : ℕ → List Listed
  listed k = listing c time (table_in tracks filters k)

  abbrev reported : ℕ × Prefix → Listed
  reported e = report c time e.0 e.1

  -- whether the part k is listed
  abbrev passes : ℕ → Bool
  passes k = le_z (time -ℤ part_last_ns tracks k) (coast c)

  one_more_lem : (k : ℕ) → listed (suc k) ≡ listed k ++ map reported (cons_if (passes k) (entry_in tracks filters k) [])
  unfolding listing keep prefix_in
  one_more_lem k =
      ap (λ (t : List (ℕ × Prefix)). map reported (keep (listable c time) t)) (rows_more (entry_in tracks filters) 0 k)
      ∙ ap (map reported) (keep_append (listable c time) (table_in tracks filters k) (entry_in tracks filters (0 + k) ∷ []))
      ∙ ap (λ (i : ℕ). map reported (keep (listable c time) (table_in tracks filters k) ++ keep (listable c time) (entry_in tracks filters i ∷ []))) (zero-add k)
      ∙ map-append reported (keep (listable c time) (table_in tracks filters k)) (keep (listable c time) (entry_in tracks filters k ∷ []))

  listed_more : (k : ℕ) → passes k ≡ true → listed (suc k) ≡ listed k ++ (report_in c time tracks filters k ∷ [])
  listed_more k h = one_more_lem k ∙ ap (λ (b : Bool). listed k ++ map reported (cons_if b (entry_in tracks filters k) [])) h

  listed_same : (k : ℕ) → passes k ≡ false → listed (suc k) ≡ listed k
  listed_same k h = one_more_lem k ∙ ap (λ (b : Bool). listed k ++ map reported (cons_if b (entry_in tracks filters k) [])) h ∙ append-nil (listed k)

  -- where the listed ones of the first k parts, i of them, were written
  pub record Puts (k i : ℕ) (ws : List ℕ) (ns : List Float) (ws' : List ℕ) (ns' : List Float) : Type 0 where
    pub few : i ≤ k
    pub count : i ≡ length (listed k)
    pub words : WrittenOver HEAD (flat_map track_words (listed k)) ws ws'
    pub numbers : WrittenOver 0 (flat_map track_numbers (listed k)) ns ns'

module _ (c : FgoConfig) (time : ℤ) (tracks : List ℕ) (filters : List Float) (ws : List ℕ) (ns : List Float) where
  pub puts_none : Puts c time tracks filters 0 0 ws ns ws ns
  unfolding listing keep rows flat_map
  puts_none = record { few = omega arith; count = refl; words = written_none HEAD ws; numbers = written_none 0 ns }

  -- the part k is listed, as listed track i
  pub puts_more : {k i i' : ℕ} {ws' ws'' ws''' : List ℕ} {ns' ns'' ns''' : List Float} → Puts c time tracks filters k i ws ns ws' ns' → passes c time tracks filters k ≡ true → HEAD + TRACK + TRACK * i ≤ length ws → STATE + STATE * i ≤ length ns → PutTrack (report_in c time tracks filters k) i ws' ns' ws'' ns'' → ws''' ≡ ws'' → ns''' ≡ ns'' → i' ≡ i + 1 → Puts c time tracks filters (k + 1) i' ws ns ws''' ns'''
  puts_more {k} {i} {i'} {ws'} {ws''} {ws'''} {ns'} {ns''} {ns'''} p h rw' rn' q ew en ei =
      let ls = listed c time tracks filters k in
      let l = report_in c time tracks filters k in
      let e : ls ++ (l ∷ []) ≡ listed c time tracks filters (k + 1) = sym (ap (listed c time tracks filters) (add-one k) ∙ listed_more c time tracks filters k h) in
      let sw : length (flat_map track_words ls) ≡ TRACK * i = words_size ls ∙ ap (λ (n : ℕ). TRACK * n) (sym p.count) in
      let sn : length (flat_map track_numbers ls) ≡ STATE * i = numbers-size ls ∙ ap (λ (n : ℕ). STATE * n) (sym p.count) in
      let fn : 0 + length (flat_map track_numbers ls) ≡ STATE * i = zero-add (length (flat_map track_numbers ls)) ∙ sn in
      let few = p.few in
      let ew' : ws''' ≡ over (HEAD + length (flat_map track_words ls)) (track_words l) ws' = ew ∙ q.words ∙ ap (λ (n : ℕ). over (HEAD + n) (track_words l) ws') (sym sw) in
      let en' : ns''' ≡ over (0 + length (flat_map track_numbers ls)) (track_numbers l) ns' = en ∙ q.numbers ∙ ap (λ (n : ℕ). over n (track_numbers l) ns') (sym fn) in
      record {
        few = omega arith;
        count = ei ∙ ap (λ (n : ℕ). n + 1) p.count ∙ sym (length-append ls (l ∷ [])) ∙ ap length e;
        words = written_same HEAD ws (written-more HEAD ws (flat_map track_words ls) (track_words l) p.words (omega arith) ew') (sym (flat_map-more track_words ls l) ∙ ap (flat_map track_words) e) refl;
        numbers = written_same 0 ns (written-more 0 ns (flat_map track_numbers ls) (track_numbers l) p.numbers (omega arith) en') (sym (flat_map-more track_numbers ls l) ∙ ap (flat_map track_numbers) e) refl;
      }

  -- the part k is not
  pub puts_same : {k i i' : ℕ} {ws' ws'' : List ℕ} {ns' ns'' : List Float} → Puts c time tracks filters k i ws ns ws' ns' → passes c time tracks filters k ≡ false → ws'' ≡ ws' → ns'' ≡ ns' → i' ≡ i → Puts c time tracks filters (k + 1) i' ws ns ws'' ns''
  puts_same {k} p h ew en ei =
      let e : listed c time tracks filters k ≡ listed c time tracks filters (k + 1) = sym (ap (listed c time tracks filters) (add-one k) ∙ listed_same c time tracks filters k h) in
      let few = p.few in
      record {
        few = omega arith;
        count = ei ∙ p.count ∙ ap length e;
        words = written_same HEAD ws p.words (ap (flat_map track_words) e) ew;
        numbers = written_same 0 ns p.numbers (ap (flat_map track_numbers) e) en;
      }
