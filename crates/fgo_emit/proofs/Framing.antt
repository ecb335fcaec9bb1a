-- A frame in the lent buffers: its parts, each where it belongs, are the frame. Assumes nothing.
use Rattle.std.proofs.Common.{◌≡◌, ℕ, ◌+◌, ◌*◌, ◌≤◌, List, ◌++◌, length, ℤ, sym, ap, ◌∙◌, append_assoc, arith, length-append}
use mathlib.Core.List.{flat_map}
use lib.Ieee.{Float}
use Rattle.bounds.specs.Bounds.{HEAD, TRACK, LINK, STATE}
use Rattle.engine.specs.declared.config.FgoConfig.{FgoConfig}
use Rattle.engine.specs.Body.{Body, frame_in, sensors_in, associations_in}
use Rattle.fgo_spec.specs.Emitting.{Listed, Emitted, listing, track_words, track_numbers, words_of, numbers_of}
use Rattle.buffers.specs.Buffers.{over}
use Rattle.fgo_part.specs.Parts.{table_in}
use Rattle.fgo_state.specs.Memory.{body_at, id_at, scan_by, scan_in}
use Rattle.fgo_emit.specs.Writing.{links_in, costs_in, head_in, PutTracks, emitted_in, PutFrame}
use Rattle.engine.proofs.Passing.{length-rows}
use Rattle.fgo_state.proofs.Counts.{sensors_long, associations_long}
use Rattle.fgo_emit.proofs.Associations.{costs_long, associations_size}
use Rattle.fgo_emit.proofs.Listing.{words_size, numbers-size}
use Rattle.buffers.proofs.Writes.{WrittenOver, written-more, over_first}
use Rattle.buffers.proofs.Over.{length_over}

module _ (columns : List ℕ) (n : ℕ) (s : Body) (ls : List Listed) where
  -- the frame that the body s says, with these tracks
  abbrev framed : Emitted
  framed = record { scan = scan_by columns n s; tracks = ls }

  associations-words : length (links_in columns n s) ≡ LINK * associations_in s
  associations-words = associations_size _ _ (associations_long s ∙ sym (length-rows (id_at columns n) 0 (associations_in s))) ∙ ap (λ (k : ℕ). LINK * k) (associations_long s)

  module _ (t : ℕ) (count : t ≡ length ls) where
    -- the words before the associations
    front : length (head_in s t ++ flat_map track_words ls) ≡ HEAD + TRACK * t
    front = omega (arith, length-append (head_in s t) (flat_map track_words ls), words_size ls)

    whole : ((head_in s t ++ flat_map track_words ls) ++ links_in columns n s) ++ (frame_in s).sensors ≡ words_of framed
    unfolding words_of
    whole =
        append_assoc (head_in s t ++ flat_map track_words ls) (links_in columns n s) (frame_in s).sensors
        ∙ append_assoc (head_in s t) (flat_map track_words ls) (links_in columns n s ++ (frame_in s).sensors)
        ∙ rw (count, associations_long s, sensors_long s)

    framed-words : (ws : List ℕ) {ws₁ ws₂ ws₃ ws₄ : List ℕ} → HEAD + TRACK * t + LINK * associations_in s + sensors_in s ≤ length ws → ws₁ ≡ over HEAD (flat_map track_words ls) ws → ws₂ ≡ over 0 (head_in s t) ws₁ → ws₃ ≡ over (HEAD + TRACK * t) (links_in columns n s) ws₂ → ws₄ ≡ over (HEAD + TRACK * t + LINK * associations_in s) (frame_in s).sensors ws₃ → ws₄ ≡ over 0 (words_of framed) ws
    framed-words ws {ws₁} {ws₂} {ws₃} {ws₄} room e₁ e₂ e₃ e₄ =
        let h = head_in s t in
        let g = flat_map track_words ls in
        let a = links_in columns n s in
        let b = (frame_in s).sensors in
        let la = associations-words in
        let lb = sensors_long s in
        let f₂ : ws₂ ≡ over 0 (h ++ g) ws = e₂ ∙ ap (over 0 h) e₁ ∙ over_first h g ws (omega arith) in
        let w₂ : WrittenOver 0 (h ++ g) ws ws₂ = record { long = ap length f₂ ∙ length_over 0 (h ++ g) ws (omega (arith, front)); written = f₂ } in
        let p₃ : HEAD + TRACK * t ≡ 0 + length (h ++ g) = omega (arith, front) in
        let w₃ : WrittenOver 0 ((h ++ g) ++ a) ws ws₃ = written-more 0 ws (h ++ g) a w₂ (omega (arith, front)) (e₃ ∙ ap (λ (k : ℕ). over k a ws₂) p₃) in
        let p₄ : HEAD + TRACK * t + LINK * associations_in s ≡ 0 + length ((h ++ g) ++ a) = omega (arith, front, length-append (h ++ g) a) in
        let w₄ : WrittenOver 0 (((h ++ g) ++ a) ++ b) ws ws₄ = written-more 0 ws ((h ++ g) ++ a) b w₃ (omega arith) (e₄ ∙ ap (λ (k : ℕ). over k b ws₃) p₄) in
        w₄.written ∙ ap (λ (x : List ℕ). over 0 x ws) whole

    framed-words-count : HEAD + TRACK * t + LINK * associations_in s + sensors_in s ≡ length (words_of framed)
    framed-words-count =
        let la = associations-words in
        let lb = sensors_long s in
        let e = length-append ((head_in s t ++ flat_map track_words ls) ++ links_in columns n s) (frame_in s).sensors in
        let f = length-append (head_in s t ++ flat_map track_words ls) (links_in columns n s) in
        omega (arith, front, ap length whole)

    framed-numbers : (ns : List Float) {ns₁ ns₂ : List Float} → STATE * t + associations_in s ≤ length ns → length ns₁ ≡ length ns → ns₁ ≡ over 0 (flat_map track_numbers ls) ns → ns₂ ≡ over (STATE * t) (costs_in s) ns₁ → ns₂ ≡ over 0 (numbers_of framed) ns
    unfolding numbers_of
    framed-numbers ns {ns₁} {ns₂} room long e₁ e₂ =
        let g = flat_map track_numbers ls in
        let p : STATE * t ≡ 0 + length g = omega (arith, numbers-size ls) in
        (written-more 0 ns g (costs_in s) (record { long = long; written = e₁ }) (omega (arith, costs_long s)) (e₂ ∙ ap (λ (k : ℕ). over k (costs_in s) ns₁) p)).written

    framed-numbers-count : STATE * t + associations_in s ≡ length (numbers_of framed)
    unfolding numbers_of
    framed-numbers-count = omega (arith, numbers-size ls, costs_long s, length-append (flat_map track_numbers ls) (costs_in s))

-- scan n is that of its body
scan_of : (bodies columns : List ℕ) (n : ℕ) (s : Body) → s ≡ body_at bodies columns n → scan_in bodies columns n ≡ scan_by columns n s
unfolding scan_in
scan_of bodies columns n s e = ap (λ (b : Body). scan_by columns n b) (sym e)

-- the tracks that the table lists at the time of scan n, of which the body is s with k associations and m sensors; its
-- head, associations and sensors; its costs
pub framed_all : (c : FgoConfig) (bodies columns : List ℕ) (n : ℕ) (tracks : List ℕ) (filters : List Float) (frozen : ℕ) (s : Body) (time : ℤ) (t k m : ℕ) (ws : List ℕ) (ns : List Float) {ws₁ ws₂ ws₃ ws₄ : List ℕ} {ns₁ ns₂ : List Float} → s ≡ body_at bodies columns n → time ≡ (frame_in s).time → k ≡ associations_in s → m ≡ sensors_in s → HEAD + TRACK * t + LINK * k + m ≤ length ws → STATE * t + k ≤ length ns → length ns₁ ≡ length ns → PutTracks (listing c time (table_in tracks filters frozen)) t ws ns ws₁ ns₁ → ws₂ ≡ over 0 (head_in s t) ws₁ → ws₃ ≡ over (HEAD + TRACK * t) (links_in columns n s) ws₂ → ws₄ ≡ over (HEAD + TRACK * t + LINK * k) (frame_in s).sensors ws₃ → ns₂ ≡ over (STATE * t) (costs_in s) ns₁ → PutFrame (emitted_in c bodies columns n tracks filters frozen) (record { words = HEAD + TRACK * t + LINK * k + m; numbers = STATE * t + k }) ws ns ws₄ ns₂
framed_all c bodies columns n tracks filters frozen s time t k m ws ns {ws₁} {ws₂} {ws₃} {ws₄} {ns₁} {ns₂} es et ek em rw' rn' long p e₂ e₃ e₄ f₂ =
    let ls : List Listed = listing c (frame_in s).time (table_in tracks filters frozen) in
    let q : PutTracks ls t ws ns ws₁ ns₁ = rw et at p in
    rw (scan_of bodies columns n s es, ek, em)
    (record {
      words_count = framed-words-count columns n s ls t q.count;
      numbers_count = framed-numbers-count columns n s ls t q.count;
      words = framed-words columns n s ls t q.count ws (omega arith) q.words e₂ e₃ (rw ek at e₄);
      numbers = framed-numbers columns n s ls t q.count ns (omega arith) long q.numbers f₂;
    })
