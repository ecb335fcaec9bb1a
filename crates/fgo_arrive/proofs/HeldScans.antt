-- One scan more is held: its slot is written, and the slots of the others are as they were. Assumes nothing.
use Prim.Native.Nat.{ℕ, suc, ◌+◌, ◌*◌, ◌≤◌, ◌<◌}
use native.Mathlib.Nat.{mod-lt}
use native.Mathlib.Numerals.{add-one}
use native.Mathlib.Omega.{arith}
use mathlib.Core.Path.{◌≡◌, sym, ap, ◌∙◌}
use mathlib.Core.List.{List, [], ◌∷◌, ◌++◌}
use lib.ListN.{length, take, drop, get_or}
use lib.Seq.{length-take-le, ext_get_or}
use borrow.Author.Tests.{lt-ltb}
use Rattle.bounds.specs.Bounds.{LAG, SCANS, ASSOCIATIONS, BODY, COLUMN, BODIES, COLUMNS}
use Rattle.engine.specs.Body.{Body, body, frame_in, body_refusal, associations_in, rows}
use Rattle.engine.proofs.Passing.{length-rows, row_at}
use Rattle.engine.proofs.Layouts.{within, fits_body}
use Rattle.buffers.specs.Buffers.{over}
use Rattle.fgo_state.specs.Memory.{slot_at, head_at, head_for, length_in, kind_in, bytes_at, body_at, id_at, scan_in, scans_in, column_words}
use Rattle.fgo_state.proofs.Heads.{head_length, head_kind}
use Rattle.fgo_state.proofs.OtherSlots.{WithinSlot, written_within, scans_else}
use Rattle.fgo_spec.proofs.Rows.{rows_more}
use Rattle.buffers.proofs.Over.{over_in}
use Rattle.buffers.proofs.Apart.{part_here}

-- a body that passes fits its slot
pub body_fits : (s : Body) → body_refusal s ≡ 0 → length s.bytes ≤ BODY
body_fits s h = fits_body (within s.kind) s.bytes h

module _ (bodies columns : List ℕ) (s : Body) (ids : List ℕ) (n count : ℕ) (fits : length s.bytes ≤ BODY) (few : count ≤ ASSOCIATIONS) (enough : count ≤ length ids) (bodies_long : length bodies ≡ BODIES)
    (columns_long : length columns ≡ COLUMNS) where
  abbrev bodies' : List ℕ
  bodies' = over (BODY * slot_at n) s.bytes bodies

  abbrev words : List ℕ
  words = column_words s.kind (length s.bytes) (take count ids)

  abbrev columns' : List ℕ
  columns' = over (COLUMN * slot_at n) words columns

  slot : slot_at n < SCANS
  slot = mod-lt n (omega arith)

  words_long_lem : length words ≡ suc count
  words_long_lem = ap suc (length-take-le count ids enough)

  bodies-fit : BODY * slot_at n + length s.bytes ≤ length bodies
  bodies-fit = omega (arith, slot)

  columns-fit : COLUMN * slot_at n + length words ≤ length columns
  columns-fit = omega (arith, slot, words_long_lem)

  -- the slots of other scans are not written
  pub written : WithinSlot n bodies columns bodies' columns'
  written = written_within n s.bytes words bodies columns fits (omega (arith, words_long_lem)) bodies-fit columns-fit

  -- its own slot
  head-here : head_at columns' n ≡ head_for s.kind (length s.bytes)
  head-here =
      let e : COLUMN * slot_at n + 0 ≡ COLUMN * slot_at n = omega arith in
      rw e at (over_in (COLUMN * slot_at n) words columns columns-fit 0 0 (omega (arith, words_long_lem)))

  pub body_here : body_at bodies' columns' n ≡ s
  unfolding bytes_at
  body_here =
      let kind = ap kind_in head-here ∙ head_kind s.kind (length s.bytes) in
      let bytes =
      ap (λ (h : ℕ). take (length_in h) (drop (BODY * slot_at n) bodies')) head-here
      ∙ ap (λ (l : ℕ). take l (drop (BODY * slot_at n) bodies')) (head_length s.kind (length s.bytes) fits)
      ∙ part_here (BODY * slot_at n) s.bytes bodies (omega (arith, slot)) in
      λ i. body (kind i) (bytes i)

  id_here : (j : ℕ) → j < count → id_at columns' n j ≡ get_or (take count ids) j 0
  unfolding id_at
  id_here j h =
      let e : 1 + j ≡ suc j = omega arith in
      rw (lt-ltb j ASSOCIATIONS (omega arith))
      (over_in (COLUMN * slot_at n) words columns columns-fit (1 + j) 0 (omega (arith, words_long_lem)) ∙ ap (λ (i : ℕ). get_or words i 0) e)

  ids-here : rows (id_at columns' n) 0 count ≡ take count ids
  ids-here =
      let l = length-rows (id_at columns' n) 0 count in
      ext_get_or 0 (rows (id_at columns' n) 0 count) (take count ids) (l ∙ sym (length-take-le count ids enough))
      (λ j h. let q : j < count = omega arith in row_at (id_at columns' n) count j 0 q ∙ id_here j q)

  scan-here : associations_in s ≡ count → {is : List ℕ} → take count ids ≡ is → scan_in bodies' columns' n ≡ record { frame = frame_in s; ids = is }
  unfolding scan_in
  scan-here e q =
      λ t. record {
        frame = frame_in (body_here t);
        ids = (ap (λ (b : Body). rows (id_at columns' n) 0 (associations_in b)) body_here ∙ ap (rows (id_at columns' n) 0) e ∙ ids-here ∙ q) t;
      }

  pub scans_more :
      (first held : ℕ) → n ≡ first + held → held ≤ LAG → associations_in s ≡ count → {is : List ℕ} → take count ids ≡ is →
      scans_in bodies' columns' first (held + 1) ≡ scans_in bodies columns first held ++ (record { frame = frame_in s; ids = is } ∷ [])
  scans_more first held e h a {is} q =
      ap (rows (scan_in bodies' columns') first) (add-one held)
      ∙ rows_more (scan_in bodies' columns') first held
      ∙ ap (λ (m : ℕ). rows (scan_in bodies' columns') first held ++ (scan_in bodies' columns' m ∷ [])) (sym e)
      ∙ ap (λ l. l ++ (scan_in bodies' columns' n ∷ [])) (scans_else written first held (λ m a b z. omega arith))
      ∙ ap (λ r. scans_in bodies columns first held ++ (r ∷ [])) (scan-here a q)
