use Rattle.std.proofs.Common.{◌≡◌, ℕ, ◌+◌, ◌*◌, ◌<◌, ◌≤◌, List, ◌++◌, length, take, sym, refl, ap, ◌∙◌, add-one, arith, length-take-le, take_all}
use Rattle.bounds.specs.Bounds.{LINK}
use Rattle.engine.specs.declared.types.Association.{Association}
use Rattle.engine.specs.Frame.{no_association}
use Rattle.engine.specs.Body.{body_of, Body, frame_in, associations_in}
use Rattle.engine.proofs.Passing.{row_at, length-rows}
use Rattle.fgo_spec.specs.Emitting.{association_words, associations_words}
use Rattle.buffers.specs.Buffers.{over}
use Rattle.fgo_state.specs.Memory.{id_at, ids_in, association_in}
use Rattle.fgo_emit.specs.Writing.{links_in}
use Rattle.fgo_state.proofs.Counts.{associations_long}
use Rattle.fgo_emit.proofs.Associations.{associations_more, associations_size}
use Rattle.buffers.proofs.Writes.{WrittenOver, written_none, written-more, written_same}
use Rattle.fgo_emit.proofs.put_associations.Invariants.{first}
use Rattle.fgo_emit.proofs.put_associations.Goals as goal

module _ (columns : List ℕ) (n : ℕ) (s : Body) where
  first-long : (j : ℕ) → j ≤ associations_in s → length (first columns n s j) ≡ LINK * j
  first-long j h =
      let a : length (take j (frame_in s).associations) ≡ j = length-take-le j _ (rw (associations_long s) h) in
      let b : length (take j (ids_in columns n s)) ≡ j = length-take-le j _ (rw (length-rows (id_at columns n) 0 (associations_in s)) h) in
      associations_size _ _ (a ∙ sym b) ∙ ap (λ (k : ℕ). LINK * k) a

  more : (j : ℕ) → j < associations_in s → first columns n s j ++ association_words (association_in s j) (id_at columns n j) ≡ first columns n s (j + 1)
  more j h =
      sym
      (ap (first columns n s) (add-one j)
      ∙ associations_more (frame_in s).associations (ids_in columns n s) j no_association 0 (rw (associations_long s) h) (rw (length-rows (id_at columns n) 0 (associations_in s)) h)
      ∙ ap (λ (i : ℕ). first columns n s j ++ association_words (association_in s j) i) (row_at (id_at columns n) (associations_in s) j 0 h))

  all : (j : ℕ) → associations_in s ≤ j → first columns n s j ≡ links_in columns n s
  all j h =
      ap (λ (l : List Association). associations_words l (take j (ids_in columns n s))) (take_all j (frame_in s).associations (rw (associations_long s) h))
      ∙ ap (associations_words (frame_in s).associations) (take_all j (ids_in columns n s) (rw (length-rows (id_at columns n) 0 (associations_in s)) h))

  next : (o : ℕ) {j : ℕ} {words words' words'' : List ℕ} → j < associations_in s → o + LINK * associations_in s ≤ length words → WrittenOver o (first columns n s j) words words' → words'' ≡ over (o + LINK * j) (association_words (association_in s j) (id_at columns n j)) words' → WrittenOver o (first columns n s (j + 1)) words words''
  next o {j} {words} {words'} h room w e =
      let l : length (first columns n s j) ≡ LINK * j = first-long j (omega arith) in
      written_same o words
      (written-more o words (first columns n s j) (association_words (association_in s j) (id_at columns n j)) w (omega arith) (e ∙ ap (λ (k : ℕ). over (o + k) (association_words (association_in s j) (id_at columns n j)) words') (sym l)))
      (more j h)
      refl

pub loop-j-init : goal.loop-j-init
unfolding associations_words
loop-j-init c = (omega arith, written_none _ _)

pub loop-j-preserved : goal.loop-j-preserved
loop-j-preserved c = let s = body_of c.args.s.now.frame.body in
    let o = c.args.o in
    let j = c.loop-j.j in
    let words = c.loop-j.words in
    let said =
    c.association_words-ws.ensures
    ∙ ap (λ (a : Association). association_words a c.id.result.0) c.association.ensures
    ∙ ap (association_words (association_in s j)) c.id.ensures in
    (omega (arith, c.count-j-end.ensures.count), next c.args.s.now.scans.now.columns c.args.s.now.n.0 s o (omega (arith, c.count-j-end.ensures.count)) c.requires c.loop-j.invariant.1 (c.put.ensures ∙ ap (λ (l : List ℕ). over (o + LINK * j) l words) said))

pub returns : goal.returns
returns c = let o = c.args.o in
    c.loop-j.invariant.1.written
    ∙ ap (λ (g : List ℕ). over o g c.args.words.now) (all c.args.s.now.scans.now.columns c.args.s.now.n.0 (body_of c.args.s.now.frame.body) c.loop-j.j (omega (arith, c.count-j-end.ensures.count)))
