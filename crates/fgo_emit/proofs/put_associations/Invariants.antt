use Rattle.std.proofs.Common.{ℕ, ◌≤◌, List, take}
use Rattle.engine.specs.Body.{body_of, Body, frame_in, associations_in}
use Rattle.fgo_spec.specs.Emitting.{associations_words}
use Rattle.fgo_state.specs.Memory.{ids_in}
use Rattle.buffers.proofs.Writes.{WrittenOver}
use Rattle.fgo_emit.proofs.put_associations.Given as goal

-- the words of the first j associations
abbrev pub first : List ℕ → ℕ → Body → ℕ → List ℕ
first columns n s j = associations_words (take j (frame_in s).associations) (take j (ids_in columns n s))

abbrev pub invariant-loop-j : goal.invariant-loop-j
invariant-loop-j l = (l.j ≤ associations_in (body_of l.s.frame.body)) × WrittenOver l.o (first l.s.scans.now.columns l.s.n.0 (body_of l.s.frame.body) l.j) l.initial.words l.words
