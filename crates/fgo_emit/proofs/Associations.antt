-- The words of a scan's associations, one association more, and how many words they are. Assumes nothing.
use Rattle.std.proofs.Common.{◌≡◌, ℕ, zero, suc, ◌*◌, ◌<◌, List, [], ◌∷◌, ◌++◌, length, get_or, take, refl, ap, ◌∙◌, arith}
use lib.ListN.{length-map}
use Rattle.bounds.specs.Bounds.{LINK}
use Rattle.engine.specs.declared.types.Association.{Association}
use Rattle.engine.specs.Body.{Body, frame_in, associations_in}
use Rattle.fgo_spec.specs.Emitting.{association_words, associations_words}
use Rattle.fgo_emit.specs.Writing.{costs_in}
use Rattle.fgo_state.proofs.Counts.{associations_long}

pub associations_more : (l : List Association) (is : List ℕ) (j : ℕ) (d : Association) (e : ℕ) → j < length l → j < length is → associations_words (take (suc j) l) (take (suc j) is) ≡ associations_words (take j l) (take j is) ++ association_words (get_or l j d) (get_or is j e)
unfolding associations_words
associations_more [] is j d e h k = absurd (omega arith)
associations_more (a ∷ l) [] j d e h k = absurd (omega arith)
associations_more (a ∷ l) (i ∷ is) zero d e h k = refl
associations_more (a ∷ l) (i ∷ is) (suc j) d e h k = ap (λ (x : List ℕ). association_words a i ++ x) (associations_more l is j d e (omega arith) (omega arith))

pub associations_size : (l : List Association) (is : List ℕ) → length l ≡ length is → length (associations_words l is) ≡ LINK * length l
unfolding associations_words
associations_size [] is e = refl
associations_size (a ∷ l) [] e = absurd (omega arith)
associations_size (a ∷ l) (i ∷ is) e = let ih = associations_size l is (omega arith) in omega arith

pub costs_long : (s : Body) → length (costs_in s) ≡ associations_in s
costs_long s = length-map (frame_in s).associations _ ∙ associations_long s
