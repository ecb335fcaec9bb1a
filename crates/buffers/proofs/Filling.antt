-- A part of a list that was filled from its first place on. Assumes nothing.
use Rattle.std.proofs.Common.{◌≡◌, ℕ, ◌<◌, List, ◌++◌, take, length, get_or, sym, ap, ◌∙◌, arith}
use borrow.Rule.Slice.PartMut.{put_mid}
use Rattle.std.proofs.lemmas.List.{same_lists, get_or_default, drop-drop}
use Rattle.buffers.specs.Buffers.{over}

module _ {A : Type 0} (o k : ℕ) (l m g : List A) (d : A) (many : length m ≡ k) (long : length g ≡ k) where
  -- m, which stands at place o now, holds what g holds
  pub filled : ((j : ℕ) → j < k → get_or m j d ≡ get_or g j d) → put_mid o k l m ≡ over o g l
  unfolding over
  filled each =
      let same : m ≡ g = same_lists m g (many ∙ sym long) (λ j e h. get_or_default m j e d h ∙ each j (omega arith) ∙ get_or_default g j d e (omega arith)) in
      rw (same, long) (ap (λ x. take o l ++ (g ++ x)) (drop-drop k o l))
