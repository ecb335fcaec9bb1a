-- The class that an engine id has among engine tracks, looked for from the last one on. Assumes nothing.
use Prim.Native.Nat.{ℕ, zero, suc, ◌+◌, ◌≤◌, ◌<◌}
use native.Mathlib.Omega.{arith}
use mathlib.Core.Path.{◌≡◌, refl, sym, ap, ◌∙◌}
use mathlib.Core.Bool.{Bool, true, false, cond}
use mathlib.Core.List.{List, [], ◌∷◌, ◌++◌, map}
use lib.ListN.{length, take, get_or}
use lib.Dec.{eqb}
use lib.Seq.{take-suc}
use Rattle.std.specs.Prelude.{Option, None, Some}
use Rattle.std.specs.Option.{MatchOption, option_and_then}
use Rattle.std.specs.List.{find}
use Rattle.engine.specs.declared.types.EngineTrack.{EngineTrack}
use Rattle.engine.specs.Frame.{no_track, ClassLabel}
use Rattle.fgo_spec.specs.Windows.{class_among}
use Rattle.fgo_state.proofs.Down.{down}

-- ---- what `and_then` answers, where its closure answers h of the value

pub and_then_is : {A U : Type 0} {Post : A → Type 0} (a : Option A) (r : Option U) (h : A → Option U) → MatchOption a (r ≡ None) Post → ((x : A) → Post x → r ≡ h x) → r ≡ option_and_then h a
and_then_is None r h e k = e
and_then_is (Some x) r h e k = k x e

-- ---- the last engine track with this id

class_last : (e : ℕ) (k : ClassLabel) (l : List EngineTrack) (t : EngineTrack) → class_among e k (l ++ (t ∷ [])) ≡ cond (eqb e t.id.0) t.class (class_among e k l)
unfolding class_among
class_last e k [] t = refl
class_last e k (u ∷ l) t = class_last e (cond (eqb e u.id.0) u.class k) l t

-- whether a track has the id e
abbrev pub named : ℕ → EngineTrack → Bool
named e t = eqb e t.id.0

abbrev pub at : List EngineTrack → ℕ → EngineTrack
at l i = get_or l i no_track

module _ (e : ℕ) (l : List EngineTrack) where
  front : (i : ℕ) → i < length l → class_among e None (take (suc i) l) ≡ cond (named e (at l i)) (at l i).class (class_among e None (take i l))
  front i h = ap (class_among e None) (take-suc l i no_track h) ∙ class_last e None (take i l) (at l i)

  found : (b : Bool) (t : EngineTrack) (q : Option EngineTrack) → option_and_then (λ u. u.class) (cond b (Some t) q) ≡ cond b t.class (option_and_then (λ u. u.class) q)
  found true t q = refl
  found false t q = refl

  pub class_found : (n : ℕ) → n ≤ length l → option_and_then (λ u. u.class) (find (named e) (map (at l) (down 0 n))) ≡ class_among e None (take n l)
  unfolding class_among
  class_found zero h = refl
  class_found (suc n) h =
      let z : 0 + n ≡ n = omega arith in
      rw z (found (named e (at l n)) (at l n) (find (named e) (map (at l) (down 0 n))) ∙ ap (cond (named e (at l n)) (at l n).class) (class_found n (omega arith)) ∙ sym (front n (omega arith)))
