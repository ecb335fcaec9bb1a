-- "`finish` is take, repeated until 13": takes give the held frames, oldest first, and then 13. Assumes nothing.
use Prim.Native.Nat.{ℕ, zero, suc}
use mathlib.Core.Path.{◌≡◌, refl, ap, ◌∙◌}
use mathlib.Core.List.{List, [], ◌∷◌, ◌++◌, map}
use lib.ListN.{length}
use Rattle.buffers.specs.Answer.{Reply, refused, gives}
use Rattle.engine.specs.declared.config.FgoConfig.{FgoConfig}
use Rattle.fgo_spec.specs.Windows.{Scan}
use Rattle.fgo_spec.specs.Emitting.{Emitted}
use Rattle.fgo_spec.specs.Refiner.{State, emit, leave, freeze_oldest, takes, finish}

module _ (c : FgoConfig) where
  -- the answers of n takes in a row
  abbrev pub taking : ℕ → State → List (Reply Emitted)
  taking zero t = []
  taking (suc n) t = let a = takes c t in a.0 ∷ taking n a.1

  -- a take from nothing held is refused and changes nothing, so all further ones are refused too
  pub refused_stays : (t : State) → t.scans ≡ [] → takes c t ≡ (refused 13, t)
  unfolding takes freeze_oldest
  refused_stays t e = ap (freeze_oldest c t) e

  taking-all : (ss : List Scan) (t : State) → t.scans ≡ ss → taking (suc (length ss)) t ≡ map gives (finish c t ss) ++ (refused 13 ∷ [])
  unfolding takes freeze_oldest finish
  taking-all [] t e = ap (λ a. a.0 ∷ []) (refused_stays t e)
  taking-all (s ∷ ss) t e =
      ap (λ a. a.0 ∷ taking (suc (length ss)) a.1) (ap (freeze_oldest c t) e)
      ∙ ap (λ l. gives (emit c t.first t.prefixes s) ∷ l) (taking-all ss (leave c t s ss) (unfold leave in refl))

  -- as many takes as scans are held give `finish`, and the next one is refused
  pub finish_is : (t : State) → taking (suc (length t.scans)) t ≡ map gives (finish c t t.scans) ++ (refused 13 ∷ [])
  finish_is t = taking-all t.scans t refl

  -- which are the held scans in order
  pub finish_scans : (t : State) (ss : List Scan) → map (λ e. e.scan) (finish c t ss) ≡ ss
  unfolding finish emit
  finish_scans t [] = refl
  finish_scans t (s ∷ ss) = ap (λ l. s ∷ l) (finish_scans (leave c t s ss) ss)
