-- At exact arithmetic the plain filter's run over any list of observations, along any number of axes, is the
-- textbook's. Assumes nothing.
use mathlib.Core.Path.{◌≡◌, refl, ◌∙◌}
use mathlib.Core.List.{List, [], ◌∷◌, foldl}
use Prim.Native.Nat.{ℕ}
use lib.ListN.{length, length-map, get_or-map}
use Rattle.scalar.specs.Num.{Num, Exact}
use Rattle.linalg.specs.Sizes.{stacked}
use Rattle.kf.specs.Plain.{Filter, Observed, start_axis, start, work, further, run}
use Rattle.textbook.specs.Kalman.{z, Prior, Over, Published, axis_at, estimate_of, AllAbove, AllAlong}
use Rattle.textbook.proofs.Updating.{work_law, work_long}

module _ (N : Num) where
  open N use {F, past}

  -- it starts at x = (z, 0), P = diag(r, .., v, ..)
  pub starts : (n : ℕ) (v : F) (o : Observed F) → Prior N n v o (estimate_of N n (start N o.at o.t o.r v))
  starts n v o =
      record {
        state = λ i h. λ j. stacked N n (λ i. (begun i j).at) (λ i. (begun i j).speed) i;
        covariance = λ i j h g. refl;
        time = refl;
      }
    where
      begun : (i : ℕ) → axis_at N (start N o.at o.t o.r v) i ≡ start_axis N (z N o i)
      begun i = get_or-map (start_axis N) o.at i past

module _ (N : Num) (X : Exact N) (n : ℕ) (q : N.F) where
  open N use {F, add as ◌⊕◌, zero as nought}

  infixl 60 ◌⊕◌
  -- each further observation
  over : (k : Filter F) (l : F) (os : List (Observed F)) → length k.axes ≡ n → AllAlong n os → AllAbove N q k os
      → let a = foldl (further N q) (record { filter = k; nll = l }) os in Over N n q (estimate_of N n k) l os (estimate_of N n a.filter) a.nll
  over k l [] long wide above = (refl, refl)
  over k l (o ∷ os) long wide above =
      let b = work N q k o in (
        estimate_of N n b.filter,
        b.nll,
        work_law N X n q k o long wide.0 above.0,
        over b.filter (l ⊕ b.nll) os (work_long N X n q k o long wide.0 above.0) wide.1 above.1,
      )

  -- the run, where p00 + r is above 0 at each update
  pub run_law : (v : F) (o : Observed F) (os : List (Observed F)) → AllAlong n (o ∷ os) → AllAbove N q (start N o.at o.t o.r v) os
      → Published N n q v o os (estimate_of N n (run N q v o os).filter) (run N q v o os).nll
  run_law v o os wide above =
      let k = start N o.at o.t o.r v in
      (estimate_of N n k, starts N n v o, over k nought os (length-map o.at (start_axis N) ∙ wide.0) wide.1 above)
