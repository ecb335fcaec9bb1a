-- At exact arithmetic the backward pass over a chain is the smoother of Rauch, Tung and Striebel. Assumes nothing.
use mathlib.Core.Path.{◌≡◌, refl, sym, ap, ◌∙◌, subst}
use mathlib.Core.Bool.{Bool, true, false, cond, true≢false}
use mathlib.Core.List.{List, [], ◌∷◌}
use mathlib.Core.Option.{Option, none, some, none-ne-some, some-injective}
use Rattle.scalar.specs.Num.{Num, Exact}
use Rattle.linalg.specs.Cholesky.{positive}
use Rattle.rts.specs.declared.Step.TheVariants.{Smoothed, Skipped, Failed}
use Rattle.rts.specs.Smoothing.{Estimate, Later, back_step, left, p_pred, smoothed, back, back_from, back_over}
use Rattle.rts.specs.Published.{Stepped, Published, Symmetric, AllSymmetric}
use Rattle.rts.proofs.Law.{law, symmetric_again}

module _ (N : Num) (X : Exact N) (q : N.F) where
  -- a step that leaves r
  stepped : (dt : N.F) (a s r : Estimate N.F) → Symmetric N a → Symmetric N s
      → left (back N q dt a s) ≡ some r → Stepped N q dt a s r × Symmetric N r
  unfolding back
  stepped dt a s r ours later e = go (N.le dt N.zero) (positive N (p_pred N q dt a.p)) refl refl e
    where
      go : (skips good : Bool) → N.le dt N.zero ≡ skips → positive N (p_pred N q dt a.p) ≡ good
          → left (cond skips (back_step Skipped s) (cond good (back_step Smoothed (smoothed N q dt a s)) (back_step Failed s))) ≡ some r
          → Stepped N q dt a s r × Symmetric N r
      go true good p g e =
          let z = some-injective s r e in
          (record { skipped = λ t. sym z; taken = λ f. absurd (true≢false (sym p ∙ f)) }, subst (Symmetric N) z later)
      go false true p g e =
          let k : back N q dt a s ≡ back_step Smoothed r =
          (λ i. cond (p i) (back_step Skipped s) (cond (g i) (back_step Smoothed (smoothed N q dt a s)) (back_step Failed s))) ∙ ap (back_step Smoothed) (some-injective (smoothed N q dt a s) r e) in
          (record { skipped = λ t. absurd (true≢false (sym t ∙ p)); taken = λ f. law N X q dt a s ours later r k }, symmetric_again N X q dt a s ours later r k)
      go false false p g e = absurd (none-ne-some r e)

  -- whatever the pass leaves is the textbook's smoothed state, and its covariance is symmetric
  pub chain_law : (a : Estimate N.F) (l : List (Later N.F)) → AllSymmetric N a l
      → (r : Estimate N.F) → back_over N q a l ≡ some r → Published N q a l r × Symmetric N r
  chain_law a [] h r e = let z = some-injective a r e in (sym z, subst (Symmetric N) z h)
  chain_law a (b ∷ l) h r e = go (back_over N q b.state l) (chain_law b.state l h.1) e
    where
      go : (o : Option (Estimate N.F)) → ((s : Estimate N.F) → o ≡ some s → Published N q b.state l s × Symmetric N s)
          → back_from N q b.dt a o ≡ some r → Published N q a (b ∷ l) r × Symmetric N r
      go none f e = absurd (none-ne-some r e)
      go (some s) f e =
          let p = f s refl in
          let t = stepped b.dt a s r h.0 p.1 e in
          ((s, p.0, t.0), t.1)
