use Rattle.std.proofs.Common.{◌≡◌, ℕ, ◌≤◌, refl, sym, ap, ◌∙◌, true, false, length, arith, rules, Option, Some, None}
use Rattle.std.proofs.lemmas.Option.{MatchOption-at_none, MatchOption-at_some}
use lib.ListN.{take}
use Rattle.smoother_frame.specs.declared.counts.FrameCounts.{FrameCounts}
use Rattle.smoother_frame.specs.Frame.{frame, words_long, numbers_long, head_ok, rows_ok, well_formed, CountsOf}
use Rattle.smoother_frame.proofs.WellFormed.{headed, front_formed}
use Rattle.smoother_window.specs.Config.{most}
use Rattle.smoother_window.specs.Window.{words_in, numbers_in}
use Rattle.smoother_window.proofs.Forms.{malformed}
use Rattle.smoother_window.proofs.window.WindowRef.is_formed.Goals as goal

either : {A G : Type 0} (o : Option A) → (o ≡ None → G) → ((x : A) → o ≡ Some x → G) → G
either None f g = f refl
either (Some x) f g = g x refl

pub is_some_and-requires : goal.is_some_and-requires
is_some_and-requires c =
    let w = c.slot.result.0.now in
    let x = c.slot.result.1.now in
    let h : (k : FrameCounts) → c.checked.result ≡ Some k → CountsOf w k × (words_long w ≤ length w) × (numbers_long w ≤ length x) =
    λ k e.
    let q = MatchOption-at_some _ _ k e c.checked.ensures in
    let d = headed _ _ q.0 in
    (q.1, omega (arith, c.slot.ensures.wide, c.type_inv.self), omega (arith, c.slot.ensures.deep, c.type_inv.self)) in
    search (rules, h)

pub returns : goal.returns
unfolding words_in numbers_in
returns c =
    let s = c.args.self.now in
    let a = c.slot.result.0.now in
    let x = c.slot.result.1.now in
    let m : ℕ = most s.state.config in
    let e = c.slot.ensures.words in
    let g = c.slot.ensures.numbers in
    let w = take (words_long a) a in
    let y = take (numbers_long a) x in
    either c.checked.result
    (λ n.
    let h : head_ok m a ≡ false = MatchOption-at_none _ _ n c.checked.ensures in
    MatchOption-at_none _ _ n c.is_some_and.ensures ∙ sym (malformed s.state s.words.now s.values.now c.args.k (omega (arith, ap length e, c.slot.ensures.wide)) (ap (head_ok m) (sym e) ∙ h)))
    (λ k o.
    let h : head_ok m a ≡ true = (MatchOption-at_some _ _ k o c.checked.ensures).0 in
    let d = headed _ _ h in
    let r = MatchOption-at_some _ _ k o c.is_some_and.ensures in
    let p : c.is_some_and.result ≡ rows_ok w y = search (rules, r) in
    let q : well_formed m (frame w y) ≡ rows_ok w y = front_formed m a x h (omega (arith, c.slot.ensures.wide)) (omega (arith, c.slot.ensures.deep)) in
    p ∙ sym q ∙ (λ i. well_formed m (frame (take (words_long (e i)) (e i)) (take (numbers_long (e i)) (g i)))))
