-- Demand 3 over refiner and smoother: the theorem, over every list of pushes and takes of both. Assumes nothing.
use Prim.Native.Nat.{ℕ, ◌+◌, ◌≤◌}
use native.Mathlib.Omega.{arith}
use mathlib.Core.Path.{◌≡◌, refl, sym, ap, ◌∙◌, subst}
use mathlib.Core.Bool.{Bool, true, false}
use mathlib.Core.List.{List, [], ◌∷◌, ◌++◌, map, append_assoc, nil≢cons, head-eq_of_cons-eq, tail-eq_of_cons-eq}
use lib.ListN.{length, length-append, length-map}
use Rattle.bounds.specs.Bounds.{TRACKS}
use Rattle.buffers.specs.Answer.{Op, Written}
use Rattle.buffers.specs.Run.{Run, step}
use Rattle.buffers.proofs.Running.{run_snoc, accepted_grows, step_stays}
use Rattle.engine.specs.declared.config.FgoConfig.{FgoConfig}
use Rattle.engine.specs.Body.{Body}
use Rattle.fgo_spec.specs.Emitting.{Emitted, written}
use Rattle.fgo_spec.specs.Rule.{All}
use Rattle.fgo_spec.specs.History.{Sent, run}
use Rattle.fgo_spec.proofs.All.{All-left, All-right}
use Rattle.fgo_spec.proofs.HistoryLaw.{history}
use Rattle.smoother_frame.specs.Frame.{well_formed}
use Rattle.smoother_window.specs.declared.SmootherConfig.{SmootherConfig}
use Rattle.smoother_window.specs.Config.{lag, most}
use Rattle.smoother_pass.specs.Pass.{emitted}
use Rattle.smoother.specs.Smoother.{State, new, reply}
use Rattle.smoother.proofs.Calls.{push_formed}
use Rattle.histories.specs.Smoothed.{smoothing, Sourced, handed, sourced_after, sourced, picked, Smoothed, Both, Passes}
use Rattle.histories.proofs.SmootherRun.{Block, ran, last_left, reply-stays}
use Rattle.histories.proofs.Parts.{Parts, parts}
use Rattle.histories.proofs.Fresh.{Known, emitted_fresh}
use Rattle.histories.proofs.Formed.{well}
use Rattle.histories.proofs.Bodies.{fine}

-- ---- some of a list

module _ {A : Type 0} where
  pub picked-All : (P : A → Type 0) (bs : List Bool) (l : List A) → All P l → All P (picked bs l)
  unfolding picked
  picked-All P [] l h = tt
  picked-All P (b ∷ bs) [] h = tt
  picked-All P (true ∷ bs) (a ∷ l) h = (h.0, picked-All P bs l h.1)
  picked-All P (false ∷ bs) (a ∷ l) h = picked-All P bs l h.1

  pub picked-map : {B : Type 0} (g : A → B) (bs : List Bool) (l : List A) → map g (picked bs l) ≡ picked bs (map g l)
  unfolding picked
  picked-map g [] l = refl
  picked-map g (b ∷ bs) [] = refl
  picked-map g (true ∷ bs) (a ∷ l) = ap (λ k. g a ∷ k) (picked-map g bs l)
  picked-map g (false ∷ bs) (a ∷ l) = picked-map g bs l

-- emitted frames with their pasts are those frames
pub sourced-frames : (past es : List Emitted) → map handed (sourced_after past es) ≡ map written es
unfolding sourced_after
sourced-frames past [] = refl
sourced-frames past (e ∷ es) = ap (λ k. written e ∷ k) (sourced-frames (past ++ (e ∷ [])) es)

module _ (c : FgoConfig) (ops : List (Op Body)) (sent : All Sent ops) where
  pub passes : Passes c ops
  passes past e later h = well e (fine c ops sent past e later h)

  -- what is known of the frames that the refiner emitted, and of some of them
  known : (d : SmootherConfig) (past es : List Emitted) → (run c ops).emitted ≡ past ++ es → All (Known c d) (sourced_after past es)
  unfolding sourced_after
  known d past [] h = tt
  known d past (e ∷ es) h = (
    ((history c ops).every past e es h, (fine c ops sent past e es h).bounded.time),
    known d (past ++ (e ∷ [])) es (h ∙ sym (append_assoc past (e ∷ []) es)),
  )

  -- what the smoother has accepted are the marked ones of the frames that the refiner has emitted
  module _ (d : SmootherConfig) (os : List (Op Written)) (marks : List Bool)
      (a : (smoothing d os).accepted ≡ map handed (picked marks (sourced (run c ops).emitted))) where
    abbrev r : Run Written Written State
    r = smoothing d os

    abbrev first : List Sourced
    first = picked marks (sourced (run c ops).emitted)

    -- ---- what has come out

    first-known : All (Known c d) first
    first-known = picked-All (Known c d) marks (sourced (run c ops).emitted) (known d [] (run c ops).emitted refl)

    -- a frame that came out, when the frames by had been accepted, is the smoothed form of one of them
    smoothed-of :
        (by more : List Sourced) → first ≡ by ++ more → (acc : List Written) → map handed by ≡ acc → (k : ℕ) (o : Written) → Block d acc k o → Smoothed c d first acc k o
    smoothed-of by more f acc m k o b = go p.after refl
      where
        p : Parts handed by b.front (b.oldest ∷ b.others)
        p = parts handed by b.front (b.oldest ∷ b.others) (m ∙ b.among)

        go : (l : List Sourced) → p.after ≡ l → Smoothed c d first acc k o
        go [] z = absurd (nil≢cons (ap (map handed) (sym z) ∙ p.right))
        go (e ∷ l) z =
            let s : map handed (e ∷ l) ≡ b.oldest ∷ b.others = ap (map handed) (sym z) ∙ p.right in
            let f' = head-eq_of_cons-eq s in
            let g = tail-eq_of_cons-eq s in
            let w : by ≡ p.before ++ (e ∷ l) = p.whole ∙ ap (λ m. p.before ++ m) z in
            let v : first ≡ (p.before ++ (e ∷ l)) ++ more = f ∙ ap (λ m. m ++ more) w in
            record {
              before = p.before;
              source = e;
              window = l;
              later = more;
              all = v;
              by_then = sym m ∙ ap (map handed) w;
              number = sym (length-map p.before handed) ∙ ap length p.left ∙ b.number;
              few = subst (λ n. n ≤ lag d) (sym (sym (length-map l handed) ∙ ap length g)) b.few;
              form =
                  b.form
                  ∙ (λ i. emitted d (sym f' i ∷ sym g i) (sym f' i))
                  ∙ emitted_fresh c d e l (All-right (Known c d) p.before (e ∷ l) (All-left (Known c d) (p.before ++ (e ∷ l)) more (subst (All (Known c d)) v first-known)));
            }

    calls-smoothed :
        (earlier : List (Op Written)) (k : Op Written) (later : List (Op Written)) → os ≡ earlier ++ (k ∷ later) → (o : Written) →
        (smoothing d (earlier ++ (k ∷ []))).emitted ≡ (smoothing d earlier).emitted ++ (o ∷ []) →
        Smoothed c d first (smoothing d (earlier ++ (k ∷ []))).accepted (length (smoothing d earlier).emitted) o
    calls-smoothed earlier k later p o g =
        let os' = earlier ++ (k ∷ []) in
        let n = length (smoothing d earlier).emitted in
        let e : smoothing d os' ≡ step (λ f. f) reply (smoothing d earlier) k = run_snoc (λ f. f) reply (new d) earlier k in
        let b = last_left d earlier k o (ap (λ r. r.emitted) (sym e) ∙ g) in
        let m = accepted_grows (λ f. f) reply (new d) os' later in
        let q = parts handed first (smoothing d os').accepted m.0
        (sym a ∙ ap (λ l. (smoothing d l).accepted) (p ∙ sym (append_assoc earlier (k ∷ []) later)) ∙ m.1) in
        smoothed-of q.before q.after q.whole (smoothing d os').accepted q.left n o (subst (λ l. Block d l n o) (ap (λ r. r.accepted) (sym e)) b)

    each-is : length r.emitted + length r.state.frames ≡ length first
    each-is =
        let i = (ran d os).kept in
        omega (arith, i.number, ap length i.line, length-append i.front r.state.frames, ap length a, length-map first handed)

    -- ---- what is not refused

    formed-here : most d ≡ TRACKS → (e : Emitted) → well_formed TRACKS (written e) ≡ true → well_formed (most r.state.config) (written e) ≡ true
    formed-here wide e w = ap (λ s. well_formed (most s.config) (written e)) (ran d os).same ∙ ap (λ n. well_formed n (written e)) wide ∙ w

    pub both : Both c ops d os first
    both =
        record {
          each = each-is;
          calls = calls-smoothed;
          refusals = λ k n g. run_snoc (λ f. f) reply (new d) os k ∙ step_stays (λ f. f) reply r k n (reply-stays r.state k n g);
          pushes = λ wide past e later w. push_formed r.state (written e) (formed-here wide e (passes past e later w));
        }
