use Rattle.std.proofs.Common.{◌≡◌, refl, sym, ap, ◌∙◌, ℕ, ◌+◌, ◌-◌, ◌^◌, Bool, ◌&&◌, List, [], ◌∷◌, length, take, drop, get_or, nat_lt, arith, length-drop}
use Rattle.std.specs.List.{list_all}
use lib.Seq.{take_all, get_or-drop}
use Rattle.engine.specs.Body.{all}
use Rattle.engine.proofs.Every.{all_front}
use Rattle.smoother_frame.specs.Frame.{sensor_ok, sensor_count, sensors_from}
use Rattle.smoother_frame.proofs.frame.Frame.sensors_ok.Goals as goal

-- a test of each element, by its place
by_place : (p : ℕ → Bool) (l : List ℕ) → list_all p l ≡ all (λ k. p (get_or l k 0)) (length l)
unfolding all
by_place p [] = refl
by_place p (x ∷ l) = ap (λ b. p x && b) (by_place p l) ∙ sym (all_front (λ k. p (get_or (x ∷ l) k 0)) (length l))

-- from place o on
rest : (p : ℕ → Bool) (w : List ℕ) (o : ℕ) → list_all p (take (length w - o) (drop o w)) ≡ all (λ k. p (get_or w (o + k) 0)) (length w - o)
rest p w o =
    ap (list_all p) (take_all (length w - o) (drop o w) (omega (arith, length-drop o w))) ∙ by_place p (drop o w)
    ∙ (λ i. all (λ k. p (get_or-drop o w k 0 i)) (length-drop o w i))

pub returns : goal.returns
unfolding sensor_ok
returns c =
    let w = c.self.inside.words.now in
    let p : ℕ → Bool = λ y. nat_lt y (2 ^ 32) in
    let o : c.sensors_from.result ≡ sensors_from w = omega (arith, c.self.invariant) in
    let n : length w - c.sensors_from.result ≡ sensor_count w = omega (arith, c.self.invariant) in
    c.all_small.ensures ∙ rest p w c.sensors_from.result ∙ (λ i. all (λ k. p (get_or w (o i + k) 0)) (n i)) ∙ ap (λ v. all (sensor_ok v.words) (sensor_count v.words)) c.self.view_is
