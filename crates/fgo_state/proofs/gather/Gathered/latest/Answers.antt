use Prim.Native.Nat.{ℕ, zero, suc, ◌+◌, ◌≤◌, ◌<◌, min}
use native.Mathlib.Omega.{arith}
use mathlib.Core.Path.{◌≡◌, refl, sym, ap, ◌∙◌}
use mathlib.Core.List.{List}
use lib.ListN.{get_or}
use Rattle.std.proofs.Common.{rules, tests}
use Rattle.std.specs.Prelude.{Option}
use Rattle.std.specs.Option.{option_or}
use Rattle.engine.specs.declared.types.RefinedId.{RefinedId}
use Rattle.fgo_spec.specs.Owning.{or_else}
use Rattle.fgo_state.specs.Gathering.{holder_of, latest_of}
use Rattle.fgo_state.specs.Owners.{id_from}
use Rattle.fgo_state.proofs.Down.{down, YieldsList-from_rev_range}
use Rattle.fgo_state.proofs.FindMap.{first_given, find_map_from_yields_List}
use Rattle.fgo_state.proofs.Tracks.{id_or}
use Rattle.fgo_state.proofs.LastHolder.{Absent, holder_before, none_latest}
use Rattle.fgo_state.proofs.gather.Gathered.latest.Goals as goal

module _ (e : ℕ) (ids engines starts : List ℕ) (last : ℕ) where
  -- where scan k ends, as far as it is looked at
  abbrev end : ℕ → ℕ
  end k = min (get_or starts (k + 1) 0) last

  -- the holder in scan k
  abbrev holder : ℕ → Option RefinedId
  holder k = id_from (holder_of e ids engines (get_or starts k 0) (end k))

  latest_found : (n : ℕ) → ((k : ℕ) → k < n → Absent e ids engines last (get_or starts (k + 1) 0)) → first_given holder (down 0 n) ≡ id_from (latest_of e ids engines starts n)
  unfolding latest_of
  latest_found zero h = unfold id_from in refl
  latest_found (suc n) h =
      let z : 0 + n ≡ n = omega arith in
      let s : n + 1 ≡ suc n = omega arith in
      let b = get_or starts (n + 1) 0 in
      let t : holder_of e ids engines (get_or starts n 0) (end n) ≡ holder_of e ids engines (get_or starts n 0) b =
      holder_before e ids engines (get_or starts n 0) b (end n) (omega arith) (λ i p q. h n (omega arith) i (omega arith) q) in
      rw z (ap (option_or (holder n)) (latest_found n (λ k l. h k (omega arith))) ∙ id_or _ _ ∙ ap (λ (x : ℕ). id_from (or_else x (latest_of e ids engines starts n))) t ∙ rw s refl)

pub returns-in_err-at : goal.returns-in_err-at
unfolding id_from
returns-in_err-at c =
    let a = c.args.self.now in
    let es = c.args.engines.now.ids.now in
    let nowhere : (j : ℕ) → j ≤ a.held → Absent c.args.e.0 a.ids es 0 (get_or a.starts j 0) = λ j l i p q. c.in_err-at.ensures i (omega (arith, a.within.most j l, c.requires)) in
    c.from_residual.ensures ∙ ap id_from (sym (none_latest c.args.e.0 a.ids es a.starts a.held nowhere))

pub returns : goal.returns
returns c =
    let a = c.args.self.now in
    let es = c.args.engines.now.ids.now in
    let past = c.in_ok-at.at + 1 in
    let nowhere : (k : ℕ) → k < a.held → Absent c.args.e.0 a.ids es past (get_or a.starts (k + 1) 0) = λ k l i p q. c.in_ok-at.ensures.2 i (omega arith) (omega (arith, a.within.most (k + 1) (omega arith), c.requires)) in
    find_map_from_yields_List _ (λ x. x) _ _ (holder c.args.e.0 a.ids es a.starts past) (λ k r q w. search (rules, tests)) _ c.find_map.result c.find_map.ensures.ran c.find_map.ensures.runs
    (YieldsList-from_rev_range a.held (c.rev.ensures.source))
    ∙ latest_found c.args.e.0 a.ids es a.starts past a.held nowhere
