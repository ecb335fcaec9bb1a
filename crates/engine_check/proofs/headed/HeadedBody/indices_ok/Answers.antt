use Rattle.std.proofs.Common.{◌≡◌, ◌+◌, ◌*◌, ◌≤◌, ◌<◌, refl, sym, ◌∙◌, arith, rules, tests, List, Bool, true, false, ℕ, get_or}
use lib.ListN.{set, replicate}
use lib.Dec.{ltb}
use borrow.Author.Tests.{ltb-true, ltb-false}
use Rattle.bounds.specs.Bounds.{OBSERVATIONS, ASSOCIATION}
use Rattle.engine.specs.Little.{little}
use Rattle.engine.specs.Body.{layout_of, observation_count, index_ok, indices_ok}
use Rattle.engine.specs.declared.body.Body.{Body}
use Rattle.engine.proofs.Layouts.{within}
use Rattle.engine.proofs.Passing.{sized}
use Rattle.engine_check.proofs.Seen.{Marks, marks_none, marks-more, index_past, index_new, index_old}
use Rattle.engine_check.proofs.Turns.{called_kept, all_kept}
use Rattle.std.proofs.lemmas.Grind.{common_steps}
use Rattle.engine_check.specs.declared.headed.HeadedBody.{HeadedBody}
use Rattle.engine_check.specs.contracts.headed.fn.HeadedBody.indices_ok.all as closure
use Rattle.engine_check.proofs.headed.HeadedBody.indices_ok.Goals as goal

-- the table has room for each index
few : (h : HeadedBody) {n : ℕ} → n ≡ observation_count (layout_of h.body.kind) h.body.bytes.now → n ≤ OBSERVATIONS
few h e = let z = sized _ _ h.headed in omega (arith, e, z.observations, (within h.body.kind).observations)

-- the index that is read at turn i
abbrev index : Body → ℕ → ℕ → ℕ
index b from i = little (layout_of b.kind).width b.bytes.now (from + ASSOCIATION * i)

module _ (b : Body) (from n : ℕ) where
  abbrev ok : ℕ → Bool
  ok = index_ok (layout_of b.kind).width b.bytes.now from n

  -- what the closure holds before turn i
  record Held (i : ℕ) (body : Body) (at most : ℕ) (seen : List Bool) : Type 0 where
    same : body ≡ b
    place : at ≡ from
    count : most ≡ n
    marks : Marks (layout_of b.kind).width b.bytes.now from OBSERVATIONS i seen

  none : Held 0 b from n (replicate OBSERVATIONS false)
  none = record { same = refl; place = refl; count = refl; marks = marks_none _ _ _ OBSERVATIONS }

  -- a turn that passes, and one that does not
  module _ (l : n ≤ OBSERVATIONS) {i : ℕ} {body : Body} {at most : ℕ} {seen : List Bool} (h : Held i body at most seen) where
    read : index body at i ≡ index b from i
    read = rw (h.same, h.place) refl

    more : {body' : Body} {at' most' : ℕ} {seen' : List Bool}
        → (body' ≡ body) × (at' ≡ at) × (most' ≡ most) × (index body at i < most) × (get_or seen (index body at i) false ≡ false) × (seen' ≡ set seen (index body at i) true)
        → (ok i ≡ true) × Held (i + 1) body' at' most' seen'
    more t =
        let r = read in
        let c = h.count in (
          index_new _ _ _ OBSERVATIONS i h.marks (sym r) n (omega (arith, t.3, c)) l t.4,
          record { same = t.0 ∙ h.same; place = t.1 ∙ h.place; count = t.2 ∙ h.count; marks = rw t.5 (marks-more _ _ _ OBSERVATIONS i h.marks (sym r) (omega (arith, t.3, c, l))) },
        )

    stop : (index body at i < most → get_or seen (index body at i) false ≡ true) → ok i ≡ false
    stop t = go (ltb (index body at i) most) refl
      where
        go : (q : Bool) → ltb (index body at i) most ≡ q → ok i ≡ false
        go true e = let p = ltb-true _ _ e in index_old _ _ _ OBSERVATIONS i h.marks (sym read) n (let c = h.count in omega (arith, p, c)) l (t p)
        go false e = let p = ltb-false _ _ e in index_past _ _ _ OBSERVATIONS i h.marks (sym read) n (let c = h.count in omega (arith, p, c))

pub all-requires-clause-callable : goal.all-requires-clause-callable
all-requires-clause-callable c =
    let h = c.args.self.now in
    let from = c.associations_from-from.result in
    let n = c.observation_count-n.result in
    let z = sized _ _ h.headed in
    let m = few h c.observation_count-n.ensures.count in
    called_kept (ok h.body from n) c.association_count.result (λ i q. let l = closure.captures q in Held h.body from n i l.b.now l.from l.n l.seen)
    (λ i q v g j k. more h.body from n m j (search (rules, tests))) refl (none h.body from n)
    (λ i q g j. grind (arith, common_steps, z.exact, m))

pub returns : goal.returns
unfolding indices_ok
returns c =
    let h = c.args.self.now in
    let from = c.associations_from-from.result in
    let n = c.observation_count-n.result in
    let m = few h c.observation_count-n.ensures.count in
    rw (c.associations_from-from.ensures.place, c.observation_count-n.ensures.count, c.association_count.ensures.count) at
    (all_kept (ok h.body from n) c.association_count.result (λ i q. let l = closure.captures q in Held h.body from n i l.b.now l.from l.n l.seen)
    (λ i q v g j k. more h.body from n m j (search (rules, tests))) refl (none h.body from n) c.all.ensures.ran
    (λ i q v g j k. stop h.body from n m j (search (rules, tests))))
