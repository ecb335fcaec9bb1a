-- A state of which the invariant holds meets the state rule, and its next id is above every id used. Assumes nothing.
use Prim.Native.Nat.{ℕ, ◌≤◌, ◌<◌}
use mathlib.Core.Path.{◌≡◌, sym, ◌∙◌, subst}
use mathlib.Core.Bool.{true}
use mathlib.Core.List.{List, [], ◌∷◌, ◌++◌, map, Memᴰ}
use lib.ListN.{length}
use Rattle.engine.specs.declared.config.FgoConfig.{FgoConfig}
use Rattle.engine.specs.Config.{lag, legal}
use Rattle.engine.specs.Frame.{Frame}
use Rattle.engine.specs.Body.{layout, time_ok, frame_of}
use Rattle.engine.proofs.Passing.{sized-body}
use Rattle.fgo_spec.specs.Lists.{times}
use Rattle.fgo_spec.specs.Windows.{Scan, Prefix}
use Rattle.fgo_spec.specs.Emitting.{Emitted}
use Rattle.fgo_spec.specs.Refiner.{State}
use Rattle.fgo_spec.specs.Rule.{All, Spoken, PrefixRule, Rise, ColumnRule, Rule}
use Rattle.fgo_spec.specs.History.{scans_of, Stands}
use Rattle.fgo_spec.proofs.All.{All-left, All-right, All-append, All_mem, mem_All, All-map, map-All, All_weaken}
use Rattle.fgo_spec.proofs.Tables.{Up, up_distinct, up_found, mem_find}
use Rattle.fgo_spec.proofs.Ties.{TiedScan, tied_loose}
use Rattle.fgo_spec.proofs.Growing.{grown_rule}
use Rattle.fgo_spec.proofs.Placement.{Has}
use Rattle.fgo_spec.proofs.Arrival.{Column, column_weaken}
use Rattle.fgo_spec.proofs.Invariant.{Good, Inv}

-- a body that passes says a time in bounds
spoken_time : (f : Frame) → Spoken f → time_ok f.time ≡ true
spoken_time f p = subst (λ g. time_ok g.time ≡ true) p.3 (unfold frame_of in (sized-body (layout p.0) p.0.bytes p.2).time)

-- ---- the rule

rise_rule : (first next k : ℕ) (ps : List (ℕ × Prefix)) → Up k ps → All (λ e. (e.0 < next) × PrefixRule first e.1) ps → Rise first next k ps
rise_rule first next k [] u h = tt
rise_rule first next k (e ∷ ps) u h = (u.0, h.0.0, h.0.1, rise_rule first next e.0 ps u.1 h.1)

module _ (c : FgoConfig) (es : List Emitted) (acc : List Frame) (t : State) (i : Inv c es acc t) where
  abbrev G : ℕ → Type 0
  G x = Good c (scans_of es) t.prefixes t.next_id x

  pub used : (x : ℕ) → 0 < x → Stands x (scans_of es ++ t.scans) → x < t.next_id
  used x h s =
      (All_mem (Column (λ x. x < t.next_id)) (scans_of es ++ t.scans)
      (All-append (Column (λ x. x < t.next_id)) (scans_of es) t.scans i.gone
      (All_weaken (Column G) (Column (λ x. x < t.next_id)) t.scans (column_weaken G (λ x. x < t.next_id) (λ x g. g.1)) i.held))
      s.1).named x h s.2

  module _ (sp : All Spoken acc) where
    -- the frames emitted, and those held, are of bodies that pass
    frames-spoken : All Spoken (map (λ e. e.scan.frame) es ++ map (λ s. s.frame) t.scans)
    frames-spoken = subst (All Spoken) (sym i.order) sp

    pub emitted_spoken : All (λ s. Spoken s.frame) (scans_of es)
    emitted_spoken =
        All-map (λ s. Spoken s.frame) (λ e. e.scan) es
        (map-All Spoken (λ e. e.scan.frame) es (All-left Spoken (map (λ e. e.scan.frame) es) (map (λ s. s.frame) t.scans) frames-spoken))

    held-spoken : All (λ s. Spoken s.frame) t.scans
    held-spoken = map-All Spoken (λ s. s.frame) t.scans (All-right Spoken (map (λ e. e.scan.frame) es) (map (λ s. s.frame) t.scans) frames-spoken)

    frozen-rule : (e : ℕ × Prefix) → Memᴰ e t.prefixes → (e.0 < t.next_id) × PrefixRule t.first e.1
    frozen-rule e m =
        let f = mem_find e t.prefixes (up_distinct 0 t.prefixes i.rise) m in
        let g = i.frozen e.0 e.1 f in (
          g.1,
          subst (λ n. PrefixRule n e.1) (sym i.first)
              (grown_rule c e.0 (scans_of es)
              (All_weaken (Column (λ x. x < t.next_id)) (λ s. times e.0 s.ids ≤ 1) (scans_of es)
              (λ s k. k.regular.apart e.0 (up_found 0 e.0 t.prefixes i.rise f)) i.gone)
              (All_weaken (λ s. Spoken s.frame) (λ s. time_ok s.frame.time ≡ true) (scans_of es) (λ s p. spoken_time s.frame p) emitted_spoken)
              (sym g.0 ∙ f)),
        )

    column_rule : (s : Scan) → Memᴰ s t.scans → ColumnRule t.next_id s
    column_rule s m =
        let k = All_mem (Column G) t.scans i.held m in
        record {
          complete = k.regular.complete;
          apart = k.regular.apart;
          known = λ x h z. (k.named x h z).1;
          loose = tied_loose (Has t.owners) s.frame.associations s.ids (All_mem (TiedScan (Has t.owners)) t.scans i.owners.tied m);
          spoken = All_mem (λ s. Spoken s.frame) t.scans held-spoken m;
        }

    pub ruled : legal c ≡ true → length t.scans ≤ lag c → Rule c t
    ruled l h =
        record {
          settings = l;
          lagged = h;
          room = i.room;
          begun = i.begun;
          prefixes = rise_rule t.first t.next_id 0 t.prefixes i.rise (mem_All (λ e. (e.0 < t.next_id) × PrefixRule t.first e.1) t.prefixes frozen-rule);
          columns = mem_All (ColumnRule t.next_id) t.scans column_rule;
          owned = i.owners.owned;
          sum = i.sum;
          distinct = i.owners.distinct;
          alive = i.owners.alive;
          few = i.owners.few;
        }
