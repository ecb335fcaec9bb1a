-- The test of the state rule passes just where document 01's rule holds. Assumes nothing.
use Prim.Native.Nat.{◌+◌}
use mathlib.Core.Path.{◌≡◌, refl}
use mathlib.Core.Bool.{true, and-eq-true_iff}
use borrow.Author.Tests.{eq-eqb}
use Rattle.engine.proofs.Every.{both, all_true}
use Rattle.fgo_spec.specs.Rule.{Bytes, Spoken, rule_ok}
use Rattle.fgo_spec.proofs.RuleLaw.{rule_of, rule_ok_lem}
use Rattle.fgo_spec.proofs.Rows.{rows_all}
use Rattle.fgo_state.specs.declared.state.FixedLagRefiner.{FixedLagRefiner}
use Rattle.fgo_state.specs.declared.state.Memory.{Memory}
use Rattle.fgo_state.specs.Memory.{body_at, scan_in, state_of}
use Rattle.fgo_state.specs.Sound.{bodies_ok, sound_ok, Sound}
use Rattle.fgo_state.proofs.Bodies.{body-passes, bytes_held}

pub tested : (r : FixedLagRefiner) (m : Memory) → Bytes m.scans.bodies → (sound_ok r m ≡ true → Sound r m) × (Sound r m → sound_ok r m ≡ true)
unfolding sound_ok bodies_ok state_of scan_in
tested r m bytes = (
  λ e.
      let h = both (bodies_ok m.scans.bodies m.scans.columns r.first.0 r.held) (rule_ok r.config (state_of r m)) e in
      let passes = body-passes m.scans.bodies m.scans.columns r.first.0 r.held h.0 in
      record {
        bodies = passes;
        rule =
            rule_of r.config (state_of r m) h.1
            (rows_all (λ x. Spoken x.frame) (scan_in m.scans.bodies m.scans.columns) r.first.0 r.held
            (λ k q. let n = r.first.0 + k in (body_at m.scans.bodies m.scans.columns n, bytes_held m.scans.bodies m.scans.columns n bytes, passes k q, refl)));
      },
  λ s. (and-eq-true_iff _ _).1 (all_true _ r.held (λ i l. eq-eqb _ 0 (s.bodies i l)), (rule_ok_lem r.config (state_of r m) s.rule).0),
)
