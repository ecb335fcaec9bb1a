use Rattle.std.proofs.Common.{◌≡◌, ℕ, ◌+◌, ◌*◌, List, ap, ◌∙◌}
use lib.Ieee.{Float}
use Rattle.bounds.specs.Bounds.{HEAD, TRACK, STATE}
use Rattle.engine.specs.Body.{time_ok}
use Rattle.fgo_spec.specs.Windows as windows
use Rattle.fgo_spec.specs.Emitting.{report, track_words, track_numbers}
use Rattle.fgo_part.specs.declared.Prefix.{Prefix}
use Rattle.buffers.specs.Buffers.{over}
use Rattle.fgo_part.specs.Parts.{part_id, prefix_of}
use Rattle.fgo_part.proofs.Recent.{heights_few}
use Rattle.fgo_freeze.specs.Frozen.{PartOk}
use Rattle.fgo_emit.specs.Writing.{Lists}
use Rattle.fgo_emit.proofs.put_track.Goals as goal

-- a part that was read can be listed
lists : {p : Prefix} {q : windows.Prefix} (x : ℕ) → prefix_of p ≡ q → PartOk (x, q) → Lists p
lists {p} {q} x e ok =
    record {
      heights = heights_few p.heights.values 0 p.heights.count (rw (ap (λ (r : windows.Prefix). r.heights) e) ok.height);
      last = ap (λ (r : windows.Prefix). time_ok r.last_ns) e ∙ ok.timed;
    }

pub returns : goal.returns
returns c = let a = c.args in
    let m = a.at in
    let x = part_id a.parts.now.tracks a.k in
    let said =
    ap (λ (y : ℕ). report m.config m.time y (prefix_of c.prefix_at-p.result)) c.part_id-id.ensures
    ∙ ap (report m.config m.time x) c.prefix_at-p.ensures in
    record {
      words = c.put.ensures ∙ ap (λ (l : List ℕ). over (HEAD + TRACK * a.i) l a.words.now) (c.track_words.ensures ∙ ap track_words said);
      numbers = c.put-2.ensures ∙ ap (λ (l : List Float). over (STATE * a.i) l a.numbers.now) (c.track_numbers.ensures ∙ ap track_numbers said);
    }
