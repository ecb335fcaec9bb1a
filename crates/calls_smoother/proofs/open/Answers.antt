use native.Mathlib.Omega.{arith}
use mathlib.Core.Path.{refl, ◌∙◌}
use Rattle.std.proofs.Common.{rules}
use Rattle.smoother.specs.Promise.{window}
use Rattle.calls_cells.proofs.Opened.{not_opened, is_opened}
use Rattle.calls_smoother.specs.Smoothing.{window_in}
use Rattle.smoother.proofs.Fronts.{left_whole}
use Rattle.calls_smoother.proofs.Fronts.{within, opened_over}
use Rattle.calls_smoother.proofs.open.Goals as goal

pub returns-in-Err : goal.returns-in-Err
returns-in-Err c =
    λ ws ns. rw (← c.settings_in-config.ensures, ← c.room_for-window.ensures.0, ← c.size-size.ensures)
    (let size = c.size-size.result in
    let w = window_in c.args.smoother.now.window in
    let h = within c.room_for-window.result size w c.size-size.ensures c.room_for-window.ensures.1 (search rules) (search rules) in
    let e = c.in-Err.ensures in
    let q = not_opened (omega arith) _ _ _ _ _ (e.opened ∙ opened_over size w h c.settings_in-config.result) c.put_refused.ensures in
    let v = left_whole size w h (window c.open_over.new.window c.open_over.new.values) _ e.rest e.window in
    record { smoother_is = q.0; room_is = refl; window_is = v; words = refl; numbers = refl; text_is = q.1 })

pub returns-in-Ok : goal.returns-in-Ok
returns-in-Ok c =
    λ ws ns. rw (← c.settings_in-config.ensures, ← c.room_for-window.ensures.0, ← c.size-size.ensures)
    (let size = c.size-size.result in
    let w = window_in c.args.smoother.now.window in
    let h = within c.room_for-window.result size w c.size-size.ensures c.room_for-window.ensures.1 (search rules) (search rules) in
    let e = c.in-Ok.ensures in
    let q = is_opened (omega arith) _ _ _ _ _ (e.opened ∙ opened_over size w h c.settings_in-config.result) c.put_opened.ensures in
    let v = left_whole size w h (window c.open_over.new.window c.open_over.new.values) _ e.rest e.window in
    record { smoother_is = e.new _ refl ∙ q.0; room_is = refl; window_is = v; words = refl; numbers = refl; text_is = q.1 })
