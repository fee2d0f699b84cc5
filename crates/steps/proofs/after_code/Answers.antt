-- `steps::after_code` meets its contract: a code that sets the mode alone, or another.
-- Assumes nothing.
use mathlib.Core.Path.{◌≡◌, refl, sym, ap, ◌∙◌}
use native.Mathlib.Omega.{arith}
use Rattle.graphics.specs.Graphics.{with_mode}
use Rattle.changes.specs.After.{mode_of}
use Rattle.progress.specs.Parts.{with_graphics}
use Rattle.steps.proofs.Coded.{mode_set}
use Rattle.steps.proofs.after_code.Goals as goal

pub returns-then-mode-eq0 : goal.returns-then-mode-eq0
returns-then-mode-eq0 c = rw (c.with_graphics.ensures, c.after_setting.ensures) refl

pub returns : goal.returns
returns c =
    let call = c.args in
    let mode = c.mode_of-mode.ensures in
    let some : mode_of call.code ≡ 0 → ⊥ = λ z. c.if-mode-eq0.false (mode ∙ z) in
    rw (c.with_graphics-2.ensures, c.with_mode.ensures)
    (ap (λ m. with_graphics (with_mode m call.p.graphics) call.p) mode ∙ ap (λ g. with_graphics g call.p) (sym (mode_set call.code call.p.graphics (omega (arith, some)))))
