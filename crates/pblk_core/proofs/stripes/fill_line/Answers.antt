use Rattle.std.proofs.Common.{◌&&◌, sym, ap, ◌∙◌}
use Rattle.core_laws.specs.ChangedTables.{full_if, with_row}
use Rattle.pblk_core.specs.Landing.{is_open}
use Rattle.pblk_core.proofs.LandedCore.{lines_kept}
use Rattle.pblk_core.proofs.stripes.fill_line.Goals as goal

pub returns-then-told : goal.returns-then-told
returns-then-told c = λ row there.
    c.turn_full.ensures row there ∙ ap (λ b. with_row c.args.line (full_if (b && is_open row.state)) c.args.lines.now) (sym c.if-told.true)

pub returns-else-told : goal.returns-else-told
returns-else-told c = λ row there.
    lines_kept c.args.lines.now c.args.line row there
    ∙ ap (λ b. with_row c.args.line (full_if (b && is_open row.state)) c.args.lines.now) (sym c.if-told.false)
