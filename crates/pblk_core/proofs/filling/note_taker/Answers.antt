use Rattle.std.proofs.Common.{sym, ap, ◌∙◌}
use Rattle.core_laws.specs.ChangedTables.{note_by}
use Rattle.pblk_core.proofs.FillingRows.{noted_once}
use Rattle.pblk_core.proofs.filling.note_taker.Goals as goal

pub returns-in-Some : goal.returns-in-Some
returns-in-Some c =
    noted_once c.args.lines.now c.note_taker.new.self c.args.line c.in-Some.taker c.requires c.note_taker.ensures
    ∙ ap (λ o. note_by o c.args.line c.args.lines.now) (sym c.in-Some.is)

pub returns-in_default : goal.returns-in_default
returns-in_default c = ap (λ o. note_by o c.args.line c.args.lines.now) (sym c.in_default.is)
