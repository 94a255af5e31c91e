use Rattle.std.proofs.Common.{sym, ap, ◌∙◌}
use Rattle.pblk_core.specs.Named.{named_beside, reset_or}
use Rattle.pblk_core.proofs.NamedReset.{to_reset}
use Rattle.pblk_core.proofs.StandsReset.{named_in}
use Rattle.pblk_core.proofs.WorkOf.{work_is}
use Rattle.pblk_core.proofs.target_core.Core.next_work.Goals as goal

pub returns-in-Some-clause-work : goal.returns-in-Some-clause-work
returns-in-Some-clause-work c = λ i w mount st col.
    ap (λ o. reset_or o (named_beside c.args.self.now)) (sym c.in-Some.is ∙ c.first.ensures) ∙ work_is i w c.args.self.now mount st col

pub returns-in-None-clause-work : goal.returns-in-None-clause-work
returns-in-None-clause-work c = λ i w mount st col.
    c.work_beside.ensures ∙ ap (λ o. reset_or o (named_beside c.args.self.now)) (sym c.in-None.is ∙ c.first.ensures)
    ∙ work_is i w c.args.self.now mount st col

pub returns-in-Some-clause-reset : goal.returns-in-Some-clause-reset
returns-in-Some-clause-reset c = λ i w line unit st is.
    to_reset i _ line unit (named_in i _ c.args.self.now line unit st
    (ap (λ o. reset_or o (named_beside c.args.self.now)) (sym c.first.ensures ∙ c.in-Some.is) ∙ is))

pub returns-in-None-clause-reset : goal.returns-in-None-clause-reset
returns-in-None-clause-reset c = λ i w line unit st is.
    to_reset i _ line unit (named_in i _ c.args.self.now line unit st
    (ap (λ o. reset_or o (named_beside c.args.self.now)) (sym c.first.ensures ∙ c.in-None.is) ∙ sym c.work_beside.ensures ∙ is))
