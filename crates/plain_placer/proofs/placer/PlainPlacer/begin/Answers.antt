use Rattle.std.proofs.Common.{sym, subst, List}
use Rattle.stripe_placer.specs.OpenLines.{OpenLine}
use Rattle.plain_placer.specs.Fitting.{FitLines}
use Rattle.plain_placer.proofs.Steps.{fit_more}
use Rattle.plain_placer.proofs.placer.PlainPlacer.begin.Goals as goal

pub invariant_of-self-2 : goal.invariant_of-self-2
invariant_of-self-2 c =
    subst (λ (ls : List OpenLine). FitLines c.self.inside.layout ls) (sym c.in_ok-push.ensures.items)
    (fit_more c.self.inside.layout c.self.inside.lines.items c.in_ok-opened.opened c.self.invariant c.in_ok-opened.ensures.short)
