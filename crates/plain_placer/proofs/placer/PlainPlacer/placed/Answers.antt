use Rattle.std.proofs.Common.{sym, subst, List}
use Rattle.stripe_placer.specs.OpenLines.{OpenLine}
use Rattle.stripe_placer.specs.OpenLines.Stripe.{Unanswered}
use Rattle.plain_placer.specs.Fitting.{FitLines}
use Rattle.plain_placer.proofs.Steps.{fit_turned}
use Rattle.plain_placer.proofs.placer.PlainPlacer.placed.Goals as goal
use Rattle.plain_placer.proofs.placer.PlainPlacer.placed.Goals.{then-not-is_stopped, else-not-is_stopped}

pub invariant_of-self : goal.invariant_of-self
invariant_of-self c =
    elim c.if-not-is_stopped.branch [
      | then-not-is_stopped w ↦ rw w.self-inside-is
          (subst (λ (ls : List OpenLine). FitLines c.self.inside.layout ls) (sym w.turn_lines.ensures)
          (fit_turned c.self.inside.layout c.args.of.now.line _ Unanswered c.self.inside.lines.items c.self.invariant))
      | else-not-is_stopped w ↦ rw w.self-inside-is c.self.invariant
    ]
