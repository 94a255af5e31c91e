use Rattle.std.proofs.Common.{sym, subst, List}
use Rattle.stripe_placer.specs.OpenLines.{OpenLine, has_left}
use Rattle.plain_placer.specs.Fates.{stripe_of}
use Rattle.plain_placer.specs.Fitting.{FitLines}
use Rattle.plain_placer.proofs.Steps.{fit_turned, fit_filtered}
use Rattle.plain_placer.proofs.placer.PlainPlacer.answer.Goals as goal

pub invariant_of-self : goal.invariant_of-self
invariant_of-self c =
    let turned : FitLines c.self.inside.layout c.turn_lines.new.lines.items =
    subst (λ (ls : List OpenLine). FitLines c.self.inside.layout ls) (sym c.turn_lines.ensures)
    (fit_turned c.self.inside.layout c.args.of.now.line _ (stripe_of c.args.to) c.self.inside.lines.items c.self.invariant) in
    subst (λ (ls : List OpenLine). FitLines c.self.inside.layout ls) (sym c.close_lines.ensures)
    (fit_filtered c.self.inside.layout has_left c.turn_lines.new.lines.items turned)
