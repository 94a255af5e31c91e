use Rattle.std.proofs.Common.{◌≡◌, sym, subst, ap, ◌∙◌}
use Rattle.pblk_core.specs.Filling.{Filling}
use Rattle.chronicle.proofs.Rests.{still_begun}
use Rattle.pblk_engine.specs.Pumps.{HasPumped}
use Rattle.pblk_engine.specs.WorkSince.{HasPlacedOn}
use Rattle.pblk_engine.specs.Workers.{WorkerView}
use Rattle.pblk_engine.specs.declared.commands.Ended.{Ended}
use Rattle.pblk_engine.specs.declared.outcomes.Role.TheVariants as roles
use Rattle.pblk_engine.proofs.MadePrograms.{answer_of, pumped_made}
use Rattle.pblk_engine.proofs.WorkSince.{placed_still}
use Rattle.pblk_engine.proofs.shared.Shared.program_alone.Goals.{After-unit-unit}
use Rattle.pblk_engine.proofs.shared.Shared.program_alone.Given.{Over}
use Rattle.pblk_engine.proofs.shared.Shared.program_alone.Goals as goal

module _ (g : Over) (c : After-unit-unit g) where
  -- the stripe's unit, as the worker has it still
  on : c.unit-unit.result ≡ c.program_stripe-note.new.worker.stripe.stripe.unit
  on = c.unit-unit.ensures ∙ ap (λ (f : Filling). f.stripe.unit) c.stripe.ensures.stripe
      ∙ ap (λ (w : WorkerView). w.stripe.stripe.unit) c.answer_stripe.ensures.worker

  -- the stripe was placed, or had been stopped
  worked : HasPlacedOn c.unit-unit.result c.args.worker.now.known c.answer_stripe.new.worker.known
  worked =
      let placed = c.place_stripe-note.result.0.known in
      let ended = c.program_stripe-note.result.0.known in
      let last = c.answer_stripe.new.worker.known in
      subst (λ n. HasPlacedOn n c.args.worker.now.known last)
      (sym (on ∙ ap (λ (f : Filling). f.stripe.unit) c.program_stripe-note.ensures.made.stripe))
      (placed_still c.place_stripe-note.new.worker.stripe.stripe.unit c.args.worker.now.known placed last c.place_stripe-note.ensures.worked
      (still_begun placed ended last c.program_stripe-note.ensures.learns c.answer_stripe.ensures.learns))

  told : (how : Ended) → c.program_stripe-note.result.1 ≡ how → HasPumped g.M.Mount.past.image g.M.Mount.handed roles.All c.args.worker.now
      c.answer_stripe.new.worker (answer_of how c.unit-unit.result c.program_stripe-note.result.2)
  told how is = subst (λ (h : Ended). HasPumped g.M.Mount.past.image g.M.Mount.handed roles.All c.args.worker.now c.answer_stripe.new.worker
      (answer_of h c.unit-unit.result c.program_stripe-note.result.2)) is
      (pumped_made g.M.Mount.past.image g.M.Mount.handed c.args.worker.now c.place_stripe-note.new.worker c.program_stripe-note.new.worker
      c.answer_stripe.new.worker c.place_stripe-note.ensures.worker c.program_stripe-note.result.2 c.unit-unit.result c.answer_stripe.ensures.worker
      c.answer_stripe.ensures.keeps on roles.All c.program_stripe-note.result.1 c.program_stripe-note.ensures.made worked)

pub returns-in-Done-clause-pumped : goal.returns-in-Done-clause-pumped
returns-in-Done-clause-pumped g c = told g (goal.at.returns-in-Done-clause-pumped g c).After-unit-unit _ c.in-Done.is

pub returns-in-Failed-clause-pumped : goal.returns-in-Failed-clause-pumped
returns-in-Failed-clause-pumped g c = told g (goal.at.returns-in-Failed-clause-pumped g c).After-unit-unit _ c.in-Failed.is

pub returns-in-Stopped-clause-pumped : goal.returns-in-Stopped-clause-pumped
returns-in-Stopped-clause-pumped g c = told g (goal.at.returns-in-Stopped-clause-pumped g c).After-unit-unit _ c.in-Stopped.is
