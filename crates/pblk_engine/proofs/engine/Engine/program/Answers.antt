use Rattle.std.proofs.Common.{◌≡◌, List, ◌++◌, sym, subst, ap, ◌∙◌}
use Rattle.pblk_core.specs.Filling.{Filling}
use Rattle.chronicle.proofs.Rests.{still_begun}
use Rattle.pblk_engine.specs.Pumps.{AreOfRole, HasPumped}
use Rattle.pblk_engine.specs.WorkSince.{HasPlacedOn}
use Rattle.pblk_engine.specs.Workers.{Made, WorkerView}
use Rattle.pblk_engine.specs.declared.commands.Ended.{Ended}
use Rattle.pblk_engine.specs.declared.outcomes.Role.{Role}
use Rattle.pblk_engine.specs.declared.outcomes.Role.TheVariants as roles
use Rattle.pblk_engine.proofs.MadePrograms.{answer_of, lane_made, pumped_made}
use Rattle.pblk_engine.proofs.WorkSince.{placed_still}
use Rattle.pblk_engine.proofs.engine.Engine.program.Goals.{After-unit-unit}
use Rattle.pblk_engine.proofs.engine.Engine.program.Given.{Over}
use Rattle.pblk_engine.proofs.engine.Engine.program.Goals as goal

module _ (g : Over) (c : After-unit-unit g) where
  -- the stripe's unit, as the worker has it still
  on : c.unit-unit.result ≡ c.program_stripe-note.new.worker.stripe.stripe.unit
  on = c.unit-unit.ensures ∙ ap (λ (f : Filling). f.stripe.unit) c.stripe.ensures.stripe
      ∙ ap (λ (w : WorkerView). w.stripe.stripe.unit) c.answer_program.ensures.worker

  -- the stripe was placed, or had been stopped
  worked : HasPlacedOn c.unit-unit.result c.args.worker.now.known c.answer_program.new.worker.known
  worked =
      let placed = c.place_stripe-note.result.0.known in
      let ended = c.program_stripe-note.result.0.known in
      let unit = c.place_stripe-note.new.worker.stripe.stripe.unit in
      subst (λ n. HasPlacedOn n c.args.worker.now.known c.answer_program.new.worker.known)
      (sym (on ∙ ap (λ (f : Filling). f.stripe.unit) c.program_stripe-note.ensures.made.stripe))
      (placed_still unit c.args.worker.now.known placed c.answer_program.new.worker.known c.place_stripe-note.ensures.worked
      (still_begun placed ended c.answer_program.new.worker.known c.program_stripe-note.ensures.learns c.answer_program.ensures.learns))

  answered : (role : Role) → HasPumped g.M.Mount.past.image g.M.Mount.handed role c.args.worker.now c.answer_program.new.worker
      (answer_of c.program_stripe-note.result.1 c.unit-unit.result c.program_stripe-note.result.2)
  answered role = pumped_made g.M.Mount.past.image g.M.Mount.handed c.args.worker.now c.place_stripe-note.new.worker c.program_stripe-note.new.worker
      c.answer_program.new.worker c.place_stripe-note.ensures.worker c.program_stripe-note.result.2 c.unit-unit.result c.answer_program.ensures.worker
      c.answer_program.ensures.keeps on role c.program_stripe-note.result.1 c.program_stripe-note.ensures.made worked

  told : (how : Ended) → c.program_stripe-note.result.1 ≡ how → (role : Role)
      → HasPumped g.M.Mount.past.image g.M.Mount.handed role c.args.worker.now c.answer_program.new.worker
      (answer_of how c.unit-unit.result c.program_stripe-note.result.2)
  told how is role = subst (λ (h : Ended). HasPumped g.M.Mount.past.image g.M.Mount.handed role c.args.worker.now c.answer_program.new.worker
      (answer_of h c.unit-unit.result c.program_stripe-note.result.2)) is (answered role)

  -- and its command is a program
  made : (more : List Made) → c.answer_program.new.worker.made ≡ c.args.worker.now.made ++ more → AreOfRole roles.Lane more
  made = lane_made g.M.Mount.past.image g.M.Mount.handed c.args.worker.now c.place_stripe-note.new.worker c.program_stripe-note.new.worker
      c.answer_program.new.worker c.place_stripe-note.ensures.worker c.program_stripe-note.result.2 c.unit-unit.result c.answer_program.ensures.worker
      c.answer_program.ensures.keeps on c.program_stripe-note.result.1 c.program_stripe-note.ensures.made

pub returns-in-Done-clause-pumped : goal.returns-in-Done-clause-pumped
returns-in-Done-clause-pumped g c = told g (goal.at.returns-in-Done-clause-pumped g c).After-unit-unit _ c.in-Done.is

pub returns-in-Failed-clause-pumped : goal.returns-in-Failed-clause-pumped
returns-in-Failed-clause-pumped g c = told g (goal.at.returns-in-Failed-clause-pumped g c).After-unit-unit _ c.in-Failed.is

pub returns-in-Stopped-clause-pumped : goal.returns-in-Stopped-clause-pumped
returns-in-Stopped-clause-pumped g c = told g (goal.at.returns-in-Stopped-clause-pumped g c).After-unit-unit _ c.in-Stopped.is

pub returns-in-Done-clause-made : goal.returns-in-Done-clause-made
returns-in-Done-clause-made g c = made g (goal.at.returns-in-Done-clause-made g c).After-unit-unit

pub returns-in-Failed-clause-made : goal.returns-in-Failed-clause-made
returns-in-Failed-clause-made g c = made g (goal.at.returns-in-Failed-clause-made g c).After-unit-unit

pub returns-in-Stopped-clause-made : goal.returns-in-Stopped-clause-made
returns-in-Stopped-clause-made g c = made g (goal.at.returns-in-Stopped-clause-made g c).After-unit-unit
