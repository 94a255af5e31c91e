use Rattle.std.proofs.Common.{length, refl, sym, subst, ap, ◌∙◌}
use Rattle.pblk_model.specs.declared.shape.Shape.{Shape}
use Rattle.pblk_model.specs.ChunkStep.{Read}
use Rattle.unit_port.specs.Unit.{Takes, TellsBlock}
use Rattle.chronicle.specs.Prefixes.{ArePrefixes}
use Rattle.pblk_engine.specs.Arms.{ArmView, arm_view}
use Rattle.pblk_engine.specs.Deeds.{HasDone}
use Rattle.pblk_engine.proofs.ArmNext as next
use Rattle.pblk_engine.proofs.Fetches.{fetch_allowed, fetch_resets_none, fetched}
use Rattle.pblk_engine.proofs.arm.Arm.fetch_block.Goals as goal

pub fetch-got-requires-clause-size : goal.fetch-got-requires-clause-size
fetch-got-requires-clause-size g c = c.requires.size ∙ sym (ap (λ (s : Shape). s.sector) c.self.invariant.1.unit.arm.shape)

pub fetch-got-requires-clause-taken : goal.fetch-got-requires-clause-taken
fetch-got-requires-clause-taken g c =
    subst (λ (x : ArmView). Takes x.unit c.args.chunk (Read c.args.block)) (sym c.self.view_is) c.requires.taken

pub note_command-requires-clause-allowed : goal.note_command-requires-clause-allowed
note_command-requires-clause-allowed g c =
    let s = c.self.inside in
    fetch_allowed g.M.Mount.chronicle g.M.Mount.past g.M.Mount.handed g.M.Mount.wear s.author s.number (g.U.Unit.model s.unit)
    (g.U.Unit.model c.fetch-got.new.unit) (g.U.Unit.wear s.unit) s.ended c.self.invariant.1 c.args.chunk c.args.block _ c.fetch-got.ensures.given
    c.args.worker.now.number (length c.args.worker.now.made)

pub note_command-requires-clause-no_reset : goal.note_command-requires-clause-no_reset
note_command-requires-clause-no_reset g c =
    let s = c.self.inside in
    fetch_resets_none g.M.Mount.chronicle g.M.Mount.past g.M.Mount.handed g.M.Mount.wear s.author s.number (g.U.Unit.model s.unit)
    (g.U.Unit.model c.fetch-got.new.unit) (g.U.Unit.wear s.unit) s.ended c.self.invariant.1 c.args.chunk c.args.block _ c.fetch-got.ensures.given
    c.args.worker.now.number (length c.args.worker.now.made)

pub invariant_of-self : goal.invariant_of-self
invariant_of-self g c =
    let s = c.self.inside in
    let e = c.note_command.ensures in (
      c.self.invariant.0,
      fetched g.M.Mount.chronicle g.M.Mount.past g.M.Mount.handed g.M.Mount.wear s.author s.number (g.U.Unit.model s.unit)
          (g.U.Unit.model c.fetch-got.new.unit) (g.U.Unit.wear s.unit) s.ended c.self.invariant.1 c.args.chunk c.args.block _ c.fetch-got.ensures.given
          c.args.worker.now.number (length c.args.worker.now.made) c.note_command.new.author e.appended (g.U.Unit.wear c.fetch-got.new.unit)
          c.fetch-got.ensures.wear e.author_legal e.author_begun e.author_noted,
    )

pub returns-clause-done : goal.returns-clause-done
returns-clause-done g c =
    let s = c.self.inside in
    let e = c.note_command.ensures in
    subst (λ (x : ArmView). HasDone x (arm_view s.number c.note_command.new.author.known (g.U.Unit.model c.fetch-got.new.unit)) c.args.worker.now
    c.note_command.new.worker x.known c.args.chunk (Read c.args.block) (TellsBlock c.args.out.now c.fetch-got.new.out c.fetch-got.result)) c.self.view_is
    (next.has_done g.M.Mount.chronicle g.M.Mount.past g.M.Mount.handed g.M.Mount.wear s.author s.number (g.U.Unit.model s.unit)
    (g.U.Unit.model c.fetch-got.new.unit) (g.U.Unit.wear s.unit) c.self.invariant.1.unit c.args.chunk (Read c.args.block) _ c.fetch-got.ensures.given
    c.args.worker.now.number (length c.args.worker.now.made) c.note_command.new.author e.appended s.author.known c.args.worker.now c.note_command.new.worker
    refl refl e.worker e.keeps e.learns)

pub returns-clause-keeps : goal.returns-clause-keeps
returns-clause-keeps g c =
    let s = c.self.inside in
    subst (λ (x : ArmView). ArePrefixes x.known c.note_command.new.author.known) c.self.view_is
    (next.keeps g.M.Mount.chronicle g.M.Mount.past g.M.Mount.handed g.M.Mount.wear s.author s.number (g.U.Unit.model s.unit)
    (g.U.Unit.model c.fetch-got.new.unit) (g.U.Unit.wear s.unit) c.self.invariant.1.unit c.args.chunk (Read c.args.block) _
    c.fetch-got.ensures.given c.args.worker.now.number (length c.args.worker.now.made) c.note_command.new.author c.note_command.ensures.appended)
