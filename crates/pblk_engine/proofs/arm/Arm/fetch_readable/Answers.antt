use Rattle.std.proofs.Common.{◌≡◌, suc, length, sym, subst, ap, ◌∙◌}
use Rattle.pblk_model.specs.ChunkStep.{Read}
use Rattle.pblk_model.specs.UnitLog.{UnitOutcome}
use Rattle.unit_port.specs.Unit.{TellsBlock}
use Rattle.chronicle.specs.Prefixes.{ArePrefixes, Prefixes, logs_of, longer_of}
use Rattle.chronicle.proofs.Rests.{still_begun}
use Rattle.pblk_engine.specs.Arms.{ArmView}
use Rattle.pblk_engine.specs.Fetches.{IsReadableAt}
use Rattle.pblk_engine.proofs.Fetches.{takes_readable}
use Rattle.pblk_engine.proofs.Sought.{cause_told, done_as, number_then, one_more}
use Rattle.pblk_engine.proofs.arm.Arm.fetch_readable.Given.{Over}
use Rattle.pblk_engine.proofs.arm.Arm.fetch_readable.Goals.{After-fetch_block}
use Rattle.pblk_engine.proofs.arm.Arm.fetch_readable.Goals as goal

module _ (g : Over) (c : After-fetch_block g) where
  keeps_all : ArePrefixes c.args.self.now.known c.fetch_block.new.self.known
  keeps_all = still_begun c.args.self.now.known c.meet.new.self.known c.fetch_block.new.self.known c.meet.ensures.keeps c.fetch_block.ensures.keeps

  learns_all : ArePrefixes c.args.note.known c.fetch_block.new.self.known
  learns_all = still_begun c.args.note.known c.meet.new.self.known c.fetch_block.new.self.known c.meet.ensures.learns c.fetch_block.ensures.keeps

pub returns-in-Ok-Sector-clause-keeps : goal.returns-in-Ok-Sector-clause-keeps
returns-in-Ok-Sector-clause-keeps g c = keeps_all g (goal.at.returns-in-Ok-Sector-clause-keeps g c).After-fetch_block

pub returns-in-Ok-Sector-clause-learns : goal.returns-in-Ok-Sector-clause-learns
returns-in-Ok-Sector-clause-learns g c = learns_all g (goal.at.returns-in-Ok-Sector-clause-learns g c).After-fetch_block

pub returns-in-Err-clause-done : goal.returns-in-Err-clause-done
returns-in-Err-clause-done g c =
    let old : ArmView = c.args.self.now in
    let met : ArmView = c.meet.new.self in
    let before : Prefixes = longer_of old.known c.args.note.known in
    let tells : UnitOutcome → Type 0 = TellsBlock c.args.out.now c.fetch_block.new.out c.fetch_block.result in
    let longer : suc (length (logs_of met.known (suc met.number))) ≡ length (logs_of c.fetch_block.new.self.known (suc met.number)) =
    one_more g.M.Mount.past g.M.Mount.key g.M.Mount.handed g.M.Mount.wear met c.meet.ensures.is_arm c.fetch_block.new.self c.args.worker.now
    c.fetch_block.new.worker c.args.line (Read c.args.block) tells c.fetch_block.ensures.done in
    done_as old met c.fetch_block.new.self c.args.worker.now c.fetch_block.new.worker before c.args.line (Read c.args.block) tells _ c.meet.ensures.met
    c.fetch_block.ensures.done (λ o told. (
      cause_told c.args.out.now c.fetch_block.new.out o c.fetch_block.result c.in-Err.cause c.in-Err.is told,
      ap (λ (a : ArmView). a.number) c.self.view_is ∙ c.fetch_block.ensures.number ∙ ap (λ (a : ArmView). a.number) c.meet.ensures.met,
      number_then g.M.Mount.handed old met c.fetch_block.new.self before c.events.result c.meet.ensures.met c.fetch_block.ensures.number longer
          c.events.ensures.told,
    ))

pub returns-in-Err-clause-keeps : goal.returns-in-Err-clause-keeps
returns-in-Err-clause-keeps g c = keeps_all g (goal.at.returns-in-Err-clause-keeps g c).After-fetch_block

pub returns-in-Err-clause-learns : goal.returns-in-Err-clause-learns
returns-in-Err-clause-learns g c = learns_all g (goal.at.returns-in-Err-clause-learns g c).After-fetch_block

pub fetch_block-requires-clause-told : goal.fetch_block-requires-clause-told
fetch_block-requires-clause-told g c =
    still_begun c.args.worker.now.known c.args.note.known c.meet.new.self.known c.requires.told c.meet.ensures.learns

pub fetch_block-requires-clause-taken : goal.fetch_block-requires-clause-taken
fetch_block-requires-clause-taken g c =
    let met = c.meet.new.self in
    let here = c.meet.ensures.is_arm in
    takes_readable g.M.Mount.past.image (logs_of met.known) met.number c.args.line c.args.block here.before met.unit here.arm
    (subst (λ (x : ArmView). IsReadableAt g.M.Mount.past.image (logs_of x.known) x.number c.args.line c.args.block)
    (sym c.meet.ensures.met) c.requires.readable)
