use Rattle.std.proofs.Common.{◌≡◌, inr, ℕ, suc, true, Bool, List, length, sym, subst, ap, ◌∙◌}
use Rattle.std.specs.Prelude.{Result, Ok, Some, slice_get}
use Rattle.pblk_model.specs.ChunkStep.{Read}
use Rattle.pblk_model.specs.UnitLog.{UnitOutcome}
use Rattle.unit_port.specs.Unit.{TellsBlock}
use Rattle.step_laws.specs.LookedUp.{IsLookedUp, IsMarkedBlock}
use Rattle.chronicle.specs.Prefixes.{Prefixes, logs_of, longer_of, ArePrefixes}
use Rattle.chronicle.proofs.Rests.{still_begun}
use Rattle.pblk_engine.specs.Arms.{ArmView, number_told}
use Rattle.pblk_engine.specs.Deeds.{HasDone}
use Rattle.pblk_engine.specs.Fetches.{TellsMarked}
use Rattle.pblk_engine.specs.Looks.{latest_by}
use Rattle.pblk_engine.specs.Workers.{WorkerView}
use Rattle.pblk_engine.proofs.Accepted.{accepted}
use Rattle.pblk_engine.proofs.Sought.{done_as, gave_block, marked_there, marked_told, number_then, one_more, was_refused}
use Rattle.pblk_engine.proofs.arm.Arm.fetch_marked.Given.{Over}
use Rattle.pblk_engine.proofs.arm.Arm.fetch_marked.Goals.{After-fetch_block}
use Rattle.pblk_engine.proofs.arm.Arm.fetch_marked.Goals as goal

module _ (g : Over) (c : After-fetch_block g) where
  abbrev old : ArmView
  old = c.args.self.now

  abbrev met : ArmView
  met = c.meet.new.self

  abbrev new : ArmView
  new = c.fetch_block.new.self

  abbrev was : WorkerView
  was = c.args.worker.now

  -- what the arm knew as it made the fetch
  abbrev before : Prefixes
  before = longer_of old.known was.known

  abbrev tells : UnitOutcome → Type 0
  tells = TellsBlock c.args.out.now c.fetch_block.new.out c.fetch_block.result

  -- the fetch's number in the unit's log
  abbrev told_then : ℕ
  told_then = number_told g.M.Mount.handed old.number (length (logs_of before (suc old.number)))

  met_is : met ≡ record old { known = before }
  met_is = c.meet.ensures.met ∙ ap (λ (k : Prefixes). record old { known = longer_of old.known k }) c.note-note.ensures.known

  learns_met : ArePrefixes was.known met.known
  learns_met = subst (λ (k : Prefixes). ArePrefixes k met.known) c.note-note.ensures.known c.meet.ensures.learns

  done : HasDone met new was c.fetch_block.new.worker met.known c.args.sought.line (Read c.args.sought.block) tells
  done = subst (λ (w : WorkerView). HasDone met new w c.fetch_block.new.worker met.known c.args.sought.line (Read c.args.sought.block) tells)
      c.note-note.ensures.same c.fetch_block.ensures.done

  done_so : (told : UnitOutcome → Type 0) → ((o : UnitOutcome) → tells o → told o)
      → HasDone old new was c.fetch_block.new.worker before c.args.sought.line (Read c.args.sought.block) told
  done_so told more = done_as old met new was c.fetch_block.new.worker before c.args.sought.line (Read c.args.sought.block) tells told met_is done more

  longer : suc (length (logs_of met.known (suc met.number))) ≡ length (logs_of new.known (suc met.number))
  longer = one_more g.M.Mount.past g.M.Mount.key g.M.Mount.handed g.M.Mount.wear met c.meet.ensures.is_arm new was c.fetch_block.new.worker c.args.sought.line
      (Read c.args.sought.block) tells done

  keeps_all : ArePrefixes old.known new.known
  keeps_all = still_begun old.known met.known new.known c.meet.ensures.keeps c.fetch_block.ensures.keeps

  learns_all : ArePrefixes was.known new.known
  learns_all = still_begun was.known met.known new.known learns_met c.fetch_block.ensures.keeps

pub returns-in-Ok-Sector-clause-done : goal.returns-in-Ok-Sector-clause-done
returns-in-Ok-Sector-clause-done g c =
    let d = (goal.at.returns-in-Ok-Sector-clause-done g c).After-fetch_block in
    inr (done_so g d _ (λ o told. marked_told g.M.Mount.past.image.shape c.args.sought.lba c.args.sought.position
    (told_then g d) c.fetch_block.new.out c.in-Ok-Sector.mark
    c.is_of.result c.requires.lba c.is_of.ensures o
    (gave_block c.args.out.now c.fetch_block.new.out o c.fetch_block.result c.in-Ok-Sector.field-0 c.in-Ok-Sector.mark c.in-Ok-Sector.is
    c.in-Ok-Sector.field-0-is told)))

pub returns-in-Ok-Sector-clause-accepted : goal.returns-in-Ok-Sector-clause-accepted
returns-in-Ok-Sector-clause-accepted g c = λ ok looked at legal begun more look.
    let d = (goal.at.returns-in-Ok-Sector-clause-accepted g c).After-fetch_block in
    let done = done g d in
    let it = c.args.sought in
    let past = g.M.Mount.past in
    let here = c.meet.ensures.is_arm in
    let told : TellsMarked past.image.shape it.lba it.position 0 c.fetch_block.new.out (Ok true) done.outcome =
    subst (λ (r : Result Bool ℕ). TellsMarked past.image.shape it.lba it.position 0 c.fetch_block.new.out r done.outcome) ok
    (marked_told past.image.shape it.lba it.position 0 c.fetch_block.new.out c.in-Ok-Sector.mark c.is_of.result c.requires.lba c.is_of.ensures done.outcome
    (gave_block c.args.out.now c.fetch_block.new.out done.outcome c.fetch_block.result c.in-Ok-Sector.field-0 c.in-Ok-Sector.mark c.in-Ok-Sector.is
    c.in-Ok-Sector.field-0-is done.told)) in
    let there : IsMarkedBlock past.image (logs_of (met g d).known) it.lba it.line it.position (met g d).number it.block told.0 =
    marked_there past g.M.Mount.key g.M.Mount.handed g.M.Mount.wear (met g d) here (new g d) (was g d) c.fetch_block.new.worker it.line it.block (tells g d)
    done it.lba it.position told.0 told.1 told.2 in
    let its_look : IsLookedUp past.image (logs_of looked) it.lba it.line at it.position (met g d).number it.block =
    subst (λ n. IsLookedUp past.image (logs_of looked) it.lba it.line at it.position n it.block) (sym (ap (λ (x : ArmView). x.number) (met_is g d))) look in
    subst (λ (bytes : List ℕ). slice_get (latest_by past.image (logs_of looked)) it.lba ≡ Some bytes) (sym told.3)
    (accepted past g.M.Mount.key g.M.Mount.handed g.M.Mount.wear looked (met g d).known here.mounted legal here.legal begun
    (still_begun looked c.args.worker.now.known (met g d).known more (learns_met g d)) it.lba it.line at it.position
    (met g d).number it.block its_look told.0 there)

pub returns-in-Ok-Sector-clause-keeps : goal.returns-in-Ok-Sector-clause-keeps
returns-in-Ok-Sector-clause-keeps g c = keeps_all g (goal.at.returns-in-Ok-Sector-clause-keeps g c).After-fetch_block

pub returns-in-Ok-Sector-clause-learns : goal.returns-in-Ok-Sector-clause-learns
returns-in-Ok-Sector-clause-learns g c = learns_all g (goal.at.returns-in-Ok-Sector-clause-learns g c).After-fetch_block

pub returns-in-Ok-Empty-clause-keeps : goal.returns-in-Ok-Empty-clause-keeps
returns-in-Ok-Empty-clause-keeps g c = keeps_all g (goal.at.returns-in-Ok-Empty-clause-keeps g c).After-fetch_block

pub returns-in-Ok-Empty-clause-learns : goal.returns-in-Ok-Empty-clause-learns
returns-in-Ok-Empty-clause-learns g c = learns_all g (goal.at.returns-in-Ok-Empty-clause-learns g c).After-fetch_block

pub returns-in-Err-clause-done : goal.returns-in-Err-clause-done
returns-in-Err-clause-done g c =
    let d = (goal.at.returns-in-Err-clause-done g c).After-fetch_block in
    inr (done_so g d _ (λ o told. (
      was_refused c.args.out.now c.fetch_block.new.out o c.fetch_block.result c.in-Err.field-0 c.in-Err.is told,
      number_then g.M.Mount.handed (old g d) (met g d) (new g d) (before g d) c.events.result (met_is g d) c.fetch_block.ensures.number (longer g d)
          c.events.ensures.told,
    )))

pub returns-in-Err-clause-keeps : goal.returns-in-Err-clause-keeps
returns-in-Err-clause-keeps g c = keeps_all g (goal.at.returns-in-Err-clause-keeps g c).After-fetch_block

pub returns-in-Err-clause-learns : goal.returns-in-Err-clause-learns
returns-in-Err-clause-learns g c = learns_all g (goal.at.returns-in-Err-clause-learns g c).After-fetch_block
