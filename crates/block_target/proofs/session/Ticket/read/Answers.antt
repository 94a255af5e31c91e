use Rattle.std.proofs.Common.{◌/◌, ℕ, Err, List, length, refl, subst, ap, ◌∙◌, le_refl}
use Rattle.write_ring.specs.Handles.{pass_view}
use Rattle.chronicle.specs.Prefixes.{ArePrefixes}
use Rattle.pblk_engine.specs.Pumps.{GoesOn}
use Rattle.pblk_engine.specs.Workers.{Made, WorkerView}
use Rattle.block_port.specs.Port.{IsSeen, Learns}
use Rattle.block_port.specs.declared.rows.DriveAnswer.{DriveAnswer}
use Rattle.block_port.specs.declared.port.ReadErr.TheVariants as errs
use Rattle.pblk_engine.specs.Reads.{IsFaultOfRead}
use Rattle.block_target.specs.Causes.{HasCause, TellsRead}
use Rattle.block_target.specs.Sessions.{SessionView, device, session_view}
use Rattle.block_target.proofs.Putting.{went}
use Rattle.block_target.proofs.ReadAnswers.{read_seen, read_small, read_words}
use Rattle.block_target.proofs.SectorCounts.{counted, sector_some}
use Rattle.block_target.proofs.SessionSteps.{IsStep, learns, session_lost, session_seen}
use Rattle.block_target.proofs.session.Ticket.read.Given.{Over}
use Rattle.block_target.proofs.session.Ticket.read.Goals.{After-stands-2}
use Rattle.block_target.proofs.session.Ticket.read.Goals as goal

module _ (g : Over) (c : After-stands-2 g) where
  abbrev was : SessionView
  was = session_view c.self.inside.worker (pass_view c.self.inside.pass) c.self.inside.seen c.self.inside.own c.self.inside.faults c.self.inside.worns

  abbrev then : ℕ → List DriveAnswer → SessionView
  then seen faults = session_view c.read-read.new.worker (pass_view c.self.inside.pass) seen c.self.inside.own faults c.self.inside.worns

  keeps : ArePrefixes c.self.inside.worker.known c.read-read.new.worker.known
  keeps = c.read-read.ensures.read.on.keeps

  step : (more : List Made) → GoesOn c.self.inside.worker c.read-read.new.worker more
      → IsStep g.M.Mount.past c.self.inside.worker c.read-read.new.worker more
  step more on = record { legal = c.stands.ensures.legal; keeps = on.keeps; made = on.made }

  learned : (seen : ℕ) (faults : List DriveAnswer) → Learns (device g.M.Mount.past g.M.Mount.handed g.M.Mount.wear c.args.self.now)
      (device g.M.Mount.past g.M.Mount.handed g.M.Mount.wear (then seen faults))
  learned seen faults =
      subst (λ (s : SessionView). Learns (device g.M.Mount.past g.M.Mount.handed g.M.Mount.wear s)
      (device g.M.Mount.past g.M.Mount.handed g.M.Mount.wear (then seen faults))) c.self.view_is
      (learns g.M.Mount.past g.M.Mount.key g.M.Mount.handed g.M.Mount.wear c.stands.ensures.mounted was (then seen faults)
      c.stands-2.ensures.legal c.stands.ensures.begun keeps)

pub invariant_of-self : goal.invariant_of-self
invariant_of-self g c =
    let d = (goal.at.invariant_of-self g c).After-stands-2 in
    let read = c.in-Ok.ensures.read in (
      c.self.invariant.0,
      session_seen g.M.Mount.past g.M.Mount.handed c.self.inside.written (was g d) (then g d c.in-Ok.front.position c.self.inside.faults) read.more
          c.self.invariant.1 (step g d read.more read.on) read.tells.0 refl refl refl refl read.tells.1.seen_then
          (read_small g.M.Mount.past g.M.Mount.key g.M.Mount.handed g.M.Mount.wear c.stands.ensures.mounted c.self.inside.worker.known
          c.read-read.new.worker.known c.self.inside.seen c.args.lba c.read-read.new.out c.in-Ok.front read.tells.1 c.self.invariant.0.first)
          (le_refl _),
    )

pub returns-in-Ok-clause-front : goal.returns-in-Ok-clause-front
returns-in-Ok-clause-front g c =
    let d = (goal.at.returns-in-Ok-clause-front g c).After-stands-2 in
    let now = then g d c.in-Ok.front.position c.self.inside.faults in
    subst (λ (s : SessionView). IsSeen c.in-Ok.front (device g.M.Mount.past g.M.Mount.handed g.M.Mount.wear s)
    (device g.M.Mount.past g.M.Mount.handed g.M.Mount.wear now)) c.self.view_is
    (read_seen g.M.Mount.past g.M.Mount.key g.M.Mount.handed g.M.Mount.wear c.stands.ensures.mounted (was g d) now c.args.lba c.read-read.new.out
    c.in-Ok.front c.stands-2.ensures.legal c.in-Ok.ensures.read.tells.1 refl)

pub returns-in-Ok-clause-words : goal.returns-in-Ok-clause-words
returns-in-Ok-clause-words g c =
    let d = (goal.at.returns-in-Ok-clause-words g c).After-stands-2 in
    let shape = g.M.Mount.past.image.shape in
    let accepted = c.stands.ensures.mounted.accepted in
    read_words g.M.Mount.past g.M.Mount.key g.M.Mount.handed g.M.Mount.wear c.stands.ensures.mounted (was g d)
    (then g d c.in-Ok.front.position c.self.inside.faults) c.args.lba (length c.args.out.now / shape.sector) c.read-read.new.out
    c.in-Ok.front c.stands-2.ensures.legal c.in-Ok.ensures.read.tells.1 (sector_some shape accepted)
    (c.read-read.ensures.size ∙ (counted shape shape.sector (length c.args.out.now) accepted refl c.requires.sectors).whole)

pub returns-in-Ok-clause-learns : goal.returns-in-Ok-clause-learns
returns-in-Ok-clause-learns g c = learned g (goal.at.returns-in-Ok-clause-learns g c).After-stands-2 _ _

pub returns-in-Err-clause-learns : goal.returns-in-Err-clause-learns
returns-in-Err-clause-learns g c = learned g (goal.at.returns-in-Err-clause-learns g c).After-stands-2 _ _

pub invariant_of-self-in-Err : goal.invariant_of-self-in-Err
invariant_of-self-in-Err g c =
    let d = (goal.at.invariant_of-self-in-Err g c).After-stands-2 in
    let read = c.in-Err.ensures.read in (
      c.self.invariant.0,
      session_lost g.M.Mount.past g.M.Mount.handed c.self.inside.written (was g d) (then g d c.self.inside.seen _) read.more c.in-Err.field-0
          c.self.invariant.1 (step g d read.more read.on) read.tells.lost.fault refl refl c.add.ensures refl refl (le_refl _),
    )

pub returns-in-Err-clause-cause : goal.returns-in-Err-clause-cause
returns-in-Err-clause-cause g c =
    let read = c.in-Err.ensures.read in
    let e = c.in-Err.field-0 in
    subst (λ (w : WorkerView). HasCause w c.read-read.new.worker (λ more. TellsRead g.M.Mount.past g.M.Mount.handed c.args.lba (length c.args.out.now)
    w c.read-read.new.worker more (Err (errs.Drive e.unit e.event)))) (ap (λ (s : SessionView). s.worker) c.self.view_is)
    (record {
      more = read.more;
      on = went c.self.inside.worker c.read-read.new.worker read.more read.on;
      tells = subst (λ n. IsFaultOfRead g.M.Mount.past g.M.Mount.handed c.args.lba n c.self.inside.worker.known c.read-read.new.worker.known read.more e)
          c.read-read.ensures.size read.tells;
    })
