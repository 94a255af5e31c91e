use Rattle.std.proofs.Common.{◌≡◌, [], None, length, refl, sym, subst, ap, ◌∙◌}
use Rattle.pblk_world.specs.Legal.{IsAllowed}
use Rattle.pblk_world.specs.World.{Logs}
use Rattle.pblk_core.specs.Resets.{IsToReset}
use Rattle.unit_port.specs.Unit.{TellsDone}
use Rattle.chronicle.specs.Views.{Past}
use Rattle.chronicle.specs.Handles.{AuthorView}
use Rattle.chronicle.specs.Prefixes.{logs_of, longer_of, ArePrefixes}
use Rattle.chronicle.proofs.Rests.{still_begun}
use Rattle.pblk_engine.specs.Arms.{ArmView, IsArmOf, arm_view, last_done, last_event}
use Rattle.pblk_engine.specs.Resets.{IsLastOf, IsResettingOf, WasReset}
use Rattle.pblk_engine.proofs.Lent as lent
use Rattle.pblk_engine.proofs.Meetings.{arm_met, unit_note}
use Rattle.pblk_engine.proofs.Resets as resets
use Rattle.pblk_engine.proofs.arm.Arm.reset.Given.{Over}
use Rattle.pblk_engine.proofs.arm.Arm.reset.Goals.{After-meet}
use Rattle.pblk_engine.proofs.arm.Arm.reset.Goals as goal

-- ---- the arm that met the note

module _ (g : Over) (c : After-meet g) where
  abbrev a : AuthorView
  a = c.meet.new.self

  met : IsArmOf g.M.Mount.chronicle g.M.Mount.past g.M.Mount.handed g.M.Mount.wear a c.self.inside.number (g.U.Unit.model c.self.inside.unit)
      (g.U.Unit.wear c.self.inside.unit) c.self.inside.ended
  met =
      let s = c.self.inside in
      let e = c.meet.ensures in
      arm_met g.M.Mount.chronicle g.M.Mount.past g.M.Mount.handed g.M.Mount.wear s.number (g.U.Unit.model s.unit) (g.U.Unit.wear s.unit) s.author a
      c.args.note.known s.ended c.self.invariant.1 c.requires.note.noted e.met e.own e.keeps e.learns e.legal e.begun

  known_is : a.known ≡ longer_of c.self.inside.author.known c.args.note.known
  known_is = ap (λ (x : AuthorView). x.known) c.meet.ensures.met

  less : ArePrefixes c.self.inside.author.known c.args.note.known
  less = subst (λ (x : ArmView). ArePrefixes x.known c.args.note.known) (sym c.self.view_is) c.requires.told

  given_up : IsToReset g.M.Mount.past.image (logs_of a.known) c.args.line c.self.inside.number
  given_up =
      subst (λ (l : Logs). IsToReset g.M.Mount.past.image l c.args.line c.self.inside.number)
      (sym (ap logs_of known_is ∙ resets.same_logs c.self.inside.author.known c.args.note.known less))
      (subst (λ (x : ArmView). IsToReset g.M.Mount.past.image (logs_of c.args.note.known) c.args.line x.number) (sym c.self.view_is) c.requires.given_up)

  -- the worker knows no more
  token_less : ArePrefixes c.args.token.now.known a.known
  token_less = still_begun c.args.token.now.known c.args.note.known a.known c.requires.token_told c.meet.ensures.learns

pub reset-answer-requires : goal.reset-answer-requires
reset-answer-requires g c =
    let d = (goal.at.reset-answer-requires g c).After-meet in
    let s = c.self.inside in
    record {
      taken = resets.taken g.M.Mount.chronicle g.M.Mount.past g.M.Mount.key g.M.Mount.handed g.M.Mount.wear c.self.invariant.0 (a g d) s.number
          (g.U.Unit.model s.unit) (g.U.Unit.wear s.unit) s.ended (met g d) c.args.line (given_up g d);
    }

-- ---- as it takes over the right to number the worker's commands

pub append-requires-clause-allowed : goal.append-requires-clause-allowed
append-requires-clause-allowed g c =
    let d = (goal.at.append-requires-clause-allowed g c).After-meet in
    let s = c.self.inside in
    let r = c.requires in
    let its = met g d in
    let event = last_done (g.U.Unit.model c.reset-answer.new.unit) c.args.worker (length c.args.made.now) in
    subst (λ (x : AuthorView). IsAllowed x.past.image x.number event (logs_of x.known))
    (sym (lent.over_is g.M.Mount.past.image (a g d) c.take_over.new.self c.args.token.now c.lend-lent.result c.args.worker
    (length c.args.made.now) its.unit.legal
    r.token.legal (token_less g d) its.makers its.spare r.makers r.spare c.lend-lent.ensures.lent c.take_over.ensures.met))
    (subst (λ (p : Past). IsAllowed p.image (a g d).number event (logs_of (a g d).known)) (sym its.unit.over)
    (subst (λ n. IsAllowed g.M.Mount.past.image n event (logs_of (a g d).known)) (sym its.unit.numbered)
    (resets.reset_allowed g.M.Mount.chronicle g.M.Mount.past g.M.Mount.key g.M.Mount.handed g.M.Mount.wear c.self.invariant.0 (a g d) s.number
    (g.U.Unit.model s.unit) (g.U.Unit.wear s.unit) s.ended its c.args.line (given_up g d) (g.U.Unit.model c.reset-answer.new.unit)
    (TellsDone c.reset-answer.result) c.reset-answer.ensures.given c.args.worker (length c.args.made.now))))

pub append-requires-clause-next : goal.append-requires-clause-next
append-requires-clause-next g c =
    let d = (goal.at.append-requires-clause-next g c).After-meet in
    let r = c.requires in
    let its = met g d in
    lent.may_make g.M.Mount.past.image (a g d) c.take_over.new.self c.args.token.now c.lend-lent.result c.args.worker (length c.args.made.now) its.unit.legal
    r.token.legal (token_less g d) its.makers its.spare r.makers r.spare c.lend-lent.ensures.lent c.take_over.ensures.met

-- ---- once it is noted

pub invariant_of-unit : goal.invariant_of-unit
invariant_of-unit g c =
    let d = (goal.at.invariant_of-unit g c).After-meet in
    let s = c.self.inside in
    let r = c.requires in
    let its = met g d in
    let new = g.U.Unit.model c.reset-answer.new.unit in
    let appended = lent.noted_event g.M.Mount.past.image (a g d) c.take_over.new.self c.args.token.now c.lend-lent.result c.args.worker (length c.args.made.now)
    its.unit.legal r.token.legal (token_less g d) its.makers its.spare r.makers r.spare c.lend-lent.ensures.lent c.take_over.ensures.met c.append.new.self
    (last_event new) c.append.ensures.appended in
    let makers = lent.makes_next g.M.Mount.past.image (a g d) c.take_over.new.self c.args.token.now c.lend-lent.result c.args.worker (length c.args.made.now)
    its.unit.legal r.token.legal (token_less g d) its.makers its.spare r.makers r.spare c.lend-lent.ensures.lent c.take_over.ensures.met c.append.new.self
    (last_event new) c.append.ensures.appended in
    let spare = lent.names_none_next g.M.Mount.past.image (a g d) c.take_over.new.self c.args.token.now c.lend-lent.result c.args.worker
    (length c.args.made.now)
    its.unit.legal r.token.legal (token_less g d) its.makers its.spare r.makers r.spare c.lend-lent.ensures.lent c.take_over.ensures.met c.append.new.self
    (last_event new) c.append.ensures.appended in (
      c.self.invariant.0,
      subst (λ (x : AuthorView). IsResettingOf g.M.Mount.chronicle g.M.Mount.past g.M.Mount.handed g.M.Mount.wear x s.number new
          (g.U.Unit.wear c.reset-answer.new.unit) s.ended) (sym c.note-note.ensures.same)
          (resets.reset_of g.M.Mount.chronicle g.M.Mount.past g.M.Mount.key g.M.Mount.handed g.M.Mount.wear c.self.invariant.0 (a g d) s.number
          (g.U.Unit.model s.unit) (g.U.Unit.wear s.unit) s.ended its c.args.line
          (given_up g d) new c.reset-answer.result c.reset-answer.ensures.given c.args.worker
          (length c.args.made.now) (record c.append.new.self { makers = []; spare = None }) appended c.append.new.self refl makers spare
          (g.U.Unit.wear c.reset-answer.new.unit) c.reset-answer.ensures.wear c.append.ensures.legal c.append.ensures.begun),
    )

pub returns-clause-reset : goal.returns-clause-reset
returns-clause-reset g c =
    let d = (goal.at.returns-clause-reset g c).After-meet in
    let s = c.self.inside in
    let r = c.requires in
    let its = met g d in
    let new = g.U.Unit.model c.reset-answer.new.unit in
    let appended = lent.noted_event g.M.Mount.past.image (a g d) c.take_over.new.self c.args.token.now c.lend-lent.result c.args.worker (length c.args.made.now)
    its.unit.legal r.token.legal (token_less g d) its.makers its.spare r.makers r.spare c.lend-lent.ensures.lent c.take_over.ensures.met c.append.new.self
    (last_event new) c.append.ensures.appended in
    subst (λ (x : ArmView). WasReset x (arm_view s.number c.note-note.new.self.known new) c.args.worker (length c.args.made.now)
    (longer_of x.known c.args.note.known) c.args.line c.reset-answer.result) c.self.view_is
    (subst (λ (x : AuthorView). WasReset (arm_view s.number s.author.known (g.U.Unit.model s.unit)) (arm_view s.number x.known new) c.args.worker
    (length c.args.made.now) (longer_of s.author.known c.args.note.known) c.args.line c.reset-answer.result) (sym c.note-note.ensures.same)
    (resets.done_reset g.M.Mount.chronicle g.M.Mount.past g.M.Mount.key g.M.Mount.handed g.M.Mount.wear c.self.invariant.0 (a g d) s.number
    (g.U.Unit.model s.unit) (g.U.Unit.wear s.unit) s.ended its c.args.line (given_up g d) new c.reset-answer.result c.reset-answer.ensures.given c.args.worker
    (length c.args.made.now) (record c.append.new.self { makers = []; spare = None }) appended
    s.author.known (longer_of s.author.known c.args.note.known) (known_is g d)))

pub returns-clause-last : goal.returns-clause-last
returns-clause-last g c =
    let d = (goal.at.returns-clause-last g c).After-meet in
    let s = c.self.inside in
    let r = c.requires in
    let its = met g d in
    let new = g.U.Unit.model c.reset-answer.new.unit in
    let appended = lent.noted_event g.M.Mount.past.image (a g d) c.take_over.new.self c.args.token.now c.lend-lent.result c.args.worker (length c.args.made.now)
    its.unit.legal r.token.legal (token_less g d) its.makers its.spare r.makers r.spare c.lend-lent.ensures.lent c.take_over.ensures.met c.append.new.self
    (last_event new) c.append.ensures.appended in
    subst (λ (x : AuthorView). IsLastOf x.known s.number new c.args.worker (length c.args.made.now)) (sym c.note-note.ensures.same)
    (resets.last_of g.M.Mount.chronicle g.M.Mount.past g.M.Mount.key g.M.Mount.handed g.M.Mount.wear c.self.invariant.0 (a g d) s.number
    (g.U.Unit.model s.unit) (g.U.Unit.wear s.unit) s.ended its c.args.line (given_up g d) new c.reset-answer.result c.reset-answer.ensures.given c.args.worker
    (length c.args.made.now) (record c.append.new.self { makers = []; spare = None }) appended)

pub returns-clause-keeps : goal.returns-clause-keeps
returns-clause-keeps g c =
    let d = (goal.at.returns-clause-keeps g c).After-meet in
    let s = c.self.inside in
    let r = c.requires in
    let its = met g d in
    let new = g.U.Unit.model c.reset-answer.new.unit in
    let appended = lent.noted_event g.M.Mount.past.image (a g d) c.take_over.new.self c.args.token.now c.lend-lent.result c.args.worker (length c.args.made.now)
    its.unit.legal r.token.legal (token_less g d) its.makers its.spare r.makers r.spare c.lend-lent.ensures.lent c.take_over.ensures.met c.append.new.self
    (last_event new) c.append.ensures.appended in
    subst (λ (x : AuthorView). ArePrefixes c.args.note.known x.known) (sym c.note-note.ensures.same)
    (still_begun c.args.note.known (a g d).known c.append.new.self.known c.meet.ensures.learns
    (resets.more_known g.M.Mount.chronicle g.M.Mount.past g.M.Mount.key g.M.Mount.handed g.M.Mount.wear c.self.invariant.0 (a g d) s.number
    (g.U.Unit.model s.unit) (g.U.Unit.wear s.unit) s.ended its c.args.line (given_up g d) new c.reset-answer.result c.reset-answer.ensures.given c.args.worker
    (length c.args.made.now) (record c.append.new.self { makers = []; spare = None }) appended))

pub returns-clause-note_stopped : goal.returns-clause-note_stopped
returns-clause-note_stopped g c = λ stopped.
    let d = (goal.at.returns-clause-note_stopped g c).After-meet in
    let s = c.self.inside in
    let r = c.requires in
    let its = met g d in
    let new = g.U.Unit.model c.reset-answer.new.unit in
    let appended = lent.noted_event g.M.Mount.past.image (a g d) c.take_over.new.self c.args.token.now c.lend-lent.result c.args.worker (length c.args.made.now)
    its.unit.legal r.token.legal (token_less g d) its.makers its.spare r.makers r.spare c.lend-lent.ensures.lent c.take_over.ensures.met c.append.new.self
    (last_event new) c.append.ensures.appended in
    let n = c.note-note.ensures in
    unit_note g.M.Mount.chronicle g.M.Mount.past g.M.Mount.handed g.M.Mount.wear s.number new (g.U.Unit.wear c.reset-answer.new.unit)
    (record c.append.new.self { makers = []; spare = None }) c.note-note.result
    (resets.unit_of g.M.Mount.chronicle g.M.Mount.past g.M.Mount.key g.M.Mount.handed g.M.Mount.wear c.self.invariant.0 (a g d) s.number
    (g.U.Unit.model s.unit) (g.U.Unit.wear s.unit) s.ended its c.args.line (given_up g d) new c.reset-answer.result c.reset-answer.ensures.given c.args.worker
    (length c.args.made.now) (record c.append.new.self { makers = []; spare = None }) appended
    (g.U.Unit.wear c.reset-answer.new.unit) c.reset-answer.ensures.wear c.append.ensures.legal c.append.ensures.begun)
    (resets.stopped_noted g.M.Mount.chronicle g.M.Mount.past g.M.Mount.key g.M.Mount.handed g.M.Mount.wear c.self.invariant.0 (a g d) s.number
    (g.U.Unit.model s.unit) (g.U.Unit.wear s.unit) s.ended its c.args.line (given_up g d) new c.reset-answer.result c.reset-answer.ensures.given c.args.worker
    (length c.args.made.now) (record c.append.new.self { makers = []; spare = None }) appended stopped)
    n.note_of n.note_past n.note_known
