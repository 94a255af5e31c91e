use Rattle.std.proofs.Common.{◌≡◌, suc, ◌+◌, ◌-◌, ◌++◌, ◌∷◌, [], None, length, sym, subst, ap, ◌∙◌}
use Rattle.pblk_model.specs.ChunkStep.{Reset}
use Rattle.pblk_model.specs.UnitLog.{UnitEvent}
use Rattle.pblk_core.specs.Resets.{IsToReset}
use Rattle.chronicle.specs.Handles.{TokenView}
use Rattle.chronicle.specs.Prefixes.{Prefixes, logs_of, longer_of, ArePrefixes, AreLegalLogs}
use Rattle.chronicle.specs.Views.{Past}
use Rattle.chronicle.proofs.Rests.{still_begun}
use Rattle.pblk_engine.specs.Arms.{ArmView, number_told}
use Rattle.pblk_engine.specs.ChunkResets.{TellsReset}
use Rattle.pblk_engine.specs.Deeds.{event_of}
use Rattle.pblk_engine.specs.Resets.{WasReset}
use Rattle.pblk_engine.specs.Workers.{WorkerView, last_made, worker_view}
use Rattle.pblk_engine.proofs.Lent.{maker_of}
use Rattle.pblk_engine.proofs.Meetings.{worker_done}
use Rattle.pblk_engine.proofs.ResetDeeds.{last_of_steps, last_there}
use Rattle.pblk_engine.proofs.WorkSince.{decided_later, decided_still}
use Rattle.pblk_engine.proofs.reset_chunks.reset_chunk.Given.{Over}
use Rattle.pblk_engine.proofs.reset_chunks.reset_chunk.Goals.{After-meet_both-note, After-end-arm}
use Rattle.pblk_engine.proofs.reset_chunks.reset_chunk.Goals as goal

module _ (g : Over) (c : After-meet_both-note g) where
  number_is : c.meet_both-note.new.arm.number ≡ c.args.unit
  number_is = ap (λ (a : ArmView). a.number) c.meet_both-note.ensures.same_arm ∙ c.requires.unit

  is_to : IsToReset g.M.Mount.past.image (logs_of c.meet_both-note.result.known) c.args.line c.args.unit
  is_to = c.meet_both-note.ensures.to_reset c.args.line c.args.unit c.requires.named

pub reset-resetting-requires-clause-given_up : goal.reset-resetting-requires-clause-given_up
reset-resetting-requires-clause-given_up g c =
    let d = (goal.at.reset-resetting-requires-clause-given_up g c).After-meet_both-note in
    subst (λ n. IsToReset g.M.Mount.past.image (logs_of c.meet_both-note.result.known) c.args.line n) (sym (number_is g d)) (is_to g d)

pub take_reset-requires-clause-line : goal.take_reset-requires-clause-line
take_reset-requires-clause-line g c = (is_to g (goal.at.take_reset-requires-clause-line g c).After-meet_both-note).in_range

pub take_reset-requires-clause-reset : goal.take_reset-requires-clause-reset
take_reset-requires-clause-reset g c =
    let m = c.meet_both-note in
    let heart_known : m.result.known ≡ m.new.heart.author.known = m.ensures.known in
    record {
      old = m.new.arm;
      same = sym c.reset-resetting.ensures.number;
      told = subst (ArePrefixes m.new.arm.known) heart_known
          (subst (λ (a : ArmView). ArePrefixes a.known m.result.known) (sym m.ensures.same_arm) m.ensures.told);
      worker = c.worker.inside.number;
      count = length c.worker.inside.made;
      reset = subst (λ (k : Prefixes). WasReset m.new.arm c.reset-resetting.result.0 c.worker.inside.number (length c.worker.inside.made)
          (longer_of m.new.arm.known k) c.args.line c.reset-resetting.result.2) heart_known c.reset-resetting.ensures.reset;
    }

module _ (g : Over) (c : After-end-arm g) where
  abbrev unit : ArmView
  unit = c.reset-resetting.result.0

  token_is : c.end-arm.new.token ≡ record c.worker.inside.token {
    known = longer_of c.worker.inside.token.known c.end-arm.result.known;
    makers = maker_of c.worker.inside.number (length c.worker.inside.made + 1) ∷ [];
    spare = None;
  }
  token_is = c.end-arm.ensures.token c.worker.inside.number c.reset-resetting.ensures.last
      ∙ ap (λ (t : TokenView). record t {
        known = longer_of t.known c.end-arm.result.known;
        makers = maker_of c.worker.inside.number (length c.worker.inside.made + 1) ∷ [];
        spare = None;
      }) c.reset-resetting.ensures.token

  token_keeps : ArePrefixes c.worker.inside.token.known c.end-arm.new.token.known
  token_keeps = subst (λ (t : TokenView). ArePrefixes t.known c.end-arm.new.token.known) c.reset-resetting.ensures.token c.end-arm.ensures.token_keeps

  past_is : c.end-arm.new.token.past ≡ g.M.Mount.past
  past_is = ap (λ (t : TokenView). t.past) token_is ∙ c.worker.invariant.1.over

  -- the worker as it was
  view_is : worker_view c.worker.inside.number c.worker.inside.token.known c.worker.inside.stripe c.worker.inside.made c.worker.inside.asked
      ≡ c.args.worker.now
  view_is = c.worker.view_is ∙ c.meet_both-note.ensures.same_worker

pub invariant_of-worker : goal.invariant_of-worker
invariant_of-worker g c =
    let d = (goal.at.invariant_of-worker g c).After-end-arm in
    let w = c.worker.inside in
    let e = c.end-arm.ensures in
    let r = c.reset-resetting.result.0 in
    let m = last_made r.number r.known r.unit in (
      c.worker.invariant.0,
      worker_done g.M.Mount.chronicle g.M.Mount.past w.token c.end-arm.new.token c.end-arm.result.known w.number w.stripe w.made c.worker.invariant.1
          e.noted (token_is g d) (token_keeps g d) e.token_learns
          (subst (λ (p : Past). AreLegalLogs p.image c.end-arm.new.token.known) (sym (past_is g d)) e.token_legal)
          (subst (λ (p : Past). ArePrefixes p.logs c.end-arm.new.token.known) (sym (past_is g d)) e.token_begun)
          m (e.was_made w.number c.reset-resetting.ensures.last) c.end-arm.new.made e.made,
    )

pub returns-clause-worker : goal.returns-clause-worker
returns-clause-worker g c =
    let d = (goal.at.returns-clause-worker g c).After-end-arm in
    let w = c.worker.inside in
    let r = c.reset-resetting.result.0 in
    let was = c.reset-resetting.ensures.reset in
    let event : UnitEvent = event_of c.args.line Reset was.outcome in
    let is = last_of_steps c.meet_both-note.new.arm.unit r.unit c.args.line Reset was.outcome was.steps in
    let number : r.number ≡ c.args.unit = c.reset-resetting.ensures.number ∙ ap (λ (a : ArmView). a.number) c.meet_both-note.ensures.same_arm
    ∙ c.requires.unit in
    let told = c.events-event.ensures.told (length (logs_of r.known (suc r.number)) - 1)
    (last_there r.known r.number r.unit w.number (length w.made) c.reset-resetting.ensures.last) in
    record {
      made = last_made r.number r.known r.unit;
      on = record {
        number = ap (λ (x : WorkerView). x.number) (view_is g d);
        keeps = subst (λ (x : WorkerView). ArePrefixes x.known c.end-arm.new.token.known) (view_is g d) (token_keeps g d);
        made = c.end-arm.ensures.made ∙ ap (λ (x : WorkerView). x.made ++ last_made r.number r.known r.unit ∷ []) (view_is g d);
        asked = ap (λ (x : WorkerView). x.asked) (view_is g d);
      };
      of = number;
      chunk = ap (λ (e : UnitEvent). e.chunk) is;
      asked = ap (λ (e : UnitEvent). e.command) is;
      tells = subst (λ (e : UnitEvent). TellsReset
          (number_told g.M.Mount.handed c.args.unit (length (logs_of r.known (suc r.number)) - 1)) c.told_of.result e.outcome)
          (sym is)
          (subst (λ n. TellsReset n c.told_of.result was.outcome)
          (told ∙ ap (λ n. number_told g.M.Mount.handed n (length (logs_of r.known (suc r.number)) - 1)) number)
          (c.told_of.ensures.told was.outcome was.told));
    }

pub returns-clause-learns : goal.returns-clause-learns
returns-clause-learns g c =
    let m = c.meet_both-note in
    still_begun c.args.heart.now.author.known c.reset-resetting.result.0.known c.end-arm.new.token.known
    (still_begun c.args.heart.now.author.known m.result.known c.reset-resetting.result.0.known
    (subst (ArePrefixes c.args.heart.now.author.known) (sym m.ensures.known) m.ensures.heart_keeps) c.reset-resetting.ensures.keeps)
    (still_begun c.reset-resetting.result.0.known c.end-arm.result.known c.end-arm.new.token.known c.end-arm.ensures.keeps c.end-arm.ensures.token_learns)

pub returns-clause-worked : goal.returns-clause-worked
returns-clause-worked g c = λ ok.
    let m = c.meet_both-note in
    let e = c.end-arm.ensures in
    let last = c.end-arm.new.token.known in
    decided_still _ c.args.heart.now.author.known c.take_reset.new.heart.author.known last
    (decided_later _ c.args.heart.now.author.known m.new.heart.author.known c.take_reset.new.heart.author.known m.ensures.heart_keeps
    (c.take_reset.ensures.worked (c.told_of.ensures.kept ok)))
    (subst (λ (k : Prefixes). ArePrefixes k last) c.note-noted.ensures.note_known
    (still_begun c.note-noted.result.known c.end-arm.result.known last e.learns e.token_learns))
