use Rattle.std.proofs.Common.{◌-◌, suc, length, refl, ap, ◌∙◌}
use Rattle.pblk_world.specs.Events.{ResetDone}
use Rattle.chronicle.specs.Handles.{AuthorView}
use Rattle.chronicle.specs.Prefixes.{logs_of}
use Rattle.pblk_engine.specs.Hearts.{parts}
use Rattle.pblk_engine.proofs.Decisions.{collecting}
use Rattle.pblk_engine.proofs.ResetSince as resets
use Rattle.pblk_engine.proofs.WorkSince.{decided_later, decided_now}
use Rattle.pblk_engine.proofs.reset_notes.note_reset.Goals as goal

pub decide-requires-clause-allowed : goal.decide-requires-clause-allowed
decide-requires-clause-allowed c =
    let h = parts c.args.core.now c.args.author.now c.args.intake.now.seat.me.0 in
    resets.may_note h c.requires.beating c.args.line c.args.unit c.args.state c.args.note.known c.requires.reset c.requires.named c.meet.new.self
    c.meet.ensures.met c.meet.ensures.legal

pub reset_done-requires : goal.reset_done-requires
reset_done-requires c = record {
  collecting = collecting (parts c.args.core.now c.args.author.now c.args.intake.now.seat.me.0) c.requires.beating;
  named = c.requires.named;
}

pub returns : goal.returns
returns c =
    let h = parts c.args.core.now c.args.author.now c.args.intake.now.seat.me.0 in
    let b = c.requires.beating in
    let a = c.meet.new.self in
    let m = c.meet.ensures in
    let last = c.decide.new.author in
    let done = c.reset_done.ensures in
    let line = c.args.line in
    let unit = c.args.unit in
    let state = c.args.state in
    let note = c.args.note.known in
    let is = c.requires.reset in
    let names = c.requires.named in
    record {
      beating = resets.beating_noted h b line unit state note is names a m.met m.legal c.requires.none c.reset_done.new.self done.stands done.collects
          done.window done.kept last c.decide.ensures;
      decided = resets.decided_noted h b line unit state note is names a m.met m.legal last c.decide.ensures;
      noted = resets.names_it h b line unit state note is names a m.met m.legal last c.decide.ensures;
      worked = decided_later _ c.args.author.now.known a.known last.known m.keeps
          (decided_now _ a.past.image a last (ResetDone unit (length (logs_of a.known (suc unit)) - 1)) refl
          (ap (λ (x : AuthorView). x.number) m.met ∙ b.engine.number) m.legal c.decide.ensures);
      keeps = resets.keeps_noted h b line unit state note is names a m.met m.legal last c.decide.ensures m.keeps;
      learns = resets.learns_noted h b line unit state note is names a m.met m.legal last c.decide.ensures m.learns;
      kept = done.kept;
      pads = resets.raised_noted h b line unit state note is names a m.met m.legal c.requires.none c.reset_done.new.self done.stands done.collects
          done.window done.kept last c.decide.ensures;
    }
