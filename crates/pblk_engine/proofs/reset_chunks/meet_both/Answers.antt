use Rattle.std.proofs.Common.{sym, subst, ap, ◌∙◌}
use Rattle.chronicle.specs.Prefixes.{Prefixes, ArePrefixes}
use Rattle.chronicle.proofs.Rests.{still_begun}
use Rattle.pblk_engine.specs.Hearts.{HeartView}
use Rattle.pblk_engine.proofs.reset_chunks.meet_both.Goals as goal

pub returns-clause-heart_keeps : goal.returns-clause-heart_keeps
returns-clause-heart_keeps g c =
    subst (λ (h : HeartView). ArePrefixes c.args.heart.now.author.known h.author.known) (sym c.note.ensures.same)
    (still_begun c.args.heart.now.author.known c.meet.new.self.author.known c.meet-2.new.self.author.known c.meet.ensures.keeps c.meet-2.ensures.keeps)

pub returns-clause-worker_told : goal.returns-clause-worker_told
returns-clause-worker_told g c =
    subst (ArePrefixes c.args.worker.now.known) (sym c.note.ensures.note_known)
    (still_begun c.args.worker.now.known c.meet.new.self.author.known c.meet-2.new.self.author.known
    (subst (λ (k : Prefixes). ArePrefixes k c.meet.new.self.author.known) c.note-told.ensures.known c.meet.ensures.learns) c.meet-2.ensures.keeps)

pub returns-clause-to_reset : goal.returns-clause-to_reset
returns-clause-to_reset g c = λ line unit names.
    c.note.ensures.to_reset line unit
    (ap (λ (h : HeartView). h.work) c.meet-2.ensures.met ∙ ap (λ (h : HeartView). h.work) c.meet.ensures.met ∙ names)
