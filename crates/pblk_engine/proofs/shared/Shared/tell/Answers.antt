use Rattle.std.proofs.Common.{◌≡◌, length, sym, subst, ap, ap₂, ◌∙◌}
use Rattle.chronicle.specs.Prefixes.{Prefixes, ArePrefixes, longer_of}
use Rattle.pblk_engine.specs.Hearts.{HeartView}
use Rattle.pblk_engine.specs.Workers.{WorkerView}
use Rattle.pblk_engine.proofs.Tells.{longer_is}
use Rattle.pblk_engine.proofs.shared.Shared.tell.Goals as goal

pub returns-clause-worker : goal.returns-clause-worker
returns-clause-worker g c =
    let mine : c.note-known.result.known ≡ c.args.worker.now.known = c.note-known.ensures.known in
    let begins : ArePrefixes c.args.worker.now.known c.meet.new.self.author.known =
    subst (λ (k : Prefixes). ArePrefixes k c.meet.new.self.author.known) mine c.meet.ensures.learns in
    let many : length c.args.worker.now.known ≡ length c.meet.new.self.author.known =
    ap (λ (k : Prefixes). length k) (sym mine) ∙ c.note-known.ensures.note.legal.authors ∙ sym c.meet.ensures.legal.authors in
    let all : longer_of c.note-known.new.self.known c.note-told.result.known ≡ c.note-told.new.self.author.known =
    ap₂ longer_of (ap (λ (w : WorkerView). w.known) c.note-known.ensures.same) c.note-told.ensures.note_known
    ∙ longer_is c.args.worker.now.known c.meet.new.self.author.known many begins
    ∙ ap (λ (h : HeartView). h.author.known) (sym c.note-told.ensures.same) in
    c.meet-2.ensures.met ∙ ap₂ (λ (w : WorkerView) (k : Prefixes). record w { known = k }) c.note-known.ensures.same all
