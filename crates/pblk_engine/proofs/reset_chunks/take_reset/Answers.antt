use Rattle.std.proofs.Common.{◌≡◌, ◌≢◌, false, true, sym, subst, ap, ◌∙◌}
use Rattle.std.specs.Prelude.{Err, Some}
use Rattle.pblk_model.specs.Chunk.{Chunk}
use Rattle.pblk_laws.specs.LineBlocks.{chunk_in}
use Rattle.pblk_world.specs.World.{media}
use Rattle.unit_port.specs.declared.unit.UnitErr.TheVariants as errors
use Rattle.chronicle.specs.Prefixes.{Prefixes, AreLegalLogs, logs_of}
use Rattle.pblk_engine.specs.ResetNotes.{IsResetSince}
use Rattle.pblk_engine.proofs.ResetSince.{reset_since}
use Rattle.pblk_engine.proofs.reset_chunks.take_reset.Goals as goal

pub reset_done-requires-clause-reset : goal.reset_done-requires-clause-reset
reset_done-requires-clause-reset g c =
    let i = g.M.Mount.past.image in
    let u = c.args.unit.now in
    let is = c.requires.reset in
    let number = is.same ∙ sym c.requires.number in
    let found = c.state-state.ensures.state in
    let chunk : (x : Chunk) × (chunk_in (media i (logs_of u.known)) c.args.line is.old.number ≡ Some x) × (c.state-state.result ≡ x.state) =
    (found.0, ap (λ n. chunk_in (media i (logs_of u.known)) c.args.line n) is.same ∙ found.1, found.2) in
    subst (λ n. IsResetSince i c.args.heart.now.author.known c.args.note.known c.args.line n c.state-state.result) number
    (subst (λ (k : Prefixes). IsResetSince i c.args.heart.now.author.known k c.args.line is.old.number c.state-state.result) (sym c.requires.note_known)
    (reset_since i c.args.heart.now.author.known is.old u is.worker is.count c.args.line c.args.answer c.state-state.result c.requires.legal is.told is.reset
    (subst (AreLegalLogs i) c.requires.note_known c.requires.note_legal) going chunk))
  where
    differ : false ≡ true → ⊥
    differ same = cc

    going : c.args.answer ≢ Err errors.Stopped
    going stopped = differ (sym c.if-was_stopped.false ∙ c.was_stopped.ensures.1 stopped)

pub meet-requires-clause-noted : goal.meet-requires-clause-noted
meet-requires-clause-noted g c = (c.requires.note_stopped (c.was_stopped.ensures.0 c.if-was_stopped.true)).noted
