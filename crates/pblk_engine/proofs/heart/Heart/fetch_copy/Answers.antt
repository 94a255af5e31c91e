use Rattle.std.proofs.Common.{◌≡◌, ℕ, ◌++◌, suc, Some, List, length, sym, subst, ap, ◌∙◌, le_refl}
use Rattle.std.specs.Prelude.{take, drop}
use Rattle.std.proofs.lemmas.List.{take-append-le}
use Rattle.pblk_model.specs.ChunkStep.{Read}
use Rattle.pblk_model.specs.Image.{Image}
use Rattle.pblk_model.proofs.Parts.{take_whole}
use Rattle.pblk_world.specs.LegalMounts.{IsLegalMount}
use Rattle.pblk_world.specs.World.{World, Logs, log_of}
use Rattle.chronicle.specs.Prefixes.{ArePrefixes, Prefixes, logs_of, longer_of}
use Rattle.chronicle.proofs.Rests.{still_begun}
use Rattle.pblk_engine.specs.Arms.{ArmView, number_told}
use Rattle.pblk_engine.specs.CopyPlaces.{copy_of}
use Rattle.pblk_engine.specs.Deeds.{HasDone}
use Rattle.pblk_engine.specs.Fetches.{IsReadableAt, TellsFetch}
use Rattle.pblk_engine.specs.Hearts.{HeartView, IsHeart}
use Rattle.pblk_engine.proofs.Copies.{readable}
use Rattle.pblk_engine.proofs.Knowledge.{mount_of}
use Rattle.pblk_engine.proofs.Resets.{same_logs}
use Rattle.pblk_engine.proofs.heart.Heart.fetch_copy.Given.{Over}
use Rattle.pblk_engine.proofs.heart.Heart.fetch_copy.Goals.{After-as_mut_slice-sector}
use Rattle.pblk_engine.proofs.heart.Heart.fetch_copy.Goals as goal

module _ (g : Over) (c : After-as_mut_slice-sector g) where
  abbrev i : Image
  i = g.M.Mount.past.image

  abbrev w : World
  w = c.self.invariant.0.legal.world

  legal : IsLegalMount i w
  legal = mount_of i c.self.inside.author.known c.self.invariant.0.legal c.self.invariant.0.fits.accepted c.self.invariant.0.fits.fit

  was : IsHeart i (log_of w) c.self.inside.core c.self.inside.intake.seat.me.0
  was = subst (λ (l : Logs). IsHeart i l c.self.inside.core c.self.inside.intake.seat.me.0) (sym c.self.invariant.0.legal.logs)
      c.self.invariant.0.settled.heart

  -- once both met, the heart is else as it was
  named : copy_of c.self.inside.core ≡ Some c.args.of.now
  named = ap (λ (v : HeartView). v.copy) (c.self.view_is ∙ c.note-note-2.ensures.same ∙ c.meet.ensures.met) ∙ c.requires.copy

  there : IsReadableAt i (logs_of c.self.inside.author.known) c.args.of.now.unit c.args.of.now.job.line c.args.of.now.block
  there = subst (λ (l : Logs). IsReadableAt i l c.args.of.now.unit c.args.of.now.job.line c.args.of.now.block) c.self.invariant.0.legal.logs
      (readable i w c.self.inside.core c.self.inside.intake.seat.me.0 legal was c.args.of.now named)

  -- and the note knows what it knows, and the arm knew
  known : c.self.inside.author.known ≡ c.note-note-2.result.known
  known = ap (λ (v : HeartView). v.author.known) (c.self.view_is ∙ c.note-note-2.ensures.same) ∙ sym c.note-note-2.ensures.note_known

  arm_known : ArePrefixes c.note-note.new.self.known c.note-note-2.result.known
  arm_known = subst (λ (k : Prefixes). ArePrefixes k c.note-note-2.result.known)
      (c.note-note.ensures.known ∙ ap (λ (a : ArmView). a.known) (sym c.note-note.ensures.same))
      (subst (ArePrefixes c.note-note.result.known) (sym c.note-note-2.ensures.note_known) c.meet.ensures.learns)

  both : ◌≡◌ {A = Logs × ℕ} (logs_of c.self.inside.author.known, c.args.of.now.unit)
      (logs_of (longer_of c.note-note.new.self.known c.note-note-2.result.known), c.note-note.new.self.number)
  both = λ j. (
    (ap logs_of known ∙ sym (same_logs c.note-note.new.self.known c.note-note-2.result.known arm_known)) j,
    (sym c.requires.unit ∙ ap (λ (a : ArmView). a.number) (sym c.note-note.ensures.same)) j,
  )

pub fetch_readable-requires-clause-told : goal.fetch_readable-requires-clause-told
fetch_readable-requires-clause-told g c =
    subst (ArePrefixes c.args.worker.now.known) (sym c.note-note-2.ensures.note_known)
    (still_begun c.args.worker.now.known c.args.self.now.author.known c.meet.new.self.author.known c.requires.told c.meet.ensures.keeps)

pub fetch_readable-requires-clause-readable : goal.fetch_readable-requires-clause-readable
fetch_readable-requires-clause-readable g c =
    let d = (goal.at.fetch_readable-requires-clause-readable g c).After-as_mut_slice-sector in
    subst (λ (p : Logs × ℕ). IsReadableAt (i g d) p.0 p.1 c.args.of.now.job.line c.args.of.now.block) (both g d) (there g d)

pub returns-clause-done : goal.returns-clause-done
returns-clause-done g c =
    let d = (goal.at.returns-clause-done g c).After-as_mut_slice-sector in
    subst (λ (p : ArmView × Prefixes). HasDone p.0 c.fetch_readable.new.self c.args.worker.now c.fetch_readable.new.worker (longer_of p.0.known p.1)
    c.args.of.now.job.line (Read c.args.of.now.block)
    (TellsFetch p.0.number (number_told g.M.Mount.handed p.0.number (length (logs_of (longer_of p.0.known p.1) (suc p.0.number)))) c.fetch_readable.result))
    (λ j. (c.note-note.ensures.same j, sym (known g d) j)) c.fetch_readable.ensures.done

pub returns-clause-fetched : goal.returns-clause-fetched
returns-clause-fetched g c = λ ok.
    let d = (goal.at.returns-clause-fetched g c).After-as_mut_slice-sector in
    let out : List ℕ = c.fetch_readable.new.out in
    let rest : List ℕ = drop (length out) c.self.inside.sector.items in
    let long : length out ≡ c.self.inside.sector.len =
    c.fetch_readable.ensures.size ∙ ap length c.as_mut_slice-sector.ensures.value ∙ sym c.self.inside.sector.ok.0 in
    record {
      there = there g d;
      sector = subst (λ n. take n (out ++ rest) ≡ out) long (take-append-le (length out) out rest (le_refl (length out)) ∙ take_whole out)
          ∙ subst (λ (p : Logs × ℕ). (r : IsReadableAt (i g d) p.0 p.1 c.args.of.now.job.line c.args.of.now.block) → out ≡ r.block.sector) (sym (both g d))
          (c.fetch_readable.ensures.sector ok) (there g d);
    }
