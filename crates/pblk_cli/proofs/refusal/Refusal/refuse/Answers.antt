use Rattle.pblk_cli.proofs.refusal.Refusal.refuse.Goals.{in-Image, in-Script, in-Parity, in-Failed, in-Missing, in-Words, in-Memory, in-Certificate, in-Check}
use Rattle.pblk_cli.proofs.refusal.Refusal.refuse.Goals as goal

pub returns-clause-tells : goal.returns-clause-tells
returns-clause-tells g c = (
  c.status.ensures,
  elim c.match-self.branch [
    | in-Image w ↦ rw (w.in-Image.is, w.out-is) w.tell_image.ensures.said
    | in-Script w ↦ rw (w.in-Script.is, w.out-is) w.tell_script.ensures.said
    | in-Parity w ↦ rw (w.in-Parity.is, w.out-is) w.tell_parity.ensures.said
    | in-Failed w ↦ rw (w.in-Failed.is, w.out-is) w.tell_failed.ensures.said
    | in-Missing w ↦ rw (w.in-Missing.is, w.out-is) w.tell_missing.ensures.said
    | in-Certificate w ↦ rw (w.in-Certificate.is, w.out-is) w.tell_certificate.ensures.said
    | in-Check w ↦ rw (w.in-Check.is, w.out-is) w.tell_check.ensures.said
    | in-Words w ↦ rw (w.in-Words.is, w.out-is) w.tell_words.ensures.said
    | in-Memory w ↦ rw (w.in-Memory.is, w.out-is) w.tell_memory.ensures.said
  ],
)
