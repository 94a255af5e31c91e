use Rattle.std.proofs.Common.{sym, subst}
use Rattle.chronicle.specs.Prefixes.{ArePrefixes}
use Rattle.chronicle.proofs.Rests.{still_begun}
use Rattle.pblk_engine.specs.Arms.{ArmView}
use Rattle.pblk_engine.proofs.ArmPrograms.{placed_more}
use Rattle.pblk_engine.proofs.arm.Arm.program.Goals as goal

pub program_now-how-requires-clause-placed : goal.program_now-how-requires-clause-placed
program_now-how-requires-clause-placed g c =
    placed_more c.args.note.known c.meet.new.self.known c.args.worker.now.stripe c.meet.ensures.learns c.requires.placed

pub returns-then-is_turn-clause-keeps : goal.returns-then-is_turn-clause-keeps
returns-then-is_turn-clause-keeps g c =
    subst (λ (x : ArmView). ArePrefixes c.args.self.now.known x.known) (sym c.note.ensures.same)
    (still_begun c.args.self.now.known c.meet.new.self.known c.program_now-how.new.self.known c.meet.ensures.keeps c.program_now-how.ensures.keeps)

pub returns-then-is_turn-clause-learns : goal.returns-then-is_turn-clause-learns
returns-then-is_turn-clause-learns g c =
    subst (λ (x : ArmView). ArePrefixes c.args.note.known x.known) (sym c.note.ensures.same)
    (still_begun c.args.note.known c.meet.new.self.known c.program_now-how.new.self.known c.meet.ensures.learns c.program_now-how.ensures.keeps)

pub program_now-how-requires-clause-told : goal.program_now-how-requires-clause-told
program_now-how-requires-clause-told g c =
    still_begun c.args.worker.now.known c.args.note.known c.meet.new.self.known c.requires.told c.meet.ensures.learns
