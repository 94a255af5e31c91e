use Rattle.std.proofs.Common.{◌≡◌, ◌+◌, suc, length, arith}
use Rattle.chronicle.specs.Prefixes.{logs_of}
use Rattle.pblk_engine.proofs.heart.Heart.answer.Goals as goal

pub answer_by-requires-clause-number : goal.answer_by-requires-clause-number
answer_by-requires-clause-number g c =
    let some : length (logs_of c.args.note.known (suc c.args.stripe.now.stripe.unit)) ≡ c.requires.programmed.number + 1 = c.requires.programmed.last in
    omega arith
