use Rattle.std.proofs.Common.{refl, sym, ◌∙◌}
use Rattle.scan_recovery.specs.Mounts.{head_of}
use Rattle.scan_recovery.specs.Traces.{bare}
use Rattle.scan_recovery.proofs.Counts.{count_settled}
use Rattle.scan_recovery.proofs.counting.Count.add.Goals as goal

pub returns-then-is_settled : goal.returns-then-is_settled
returns-then-is_settled c = λ sectors rs was.
    count_settled sectors _ (head_of c.args.mount.now) rs c.args.self.now _ was (bare c.args.t.now) (sym c.is_settled.ensures.settled ∙ c.if-is_settled.true)
    (c.note.ensures.tally sectors _ _ was.tally) refl
