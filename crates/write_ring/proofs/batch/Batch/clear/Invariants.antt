use Rattle.std.proofs.Common.{◌≡◌, ◌+◌, length}
use Rattle.write_ring.proofs.batch.Batch.clear.Given as goal

-- as many frames as before, of which more are free
abbrev pub invariant-loop-draft : goal.invariant-loop-draft
invariant-loop-draft l =
    (l.self.region ≡ l.fn.self.region) × (l.self.count ≡ l.fn.self.count)
    × (l.self.free + length l.self.drafts ≡ l.fn.self.free + length l.fn.self.drafts)

abbrev pub decreases-loop-draft : goal.decreases-loop-draft
decreases-loop-draft l = length l.self.drafts
