use Rattle.std.proofs.Common.{◌∙◌, ◌+◌}
use Rattle.numbered_locks.specs.Cells.{Fits}
use Rattle.numbered_locks.proofs.Ends.{opens}
use Rattle.numbered_locks.proofs.locks.NumberedLocks.new.Goals as goal

pub vacant-made-requires : goal.vacant-made-requires
vacant-made-requires g c =
    let n = c.len-count.result in
    opens (Fits g.L.Keeps.keeps n) (n + 1) _ (c.as_slice.ensures.value ∙ c.in-Ok.ensures.words)
