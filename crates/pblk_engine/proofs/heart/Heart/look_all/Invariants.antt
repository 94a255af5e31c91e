use Rattle.std.proofs.Common.{◌≡◌, length}
use Rattle.chronicle.specs.Prefixes.{logs_of}
use Rattle.pblk_engine.specs.Reads.{AreLookedFor}
use Rattle.pblk_engine.proofs.heart.Heart.look_all.Given as goal

abbrev pub invariant-loop-index : goal.invariant-loop-index
invariant-loop-index g l =
    AreLookedFor g.M.Mount.past.image (logs_of l.fn.self.author.known) l.size l.lba 0 l.index l.look.places l.out × (length l.look.places ≡ 16)
