use Rattle.std.proofs.Common.{sym, ◌∙◌}
use Rattle.write_ring.proofs.Plays.{finds_at, turn_inside}
use Rattle.write_ring.proofs.table.Ring.find.Goals as goal

pub load-requires : goal.load-requires
load-requires c =
    let r = c.args.self.now in (
      c.requires.ring,
      turn_inside c.args.at r.size _ r.some r.words,
      finds_at _ _ _ _ _ _ (r.slots ∙ sym r.sized) r.sized r.some c.requires.next c.requires.at_rest c.requires.on c.requires.home,
    )
