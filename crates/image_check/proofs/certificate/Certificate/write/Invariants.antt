use Rattle.std.proofs.Common.{◌≡◌, ◌++◌, map, drop, []}
use Rattle.image_check.specs.declared.said.Said.TheVariants.{Bear, Line, Live, Win}
use Rattle.image_check.specs.Text.{spelled, text_of}
use Rattle.image_check.proofs.certificate.Certificate.write.Given as goal

abbrev pub invariant-loop-row : goal.invariant-loop-row
invariant-loop-row l = l.out.items
    ++ spelled (map Line (drop l.row-index l.self.lines) ++ (map Bear l.self.bears ++ (map Win l.self.wins ++ map Live l.self.lives)))
    ≡ l.fn.out.items ++ text_of l.self

abbrev pub invariant-loop-bearer : goal.invariant-loop-bearer
invariant-loop-bearer l = l.out.items ++ spelled (map Bear (drop l.bearer-index l.self.bears) ++ (map Win l.self.wins ++ map Live l.self.lives))
    ≡ l.fn.out.items ++ text_of l.self

abbrev pub invariant-loop-win : goal.invariant-loop-win
invariant-loop-win l = l.out.items ++ spelled (map Win (drop l.win-index l.self.wins) ++ map Live l.self.lives) ≡ l.fn.out.items ++ text_of l.self

abbrev pub invariant-loop-live : goal.invariant-loop-live
invariant-loop-live l = l.out.items ++ spelled (map Live (drop l.live-index l.self.lives) ++ []) ≡ l.fn.out.items ++ text_of l.self
