use Rattle.std.proofs.Common.{◌≡◌}
use Rattle.chronicle_crew.specs.Ready.{IsHand}
use Rattle.chronicle_crew.proofs.hand.work.Given as goal

abbrev pub invariant-loop-turn : goal.invariant-loop-turn
invariant-loop-turn g l = record {
  hand : IsHand l.chronicle l.hand;
  number : l.hand.author.number ≡ l.fn.hand.author.number;
  count : l.hand.count ≡ l.turn;
}
