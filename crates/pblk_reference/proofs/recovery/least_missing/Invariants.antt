use Rattle.std.proofs.Common.{◌≡◌, ◌+◌, ◌-◌, length}
use Rattle.pblk_model.specs.Contents.{is_borne, least_missing}
use Rattle.pblk_reference.proofs.recovery.least_missing.Given as goal

abbrev pub invariant-loop : goal.invariant-loop
invariant-loop l = record {
  rest : least_missing (is_borne l.records l.head) (length l.records - l.counter) l.position ≡ least_missing (is_borne l.records l.head)
      (length l.records) l.head.front;
  low : l.position ≡ l.head.front + l.counter;
}
