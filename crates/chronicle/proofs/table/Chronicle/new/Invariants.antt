use Rattle.std.proofs.Common.{◌≡◌, ◌-◌, Some, [], map}
use Rattle.std.specs.List.{range_with_len}
use Rattle.chronicle.specs.Handles.{first_author}
use Rattle.chronicle.specs.Steps.{seated}
use Rattle.chronicle.proofs.table.Chronicle.new.Given as goal

abbrev pub ghosts-begin : goal.ghosts-begin
ghosts-begin g a = record { past = g.S.Shows.shown a._begun.now }

abbrev pub invariant-loop-number : goal.invariant-loop-number
invariant-loop-number g l = record {
  same : l.seat.table_id ≡ l.chronicle-inside.table.shared.table_id;
  words : l.chronicle-inside.table.shared.table_id.words ≡ l.count;
  left : l.seat.me ≡ (
    seated (record {
      past = g.S.Shows.shown l.begun;
      owned = range_with_len l.number (l.count - l.number);
      known = (g.S.Shows.shown l.begun).logs;
      makers = [];
      spare = Some 0;
    }),
    [],
  );
  authors : l.authors.items ≡ map (first_author l.chronicle-inside.table.shared.table_id (g.S.Shows.shown l.begun)) (range_with_len 0 l.number);
}
