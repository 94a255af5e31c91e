use Rattle.std.proofs.Common.{◌≡◌, [], length, ap, ◌∙◌, arith}
use Rattle.std.proofs.Math.Nat.{mul-le-mul_right}
use Rattle.ocssd_chunks.specs.Spelled.{AddsSpelled}
use Rattle.ocssd_chunks.proofs.Held.{IsEmpty, empty_fields, held_added}
use Rattle.ocssd_chunks.proofs.SpelledChunk.{spelled_chunk, spelled_so}
use Rattle.ocssd_chunks.proofs.Spelling.{added_alone}
use Rattle.ocssd_chunks.proofs.chunk.Chunk.restore_spelled.Goals as goal
use Rattle.ocssd_chunks.proofs.chunk.Chunk.restore_spelled.Goals.{After-self, After-append_spelled}
use Rattle.pblk_model.proofs.ChunkLemmas.{pointer_within}

-- the chunk is empty when the blocks come
empty : (c : After-self) → IsEmpty c.self.inside c.args.self.now.shape
empty c = empty_fields c.self.inside _ _ _ c.self.invariant c.self.view_is c.leave_empty.ensures.chunk c.leave_empty.ensures.shape

pub append_spelled-requires-clause-whole : goal.append_spelled-requires-clause-whole
append_spelled-requires-clause-whole c =
    let none = empty (goal.at.append_spelled-requires-clause-whole c).After-self in
    rw (← none.shape) at c.requires.whole

pub append_spelled-requires-clause-room_for_bytes : goal.append_spelled-requires-clause-room_for_bytes
append_spelled-requires-clause-room_for_bytes c =
    let q = c.self.inside in
    let none = empty (goal.at.append_spelled-requires-clause-room_for_bytes c).After-self in
    let within = pointer_within c.args.state q.shape.clba c.args.count (rw (← none.shape) at c.requires.place) in
    omega (arith, c.self.invariant.room_for_bytes, ap length none.bytes, q.bytes.ok.0, mul-le-mul_right q.shape.sector within)

pub append_spelled-requires-clause-room_for_marks : goal.append_spelled-requires-clause-room_for_marks
append_spelled-requires-clause-room_for_marks c =
    let q = c.self.inside in
    let none = empty (goal.at.append_spelled-requires-clause-room_for_marks c).After-self in
    let within = pointer_within c.args.state q.shape.clba c.args.count (rw (← none.shape) at c.requires.place) in
    omega (arith, c.self.invariant.room_for_marks, ap length none.marks, q.marks.ok.0, within)

-- the blocks that are there
added : (c : After-append_spelled) → IsEmpty c.self.inside c.args.self.now.shape
    → AddsSpelled c.self.inside.shape.sector c.args.count c.args.bytes.now [] c.append_spelled.new.bytes.items [] c.append_spelled.new.marks.items
added c none = added_alone c.self.inside.shape.sector c.args.count c.args.bytes.now _ _ _ _ c.append_spelled.ensures.added none.bytes none.marks

pub returns-clause-blocks : goal.returns-clause-blocks
returns-clause-blocks c =
    let q = c.self.inside in
    let none = empty (goal.at.returns-clause-blocks c).After-self in
    let is = added (goal.at.returns-clause-blocks c).After-append_spelled none in
    rw (held_added q.shape.sector q.adopted_count c.args.count q.adopted c.args.bytes.now _ _ none.adopted is)
    (spelled_so q.shape.sector c.args.count c.args.bytes.now c.are_bytes.ensures (rw (← none.shape) at c.requires.whole))

pub returns-clause-fits : goal.returns-clause-fits
returns-clause-fits c =
    let q = c.self.inside in
    let none = empty (goal.at.returns-clause-fits c).After-self in
    let is = added (goal.at.returns-clause-fits c).After-append_spelled none in
    rw (held_added q.shape.sector q.adopted_count c.args.count q.adopted c.args.bytes.now _ _ none.adopted is)
    (spelled_chunk q.shape c.args.state c.args.count c.args.bytes.now c.are_bytes.ensures (rw (← none.shape) at c.requires.whole)
    (rw (← none.shape) at c.requires.place) (rw (← none.shape) at c.requires.multiple))

pub invariant_of-self : goal.invariant_of-self
invariant_of-self c =
    let none = empty (goal.at.invariant_of-self c).After-self in
    let is = added (goal.at.invariant_of-self c).After-append_spelled none in
    let many : length c.append_spelled.new.marks.items ≡ c.args.count = ap length is.marks_added ∙ is.many in
    let within = pointer_within c.args.state c.self.inside.shape.clba c.args.count (rw (← none.shape) at c.requires.place) in
    record {
      accepted = c.self.invariant.accepted;
      fits = returns-clause-fits c;
      counted = c.self.invariant.counted;
      within = omega (arith, none.adopted, many, within);
      adopted_whole = c.self.invariant.adopted_whole;
      whole = rw many (ap length is.bytes_added ∙ is.whole);
      room_for_bytes = omega (arith, c.self.invariant.room_for_bytes, c.append_spelled.ensures.kept_bytes);
      room_for_marks = omega (arith, c.self.invariant.room_for_marks, c.append_spelled.ensures.kept_marks);
    }
