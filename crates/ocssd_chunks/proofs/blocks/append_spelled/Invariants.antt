use Rattle.std.proofs.Common.{◌≡◌, ◌-◌, ◌*◌, ◌+◌, ◌≤◌, length, vec_len, vec_capacity}
use Rattle.ocssd_chunks.proofs.Spelling.{IsSpellingSoFar}
use Rattle.ocssd_chunks.proofs.blocks.append_spelled.Given as goal

abbrev pub invariant-loop-block : goal.invariant-loop-block
invariant-loop-block l = record {
  so_far : IsSpellingSoFar l.size l._block l.spelled l.rest l.initial.bytes.items l.bytes.items l.initial.marks.items l.marks.items;
  left : length l.rest ≡ (l.count - l._block) * (l.size + 16);
  room_for_bytes : vec_len l.bytes + (l.count - l._block) * l.size ≤ vec_capacity l.bytes;
  room_for_marks : vec_len l.marks + (l.count - l._block) ≤ vec_capacity l.marks;
  kept_bytes : vec_capacity l.initial.bytes ≤ vec_capacity l.bytes;
  kept_marks : vec_capacity l.initial.marks ≤ vec_capacity l.marks;
}
