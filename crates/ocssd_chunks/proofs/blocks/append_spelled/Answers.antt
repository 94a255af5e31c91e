use Rattle.std.proofs.Common.{◌≡◌, ◌+◌, ◌-◌, ◌*◌, [], ◌∷◌, length, take, ap, ◌∙◌, length-append, arith}
use Rattle.std.proofs.lemmas.List.{length-take-le}
use Rattle.ocssd_chunks.proofs.Spelling.{spelling_goes_on, room_for_next, room_for_more}
use Rattle.ocssd_chunks.proofs.blocks.append_spelled.Goals as goal
use Rattle.pblk_model.proofs.Numbers.{next_at}

pub overflow_add-size : goal.overflow_add-size
overflow_add-size c =
    let l = c.loop-block in
    let more = room_for_next l._block c.args.count (c.args.size + 16) _ c.loop-block-test.true l.invariant.left in
    omega (arith, more)

pub split_at-requires : goal.split_at-requires
split_at-requires c = room_for_next c.loop-block._block c.args.count (c.args.size + 16) _ c.loop-block-test.true c.loop-block.invariant.left

pub append_bytes-requires : goal.append_bytes-requires
append_bytes-requires c =
    let l = c.loop-block in
    let long = length-take-le c.args.size c.split_at.result.0.now (omega (arith, c.split_at.ensures.front_len)) in
    rw long (room_for_more l._block c.args.count c.args.size _ _ c.loop-block-test.true l.invariant.room_for_bytes)

pub loop-block-preserved : goal.loop-block-preserved
loop-block-preserved c =
    let l = c.loop-block in
    let size = c.args.size in
    let rest = l.rest.now in
    let more : c.args.count - l._block ≡ (c.args.count - (l._block + 1)) + 1 = omega (arith, c.loop-block-test.true) in
    let k = c.args.count - (l._block + 1) in
    let sector = take size c.split_at.result.0.now in
    let long : length sector ≡ size = length-take-le size c.split_at.result.0.now (omega (arith, c.split_at.ensures.front_len)) in
    let added_bytes : length c.append_bytes.new.list.items ≡ length l.bytes.items + size = ap length c.append_bytes.ensures.items
    ∙ length-append l.bytes.items sector ∙ ap (λ n. length l.bytes.items + n) long in
    let added_marks : length c.append_marks.new.list.items ≡ length l.marks.items + 1 = ap length c.append_marks.ensures.items
    ∙ length-append l.marks.items (c.mark_at.result ∷ []) in
    record {
      so_far = spelling_goes_on size l._block c.args.spelled.now rest c.split_at.result.0.now c.split_at.result.1.now _ _ _ _ _ _ c.mark_at.result
          l.invariant.so_far (room_for_next l._block c.args.count (size + 16) _ c.loop-block-test.true l.invariant.left) c.split_at.ensures.front
          c.split_at.ensures.back c.mark_at.ensures c.append_bytes.ensures.items c.append_marks.ensures.items;
      left = omega (arith, l.invariant.left, ap (λ n. n * (size + 16)) more, next_at k (size + 16), c.split_at.ensures.back_len);
      room_for_bytes = omega (
        arith,
        l.invariant.room_for_bytes,
        ap (λ n. n * size) more,
        next_at k size,
        added_bytes,
        l.bytes.ok.0,
        c.append_bytes.new.list.ok.0,
        c.append_bytes.ensures.room,
      );
      room_for_marks = omega (arith, l.invariant.room_for_marks, more, added_marks, l.marks.ok.0, c.append_marks.new.list.ok.0, c.append_marks.ensures.room);
      kept_bytes = omega (arith, l.invariant.kept_bytes, c.append_bytes.ensures.room);
      kept_marks = omega (arith, l.invariant.kept_marks, c.append_marks.ensures.room);
    }
