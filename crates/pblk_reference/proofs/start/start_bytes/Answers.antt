use Rattle.std.proofs.Common.{◌∙◌}
use Rattle.pblk_reference.proofs.Words.{start_spelled}
use Rattle.pblk_reference.proofs.start.start_bytes.Goals as goal

pub returns : goal.returns
returns c =
    start_spelled c.args.shape.now
    (record {
      line = c.start.inside.line;
      width = c.start.inside.width;
      seq = c.start.inside.seq;
      first_seq = c.start.inside.first_seq;
      front =
          c.start.inside.front;
      capacity = c.start.inside.capacity;
      rows = c.start.inside.rows.items;
    }) c.args.start.now c.len.result c.start_len.result
    c.byte_len.result c.deref.result.now c.in_ok-out.out.items c.put_rows.new.out.items c.pad.new.out.items
    c.start.view_is (c.len.ensures ∙ c.start.inside.rows.ok.0) c.in_ok-out.ensures c.deref.ensures.value c.in_ok-put_rows.ensures c.start_len.ensures
    c.byte_len.ensures c.in_ok-pad.ensures
