use Rattle.std.proofs.Common.{ap, ◌∙◌}
use Rattle.pblk_model.specs.EndRecord.{EndRecord}
use Rattle.pblk_reference.proofs.Sizes.{narrow_end}
use Rattle.pblk_reference.proofs.Words.{end_spelled}
use Rattle.pblk_reference.proofs.end_record.end_bytes.Goals as goal

pub end_len-requires : goal.end_len-requires
end_len-requires c = record {
  accepted = c.requires.accepted;
  width = narrow_end c.args.shape.now c.end.inside.width c.args.end.now.width (ap (λ (r : EndRecord). r.width) c.end.view_is) c.requires.width;
}

pub returns : goal.returns
returns c =
    end_spelled c.args.shape.now (record { line = c.end.inside.line; width = c.end.inside.width; seq = c.end.inside.seq; pairs = c.end.inside.pairs.items })
    c.args.end.now c.len.result c.end_len.result c.byte_len-len.result c.deref.result.now c.in_ok-out.out.items c.put_pairs.new.out.items
    c.pad.new.out.items
    c.end.view_is (c.len.ensures ∙ c.end.inside.pairs.ok.0) c.in_ok-out.ensures c.deref.ensures.value c.in_ok-put_pairs.ensures c.end_len.ensures.len
    c.byte_len-len.ensures c.in_ok-pad.ensures
