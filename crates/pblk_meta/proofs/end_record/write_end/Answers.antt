use Rattle.std.proofs.Common.{◌∙◌, refl, length}
use Rattle.pblk_meta.proofs.Ends.{assembled}
use Rattle.pblk_meta.proofs.end_record.write_end.Goals as goal

pub returns-clause-spelling : goal.returns-clause-spelling
returns-clause-spelling c = λ s size.
    let marks = c.args.marks.now in
    assembled s (record { line = c.args.line; width = c.args.width; seq = c.args.seq; pairs = marks }) marks c.write_header.new.out c.put_pairs-end.new.out
    c.put_zeros.new.out c.put_pairs-end.result (length c.args.out.now)
    refl c.write_header.ensures.placed c.put_pairs-end.ensures.placed c.put_zeros.ensures.placed c.put_pairs-end.ensures.end
    (c.put_pairs-end.ensures.len ∙ c.write_header.ensures.len) c.put_zeros.ensures.len size
