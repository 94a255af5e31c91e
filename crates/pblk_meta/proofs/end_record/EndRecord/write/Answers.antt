use Rattle.std.proofs.Common.{◌∙◌, ap, subst}
use Rattle.std.specs.List.{AllByRecursion}
use Rattle.pblk_laws.specs.EndBlocks.{FitsBytes}
use Rattle.pblk_model.specs.EndRecord.{end_bytes, read_end}
use Rattle.pblk_meta.specs.Records.{end_numbers}
use Rattle.pblk_meta.proofs.end_record.EndRecord.write.Goals as goal

pub returns-clause-spelling : goal.returns-clause-spelling
returns-clause-spelling c = λ s size.
    let r = c.args.self.now in
    c.write_end.ensures.spelling s size ∙ ap (λ ms. end_bytes s (record { line = r.line; width = r.width; seq = r.seq; pairs = ms })) c.as_slice.ensures

pub returns-clause-again : goal.returns-clause-again
returns-clause-again c = λ s count size.
    let fit : AllByRecursion FitsBytes c.args.self.now.pairs = subst (AllByRecursion FitsBytes) c.as_slice.ensures c.write_end.ensures.fit in
    ap (read_end s c.args.self.now.line c.args.self.now.width c.args.self.now.seq) (returns-clause-spelling c s size)
    ∙ c.end_spelled_is_read.ensures s (end_numbers c.args.self.now) (record { count = count; marks = fit })
