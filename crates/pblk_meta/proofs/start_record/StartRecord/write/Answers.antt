use Rattle.std.proofs.Common.{◌∙◌, ap, length, arith}
use Rattle.pblk_model.specs.StartRecord.{read_start}
use Rattle.pblk_meta.specs.Records.{start_numbers}
use Rattle.pblk_meta.proofs.Starts.{assembled}
use Rattle.pblk_meta.proofs.start_record.StartRecord.write.Goals as goal

pub returns-clause-spelling : goal.returns-clause-spelling
returns-clause-spelling c = λ s size.
    let rows = c.as_slice-rows.result.now in
    let room = c.requires.room in
    assembled s c.args.self.now c.header.result rows c.write.new.out c.put_rows-end.new.out c.put_zeros.new.out c.put_rows-end.result (length c.args.out.now)
    c.as_slice-rows.ensures c.header.ensures c.write.ensures.placed c.put_rows-end.ensures.placed c.put_zeros.ensures.placed c.put_rows-end.ensures.end
    (c.put_rows-end.ensures.len ∙ c.write.ensures.len) c.put_zeros.ensures.len size (omega (arith, ap length c.as_slice-rows.ensures))

pub returns-clause-again : goal.returns-clause-again
returns-clause-again c = λ s line g accepted inside wide fits size.
    ap (read_start s line g) (returns-clause-spelling c s size) ∙ c.spelled_is_read.ensures s line g (start_numbers c.args.self.now) accepted inside wide fits
