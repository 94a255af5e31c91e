use Rattle.std.proofs.Common.{ap, take, ◌∙◌}
use Rattle.std.specs.Str.{bytes_eq}
use Rattle.pblk_meta.specs.Headers.{end_header}
use Rattle.pblk_meta.proofs.Pieces.{taken}
use Rattle.pblk_meta.proofs.end_record.has_header.Goals as goal

pub returns : goal.returns
returns c =
    c.are_same.ensures
    ∙ ap (λ xs. bytes_eq xs (take 32 c.args.bytes.now))
    (taken c.write_header.new.out (end_header c.args.line c.args.width c.args.seq c.args.count) 32 c.write_header.ensures.len c.write_header.ensures.placed)
