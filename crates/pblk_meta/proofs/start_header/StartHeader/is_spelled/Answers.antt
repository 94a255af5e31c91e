use Rattle.std.proofs.Common.{ap, take, ◌∙◌}
use Rattle.std.specs.Str.{bytes_eq}
use Rattle.pblk_meta.specs.Headers.{start_header}
use Rattle.pblk_meta.proofs.Pieces.{taken}
use Rattle.pblk_meta.proofs.start_header.StartHeader.is_spelled.Goals as goal

pub returns : goal.returns
returns c =
    c.are_same.ensures
    ∙ ap (λ xs. bytes_eq xs (take 64 c.args.bytes.now)) (taken c.write.new.out (start_header c.args.self.now) 64 c.write.ensures.len c.write.ensures.placed)
