use Rattle.std.proofs.Common.{◌/◌, ◌∙◌, length, ap, refl}
use Rattle.std.specs.List.{list_all}
use Rattle.std.specs.Str.{bytes_eq}
use Rattle.pblk_model.specs.Bytes.{le64}
use Rattle.run_threads.proofs.Tags.{pieces_eq}
use Rattle.run_threads.proofs.sectors.repeats.Goals as goal

pub loop-piece-init : goal.loop-piece-init
loop-piece-init c =
    ap (list_all (λ ys. bytes_eq ys (le64 c.args.number))) c.as_chunks.ensures.front
    ∙ pieces_eq (length c.args.bytes.now / 8) (le64 c.args.number) c.args.bytes.now refl c.requires
