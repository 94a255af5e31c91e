use Rattle.std.proofs.Common.{◌≡◌, Some, subst}
use Rattle.pblk_laws.specs.LineBlocks.{chunk_in}
use Rattle.image_check.specs.Lines.{LineView}
use Rattle.image_check.proofs.DriveImage.{chunk_there}
use Rattle.image_check.proofs.line.Line.chunk.Goals as goal

pub returns-clause-chunk : goal.returns-clause-chunk
returns-clause-chunk c = subst (λ (x : LineView). chunk_in x.image x.number c.args.unit ≡ Some c.chunk.result.now.chunk) c.self.view_is
    (chunk_there c.self.inside.drive.now c.self.inside.number c.args.unit c.unit.result.now c.chunk.result.now.chunk
    c.unit.ensures.unit c.unit.ensures.fits c.chunk.ensures.chunk)
