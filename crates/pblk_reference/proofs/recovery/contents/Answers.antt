use Rattle.std.proofs.Common.{◌≡◌, ap, ◌∙◌, arith}
use Rattle.pblk_model.specs.Image.{Image}
use Rattle.pblk_reference.proofs.Newest.{sectors_more, all_sectors}
use Rattle.pblk_reference.proofs.recovery.contents.Goals as goal

pub loop-lba-preserved : goal.loop-lba-preserved
loop-lba-preserved c =
    sectors_more c.args.image.now c.loop-lba.lba c.loop-lba.sectors.items c.push.new.self.items c.in_ok-sector.sector c.in_ok-push.ensures.items
    c.in_ok-sector.ensures c.loop-lba.invariant

pub returns : goal.returns
returns c =
    let last : c.loop-lba.lba ≡ c.image.inside.shape.capacity = omega (arith, c.loop-lba.auto.lba-end, c.loop-lba-test.false) in
    all_sectors c.args.image.now c.loop-lba.lba c.loop-lba.sectors.items (last ∙ ap (λ (i : Image). i.shape.capacity) c.image.view_is) c.loop-lba.invariant
