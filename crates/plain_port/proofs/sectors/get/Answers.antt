use Rattle.plain_port.proofs.Cutting.{part_fits, get_at}
use Rattle.plain_port.proofs.sectors.get.Goals as goal

pub slice_bounds-copy_from_slice-end : goal.slice_bounds-copy_from_slice-end
slice_bounds-copy_from_slice-end c = part_fits c.args.size c.args.capacity c.args.lba c.args.count _ _ c.requires.sectors c.requires.bytes c.requires.inside

pub returns : goal.returns
returns c = rw c.copy_from_slice.ensures.after
    (get_at c.args.size c.args.capacity c.args.lba c.args.count _ c.args.sectors.now c.requires.sectors c.requires.bytes c.requires.inside)
