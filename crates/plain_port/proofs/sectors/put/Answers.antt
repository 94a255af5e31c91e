use Rattle.plain_port.proofs.Cutting.{part_fits, put_at}
use Rattle.std.proofs.Common.{arith, ◌≡◌, ◌+◌, ◌-◌, ◌*◌, length}
use Rattle.plain_port.proofs.sectors.put.Goals as goal
use Rattle.pblk_model.proofs.Parts.{put_part}

pub slice_bounds-copy_from_slice-end : goal.slice_bounds-copy_from_slice-end
slice_bounds-copy_from_slice-end c = part_fits c.args.size c.args.capacity c.args.lba c.args.count _ _ c.requires.sectors c.requires.bytes c.requires.inside

pub returns-clause-sectors : goal.returns-clause-sectors
returns-clause-sectors c =
    let a = c.args in
    let fits = part_fits a.size a.capacity a.lba a.count (length a.bytes.now) (length a.sectors.now) c.requires.sectors c.requires.bytes c.requires.inside in
    let n = a.lba * a.size + length a.bytes.now - a.lba * a.size in
    let same : n ≡ length a.bytes.now = omega arith in
    rw (put_part (a.lba * a.size) n a.sectors.now c.copy_from_slice.new.self a.bytes.now c.copy_from_slice.ensures.after same fits)
    (put_at a.size a.capacity a.lba a.count a.sectors.now a.bytes.now c.requires.sectors c.requires.bytes c.requires.inside)
