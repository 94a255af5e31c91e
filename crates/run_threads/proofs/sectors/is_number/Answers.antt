use Rattle.std.proofs.Common.{◌≡◌, length, rules}
use Rattle.run_threads.proofs.Tags.{number_eq}
use Rattle.run_threads.proofs.sectors.is_number.Goals as goal

pub returns : goal.returns
returns c =
    let long : length c.args.bytes ≡ 8 = search rules in
    number_eq c.args.bytes c.from_le_bytes.result c.args.number long c.are_bytes.ensures c.from_le_bytes.ensures c.ranges.number.fits
