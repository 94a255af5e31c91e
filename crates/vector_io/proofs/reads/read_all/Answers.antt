use Rattle.std.proofs.Common.{◌*◌, map, length, sym, ap, ◌≡◌, ◌<◌, ◌∙◌, arith}
use Rattle.pblk_model.specs.Blocks.{blocks_of}
use Rattle.ocssd_geometry.specs.Numbers.{numbers_of}
use Rattle.vector_io.specs.Plans.{read_of}
use Rattle.vector_io.proofs.Chunks.{map_there}
use Rattle.vector_io.proofs.ReadSteps.{none_read, read_more, all_read, put_block, old_block, part_size}
use Rattle.vector_io.proofs.WriteSteps.{sizes_kept}
use Rattle.vector_io.proofs.reads.read_all.Goals as goal

pub loop-i-init : goal.loop-i-init
loop-i-init g c = none_read (numbers_of c.args.geometry.now) c.args.addresses.now (map g.U.Unit.model c.args.units.now)
    (blocks_of c.args.size c.args.out.now c.args.marks.now) c.requires.taken

pub read_one-lost-requires-clause-sector : goal.read_one-lost-requires-clause-sector
read_one-lost-requires-clause-sector g c i u there =
    sizes_kept (map g.U.Unit.model c.args.units.now) (map g.U.Unit.model c.loop-i.units) c.args.size c.loop-i.invariant.way.kept c.requires.sector i u there
    ∙ sym (part_size c.loop-i.i c.args.size (length c.args.marks.now) c.loop-i.out (c.loop-i.auto.out ∙ c.requires.whole) (omega arith))

pub read_one-lost-requires-clause-taken : goal.read_one-lost-requires-clause-taken
read_one-lost-requires-clause-taken g c =
    c.loop-i.invariant.way.left c.loop-i.i _ (omega arith)
    (map_there (read_of (numbers_of c.args.geometry.now)) c.args.addresses.now c.loop-i.i _ c.loop-i-test.true)

pub loop-i-preserved : goal.loop-i-preserved
loop-i-preserved g c =
    let marks_len : length c.loop-i.marks ≡ length c.args.marks.now = c.loop-i.auto.marks in
    let whole : length c.loop-i.out ≡ length c.loop-i.marks * c.args.size = c.loop-i.auto.out ∙ c.requires.whole ∙ ap (λ n. n * c.args.size) (sym marks_len) in
    let within : c.loop-i.i < length c.loop-i.marks = omega arith in
    let one : length c.read_one-lost.new.out ≡ c.args.size = c.read_one-lost.auto.out
    ∙ part_size c.loop-i.i c.args.size (length c.loop-i.marks) c.loop-i.out whole within in
    read_more (numbers_of c.args.geometry.now) c.args.addresses.now (map g.U.Unit.model c.args.units.now) (map g.U.Unit.model c.loop-i.units)
    (map g.U.Unit.model c.read_one-lost.new.units)
    c.loop-i.i c.loop-i.failed c.with_bit-failed.result c.loop-i.empty c.with_bit-empty.result (blocks_of c.args.size c.args.out.now c.args.marks.now)
    (blocks_of c.args.size c.loop-i.out c.loop-i.marks) _ _
    c.read_one-lost.result.0 c.read_one-lost.result.1 _
    (record { sector = c.read_one-lost.new.out; mark = c.read_one-lost.new.mark }) c.loop-i-test.true c.loop-i.invariant
    (old_block c.args.size c.loop-i.out c.loop-i.marks c.loop-i.i _ within)
    (put_block c.args.size c.loop-i.i c.loop-i.out c.read_one-lost.new.out c.loop-i.marks c.read_one-lost.new.mark whole one within)
    c.read_one-lost.ensures.did c.read_one-lost.ensures.kept c.with_bit-failed.ensures c.with_bit-empty.ensures

pub returns-clause-reads : goal.returns-clause-reads
returns-clause-reads g c =
    all_read (numbers_of c.args.geometry.now) c.args.addresses.now (map g.U.Unit.model c.args.units.now)
    (map g.U.Unit.model c.loop-i.units) c.loop-i.i c.loop-i.failed c.loop-i.empty
    (blocks_of c.args.size c.args.out.now c.args.marks.now) (blocks_of c.args.size c.loop-i.out c.loop-i.marks) c.loop-i.invariant c.loop-i-test.false
