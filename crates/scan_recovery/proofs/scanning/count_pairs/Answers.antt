use Rattle.std.proofs.Common.{◌*◌, ◌<◌, Some, map, length, refl, sym, ap, ◌∙◌, arith}
use Rattle.std.proofs.lemmas.List.{length-map}
use Rattle.pblk_layout.specs.Online.{units_in}
use Rattle.pblk_laws.proofs.LineUnits.{line_units_count}
use Rattle.pblk_meta.specs.Records.{end_numbers}
use Rattle.scan_recovery.specs.Units.{image_of}
use Rattle.scan_recovery.proofs.FetchLines.{line_short, unit_placed, block_placed, placed_by}
use Rattle.scan_recovery.proofs.FetchSteps.{readable_block}
use Rattle.scan_recovery.proofs.Surveys.{count_first, count_marked, count_through, count_unwritten, mount_line, mount_tops, pair_is, seq_is, start_there}
use Rattle.scan_recovery.proofs.scanning.count_pairs.Goals as goal
use Rattle.scan_recovery.proofs.scanning.count_pairs.Goals.{then-is_written+in_ok-count_block, else-is_written}

pub overflow_mul-at-end : goal.overflow_mul-at-end
overflow_mul-at-end g c =
    let short = line_short c.args.shape.now (map g.U.Unit.model c.args.units.now) c.args.line
    (units_in c.args.online) c.requires.accepted c.requires.fit c.requires.online in
    let few = short.1 in
    omega (arith, few, ap (λ n. n * c.args.shape.now.clba) c.width.ensures.width)

pub loop-at-init : goal.loop-at-init
loop-at-init g c = λ start is. count_first (image_of c.args.shape.now (map g.U.Unit.model c.args.units.now)) c.args.line start c.args.count.now c.requires.count

pub is_written-requires-clause-unit : goal.is_written-requires-clause-unit
is_written-requires-clause-unit g c =
    let s = c.args.shape.now in
    let us = map g.U.Unit.model c.args.units.now in
    let inside : c.loop-at.at < length (units_in c.args.online) * s.clba =
    omega (arith, c.loop-at-test.true, ap (λ n. n * s.clba) c.width.ensures.width) in
    let within = unit_placed s us c.args.line c.loop-at.at
    (units_in c.args.online) c.place-unit.result c.requires.accepted c.requires.fit c.requires.online inside
    (placed_by s c.new-layout.result c.args.online c.bits.result c.loop-at.at c.place-unit.result c.new-layout.ensures c.bits.ensures
    c.place-unit.ensures) in
    omega (arith, within, length-map c.args.units.now g.U.Unit.model)

pub count_block-requires-clause-mount : goal.count_block-requires-clause-mount
count_block-requires-clause-mount g c = c.requires.mount.mount

pub count_block-requires-clause-line : goal.count_block-requires-clause-line
count_block-requires-clause-line g c =
    mount_line (image_of c.args.shape.now (map g.U.Unit.model c.args.units.now)) c.args.mount.now c.args.line c.requires.mount c.requires.line

pub count_block-requires-clause-tops : goal.count_block-requires-clause-tops
count_block-requires-clause-tops g c =
    let i = image_of c.args.shape.now (map g.U.Unit.model c.args.units.now) in
    let start = start_there i c.args.line c.args.seq c.requires.seq in
    mount_tops i c.args.mount.now _ c.loop-at.count c.requires.mount (c.loop-at.invariant start.0 start.1)

pub loop-at-preserved : goal.loop-at-preserved
loop-at-preserved g c = λ start is.
    let i = image_of c.args.shape.now (map g.U.Unit.model c.args.units.now) in
    let seq-is = seq_is i c.args.line c.args.seq start c.requires.seq is in
    let there = placed_by c.args.shape.now c.new-layout.result c.args.online c.bits.result c.loop-at.at c.place-unit.result c.new-layout.ensures c.bits.ensures
    c.place-unit.ensures in
    let here = block_placed i c.args.line c.loop-at.at (units_in c.args.online) c.place-unit.result c.requires.accepted c.requires.online there in
    elim c.if-is_written.branch [
      | then-is_written+in_ok-count_block w ↦
          let b = readable_block i c.args.line c.place-unit.result.0 c.place-unit.result.1 (c.is_written.ensures.written w.if-is_written.true) in
          rw w.count-is
          (count_marked i c.args.line start (Some (end_numbers c.args.end.now)) c.loop-at.at c.args.mount.now c.args.shape.now c.args.seq w.pair_at.result
          c.loop-at.count w.count_block.new.count c.requires.mount refl seq-is (c.requires.end start seq-is)
          (w.pair_at.ensures ∙ pair_is i c.args.line c.loop-at.at (end_numbers c.args.end.now) b.0 (sym here ∙ b.1))
          w.in_ok-count_block.ensures (c.loop-at.invariant start is))
      | else-is_written w ↦ rw w.count-is
          (count_unwritten i c.args.line start c.loop-at.at c.loop-at.count (sym here ∙ c.is_written.ensures.unwritten w.if-is_written.false)
          (c.loop-at.invariant start is))
    ]

pub returns : goal.returns
returns g c =
    let i = image_of c.args.shape.now (map g.U.Unit.model c.args.units.now) in
    let start = start_there i c.args.line c.args.seq c.requires.seq in
    let count = ap length c.requires.online ∙ line_units_count i c.args.line in
    record {
      count = count_through i c.args.line start.0 c.loop-at.at c.loop-at.count start.1
          (omega (
            arith,
            c.loop-at.auto.at-end,
            c.loop-at-test.false,
            ap (λ n. n * c.args.shape.now.clba) c.width.ensures.width,
            ap (λ n. n * c.args.shape.now.clba) count,
          )) (c.loop-at.invariant start.0 start.1);
    }

pub is_written-requires-clause-closed : goal.is_written-requires-clause-closed
is_written-requires-clause-closed g c = c.requires.closed c.args.line c.place-unit.result.0
