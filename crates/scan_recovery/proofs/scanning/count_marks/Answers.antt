use Rattle.std.proofs.Common.{◌+◌, ◌*◌, ◌<◌, Some, None, map, length, refl, sym, ap, subst, ◌∙◌, arith}
use Rattle.std.specs.Option.{option_map}
use Rattle.std.proofs.lemmas.List.{length-map}
use Rattle.std.proofs.lemmas.Result.{err_from_is_err_and}
use Rattle.unit_port.proofs.Units.{kept_more, kept_none}
use Rattle.pblk_layout.specs.Online.{units_in}
use Rattle.pblk_model.proofs.Lists.{length_replicate}
use Rattle.pblk_laws.specs.LineBlocks.{written_at}
use Rattle.pblk_laws.proofs.LineUnits.{line_units_count}
use Rattle.world_laws.specs.Finding.{NoneOpen}
use Rattle.scan_recovery.specs.Fetches.{one_if, only_of, written_in, written_to}
use Rattle.scan_recovery.specs.Units.{image_of}
use Rattle.scan_recovery.proofs.FetchLines.{line_short, unit_placed, block_placed, placed_by}
use Rattle.scan_recovery.proofs.FetchSteps.{few_joined, few_memory, few_more, few_none, only_both, only_up, written_all, written_last, written_step}
use Rattle.scan_recovery.proofs.PadLoops.{fit_kept}
use Rattle.scan_recovery.proofs.Surveys.{count_first, count_marked, count_through, mount_line, mount_tops, own_is, seq_is, start_there}
use Rattle.scan_recovery.proofs.scanning.count_marks.Goals as goal

pub overflow_mul-at-end : goal.overflow_mul-at-end
overflow_mul-at-end g c =
    let short = line_short c.args.shape.now (map g.U.Unit.model c.args.units.now) c.args.line
    (units_in c.args.online) c.requires.accepted c.requires.fit c.requires.online in
    let few = short.1 in
    omega (arith, few, ap (λ n. n * c.args.shape.now.clba) c.width.ensures.width)

pub returns-in_err-sector-clause-fetched : goal.returns-in_err-sector-clause-fetched
returns-in_err-sector-clause-fetched g c =
    let p = err_from_is_err_and c.from_residual.result c.from_residual.ensures.1 in
    let us = map g.U.Unit.model c.args.units.now in
    let most = only_of c.args.line (written_in (image_of c.args.shape.now us) c.args.line) in
    rw (p.1, p.2) (few_memory c.args.shape.now us us most (few_none c.args.shape.now us most))

pub loop-at-init : goal.loop-at-init
loop-at-init g c =
    let us = map g.U.Unit.model c.args.units.now in
    let i = image_of c.args.shape.now us in
    record {
      ran = few_none c.args.shape.now us (only_of c.args.line (written_to i c.args.line 0));
      count = λ start is. count_first i c.args.line start c.args.count.now c.requires.count;
      sector = ap length (c.as_mut_slice-out.ensures.value ∙ c.in_ok-sector.ensures.items_if_clones_equal (λ y h. h))
          ∙ length_replicate c.args.shape.now.sector 0;
      kept = kept_none us;
      wear = refl;
    }

pub fetch_mark-requires-clause-fit : goal.fetch_mark-requires-clause-fit
fetch_mark-requires-clause-fit g c =
    fit_kept c.args.shape.now (map g.U.Unit.model c.args.units.now) (map g.U.Unit.model c.loop-at.units) c.requires.fit c.loop-at.invariant.kept

pub fetch_mark-requires-clause-closed : goal.fetch_mark-requires-clause-closed
fetch_mark-requires-clause-closed g c = subst NoneOpen (sym c.loop-at.invariant.ran.1.image) c.requires.closed

pub fetch_mark-requires-clause-unit : goal.fetch_mark-requires-clause-unit
fetch_mark-requires-clause-unit g c =
    let s = c.args.shape.now in
    let us = map g.U.Unit.model c.args.units.now in
    let inside : c.loop-at.at < length (units_in c.args.online) * s.clba =
    omega (arith, c.loop-at-test.true, ap (λ n. n * s.clba) c.width.ensures.width) in
    let within = unit_placed s us c.args.line c.loop-at.at
    (units_in c.args.online) c.place-unit.result c.requires.accepted c.requires.fit c.requires.online inside
    (placed_by s c.new-layout.result c.args.online c.bits.result c.loop-at.at c.place-unit.result c.new-layout.ensures c.bits.ensures
    c.place-unit.ensures) in
    omega (arith, within, length-map c.args.units.now g.U.Unit.model, c.loop-at.auto.units)

pub fetch_mark-requires-clause-size : goal.fetch_mark-requires-clause-size
fetch_mark-requires-clause-size g c = c.loop-at.invariant.sector

pub returns-in_err-mark-clause-fetched : goal.returns-in_err-mark-clause-fetched
returns-in_err-mark-clause-fetched g c =
    let p = err_from_is_err_and c.from_residual-in_err-mark.result c.from_residual-in_err-mark.ensures.1 in
    let s = c.args.shape.now in
    let i = image_of s (map g.U.Unit.model c.args.units.now) in
    let there = placed_by s c.new-layout.result c.args.online c.bits.result c.loop-at.at c.place-unit.result c.new-layout.ensures c.bits.ensures
    c.place-unit.ensures in
    let here = ap (λ j. written_at j c.args.line c.place-unit.result) c.loop-at.invariant.ran.1.image
    ∙ block_placed i c.args.line c.loop-at.at (units_in c.args.online) c.place-unit.result c.requires.accepted c.requires.online there in
    let one = one_if (written_at (image_of s (map g.U.Unit.model c.loop-at.units)) c.args.line c.place-unit.result) in
    let count = ap length c.requires.online ∙ line_units_count i c.args.line in
    rw (p.1, p.2) (few_joined s (map g.U.Unit.model c.args.units.now) (map g.U.Unit.model c.loop-at.units)
    (map g.U.Unit.model c.fetch_mark.new.units) (Some c.in_err-mark.field-0.0) (only_of c.args.line (written_to i c.args.line c.loop-at.at))
    (only_of c.args.line one) (only_of c.args.line (written_in i c.args.line))
    (λ other. only_both c.args.line (written_to i c.args.line c.loop-at.at) one (written_in i c.args.line) other
    (written_last i c.args.line c.loop-at.at _ here
    (omega (arith, c.loop-at-test.true, ap (λ n. n * s.clba) c.width.ensures.width, ap (λ n. n * s.clba) count))))
    c.loop-at.invariant.ran c.in_err-mark.ensures.fetched)

pub returns-in_err-mark-clause-kept : goal.returns-in_err-mark-clause-kept
returns-in_err-mark-clause-kept g c =
    kept_more (map g.U.Unit.model c.args.units.now) (map g.U.Unit.model c.loop-at.units)
    (map g.U.Unit.model c.fetch_mark.new.units) c.loop-at.invariant.kept c.fetch_mark.ensures.kept

pub count_block-requires-clause-mount : goal.count_block-requires-clause-mount
count_block-requires-clause-mount g c = c.requires.mount.mount

pub count_block-requires-clause-line : goal.count_block-requires-clause-line
count_block-requires-clause-line g c =
    mount_line (image_of c.args.shape.now (map g.U.Unit.model c.args.units.now)) c.args.mount.now c.args.line c.requires.mount c.requires.line

pub count_block-requires-clause-tops : goal.count_block-requires-clause-tops
count_block-requires-clause-tops g c =
    let i = image_of c.args.shape.now (map g.U.Unit.model c.args.units.now) in
    let start = start_there i c.args.line c.args.seq c.requires.seq in
    mount_tops i c.args.mount.now _ c.loop-at.count c.requires.mount (c.loop-at.invariant.count start.0 start.1)

pub returns-in_err-count_block-clause-fetched : goal.returns-in_err-count_block-clause-fetched
returns-in_err-count_block-clause-fetched g c =
    let p = err_from_is_err_and c.from_residual-in_err-count_block.result c.from_residual-in_err-count_block.ensures.1 in
    let s = c.args.shape.now in
    let i = image_of s (map g.U.Unit.model c.args.units.now) in
    let there = placed_by s c.new-layout.result c.args.online c.bits.result c.loop-at.at c.place-unit.result c.new-layout.ensures c.bits.ensures
    c.place-unit.ensures in
    let here = ap (λ j. written_at j c.args.line c.place-unit.result) c.loop-at.invariant.ran.1.image
    ∙ block_placed i c.args.line c.loop-at.at (units_in c.args.online) c.place-unit.result c.requires.accepted c.requires.online there in
    let one = one_if (written_at (image_of s (map g.U.Unit.model c.loop-at.units)) c.args.line c.place-unit.result) in
    let count = ap length c.requires.online ∙ line_units_count i c.args.line in
    rw (p.1, p.2) (few_memory s (map g.U.Unit.model c.args.units.now) (map g.U.Unit.model c.fetch_mark.new.units)
    (only_of c.args.line (written_in i c.args.line))
    (few_joined s (map g.U.Unit.model c.args.units.now) (map g.U.Unit.model c.loop-at.units)
    (map g.U.Unit.model c.fetch_mark.new.units) None (only_of c.args.line (written_to i c.args.line c.loop-at.at))
    (only_of c.args.line one) (only_of c.args.line (written_in i c.args.line))
    (λ other. only_both c.args.line (written_to i c.args.line c.loop-at.at) one (written_in i c.args.line) other
    (written_last i c.args.line c.loop-at.at _ here
    (omega (arith, c.loop-at-test.true, ap (λ n. n * s.clba) c.width.ensures.width, ap (λ n. n * s.clba) count))))
    c.loop-at.invariant.ran c.in_ok-mark.ensures.fetched))

pub returns-in_err-count_block-clause-kept : goal.returns-in_err-count_block-clause-kept
returns-in_err-count_block-clause-kept g c =
    kept_more (map g.U.Unit.model c.args.units.now) (map g.U.Unit.model c.loop-at.units)
    (map g.U.Unit.model c.fetch_mark.new.units) c.loop-at.invariant.kept c.fetch_mark.ensures.kept

pub loop-at-preserved : goal.loop-at-preserved
loop-at-preserved g c =
    let s = c.args.shape.now in
    let i = image_of s (map g.U.Unit.model c.args.units.now) in
    let there = placed_by s c.new-layout.result c.args.online c.bits.result c.loop-at.at c.place-unit.result c.new-layout.ensures c.bits.ensures
    c.place-unit.ensures in
    let here = ap (λ j. written_at j c.args.line c.place-unit.result) c.loop-at.invariant.ran.1.image
    ∙ block_placed i c.args.line c.loop-at.at (units_in c.args.online) c.place-unit.result c.requires.accepted c.requires.online there in
    let one = one_if (written_at (image_of s (map g.U.Unit.model c.loop-at.units)) c.args.line c.place-unit.result) in
    record {
      ran = few_joined s (map g.U.Unit.model c.args.units.now) (map g.U.Unit.model c.loop-at.units)
          (map g.U.Unit.model c.fetch_mark.new.units) None (only_of c.args.line (written_to i c.args.line c.loop-at.at))
          (only_of c.args.line one) (only_of c.args.line (written_to i c.args.line (c.loop-at.at + 1)))
          (λ other. only_both c.args.line (written_to i c.args.line c.loop-at.at) one (written_to i c.args.line (c.loop-at.at + 1)) other
          (written_step i c.args.line c.loop-at.at _ here))
          c.loop-at.invariant.ran c.in_ok-mark.ensures.fetched;
      count = λ start is. (let seq-is = seq_is i c.args.line c.args.seq start c.requires.seq is in
          count_marked i c.args.line start None c.loop-at.at c.args.mount.now s c.args.seq c.in_ok-mark.mark
          c.loop-at.count c.count_block.new.count c.requires.mount refl seq-is (c.requires.end start seq-is)
          (c.in_ok-mark.ensures.mark ∙ ap (option_map (λ b. b.mark)) here ∙ own_is i c.args.line c.loop-at.at _ refl)
          c.in_ok-count_block.ensures (c.loop-at.invariant.count start is));
      sector = omega (arith, c.loop-at.invariant.sector, c.fetch_mark.auto.out);
      kept = kept_more (map g.U.Unit.model c.args.units.now) (map g.U.Unit.model c.loop-at.units)
          (map g.U.Unit.model c.fetch_mark.new.units) c.loop-at.invariant.kept c.fetch_mark.ensures.kept;
      wear = c.fetch_mark.ensures.wear ∙ c.loop-at.invariant.wear;
    }

pub returns-clause-count : goal.returns-clause-count
returns-clause-count g c =
    let i = image_of c.args.shape.now (map g.U.Unit.model c.args.units.now) in
    let start = start_there i c.args.line c.args.seq c.requires.seq in
    let count = ap length c.requires.online ∙ line_units_count i c.args.line in
    count_through i c.args.line start.0 c.loop-at.at c.loop-at.count start.1
    (omega (
      arith,
      c.loop-at.auto.at-end,
      c.loop-at-test.false,
      ap (λ n. n * c.args.shape.now.clba) c.width.ensures.width,
      ap (λ n. n * c.args.shape.now.clba) count,
    )) (c.loop-at.invariant.count start.0 start.1)

pub returns-clause-fetched : goal.returns-clause-fetched
returns-clause-fetched g c =
    let s = c.args.shape.now in
    let i = image_of s (map g.U.Unit.model c.args.units.now) in
    let count = ap length c.requires.online ∙ line_units_count i c.args.line in
    few_more s (map g.U.Unit.model c.args.units.now) (map g.U.Unit.model c.loop-at.units) None
    (only_of c.args.line (written_to i c.args.line c.loop-at.at)) (only_of c.args.line (written_in i c.args.line))
    (λ other. only_up c.args.line (written_to i c.args.line c.loop-at.at) (written_in i c.args.line) other
    (written_all i c.args.line c.loop-at.at
    (omega (arith, c.loop-at.auto.at-end, ap (λ n. n * s.clba) c.width.ensures.width, ap (λ n. n * s.clba) count))))
    c.loop-at.invariant.ran
