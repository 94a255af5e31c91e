use Rattle.std.proofs.Common.{◌≡◌, ◌≤◌, ◌-◌, ◌*◌, map, length, Some, None, sym, ap, subst, ◌∙◌, arith}
use Rattle.std.proofs.lemmas.Result.{err_from_is_err_and}
use Rattle.pblk_laws.proofs.LineUnits.{line_units_count}
use Rattle.pblk_layout.specs.Online.{units_in}
use Rattle.pblk_model.specs.Image.{width}
use Rattle.pblk_model.specs.LineOrder.{start_len}
use Rattle.pblk_model.specs.Shape.{units}
use Rattle.scan_recovery.specs.Fetches.{only_of}
use Rattle.scan_recovery.specs.Reading.{blocks_at}
use Rattle.scan_recovery.specs.Units.{image_of}
use Rattle.scan_recovery.proofs.FetchLines.{line_few, line_short}
use Rattle.scan_recovery.proofs.FetchSteps.{few_memory, few_more, only_up}
use Rattle.scan_recovery.proofs.PadLoops.{fit_image}
use Rattle.scan_recovery.proofs.Surveys.{front_count, start_few}
use Rattle.scan_recovery.proofs.scanning.read_start.Goals as goal

pub overflow_mul-len : goal.overflow_mul-len
overflow_mul-len g c =
    let short = line_short c.args.shape.now (map g.U.Unit.model c.args.units.now) c.args.line
    (units_in c.online_units-online.result) c.requires.accepted c.requires.fit c.online_units-online.ensures.units in
    let few = short.1 in
    omega (arith, few, ap (λ n. n * c.args.shape.now.clba) c.width.ensures.width)

pub fetch_run-requires-clause-inside : goal.fetch_run-requires-clause-inside
fetch_run-requires-clause-inside g c = omega (arith, c.min-to.ensures, ap (λ n. n * c.args.shape.now.clba) c.width.ensures.width)

pub returns-in_err-fetch_run-clause-fetched : goal.returns-in_err-fetch_run-clause-fetched
returns-in_err-fetch_run-clause-fetched g c =
    let p = err_from_is_err_and c.from_residual.result c.from_residual.ensures.1 in
    rw (p.1, p.2) (few_more c.args.shape.now (map g.U.Unit.model c.args.units.now) (map g.U.Unit.model c.fetch_run.new.units)
    (Some c.in_err-fetch_run.field-0.0) (only_of c.args.line (c.min-to.result - 0)) (only_of c.args.line (start_len c.args.shape.now))
    (λ other. only_up c.args.line (c.min-to.result - 0) (start_len c.args.shape.now) other
    (start_few c.args.shape.now c.new-layout.result c.start_len.result
    (c.width.result * c.args.shape.now.clba) c.min-to.result c.new-layout.ensures c.start_len.ensures.len c.min-to.ensures))
    c.in_err-fetch_run.ensures.fetched)

pub returns-in_err-blocks-clause-fetched : goal.returns-in_err-blocks-clause-fetched
returns-in_err-blocks-clause-fetched g c =
    let p = err_from_is_err_and c.from_residual-in_err-blocks.result c.from_residual-in_err-blocks.ensures.1 in
    rw (p.1, p.2) (few_memory c.args.shape.now (map g.U.Unit.model c.args.units.now) (map g.U.Unit.model c.fetch_run.new.units)
    (only_of c.args.line (start_len c.args.shape.now))
    (few_more c.args.shape.now (map g.U.Unit.model c.args.units.now) (map g.U.Unit.model c.fetch_run.new.units)
    None (only_of c.args.line (c.min-to.result - 0)) (only_of c.args.line (start_len c.args.shape.now))
    (λ other. only_up c.args.line (c.min-to.result - 0) (start_len c.args.shape.now) other
    (start_few c.args.shape.now c.new-layout.result c.start_len.result
    (c.width.result * c.args.shape.now.clba) c.min-to.result c.new-layout.ensures c.start_len.ensures.len c.min-to.ensures))
    c.in_ok-fetch_run.ensures.fetched))

pub returns-in_err-add-clause-fetched : goal.returns-in_err-add-clause-fetched
returns-in_err-add-clause-fetched g c =
    let p = err_from_is_err_and c.from_residual-in_err-add.result c.from_residual-in_err-add.ensures.1 in
    rw (p.1, p.2) (few_memory c.args.shape.now (map g.U.Unit.model c.args.units.now) (map g.U.Unit.model c.fetch_run.new.units)
    (only_of c.args.line (start_len c.args.shape.now))
    (few_more c.args.shape.now (map g.U.Unit.model c.args.units.now) (map g.U.Unit.model c.fetch_run.new.units)
    None (only_of c.args.line (c.min-to.result - 0)) (only_of c.args.line (start_len c.args.shape.now))
    (λ other. only_up c.args.line (c.min-to.result - 0) (start_len c.args.shape.now) other
    (start_few c.args.shape.now c.new-layout.result c.start_len.result
    (c.width.result * c.args.shape.now.clba) c.min-to.result c.new-layout.ensures c.start_len.ensures.len c.min-to.ensures))
    c.in_ok-fetch_run.ensures.fetched))

pub returns-clause-fetched : goal.returns-clause-fetched
returns-clause-fetched g c =
    few_more c.args.shape.now (map g.U.Unit.model c.args.units.now) (map g.U.Unit.model c.fetch_run.new.units)
    None (only_of c.args.line (c.min-to.result - 0)) (only_of c.args.line (start_len c.args.shape.now))
    (λ other. only_up c.args.line (c.min-to.result - 0) (start_len c.args.shape.now) other
    (start_few c.args.shape.now c.new-layout.result c.start_len.result
    (c.width.result * c.args.shape.now.clba) c.min-to.result c.new-layout.ensures c.start_len.ensures.len c.min-to.ensures))
    c.in_ok-fetch_run.ensures.fetched

pub add-requires-clause-width : goal.add-requires-clause-width
add-requires-clause-width g c =
    let few = line_few c.args.shape.now (map g.U.Unit.model c.args.units.now) c.args.line
    (units_in c.online_units-online.result) c.requires.fit c.online_units-online.ensures.units in
    subst (λ x. c.width-2.result ≤ units x) (sym c.new-layout.ensures) (omega (arith, few, c.width-2.ensures.width))

pub returns-clause-starts : goal.returns-clause-starts
returns-clause-starts g c =
    let us = map g.U.Unit.model c.args.units.now in
    let i = image_of c.args.shape.now us in
    let count : length (units_in c.online_units-online.result) ≡ width i c.args.line = ap length c.online_units-online.ensures.units
    ∙ line_units_count i c.args.line in
    c.in_ok-add.ensures i (sym c.new-layout.ensures) (fit_image c.args.shape.now us c.requires.fit) (record {
      blocks_are = c.deref.ensures.value ∙ c.in_ok-blocks.ensures ∙ c.in_ok-fetch_run.ensures.blocks
          ∙ ap (blocks_at i c.args.line 0)
          (front_count i c.args.line c.new-layout.result c.start_len.result (c.width.result * c.args.shape.now.clba) c.min-to.result c.new-layout.ensures
          c.start_len.ensures.len (ap (λ n. n * c.args.shape.now.clba) (c.width.ensures.width ∙ count)) c.min-to.ensures);
      width_is = c.width-2.ensures.width ∙ count;
      used_is = c.is_used-used.ensures;
    }) c.requires.starts
