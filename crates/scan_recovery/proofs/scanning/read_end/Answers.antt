use Rattle.std.proofs.Common.{◌≡◌, ◌≤◌, ◌-◌, ◌*◌, map, length, Some, None, sym, ap, subst, ◌∙◌, arith}
use Rattle.std.proofs.lemmas.Result.{err_from_is_err_and}
use Rattle.pblk_laws.proofs.LineUnits.{line_units_count}
use Rattle.pblk_layout.specs.Online.{units_in}
use Rattle.pblk_model.specs.Image.{width}
use Rattle.pblk_model.specs.LineOrder.{end_len}
use Rattle.pblk_model.specs.Shape.{units}
use Rattle.scan_recovery.specs.Fetches.{only_of}
use Rattle.scan_recovery.specs.Units.{image_of}
use Rattle.scan_recovery.proofs.FetchLines.{line_few, line_short}
use Rattle.scan_recovery.proofs.FetchSteps.{few_memory, few_more, only_up}
use Rattle.scan_recovery.proofs.PadLoops.{fit_image}
use Rattle.scan_recovery.proofs.Surveys.{end_few, end_read, tail_is}
use Rattle.scan_recovery.proofs.scanning.read_end.Goals as goal

pub overflow_mul-len : goal.overflow_mul-len
overflow_mul-len g c =
    let short = line_short c.args.shape.now (map g.U.Unit.model c.args.units.now) c.args.line
    (units_in c.args.online) c.requires.accepted c.requires.fit c.requires.online in
    let few = short.1 in
    omega (arith, few, ap (λ n. n * c.args.shape.now.clba) c.width-width.ensures.width)

pub end_len-requires : goal.end_len-requires
end_len-requires g c =
    let few = line_few c.args.shape.now (map g.U.Unit.model c.args.units.now) c.args.line (units_in c.args.online) c.requires.fit c.requires.online in
    subst (λ x. c.width-width.result ≤ units x) (sym c.new-layout.ensures) (omega (arith, few, c.width-width.ensures.width))

pub fetch_run-requires-clause-inside : goal.fetch_run-requires-clause-inside
fetch_run-requires-clause-inside g c = omega (arith, ap (λ n. n * c.args.shape.now.clba) c.width-width.ensures.width)

pub returns-in_err-fetch_run-clause-fetched : goal.returns-in_err-fetch_run-clause-fetched
returns-in_err-fetch_run-clause-fetched g c =
    let p = err_from_is_err_and c.from_residual.result c.from_residual.ensures.1 in
    let most = end_len c.args.shape.now (length (units_in c.args.online)) in
    rw (p.1, p.2) (few_more c.args.shape.now (map g.U.Unit.model c.args.units.now) (map g.U.Unit.model c.fetch_run.new.units)
    (Some c.in_err-fetch_run.field-0.0) (only_of c.args.line (c.width-width.result * c.args.shape.now.clba - c.saturating_sub-from.result))
    (only_of c.args.line most)
    (λ other. only_up c.args.line (c.width-width.result * c.args.shape.now.clba - c.saturating_sub-from.result) most other
    (end_few c.args.shape.now c.new-layout.result c.width-width.result (length (units_in c.args.online)) c.end_len.result
    (c.width-width.result * c.args.shape.now.clba) c.saturating_sub-from.result
    c.new-layout.ensures c.width-width.ensures.width c.end_len.ensures.len c.saturating_sub-from.ensures))
    c.in_err-fetch_run.ensures.fetched)

pub returns-in_err-blocks-clause-fetched : goal.returns-in_err-blocks-clause-fetched
returns-in_err-blocks-clause-fetched g c =
    let p = err_from_is_err_and c.from_residual-in_err-blocks.result c.from_residual-in_err-blocks.ensures.1 in
    let most = end_len c.args.shape.now (length (units_in c.args.online)) in
    rw (p.1, p.2) (few_memory c.args.shape.now (map g.U.Unit.model c.args.units.now) (map g.U.Unit.model c.fetch_run.new.units) (only_of c.args.line most)
    (few_more c.args.shape.now (map g.U.Unit.model c.args.units.now) (map g.U.Unit.model c.fetch_run.new.units)
    None (only_of c.args.line (c.width-width.result * c.args.shape.now.clba - c.saturating_sub-from.result)) (only_of c.args.line most)
    (λ other. only_up c.args.line (c.width-width.result * c.args.shape.now.clba - c.saturating_sub-from.result) most other
    (end_few c.args.shape.now c.new-layout.result c.width-width.result (length (units_in c.args.online)) c.end_len.result
    (c.width-width.result * c.args.shape.now.clba) c.saturating_sub-from.result
    c.new-layout.ensures c.width-width.ensures.width c.end_len.ensures.len c.saturating_sub-from.ensures))
    c.in_ok-fetch_run.ensures.fetched))

pub end_in-requires : goal.end_in-requires
end_in-requires g c =
    let few = line_few c.args.shape.now (map g.U.Unit.model c.args.units.now) c.args.line (units_in c.args.online) c.requires.fit c.requires.online in
    record { width = subst (λ x. c.width-width.result ≤ units x) (sym c.new-layout.ensures) (omega (arith, few, c.width-width.ensures.width)) }

pub returns-in_err-end-clause-fetched : goal.returns-in_err-end-clause-fetched
returns-in_err-end-clause-fetched g c =
    let p = err_from_is_err_and c.from_residual-in_err-end.result c.from_residual-in_err-end.ensures.1 in
    let most = end_len c.args.shape.now (length (units_in c.args.online)) in
    rw (p.1, p.2) (few_memory c.args.shape.now (map g.U.Unit.model c.args.units.now) (map g.U.Unit.model c.fetch_run.new.units) (only_of c.args.line most)
    (few_more c.args.shape.now (map g.U.Unit.model c.args.units.now) (map g.U.Unit.model c.fetch_run.new.units)
    None (only_of c.args.line (c.width-width.result * c.args.shape.now.clba - c.saturating_sub-from.result)) (only_of c.args.line most)
    (λ other. only_up c.args.line (c.width-width.result * c.args.shape.now.clba - c.saturating_sub-from.result) most other
    (end_few c.args.shape.now c.new-layout.result c.width-width.result (length (units_in c.args.online)) c.end_len.result
    (c.width-width.result * c.args.shape.now.clba) c.saturating_sub-from.result
    c.new-layout.ensures c.width-width.ensures.width c.end_len.ensures.len c.saturating_sub-from.ensures))
    c.in_ok-fetch_run.ensures.fetched))

pub returns-clause-fetched : goal.returns-clause-fetched
returns-clause-fetched g c =
    let most = end_len c.args.shape.now (length (units_in c.args.online)) in
    few_more c.args.shape.now (map g.U.Unit.model c.args.units.now) (map g.U.Unit.model c.fetch_run.new.units)
    None (only_of c.args.line (c.width-width.result * c.args.shape.now.clba - c.saturating_sub-from.result)) (only_of c.args.line most)
    (λ other. only_up c.args.line (c.width-width.result * c.args.shape.now.clba - c.saturating_sub-from.result) most other
    (end_few c.args.shape.now c.new-layout.result c.width-width.result (length (units_in c.args.online)) c.end_len.result
    (c.width-width.result * c.args.shape.now.clba) c.saturating_sub-from.result
    c.new-layout.ensures c.width-width.ensures.width c.end_len.ensures.len c.saturating_sub-from.ensures))
    c.in_ok-fetch_run.ensures.fetched

pub returns-clause-end : goal.returns-clause-end
returns-clause-end g c = λ start seq-is.
    let us = map g.U.Unit.model c.args.units.now in
    let i = image_of c.args.shape.now us in
    let count : length (units_in c.args.online) ≡ width i c.args.line = ap length c.requires.online ∙ line_units_count i c.args.line in
    end_read i c.args.line start c.new-layout.result c.width-width.result c.args.seq c.deref.result.now _ c.requires.accepted
    (fit_image c.args.shape.now us c.requires.fit) c.new-layout.ensures (c.width-width.ensures.width ∙ count) seq-is
    (c.deref.ensures.value ∙ c.in_ok-blocks.ensures ∙ c.in_ok-fetch_run.ensures.blocks
    ∙ tail_is i c.args.line c.new-layout.result c.width-width.result c.end_len.result
    (c.width-width.result * c.args.shape.now.clba) c.saturating_sub-from.result
    c.new-layout.ensures (c.width-width.ensures.width ∙ count) c.end_len.ensures.len
    (ap (λ n. n * c.args.shape.now.clba) (c.width-width.ensures.width ∙ count)) c.saturating_sub-from.ensures)
    c.in_ok-end.ensures.end
