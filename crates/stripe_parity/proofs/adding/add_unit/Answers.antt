use Rattle.std.proofs.Common.{◌≢◌, map, Some, sym, ap, ◌∙◌}
use Rattle.std.proofs.lemmas.Bool.{false≢true}
use Rattle.std.proofs.lemmas.Result.{err_from_is_err_and}
use Rattle.pblk_laws.specs.LineBlocks.{written_at}
use Rattle.unit_port.proofs.Units.{kept_none}
use Rattle.scan_recovery.specs.Units.{image_of}
use Rattle.scan_recovery.proofs.FetchSteps.{none_fetched}
use Rattle.stripe_parity.specs.Xors.{xor_given}
use Rattle.stripe_parity.proofs.UnitSums.{but_is_lost, but_is_there, given_block}
use Rattle.stripe_parity.proofs.adding.add_unit.Goals as goal

pub returns-then-is_lost-clause-sum : goal.returns-then-is_lost-clause-sum
returns-then-is_lost-clause-sum g c =
    ap (xor_given (record { sector = c.args.sum.now; mark = c.args.mark }))
    (sym (but_is_lost (image_of c.args.shape.now (map g.U.Unit.model c.args.units.now)) c.args.lost c.args.chunk c.args.block c.args.unit
    (c.is_lost.ensures.0 c.if-is_lost.true)))

pub returns-then-is_lost-clause-fetched : goal.returns-then-is_lost-clause-fetched
returns-then-is_lost-clause-fetched g c = none_fetched c.args.shape.now (map g.U.Unit.model c.args.units.now)

pub returns-then-is_lost-clause-kept : goal.returns-then-is_lost-clause-kept
returns-then-is_lost-clause-kept g c = kept_none (map g.U.Unit.model c.args.units.now)

pub is_written-requires-clause-closed : goal.is_written-requires-clause-closed
is_written-requires-clause-closed g c = λ k there.
    c.requires.closed k (λ same. false≢true (sym c.if-is_lost.false ∙ c.is_lost.ensures.1 same)) there

pub returns-then-not-is_written-clause-sum : goal.returns-then-not-is_written-clause-sum
returns-then-not-is_written-clause-sum g c =
    let other : c.args.lost ≢ Some c.args.unit = λ same. false≢true (sym c.if-is_lost.false ∙ c.is_lost.ensures.1 same) in
    let is = but_is_there (image_of c.args.shape.now (map g.U.Unit.model c.args.units.now)) c.args.lost c.args.chunk c.args.block c.args.unit other in
    ap (xor_given (record { sector = c.args.sum.now; mark = c.args.mark })) (sym (is ∙ c.is_written.ensures.unwritten c.if-not-is_written.true))

pub returns-then-not-is_written-clause-fetched : goal.returns-then-not-is_written-clause-fetched
returns-then-not-is_written-clause-fetched g c = none_fetched c.args.shape.now (map g.U.Unit.model c.args.units.now)

pub returns-then-not-is_written-clause-kept : goal.returns-then-not-is_written-clause-kept
returns-then-not-is_written-clause-kept g c = kept_none (map g.U.Unit.model c.args.units.now)

pub returns-in_err-found-clause-fetched : goal.returns-in_err-found-clause-fetched
returns-in_err-found-clause-fetched g c =
    let p = err_from_is_err_and c.from_residual.result c.from_residual.ensures.1 in
    let f = c.in_err-found.ensures.fetched in
    rw (p.1, p.2) (f.0, f.1)

pub returns-clause-fetched : goal.returns-clause-fetched
returns-clause-fetched g c =
    let f = c.in_ok-found.ensures.fetched in
    (f.0, f.1)

pub returns-clause-sum : goal.returns-clause-sum
returns-clause-sum g c =
    let other : c.args.lost ≢ Some c.args.unit = λ same. false≢true (sym c.if-is_lost.false ∙ c.is_lost.ensures.1 same) in
    let i = image_of c.args.shape.now (map g.U.Unit.model c.args.units.now) in
    rw (but_is_there i c.args.lost c.args.chunk c.args.block c.args.unit other)
    (given_block c.args.sum.now c.fetch_into.new.out c.xor_bytes.new.out c.args.mark c.in_ok-found.found c.xor_marks.result
    (written_at i c.args.chunk (c.args.unit, c.args.block))
    c.in_ok-found.ensures.block c.xor_bytes.ensures c.xor_marks.ensures)
