use Rattle.std.proofs.Common.{None, Some, sym}
use Rattle.image_check.proofs.LineLemmas.{found, unit_in, within}
use Rattle.image_check.proofs.line.Line.block.Goals as goal

pub returns-then-at-len : goal.returns-then-at-len
returns-then-at-len c = sym (c.len.ensures.past c.args.at c.if-at-len.true)

pub place-unit-requires-clause-inside : goal.place-unit-requires-clause-inside
place-unit-requires-clause-inside c = within c.self.inside c.args.self.now c.self.invariant c.self.view_is c.bits.result c.args.at c.len.result
    c.bits.ensures c.len.ensures.count c.if-at-len.false

pub unit-found-requires : goal.unit-found-requires
unit-found-requires c = unit_in c.self.inside c.args.self.now c.self.invariant c.self.view_is c.bits.result c.args.at c.len.result c.place-unit.result
    c.bits.ensures c.len.ensures.count c.if-at-len.false c.place-unit.ensures

pub returns-in-None : goal.returns-in-None
returns-in-None c = found c.self.inside c.args.self.now c.self.invariant c.self.view_is c.bits.result c.args.at c.len.result c.place-unit.result
    c.bits.ensures c.len.ensures.count c.if-at-len.false c.place-unit.ensures c.unit-found.result.now c.chunk-chunk.result.now.chunk None
    c.unit-found.ensures.unit c.unit-found.ensures.fits c.chunk-chunk.ensures.chunk c.in-None.ensures.block

pub returns-in-Some : goal.returns-in-Some
returns-in-Some c = found c.self.inside c.args.self.now c.self.invariant c.self.view_is c.bits.result c.args.at c.len.result c.place-unit.result
    c.bits.ensures c.len.ensures.count c.if-at-len.false c.place-unit.ensures c.unit-found.result.now c.chunk-chunk.result.now.chunk
    (Some (record { sector = c.in-Some.sector.now; mark = c.in-Some.mark }))
    c.unit-found.ensures.unit c.unit-found.ensures.fits c.chunk-chunk.ensures.chunk c.in-Some.ensures.block
