use Rattle.std.proofs.Common.{◌+◌, ap, arith, below_more}
use Rattle.std.proofs.lemmas.Option.{slice_get_within}
use Rattle.pblk_model.specs.declared.shape.Shape.{Shape}
use Rattle.pblk_core.proofs.FreedConditions.{none_spent_before}
use Rattle.pblk_core.proofs.SpentTables.{rows_standing}
use Rattle.pblk_core.proofs.target_core.Core.spent_line.Goals as goal

pub is_spent-requires-clause-noted : goal.is_spent-requires-clause-noted
is_spent-requires-clause-noted c =
    let rows = rows_standing c.args.self.now c.requires.standing in
    let found = c.in-Some.ensures.found in
    let within = slice_get_within c.args.self.now.lines.rows c.in-Some.line found.0 found.1 in
    omega (arith, within, rows.lines, rows.notes)

pub returns-then-is_spent-clause-least : goal.returns-then-is_spent-clause-least
returns-then-is_spent-clause-least c =
    none_spent_before c.args.self.now c.loop-line.from c.in-Some.line c.requires.standing c.loop-line.invariant.1 c.in-Some.ensures.least

pub overflow_add-from : goal.overflow_add-from
overflow_add-from c =
    let rows = rows_standing c.args.self.now c.requires.standing in
    let found = c.in-Some.ensures.found in
    let within = slice_get_within c.args.self.now.lines.rows c.in-Some.line found.0 found.1 in
    let few = c.requires.standing.legal.accepted.drive.lines_high in
    let same = ap (λ (s : Shape). s.chunks) c.requires.standing.stands.layout in
    omega (arith, within, rows.lines, few, same)

pub loop-line-smaller : goal.loop-line-smaller
loop-line-smaller c =
    let found = c.in-Some.ensures.found in
    let within = slice_get_within c.args.self.now.lines.rows c.in-Some.line found.0 found.1 in
    omega (arith, within, c.in-Some.ensures.from)

pub loop-line-preserved : goal.loop-line-preserved
loop-line-preserved c =
    let before =
    none_spent_before c.args.self.now c.loop-line.from c.in-Some.line c.requires.standing c.loop-line.invariant.1 c.in-Some.ensures.least in (
      c.loop-line.invariant.0,
      below_more _ _ before (λ spent. let yes = c.is_spent.ensures.1 spent in let no = c.if-is_spent.false in absurd cc),
    )

pub returns-clause-none : goal.returns-clause-none
returns-clause-none c = λ line.
    none_spent_before c.args.self.now c.loop-line.from (line + 1) c.requires.standing c.loop-line.invariant.1
    (λ m past below. c.in_default.ensures.none m past) line (omega arith)
