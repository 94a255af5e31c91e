use Rattle.std.proofs.Common.{◌≡◌, ℕ, true, false, eqb, sym, ap, ◌∙◌}
use Rattle.std.specs.List.{list_any}
use Rattle.line_table.proofs.Opened.{is_full, is_failed, is_freed, is_dead, is_free_one}
use Rattle.line_table.proofs.opening.state.Goals as goal

pub returns-then-row : goal.returns-then-row
returns-then-row c = is_full c.args.layout.now c.args.found.now c.args.line c.args.row.now (sym c.is_some.ensures ∙ c.if-is_some.true) c.if-row.true

pub returns-else-row : goal.returns-else-row
returns-else-row c = is_failed c.args.layout.now c.args.found.now c.args.line c.args.row.now (sym c.is_some.ensures ∙ c.if-is_some.true) c.if-row.false

pub returns-then-contains : goal.returns-then-contains
returns-then-contains c =
    let stray : list_any (λ (y : ℕ). eqb y c.args.line) c.args.found.now.strays ≡ true = ap (list_any (λ (y : ℕ). eqb y c.args.line)) (sym c.as_slice.ensures)
    ∙ sym c.contains.ensures.value ∙ c.if-contains.true in
    is_freed c.args.layout.now c.args.found.now c.args.line c.args.row.now (sym c.is_some.ensures ∙ c.if-is_some.false) stray

pub returns-then-data_len-eq0 : goal.returns-then-data_len-eq0
returns-then-data_len-eq0 c =
    let stray : list_any (λ (y : ℕ). eqb y c.args.line) c.args.found.now.strays ≡ false = ap (list_any (λ (y : ℕ). eqb y c.args.line)) (sym c.as_slice.ensures)
    ∙ sym c.contains.ensures.value ∙ c.if-contains.false in
    is_dead c.args.layout.now c.args.found.now c.args.line c.args.width c.data_len.result c.args.row.now
    (sym c.is_some.ensures ∙ c.if-is_some.false) stray c.requires.width c.data_len.ensures.len c.if-data_len-eq0.true

pub returns-else-data_len-eq0 : goal.returns-else-data_len-eq0
returns-else-data_len-eq0 c =
    let stray : list_any (λ (y : ℕ). eqb y c.args.line) c.args.found.now.strays ≡ false = ap (list_any (λ (y : ℕ). eqb y c.args.line)) (sym c.as_slice.ensures)
    ∙ sym c.contains.ensures.value ∙ c.if-contains.false in
    is_free_one c.args.layout.now c.args.found.now c.args.line c.args.width c.data_len.result c.args.row.now
    (sym c.is_some.ensures ∙ c.if-is_some.false) stray c.requires.width c.data_len.ensures.len c.if-data_len-eq0.false
