use Rattle.std.proofs.Common.{◌≡◌, ◌<◌, ◌≤◌, ◌*◌, ◌^◌, length, Some, slice_get, sum_by, refl, ap, ◌∙◌, arith}
use Rattle.std.proofs.lemmas.Option.{slice_get_read}
use Rattle.pblk_model.specs.Shape.{units}
use Rattle.line_table.specs.Rows.{Table, free_len}
use Rattle.line_table.proofs.Tables.{keeps_changed, changes_row, sum_below, term_within, turned_is}
use Rattle.line_table.proofs.lines.Lines.turn.Goals as goal

pub overflow_add-self : goal.overflow_add-self
overflow_add-self c =
    let all : sum_by (free_len c.self.inside.layout) c.self.inside.rows.items ≤ length c.self.inside.rows.items * 2 ^ 32 =
    sum_below (free_len c.self.inside.layout) c.self.inside.rows.items (2 ^ 32) c.self.invariant.short in
    omega (arith, c.self.invariant.addresses, c.self.invariant.few, c.free_addresses_of-after.ensures.short)

pub invariant_of-self : goal.invariant_of-self
invariant_of-self c =
    let inside : c.args.line < length c.self.inside.rows.items = omega (arith, c.requires.inside, ap (λ (t : Table). length t.rows) c.self.view_is) in
    let here : slice_get c.self.inside.rows.items c.args.line ≡ Some c.index.result.now =
    slice_get_read c.self.inside.rows.items _ c.args.line c.index.result.now refl inside c.index.ensures in
    let within = term_within (free_len c.self.inside.layout) c.self.inside.rows.items c.args.line c.index.result.now here in
    keeps_changed c.self.inside.layout c.self.inside.free c.set.new.self c.self.inside.outlived c.set-2.new.self c.self.inside.free_addresses _
    c.self.inside.rows.items c.args.line
    c.index.result.now _ c.self.invariant here
    (omega (arith, c.requires.width, ap (λ (t : Table). units t.shape) c.self.view_is))
    (omega (arith, c.free_addresses_of-after.ensures.addresses, c.free_addresses_of-after.ensures.short))
    (c.set.ensures.set ∙ c.is_free.ensures) c.set.ensures.others
    (c.set-2.ensures.set ∙ c.is_outlived.ensures) c.set-2.ensures.others
    (omega (arith, c.free_addresses_of-before.ensures.addresses, c.free_addresses_of-after.ensures.addresses, c.self.invariant.addresses))

pub returns : goal.returns
returns c =
    let inside : c.args.line < length c.self.inside.rows.items = omega (arith, c.requires.inside, ap (λ (t : Table). length t.rows) c.self.view_is) in
    let here : slice_get c.self.inside.rows.items c.args.line ≡ Some c.index.result.now =
    slice_get_read c.self.inside.rows.items _ c.args.line c.index.result.now refl inside c.index.ensures in
    changes_row c.args.self.now c.self.inside.layout c.self.inside.rows.items c.args.line c.index.result.now _ _ c.self.view_is here
    (turned_is c.args.to c.args.width c.index.result.now c.kept.result c.kept.ensures)
