use Rattle.std.proofs.Common.{◌≡◌, ◌+◌, ◌<◌, length, Some, slice_get, refl, sym, ap, ◌∙◌, arith}
use Rattle.std.proofs.lemmas.Option.{slice_get_read}
use Rattle.line_table.specs.Rows.{Table}
use Rattle.line_table.proofs.Tables.{keeps_counted, changes_row, live_left}
use Rattle.line_table.proofs.lines.Lines.gain.Goals as goal

pub invariant_of-self : goal.invariant_of-self
invariant_of-self c =
    let inside : c.args.line < length c.self.inside.rows.items = omega (arith, c.requires.inside, ap (λ (t : Table). length t.rows) c.self.view_is) in
    let here : slice_get c.self.inside.rows.items c.args.line ≡ Some c.index_mut.result.now =
    slice_get_read c.self.inside.rows.items _ c.args.line c.index_mut.result.now refl inside c.index_mut.ensures.value in
    keeps_counted c.self.inside.layout c.self.inside.free c.self.inside.outlived c.set.new.self c.self.inside.free_addresses c.self.inside.rows.items
    c.args.line c.index_mut.result.now _ c.self.invariant here refl refl
    (c.set.ensures.set ∙ sym (live_left c.index_mut.result.now.state (c.index_mut.result.now.live + 1) (omega arith))) c.set.ensures.others

pub returns : goal.returns
returns c =
    let inside : c.args.line < length c.self.inside.rows.items = omega (arith, c.requires.inside, ap (λ (t : Table). length t.rows) c.self.view_is) in
    let here : slice_get c.self.inside.rows.items c.args.line ≡ Some c.index_mut.result.now =
    slice_get_read c.self.inside.rows.items _ c.args.line c.index_mut.result.now refl inside c.index_mut.ensures.value in
    changes_row c.args.self.now c.self.inside.layout c.self.inside.rows.items c.args.line c.index_mut.result.now _ _ c.self.view_is here refl
