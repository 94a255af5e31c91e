use Rattle.std.proofs.Common.{◌%◌, length, sym, ap, ◌∙◌}
use Rattle.std.specs.Prelude.{slice_set}
use Rattle.std.specs.Option.{option_map_or}
use Rattle.pblk_core.specs.declared.hold.Hold.{Hold}
use Rattle.pblk_core.specs.Holds.{with_taker}
use Rattle.pblk_core.proofs.hold.Holds.set_taker.Goals as goal

pub returns : goal.returns
returns c =
    let rows = c.args.self.now.rows.items in
    c.set.ensures ∙ sym (ap (λ o. option_map_or (λ (h : Hold). slice_set rows (c.args.position % length rows) (with_taker c.args.by h)) o rows)
    c.get-hold.ensures)
