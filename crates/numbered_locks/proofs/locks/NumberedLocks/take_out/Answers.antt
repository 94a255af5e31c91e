use Rattle.std.proofs.Common.{◌+◌, ◌∷◌, sym, ap, ◌∙◌, Some}
use Rattle.atomic_table.specs.Table.{rest}
use Rattle.numbered_locks.specs.declared.cell.Cell.TheVariants as cell
use Rattle.numbered_locks.proofs.locks.NumberedLocks.take_out.Goals as goal

pub exchange-found-requires : goal.exchange-found-requires
exchange-found-requires g c =
    let t = c.requires.taken in
    let x = Some (cell.Value t.0) in
    let is = ap (λ m. m.1) t.1 in
    (c.requires.locks, (x, is ∙ ap (λ r. (c.args.place + 1, x) ∷ r) (sym (ap rest is))))
