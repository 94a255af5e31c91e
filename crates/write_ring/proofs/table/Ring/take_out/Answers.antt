use Rattle.std.proofs.Common.{◌≡◌, ◌∷◌, [], ◌%◌, sym, ◌∙◌, subst}
use Rattle.write_ring.specs.declared.cell.Cell.TheVariants as cell
use Rattle.write_ring.proofs.Plays.{gives_back_at, in_front, turn_inside}
use Rattle.write_ring.proofs.table.Ring.take_out.Goals as goal

pub exchange-old-requires : goal.exchange-old-requires
exchange-old-requires c =
    let f = c.requires.front in
    let l = c.args.seat.now.me.1 in
    let at = c.args.at in
    let front = subst (λ k. l ≡ (at % k, cell.Filled f.0) ∷ []) c.args.self.now.sized f.1 in
    (c.requires.ring, (cell.Filled f.0, in_front l (at % c.args.self.now.size) (cell.Filled f.0) front))

pub load-requires : goal.load-requires
load-requires c =
    let r = c.args.self.now in
    let e = c.exchange-old.ensures in (
      e.0 ∙ c.requires.ring,
      turn_inside c.args.at r.size _ r.some r.words,
      gives_back_at _ _ _ _ _ _ _ _ (r.slots ∙ sym r.sized) r.sized r.some e.3 c.requires.on c.requires.away,
    )
