use Rattle.std.proofs.Common.{sym, ap, ◌∙◌, subst}
use Rattle.write_ring.specs.Frames.{Fits, entry_row}
use Rattle.write_ring.proofs.Plays.{fills_at, turn_inside}
use Rattle.write_ring.proofs.table.Ring.put_at.Goals as goal

pub store-requires : goal.store-requires
store-requires c =
    let r = c.args.self.now in
    let q = c.requires in
    let e = c.exchange-old.ensures in (
      e.0 ∙ q.ring,
      turn_inside c.args.at r.size _ r.some r.words,
      fills_at _ _ _ _ _ _ _ _ _ _ (r.slots ∙ sym r.sized) r.sized r.begins e.3 q.next q.sharing q.some_open q.position q.class
          (subst (λ k. Fits k (entry_row c.args.entry)) (sym q.key) q.fits) (q.own ∙ sym (ap (λ k. k.origin.region) q.key)),
    )
