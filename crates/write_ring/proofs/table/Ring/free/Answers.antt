use Rattle.std.proofs.Common.{Some, sym, ap, ◌∙◌, refl, arith}
use Rattle.write_ring.proofs.Plays.{takes_empty_at, frees_at, turn_inside}
use Rattle.write_ring.proofs.table.Ring.free.Goals as goal

pub load-requires : goal.load-requires
load-requires c =
    let r = c.args.self.now in
    let i = c.args.intake.now in (
      c.requires.ring.0,
      turn_inside i.freed r.size _ r.some r.words,
      takes_empty_at _ _ _ _ _ _ (r.slots ∙ sym r.sized) r.sized (sym i.freed_is) i.at_rest i.on i.home c.requires.taken,
    )

pub store-requires : goal.store-requires
store-requires c =
    let r = c.args.self.now in
    let i = c.args.intake.now in
    let l = c.load.ensures in
    let e = c.exchange-old.ensures in
    let freed = ap (λ m. m.0.intake.freed) l.2 in (
      e.0 ∙ l.0 ∙ c.requires.ring.0,
      omega (arith, r.words),
      frees_at _ _ _ _ _ _ _ _ _ (r.slots ∙ sym r.sized) r.sized r.some e.3 (sym i.freed_is ∙ sym freed) (ap (λ m. m.0.intake.on) l.2 ∙ i.on)
          (ap (λ m. m.0.intake.away) l.2 ∙ ap Some (sym freed))
          (c.args.frame, refl, c.requires.own ∙ sym (ap (λ k. k.origin.region) (ap (λ m. m.0.key) l.2 ∙ c.requires.ring.1))),
    )
