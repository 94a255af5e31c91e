use Rattle.std.proofs.Common.{◌≡◌, ◌≢◌, ◌≤◌, ◌++◌, ◌∷◌, [], List, length, sym, ap, subst, ◌∙◌, arith, length-append}
use Rattle.std.specs.List.{All}
use Rattle.stripe_placer.specs.OpenLines.{OpenLine, opened}
use Rattle.stripe_placer.specs.Placing.{Placing}
use Rattle.stripe_placer.specs.Inside.{FitsShape, Agree}
use Rattle.stripe_placer.proofs.Steps.{begun_agree}
use Rattle.stripe_placer.proofs.placer.Placer.begin.Goals as goal

pub invariant_of-self : goal.invariant_of-self
invariant_of-self c =
    let p = c.self.inside in
    let new : OpenLine = opened p.layout c.args.line c.args.online in
    let lines : c.open_slot.new.slots.items ≡ p.slots.items ++ new ∷ [] = c.open_slot.ensures.items ∙ ap (λ l. p.slots.items ++ l ∷ []) c.new.ensures.opened in
    let few : length p.slots.items ≤ 1 = subst (λ (v : Placing). length v.lines ≤ 1) (sym c.self.view_is) c.requires.few in
    let other : All (λ l. l.line ≢ c.args.line) p.slots.items =
    subst (λ (v : Placing). All (λ (l : OpenLine). l.line ≢ c.args.line) v.lines) (sym c.self.view_is) c.requires.another in
    let fits : FitsShape p.layout new = subst (λ (l : OpenLine). FitsShape p.layout l) c.new.ensures.opened c.new.ensures.fits in
    record {
      accepted = c.self.invariant.accepted;
      ring = c.self.invariant.ring;
      rows = c.self.invariant.rows;
      few = omega (arith, few, ap (λ xs. length xs) lines, length-append p.slots.items (new ∷ []));
      room = omega (arith, c.self.invariant.room, c.open_slot.ensures.capacity);
      agree = subst (λ (xs : List OpenLine). Agree p.layout p.units.items xs) (sym lines)
          (begun_agree p.layout p.units.items p.slots.items c.args.line c.args.online c.self.invariant.agree other fits);
    }
