use Rattle.std.proofs.Common.{◌∙◌, ap}
use Rattle.chronicle.proofs.Rests.{joined_bystander}
use Rattle.chronicle.proofs.tokens.Token.take_back.Goals as goal

pub invariant_of-self : goal.invariant_of-self
invariant_of-self c =
    let heard = c.hear.ensures in
    record {
      empty = ap (λ m. m.1) heard.heard ∙ c.self.invariant.empty;
      bystander = joined_bystander _ _ c.self.inside.seat.me.0 _ c.lent.inside.seat.me.0.mine
          heard.of (ap (λ m. m.0) heard.heard) heard.legal heard.keeps c.lent.invariant.bystander.owns_none c.self.invariant.bystander;
    }

pub returns-clause-begun : goal.returns-clause-begun
returns-clause-begun c = (invariant_of-self c).bystander.rests.known.begun
