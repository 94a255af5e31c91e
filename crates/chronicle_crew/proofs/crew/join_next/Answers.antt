use Rattle.std.proofs.Common.{ap}
use Rattle.chronicle_crew.proofs.Joining.{joined}
use Rattle.chronicle_crew.proofs.crew.join_next.Goals as goal

pub returns : goal.returns
returns c =
    let e = c.join.ensures in
    record {
      joined = joined c.args.chronicle.now c.args.number c.args.others.author c.join.new.self c.args.hand c.requires.others c.requires.hand c.requires.number
          (ap (λ a. a.chronicle) e.joined) (ap (λ a. a.past) e.joined) (ap (λ a. a.owned) e.joined) e.own e.other_own;
    }
