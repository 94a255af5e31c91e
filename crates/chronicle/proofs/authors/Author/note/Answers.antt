use Rattle.std.proofs.Common.{ap}
use Rattle.chronicle.proofs.Rests.{kept_rests}
use Rattle.chronicle.proofs.authors.Author.note.Goals as goal

pub invariant_of-result : goal.invariant_of-result
invariant_of-result c =
    let new = c.note.ensures in
    record {
      empty = ap (λ m. m.1) new.new;
      bystander = record {
        rests = kept_rests _ _ c.self.inside.seat.me.0 _ _ _ _ new.new_of (ap (λ m. m.0) new.new) c.self.invariant.writer.rests;
        owns_none = ap (λ m. m.0.mine.owned) new.new;
      };
      makes_none = ap (λ m. m.0.mine.makers) new.new;
      names_none = ap (λ m. m.0.mine.spare) new.new;
    }
