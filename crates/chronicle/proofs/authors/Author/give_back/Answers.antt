use Rattle.std.proofs.Common.{◌∙◌, ap}
use Rattle.chronicle.proofs.Rests.{kept_rests, kept_writer}
use Rattle.chronicle.proofs.authors.Author.give_back.Goals as goal

pub invariant_of-result : goal.invariant_of-result
invariant_of-result c =
    let new = c.lend.ensures in
    record {
      empty = ap (λ m. m.1) new.new;
      bystander = record {
        rests = kept_rests _ _ c.self.inside.seat.me.0 _ _ _ _ new.new_of (ap (λ m. m.0) new.new) c.self.invariant.writer.rests;
        owns_none = ap (λ m. m.0.mine.owned) new.new;
      };
    }

pub invariant_of-self : goal.invariant_of-self
invariant_of-self c =
    let new = c.lend.ensures in
    record {
      empty = ap (λ m. m.1) new.kept ∙ c.self.invariant.empty;
      writer = kept_writer _ _ c.self.inside.seat.me.0 _ _ _ c.self.inside.number c.self.inside.appended new.of (ap (λ m. m.0) new.kept)
          c.self.invariant.writer;
    }
