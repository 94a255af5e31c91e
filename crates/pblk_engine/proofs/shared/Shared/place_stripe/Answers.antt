use Rattle.std.proofs.Common.{inl, inr, sym, subst}
use Rattle.chronicle.specs.Prefixes.{Prefixes, ArePrefixes}
use Rattle.pblk_engine.specs.WorkSince.{HasPlacedOn, HasWorkSince}
use Rattle.pblk_engine.proofs.GoingOn.{all_known}
use Rattle.pblk_engine.proofs.shared.Shared.place_stripe.Goals as goal

pub returns-clause-worked : goal.returns-clause-worked
returns-clause-worked g c =
    let old = c.args.worker.now.known in
    let new = c.place-stops.new.self.author.known in
    subst (HasPlacedOn c.place-stops.new.into.stripe.unit old) (sym c.note.ensures.note_known)
    (elim c.place-stops.ensures.worked [
      | inl work ↦ inl (subst (λ (k : Prefixes). HasWorkSince k new) (sym c.requires.known) work)
      | inr again ↦ inr (record {
        looked = c.args.heart.now.author.known;
        since = subst (ArePrefixes old) c.requires.known (all_known old);
        within = c.place-stops.ensures.decided.keeps;
        stopped = again;
      })
    ])
