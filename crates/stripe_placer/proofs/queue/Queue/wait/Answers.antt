use Rattle.std.proofs.Common.{◌≡◌, ◌<◌, ◌∷◌, ◌++◌, List, ℕ, drop, sym, ap, subst, ◌∙◌, arith}
use Rattle.std.specs.Prelude.{nat_lt, nat_le}
use Rattle.std.specs.List.{All, filter}
use Rattle.stripe_placer.specs.Entries.{Rises, Entries, with_entry}
use Rattle.stripe_placer.specs.Queues.{QueueView, queue}
use Rattle.stripe_placer.proofs.Rising.{last_rises}
use Rattle.stripe_placer.proofs.queue.Queue.wait.Goals as goal

pub invariant_of-self-else-lost : goal.invariant_of-self-else-lost
invariant_of-self-else-lost c =
    let below : All (λ q. q < c.args.position) c.self.inside.fresh.items =
    subst (λ (v : QueueView). All (λ q. q < c.args.position) v.entries.fresh) (sym c.self.view_is) (c.requires.rises c.if-lost.false) in
    record {
      lost_rise = c.self.invariant.lost_rise;
      fresh_rise = subst Rises (sym c.append.ensures.items) (last_rises c.self.inside.fresh.items c.args.position c.self.invariant.fresh_rise below);
      lost_room = c.self.invariant.lost_room;
      fresh_room = omega (arith, c.self.invariant.fresh_room, c.append.ensures.capacity);
    }

pub returns-then-lost-clause-entries : goal.returns-then-lost-clause-entries
returns-then-lost-clause-entries c =
    let p = c.args.position in
    let xs : List ℕ = c.self.inside.lost.items in
    let e : Entries = (queue c.self.inside).entries in
    let with_lost : List ℕ → Entries = λ ys. record { lost = ys; fresh = e.fresh; pad = e.pad } in
    let items : c.insert.new.queue.items ≡ filter (λ q. nat_lt q p) xs ++ p ∷ filter (λ q. nat_le p q) xs =
    c.insert.ensures.items ∙ ap (λ ys. ys ++ p ∷ drop c.place_of-index.result xs) c.place_of-index.ensures.below
    ∙ ap (λ ys. filter (λ q. nat_lt q p) xs ++ p ∷ ys) c.place_of-index.ensures.above in
    ap with_lost items ∙ ap (λ b. with_entry e p b) (sym c.if-lost.true) ∙ ap (λ (v : QueueView). with_entry v.entries p c.args.lost) c.self.view_is
