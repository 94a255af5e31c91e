use Rattle.std.proofs.Common.{◌≡◌, ℕ, ◌+◌, ◌-◌, ◌≤◌, subst, ap, ◌∙◌, arith, le_trans}
use Rattle.sector_pool.specs.declared.entry.Entry.{Entry as EntryOf}
use Rattle.write_ring.specs.Handles.{HasTaken}
use Rattle.write_ring.specs.declared.view.Key.{Key}
use Rattle.write_ring.specs.declared.seats.Taken.TheVariants as answer
use Rattle.write_ring.proofs.TakenOut.{has_taken}
use Rattle.write_ring.proofs.table.Ring.take.Goals as goal

same_answer : (e f : EntryOf) → answer.Entry e ≡ answer.Entry f → e ≡ f
same_answer e f is = cc

names : (turn at first taken low : ℕ) → turn ≡ at - first + 1 → taken ≡ at → low ≡ first → low ≤ at → turn + low ≡ taken + 1
names turn at first taken low is same begins order = omega arith

pub returns-then-turn-at-clause-entry : goal.returns-then-turn-at-clause-entry
returns-then-turn-at-clause-entry c = λ e is.
    let seat = c.args.intake.now.seat in
    let b = c.take_out-entry.ensures.back in
    subst (λ x. HasTaken seat.me.0 x c.take_out-entry.new.seat.me.0) (same_answer c.take_out-entry.result e is)
    (has_taken seat.me.0 c.take_out-entry.new.seat.me.0 _ c.find-turn.result b.0 _ c.find-turn.new.seat.me c.take_out-entry.result
    c.find-turn.ensures.found
    (names c.find-turn.result c.args.intake.now.taken c.args.self.now.first seat.me.0.intake.taken seat.me.0.key.first
    c.if-turn-at.true c.args.intake.now.taken_is (ap (λ (k : Key). k.first) c.requires.ring.1 ∙ c.args.self.now.begins)
    (le_trans c.args.intake.now.low c.args.intake.now.order)) c.take_out-entry.ensures.entry (ap (λ m. m.0) b.1) c.args.intake.now.for_copies
    c.args.intake.now.copies)
