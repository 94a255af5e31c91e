use Rattle.std.proofs.Common.{◌≡◌, ◌∷◌, ◌++◌, [], sym, ap, subst, ◌∙◌}
use Rattle.unit_port.specs.Armed.{events_since}
use Rattle.ocssd_drive.specs.Arming.{finds, seat_after}
use Rattle.ocssd_drive.specs.Faults.{fault_of}
use Rattle.ocssd_drive.specs.Journal.{JournalView}
use Rattle.ocssd_drive.proofs.Kept.{kept_noted}
use Rattle.ocssd_drive.proofs.journal.Journal.note.Goals as goal

pub invariant_of-self : goal.invariant_of-self
invariant_of-self g c =
    let fault = subst (λ (j : JournalView). c.args.fault ≡ fault_of j.armed (events_since j.armed j.log) (finds j.seat) c.args.kind) (sym c.self.view_is) c.requires.fault in
    kept_noted c.self.inside (g.S.Shows.shown c.args.shown.now) c.args.kind c.args.fault _ _ c.count.new.self c.self.invariant
    c.requires.kind fault c.requires.fails c.requires.stops c.add.ensures c.saturating_add-self-inside.ensures
    (c.count.ensures.stop ∙ c.blow_at.ensures) (c.count.ensures.tallies _ _ _ c.requires.kind c.self.invariant.tallies)

pub returns-clause-log : goal.returns-clause-log
returns-clause-log g c = subst (λ (j : JournalView). c.add.new.self ≡ j.log ++ g.S.Shows.shown c.args.shown.now ∷ []) c.self.view_is c.add.ensures

pub returns-clause-armed : goal.returns-clause-armed
returns-clause-armed g c = ap (λ (j : JournalView). j.armed) c.self.view_is

pub returns-clause-seat : goal.returns-clause-seat
returns-clause-seat g c = c.count.ensures.stop ∙ c.blow_at.ensures ∙ ap (λ (j : JournalView). seat_after c.args.fault j.seat) c.self.view_is

pub returns-clause-calm : goal.returns-clause-calm
returns-clause-calm g c = (invariant_of-self g c).calm
