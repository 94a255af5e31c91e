use Rattle.std.proofs.Common.{◌≡◌, ◌+◌, ◌<◌, ◌≤◌, true, length, sym, subst, subst₂, ap, ◌∙◌}
use Rattle.write_ring.specs.declared.view.View.{View}
use Rattle.pblk_core.specs.Named.{pad_of}
use Rattle.pblk_engine.specs.Hearts.{HeartView, heart_view, parts}
use Rattle.pblk_engine.specs.Takes.{HasTakenRow}
use Rattle.pblk_engine.specs.WorkSince.{HasWorkSince}
use Rattle.pblk_engine.proofs.Asks.{raised_since, raised_then}
use Rattle.pblk_engine.proofs.Held.{held_then, its_taken}
use Rattle.pblk_engine.proofs.WorkSince.{taken_work}
use Rattle.pblk_engine.proofs.heart.Heart.take_filled.Goals as goal

pub invariant_of-self : goal.invariant_of-self
invariant_of-self g c =
    let k = c.self.invariant.0 in
    let h = parts c.self.inside.core c.self.inside.author c.self.inside.intake.seat.me.0 in
    let new = parts c.take_and_settle.new.core c.take_and_settle.new.author c.take_and_settle.new.intake.seat.me.0 in
    let s = c.take_and_settle.ensures in (
      held_then g.M.Mount.chronicle g.M.Mount.ring g.M.Mount.past g.M.Mount.key c.self.inside.intake.seat.table_id h k
          c.take_and_settle.new.intake.seat.table_id new s.takes.decided s.legal (s.ring.0 ∙ c.requires.ring.0) (s.ring.1 ∙ c.requires.ring.1) s.settled,
      c.self.invariant.1,
      raised_then g.M.Mount.past.image c.self.inside.author c.take_and_settle.new.author c.self.inside.asked (pad_of c.self.inside.core)
          (pad_of c.take_and_settle.new.core) s.takes.decided c.self.invariant.2
          (raised_since g.M.Mount.past c.self.inside.author c.take_and_settle.new.author (pad_of c.self.inside.core) (pad_of c.take_and_settle.new.core)
          k.since s.takes.decided s.takes.pads),
    )

pub returns-clause-taken : goal.returns-clause-taken
returns-clause-taken g c =
    let s = c.take_and_settle.ensures in
    let a = c.take_and_settle.new.author in
    its_taken a.past.image a.known s.legal c.take_and_settle.new.core c.take_and_settle.new.intake.seat.me.0 s.settled.heart

pub returns-clause-count : goal.returns-clause-count
returns-clause-count g c =
    subst (λ (v : HeartView). length c.take_and_settle.new.intake.seat.me.0.intake.took + v.intake.intake.taken
    ≡ length v.intake.intake.took + c.take_and_settle.new.intake.seat.me.0.intake.taken) c.self.view_is c.take_and_settle.ensures.takes.count

pub returns-clause-as_put : goal.returns-clause-as_put
returns-clause-as_put g c = λ r put low high.
    subst (λ (v : View). HasTakenRow v c.take_and_settle.new.intake.seat.me.0 r) (ap (λ (v : HeartView). v.intake) c.self.view_is)
    (c.take_and_settle.ensures.takes.as_put r put (subst (λ (v : HeartView). v.intake.intake.taken ≤ r.position) (sym c.self.view_is) low) high)

pub returns-clause-worked : goal.returns-clause-worked
returns-clause-worked g c = λ rises.
    let s = c.take_and_settle.ensures in
    let k = c.self.invariant.0 in
    let old = c.self.inside.author.known in
    let a = c.take_and_settle.new.author in
    let heart = k.settled.heart in
    let was = its_taken g.M.Mount.past.image old k.legal c.self.inside.core c.self.inside.intake.seat.me.0 heart in
    let now = its_taken a.past.image a.known s.legal c.take_and_settle.new.core c.take_and_settle.new.intake.seat.me.0 s.settled.heart in
    subst (λ (v : HeartView). HasWorkSince v.author.known a.known) c.self.view_is
    (taken_work old a.known heart.stands.beginning heart.stands.has_begun s.takes.decided.keeps
    (subst₂ (λ m n. m < n) (ap (λ (v : HeartView). v.intake.intake.taken) (sym c.self.view_is) ∙ was) now rises))

pub returns-clause-none : goal.returns-clause-none
returns-clause-none g c = λ same.
    let s = c.take_and_settle.ensures in
    let old : View = c.self.inside.intake.seat.me.0 in
    let new : View = c.take_and_settle.new.intake.seat.me.0 in
    let none = s.takes.none (same ∙ ap (λ (v : HeartView). v.intake.intake.taken) (sym c.self.view_is)) in
    let key : new.key ≡ old.key = s.ring.1 ∙ c.requires.ring.1 ∙ sym c.self.invariant.0.its_key in
    (λ j. heart_view (none.0 j) (none.1 j) (record { found = new.found; pass = s.takes.pass j; intake = none.2 j; key = key j }) c.self.inside.asked
    c.self.inside.sector.items)
    ∙ ap (λ (v : HeartView). record v { intake = record v.intake { found = new.found } }) c.self.view_is

pub returns-clause-copying : goal.returns-clause-copying
returns-clause-copying g c = λ is. subst (λ (v : HeartView). v.copying ≡ true) c.self.view_is (c.take_and_settle.ensures.takes.copying is)
