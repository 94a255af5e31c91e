use Rattle.std.proofs.Common.{◌≤◌, length, sym, subst, ◌∙◌}
use Rattle.pblk_world.specs.AtRest.{IsAtRest, IsCopyDue}
use Rattle.pblk_world.specs.Orders.{AreReset, NoneToFree}
use Rattle.pblk_world.specs.World.{Logs, log_of}
use Rattle.pblk_core.specs.Copies.{is_copying}
use Rattle.pblk_core.specs.Named.{pad_of}
use Rattle.pblk_core.specs.Resets.{IsToReset}
use Rattle.pblk_core.specs.declared.work.Work.TheVariants as works
use Rattle.chronicle.specs.Prefixes.{logs_of}
use Rattle.pblk_engine.specs.Hearts.{HeartView, parts}
use Rattle.pblk_engine.specs.Pumps.{IsBusy}
use Rattle.pblk_engine.proofs.Decisions.{collecting}
use Rattle.pblk_engine.proofs.Held.{beating_of, held_heart, held_mount}
use Rattle.pblk_engine.proofs.NextWork.{reset_now}
use Rattle.pblk_engine.proofs.RestingHearts.{collects_then, none_to_copy, rests, stands_then}
use Rattle.pblk_engine.proofs.heart.Heart.next_work.Goals as goal

pub next_work-requires : goal.next_work-requires
next_work-requires g c =
    let h = parts c.self.inside.core c.self.inside.author c.self.inside.intake.seat.me.0 in
    collecting h (beating_of g.M.Mount.chronicle g.M.Mount.ring g.M.Mount.past g.M.Mount.key c.self.inside.intake.seat.table_id h c.self.invariant.0)

pub returns-clause-reset : goal.returns-clause-reset
returns-clause-reset g c = λ line unit is.
    let k = c.self.invariant.0 in
    let i = g.M.Mount.past.image in
    let w = k.legal.world in
    let h = parts c.self.inside.core c.self.inside.author c.self.inside.intake.seat.me.0 in
    let mount = held_mount g.M.Mount.chronicle g.M.Mount.ring g.M.Mount.past g.M.Mount.key c.self.inside.intake.seat.table_id h k in
    let heart = held_heart g.M.Mount.chronicle g.M.Mount.ring g.M.Mount.past g.M.Mount.key c.self.inside.intake.seat.table_id h k in
    subst (λ (v : HeartView). IsToReset i (logs_of v.author.known) line unit) c.self.view_is
    (subst (λ (logs : Logs). IsToReset i logs line unit) k.legal.logs (c.next_work.ensures.reset i w line unit heart.stands is))

pub returns-clause-reset_first : goal.returns-clause-reset_first
returns-clause-reset_first g c = λ is.
    let k = c.self.invariant.0 in
    let i = g.M.Mount.past.image in
    let w = k.legal.world in
    let h = parts c.self.inside.core c.self.inside.author c.self.inside.intake.seat.me.0 in
    let mount = held_mount g.M.Mount.chronicle g.M.Mount.ring g.M.Mount.past g.M.Mount.key c.self.inside.intake.seat.table_id h k in
    let heart = held_heart g.M.Mount.chronicle g.M.Mount.ring g.M.Mount.past g.M.Mount.key c.self.inside.intake.seat.table_id h k in
    subst (λ (v : HeartView). AreReset i (logs_of v.author.known)) c.self.view_is
    (subst (AreReset i) k.legal.logs
    (reset_now i w c.self.inside.core c.self.inside.intake.seat.me.0 mount heart works.Copy (λ line unit e. absurd cc)
    (sym c.next_work.ensures.named ∙ is)))

pub returns-clause-rest : goal.returns-clause-rest
returns-clause-rest g c = λ why is other asked within.
    let k = c.self.invariant.0 in
    let i = g.M.Mount.past.image in
    let w = k.legal.world in
    let h = parts c.self.inside.core c.self.inside.author c.self.inside.intake.seat.me.0 in
    let mount = held_mount g.M.Mount.chronicle g.M.Mount.ring g.M.Mount.past g.M.Mount.key c.self.inside.intake.seat.table_id h k in
    let heart = held_heart g.M.Mount.chronicle g.M.Mount.ring g.M.Mount.past g.M.Mount.key c.self.inside.intake.seat.table_id h k in
    let v = c.self.inside.intake.seat.me.0 in
    let none = subst (NoneToFree i) (sym k.legal.logs) k.settled.none_to_free in
    subst (λ (x : HeartView). IsAtRest i (logs_of x.author.known) asked (length (logs_of x.author.known 0))) c.self.view_is
    (subst (λ (logs : Logs). IsAtRest i logs asked (length (logs 0))) k.legal.logs
    (rests i w c.self.inside.core v mount heart none why other
    (sym (c.next_work.ensures.work i heart.left.left heart.left.legal (stands_then i w c.self.inside.core v mount heart none)
    (collects_then i w c.self.inside.core v mount heart none)) ∙ is) asked (subst (λ (x : HeartView). asked ≤ x.pad) (sym c.self.view_is) within)))

pub returns-clause-busy : goal.returns-clause-busy
returns-clause-busy g c = λ is.
    let k = c.self.invariant.0 in
    let i = g.M.Mount.past.image in
    let w = k.legal.world in
    let core = c.self.inside.core in
    let h = parts core c.self.inside.author c.self.inside.intake.seat.me.0 in
    let mount = held_mount g.M.Mount.chronicle g.M.Mount.ring g.M.Mount.past g.M.Mount.key c.self.inside.intake.seat.table_id h k in
    let heart = held_heart g.M.Mount.chronicle g.M.Mount.ring g.M.Mount.past g.M.Mount.key c.self.inside.intake.seat.table_id h k in
    let busy : IsBusy i (log_of w) = record {
      pad = pad_of core;
      again = heart.stands.again;
      copying = is_copying core;
      asked = heart.collects.asked;
      busy = sym (c.next_work.ensures.work i w mount heart.stands heart.collects) ∙ is;
    } in
    subst (λ (v : HeartView). IsBusy i (logs_of v.author.known)) c.self.view_is (subst (IsBusy i) k.legal.logs busy)

pub returns-clause-no_copy : goal.returns-clause-no_copy
returns-clause-no_copy g c = λ why is other.
    let k = c.self.invariant.0 in
    let i = g.M.Mount.past.image in
    let w = k.legal.world in
    let h = parts c.self.inside.core c.self.inside.author c.self.inside.intake.seat.me.0 in
    let mount = held_mount g.M.Mount.chronicle g.M.Mount.ring g.M.Mount.past g.M.Mount.key c.self.inside.intake.seat.table_id h k in
    let heart = held_heart g.M.Mount.chronicle g.M.Mount.ring g.M.Mount.past g.M.Mount.key c.self.inside.intake.seat.table_id h k in
    let v = c.self.inside.intake.seat.me.0 in
    let none = subst (NoneToFree i) (sym k.legal.logs) k.settled.none_to_free in
    subst (λ (x : HeartView). ¬ IsCopyDue i (logs_of x.author.known)) c.self.view_is
    (subst (λ (logs : Logs). ¬ IsCopyDue i logs) k.legal.logs
    (none_to_copy i w c.self.inside.core v mount heart none why other
    (sym (c.next_work.ensures.work i heart.left.left heart.left.legal (stands_then i w c.self.inside.core v mount heart none)
    (collects_then i w c.self.inside.core v mount heart none)) ∙ is)))
