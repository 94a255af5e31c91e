use Rattle.std.proofs.Common.{◌≡◌, ◌<◌, ◌≤◌, ◌^◌, false, length, sym, subst, ap, ◌∙◌, arith}
use Rattle.std.specs.List.{Contains}
use Rattle.pblk_model.specs.Image.{Image}
use Rattle.pblk_model.specs.Shape.{units}
use Rattle.pblk_model.specs.declared.shape.Shape.{Shape}
use Rattle.pblk_world.specs.AtRest.{logs_at}
use Rattle.pblk_world.specs.EngineLog.{Placed, is_answered, placements}
use Rattle.pblk_world.specs.LegalMounts.{IsLegalMount}
use Rattle.pblk_world.specs.Orders.{NoneToFree}
use Rattle.pblk_world.specs.World.{World, Logs, log_of}
use Rattle.chronicle.specs.Prefixes.{logs_of}
use Rattle.chronicle.specs.Views.{Past}
use Rattle.pblk_engine.specs.Alone.{IsCopyAlone, at_look}
use Rattle.pblk_engine.specs.Hearts.{HeartView, IsHeart, Parts, parts}
use Rattle.pblk_engine.proofs.CopiesAlone.{copy_alone, waits_on}
use Rattle.pblk_engine.proofs.Held.{held_heart, held_mount}
use Rattle.pblk_engine.proofs.heart.Heart.has_stripe_under_way.Given.{Over}
use Rattle.pblk_engine.proofs.heart.Heart.has_stripe_under_way.Goals.{After-is_any_under_way, After-self}
use Rattle.pblk_engine.proofs.heart.Heart.has_stripe_under_way.Goals as goal

module _ (g : Over) (c : After-self g) where
  abbrev i : Image
  i = g.M.Mount.past.image

  abbrev w : World
  w = c.self.invariant.0.legal.world

  abbrev h : Parts
  h = parts c.self.inside.core c.self.inside.author c.self.inside.intake.seat.me.0

  mount : IsLegalMount i w
  mount = held_mount g.M.Mount.chronicle g.M.Mount.ring g.M.Mount.past g.M.Mount.key c.self.inside.intake.seat.table_id h c.self.invariant.0

  heart : IsHeart i (log_of w) c.self.inside.core c.self.inside.intake.seat.me.0
  heart = held_heart g.M.Mount.chronicle g.M.Mount.ring g.M.Mount.past g.M.Mount.key c.self.inside.intake.seat.table_id h c.self.invariant.0

  none_to_free : NoneToFree i (log_of w)
  none_to_free = subst (NoneToFree i) (sym c.self.invariant.0.legal.logs) c.self.invariant.0.settled.none_to_free

  few : units i.shape < 2 ^ 32
  few = let most : units i.shape ≤ 64 = c.self.invariant.0.fits.accepted.drive.few_units in omega arith

pub units-count-requires : goal.units-count-requires
units-count-requires g c =
    let d = (goal.at.units-count-requires g c).After-self in
    record { few = subst (λ (p : Past). units p.image.shape < 2 ^ 32) (sym c.self.invariant.0.since) (few g d) }

pub is_any_under_way-requires : goal.is_any_under_way-requires
is_any_under_way-requires g c =
    let d = (goal.at.is_any_under_way-requires g c).After-self in
    record {
      standing = record { image = i g d; world = w g d; legal = mount g d; stands = (heart g d).stands };
      count = c.units-count.ensures ∙ ap (λ (p : Past). units p.image.shape) c.self.invariant.0.since
          ∙ sym (ap (λ (s : Shape). units s) (heart g d).stands.layout);
    }

module _ (g : Over) (c : After-is_any_under_way g) where
  count_is : c.units-count.result ≡ units g.M.Mount.past.image.shape
  count_is = c.units-count.ensures ∙ ap (λ (p : Past). units p.image.shape) c.self.invariant.0.since

pub returns-clause-none : goal.returns-clause-none
returns-clause-none g c = λ is names.
    let d = (goal.at.returns-clause-none g c).After-self in
    let count = count_is g (goal.at.returns-clause-none g c).After-is_any_under_way in
    subst (λ (v : HeartView). IsCopyAlone (i g d) (at_look v.author.known)) c.self.view_is
    (subst (λ (logs : Logs). IsCopyAlone (i g d) (logs_at (length (logs 0)) logs)) c.self.invariant.0.legal.logs
    (copy_alone (i g d) (w g d) c.self.inside.core c.self.inside.intake.seat.me.0 (mount g d) (heart g d) (none_to_free g d)
    (ap (λ (v : HeartView). v.work) c.self.view_is ∙ names)
    (λ unit inside. c.is_any_under_way.ensures.none is unit (subst (λ n. unit < n) (sym count) inside))))

pub returns-clause-some : goal.returns-clause-some
returns-clause-some g c = λ is.
    let k = c.self.invariant.0 in
    let count = count_is g (goal.at.returns-clause-some g c).After-is_any_under_way in
    let on = c.is_any_under_way.ensures.some is in
    subst (λ (v : HeartView). (p : Placed) × Contains (placements (logs_of v.author.known 0)) p × (is_answered (logs_of v.author.known 0) p ≡ false))
    c.self.view_is
    (waits_on g.M.Mount.past.image (logs_of c.self.inside.author.known) c.self.inside.core k.settled.heart.stands on.0
    (subst (λ n. on.0 < n) count on.1) on.2)
