use Rattle.std.proofs.Common.{◌≡◌, ◌∷◌, inl, inr, true, false, List, refl, sym, subst, ap, ◌∙◌}
use Rattle.pblk_world.specs.Events.{Decides, Place, Logged}
use Rattle.pblk_world.specs.Legal.{IsAllowed}
use Rattle.pblk_world.specs.World.{Logs, log_of}
use Rattle.core_laws.specs.PlacerOf.{was_stopped_on}
use Rattle.step_laws.specs.Whole.{engine_step}
use Rattle.chronicle.specs.Handles.{AuthorView}
use Rattle.chronicle.specs.Prefixes.{logs_of}
use Rattle.pblk_engine.specs.Placements.{IsPlacedAs}
use Rattle.pblk_engine.specs.Hearts.{parts}
use Rattle.pblk_engine.proofs.Asks.{raised_appended}
use Rattle.pblk_engine.proofs.Decisions.{collecting, its_heart, its_mount, no_further}
use Rattle.pblk_engine.proofs.Knowledge.{known_next}
use Rattle.pblk_engine.proofs.Openings.{after_place, beating_again, may_place}
use Rattle.pblk_engine.proofs.PlacedAs.{count_same, newest, newest_waits, placed_as}
use Rattle.pblk_engine.proofs.Settles.{beating_appended, decided_none, decided_one, is_zero}
use Rattle.pblk_engine.proofs.WorkSince.{decided_now}
use Rattle.pblk_engine.proofs.placing.place.Goals as goal

pub place-requires : goal.place-requires
place-requires c =
    let h = parts c.args.core.now c.args.author.now c.args.intake.now.seat.me.0 in
    record {
      collecting = collecting h c.requires.beating;
      named = c.requires.named;
      shape = c.requires.shape ∙ sym c.requires.beating.heart.stands.layout;
    }

pub append-requires : goal.append-requires
append-requires c =
    let h = parts c.args.core.now c.args.author.now c.args.intake.now.seat.me.0 in
    let b = c.requires.beating in
    let stripe = c.place.new.into.stripe in
    let p = c.place.ensures in
    let anew : c.place.new.into.again ≡ false = sym c.is_again.ensures ∙ c.if-not-is_again.true in
    record {
      of = c.requires.of;
      allowed = subst (λ n. IsAllowed c.args.author.now.past.image n (Decides (Place stripe)) (logs_of c.args.author.now.known)) (sym b.engine.number)
          (may_place h b c.requires.none stripe c.place.new.self c.requires.named p.window p.kept (p.legal anew));
      quiet = refl;
    }

pub returns-then-not-is_again : goal.returns-then-not-is_again
returns-then-not-is_again c =
    let h = parts c.args.core.now c.args.author.now c.args.intake.now.seat.me.0 in
    let b = c.requires.beating in
    let i = c.args.author.now.past.image in
    let w = b.legal.world in
    let stripe = c.place.new.into.stripe in
    let p = c.place.ensures in
    let anew : c.place.new.into.again ≡ false = sym c.is_again.ensures ∙ c.if-not-is_again.true in
    let may = p.legal anew i w (its_mount h b) (its_heart h b).stands in
    let log : logs_of c.append.new.self.known 0 ≡ log_of (engine_step i.shape (Place stripe) w ∷ w) 0 =
    ap (λ (a : AuthorView). logs_of a.known 0) (is_zero h b (Place stripe) c.append.new.self c.append.ensures.appended)
    ∙ ap (λ (logs : Logs). logs 0) (known_next i c.args.author.now.known b.legal (Place stripe)) in
    let allowed = may_place h b c.requires.none stripe c.place.new.self c.requires.named p.window p.kept (p.legal anew) in
    let is = after_place h b c.requires.none stripe c.place.new.self c.requires.named p.window p.kept (p.legal anew) (p.due anew) (p.stands anew)
    (p.collects anew) in
    record {
      beating = beating_appended h b (Place stripe) c.append.new.self c.append.ensures.appended c.place.new.self c.args.intake.now.seat.me.0
          allowed refl is;
      pads = raised_appended h b (Place stripe) c.append.new.self c.append.ensures.appended c.place.new.self c.args.intake.now.seat.me.0 allowed is;
      decided = decided_one h b (Place stripe) c.append.new.self c.append.ensures.appended;
      placed = subst (λ (l : List Logged). IsPlacedAs l c.place.new.into) (sym log)
          (placed_as (log_of (engine_step i.shape (Place stripe) w ∷ w) 0) c.place.new.into (newest i w stripe b.legal.legal may)
          (newest_waits i w stripe b.legal.legal may) refl
          (p.turn i w (its_mount h b) (its_heart h b).stands ∙ sym (count_same i w stripe b.legal.legal may)));
      worked = inl (decided_now _ i c.args.author.now c.append.new.self (Place stripe) refl b.engine.number b.legal c.append.ensures.appended);
      under_way = p.under_way;
      shape = p.shape;
      kept = p.kept;
    }

pub returns-else-not-is_again : goal.returns-else-not-is_again
returns-else-not-is_again c =
    let h = parts c.args.core.now c.args.author.now c.args.intake.now.seat.me.0 in
    let b = c.requires.beating in
    let i = c.args.author.now.past.image in
    let w = b.legal.world in
    let stripe = c.place.new.into.stripe in
    let p = c.place.ensures in
    let again : c.place.new.into.again ≡ true = sym c.is_again.ensures ∙ c.if-not-is_again.false in
    let was = (p.again again i w (its_mount h b) (its_heart h b).stands).0 in
    record {
      beating = beating_again h b c.requires.none stripe c.place.new.self c.requires.named p.window p.kept (p.again again) (p.collects_again again);
      pads = inl (no_further i w c.args.core.now c.place.new.self c.args.intake.now.seat.me.0 (its_mount h b) (its_heart h b)
          (p.again again i w (its_mount h b) (its_heart h b).stands).1 (p.collects_again again i (log_of w) (its_heart h b).collects) p.kept.pad.most);
      decided = decided_none c.args.author.now;
      placed = subst (λ (logs : Logs). IsPlacedAs (logs 0) c.place.new.into) b.legal.logs
          (placed_as (log_of w 0) c.place.new.into was.placed was.unanswered was.same (p.turn i w (its_mount h b) (its_heart h b).stands));
      worked = inr (subst (λ (logs : Logs). was_stopped_on (logs 0) stripe.unit ≡ true) b.legal.logs was.stopped);
      under_way = p.under_way;
      shape = p.shape;
      kept = p.kept;
    }
