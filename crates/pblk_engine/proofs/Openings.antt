-- What a heart stands for once its core opened a line, or placed a stripe.
use Rattle.std.proofs.Common.{◌≡◌, Some, length, refl, sym, subst, ap}
use Rattle.pblk_model.specs.Image.{Image}
use Rattle.pblk_model.proofs.MarksLemmas.{accepted_small}
use Rattle.pblk_world.specs.AtRest.{IsDue, logs_at}
use Rattle.pblk_world.specs.EngineLog.{Begun, begun}
use Rattle.pblk_world.specs.Events.{Open, Place, Stripe}
use Rattle.pblk_world.specs.Legal.{MayDecide}
use Rattle.pblk_world.specs.Opening.{MayOpen}
use Rattle.pblk_world.specs.Orders.{NoneToFree}
use Rattle.pblk_world.specs.Placing.{MayPlace}
use Rattle.pblk_world.specs.World.{World, Logs, log_of}
use Rattle.step_laws.specs.Whole.{knows_all}
use Rattle.write_window.specs.Window as window
use Rattle.pblk_core.specs.Keeping.{KeepsOtherStripes, KeepsStripes}
use Rattle.pblk_core.specs.Mounts.{CollectsAfter, CollectsStill, InItsMount, StandsAfter}
use Rattle.pblk_core.specs.Named.{named, next_start, pad_of}
use Rattle.pblk_core.specs.Landing.{WasStopped}
use Rattle.pblk_core.specs.Stands.{Stands}
use Rattle.pblk_core.specs.declared.target_core.Core.{Core}
use Rattle.pblk_core.specs.declared.work.Work.TheVariants as works
use Rattle.chronicle.specs.Prefixes.{logs_of}
use Rattle.pblk_engine.specs.Hearts.{IsBeating, IsHeart, Parts, parts}
use Rattle.pblk_engine.proofs.Decisions.{after_quiet, heart_still, its_heart, its_mount, legal_next, none_to_free_then}
use Rattle.pblk_engine.proofs.HeartSteps.{IsAfter}
use Rattle.pblk_engine.proofs.NextWork.{lacks_then, reset_then}
use Rattle.pblk_engine.proofs.UrgentStripes.{placed_for}

module _ (h : Parts) (b : IsBeating h) (none : NoneToFree h.author.past.image (logs_of h.author.known)) where
  abbrev i : Image
  i = h.author.past.image

  abbrev w : World
  w = b.legal.world

  none_now : NoneToFree i (log_of w)
  none_now = subst (NoneToFree i) (sym b.legal.logs) none

  none_then : NoneToFree i (logs_at (length (log_of w 0)) (log_of w))
  none_then = none_to_free_then i w h.core h.intake (its_mount h b) (its_heart h b) none_now

  -- ---- a line is opened

  pub may_open : InItsMount h.core (λ i w. (begins : Begun) → begun (log_of w 0) ≡ Some begins
      → MayOpen i (log_of w) begins (next_start h.core).line (next_start h.core))
      → MayDecide i (logs_of h.author.known) (Open (next_start h.core).line (next_start h.core))
  may_open may = (
    b.heart.stands.beginning,
    b.heart.stands.has_begun,
    subst (λ (logs : Logs). MayOpen i logs b.heart.stands.beginning (next_start h.core).line (next_start h.core)) b.legal.logs
        (may i w (its_mount h b) (its_heart h b).stands b.heart.stands.beginning
        (subst (λ (logs : Logs). begun (logs 0) ≡ Some b.heart.stands.beginning) (sym b.legal.logs) b.heart.stands.has_begun)),
  )

  pub after_open : named h.core ≡ works.Open
      → (may : InItsMount h.core (λ i w. (begins : Begun) → begun (log_of w 0) ≡ Some begins
      → MayOpen i (log_of w) begins (next_start h.core).line (next_start h.core)))
      → (new : Core) → StandsAfter h.core (Open (next_start h.core).line (next_start h.core)) new
      → CollectsAfter h.core (Open (next_start h.core).line (next_start h.core)) new → new.window ≡ h.core.window → KeepsStripes h.core new
      → IsAfter i w (Open (next_start h.core).line (next_start h.core)) h.core new h.intake h.intake
  after_open names may new stands collects same kept =
      after_quiet i w (Open (next_start h.core).line (next_start h.core)) refl h.core new h.intake (its_mount h b)
      (legal_next h b (Open (next_start h.core).line (next_start h.core)) (may_open may)) (its_heart h b)
      (stands i w (knows_all i.shape w) (its_mount h b) (its_heart h b).stands)
      (collects i w (knows_all i.shape w) (its_mount h b) (its_heart h b).stands (its_heart h b).collects)
      (λ r all. subst (λ (x : window.WindowView). window.AreOf r x.entries) (sym same) all)
      (ap (λ (x : window.WindowView). length x.entries) same) kept.pad.most kept.copying (
        none_then,
        reset_then i w h.core h.intake (its_mount h b) (its_heart h b) works.Open (λ line unit e. absurd cc) names,
        lacks_then i w h.core h.intake (its_mount h b) (its_heart h b) names,
      ) tt

  -- ---- a stripe is placed

  module _ (stripe : Stripe) (new : Core) (names : named h.core ≡ works.Program) (same : new.window ≡ h.core.window)
      (kept : KeepsOtherStripes stripe.unit h.core new) where
    pub may_place : InItsMount h.core (λ i w. MayPlace i (log_of w) stripe) → MayDecide i (logs_of h.author.known) (Place stripe)
    may_place may = (
      b.heart.stands.beginning,
      b.heart.stands.has_begun,
      subst (λ (logs : Logs). MayPlace i logs stripe) b.legal.logs (may i w (its_mount h b) (its_heart h b).stands),
    )

    pub after_place : (may : InItsMount h.core (λ i w. MayPlace i (log_of w) stripe))
        → InItsMount h.core (λ i w. IsDue i (log_of w) (pad_of h.core) stripe)
        → StandsAfter h.core (Place stripe) new → CollectsAfter h.core (Place stripe) new
        → IsAfter i w (Place stripe) h.core new h.intake h.intake
    after_place may due stands collects =
        after_quiet i w (Place stripe) refl h.core new h.intake (its_mount h b) (legal_next h b (Place stripe) (may_place may)) (its_heart h b)
        (stands i w (knows_all i.shape w) (its_mount h b) (its_heart h b).stands)
        (collects i w (knows_all i.shape w) (its_mount h b) (its_heart h b).stands (its_heart h b).collects)
        (λ r all. subst (λ (x : window.WindowView). window.AreOf r x.entries) (sym same) all)
        (ap (λ (x : window.WindowView). length x.entries) same) kept.pad.most kept.copying
        (none_then, reset_then i w h.core h.intake (its_mount h b) (its_heart h b) works.Program (λ line unit e. absurd cc) names)
        (placed_for i (log_of w) (pad_of h.core) stripe (accepted_small i.shape b.fits.accepted)
        (due i w (its_mount h b) (its_heart h b).stands) (its_heart h b).pads)

    -- it was placed before, and is under way again
    pub beating_again : InItsMount h.core (λ i w. WasStopped (log_of w 0) stripe × Stands i (log_of w) new) → CollectsStill h.core new
        → IsBeating (parts new h.author h.intake)
    beating_again stands collects = record {
      engine = b.engine;
      legal = b.legal;
      fits = b.fits;
      heart = subst (λ (logs : Logs). IsHeart i logs new h.intake) b.legal.logs
          (heart_still i w h.core new h.intake (its_mount h b) (its_heart h b) (stands i w (its_mount h b) (its_heart h b).stands).1
          (collects i (log_of w) (its_heart h b).collects) same kept.pad.most kept.copying);
    }
