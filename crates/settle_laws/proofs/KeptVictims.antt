-- What is kept where a line comes to work as the victim, where none is at work.
use Rattle.std.proofs.Common.{Bool, None, Option, Some, ap, arith, false, if◌then◌else◌, refl, subst, suc, sym, true, ℕ, ◌+◌, ◌∙◌, ◌≡◌}
use Rattle.pblk_model.specs.Image.{Image}
use Rattle.pblk_world.specs.Events.{Decides, Free, Logged}
use Rattle.pblk_world.specs.Space.{is_due}
use Rattle.pblk_world.specs.Victims.{comes_to_work, engine_prefix, live, next_victim, stays_at_work, victim}
use Rattle.pblk_world.specs.World.{World, log_of}
use Rattle.rest_laws.proofs.LivesAtWork.{freed_then}
use Rattle.rest_laws.proofs.RunBegun.{line_fits}
use Rattle.rest_laws.proofs.VictimSteps.{stays}
use Rattle.settle_laws.proofs.Kept.{IsKept, are_sizes, no_victim_works}
use Rattle.settle_laws.proofs.KeptEvents.{IsKeptBefore, KeepsVictim, inside, some}
use Rattle.settle_laws.proofs.Still.{run_at}
use Rattle.settle_laws.proofs.SumSteps as sums

module _ {i : Image} {w : World} {at : ℕ → ℕ} {from total n : ℕ} {l : Logged} (e : IsKeptBefore i w at from total n l) where
  -- a line that comes to work
  chosen : (line : ℕ) → next_victim i (engine_prefix (suc n) (log_of w)) ≡ Some line → IsKept i w at from total (suc n) None
      → IsKept i w at from total (suc n) (Some line)
  chosen line next k = record {
    c = record k.c { victim = k.c.victim + 1 };
    v = Some (record { live = live i (engine_prefix (suc n) (log_of w)) line; begun = 0 });
    kept = sums.chosen (are_sizes e.q) k.kept (no_victim_works i (engine_prefix (suc n) (log_of w)) k.v k.at_it).0
        (live i (engine_prefix (suc n) (log_of w)) line)
        (line_fits i w e.q.is at e.q.turns n (inside e) (run_at i w e.q.is at e.q.turns n (some e) (omega (arith, inside e))).0 line next);
    at_it = refl;
    left_low = k.left_low;
    waits = k.waits;
    comes = k.comes;
  }

  comes : victim i (log_of w) (suc n) ≡ comes_to_work i (engine_prefix (suc n) (log_of w)) → IsKept i w at from total (suc n) None
      → IsKept i w at from total (suc n) (victim i (log_of w) (suc n))
  comes is_it k = subst (IsKept i w at from total (suc n)) (sym is_it) (go (is_due i (engine_prefix (suc n) (log_of w))))
    where
      by : (o : Option ℕ) → next_victim i (engine_prefix (suc n) (log_of w)) ≡ o → IsKept i w at from total (suc n) o
      by None none = k
      by (Some line) one = chosen line one k

      go : (b : Bool) → IsKept i w at from total (suc n) (if b then next_victim i (engine_prefix (suc n) (log_of w)) else None)
      go true = by (next_victim i (engine_prefix (suc n) (log_of w))) refl
      go false = k

  -- where none was
  none_then : victim i (log_of w) n ≡ None → victim i (log_of w) (suc n) ≡ comes_to_work i (engine_prefix (suc n) (log_of w))
  unfolding victim
  none_then none = ap (stays_at_work i (engine_prefix (suc n) (log_of w))) none

  -- where it was freed
  freed_then_comes : (line : ℕ) → l.event ≡ Decides (Free line) → victim i (log_of w) n ≡ Some line
      → victim i (log_of w) (suc n) ≡ comes_to_work i (engine_prefix (suc n) (log_of w))
  unfolding victim
  freed_then_comes line its works =
      ap (stays_at_work i (engine_prefix (suc n) (log_of w))) works
      ∙ ap (λ b. if b then comes_to_work i (engine_prefix (suc n) (log_of w)) else Some line) (freed_then i w e.q.is.mount line n l e.there its)

  pub freed_comes : (line : ℕ) → l.event ≡ Decides (Free line) → victim i (log_of w) n ≡ Some line → IsKept i w at from total (suc n) None
      → IsKept i w at from total (suc n) (victim i (log_of w) (suc n))
  freed_comes line its works = comes (freed_then_comes line its works)

  -- one that isn't freed stays
  pub settled : KeepsVictim e → IsKept i w at from total (suc n) (victim i (log_of w) n)
      → IsKept i w at from total (suc n) (victim i (log_of w) (suc n))
  settled kept k = go (victim i (log_of w) n) refl
    where
      go : (o : Option ℕ) → victim i (log_of w) n ≡ o → IsKept i w at from total (suc n) (victim i (log_of w) (suc n))
      go None none = comes (none_then none) (subst (IsKept i w at from total (suc n)) none k)
      go (Some line) one =
          subst (IsKept i w at from total (suc n)) (one ∙ sym (stays i w e.q.is.mount n l e.there line one (λ its. kept line its one))) k
