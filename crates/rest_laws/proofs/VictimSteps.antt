-- What an event of the engine changes of the victim at work, by the logs at the lengths before and
-- after it.
use Rattle.std.proofs.Common.{◌≡◌, ℕ, ◌<◌, ◌==◌, suc, Bool, true, false, Some, List, length, take, refl, sym, ap, ◌∙◌, arith, if◌then◌else◌}
use Rattle.std.specs.Prelude.{slice_get}
use Rattle.std.proofs.lemmas.Option.{slice_get_within}
use Rattle.pblk_model.specs.Image.{Image}
use Rattle.pblk_world.specs.EngineLog.{Freed, last_opening, LineLife, life_of, Opened, turned_by}
use Rattle.pblk_world.specs.Events.{Decides, Event, Free, Logged, Open}
use Rattle.pblk_world.specs.Victims.{comes_to_work, engine_prefix, is_freed, stays_at_work, victim}
use Rattle.pblk_world.specs.World.{World, log_of}
use Rattle.pblk_model.proofs.Tests.{same}
use Rattle.pblk_world.specs.LegalMounts.{IsLegalMount}
use Rattle.world_laws.proofs.NextLives.{life_next}
use Rattle.rest_laws.proofs.LengthLogs.{IsWorldAt, world_at}
use Rattle.rest_laws.proofs.LivesAtWork.{is_victim}

-- a line that wasn't freed isn't freed by another event
turned_unfreed : (line number : ℕ) (life : LineLife) (knows : List ℕ) (e : Event) → is_freed life ≡ false → (e ≡ Decides (Free line) → ⊥)
    → is_freed (turned_by line life number knows e) ≡ false
turned_unfreed line number life knows (Decides (Open other start)) stands other_one = go (other == line)
  where
    go : (b : Bool) → is_freed (if b then Opened (record { number = number; line = line; start = start; knows = knows }) else life) ≡ false
    go true = refl
    go false = stands
turned_unfreed line number life knows (Decides (Free other)) stands other_one = go (other == line) refl
  where
    go : (b : Bool) → (other == line) ≡ b → is_freed (if b then Freed (last_opening life) knows else life) ≡ false
    go true e = absurd (other_one (ap (λ m. Decides (Free m)) (same other line e)))
    go false e = stands
turned_unfreed line number life knows e stands other_one = stands

module _ (i : Image) (w : World) (mount : IsLegalMount i w) (n : ℕ) (l : Logged) (there : slice_get (log_of w 0) n ≡ Some l) where
  pub inside : n < length (log_of w 0)
  inside = slice_get_within (log_of w 0) n l there

  module _ (line : ℕ) (at : victim i (log_of w) n ≡ Some line) where
    was_unfreed : is_freed (life_of (take n (log_of w 0)) line) ≡ false
    was_unfreed =
        let v : IsWorldAt i w n = world_at i w n mount.legal (omega (arith, inside)) in
        ap (λ (xs : List Logged). is_freed (life_of xs line)) (sym v.own) ∙ (is_victim i w mount line n (omega (arith, inside)) at).not_freed

    pub unfreed_next : (l.event ≡ Decides (Free line) → ⊥) → is_freed (life_of (take (suc n) (log_of w 0)) line) ≡ false
    unfreed_next other =
        ap is_freed (life_next (log_of w 0) n line l there)
        ∙ turned_unfreed line n (life_of (take n (log_of w 0)) line) l.knows l.event was_unfreed other

    -- it stays, unless the event frees it
    pub stays : (l.event ≡ Decides (Free line) → ⊥) → victim i (log_of w) (suc n) ≡ Some line
    unfolding victim
    stays other =
        ap (stays_at_work i (engine_prefix (suc n) (log_of w))) at
        ∙ ap (λ b. if b then comes_to_work i (engine_prefix (suc n) (log_of w)) else Some line) (unfreed_next other)
