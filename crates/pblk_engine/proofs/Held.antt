-- What a heart keeps between two holds of its lock, once it settled.
use Rattle.std.proofs.Common.{◌≡◌, ◌≤◌, length, sym, subst, ap, ◌∙◌, le_refl}
use Rattle.atomic_table.specs.Seated.{TableId}
use Rattle.pblk_model.specs.Image.{Image}
use Rattle.pblk_world.specs.AtRest.{logs_at}
use Rattle.pblk_world.specs.Fronts.{taken}
use Rattle.pblk_world.specs.LegalMounts.{IsLegalMount}
use Rattle.pblk_world.specs.Orders.{NoneToFree}
use Rattle.pblk_world.specs.Space.{room}
use Rattle.pblk_world.specs.World.{Logs, log_of}
use Rattle.world_laws.proofs.ToldTables.{room_told}
use Rattle.write_ring.specs.declared.view.Key.{Key}
use Rattle.write_ring.specs.declared.view.View.{View}
use Rattle.pblk_core.specs.Stands.{Stands}
use Rattle.pblk_core.specs.declared.target_core.Core.{Core}
use Rattle.pblk_core.proofs.StandsFacts.{window_taken_is}
use Rattle.chronicle.specs.Handles.{AuthorView}
use Rattle.chronicle.specs.Views.{Past}
use Rattle.chronicle.specs.Prefixes.{Prefixes, AreLegalLogs, ArePrefixes, logs_of}
use Rattle.chronicle.proofs.Rests.{still_begun}
use Rattle.pblk_engine.proofs.Decisions.{by_left, told_left}
use Rattle.pblk_engine.proofs.Knowledge.{mount_of}
use Rattle.pblk_engine.specs.Hearts.{HasDecided, IsBeating, IsHeart, IsHeartOf, IsRingFor, IsSettled, Parts}

module _ (logs table : TableId) (past : Past) (key : Key) (place : TableId) (h : Parts) (is : IsHeartOf logs table past key place h) where
  its_image : past.image ≡ h.author.past.image
  its_image = ap (λ (p : Past). p.image) (sym is.since)

  pub beating_of : IsBeating h
  beating_of = record {
    engine = is.engine;
    legal = subst (λ (i : Image). AreLegalLogs i h.author.known) its_image is.legal;
    fits = subst (λ (k : Key). IsRingFor h.author.past.image k) (sym is.its_key) (subst (λ (i : Image). IsRingFor i key) its_image is.fits);
    heart = subst (λ (i : Image). IsHeart i (logs_of h.author.known) h.core h.intake) its_image is.settled.heart;
  }

  pub none_of : NoneToFree h.author.past.image (logs_of h.author.known)
  none_of = subst (λ (i : Image). NoneToFree i (logs_of h.author.known)) its_image is.settled.none_to_free

  -- it may have learnt of more that units did
  pub held_after : (place' : TableId) (new : Parts) → new.author ≡ record h.author { known = new.author.known } → ArePrefixes h.author.known new.author.known
      → AreLegalLogs new.author.past.image new.author.known → place' ≡ table → new.intake.key ≡ key
      → IsSettled new.author.past.image (logs_of new.author.known) new.core new.intake → IsHeartOf logs table past key place' new
  held_after place' new same keeps legal ring its_key settled = record {
    of = ap (λ (a : AuthorView). a.chronicle) same ∙ is.of;
    engine = record {
      number = ap (λ (a : AuthorView). a.number) same ∙ is.engine.number;
      owned = ap (λ (a : AuthorView). a.owned) same ∙ is.engine.owned;
    };
    since = since;
    legal = subst (λ (p : Past). AreLegalLogs p.image new.author.known) since legal;
    begun = still_begun past.logs h.author.known new.author.known is.begun keeps;
    its_ring = ring;
    its_key = its_key;
    fits = is.fits;
    settled = subst (λ (p : Past). IsSettled p.image (logs_of new.author.known) new.core new.intake) since settled;
  }
    where
      since : new.author.past ≡ past
      since = ap (λ (a : AuthorView). a.past) same ∙ is.since

  pub held_then : (place' : TableId) (new : Parts) → HasDecided h.author new.author → AreLegalLogs new.author.past.image new.author.known
      → place' ≡ table → new.intake.key ≡ key → IsSettled new.author.past.image (logs_of new.author.known) new.core new.intake
      → IsHeartOf logs table past key place' new
  held_then place' new decided = held_after place' new decided.same decided.keeps

-- what its intake has taken are the takes of the engine's log
pub its_taken : (i : Image) (known : Prefixes) (legal : AreLegalLogs i known) (c : Core) (v : View) → IsHeart i (logs_of known) c v
    → v.intake.taken ≡ taken (logs_of known 0)
its_taken i known legal c v heart =
    heart.taken ∙ window_taken_is i legal.world c (subst (λ (logs : Logs). Stands i logs c) (sym legal.logs) heart.stands)
    ∙ ap (λ (logs : Logs). taken (logs 0)) legal.logs

-- ---- by the world that it knows

module _ (logs table : TableId) (past : Past) (key : Key) (place : TableId) (h : Parts) (is : IsHeartOf logs table past key place h) where
  pub held_mount : IsLegalMount past.image is.legal.world
  held_mount = mount_of past.image h.author.known is.legal is.fits.accepted is.fits.fit

  pub held_heart : IsHeart past.image (log_of is.legal.world) h.core h.intake
  held_heart = subst (λ (l : Logs). IsHeart past.image l h.core h.intake) (sym is.legal.logs) is.settled.heart

  -- there was no more room when the engine's last event was appended
  pub held_room : room past.image (logs_at (length (log_of is.legal.world 0)) (log_of is.legal.world)) ≤ room past.image (log_of is.legal.world)
  held_room = by_left past.image is.legal.world h.core h.intake held_mount held_heart
      (λ (l : Logs). room past.image l ≤ room past.image (log_of is.legal.world))
      (subst (λ n. n ≤ room past.image (log_of is.legal.world))
      (sym (room_told past.image (log_of is.legal.world) (log_of held_heart.left.left)
      (told_left past.image is.legal.world h.core h.intake held_mount held_heart)))
      (le_refl (room past.image (log_of is.legal.world))))
