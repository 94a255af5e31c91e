-- The line in which the latest entry of a sector stands wasn't freed since, nor was that of its
-- winner where it has no entry.
use Rattle.std.proofs.Common.{◌≡◌, ◌⊎◌, inl, inr, ℕ, ◌<◌, ◌≤◌, Bool, true, false, Some, None, List, take, refl, sym, subst, ap, ◌∙◌, arith}
use Rattle.std.specs.List.{Contains}
use Rattle.pblk_model.specs.Contents.{counted, winner}
use Rattle.pblk_model.specs.Image.{Image}
use Rattle.pblk_model.specs.Records.{Record}
use Rattle.pblk_world.specs.Events.{Logged}
use Rattle.pblk_world.specs.World.{World, log_of}
use Rattle.pblk_world.specs.EngineLog.{AsFound, Opened, Opening, answer_of, has_landed, holds_position, is_answered, is_life, life_of, openings, Placed, placements, stripes_of, Taken, takes, was_lost}
use Rattle.pblk_world.specs.Fronts.{last_take, synced}
use Rattle.pblk_world.specs.Lines.{found_image}
use Rattle.pblk_model.proofs.Lists.{among_contained}
use Rattle.pblk_model.proofs.Maps.{in_filter}
use Rattle.pblk_model.proofs.Parts.{contained_among}
use Rattle.pblk_model.proofs.Tests.{same_number}
use Rattle.pblk_world.specs.LegalMounts.{IsLegalMount}
use Rattle.world_laws.proofs.KeptEntries.{latest_kept, winner_kept}
use Rattle.world_laws.proofs.LandedRecords.{freed_below_front}
use Rattle.world_laws.proofs.LifePlaces.{have_places}
use Rattle.world_laws.proofs.Lives.{IsFreedLife, standing_or_freed}
use Rattle.world_laws.proofs.Newest.{IsOlder, older_when_freed}
use Rattle.world_laws.proofs.Stripes.{life_of_stripe, opening_then}
use Rattle.core_laws.proofs.LandedNow.{front_within}
use Rattle.core_laws.proofs.LastTakes.{last_is, last_none}
use Rattle.core_laws.proofs.PlacedAnew.{landed_not_lost, one_kept}
use Rattle.core_laws.proofs.PlainStripes.{answered_lands}
use Rattle.core_laws.proofs.UnansweredLines.{still_open}

module _ (i : Image) (w : World) (mount : IsLegalMount i w) where
  abbrev log : List Logged
  log = log_of w 0

  -- where the line of a stripe that has landed was freed since, its positions are below the front
  -- synced
  pub standing_or_synced : (p : Placed) (position : ℕ) → Contains (placements (log_of w 0)) p → has_landed (log_of w 0) p ≡ true
      → holds_position i.shape position p ≡ true → (life_of (log_of w 0) p.stripe.line ≡ p.life) ⊎ (position < synced i.shape (log_of w 0))
  standing_or_synced p position there landed holds = go (standing_or_freed i w life.0 mount.legal was.0)
    where
      life : (o : Opening) × (p.life ≡ Opened o) × (life_of (take p.number (log_of w 0)) p.stripe.line ≡ Opened o)
      life = life_of_stripe i w p mount.legal there

      was : Contains (openings (log_of w 0)) life.0 × (life.0.line ≡ p.stripe.line) × (life.0.number < p.number)
      was = opening_then log p.number p.stripe.line life.0 life.2

      go : (life_of (log_of w 0) life.0.line ≡ Opened life.0) ⊎ IsFreedLife (log_of w 0) life.0
          → (life_of (log_of w 0) p.stripe.line ≡ p.life) ⊎ (position < synced i.shape (log_of w 0))
      go (inl stands) = inl (ap (life_of log) (sym was.1) ∙ stands ∙ sym life.1)
      go (inr f) =
          let of_life : Contains (stripes_of log life.0) p = contained_among (stripes_of log life.0) p
          (in_filter (λ (q : Placed). is_life life.0.number q.life) (placements log) p (among_contained (placements log) p there)
          (ap (is_life life.0.number) life.1 ∙ same_number life.0.number)) in
          let older : IsOlder i w life.0 f = older_when_freed i w life.0 mount.legal f in
          let below : position < older.newest.front =
          freed_below_front i w life.0 p position mount.legal (have_places i w mount.accepted mount.legal) f of_life landed holds in
          let within : older.newest.front ≤ synced i.shape log = front_within i w mount life.0 older.newest was.0 older.is_newest older.seq in
          inr (omega arith)

  -- a stripe of the latest entry that has landed
  landed_stands : (lba : ℕ) (t : Taken) (p : Placed) → lba < i.shape.capacity → last_take (log_of w 0) lba ≡ Some t → Contains (placements (log_of w 0)) p
      → holds_position i.shape t.entry.position p ≡ true → has_landed (log_of w 0) p ≡ true → life_of (log_of w 0) p.stripe.line ≡ p.life
  landed_stands lba t p small last there holds landed = go (standing_or_synced p t.entry.position there landed holds)
    where
      go : (life_of (log_of w 0) p.stripe.line ≡ p.life) ⊎ (t.entry.position < synced i.shape (log_of w 0)) → life_of (log_of w 0) p.stripe.line ≡ p.life
      go (inl stands) = stands
      go (inr below) =
          let t_is = last_is i w mount.legal lba t last in
          let k = latest_kept i w t mount (contained_among (takes log) t t_is.0) (subst (λ n. n < i.shape.capacity) (sym t_is.1) small) below
          (λ u among its low. t_is.2 u (among_contained (takes log) u among) (its ∙ t_is.1)) in
          let one : k.0 ≡ p = one_kept i w mount k.0 p t.entry.position k.1 there k.3 holds (landed_not_lost log k.0 k.2) (landed_not_lost log p landed) in
          subst (λ (x : Placed). life_of log x.stripe.line ≡ x.life) one k.4

  -- one that wasn't lost
  pub latest_stands : (lba : ℕ) (t : Taken) (p : Placed) → lba < i.shape.capacity → last_take (log_of w 0) lba ≡ Some t → Contains (placements (log_of w 0)) p
      → holds_position i.shape t.entry.position p ≡ true → was_lost (log_of w 0) p ≡ false → life_of (log_of w 0) p.stripe.line ≡ p.life
  latest_stands lba t p small last there holds kept = go (is_answered log p) refl
    where
      go : (b : Bool) → is_answered (log_of w 0) p ≡ b → life_of (log_of w 0) p.stripe.line ≡ p.life
      go false waits = still_open i w p mount.legal there waits
      go true answered = landed_stands lba t p small last there holds (answered_lands (answer_of log p) answered kept)

  pub winner_as_found : (lba : ℕ) (r : Record) → last_take (log_of w 0) lba ≡ None → winner (counted (found_image i (log_of w))) lba ≡ Some r
      → life_of (log_of w 0) r.line ≡ AsFound
  winner_as_found lba r none wins =
      winner_kept i w lba r mount wins (λ u there its. absurd (last_none i w mount.legal lba none u (among_contained (takes log) u there) its))
