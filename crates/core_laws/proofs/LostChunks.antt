-- The chunk of a stripe that was lost is Closed on the media, and as the engine knows it, while its
-- line stays opened.
use Rattle.std.proofs.Common.{◌≡◌, ℕ, ◌+◌, ◌-◌, ◌<◌, ◌≤◌, zero, suc, true, false, nat_eq, Bool, Some, None, Option, List, length, refl, sym, subst, ap, ap₂, ◌∙◌, arith}
use Rattle.std.specs.Prelude.{slice_get, slice_index}
use Rattle.std.specs.List.{Contains}
use Rattle.std.proofs.lemmas.Bool.{eqb-true, eqb-false}
use Rattle.std.proofs.lemmas.Option.{same_Some}
use Rattle.pblk_model.specs.declared.chunk.ChunkState.TheVariants as states
use Rattle.pblk_model.specs.Chunk.{Chunk}
use Rattle.pblk_model.specs.ChunkStep.{ChunkCommand, Read, Reset, Write, closed_after}
use Rattle.pblk_model.specs.UnitLog.{UnitEvent, after_outcome, IsOutcome}
use Rattle.pblk_model.specs.Image.{Image}
use Rattle.pblk_model.proofs.UnitLogLemmas.{read_leaves}
use Rattle.pblk_world.specs.Events.{Logged}
use Rattle.pblk_world.specs.World.{World, log_of, media}
use Rattle.pblk_world.specs.EngineLog.{Answer, answer_of, DidLand, WasLost, is_loss, life_of, Opened, Opening, Placed, stripes_of, was_lost, Begun, begun}
use Rattle.pblk_world.specs.Lines.{known_image, is_empty_state, is_over_state}
use Rattle.pblk_laws.specs.LineBlocks.{chunk_in}
use Rattle.core_laws.proofs.AnsweredChunks.{IsAnsweredIn, IsAnsweredSince, IsToldFar, answered_since, told_far}
use Rattle.pblk_model.proofs.Parts.{got_within}
use Rattle.pblk_world.specs.LegalMounts.{IsLegalMount}
use Rattle.world_laws.proofs.Deeds.{IsDeed, deed}
use Rattle.world_laws.specs.UnitChunks.{chunk_after}
use Rattle.world_laws.proofs.MediaChunks.{chunk_of_media}
use Rattle.world_laws.proofs.LifePlaces.{began}
use Rattle.world_laws.proofs.OpenedChunks.{empty_at_reset}
use Rattle.world_laws.proofs.Resets.{reset}
use Rattle.core_laws.proofs.OverChunks.{over_refuses}

-- ---- its chunk, while its line stays opened

module _ (i : Image) (w : World) (mount : IsLegalMount i w) (o : Opening) (p : Placed) (life : life_of (log_of w 0) o.line ≡ Opened o)
    (its : Contains (stripes_of (log_of w 0) o) p) (lost : was_lost (log_of w 0) p ≡ true) where
  abbrev unit : ℕ
  unit = p.stripe.unit

  loss_of : (a : Option Answer) → is_loss a ≡ true → (number : ℕ) × (a ≡ Some (WasLost number))
  loss_of None is = absurd cc
  loss_of (Some (DidLand number)) is = absurd cc
  loss_of (Some (WasLost number)) is = (number, refl)

  -- the number of its program's event
  answer : (number : ℕ) × (answer_of (log_of w 0) p ≡ Some (WasLost number))
  answer = loss_of (answer_of (log_of w 0) p) lost

  failed_since : IsAnsweredSince i w mount o p (WasLost answer.0) life its answer.1
  failed_since = answered_since i w mount o p (WasLost answer.0) life its answer.1

  -- the failed program left the chunk Closed
  record IsLeft : Type 0 where
    found : Chunk
    landed_before : ℕ
    left : chunk_after i (log_of w) o.line p.stripe.unit (suc answer.0) ≡ Some (closed_after i.shape found p.stripe.blocks landed_before)

  failed_left : IsLeft
  failed_left =
      let x : IsAnsweredIn w unit p (WasLost answer.0) = failed_since.in_log in
      let e : IsDeed i w unit answer.0 x.logged = deed i w unit answer.0 x.logged mount.legal x.there in
      let event : e.event ≡ x.event = same_Some e.event x.event (sym e.is_event ∙ x.is_event) in
      let on : e.event.chunk ≡ o.line = ap (λ (y : UnitEvent). y.chunk) event ∙ failed_since.in_line in
      record {
        found = e.found;
        landed_before = x.ended.0;
        left = ap (λ k. chunk_after i (log_of w) k unit (suc answer.0)) (sym on) ∙ e.left
            ∙ ap (λ (y : UnitEvent). Some (after_outcome i.shape e.found y.command y.outcome)) event
            ∙ ap₂ (λ y z. Some (after_outcome i.shape e.found y z)) x.command x.ended.1;
      }

  -- a Closed chunk stays as it is
  stays : (n : ℕ) (d : Chunk) → slice_index o.knows (suc p.stripe.unit) ≤ n → n < length (log_of w (suc p.stripe.unit))
      → chunk_after i (log_of w) o.line p.stripe.unit n ≡ Some d → d.state ≡ states.Closed → chunk_after i (log_of w) o.line p.stripe.unit (suc n) ≡ Some d
  stays n d from inside now closed = go (nat_eq e.event.chunk o.line) refl
    where
      l : (x : Logged) × (slice_get (log_of w (suc p.stripe.unit)) n ≡ Some x)
      l = got_within (log_of w (suc p.stripe.unit)) n inside

      e : IsDeed i w p.stripe.unit n l.0
      e = deed i w unit n l.0 mount.legal l.1

      b : (x : Begun) × (begun (log_of w 0) ≡ Some x)
      b = began i w o.line o mount.legal life

      found : e.event.chunk ≡ o.line → e.found ≡ d
      found on = same_Some e.found d (sym e.there ∙ ap (λ k. chunk_after i (log_of w) k unit n) on ∙ now)

      left : e.event.chunk ≡ o.line
          → chunk_after i (log_of w) o.line p.stripe.unit (suc n) ≡ Some (after_outcome i.shape d e.event.command e.event.outcome)
      left on = ap (λ k. chunk_after i (log_of w) k unit (suc n)) (sym on) ∙ e.left
          ∙ ap (λ x. Some (after_outcome i.shape x e.event.command e.event.outcome)) (found on)

      by : e.event.chunk ≡ o.line → (command : ChunkCommand) → e.event.command ≡ command
          → chunk_after i (log_of w) o.line p.stripe.unit (suc n) ≡ Some d
      by on (Write at blocks) is = left on ∙ ap₂ (λ x y. Some (after_outcome i.shape d x y)) is
          (over_refuses i.shape d at blocks e.event.outcome (ap (λ s. is_over_state false s) closed)
          (subst (λ x. IsOutcome i.shape d x e.event.outcome) is (subst (λ x. IsOutcome i.shape x e.event.command e.event.outcome) (found on) e.outcome)))
      by on (Read at) is = left on ∙ ap (λ x. Some (after_outcome i.shape d x e.event.outcome)) is ∙ ap (λ x. Some x) (read_leaves i.shape d at e.event.outcome)
      by on Reset is =
          let empty : is_empty_state d.state ≡ true =
          empty_at_reset i w mount.legal b.0 b.1 unit o.line o life n l.0 l.1 e from d now (reset i w mount.legal unit n l.0 l.1 e is) on in
          absurd (cc (sym empty ∙ ap is_empty_state closed))

      go : (t : Bool) → nat_eq e.event.chunk o.line ≡ t → chunk_after i (log_of w) o.line p.stripe.unit (suc n) ≡ Some d
      go true same_chunk = by (eqb-true e.event.chunk o.line same_chunk) e.event.command refl
      go false other = e.others o.line (eqb-false e.event.chunk o.line other) ∙ now

  stays_far : (n m : ℕ) (d : Chunk) → slice_index o.knows (suc p.stripe.unit) ≤ n → n + m ≤ length (log_of w (suc p.stripe.unit))
      → chunk_after i (log_of w) o.line p.stripe.unit n ≡ Some d → d.state ≡ states.Closed → chunk_after i (log_of w) o.line p.stripe.unit (n + m) ≡ Some d
  stays_far n zero d from inside now closed =
      let none : n + 0 ≡ n = omega arith in ap (chunk_after i (log_of w) o.line p.stripe.unit) none ∙ now
  stays_far n (suc m) d from inside now closed =
      let far : n + suc m ≡ suc (n + m) = omega arith in
      ap (chunk_after i (log_of w) o.line p.stripe.unit) far
      ∙ stays (n + m) d (omega arith) (omega arith) (stays_far n m d from (omega arith) now closed) closed

  -- from the failed program on it is as that left it
  stays_since : (x : IsLeft) (n : ℕ) → answer.0 < n → n ≤ length (log_of w (suc p.stripe.unit))
      → chunk_after i (log_of w) o.line p.stripe.unit n ≡ Some (closed_after i.shape x.found p.stripe.blocks x.landed_before)
  stays_since x n after within =
      let number : ℕ = answer.0 in
      let from : slice_index o.knows (suc unit) ≤ answer.0 = failed_since.since_opening in
      let to : suc number + (n - suc number) ≡ n = omega arith in
      ap (chunk_after i (log_of w) o.line unit) (sym to)
      ∙ stays_far (suc number) (n - suc number) (closed_after i.shape x.found p.stripe.blocks x.landed_before) (omega arith) (omega arith) x.left refl

  -- so is a chunk that is known to a length beyond it
  closed_beyond : (c : Chunk) (n : ℕ) → answer.0 < n → n ≤ length (log_of w (suc p.stripe.unit))
      → chunk_after i (log_of w) o.line p.stripe.unit n ≡ Some c → c.state ≡ states.Closed
  closed_beyond c n after within there =
      let x : IsLeft = failed_left in
      ap (λ (d : Chunk). d.state)
      (same_Some c (closed_after i.shape x.found p.stripe.blocks x.landed_before) (sym there ∙ stays_since x n after within))

  -- also on the media
  pub lost_stays_closed : (c : Chunk) → chunk_in (media i (log_of w)) o.line p.stripe.unit ≡ Some c → c.state ≡ states.Closed
  lost_stays_closed c there =
      let inside : answer.0 < length (log_of w (suc unit)) = failed_since.inside in
      closed_beyond c (length (log_of w (suc unit))) inside (omega arith) (sym (chunk_of_media i (log_of w) o.line unit) ∙ there)

  -- and as it is known
  pub lost_closes : (chunks : List Chunk) (c : Chunk) → slice_get (known_image i (log_of w)).units p.stripe.unit ≡ Some chunks
      → slice_get chunks o.line ≡ Some c → c.state ≡ states.Closed
  lost_closes chunks c at there =
      let far : IsToldFar i w mount o p (WasLost answer.0) life its answer.1 chunks c at there =
      told_far i w mount o p (WasLost answer.0) life its answer.1 chunks c at there in
      closed_beyond c far.events far.before far.inside far.chunk
