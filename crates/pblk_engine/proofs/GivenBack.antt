-- Entries of which a block can be read on the drive: they stay so, and no slot names them in the
-- buffer.
use Rattle.std.proofs.Common.{◌≡◌, inl, inr, ℕ, ◌+◌, ◌<◌, ◌≤◌, true, false, Some, None, Option, List, ◌∷◌, length, take, refl, sym, subst, ap, ◌∙◌, arith}
use Rattle.std.specs.List.{find}
use Rattle.std.specs.Option.{option_map_or}
use Rattle.std.proofs.lemmas.Option.{none-some}
use Rattle.std.proofs.Math.Seq.{take-length}
use Rattle.pblk_model.specs.Contents.{counted, winner}
use Rattle.pblk_model.specs.Image.{Image}
use Rattle.pblk_model.specs.Records.{Record}
use Rattle.pblk_model.specs.declared.shape.Shape.{Shape}
use Rattle.pblk_model.proofs.Maps.{any_member, found_passes}
use Rattle.pblk_model.proofs.Parts.{got_within}
use Rattle.pblk_model.proofs.Tests.{or_left}
use Rattle.pblk_laws.proofs.Winners.{winner_is_winner}
use Rattle.pblk_world.specs.Events.{EngineEvent, Begin, Take, Open, Place, Landed, Lost, Again, ResetDone, Free, Logged}
use Rattle.pblk_world.specs.EngineLog.{Begun, begun, Opened, Opening, Placed, Taken, life_of, placements, placed_on, answers}
use Rattle.pblk_world.specs.Fronts.{first_position, last_take}
use Rattle.pblk_world.specs.Legal.{IsDecision, IsLegal, MayDecide}
use Rattle.pblk_world.specs.LegalMounts.{IsLegalMount}
use Rattle.pblk_world.specs.Lines.{found_image}
use Rattle.pblk_world.specs.Space.{gives_back}
use Rattle.pblk_world.specs.World.{World, Logs, log_of, prefixes}
use Rattle.pblk_world.proofs.Answered.{answers_fit}
use Rattle.world_laws.proofs.MarkedBlocks.{below_first}
use Rattle.world_laws.proofs.Positions.{position_of}
use Rattle.l2p_map.specs.declared.slot.Slot.TheVariants.{Cached, Media}
use Rattle.core_laws.specs.ChunkBlocks.{can_be_read, has_landed_in}
use Rattle.core_laws.specs.PlacerOf.{unanswered_on}
use Rattle.core_laws.specs.SlotOf.{media_of, slot_by, slot_of, slot_of_winner}
use Rattle.core_laws.specs.Stepping.{after}
use Rattle.core_laws.specs.WindowOf.{is_given_back}
use Rattle.core_laws.proofs.CachedEntries.{cached, last_is_among}
use Rattle.core_laws.proofs.ChunksInRows.{rows_of_chunks}
use Rattle.core_laws.proofs.FreedFront.{its_opening}
use Rattle.core_laws.proofs.FreedLives.{free_is_quiet}
use Rattle.core_laws.proofs.GivenLost.{given_lost}
use Rattle.core_laws.proofs.LandedWindow.{given_back_landed}
use Rattle.core_laws.proofs.LostStripe.{one_lost}
use Rattle.core_laws.proofs.QuietEvents.{alike_kept, quiet_alike, open_is_quiet, reset_is_quiet, stop_is_quiet, place_kept}
use Rattle.core_laws.proofs.Taking.{alike}
use Rattle.core_laws.proofs.Untouched.{AreKept, given_kept}
use Rattle.step_laws.specs.Whole.{engine_step, knows_all}
use Rattle.pblk_engine.specs.Hearts.{IsOut}
use Rattle.step_laws.proofs.EngineSteps.{engine_logs}

-- ---- what is given back stays so

kept_by : (s : Shape) (log new : List Logged) (q : ℕ) → AreKept log new → is_given_back s log q ≡ true → is_given_back s new q ≡ true
kept_by s log new q kept f = given_kept s log new kept q ∙ f

-- the stripe that an answer is of
waits_on : (log : List Logged) (unit : ℕ) → length (answers log unit) < length (placed_on log unit) → (p : Placed) × (unanswered_on log unit ≡ Some p)
waits_on log unit inside = got_within (placed_on log unit) (length (answers log unit)) inside

given_next : (i : Image) (known : Logs) (w : World) (beginning : Begun) (e : EngineEvent) (knows : List ℕ) (q : ℕ) → IsLegalMount i w
    → known 0 ≡ log_of w 0 → IsDecision i known beginning e → is_given_back i.shape (log_of w 0) q ≡ true
    → is_given_back i.shape (after (log_of w) e knows 0) q ≡ true
given_next i known w beginning (Begin b) knows q mount own may f = absurd may
given_next i known w beginning (Take entry mark) knows q mount own may f =
    kept_by i.shape (log_of w 0) (after (log_of w) (Take entry mark) knows 0) q
    (alike_kept (log_of w 0) (after (log_of w) (Take entry mark) knows 0) (alike (log_of w 0) entry mark knows)) f
given_next i known w beginning (Open line start) knows q mount own may f =
    kept_by i.shape (log_of w 0) (after (log_of w) (Open line start) knows 0) q
    (alike_kept (log_of w 0) (after (log_of w) (Open line start) knows 0)
    (quiet_alike (log_of w 0) (Open line start) knows (open_is_quiet (log_of w 0) line start knows))) f
given_next i known w beginning (Place stripe) knows q mount own may f =
    kept_by i.shape (log_of w 0) (after (log_of w) (Place stripe) knows 0) q
    (place_kept (log_of w 0) stripe knows may.opening (ap (λ log. life_of log stripe.line) (sym own) ∙ may.is_open)
    (answers_fit i w stripe.unit mount.legal)) f
given_next i known w beginning (Landed unit event) knows q mount own may f =
    let waits = waits_on (log_of w 0) unit
    (subst (λ (xs : List Logged). length (answers xs unit) < length (placed_on xs unit)) own may.stripe.placed) in
    let its : (o : Opening) × (waits.0.life ≡ Opened o) = its_opening i w unit waits.0 mount.legal waits.1 in
    given_back_landed i w unit event knows waits.0 its.0 q mount waits.1 its.1 (rows_of_chunks i w its.0 unit mount)
    ∙ or_left (is_given_back i.shape (log_of w 0) q) (can_be_read i.shape (after (log_of w) (Landed unit event) knows 0) its.0 unit q) f
given_next i known w beginning (Lost unit event) knows q mount own may f =
    let waits = waits_on (log_of w 0) unit
    (subst (λ (xs : List Logged). length (answers xs unit) < length (placed_on xs unit)) own may.stripe.placed) in
    let its : (o : Opening) × (waits.0.life ≡ Opened o) = its_opening i w unit waits.0 mount.legal waits.1 in
    given_lost i.shape (log_of w 0) (after (log_of w) (Lost unit event) knows 0) waits.0 its.0 q (one_lost (log_of w 0) unit event knows waits.0 waits.1) its.1
    ∙ or_left (is_given_back i.shape (log_of w 0) q) (has_landed_in i.shape (log_of w 0) its.0 waits.0.stripe.unit q) f
given_next i known w beginning (Again unit event) knows q mount own may f =
    kept_by i.shape (log_of w 0) (after (log_of w) (Again unit event) knows 0) q
    (alike_kept (log_of w 0) (after (log_of w) (Again unit event) knows 0)
    (quiet_alike (log_of w 0) (Again unit event) knows (stop_is_quiet (log_of w 0) unit event knows))) f
given_next i known w beginning (ResetDone unit event) knows q mount own may f =
    kept_by i.shape (log_of w 0) (after (log_of w) (ResetDone unit event) knows 0) q
    (alike_kept (log_of w 0) (after (log_of w) (ResetDone unit event) knows 0)
    (quiet_alike (log_of w 0) (ResetDone unit event) knows (reset_is_quiet (log_of w 0) unit event knows))) f
given_next i known w beginning (Free line) knows q mount own may f =
    kept_by i.shape (log_of w 0) (after (log_of w) (Free line) knows 0) q
    (alike_kept (log_of w 0) (after (log_of w) (Free line) knows 0) (quiet_alike (log_of w 0) (Free line) knows (free_is_quiet (log_of w 0) line knows))) f

module _ (i : Image) (w : World) (e : EngineEvent) where
  abbrev later : World
  later = engine_step i.shape e w ∷ w

  abbrev last : Logged
  last = (engine_step i.shape e w).logged

  decision : (b : Begun) (o : EngineEvent) → prefixes last (log_of w) 0 ≡ log_of w 0 → begun (log_of w 0) ≡ Some b
      → MayDecide i (prefixes last (log_of w)) o → (beginning : Begun) × IsDecision i (prefixes last (log_of w)) beginning o
  decision b (Begin x) own has may = absurd (none-some b (ap (λ (log : List Logged). begun log) (sym may.is_first ∙ own) ∙ has))
  decision b (Take entry mark) own has may = (may.0, may.2)
  decision b (Open line start) own has may = (may.0, may.2)
  decision b (Place stripe) own has may = (may.0, may.2)
  decision b (Landed unit event) own has may = (may.0, may.2)
  decision b (Lost unit event) own has may = (may.0, may.2)
  decision b (Again unit event) own has may = (may.0, may.2)
  decision b (ResetDone unit event) own has may = (may.0, may.2)
  decision b (Free line) own has may = (may.0, may.2)

  -- one event of the engine more
  pub given_later : (b : Begun) (q : ℕ) → begun (log_of w 0) ≡ Some b → IsLegalMount i w → IsLegalMount i later
      → is_given_back i.shape (log_of w 0) q ≡ true → is_given_back i.shape (log_of later 0) q ≡ true
  unfolding IsLegal
  given_later b q has mount now f =
      let step = now.legal.0 in
      let own : prefixes last (log_of w) 0 ≡ log_of w 0 = ap (λ n. take n (log_of w 0)) step.knowledge.own ∙ take-length (log_of w 0) in
      let d = decision b e own has step.allowed in
      subst (λ (logs : Logs). is_given_back i.shape (logs 0) q ≡ true) (sym (engine_logs i.shape e w))
      (given_next i (prefixes last (log_of w)) w d.0 e (knows_all i.shape w) q mount own d.1 f)

-- ---- slots on the drive

from_first : (i : Image) (w : World) (lba : ℕ) (t : Taken) → IsLegalMount i w → last_take (log_of w 0) lba ≡ Some t
    → first_position (log_of w 0) ≤ t.entry.position
from_first i w lba t mount last =
    let at = (last_is_among (log_of w 0) lba t last).0 in
    let is : t.entry.position ≡ first_position (log_of w 0) + at.0 = position_of i w at.0 t mount.legal at.1 in
    omega arith

-- its entry isn't in the buffer
pub never_cached : (i : Image) (w : World) (lba q : ℕ) → IsLegalMount i w → IsOut i.shape (log_of w 0) q → ¬ (slot_of i (log_of w) lba ≡ Cached q)
never_cached i w lba q mount (inr given) slot =
    let is = cached i (log_of w) lba q slot in
    let both : true ≡ false = sym given ∙ is.1.kept in absurd cc
never_cached i w lba q mount (inl below) slot =
    let is = cached i (log_of w) lba q slot in
    let from : first_position (log_of w 0) ≤ is.0.entry.position = from_first i w lba is.0 mount is.1.last in
    let at : is.0.entry.position ≡ q = is.1.position in
    absurd (omega arith)

-- where a slot names a place on the drive, it is so of the position there
same_place : (line at q line' at' q' : ℕ) → Media line at q ≡ Media line' at' q' → q ≡ q'
same_place line at q line' at' q' e = cc

pub media_is_out : (i : Image) (w : World) (b : Begun) (lba line at q : ℕ) → IsLegalMount i w → begun (log_of w 0) ≡ Some b
    → slot_of i (log_of w) lba ≡ Media line at q → IsOut i.shape (log_of w 0) q
media_is_out i w b lba line at q mount has slot = go (last_take (log_of w 0) lba) slot
  where
    of_winner : (o : Option Record) → winner (counted (found_image i (log_of w))) lba ≡ o → slot_of_winner o ≡ Media line at q → IsOut i.shape (log_of w 0) q
    of_winner None wins e = absurd cc
    of_winner (Some r) wins e =
        let below = below_first i w b r mount.legal has (winner_is_winner (found_image i (log_of w)) lba r wins).there in
        let is : r.position ≡ q = same_place r.line r.at r.position line at q e in
        inl (omega (arith, below))

    of_entry : (position : ℕ) (o : Option Placed) → find (gives_back i.shape (log_of w 0) position) (placements (log_of w 0)) ≡ o
        → option_map_or (media_of i (log_of w) position) o (Cached position) ≡ Media line at q → IsOut i.shape (log_of w 0) q
    of_entry position None none e = absurd cc
    of_entry position (Some p) found e =
        let is = found_passes (gives_back i.shape (log_of w 0) position) (placements (log_of w 0)) p found in
        inr (subst (λ n. is_given_back i.shape (log_of w 0) n ≡ true) (same_place _ _ position line at q e)
        (any_member (gives_back i.shape (log_of w 0) position) (placements (log_of w 0)) is.1.0 p is.1.1 is.0))

    go : (t : Option Taken) → slot_by i (log_of w) lba t ≡ Media line at q → IsOut i.shape (log_of w 0) q
    go None e = of_winner (winner (counted (found_image i (log_of w))) lba) refl e
    go (Some t) e = of_entry t.entry.position (find (gives_back i.shape (log_of w 0) t.entry.position) (placements (log_of w 0))) refl e
