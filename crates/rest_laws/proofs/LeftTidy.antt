-- Where no event of a unit failed, a mount over a tidy image leaves a tidy image, once collection
-- isn't due.
use Rattle.std.proofs.Common.{◌≡◌, ◌⊎◌, inl, inr, ℕ, ◌+◌, ◌-◌, ◌<◌, ◌≤◌, ◌||◌, suc, Bool, true, false, Some, List, length, take, refl, sym, ap, ◌∙◌, arith}
use Rattle.std.specs.Prelude.{slice_get, slice_index}
use Rattle.std.specs.List.{Contains, range_with_len}
use Rattle.std.proofs.lemmas.Bool.{cases_order}
use Rattle.std.proofs.lemmas.Option.{same_Some}
use Rattle.std.proofs.Math.Seq.{take-length}
use Rattle.pblk_model.specs.Chunk.{Chunk}
use Rattle.pblk_model.specs.Image.{Image, IsFit}
use Rattle.pblk_model.specs.Shape.{units}
use Rattle.pblk_model.specs.UnitLog.{Failed, UnitEvent}
use Rattle.pblk_laws.specs.LineBlocks.{chunk_in}
use Rattle.pblk_world.specs.Commanding.{ended_stripes, is_program, is_reset, was_stopped}
use Rattle.pblk_world.specs.EngineLog.{AsFound, Begun, begun, Freed, is_opened, life_of, LineLife, named_events, Opened}
use Rattle.pblk_world.specs.Events.{Logged}
use Rattle.pblk_world.specs.Lines.{are_empty, found_image, has_number, is_empty_state, is_free_line, known_image}
use Rattle.pblk_world.specs.Space.{is_due}
use Rattle.pblk_world.specs.World.{World, Logs, log_of, media, unit_event_at, unit_event_of, unit_events}
use Rattle.pblk_model.proofs.Maps.{given_at}
use Rattle.pblk_model.proofs.Options.{split_then}
use Rattle.pblk_model.proofs.Parts.{all_at, get_below}
use Rattle.world_laws.specs.KnownChunks.{IsChange}
use Rattle.pblk_world.specs.LegalMounts.{IsLegalMount}
use Rattle.world_laws.specs.UnitChunks.{chunk_after}
use Rattle.world_laws.proofs.FitMedia.{media_fit}
use Rattle.world_laws.proofs.KnownPrefixes.{known_prefix, named_there}
use Rattle.world_laws.proofs.LastUses.{IsOfChunk}
use Rattle.world_laws.proofs.MediaChunks.{chunk_of_media}
use Rattle.world_laws.proofs.NextLives.{placed_in}
use Rattle.world_laws.proofs.Resets.{empty_until}
use Rattle.world_laws.proofs.SealedMedia.{media_sealed}
use Rattle.world_laws.proofs.StripeLines.{IsGone, open_or_gone}
use Rattle.world_laws.proofs.Tellings.{IsNamedAt, IsToldBefore, last_program}
use Rattle.world_laws.proofs.ToldBefore.{going_before, IsProgram, no_both, program, told_itself}
use Rattle.core_laws.specs.FaultlessMounts.{is_answered, IsFaultlessMount}
use Rattle.world_laws.proofs.EarlierLogs.{some_begun}
use Rattle.core_laws.proofs.EachChunk.{chunks_pass}
use Rattle.rest_laws.specs.TidyMounts.{HasNoFailures}
use Rattle.rest_laws.specs.Tidy.{HasWholeChunks, has_free_chunks, IsFaultless, IsFoundFaultless, IsTidy, is_free_state}
use Rattle.rest_laws.proofs.FreeCounts.{many_free}
use Rattle.rest_laws.proofs.NothingFailed.{faultless_wide, known_chunk}
use Rattle.rest_laws.proofs.TidyFound.{chunk_passes, found_tidy, free_or_offline, free_parts, more_pass, whole_image}
use Rattle.rest_laws.proofs.WholeChunks.{known_whole, media_whole}

-- ---- nothing failed that anybody heard of

pub heard_faultless : (logs : Logs) → HasNoFailures logs → IsFaultless logs
heard_faultless logs fine = record { none_failed = λ unit number landed_before e named at. fine.none_failed unit number landed_before e at }

pub found_faultless : (logs : Logs) → HasNoFailures logs → IsFoundFaultless logs
found_faultless logs fine = record { none_failed = λ b begins unit number landed_before e below at. fine.none_failed unit number landed_before e at }

-- so where each unit answered each command
pub answered_faultless : (i : Image) (w : World) → IsFaultlessMount i w → HasNoFailures (log_of w)
answered_faultless i w is = record { none_failed = λ unit number landed_before e at failed. by unit number landed_before e at failed }
  where
    by : (unit number landed_before : ℕ) (e : UnitEvent) → unit_event_at (log_of w) unit number ≡ Some e → e.outcome ≡ Failed landed_before → ⊥
    by unit number landed_before e at failed =
        let from = split_then (λ (l : Logged). unit_event_of l.event) (slice_get (log_of w (suc unit)) number) e at in
        let there = given_at (λ (l : Logged). unit_event_of l.event) (log_of w (suc unit)) from.0 e number from.1 from.2 in
        let answered : is_answered e.outcome ≡ true =
        all_at (λ (x : UnitEvent). is_answered x.outcome ≡ true) (unit_events (log_of w) unit) there.0 e there.1 (is.answered unit) in
        no_both answered (ap is_answered failed)

-- ---- whole chunks

pub left_whole : (i : Image) (w : World) → IsLegalMount i w → HasNoFailures (log_of w) → HasWholeChunks i → HasWholeChunks (media i (log_of w))
left_whole i w mount fine all =
    whole_image (media i (log_of w)) (λ line unit c there. media_whole i w mount unit line fine all c there)

-- ---- Free lines

module _ (i : Image) (w : World) (mount : IsLegalMount i w) (b : Begun) (begins : begun (log_of w 0) ≡ Some b) where
  abbrev log : List Logged
  log = log_of w 0

  -- a line that isn't opened
  module _ (unit line : ℕ) (closed : is_opened (life_of (log_of w 0) line) ≡ false) where
    abbrev own : List Logged
    own = log_of w (suc unit)

    -- the engine named each program of the chunk: the line was freed since, so each of its stripes
    -- was answered
    named_program : (m : ℕ) (l : Logged) (e : UnitEvent) → slice_index b.knows (suc unit) ≤ m → IsOfChunk i w mount.legal unit line is_program m l e
        → IsChange (log_of w) line unit m × Contains (named_events (log_of w 0) unit) m
    named_program m l e from at = (
      record {
        logged = l;
        there = at.there;
        event = e;
        is_event = at.is_event;
        its_chunk = at.its_chunk;
        kind = ap (λ x. x || is_reset e.command) at.passes;
        going = going;
      },
      named_there log unit t.at m named.logged named.there named.names,
    )
      where
        p : IsProgram i w mount.legal b begins unit line m l e
        p = program i w mount.legal b begins unit line m l e from at

        gone : IsGone i w mount.legal unit (ended_stripes (take m (log_of w (suc unit)))) p.stripe.placed p.stripe.in_order (length (log_of w 0))
        gone = by (open_or_gone i w mount.legal unit (ended_stripes (take m own)) p.stripe.placed p.stripe.in_order (length log)
            (get_below log p.stripe.placed.number p.placed.logged p.placed.decided.there) (omega arith))
          where
            by : (life_of (take (length (log_of w 0)) (log_of w 0)) p.stripe.placed.stripe.line ≡ Opened
                (placed_in i w mount.legal unit (ended_stripes (take m (log_of w (suc unit)))) p.stripe.placed p.stripe.in_order).opening)
                ⊎ IsGone i w mount.legal unit (ended_stripes (take m (log_of w (suc unit)))) p.stripe.placed p.stripe.in_order (length (log_of w 0))
                → IsGone i w mount.legal unit (ended_stripes (take m (log_of w (suc unit)))) p.stripe.placed p.stripe.in_order (length (log_of w 0))
            by (inr is) = is
            by (inl open_now) = no_both (ap (λ (xs : List Logged). is_opened (life_of xs line)) (sym (take-length log))
                ∙ ap (λ k. is_opened (life_of (take (length log) log) k)) (sym p.its_line) ∙ ap is_opened open_now) closed

        t : IsToldBefore i w mount.legal unit (ended_stripes (take m (log_of w (suc unit)))) gone.freed.number
        t = gone.told

        going : was_stopped e.outcome ≡ false
        going = by (cases_order m t.told.number)
          where
            within : m ≤ t.told.number
            within = last_program i w mount.legal unit (ended_stripes (take m own)) t.at m t.told refl

            by : (m ≡ t.told.number) ⊎ ((m < t.told.number) ⊎ (t.told.number < m)) → was_stopped e.outcome ≡ false
            by (inl same) =
                let one : l ≡ t.told.logged = same_Some l t.told.logged (sym at.there ∙ ap (slice_get own) same ∙ t.told.there) in
                let event : e ≡ t.told.event = same_Some e t.told.event
                (sym at.is_event ∙ ap (λ (x : Logged). unit_event_of x.event) one ∙ t.told.is_event) in
                ap (λ (x : UnitEvent). was_stopped x.outcome) event ∙ t.told.going
            by (inr (inl below)) = going_before i w mount.legal b begins unit line m t.told.number l t.told.logged e t.told.event below at.there at.is_event
                t.told.there t.told.is_event t.told.going
            by (inr (inr above)) = let few : m ≤ t.told.number = within in absurd (omega arith)

        named : IsNamedAt i w mount.legal unit t.at m
        named = told_itself i w mount.legal b begins unit line m gone.freed.number l e (record { from = from; at = at; going = going }) t

    -- a chunk that is known to be empty is so on the media
    empty_there : (c : Chunk) → chunk_in (known_image i (log_of w)) line unit ≡ Some c → is_empty_state c.state ≡ true
        → chunk_in (media i (log_of w)) line unit ≡ Some c
    empty_there c known empty =
        let p = known_prefix i w mount.legal b begins unit line c known in
        let inside : p.0 ≤ length own = p.2 in
        let far : p.0 + (length own - p.0) ≡ length own = omega arith in
        chunk_of_media i (log_of w) line unit ∙ ap (chunk_after i (log_of w) line unit) (sym far)
        ∙ empty_until i w mount.legal unit line p.0 (length own - p.0) c (omega arith) p.3 empty
        (λ m l e low high there is its. none p.0 p.1 m l e (λ h n. (p.4 m (lowest p.1 low) h).1 n) low there is its)
      where
        lowest : {x y z : ℕ} → x ≤ y → y ≤ z → x ≤ z
        lowest x y = omega (arith, x, y)

        none : (n : ℕ) → slice_index b.knows (suc unit) ≤ n → (m : ℕ) (l : Logged) (e : UnitEvent)
            → (IsChange (log_of w) line unit m → Contains (named_events (log_of w 0) unit) m → m < n) → n ≤ m
            → slice_get (log_of w (suc unit)) m ≡ Some l → unit_event_of l.event ≡ Some e → e.chunk ≡ line → is_program e.command ≡ false
        none n from m l e before low there is its = by (is_program e.command) refl
          where
            by : (t : Bool) → is_program e.command ≡ t → is_program e.command ≡ false
            by false f = f
            by true f =
                let its_naming = named_program m l e (lowest from low) (record { there = there; is_event = is; its_chunk = its; passes = f }) in
                let less : m < n = before its_naming.0 its_naming.1 in
                absurd (omega arith)

  module _ (fine : HasNoFailures (log_of w)) (tidy : IsTidy i) where
    found : IsTidy (found_image i (log_of w))
    found = found_tidy i w mount b begins tidy (found_faultless (log_of w) fine)

    free_left : (line : ℕ) → is_free_line i (log_of w) line ≡ true → has_free_chunks (media i (log_of w)) line ≡ true
    free_left line free =
        let parts = free_parts i (log_of w) line free in
        chunks_pass (media i (log_of w)) line (λ (c : Chunk). is_free_state c.state)
        (λ unit c there. by (not_opened (life_of (log_of w 0) line) parts.0) parts.1 unit c there)
      where
        not_opened : (life : LineLife) → has_number i (log_of w) life line ≡ false → is_opened life ≡ false
        not_opened AsFound none = refl
        not_opened (Opened o) none = absurd cc
        not_opened (Freed was knows) none = refl

        by : is_opened (life_of (log_of w 0) line) ≡ false → are_empty (known_image i (log_of w)) line ≡ true → (unit : ℕ) (c : Chunk)
            → chunk_in (media i (log_of w)) line unit ≡ Some c
            → is_free_state c.state ≡ true
        by closed empty unit c there =
            let fit : IsFit (media i (log_of w)) = media_fit i w mount.accepted mount.fit mount.legal in
            let at = split_then (λ (cs : List Chunk). slice_get cs line) (slice_get (media i (log_of w)).units unit) c there in
            let unit_in : unit < length (media i (log_of w)).units = get_below (media i (log_of w)).units unit at.0 at.1 in
            let count : length at.0 ≡ i.shape.chunks =
            all_at (λ (cs : List Chunk). length cs ≡ i.shape.chunks) (media i (log_of w)).units unit at.0 at.1 fit.chunks in
            let line_in : line < length at.0 = get_below at.0 line c at.2 in
            let many : length (media i (log_of w)).units ≡ units i.shape = fit.units in
            let known = known_chunk i w mount b begins unit line (omega arith) (omega arith) in
            let its_empty : is_empty_state known.0.state ≡ true =
            chunk_passes (known_image i (log_of w)) (λ (x : Chunk). is_empty_state x.state) line unit known.0 empty known.1 in
            let its_free : is_free_state known.0.state ≡ true = free_or_offline known.0.state its_empty
            (known_whole i w mount unit line b begins (heard_faultless (log_of w) fine) found.whole known.0 known.1).online in
            let same : known.0 ≡ c = same_Some known.0 c (sym (empty_there unit line closed known.0 known.1 its_empty) ∙ there) in
            ap (λ (x : Chunk). is_free_state x.state) (sym same) ∙ its_free

    pub stays_tidy : is_due i (log_of w) ≡ false → IsTidy (media i (log_of w))
    stays_tidy not_due = record {
      sealed = media_sealed i w mount tidy.sealed;
      whole = left_whole i w mount fine tidy.whole;
      some_free = still_four
          (many_free i (log_of w) (faultless_wide i w mount b begins (heard_faultless (log_of w) fine) found.whole) not_due)
          (more_pass (is_free_line i (log_of w)) (has_free_chunks (media i (log_of w))) free_left (range_with_len 0 i.shape.chunks));
    }
      where
        still_four : {m n : ℕ} → 4 ≤ m → m ≤ n → 4 ≤ n
        still_four x y = omega (arith, x, y)

pub left_tidy : (i : Image) (w : World) → IsLegalMount i w → 0 < length (log_of w 0) → HasNoFailures (log_of w) → IsTidy i → is_due i (log_of w) ≡ false
    → IsTidy (media i (log_of w))
left_tidy i w mount some fine tidy not_due =
    let b = some_begun i w mount.legal some in stays_tidy i w mount b.0 b.1 fine tidy not_due
