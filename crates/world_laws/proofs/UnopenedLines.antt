-- A line that this mount never opened. Nothing is programmed in it, so each chunk of it stays or is
-- emptied: the line has the start record and the records that it had, or fewer. Of a line as it was
-- found that is no stray all chunks stay, and a stray had no start record.
use Rattle.std.proofs.Common.{◌≡◌, ℕ, ◌+◌, ◌-◌, ◌<◌, ◌≤◌, ◌⊎◌, inl, inr, ◌==◌, suc, Bool, true, false, not, Some, None, Option, List, length, refl, sym, subst, ap, ◌∙◌, arith}
use Rattle.std.specs.Prelude.{slice_get, slice_index}
use Rattle.std.specs.List.{Contains, find, list_any, range_with_len}
use Rattle.std.specs.Option.{is_some}
use Rattle.std.proofs.Math.Seq.{take-length}
use Rattle.std.proofs.lemmas.Option.{none-some}
use Rattle.pblk_model.specs.declared.shape.Shape.{Shape}
use Rattle.pblk_model.specs.Accepted.{IsAccepted}
use Rattle.pblk_model.specs.Image.{Image, IsFit}
use Rattle.pblk_model.specs.Records.{Record, line_records, records_after}
use Rattle.pblk_model.specs.Sealed.{IsSealed}
use Rattle.pblk_model.specs.StartRecord.{StartRecord, start_of}
use Rattle.pblk_laws.specs.LineBlocks.{chunk_in}
use Rattle.pblk_world.specs.Events.{Free}
use Rattle.pblk_world.specs.World.{World, log_of, media}
use Rattle.pblk_world.specs.EngineLog.{Begun, begun, AsFound, Freed, last_opening, life_of}
use Rattle.pblk_world.specs.Lines.{are_empty, found_by, found_image, is_stray, stray_lines}
use Rattle.pblk_world.proofs.LinesLemmas.{length_found}
use Rattle.pblk_world.proofs.WorldLemmas.{length_media}
use Rattle.pblk_model.proofs.Maps.{all_in_range, all_passed, any_found, found_passes, from_filter}
use Rattle.pblk_model.proofs.Options.{some_value}
use Rattle.pblk_model.proofs.Parts.{all_get}
use Rattle.pblk_model.proofs.Tests.{first_of, same}
use Rattle.world_laws.specs.Losing.{LosesChunks}
use Rattle.world_laws.specs.SameImages.{IsSameLine}
use Rattle.world_laws.specs.SealedLines.{IsSealedLine}
use Rattle.world_laws.proofs.FitMedia.{found_fit}
use Rattle.world_laws.proofs.FoundImages.{found_sealed, found_strays}
use Rattle.world_laws.proofs.LosingLines.{lose_records, lose_sealed, lose_start, sealed_line}
use Rattle.world_laws.proofs.LostImages.{line_kept}
use Rattle.pblk_world.specs.LegalMounts.{IsLegalMount}
use Rattle.world_laws.specs.UnitChunks.{chunk_after}
use Rattle.world_laws.proofs.KeptChunks.{IsFreedSince, found_stays, freed_since, none_in_unopened}
use Rattle.world_laws.proofs.NextLives.{IsDecided, decided}
use Rattle.world_laws.proofs.LifeUnits.{begun_within}
use Rattle.world_laws.proofs.LosingChunks.{kept_or_lost}
use Rattle.world_laws.proofs.MediaChunks.{chunk_of_found, chunk_of_media}

module _ (i : Image) (w : World) (mount : IsLegalMount i w) (b : Begun) (begins : begun (log_of w 0) ≡ Some b) (line : ℕ) where
  abbrev now : Image
  now = media i (log_of w)

  abbrev found : Image
  found = found_image i (log_of w)

  same_shape : (o : Option Begun) → (found_by i (log_of w) o).shape ≡ i.shape
  same_shape None = refl
  same_shape (Some c) = refl

  found_shape : found.shape ≡ i.shape
  found_shape = same_shape (begun (log_of w 0))

  same_count : length now.units ≡ length found.units
  same_count = length_media i (log_of w) ∙ sym (length_found i (log_of w) (begun (log_of w 0)))

  -- ---- a line that was never opened

  pub unopened_loses : last_opening (life_of (log_of w 0) line) ≡ None → LosesChunks found now line
  unopened_loses never = record {
    shape = sym found_shape;
    count = same_count;
    chunks = λ unit. kept_or_lost i w mount.accepted mount.fit mount.legal unit line (slice_index b.knows (suc unit))
        (begun_within i w mount.legal b begins unit)
        (none_in_unopened i w mount.legal b begins unit line (length (log_of w (suc unit))) never) found now
        (chunk_of_found i (log_of w) b line unit begins) (chunk_of_media i (log_of w) line unit);
  }

  module _ (sealed : IsSealed i) where
    accepted_found : IsAccepted found.shape
    accepted_found = subst IsAccepted (sym found_shape) mount.accepted

    fit_found : IsFit found
    fit_found = found_fit i w mount.accepted mount.fit mount.legal

    pub sealed_found : IsSealed found
    sealed_found = found_sealed i w (log_of w) mount.accepted mount.fit sealed mount.legal
        (λ author. (length (log_of w author), sym (take-length (log_of w author))))

    line_found : line < i.shape.chunks → IsSealedLine found line
    line_found inside = sealed_line found line sealed_found (subst (λ (s : Shape). line < s.chunks) (sym found_shape) inside)

    pub unopened_start : (r : StartRecord) → line < i.shape.chunks → last_opening (life_of (log_of w 0) line) ≡ None → start_of now line ≡ Some r
        → start_of found line ≡ Some r
    unopened_start r inside never = lose_start found now line r accepted_found fit_found (line_found inside) (unopened_loses never)

    pub unopened_records : (r : Record) → line < i.shape.chunks → last_opening (life_of (log_of w 0) line) ≡ None → Contains (line_records now line) r
        → Contains (line_records found line) r
    unopened_records r inside never = lose_records found now line r accepted_found fit_found (line_found inside) (unopened_loses never)

    pub unopened_sealed : line < i.shape.chunks → last_opening (life_of (log_of w 0) line) ≡ None → IsSealedLine now line
    unopened_sealed inside never = lose_sealed found now line accepted_found fit_found (line_found inside) (unopened_loses never)

    -- ---- a line as it was found

    -- a stray had no start record
    record IsStrayLine : Type 0 where
      inside : line < i.shape.chunks
      no_start : start_of found line ≡ None

    no_record : (o : Option StartRecord) → not (is_some o) ≡ true → o ≡ None
    no_record None e = refl
    no_record (Some r) e = absurd cc

    stray_line : list_any (λ stray. stray == line) b.beginning.strays ≡ true → IsStrayLine
    stray_line is =
        let at = some_value (find (λ stray. stray == line) b.beginning.strays) (sym (any_found (λ stray. stray == line) b.beginning.strays) ∙ is) in
        let its = found_passes (λ stray. stray == line) b.beginning.strays at.0 at.1 in
        let same_line : at.0 ≡ line = same at.0 line its.0 in
        let strays : slice_get (stray_lines found) its.1.0 ≡ Some line =
        ap (λ (xs : List ℕ). slice_get xs its.1.0) (sym (found_strays i w b mount.legal begins)) ∙ its.1.1 ∙ ap (λ x. Some x) same_line in
        let among = from_filter (is_stray found) (range_with_len 0 found.shape.chunks) line (its.1.0, strays) in
        let below : line < found.shape.chunks = all_get (λ x. x < found.shape.chunks) (range_with_len 0 found.shape.chunks) among.0 line
        (all_in_range 0 found.shape.chunks found.shape.chunks (omega arith)) among.1 in
        let passes : is_stray found line ≡ true = all_get (λ x. is_stray found x ≡ true) (stray_lines found) its.1.0 line
        (all_passed (is_stray found) (range_with_len 0 found.shape.chunks)) strays in
        record {
          inside = subst (λ (s : Shape). line < s.chunks) found_shape below;
          no_start = no_record (start_of found line) (first_of (not (is_some (start_of found line))) (not (are_empty found line)) passes);
        }

    pub record IsAsFound : Type 0 where
      pub start : start_of now line ≡ start_of found line
      pub bears : line_records now line ≡ line_records found line

    pub as_found : life_of (log_of w 0) line ≡ AsFound → IsAsFound
    as_found is = by (list_any (λ stray. stray == line) b.beginning.strays) refl where
      kept : list_any (λ stray. stray == line) b.beginning.strays ≡ false → (unit : ℕ) → chunk_in now line unit ≡ chunk_in found line unit
      kept none unit =
          let from : ℕ = slice_index b.knows (suc unit) in
          let low : slice_index b.knows (suc unit) ≤ length (log_of w (suc unit)) = begun_within i w mount.legal b begins unit in
          let far : slice_index b.knows (suc unit) + (length (log_of w (suc unit)) - slice_index b.knows (suc unit)) ≡ length (log_of w (suc unit)) =
          omega arith in
          chunk_of_media i (log_of w) line unit ∙ ap (chunk_after i (log_of w) line unit) (sym far)
          ∙ found_stays i w mount.legal b begins unit line is none (length (log_of w (suc unit)) - slice_index b.knows (suc unit)) (omega arith)
          ∙ sym (chunk_of_found i (log_of w) b line unit begins)

      none_now : (o : Option StartRecord) → start_of now line ≡ o → IsStrayLine → o ≡ None
      none_now None e stray = refl
      none_now (Some r) e stray = absurd (none-some r (sym stray.no_start ∙ unopened_start r stray.inside (ap last_opening is) e))

      by : (t : Bool) → list_any (λ stray. stray == line) b.beginning.strays ≡ t → IsAsFound
      by false none =
          let same_line : IsSameLine found now line = line_kept found now line (sym found_shape) same_count (kept none) in
          record { start = same_line.start; bears = same_line.records }
      by true any =
          let stray : IsStrayLine = stray_line any in
          let none : start_of now line ≡ None = none_now (start_of now line) refl stray in
          record {
            start = none ∙ sym stray.no_start;
            bears = ap (records_after now line) none ∙ sym (ap (records_after found line) stray.no_start);
          }

    -- ---- a line of an older mount that was freed

    freed_within : (knows : List ℕ) → life_of (log_of w 0) line ≡ Freed None knows → line < i.shape.chunks
    freed_within knows is =
        let f : IsFreedSince (log_of w 0) line (length (log_of w 0)) None knows = freed_since (log_of w 0) (length (log_of w 0)) line None knows (omega arith)
        (ap (λ log. life_of log line) (take-length (log_of w 0)) ∙ is) in
        let d : IsDecided i w mount.legal f.number (Free line) f.logged = decided i w mount.legal f.number (Free line) f.logged f.there f.event in
        d.allowed.2.in_range

    abbrev pub IsLess : Type 0
    IsLess = (start_of now line ≡ None)
        ⊎ ((start_of now line ≡ start_of found line) × ((r : Record) → Contains (line_records now line) r → Contains (line_records found line) r))

    pub freed_old : (knows : List ℕ) → life_of (log_of w 0) line ≡ Freed None knows → IsLess
    freed_old knows is = by (start_of now line) refl where
      by : (o : Option StartRecord) → start_of now line ≡ o → IsLess
      by None e = inl e
      by (Some r) e = inr (
        e ∙ sym (unopened_start r (freed_within knows is) (ap last_opening is) e),
        λ x. unopened_records x (freed_within knows is) (ap last_opening is),
      )
