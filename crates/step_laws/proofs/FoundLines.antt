-- Lines as the mount found them: one with a start record is no stray, and a line that is no stray
-- keeps its chunks, on the media and as the engine knows them.
use Rattle.std.proofs.Common.{◌≡◌, ℕ, ◌+◌, ◌-◌, ◌<◌, ◌≤◌, ◌==◌, not, suc, Bool, true, false, Some, List, length, refl, sym, subst, ap, ◌∙◌, arith}
use Rattle.std.specs.Prelude.{is_some, slice_get, slice_index}
use Rattle.std.specs.List.{list_any, range_with_len}
use Rattle.std.proofs.Math.Seq.{take-length}
use Rattle.std.proofs.lemmas.Bool.{eqb-true}
use Rattle.pblk_model.specs.Chunk.{Chunk}
use Rattle.pblk_model.specs.Image.{Image, line_units}
use Rattle.pblk_model.specs.StartRecord.{start_of}
use Rattle.pblk_laws.specs.LineBlocks.{chunk_in}
use Rattle.pblk_world.specs.Events.{Logged}
use Rattle.pblk_world.specs.World.{World, Logs, log_of, media}
use Rattle.pblk_world.specs.EngineLog.{Begun, begun, AsFound, life_of}
use Rattle.pblk_world.specs.Legal.{IsLegal}
use Rattle.pblk_world.specs.Lines.{are_empty, found_image, known_image, is_stray, stray_lines}
use Rattle.pblk_world.proofs.EngineLogLemmas.{begun_knows}
use Rattle.pblk_world.proofs.LinesLemmas.{length_found, length_known}
use Rattle.pblk_world.proofs.VictimsLemmas.{whole_prefix}
use Rattle.pblk_world.proofs.WorldLemmas.{length_media}
use Rattle.pblk_model.proofs.Lists.{all_imply}
use Rattle.pblk_model.proofs.Maps.{all_passed, any_fail}
use Rattle.pblk_model.proofs.Parts.{got_within}
use Rattle.pblk_model.proofs.Tests.{first_of, not_both, not_true}
use Rattle.world_laws.proofs.FoundImages.{found_strays}
use Rattle.world_laws.specs.UnitChunks.{chunk_after}
use Rattle.world_laws.proofs.KeptChunks.{found_stays}
use Rattle.world_laws.proofs.KnownChunks.{IsKnownTo, known_first, known_later}
use Rattle.world_laws.proofs.LifeUnits.{begun_within, chunk_known}
use Rattle.world_laws.proofs.MediaChunks.{chunk_of_found, chunk_of_media}
use Rattle.world_laws.proofs.OnlineUnits.{is_on, same_units}

-- ---- a line with a start record is no stray

pub no_stray : (i : Image) (w : World) (b : Begun) (line : ℕ) → IsLegal i w → begun (log_of w 0) ≡ Some b
    → is_some (start_of (found_image i (log_of w)) line) ≡ true → list_any (λ stray. stray == line) b.beginning.strays ≡ false
no_stray i w b line legal begins numbered =
    let found : Image = found_image i (log_of w) in
    ap (list_any (λ stray. stray == line)) (found_strays i w b legal begins) ∙ any_fail (λ stray. stray == line) (stray_lines found)
    (all_imply (λ x. is_stray found x ≡ true) (λ x. (x == line) ≡ false) (λ x stray. other x stray (x == line) refl) (stray_lines found)
    (all_passed (is_stray found) (range_with_len 0 found.shape.chunks)))
  where
    other : (x : ℕ) → is_stray (found_image i (log_of w)) x ≡ true → (b : Bool) → (x == line) ≡ b → b ≡ false
    other x stray false e = refl
    other x stray true e =
        let found : Image = found_image i (log_of w) in
        let none : is_some (start_of found x) ≡ false =
        not_true (is_some (start_of found x)) (first_of (not (is_some (start_of found x))) (not (are_empty found x)) stray) in
        absurd (not_both (is_some (start_of found line)) numbered (ap (λ n. is_some (start_of found n)) (sym (eqb-true x line e)) ∙ none))

-- ---- its chunks

module _ (i : Image) (w : World) (legal : IsLegal i w) (b : Begun) (begins : begun (log_of w 0) ≡ Some b) (line : ℕ)
    (life : life_of (log_of w 0) line ≡ AsFound) (none : list_any (λ stray. stray == line) b.beginning.strays ≡ false) where
  -- after each prefix of its unit's log from the one on that the mount began with
  kept : (unit n : ℕ) → slice_index b.knows (suc unit) ≤ n → n ≤ length (log_of w (suc unit))
      → chunk_after i (log_of w) line unit n ≡ chunk_in (found_image i (log_of w)) line unit
  kept unit n low inside =
      let far : slice_index b.knows (suc unit) + (n - slice_index b.knows (suc unit)) ≡ n = omega arith in
      ap (chunk_after i (log_of w) line unit) (sym far)
      ∙ found_stays i w legal b begins unit line life none (n - slice_index b.knows (suc unit)) (omega arith)
      ∙ sym (chunk_of_found i (log_of w) b line unit begins)

  pub media_kept : (unit : ℕ) → chunk_in (media i (log_of w)) line unit ≡ chunk_in (found_image i (log_of w)) line unit
  media_kept unit = chunk_of_media i (log_of w) line unit
      ∙ kept unit (length (log_of w (suc unit))) (begun_within i w legal b begins unit) (omega arith)

  known_kept : (unit : ℕ) (chunks : List Chunk) → slice_get i.units unit ≡ Some chunks
      → chunk_in (known_image i (log_of w)) line unit ≡ chunk_in (found_image i (log_of w)) line unit
  known_kept unit chunks has =
      let log : List Logged = log_of w 0 in
      let some : 0 < length log = begun_knows (length log) log b (ap begun (take-length log) ∙ begins) in
      let all : 0 + length log ≡ length log = omega arith in
      let at = known_later i w legal b begins unit line chunks has 0 (length log) (slice_index b.knows (suc unit)) (omega arith)
      (known_first i w legal b begins unit line chunks has (begun_within i w legal b begins unit)) in
      let k : IsKnownTo i w legal b begins unit line chunks has (length log) at.0 =
      subst (λ x. IsKnownTo i w legal b begins unit line chunks has x at.0) all at.2 in
      ap (λ (logs : Logs). chunk_in (known_image i logs) line unit) (sym (whole_prefix (log_of w)))
      ∙ chunk_known i w legal b begins unit line chunks has (length log) some ∙ k.same ∙ kept unit at.0 k.from k.inside

  -- and its units
  pub units_kept : line_units (known_image i (log_of w)) line ≡ line_units (found_image i (log_of w)) line
  units_kept =
      let known : length (known_image i (log_of w)).units ≡ length i.units = length_known i (log_of w) in
      let found : length (found_image i (log_of w)).units ≡ length i.units = length_found i (log_of w) (begun (log_of w 0)) in
      same_units (known_image i (log_of w)) (found_image i (log_of w)) line (known ∙ sym found)
      (λ unit below. let has = got_within i.units unit (omega arith) in ap is_on (known_kept unit has.0 has.1))

  pub media_units : line_units (media i (log_of w)) line ≡ line_units (found_image i (log_of w)) line
  media_units =
      let found : length (found_image i (log_of w)).units ≡ length i.units = length_found i (log_of w) (begun (log_of w 0)) in
      same_units (media i (log_of w)) (found_image i (log_of w)) line (length_media i (log_of w) ∙ sym found) (λ unit below. ap is_on (media_kept unit))
