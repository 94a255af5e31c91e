-- Where nothing that the engine heard of failed, no stripe was lost, and no line is narrower than
-- the drive if the mount found whole chunks.
use Rattle.std.proofs.Common.{◌≡◌, ◌≢◌, ℕ, ◌+◌, ◌<◌, suc, cond, true, Some, Option, List, [], ◌∷◌, length, refl, sym, subst, ap, ◌∙◌, arith}
use Rattle.std.specs.Prelude.{slice_get, slice_index}
use Rattle.std.specs.List.{AllByRecursion, cons_option, filter, filter_map}
use Rattle.std.specs.Option.{option_and_then}
use Rattle.std.proofs.lemmas.Option.{same_Some}
use Rattle.std.proofs.Math.Seq.{take-length}
use Rattle.pblk_model.specs.declared.chunk.ChunkState.{ChunkState}
use Rattle.pblk_model.specs.declared.chunk.ChunkState.TheVariants as states
use Rattle.pblk_model.specs.Chunk.{Chunk}
use Rattle.pblk_model.specs.Image.{Image, IsFit, is_online_in}
use Rattle.pblk_model.specs.Shape.{units}
use Rattle.pblk_laws.specs.LineBlocks.{chunk_in}
use Rattle.pblk_world.specs.EngineLog.{Begun, begun}
use Rattle.pblk_world.specs.Events.{Logged}
use Rattle.pblk_world.specs.Legal.{IsLegal}
use Rattle.pblk_world.specs.Lines.{found_image, known_image}
use Rattle.pblk_world.specs.World.{World, Logs, log_of, media}
use Rattle.pblk_world.proofs.EngineLogLemmas.{begun_knows}
use Rattle.pblk_world.proofs.LinesLemmas.{length_known}
use Rattle.pblk_world.proofs.VictimsLemmas.{whole_prefix}
use Rattle.pblk_model.proofs.Options.{split_then}
use Rattle.pblk_model.proofs.Parts.{all_at, all_by_get, get_below, got_within}
use Rattle.pblk_world.specs.LegalMounts.{IsLegalMount, NoStripeLost}
use Rattle.world_laws.proofs.FitMedia.{media_fit}
use Rattle.world_laws.proofs.KnownChunks.{IsKnownTo, known_first, known_later}
use Rattle.world_laws.proofs.LifeUnits.{begun_within, chunk_known}
use Rattle.world_laws.proofs.MediaChunks.{chunk_of_media}
use Rattle.world_laws.proofs.UnitChunks.{still_there}
use Rattle.rest_laws.specs.Tidy.{AreWide, HasWholeChunks, IsFaultless, IsWholeChunk}
use Rattle.rest_laws.proofs.LostEvents.{none_lost}
use Rattle.rest_laws.proofs.WholeChunks.{known_whole}

-- ---- nothing was lost

pub faultless_kept : (i : Image) (w : World) → IsLegal i w → IsFaultless (log_of w) → NoStripeLost (log_of w 0)
faultless_kept i w legal fine =
    none_lost i w legal (λ unit number h. fine.none_failed unit number h.landed_before h.program h.named h.there h.failed)

-- ---- no line is narrower

online_state : (state : ChunkState) → state ≢ states.Offline → is_online_in state ≡ true
online_state states.Free apart = refl
online_state states.Open apart = refl
online_state states.Closed apart = refl
online_state states.Offline apart = absurd (apart refl)

-- a unit has an online chunk of the line
abbrev HasOnline : ℕ → List Chunk → Type 0
HasOnline line cs = (c : Chunk) × (slice_get cs line ≡ Some c) × (is_online_in c.state ≡ true)

all_online : (line : ℕ) (us : List (List Chunk)) → AllByRecursion (HasOnline line) us
    → length (filter (λ (c : Chunk). is_online_in c.state) (filter_map (λ (cs : List Chunk). slice_get cs line) us)) ≡ length us
all_online line [] all = refl
all_online line (cs ∷ us) all =
    let rest : List Chunk = filter_map (λ (xs : List Chunk). slice_get xs line) us in
    ap (λ (o : Option Chunk). length (filter (λ (c : Chunk). is_online_in c.state) (cons_option o rest))) all.0.1
    ∙ ap (λ t. length (cond t (all.0.0 ∷ filter (λ (c : Chunk). is_online_in c.state) rest) (filter (λ (c : Chunk). is_online_in c.state) rest))) all.0.2
    ∙ ap suc (all_online line us all.1)

module _ (i : Image) (w : World) (mount : IsLegalMount i w) (b : Begun) (begins : begun (log_of w 0) ≡ Some b) where
  -- the engine knows a chunk of each line on each unit
  pub known_chunk : (unit line : ℕ) → unit < units i.shape → line < i.shape.chunks → (c : Chunk) × (chunk_in (known_image i (log_of w)) line unit ≡ Some c)
  known_chunk unit line unit_in line_in = by (got_within i.units unit (omega (arith, unit_in, mount.fit.units)))
    where
      own : List Logged
      own = log_of w (suc unit)

      fit : IsFit (media i (log_of w))
      fit = media_fit i w mount.accepted mount.fit mount.legal

      on_media : (c : Chunk) × (chunk_in (media i (log_of w)) line unit ≡ Some c)
      on_media =
          let cs = got_within (media i (log_of w)).units unit (omega (arith, unit_in, fit.units)) in
          let count : length cs.0 ≡ i.shape.chunks =
          all_at (λ (xs : List Chunk). length xs ≡ i.shape.chunks) (media i (log_of w)).units unit cs.0 cs.1 fit.chunks in
          let c = got_within cs.0 line (omega arith) in
          (c.0, ap (option_and_then (λ (xs : List Chunk). slice_get xs line)) cs.1 ∙ c.1)

      by : (cs : List Chunk) × (slice_get i.units unit ≡ Some cs) → (c : Chunk) × (chunk_in (known_image i (log_of w)) line unit ≡ Some c)
      by has =
          let k : ℕ = length (log_of w 0) in
          let some : 0 < k = begun_knows k (log_of w 0) b (ap begun (take-length (log_of w 0)) ∙ begins) in
          let none_left : 0 + k ≡ k = omega arith in
          let told = known_later i w mount.legal b begins unit line has.0 has.1 0 k (slice_index b.knows (suc unit)) (omega arith)
          (known_first i w mount.legal b begins unit line has.0 has.1 (begun_within i w mount.legal b begins unit)) in
          let at : IsKnownTo i w mount.legal b begins unit line has.0 has.1 k told.0 =
          subst (λ n. IsKnownTo i w mount.legal b begins unit line has.0 has.1 n told.0) none_left told.2 in
          let d = still_there i (log_of w) line unit (length own) told.0 on_media.0 (sym (chunk_of_media i (log_of w) line unit) ∙ on_media.1) in (
            d.0,
            ap (λ (logs : Logs). chunk_in (known_image i logs) line unit) (sym (whole_prefix (log_of w)))
                ∙ chunk_known i w mount.legal b begins unit line has.0 has.1 k some ∙ at.same ∙ d.1,
          )

  pub faultless_wide : IsFaultless (log_of w) → HasWholeChunks (found_image i (log_of w)) → AreWide (known_image i (log_of w))
  faultless_wide fine whole line inside =
      all_online line (known_image i (log_of w)).units
      (all_by_get (HasOnline line) (known_image i (log_of w)).units (λ unit cs there.
      let count : length (known_image i (log_of w)).units ≡ length i.units = length_known i (log_of w) in
      let low : unit < length (known_image i (log_of w)).units = get_below (known_image i (log_of w)).units unit cs there in
      let c = known_chunk unit line (omega (arith, mount.fit.units)) inside in
      let at = split_then (λ (xs : List Chunk). slice_get xs line) (slice_get (known_image i (log_of w)).units unit) c.0 c.1 in
      let same : at.0 ≡ cs = same_Some at.0 cs (sym at.1 ∙ there) in
      let is : IsWholeChunk i.shape c.0 = known_whole i w mount unit line b begins fine whole c.0 c.1 in
      (c.0, ap (λ (xs : List Chunk). slice_get xs line) (sym same) ∙ at.2, online_state c.0.state is.online)))
      ∙ length_known i (log_of w) ∙ mount.fit.units
