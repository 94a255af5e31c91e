-- Which lines are closed at the beginning: each with a sequence number, since no chunk is Open.
use Rattle.std.proofs.Common.{◌≡◌, ◌≢◌, ℕ, ◌+◌, ◌==◌, max, true, Some, None, List, [], refl, ap, ◌∙◌, if◌then◌else◌}
use Rattle.std.specs.Prelude.{map, slice_get}
use Rattle.std.specs.List.{filter, list_all}
use Rattle.std.specs.Option.{option_map}
use Rattle.std.proofs.lemmas.List.Folds.{fold-map}
use Rattle.pblk_model.specs.declared.chunk.ChunkState.{ChunkState}
use Rattle.pblk_model.specs.declared.chunk.ChunkState.TheVariants as states
use Rattle.pblk_model.specs.declared.found.Found.{Found}
use Rattle.pblk_model.specs.declared.found.LineRow.{LineRow}
use Rattle.pblk_model.specs.Chunk.{Chunk}
use Rattle.pblk_model.specs.Contents.{counted}
use Rattle.pblk_model.specs.Image.{Image}
use Rattle.pblk_model.specs.Records.{Record}
use Rattle.pblk_model.specs.StartRecord.{StartRecord, start_of}
use Rattle.pblk_world.specs.EngineLog.{AsFound, LineLife}
use Rattle.pblk_world.specs.Events.{Begin}
use Rattle.pblk_world.specs.Lines.{chunks_of, found_image, is_over_state, known_image}
use Rattle.pblk_world.specs.Victims.{positions_in}
use Rattle.pblk_world.specs.World.{World, Logs, log_of}
use Rattle.world_laws.specs.Finding as finding
use Rattle.world_laws.specs.Finding.{IsFoundOf, NoneOpen}
use Rattle.pblk_world.specs.LegalMounts.{IsLegalMount}
use Rattle.world_laws.specs.MountBeginnings.{beginning_of}
use Rattle.world_laws.proofs.FoundRows.{row_is}
use Rattle.core_laws.specs.ClosedLines.{closed_line, top_of}
use Rattle.core_laws.specs.JustBegun.{HasJustBegun}
use Rattle.core_laws.specs.Stepping.{after}
use Rattle.core_laws.proofs.BegunImages.{just_begun, knows_found, life_is}
use Rattle.core_laws.proofs.ClosedKept.{closed_in}
use Rattle.core_laws.proofs.EachChunk.{chunks_pass}

-- a chunk that is not Open is over in a line as it was found
pub over_unless_open : (state : ChunkState) → state ≢ states.Open → is_over_state true state ≡ true
over_unless_open states.Free apart = refl
over_unless_open states.Open apart = absurd (apart refl)
over_unless_open states.Closed apart = refl
over_unless_open states.Offline apart = refl

pub closed_begun : (i : Image) (w : World) (f : Found) (knows : List ℕ) (line : ℕ) (row : LineRow) → IsLegalMount i w → log_of w 0 ≡ []
    → IsFoundOf (found_image i (after (log_of w) (Begin (beginning_of f)) knows)) f
    → NoneOpen (found_image i (after (log_of w) (Begin (beginning_of f)) knows)) → slice_get f.lines line ≡ Some row
    → closed_line i (after (log_of w) (Begin (beginning_of f)) knows) line ≡ option_map (λ seq. record { seq = seq; top = row.top }) row.seq
closed_begun i w f knows line row mount none found none_open at =
    let new : Logs = after (log_of w) (Begin (beginning_of f)) knows in
    let begins : HasJustBegun i f new = just_begun i w f knows mount.accepted mount.fit mount.legal none found in
    let image : Image = found_image i new in
    let over : list_all (λ (c : Chunk). is_over_state true c.state) (chunks_of (known_image i new) line) ≡ true =
    ap (λ (j : Image). list_all (λ (c : Chunk). is_over_state true c.state) (chunks_of j line)) (knows_found i f new begins)
    ∙ chunks_pass image line (λ (c : Chunk). is_over_state true c.state)
    (λ unit c there. over_unless_open c.state (none_open line unit c there)) in
    let mine : List Record = filter (λ (r : Record). r.line == line) (counted image) in
    let top : top_of (map (λ (r : Record). r.position) mine) ≡ finding.top_of (counted image) line =
    fold-map (λ top position. max top (position + 1)) (λ (r : Record). r.position) 0 mine in
    ap (λ (l : LineLife). closed_in i new l line) (life_is i f new line begins)
    ∙ ap (λ t. if t then option_map (λ seq. record { seq = seq; top = top_of (positions_in i new AsFound line) })
    (option_map (λ (start : StartRecord). start.seq) (start_of image line)) else None) over
    ∙ ap (λ n. option_map (λ seq. record { seq = seq; top = n }) (option_map (λ (start : StartRecord). start.seq) (start_of image line))) top
    ∙ ap (λ (r : LineRow). option_map (λ seq. record { seq = seq; top = r.top }) r.seq) (row_is image f line row found at).1
