-- Lemmas on the words of Lines.
use Rattle.std.proofs.Common.{List, None, Option, Some, ap, false, if◌then◌else◌, length, nat_lt, not, refl, sym, true, ℕ, ◌&&◌, ◌==◌, ◌∙◌, ◌≡◌}
use Rattle.pblk_model.proofs.Maps.{numbered_length}
use Rattle.pblk_model.specs.Chunk.{Chunk, free_chunk, offline_chunk, pointer}
use Rattle.pblk_model.specs.ChunkStep.{after_reset, reset_in, ChunkAnswer, Reset}
use Rattle.pblk_model.specs.Found.{IsUsed}
use Rattle.pblk_model.specs.Image.{Image}
use Rattle.pblk_model.specs.declared.chunk.ChunkState.{ChunkState}
use Rattle.pblk_model.specs.declared.shape.Shape.{Shape}
use Rattle.pblk_world.proofs.WorldLemmas.{length_media}
use Rattle.pblk_world.specs.EngineLog.{AsFound, Begun, Freed, LineLife, Opened, begun, is_opened, life_of}
use Rattle.pblk_world.specs.Lines.{are_empty, found_by, found_image, has_number, is_empty_state, is_free_line, is_given_up_by, known_image, line_data}
use Rattle.pblk_world.specs.World.{Logs, cut_logs}
use Rattle.pblk_model.specs.declared.chunk.ChunkState.TheVariants as states
use Rattle.pblk_model.specs.UnitLog.{UnitOutcome, Answered, Failed, Stopped, after_outcome}
use Rattle.pblk_world.specs.Answering.{IsDoneReset}

pub free_unopened : (i : Image) (logs : Logs) (line : ℕ) → is_free_line i logs line ≡ true → is_opened (life_of (logs 0) line) ≡ false
free_unopened i logs line free = go (life_of (logs 0) line) refl
  where
    go : (l : LineLife) → life_of (logs 0) line ≡ l → is_opened l ≡ false
    go AsFound e = refl
    go (Opened o) e = absurd (cc (sym free
        ∙ ap (λ (l : LineLife). not (has_number i logs l line) && are_empty (known_image i logs) line && nat_lt 0 (line_data (known_image i logs) line)) e))
    go (Freed past knows) e = refl

pub not_given_up : (strays : List ℕ) (line : ℕ) (life : LineLife) → is_given_up_by strays line life ≡ true → is_opened life ≡ false
not_given_up strays line AsFound e = refl
not_given_up strays line (Opened o) e = absurd (cc)
not_given_up strays line (Freed past knows) e = refl

pub used_is : (state : ChunkState) → IsUsed state → is_empty_state state ≡ false
used_is states.Free is = absurd is
used_is states.Open is = refl
used_is states.Closed is = refl
used_is states.Offline is = absurd is

pub length_found : (i : Image) (logs : Logs) (b : Option Begun) → length (found_by i logs b).units ≡ length i.units
length_found i logs None = refl
length_found i logs (Some b) = length_media i (cut_logs b.knows logs)

pub length_known : (i : Image) (logs : Logs) → length (known_image i logs).units ≡ length i.units
length_known i logs = numbered_length _ 0 (found_image i logs).units ∙ length_found i logs (begun (logs 0))

pub reset_empty : (s : Shape) (c : Chunk) → is_empty_state (after_reset s c).state ≡ true
reset_empty s c = go c.state (pointer c)
  where
    go : (state : ChunkState) (wp : ℕ) → is_empty_state (reset_in s state wp).state ≡ true
    go states.Free wp = refl
    go states.Open wp = refl
    go states.Closed wp = elim (wp == s.clba) as (λ b. is_empty_state (if b then free_chunk else offline_chunk).state ≡ true) [ true ↦ refl | false ↦ refl ]
    go states.Offline wp = refl

-- a reset that wasn't stopped leaves a chunk Free or Offline
pub reset_empties : (s : Shape) (c : Chunk) (o : UnitOutcome) → IsDoneReset o → is_empty_state (after_outcome s c Reset o).state ≡ true
reset_empties s c (Answered answer) done = ap (λ (a : ChunkAnswer). is_empty_state (after_outcome s c Reset (Answered a)).state) done
    ∙ reset_empty s c
reset_empties s c (Failed k) done = refl
reset_empties s c (Stopped k) done = absurd done
