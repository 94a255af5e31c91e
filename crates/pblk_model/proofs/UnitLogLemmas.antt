-- Lemmas on the words of UnitLog.
use Rattle.std.proofs.Common.{List, None, Option, Some, ap, ap₂, refl, sym, ℕ, ◌∙◌, ◌≡◌, ◌≢◌}
use Rattle.std.specs.List.{slice_get, slice_set}
use Rattle.std.specs.Option.{option_map_or}
use Rattle.pblk_model.proofs.Parts.{got_else, got_here}
use Rattle.pblk_model.specs.Chunk.{Chunk}
use Rattle.pblk_model.specs.ChunkStep.{Read}
use Rattle.pblk_model.specs.UnitLog.{Answered, Failed, Stopped, UnitEvent, UnitOutcome, after_event, after_outcome}
use Rattle.pblk_model.specs.declared.shape.Shape.{Shape}

pub read_leaves : (s : Shape) (c : Chunk) (b : ℕ) (o : UnitOutcome) → after_outcome s c (Read b) o ≡ c
read_leaves s c b (Answered a) = refl
read_leaves s c b (Failed k) = refl
read_leaves s c b (Stopped k) = refl

pub after_event_is : (s : Shape) (chunks : List Chunk) (e : UnitEvent) (c : Chunk) → slice_get chunks e.chunk ≡ Some c
    → after_event s chunks e ≡ slice_set chunks e.chunk (after_outcome s c e.command e.outcome)
after_event_is s chunks e c there = ap (λ o. option_map_or (λ d. slice_set chunks e.chunk (after_outcome s d e.command e.outcome)) o chunks) there

pub event_beside : (s : Shape) (cs : List Chunk) (e : UnitEvent) (line : ℕ) → e.chunk ≢ line → slice_get (after_event s cs e) line ≡ slice_get cs line
event_beside s cs e line other = go (slice_get cs e.chunk)
  where
    go : (o : Option Chunk) → slice_get
        (option_map_or (λ (c : Chunk). slice_set cs e.chunk (after_outcome s c e.command e.outcome)) o cs) line ≡ slice_get cs line
    go None = refl
    go (Some c) = got_else cs e.chunk line (after_outcome s c e.command e.outcome) (λ f. other (sym f))

pub event_here : (s : Shape) (chunks : List Chunk) (e : UnitEvent) (line : ℕ) (c : Chunk) → e.chunk ≡ line → slice_get chunks line ≡ Some c
    → slice_get (after_event s chunks e) line ≡ Some (after_outcome s c e.command e.outcome)
event_here s chunks e line c its there =
    let here : slice_get chunks e.chunk ≡ Some c = ap (slice_get chunks) its ∙ there in
    ap₂ (λ (o : Option Chunk) k. slice_get (option_map_or (λ (c : Chunk). slice_set chunks e.chunk (after_outcome s c e.command e.outcome)) o chunks) k) here
    (sym its)
    ∙ got_here chunks e.chunk c (after_outcome s c e.command e.outcome) here
