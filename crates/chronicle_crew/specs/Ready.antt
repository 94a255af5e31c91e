-- Authors of a chronicle over a blank drive of eight units, and what they append.
use Rattle.std.specs.Prelude.{◌≡◌, ℕ, ◌<◌, ◌≤◌, List, [], ◌∷◌, length, replicate, slice_get, Some}
use Rattle.std.specs.List.{Contains}
use Rattle.atomic_table.specs.Seated.{TableId}
use Rattle.pblk_model.specs.declared.shape.Shape.{Shape}
use Rattle.pblk_model.specs.ChunkStep.{Read}
use Rattle.pblk_model.specs.Image.{blank}
use Rattle.pblk_model.specs.UnitLog.{Stopped}
use Rattle.pblk_world.specs.Events.{Maker, Event, Does}
use Rattle.chronicle.specs.Views.{Past}
use Rattle.chronicle.specs.Handles.{AuthorView, first_author}
use Rattle.chronicle.specs.Prefixes.{logs_of}
use Rattle.chronicle_crew.specs.declared.hand.Hand.{Hand}

-- eight units, as those of the small drive
abbrev pub eight_units : Shape
eight_units = record {
  groups = 1;
  pus = 8;
  chunks = 8;
  clba = 24;
  ws_min = 2;
  ws_opt = 4;
  mw_cunits = 8;
  sector = 512;
  capacity = 64;
  ring = 64;
}

-- nothing was done yet
abbrev pub blank_past : Past
blank_past = record { image = blank eight_units; logs = replicate 9 [] }

-- a fetch that was stopped before it began
abbrev pub stopped_fetch : Maker → Event
stopped_fetch maker = Does (record { chunk = 0; command = Read 0; outcome = Stopped 0 }) maker

-- no chronicle at all
abbrev pub no_table : TableId
no_table = record { words = 0; slots = 0; views_name = 0; atom = 0; block = 0; offset = 0; slot_names = [] }

-- The author is that of a unit, and owns no other log. Its log has as many events as it has
-- appended. All of these are commands of one worker, which made no others. The token beside it is of
-- the same chronicle.
pub record IsHand (chronicle : TableId) (h : Hand) : Type 0 where
  pub of : h.author.chronicle ≡ chronicle
  pub units : 0 < h.author.number
  pub within : h.author.number ≤ 8
  pub owned : h.author.owned ≡ h.author.number ∷ []
  pub past : h.author.past ≡ blank_past
  pub counted : length (logs_of h.author.known h.author.number) ≡ h.count
  pub makers : h.author.makers ≡ record { worker = h.worker; made = h.count } ∷ []
  pub beside : h.token.chronicle ≡ chronicle

-- the authors with which the chronicle began, in the order of their numbers, as far as there are
-- any
pub record AreFirst (chronicle : TableId) (authors : List AuthorView) : Type 0 where
  pub each : (place : ℕ) (a : AuthorView) → slice_get authors place ≡ Some a → a ≡ first_author chronicle blank_past place

-- The author owns the first logs, so many of them. The engine's has no event, and each other has as
-- many as its author appended.
pub record HaveAppended (chronicle : TableId) (logs turns : ℕ) (a : AuthorView) : Type 0 where
  pub of : a.chronicle ≡ chronicle
  pub past : a.past ≡ blank_past
  pub owned : (number : ℕ) → number < logs → Contains a.owned number
  pub counts : (number : ℕ) → 0 < number → number < logs → length (logs_of a.known number) ≡ turns
