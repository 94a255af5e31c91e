-- When a run does all that it was told to: its status, what it leaves, and what it needs for that.
use Rattle.std.specs.Prelude.{ℕ, ◌+◌, ◌^◌, ◌<◌, ◌≤◌, ◌≡◌, ◌≢◌, ◌⊎◌, List, [], map, length, Some}
use Rattle.std.specs.List.{flat_map, range_with_len}
use Rattle.pblk_model.specs.declared.script.Command.{Command}
use Rattle.pblk_model.specs.declared.script.Command.TheVariants.{Await, Flush, Post, Read, Write}
use Rattle.pblk_model.specs.Contents.{contents, end, head}
use Rattle.pblk_model.specs.History.{SectorWrite, after, tag_sector}
use Rattle.pblk_model.specs.Image.{Image}
use Rattle.pblk_model.specs.ImageFile.{Drive, image_of}
use Rattle.pblk_model.specs.Script.{command_at}
use Rattle.pblk_model.specs.StartRecord.{StartRecord}
use Rattle.pblk_model.specs.Text.{Closed, Transcript}
use Rattle.rest_laws.specs.Tidy.{IsTidy}
use Rattle.pblk_cli.specs.Status.{status_of_run}

-- What a script writes.

-- the sector writes of a command, rising
abbrev pub command_writes : ℕ → Command → List SectorWrite
command_writes size (Write lba count tag) = map (λ at. record { lba = at; sector = tag_sector size tag }) (range_with_len lba count)
command_writes size (Read lba count) = []
command_writes size Flush = []
command_writes size (Post name) = []
command_writes size (Await name) = []

-- those of a script, thread by thread and in their order
abbrev pub script_writes : ℕ → List (List Command) → List SectorWrite
script_writes size script = flat_map (flat_map (command_writes size)) script

-- No sector is written by two threads: the sectors of a write of one thread and those of a write of
-- another lie apart.
abbrev pub AreApart : List (List Command) → Type 0
AreApart script = (i c j d lba count tag at many label : ℕ) → i ≢ j → command_at script i c ≡ Some (Write lba count tag)
    → command_at script j d ≡ Some (Write at many label) → (lba + count ≤ at) ⊎ (at + many ≤ lba)

-- What is done.

-- The numbers of an image are far from their ends: its end, and the sequence number of its head if
-- it has one.
pub record HasSmallNumbers (i : Image) : Type 0 where
  pub low_end : end i < 2 ^ 60
  pub low_seq : (h : StartRecord) → head i ≡ Some h → h.seq < 2 ^ 60

-- A run did all: its status is 0, so that its text has no line of an error. The close answered
-- nothing, and all of the history is kept. Where no sector is written by two threads, the drive left
-- holds what it held, after all writes of the script, thread by thread and in their order. And it is
-- tidy, as the one found was.
pub record IsComplete (found left : Drive) (commands : List (List Command)) (t : Transcript) : Type 0 where
  pub status : status_of_run t ≡ 0
  pub closed : t.closing ≡ Closed
  pub kept : t.kept ≡ length t.history
  pub written : AreApart commands → contents (image_of left) ≡ after (contents (image_of found)) (script_writes found.sector commands)
  pub tidy : IsTidy (image_of left)
