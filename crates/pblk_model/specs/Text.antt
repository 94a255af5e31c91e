-- A transcript: what a run prints, as rows and as text.
use Rattle.std.specs.Prelude.{ℕ, List, [], ◌∷◌, ◌++◌, length, if◌then◌else◌, Option, Some, None, codes}
use Rattle.std.specs.List.{flat_map, enumerate_from}
use Rattle.std.specs.Fmt.{decimal}
use Rattle.std.specs.Str.{bytes_eq}
use Rattle.std.specs.Int.{w64}
use Rattle.pblk_model.specs.Bytes.{number_at}
use Rattle.pblk_model.specs.History.{tag_sector}

-- a line of the history: which thread wrote which sector, and with which tag
pub record HistoryLine : Type 0 where
  pub thread : ℕ
  pub lba : ℕ
  pub tag : ℕ

-- what is printed of a sector: its tag, where it is the sector of one
pub data Word : Type 0 where
  Tag : ℕ → Word
  Mixed : Word

-- what became of a command
pub data Outcome : Type 0 where
  -- nothing is printed: a write that stands in the history, a post, an await
  Silent : Outcome
  -- a read: its front, and the words of its sectors
  Words : ℕ → List Word → Outcome
  -- a flush: its front
  Flushed : ℕ → Outcome
  -- a unit's event was a failed fetch or a stopped command
  Drive : ℕ → ℕ → Outcome
  -- there was no room: what was wanted, and what there was
  Worn : ℕ → ℕ → Outcome

-- what closing answered
pub data Closing : Type 0 where
  Closed : Closing
  ClosedByDrive : ℕ → ℕ → Closing
  ClosedWorn : ℕ → ℕ → Closing

pub record Transcript : Type 0 where
  -- by number
  pub history : List HistoryLine
  -- by thread, then by command; none where opening answered a unit's event
  pub outcomes : List (List Outcome)
  -- the unit and the event that opening answered
  pub opening : Option (ℕ × ℕ)
  pub closing : Closing
  -- how many lines of the history are kept
  pub kept : ℕ

-- the word of a sector: its first eight bytes are its tag, if it is the sector of one
abbrev pub word_of : List ℕ → Word
word_of sector = let tag = number_at w64 0 sector in if bytes_eq sector (tag_sector (length sector) tag) then Tag tag else Mixed

-- The lines.

abbrev pub newline : List ℕ
newline = 10 ∷ []

abbrev pub spaced : List ℕ → List ℕ
spaced numbers = flat_map (λ n. codes " " ++ decimal n) numbers

abbrev pub word_text : Word → List ℕ
word_text (Tag t) = decimal t
word_text Mixed = codes "mixed"

abbrev pub history_line : ℕ × HistoryLine → List ℕ
history_line row = codes "h" ++ spaced (row.0 ∷ row.1.thread ∷ row.1.lba ∷ row.1.tag ∷ []) ++ newline

abbrev pub outcome_line : ℕ → ℕ × Outcome → List ℕ
outcome_line thread (command, Silent) = []
outcome_line thread (command, Words front words) =
    codes "r" ++ spaced (thread ∷ command ∷ front ∷ []) ++ flat_map (λ w. codes " " ++ word_text w) words ++ newline
outcome_line thread (command, Flushed front) = codes "f" ++ spaced (thread ∷ command ∷ front ∷ []) ++ newline
outcome_line thread (command, Drive unit event) = codes "e" ++ spaced (thread ∷ command ∷ unit ∷ event ∷ []) ++ newline
outcome_line thread (command, Worn wanted have) = codes "worn" ++ spaced (thread ∷ command ∷ wanted ∷ have ∷ []) ++ newline

abbrev pub thread_text : ℕ × List Outcome → List ℕ
thread_text thread = flat_map (outcome_line thread.0) (enumerate_from 0 thread.1)

abbrev pub opening_line : Option (ℕ × ℕ) → List ℕ
opening_line None = []
opening_line (Some e) = codes "e open" ++ spaced (e.0 ∷ e.1 ∷ []) ++ newline

abbrev pub closing_line : Closing → List ℕ
closing_line Closed = []
closing_line (ClosedByDrive unit event) = codes "e close" ++ spaced (unit ∷ event ∷ []) ++ newline
closing_line (ClosedWorn wanted have) = codes "worn close" ++ spaced (wanted ∷ have ∷ []) ++ newline

abbrev pub kept_line : ℕ → List ℕ
kept_line kept = codes "kept" ++ spaced (kept ∷ []) ++ newline

-- the lines of a transcript, in order
abbrev pub text_of : Transcript → List ℕ
text_of t = flat_map history_line (enumerate_from 0 t.history)
    ++ flat_map thread_text (enumerate_from 0 t.outcomes)
    ++ opening_line t.opening ++ closing_line t.closing ++ kept_line t.kept
