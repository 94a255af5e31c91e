-- What contracts see of authors, notes and tokens.
use Rattle.std.specs.Prelude.{ℕ, List, [], ◌∷◌, Option, Some, None}
use Rattle.atomic_table.specs.Seated.{TableId}
use Rattle.pblk_world.specs.Events.{Maker}
use Rattle.chronicle.specs.Views.{Past}
use Rattle.chronicle.specs.Prefixes.{Prefixes}

-- An author: its chronicle, the number of the log that it appends to, the numbers of the logs to
-- which nobody else may append, what the chronicle began with, and what it knows of each log. It
-- knows whole what it owns. For each worker whose commands it numbers it has the maker of the next
-- one; and it may have the number of the next new worker.
pub record AuthorView : Type 0 where
  pub chronicle : TableId
  pub number : ℕ
  pub owned : List ℕ
  pub past : Past
  pub known : Prefixes
  pub makers : List Maker
  pub spare : Option ℕ

-- A note: its chronicle, what this began with, and what is known of each log.
pub record NoteView : Type 0 where
  pub chronicle : TableId
  pub past : Past
  pub known : Prefixes

-- A token, or what is lent of it: besides, for each worker whose commands it numbers, the maker of the
-- next one; and it may have the number of the next new worker.
pub record TokenView : Type 0 where
  pub chronicle : TableId
  pub past : Past
  pub known : Prefixes
  pub makers : List Maker
  pub spare : Option ℕ

abbrev pub note_of : TokenView → NoteView
note_of t = record { chronicle = t.chronicle; past = t.past; known = t.known }

-- The author of a log as a chronicle begins, which numbers no commands, and the token, which names
-- each worker.
abbrev pub first_author : TableId → Past → ℕ → AuthorView
first_author chronicle past number = record {
  chronicle = chronicle;
  number = number;
  owned = number ∷ [];
  past = past;
  known = past.logs;
  makers = [];
  spare = None;
}

abbrev pub first_token : TableId → Past → TokenView
first_token chronicle past = record { chronicle = chronicle; past = past; known = past.logs; makers = []; spare = Some 0 }
