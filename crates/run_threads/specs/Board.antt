-- What a thread has to have of the board before a command.
use Rattle.std.specs.Prelude.{ℕ, ◌<◌, ◌≤◌, ◌≡◌, ⊤, [], Some}
use Rattle.atomic_table.specs.declared.shared.Seat.{Seat}
use Rattle.pblk_model.specs.declared.script.Command.{Command}
use Rattle.pblk_model.specs.declared.script.Command.TheVariants.{Write, Read, Flush, Post, Await}
use Rattle.run_threads.specs.declared.board.Board.{Board}
use Rattle.run_threads.specs.Names.{HasWord, word_of}
use Rattle.run_threads.specs.Views.{View}

-- how many words there are
abbrev pub words_of : Board → ℕ
words_of board = board.table.shared.table_id.words

-- a seat at this board, which has no slot
abbrev pub IsSeatOf : Board → Seat (Unit {0}) View → Type 0
IsSeatOf board seat = (seat.table_id ≡ board.table.shared.table_id) × (seat.me.1 ≡ [])

-- a name that is posted has the seat's next word, and one that is awaited has a word
abbrev pub MayRun : Board → View → Command → Type 0
MayRun board v (Write lba count tag) = ⊤
MayRun board v (Read lba count) = ⊤
MayRun board v Flush = ⊤
MayRun board v (Post name) = (word_of board.names name ≡ Some v.next) × (v.next < v.past) × (v.past ≤ words_of board)
MayRun board v (Await name) = HasWord board.names (words_of board) name
