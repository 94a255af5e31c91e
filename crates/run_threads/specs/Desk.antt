-- The desk of a thread, before the thread runs.
use Rattle.std.specs.Prelude.{◌≤◌, ◌≡◌, ⊤, List, [], ◌∷◌, length}
use Rattle.std.specs.List.{AllByRecursion}
use Rattle.std.specs.Vec.{vec_capacity}
use Rattle.pblk_model.specs.declared.script.Command.{Command}
use Rattle.run_threads.specs.declared.board.Board.{Board}
use Rattle.run_threads.specs.declared.desk.Desk.{Desk}
use Rattle.run_threads.specs.Board.{IsSeatOf, words_of}
use Rattle.run_threads.specs.Names.{ArePlaced, CanAwait, words_after}
use Rattle.run_threads.specs.Rooms.{HaveWordRoom}

-- it has room for all that these commands need
pub record HasRoom (commands : List Command) (desk : Desk) : Type 0 where
  pub rooms : HaveWordRoom commands desk.rooms.items
  pub bytes : length desk.bytes.items ≡ 65536
  pub answers : desk.answers.items ≡ []
  pub room : length commands ≤ vec_capacity desk.answers

-- its seat may post the names that these commands post, and no others, and each that they await has a word
pub record IsReady (board : Board) (commands : List Command) (desk : Desk) : Type 0 where
  pub has_room : HasRoom commands desk
  pub of : IsSeatOf board desk.seat
  pub placed : ArePlaced board.names desk.seat.me.0.next commands
  pub heard : AllByRecursion (CanAwait board.names (words_of board)) commands
  pub past : desk.seat.me.0.past ≡ words_after desk.seat.me.0.next commands
  pub within : desk.seat.me.0.past ≤ words_of board

-- a desk for each thread
abbrev pub AreReady : Board → List (List Command) → List Desk → Type 0
AreReady board [] [] = ⊤
AreReady board (commands ∷ script) (desk ∷ desks) = IsReady board commands desk × AreReady board script desks
AreReady board script desks = ⊥
