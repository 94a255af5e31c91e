-- The threads of a script, each with its port.
use Rattle.std.specs.Prelude.{ℕ, ◌<◌, ◌≤◌, ◌≡◌, List, [], map, length, slice_get, Some}
use Rattle.std.specs.List.{AllByRecursion}
use Rattle.std.specs.Vec.{vec_capacity}
use Rattle.block_port.specs.Port.{ModelPort}
use Rattle.pblk_model.specs.declared.script.Command.{Command}
use Rattle.pblk_model.specs.Script.{CommandFits}
use Rattle.run_threads.specs.declared.board.Board.{Board}
use Rattle.run_threads.specs.declared.records.Answer.{Answer}
use Rattle.run_threads.specs.declared.runner.Prepared.{Prepared}
use Rattle.run_threads.specs.declared.runner.Stage.{Stage}
use Rattle.run_threads.specs.declared.runner.Thread.{Thread}
use Rattle.run_threads.specs.Board.{IsSeatOf, words_of}
use Rattle.run_threads.specs.Desk.{AreReady, IsReady}
use Rattle.run_threads.specs.Names.{told_by}
use Rattle.run_threads.specs.Rule.{AreTold}
use Rattle.run_threads.specs.Run.{Runs}

-- All memory of a run of this script, and the seats at its board.
pub record IsReadyStage (script : List (List Command)) (stage : Stage) : Type 0 where
  pub desks : AreReady stage.board script stage.desks.items
  pub of : IsSeatOf stage.board stage.seat
  pub words : 0 < words_of stage.board
  pub rows : stage.rows.items ≡ []
  pub room : length script ≤ vec_capacity stage.rows

module _ {P : Type 0} (model : P → ModelPort) (board : Board) where
  -- A thread can run these commands.
  pub record CanRun (commands : List Command) (thread : Thread P) : Type 0 where
    pub ready : IsReady board commands thread.desk
    pub fits : AllByRecursion (CommandFits (model thread.port).capacity) commands

  -- It ran them. Whatever was posted, as far as it knows, it was answered by that.
  pub record HasRun (commands : List Command) (old new : Thread P) : Type 0 where
    pub of : IsSeatOf board new.desk.seat
    pub ran : (at : ℕ → ℕ) → AreTold at new.desk.seat.me.0.known
        → Runs (told_by board.names at) (model old.port) commands new.desk.answers.items (model new.port)

  -- Each thread can run the commands of its number.
  abbrev pub CanAllRun : List (List Command) → List (Thread P) → Type 0
  CanAllRun script threads = (i : ℕ) (commands : List Command) (thread : Thread P) → slice_get script i ≡ Some commands
      → slice_get threads i ≡ Some thread → CanRun commands thread

  -- Each thread ran them.
  abbrev pub HaveRun : List (List Command) → List (Thread P) → List (Thread P) → Type 0
  HaveRun script olds news = (i : ℕ) (commands : List Command) (old new : Thread P) → slice_get script i ≡ Some commands
      → slice_get olds i ≡ Some old → slice_get news i ≡ Some new → HasRun commands old new

-- what a thread was answered
abbrev pub row_of : {P : Type 0} → Thread P → List Answer
row_of thread = thread.desk.answers.items

-- `at` says what was posted in each word that a thread knows
abbrev pub IsTold : {P : Type 0} → (ℕ → ℕ) → Thread P → Type 0
IsTold at thread = AreTold at thread.desk.seat.me.0.known

-- What contracts see of a script that is ready to run: its commands, and its ports.

abbrev pub script_of : {P : Type 0} → Prepared P → List (List Command)
script_of prepared = prepared.script.now

abbrev pub ports_of : {P : Type 0} → (P → ModelPort) → Prepared P → List ModelPort
ports_of model prepared = map (λ t. model t.port) prepared.threads.items

-- Each of its threads can run, and there is room for what comes back.
pub record IsPrepared {P : Type 0} (model : P → ModelPort) (prepared : Prepared P) : Type 0 where
  pub count : length prepared.threads.items ≡ length (script_of prepared)
  pub ready : CanAllRun model prepared.board (script_of prepared) prepared.threads.items
  pub of : IsSeatOf prepared.board prepared.seat
  pub words : 0 < words_of prepared.board
  pub rows : prepared.rows.items ≡ []
  pub rows_room : length prepared.threads.items ≤ vec_capacity prepared.rows
  pub ports : prepared.ports.items ≡ []
  pub ports_room : length prepared.threads.items ≤ vec_capacity prepared.ports

-- There is room for what comes back of its threads, and the seats are those of its board.
pub record WasPrepared {P : Type 0} (model : P → ModelPort) (prepared : Prepared P) : Type 0 where
  pub count : length prepared.threads.items ≡ length (script_of prepared)
  pub of : IsSeatOf prepared.board prepared.seat
  pub words : 0 < words_of prepared.board
  pub seats : AllByRecursion (λ t. IsSeatOf prepared.board t.desk.seat) prepared.threads.items
  pub rows : prepared.rows.items ≡ []
  pub rows_room : length prepared.threads.items ≤ vec_capacity prepared.rows
  pub ports : prepared.ports.items ≡ []
  pub ports_room : length prepared.threads.items ≤ vec_capacity prepared.ports

-- Its threads ran.
pub record HasWorked {P : Type 0} (model : P → ModelPort) (old new : Prepared P) : Type 0 where
  pub over : WasPrepared model new
  pub script : script_of new ≡ script_of old
  pub count : length old.threads.items ≡ length (script_of new)
  pub ran : HaveRun model new.board (script_of new) old.threads.items new.threads.items
