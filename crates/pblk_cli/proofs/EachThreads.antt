-- What holds of each thread of a run, thread by thread.
use Rattle.std.proofs.Common.{◌≡◌, ℕ, zero, suc, List, [], ◌∷◌, length, slice_get, Some, refl, subst, ap}
use Rattle.std.proofs.lemmas.Option.{none-some, same_Some}
use Rattle.pblk_model.specs.declared.script.Command.{Command}
use Rattle.block_port.specs.Port.{ModelPort}
use Rattle.run_threads.specs.declared.records.Answer.{Answer}
use Rattle.run_threads.specs.Run.{EachThread}

-- A thread at a place: its commands, their answers, and its port before.
pub record ThreadAt (Holds : List Command → List Answer → ModelPort → ModelPort → Type 0) (script : List (List Command)) (answers : List (List Answer))
    (olds : List ModelPort) (k : ℕ) (new : ModelPort) : Type 0 where
  pub commands : List Command
  pub commands_at : slice_get script k ≡ Some commands
  pub rows : List Answer
  pub rows_at : slice_get answers k ≡ Some rows
  pub old : ModelPort
  pub old_at : slice_get olds k ≡ Some old
  pub holds : Holds commands rows old new

module _ (Holds : List Command → List Answer → ModelPort → ModelPort → Type 0) where
  -- as many ports come back as the script has threads
  pub each_many : (script : List (List Command)) (answers : List (List Answer)) (olds news : List ModelPort) → EachThread Holds script answers olds news
      → length news ≡ length script
  each_many [] [] [] [] h = refl
  each_many [] [] [] (new ∷ news) h = absurd h
  each_many [] [] (old ∷ olds) news h = absurd h
  each_many [] (rows ∷ answers) olds news h = absurd h
  each_many (cs ∷ script) [] olds news h = absurd h
  each_many (cs ∷ script) (rows ∷ answers) [] news h = absurd h
  each_many (cs ∷ script) (rows ∷ answers) (old ∷ olds) [] h = absurd h
  each_many (cs ∷ script) (rows ∷ answers) (old ∷ olds) (new ∷ news) h = ap suc (each_many script answers olds news h.1)

  pub each_at : (script : List (List Command)) (answers : List (List Answer)) (olds news : List ModelPort) → EachThread Holds script answers olds news
      → (k : ℕ) (new : ModelPort) → slice_get news k ≡ Some new → ThreadAt Holds script answers olds k new
  each_at [] [] [] [] h k new there = absurd (none-some new there)
  each_at [] [] [] (other ∷ news) h k new there = absurd h
  each_at [] [] (old ∷ olds) news h k new there = absurd h
  each_at [] (rows ∷ answers) olds news h k new there = absurd h
  each_at (cs ∷ script) [] olds news h k new there = absurd h
  each_at (cs ∷ script) (rows ∷ answers) [] news h k new there = absurd h
  each_at (cs ∷ script) (rows ∷ answers) (old ∷ olds) [] h k new there = absurd h
  each_at (cs ∷ script) (rows ∷ answers) (old ∷ olds) (other ∷ news) h zero new there = record {
    commands = cs;
    commands_at = refl;
    rows = rows;
    rows_at = refl;
    old = old;
    old_at = refl;
    holds = subst (Holds cs rows old) (same_Some other new there) h.0;
  }
  each_at (cs ∷ script) (rows ∷ answers) (old ∷ olds) (other ∷ news) h (suc k) new there =
      let at = each_at script answers olds news h.1 k new there in
      record {
        commands = at.commands;
        commands_at = at.commands_at;
        rows = at.rows;
        rows_at = at.rows_at;
        old = at.old;
        old_at = at.old_at;
        holds = at.holds;
      }

  -- and as many answers
  pub each_answers : (script : List (List Command)) (answers : List (List Answer)) (olds news : List ModelPort) → EachThread Holds script answers olds news
      → length answers ≡ length script
  each_answers [] [] [] [] h = refl
  each_answers [] [] [] (new ∷ news) h = absurd h
  each_answers [] [] (old ∷ olds) news h = absurd h
  each_answers [] (rows ∷ answers) olds news h = absurd h
  each_answers (cs ∷ script) [] olds news h = absurd h
  each_answers (cs ∷ script) (rows ∷ answers) [] news h = absurd h
  each_answers (cs ∷ script) (rows ∷ answers) (old ∷ olds) [] h = absurd h
  each_answers (cs ∷ script) (rows ∷ answers) (old ∷ olds) (new ∷ news) h = ap suc (each_answers script answers olds news h.1)
