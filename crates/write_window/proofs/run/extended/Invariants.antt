use Rattle.std.proofs.Common.{◌≡◌, ◌+◌, ◌≤◌, ℕ, List, length, drop}
use Rattle.write_window.specs.declared.held.Held.{Held}
use Rattle.write_window.specs.Entries.{landed_first, users_in}
use Rattle.write_window.proofs.run.extended.Given as goal

-- what the run has and what is to come of it is what there was at the beginning
pub record Extends (entries : List Held) (from_count from_users count users index : ℕ) : Type 0 where
  pub place : count ≡ index
  pub inside : count ≤ length entries
  pub few : users ≤ count
  pub counted : count + length (landed_first (drop count entries)) ≡ from_count + length (landed_first (drop from_count entries))
  pub users_counted : users + users_in (landed_first (drop count entries)) ≡ from_users + users_in (landed_first (drop from_count entries))

abbrev pub invariant-loop-index : goal.invariant-loop-index
invariant-loop-index l = Extends l.fn.entries.items l.fn.from.count l.fn.from.users l.run.count l.run.users l.index
