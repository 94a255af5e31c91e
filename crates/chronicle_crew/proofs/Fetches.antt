-- A fetch may be stopped before it begins, whatever was done before.
use Rattle.std.proofs.Common.{◌≡◌, ℕ, zero, suc, ◌<◌, ◌≤◌, Some, None, List, replicate, refl, ap, ◌∙◌, arith}
use Rattle.std.specs.Prelude.{slice_get, Option}
use Rattle.std.specs.Option.{option_map}
use Rattle.pblk_model.proofs.Parts.{got_within}
use Rattle.pblk_model.specs.Chunk.{Chunk, free_chunk}
use Rattle.pblk_model.specs.ChunkStep.{Read}
use Rattle.pblk_model.specs.Image.{blank}
use Rattle.pblk_model.specs.UnitLog.{after_log}
use Rattle.pblk_laws.proofs.UnitChunks.{log_count}
use Rattle.pblk_world.specs.Events.{Maker}
use Rattle.pblk_world.specs.World.{Logs, unit_events}
use Rattle.pblk_world.specs.EngineLog.{Begun, begun}
use Rattle.pblk_world.specs.Commanding.{IsCommand}
use Rattle.pblk_world.specs.Legal.{IsAllowed}
use Rattle.pblk_world.proofs.WorldLemmas.{media_at}
use Rattle.chronicle_crew.specs.Ready.{eight_units, stopped_fetch}

same_all : {X : Type 0} (n k : ℕ) (x : X) → k < n → slice_get (replicate n x) k ≡ Some x
same_all zero k x below = absurd (omega arith)
same_all (suc n) zero x below = refl
same_all (suc n) (suc k) x below = same_all n k x (omega arith)

-- a fetch is a command before a mount begins, and after
commanded : (logs : Logs) (unit : ℕ) (c : Chunk) (o : Option Begun) → IsCommand (blank eight_units) logs unit c 0 (Read 0) o
commanded logs unit c None = tt
commanded logs unit c (Some beginning) = tt

pub fetch_allowed : (maker : Maker) (number : ℕ) (logs : Logs) → 0 < number → number ≤ 8
    → IsAllowed (blank eight_units) number (stopped_fetch maker) logs
fetch_allowed maker zero logs some within = absurd (omega arith)
fetch_allowed maker (suc unit) logs some within =
    let free : List Chunk = replicate 8 free_chunk in
    let chunks : List Chunk = after_log eight_units free (unit_events logs unit) in
    let first = got_within chunks 0 (omega (arith, log_count eight_units free (unit_events logs unit))) in
    record {
      chunks = chunks;
      has_chunks = media_at (blank eight_units) logs unit
          ∙ ap (option_map (λ c. after_log eight_units c (unit_events logs unit))) (same_all 8 unit free (omega arith));
      event = record { found = first.0; there = first.1; blocks = tt; outcome = tt };
      stopped = λ _. refl;
      command = commanded logs unit first.0 (begun (logs 0));
    }
