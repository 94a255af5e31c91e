-- The `worn` lines of a transcript are what its port answered for want of room, and what its close
-- answered.
use Rattle.std.proofs.Common.{◌≡◌, ℕ, ◌+◌, List, [], ◌∷◌, ◌++◌, map, Result, Ok, Err, refl, ap, ap₂, ◌∙◌}
use Rattle.pblk_model.specs.declared.script.Command.{Command}
use Rattle.pblk_model.specs.declared.script.Command.TheVariants.{Write, Read, Flush, Post, Await}
use Rattle.block_port.specs.Port.{ModelPort}
use Rattle.pblk_engine.specs.declared.errors.SettleErr.{SettleErr}
use Rattle.pblk_engine.specs.declared.errors.SettleErr.TheVariants as settle
use Rattle.block_target.specs.Closes.{close_worns}
use Rattle.run_threads.specs.declared.records.Answer.{Answer}
use Rattle.run_threads.specs.declared.records.Answer.TheVariants.{Placed, Words, Synced, Done, Range, Refused}
use Rattle.run_threads.specs.declared.records.Trouble.TheVariants.{Drive, Worn}
use Rattle.run_threads.specs.Run as run
use Rattle.run_threads.specs.Run.{Runs, Says, worns_in}
use Rattle.run_report.specs.Report.{closing_of, outcome_of}
use Rattle.pblk_cli.specs.Serving.{trouble_of}
use Rattle.pblk_cli.specs.Worn.{asked_by, closing_worn, thread_worns, worn_of, written_of}

one_worn : (told : List ℕ → ℕ) (old : ModelPort) (written : ℕ) (c : Command) (a : Answer) (new : ModelPort) → Says told old c a new
    → worn_of written (asked_by c) (outcome_of a) ≡ run.worns_of written c a
one_worn told old written (Write lba count tag) (Refused (Worn wanted have)) new h = refl
one_worn told old written (Read lba count) (Refused (Worn wanted have)) new h = absurd h
one_worn told old written Flush (Refused (Worn wanted have)) new h = refl
one_worn told old written (Post name) (Refused (Worn wanted have)) new h = absurd h
one_worn told old written (Await name) (Refused (Worn wanted have)) new h = absurd h
one_worn told old written c a new h = refl

one_written : (told : List ℕ → ℕ) (old : ModelPort) (c : Command) (a : Answer) (new : ModelPort) → Says told old c a new
    → written_of c (outcome_of a) ≡ run.written_of c a
one_written told old (Write lba count tag) (Placed place) new h = refl
one_written told old (Write lba count tag) (Words front words) new h = absurd h
one_written told old (Write lba count tag) (Synced front) new h = absurd h
one_written told old (Write lba count tag) Done new h = absurd h
one_written told old (Write lba count tag) Range new h = absurd h
one_written told old (Write lba count tag) (Refused (Drive unit event)) new h = refl
one_written told old (Write lba count tag) (Refused (Worn wanted have)) new h = refl
one_written told old c a new h = refl

pub thread_worn : (told : List ℕ → ℕ) (written : ℕ) (cs : List Command) (rows : List Answer) (old new : ModelPort) → Runs told old cs rows new
    → thread_worns written cs (map outcome_of rows) ≡ worns_in written cs rows
thread_worn told written [] [] old new h = refl
thread_worn told written [] (a ∷ rows) old new h = absurd h
thread_worn told written (c ∷ cs) [] old new h = refl
thread_worn told written (c ∷ cs) (a ∷ rows) old new h =
    ap₂ (λ xs ys. xs ++ ys) (one_worn told old written c a h.0 h.1.says)
    (ap (λ n. thread_worns (written + n) cs (map outcome_of rows)) (one_written told old c a h.0 h.1.says)
    ∙ thread_worn told (written + run.written_of c a) cs rows h.0 new h.2)

pub close_worn : (written : ℕ) (settled : Result Unit SettleErr) → close_worns written settled ≡ closing_worn written (closing_of (trouble_of settled))
close_worn written (Ok x) = refl
close_worn written (Err (settle.Drive unit event)) = refl
close_worn written (Err (settle.Worn wanted have)) = refl
