-- What is counted of a script that was accepted fits a number.
use Rattle.std.proofs.Common.{ℕ, ◌*◌, ◌^◌, ◌<◌, ◌≤◌, List, [], ◌∷◌, length, arith}
use Rattle.std.specs.List.{AllByRecursion, sum_by}
use Rattle.std.proofs.lemmas.List.Sums.{sum_by-cons}
use Rattle.pblk_model.specs.declared.script.Command.{Command}
use Rattle.pblk_model.specs.declared.script.Command.TheVariants.{Write, Read, Flush, Post, Await}
use Rattle.pblk_model.specs.Script.{CommandFits}
use Rattle.run_threads.specs.declared.records.Records.{Records}
use Rattle.run_report.specs.declared.counts.Counted.{Counted}
use Rattle.run_report.specs.declared.counts.Counted.TheVariants as counted
use Rattle.run_report.specs.Recorded.{IsRecorded}
use Rattle.run_report.specs.Totals.{count_of, thread_total, total}

one_few : (capacity : ℕ) (what : Counted) (c : Command) → CommandFits capacity c → count_of what c ≤ 16
one_few capacity counted.Commands c fits = omega arith
one_few capacity counted.Writes (Write lba count tag) fits = omega arith
one_few capacity counted.Writes (Read lba count) fits = omega arith
one_few capacity counted.Writes Flush fits = omega arith
one_few capacity counted.Writes (Post name) fits = omega arith
one_few capacity counted.Writes (Await name) fits = omega arith
one_few capacity counted.Sectors (Write lba count tag) fits = fits.0.few
one_few capacity counted.Sectors (Read lba count) fits = omega arith
one_few capacity counted.Sectors Flush fits = omega arith
one_few capacity counted.Sectors (Post name) fits = omega arith
one_few capacity counted.Sectors (Await name) fits = omega arith
one_few capacity counted.Reads (Write lba count tag) fits = omega arith
one_few capacity counted.Reads (Read lba count) fits = omega arith
one_few capacity counted.Reads Flush fits = omega arith
one_few capacity counted.Reads (Post name) fits = omega arith
one_few capacity counted.Reads (Await name) fits = omega arith
one_few capacity counted.Flushes (Write lba count tag) fits = omega arith
one_few capacity counted.Flushes (Read lba count) fits = omega arith
one_few capacity counted.Flushes Flush fits = omega arith
one_few capacity counted.Flushes (Post name) fits = omega arith
one_few capacity counted.Flushes (Await name) fits = omega arith

thread_few : (capacity : ℕ) (what : Counted) (cs : List Command) → AllByRecursion (CommandFits capacity) cs → thread_total what cs ≤ 16 * length cs
thread_few capacity what [] fit = omega arith
thread_few capacity what (c ∷ cs) fit = omega (arith, one_few capacity what c fit.0, thread_few capacity what cs fit.1)

script_few : (capacity : ℕ) (what : Counted) (script : List (List Command)) → AllByRecursion (AllByRecursion (CommandFits capacity)) script
    → total what script ≤ 16 * sum_by length script
script_few capacity what [] fit = omega arith
script_few capacity what (cs ∷ script) fit =
    omega (arith, thread_few capacity what cs fit.0, script_few capacity what script fit.1, sum_by-cons length cs script)

pub total_fits : (what : Counted) (script : List (List Command)) (records : Records) → IsRecorded script records → total what script < 2 ^ 64
total_fits what script records h = omega (arith, script_few h.capacity what script h.fits.each, h.fits.commands)
