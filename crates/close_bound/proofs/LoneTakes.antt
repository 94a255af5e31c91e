-- What the engine's log takes while a worker goes on alone: copies, each begun where no reset was left
-- to be made.
use Rattle.std.proofs.Common.{◌≡◌, ℕ, ◌<◌, ◌≤◌, nat_lt, if◌then◌else◌, Bool, true, false, Some, Result, Ok, Err, List, [], ◌∷◌, length, refl, sym, subst, ap, ◌∙◌, arith}
use Rattle.std.specs.Prelude.{slice_get}
use Rattle.std.proofs.lemmas.Option.{same_Some}
use mathlib.Core.List.{IsPrefix}
use Rattle.pblk_model.specs.declared.chunk.Mark.{Mark}
use Rattle.pblk_model.specs.Image.{Image}
use Rattle.pblk_model.proofs.Parts.{get_below, get_first}
use Rattle.pblk_model.proofs.Tests.{below_of, le_of_lt_false}
use Rattle.pblk_world.specs.AtRest.{logs_at}
use Rattle.pblk_world.specs.EngineLog.{Taken, taken_by}
use Rattle.pblk_world.specs.Events.{Decides, Entry, Logged, Source, Take}
use Rattle.pblk_world.specs.Orders.{AreReset}
use Rattle.pblk_world.specs.Reasons.{WasBegun}
use Rattle.pblk_world.specs.World.{World, Logs, log_of}
use Rattle.unit_port.specs.Unit.{ModelUnit}
use Rattle.chronicle.specs.Prefixes.{Prefixes, AreLegalLogs, logs_of}
use Rattle.pblk_engine.specs.Alone.{AreLonePumps, TakesBy, TakesOneCopy}
use Rattle.close_bound.proofs.KnownLengths.{begun_in, same_in}
use Rattle.close_bound.proofs.LonePumps.{IsPumpOf, first_of, rest_of}
use Rattle.pblk_engine.specs.Ticks.{Pump}
use Rattle.pblk_engine.specs.Workers.{WorkerView}
use Rattle.pblk_engine.specs.declared.errors.DriveErr.{DriveErr}
use Rattle.pblk_engine.specs.declared.outcomes.Did.{Did}
use Rattle.pblk_engine.specs.declared.outcomes.Did.TheVariants as dids

-- the length of the engine's log at the look of the pump in which it got the event of this number
abbrev pub look_of : List Pump → ℕ → ℕ
look_of [] number = 0
look_of (p ∷ pumps) number = if nat_lt number (length (logs_of p.after.known 0)) then length (logs_of p.before.known 0) else look_of pumps number

-- The event of this number takes a copy, which was begun at this length. No reset was left to be made
-- then.
pub record IsTakenAlone (i : Image) (logs : Logs) (number at : ℕ) (entry : Entry) : Type 0 where
  pub source : Source
  pub is_copy : entry.source ≡ Some source
  pub begun : WasBegun i logs number entry.lba source
  pub begun_at : begun.at ≡ at
  pub reset : AreReset i (logs_at at logs)

-- a log that takes one copy takes no other entry
one_copy : (i : Image) (from number : ℕ) (logs : Logs) (knows : List ℕ) (entry : Entry) (mark : Mark) → TakesOneCopy i from logs → from ≤ number
    → slice_get (logs 0) number ≡ Some (record { event = Decides (Take entry mark); knows = knows }) → IsTakenAlone i logs number from entry
one_copy i from number logs knows entry mark is since there = record {
  source = is.took.source;
  is_copy = ap (λ (x : Entry). x.source) same ∙ is.took.is_copy;
  begun = begun.0;
  begun_at = begun.1;
  reset = is.reset;
}
  where
    at : number ≡ is.number
    at = is.only number knows entry mark since there

    same : entry ≡ is.entry
    same =
        let l : Logged = record { event = Decides (Take entry mark); knows = knows } in
        let its : Logged = record { event = Decides (Take is.entry is.mark); knows = is.took.knows } in
        let one : l ≡ its = same_Some l its (sym there ∙ ap (slice_get (logs 0)) at ∙ is.took.there) in
        ap (λ (t : Taken). t.entry) (same_Some (record { entry = entry; mark = mark }) (record { entry = is.entry; mark = is.mark })
        (ap (λ (x : Logged). taken_by x.event) one))

    begun : (b : WasBegun i logs number entry.lba is.took.source) × (b.at ≡ from)
    begun = subst (λ n. (b : WasBegun i logs n entry.lba is.took.source) × (b.at ≡ from)) (sym at)
        (subst (λ (x : Entry). (b : WasBegun i logs is.number x.lba is.took.source) × (b.at ≡ from)) (sym same) (is.begun, is.at))

-- what a pump takes
in_pump : (i : Image) (old new : Prefixes) (number : ℕ) (knows : List ℕ) (entry : Entry) (mark : Mark) (answer : Result Did DriveErr)
    → TakesBy i old new answer → length (logs_of old 0) ≤ number
    → slice_get (logs_of new 0) number ≡ Some (record { event = Decides (Take entry mark); knows = knows })
    → IsTakenAlone i (logs_of new) number (length (logs_of old 0)) entry
in_pump i old new number knows entry mark (Ok dids.Copied) is since there =
    one_copy i (length (logs_of old 0)) number (logs_of new) knows entry mark is since there
in_pump i old new number knows entry mark (Ok dids.Programmed) is since there = absurd (is.each number knows entry mark since there)
in_pump i old new number knows entry mark (Ok (dids.Lost unit)) is since there = absurd (is.each number knows entry mark since there)
in_pump i old new number knows entry mark (Ok dids.Reset) is since there = absurd (is.each number knows entry mark since there)
in_pump i old new number knows entry mark (Ok dids.NotCopied) is since there = absurd (is.each number knows entry mark since there)
in_pump i old new number knows entry mark (Ok dids.Opened) is since there = absurd (is.each number knows entry mark since there)
in_pump i old new number knows entry mark (Ok dids.Other) is since there = absurd (is.each number knows entry mark since there)
in_pump i old new number knows entry mark (Ok (dids.Nothing why)) is since there = absurd (is.each number knows entry mark since there)
in_pump i old new number knows entry mark (Err e) is since there = absurd (is.each number knows entry mark since there)

module _ (i : Image) (handed : List ModelUnit) (w : World) where
  -- by all logs
  in_world : (from number : ℕ) (knows : List ℕ) (entry : Entry) (mark : Mark) (p : Pump) → 0 < from → IsPumpOf i handed w from p
      → length (logs_of p.before.known 0) ≤ number → number < length (logs_of p.after.known 0)
      → slice_get (log_of w 0) number ≡ Some (record { event = Decides (Take entry mark); knows = knows })
      → IsTakenAlone i (log_of w) number (length (logs_of p.before.known 0)) entry
  in_world from number knows entry mark p first is since low there = record {
    source = then_.source;
    is_copy = then_.is_copy;
    begun = now.0;
    begun_at = now.1 ∙ then_.begun_at;
    reset = subst (AreReset i) (same_in i is.lone.legal.world legal.legal (logs_of p.after.known) (log_of w) in_after is.within
        (length (logs_of p.before.known 0)) (omega (arith, is.since)) (omega (arith, long))) then_.reset;
  }
    where
      legal : AreLegalLogs i p.before.known
      legal = is.lone.legal

      long : length (log_of is.lone.legal.world 0) ≡ length (logs_of p.before.known 0)
      long = ap (λ (logs : Logs). length (logs 0)) legal.logs

      in_after : (author : ℕ) → IsPrefix (log_of is.lone.legal.world author) (logs_of p.after.known author)
      in_after author =
          subst (λ (logs : Logs). IsPrefix (logs author) (logs_of p.after.known author)) (sym legal.logs) (is.lone.pumped.on.keeps.each author)

      then_ : IsTakenAlone i (logs_of p.after.known) number (length (logs_of p.before.known 0)) entry
      then_ = in_pump i p.before.known p.after.known number knows entry mark p.answer is.lone.takes since
          (let more = is.within 0 in
          sym (get_first (logs_of p.after.known 0) more.0 number low) ∙ ap (λ (log : List Logged). slice_get log number) more.1 ∙ there)

      now : (b : WasBegun i (log_of w) number entry.lba then_.source) × (b.at ≡ then_.begun.at)
      now = begun_in i is.lone.legal.world legal.legal (logs_of p.after.known) (log_of w) in_after is.within number entry.lba then_.source then_.begun
          (let at = then_.begun_at in omega (arith, at, long)) (omega (arith, low))

  -- in some pump each entry was taken that the worker didn't know before
  module _ (new : WorkerView) (known : (author : ℕ) → IsPrefix (logs_of new.known author) (log_of w author)) (all : logs_of new.known 0 ≡ log_of w 0) where
    pub taken_alone : (old : WorkerView) (pumps : List Pump) (from number : ℕ) (knows : List ℕ) (entry : Entry) (mark : Mark) → 0 < from
        → from ≤ length (logs_of old.known 0) → AreLonePumps i handed old pumps new → length (logs_of old.known 0) ≤ number
        → slice_get (log_of w 0) number ≡ Some (record { event = Decides (Take entry mark); knows = knows })
        → IsTakenAlone i (log_of w) number (look_of pumps number) entry
    taken_alone old [] from number knows entry mark first low is since there =
        let inside = get_below (log_of w 0) number (record { event = Decides (Take entry mark); knows = knows }) there in
        let same = ap (λ (log : List Logged). length log) (sym is.1 ∙ all) in
        absurd (omega (arith, inside, same))
    taken_alone old (p ∷ pumps) from number knows entry mark first low is since there =
        go (nat_lt number (length (logs_of p.after.known 0))) refl
        (λ late. taken_alone p.after pumps from number knows entry mark first (rest_of i handed new w known old p pumps from low is) is.4 late there)
      where
        go : (b : Bool) → nat_lt number (length (logs_of p.after.known 0)) ≡ b
            → (length (logs_of p.after.known 0) ≤ number → IsTakenAlone i (log_of w) number (look_of pumps number) entry)
            → IsTakenAlone i (log_of w) number (if b then length (logs_of p.before.known 0) else look_of pumps number) entry
        go true e rest =
            let same = ap (λ (log : List Logged). length log) is.1 in
            in_world from number knows entry mark p first (first_of i handed new w known old p pumps from low is) (omega (arith, since, same))
            (below_of number (length (logs_of p.after.known 0)) e) there
        go false e rest = rest (le_of_lt_false number (length (logs_of p.after.known 0)) e)
