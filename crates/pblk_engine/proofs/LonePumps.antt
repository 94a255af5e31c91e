-- Pumps of a worker that has the heart to itself.
use Rattle.std.proofs.Common.{◌≡◌, ◌≢◌, ℕ, suc, ◌+◌, ◌-◌, ◌<◌, ◌≤◌, Result, Ok, Err, Some, List, length, refl, sym, subst, ap, ◌∙◌, arith}
use Rattle.std.specs.Prelude.{slice_get}
use Rattle.pblk_model.specs.declared.chunk.Mark.{Mark}
use Rattle.pblk_model.specs.Image.{Image}
use Rattle.pblk_model.proofs.Parts.{is_in, take-all}
use Rattle.pblk_world.specs.AtRest.{logs_at}
use Rattle.pblk_world.specs.Events.{Decides, Entry, Logged, Take}
use Rattle.pblk_world.specs.Fronts.{taken}
use Rattle.pblk_world.specs.Orders.{AreReset}
use Rattle.pblk_world.specs.Space.{freed}
use Rattle.pblk_world.specs.World.{Logs, known, log_of}
use Rattle.world_laws.proofs.GrownLogs.{IsBegunIn}
use Rattle.world_laws.proofs.Made.{known_within}
use Rattle.unit_port.specs.Unit.{ModelUnit}
use Rattle.chronicle.specs.Prefixes.{AreLegalLogs, ArePrefixes, Prefixes, logs_of}
use Rattle.chronicle.proofs.Rests.{still_begun}
use Rattle.pblk_core.specs.declared.work.Why.{Why}
use Rattle.pblk_engine.specs.Alone.{IsCopyAlone, TakesBy, TakesNothing, TakesOneCopy, WasFull, at_look}
use Rattle.pblk_engine.specs.Pumps.{HasPumped, TellsDid, TellsPump, WasCopyDue}
use Rattle.pblk_engine.specs.Workers.{Made, WorkerView}
use Rattle.pblk_engine.specs.declared.errors.DriveErr.{DriveErr}
use Rattle.pblk_engine.specs.declared.outcomes.Did.{Did}
use Rattle.pblk_engine.specs.declared.outcomes.Did.TheVariants as dids
use Rattle.pblk_engine.specs.declared.outcomes.Role.TheVariants as roles
use Rattle.pblk_engine.proofs.GoingOn.{goes_told}
use Rattle.pblk_engine.proofs.LoneCopies.{at_early}
use Rattle.pblk_engine.proofs.LoneTakes.{takes_nothing}
use Rattle.pblk_engine.proofs.WorkSince.{decided_still, placed_still}

-- ---- a worker that is told more after its pump

module _ (i : Image) (old mid new : Prefixes) (keeps : ArePrefixes mid new) where
  due_still : WasCopyDue i roles.All old mid → WasCopyDue i roles.All old new
  due_still is = record {
    looked = is.looked;
    since = is.since;
    within = still_begun is.looked mid new is.within keeps;
    due = is.due;
    reset = is.reset;
  }

  tells_did : (more : List Made) (did : Did) → ((why : Why) → did ≢ dids.Nothing why) → TellsDid i roles.All old mid more did
      → TellsDid i roles.All old new more did
  tells_did more dids.Programmed some is = (is.0, placed_still is.0.made.unit old mid new is.1 keeps)
  tells_did more (dids.Lost unit) some is = (is.0, is.1, placed_still unit old mid new is.2 keeps)
  tells_did more dids.Reset some is = (is.0, decided_still _ old mid new is.1 keeps)
  tells_did more dids.Copied some is = (is.0, due_still is.1, decided_still _ old mid new is.2 keeps)
  tells_did more dids.NotCopied some is = (is.0, due_still is.1)
  tells_did more dids.Opened some is = (is.0, decided_still _ old mid new is.1 keeps)
  tells_did more dids.Other some is = is
  tells_did more (dids.Nothing why) some is = absurd (some why refl)

  tells_told : (handed : List ModelUnit) (more : List Made) (result : Result Did DriveErr) → ((why : Why) → result ≢ Ok (dids.Nothing why))
      → TellsPump i handed roles.All old mid more result → TellsPump i handed roles.All old new more result
  tells_told handed more (Ok did) some is = (is.0, tells_did more did (λ why same. some why (ap (λ d. Ok d) same)) is.1)
  tells_told handed more (Err e) some is = is

pub pumped_told : (i : Image) (handed : List ModelUnit) (old mid new : WorkerView) (result : Result Did DriveErr) (told : Prefixes)
    → new ≡ record mid { known = told } → ArePrefixes mid.known new.known → ((why : Why) → result ≢ Ok (dids.Nothing why))
    → HasPumped i handed roles.All old mid result → HasPumped i handed roles.All old new result
pumped_told i handed old mid new result told is keeps some pumped =
    let after = goes_told mid new told is keeps in
    record {
      more = pumped.more;
      on = record {
        number = after.number ∙ pumped.on.number;
        keeps = still_begun old.known mid.known new.known pumped.on.keeps keeps;
        made = ap (λ (w : WorkerView). w.made) is ∙ pumped.on.made;
        asked = after.asked ∙ pumped.on.asked;
      };
      tells = tells_told i old.known mid.known new.known keeps handed pumped.more result some pumped.tells;
    }

-- ---- what was taken meanwhile

-- where more of the units is known
pub copy_still : (i : Image) (n : ℕ) (a b : Prefixes) → AreLegalLogs i a → ArePrefixes a b → logs_of b 0 ≡ logs_of a 0 → 0 < n → n ≤ length (logs_of a 0)
    → TakesOneCopy i n (logs_of a) → TakesOneCopy i n (logs_of b)
copy_still i n a b legal keeps own some within is = record {
  number = is.number;
  entry = is.entry;
  mark = is.mark;
  took = record {
    knows = is.took.knows;
    there = ap (λ (log : List Logged). slice_get log is.number) own ∙ is.took.there;
    source = is.took.source;
    is_copy = is.took.is_copy;
  };
  since = is.since;
  only = λ k knows other its past there. is.only k knows other its past (ap (λ (log : List Logged). slice_get log k) (sym own) ∙ there);
  begun = record {
    at = is.begun.at;
    has_begun = is.begun.has_begun;
    within = is.begun.within;
    due = there_then.0;
    line = there_then.1;
    latest = there_then.2;
    alone = λ k l past below there. is.begun.alone k l past below (ap (λ (log : List Logged). slice_get log k) (sym own) ∙ there);
    granted = λ k knows entry mark past below there users.
        absurd (users_none k knows entry mark past below (ap (λ (log : List Logged). slice_get log k) (sym own) ∙ there));
  };
  at = is.at;
  reset = subst (AreReset i) (sym same) is.reset;
}
  where
    same : logs_at n (logs_of b) ≡ logs_at n (logs_of a)
    same = at_early (logs_of a) (logs_of b) n keeps.each some within (λ unit l there.
        subst (λ (logs : Logs). known l (suc unit) ≤ length (logs (suc unit))) legal.logs
        (known_within i legal.world 0 (suc unit) l legal.legal (is_in (log_of legal.world 0) (n - 1) l
        (ap (λ (logs : Logs). slice_get (logs 0) (n - 1)) legal.logs ∙ there))))

    there_then : IsBegunIn i is.entry.lba is.took.source (logs_at is.begun.at (logs_of b))
    there_then = subst (λ m. IsBegunIn i is.entry.lba is.took.source (logs_at m (logs_of b))) (sym is.at)
        (subst (IsBegunIn i is.entry.lba is.took.source) (sym same)
        (subst (λ m. IsBegunIn i is.entry.lba is.took.source (logs_at m (logs_of a))) is.at (is.begun.due, is.begun.line, is.begun.latest)))

    users_none : (k : ℕ) (knows : List ℕ) (entry : Entry) (mark : Mark) → is.begun.at ≤ k → k < is.number
        → slice_get (logs_of a 0) k ≡ Some (record { event = Decides (Take entry mark); knows = knows }) → ⊥
    users_none k knows entry mark past below there =
        let same_number : k ≡ is.number = is.only k knows entry mark (let at : is.begun.at ≡ n = is.at in omega (arith, past, at)) there in
        omega (arith, same_number, below)

-- by whether it was a copy
pub takes_by : (i : Image) (old new : Prefixes) (result : Result Did DriveErr)
    → (result ≡ Ok dids.Copied → TakesOneCopy i (length (logs_of old 0)) (logs_of new))
    → (result ≢ Ok dids.Copied → TakesNothing (length (logs_of old 0)) (logs_of new 0)) → TakesBy i old new result
takes_by i old new (Ok dids.Programmed) copy none = none (λ e. absurd cc)
takes_by i old new (Ok (dids.Lost unit)) copy none = none (λ e. absurd cc)
takes_by i old new (Ok dids.Reset) copy none = none (λ e. absurd cc)
takes_by i old new (Ok dids.Copied) copy none = copy refl
takes_by i old new (Ok dids.NotCopied) copy none = none (λ e. absurd cc)
takes_by i old new (Ok dids.Opened) copy none = none (λ e. absurd cc)
takes_by i old new (Ok dids.Other) copy none = none (λ e. absurd cc)
takes_by i old new (Ok (dids.Nothing why)) copy none = none (λ e. absurd cc)
takes_by i old new (Err e) copy none = none (λ same. absurd cc)

-- where as much is taken as before, nothing was
pub nothing_then : (old new : Prefixes) → ArePrefixes old new → 0 < length (logs_of old 0) → taken (logs_of new 0) ≡ taken (logs_of old 0)
    → TakesNothing (length (logs_of old 0)) (logs_of new 0)
nothing_then old new keeps some same =
    subst (TakesNothing (length (logs_of old 0))) (keeps.each 0).1
    (takes_nothing (logs_of old 0) (keeps.each 0).0 some (ap taken (keeps.each 0).1 ∙ same))

-- ---- a full ring

pub was_full : (i : Image) (known : Prefixes) (size front_freed front_taken : ℕ) → IsCopyAlone i (at_look known) → size ≡ i.shape.ring
    → front_freed ≡ freed i.shape (logs_of known 0) → front_taken ≡ taken (logs_of known 0) → front_freed + size ≤ front_taken
    → WasFull i (at_look known)
was_full i known size front_freed front_taken alone is_size is_freed is_taken full = record {
  copy = alone;
  full = subst (λ (log : List Logged). freed i.shape log + i.shape.ring ≤ taken log) (sym (take-all (logs_of known 0)))
      (omega (arith, is_size, is_freed, is_taken, full));
}
