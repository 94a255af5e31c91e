-- Copies one after another, in one hold of the engine's lock.
use Rattle.std.proofs.Common.{◌≡◌, ◌≢◌, ◌<◌, ◌≤◌, ◌+◌, ℕ, false, Ok, Err, List, [], ◌∷◌, ◌++◌, length, length-append, append_assoc, inl, inr, refl, sym, subst, ap, ◌∙◌, arith}
use Rattle.pblk_model.specs.Image.{Image}
use Rattle.pblk_model.proofs.Lists.{all_append, last_of}
use Rattle.scan_recovery.specs.DriveFaults.{is_drive_fault}
use Rattle.unit_port.specs.Unit.{ModelUnit}
use Rattle.chronicle.specs.Prefixes.{Prefixes}
use Rattle.pblk_engine.specs.Fetches.{TellsCause}
use Rattle.pblk_engine.specs.Pumps.{AreOfRole, GoesOn, HasCollected, HasCollectedRun, IsOfRole, NoFaults, TellsCauses, TellsDid}
use Rattle.pblk_engine.specs.Workers.{Made, WorkerView}
use Rattle.pblk_engine.specs.declared.errors.FetchErr.{FetchErr}
use Rattle.pblk_engine.specs.declared.outcomes.Did.{Did}
use Rattle.pblk_engine.specs.declared.outcomes.Did.TheVariants as dids
use Rattle.pblk_engine.specs.declared.outcomes.Role.TheVariants as roles
use Rattle.pblk_engine.proofs.GoingOn.{goes_then}
use Rattle.pblk_engine.proofs.RoleCommands.{both_of_role, none_of_role}

-- so many copies were made
pub record HasCopied (n : ℕ) (old now : WorkerView) : Type 0 where
  pub more : List Made
  pub on : GoesOn old now more
  pub fetched : AreOfRole roles.Collector more
  pub none : NoFaults more
  pub count : length more ≡ n

pub copied_none : (old now : WorkerView) → GoesOn old now [] → HasCopied 0 old now
copied_none old now on = record { more = []; on = on; fetched = none_of_role roles.Collector; none = tt; count = refl }

-- how many commands a piece of a collector's work makes
made_few : (i : Image) (old new : Prefixes) (more : List Made) (did : Did) → IsOfRole roles.Collector did → TellsDid i roles.Collector old new more did
    → length more ≤ 1
made_few i old new more dids.Copied role is = subst (λ (ms : List Made). length ms ≤ 1) (sym is.0.only) (omega arith)
made_few i old new more dids.NotCopied role is = elim is.0 [
  | inl none ↦ subst (λ (ms : List Made). length ms ≤ 1) (sym none) (omega arith)
  | inr one ↦ subst (λ (ms : List Made). length ms ≤ 1) (sym one.only) (omega arith)
]
made_few i old new more dids.Other role is = subst (λ (ms : List Made). length ms ≤ 1) (sym is) (omega arith)
made_few i old new more (dids.Nothing why) role is = subst (λ (ms : List Made). length ms ≤ 1) (sym is.0) (omega arith)
made_few i old new more dids.Programmed role is = absurd role
made_few i old new more (dids.Lost unit) role is = absurd role
made_few i old new more dids.Reset role is = absurd role
made_few i old new more dids.Opened role is = absurd role

-- a copy makes one
copy_one : (i : Image) (old new : Prefixes) (more : List Made) (did : Did) → did ≡ dids.Copied → TellsDid i roles.Collector old new more did → length more ≡ 1
copy_one i old new more did same is =
    ap length (subst (TellsDid i roles.Collector old new more) same is).0.only

pub copied_more : (i : Image) (handed : List ModelUnit) (n : ℕ) (a b c : WorkerView) (did : Did) → HasCopied n a b
    → HasCollected i handed roles.Collector b c (Ok did)
    → did ≡ dids.Copied → HasCopied (n + 1) a c
copied_more i handed n a b c did x is same = record {
  more = x.more ++ is.pumped.more;
  on = goes_then a b c x.more is.pumped.more x.on is.pumped.on;
  fetched = both_of_role roles.Collector x.more is.pumped.more x.fetched is.fetched;
  none = all_append (λ (m : Made). is_drive_fault m.event ≡ false) x.more is.pumped.more x.none is.pumped.tells.0;
  count =
      let one : length is.pumped.more ≡ 1 = copy_one i b.known c.known is.pumped.more did same is.pumped.tells.1 in
      let both : length (x.more ++ is.pumped.more) ≡ length x.more + length is.pumped.more = length-append x.more is.pumped.more in
      let before : length x.more ≡ n = x.count in
      omega arith;
}

-- the last piece of work was this, after so many copies
run_then : (i : Image) (handed : List ModelUnit) (n : ℕ) (a b c : WorkerView) (did told : Did) → n < 16 → HasCopied n a b
    → HasCollected i handed roles.Collector b c (Ok did) → IsOfRole roles.Collector did
    → ((made : List Made) → TellsDid i roles.Collector b.known c.known made did → told ≡ dids.Copied
    → 0 < n + length made) → (told ≢ dids.Copied → n ≤ 0) → HasCollectedRun handed a c (Ok told)
run_then i handed n a b c did told low x is role some one =
    let both : length (x.more ++ is.pumped.more) ≡ length x.more + length is.pumped.more = length-append x.more is.pumped.more in
    let before : length x.more ≡ n = x.count in
    let few : length is.pumped.more ≤ 1 = made_few i b.known c.known is.pumped.more did role is.pumped.tells.1 in
    record {
      more = x.more ++ is.pumped.more;
      on = goes_then a b c x.more is.pumped.more x.on is.pumped.on;
      fetched = both_of_role roles.Collector x.more is.pumped.more x.fetched is.fetched;
      few = omega arith;
      tells = (
        all_append (λ (m : Made). is_drive_fault m.event ≡ false) x.more is.pumped.more x.none is.pumped.tells.0,
        λ same. let all : 0 < n + length is.pumped.more = some is.pumped.more is.pumped.tells.1 same in omega arith,
        λ other. let none : n ≤ 0 = one other in omega arith,
      );
    }

-- it made some copies, and then no more
pub run_some : (i : Image) (handed : List ModelUnit) (n : ℕ) (a b c : WorkerView) (did : Did) → n < 16 → 0 < n → HasCopied n a b
    → HasCollected i handed roles.Collector b c (Ok did) → IsOfRole roles.Collector did → HasCollectedRun handed a c (Ok dids.Copied)
run_some i handed n a b c did low some x is role =
    run_then i handed n a b c did dids.Copied low x is role (λ made tells same. omega arith) (λ other. absurd (other refl))

-- it made none before
pub run_one : (i : Image) (handed : List ModelUnit) (n : ℕ) (a b c : WorkerView) (did : Did) → n < 16 → n ≤ 0 → HasCopied n a b
    → HasCollected i handed roles.Collector b c (Ok did) → IsOfRole roles.Collector did → HasCollectedRun handed a c (Ok did)
run_one i handed n a b c did low first x is role =
    run_then i handed n a b c did did low x is role
    (λ made tells same. let one : length made ≡ 1 = copy_one i b.known c.known made did same tells in omega arith) (λ other. first)

-- a fetch gave no block
pub run_lost : (i : Image) (handed : List ModelUnit) (n : ℕ) (a b c : WorkerView) (e : FetchErr) → n < 16 → HasCopied n a b
    → HasCollected i handed roles.Collector b c (Err e)
    → HasCollectedRun handed a c (Err e)
run_lost i handed n a b c e low x is =
    let fault = is.pumped.tells.0 in
    let one : length is.pumped.more ≡ 1 = is.pumped.tells.1 in
    let both : length (x.more ++ is.pumped.more) ≡ length x.more + length is.pumped.more = length-append x.more is.pumped.more in
    let before : length x.more ≡ n = x.count in
    record {
      more = x.more ++ is.pumped.more;
      on = goes_then a b c x.more is.pumped.more x.on is.pumped.on;
      fetched = both_of_role roles.Collector x.more is.pumped.more x.fetched is.fetched;
      few = omega arith;
      tells = (
        record {
          others = x.more ++ fault.others;
          last = fault.last;
          all = ap (λ (ms : List Made). x.more ++ ms) fault.all ∙ sym (append_assoc x.more fault.others (fault.last ∷ []));
          none = all_append (λ (m : Made). is_drive_fault m.event ≡ false) x.more fault.others x.none fault.none;
          lost = fault.lost;
          unit = fault.unit;
          number = fault.number;
        },
        last_of (λ (m : Made). TellsCause e.cause m.event.outcome) fault.others fault.last
            (subst (λ (ms : List Made). TellsCauses ms (Err e)) fault.all is.caused),
      );
    }
