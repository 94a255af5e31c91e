-- How one more command is counted.
use Rattle.std.proofs.Common.{◌≡◌, ◌+◌, ◌≤◌, true, false, List, [], ◌∷◌, ◌++◌, refl, arith, length-append}
use Rattle.std.proofs.lemmas.List.Elements.{filter-append}
use Rattle.pblk_model.specs.UnitLog.{UnitEvent}
use Rattle.unit_port.specs.declared.armed.CommandKind.{CommandKind}
use Rattle.unit_port.specs.declared.armed.CommandKind.TheVariants as kinds
use Rattle.unit_port.specs.Armed.{Armed}
use Rattle.ocssd_drive.specs.Faults.{changes_of, count_of, is_change, kind_of, same_kind}
use Rattle.ocssd_drive.specs.Tally.{IsTally, TallyView}
use Rattle.ocssd_drive.specs.Arming.{AreTallies}

-- of a command of the kind, and of one of another
count_of-same : (kind : CommandKind) (events : List UnitEvent) (event : UnitEvent) → same_kind (kind_of event.command) kind ≡ true → count_of kind events + 1 ≡ count_of kind (events ++ event ∷ [])
count_of-same kind events event same = rw (filter-append, length-append, same) refl

count_of-other : (kind : CommandKind) (events : List UnitEvent) (event : UnitEvent) → same_kind (kind_of event.command) kind ≡ false → count_of kind events ≡ count_of kind (events ++ event ∷ [])
count_of-other kind events event other = rw (filter-append, length-append, other) (omega arith)

pub changes_of-more : (events : List UnitEvent) (event : UnitEvent) (kind : CommandKind) → kind_of event.command ≡ kind → is_change kind ≡ true → changes_of events + 1 ≡ changes_of (events ++ event ∷ [])
changes_of-more events event kinds.Program is change = rw (← count_of-same kinds.Program events event (rw is refl), ← count_of-other kinds.Reset events event (rw is refl)) (omega arith)
changes_of-more events event kinds.Fetch is change = cc
changes_of-more events event kinds.Reset is change = rw (← count_of-other kinds.Program events event (rw is refl), ← count_of-same kinds.Reset events event (rw is refl)) (omega arith)

pub changes_of-grows : (events : List UnitEvent) (event : UnitEvent) → changes_of events ≤ changes_of (events ++ event ∷ [])
changes_of-grows events event = simp (filter-append, length-append) (omega arith)

module _ (a : Armed) (events : List UnitEvent) (event : UnitEvent) (programs fetches resets new : TallyView) where
  pub counted-program : kind_of event.command ≡ kinds.Program → AreTallies a events programs fetches resets → IsTally a.plans a.unit kinds.Program (count_of kinds.Program events + 1) new
      → AreTallies a (events ++ event ∷ []) new fetches resets
  counted-program is old next = record {
    programs = rw (← count_of-same kinds.Program events event (rw is refl)) next;
    fetches = rw (← count_of-other kinds.Fetch events event (rw is refl)) old.fetches;
    resets = rw (← count_of-other kinds.Reset events event (rw is refl)) old.resets;
  }

  pub counted-fetch : kind_of event.command ≡ kinds.Fetch → AreTallies a events programs fetches resets → IsTally a.plans a.unit kinds.Fetch (count_of kinds.Fetch events + 1) new
      → AreTallies a (events ++ event ∷ []) programs new resets
  counted-fetch is old next = record {
    programs = rw (← count_of-other kinds.Program events event (rw is refl)) old.programs;
    fetches = rw (← count_of-same kinds.Fetch events event (rw is refl)) next;
    resets = rw (← count_of-other kinds.Reset events event (rw is refl)) old.resets;
  }

  pub counted-reset : kind_of event.command ≡ kinds.Reset → AreTallies a events programs fetches resets → IsTally a.plans a.unit kinds.Reset (count_of kinds.Reset events + 1) new
      → AreTallies a (events ++ event ∷ []) programs fetches new
  counted-reset is old next = record {
    programs = rw (← count_of-other kinds.Program events event (rw is refl)) old.programs;
    fetches = rw (← count_of-other kinds.Fetch events event (rw is refl)) old.fetches;
    resets = rw (← count_of-same kinds.Reset events event (rw is refl)) next;
  }
