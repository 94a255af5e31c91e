-- What becomes of a drive that is padded and then scanned.
use Rattle.std.proofs.Common.{◌≡◌, ◌≢◌, inl, inr, Ok, Err, Some, None, Option, ℕ, List, [], ◌∷◌, ◌++◌, append_assoc, refl, sym, subst, ap, ◌∙◌}
use Rattle.std.specs.Prelude.{Result, IfOk, IfErr, OnErr}
use Rattle.std.specs.List.{AllByRecursion}
use Rattle.std.proofs.lemmas.List.Sums.{fold-append}
use Rattle.pblk_model.specs.declared.found.Found.{Found}
use Rattle.pblk_model.specs.declared.shape.Shape.{Shape}
use Rattle.pblk_model.specs.Image.{Image}
use Rattle.unit_port.specs.Unit.{ModelUnit}
use Rattle.unit_port.specs.Commands.{EventAt, AreKept, AreNext, after_one, after_all}
use Rattle.unit_port.proofs.Units.{kept_none, kept_more}
use Rattle.scan_recovery.specs.declared.error.ScanErr.{ScanErr}
use Rattle.scan_recovery.specs.declared.error.ScanErr.TheVariants as errors
use Rattle.scan_recovery.specs.Fetches.{HasFetched, IsFetch, error_of}
use Rattle.scan_recovery.specs.DriveFaults.{IsDriveFaultAt, NoDriveFaults}
use Rattle.scan_recovery.specs.Pads.{ArePads, HasPadded}
use Rattle.scan_recovery.specs.Units.{image_of}
use Rattle.world_laws.specs.Finding.{IsFoundOf, NoneOpen}
use Rattle.scan_recovery.specs.Readying.{HoldsSame, AreHandedBack, IsUntouchedOrPadded, IsFoundAfter, ReadyCause}
use Rattle.scan_recovery.proofs.Losses.{WasDone, fetch_lost, fetches_done, lost_at, none_lost, pads_done, pads_front, stop_lost}
use Rattle.pblk_model.proofs.Lists.{all_append, last_of}

-- nothing was done
pub back_as_they_were : (s : Shape) (us : List ModelUnit) → AreHandedBack s us us
back_as_they_were s us = record {
  readied = record { pads = []; padded = tt; fetches = []; fetched = tt; next = tt; units = refl };
  kept = kept_none us;
  holds = record { is_sealed = λ whole. whole; contents_are = λ whole. refl; end_is = λ whole. refl };
}

pub none_lost_there : (us : List ModelUnit) → NoDriveFaults us us
none_lost_there us = none_lost us us [] refl tt

-- ---- how a padding ends

-- why it doesn't go on
abbrev pub PadEnd : Shape → List ModelUnit → List ModelUnit → ScanErr → Type 0
PadEnd s old mid e = AreHandedBack s old mid × (e ≡ errors.Memory → IsUntouchedOrPadded s old mid) × ReadyCause old mid (Err e)

pub pad_ends : (s : Shape) (old mid : List ModelUnit) (r : Result (Unit {0}) ScanErr)
    → (r ≢ Err errors.Memory → (events : List EventAt) × HasPadded s old mid events r) → (r ≡ Err errors.Memory → mid ≡ old) → AreKept old mid
    → HoldsSame (image_of s old) (image_of s mid) → IfErr r (PadEnd s old mid)
pad_ends s old mid (Ok x) padded memory kept holds = tt
pad_ends s old mid (Err (errors.Drive unit event)) padded memory kept holds =
    let h = padded (λ same. absurd cc) in
    let ends = h.1.ends in (
      record {
        readied = record { pads = h.0; padded = h.1.pads; fetches = []; fetched = tt; next = tt; units = h.1.units };
        kept = kept;
        holds = holds;
      },
      (λ same. absurd cc),
      lost_at old mid ends.0 ends.1 unit event kept (h.1.units ∙ ap (after_all old) ends.2)
          (pads_done s old ends.0 (pads_front s old ends.0 (ends.1 ∷ []) (subst (ArePads s old) ends.2 h.1.pads)) ends.3) ends.4
          (stop_lost ends.1.event ends.5) ends.6,
    )
pad_ends s old mid (Err errors.Memory) padded memory kept holds =
    let same : mid ≡ old = memory refl in (
      subst (AreHandedBack s old) (sym same) (back_as_they_were s old),
      (λ e. inl same),
      subst (NoDriveFaults old) (sym same) (none_lost_there old),
    )

pub pad_done : (s : Shape) (old new : List ModelUnit) (r : Result (Unit {0}) ScanErr) (x : Unit {0}) → r ≡ Ok x
    → (r ≢ Err errors.Memory → (events : List EventAt) × HasPadded s old new events r) → (events : List EventAt) × HasPadded s old new events (Ok x)
pad_done s old new r x is padded =
    let h = padded (λ same. let no : Ok x ≡ Err errors.Memory = sym is ∙ same in absurd cc) in
    (h.0, subst (HasPadded s old new h.0) is h.1)

-- ---- padded, and then scanned

module _ (s : Shape) (old mid new : List ModelUnit) (x : Unit {0})
    (padded : (events : List EventAt) × HasPadded s old mid events (Ok x)) (kept : AreKept old mid)
    (holds : HoldsSame (image_of s old) (image_of s mid)) (closed : NoneOpen (image_of s mid)) (after : AreKept mid new) where
  handed_back : (e : Option ScanErr) → (events : List EventAt) × HasFetched s mid new events e → AreHandedBack s old new
  handed_back e fetched = record {
    readied = record {
      pads = padded.0;
      padded = padded.1.pads;
      fetches = fetched.0;
      fetched = subst (λ (us : List ModelUnit). AllByRecursion (IsFetch (image_of s us)) fetched.0) padded.1.units fetched.1.fetches;
      next = subst (λ (us : List ModelUnit). AreNext us fetched.0) padded.1.units fetched.1.next;
      units = fetched.1.units ∙ ap (λ (us : List ModelUnit). after_all us fetched.0) padded.1.units;
    };
    kept = kept_more old mid new kept after;
    holds = subst (λ (j : Image). HoldsSame (image_of s old) j) (sym fetched.1.image) holds;
  }

  -- after all that was done
  units_are : (events : List EventAt) → new ≡ after_all mid events → new ≡ after_all old (padded.0 ++ events)
  units_are events is =
      is ∙ ap (λ (us : List ModelUnit). after_all us events) padded.1.units ∙ sym (fold-append after_one old padded.0 events)

  all_done : (events : List EventAt) → new ≡ after_all mid events → AllByRecursion WasDone events → NoDriveFaults old new
  all_done events is done =
      none_lost old new (padded.0 ++ events) (units_are events is)
      (all_append WasDone padded.0 events (pads_done s old padded.0 padded.1.pads padded.1.ends) done)

  lost_there : (unit event : ℕ) → (events : List EventAt) × HasFetched s mid new events (Some (errors.Drive unit event)) → IsDriveFaultAt old new unit event
  lost_there unit event fetched =
      let ends = fetched.1.ends in
      let which : padded.0 ++ fetched.0 ≡ (padded.0 ++ ends.0) ++ ends.1 ∷ [] =
      ap (λ (es : List EventAt). padded.0 ++ es) ends.2 ∙ sym (append_assoc padded.0 ends.0 (ends.1 ∷ [])) in
      let one : IsFetch (image_of s mid) ends.1 =
      last_of (IsFetch (image_of s mid)) ends.0 ends.1 (subst (AllByRecursion (IsFetch (image_of s mid))) ends.2 fetched.1.fetches) in
      lost_at old new (padded.0 ++ ends.0) ends.1 unit event (kept_more old mid new kept after)
      (units_are fetched.0 fetched.1.units ∙ ap (after_all old) which)
      (all_append WasDone padded.0 ends.0 (pads_done s old padded.0 padded.1.pads padded.1.ends) (fetches_done ends.0 ends.3)) ends.4
      (fetch_lost ends.1.event.command ends.1.event.outcome one.block one.command ends.5) ends.6

  caused : (e : ScanErr) → (events : List EventAt) × HasFetched s mid new events (Some e) → ReadyCause old new (Err e)
  caused (errors.Drive unit event) fetched = lost_there unit event fetched
  caused errors.Memory fetched = all_done fetched.0 fetched.1.units (fetches_done fetched.0 fetched.1.ends)

  pub scanned : (r : Result Found ScanErr) → IfOk r (IsFoundOf (image_of s mid)) → (events : List EventAt) × HasFetched s mid new events (error_of r)
      → IfOk r (IsFoundAfter s old new) × OnErr r (AreHandedBack s old new) × (r ≡ Err errors.Memory → IsUntouchedOrPadded s old new) × ReadyCause old new r
  scanned (Ok f) found fetched = (
    record {
      units = handed_back None fetched;
      closed = subst NoneOpen (sym fetched.1.image) closed;
      found_is = subst (λ (j : Image). IsFoundOf j f) (sym fetched.1.image) found;
    },
    tt,
    (λ same. inr (subst NoneOpen (sym fetched.1.image) closed)),
    all_done fetched.0 fetched.1.units (fetches_done fetched.0 fetched.1.ends),
  )
  scanned (Err e) found fetched =
      (tt, handed_back (Some e) fetched, (λ same. inr (subst NoneOpen (sym fetched.1.image) closed)), caused e fetched)
