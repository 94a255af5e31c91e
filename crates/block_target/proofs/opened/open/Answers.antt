use Rattle.std.proofs.Common.{◌≡◌, ◌++◌, take, drop, length, map, refl, ap, sym, subst, ◌∙◌}
use Rattle.scan_recovery.specs.DriveFaults.{NoDriveFaults}
use Rattle.scan_recovery.specs.Readying.{AreHandedBack}
use Rattle.block_target.specs.Opened.{CanOpen, OpenCause}
use Rattle.block_target.specs.OpenedTargets.{AreParts, IsOpenedOn, IsOpening, opened_view}
use Rattle.block_target.proofs.OpenedParts.{all_written, opened_on, parts_own}
use Rattle.block_target.proofs.opened.open.Goals as goal

pub begin-requires-clause-opens : goal.begin-requires-clause-opens
begin-requires-clause-opens g c =
    subst (λ xs. CanOpen c.args.shape.now (map g.U.Unit.model xs)) (sym c.as_mut_slice.ensures.value) c.requires.opens

pub invariant_of-result : goal.invariant_of-result
invariant_of-result g c =
    let s = c.args.shape.now in
    let items = c.args.units.items in
    let made = c.begin.new.units in
    let parts = c.in-Ok.parts in
    let back : take c.args.units.len (made ++ drop (length made) items) ≡ made =
    all_written c.args.units.len made items c.as_mut_slice.result.now c.begin.auto.units c.as_mut_slice.ensures.value c.args.units.ok.0 in
    let is : AreParts s (map g.U.Unit.model items) (map g.U.Unit.model made) c.args.sessions c.args.lanes parts =
    subst (λ xs. AreParts s (map g.U.Unit.model xs) (map g.U.Unit.model made) c.args.sessions c.args.lanes parts) c.as_mut_slice.ensures.value
    c.in-Ok.ensures.parts in
    subst (λ xs. IsOpening (map g.U.Unit.model xs) parts) (sym back)
    (parts_own s (map g.U.Unit.model items) (map g.U.Unit.model made) c.args.sessions c.args.lanes parts is)

pub returns-in-Ok-clause-opened : goal.returns-in-Ok-clause-opened
returns-in-Ok-clause-opened g c =
    let s = c.args.shape.now in
    let items = c.args.units.items in
    let old = map g.U.Unit.model items in
    let was = map g.U.Unit.wear items in
    let made = c.begin.new.units in
    let parts = c.in-Ok.parts in
    let back : take c.args.units.len (made ++ drop (length made) items) ≡ made =
    all_written c.args.units.len made items c.as_mut_slice.result.now c.begin.auto.units c.as_mut_slice.ensures.value c.args.units.ok.0 in
    let is : AreParts s old (map g.U.Unit.model made) c.args.sessions c.args.lanes parts =
    subst (λ xs. AreParts s (map g.U.Unit.model xs) (map g.U.Unit.model made) c.args.sessions c.args.lanes parts) c.as_mut_slice.ensures.value
    c.in-Ok.ensures.parts in
    subst (λ xs. IsOpenedOn s old was c.args.sessions c.args.lanes (opened_view (map g.U.Unit.model xs) (map g.U.Unit.wear xs) parts)) (sym back)
    (opened_on s old (map g.U.Unit.model made) c.args.sessions c.args.lanes parts was (map g.U.Unit.wear made) is
    (c.begin.ensures.wear ∙ ap (map g.U.Unit.wear) c.as_mut_slice.ensures.value))

pub returns-in-Ok-clause-done : goal.returns-in-Ok-clause-done
returns-in-Ok-clause-done g c =
    let items = c.args.units.items in
    let old = map g.U.Unit.model items in
    let made = c.begin.new.units in
    let new = map g.U.Unit.model made in
    let back : take c.args.units.len (made ++ drop (length made) items) ≡ made =
    all_written c.args.units.len made items c.as_mut_slice.result.now c.begin.auto.units c.as_mut_slice.ensures.value c.args.units.ok.0 in
    let done : NoDriveFaults old new =
    subst (λ xs. NoDriveFaults (map g.U.Unit.model xs) new) c.as_mut_slice.ensures.value (c.in-Ok.ensures.done refl) in
    subst (λ xs. NoDriveFaults old (map g.U.Unit.model xs)) (sym back) done

pub returns-in-Err-clause-refused : goal.returns-in-Err-clause-refused
returns-in-Err-clause-refused g c =
    let s = c.args.shape.now in
    let items = c.args.units.items in
    let old = map g.U.Unit.model items in
    let made = c.begin.new.units in
    let new = map g.U.Unit.model made in
    let why = c.in-Err.cause in
    let back : take c.args.units.len (made ++ drop (length made) items) ≡ made =
    all_written c.args.units.len made items c.as_mut_slice.result.now c.begin.auto.units c.as_mut_slice.ensures.value c.args.units.ok.0 in
    record {
      handed_back = subst (λ xs. AreHandedBack s old (map g.U.Unit.model xs)) (sym back)
          (subst (λ xs. AreHandedBack s (map g.U.Unit.model xs) new) c.as_mut_slice.ensures.value c.in-Err.ensures.handed_back);
      wear = ap (map g.U.Unit.wear) back ∙ c.begin.ensures.wear ∙ ap (map g.U.Unit.wear) c.as_mut_slice.ensures.value;
      cause = subst (λ xs. OpenCause why old (map g.U.Unit.model xs)) (sym back)
          (subst (λ xs. OpenCause why (map g.U.Unit.model xs) new) c.as_mut_slice.ensures.value c.in-Err.ensures.cause);
    }
