-- What is made of an opened drive for the mount that names it.
use Rattle.std.proofs.Common.{◌≡◌, ℕ, ◌+◌, ◌^◌, ◌≤◌, List, ◌++◌, drop, take, length, map, refl, sym, subst, ap, ◌∙◌}
use Rattle.std.specs.List.{range_with_len}
use Rattle.std.proofs.Math.Seq.{take-append_seam}
use Rattle.atomic_table.specs.Seated.{TableId}
use Rattle.pblk_model.specs.declared.shape.Shape.{Shape}
use Rattle.pblk_model.specs.Found.{IsFitFound}
use Rattle.pblk_model.specs.Shape.{units}
use Rattle.unit_port.specs.Unit.{ModelUnit}
use Rattle.scan_recovery.proofs.PadLoops.{fit_kept}
use Rattle.world_laws.specs.EarlyLogs.{AreEarly}
use Rattle.write_ring.specs.Handles.{ring_key}
use Rattle.write_ring.specs.declared.view.Key.{Key}
use Rattle.chronicle.specs.Handles.{TokenView, first_author}
use Rattle.chronicle.specs.Prefixes.{logs_of}
use Rattle.chronicle.specs.Views.{Past}
use Rattle.pblk_engine.specs.Beginnings.{IsFirstPast, opened_past}
use Rattle.pblk_engine.specs.Hearts.{IsRingFor}
use Rattle.pblk_engine.specs.Mounts.{IsMounted}
use Rattle.pblk_engine.proofs.Beginnings.{first_early}
use Rattle.pblk_engine.proofs.OpenedPasts.{is_mounted, opened_first, opened_fit, opened_units}
use Rattle.block_target.specs.OpenedTargets.{AreParts, AreUnused, IsOpenedOn, IsOpening, drive_before, opened_view}
use Rattle.block_target.specs.Supplies.{IsBeginning}
use Rattle.block_target.specs.Targets.{AreHandedUnits, Names}
use Rattle.block_target.specs.declared.opened.Parts.{Parts}
use Rattle.block_target.specs.declared.target.Beginning.{Beginning}
use Rattle.block_target.proofs.FirstWorks.{window_empty}

-- ---- a drive is opened

-- a list whose elements were all written over
pub all_written : {X : Type 0} (n : ℕ) (new old was : List X) → length new ≡ length was → was ≡ old → n ≡ length old
    → take n (new ++ drop (length new) old) ≡ new
all_written n new old was many same long =
    let whole : n ≡ length new = long ∙ ap length (sym same) ∙ sym many in
    ap (λ k. take k (new ++ drop (length new) old)) whole ∙ take-append_seam new (drop (length new) old)

-- the parts tell of what they are
pub parts_own : (s : Shape) (old now : List ModelUnit) (sessions lanes : ℕ) (p : Parts) → AreParts s old now sessions lanes p → IsOpening now p
parts_own s old now sessions lanes p is =
    subst (λ (x : Shape). AreParts x (drive_before p.handed) now p.sessions p.lanes p) (sym is.shape)
    (subst (λ (x : List ModelUnit). AreParts s x now p.sessions p.lanes p) (sym (ap drive_before is.handed))
    (subst (λ (x : ℕ). AreParts s old now x p.lanes p) (sym is.sessions_are)
    (subst (λ (x : ℕ). AreParts s old now sessions x p) (sym is.lanes_are) is)))

pub opened_on : (s : Shape) (old now : List ModelUnit) (sessions lanes : ℕ) (p : Parts) (wear worn : List (List ℕ)) → AreParts s old now sessions lanes p
    → worn ≡ wear → IsOpenedOn s old wear sessions lanes (opened_view now worn p)
opened_on s old now sessions lanes p wear worn is same = record {
  handed_are = ap drive_before is.handed;
  wear_is = same;
  sessions_are = is.sessions_are;
  lanes_are = is.lanes_are;
  found = is.found;
  is = is.is;
  past_is = ap (λ (t : TokenView). t.past) is.logs.token;
}

-- ---- its parts

-- the ring begins with the end that was found
first_is : (now : List ModelUnit) (p : Parts) (is : IsOpening now p) → (ring_key p.works.frames.ring).first ≡ is.found.end
first_is now p is = is.works.frames.key.begins

begun_is : (now : List ModelUnit) (p : Parts) (is : IsOpening now p) → IsFirstPast (opened_past p.shape (drive_before p.handed) now is.found) is.found
begun_is now p is = opened_first p.shape (drive_before p.handed) now is.found is.opens.accepted is.opens.fit is.is is.opens.armed

pub unused : (now : List ModelUnit) (p : Parts) → IsOpening now p → AreUnused p.works
unused now p is = record {
  shape = p.shape;
  found = is.found;
  sessions = p.sessions;
  works = is.works;
  empty = window_empty (opened_past p.shape (drive_before p.handed) now is.found) is.found (begun_is now p is) p.works.core is.works.core
      (ring_key p.works.frames.ring) (first_is now p is);
}

-- ---- for the mount that names it

-- what is left of the parts once the units have their authors
abbrev pub of_parts : Parts → Beginning
of_parts p = record {
  shape = p.shape;
  sessions = p.sessions;
  lanes = p.lanes;
  chronicle = p.logs.chronicle;
  token = p.logs.token;
  rooms = p.rooms;
  works = p.works;
}

module _ (now : List ModelUnit) (worn : List (List ℕ)) (p : Parts) (is : IsOpening now p) (many : length worn ≡ length now) where
  abbrev old : List ModelUnit
  old = drive_before p.handed

  abbrev key : Key
  key = ring_key p.works.frames.ring

  abbrev past : Past
  past = opened_past p.shape (drive_before p.handed) now is.found

  begun : IsFirstPast past is.found
  begun = begun_is now p is

  fits : IsFitFound p.shape is.found
  fits = opened_fit p.shape old now is.found is.opens.accepted is.opens.fit is.is

  ring_for : IsRingFor past.image key
  ring_for = record {
    accepted = is.opens.accepted;
    fit = begun.legal.fit;
    size = is.works.frames.key.size;
    reserve = is.works.frames.key.reserve;
    sector = ap (λ r. r.size) is.works.frames.key.own ∙ is.works.frames.key.sector;
    capacity = is.works.frames.key.capacity;
  }

  as_many : length worn ≡ length old
  as_many = many ∙ (fit_kept p.shape old now is.opens.fit is.is.units.kept).count ∙ sym is.opens.fit.count

  mounted_here : IsMounted past key old worn
  mounted_here = is_mounted past is.found key old worn begun is.opens.fit refl is.opens.armed as_many ring_for (first_is now p is)

  beginning_here : IsBeginning p.logs.chronicle past p.works.frames.ring.table.shared.table_id key old worn (of_parts p)
  beginning_here = record {
    mounted = mounted_here;
    early = first_early past is.found begun;
    found = is.found;
    begun = begun;
    shape = refl;
    its_chronicle = refl;
    token = is.logs.token;
    its_ring = (refl, refl);
    low = subst (λ (n : ℕ). n ≤ 2 ^ 62) (sym (first_is now p is)) fits.end;
    works = is.works;
    rooms = is.rooms;
    few = is.few;
    few_lanes = is.few_lanes;
  }

  module _ (chronicle : TableId) (the_past : Past) (ring : TableId) (the_key : Key) (handed : List ModelUnit) (wear : List (List ℕ))
      (named : Names chronicle the_past ring the_key handed wear (opened_view now worn p)) where
    its_past : past ≡ the_past
    its_past = sym (ap (λ (t : TokenView). t.past) is.logs.token) ∙ named.its_past

    pub mounted : IsMounted the_past the_key handed wear
    mounted =
        subst (λ (q : Past). IsMounted q the_key handed wear) its_past
        (subst (λ (k : Key). IsMounted past k handed wear) named.its_key
        (subst (λ (us : List ModelUnit). IsMounted past key us wear) named.its_units
        (subst (λ (ws : List (List ℕ)). IsMounted past key old ws) named.its_wear mounted_here)))

    pub handed_units : AreHandedUnits the_past handed wear now worn
    handed_units =
        subst (λ (q : Past). AreHandedUnits q handed wear now worn) its_past
        (subst (λ (us : List ModelUnit). AreHandedUnits past us wear now worn) named.its_units
        (record {
          wear_is = named.its_wear;
          each = opened_units p.shape old now is.found is.opens.accepted is.opens.fit is.is is.opens.armed;
        }))

    pub count_is : length now ≡ units the_past.image.shape
    count_is = (fit_kept p.shape old now is.opens.fit is.is.units.kept).count ∙ ap (λ (q : Past). units q.image.shape) its_past

    pub authors_are : p.logs.authors.items ≡ map (first_author chronicle the_past) (range_with_len 0 (length now + 1))
    authors_are =
        is.logs.authors
        ∙ ap (λ (t : TableId). map (first_author t past) (range_with_len 0 (units p.shape + 1))) named.its_chronicle
        ∙ ap (λ (q : Past). map (first_author chronicle q) (range_with_len 0 (units p.shape + 1))) its_past
        ∙ ap (λ n. map (first_author chronicle the_past) (range_with_len 0 (n + 1)))
        (sym (fit_kept p.shape old now is.opens.fit is.is.units.kept).count)

    pub early : AreEarly (logs_of the_past.logs)
    early = subst (λ (q : Past). AreEarly (logs_of q.logs)) its_past (first_early past is.found begun)

    pub beginning : IsBeginning chronicle the_past ring the_key handed wear (of_parts p)
    beginning =
        subst (λ (t : TableId). IsBeginning t the_past ring the_key handed wear (of_parts p)) named.its_chronicle
        (subst (λ (q : Past). IsBeginning p.logs.chronicle q ring the_key handed wear (of_parts p)) its_past
        (subst (λ (t : TableId). IsBeginning p.logs.chronicle past t the_key handed wear (of_parts p)) named.its_ring
        (subst (λ (k : Key). IsBeginning p.logs.chronicle past p.works.frames.ring.table.shared.table_id k handed wear (of_parts p)) named.its_key
        (subst (λ (us : List ModelUnit). IsBeginning p.logs.chronicle past p.works.frames.ring.table.shared.table_id key us wear (of_parts p)) named.its_units
        (subst (λ (ws : List (List ℕ)). IsBeginning p.logs.chronicle past p.works.frames.ring.table.shared.table_id key old ws (of_parts p)) named.its_wear
        beginning_here)))))
