-- A mount that has begun on the units of a drive: what its logs begin with, and what it found.
use Rattle.std.proofs.Common.{◌≡◌, ◌⊎◌, inl, inr, ℕ, zero, suc, ◌<◌, ◌≤◌, false, Some, List, [], ◌∷◌, drop, length, sym, subst, ap, ◌∙◌, arith}
use Rattle.std.specs.Prelude.{slice_get}
use Rattle.std.specs.List.{AllByRecursion, cons_option, filter_map}
use Rattle.std.proofs.Math.Seq.{drop-append_seam}
use Rattle.std.proofs.lemmas.Bool.{cases_lt}
use Rattle.std.proofs.lemmas.Option.{none-some, same_Some}
use mathlib.Core.List.{IsPrefix}
use Rattle.pblk_model.specs.declared.found.Found.{Found}
use Rattle.pblk_model.specs.declared.shape.Shape.{Shape}
use Rattle.pblk_model.specs.Accepted.{IsAccepted}
use Rattle.pblk_model.specs.Image.{Image}
use Rattle.pblk_model.specs.Shape.{units}
use Rattle.pblk_model.specs.UnitLog.{UnitEvent}
use Rattle.pblk_model.proofs.Parts.{got_within}
use Rattle.pblk_world.specs.EngineLog.{Begun, begun}
use Rattle.pblk_world.specs.Events.{Begin, Decides, Does, Event, Logged, Maker}
use Rattle.pblk_world.specs.LegalMounts.{IsLegalMount}
use Rattle.pblk_world.specs.Lines.{found_image}
use Rattle.pblk_world.specs.Opening.{MayBegin}
use Rattle.pblk_world.specs.World.{Logs, World, log_of, media, unit_event_of, unit_events}
use Rattle.pblk_world.proofs.WorldLemmas.{log_elsewhere}
use Rattle.world_laws.specs.EarlyLogs as early
use Rattle.world_laws.specs.Finding.{IsFoundOf, NoneOpen}
use Rattle.world_laws.specs.MountBeginnings.{beginning_of}
use Rattle.world_laws.proofs.EarlierLogs.{begun_now, found_same, is_earlier}
use Rattle.world_laws.proofs.MayBegin.{may_begin}
use Rattle.core_laws.proofs.NextWorlds.{none_beyond}
use Rattle.step_laws.specs.Opened.{AreArmed, after_units, new_events}
use Rattle.step_laws.specs.Whole.{engine_step, knows_all}
use Rattle.step_laws.proofs.Beginning.{begun_is, found_is, mount_begins}
use Rattle.step_laws.proofs.Worlds.{legal_mount, media_are, units_quiet}
use Rattle.scan_recovery.specs.DriveFaults.{NoDriveFaults, is_drive_fault}
use Rattle.scan_recovery.specs.Readying.{IsFoundAfter}
use Rattle.scan_recovery.specs.Units.{AreFit, image_of}
use Rattle.unit_port.specs.Unit.{ModelUnit}
use Rattle.chronicle.specs.Prefixes.{logs_of}
use Rattle.chronicle.proofs.PrefixLemmas.{begins_take}
use Rattle.pblk_engine.specs.Beginnings.{opened_past, opened_world}
use Rattle.pblk_engine.proofs.OpenedPasts.{all_logs}
use Rattle.block_target.specs.Closes.{NoneLost}
use Rattle.block_target.proofs.Readied.{are_readied}

-- ---- a log without lost commands

abbrev AreKept : List Logged → Type 0
AreKept log = AllByRecursion (λ e. is_drive_fault e ≡ false) (filter_map (λ (l : Logged). unit_event_of l.event) log)

none_there : (log : List Logged) → AreKept log → (number : ℕ) (l : Logged) (e : UnitEvent) (maker : Maker) → slice_get log number ≡ Some l
    → l.event ≡ Does e maker → is_drive_fault e ≡ false
none_there [] kept number l e maker there is = absurd (none-some l there)
none_there (x ∷ log) kept zero l e maker there is = at_first.0
  where
    at_first : AllByRecursion (λ (d : UnitEvent). is_drive_fault d ≡ false)
        (cons_option (unit_event_of (Does e maker)) (filter_map (λ (m : Logged). unit_event_of m.event) log))
    at_first = subst (λ (event : Event). AllByRecursion (λ (d : UnitEvent). is_drive_fault d ≡ false)
        (cons_option (unit_event_of event) (filter_map (λ (m : Logged). unit_event_of m.event) log)))
        (ap (λ (m : Logged). m.event) (same_Some x l there) ∙ is) kept
none_there (x ∷ log) kept (suc number) l e maker there is = none_there log (by x.event kept) number l e maker there is
  where
    by : (event : Event) → AllByRecursion (λ (d : UnitEvent). is_drive_fault d ≡ false)
        (cons_option (unit_event_of event) (filter_map (λ (m : Logged). unit_event_of m.event) log)) → AreKept log
    by (Decides d) all = all
    by (Does d m) all = all.1

-- ---- an opening

module _ (s : Shape) (old new : List ModelUnit) (f : Found) (accepted : IsAccepted s) (fit : AreFit s old) (armed : AreArmed old)
    (is : IsFoundAfter s old new f) where
  abbrev i : Image
  i = image_of s old

  abbrev before : World
  before = after_units s 0 [] (new_events old new)

  abbrev first : World
  first = opened_world s old new f

  abbrev logs : Logs
  logs = logs_of (opened_past s old new f).logs

  abbrev pub beginning : Begun
  beginning = record { beginning = beginning_of f; knows = knows_all s before }

  legal_before : IsLegalMount i before
  legal_before = legal_mount s old new accepted fit armed is.units.readied

  none_before : log_of before 0 ≡ []
  none_before = units_quiet s 0 [] (new_events old new)

  media_before : media i (log_of before) ≡ image_of s new
  media_before = media_are s old new is.units.readied fit

  begins : MayBegin i (log_of before) (beginning_of f)
  begins = may_begin i (log_of before) f none_before (subst NoneOpen (sym media_before) is.closed)
      (subst (λ (j : Image). IsFoundOf j f) (sym media_before) is.found_is)

  legal_first : IsLegalMount i first
  legal_first = mount_begins i before (beginning_of f) legal_before begins

  logs_are : logs ≡ log_of first
  logs_are = all_logs i first legal_first.legal

  -- it found the drive as that was then
  pub found_opened : found_image (image_of s old) (logs_of (opened_past s old new f).logs) ≡ image_of s new
  found_opened = ap (found_image i) logs_are ∙ found_is i before (beginning_of f) legal_before.legal none_before ∙ media_before

  begun_first : begun (log_of first 0) ≡ Some beginning
  begun_first = begun_is s before (beginning_of f) none_before

  -- where no command was lost none is in its logs
  module _ (done : NoDriveFaults old new) where
    kept_by : (unit : ℕ) → (unit < length new) ⊎ (length new ≤ unit) → AreKept (log_of before (suc unit))
    kept_by unit (inl within) =
        let v = got_within new unit within in
        let was = (are_readied s old new accepted fit armed is.units).each unit v.0 v.1 in
        subst (AllByRecursion (λ (e : UnitEvent). is_drive_fault e ≡ false))
        (ap (drop (length was.0.log)) was.2.log ∙ drop-append_seam was.0.log (unit_events (log_of before) unit))
        (done unit was.0 v.0 was.1 v.1)
    kept_by unit (inr past) =
        let count : length new ≡ length old = is.units.kept.count in
        let many : length old ≡ units s = fit.count in
        subst AreKept (sym (none_beyond i before legal_before.legal (suc unit) (omega arith))) tt

    pub none_lost : NoneLost (logs_of (opened_past s old new f).logs)
    none_lost = λ unit number l e maker there.
        none_there (log_of before (suc unit)) (kept_by unit (cases_lt unit (length new))) number l e maker
        (ap (λ (log : List Logged). slice_get log number)
        (sym (ap (λ (l : Logs). l (suc unit)) logs_are
        ∙ log_elsewhere (engine_step s (Begin (beginning_of f)) before) before (suc unit) (λ same. absurd (omega arith)))) ∙ there)

  -- In a world that goes on from there the mount has begun still, and what it found is the same.
  module _ (w : World) (goes_on : (author : ℕ) → IsPrefix (logs_of (opened_past s old new f).logs author) (log_of w author)) where
    prefix : early.ArePrefixes w (log_of first)
    prefix author = (
      length (log_of first author),
      sym (begins_take (log_of first author) (log_of w author)
          (subst (λ (l : Logs). IsPrefix (l author) (log_of w author)) logs_are (goes_on author))),
    )

    pub begun_still : begun (log_of w 0) ≡ Some beginning
    begun_still = begun_now i first w beginning prefix begun_first

    pub found_still : found_image (image_of s old) (log_of w) ≡ found_image (image_of s old) (logs_of (opened_past s old new f).logs)
    found_still =
        found_same i w beginning first (is_earlier i first w beginning legal_first.legal prefix begun_first) begun_still
        ∙ sym (ap (found_image i) logs_are)
