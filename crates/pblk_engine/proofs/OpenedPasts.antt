-- What the units of a drive do while it is opened is the past of a mount.
use Rattle.std.proofs.Common.{◌≡◌, ◌⊎◌, inl, inr, ℕ, ◌+◌, ◌<◌, ◌≤◌, suc, Some, List, [], length, map, sym, subst, ap, ◌∙◌, arith}
use Rattle.std.specs.Prelude.{slice_get}
use Rattle.std.specs.List.{range_with_len}
use Rattle.std.specs.Option.{option_map}
use Rattle.std.proofs.lemmas.Bool.{cases_lt}
use Rattle.std.proofs.lemmas.List.{get_or_past}
use Rattle.std.proofs.lemmas.List.FromFn.{get_or-map-range_with_len, length-map-range_with_len}
use Rattle.std.proofs.lemmas.Option.{slice_get-map}
use Rattle.pblk_model.specs.declared.found.Found.{Found}
use Rattle.pblk_model.specs.declared.shape.Shape.{Shape}
use Rattle.pblk_model.specs.Accepted.{IsAccepted}
use Rattle.pblk_model.specs.Found.{IsFitFound}
use Rattle.pblk_model.specs.Image.{Image}
use Rattle.pblk_model.specs.Shape.{units}
use Rattle.pblk_model.proofs.Numbers.{fun_same}
use Rattle.pblk_world.specs.Events.{Begin}
use Rattle.pblk_world.specs.Legal.{IsLegal}
use Rattle.pblk_world.specs.LegalMounts.{IsLegalMount}
use Rattle.pblk_world.specs.Opening.{MayBegin}
use Rattle.pblk_world.specs.World.{World, Logs, log_of, media}
use Rattle.world_laws.specs.Finding.{IsFoundOf, NoneOpen}
use Rattle.world_laws.specs.MountBeginnings.{beginning_of}
use Rattle.world_laws.proofs.FoundFits.{found_fits}
use Rattle.world_laws.proofs.MayBegin.{may_begin}
use Rattle.step_laws.specs.Opened.{AreArmed, IsArmed, after_units, new_events}
use Rattle.step_laws.proofs.Beginning.{mount_begins}
use Rattle.step_laws.proofs.EngineSteps.{engine_logs}
use Rattle.step_laws.proofs.Worlds.{legal_mount, logs_are, media_are, stops_there, units_quiet}
use Rattle.core_laws.proofs.NextWorlds.{none_beyond}
use Rattle.scan_recovery.specs.Readying.{IsFoundAfter}
use Rattle.scan_recovery.specs.Units.{AreFit, IsUnitOf, image_of}
use Rattle.scan_recovery.proofs.PadLoops.{fit_image, fit_kept}
use Rattle.unit_port.specs.Armed.{Armed, IsUnarmed}
use Rattle.unit_port.specs.Commands.{IsKept}
use Rattle.unit_port.specs.Unit.{ModelUnit}
use Rattle.write_ring.specs.declared.view.Key.{Key}
use Rattle.chronicle.specs.Prefixes.{AreOpeningLogs, logs_of}
use Rattle.chronicle.specs.Views.{Past}
use Rattle.pblk_engine.specs.Arms.{IsArm}
use Rattle.pblk_engine.specs.Beginnings.{IsFirstPast, opened_past, opened_world}
use Rattle.pblk_engine.specs.Hearts.{IsRingFor}
use Rattle.pblk_engine.specs.Mounts.{IsMounted}
use Rattle.pblk_engine.proofs.ArmLogs.{arm_stays}
use Rattle.pblk_engine.proofs.OpeningMakers.{opening_alone, opening_numbered}
use Rattle.pblk_engine.proofs.Beginnings.{first_begun, first_legal}

-- the logs of a legal world, one for each author
pub all_logs : (i : Image) (w : World) → IsLegal i w → logs_of (map (λ author. log_of w author) (range_with_len 0 (units i.shape + 1))) ≡ log_of w
all_logs i w legal = fun_same (logs_of (map (λ author. log_of w author) (range_with_len 0 (units i.shape + 1)))) (log_of w)
    (λ author. go author (cases_lt author (units i.shape + 1)))
  where
    go : (author : ℕ) → (author < units i.shape + 1) ⊎ (units i.shape + 1 ≤ author)
        → logs_of (map (λ a. log_of w a) (range_with_len 0 (units i.shape + 1))) author ≡ log_of w author
    go author (inl within) = get_or-map-range_with_len (log_of w) 0 (units i.shape + 1) author author [] within (omega arith)
    go author (inr past) =
        get_or_past (map (λ a. log_of w a) (range_with_len 0 (units i.shape + 1))) author []
        (let long : length (map (λ a. log_of w a) (range_with_len 0 (units i.shape + 1))) ≡ units i.shape + 1 =
        length-map-range_with_len (log_of w) 0 (units i.shape + 1) in omega arith)
        ∙ sym (none_beyond i w legal author (omega arith))

-- a unit with more in its log is armed as it was
pub armed_still : (old new : ModelUnit) → new.armed ≡ old.armed → IsArmed old → IsUnarmed new.armed ⊎ (new.armed.since ≤ length old.log)
armed_still old new same = subst (λ (a : Armed). IsUnarmed a ⊎ (a.since ≤ length old.log)) (sym same)

module _ (s : Shape) (old new : List ModelUnit) (f : Found) (accepted : IsAccepted s) (fit : AreFit s old) (is : IsFoundAfter s old new f) where
  -- what was found fits the drive
  pub opened_fit : IsFitFound s f
  opened_fit = found_fits (image_of s new) f accepted (fit_image s new (fit_kept s old new fit is.units.kept)) is.found_is

  module _ (armed : AreArmed old) where
    abbrev before : World
    before = after_units s 0 [] (new_events old new)

    legal_before : IsLegalMount (image_of s old) before
    legal_before = legal_mount s old new accepted fit armed is.units.readied

    none_before : log_of before 0 ≡ []
    none_before = units_quiet s 0 [] (new_events old new)

    media_before : media (image_of s old) (log_of before) ≡ image_of s new
    media_before = media_are s old new is.units.readied fit

    closed_before : NoneOpen (media (image_of s old) (log_of before))
    closed_before = subst NoneOpen (sym media_before) is.closed

    found_before : IsFoundOf (media (image_of s old) (log_of before)) f
    found_before = subst (λ (j : Image). IsFoundOf j f) (sym media_before) is.found_is

    begins : MayBegin (image_of s old) (log_of before) (beginning_of f)
    begins = may_begin (image_of s old) (log_of before) f none_before closed_before found_before

    legal_opened : IsLegalMount (image_of s old) (opened_world s old new f)
    legal_opened = mount_begins (image_of s old) before (beginning_of f) legal_before begins

    logs_opened : logs_of (opened_past s old new f).logs ≡ log_of (opened_world s old new f)
    logs_opened = all_logs (image_of s old) (opened_world s old new f) legal_opened.legal

    pub opened_first : IsFirstPast (opened_past s old new f) f
    opened_first = record {
      before = before;
      legal = legal_before;
      nothing = none_before;
      closed = closed_before;
      found = found_before;
      authors = length-map-range_with_len (log_of (opened_world s old new f)) 0 (units s + 1);
      logs = logs_opened;
    }

    -- a chronicle may begin with it
    pub opening_logs : AreOpeningLogs (image_of s old) (opened_past s old new f).logs
    opening_logs = record {
      authors = length-map-range_with_len (log_of (opened_world s old new f)) 0 (units s + 1);
      world = opened_world s old new f;
      legal = legal_opened.legal;
      logs = sym logs_opened;
      makers = opening_numbered s old new f;
      none = opening_alone s old new f;
    }

    -- and each unit is as it leaves it
    pub opened_units : (number : ℕ) (u : ModelUnit) → slice_get new number ≡ Some u
        → (was : ModelUnit) × (slice_get old number ≡ Some was) × IsArm (image_of s old) (logs_of (opened_past s old new f).logs) number was u
    opened_units number u there =
        let of : IsUnitOf s u = (fit_kept s old new fit is.units.kept).each number u there in
        let was : (o : ModelUnit) × (slice_get old number ≡ Some o) × IsKept o u = is.units.kept.each number u there in (
          was.0,
          was.1,
          arm_stays (image_of s old) (log_of before) (logs_of (opened_past s old new f).logs) number was.0 u (own number) (record {
            shape = of.shape;
            media = ap (λ (j : Image). slice_get j.units number) media_before
                ∙ slice_get-map (λ (x : ModelUnit). x.media) new number ∙ ap (option_map (λ (x : ModelUnit). x.media)) there;
            fit = of.fits;
            log = logs_are s old new is.units.readied number was.0 u was.1 there;
            arms = was.2.armed;
            armed = armed_still was.0 u was.2.armed (armed number was.0 was.1);
            stopped = stops_there s old new accepted fit armed is.units.readied number u there;
          }),
        )
      where
        own : (number : ℕ) → logs_of (opened_past s old new f).logs (suc number) ≡ log_of before (suc number)
        own number = ap (λ (logs : Logs). logs (suc number)) logs_opened
            ∙ ap (λ (logs : Logs). logs (suc number)) (engine_logs s (Begin (beginning_of f)) before)

-- ---- a mount

pub is_mounted : (past : Past) (f : Found) (key : Key) (handed : List ModelUnit) (wear : List (List ℕ)) → IsFirstPast past f
    → AreFit past.image.shape handed → past.image ≡ image_of past.image.shape handed → AreArmed handed → length wear ≡ length handed
    → IsRingFor past.image key → key.first ≡ f.end → IsMounted past key handed wear
is_mounted past f key handed wear is fit image armed worn ring first = record {
  accepted = ring.accepted;
  fit = ring.fit;
  legal = first_legal past f is;
  beginning = _;
  has_begun = first_begun past f is;
  units = fit;
  image = image;
  armed = armed;
  worn = worn;
  first = first;
  size = ring.size;
  reserve = ring.reserve;
  sector = ring.sector;
  capacity = ring.capacity;
}
