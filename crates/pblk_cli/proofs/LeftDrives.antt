-- The drive that a run leaves.
use Rattle.std.proofs.Common.{◌≡◌, ℕ, zero, suc, ◌<◌, ◌≤◌, ◌⊎◌, List, [], ◌∷◌, length, map, take, Option, Some, refl, sym, subst, ap, ap₂, ◌∙◌, arith, inl, inr}
use Rattle.std.specs.Prelude.{slice_get}
use Rattle.std.specs.List.{AllByRecursion}
use Rattle.std.proofs.lemmas.Bool.{cases_order}
use Rattle.std.proofs.lemmas.List.{length-map, take-map}
use Rattle.std.proofs.lemmas.Option.{none-some, same_Some, slice_get_past}
use Rattle.atomic_table.specs.Seated.{TableId}
use Rattle.pblk_model.specs.declared.script.Command.{Command}
use Rattle.pblk_model.specs.declared.shape.Shape.{Shape}
use Rattle.pblk_model.specs.Chunk.{Chunk}
use Rattle.pblk_model.specs.Contents.{contents, end}
use Rattle.pblk_model.specs.History.{SectorWrite, after, tag_sector, users}
use Rattle.pblk_model.specs.Image.{Image}
use Rattle.pblk_model.specs.ImageFile.{image_of}
use Rattle.pblk_model.specs.Sealed.{IsSealed}
use Rattle.pblk_model.specs.Shape as shapes
use Rattle.pblk_model.specs.Text.{HistoryLine, Transcript, text_of}
use Rattle.pblk_model.specs.Transcript.{IsRun, sector_writes}
use Rattle.pblk_world.specs.World.{Logs, World, log_of, media}
use Rattle.pblk_world.specs.Fronts.{history, user_positions}
use Rattle.pblk_world.specs.LegalMounts.{IsLegalMount}
use Rattle.unit_port.specs.declared.armed.FaultPlan.{FaultPlan}
use Rattle.unit_port.specs.declared.armed.Fuse.{Fuse}
use Rattle.unit_port.specs.Unit.{ModelUnit}
use Rattle.scan_recovery.specs.Units.{log_length}
use Rattle.world_laws.proofs.SealedMedia.{media_sealed}
use Rattle.prefix_law.proofs.Prefix.{prefix_contents}
use Rattle.ocssd_drive.specs.Drive.{DriveView, HasWord, IsWhole, armed_units, fitting_fuse, shape_of, stored, with_units}
use Rattle.ocssd_drive.specs.Units.{IsUnitOf, WornUnit}
use Rattle.drive_image.specs.Quiet.{IsQuiet}
use Rattle.run_report.specs.Report.{transcript_of}
use Rattle.run_threads.specs.declared.records.Records.{Records}
use Rattle.step_laws.specs.Opened.{AreArmed}
use Rattle.command_words.specs.Grammar.{RunOptions, helpers_of}
use Rattle.pblk_cli.specs.declared.run.Telling.{Telling}
use Rattle.pblk_cli.specs.Commands.{IsWorldBetween}
use Rattle.pblk_cli.specs.Running.{IsRunTo, IsStored, said_by}
use Rattle.pblk_cli.specs.Serving.{IsLeftBy, IsRan, IsServing, transcript_by, units_of}
use Rattle.pblk_cli.specs.Status.{status_of_run}
use Rattle.pblk_cli.specs.Stops.{AreOutcomesBy}
use Rattle.pblk_cli.proofs.ArmedDrives.{are_armed, are_names, outcomes_by, stored_armed, unlogged_before, wear_armed, whole_before}
use Rattle.pblk_cli.proofs.HandedDrives.{media_mapped}
use Rattle.pblk_cli.proofs.StoredUnits.{image_units, same_numbers}
use Rattle.pblk_cli.proofs.TidyRuns.{complete}
use Rattle.pblk_cli.proofs.ToldLosses.{told_of_all}
use Rattle.pblk_model.proofs.Maps.{get_mapped}
use Rattle.pblk_model.proofs.Parts.{got_within, same_lists}
use Rattle.pblk_world.proofs.WorldLemmas.{length_media}

-- The units that a world leaves are those of its media.

units_media : (i : Image) (handed units : List ModelUnit) (logs : Logs) → length units ≡ length i.units
    → ((k : ℕ) (u : ModelUnit) → slice_get units k ≡ Some u → IsLeftBy i handed logs k u) → map (λ (u : ModelUnit). u.media) units ≡ (media i logs).units
units_media i handed units logs count each = same_lists (map (λ (u : ModelUnit). u.media) units) (media i logs).units (λ k. at k (cases_order k (length units)))
  where
    past : (k : ℕ) → length units ≤ k → slice_get (map (λ (u : ModelUnit). u.media) units) k ≡ slice_get (media i logs).units k
    past k high =
        slice_get_past (map (λ (u : ModelUnit). u.media) units) k (omega (arith, length-map units (λ (u : ModelUnit). u.media)))
        ∙ sym (slice_get_past (media i logs).units k (omega (arith, length_media i logs, count)))

    at : (k : ℕ) → (k ≡ length units) ⊎ ((k < length units) ⊎ (length units < k))
        → slice_get (map (λ (u : ModelUnit). u.media) units) k ≡ slice_get (media i logs).units k
    at k (inl e) = past k (omega arith)
    at k (inr (inl low)) =
        let u = got_within units k low in
        get_mapped (λ (x : ModelUnit). x.media) units k u.0 u.1 ∙ sym (each k u.0 u.1).media
    at k (inr (inr high)) = past k (omega arith)

shape_at : (s : Shape) (us : List WornUnit) → AllByRecursion (IsUnitOf s) us → (k : ℕ) (u : ModelUnit) → slice_get (units_of us) k ≡ Some u → u.shape ≡ s
shape_at s [] fit k u there = absurd (none-some u there)
shape_at s (x ∷ us) fit zero u there = ap (λ (y : ModelUnit). y.shape) (sym (same_Some x.unit u there)) ∙ fit.0.shape
shape_at s (x ∷ us) fit (suc k) u there = shape_at s us fit.1 k u there

-- The contents left.

kept_contents : (i : Image) (w : World) → IsLegalMount i w → IsSealed i → (t : Transcript) (size : ℕ)
    → t.kept ≡ users (user_positions (log_of w 0)) (end (media i (log_of w)))
    → history (log_of w 0) ≡ sector_writes size t.history → contents (media i (log_of w)) ≡ after (contents i) (sector_writes size (take t.kept t.history))
kept_contents i w mount sealed t size kept history_is =
    prefix_contents i w mount sealed
    ∙ ap₂ (λ n (ws : List SectorWrite). after (contents i) (take n ws)) (sym kept) history_is
    ∙ ap (after (contents i)) (take-map (λ (row : HistoryLine). record { lba = row.lba; sector = tag_sector size row.tag }) t.kept t.history)

-- The run.

-- A drive that was loaded, and armed by these options, and what a run left of it.
module _ (found : DriveView) (options : RunOptions) (word : Option TableId) (script : List (List Command)) (left : DriveView) (records : Records)
    (telling : Telling) (status : ℕ) (text bytes : List ℕ) (whole : IsWhole found) (quiet : IsQuiet found) where
  abbrev fuse : Option Fuse
  fuse = fitting_fuse (length found.units) options.stop

  abbrev armed : DriveView
  armed = with_units (armed_units options.plans (fitting_fuse (length found.units) options.stop) word found.units) found

  abbrev i : Image
  i = image_of (stored found)

  stored_same : stored armed ≡ stored found
  stored_same = ap (λ units. record {
    geometry = (stored found).geometry;
    sector = found.sector;
    capacity = found.capacity;
    ring = found.ring;
    units = units;
  }) (stored_armed options.plans fuse word found.units)

  unit_count : length i.units ≡ length found.units
  unit_count = ap (λ us. length us) (image_units found whole) ∙ length-map found.units (λ (u : WornUnit). u.unit.media)

  module _ (is : IsRan armed script (helpers_of options) left records) (made : IsStored left script records telling status text bytes) where
    abbrev w : World
    w = is.world

    serving : IsServing i (units_of armed.units) (units_of left.units) script (helpers_of options) records w
    serving = subst (λ d. IsServing (image_of d) (units_of armed.units) (units_of left.units) script (helpers_of options) records w) stored_same is.serving

    numbers_left : left ≡ with_units left.units found
    numbers_left = is.drive.numbers

    armed_count : length (units_of armed.units) ≡ length i.units
    armed_count = length-map armed.units (λ (u : WornUnit). u.unit) ∙ is.drive.was.count ∙ sym whole.count ∙ sym unit_count

    left_count : length (units_of left.units) ≡ length i.units
    left_count = length-map left.units (λ (u : WornUnit). u.unit) ∙ is.drive.whole.count
        ∙ ap (λ (d : DriveView). shapes.units (shape_of d)) numbers_left ∙ sym whole.count ∙ sym unit_count

    armed_shapes : (k : ℕ) (u : ModelUnit) → slice_get (units_of armed.units) k ≡ Some u → u.shape ≡ i.shape
    armed_shapes k u there = shape_at (shape_of armed) armed.units is.drive.was.fit k u there

    -- the image left
    left_is : image_of (stored left) ≡ media i (log_of w)
    left_is =
        ap₂ (λ (x : Shape) (us : List (List Chunk)). record { shape = x; units = us }) (ap shape_of numbers_left)
        (image_units left is.drive.whole ∙ sym (media_mapped left.units)
        ∙ units_media i (units_of armed.units) (units_of left.units) (log_of w) left_count serving.each)

    abbrev t : Transcript
    t = transcript_by script records i (log_of w)

    told_is : transcript_of script records (end (image_of (stored left))) ≡ t
    told_is = ap (λ (x : Image). transcript_of script records (end x)) left_is

    world_is : IsWorldBetween (stored found) (stored left) options script (transcript_by script records i (log_of w))
    world_is = record {
      world = w;
      legal = serving.legal;
      has_begun = serving.has_begun;
      media_are = left_is;
      history_is = serving.history_is;
      outcomes = subst (λ n. AreOutcomesBy i options.plans (fitting_fuse n options.stop) (log_of w)) (sym unit_count)
          (outcomes_by i options.plans fuse word found.units left.units (log_of w) quiet armed_count armed_shapes left_count serving.each is.by_arms);
      named = are_names i options.plans fuse word found.units left.units (log_of w) quiet armed_count armed_shapes left_count serving.each _
          serving.named;
      lost = told_of_all (log_length (units_of armed.units)) (length script) (helpers_of options) w _
          (unlogged_before i options.plans fuse word found.units left.units (log_of w) quiet armed_count armed_shapes left_count serving.each) serving.lost;
      worn = serving.worn;
      granted = serving.granted;
      begun = serving.begun;
      urgent = serving.urgent;
      after_resets = serving.after_resets;
      opened_full = serving.opened_full;
      none_was_left = serving.none_was_left;
      none_to_free = serving.none_to_free;
      flushed = serving.flushed;
      all_synced = serving.all_synced;
      over = serving.over;
    }

    relation_is : IsSealed (image_of (stored found))
        → IsRun found.sector script (contents i) (transcript_by script records i (log_of w)) (contents (image_of (stored left)))
    relation_is sealed =
        subst (IsRun found.sector script (contents i) t)
        (sym (ap contents left_is ∙ kept_contents i w serving.legal sealed t found.sector serving.kept serving.history_is))
        (serving.run sealed)

    pub run_to : IsRunTo (stored found) options script telling status text bytes
    unfolding world_is
    run_to = record {
      left = stored left;
      printed = text_of t;
      run = record {
        transcript = t;
        printed = refl;
        numbers = same_numbers found left whole is.drive.whole numbers_left (is.drive.wear ∙ wear_armed options.plans fuse word found.units);
        world = world_is;
        kept_is = serving.kept ∙ ap (λ (x : Image). users (user_positions (log_of w 0)) (end x)) (sym left_is);
        told = serving.told;
        relation = relation_is;
        sealed = λ sealed. subst IsSealed (sym left_is) (media_sealed i w serving.legal sealed);
        complete = complete (stored found) (stored left) options script t world_is relation_is serving.recorded.capacity
            serving.recorded.fits;
        spelled = made.spelled;
      };
      text_is = made.text_is ∙ ap (said_by telling script) told_is;
      status_is = made.status_is ∙ ap status_of_run told_is;
      bytes_are = made.bytes_are;
    }

-- The same of a drive by what arming tells of it.

abbrev IsArmedBy : DriveView → List FaultPlan → Option Fuse → DriveView → Type 0
IsArmedBy found plans stop set = (word : Option TableId) × HasWord (fitting_fuse (length found.units) stop) word
    × (set ≡ with_units (armed_units plans (fitting_fuse (length found.units) stop) word found.units) found)

pub armed_by : (found set : DriveView) (plans : List FaultPlan) (stop : Option Fuse) → IsQuiet found → IsArmedBy found plans stop set
    → AreArmed (units_of set.units)
armed_by found set plans stop quiet is =
    subst (λ (us : List WornUnit). AreArmed (units_of us)) (sym (ap (λ (d : DriveView). d.units) is.2))
    (are_armed plans (fitting_fuse (length found.units) stop) is.0 found.units quiet)

pub armed_run_to : (found set : DriveView) (options : RunOptions) (plans : List FaultPlan) (script : List (List Command)) (left : DriveView)
    (records : Records) (telling : Telling) (status : ℕ) (text bytes : List ℕ) → plans ≡ options.plans → IsQuiet found → IsArmedBy found plans options.stop set
    → IsRan set script (helpers_of options) left records → IsStored left script records telling status text bytes
    → IsRunTo (stored found) options script telling status text bytes
armed_run_to found set options plans script left records telling status text bytes named quiet is ran made =
    let fuse : Option Fuse = fitting_fuse (length found.units) options.stop in
    let armed_is : set ≡ with_units (armed_units options.plans fuse is.0 found.units) found =
    is.2 ∙ ap (λ ps. with_units (armed_units ps fuse is.0 found.units) found) named in
    let on_armed : IsRan (with_units (armed_units options.plans fuse is.0 found.units) found) script (helpers_of options) left records =
    subst (λ (d : DriveView). IsRan d script (helpers_of options) left records) armed_is ran in
    run_to found options is.0 script left records telling status text bytes (whole_before found options.plans fuse is.0 on_armed.drive.was) quiet on_armed made
