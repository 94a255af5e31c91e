-- What a core that stands keeps of a stripe whose program is under way.
use Rattle.std.proofs.Common.{◌≡◌, ◌≢◌, ℕ, ◌+◌, ◌^◌, ◌<◌, ◌≤◌, true, false, Some, List, length, sym, subst, subst₂, ap, ◌∙◌}
use Rattle.std.specs.Prelude.{slice_get, slice_set}
use Rattle.std.specs.FinMap as fin
use Rattle.std.proofs.lemmas.Option.{slice_get_within}
use Rattle.pblk_model.specs.declared.shape.Shape.{Shape}
use Rattle.pblk_model.specs.Shape.{units}
use Rattle.pblk_model.specs.Image.{Image}
use Rattle.pblk_layout.specs.Online.{units_in}
use Rattle.pblk_world.specs.World.{World, log_of}
use Rattle.l2p_map.specs.declared.slot.Slot.TheVariants.{Media}
use Rattle.line_table.specs.declared.row.Row.{Row}
use Rattle.stripe_placer.specs.declared.placement.Placement.{Placement}
use Rattle.stripe_placer.specs.Placing.{Placing, Program, UnitRow, positions_in, program}
use Rattle.stripe_placer.specs.Placing.UnitRow.{Idle, UnderWay}
use Rattle.pblk_world.specs.LegalMounts.{IsLegalMount}
use Rattle.core_laws.specs.ClosedLines.{closed_line}
use Rattle.core_laws.proofs.ClosedLanded.{waiting_unclosed}
use Rattle.pblk_model.proofs.Parts.{get_set_other, get_set_same}
use Rattle.pblk_core.specs.Answering.{IsLineOf, IsPlaceOn}
use Rattle.pblk_core.specs.Collecting.{HasEachLine}
use Rattle.pblk_core.specs.Readable.{ReadBlock, all_moved}
use Rattle.pblk_core.specs.Stands.{IsStanding, Stands}
use Rattle.pblk_core.specs.declared.line_notes.LineNote.{LineNote}
use Rattle.pblk_core.specs.declared.open_lines.OpenLine.{OpenLine}
use Rattle.pblk_core.specs.declared.target_core.Core.{Core}
use Rattle.pblk_core.proofs.BarrenLines.{IsUnclosed, unclosed_by_logs}
use Rattle.pblk_core.proofs.LandedConditions.{line_noted}
use Rattle.pblk_core.proofs.LandedCore.{IsGot, IsOfCore, block_within, got_line, its_row, line_within, live_few, of_core, told_under_way}
use Rattle.pblk_core.proofs.LandedMap.{from_elsewhere}
use Rattle.pblk_core.proofs.LandedWay.{line_of_way}
use Rattle.pblk_core.proofs.StandsFacts.{ring_some}
use Rattle.pblk_core.proofs.TabledLines.{each_line}

module _ {core : Core} {unit : ℕ} {at : Placement} (sd : IsStanding core) (is : IsPlaceOn core unit at) where
  abbrev of : Program
  of = program core.placer at

  -- by the logs of any mount for which it stands
  pub its_core : (i : Image) (w : World) → IsLegalMount i w → Stands i (log_of w) core → IsOfCore i w core unit (program core.placer at)
  its_core i w mount st = of_core i w core unit of mount st is.row

  pub its : IsOfCore sd.image sd.world core unit (program core.placer at)
  its = its_core sd.image sd.world sd.legal sd.stands

  pub its_slot : (k : ℕ) (slot : OpenLine) → IsLineOf core.open at.line k slot → IsGot sd.image sd.world core unit (program core.placer at) k slot its
  its_slot k slot found = got_line sd.image sd.world core unit of k slot sd.stands its found

  -- ---- its unit

  pub here : slice_get core.placer.units at.unit ≡ Some (UnderWay (program core.placer at))
  here = ap (slice_get core.placer.units) is.its_unit ∙ is.row

  pub unit_within : at.unit < units core.placer.shape
  unit_within = subst (λ s. at.unit < units s) (sym (ap (λ (p : Placing). p.shape) sd.stands.placing))
      (subst (λ u. u < units sd.image.shape) (sym is.its_unit) its.is.row.inside)

  -- the positions that the placer tells
  pub positions_told : (told : List ℕ) → ((row : UnitRow) → slice_get core.placer.units at.unit ≡ Some row → told ≡ positions_in row)
      → told ≡ Program.positions (program core.placer at)
  positions_told told tells = told_under_way core.placer unit at.unit of told is.its_unit is.row tells

  inside : at.unit < length core.placer.units
  inside = slice_get_within core.placer.units at.unit (UnderWay of) here

  -- once it is answered
  pub idle_now : (now : List UnitRow) → now ≡ slice_set core.placer.units at.unit Idle → slice_get now unit ≡ Some Idle
  idle_now now is_now = ap (λ rows. slice_get rows unit) is_now ∙ ap (slice_get (slice_set core.placer.units at.unit Idle)) (sym is.its_unit)
      ∙ get_set_same core.placer.units at.unit Idle inside

  pub beside_now : (now : List UnitRow) → now ≡ slice_set core.placer.units at.unit Idle → (other : ℕ) → other ≢ unit
      → slice_get now other ≡ slice_get core.placer.units other
  beside_now now is_now other apart =
      ap (λ rows. slice_get rows other) is_now ∙ get_set_other core.placer.units at.unit other Idle (λ same. apart (same ∙ is.its_unit))

  -- ---- its line

  pub line_in : at.line < length core.lines.rows
  line_in = subst (λ n. n < length core.lines.rows) (line_of_way sd.image sd.world unit of its.is) (line_within sd.image sd.world core unit of sd.stands its.is)

  pub line_is_noted : at.line < length core.notes.rows.items
  line_is_noted = line_noted sd.image sd.world core unit of sd.legal sd.stands its.is

  pub some_rows : 0 < length core.holds.rows.items
  some_rows = subst (λ n. 0 < n) (sym sd.stands.holds.room) (ring_some sd.image.shape sd.legal.accepted)

  pub each_was : HasEachLine core
  each_was = each_line sd.image sd.world (log_of sd.world) sd.legal sd.stands

  pub chunk_ends : at.block + core.layout.ws_opt ≤ core.layout.clba
  chunk_ends = subst (λ (s : Shape). at.block + s.ws_opt ≤ s.clba) (sym sd.stands.layout) (block_within sd.image sd.world unit of sd.legal its.is)

  -- its units, as its slot has them
  pub few_units : (k live : ℕ) (slot : OpenLine) → IsLineOf core.open at.line k slot → live ≡ slot.online → live < 2 ^ units core.layout
  few_units k live slot found same =
      subst₂ (λ n s. n < 2 ^ units s) (sym (same ∙ ap (λ (l : OpenLine). l.online) (its_slot k slot found).slot)) (sym sd.stands.layout)
      (live_few sd.image sd.world core unit of sd.legal its.is its.has)

  pub row_of_it : (k live : ℕ) (slot : OpenLine) → IsLineOf core.open at.line k slot → live ≡ slot.online
      → (row : Row) × (slice_get core.lines.rows at.line ≡ Some row) × (length (units_in live) ≡ row.width)
  row_of_it k live slot found same =
      its_row sd.image sd.world core unit of live sd.stands its (same ∙ ap (λ (l : OpenLine). l.online) (its_slot k slot found).slot)

  -- it isn't closed
  pub unclosed : IsUnclosed core at.line
  unclosed =
      unclosed_by_logs sd.image sd.world core at.line sd.stands
      (ap (closed_line sd.image (log_of sd.world)) (sym (line_of_way sd.image sd.world unit of its.is) ∙ its.is.its_line)
      ∙ waiting_unclosed sd.image sd.world unit its.is.row.stripe its.is.row.opening sd.legal its.is.row.waits its.is.row.life its.is.stands)

  -- so what is on the drive in a line that is closed was there before blocks of its line could be
  -- read
  pub was_there : (k : ℕ) (slot : OpenLine) (m : _) (bs : List ReadBlock) → IsLineOf core.open at.line k slot
      → m ≡ all_moved core.layout.capacity slot.records.line core.map bs → (lba line address position : ℕ) (note : LineNote)
      → slice_get core.notes.rows.items line ≡ Some note → note.closed ≡ true → fin.get m lba ≡ Some (Media line address position)
      → fin.get core.map lba ≡ Some (Media line address position)
  was_there k slot m bs found moves lba line address position note there closed named =
      from_elsewhere core.layout.capacity slot.records.line line lba address position bs core.map
      (λ same. let wrong : true ≡ false =
      sym closed ∙ unclosed note (ap (slice_get core.notes.rows.items) (sym (same ∙ found.its_line)) ∙ there) in absurd cc)
      (ap (λ m. fin.get m lba) (sym moves) ∙ named)
