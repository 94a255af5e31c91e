-- What the notes of lines and the chunks to be reset ask of a stripe that has landed.
use Rattle.std.proofs.Common.{◌≡◌, ℕ, ◌≤◌, ◌^◌, ◌<◌, true, Some, length, take, arith, sym, subst, ap, ◌∙◌}
use Rattle.std.specs.Prelude.{◌↔◌, Bool, IsTrue, slice_get}
use Rattle.std.proofs.lemmas.List.FromFn.{length-map-range_with_len}
use Rattle.pblk_model.specs.Image.{Image}
use Rattle.pblk_world.specs.EngineLog.{is_opened, life_of, Opened}
use Rattle.pblk_world.specs.World.{World, log_of}
use Rattle.stripe_placer.specs.declared.placement.StripeKind.TheVariants as kinds
use Rattle.stripe_placer.specs.Placing.{Program}
use Rattle.core_laws.specs.OpenedLines.{online_now}
use Rattle.pblk_world.specs.LegalMounts.{IsLegalMount}
use Rattle.core_laws.proofs.HeldInWorlds.{own_in_window}
use Rattle.pblk_model.proofs.Parts.{get_whole}
use Rattle.pblk_world.specs.Fronts.{taken}
use Rattle.pblk_core.specs.declared.line_notes.LineNote.{LineNote}
use Rattle.pblk_core.specs.declared.target_core.Core.{Core}
use Rattle.pblk_core.specs.LineNotes.{IsNoteOf}
use Rattle.pblk_core.specs.Resets.{HasNoneOf, resets_left}
use Rattle.pblk_core.specs.Stands.{Stands}
use Rattle.pblk_core.proofs.KeptResets.{opened_kept}
use Rattle.pblk_core.proofs.LandedNotes.{start_left}
use Rattle.pblk_core.proofs.LandedCore.{holds_it}
use Rattle.pblk_core.proofs.LandedWay.{IsOnWay, line_of_way}
use Rattle.pblk_core.proofs.SmallPositions.{taken_bounded}
use Rattle.pblk_core.proofs.LeftOut.{left_out}
use Rattle.pblk_core.proofs.StartKinds.{is_start}

module _ (i : Image) (w : World) (c : Core) (unit : ℕ) (of : Program) (mount : IsLegalMount i w) (st : Stands i (log_of w) c) (is : IsOnWay i w unit of) where
  inside : of.line < i.shape.chunks
  inside = subst (λ n. n < i.shape.chunks) (line_of_way i w unit of is) is.line_is.well.in_range

  is_open : life_of (log_of w 0) of.line ≡ Opened is.row.opening
  is_open = ap (life_of (log_of w 0)) (sym (line_of_way i w unit of is) ∙ is.its_line) ∙ is.stands

  pub line_noted : of.line < length c.notes.rows.items
  line_noted = subst (λ n. of.line < n) (sym st.notes.count) inside

  pub line_live : of.line < length c.online.items
  line_live = subst (λ n. of.line < n)
      (sym (ap length st.units ∙ length-map-range_with_len (online_now i (log_of w)) 0 i.shape.chunks)) inside

  pub line_in_use : of.line < length c.resets.used
  line_in_use = subst (λ n. of.line < n) (sym st.used_lines) inside

  pub none_to_reset : HasNoneOf of.line (resets_left c.resets)
  none_to_reset = subst (HasNoneOf of.line) (sym st.resets)
      (left_out i (log_of w) of.line (opened_kept (log_of w 0) of.line (ap is_opened is_open)))

  pub some_starts : (start : Bool) → IsTrue start ↔ (of.kind ≡ kinds.Start) → (row : LineNote) → slice_get c.notes.rows.items of.line ≡ Some row
      → start ≡ true → 0 < row.starts_left
  some_starts start tells row there first =
      let was : IsNoteOf i (log_of w) is.row.opening row = st.notes.opened of.line is.row.opening row is_open there in
      subst (λ n. 0 < n) (sym was.starts_left)
      (start_left i.shape (log_of w) unit is.row.stripe is.row.opening is.among.0 is.row.waits is.among.1
      (sym (is_start i w unit of mount is start tells) ∙ first))

  -- the positions that it holds are small
  pub positions_small : (k q : ℕ) → slice_get of.positions k ≡ Some q → q < 2 ^ 63
  positions_small k q at =
      let own = own_in_window i w unit is.row.stripe q mount is.row.waits (holds_it i w unit of k q is at) in
      let most : taken (log_of w 0) ≤ 2 ^ 62 = taken_bounded i w mount (subst (λ n. n ≤ 2 ^ 62) st.first st.fits.first) in
      omega (arith, own.1)

  -- also the first ones of them
  pub first_small : (n k q : ℕ) → slice_get (take n of.positions) k ≡ Some q → q < 2 ^ 63
  first_small n k q at = positions_small k q (get_whole n of.positions k q at)
