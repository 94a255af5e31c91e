-- The place of a sector's block on the drive, as a core tells it.
use Rattle.std.proofs.Common.{◌≡◌, ℕ, ◌*◌, ◌^◌, ◌<◌, Some, length, sym, subst, ap, ◌∙◌, zero-add}
use Rattle.std.specs.Prelude.{slice_get}
use Rattle.std.specs.List.{range_with_len}
use Rattle.std.specs.Option.{option_map}
use Rattle.std.proofs.lemmas.Option.{same_Some, slice_get_within, slice_get-map}
use Rattle.pblk_model.specs.declared.shape.Shape.{Shape}
use Rattle.pblk_model.specs.Image.{Image}
use Rattle.pblk_model.specs.LineOrder.{line_order}
use Rattle.pblk_model.specs.Shape.{units}
use Rattle.pblk_model.proofs.Maps.{range_get}
use Rattle.pblk_layout.specs.Online.{units_in}
use Rattle.pblk_world.specs.LegalMounts.{IsLegalMount}
use Rattle.pblk_world.specs.World.{World, log_of}
use Rattle.core_laws.specs.OpenedLines.{online_now}
use Rattle.step_laws.specs.SlotBlocks.{IsBlockOfSlot}
use Rattle.step_laws.proofs.LiveUnits.{live_small}
use Rattle.pblk_core.specs.Stands.{Stands}
use Rattle.pblk_core.specs.declared.target_core.Core.{Core}
use Rattle.pblk_engine.specs.Fetches.{IsReadableAt}

module _ (i : Image) (w : World) (c : Core) (lba line at q : ℕ) (mount : IsLegalMount i w) (st : Stands i (log_of w) c)
    (is : IsBlockOfSlot i (log_of w) lba line at q) where
  pub here : slice_get c.online.items line ≡ Some (online_now i (log_of w) line)
  here =
      ap (λ xs. slice_get xs line) st.units ∙ slice_get-map (online_now i (log_of w)) (range_with_len 0 i.shape.chunks) line
      ∙ ap (option_map (online_now i (log_of w))) (range_get 0 i.shape.chunks line is.in_range ∙ ap (λ n. Some n) (zero-add line))

  its_live : (live : ℕ) → slice_get c.online.items line ≡ Some live → online_now i (log_of w) line ≡ live
  its_live live there = same_Some (online_now i (log_of w) line) live (sym here ∙ there)

  pub line_inside : line < length c.online.items
  line_inside = slice_get_within c.online.items line (online_now i (log_of w) line) here

  pub line_live : (live : ℕ) → slice_get c.online.items line ≡ Some live → live < 2 ^ units c.layout
  line_live live there =
      subst (λ (s : Shape). live < 2 ^ units s) (sym st.layout)
      (subst (λ n. n < 2 ^ units i.shape) (its_live live there) (live_small i w line mount))

  pub at_inside : (live : ℕ) → slice_get c.online.items line ≡ Some live → at < length (units_in live) * c.layout.clba
  at_inside live there =
      subst (λ (s : Shape). at < length (units_in live) * s.clba) (sym st.layout)
      (subst (λ n. at < length (units_in n) * i.shape.clba) (its_live live there) is.within)

  -- what the core names as its place is that
  pub its_place : (r : ℕ × ℕ) → slice_get (line_order c.layout (units_in (online_now i (log_of w) line))) at ≡ Some r → (is.unit, is.number) ≡ r
  its_place r named = same_Some (is.unit, is.number) r
      (sym is.place ∙ subst (λ (s : Shape). slice_get (line_order s (units_in (online_now i (log_of w) line))) at ≡ Some r) st.layout named)

  -- and the block there can be read
  pub can_be_read : IsReadableAt i (log_of w) is.unit line is.number
  can_be_read = record { chunk = is.chunk; there = is.there; readable = is.readable; block = is.block; written = is.written }
