-- The blocks of a line, one after another.
use Rattle.std.proofs.Common.{◌≡◌, ℕ, ◌+◌, ◌-◌, ◌*◌, ◌<◌, ◌≤◌, List, [], ◌∷◌, ◌++◌, length, map, Option, Some, sym, ap, ◌∙◌, subst, arith}
use Rattle.std.specs.List.{AllByRecursion, range_with_len, slice_get}
use Rattle.std.proofs.lemmas.List.{length-map}
use Rattle.std.proofs.lemmas.List.FromFn.{map-range_with_len_more}
use Rattle.pblk_model.specs.declared.shape.Shape.{Shape}
use Rattle.pblk_model.specs.Accepted.{IsAccepted}
use Rattle.pblk_model.specs.Shape.{units}
use Rattle.pblk_model.specs.Chunk.{Block}
use Rattle.pblk_model.specs.LineOrder.{line_order, column_of, block_of}
use Rattle.pblk_model.specs.Image.{Image, line_units, width, block_at}
use Rattle.pblk_layout.specs.Online.{units_in}
use Rattle.pblk_laws.specs.LineBlocks.{written_at}
use Rattle.pblk_laws.proofs.LineUnits.{block_named, line_units_count, is_online_at, line_units_range}
use Rattle.pblk_laws.proofs.Widths.{width_within}
use Rattle.unit_port.specs.Unit.{ModelUnit}
use Rattle.scan_recovery.specs.Reading.{blocks_at}
use Rattle.scan_recovery.specs.Units.{image_of, AreFit}
use Rattle.scan_recovery.proofs.PadLoops.{fit_image}
use Rattle.pblk_model.proofs.Maps.{all_filter, all_in_range}
use Rattle.pblk_model.proofs.Options.{mapped_some}
use Rattle.pblk_model.proofs.Parts.{all_get}
use Rattle.pblk_model.proofs.AcceptedLemmas.{line_is_short}
use Rattle.pblk_model.proofs.OrderedBlocks.{order_block}

pub line_few : (s : Shape) (us : List ModelUnit) (line : ℕ) (online : List ℕ) → AreFit s us → online ≡ line_units (image_of s us) line → length online ≤ units s
line_few s us line online fit is =
    let few : width (image_of s us) line ≤ units s = width_within (image_of s us) line (fit_image s us fit) in
    let count : length online ≡ width (image_of s us) line = ap length is ∙ line_units_count (image_of s us) line in
    omega arith

pub line_short : (s : Shape) (us : List ModelUnit) (line : ℕ) (online : List ℕ) → IsAccepted s → AreFit s us → online ≡ line_units (image_of s us) line
    → (length online ≤ 64) × (length online * s.clba ≤ 65536)
line_short s us line online accepted fit is =
    let few = line_few s us line online fit is in
    let units = accepted.drive.few_units in
    (omega arith, line_is_short s (length online) accepted few)

-- what a layout of the shape gives
pub placed_by : (s t : Shape) (live bits at : ℕ) (place : ℕ × ℕ) → t ≡ s → bits ≡ live → slice_get (line_order t (units_in bits)) at ≡ Some place
    → slice_get (line_order s (units_in live)) at ≡ Some place
placed_by s t live bits at place shape is there =
    sym (ap (λ x. slice_get (line_order x (units_in bits)) at) shape ∙ ap (λ n. slice_get (line_order s (units_in n)) at) is) ∙ there

-- the unit and the block at an address
pub unit_placed : (s : Shape) (us : List ModelUnit) (line at : ℕ) (online : List ℕ) (place : ℕ × ℕ) → IsAccepted s → AreFit s us
    → online ≡ line_units (image_of s us) line
    → at < length online * s.clba → slice_get (line_order s online) at ≡ Some place → place.0 < length us
unit_placed s us line at online place accepted fit is inside there =
    let i : Image = image_of s us in
    let count : length i.units ≡ length us = length-map us (λ (u : ModelUnit). u.media) in
    let all : AllByRecursion (λ u. u < length us) online =
    subst (AllByRecursion (λ u. u < length us)) (sym (is ∙ line_units_range i line))
    (all_filter (λ u. u < length us) (is_online_at i line) (range_with_len 0 (length i.units)) (all_in_range 0 (length i.units) (length us) (omega arith))) in
    let named = mapped_some (slice_get online (column_of s (length online) at)) (block_of s (length online) at) place.0 place.1
    (sym (order_block s online at accepted.drive.ws_opt accepted.drive.whole_stripes inside) ∙ there) in
    all_get (λ u. u < length us) online (column_of s (length online) at) place.0 all named.0

pub block_placed : (i : Image) (line at : ℕ) (online : List ℕ) (place : ℕ × ℕ) → IsAccepted i.shape → online ≡ line_units i line
    → slice_get (line_order i.shape online) at ≡ Some place → written_at i line place ≡ block_at i line at
block_placed i line at online place accepted is there =
    sym (block_named i line at place accepted.drive.ws_opt accepted.drive.whole_stripes (ap (λ us. slice_get (line_order i.shape us) at) (sym is) ∙ there))

-- One block more.

pub blocks_none : (i : Image) (line from : ℕ) → blocks_at i line from (from - from) ≡ []
unfolding blocks_at
blocks_none i line from = let none : from - from ≡ 0 = omega arith in ap (λ n. map (block_at i line) (range_with_len from n)) none

pub blocks_more : (i : Image) (line from at : ℕ) (front now : List (Option Block)) (o : Option Block) → from ≤ at → now ≡ front ++ o ∷ []
    → o ≡ block_at i line at → front ≡ blocks_at i line from (at - from) → now ≡ blocks_at i line from (at + 1 - from)
unfolding blocks_at
blocks_more i line from at front now o inside now-is o-is front-is =
    let more : at + 1 - from ≡ (at - from) + 1 = omega arith in
    let last : from + (at - from) ≡ at = omega arith in
    now-is ∙ ap (λ xs. xs ++ o ∷ []) front-is ∙ ap (λ x. map (block_at i line) (range_with_len from (at - from)) ++ x ∷ []) o-is
    ∙ sym (map-range_with_len_more (block_at i line) from (at - from) at last)
    ∙ sym (ap (λ n. map (block_at i line) (range_with_len from n)) more)
