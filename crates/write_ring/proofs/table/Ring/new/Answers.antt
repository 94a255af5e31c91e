use Rattle.std.proofs.Common.{◌≡◌, length, sym, ap, ◌∙◌, subst, arith}
use Rattle.std.specs.Prelude.{slice_index}
use Rattle.std.specs.List.{AllByRecursion}
use Rattle.atomic_table.specs.Table.{opening}
use Rattle.write_ring.specs.declared.view.Key.{Key}
use Rattle.write_ring.specs.Cells.{turn_at}
use Rattle.write_ring.specs.Frames.{IsFree, IsFreeOf, IsBlank, Carries, Fits}
use Rattle.write_ring.specs.Rule.{Words}
use Rattle.write_ring.specs.Steps.{first_view}
use Rattle.write_ring.proofs.Joins.{splits_intake}
use Rattle.write_ring.proofs.Moves.{Rule}
use Rattle.write_ring.proofs.Ends.{begins}
use Rattle.write_ring.proofs.table.Ring.new.Goals as goal

pub new-requires : goal.new-requires
new-requires c =
    let key : Key = record { first = c.args.first; size = c.from-size.result; reserve = c.from.result; capacity = c.args.capacity; origin = c.origin.result } in
    let n = sym c.from-size.ensures in
    let f = c.args.first in
    let ws = c.in_ok-words.words.items in
    let xs = c.in_ok-cells.cells.items in
    let w = c.in_ok-words.ensures in
    let k = c.in_ok-cells.ensures in
    let region = sym (c.origin.ensures.region ∙ k.region) in
    subst (λ l. Rule key IsFree IsBlank Carries Fits (opening l xs (first_view key))) (sym c.as_slice.ensures.value)
    (begins key IsFree IsBlank Carries Fits ws xs (subst (λ j. Words j ws f f f) n w.words) (λ q. subst (λ j. slice_index ws (turn_at j q) ≡ 0) n (w.turns q))
    (k.many ∙ n) (subst (λ r. AllByRecursion (IsFreeOf r) xs) region k.free) c.requires.first
    (omega (arith, c.requires.reserve, c.from.ensures, c.from-size.ensures)))

pub split_seat-intake-requires : goal.split_seat-intake-requires
split_seat-intake-requires c =
    let e = c.in-Ok.ensures.ok in (
      e.2,
      omega (arith, e.0, ap length c.as_slice.ensures.value, c.in_ok-words.ensures.long),
      splits_intake _ IsFree IsBlank Carries Fits _ _ (omega (arith, ap (λ m. m.0.pass.shares) e.4))
          (ap (λ m. m.0.pass.next) e.4 ∙ sym (ap (λ m. m.0.pass.until) e.4)),
    )
