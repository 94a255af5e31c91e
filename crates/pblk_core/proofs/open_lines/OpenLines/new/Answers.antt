use Rattle.std.proofs.Common.{◌≡◌, ◌+◌, sym, subst, ap, ◌∙◌, arith, length, length-append, ◌∷◌, [], List}
use Rattle.std.specs.List.{AllByRecursion}
use Rattle.pblk_core.specs.LineRecords.{RecordsView}
use Rattle.pblk_core.specs.declared.open_lines.OpenLine.{OpenLine}
use Rattle.pblk_core.proofs.open_lines.OpenLines.new.Goals as goal
use Rattle.pblk_model.proofs.Lists.{with_last}
use Rattle.pblk_model.proofs.Parts.{all_at}

pub loop-init : goal.loop-init
loop-init c = record {
  count = ap length c.in_ok-slots.ensures.items;
  shapes = subst (AllByRecursion (λ (l : OpenLine). l.records.shape ≡ c.args.layout.now)) (sym c.in_ok-slots.ensures.items) tt;
}

pub loop-preserved : goal.loop-preserved
loop-preserved c =
    let made : OpenLine = record { records = c.in_ok-new.field-0; online = 0; stripes_left = 0 } in
    record {
      count = ap length c.in_ok-push.ensures.items ∙ length-append c.loop.slots.items (made ∷ []) ∙ ap (λ n. n + 1) c.loop.invariant.count;
      shapes = subst (AllByRecursion (λ (l : OpenLine). l.records.shape ≡ c.args.layout.now)) (sym {A = List OpenLine} c.in_ok-push.ensures.items)
          (with_last (λ (l : OpenLine). l.records.shape ≡ c.args.layout.now) c.loop.slots.items made c.loop.invariant.shapes
          (ap (λ (r : RecordsView). r.shape) c.in_ok-new.ensures));
    }

pub returns-clause-two : goal.returns-clause-two
returns-clause-two c =
    let count : length c.loop.slots.items ≡ c.loop.counter = c.loop.invariant.count in
    omega arith

pub returns-clause-shapes : goal.returns-clause-shapes
returns-clause-shapes c = λ k line there. all_at (λ (l : OpenLine). l.records.shape ≡ c.args.layout.now) c.loop.slots.items k line there c.loop.invariant.shapes
