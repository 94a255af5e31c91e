use Rattle.std.proofs.Common.{subst, sym, ap, ◌∙◌, arith, rules, ◌+◌, [], ◌∷◌, length, length-append}
use Rattle.std.specs.Slots.{slots_items, slots_counts}
use Rattle.numbered_locks.specs.Cells.{Fits}
use Rattle.numbered_locks.specs.Handles.{AreKept}
use Rattle.numbered_locks.specs.Kept.{IsLeft}
use Rattle.numbered_locks.proofs.Ends.{ends, left_still, emptied_next, kept_next}
use Rattle.numbered_locks.proofs.locks.NumberedLocks.close.Goals as goal

pub take_cell-first-requires-clause-left : goal.take_cell-first-requires-clause-left
take_cell-first-requires-clause-left g c =
    let r = c.close-closed.result in
    subst (λ n. IsLeft (Fits g.L.Keeps.keeps n) (n + 1) (slots_items r.words) (slots_items r.slots)) c.args.self.counted
    (ends (Fits g.L.Keeps.keeps _) _ _ _ c.close-closed.ensures.values.2)

pub loop-place-init : goal.loop-place-init
loop-place-init g c =
    let n = c.close-closed.ensures in
    let r = c.close-closed.result in
    let e = c.take_cell-first.ensures in
    let count = c.args.self.count in
    let left = subst (λ n. IsLeft (Fits g.L.Keeps.keeps n) (n + 1) (slots_items r.words) (slots_items r.slots)) c.args.self.counted
    (ends (Fits g.L.Keeps.keeps _) _ _ _ n.values.2) in
    record {
      words = search rules;
      slots = search rules;
      full = search rules;
      left = left_still (Fits g.L.Keeps.keeps count) (count + 1) _ _ _ _ (ap slots_items e.words) e.items left;
      emptied = emptied_next (count + 1) 0 _ _ (record {
        long = sym (slots_counts r.slots).1 ∙ (n.counts.1 ∙ c.args.self.slots);
        gone = λ k low. absurd (omega arith);
        full = λ k le low. n.values.1 k le (omega (arith, n.counts, c.args.self.slots));
      }) (omega arith) e.flags;
      many = ap length c.in-Spare.ensures.fits.1;
      room = c.in-Spare.ensures.fits.2;
      kept = subst (AreKept g.L.Keeps.keeps) (sym c.in-Spare.ensures.fits.1) (search rules);
    }

pub loop-place-preserved : goal.loop-place-preserved
loop-place-preserved g c =
    let i = c.loop-place.invariant in
    let e = c.take_cell-cell.ensures in
    let count = c.args.self.count in
    let at = c.loop-place.place in
    let fits = c.in-Value.ensures.fits in
    record {
      words = search rules;
      slots = search rules;
      full = search rules;
      left = left_still (Fits g.L.Keeps.keeps count) (count + 1) _ _ _ _ (ap slots_items e.words) e.items i.left;
      emptied = emptied_next (count + 1) (at + 1) _ _ i.emptied (omega (arith, c.loop-place-test.true)) e.flags;
      many = omega (arith, ap length c.add.ensures.items, length-append c.loop-place.values.items (c.in-Value.value ∷ []), i.many);
      room = search rules;
      kept = kept_next g.L.Keeps.keeps _ _ c.in-Value.value fits.0 c.add.ensures.items i.kept (let same = fits.1 in omega (arith, i.many)) fits.2;
    }

pub free-requires : goal.free-requires
free-requires g c k low = let i = c.loop-place.invariant in i.emptied.gone k (omega (arith, i.slots, c.loop-place-test.false))
