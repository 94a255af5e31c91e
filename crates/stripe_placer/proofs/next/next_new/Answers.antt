use Rattle.std.proofs.Common.{◌≡◌, ◌+◌, Bool, Some, List, [], ◌∷◌, drop, sym, ap, ◌∙◌}
use Rattle.std.specs.List.{slice_get}
use Rattle.std.specs.Option.{option_map}
use Rattle.stripe_placer.specs.OpenLines.{OpenLine}
use Rattle.stripe_placer.specs.Placing.{Program, placement, is_ready, next_in}
use Rattle.stripe_placer.specs.Inside.{first_given}
use Rattle.stripe_placer.proofs.Rows.{one_fails, one_passes, get_is, named_by, none_named}
use Rattle.stripe_placer.proofs.next.next_new.Goals as goal
use Rattle.pblk_model.proofs.Parts.{drop_at}

pub ready_in-requires : goal.ready_in-requires
ready_in-requires c = record {
  units = c.requires.units;
  few = c.requires.few;
  fits = c.requires.fit c.index-slots-index.result
      (c.loop-index.index, get_is c.args.slots.now c.loop-index.index c.index-slots-index.result c.loop-index-test.true c.index-slots-index.is);
}

pub returns-in-Some : goal.returns-in-Some
returns-in-Some c =
    let xs : List OpenLine = c.args.slots.now in
    let i = c.loop-index.index in
    let l : OpenLine = c.index-slots-index.result in
    let at : slice_get xs i ≡ Some l = get_is xs i l c.loop-index-test.true c.index-slots-index.is in
    let give = next_in c.args.layout.now c.args.queue.now.entries in
    let test : Program → Bool = λ of. is_ready c.args.states.now c.args.busy of.unit in
    let hit = named_by (first_given test give (l ∷ [])) c.in-Some.of (sym c.ready_in.ensures ∙ c.in-Some.is) in
    ap (λ o. Some o) (sym hit.2)
    ∙ ap (option_map placement)
    (sym (one_passes test give l (drop (i + 1) xs) hit.0 hit.1) ∙ sym (ap (first_given test give) (drop_at xs i l at)) ∙ c.loop-index.invariant)

pub loop-index-preserved : goal.loop-index-preserved
loop-index-preserved c =
    let xs : List OpenLine = c.args.slots.now in
    let i = c.loop-index.index in
    let l : OpenLine = c.index-slots-index.result in
    let at : slice_get xs i ≡ Some l = get_is xs i l c.loop-index-test.true c.index-slots-index.is in
    let give = next_in c.args.layout.now c.args.queue.now.entries in
    let test : Program → Bool = λ of. is_ready c.args.states.now c.args.busy of.unit in
    let none = none_named (first_given test give (l ∷ [])) (sym c.ready_in.ensures ∙ c.in_default.is) in
    sym (one_fails test give l (drop (i + 1) xs) none) ∙ sym (ap (first_given test give) (drop_at xs i l at)) ∙ c.loop-index.invariant
