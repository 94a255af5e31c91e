use Rattle.std.proofs.Common.{◌≡◌, [], ◌∷◌, ◌++◌, List, length, map, sym, ap, subst, ◌∙◌, append_assoc, append-nil, arith}
use Rattle.std.specs.List.{AllByRecursion, flat_map}
use Rattle.std.specs.Vec.Iter.{into_iter_items}
use Rattle.std.proofs.lemmas.List.{nil_from_length}
use Rattle.pblk_model.proofs.Lists.{all_front}
use Rattle.pblk_model.specs.declared.shape.Shape.{Shape}
use Rattle.ocssd_drive.specs.Units.{WornUnit, IsUnitOf, stored_chunks}
use Rattle.drive_image.specs.Storing.{HasCapacity, WasAdded, chunk_bytes}
use Rattle.drive_image.proofs.Adding.{next_added, room_next}
use Rattle.drive_image.proofs.storing.put_units.Goals as goal

pub put_unit_blocks-requires-clause-fits : goal.put_unit_blocks-requires-clause-fits
put_unit_blocks-requires-clause-fits c =
    let at = c.loop-kept in
    let x = c.in-Some.kept in
    let steps : into_iter_items at.kept-iterator ≡ x ∷ into_iter_items c.next.new.self = c.in-Some.ensures.steps.0 in
    let whole = ap (λ ys. at.yielded ++ ys) (sym steps) ∙ (at.invariant.0 ∙ c.into_iter-kept-iterator.ensures.into_iter_gives.0) in
    let is : IsUnitOf c.args.shape.now x = (all_front (IsUnitOf c.args.shape.now) at.yielded (x ∷ into_iter_items c.next.new.self)
    (subst (AllByRecursion (IsUnitOf c.args.shape.now)) (sym whole) c.requires.fit)).1.0 in
    subst (λ (s : Shape). IsUnitOf s x) (sym is.shape) is

pub put_unit_blocks-requires-clause-chunks : goal.put_unit_blocks-requires-clause-chunks
put_unit_blocks-requires-clause-chunks c =
    let at = c.loop-kept in
    let x = c.in-Some.kept in
    let steps : into_iter_items at.kept-iterator ≡ x ∷ into_iter_items c.next.new.self = c.in-Some.ensures.steps.0 in
    let whole = ap (λ ys. at.yielded ++ ys) (sym steps) ∙ (at.invariant.0 ∙ c.into_iter-kept-iterator.ensures.into_iter_gives.0) in
    let is : IsUnitOf c.args.shape.now x = (all_front (IsUnitOf c.args.shape.now) at.yielded (x ∷ into_iter_items c.next.new.self)
    (subst (AllByRecursion (IsUnitOf c.args.shape.now)) (sym whole) c.requires.fit)).1.0 in
    sym (ap (λ (s : Shape). s.chunks) is.shape)

pub put_unit_blocks-requires-clause-room : goal.put_unit_blocks-requires-clause-room
put_unit_blocks-requires-clause-room c =
    let at = c.loop-kept in
    let x = c.in-Some.kept in
    let steps : into_iter_items at.kept-iterator ≡ x ∷ into_iter_items c.next.new.self = c.in-Some.ensures.steps.0 in
    let whole = ap (λ ys. at.yielded ++ ys) (sym steps) ∙ (at.invariant.0 ∙ c.into_iter-kept-iterator.ensures.into_iter_gives.0) in
    room_next (flat_map chunk_bytes) stored_chunks at.yielded x (into_iter_items c.next.new.self) c.args.out.now at.out
    (subst (λ (us : List WornUnit). HasCapacity c.args.out.now (flat_map (flat_map chunk_bytes) (map stored_chunks us))) (sym whole) c.requires.room)
    at.invariant.2

pub loop-kept-preserved : goal.loop-kept-preserved
loop-kept-preserved c =
    let at = c.loop-kept in
    let x = c.in-Some.kept in
    let steps : into_iter_items at.kept-iterator ≡ x ∷ into_iter_items c.next.new.self = c.in-Some.ensures.steps.0 in (
      append_assoc at.yielded (x ∷ []) _ ∙ rw (← steps) at.invariant.0,
      let was = at.invariant.1 in
          let gone = c.in-Some.ensures.steps.1 in
          let short = ap length steps in
          omega arith,
      next_added (flat_map chunk_bytes) stored_chunks at.yielded x c.args.out.now at.out c.put_unit_blocks.new.out at.invariant.2 c.put_unit_blocks.ensures,
    )

pub returns : goal.returns
returns c =
    let at = c.loop-kept in
    let empty : into_iter_items at.kept-iterator ≡ [] = nil_from_length (into_iter_items at.kept-iterator) (sym at.invariant.1 ∙ c.in-None.ensures.steps.0) in
    let all = sym (append-nil at.yielded) ∙ (rw empty at at.invariant.0 ∙ c.into_iter-kept-iterator.ensures.into_iter_gives.0) in
    subst (λ (us : List WornUnit). WasAdded c.args.out.now at.out (flat_map (flat_map chunk_bytes) (map stored_chunks us))) all at.invariant.2
