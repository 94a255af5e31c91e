use Rattle.std.proofs.Common.{◌++◌, ◌∷◌, [], ℕ, List, append_assoc, map, reverse, sym, subst, ap, ◌∙◌, le_trans}
use Rattle.std.proofs.lemmas.List.{map-append, reverse-reverse}
use Rattle.unit_port.specs.Unit.{ModelUnit}
use Rattle.pblk_engine.proofs.Joinings.{left_next_arm, next_arm}
use Rattle.block_target.specs.Targets.{AreTakenOut}
use Rattle.block_target.proofs.FirstArms.{none_out, one_out}
use Rattle.block_target.proofs.target.take_units.Goals as goal

pub loop-arm-init : goal.loop-arm-init
loop-arm-init g c = (
  [],
  subst (λ us. AreTakenOut g.M.Mount.wear [] (map g.U.Unit.model us) (map g.U.Unit.wear us)) (sym c.requires.empty) (none_out g.M.Mount.wear),
  ap reverse c.reverse.ensures.items ∙ reverse-reverse c.args.arms.items,
  c.requires.room,
)

pub loop-arm-preserved : goal.loop-arm-preserved
loop-arm-preserved g c =
    let at = c.loop-arm.invariant in
    let arm = c.in-Some.arm in
    let rest = c.pop.new.self.items in
    let next = left_next_arm c.args.arms.items at.0 rest c.loop-arm.arms.items arm c.in-Some.ensures.items at.2 in
    let unit = c.end-unit.result.0 in
    let us = c.loop-arm.units.items in
    let model = g.U.Unit.model in
    let wear = g.U.Unit.wear in
    let more = one_out g.M.Mount.wear at.0 (map model us) (map wear us) at.1 arm (model unit) (wear unit)
    (next_arm c.args.arms.items at.0 (reverse rest) arm c.requires.arms next) c.end-unit.ensures.unit c.end-unit.ensures.is_unit.has_wear in (
      at.0 ++ arm ∷ [],
      subst (λ xs. AreTakenOut g.M.Mount.wear (at.0 ++ arm ∷ []) (map model xs) (map wear xs)) (sym c.put.ensures.items)
          (subst (λ (ms : List ModelUnit). AreTakenOut g.M.Mount.wear (at.0 ++ arm ∷ []) ms (map wear (us ++ unit ∷ [])))
          (sym (map-append model us (unit ∷ [])))
          (subst (λ (ws : List (List ℕ)). AreTakenOut g.M.Mount.wear (at.0 ++ arm ∷ []) (map model us ++ model unit ∷ []) ws)
          (sym (map-append wear us (unit ∷ []))) more)),
      append_assoc at.0 (arm ∷ []) (reverse rest) ∙ next,
      le_trans at.3 c.put.ensures.capacity,
    )
