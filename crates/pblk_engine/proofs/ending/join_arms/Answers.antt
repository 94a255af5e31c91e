use Rattle.std.proofs.Common.{◌≡◌, ◌++◌, ◌∷◌, [], append_assoc, reverse, sym, subst, ap, ◌∙◌, le_trans}
use Rattle.std.proofs.lemmas.List.{map-append, reverse-reverse}
use Rattle.std.specs.Prelude.{map}
use Rattle.pblk_engine.specs.Endings.{HasJoined}
use Rattle.pblk_engine.proofs.Joinings.{joined_next, joined_none, left_next_arm, next_arm}
use Rattle.pblk_engine.proofs.ending.join_arms.Goals as goal

pub loop-arm-init : goal.loop-arm-init
loop-arm-init g c =
    let none = joined_none g.M.Mount.chronicle g.M.Mount.past g.M.Mount.handed g.M.Mount.wear c.args.author.now c.requires.author_of c.requires.past
    c.requires.engine
    c.requires.legal c.requires.begun c.requires.noted in (
      [],
      subst (λ us. HasJoined g.M.Mount.chronicle g.M.Mount.past g.M.Mount.handed g.M.Mount.wear c.args.author.now [] c.args.author.now
          (map g.U.Unit.model us) (map g.U.Unit.wear us)) (sym c.requires.empty) none,
      ap reverse c.reverse.ensures.items ∙ reverse-reverse c.args.arms.items,
      c.requires.room,
    )

pub loop-arm-preserved : goal.loop-arm-preserved
loop-arm-preserved g c =
    let done = c.loop-arm.invariant.0 in
    let is = c.loop-arm.invariant.1 in
    let arm = c.in-Some.arm in
    let rest = c.pop.new.self.items in
    let next : done ++ arm ∷ reverse rest ≡ c.args.arms.items =
    left_next_arm c.args.arms.items done rest c.loop-arm.arms.items arm c.in-Some.ensures.items c.loop-arm.invariant.2 in
    let unit = c.end-unit.ensures in
    let more = joined_next g.M.Mount.chronicle g.M.Mount.past g.M.Mount.handed g.M.Mount.wear c.args.author.now done c.loop-arm.author
    (map g.U.Unit.model c.loop-arm.units.items) (map g.U.Unit.wear c.loop-arm.units.items) is arm c.end-unit.result.1 (g.U.Unit.model c.end-unit.result.0)
    (g.U.Unit.wear c.end-unit.result.0) (next_arm c.args.arms.items done (reverse rest) arm c.requires.arms next) unit.unit unit.known
    unit.is_unit unit.noted unit.makers unit.spare
    c.join.new.self c.join.ensures.joined c.join.ensures.own c.join.ensures.other_own c.join.ensures.keeps c.join.ensures.learns c.join.ensures.legal
    c.join.ensures.begun in (
      done ++ arm ∷ [],
      subst (λ us. HasJoined g.M.Mount.chronicle g.M.Mount.past g.M.Mount.handed g.M.Mount.wear c.args.author.now (done ++ arm ∷ []) c.join.new.self
          (map g.U.Unit.model us) (map g.U.Unit.wear us)) (sym c.put.ensures.items)
          (subst (λ us. HasJoined g.M.Mount.chronicle g.M.Mount.past g.M.Mount.handed g.M.Mount.wear c.args.author.now (done ++ arm ∷ []) c.join.new.self
          us (map g.U.Unit.wear (c.loop-arm.units.items ++ c.end-unit.result.0 ∷ [])))
          (sym (map-append g.U.Unit.model c.loop-arm.units.items (c.end-unit.result.0 ∷ [])))
          (subst (λ ws. HasJoined g.M.Mount.chronicle g.M.Mount.past g.M.Mount.handed g.M.Mount.wear c.args.author.now (done ++ arm ∷ []) c.join.new.self
          (map g.U.Unit.model c.loop-arm.units.items ++ g.U.Unit.model c.end-unit.result.0 ∷ []) ws)
          (sym (map-append g.U.Unit.wear c.loop-arm.units.items (c.end-unit.result.0 ∷ []))) more)),
      append_assoc done (arm ∷ []) (reverse rest) ∙ next,
      le_trans c.loop-arm.invariant.3 c.put.ensures.capacity,
    )
