use Rattle.std.proofs.Common.{length, map, sym, subst, ap, ◌∙◌, arith}
use Rattle.std.proofs.lemmas.List.{length-map}
use Rattle.pblk_engine.specs.Endings.{AreArmsInOrder}
use Rattle.block_target.specs.Targets.{AreTakenOut}
use Rattle.block_target.proofs.FirstArms.{arms_count, arms_in_order, taken_whole}
use Rattle.block_target.proofs.target.lock_units.Goals as goal

pub new-requires-clause-few : goal.new-requires-clause-few
new-requires-clause-few g c =
    let models = map g.U.Unit.model c.args.units.items in
    let long = ap length c.make_arms.ensures.arms ∙ arms_count g.M.Mount.past 0 models ∙ length-map c.args.units.items g.U.Unit.model in
    omega (arith, long, c.requires.count, c.requires.mounted.accepted.drive.few_units)

pub new-requires-clause-kept : goal.new-requires-clause-kept
new-requires-clause-kept g c =
    subst AreArmsInOrder (sym c.make_arms.ensures.arms) (arms_in_order g.M.Mount.past (map g.U.Unit.model c.args.units.items))

pub returns-in-Ok-new-clause-places : goal.returns-in-Ok-new-clause-places
returns-in-Ok-new-clause-places g c =
    let models = map g.U.Unit.model c.args.units.items in
    c.in-Ok-new.ensures.count ∙ ap length c.make_arms.ensures.arms ∙ arms_count g.M.Mount.past 0 models ∙ length-map c.args.units.items g.U.Unit.model
    ∙ c.requires.count

pub take_units-requires-clause-arms : goal.take_units-requires-clause-arms
take_units-requires-clause-arms g c =
    subst AreArmsInOrder (sym (c.in-Err.ensures.unchanged ∙ c.make_arms.ensures.arms))
    (arms_in_order g.M.Mount.past (map g.U.Unit.model c.args.units.items))

pub take_units-requires-clause-room : goal.take_units-requires-clause-room
take_units-requires-clause-room g c =
    let models = map g.U.Unit.model c.args.units.items in
    let long = ap length (c.in-Err.ensures.unchanged ∙ c.make_arms.ensures.arms) ∙ arms_count g.M.Mount.past 0 models
    ∙ length-map c.args.units.items g.U.Unit.model in
    omega (arith, long, c.make_arms.ensures.units_room)

pub returns-clause-unchanged : goal.returns-clause-unchanged
returns-clause-unchanged g c =
    let models = map g.U.Unit.model c.args.units.items in
    let m = c.requires.mounted in
    let many = m.worn ∙ m.units.count ∙ sym c.requires.count ∙ sym (length-map c.args.units.items g.U.Unit.model) in
    let out = c.take_units.new.units.items in
    (taken_whole g.M.Mount.wear g.M.Mount.past models (map g.U.Unit.model out) (map g.U.Unit.wear out) many
    (subst (λ arms. AreTakenOut g.M.Mount.wear arms (map g.U.Unit.model out) (map g.U.Unit.wear out))
    (c.in-Err.ensures.unchanged ∙ c.make_arms.ensures.arms) c.take_units.ensures.units)).0

pub returns-clause-wear : goal.returns-clause-wear
returns-clause-wear g c =
    let models = map g.U.Unit.model c.args.units.items in
    let m = c.requires.mounted in
    let many = m.worn ∙ m.units.count ∙ sym c.requires.count ∙ sym (length-map c.args.units.items g.U.Unit.model) in
    let out = c.take_units.new.units.items in
    (taken_whole g.M.Mount.wear g.M.Mount.past models (map g.U.Unit.model out) (map g.U.Unit.wear out) many
    (subst (λ arms. AreTakenOut g.M.Mount.wear arms (map g.U.Unit.model out) (map g.U.Unit.wear out))
    (c.in-Err.ensures.unchanged ∙ c.make_arms.ensures.arms) c.take_units.ensures.units)).1 ∙ sym c.requires.units.wear_is
