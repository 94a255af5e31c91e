use Rattle.std.proofs.Common.{rules, ◌∙◌, slice_index_or}
use Rattle.ocssd_drive.proofs.Arming.{armed_as, none_installed, one_installed, all_installed, installed_within, last_left}
use Rattle.ocssd_drive.proofs.arm.install.Goals as goal

pub loop-arming-init : goal.loop-arming-init
loop-arming-init c = none_installed c.args.plans.now c.args.fuse c.args.armings.items c.args.units.now c.requires.count

pub arm-requires-clause-programs : goal.arm-requires-clause-programs
arm-requires-clause-programs c =
    (c.requires.each.2 c.len-at.result c.in-Some.arming (last_left c.args.plans.now c.args.fuse c.args.armings.items c.loop-arming.armings.items c.pop.new.self.items c.args.units.now c.loop-arming.units c.in-Some.arming c.len-at.result c.loop-arming.invariant c.in-Some.ensures.items (c.len-at.ensures ∙ c.pop.new.self.ok.0))).tallies.programs

pub arm-requires-clause-fetches : goal.arm-requires-clause-fetches
arm-requires-clause-fetches c =
    (c.requires.each.2 c.len-at.result c.in-Some.arming (last_left c.args.plans.now c.args.fuse c.args.armings.items c.loop-arming.armings.items c.pop.new.self.items c.args.units.now c.loop-arming.units c.in-Some.arming c.len-at.result c.loop-arming.invariant c.in-Some.ensures.items (c.len-at.ensures ∙ c.pop.new.self.ok.0))).tallies.fetches

pub arm-requires-clause-resets : goal.arm-requires-clause-resets
arm-requires-clause-resets c =
    (c.requires.each.2 c.len-at.result c.in-Some.arming (last_left c.args.plans.now c.args.fuse c.args.armings.items c.loop-arming.armings.items c.pop.new.self.items c.args.units.now c.loop-arming.units c.in-Some.arming c.len-at.result c.loop-arming.invariant c.in-Some.ensures.items (c.len-at.ensures ∙ c.pop.new.self.ok.0))).tallies.resets

pub arm-requires-clause-stop : goal.arm-requires-clause-stop
arm-requires-clause-stop c =
    (c.requires.each.2 c.len-at.result c.in-Some.arming (last_left c.args.plans.now c.args.fuse c.args.armings.items c.loop-arming.armings.items c.pop.new.self.items c.args.units.now c.loop-arming.units c.in-Some.arming c.len-at.result c.loop-arming.invariant c.in-Some.ensures.items (c.len-at.ensures ∙ c.pop.new.self.ok.0))).stop

pub loop-arming-preserved : goal.loop-arming-preserved
loop-arming-preserved c =
    one_installed c.args.plans.now c.args.fuse c.args.armings.items c.loop-arming.armings.items c.pop.new.self.items c.args.units.now c.loop-arming.units c.in-Some.arming c.len-at.result c.index-units-at.result c.arm.new.self c.loop-arming.invariant c.in-Some.ensures.items (c.len-at.ensures ∙ c.pop.new.self.ok.0)
    (installed_within c.args.plans.now c.args.fuse c.args.armings.items c.loop-arming.armings.items c.pop.new.self.items c.args.units.now c.loop-arming.units c.in-Some.arming c.len-at.result c.loop-arming.invariant c.in-Some.ensures.items (c.len-at.ensures ∙ c.pop.new.self.ok.0) c.requires.count c.loop-arming.auto.units)
    (λ word word_is seat_is. armed_as c.args.plans.now c.args.fuse word c.len-at.result c.in-Some.arming.stop (slice_index_or c.loop-arming.units c.len-at.result c.index-units-at.result) c.arm.new.self word_is seat_is c.arm.ensures)

pub returns : goal.returns
returns c = all_installed c.args.plans.now c.args.fuse c.args.armings.items c.loop-arming.armings.items c.args.units.now c.loop-arming.units c.loop-arming.invariant (search rules)

pub bounds-units-at : goal.bounds-units-at
bounds-units-at c =
    installed_within c.args.plans.now c.args.fuse c.args.armings.items c.loop-arming.armings.items c.pop.new.self.items c.args.units.now c.loop-arming.units c.in-Some.arming c.len-at.result c.loop-arming.invariant c.in-Some.ensures.items (c.len-at.ensures ∙ c.pop.new.self.ok.0) c.requires.count c.loop-arming.auto.units
