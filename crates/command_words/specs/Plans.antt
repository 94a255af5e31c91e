-- What the fields of plans that are kept say, and what they keep.
use Rattle.std.specs.Prelude.{◌≡◌, ◌≤◌, List, length, take}
use Rattle.unit_port.specs.declared.armed.FaultPlan.{FaultPlan}
use Rattle.command_words.specs.declared.plans.FaultPlans.TheInside as inside

abbrev pub plans_kept : inside.Inside → List FaultPlan
plans_kept p = take p.count p.slots

pub record ArePlansKept (p : inside.Inside) : Type 0 where
  pub room : length p.slots ≡ 16
  pub few : p.count ≤ 16
