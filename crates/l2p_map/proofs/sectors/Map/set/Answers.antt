use Rattle.std.proofs.Common.{◌<◌, length, ap, sym, ◌∙◌, arith, length-set}
use Rattle.std.specs.FinMap as map
use Rattle.l2p_map.proofs.Finding.{len_sectors, set_sector}
use Rattle.l2p_map.proofs.sectors.Map.set.Goals as goal

pub index_mut-requires : goal.index_mut-requires
index_mut-requires c = omega (arith, c.requires, ap map.len c.self.view_is, len_sectors c.self.inside.slots.items, c.self.inside.slots.ok.0)

pub returns-clause-set : goal.returns-clause-set
returns-clause-set c =
    let inside : c.args.lba < length c.self.inside.slots.items = omega (arith, c.requires, ap map.len c.self.view_is, len_sectors c.self.inside.slots.items) in
    set_sector c.self.inside.slots.items c.args.lba c.args.to inside ∙ ap (λ m. map.insert m c.args.lba c.args.to) c.self.view_is

pub returns-clause-capacity : goal.returns-clause-capacity
returns-clause-capacity c = len_sectors _ ∙ length-set c.self.inside.slots.items c.args.lba c.args.to ∙ sym (len_sectors c.self.inside.slots.items)
    ∙ ap map.len c.self.view_is
