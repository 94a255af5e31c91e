use Rattle.std.proofs.Common.{◌<◌, length, ap, sym, ◌∙◌, arith, refl}
use Rattle.std.proofs.lemmas.Option.{slice_get_read}
use Rattle.std.specs.FinMap as map
use Rattle.l2p_map.proofs.Finding.{get_sector, len_sectors}
use Rattle.l2p_map.proofs.sectors.Map.get.Goals as goal

pub index-requires : goal.index-requires
index-requires c = omega (arith, c.requires, ap map.len c.self.view_is, len_sectors c.self.inside.slots.items, c.self.inside.slots.ok.0)

pub returns : goal.returns
returns c =
    let inside : c.args.lba < length c.self.inside.slots.items = omega (arith, c.requires, ap map.len c.self.view_is, len_sectors c.self.inside.slots.items) in
    ap (λ m. map.get m c.args.lba) (sym c.self.view_is) ∙ get_sector c.self.inside.slots.items c.args.lba
    ∙ slice_get_read c.self.inside.slots.items _ c.args.lba c.index.result.now refl inside c.index.ensures
