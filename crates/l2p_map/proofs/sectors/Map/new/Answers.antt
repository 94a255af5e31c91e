use Rattle.std.proofs.Common.{◌≡◌, replicate, ap, ◌∙◌, arith}
use Rattle.std.proofs.lemmas.Option.{slice_get_past}
use Rattle.std.specs.List.{slice_get}
use Rattle.l2p_map.specs.declared.slot.Slot.TheVariants.{Unwritten}
use Rattle.l2p_map.proofs.Finding.{get_sector, len_sectors, get_replicate}
use Rattle.l2p_map.proofs.sectors.Map.new.Goals as goal

pub returns-clause-unwritten : goal.returns-clause-unwritten
returns-clause-unwritten c =
    let items : c.in_ok-slots.slots.items ≡ replicate c.args.capacity Unwritten = c.in_ok-slots.ensures.items_if_clones_equal (λ y h. h) in
    λ lba h. get_sector c.in_ok-slots.slots.items lba ∙ ap (λ xs. slice_get xs lba) items ∙ get_replicate c.args.capacity lba Unwritten h

pub returns-clause-no_other : goal.returns-clause-no_other
returns-clause-no_other c = λ lba h. get_sector c.in_ok-slots.slots.items lba
    ∙ slice_get_past c.in_ok-slots.slots.items lba (omega (arith, c.in_ok-slots.ensures.len, c.in_ok-slots.slots.ok.0))

pub returns-clause-capacity : goal.returns-clause-capacity
returns-clause-capacity c = len_sectors c.in_ok-slots.slots.items ∙ omega (arith, c.in_ok-slots.ensures.len, c.in_ok-slots.slots.ok.0)
