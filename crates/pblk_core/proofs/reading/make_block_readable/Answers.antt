use Rattle.std.proofs.Common.{◌≡◌, ◌<◌, ◌≤◌, Some, None, sym, subst, ap, ◌∙◌}
use Rattle.std.specs.Option.{option_to_list}
use Rattle.pblk_core.specs.Readable.{ReadBlock, moved, all_moved, all_readable, block_reads}
use Rattle.pblk_core.proofs.ReadBlocks.{place_at, none_there, none_told, pads_there, reads_there, moved_is, stays_there}
use Rattle.pblk_core.proofs.reading.make_block_readable.Goals as goal

pub returns-in-None-clause-window : goal.returns-in-None-clause-window
returns-in-None-clause-window c =
    let e : block_reads c.args.slot.now c.args.unit c.args.block ≡ None =
    none_there c.args.slot.now c.args.unit c.args.block
    (place_at c.args.slot.now c.args.layout.now c.args.unit c.args.block c.addr_of.result c.requires.shape c.addr_of.ensures.found c.addr_of.ensures.only
    ∙ c.in-None.is) in
    sym (ap (λ o. all_readable c.args.window.now (option_to_list o)) e)

pub returns-in-None-clause-map : goal.returns-in-None-clause-map
returns-in-None-clause-map c =
    let e : block_reads c.args.slot.now c.args.unit c.args.block ≡ None =
    none_there c.args.slot.now c.args.unit c.args.block
    (place_at c.args.slot.now c.args.layout.now c.args.unit c.args.block c.addr_of.result c.requires.shape c.addr_of.ensures.found c.addr_of.ensures.only
    ∙ c.in-None.is) in
    sym (ap (λ o. all_moved c.args.layout.now.capacity c.args.slot.now.records.line c.args.map.now (option_to_list o)) e)

pub returns-in-None-data_mark-clause-window : goal.returns-in-None-data_mark-clause-window
returns-in-None-data_mark-clause-window c =
    let e : block_reads c.args.slot.now c.args.unit c.args.block ≡ None =
    none_told c.args.slot.now c.args.unit c.args.block c.in-Some.at
    (place_at c.args.slot.now c.args.layout.now c.args.unit c.args.block c.addr_of.result c.requires.shape c.addr_of.ensures.found c.addr_of.ensures.only
    ∙ c.in-Some.is) (sym c.data_mark.ensures ∙ c.in-None-data_mark.is) in
    sym (ap (λ o. all_readable c.args.window.now (option_to_list o)) e)

pub returns-in-None-data_mark-clause-map : goal.returns-in-None-data_mark-clause-map
returns-in-None-data_mark-clause-map c =
    let e : block_reads c.args.slot.now c.args.unit c.args.block ≡ None =
    none_told c.args.slot.now c.args.unit c.args.block c.in-Some.at
    (place_at c.args.slot.now c.args.layout.now c.args.unit c.args.block c.addr_of.result c.requires.shape c.addr_of.ensures.found c.addr_of.ensures.only
    ∙ c.in-Some.is) (sym c.data_mark.ensures ∙ c.in-None-data_mark.is) in
    sym (ap (λ o. all_moved c.args.layout.now.capacity c.args.slot.now.records.line c.args.map.now (option_to_list o)) e)

pub returns-then-mark-clause-window : goal.returns-then-mark-clause-window
returns-then-mark-clause-window c =
    let e : block_reads c.args.slot.now c.args.unit c.args.block ≡ None =
    pads_there c.args.slot.now c.args.unit c.args.block c.in-Some.at c.in-Some-data_mark.mark
    (place_at c.args.slot.now c.args.layout.now c.args.unit c.args.block c.addr_of.result c.requires.shape c.addr_of.ensures.found c.addr_of.ensures.only
    ∙ c.in-Some.is) (sym c.data_mark.ensures ∙ c.in-Some-data_mark.is) c.if-mark.true in
    sym (ap (λ o. all_readable c.args.window.now (option_to_list o)) e)

pub returns-then-mark-clause-map : goal.returns-then-mark-clause-map
returns-then-mark-clause-map c =
    let e : block_reads c.args.slot.now c.args.unit c.args.block ≡ None =
    pads_there c.args.slot.now c.args.unit c.args.block c.in-Some.at c.in-Some-data_mark.mark
    (place_at c.args.slot.now c.args.layout.now c.args.unit c.args.block c.addr_of.result c.requires.shape c.addr_of.ensures.found c.addr_of.ensures.only
    ∙ c.in-Some.is) (sym c.data_mark.ensures ∙ c.in-Some-data_mark.is) c.if-mark.true in
    sym (ap (λ o. all_moved c.args.layout.now.capacity c.args.slot.now.records.line c.args.map.now (option_to_list o)) e)

pub readable-requires-clause-held : goal.readable-requires-clause-held
readable-requires-clause-held c =
    (c.requires.held (record { at = c.in-Some.at; mark = c.in-Some-data_mark.mark })
    (reads_there c.args.slot.now c.args.unit c.args.block c.in-Some.at c.in-Some-data_mark.mark
    (place_at c.args.slot.now c.args.layout.now c.args.unit c.args.block c.addr_of.result c.requires.shape c.addr_of.ensures.found c.addr_of.ensures.only
    ∙ c.in-Some.is) (sym c.data_mark.ensures ∙ c.in-Some-data_mark.is) c.if-mark.false)).0

pub readable-requires-clause-landed : goal.readable-requires-clause-landed
readable-requires-clause-landed c =
    (c.requires.held (record { at = c.in-Some.at; mark = c.in-Some-data_mark.mark })
    (reads_there c.args.slot.now c.args.unit c.args.block c.in-Some.at c.in-Some-data_mark.mark
    (place_at c.args.slot.now c.args.layout.now c.args.unit c.args.block c.addr_of.result c.requires.shape c.addr_of.ensures.found c.addr_of.ensures.only
    ∙ c.in-Some.is) (sym c.data_mark.ensures ∙ c.in-Some-data_mark.is) c.if-mark.false)).1

pub returns-then-mark-shape-clause-window : goal.returns-then-mark-shape-clause-window
returns-then-mark-shape-clause-window c =
    let b : ReadBlock = record { at = c.in-Some.at; mark = c.in-Some-data_mark.mark } in
    let e : block_reads c.args.slot.now c.args.unit c.args.block ≡ Some b =
    reads_there c.args.slot.now c.args.unit c.args.block c.in-Some.at c.in-Some-data_mark.mark
    (place_at c.args.slot.now c.args.layout.now c.args.unit c.args.block c.addr_of.result c.requires.shape c.addr_of.ensures.found c.addr_of.ensures.only
    ∙ c.in-Some.is) (sym c.data_mark.ensures ∙ c.in-Some-data_mark.is) c.if-mark.false in
    c.readable.ensures.readable ∙ sym (ap (λ o. all_readable c.args.window.now (option_to_list o)) e)

pub returns-else-mark-shape-clause-window : goal.returns-else-mark-shape-clause-window
returns-else-mark-shape-clause-window c =
    let b : ReadBlock = record { at = c.in-Some.at; mark = c.in-Some-data_mark.mark } in
    let e : block_reads c.args.slot.now c.args.unit c.args.block ≡ Some b =
    reads_there c.args.slot.now c.args.unit c.args.block c.in-Some.at c.in-Some-data_mark.mark
    (place_at c.args.slot.now c.args.layout.now c.args.unit c.args.block c.addr_of.result c.requires.shape c.addr_of.ensures.found c.addr_of.ensures.only
    ∙ c.in-Some.is) (sym c.data_mark.ensures ∙ c.in-Some-data_mark.is) c.if-mark.false in
    c.readable.ensures.readable ∙ sym (ap (λ o. all_readable c.args.window.now (option_to_list o)) e)

pub returns-then-mark-shape-clause-map : goal.returns-then-mark-shape-clause-map
returns-then-mark-shape-clause-map c =
    let b : ReadBlock = record { at = c.in-Some.at; mark = c.in-Some-data_mark.mark } in
    let e : block_reads c.args.slot.now c.args.unit c.args.block ≡ Some b =
    reads_there c.args.slot.now c.args.unit c.args.block c.in-Some.at c.in-Some-data_mark.mark
    (place_at c.args.slot.now c.args.layout.now c.args.unit c.args.block c.addr_of.result c.requires.shape c.addr_of.ensures.found c.addr_of.ensures.only
    ∙ c.in-Some.is) (sym c.data_mark.ensures ∙ c.in-Some-data_mark.is) c.if-mark.false in
    let below : b.mark.lba < c.args.layout.now.capacity = subst (λ s. b.mark.lba < s.capacity) c.shape.ensures.shape c.if-mark-shape.true in
    moved_is c.args.layout.now.capacity c.line-line.result c.args.map.now c.set_if.new.self b c.set_if.result below c.set_if.ensures.was c.set_if.ensures.set
    c.set_if.ensures.unchanged
    ∙ ap (λ line. moved c.args.layout.now.capacity line c.args.map.now b) c.line-line.ensures
    ∙ sym (ap (λ o. all_moved c.args.layout.now.capacity c.args.slot.now.records.line c.args.map.now (option_to_list o)) e)

pub returns-else-mark-shape-clause-map : goal.returns-else-mark-shape-clause-map
returns-else-mark-shape-clause-map c =
    let b : ReadBlock = record { at = c.in-Some.at; mark = c.in-Some-data_mark.mark } in
    let e : block_reads c.args.slot.now c.args.unit c.args.block ≡ Some b =
    reads_there c.args.slot.now c.args.unit c.args.block c.in-Some.at c.in-Some-data_mark.mark
    (place_at c.args.slot.now c.args.layout.now c.args.unit c.args.block c.addr_of.result c.requires.shape c.addr_of.ensures.found c.addr_of.ensures.only
    ∙ c.in-Some.is) (sym c.data_mark.ensures ∙ c.in-Some-data_mark.is) c.if-mark.false in
    let above : c.args.layout.now.capacity ≤ b.mark.lba = subst (λ s. s.capacity ≤ b.mark.lba) c.shape.ensures.shape c.if-mark-shape.false in
    stays_there c.args.layout.now.capacity c.args.slot.now.records.line c.args.map.now b above
    ∙ sym (ap (λ o. all_moved c.args.layout.now.capacity c.args.slot.now.records.line c.args.map.now (option_to_list o)) e)
