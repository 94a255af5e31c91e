use Rattle.std.proofs.Common.{sym, ap, ◌∙◌}
use Rattle.std.specs.Option.{option_map}
use Rattle.pblk_model.specs.LineOrder.{start_len}
use Rattle.pblk_model.specs.StartRecord.{written_run}
use Rattle.pblk_meta.specs.Records.{start_numbers}
use Rattle.image_check.proofs.LineLemmas.{layout_is, number_is}
use Rattle.image_check.proofs.RunLemmas.{bytes_of, start_alike, start_unread}
use Rattle.image_check.proofs.line.Line.start.Goals as goal

pub returns-in_default-2 : goal.returns-in_default-2
returns-in_default-2 c =
    let i = c.args.self.now.image in
    let n = c.args.self.now.number in
    let shape = layout_is c.self.inside c.args.self.now c.self.invariant c.self.view_is in
    let number = number_is c.self.inside c.args.self.now c.self.invariant c.self.view_is in
    start_unread i n c.in-Some.blocks.items
    (sym (ap (option_map (λ v. v.items)) c.in-Some.is) ∙ c.in_ok-blocks.ensures ∙ ap (written_run i n 0) (c.start_len.ensures.len ∙ ap start_len shape))
    (sym (ap (option_map start_numbers) c.in_default-2.is) ∙ c.in_ok-start.ensures.read
    ∙ start_alike _ _ _ _ _ _ _ _ shape number c.width-width.ensures.width
    (c.deref-2.ensures.value ∙ c.in_ok-bytes.ensures ∙ ap bytes_of c.deref.ensures.value))
