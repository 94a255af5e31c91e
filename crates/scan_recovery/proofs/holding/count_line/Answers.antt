use Rattle.std.proofs.Common.{◌≤◌, Some, sym, subst, ◌∙◌}
use Rattle.std.specs.Option.{option_map}
use Rattle.pblk_model.specs.Shape.{units}
use Rattle.pblk_meta.specs.Records.{end_numbers}
use Rattle.scan_recovery.proofs.Surveys.{count_passed, end_read, none_there, seq_line, tail_is}
use Rattle.scan_recovery.proofs.holding.count_line.Goals as goal

pub returns-in_default : goal.returns-in_default
returns-in_default c =
    count_passed c.args.media.now c.args.line c.args.count.now (none_there c.args.media.now c.args.line c.args.start c.requires.start c.in_default.is)
    c.requires.count

pub end_len-requires : goal.end_len-requires
end_len-requires c = subst (λ s. c.width-width.result ≤ units s) (sym c.requires.layout) c.width-width.ensures.few

pub end_in-requires : goal.end_in-requires
end_in-requires c = record { width = subst (λ s. c.width-width.result ≤ units s) (sym c.requires.layout) c.width-width.ensures.few }

pub count_blocks-requires-clause-seq : goal.count_blocks-requires-clause-seq
count_blocks-requires-clause-seq c = seq_line c.args.media.now c.args.line c.args.start (Some c.in-Some.seq) c.requires.start c.in-Some.is

pub count_blocks-requires-clause-end : goal.count_blocks-requires-clause-end
count_blocks-requires-clause-end c = λ start seq-is.
    let i = c.args.media.now in
    sym (end_read i c.args.line start c.args.layout.now c.width-width.result c.in-Some.seq c.deref.result.now (option_map end_numbers c.in_ok-end.end)
    c.requires.accepted c.requires.fit c.requires.layout c.width-width.ensures.width seq-is
    (c.deref.ensures.value ∙ c.in_ok-blocks.ensures.blocks
    ∙ tail_is i c.args.line c.args.layout.now c.width-width.result c.end_len.result c.len-len.result c.saturating_sub-from.result c.requires.layout
    c.width-width.ensures.width c.end_len.ensures.len c.len-len.ensures.len c.saturating_sub-from.ensures)
    c.in_ok-end.ensures.end)
