use Rattle.std.proofs.Common.{true, false, Some, sym, ap, ◌∙◌}
use Rattle.std.specs.Option.{option_map}
use Rattle.pblk_meta.specs.Records.{start_numbers}
use Rattle.scan_recovery.proofs.Lines.{start_short, start_unwritten, start_unread, start_read}
use Rattle.scan_recovery.proofs.line_records.start_in.Goals as goal

pub returns-then-blocks-len-clause-start : goal.returns-then-blocks-len-clause-start
returns-then-blocks-len-clause-start c =
    start_short c.args.layout.now c.args.line c.args.width c.start_len-len.result c.args.blocks.now c.start_len-len.ensures.len c.if-blocks-len.true

pub returns-in_default-clause-start : goal.returns-in_default-clause-start
returns-in_default-clause-start c =
    start_unwritten c.args.layout.now c.args.line c.args.width c.start_len-len.result c.args.blocks.now c.start_len-len.ensures.len c.if-blocks-len.false
    (sym c.in_ok-bytes.ensures ∙ ap (option_map (λ v. v.items)) c.in_default.is)

pub returns-in_default-2-clause-start : goal.returns-in_default-2-clause-start
returns-in_default-2-clause-start c =
    start_unread c.args.layout.now c.args.line c.args.width c.start_len-len.result c.args.blocks.now c.deref.result.now c.start_len-len.ensures.len
    c.if-blocks-len.false
    (sym c.in_ok-bytes.ensures ∙ ap (option_map (λ v. v.items)) c.in-Some.is ∙ ap Some (sym c.deref.ensures.value))
    (sym c.in_ok-start.ensures.read ∙ ap (option_map start_numbers) c.in_default-2.is)

pub returns-then-not-have_mark-clause-start : goal.returns-then-not-have_mark-clause-start
returns-then-not-have_mark-clause-start c =
    start_read c.args.layout.now c.args.line c.args.width c.start_len-len.result c.args.blocks.now c.deref.result.now
    (start_numbers c.in-Some-2.start) false c.start_len-len.ensures.len c.if-blocks-len.false
    (sym c.in_ok-bytes.ensures ∙ ap (option_map (λ v. v.items)) c.in-Some.is ∙ ap Some (sym c.deref.ensures.value))
    (sym c.in_ok-start.ensures.read ∙ ap (option_map start_numbers) c.in-Some-2.is) (sym c.have_mark.ensures ∙ c.if-not-have_mark.true)

pub returns-clause-start : goal.returns-clause-start
returns-clause-start c =
    start_read c.args.layout.now c.args.line c.args.width c.start_len-len.result c.args.blocks.now c.deref.result.now
    (start_numbers c.in-Some-2.start) true c.start_len-len.ensures.len c.if-blocks-len.false
    (sym c.in_ok-bytes.ensures ∙ ap (option_map (λ v. v.items)) c.in-Some.is ∙ ap Some (sym c.deref.ensures.value))
    (sym c.in_ok-start.ensures.read ∙ ap (option_map start_numbers) c.in-Some-2.is) (sym c.have_mark.ensures ∙ c.if-not-have_mark.false)
