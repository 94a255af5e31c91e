use Rattle.std.proofs.Common.{◌-◌, Some, length, sym, ap, ◌∙◌}
use Rattle.std.specs.Option.{option_map}
use Rattle.scan_recovery.specs.Reading.{have_mark, sectors_of}
use Rattle.std.proofs.lemmas.Result.{IfOk-weaker}
use Rattle.scan_recovery.proofs.Lines.{end_short, end_unmarked, end_unwritten, end_reads, tail_is}
use Rattle.scan_recovery.proofs.line_records.end_in.Goals as goal

pub returns-then-blocks-len : goal.returns-then-blocks-len
returns-then-blocks-len c = record {
  end = end_short c.args.layout.now c.args.line c.args.width c.args.seq c.end_len-len.result c.args.blocks.now c.end_len-len.ensures.len
      c.if-blocks-len.true;
}

pub returns-then-not-have_mark : goal.returns-then-not-have_mark
returns-then-not-have_mark c =
    record {
      end = end_unmarked c.args.layout.now c.args.line c.args.width c.args.seq c.end_len-len.result c.args.blocks.now c.end_len-len.ensures.len
          c.if-blocks-len.false (ap (have_mark c.args.seq) (sym (tail_is c.args.blocks.now (length c.args.blocks.now - c.end_len-len.result)))
          ∙ sym c.have_mark.ensures ∙ c.if-not-have_mark.true);
    }

pub returns-in_default : goal.returns-in_default
returns-in_default c = record {
  end =
      end_unwritten c.args.layout.now c.args.line c.args.width c.args.seq c.end_len-len.result c.args.blocks.now c.end_len-len.ensures.len c.if-blocks-len.false
      (ap sectors_of (sym (tail_is c.args.blocks.now (length c.args.blocks.now - c.end_len-len.result))) ∙ sym c.in_ok-bytes.ensures
      ∙ ap (option_map (λ v. v.items)) c.in_default.is);
}

pub returns : goal.returns
returns c = record {
  end = IfOk-weaker c.read.result _ _ (λ o h.
      end_reads c.args.layout.now c.args.line c.args.width c.args.seq c.end_len-len.result c.args.blocks.now c.deref.result.now _ c.end_len-len.ensures.len
      c.if-blocks-len.false (ap (have_mark c.args.seq) (sym (tail_is c.args.blocks.now (length c.args.blocks.now - c.end_len-len.result)))
      ∙ sym c.have_mark.ensures ∙ c.if-not-have_mark.false)
      (ap sectors_of (sym (tail_is c.args.blocks.now (length c.args.blocks.now - c.end_len-len.result))) ∙ sym c.in_ok-bytes.ensures
      ∙ ap (option_map (λ v. v.items)) c.in-Some.is ∙ ap Some (sym c.deref.ensures.value)) h) c.read.ensures.read;
}
