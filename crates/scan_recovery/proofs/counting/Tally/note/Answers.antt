use Rattle.std.proofs.Common.{◌+◌, ◌<◌, length, max, Some, sym, ap, ◌∙◌, arith}
use Rattle.std.proofs.lemmas.Option.{slice_get-get_or}
use Rattle.scan_recovery.specs.Traces.{bare}
use Rattle.scan_recovery.proofs.Tables.{get_default}
use Rattle.scan_recovery.proofs.Tallies.{named_more, named_void, tops_noted, winners_noted, winners_past, winners_void}
use Rattle.scan_recovery.proofs.counting.Tally.note.Goals as goal

pub returns-then-place-len-clause-tally : goal.returns-then-place-len-clause-tally
returns-then-place-len-clause-tally c = λ sectors lines rs h.
    let inside : c.in-Some.lba < length c.args.self.now.winners.items = omega (arith, c.args.self.now.winners.ok.0, c.len.ensures) in
    record {
      winners = winners_noted sectors rs c.args.self.now.winners.items c.args.t.now c.newer-best.result c.index-then-place-len.result.now c.in-Some.lba
          h.winners inside c.in-Some.is
          (slice_get-get_or c.args.self.now.winners.items c.in-Some.lba c.index-then-place-len.result.now inside ∙ ap Some (sym c.index-then-place-len.ensures))
          c.newer-best.ensures;
      tops = tops_noted lines rs c.args.self.now.tops.items (bare c.args.t.now) c.max.result h.tops c.requires.line
          (c.max.ensures ∙ ap (λ n. max n (c.args.t.now.position + 1))
          (c.index.ensures ∙ get_default c.args.self.now.tops.items c.args.t.now.line c.index.result.now 0 c.requires.line));
      named = named_more rs (bare c.args.t.now) c.in-Some.lba c.args.self.now.named c.saturating_add-self.result c.in-Some.is h.named
          c.saturating_add-self.ensures;
    }

pub returns-else-place-len-clause-tally : goal.returns-else-place-len-clause-tally
returns-else-place-len-clause-tally c = λ sectors lines rs h.
    record {
      winners = winners_past sectors rs c.args.self.now.winners.items c.args.t.now c.in-Some.lba h.winners
          (omega (arith, c.args.self.now.winners.ok.0, c.len.ensures)) c.in-Some.is;
      tops = tops_noted lines rs c.args.self.now.tops.items (bare c.args.t.now) c.max.result h.tops c.requires.line
          (c.max.ensures ∙ ap (λ n. max n (c.args.t.now.position + 1))
          (c.index.ensures ∙ get_default c.args.self.now.tops.items c.args.t.now.line c.index.result.now 0 c.requires.line));
      named = named_more rs (bare c.args.t.now) c.in-Some.lba c.args.self.now.named c.saturating_add-self.result c.in-Some.is h.named
          c.saturating_add-self.ensures;
    }

pub returns-in_default-clause-tally : goal.returns-in_default-clause-tally
returns-in_default-clause-tally c = λ sectors lines rs h.
    record {
      winners = winners_void sectors rs c.args.self.now.winners.items c.args.t.now h.winners c.in_default.is;
      tops = tops_noted lines rs c.args.self.now.tops.items (bare c.args.t.now) c.max.result h.tops c.requires.line
          (c.max.ensures ∙ ap (λ n. max n (c.args.t.now.position + 1))
          (c.index.ensures ∙ get_default c.args.self.now.tops.items c.args.t.now.line c.index.result.now 0 c.requires.line));
      named = named_void rs (bare c.args.t.now) c.args.self.now.named c.in_default.is h.named;
    }
