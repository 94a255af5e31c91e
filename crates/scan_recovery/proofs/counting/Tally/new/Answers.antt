use Rattle.std.proofs.Common.{◌≡◌, Some, None, replicate, refl, rules}
use Rattle.scan_recovery.proofs.Tallies.{tally_none}
use Rattle.scan_recovery.proofs.counting.Tally.new.Goals as goal

pub returns : goal.returns
returns c =
    let winners : c.in_ok-winners.winners.items ≡ replicate c.args.sectors None =
    c.in_ok-winners.ensures.items_if_clones_equal (λ y. elim y [ None ↦ λ h. search rules | Some x ↦ λ h. search rules ]) in
    let tops : c.in_ok-tops.tops.items ≡ replicate c.args.lines 0 = c.in_ok-tops.ensures.items_if_clones_equal (λ y h. h) in record {
      tally = tally_none c.args.sectors c.args.lines _ winners tops refl;
    }
