use Rattle.std.proofs.Common.{◌≡◌, None, get_or, ap, ◌∙◌, arith}
use Rattle.std.specs.List.{flat_map, range_with_len}
use Rattle.std.specs.Option.{option_map}
use Rattle.std.proofs.lemmas.List.{length-map}
use Rattle.pblk_model.specs.declared.shape.Shape.{Shape}
use Rattle.pblk_model.specs.Bytes.{zeros}
use Rattle.pblk_model.specs.Contents.{sector_of}
use Rattle.scan_recovery.specs.Held.{thin_winner}
use Rattle.scan_recovery.specs.Traces.{bare}
use Rattle.scan_recovery.proofs.Held.{bytes_more, bytes_size, held_is, winner_inside, zeros_are}
use Rattle.scan_recovery.proofs.Tallies.{row_there}
use Rattle.scan_recovery.proofs.holding.sector_bytes.Goals as goal

pub sector_at-requires : goal.sector_at-requires
sector_at-requires c =
    let i = c.args.media.now in
    winner_inside i c.loop-winner.winner-index (get_or c.args.winners.now c.loop-winner.winner-index None)
    (row_there i.shape.capacity (thin_winner i)
    (option_map bare) c.args.winners.now c.loop-winner.winner-index None c.requires.winners c.loop-winner-test.true)

pub loop-winner-preserved : goal.loop-winner-preserved
loop-winner-preserved c =
    let i = c.args.media.now in
    let w = get_or c.args.winners.now c.loop-winner.winner-index None in
    let at = row_there i.shape.capacity (thin_winner i)
    (option_map bare) c.args.winners.now c.loop-winner.winner-index None c.requires.winners c.loop-winner-test.true in
    let size = ap (λ (s : Shape). s.sector) c.shape-size.ensures.shape in
    let none : c.deref.result.now ≡ zeros i.shape.sector = c.deref.ensures.value ∙ c.in_ok-zeros.ensures.items_if_clones_equal (λ y h. h)
    ∙ zeros_are c.shape-size.result.sector ∙ ap zeros size in
    bytes_more i c.loop-winner.winner-index c.loop-winner.bytes.items c.extend_from_slice.new.self.items c.sector_at.result.now
    c.in_ok-extend_from_slice.ensures.items
    (c.sector_at.ensures ∙ held_is i c.loop-winner.winner-index c.deref.result.now w none at) c.loop-winner.invariant

pub returns-clause-size : goal.returns-clause-size
returns-clause-size c =
    let i = c.args.media.now in
    let last : c.loop-winner.winner-index ≡ i.shape.capacity =
    omega (
      arith,
      c.loop-winner-test.false,
      c.loop-winner.auto.winner-index-end,
      c.requires.winners.count,
      length-map c.args.winners.now (option_map bare),
    ) in
    bytes_size i c.loop-winner.bytes.items c.requires.fit (c.loop-winner.invariant ∙ ap (λ n. flat_map (sector_of i) (range_with_len 0 n)) last)
