use Rattle.std.proofs.Common.{ap, map, subst, sym, ◌∙◌}
use Rattle.std.specs.Option.{option_map}
use Rattle.pblk_model.specs.declared.shape.Shape.{Shape}
use Rattle.pblk_model.specs.Image.{Image}
use Rattle.scan_recovery.specs.declared.sectors.Contents.{Contents}
use Rattle.scan_recovery.specs.Held.{thin_winner}
use Rattle.scan_recovery.specs.Holding.{IsContentsOf}
use Rattle.scan_recovery.specs.Traces.{bare}
use Rattle.scan_recovery.proofs.Held.{sectors_are}
use Rattle.scan_recovery.proofs.holding.contents.Goals as goal
use Rattle.pblk_model.specs.Tables.{IsTable}

pub sector_bytes-requires-clause-winners : goal.sector_bytes-requires-clause-winners
sector_bytes-requires-clause-winners c =
    subst (λ ws. IsTable c.in_ok-media.media.shape.capacity (thin_winner c.in_ok-media.media) (map (option_map bare) ws))
    (sym c.deref.ensures.value) c.in_ok-held.ensures.winners

pub returns : goal.returns
returns c =
    let i = c.in_ok-media.media in
    let shape = c.shape-shape.ensures.shape in
    let now : Contents = record { sectors = c.new-2.result; end = c.in_ok-held.held.summary.end } in
    subst (λ (j : Image). IsContentsOf j now) c.in_ok-media.ensures.image (record {
      sectors = c.new-2.ensures ∙ sectors_are i c.shape-shape.result.sector c.shape-shape.result.capacity c.in_ok-bytes.bytes.items c.in_ok-media.ensures.fit
          (ap (λ (s : Shape). s.sector) shape) (ap (λ (s : Shape). s.capacity) shape) c.in_ok-bytes.ensures.bytes;
      end = c.in_ok-held.ensures.summary.end;
    })
