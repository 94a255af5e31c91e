use Rattle.std.proofs.Common.{◌≡◌, ◌++◌, List, Vec, Global, map, ap, ◌∙◌, subst}
use Rattle.std.specs.List.{flat_map}
use Rattle.pblk_model.specs.ImageFile.{block_bytes}
use Rattle.ocssd_chunks.specs.DriveChunk.{DriveChunk}
use Rattle.stripe_parity.specs.declared.kept.KeptChunk.{KeptChunk}
use Rattle.stripe_parity.specs.ParityBytes.{header_bytes, kept_bytes, parity_bytes}
use Rattle.stripe_parity.specs.ParityFile.{ParityFile}
use Rattle.stripe_parity.proofs.Putting.{three_put}
use Rattle.stripe_parity.proofs.parity.Parity.put_parts.Goals as goal

pub returns : goal.returns
returns c =
    let p = c.self.inside in
    let o0 = c.args.out.now.items in
    let o1 = c.put.new.out.items in
    let o2 = c.put_units.new.out.items in
    let o3 = c.put_rows.new.out.items in
    subst (λ (q : ParityFile). o3 ≡ o0 ++ parity_bytes q) c.self.view_is
    (three_put o0 o1 o2 o3 (header_bytes p.shape) (flat_map (flat_map kept_bytes) (map (λ (of : Vec KeptChunk Global). of.items) p.kept.items))
    (flat_map (flat_map block_bytes) (map (λ (r : DriveChunk). r.chunk.blocks) p.rows.items))
    (c.in_ok-put.ensures ∙ ap (λ l. o0 ++ l) c.header_of.ensures)
    (c.in_ok-put_units.ensures ∙ ap
    (λ (ks : List (Vec KeptChunk Global)). o1 ++ flat_map (flat_map kept_bytes) (map (λ (of : Vec KeptChunk Global). of.items) ks)) c.deref.ensures.value)
    (c.in_ok-put_rows.ensures ∙ ap
    (λ (rs : List DriveChunk). o2 ++ flat_map (flat_map block_bytes) (map (λ (r : DriveChunk). r.chunk.blocks) rs)) c.deref-2.ensures.value))
