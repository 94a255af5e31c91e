use Rattle.std.proofs.lemmas.Result.{on_ok_weaker}
use Rattle.pblk_reference.proofs.Words.{kind_put, added}
use Rattle.pblk_reference.proofs.bytes.put_kind.Goals as goal

pub returns : goal.returns
returns c =
    let put = kind_put c.args.kind c.to_le_bytes.result c.to_le_bytes-2.result c.to_le_bytes-3.result c.args.out.now.items c.extend_from_slice.new.self.items
    c.extend_from_slice-2.new.self.items c.extend_from_slice-3.new.self.items c.to_le_bytes.ensures c.to_le_bytes-2.ensures c.to_le_bytes-3.ensures
    c.in_ok-extend_from_slice.ensures.items c.in_ok-extend_from_slice-2.ensures.items in
    on_ok_weaker c.extend_from_slice-3.result put
    (added c.extend_from_slice-3.result c.extend_from_slice-3.new.self.items _ _ c.extend_from_slice-3.ensures.items)
