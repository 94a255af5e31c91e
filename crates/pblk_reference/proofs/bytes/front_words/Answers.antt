use Rattle.pblk_reference.proofs.Words.{front_put}
use Rattle.pblk_reference.proofs.bytes.front_words.Goals as goal

pub returns : goal.returns
returns c =
    front_put c.args.kind c.args.line c.args.width c.args.long.now c.args.short.now c.new-out.result.items c.put_kind.new.out.items c.put_u32s.new.out.items
    c.put_u64s.new.out.items c.put_u32s-2.new.out.items
    c.new-out.ensures.items c.in_ok-put_kind.ensures c.in_ok-put_u32s.ensures c.in_ok-put_u64s.ensures c.in_ok-put_u32s-2.ensures
