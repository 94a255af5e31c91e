use Rattle.std.proofs.lemmas.Result.{on_ok_weaker}
use Rattle.pblk_reference.proofs.Words.{row_put}
use Rattle.pblk_reference.proofs.start.put_row.Goals as goal

pub returns : goal.returns
returns c =
    let put = row_put (record { line = c.row.inside.line; seq = c.row.inside.seq; bound = c.row.inside.bound }) c.args.row.now c.args.out.now.items
    c.put_u32s.new.out.items c.put_u64s.new.out.items c.row.view_is c.in_ok-put_u32s.ensures in
    on_ok_weaker c.put_u64s.result put c.put_u64s.ensures
