use Rattle.pblk_reference.specs.Words.{pair_words}
use Rattle.pblk_reference.proofs.Words.{piece_more}
use Rattle.pblk_reference.proofs.end_record.put_pairs.Goals as goal
use Rattle.pblk_model.proofs.Maps.{pieces_all}

pub loop-pair-preserved : goal.loop-pair-preserved
unfolding pair_words
loop-pair-preserved c = piece_more pair_words c.args.pairs.now c.loop-pair.pair-index
    (record { lba = 0; position = 0 }) c.args.out.now.items c.loop-pair.out.items c.put_u64s.new.out.items c.loop-pair-test.true c.in_ok-put_u64s.ensures
    c.loop-pair.invariant

pub returns : goal.returns
returns c = pieces_all pair_words c.args.pairs.now c.loop-pair.pair-index c.args.out.now.items c.loop-pair.out.items c.loop-pair-test.false
    c.loop-pair.invariant
