use Rattle.std.proofs.Common.{sym, subst, arith}
use Rattle.pblk_model.specs.Frames.{Region}
use Rattle.block_target.specs.MountFrames.{AreFrames}
use Rattle.block_target.proofs.opened.Works.new.Goals as goal

pub returns-in-Ok-new : goal.returns-in-Ok-new
returns-in-Ok-new c = record {
  frames = subst (λ (region : Region). AreFrames c.args.shape.now c.args.found.end c.args.sessions region c.in-Ok.frames)
      (sym c.in-Ok.ensures.region) c.in-Ok.ensures.frames;
  out = omega (arith, c.in_ok-pool.ensures.out, c.in-Ok.ensures.out);
  core = record {
    stands = c.in-Ok-new.ensures.stands;
    collects = c.in-Ok-new.ensures.collects;
    idle = c.in-Ok-new.ensures.idle;
    unasked = c.in-Ok-new.ensures.pad;
  };
}
