use Rattle.std.proofs.Common.{◌≡◌, ◌+◌, ◌*◌, length, sym, subst, ap, arith}
use Rattle.pblk_model.specs.Frames.{Region, count_out}
use Rattle.block_target.specs.MountFrames.{AreFrames}
use Rattle.block_target.proofs.opened.Works.give_up.Goals as goal

pub give_back-requires : goal.give_back-requires
give_back-requires c =
    let r = c.requires in
    let s = r.shape in
    let none = ap length r.empty in
    let out : count_out c.close.new.pool.left ≡ s.ring + 1 + 16 * r.sessions = omega (arith, none, c.close.ensures.fewer_out, r.works.out) in
    record {
      frames = (
        s,
        r.found.end,
        r.sessions,
        subst (λ (region : Region). AreFrames s r.found.end r.sessions region c.args.self.frames) (sym c.close.ensures.region) r.works.frames,
        out,
      );
    }
