use Rattle.std.proofs.Common.{◌≡◌, ◌*◌, ◌∙◌, ap, arith, length, length-take, sym, take}
use Rattle.target_bench.proofs.phases.Phase.read.Goals as goal

pub read-requires : goal.read-requires
read-requires g c =
    let out = c.deref_mut.result.now in
    let bytes = ap length c.deref_mut.ensures.value in
    let part : length (take (c.args.count * 4096) out) ≡ c.args.count * 4096 =
    omega (arith, length-take (c.args.count * 4096) out, bytes, c.requires.bytes, c.requires.few) in
    record {
      sectors = record {
        count = c.args.count;
        some = c.requires.some;
        few = c.requires.few;
        whole = part ∙ ap (λ size. c.args.count * size) (sym c.requires.sector);
      };
    }
