use Rattle.std.proofs.Common.{◌≡◌, ◌/◌, ◌*◌, ◌≤◌, sym, subst, ap, ◌∙◌}
use Rattle.pblk_engine.proofs.RunParts.{count_is}
use Rattle.pblk_engine.proofs.sector_looks.count_of.Goals as goal

pub returns : goal.returns
returns g =
    let run = g.requires.run in
    let count : g.args.bytes / g.args.size ≡ run.0 = count_is g.args.bytes g.args.size run.0 g.requires.some run.2 in
    record {
      whole = run.2 ∙ ap (λ n. n * g.args.size) (sym count);
      few = subst (λ n. n ≤ 16) (sym count) run.1;
    }
