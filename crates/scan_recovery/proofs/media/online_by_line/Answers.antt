use Rattle.std.proofs.Common.{◌+◌, ◌<◌, ◌^◌, [], ◌∷◌, map, sym, ap, subst, ◌∙◌}
use Rattle.std.specs.List.{AllByRecursion}
use Rattle.pblk_layout.specs.Online.{units_in}
use Rattle.pblk_model.specs.Image.{line_units}
use Rattle.pblk_model.specs.Shape.{units}
use Rattle.scan_recovery.specs.Units.{image_of}
use Rattle.scan_recovery.proofs.media.online_by_line.Goals as goal
use Rattle.pblk_model.proofs.Lists.{all_append}
use Rattle.pblk_model.proofs.Maps.{map_last}
use Rattle.pblk_model.specs.Tables.{IsTable}
use Rattle.pblk_model.proofs.TableLemmas.{table_push}

pub loop-line-preserved : goal.loop-line-preserved
loop-line-preserved c =
    let i = image_of c.args.shape.now (map (λ u. u.unit) c.args.units.now) in
    let live = c.online_units.result in
    let more = ap (map units_in) c.in_ok-push.ensures.items ∙ map_last units_in c.loop-line.online.items live in
    record {
      online = subst (IsTable (c.loop-line.line + 1) (line_units i)) (sym more)
          (table_push c.loop-line.line (line_units i) (map units_in c.loop-line.online.items)
          (units_in live) c.loop-line.invariant.online c.online_units.ensures.units);
      below = subst (AllByRecursion (λ n. n < 2 ^ units c.args.shape.now)) (sym c.in_ok-push.ensures.items)
          (all_append (λ n. n < 2 ^ units c.args.shape.now) c.loop-line.online.items (live ∷ []) c.loop-line.invariant.below
          (c.online_units.ensures.below, tt));
    }
