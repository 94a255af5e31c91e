use Rattle.std.proofs.Common.{◌≡◌, ◌+◌, None, refl, sym, subst, arith}
use Rattle.pblk_model.specs.Tables.{IsTable}
use Rattle.pblk_model.proofs.TableLemmas.{table_none, table_push}
use Rattle.image_check.proofs.table.none_of.Goals as goal

pub loop-place-init : goal.loop-place-init
loop-place-init g c = subst (IsTable 0 (λ k. None)) (sym c.in_ok-none.ensures.items) (table_none (λ k. None))

pub loop-place-preserved : goal.loop-place-preserved
loop-place-preserved g c = subst (IsTable (c.loop-place._place + 1) (λ k. None)) (sym c.in_ok-push.ensures.items)
    (table_push c.loop-place._place (λ k. None) c.loop-place.none.items None c.loop-place.invariant refl)

pub returns : goal.returns
returns g c =
    let end : c.loop-place._place ≡ c.args.count = omega arith in
    subst (λ n. IsTable n (λ k. None) c.loop-place.none.items) end c.loop-place.invariant
