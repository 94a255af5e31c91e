use Rattle.std.proofs.Common.{◌≡◌, ◌<◌, [], ℕ, List, ◌∷◌, ◌++◌, length, sym, ap, ◌∙◌, subst, arith}
use Rattle.std.specs.List.{All, Contains, flat_map}
use Rattle.std.proofs.lemmas.List.FromFn.{length-range_with_len}
use Rattle.stripe_placer.specs.Placing.{Placing, positions_in}
use Rattle.table_bench.proofs.Waiting.{held_is, range_below, range_lacks}
use Rattle.table_bench.proofs.waits.Waits.wait_one.Goals as goal
use Rattle.pblk_model.proofs.Maps.{range_from_0}

pub wait-requires-clause-room : goal.wait-requires-clause-room
wait-requires-clause-room c =
    let w = c.args.self.now in
    omega (arith, ap (λ (xs : List ℕ). length xs) (held_is w.placer w.next w.lost w.fresh w.idle), length-range_with_len 0 w.next, w.ring, c.requires)

pub wait-requires-clause-another : goal.wait-requires-clause-another
wait-requires-clause-another c =
    let w = c.args.self.now in
    λ h. range_lacks w.next (subst (λ (xs : List ℕ). Contains xs w.next) (held_is w.placer w.next w.lost w.fresh w.idle) h)

pub wait-requires-clause-rises : goal.wait-requires-clause-rises
wait-requires-clause-rises c =
    let w = c.args.self.now in
    λ e. subst (λ (xs : List ℕ). All (λ q. q < w.next) xs) (sym w.fresh) (range_below w.next)

pub invariant_of-self : goal.invariant_of-self
invariant_of-self c =
    let w = c.args.self.now in
    record {
      lost = ap (λ (p : Placing). p.entries.lost) c.wait.ensures ∙ w.lost;
      fresh = ap (λ (p : Placing). p.entries.fresh) c.wait.ensures ∙ ap (λ (xs : List ℕ). xs ++ w.next ∷ []) w.fresh ∙ sym (range_from_0 w.next);
      idle = ap (λ (p : Placing). flat_map positions_in p.units) c.wait.ensures ∙ w.idle;
      ring = ap (λ (p : Placing). p.shape.ring) c.wait.ensures ∙ w.ring;
    }
