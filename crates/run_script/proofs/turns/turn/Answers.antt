use Rattle.std.proofs.Common.{◌≡◌, ◌≤◌, ◌<◌, ◌+◌, ◌++◌, ◌∷◌, [], true, false, refl, sym, ap, ◌∙◌, subst, map, length, inl, inr, arith}
use Rattle.std.proofs.lemmas.List.{append-nil, length-append, length-map, length-set}
use Rattle.run_script.specs.Turns.{TakesTurn}
use Rattle.run_script.proofs.RunOnLoops.{turned-start, turned-next, turned-end, turn_at, turn_put}
use Rattle.run_script.proofs.turns.turn.Goals as goal
use Rattle.run_script.proofs.turns.turn.Goals.{then-rest-thread, else-rest-thread}
use Rattle.pblk_model.proofs.Parts.{drop_past}

pub loop-index-init : goal.loop-index-init
loop-index-init c = (refl, [], refl, refl, turned-start c.args.names.now (map (λ x. x.now) c.args.left.now))

pub loop-index-preserved : goal.loop-index-preserved
loop-index-preserved c =
    let all = map (λ x. x.now) c.args.left.now in
    let inv = c.loop-index.invariant in
    let thread = c.index-left-index.result in
    let rest = c.run_on-rest.result in
    let within : c.loop-index.index < length c.loop-index.left = omega (arith, inv.0, c.loop-index-test.true) in
    let at = turn_at (λ x. x.now) c.loop-index.left inv.1 all c.loop-index.index thread inv.3 inv.2 within c.index-left-index.is in (
      length-set c.loop-index.left c.loop-index.index rest ∙ inv.0,
      inv.1 ++ rest.now ∷ [],
      length-append inv.1 (rest.now ∷ []) ∙ ap (λ k. k + 1) inv.2,
      turn_put (λ x. x.now) c.loop-index.left inv.1 all c.loop-index.index rest thread.now inv.3 inv.2 at,
      turned-next c.args.names.now c.loop-index.names c.run_on-rest.new.names all c.loop-index.index inv.1 c.loop-index.moved c.if-rest-thread.moved
          thread.now rest.now inv.4 at c.run_on-rest.ensures.rest c.run_on-rest.ensures.length
          (λ e. elim c.if-rest-thread.branch [ then-rest-thread w ↦ inr w.if-rest-thread.true | else-rest-thread w ↦ inl (sym w.moved-is ∙ e) ])
          (λ e. elim c.if-rest-thread.branch [
            | then-rest-thread w ↦ absurd (let both : true ≡ false = sym w.moved-is ∙ e in cc)
            | else-rest-thread w ↦ (sym w.moved-is ∙ e, w.if-rest-thread.false)
          ]),
    )

pub returns-clause-rest : goal.returns-clause-rest
returns-clause-rest c =
    let all = map (λ x. x.now) c.args.left.now in
    let inv = c.loop-index.invariant in
    let past : length all ≤ c.loop-index.index = rw (length-map) (c.loop-index-test.false) in
    let none = drop_past all c.loop-index.index past in
    subst (TakesTurn c.args.names.now c.loop-index.names all) (sym (inv.3 ∙ ap (λ ts. inv.1 ++ ts) none ∙ append-nil inv.1))
    (turned-end c.args.names.now c.loop-index.names all c.loop-index.index inv.1 c.loop-index.moved inv.4 none).0
