use Rattle.std.proofs.Common.{◌≡◌, inl, inr, ℕ, ◌≤◌, sym, subst, ap, ◌∙◌, arith}
use Rattle.pblk_model.specs.declared.run.Front.{Front}
use Rattle.pblk_world.specs.Fronts.{taken}
use Rattle.chronicle.specs.Prefixes.{logs_of}
use Rattle.pblk_engine.specs.Settlings.{IsWornAt}
use Rattle.pblk_engine.specs.declared.winding_down.Settlement.{Settlement}
use Rattle.pblk_engine.specs.declared.winding_down.Settlement.TheVariants as settlements
use Rattle.pblk_engine.proofs.Settlings.{worn_at}
use Rattle.pblk_engine.proofs.heart.Heart.settlement.Goals.{then-not-is_due-via-then-not-is_due, then-not-is_due-via-else-not-is_due+then-is_stuck}
use Rattle.pblk_engine.proofs.heart.Heart.settlement.Goals as goal

-- the position from which nothing is on the drive
have_of : ℕ → Settlement → ℕ
have_of other settlements.Settled = other
have_of other (settlements.Worn have) = have
have_of other settlements.Behind = other

pub returns-then-not-is_due-clause-settled : goal.returns-then-not-is_due-clause-settled
returns-then-not-is_due-clause-settled g c same =
    let i = g.M.Mount.past.image in
    let logs = logs_of c.args.self.now.author.known in
    let all : c.args.claimed ≡ taken (logs 0) = sym c.if-front-claimed.false ∙ ap (λ (f : Front). f.position) c.front.ensures.front in
    record {
      all_taken = all;
      on_drive = sym (ap (λ (f : Front). f.position) c.synced-have.ensures) ∙ c.if-have-claimed.true ∙ all;
      resting = elim c.then-not-is_due.branch [
        | then-not-is_due-via-then-not-is_due w ↦ inl (sym c.is_due.ensures ∙ w.if-not-is_due.true)
        | then-not-is_due-via-else-not-is_due+then-is_stuck w ↦
            let stuck = w.is_stuck.ensures.0 w.if-is_stuck.true in
            inr (c.requires.rest stuck.0 stuck.1 stuck.2 0 (omega arith))
      ];
    }

pub returns-then-is_stuck-2-clause-worn : goal.returns-then-is_stuck-2-clause-worn
unfolding have_of
returns-then-is_stuck-2-clause-worn g c have same =
    let i = g.M.Mount.past.image in
    let logs = logs_of c.args.self.now.author.known in
    let all : c.args.claimed ≡ taken (logs 0) = sym c.if-front-claimed.false ∙ ap (λ (f : Front). f.position) c.front.ensures.front in
    let stuck = c.is_stuck-then-claimed-pad_target.ensures.0 c.if-is_stuck-2.true in
    let asked : c.args.claimed ≤ c.args.self.now.pad = subst (λ n. c.args.claimed ≤ n) c.pad_target.ensures c.if-claimed-pad_target.true in
    subst (λ n. IsWornAt i logs c.args.claimed n) (ap (have_of 0) same)
    (worn_at i logs c.args.claimed c.synced-have.result.position all (ap (λ (f : Front). f.position) c.synced-have.ensures) c.if-have-claimed-2.true
    (c.requires.rest stuck.0 stuck.1 stuck.2 c.args.claimed asked))
