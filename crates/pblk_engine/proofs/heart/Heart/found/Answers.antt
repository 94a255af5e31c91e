use Rattle.std.proofs.Common.{◌≡◌, ℕ, refl, sym, subst, ◌∙◌}
use Rattle.chronicle.specs.Prefixes.{logs_of}
use Rattle.pblk_core.specs.declared.work.Work.{Work}
use Rattle.pblk_engine.specs.Alone.{CanBeDone}
use Rattle.pblk_engine.specs.Settlings.{IsWornAt}
use Rattle.pblk_engine.proofs.LoneSettlings.{copy_can, work_told, worn_told}
use Rattle.pblk_engine.proofs.heart.Heart.found.Goals as goal

pub returns-in-Worn-clause-worn : goal.returns-in-Worn-clause-worn
returns-in-Worn-clause-worn g c wanted have same =
    subst (worn_told (λ (n m : ℕ). (n ≡ c.args.claimed) × IsWornAt g.M.Mount.past.image (logs_of c.args.self.now.author.known) c.args.claimed m)) same
    (refl, c.settlement.ensures.worn c.in-Worn.have c.in-Worn.is)

pub returns-else-has_stripe_under_way-clause-work : goal.returns-else-has_stripe_under_way-clause-work
returns-else-has_stripe_under_way-clause-work g c work same =
    let next = c.next_work-work in
    subst (work_told (λ (w : Work). (w ≡ c.args.self.now.work) × CanBeDone g.M.Mount.past.image c.args.self.now.author.known w)) same (
      next.ensures.named,
      copy_can g.M.Mount.past.image c.args.self.now.author.known next.result c.in-Copy.is (next.ensures.reset_first c.in-Copy.is)
          (c.has_stripe_under_way.ensures.none c.if-has_stripe_under_way.false (sym next.ensures.named ∙ c.in-Copy.is)),
    )

pub returns-in_default-clause-work : goal.returns-in_default-clause-work
returns-in_default-clause-work g c work same =
    let next = c.next_work-work in
    subst (work_told (λ (w : Work). (w ≡ c.args.self.now.work) × CanBeDone g.M.Mount.past.image c.args.self.now.author.known w)) same (
      next.ensures.named,
      record {
        some = c.in_default.not-Nothing;
        inside = λ line unit is. (next.ensures.reset line unit is).unit_in_range;
        reset = λ is. absurd (c.in_default.not-Copy is);
        alone = λ is. absurd (c.in_default.not-Copy is);
      },
    )
