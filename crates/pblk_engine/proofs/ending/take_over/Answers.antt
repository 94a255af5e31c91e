use Rattle.std.proofs.Common.{◌≡◌, ◌++◌, ◌∷◌, [], List, length, append_assoc, append-nil, sym, subst, ap, ◌∙◌, arith}
use Rattle.std.specs.Vec.Iter.{into_iter_items}
use Rattle.chronicle.specs.Handles.{AuthorView, TokenView}
use Rattle.chronicle.specs.Prefixes.{ArePrefixes, either, longer_of}
use Rattle.pblk_engine.specs.Endings.{HasTakenOver}
use Rattle.pblk_engine.specs.Workers.{WorkerView}
use Rattle.pblk_engine.proofs.TakingOver.{taken_next, taken_on}
use Rattle.pblk_engine.proofs.ending.take_over.Goals as goal
use Rattle.pblk_engine.proofs.RestingHearts.{empty_counts}

-- what was lent is the token
met_with : (new author : AuthorView) (lent token : TokenView) → lent ≡ token → new ≡ record author {
  known = longer_of author.known lent.known;
  makers = author.makers ++ lent.makers;
  spare = either author.spare lent.spare;
} → new ≡ record author {
  known = longer_of author.known token.known;
  makers = author.makers ++ token.makers;
  spare = either author.spare token.spare;
}
met_with new author lent token same met =
    met ∙ ap (λ (t : TokenView). record author {
      known = longer_of author.known t.known;
      makers = author.makers ++ t.makers;
      spare = either author.spare t.spare;
    }) same

pub loop-worker-preserved : goal.loop-worker-preserved
loop-worker-preserved g c =
    let at = c.loop-worker in
    let is = at.invariant.0 in
    let worker = c.in-Some.worker in
    let token = c.end-token.result.0 in
    let of = c.end-token.ensures.is_worker in
    let t = c.take_over.ensures in
    let steps : into_iter_items at.worker-iterator ≡ worker ∷ into_iter_items c.next.new.self = c.in-Some.ensures.steps.0 in (
      taken_next g.M.Mount.past c.args.author.now c.requires.past at.yielded at.author is token of.noted c.requires.engine c.take_over.new.self
          (met_with c.take_over.new.self at.author c.lend-lent.result token c.lend-lent.ensures.lent t.met) t.own t.keeps
          (subst (λ (x : TokenView). ArePrefixes x.known c.take_over.new.self.known) c.lend-lent.ensures.lent t.learns) t.legal t.begun g.M.Mount.chronicle
          worker c.end-token.result.1 c.end-token.result.2 c.end-token.ensures.made
          c.end-token.ensures.known of,
      append_assoc at.yielded (worker ∷ []) (into_iter_items c.next.new.self)
          ∙ ap (λ (rest : List WorkerView). at.yielded ++ rest) (sym steps) ∙ at.invariant.1,
      let was = at.invariant.2 in
          let gone = c.in-Some.ensures.steps.1 in
          let short = ap length steps in
          omega arith,
    )

pub returns-clause-taken_over : goal.returns-clause-taken_over
returns-clause-taken_over g c =
    let at = c.loop-worker in
    let none = c.in-None.ensures.steps in
    let empty : into_iter_items at.worker-iterator ≡ [] = empty_counts (into_iter_items at.worker-iterator) (sym at.invariant.2 ∙ none.0) in
    let whole : at.yielded ≡ c.args.workers.items =
    sym (append-nil at.yielded) ∙ ap (λ (rest : List WorkerView). at.yielded ++ rest) (sym empty) ∙ at.invariant.1
    ∙ c.into_iter-worker-iterator.ensures.into_iter_gives.0 in
    let t = c.take_over-2.ensures in
    subst (λ (workers : List WorkerView). HasTakenOver g.M.Mount.past c.args.author.now workers c.take_over-2.new.self) whole
    (taken_on g.M.Mount.past c.args.author.now c.requires.past at.yielded at.author at.invariant.0 c.args.names c.requires.names.noted c.requires.engine
    c.take_over-2.new.self (met_with c.take_over-2.new.self at.author c.lend-lent-2.result c.args.names c.lend-lent-2.ensures.lent t.met) t.own t.keeps
    (subst (λ (x : TokenView). ArePrefixes x.known c.take_over-2.new.self.known) c.lend-lent-2.ensures.lent t.learns) t.legal t.begun)
