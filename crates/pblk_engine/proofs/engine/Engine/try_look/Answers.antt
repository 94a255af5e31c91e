use Rattle.std.proofs.Common.{◌≡◌, ◌≤◌, sym, subst, ap, ◌∙◌, arith}
use Rattle.pblk_model.specs.declared.run.Front.{Front}
use Rattle.chronicle.specs.Prefixes.{logs_of}
use Rattle.pblk_engine.specs.Looks.{front_taken}
use Rattle.pblk_engine.proofs.ReadLooks.{has_looked}
use Rattle.pblk_engine.proofs.engine.Engine.try_look.Goals as goal

pub returns-clause-looked : goal.returns-clause-looked
returns-clause-looked g c _ =
    has_looked g.M.Mount.past c.args.worker.now c.tell.new.worker c.tell.new.heart.author.known c.args.seen c.args.lba c.look_all.new.out c.look_all.new.look
    c.tell.ensures.worker c.tell.ensures.keeps c.look_all.ensures.legal c.look_all.ensures.begun c.look_all.ensures.looked
    (let same : c.front.result ≡ front_taken (logs_of c.tell.new.heart.author.known 0) = c.front.ensures.front ∙ ap front_taken (sym c.tell.ensures.own) in
    let all : c.look_all.new.look.front ≡ c.front.result = c.look_all.ensures.looked.front ∙ sym same in
    subst (λ (f : Front). c.args.seen ≤ f.position) (sym all) (omega arith))
