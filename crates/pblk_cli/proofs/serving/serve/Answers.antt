use Rattle.std.proofs.Common.{sym, subst, ◌∙◌}
use Rattle.std.proofs.lemmas.Result.{IfErr-weaker, IfOk-weaker}
use Rattle.chronicle.specs.Views.{Past}
use Rattle.pblk_model.specs.Script.{ScriptFits}
use Rattle.scan_recovery.specs.Readying.{AreHandedBack}
use Rattle.pblk_cli.specs.Serving.{helpers_for}
use Rattle.pblk_cli.proofs.Servings.{over_back, refused_back, served_back, served_so}
use Rattle.pblk_cli.proofs.serving.serve.Goals as goal

pub returns-in-Ok-clause-served : goal.returns-in-Ok-clause-served
returns-in-Ok-clause-served g c = IfOk-weaker c.serve_target.result _ _ (λ ran is s old wear opening.
    served_so s old wear c.args.opened opening g.M.Mount.past g.M.Mount.key g.M.Mount.handed g.M.Mount.wear
    c.requires.named.its_past c.requires.named.its_units c.requires.named.its_wear
    c.args.script.now c.args.lanes (helpers_for c.args.lanes c.args.collector) _ _ ran.1 is
    (subst (λ (p : Past). ScriptFits p.image.shape.capacity c.args.script.now) opening.opened.past_is c.requires.fits)) c.serve_target.ensures.served

pub returns-in-Ok-clause-back : goal.returns-in-Ok-clause-back
returns-in-Ok-clause-back g c = IfOk-weaker c.serve_target.result _ _ (λ ran is s old wear opening.
    served_back s old wear c.args.opened opening g.M.Mount.past g.M.Mount.key g.M.Mount.handed g.M.Mount.wear
    c.requires.named.its_past c.requires.named.its_units c.requires.named.its_wear
    c.args.script.now c.args.lanes (helpers_for c.args.lanes c.args.collector) _ _ ran.1 is) c.serve_target.ensures.served

pub returns-in-Ok-clause-handed_back : goal.returns-in-Ok-clause-handed_back
returns-in-Ok-clause-handed_back g c = IfErr-weaker c.serve_target.result _ _ (λ refused is s old wear opening.
    over_back s old wear c.args.opened opening g.M.Mount.past g.M.Mount.key g.M.Mount.handed g.M.Mount.wear
    c.requires.named.its_past c.requires.named.its_units c.requires.named.its_wear _ _ is) c.serve_target.ensures.over

pub returns-in-Err-clause-handed_back : goal.returns-in-Err-clause-handed_back
returns-in-Err-clause-handed_back g c = λ s old wear opening.
    let handed : AreHandedBack s old _ = subst (AreHandedBack s old) (sym c.in-Err.ensures.units) opening.opened.is.units in
    refused_back s old _ handed (c.a_refused_opening_is_of_a_legal_world.ensures s old _ opening.opens handed) wear _
    (c.in-Err.ensures.wear ∙ opening.opened.wear_is)
