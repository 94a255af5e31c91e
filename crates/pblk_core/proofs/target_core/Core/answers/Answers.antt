use Rattle.std.proofs.Common.{◌<◌, sym, subst, ◌∙◌}
use Rattle.pblk_model.specs.Shape.{units}
use Rattle.pblk_world.specs.World.{log_of}
use Rattle.pblk_core.proofs.AnswerCounts.{count_told, counts_length}
use Rattle.pblk_core.proofs.target_core.Core.answers.Goals as goal

pub index-requires : goal.index-requires
index-requires c =
    let sd = c.requires.standing in
    let inside : c.args.unit < units sd.image.shape = subst (λ s. c.args.unit < units s) sd.stands.layout c.requires.inside in
    subst (λ n. c.args.unit < n) (sym (c.args.self.now.answers.ok.0 ∙ counts_length sd.image (log_of sd.world) c.args.self.now sd.stands)) inside

pub returns : goal.returns
returns c = λ i w mount st.
    count_told i (log_of w) c.args.self.now c.args.unit c.index.result.now st (subst (λ s. c.args.unit < units s) st.layout c.requires.inside)
    c.index.ensures
