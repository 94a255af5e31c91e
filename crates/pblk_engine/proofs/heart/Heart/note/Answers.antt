use Rattle.std.proofs.Common.{sym, subst, ap, ◌∙◌}
use Rattle.pblk_world.specs.AtRest.{AreResetsNoted}
use Rattle.pblk_core.specs.Resets.{IsToReset}
use Rattle.pblk_core.proofs.NamedReset.{to_reset}
use Rattle.pblk_core.proofs.StandsReset.{named_in}
use Rattle.chronicle.specs.Prefixes.{Prefixes, logs_of}
use Rattle.pblk_engine.specs.Hearts.{HeartView}
use Rattle.pblk_engine.proofs.heart.Heart.note.Goals as goal

pub returns-clause-noted : goal.returns-clause-noted
returns-clause-noted g c =
    subst (λ (p : Prefixes). AreResetsNoted (logs_of p)) (sym c.note.ensures.note_known) c.self.invariant.0.settled.heart.noted

pub returns-clause-to_reset : goal.returns-clause-to_reset
returns-clause-to_reset g c = λ line unit named.
    let i = g.M.Mount.past.image in
    let known = c.self.inside.author.known in
    subst (λ (p : Prefixes). IsToReset i (logs_of p) line unit) (sym c.note.ensures.note_known)
    (to_reset i (logs_of known) line unit (named_in i (logs_of known) c.self.inside.core line unit c.self.invariant.0.settled.heart.stands
    (ap (λ (v : HeartView). v.work) c.self.view_is ∙ named)))
