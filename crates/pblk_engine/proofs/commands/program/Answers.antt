use Rattle.std.proofs.Common.{◌≡◌, ℕ, ◌*◌, sym, subst, ap, ◌∙◌}
use Rattle.std.specs.Prelude.{Result, Err, slice_get}
use Rattle.pblk_model.specs.declared.shape.Shape.{Shape}
use Rattle.pblk_model.specs.ChunkStep.{Write}
use Rattle.pblk_model.specs.UnitLog.{Failed, UnitOutcome}
use Rattle.unit_port.specs.Unit.{Steps, TellsDone}
use Rattle.unit_port.specs.declared.unit.UnitErr.{UnitErr}
use Rattle.unit_port.specs.declared.unit.UnitErr.TheVariants as errors
use Rattle.pblk_engine.proofs.KeptBlocks.{kept_is}
use Rattle.pblk_engine.proofs.commands.program.Goals as goal

failed_told : (r : Result (Unit {0}) UnitErr) (x : UnitErr) (o : UnitOutcome) → r ≡ Err x → x ≡ errors.Failed → TellsDone r o → (k : ℕ) × (o ≡ Failed k)
failed_told r x o is same told = subst (λ (s : Result (Unit {0}) UnitErr). TellsDone s o) (is ∙ ap (λ (y : UnitErr). Err y) same) told

pub overflow_sub-result : goal.overflow_sub-result
overflow_sub-result g c =
    let stripe = c.args.stripe.now.stripe in
    let old = g.U.Unit.model c.args.unit.now in
    let new = g.U.Unit.model c.write.new.unit in
    let given = c.write.ensures.given in
    let told = failed_told c.write.result c.in-Err-Failed.field-0 given.outcome c.in-Err-Failed.is c.in-Err-Failed.field-0-is given.told in
    let steps : Steps old stripe.chunk (Write stripe.at stripe.blocks) (Failed told.0) new =
    subst (λ (o : UnitOutcome). Steps old stripe.chunk (Write stripe.at stripe.blocks) o new) told.1 given.steps in
    let found = c.state-pointer.ensures in
    (kept_is old new stripe.chunk stripe.at stripe.blocks told.0 steps c.at.result c.state-pointer.result.1 found.0 c.at.ensures
    (ap (slice_get new.media) (sym c.chunk.ensures.chunk) ∙ found.1) found.3).0

pub returns-in-Err-Failed-clause-given : goal.returns-in-Err-Failed-clause-given
returns-in-Err-Failed-clause-given g c =
    let stripe = c.args.stripe.now.stripe in
    let old = g.U.Unit.model c.args.unit.now in
    let new = g.U.Unit.model c.write.new.unit in
    let given = c.write.ensures.given in
    let told = failed_told c.write.result c.in-Err-Failed.field-0 given.outcome c.in-Err-Failed.is c.in-Err-Failed.field-0-is given.told in
    let steps : Steps old stripe.chunk (Write stripe.at stripe.blocks) (Failed told.0) new =
    subst (λ (o : UnitOutcome). Steps old stripe.chunk (Write stripe.at stripe.blocks) o new) told.1 given.steps in
    let found = c.state-pointer.ensures in
    let kept = (kept_is old new stripe.chunk stripe.at stripe.blocks told.0 steps c.at.result c.state-pointer.result.1 found.0 c.at.ensures
    (ap (slice_get new.media) (sym c.chunk.ensures.chunk) ∙ found.1) found.3).1 in
    record {
      outcome = given.outcome;
      told = (told.0, told.1, kept ∙ ap (λ (s : Shape). told.0 * s.ws_min) (sym c.requires.shape));
      steps = given.steps;
      fits = given.fits;
      quiet = given.quiet;
    }
