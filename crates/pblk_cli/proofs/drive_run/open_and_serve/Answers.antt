use Rattle.pblk_cli.specs.Serving.{helpers_for, units_of, wear_of}
use Rattle.pblk_cli.proofs.Servings.{is_opening, refused_back, refused_served}
use Rattle.pblk_cli.proofs.drive_run.open_and_serve.Goals as goal

pub returns-in-Ok-serve-clause-back : goal.returns-in-Ok-serve-clause-back
returns-in-Ok-serve-clause-back g c =
    let s = c.args.shape.now in
    let olds = units_of c.args.units.items in
    let wears = wear_of c.args.units.items in
    let opening = is_opening s olds wears _ _ c.in-Ok.opened c.requires.opens c.in-Ok.ensures.opened c.in-Ok.ensures.done in
    c.in-Ok-serve.ensures.back s olds wears opening

pub returns-in-Ok-serve-clause-served : goal.returns-in-Ok-serve-clause-served
returns-in-Ok-serve-clause-served g c =
    let s = c.args.shape.now in
    let olds = units_of c.args.units.items in
    let wears = wear_of c.args.units.items in
    let opening = is_opening s olds wears _ _ c.in-Ok.opened c.requires.opens c.in-Ok.ensures.opened c.in-Ok.ensures.done in
    c.in-Ok-serve.ensures.served s olds wears opening

pub returns-in-Err-serve-clause-back : goal.returns-in-Err-serve-clause-back
returns-in-Err-serve-clause-back g c =
    let s = c.args.shape.now in
    let olds = units_of c.args.units.items in
    let wears = wear_of c.args.units.items in
    let opening = is_opening s olds wears _ _ c.in-Ok.opened c.requires.opens c.in-Ok.ensures.opened c.in-Ok.ensures.done in
    c.in-Err-serve.ensures.handed_back s olds wears opening

pub returns-in-Err-clause-back : goal.returns-in-Err-clause-back
returns-in-Err-clause-back g c =
    let s = c.args.shape.now in
    let olds = units_of c.args.units.items in
    let news = units_of c.in-Err.field-0.units.items in
    let refused = c.in-Err.ensures.refused in
    let readied = c.a_refused_opening_is_of_a_legal_world.ensures s olds news c.requires.opens refused.handed_back in
    refused_back s olds news refused.handed_back readied (wear_of c.args.units.items) (wear_of c.in-Err.field-0.units.items) refused.wear

pub returns-in-Err-clause-served : goal.returns-in-Err-clause-served
returns-in-Err-clause-served g c =
    let s = c.args.shape.now in
    let olds = units_of c.args.units.items in
    let news = units_of c.in-Err.field-0.units.items in
    let refused = c.in-Err.ensures.refused in
    let readied = c.a_refused_opening_is_of_a_legal_world.ensures s olds news c.requires.opens refused.handed_back in
    refused_served s olds news refused.handed_back readied c.args.script.now (helpers_for c.args.lanes c.args.collector) c.in-Err.field-0.cause
    c.not_opened.result refused.cause c.not_opened.ensures.named c.not_opened.ensures.memory c.requires.opens.accepted c.requires.fits c.requires.opens.fit
