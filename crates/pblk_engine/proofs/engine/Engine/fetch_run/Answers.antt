use Rattle.std.proofs.Common.{◌≡◌, ◌*◌, ◌+◌, ◌-◌, ◌<◌, ◌≤◌, Bool, true, false, get_or, Ok, Some, None, length, sym, subst, ap, ◌∙◌, arith}
use Rattle.pblk_model.proofs.Options.{none_unless}
use Rattle.pblk_model.proofs.Parts.{part_length}
use Rattle.chronicle.specs.Prefixes.{logs_of}
use Rattle.pblk_engine.specs.Reads.{AreLatest, IsLatest}
use Rattle.pblk_engine.proofs.RunFetches.{fetching_begins, item_there, next_fetched, next_none, next_place, own_place, run_lost, run_well, told_err}
use Rattle.pblk_engine.proofs.ReadFetches.{well_then}
use Rattle.pblk_engine.proofs.RunParts.{ends_before}
use Rattle.pblk_engine.proofs.SectorPlaces.{block_low}
use Rattle.pblk_engine.proofs.engine.Engine.fetch_run.Goals as goal

pub loop-index-init : goal.loop-index-init
loop-index-init g c =
    fetching_begins g.M.Mount.past g.M.Mount.handed c.args.worker.now.known c.args.lba c.args.look.now c.args.worker.now c.args.out.now c.requires.looked

pub fetch_place-requires-clause-unit : goal.fetch_place-requires-clause-unit
fetch_place-requires-clause-unit g c =
    (next_place g.M.Mount.past g.M.Mount.handed c.args.worker.now.known c.args.lba c.args.look.now c.args.worker.now c.loop-index.worker c.loop-index.index
    c.loop-index.out c.loop-index.invariant c.in-Some.place c.requires.looked.few c.requires.looked.places c.loop-index-test.true c.in-Some.is).unit

pub fetch_place-requires-clause-line : goal.fetch_place-requires-clause-line
fetch_place-requires-clause-line g c =
    (next_place g.M.Mount.past g.M.Mount.handed c.args.worker.now.known c.args.lba c.args.look.now c.args.worker.now c.loop-index.worker c.loop-index.index
    c.loop-index.out c.loop-index.invariant c.in-Some.place c.requires.looked.few c.requires.looked.places c.loop-index-test.true c.in-Some.is).line

pub fetch_place-requires-clause-block : goal.fetch_place-requires-clause-block
fetch_place-requires-clause-block g c =
    block_low g.M.Mount.past.image (logs_of c.args.worker.now.known) (c.args.lba + c.loop-index.index) c.in-Some.place c.requires.looked.accepted
    (next_place g.M.Mount.past g.M.Mount.handed c.args.worker.now.known c.args.lba c.args.look.now c.args.worker.now c.loop-index.worker c.loop-index.index
    c.loop-index.out c.loop-index.invariant c.in-Some.place c.requires.looked.few c.requires.looked.places c.loop-index-test.true c.in-Some.is)

pub fetch_place-requires-clause-lba : goal.fetch_place-requires-clause-lba
fetch_place-requires-clause-lba g c =
    let its = next_place g.M.Mount.past g.M.Mount.handed c.args.worker.now.known c.args.lba c.args.look.now c.args.worker.now c.loop-index.worker
    c.loop-index.index c.loop-index.out c.loop-index.invariant c.in-Some.place c.requires.looked.few c.requires.looked.places c.loop-index-test.true
    c.in-Some.is in
    subst (λ n. n < g.M.Mount.past.image.shape.capacity) (sym its.of) its.inside

pub returns-in_err-fetch_place-clause-fetched : goal.returns-in_err-fetch_place-clause-fetched
returns-in_err-fetch_place-clause-fetched g c =
    let e = c.in_err-fetch_place.field-0.0 in
    let room : c.loop-index.index < length c.args.look.now.places =
    omega (arith, c.requires.looked.few, c.requires.looked.places, c.loop-index-test.true) in
    told_err g.M.Mount.past g.M.Mount.handed c.args.worker.now c.fetch_place.new.worker c.args.worker.now.known c.args.lba c.args.look.now _
    c.from_residual.result e c.from_residual.ensures.1
    (run_lost g.M.Mount.past g.M.Mount.handed c.args.worker.now.known c.args.lba c.args.look.now c.args.worker.now c.loop-index.worker c.loop-index.index
    c.loop-index.out c.loop-index.invariant _ c.in-Some.place c.fetch_place.new.worker e c.in_err-fetch_place.ensures.fetched c.loop-index-test.true
    (item_there c.args.look.now.places c.loop-index.index None (Some c.in-Some.place) room c.in-Some.is))

pub returns-then-not-branch-clause-fetched : goal.returns-then-not-branch-clause-fetched
returns-then-not-branch-clause-fetched g c =
    let fetched = c.in_ok-fetch_place.ensures.fetched in
    run_well g.M.Mount.past g.M.Mount.handed c.args.worker.now.known c.args.lba c.args.look.now c.args.worker.now _ false c.fetch_place.new.worker
    (well_then c.args.worker.now c.loop-index.worker c.fetch_place.new.worker fetched.more c.loop-index.invariant.well fetched.on fetched.tells)
    (λ yes. absurd (let no : false ≡ true = yes in cc))

pub loop-index-preserved-in_default : goal.loop-index-preserved-in_default
loop-index-preserved-in_default g c =
    let room : c.loop-index.index < length c.args.look.now.places =
    omega (arith, c.requires.looked.few, c.requires.looked.places, c.loop-index-test.true) in
    next_none g.M.Mount.past g.M.Mount.handed c.args.worker.now.known c.args.lba c.args.look.now c.args.worker.now c.loop-index.worker c.loop-index.index
    c.loop-index.out c.loop-index.invariant c.loop-index-test.true
    (item_there c.args.look.now.places c.loop-index.index None None room
    (sym (none_unless (get_or c.args.look.now.places c.loop-index.index None) (λ x same. c.in_default.not-Some x same))))

pub loop-index-preserved : goal.loop-index-preserved
loop-index-preserved g c =
    let size = c.args.look.now.size in
    let index = c.loop-index.index in
    let known = c.args.worker.now.known in
    let its = next_place g.M.Mount.past g.M.Mount.handed known c.args.lba c.args.look.now c.args.worker.now c.loop-index.worker
    index c.loop-index.out c.loop-index.invariant c.in-Some.place c.requires.looked.few c.requires.looked.places c.loop-index-test.true
    c.in-Some.is in
    let whole : length c.loop-index.out ≡ c.args.look.now.count * size = c.loop-index.auto.out ∙ c.requires.looked.whole in
    let ends : index * size + size ≤ c.args.look.now.count * size = ends_before index c.args.look.now.count size c.loop-index-test.true in
    let inside : index * size ≤ length c.loop-index.out = omega (arith, whole, ends) in
    let within : index * size + size ≤ length c.loop-index.out = omega (arith, whole, ends) in
    let wide : index * size + size - index * size ≡ size = omega arith in
    let long : length c.fetch_place.new.out ≡ size = c.fetch_place.ensures.size ∙ part_length (index * size) size c.loop-index.out within in
    let latest : IsLatest g.M.Mount.past.image (logs_of known) c.in-Some.place.sought.lba c.fetch_place.new.out =
    c.in_ok-fetch_place.ensures.accepted (ap (λ (b : Bool). Ok b) c.if-not-branch.false) known c.requires.legal c.requires.begun
    c.loop-index.invariant.well.on.keeps (own_place g.M.Mount.past.image (logs_of known) (c.args.lba + index) c.in-Some.place its) in
    next_fetched g.M.Mount.past g.M.Mount.handed known c.args.lba c.args.look.now c.args.worker.now c.loop-index.worker index c.loop-index.out
    c.loop-index.invariant c.in_ok-fetch_place.field-0 c.in-Some.place c.fetch_place.new.worker (index * size + size - index * size) c.fetch_place.new.out
    c.in_ok-fetch_place.ensures.fetched inside long wide
    (subst (λ n. IsLatest g.M.Mount.past.image (logs_of known) n c.fetch_place.new.out) its.of latest)

pub returns-clause-fetched : goal.returns-clause-fetched
returns-clause-fetched g c =
    let end : c.loop-index.index ≡ c.args.look.now.count = omega (arith, c.loop-index-test.false, c.loop-index.auto.index-end) in
    run_well g.M.Mount.past g.M.Mount.handed c.args.worker.now.known c.args.lba c.args.look.now c.args.worker.now _ true c.loop-index.worker
    c.loop-index.invariant.well
    (λ yes. subst (λ n. AreLatest g.M.Mount.past.image (logs_of c.args.worker.now.known) c.args.look.now.size c.args.lba n c.loop-index.out) end
    c.loop-index.invariant.latest)
