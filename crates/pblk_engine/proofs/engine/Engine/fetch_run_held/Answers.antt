use Rattle.std.proofs.Common.{◌≡◌, ◌*◌, ◌+◌, ◌-◌, ◌<◌, ◌≤◌, List, get_or, Some, None, length, refl, sym, subst, ap, ◌∙◌, arith}
use Rattle.std.specs.Prelude.{slice_get}
use Rattle.pblk_model.proofs.Options.{none_unless}
use Rattle.pblk_model.proofs.Parts.{part_length}
use Rattle.chronicle.specs.Prefixes.{logs_of}
use Rattle.chronicle.proofs.Rests.{still_begun}
use Rattle.pblk_engine.specs.Reads.{AreLatest, IsLatest}
use Rattle.pblk_engine.proofs.GoingOn.{all_known}
use Rattle.pblk_engine.proofs.HeldFetches.{place_later, same_latest}
use Rattle.pblk_engine.proofs.RunFetches.{fetching_begins, item_there, next_fetched, next_none, next_place, own_place, run_lost, run_well, told_err}
use Rattle.pblk_engine.proofs.RunParts.{ends_before}
use Rattle.pblk_engine.proofs.engine.Engine.fetch_run_held.Goals as goal

pub loop-index-init : goal.loop-index-init
loop-index-init g c = (
  fetching_begins g.M.Mount.past g.M.Mount.handed c.args.heart.now.author.known c.args.lba c.args.look.now c.args.worker.now c.args.out.now
      c.requires.looked,
  all_known c.args.heart.now.author.known,
  c.requires.legal,
  refl,
)

pub fetch_held-requires-clause-legal : goal.fetch_held-requires-clause-legal
fetch_held-requires-clause-legal g c = c.loop-index.invariant.2

pub fetch_held-requires-clause-place : goal.fetch_held-requires-clause-place
fetch_held-requires-clause-place g c =
    let i = g.M.Mount.past.image in
    let known = c.args.heart.now.author.known in
    let now = c.loop-index.heart.author.known in
    let its = next_place g.M.Mount.past g.M.Mount.handed known c.args.lba c.args.look.now c.args.worker.now c.loop-index.worker c.loop-index.index
    c.loop-index.out c.loop-index.invariant.0 c.in-Some.place c.requires.looked.few c.requires.looked.places c.loop-index-test.true c.in-Some.is in
    place_later i known now c.requires.legal c.loop-index.invariant.1 c.loop-index.invariant.3 c.in-Some.place.sought.lba c.in-Some.place
    (own_place i (logs_of known) (c.args.lba + c.loop-index.index) c.in-Some.place its)

pub returns-in_err-fetch_held-clause-fetched : goal.returns-in_err-fetch_held-clause-fetched
returns-in_err-fetch_held-clause-fetched g c =
    let e = c.in_err-fetch_held.field-0.0 in
    let room : c.loop-index.index < length c.args.look.now.places =
    omega (arith, c.requires.looked.few, c.requires.looked.places, c.loop-index-test.true) in
    told_err g.M.Mount.past g.M.Mount.handed c.args.worker.now c.fetch_held.new.worker c.args.heart.now.author.known c.args.lba c.args.look.now _
    c.from_residual.result e c.from_residual.ensures.1
    (run_lost g.M.Mount.past g.M.Mount.handed c.args.heart.now.author.known c.args.lba c.args.look.now c.args.worker.now c.loop-index.worker
    c.loop-index.index c.loop-index.out c.loop-index.invariant.0 _ c.in-Some.place c.fetch_held.new.worker e c.in_err-fetch_held.ensures.fetched
    c.loop-index-test.true (item_there c.args.look.now.places c.loop-index.index None (Some c.in-Some.place) room c.in-Some.is))

pub loop-index-preserved-in_default : goal.loop-index-preserved-in_default
loop-index-preserved-in_default g c =
    let room : c.loop-index.index < length c.args.look.now.places =
    omega (arith, c.requires.looked.few, c.requires.looked.places, c.loop-index-test.true) in (
      next_none g.M.Mount.past g.M.Mount.handed c.args.heart.now.author.known c.args.lba c.args.look.now c.args.worker.now c.loop-index.worker
          c.loop-index.index c.loop-index.out c.loop-index.invariant.0 c.loop-index-test.true
          (item_there c.args.look.now.places c.loop-index.index None None room
          (sym (none_unless (get_or c.args.look.now.places c.loop-index.index None) (λ x same. c.in_default.not-Some x same)))),
      c.loop-index.invariant.1,
      c.loop-index.invariant.2,
      c.loop-index.invariant.3,
    )

pub loop-index-preserved : goal.loop-index-preserved
loop-index-preserved g c =
    let i = g.M.Mount.past.image in
    let size = c.args.look.now.size in
    let index = c.loop-index.index in
    let known = c.args.heart.now.author.known in
    let now = c.loop-index.heart.author.known in
    let its = next_place g.M.Mount.past g.M.Mount.handed known c.args.lba c.args.look.now c.args.worker.now c.loop-index.worker
    index c.loop-index.out c.loop-index.invariant.0 c.in-Some.place c.requires.looked.few c.requires.looked.places c.loop-index-test.true
    c.in-Some.is in
    let whole : length c.loop-index.out ≡ c.args.look.now.count * size = c.loop-index.auto.out ∙ c.requires.looked.whole in
    let ends : index * size + size ≤ c.args.look.now.count * size = ends_before index c.args.look.now.count size c.loop-index-test.true in
    let inside : index * size ≤ length c.loop-index.out = omega (arith, whole, ends) in
    let within : index * size + size ≤ length c.loop-index.out = omega (arith, whole, ends) in
    let wide : index * size + size - index * size ≡ size = omega arith in
    let long : length c.fetch_held.new.out ≡ size = c.fetch_held.ensures.size ∙ part_length (index * size) size c.loop-index.out within in
    let latest : IsLatest i (logs_of known) c.in-Some.place.sought.lba c.fetch_held.new.out =
    ap (λ (xs : List (List _)). slice_get xs c.in-Some.place.sought.lba)
    (sym (same_latest i known now c.requires.legal c.loop-index.invariant.1 c.loop-index.invariant.3)) ∙ c.in_ok-fetch_held.ensures.latest refl in (
      next_fetched g.M.Mount.past g.M.Mount.handed known c.args.lba c.args.look.now c.args.worker.now c.loop-index.worker index c.loop-index.out
          c.loop-index.invariant.0 c.in_ok-fetch_held.field-0 c.in-Some.place c.fetch_held.new.worker (index * size + size - index * size)
          c.fetch_held.new.out c.in_ok-fetch_held.ensures.fetched inside long wide
          (subst (λ n. IsLatest i (logs_of known) n c.fetch_held.new.out) its.of latest),
      still_begun known now c.fetch_held.new.heart.author.known c.loop-index.invariant.1 c.fetch_held.ensures.keeps,
      c.fetch_held.ensures.legal,
      c.fetch_held.ensures.own ∙ c.loop-index.invariant.3,
    )

pub returns-clause-fetched : goal.returns-clause-fetched
returns-clause-fetched g c =
    let end : c.loop-index.index ≡ c.args.look.now.count = omega (arith, c.loop-index-test.false, c.loop-index.auto.index-end) in
    run_well g.M.Mount.past g.M.Mount.handed c.args.heart.now.author.known c.args.lba c.args.look.now c.args.worker.now _ tt c.loop-index.worker
    c.loop-index.invariant.0.well
    (subst (λ n. AreLatest g.M.Mount.past.image (logs_of c.args.heart.now.author.known) c.args.look.now.size c.args.lba n c.loop-index.out) end
    c.loop-index.invariant.0.latest)
