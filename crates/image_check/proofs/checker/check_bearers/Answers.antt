use Rattle.std.proofs.Common.{sym, ap, ◌∙◌}
use Rattle.std.specs.List.{slice_get}
use Rattle.std.specs.Option.{option_map}
use Rattle.pblk_meta.specs.Records.{start_numbers}
use Rattle.image_check.proofs.DriveImage.{image}
use Rattle.image_check.proofs.CheckLemmas.{bearers_are, bearers_right, borne_refused, low_refused, no_head_wrong, wrong_refused}
use Rattle.image_check.proofs.HeadLemmas.{head_front}
use Rattle.image_check.proofs.checker.check_bearers.Goals as goal
use Rattle.image_check.proofs.checker.check_bearers.Goals.{then-end-head-via-then-end-head, then-end-head-via-else-end-head+then-seen}

pub returns-in-Some-first-clause-refused : goal.returns-in-Some-first-clause-refused
returns-in-Some-first-clause-refused c =
    no_head_wrong (image c.args.drive.now) c.args.certificate.now c.in-Some-first.bearer.now
    (sym c.requires.head ∙ ap (option_map start_numbers) c.in_default.is)
    (c.in-Some-first.ensures.value ∙ ap (λ bs. slice_get bs 0) c.as_slice-bears.ensures)
    c.requires.order.bears

pub first_wrong-requires-clause-front : goal.first_wrong-requires-clause-front
first_wrong-requires-clause-front c =
    head_front (image c.args.drive.now) (start_numbers c.in-Some.head) (sym c.requires.head ∙ ap (option_map start_numbers) c.in-Some.is)

pub returns-in-Some-first_wrong-clause-refused : goal.returns-in-Some-first_wrong-clause-refused
returns-in-Some-first_wrong-clause-refused c =
    wrong_refused (image c.args.drive.now) c.args.certificate.now c.args.newest.now c.in-Some.head c.requires.head c.in-Some.is
    c.as_slice-bears.result.now c.as_slice-bears.ensures c.in_ok-seen.seen c.in_ok-seen.ensures c.deref.result.now c.deref.ensures.value
    c.requires.order.bears c.first_wrong.result c.first_wrong.ensures c.in-Some-first_wrong.position c.in-Some-first_wrong.is

pub returns-then-end-head-clause-refused : goal.returns-then-end-head-clause-refused
returns-then-end-head-clause-refused c = elim c.then-end-head.branch [
  | then-end-head-via-then-end-head w ↦
      low_refused (image c.args.drive.now) c.args.certificate.now c.args.newest.now c.in-Some.head c.requires.head c.in-Some.is
      c.as_slice-bears.result.now c.as_slice-bears.ensures c.in_ok-seen.seen c.in_ok-seen.ensures c.deref.result.now c.deref.ensures.value
      c.requires.order.bears c.first_wrong.result c.first_wrong.ensures c.in_default-first_wrong.is w.if-end-head.true
  | then-end-head-via-else-end-head+then-seen w ↦
      borne_refused (image c.args.drive.now) c.args.certificate.now c.args.newest.now c.in-Some.head c.requires.head c.in-Some.is
      c.as_slice-bears.result.now c.as_slice-bears.ensures c.in_ok-seen.seen c.in_ok-seen.ensures c.deref.result.now c.deref.ensures.value
      c.requires.order.bears c.first_wrong.result c.first_wrong.ensures c.in_default-first_wrong.is w.if-seen.true
]

pub returns-clause-right : goal.returns-clause-right
returns-clause-right c =
    bearers_right (image c.args.drive.now) c.args.certificate.now c.args.newest.now c.in-Some.head c.requires.head c.in-Some.is
    c.as_slice-bears.result.now c.as_slice-bears.ensures c.in_ok-seen.seen c.in_ok-seen.ensures c.deref.result.now c.deref.ensures.value
    c.requires.order.bears c.first_wrong.result c.first_wrong.ensures c.in_default-first_wrong.is c.if-end-head.false c.if-seen.false

pub returns-clause-bears : goal.returns-clause-bears
returns-clause-bears c =
    bearers_are (image c.args.drive.now) c.args.certificate.now c.args.newest.now c.in-Some.head c.requires.head c.in-Some.is
    c.as_slice-bears.result.now c.as_slice-bears.ensures c.in_ok-seen.seen c.in_ok-seen.ensures c.deref.result.now c.deref.ensures.value
    c.requires.order.bears c.first_wrong.result c.first_wrong.ensures c.in_default-first_wrong.is c.if-end-head.false c.if-seen.false
