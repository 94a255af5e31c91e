use Rattle.std.proofs.Common.{◌≡◌, ◌+◌, ◌-◌, ◌<◌, ◌++◌, ◌∷◌, [], get_or, length, not, Some, None, ap, ◌∙◌, subst, arith}
use Rattle.std.specs.List.{slice_set}
use Rattle.std.proofs.lemmas.Option.{slice_get-get_or}
use Rattle.pblk_model.specs.Records.{Record}
use Rattle.pblk_model.proofs.Options.{none_there, some_value}
use Rattle.pblk_meta.specs.Records.{start_numbers}
use Rattle.image_check.specs.Makes.{bearer_behind}
use Rattle.pblk_model.specs.Tables.{IsTable}
use Rattle.image_check.proofs.MakeLemmas.{below_noted, had_noted, new_noted, older_noted, past_noted}
use Rattle.image_check.proofs.maker.note.Goals as goal
use Rattle.image_check.proofs.maker.note.Goals.{then-record-newest-via-then-record-newest, then-record-newest-via-else-record-newest+then-record-newest-2, else-place-first-via-then-place-first+else-is_none, else-place-first-via-else-place-first}

pub returns-then-record-newest : goal.returns-then-record-newest
returns-then-record-newest c = elim c.then-record-newest.branch [
  | then-record-newest-via-then-record-newest w ↦ λ rs h. older_noted (start_numbers c.args.newest.now) rs c.args.record.now
      (length c.args.first.now) c.args.first.now h
      (subst (λ (r : Record). r.seq < c.args.newest.now.first_seq) c.record.view_is w.if-record-newest.true)
  | then-record-newest-via-else-record-newest+then-record-newest-2 w ↦ λ rs h. below_noted (start_numbers c.args.newest.now) rs c.args.record.now
      (length c.args.first.now)
      c.args.first.now h (subst (λ (r : Record). r.position < c.args.newest.now.front) c.record.view_is w.if-record-newest-2.true)
]

pub returns-then-is_none : goal.returns-then-is_none
returns-then-is_none c = λ rs h.
    let hd = start_numbers c.args.newest.now in
    let first = c.args.first.now in
    let r = c.record.inside in
    let place = r.position - c.args.newest.now.front in
    let none : get_or first place None ≡ None = none_there (get_or first place None) (c.is_none.ensures ∙ ap not c.if-is_none.true) in
    subst (λ (x : Record). IsTable (length first) (bearer_behind hd (rs ++ x ∷ []))
    (slice_set first place (Some (record { position = r.position; line = r.line; at = r.at })))) c.record.view_is
    (new_noted hd rs _ (length first) first h place (omega (arith, c.if-record-newest-2.false)) c.if-place-first.true c.if-record-newest.false
    (slice_get-get_or first place None c.if-place-first.true ∙ ap Some none))

pub returns-else-place-first : goal.returns-else-place-first
returns-else-place-first c = λ rs h.
    let hd = start_numbers c.args.newest.now in
    let first = c.args.first.now in
    let place = c.record.inside.position - c.args.newest.now.front in
    let is : hd.front + place ≡ c.args.record.now.position = omega (arith, c.if-record-newest-2.false, ap (λ (x : Record). x.position) c.record.view_is) in
    elim c.else-place-first.branch [
      | else-place-first-via-then-place-first+else-is_none w ↦
          (let some = some_value (get_or first place None) (w.is_none.ensures ∙ ap not w.if-is_none.false) in
          had_noted hd rs c.args.record.now (length first) first h place some.0 is (slice_get-get_or first place None w.if-place-first.true ∙ ap Some some.1))
      | else-place-first-via-else-place-first w ↦ past_noted hd rs c.args.record.now (length first) first h place is w.if-place-first.false
    ]
