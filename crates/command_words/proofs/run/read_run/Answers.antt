use Rattle.std.proofs.Common.{List, map, string_bytes, sym, subst}
use Rattle.std.proofs.lemmas.Bool.{eqb-false, eqb-true}
use Rattle.command_words.specs.Grammar as model
use Rattle.command_words.specs.Grammar.{AreItemsOf, Item}
use Rattle.command_words.specs.Words.{HasReadRun, item_of}
use Rattle.command_words.proofs.ItemWords.{some_words, no_words}
use Rattle.command_words.proofs.Reading.{IsReading, begin_reading, no_item, no_more, read_on}
use Rattle.command_words.proofs.RunReading.{end_reading, few_names, plain_run, read_as, same_run}
use Rattle.command_words.proofs.run.read_run.Goals as goal

pub loop-read-init : goal.loop-read-init
loop-read-init c = begin_reading (λ (items : List Item). HasReadRun items c.new-read.result) (map string_bytes c.args.words.now) c.new-read.ensures

pub loop-read-preserved : goal.loop-read-preserved
loop-read-preserved c =
    let w = read_as c.loop-read.read.0 c.loop-read.read.1.0 c.loop-read.read.1.1.0 c.loop-read.read.1.1.1.0 c.loop-read.read.1.1.1.1.0 in
    read_on (λ (items : List Item). HasReadRun items w) (λ (items : List Item). HasReadRun items c.in_ok-read.read)
    (map string_bytes c.args.words.now) (map string_bytes c.loop-read.rest.now) (map string_bytes c.in_ok-item.others.now)
    (item_of c.in_ok-item.item) c.loop-read.invariant c.in_ok-item.ensures.found c.in_ok-item.ensures.only c.in_ok-read.ensures.taken

pub returns-in_err-item-clause-only : goal.returns-in_err-item-clause-only
returns-in_err-item-clause-only c = λ image script options h.
    let w = read_as c.loop-read.read.0 c.loop-read.read.1.0 c.loop-read.read.1.1.0 c.loop-read.read.1.1.1.0 c.loop-read.read.1.1.1.1.0 in
    let some = some_words c.loop-read.rest.now (eqb-false _ _ (sym c.loop-read-test.ensures)) in
    absurd (no_item (λ (items : List Item). HasReadRun items w) (map string_bytes c.args.words.now)
    (map string_bytes c.loop-read.rest.now) c.loop-read.invariant some c.in_err-item.ensures.only h.items
    (plain_run h.items image script options h.of) h.spelled)

pub returns-in_err-read-clause-only : goal.returns-in_err-read-clause-only
returns-in_err-read-clause-only c = λ image script options h.
    let w = read_as c.loop-read.read.0 c.loop-read.read.1.0 c.loop-read.read.1.1.0 c.loop-read.read.1.1.1.0 c.loop-read.read.1.1.1.1.0 in
    absurd (no_more (λ (items : List Item). HasReadRun items w) (λ (items : List Item). AreItemsOf items (model.Run image script options))
    (map string_bytes c.args.words.now) (map string_bytes c.loop-read.rest.now) (map string_bytes c.in_ok-item.others.now)
    (item_of c.in_ok-item.item) c.loop-read.invariant c.in_ok-item.ensures.found c.in_ok-item.ensures.only
    (λ items more. c.in_err-read.ensures.refused items more image script options) h.items h.of (plain_run h.items image script options h.of) h.spelled)

pub returns-in_err-image-clause-only : goal.returns-in_err-image-clause-only
returns-in_err-image-clause-only c = λ image script options h.
    let w = read_as c.loop-read.read.0 c.loop-read.read.1.0 c.loop-read.read.1.1.0 c.loop-read.read.1.1.1.0 c.loop-read.read.1.1.1.1.0 in
    let none = no_words c.loop-read.rest.now (eqb-true _ _ (sym c.loop-read-test.ensures)) in
    let reading = subst (λ ws. IsReading (λ (items : List Item). HasReadRun items w) (map string_bytes c.args.words.now) ws) none
    c.loop-read.invariant in
    absurd (few_names (map string_bytes c.args.words.now)
    w image script options reading c.in_err-image.ensures.none h)

pub returns-clause-found : goal.returns-clause-found
returns-clause-found c =
    let w = read_as c.loop-read.read.0 c.loop-read.read.1.0 c.loop-read.read.1.1.0 c.loop-read.read.1.1.1.0 c.loop-read.read.1.1.1.1.0 in
    let none = no_words c.loop-read.rest.now (eqb-true _ _ (sym c.loop-read-test.ensures)) in
    let reading = subst (λ ws. IsReading (λ (items : List Item). HasReadRun items w) (map string_bytes c.args.words.now) ws) none
    c.loop-read.invariant in
    rw c.unwrap_or.ensures (end_reading (map string_bytes c.args.words.now)
    w c.in_ok-image.image.now c.in_ok-image.script.now reading c.in_ok-image.ensures.found)

pub returns-clause-only : goal.returns-clause-only
returns-clause-only c = λ image script options h.
    let w = read_as c.loop-read.read.0 c.loop-read.read.1.0 c.loop-read.read.1.1.0 c.loop-read.read.1.1.1.0 c.loop-read.read.1.1.1.1.0 in
    let none = no_words c.loop-read.rest.now (eqb-true _ _ (sym c.loop-read-test.ensures)) in
    let reading = subst (λ ws. IsReading (λ (items : List Item). HasReadRun items w) (map string_bytes c.args.words.now) ws) none
    c.loop-read.invariant in
    rw c.unwrap_or.ensures (same_run (map string_bytes c.args.words.now)
    w c.in_ok-image.image.now c.in_ok-image.script.now image script options reading
    c.in_ok-image.ensures.found h)
