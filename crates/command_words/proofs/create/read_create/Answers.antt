use Rattle.std.proofs.Common.{List, map, string_bytes, sym, subst}
use Rattle.std.proofs.lemmas.Bool.{eqb-false, eqb-true}
use Rattle.command_words.specs.Grammar as model
use Rattle.command_words.specs.Grammar.{AreItemsOf, Item}
use Rattle.command_words.specs.Words.{HasRead, item_of, numbers_seen}
use Rattle.command_words.proofs.ItemWords.{some_words, no_words}
use Rattle.command_words.proofs.Reading.{IsReading, begin_reading, no_item, no_more, read_on}
use Rattle.command_words.proofs.CreateReading.{no_image, end_reading, plain_create, same_create}
use Rattle.command_words.proofs.create.read_create.Goals as goal

pub loop-rest-init : goal.loop-rest-init
loop-rest-init c = begin_reading (λ (items : List Item). HasRead items c.new-read.result) (map string_bytes c.args.words.now) c.new-read.ensures

pub returns-in_err-item-clause-only : goal.returns-in_err-item-clause-only
returns-in_err-item-clause-only c = λ image numbers h.
    let some = some_words c.loop-rest.rest.now (eqb-false _ _ (sym c.loop-rest-test.ensures)) in
    absurd (no_item (λ (items : List Item). HasRead items c.loop-rest.read) (map string_bytes c.args.words.now)
    (map string_bytes c.loop-rest.rest.now) c.loop-rest.invariant some c.in_err-item.ensures.only h.items (plain_create h.items image numbers h.of) h.spelled)

pub returns-in_err-read-clause-only : goal.returns-in_err-read-clause-only
returns-in_err-read-clause-only c = λ image numbers h.
    absurd (no_more (λ (items : List Item). HasRead items c.loop-rest.read) (λ (items : List Item). AreItemsOf items (model.Create image numbers))
    (map string_bytes c.args.words.now) (map string_bytes c.loop-rest.rest.now) (map string_bytes c.in_ok-item.others.now)
    (item_of c.in_ok-item.item) c.loop-rest.invariant c.in_ok-item.ensures.found c.in_ok-item.ensures.only
    (λ items more. c.in_err-read.ensures.refused items more image numbers) h.items h.of (plain_create h.items image numbers h.of) h.spelled)

pub loop-rest-preserved : goal.loop-rest-preserved
loop-rest-preserved c =
    read_on (λ (items : List Item). HasRead items c.loop-rest.read) (λ (items : List Item). HasRead items c.in_ok-read.read)
    (map string_bytes c.args.words.now) (map string_bytes c.loop-rest.rest.now) (map string_bytes c.in_ok-item.others.now)
    (item_of c.in_ok-item.item) c.loop-rest.invariant c.in_ok-item.ensures.found c.in_ok-item.ensures.only c.in_ok-read.ensures.taken

pub returns-in_err-read-2-clause-only : goal.returns-in_err-read-2-clause-only
returns-in_err-read-2-clause-only c = λ image numbers h.
    let none = no_words c.loop-rest.rest.now (eqb-true _ _ (sym c.loop-rest-test.ensures)) in
    let reading = subst (λ ws. IsReading (λ (items : List Item). HasRead items c.loop-rest.read) (map string_bytes c.args.words.now) ws) none
    c.loop-rest.invariant in
    absurd (no_image (map string_bytes c.args.words.now) c.loop-rest.read image numbers reading c.in_err-read-2.was h)

pub returns-clause-found : goal.returns-clause-found
returns-clause-found c =
    let none = no_words c.loop-rest.rest.now (eqb-true _ _ (sym c.loop-rest-test.ensures)) in
    let reading = subst (λ ws. IsReading (λ (items : List Item). HasRead items c.loop-rest.read) (map string_bytes c.args.words.now) ws) none
    c.loop-rest.invariant in
    end_reading (map string_bytes c.args.words.now) c.loop-rest.read c.in_ok-read-2.field-0 (numbers_seen c.numbers.result) reading c.in_ok-read-2.was
    (c.numbers.ensures reading.items reading.has)

pub returns-clause-only : goal.returns-clause-only
returns-clause-only c = λ image numbers h.
    let none = no_words c.loop-rest.rest.now (eqb-true _ _ (sym c.loop-rest-test.ensures)) in
    let reading = subst (λ ws. IsReading (λ (items : List Item). HasRead items c.loop-rest.read) (map string_bytes c.args.words.now) ws) none
    c.loop-rest.invariant in
    same_create (map string_bytes c.args.words.now) c.loop-rest.read c.in_ok-read-2.field-0 image
    (numbers_seen c.numbers.result) numbers reading c.in_ok-read-2.was (c.numbers.ensures reading.items reading.has) h
