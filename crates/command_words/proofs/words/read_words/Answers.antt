use Rattle.std.proofs.Common.{◌≡◌, Some, map, string_bytes, ◌∙◌, ap}
use Rattle.command_words.specs.Grammar as model
use Rattle.command_words.specs.Grammar.{IsCommandLine}
use Rattle.command_words.specs.Words.{numbers_seen, options_seen}
use Rattle.command_words.proofs.ItemWords.{first_word_of}
use Rattle.command_words.proofs.Names.{as_create, as_geometry, as_show, as_report, as_parity, as_rebuild, as_run, as_soak, command_of, soak_of, words_of_soak, name_of_geometry, name_of_show, name_of_report, words_of_geometry, words_of_show, words_of_report, as_certify, as_check, names_of_parity, names_of_certify, names_of_check, words_of_parity, words_of_certify, words_of_check}
use Rattle.command_words.proofs.RebuildWords.{rebuild_of, words_of_rebuild}
use Rattle.command_words.proofs.words.read_words.Goals as goal

pub returns-in_err-image-in-create-clause-none : goal.returns-in_err-image-in-create-clause-none
returns-in_err-image-in-create-clause-none c =
    let first = first_word_of c.args.words.now c.first-item.result c.as_str.result.now c.in-len1-up.len_at_least c.first-item.is c.as_str.ensures.value in
    rw c.from_residual.ensures (as_create (map string_bytes c.args.words.now) _ c.as_str.result.now (λ x. ⊥) first c.in-create.is
    (λ image numbers h. c.in_err-image-in-create.ensures.only image numbers h))

pub returns-in_err-image-in-create-clause-only : goal.returns-in_err-image-in-create-clause-only
returns-in_err-image-in-create-clause-only c = λ line h.
    let first = first_word_of c.args.words.now c.first-item.result c.as_str.result.now c.in-len1-up.len_at_least c.first-item.is c.as_str.ensures.value in
    absurd (as_create (map string_bytes c.args.words.now) _ c.as_str.result.now (λ x. ⊥) first c.in-create.is
    (λ image numbers h. c.in_err-image-in-create.ensures.only image numbers h) line h)

pub returns-in_err-image-in-geometry-clause-none : goal.returns-in_err-image-in-geometry-clause-none
returns-in_err-image-in-geometry-clause-none c =
    let first = first_word_of c.args.words.now c.first-item.result c.as_str.result.now c.in-len1-up.len_at_least c.first-item.is c.as_str.ensures.value in
    rw c.from_residual-in_err-image-in-geometry.ensures
    (as_geometry (map string_bytes c.args.words.now) _ c.as_str.result.now (λ x. ⊥) first c.in-geometry.is
    (λ image h. c.in_err-image-in-geometry.ensures.only image (name_of_geometry _ image h)))

pub returns-in_err-image-in-show-clause-none : goal.returns-in_err-image-in-show-clause-none
returns-in_err-image-in-show-clause-none c =
    let first = first_word_of c.args.words.now c.first-item.result c.as_str.result.now c.in-len1-up.len_at_least c.first-item.is c.as_str.ensures.value in
    rw c.from_residual-in_err-image-in-show.ensures
    (as_show (map string_bytes c.args.words.now) _ c.as_str.result.now (λ x. ⊥) first c.in-show.is
    (λ image h. c.in_err-image-in-show.ensures.only image (name_of_show _ image h)))

pub returns-in_err-image-in-report-clause-none : goal.returns-in_err-image-in-report-clause-none
returns-in_err-image-in-report-clause-none c =
    let first = first_word_of c.args.words.now c.first-item.result c.as_str.result.now c.in-len1-up.len_at_least c.first-item.is c.as_str.ensures.value in
    rw c.from_residual-in_err-image-in-report.ensures
    (as_report (map string_bytes c.args.words.now) _ c.as_str.result.now (λ x. ⊥) first c.in-report.is
    (λ image h. c.in_err-image-in-report.ensures.only image (name_of_report _ image h)))

pub returns-in_err-image-in-geometry-clause-only : goal.returns-in_err-image-in-geometry-clause-only
returns-in_err-image-in-geometry-clause-only c = λ line h.
    let first = first_word_of c.args.words.now c.first-item.result c.as_str.result.now c.in-len1-up.len_at_least c.first-item.is c.as_str.ensures.value in
    absurd (as_geometry (map string_bytes c.args.words.now) _ c.as_str.result.now (λ x. ⊥) first c.in-geometry.is
    (λ image h. c.in_err-image-in-geometry.ensures.only image (name_of_geometry _ image h)) line h)

pub returns-in_err-image-in-show-clause-only : goal.returns-in_err-image-in-show-clause-only
returns-in_err-image-in-show-clause-only c = λ line h.
    let first = first_word_of c.args.words.now c.first-item.result c.as_str.result.now c.in-len1-up.len_at_least c.first-item.is c.as_str.ensures.value in
    absurd (as_show (map string_bytes c.args.words.now) _ c.as_str.result.now (λ x. ⊥) first c.in-show.is
    (λ image h. c.in_err-image-in-show.ensures.only image (name_of_show _ image h)) line h)

pub returns-in_err-image-in-report-clause-only : goal.returns-in_err-image-in-report-clause-only
returns-in_err-image-in-report-clause-only c = λ line h.
    let first = first_word_of c.args.words.now c.first-item.result c.as_str.result.now c.in-len1-up.len_at_least c.first-item.is c.as_str.ensures.value in
    absurd (as_report (map string_bytes c.args.words.now) _ c.as_str.result.now (λ x. ⊥) first c.in-report.is
    (λ image h. c.in_err-image-in-report.ensures.only image (name_of_report _ image h)) line h)

pub returns-in_err-image-in-run-clause-none : goal.returns-in_err-image-in-run-clause-none
returns-in_err-image-in-run-clause-none c =
    let first = first_word_of c.args.words.now c.first-item.result c.as_str.result.now c.in-len1-up.len_at_least c.first-item.is c.as_str.ensures.value in
    rw c.from_residual-in_err-image-in-run.ensures
    (as_run (map string_bytes c.args.words.now) _ c.as_str.result.now (λ x. ⊥) first c.in-run.is
    c.in_err-image-in-run.ensures.only)

pub returns-in_err-image-in-run-clause-only : goal.returns-in_err-image-in-run-clause-only
returns-in_err-image-in-run-clause-only c = λ line h.
    let first = first_word_of c.args.words.now c.first-item.result c.as_str.result.now c.in-len1-up.len_at_least c.first-item.is c.as_str.ensures.value in
    absurd (as_run (map string_bytes c.args.words.now) _ c.as_str.result.now (λ x. ⊥) first c.in-run.is
    c.in_err-image-in-run.ensures.only line h)

pub returns-in_ok-image-in-create-clause-only : goal.returns-in_ok-image-in-create-clause-only
returns-in_ok-image-in-create-clause-only c =
    let first = first_word_of c.args.words.now c.first-item.result c.as_str.result.now c.in-len1-up.len_at_least c.first-item.is c.as_str.ensures.value in
    as_create (map string_bytes c.args.words.now) _ c.as_str.result.now
    (λ line. Some (model.Create c.in_ok-image-in-create.image.now (numbers_seen c.in_ok-image-in-create.numbers)) ≡ Some line) first c.in-create.is
    (λ image numbers h. let same = c.in_ok-image-in-create.ensures.only image numbers h in
    ap (λ x. Some (model.Create x (numbers_seen c.in_ok-image-in-create.numbers))) same.0 ∙ ap (λ x. Some (model.Create image x)) same.1)

pub returns-in_ok-image-in-geometry-clause-only : goal.returns-in_ok-image-in-geometry-clause-only
returns-in_ok-image-in-geometry-clause-only c =
    let first = first_word_of c.args.words.now c.first-item.result c.as_str.result.now c.in-len1-up.len_at_least c.first-item.is c.as_str.ensures.value in
    as_geometry (map string_bytes c.args.words.now) _ c.as_str.result.now
    (λ line. Some (model.Geometry c.in_ok-image-in-geometry.image.now) ≡ Some line) first c.in-geometry.is
    (λ image h. ap (λ x. Some (model.Geometry x)) (c.in_ok-image-in-geometry.ensures.only image (name_of_geometry _ image h)))

pub returns-in_ok-image-in-show-clause-only : goal.returns-in_ok-image-in-show-clause-only
returns-in_ok-image-in-show-clause-only c =
    let first = first_word_of c.args.words.now c.first-item.result c.as_str.result.now c.in-len1-up.len_at_least c.first-item.is c.as_str.ensures.value in
    as_show (map string_bytes c.args.words.now) _ c.as_str.result.now (λ line. Some (model.Show c.in_ok-image-in-show.image.now) ≡ Some line) first c.in-show.is
    (λ image h. ap (λ x. Some (model.Show x)) (c.in_ok-image-in-show.ensures.only image (name_of_show _ image h)))

pub returns-in_ok-image-in-report-clause-only : goal.returns-in_ok-image-in-report-clause-only
returns-in_ok-image-in-report-clause-only c =
    let first = first_word_of c.args.words.now c.first-item.result c.as_str.result.now c.in-len1-up.len_at_least c.first-item.is c.as_str.ensures.value in
    as_report (map string_bytes c.args.words.now) _ c.as_str.result.now
    (λ line. Some (model.Report c.in_ok-image-in-report.image.now) ≡ Some line) first c.in-report.is
    (λ image h. ap (λ x. Some (model.Report x)) (c.in_ok-image-in-report.ensures.only image (name_of_report _ image h)))

pub returns-in_ok-image-in-run-clause-only : goal.returns-in_ok-image-in-run-clause-only
returns-in_ok-image-in-run-clause-only c =
    let first = first_word_of c.args.words.now c.first-item.result c.as_str.result.now c.in-len1-up.len_at_least c.first-item.is c.as_str.ensures.value in
    as_run (map string_bytes c.args.words.now) _ c.as_str.result.now
    (λ line. Some (model.Run c.in_ok-image-in-run.image.now c.in_ok-image-in-run.script.now (options_seen c.in_ok-image-in-run.options)) ≡ Some line)
    first c.in-run.is
    (λ image script options h. let same = c.in_ok-image-in-run.ensures.only image script options h in
    ap (λ x. Some (model.Run x c.in_ok-image-in-run.script.now (options_seen c.in_ok-image-in-run.options))) same.0
    ∙ ap (λ x. Some (model.Run image x (options_seen c.in_ok-image-in-run.options))) same.1 ∙ ap (λ x. Some (model.Run image script x)) same.2)

pub returns-in_ok-image-in-geometry-clause-found : goal.returns-in_ok-image-in-geometry-clause-found
returns-in_ok-image-in-geometry-clause-found c =
    let first = first_word_of c.args.words.now c.first-item.result c.as_str.result.now c.in-len1-up.len_at_least c.first-item.is c.as_str.ensures.value in
    command_of (map string_bytes c.args.words.now) _ (model.Geometry c.in_ok-image-in-geometry.image.now) (rw c.in-geometry.is at first)
    (words_of_geometry _ c.in_ok-image-in-geometry.image.now c.in_ok-image-in-geometry.ensures.found)

pub returns-in_ok-image-in-show-clause-found : goal.returns-in_ok-image-in-show-clause-found
returns-in_ok-image-in-show-clause-found c =
    let first = first_word_of c.args.words.now c.first-item.result c.as_str.result.now c.in-len1-up.len_at_least c.first-item.is c.as_str.ensures.value in
    command_of (map string_bytes c.args.words.now) _ (model.Show c.in_ok-image-in-show.image.now) (rw c.in-show.is at first)
    (words_of_show _ c.in_ok-image-in-show.image.now c.in_ok-image-in-show.ensures.found)

pub returns-in_ok-image-in-report-clause-found : goal.returns-in_ok-image-in-report-clause-found
returns-in_ok-image-in-report-clause-found c =
    let first = first_word_of c.args.words.now c.first-item.result c.as_str.result.now c.in-len1-up.len_at_least c.first-item.is c.as_str.ensures.value in
    command_of (map string_bytes c.args.words.now) _ (model.Report c.in_ok-image-in-report.image.now) (rw c.in-report.is at first)
    (words_of_report _ c.in_ok-image-in-report.image.now c.in_ok-image-in-report.ensures.found)

pub returns-in_err-image-in-parity-clause-none : goal.returns-in_err-image-in-parity-clause-none
returns-in_err-image-in-parity-clause-none c =
    let first = first_word_of c.args.words.now c.first-item.result c.as_str.result.now c.in-len1-up.len_at_least c.first-item.is c.as_str.ensures.value in
    rw c.from_residual-in_err-image-in-parity.ensures
    (as_parity (map string_bytes c.args.words.now) _ c.as_str.result.now (λ x. ⊥) first c.in-parity.is
    (λ image parity h. c.in_err-image-in-parity.ensures.only image parity (names_of_parity _ image parity h)))

pub returns-in_err-image-in-parity-clause-only : goal.returns-in_err-image-in-parity-clause-only
returns-in_err-image-in-parity-clause-only c = λ line h.
    let first = first_word_of c.args.words.now c.first-item.result c.as_str.result.now c.in-len1-up.len_at_least c.first-item.is c.as_str.ensures.value in
    absurd (as_parity (map string_bytes c.args.words.now) _ c.as_str.result.now (λ x. ⊥) first c.in-parity.is
    (λ image parity h. c.in_err-image-in-parity.ensures.only image parity (names_of_parity _ image parity h)) line h)

pub returns-in_ok-image-in-parity-clause-only : goal.returns-in_ok-image-in-parity-clause-only
returns-in_ok-image-in-parity-clause-only c =
    let first = first_word_of c.args.words.now c.first-item.result c.as_str.result.now c.in-len1-up.len_at_least c.first-item.is c.as_str.ensures.value in
    as_parity (map string_bytes c.args.words.now) _ c.as_str.result.now
    (λ line. Some (model.Parity c.in_ok-image-in-parity.image.now c.in_ok-image-in-parity.parity.now) ≡ Some line) first c.in-parity.is
    (λ image parity h. let same = c.in_ok-image-in-parity.ensures.only image parity (names_of_parity _ image parity h) in
    ap (λ x. Some (model.Parity x c.in_ok-image-in-parity.parity.now)) same.0
    ∙ ap (λ x. Some (model.Parity image x)) same.1)

pub returns-in_ok-image-in-parity-clause-found : goal.returns-in_ok-image-in-parity-clause-found
returns-in_ok-image-in-parity-clause-found c =
    let first = first_word_of c.args.words.now c.first-item.result c.as_str.result.now c.in-len1-up.len_at_least c.first-item.is c.as_str.ensures.value in
    command_of (map string_bytes c.args.words.now) _
    (model.Parity c.in_ok-image-in-parity.image.now c.in_ok-image-in-parity.parity.now) (rw c.in-parity.is at first)
    (words_of_parity _ c.in_ok-image-in-parity.image.now c.in_ok-image-in-parity.parity.now c.in_ok-image-in-parity.ensures.found)

pub returns-in_err-image-in-rebuild-clause-none : goal.returns-in_err-image-in-rebuild-clause-none
returns-in_err-image-in-rebuild-clause-none c =
    let first = first_word_of c.args.words.now c.first-item.result c.as_str.result.now c.in-len1-up.len_at_least c.first-item.is c.as_str.ensures.value in
    rw c.from_residual-in_err-image-in-rebuild.ensures
    (as_rebuild (map string_bytes c.args.words.now) _ c.as_str.result.now (λ x. ⊥) first c.in-rebuild.is
    (λ image parity unit h. c.in_err-image-in-rebuild.ensures.only image parity unit (rebuild_of _ image parity unit h)))

pub returns-in_err-image-in-rebuild-clause-only : goal.returns-in_err-image-in-rebuild-clause-only
returns-in_err-image-in-rebuild-clause-only c = λ line h.
    let first = first_word_of c.args.words.now c.first-item.result c.as_str.result.now c.in-len1-up.len_at_least c.first-item.is c.as_str.ensures.value in
    absurd (as_rebuild (map string_bytes c.args.words.now) _ c.as_str.result.now (λ x. ⊥) first c.in-rebuild.is
    (λ image parity unit h. c.in_err-image-in-rebuild.ensures.only image parity unit (rebuild_of _ image parity unit h)) line h)

pub returns-in_ok-image-in-rebuild-clause-only : goal.returns-in_ok-image-in-rebuild-clause-only
returns-in_ok-image-in-rebuild-clause-only c =
    let first = first_word_of c.args.words.now c.first-item.result c.as_str.result.now c.in-len1-up.len_at_least c.first-item.is c.as_str.ensures.value in
    as_rebuild (map string_bytes c.args.words.now) _ c.as_str.result.now
    (λ line. Some (model.Rebuild c.in_ok-image-in-rebuild.image.now c.in_ok-image-in-rebuild.parity.now c.in_ok-image-in-rebuild.unit) ≡ Some line) first
    c.in-rebuild.is
    (λ image parity unit h. let same = c.in_ok-image-in-rebuild.ensures.only image parity unit (rebuild_of _ image parity unit h) in
    ap (λ x. Some (model.Rebuild x c.in_ok-image-in-rebuild.parity.now c.in_ok-image-in-rebuild.unit)) same.0
    ∙ ap (λ x. Some (model.Rebuild image x c.in_ok-image-in-rebuild.unit)) same.1
    ∙ ap (λ x. Some (model.Rebuild image parity x)) same.2)

pub returns-in_ok-image-in-rebuild-clause-found : goal.returns-in_ok-image-in-rebuild-clause-found
returns-in_ok-image-in-rebuild-clause-found c =
    let first = first_word_of c.args.words.now c.first-item.result c.as_str.result.now c.in-len1-up.len_at_least c.first-item.is c.as_str.ensures.value in
    command_of (map string_bytes c.args.words.now) _
    (model.Rebuild c.in_ok-image-in-rebuild.image.now c.in_ok-image-in-rebuild.parity.now c.in_ok-image-in-rebuild.unit) (rw c.in-rebuild.is at first)
    (words_of_rebuild _ c.in_ok-image-in-rebuild.image.now c.in_ok-image-in-rebuild.parity.now c.in_ok-image-in-rebuild.unit
    c.in_ok-image-in-rebuild.ensures.found)

pub returns-in_err-image-in-soak-clause-none : goal.returns-in_err-image-in-soak-clause-none
returns-in_err-image-in-soak-clause-none c =
    let first = first_word_of c.args.words.now c.first-item.result c.as_str.result.now c.in-len1-up.len_at_least c.first-item.is c.as_str.ensures.value in
    rw c.from_residual-in_err-image-in-soak.ensures
    (as_soak (map string_bytes c.args.words.now) _ c.as_str.result.now (λ x. ⊥) first c.in-soak.is
    (λ image number rounds h. c.in_err-image-in-soak.ensures.only image number rounds (soak_of _ image number rounds h)))

pub returns-in_err-image-in-soak-clause-only : goal.returns-in_err-image-in-soak-clause-only
returns-in_err-image-in-soak-clause-only c = λ line h.
    let first = first_word_of c.args.words.now c.first-item.result c.as_str.result.now c.in-len1-up.len_at_least c.first-item.is c.as_str.ensures.value in
    absurd (as_soak (map string_bytes c.args.words.now) _ c.as_str.result.now (λ x. ⊥) first c.in-soak.is
    (λ image number rounds h. c.in_err-image-in-soak.ensures.only image number rounds (soak_of _ image number rounds h)) line h)

pub returns-in_ok-image-in-soak-clause-only : goal.returns-in_ok-image-in-soak-clause-only
returns-in_ok-image-in-soak-clause-only c =
    let first = first_word_of c.args.words.now c.first-item.result c.as_str.result.now c.in-len1-up.len_at_least c.first-item.is c.as_str.ensures.value in
    as_soak (map string_bytes c.args.words.now) _ c.as_str.result.now
    (λ line. Some (model.Soak c.in_ok-image-in-soak.image.now c.in_ok-image-in-soak.number c.in_ok-image-in-soak.rounds) ≡ Some line) first c.in-soak.is
    (λ image number rounds h. let same = c.in_ok-image-in-soak.ensures.only image number rounds (soak_of _ image number rounds h) in
    ap (λ x. Some (model.Soak x c.in_ok-image-in-soak.number c.in_ok-image-in-soak.rounds)) same.0
    ∙ ap (λ n. Some (model.Soak image n c.in_ok-image-in-soak.rounds)) same.1 ∙ ap (λ n. Some (model.Soak image number n)) same.2)

pub returns-in_ok-image-in-soak-clause-found : goal.returns-in_ok-image-in-soak-clause-found
returns-in_ok-image-in-soak-clause-found c =
    let first = first_word_of c.args.words.now c.first-item.result c.as_str.result.now c.in-len1-up.len_at_least c.first-item.is c.as_str.ensures.value in
    command_of (map string_bytes c.args.words.now) _
    (model.Soak c.in_ok-image-in-soak.image.now c.in_ok-image-in-soak.number c.in_ok-image-in-soak.rounds) (rw c.in-soak.is at first)
    (words_of_soak _ c.in_ok-image-in-soak.image.now c.in_ok-image-in-soak.number c.in_ok-image-in-soak.rounds c.in_ok-image-in-soak.ensures.found)

pub returns-in_err-image-in-certify-clause-none : goal.returns-in_err-image-in-certify-clause-none
returns-in_err-image-in-certify-clause-none c =
    let first = first_word_of c.args.words.now c.first-item.result c.as_str.result.now c.in-len1-up.len_at_least c.first-item.is c.as_str.ensures.value in
    rw c.from_residual-in_err-image-in-certify.ensures
    (as_certify (map string_bytes c.args.words.now) _ c.as_str.result.now (λ x. ⊥) first c.in-certify.is
    (λ image certificate h. c.in_err-image-in-certify.ensures.only image certificate (names_of_certify _ image certificate h)))

pub returns-in_err-image-in-certify-clause-only : goal.returns-in_err-image-in-certify-clause-only
returns-in_err-image-in-certify-clause-only c = λ line h.
    let first = first_word_of c.args.words.now c.first-item.result c.as_str.result.now c.in-len1-up.len_at_least c.first-item.is c.as_str.ensures.value in
    absurd (as_certify (map string_bytes c.args.words.now) _ c.as_str.result.now (λ x. ⊥) first c.in-certify.is
    (λ image certificate h. c.in_err-image-in-certify.ensures.only image certificate (names_of_certify _ image certificate h)) line h)

pub returns-in_ok-image-in-certify-clause-only : goal.returns-in_ok-image-in-certify-clause-only
returns-in_ok-image-in-certify-clause-only c =
    let first = first_word_of c.args.words.now c.first-item.result c.as_str.result.now c.in-len1-up.len_at_least c.first-item.is c.as_str.ensures.value in
    as_certify (map string_bytes c.args.words.now) _ c.as_str.result.now
    (λ line. Some (model.Certify c.in_ok-image-in-certify.image.now c.in_ok-image-in-certify.certificate.now) ≡ Some line) first c.in-certify.is
    (λ image certificate h. let same = c.in_ok-image-in-certify.ensures.only image certificate (names_of_certify _ image certificate h) in
    ap (λ x. Some (model.Certify x c.in_ok-image-in-certify.certificate.now)) same.0 ∙ ap (λ x. Some (model.Certify image x)) same.1)

pub returns-in_ok-image-in-certify-clause-found : goal.returns-in_ok-image-in-certify-clause-found
returns-in_ok-image-in-certify-clause-found c =
    let first = first_word_of c.args.words.now c.first-item.result c.as_str.result.now c.in-len1-up.len_at_least c.first-item.is c.as_str.ensures.value in
    command_of (map string_bytes c.args.words.now) _ (model.Certify c.in_ok-image-in-certify.image.now c.in_ok-image-in-certify.certificate.now)
    (rw c.in-certify.is at first)
    (words_of_certify _ c.in_ok-image-in-certify.image.now c.in_ok-image-in-certify.certificate.now c.in_ok-image-in-certify.ensures.found)

pub returns-in_err-image-in-check-clause-none : goal.returns-in_err-image-in-check-clause-none
returns-in_err-image-in-check-clause-none c =
    let first = first_word_of c.args.words.now c.first-item.result c.as_str.result.now c.in-len1-up.len_at_least c.first-item.is c.as_str.ensures.value in
    rw c.from_residual-in_err-image-in-check.ensures
    (as_check (map string_bytes c.args.words.now) _ c.as_str.result.now (λ x. ⊥) first c.in-check.is
    (λ image certificate h. c.in_err-image-in-check.ensures.only image certificate (names_of_check _ image certificate h)))

pub returns-in_err-image-in-check-clause-only : goal.returns-in_err-image-in-check-clause-only
returns-in_err-image-in-check-clause-only c = λ line h.
    let first = first_word_of c.args.words.now c.first-item.result c.as_str.result.now c.in-len1-up.len_at_least c.first-item.is c.as_str.ensures.value in
    absurd (as_check (map string_bytes c.args.words.now) _ c.as_str.result.now (λ x. ⊥) first c.in-check.is
    (λ image certificate h. c.in_err-image-in-check.ensures.only image certificate (names_of_check _ image certificate h)) line h)

pub returns-in_ok-image-in-check-clause-only : goal.returns-in_ok-image-in-check-clause-only
returns-in_ok-image-in-check-clause-only c =
    let first = first_word_of c.args.words.now c.first-item.result c.as_str.result.now c.in-len1-up.len_at_least c.first-item.is c.as_str.ensures.value in
    as_check (map string_bytes c.args.words.now) _ c.as_str.result.now
    (λ line. Some (model.Check c.in_ok-image-in-check.image.now c.in_ok-image-in-check.certificate.now) ≡ Some line) first c.in-check.is
    (λ image certificate h. let same = c.in_ok-image-in-check.ensures.only image certificate (names_of_check _ image certificate h) in
    ap (λ x. Some (model.Check x c.in_ok-image-in-check.certificate.now)) same.0 ∙ ap (λ x. Some (model.Check image x)) same.1)

pub returns-in_ok-image-in-check-clause-found : goal.returns-in_ok-image-in-check-clause-found
returns-in_ok-image-in-check-clause-found c =
    let first = first_word_of c.args.words.now c.first-item.result c.as_str.result.now c.in-len1-up.len_at_least c.first-item.is c.as_str.ensures.value in
    command_of (map string_bytes c.args.words.now) _ (model.Check c.in_ok-image-in-check.image.now c.in_ok-image-in-check.certificate.now)
    (rw c.in-check.is at first)
    (words_of_check _ c.in_ok-image-in-check.image.now c.in_ok-image-in-check.certificate.now c.in_ok-image-in-check.ensures.found)
