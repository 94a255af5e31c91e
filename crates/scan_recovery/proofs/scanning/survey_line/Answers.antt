use Rattle.std.proofs.Common.{◌≡◌, length, map, Some, None, sym, ap, subst, ◌+◌, ◌∙◌}
use Rattle.std.specs.Option.{option_map}
use Rattle.std.proofs.lemmas.Result.{err_from_is_err_and}
use Rattle.pblk_laws.proofs.LineUnits.{line_units_count}
use Rattle.pblk_layout.specs.Online.{units_in}
use Rattle.pblk_meta.specs.Records.{end_numbers}
use Rattle.pblk_model.specs.EndRecord.{end_of}
use Rattle.pblk_model.specs.Image.{line_units}
use Rattle.pblk_model.specs.LineOrder.{end_len}
use Rattle.pblk_model.specs.StartRecord.{start_of}
use Rattle.unit_port.proofs.Units.{kept_more}
use Rattle.world_laws.specs.Finding.{NoneOpen}
use Rattle.scan_recovery.specs.Fetches.{WereFewFetched, most_behind, only_of, written_in}
use Rattle.scan_recovery.specs.Mounts.{IsMountOf}
use Rattle.scan_recovery.specs.Survey.{IsCountTo}
use Rattle.scan_recovery.specs.Units.{image_of}
use Rattle.scan_recovery.proofs.FetchSteps.{few_joined, few_memory, few_more, few_none, only_both, only_up}
use Rattle.scan_recovery.proofs.PadLoops.{fit_kept}
use Rattle.scan_recovery.proofs.Scans.{end_within, marks_within}
use Rattle.scan_recovery.proofs.Surveys.{count_passed, full_is, none_there, not_full, seq_line, start_there}
use Rattle.scan_recovery.proofs.scanning.survey_line.Goals as goal

pub returns-in_default-clause-full : goal.returns-in_default-clause-full
returns-in_default-clause-full g c =
    let i = image_of c.args.shape.now (map g.U.Unit.model c.args.units.now) in
    sym (not_full i c.args.line (none_there i c.args.line c.args.start c.requires.start c.in_default.is))

pub returns-in_default-clause-count : goal.returns-in_default-clause-count
returns-in_default-clause-count g c =
    let i = image_of c.args.shape.now (map g.U.Unit.model c.args.units.now) in
    count_passed i c.args.line c.args.count.now (none_there i c.args.line c.args.start c.requires.start c.in_default.is) c.requires.count

pub returns-in_default-clause-fetched : goal.returns-in_default-clause-fetched
returns-in_default-clause-fetched g c =
    let us = map g.U.Unit.model c.args.units.now in
    few_none c.args.shape.now us (only_of c.args.line (most_behind (image_of c.args.shape.now us) c.args.line))

pub returns-in_err-end-clause-fetched : goal.returns-in_err-end-clause-fetched
returns-in_err-end-clause-fetched g c =
    let p = err_from_is_err_and c.from_residual.result c.from_residual.ensures.1 in
    let s = c.args.shape.now in
    let us = map g.U.Unit.model c.args.units.now in
    let mid = map g.U.Unit.model c.read_end.new.units in
    let i = image_of s us in
    let n = length (units_in c.online_units-online.result) in
    let wide = ap length c.online_units-online.ensures.units ∙ line_units_count i c.args.line in
    rw (p.1, p.2) (few_more s us mid (Some c.in_err-end.field-0.0) (only_of c.args.line (end_len s n)) (only_of c.args.line (most_behind i c.args.line))
    (λ other. only_up c.args.line (end_len s n) (most_behind i c.args.line) other (end_within i c.args.line n wide)) c.in_err-end.ensures.fetched)

pub count_marks-requires-clause-fit : goal.count_marks-requires-clause-fit
count_marks-requires-clause-fit g c =
    fit_kept c.args.shape.now (map g.U.Unit.model c.args.units.now) (map g.U.Unit.model c.read_end.new.units) c.requires.fit c.read_end.ensures.kept

pub count_marks-requires-clause-closed : goal.count_marks-requires-clause-closed
count_marks-requires-clause-closed g c = subst NoneOpen (sym c.in_ok-end.ensures.fetched.1.image) c.requires.closed

pub count_marks-requires-clause-mount : goal.count_marks-requires-clause-mount
count_marks-requires-clause-mount g c = subst (λ j. IsMountOf j c.args.mount.now) (sym c.in_ok-end.ensures.fetched.1.image) c.requires.mount

pub count_marks-requires-clause-online : goal.count_marks-requires-clause-online
count_marks-requires-clause-online g c =
    subst (λ j. units_in c.online_units-online.result ≡ line_units j c.args.line) (sym c.in_ok-end.ensures.fetched.1.image)
    c.online_units-online.ensures.units

pub count_marks-requires-clause-seq : goal.count_marks-requires-clause-seq
count_marks-requires-clause-seq g c =
    let i = image_of c.args.shape.now (map g.U.Unit.model c.args.units.now) in
    subst (λ j. option_map (λ r. r.seq) (start_of j c.args.line) ≡ Some c.in-Some.seq) (sym c.in_ok-end.ensures.fetched.1.image)
    (seq_line i c.args.line c.args.start (Some c.in-Some.seq) c.requires.start c.in-Some.is)

pub count_marks-requires-clause-end : goal.count_marks-requires-clause-end
count_marks-requires-clause-end g c = λ start seq-is.
    subst (λ j. end_of j c.args.line start ≡ None) (sym c.in_ok-end.ensures.fetched.1.image)
    (sym (c.in_ok-end.ensures.end start seq-is) ∙ ap (option_map end_numbers) c.in_default-2.is)

pub count_marks-requires-clause-count : goal.count_marks-requires-clause-count
count_marks-requires-clause-count g c =
    subst (λ j. IsCountTo j c.args.line c.args.count.now) (sym c.in_ok-end.ensures.fetched.1.image) c.requires.count

pub returns-in_err-count_marks-clause-fetched : goal.returns-in_err-count_marks-clause-fetched
returns-in_err-count_marks-clause-fetched g c =
    let p = err_from_is_err_and c.from_residual-in_err-count_marks.result c.from_residual-in_err-count_marks.ensures.1 in
    let s = c.args.shape.now in
    let us = map g.U.Unit.model c.args.units.now in
    let mid = map g.U.Unit.model c.read_end.new.units in
    let i = image_of s us in
    let n = length (units_in c.online_units-online.result) in
    let wide = ap length c.online_units-online.ensures.units ∙ line_units_count i c.args.line in
    let start = start_there i c.args.line c.in-Some.seq (seq_line i c.args.line c.args.start (Some c.in-Some.seq) c.requires.start c.in-Some.is) in
    let part = full_is i c.args.line start.0 None start.1 (sym (c.in_ok-end.ensures.end start.0 start.2) ∙ ap (option_map end_numbers) c.in_default-2.is) in
    let new = map g.U.Unit.model c.count_marks.new.units in
    rw (p.1, p.2) (few_joined s us mid new (Some c.in_err-count_marks.field-0.0) (only_of c.args.line (end_len s n))
    (only_of c.args.line (written_in i c.args.line))
    (only_of c.args.line (most_behind i c.args.line))
    (λ other. only_both c.args.line (end_len s n) (written_in i c.args.line) (most_behind i c.args.line) other (marks_within i c.args.line n wide part))
    c.in_ok-end.ensures.fetched
    (subst (λ j. WereFewFetched s mid new (Some c.in_err-count_marks.field-0.0) (only_of c.args.line (written_in j c.args.line)))
    c.in_ok-end.ensures.fetched.1.image c.in_err-count_marks.ensures.fetched))

pub returns-in_err-count_marks-clause-kept : goal.returns-in_err-count_marks-clause-kept
returns-in_err-count_marks-clause-kept g c =
    kept_more (map g.U.Unit.model c.args.units.now) (map g.U.Unit.model c.read_end.new.units)
    (map g.U.Unit.model c.count_marks.new.units) c.read_end.ensures.kept c.count_marks.ensures.kept

pub returns-in_default-2-clause-full : goal.returns-in_default-2-clause-full
returns-in_default-2-clause-full g c =
    let i = image_of c.args.shape.now (map g.U.Unit.model c.args.units.now) in
    let start = start_there i c.args.line c.in-Some.seq (seq_line i c.args.line c.args.start (Some c.in-Some.seq) c.requires.start c.in-Some.is) in
    sym (full_is i c.args.line start.0 None start.1 (sym (c.in_ok-end.ensures.end start.0 start.2) ∙ ap (option_map end_numbers) c.in_default-2.is))

pub returns-in_default-2-clause-count : goal.returns-in_default-2-clause-count
returns-in_default-2-clause-count g c =
    subst (λ j. IsCountTo j (c.args.line + 1) c.count_marks.new.count) c.in_ok-end.ensures.fetched.1.image c.in_ok-count_marks.ensures.count

pub returns-in_default-2-clause-fetched : goal.returns-in_default-2-clause-fetched
returns-in_default-2-clause-fetched g c =
    let s = c.args.shape.now in
    let us = map g.U.Unit.model c.args.units.now in
    let mid = map g.U.Unit.model c.read_end.new.units in
    let i = image_of s us in
    let n = length (units_in c.online_units-online.result) in
    let wide = ap length c.online_units-online.ensures.units ∙ line_units_count i c.args.line in
    let start = start_there i c.args.line c.in-Some.seq (seq_line i c.args.line c.args.start (Some c.in-Some.seq) c.requires.start c.in-Some.is) in
    let part = full_is i c.args.line start.0 None start.1 (sym (c.in_ok-end.ensures.end start.0 start.2) ∙ ap (option_map end_numbers) c.in_default-2.is) in
    let new = map g.U.Unit.model c.count_marks.new.units in
    few_joined s us mid new None (only_of c.args.line (end_len s n)) (only_of c.args.line (written_in i c.args.line))
    (only_of c.args.line (most_behind i c.args.line))
    (λ other. only_both c.args.line (end_len s n) (written_in i c.args.line) (most_behind i c.args.line) other (marks_within i c.args.line n wide part))
    c.in_ok-end.ensures.fetched
    (subst (λ j. WereFewFetched s mid new None (only_of c.args.line (written_in j c.args.line))) c.in_ok-end.ensures.fetched.1.image
    c.in_ok-count_marks.ensures.fetched)

pub returns-in_default-2-clause-kept : goal.returns-in_default-2-clause-kept
returns-in_default-2-clause-kept g c =
    kept_more (map g.U.Unit.model c.args.units.now) (map g.U.Unit.model c.read_end.new.units)
    (map g.U.Unit.model c.count_marks.new.units) c.read_end.ensures.kept c.count_marks.ensures.kept

pub count_pairs-requires-clause-fit : goal.count_pairs-requires-clause-fit
count_pairs-requires-clause-fit g c =
    fit_kept c.args.shape.now (map g.U.Unit.model c.args.units.now) (map g.U.Unit.model c.read_end.new.units) c.requires.fit c.read_end.ensures.kept

pub count_pairs-requires-clause-closed : goal.count_pairs-requires-clause-closed
count_pairs-requires-clause-closed g c = subst NoneOpen (sym c.in_ok-end.ensures.fetched.1.image) c.requires.closed

pub count_pairs-requires-clause-mount : goal.count_pairs-requires-clause-mount
count_pairs-requires-clause-mount g c = subst (λ j. IsMountOf j c.args.mount.now) (sym c.in_ok-end.ensures.fetched.1.image) c.requires.mount

pub count_pairs-requires-clause-online : goal.count_pairs-requires-clause-online
count_pairs-requires-clause-online g c =
    subst (λ j. units_in c.online_units-online.result ≡ line_units j c.args.line) (sym c.in_ok-end.ensures.fetched.1.image)
    c.online_units-online.ensures.units

pub count_pairs-requires-clause-seq : goal.count_pairs-requires-clause-seq
count_pairs-requires-clause-seq g c =
    let i = image_of c.args.shape.now (map g.U.Unit.model c.args.units.now) in
    subst (λ j. option_map (λ r. r.seq) (start_of j c.args.line) ≡ Some c.in-Some.seq) (sym c.in_ok-end.ensures.fetched.1.image)
    (seq_line i c.args.line c.args.start (Some c.in-Some.seq) c.requires.start c.in-Some.is)

pub count_pairs-requires-clause-end : goal.count_pairs-requires-clause-end
count_pairs-requires-clause-end g c = λ start seq-is.
    subst (λ j. end_of j c.args.line start ≡ Some (end_numbers c.in-Some-2.end)) (sym c.in_ok-end.ensures.fetched.1.image)
    (sym (c.in_ok-end.ensures.end start seq-is) ∙ ap (option_map end_numbers) c.in-Some-2.is)

pub count_pairs-requires-clause-count : goal.count_pairs-requires-clause-count
count_pairs-requires-clause-count g c =
    subst (λ j. IsCountTo j c.args.line c.args.count.now) (sym c.in_ok-end.ensures.fetched.1.image) c.requires.count

pub returns-in_err-count_pairs-clause-fetched : goal.returns-in_err-count_pairs-clause-fetched
returns-in_err-count_pairs-clause-fetched g c =
    let p = err_from_is_err_and c.from_residual-in_err-count_pairs.result c.from_residual-in_err-count_pairs.ensures.1 in
    let s = c.args.shape.now in
    let us = map g.U.Unit.model c.args.units.now in
    let mid = map g.U.Unit.model c.read_end.new.units in
    let i = image_of s us in
    let n = length (units_in c.online_units-online.result) in
    let wide = ap length c.online_units-online.ensures.units ∙ line_units_count i c.args.line in
    rw (p.1, p.2) (few_memory s us mid (only_of c.args.line (most_behind i c.args.line))
    (few_more s us mid None (only_of c.args.line (end_len s n)) (only_of c.args.line (most_behind i c.args.line))
    (λ other. only_up c.args.line (end_len s n) (most_behind i c.args.line) other (end_within i c.args.line n wide)) c.in_ok-end.ensures.fetched))

pub returns-clause-full : goal.returns-clause-full
returns-clause-full g c =
    let i = image_of c.args.shape.now (map g.U.Unit.model c.args.units.now) in
    let start = start_there i c.args.line c.in-Some.seq (seq_line i c.args.line c.args.start (Some c.in-Some.seq) c.requires.start c.in-Some.is) in
    sym (full_is i c.args.line start.0 (Some (end_numbers c.in-Some-2.end)) start.1
    (sym (c.in_ok-end.ensures.end start.0 start.2) ∙ ap (option_map end_numbers) c.in-Some-2.is))

pub returns-clause-count : goal.returns-clause-count
returns-clause-count g c =
    subst (λ j. IsCountTo j (c.args.line + 1) c.count_pairs.new.count) c.in_ok-end.ensures.fetched.1.image c.in_ok-count_pairs.ensures.count

pub returns-clause-fetched : goal.returns-clause-fetched
returns-clause-fetched g c =
    let s = c.args.shape.now in
    let us = map g.U.Unit.model c.args.units.now in
    let mid = map g.U.Unit.model c.read_end.new.units in
    let i = image_of s us in
    let n = length (units_in c.online_units-online.result) in
    let wide = ap length c.online_units-online.ensures.units ∙ line_units_count i c.args.line in
    few_more s us mid None (only_of c.args.line (end_len s n)) (only_of c.args.line (most_behind i c.args.line))
    (λ other. only_up c.args.line (end_len s n) (most_behind i c.args.line) other (end_within i c.args.line n wide)) c.in_ok-end.ensures.fetched
