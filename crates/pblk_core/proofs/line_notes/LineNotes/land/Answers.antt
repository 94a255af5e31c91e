use Rattle.std.proofs.Common.{◌≡◌, ◌≢◌, ◌<◌, if◌then◌else◌, Some, Option, sym, ap, ap₂, ◌∙◌, arith}
use Rattle.std.specs.Prelude.{slice_get, slice_set}
use Rattle.std.proofs.lemmas.Bool.{eq-eqb, ne_eqb}
use Rattle.std.proofs.lemmas.Option.{get_or_from_slice_get, slice_get-get_or}
use Rattle.pblk_model.proofs.Parts.{set_same}
use Rattle.pblk_core.specs.LineNotes.{newest_after, newest_landed, newer_note, note_landed, note_started, start_in}
use Rattle.pblk_core.specs.declared.line_notes.LineNote.{LineNote}
use Rattle.pblk_core.specs.declared.line_notes.StartNote.{StartNote}
use Rattle.pblk_core.proofs.line_notes.LineNotes.land.Goals as goal
use Rattle.pblk_core.proofs.line_notes.LineNotes.land.Goals.{After-index_mut-row}

-- the row that is changed is the line's
its_row : (c : After-index_mut-row) (row : LineNote) → slice_get c.args.self.now.rows.items c.args.line ≡ Some row → c.index_mut-row.result.now ≡ row
its_row c row there =
    c.index_mut-row.ensures.value ∙ get_or_from_slice_get c.args.self.now.rows.items c.args.line row c.index_mut-row.result.now there

pub returns-then-not-is_start-clause-rows : goal.returns-then-not-is_start-clause-rows
returns-then-not-is_start-clause-rows c = λ row there.
    sym (ap (λ b. slice_set c.args.self.now.rows.items c.args.line (note_landed b row)) c.if-not-is_start.true
    ∙ set_same c.args.self.now.rows.items c.args.line row there)

pub overflow_sub-row : goal.overflow_sub-row
overflow_sub-row c =
    let some : 0 < c.index_mut-row.result.now.starts_left =
    c.requires.some c.index_mut-row.result.now
    (slice_get-get_or c.args.self.now.rows.items c.args.line c.index_mut-row.result.now c.requires.inside ∙ ap Some (sym c.index_mut-row.ensures.value))
    c.if-not-is_start.false in
    omega arith

-- a stripe of the start record has landed
pub returns-then-row-eq0-clause-rows : goal.returns-then-row-eq0-clause-rows
returns-then-row-eq0-clause-rows c = λ row there.
    let is = its_row (goal.at.returns-then-row-eq0-clause-rows c).After-index_mut-row row there in
    c.set_newer.ensures.rows
    ∙ ap₂ (λ b (r : LineNote). slice_set c.args.self.now.rows.items c.args.line (note_landed b r)) (sym c.if-not-is_start.false) is

pub returns-else-row-eq0-clause-rows : goal.returns-else-row-eq0-clause-rows
returns-else-row-eq0-clause-rows c = λ row there.
    let is = its_row (goal.at.returns-else-row-eq0-clause-rows c).After-index_mut-row row there in
    ap₂ (λ b (r : LineNote). slice_set c.args.self.now.rows.items c.args.line (note_landed b r)) (sym c.if-not-is_start.false) is

-- it is the last one, or another is left
all_landed : (row : LineNote) (newest : Option StartNote) → row.starts_left ≡ 0 → Some (newer_note newest (start_in row)) ≡ newest_after row newest
all_landed row newest none = sym (ap (λ b. if b then Some (newer_note newest (start_in row)) else newest) (eq-eqb row.starts_left 0 none))

some_left : (row : LineNote) (newest : Option StartNote) → row.starts_left ≢ 0 → newest ≡ newest_after row newest
some_left row newest some = sym (ap (λ b. if b then Some (newer_note newest (start_in row)) else newest) (ne_eqb row.starts_left 0 some))

pub returns-then-row-eq0-clause-newest : goal.returns-then-row-eq0-clause-newest
returns-then-row-eq0-clause-newest c = λ row there.
    let is = its_row (goal.at.returns-then-row-eq0-clause-newest c).After-index_mut-row row there in
    c.set_newer.ensures.newest
    ∙ all_landed (note_started c.index_mut-row.result.now) c.args.self.now.newest c.if-row-eq0.true
    ∙ ap₂ (λ b (r : LineNote). newest_landed b r c.args.self.now.newest) (sym c.if-not-is_start.false) is

pub returns-else-row-eq0-clause-newest : goal.returns-else-row-eq0-clause-newest
returns-else-row-eq0-clause-newest c = λ row there.
    let is = its_row (goal.at.returns-else-row-eq0-clause-newest c).After-index_mut-row row there in
    some_left (note_started c.index_mut-row.result.now) c.args.self.now.newest c.if-row-eq0.false
    ∙ ap₂ (λ b (r : LineNote). newest_landed b r c.args.self.now.newest) (sym c.if-not-is_start.false) is
