use Rattle.std.proofs.Common.{◌≡◌, ◌≢◌, ℕ, not, true, false, List, refl, sym, ap, ◌∙◌}
use Rattle.std.specs.Prelude.{slice_set}
use Rattle.std.specs.Option.{option_map_or}
use Rattle.line_table.specs.contracts.row.LineState.{the_type}
use Rattle.line_table.specs.declared.row.LineState.{LineState}
use Rattle.line_table.specs.declared.row.LineState.TheVariants as states
use Rattle.line_table.specs.declared.row.Row.{Row}
use Rattle.line_table.specs.Rows.{IsRow, Table, kept, turned}
use denote.Enum.Bare.{true_same}
use Rattle.core_laws.specs.ChangedTables.{failed, with_row}
use Rattle.core_laws.proofs.ChangedTables.{changed_is}
use Rattle.pblk_model.proofs.Parts.{got_within, set_same}
use Rattle.pblk_core.proofs.losing.fail_line.Goals as goal

-- a row that is Failed is left
failed_same : (t : Table) (line : ℕ) (row : Row) → IsRow t line row → row.state ≡ states.Failed → t ≡ with_row line failed t
failed_same t line row there is =
    let same : failed row ≡ row =
    ap (λ s. record { state = s; width = row.width; live = row.live; taker = kept s row.taker }) (sym is) ∙ all row.state refl in
    ap (λ (rows : List Row). record { shape = t.shape; rows = rows })
    (sym (ap (λ o. option_map_or (λ r. slice_set t.rows line (failed r)) o t.rows) there ∙ ap (slice_set t.rows line) same
    ∙ set_same t.rows line row there))
  where
    all : (s : LineState) → row.state ≡ s
        → ◌≡◌ {A = Row} (record { state = row.state; width = row.width; live = row.live; taker = kept row.state row.taker }) row
    all s e = ap (λ x. record { state = row.state; width = row.width; live = row.live; taker = kept x row.taker }) is

-- so it is where it isn't Open
only_failed : (s : LineState) → (s ≢ states.Failed → s ≡ states.Open) → s ≢ states.Open → s ≡ states.Failed
only_failed states.Free only none = absurd (none (only (λ e. cc)))
only_failed states.Open only none = absurd (none refl)
only_failed states.Full only none = absurd (none (only (λ e. cc)))
only_failed states.Failed only none = refl
only_failed states.Freed only none = absurd (none (only (λ e. cc)))
only_failed states.Dead only none = absurd (none (only (λ e. cc)))

pub returns-then-ne-clause-lines : goal.returns-then-ne-clause-lines
returns-then-ne-clause-lines c =
    let t : Table = c.args.lines.now in
    let row = got_within t.rows c.args.line c.requires.inside in
    failed_same t c.args.line row.0 row.1
    (only_failed row.0.state (c.requires.open row.0 row.1)
    (λ is. let open_is = true_same the_type c.state.result states.Open (c.state.ensures row.0 row.1 ∙ is) in
    let wrong : true ≡ false = sym c.if-ne.true ∙ c.ne.ensures ∙ ap not open_is in cc))

pub returns-clause-lines : goal.returns-clause-lines
returns-clause-lines c =
    let t : Table = c.args.lines.now in
    let row = got_within t.rows c.args.line c.requires.inside in
    let width : c.width.result ≡ row.0.width = c.width.ensures.width ∙ sym (c.requires.width row.0 row.1) in
    changed_is t c.turn.new.self c.args.line (turned states.Failed c.width.result) row.0 row.1 c.turn.ensures
    ∙ ap (λ (rows : List Row). record { shape = t.shape; rows = rows })
    (ap (λ o. option_map_or (λ r. slice_set t.rows c.args.line (turned states.Failed c.width.result r)) o t.rows) row.1
    ∙ ap (λ n. slice_set t.rows c.args.line (turned states.Failed n row.0)) width
    ∙ sym (ap (λ o. option_map_or (λ r. slice_set t.rows c.args.line (failed r)) o t.rows) row.1))
