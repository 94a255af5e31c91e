use Rattle.std.proofs.Common.{◌≡◌, true, false, sym, ap, ◌∙◌}
use Rattle.line_table.specs.contracts.row.LineState.{the_type}
use Rattle.line_table.specs.declared.row.LineState.TheVariants.{Open}
use denote.Enum.Bare.{true_same}
use Rattle.core_laws.specs.ChangedTables.{full_if, with_row}
use Rattle.pblk_core.proofs.LandedCore.{lines_kept, unopened}
use Rattle.pblk_core.proofs.stripes.turn_full.Goals as goal

pub returns-else-eq : goal.returns-else-eq
returns-else-eq c = λ row there.
    lines_kept c.args.lines.now c.args.line row there
    ∙ ap (λ b. with_row c.args.line (full_if b) c.args.lines.now) (sym (unopened row.state (λ e.
    let is : c.eq.result ≡ true = c.eq.ensures ∙ true_same the_type c.state.result Open (c.state.ensures row there ∙ e) in
    let wrong : true ≡ false = sym is ∙ c.if-eq.false in cc)))
