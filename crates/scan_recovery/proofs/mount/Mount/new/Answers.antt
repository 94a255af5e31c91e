use Rattle.std.proofs.Common.{map, sym, subst, ◌∙◌}
use Rattle.std.specs.Option.{option_map}
use Rattle.std.proofs.lemmas.List.{length-map}
use Rattle.pblk_meta.specs.Records.{row_numbers, start_numbers}
use Rattle.scan_recovery.specs.Traces.{head_row}
use Rattle.scan_recovery.proofs.mount.Mount.new.Goals as goal
use Rattle.pblk_model.specs.Tables.{IsTable}

pub returns-clause-mount : goal.returns-clause-mount
returns-clause-mount c =
    let count = sym c.in_ok-rows.ensures.count ∙ length-map c.in_ok-rows.rows.items (option_map row_numbers) in
    record {
      fits = c.requires;
      rows = subst (λ n. IsTable n (head_row (option_map start_numbers c.args.head)) (map (option_map row_numbers) c.in_ok-rows.rows.items)) count
          c.in_ok-rows.ensures;
    }

pub returns-clause-lines : goal.returns-clause-lines
returns-clause-lines c = sym (length-map c.in_ok-rows.rows.items (option_map row_numbers)) ∙ c.in_ok-rows.ensures.count
