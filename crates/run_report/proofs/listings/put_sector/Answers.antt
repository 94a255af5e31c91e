use Rattle.std.proofs.Common.{◌≡◌, ◌++◌, ◌∙◌, ap, subst, sym, string_bytes}
use Rattle.std.proofs.lemmas.List.{append-nil}
use Rattle.std.specs.Prelude.{OnOk}
use Rattle.run_report.proofs.ListedLines.{line_of_zeros, line_of_tag, line_of_mixed}
use Rattle.run_report.proofs.listings.put_sector.Goals as goal

pub returns-in-Tag-eq0 : goal.returns-in-Tag-eq0
returns-in-Tag-eq0 c =
    let out = string_bytes c.args.out.now in
    sym (ap (λ line. out ++ line) (line_of_zeros c.args.lba c.in-Tag-eq0.field-0 c.args.sector.now c.requires c.in-Tag-eq0.ensures c.in-Tag-eq0.field-0-test)
    ∙ append-nil out)

pub returns-in-Tag : goal.returns-in-Tag
returns-in-Tag c =
    subst (λ line. OnOk c.writeln.result (string_bytes c.writeln.new.self ≡ string_bytes c.args.out.now ++ line))
    (line_of_tag c.args.lba c.in-Tag.tag c.args.sector.now c.requires c.in-Tag.ensures c.in-Tag.tag-test.1) c.writeln.ensures.bytes

pub returns-in-Mixed : goal.returns-in-Mixed
returns-in-Mixed c =
    subst (λ line. OnOk c.writeln-in-Mixed.result (string_bytes c.writeln-in-Mixed.new.self ≡ string_bytes c.args.out.now ++ line))
    (line_of_mixed c.args.lba c.args.sector.now c.requires c.in-Mixed.ensures) c.writeln-in-Mixed.ensures.bytes
