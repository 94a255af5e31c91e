use Rattle.std.proofs.Common.{◌≡◌, ◌++◌, codes, length, ap, subst, ◌∙◌}
use Rattle.pblk_model.specs.CommandText.{number_line}
use Rattle.pblk_model.specs.ImageFile.{image_of}
use Rattle.ocssd_drive.specs.Drive.{stored}
use Rattle.stripe_parity.specs.ParityBytes.{parity_bytes}
use Rattle.stripe_parity.specs.ParityFile.{IsParity, parity_of}
use Rattle.pblk_cli.specs.Commands.{parity_file_of}
use Rattle.pblk_cli.proofs.ParityComes.{WasPadded, between_is, padded_is}
use Rattle.pblk_cli.proofs.parity.padded_parity.Goals as goal

pub returns : goal.returns
returns c =
    let found = c.args.drive in
    let mid = c.pad_drive.new.drive in
    let left = c.make_for.new.drive in
    let pad = c.in-Ok.ensures in
    let made = c.in-Ok-make_for.ensures in
    let was : WasPadded found mid left = record {
      whole_found = c.requires.whole;
      whole_left = made.whole;
      mid_is = pad.numbers;
      left_is = made.numbers;
      mid_wear = pad.wear;
      left_wear = made.wear;
      same = made.untouched;
      closed = pad.closed;
      sealed = pad.sealed;
      contents_are = pad.contents;
      end_is = pad.end;
      spelled = c.in_ok-stored.ensures.read_back;
    } in
    let is : c.in-Ok-make_for.parity ≡ parity_of (image_of (stored left)) = made.parity ∙ ap parity_of (between_is found mid left was) in
    let bytes : c.write.new.out.items ≡ parity_file_of (stored left) =
    c.in_ok-write.ensures.added ∙ ap (λ l. l ++ parity_bytes c.in-Ok-make_for.parity) c.new-made.ensures.items ∙ ap parity_bytes is in
    record {
      left = stored left;
      padded = padded_is found mid left was;
      image_is = c.in_ok-stored.ensures.image;
      is_parity = subst IsParity (c.parity.view_is ∙ is) c.parity.invariant.parity;
      parity_is = bytes;
      says = c.in_ok-text.ensures ∙ ap (number_line (codes "parity")) (c.len.ensures ∙ c.write.new.out.ok.0 ∙ ap length bytes);
    }
