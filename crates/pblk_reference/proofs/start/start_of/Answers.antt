use Rattle.std.proofs.Common.{sym, ap, ◌∙◌}
use Rattle.std.specs.Option.{option_map}
use Rattle.std.specs.List.{flat_map}
use Rattle.pblk_model.specs.Image.{Image}
use Rattle.pblk_model.specs.StartRecord.{marked_start}
use Rattle.pblk_reference.proofs.Sizes.{accepted_as}
use Rattle.pblk_reference.proofs.Starts.{start_from, start_unwritten}
use Rattle.pblk_reference.proofs.start.start_of.Goals as goal

pub returns-in_default : goal.returns-in_default
returns-in_default c = record {
  whole = start_unwritten c.args.image.now c.args.line c.start_len.result c.image.inside.shape (ap (λ (i : Image). i.shape) c.image.view_is) c.start_len.ensures
      (ap (option_map (λ v. v.items)) (sym c.in_default.is) ∙ c.in_ok-found.ensures);
  low = tt;
}

pub start_len-requires : goal.start_len-requires
start_len-requires c = accepted_as c.image.inside.shape c.args.image.now.shape (ap (λ (i : Image). i.shape) c.image.view_is) c.requires.shape

pub read_start-requires : goal.read_start-requires
read_start-requires c = accepted_as c.image.inside.shape c.args.image.now.shape (ap (λ (i : Image). i.shape) c.image.view_is) c.requires.shape

pub returns-clause-low : goal.returns-clause-low
returns-clause-low c = c.marked_start.ensures.low c.in_ok-start.ensures.low

pub returns-clause-whole : goal.returns-clause-whole
returns-clause-whole c =
    let shape = ap (λ (i : Image). i.shape) c.image.view_is in
    let run = ap (option_map (λ v. v.items)) (sym c.in-Some.is) ∙ c.in_ok-found.ensures in
    let bytes = c.deref-2.ensures.value ∙ c.in_ok-bytes.ensures ∙ ap (flat_map (λ b. b.sector)) c.deref.ensures.value in
    c.marked_start.ensures.marked ∙ ap (λ bs. marked_start bs c.in_ok-start.start) c.deref-3.ensures.value
    ∙ start_from c.args.image.now c.args.line c.start_len.result c.width.result c.image.inside.shape c.in-Some.found.items c.deref-2.result.now
    c.in_ok-start.start shape c.start_len.ensures c.width.ensures.width run bytes c.in_ok-start.ensures.read
