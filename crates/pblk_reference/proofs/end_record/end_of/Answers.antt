use Rattle.std.proofs.Common.{sym, ap, ◌∙◌, refl, None, Some}
use Rattle.std.specs.Option.{option_map}
use Rattle.pblk_model.specs.Image.{Image}
use Rattle.pblk_model.specs.StartRecord.{StartRecord}
use Rattle.pblk_reference.specs.Reading.{end_among}
use Rattle.pblk_reference.proofs.Results.{answered}
use Rattle.pblk_reference.proofs.Sizes.{accepted_as, narrow_as}
use Rattle.pblk_reference.proofs.Ends.{end_by_run}
use Rattle.pblk_reference.proofs.end_record.end_of.Goals as goal

pub end_among-requires : goal.end_among-requires
end_among-requires c = record {
  accepted = accepted_as c.image.inside.shape c.args.image.now.shape (ap (λ (i : Image). i.shape) c.image.view_is) c.requires.shape;
  width = narrow_as c.width-width.result c.image.inside.shape c.args.image.now.shape (ap (λ (i : Image). i.shape) c.image.view_is) c.width-width.ensures.few;
}

pub returns-in_default : goal.returns-in_default
returns-in_default c =
    let run = ap (option_map (λ v. v.items)) (sym c.in_default.is) ∙ c.in_ok-found.ensures in
    end_by_run c.args.image.now c.args.line c.width-width.result c.args.image.now.shape c.args.start.now None refl c.width-width.ensures.width run

pub returns : goal.returns
returns c =
    let shape = ap (λ (i : Image). i.shape) c.image.view_is in
    let run = ap (option_map (λ v. v.items)) (sym c.in-Some.is) ∙ c.in_ok-found.ensures in
    let seq = ap (λ (r : StartRecord). end_among c.image.inside.shape c.args.line c.width-width.result r.seq c.deref.result.now) c.start.view_is in
    let among = ap (end_among c.image.inside.shape c.args.line c.width-width.result c.args.start.now.seq) c.deref.ensures.value in
    answered (λ o. o) c.end_among.result _ _ c.end_among.ensures
    (seq ∙ among ∙ end_by_run c.args.image.now c.args.line c.width-width.result c.image.inside.shape c.args.start.now
    (Some c.in-Some.found.items) shape c.width-width.ensures.width run)
