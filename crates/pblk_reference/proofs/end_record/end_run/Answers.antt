use Rattle.std.proofs.Common.{ap}
use Rattle.std.specs.Option.{option_map}
use Rattle.pblk_model.specs.Image.{Image}
use Rattle.pblk_reference.proofs.Results.{answered}
use Rattle.pblk_reference.proofs.Sizes.{accepted_as, narrow_as, room_for}
use Rattle.pblk_reference.proofs.Ends.{run_at_end}
use Rattle.pblk_reference.proofs.end_record.end_run.Goals as goal

pub end_len-len-requires : goal.end_len-len-requires
end_len-len-requires c = record {
  accepted = accepted_as c.image.inside.shape c.args.image.now.shape (ap (λ (i : Image). i.shape) c.image.view_is) c.requires.ready.shape;
  width = narrow_as c.args.width c.image.inside.shape c.args.image.now.shape (ap (λ (i : Image). i.shape) c.image.view_is) c.requires.width;
}

pub line_len-requires : goal.line_len-requires
line_len-requires c = record {
  accepted = accepted_as c.image.inside.shape c.args.image.now.shape (ap (λ (i : Image). i.shape) c.image.view_is) c.requires.ready.shape;
  width = narrow_as c.args.width c.image.inside.shape c.args.image.now.shape (ap (λ (i : Image). i.shape) c.image.view_is) c.requires.width;
}

pub written_run-requires-clause-room : goal.written_run-requires-clause-room
written_run-requires-clause-room c =
    room_for c.saturating_sub-first.result c.line_len.result c.end_len-len.result c.line_len.ensures.few c.saturating_sub-first.ensures
    c.end_len-len.ensures.short

pub returns : goal.returns
returns c =
    answered (option_map (λ v. v.items)) c.written_run.result _ _ c.written_run.ensures
    (run_at_end c.args.image.now c.args.line c.args.width c.end_len-len.result c.line_len.result c.saturating_sub-first.result c.image.inside.shape
    (ap (λ (i : Image). i.shape) c.image.view_is) c.end_len-len.ensures.len c.line_len.ensures.len c.saturating_sub-first.ensures)
