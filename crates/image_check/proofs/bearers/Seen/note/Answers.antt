use Rattle.std.proofs.Common.{◌++◌, ◌∷◌, [], length, sym, ◌∙◌, subst}
use Rattle.pblk_meta.specs.Records.{start_numbers}
use Rattle.image_check.specs.Bearers.{seen_at}
use Rattle.pblk_model.specs.Tables.{IsTable}
use Rattle.image_check.proofs.bearers.Seen.note.Goals as goal

pub returns : goal.returns
returns c = λ rs h. record {
  bearers = subst (λ v. IsTable (length c.args.bears.now) (seen_at (start_numbers c.args.newest.now) c.args.bears.now (rs ++ c.args.record.now ∷ [])) v.items)
      (sym c.note_end.ensures.bearers) (c.note_bearer.ensures.bearers rs h.bearers);
  end = c.note_end.ensures.end rs (c.note_bearer.ensures.end ∙ h.end);
}
