use Rattle.std.proofs.Common.{sym, ap, ◌∙◌}
use Rattle.pblk_model.specs.Contents.{end, head}
use Rattle.pblk_model.specs.History.{users}
use Rattle.pblk_model.specs.Image.{Image}
use Rattle.pblk_model.specs.ImageFile.{image_of}
use Rattle.pblk_world.specs.Fronts.{user_positions}
use Rattle.pblk_world.specs.World.{log_of}
use Rattle.pblk_cli.proofs.OldHeads.{none_kept}
use Rattle.pblk_cli.proofs.laws.a_run_that_leaves_the_head_keeps_nothing.Goals as goal

pub returns : goal.returns
returns c = λ found left options commands text run sealed same.
    run.kept_is ∙ ap (λ (i : Image). users (user_positions (log_of run.world.world 0)) (end i)) run.world.media_are
    ∙ none_kept (image_of found) run.world.world run.world.legal sealed (ap head (sym run.world.media_are) ∙ same)
