use Rattle.std.proofs.Common.{◌≡◌, ℕ, Some, None, Option, List, [], ◌∷◌, refl, sym, ap, ◌∙◌}
use Rattle.pblk_model.specs.declared.script.Command.{Command}
use Rattle.pblk_model.specs.Contents.{contents, end}
use Rattle.pblk_model.specs.History.{users}
use Rattle.pblk_model.specs.ImageFile.{image_of}
use Rattle.pblk_model.specs.Text.{HistoryLine, Transcript}
use Rattle.pblk_model.specs.Transcript.{Ran, sector_writes}
use Rattle.pblk_world.specs.EngineLog.{Begun, begun}
use Rattle.pblk_world.specs.Events.{Logged}
use Rattle.pblk_world.specs.Fronts.{history, user_positions}
use Rattle.pblk_world.specs.World.{log_of}
use Rattle.prefix_law.proofs.Prefix.{without_beginning, nothing_logged}
use Rattle.pblk_cli.specs.Stops.{HasBegun}
use Rattle.pblk_cli.proofs.laws.a_stopped_opening_changes_nothing.Goals as goal

none_begun : (opening : Option (ℕ × ℕ)) (event : ℕ × ℕ) (o : Option Begun) → opening ≡ Some event → HasBegun opening o → o ≡ None
none_begun None event o is h = absurd (cc)
none_begun (Some e) event None is h = refl
none_begun (Some e) event (Some b) is h = absurd h

no_lines : (size : ℕ) (rows : List HistoryLine) → sector_writes size rows ≡ [] → rows ≡ []
no_lines size [] h = refl
no_lines size (row ∷ rows) h = absurd (cc)

no_commands : (script : List (List Command)) (t : Transcript) (opening : Option (ℕ × ℕ)) (event : ℕ × ℕ) → opening ≡ Some event → Ran script t opening
    → t.outcomes ≡ []
no_commands script t None event is h = absurd (cc)
no_commands script t (Some e) event is h = h.0

pub returns-clause-none : goal.returns-clause-none
returns-clause-none c = λ found left options commands text event run is.
    let none : log_of run.world.world 0 ≡ [] =
    nothing_logged (image_of found) run.world.world run.world.legal
    (none_begun run.transcript.opening event (begun (log_of run.world.world 0)) is run.world.has_begun) in (
      no_commands commands run.transcript run.transcript.opening event is run.told.ran,
      no_lines found.sector run.transcript.history (sym run.world.history_is ∙ ap history none),
      run.kept_is ∙ ap (λ (xs : List Logged). users (user_positions xs) (end (image_of left))) none,
    )

pub returns-clause-contents : goal.returns-clause-contents
returns-clause-contents c = λ found left options commands text event run is sealed.
    let same = without_beginning (image_of found) run.world.world run.world.legal sealed
    (none_begun run.transcript.opening event (begun (log_of run.world.world 0)) is run.world.has_begun) in
    (ap contents run.world.media_are ∙ same.contents, ap end run.world.media_are ∙ same.end)
