-- An engine that is settled, and taken apart.
use Rattle.std.proofs.Common.{◌≡◌, ℕ, Option, Result, Ok, Err, List, [], ◌∷◌, ◌++◌, refl, subst, ap, ◌∙◌}
use Rattle.pblk_model.specs.Image.{Image}
use Rattle.pblk_world.specs.Fronts.{taken}
use Rattle.pblk_world.specs.World.{log_of}
use Rattle.unit_port.specs.Unit.{ModelUnit}
use Rattle.write_ring.specs.declared.view.Key.{Key}
use Rattle.write_ring.specs.declared.view.Part.{Part}
use Rattle.chronicle.specs.Prefixes.{Prefixes, logs_of}
use Rattle.chronicle.specs.Views.{Past}
use Rattle.pblk_engine.specs.Alone.{HasSettledAlone}
use Rattle.pblk_engine.specs.Closed.{HasClosed, HasWorkedOff, TellsEnd}
use Rattle.pblk_engine.specs.Endings.{HasEndedOf}
use Rattle.pblk_engine.specs.Hearts.{HeartView}
use Rattle.pblk_engine.specs.Settlings.{HasSettled, IsWorkedOff, TellsSettled}
use Rattle.pblk_engine.specs.Workers.{Made, WorkerView}
use Rattle.pblk_engine.specs.declared.errors.SettleErr.{SettleErr}
use Rattle.pblk_engine.specs.declared.errors.SettleErr.TheVariants as errors

-- what settling tells of what the worker knows, which is all that the heart does
module _ (i : Image) (key : Key) (handed : List ModelUnit) (pass : Part) where
  told_end : (known : Prefixes) (more : List Made) (r : Result (Unit {0}) SettleErr) → TellsSettled i key handed pass known more r
      → TellsEnd i handed (logs_of known) more r
  told_end known more (Ok u) is = (is.0, record { all_taken = refl; on_drive = is.2; resting = is.3 })
  told_end known more (Err (errors.Worn wanted have)) is = (is.0, record { all_taken = is.2; worn = is.3 })
  told_end known more (Err (errors.Drive unit event)) is = is

  pub off_then : (a b : WorkerView) (known : Prefixes) (r : Result (Unit {0}) SettleErr) → HasSettled i key handed pass a b r → b.known ≡ known
      → HasWorkedOff i handed a b (logs_of known) r
  off_then a b known r is same = record {
    more = is.more;
    on = is.on;
    tells = subst (λ (k : Prefixes). TellsEnd i handed (logs_of k) is.more r) same (told_end b.known is.more r is.tells);
  }

-- what is told of the logs of a heart is told of the world in which its engine ended
module _ (past : Past) (key : Key) (handed : List ModelUnit) (wear : List (List ℕ)) (heart : HeartView) (first last : WorkerView) (workers : List WorkerView)
    (named : Option ℕ) (pass : Part) (settled : Result (Unit {0}) SettleErr) (units : List ModelUnit) (worn : List (List ℕ))
    (off : HasWorkedOff past.image handed first last (logs_of heart.author.known) settled)
    (end : HasEndedOf heart past key handed wear (workers ++ last ∷ []) named pass units worn) (count : ℕ)
    (alone : HasSettledAlone past.image handed first last 0 count) (knows : last.known ≡ heart.author.known) where
  told_of : (r : Result (Unit {0}) SettleErr) → TellsEnd past.image handed (logs_of heart.author.known) off.more r
      → TellsEnd past.image handed (log_of end.ended.world) off.more r
  told_of (Ok u) is =
      let all : IsWorkedOff past.image (log_of end.ended.world) (taken (logs_of heart.author.known 0)) =
      end.kept.worked_off (taken (logs_of heart.author.known 0)) is.1 in
      (is.0, subst (IsWorkedOff past.image (log_of end.ended.world)) all.all_taken all)
  told_of (Err (errors.Worn wanted have)) is = (is.0, end.kept.worn wanted have is.1)
  told_of (Err (errors.Drive unit event)) is = is

  pub closed_then : HasClosed past key handed wear first workers named pass settled units worn
  closed_then = record {
    last = last;
    more = off.more;
    on = off.on;
    ended = end.ended;
    tells = told_of settled off.tells;
    count = count;
    pumps = alone;
    own = ap (λ (k : Prefixes). logs_of k 0) knows ∙ end.own;
  }
