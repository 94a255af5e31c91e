use Rattle.std.proofs.Common.{◌≡◌, Some, refl, sym, subst}
use Rattle.pblk_world.specs.EngineLog.{Begun, begun}
use Rattle.pblk_world.specs.Events.{Decides, Open}
use Rattle.pblk_world.specs.Legal.{IsAllowed}
use Rattle.pblk_world.specs.Opening.{MayOpen}
use Rattle.pblk_world.specs.World.{log_of}
use Rattle.pblk_core.specs.Mounts.{InItsMount}
use Rattle.pblk_core.specs.Named.{named, next_start}
use Rattle.pblk_core.specs.declared.target_core.Core.{Core}
use Rattle.pblk_core.specs.declared.work.Work.TheVariants as works
use Rattle.pblk_core.proofs.OpeningFacts.{next_may_open, open_is_named}
use Rattle.chronicle.specs.Prefixes.{logs_of}
use Rattle.pblk_engine.specs.Hearts.{parts}
use Rattle.pblk_engine.proofs.Asks.{raised_appended}
use Rattle.pblk_engine.proofs.Decisions.{collecting}
use Rattle.pblk_engine.proofs.WorkSince.{decided_now}
use Rattle.pblk_engine.proofs.Openings.{after_open, may_open}
use Rattle.pblk_engine.proofs.Settles.{beating_appended, decided_one}
use Rattle.pblk_engine.proofs.placing.open_line.Goals as goal

-- a core that names the opening of a line may open it
may : (c : Core) → named c ≡ works.Open → InItsMount c (λ i w. (begins : Begun) → begun (log_of w 0) ≡ Some begins
    → MayOpen i (log_of w) begins (next_start c).line (next_start c))
may c names i w mount stands begins has = next_may_open i w c begins mount stands (open_is_named c names) has

pub decide-requires : goal.decide-requires
decide-requires c =
    let h = parts c.args.core.now c.args.author.now c.args.intake.now.seat.me.0 in
    let b = c.requires.beating in
    let start = next_start c.args.core.now in
    record {
      of = c.requires.of;
      allowed = subst (λ n. IsAllowed c.args.author.now.past.image n (Decides (Open start.line start)) (logs_of c.args.author.now.known))
          (sym b.engine.number) (may_open h b c.requires.none (may c.args.core.now c.requires.named));
      quiet = refl;
    }

pub open_line-requires : goal.open_line-requires
open_line-requires c = record {
  collecting = collecting (parts c.args.core.now c.args.author.now c.args.intake.now.seat.me.0) c.requires.beating;
  named = c.requires.named;
}

pub returns : goal.returns
returns c =
    let h = parts c.args.core.now c.args.author.now c.args.intake.now.seat.me.0 in
    let b = c.requires.beating in
    let start = next_start c.args.core.now in
    let it = may c.args.core.now c.requires.named in
    let after = after_open h b c.requires.none c.requires.named it c.open_line.new.self c.open_line.ensures.stands c.open_line.ensures.collects
    c.open_line.ensures.window c.open_line.ensures.kept in
    record {
      beating = beating_appended h b (Open start.line start) c.decide.new.author c.decide.ensures c.open_line.new.self c.args.intake.now.seat.me.0
          (may_open h b c.requires.none it) refl after;
      decided = decided_one h b (Open start.line start) c.decide.new.author c.decide.ensures;
      opened = decided_now _ c.args.author.now.past.image c.args.author.now c.decide.new.author (Open start.line start) (start.line, start, refl)
          b.engine.number b.legal c.decide.ensures;
      kept = c.open_line.ensures.kept;
      pads = raised_appended h b (Open start.line start) c.decide.new.author c.decide.ensures c.open_line.new.self c.args.intake.now.seat.me.0
          (may_open h b c.requires.none it) after;
    }
