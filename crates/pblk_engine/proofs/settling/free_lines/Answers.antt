use Rattle.std.proofs.Common.{◌≡◌, refl, sym, subst, ap, ◌∙◌}
use Rattle.pblk_world.specs.Events.{Decides, Free}
use Rattle.pblk_world.specs.Legal.{IsAllowed}
use Rattle.pblk_world.specs.Orders.{NoneToFree}
use Rattle.pblk_core.specs.Named.{pad_of}
use Rattle.pblk_core.specs.declared.target_core.Core.{Core}
use Rattle.chronicle.specs.Handles.{AuthorView}
use Rattle.chronicle.specs.Prefixes.{logs_of, naming}
use Rattle.pblk_engine.specs.Asks.{IsRaisedByVictims}
use Rattle.pblk_engine.specs.Hearts.{IsBeating, KeepsWork, parts}
use Rattle.pblk_engine.proofs.Asks.{raised_appended, raised_next, raised_none}
use Rattle.pblk_engine.proofs.Decisions.{collecting, its_heart, its_mount}
use Rattle.pblk_engine.proofs.FreedLines.{freed_more, freed_none}
use Rattle.pblk_engine.proofs.Settles.{after_free, beating_appended, decided_none, decided_one, decided_then, keeps_none, keeps_of, keeps_then, may_free, own_decided}
use Rattle.pblk_engine.proofs.settling.free_lines.Goals as goal

pub loop-line-init : goal.loop-line-init
loop-line-init c = record {
  beating = c.requires.beating;
  decided = decided_none c.args.author.now;
  freed = freed_none (logs_of c.args.author.now.known 0);
  window = refl;
  kept = keeps_none c.args.core.now;
  pads = raised_none c.args.author.now.past.image (logs_of c.args.author.now.known) (pad_of c.args.core.now) (pad_of c.args.core.now) refl;
}

pub free_line-requires : goal.free_line-requires
free_line-requires c = record {
  collecting = collecting (parts c.loop-line.core c.loop-line.author c.args.intake.now.seat.me.0) c.loop-line.invariant.beating;
}

pub append-requires : goal.append-requires
append-requires c =
    let was = c.loop-line.invariant in
    let h = parts c.loop-line.core c.loop-line.author c.args.intake.now.seat.me.0 in
    record {
      of = ap (λ (a : AuthorView). a.chronicle) was.decided.same ∙ c.requires.of;
      allowed = subst (λ n. IsAllowed c.loop-line.author.past.image n (Decides (Free c.in-Some.line)) (logs_of c.loop-line.author.known))
          (sym was.beating.engine.number) (may_free h was.beating c.in-Some.line c.in-Some.ensures.may);
      quiet = refl;
    }

pub loop-line-preserved : goal.loop-line-preserved
loop-line-preserved c =
    let was = c.loop-line.invariant in
    let h = parts c.loop-line.core c.loop-line.author c.args.intake.now.seat.me.0 in
    let may = may_free h was.beating c.in-Some.line c.in-Some.ensures.may in
    let is = after_free h was.beating c.in-Some.line c.in-Some.ensures.may c.free_line.new.self c.in-Some.ensures.stands c.in-Some.ensures.collects
    c.free_line.ensures.window c.free_line.ensures.kept in
    let decided = decided_one h was.beating (Free c.in-Some.line) c.append.new.self c.append.ensures.appended in
    record {
      beating = beating_appended h was.beating (Free c.in-Some.line) c.append.new.self c.append.ensures.appended c.free_line.new.self
          c.args.intake.now.seat.me.0 may refl is;
      decided = decided_then c.args.author.now c.loop-line.author c.append.new.self was.decided decided;
      freed = freed_more (logs_of c.args.author.now.known 0) (logs_of c.loop-line.author.known 0) (logs_of c.append.new.self.known 0)
          (naming c.loop-line.author.known (Decides (Free c.in-Some.line))) was.freed
          (own_decided h was.beating (Free c.in-Some.line) c.append.new.self c.append.ensures.appended) (c.in-Some.line, refl);
      pads = raised_next c.loop-line.author c.append.new.self (pad_of c.args.core.now) (pad_of c.loop-line.core) (pad_of c.free_line.new.self) decided was.pads
          (raised_appended h was.beating (Free c.in-Some.line) c.append.new.self c.append.ensures.appended c.free_line.new.self
          c.args.intake.now.seat.me.0 may is);
      window = c.free_line.ensures.window ∙ was.window;
      kept = keeps_then c.args.core.now c.loop-line.core c.free_line.new.self was.kept
          (keeps_of c.loop-line.core c.free_line.new.self c.free_line.ensures.kept);
    }

pub returns : goal.returns
returns c =
    let was = c.loop-line.invariant in
    let h = parts c.loop-line.core c.loop-line.author c.args.intake.now.seat.me.0 in
    let same : c.free_line.new.self ≡ c.loop-line.core = c.in_default.ensures.unchanged in
    record {
      beating = subst (λ (x : Core). IsBeating (parts x c.loop-line.author c.args.intake.now.seat.me.0)) (sym same) was.beating;
      none = subst (NoneToFree c.loop-line.author.past.image) was.beating.legal.logs
          (c.in_default.ensures.none c.loop-line.author.past.image was.beating.legal.world (its_mount h was.beating) (its_heart h was.beating).stands);
      decided = was.decided;
      freed = was.freed;
      pads = subst (λ (x : Core). IsRaisedByVictims c.loop-line.author.past.image (logs_of c.loop-line.author.known) (pad_of c.args.core.now) (pad_of x))
          (sym same) was.pads;
      window = c.free_line.ensures.window ∙ was.window;
      kept = subst (λ (x : Core). KeepsWork c.args.core.now x) (sym same) was.kept;
    }
