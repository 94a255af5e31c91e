use Rattle.std.proofs.Common.{◌≡◌, ◌+◌, ◌/◌, ◌<◌, ℕ, Err, Ok, Result, [], length, refl, sym, subst, ap, ◌∙◌, arith, append-nil}
use Rattle.write_ring.specs.Handles.{pass_view}
use Rattle.write_ring.specs.declared.view.Part.{Part}
use Rattle.pblk_model.specs.declared.run.Place.{Place}
use Rattle.pblk_engine.proofs.GoingOn.{all_known}
use Rattle.block_target.specs.Sessions.{SessionView, session_view}
use Rattle.block_target.specs.declared.session.TryWriteErr.{TryWriteErr}
use Rattle.block_target.specs.declared.session.TryWriteErr.TheVariants as tries
use Rattle.block_target.proofs.SectorCounts.{IsCount, counted}
use Rattle.block_target.proofs.SessionSteps.{session_found, session_written}
use Rattle.block_target.proofs.WriteSteps.{cleared, few_written, placed, write_at}
use Rattle.block_target.proofs.session.Ticket.try_write.Given.{Over}
use Rattle.write_ring.specs.declared.seats.TryPut.{TryPut}
use Rattle.block_target.proofs.session.Ticket.try_write.Goals.{After-try_put, in-Full, in-Raced}
use Rattle.block_target.proofs.session.Ticket.try_write.Goals as goal

module _ (g : Over) (c : After-try_put g) where
  abbrev was : SessionView
  was = session_view c.self.inside.worker (pass_view c.self.inside.pass) c.self.inside.seen c.self.inside.own c.self.inside.faults c.self.inside.worns

  -- how many sectors are written
  abbrev n : ℕ
  n = length c.args.bytes.now / c.self.inside.sector

  count : IsCount n c.self.inside.sector (length c.args.bytes.now)
  count = counted g.M.Mount.past.image.shape c.self.inside.sector (length c.args.bytes.now) c.stands.ensures.mounted.accepted
      c.self.invariant.0.sector c.requires.sectors

pub overflow_add-self : goal.overflow_add-self
overflow_add-self g c =
    let d = (goal.at.overflow_add-self g c).After-try_put in
    let few = few_written g.M.Mount.past g.M.Mount.handed c.self.inside.written (was g d) c.self.invariant.1 in
    let small = (count g d).few in
    let from = c.from.ensures in
    omega (arith, few, small, from)

pub invariant_of-self : goal.invariant_of-self
invariant_of-self g c =
    let d = (goal.at.invariant_of-self g c).After-try_put in
    let h = c.self.invariant.0 in
    let put = c.in-Ok.ensures in
    let few = (count g d).few in
    let from = c.from-in-Ok.ensures in
    let one = c.from.ensures in
    let most = c.max-self-inside.ensures in
    let seen = c.self.invariant.1.small in
    let at = put.place_room.0 in
    let rises = c.try_put.ensures.rises in
    let low = c.try_put.ensures.most in
    let place : Place = record { first = c.in-Ok.place.first; count = c.in-Ok.place.count } in
    let now : SessionView = session_view c.self.inside.worker (pass_view c.try_put.new.pass) c.max-self-inside.result c.add.new.self c.self.inside.faults
    c.self.inside.worns in
    let p = placed (was g d) now (pass_view c.self.inside.pass) (pass_view c.try_put.new.pass) c.fill.new.batch.drafts place (n g d) c.args.lba
    c.self.inside.sector c.args.bytes.now refl refl put.place put.same_shares c.fill.ensures.count (count g d).some
    c.fill.ensures.rows c.add.ensures refl refl (omega (arith, most)) (omega (arith, most, from)) (omega (arith, most, from, few, seen, at, low))
    put.place_past rises in
    let long = put.place.count in
    let drafts = c.fill.ensures.count in (
      record {
        its_ring = (c.try_put.ensures.ring.0 ∙ c.requires.ring.0, c.try_put.ensures.ring.1 ∙ c.requires.ring.1);
        first = h.first;
        frames = cleared g.M.Mount.key c.self.inside.batch c.fill.new.batch c.fill.new.batch c.try_put.new.batch (n g d)
            h.frames c.fill.ensures.free c.fill.ensures.count c.fill.ensures.region refl put.empty put.free put.region;
        capacity = h.capacity;
        sector = h.sector;
      },
      session_written g.M.Mount.past g.M.Mount.handed c.self.inside.written (c.self.inside.written + c.from.result) (was g d) now []
          (write_at place c.args.lba c.self.inside.sector c.args.bytes.now) c.self.invariant.1
          (record { legal = c.stands.ensures.legal; keeps = all_known c.self.inside.worker.known; made = sym (append-nil c.self.inside.worker.made) })
          tt p (omega (arith, long, drafts, one)),
    )

-- ---- a refusal

pub invariant_of-self-in-Err : goal.invariant_of-self-in-Err
invariant_of-self-in-Err g c =
    let d = (goal.at.invariant_of-self-in-Err g c).After-try_put in
    let h = c.self.invariant.0 in
    let now : SessionView = session_view c.self.inside.worker (pass_view c.try_put.new.pass) c.self.inside.seen c.self.inside.own c.self.inside.faults
    c.self.inside.worns in (
      record {
        its_ring = (c.try_put.ensures.ring.0 ∙ c.requires.ring.0, c.try_put.ensures.ring.1 ∙ c.requires.ring.1);
        first = h.first;
        frames = cleared g.M.Mount.key c.self.inside.batch c.fill.new.batch c.try_put.new.batch c.clear.new.self (n g d) h.frames c.fill.ensures.free
            c.fill.ensures.count c.fill.ensures.region c.in-Err.ensures.same_batch c.clear.ensures.empty c.clear.ensures.free c.clear.ensures.region;
        capacity = h.capacity;
        sector = h.sector;
      },
      session_found g.M.Mount.past g.M.Mount.handed c.self.inside.written (was g d) now c.self.invariant.1
          (ap (λ (p : Part). record now { part = p }) c.in-Err.ensures.unchanged) c.try_put.ensures.rises,
    )

abbrev claimed_in : Result Place TryWriteErr → ℕ
claimed_in (Ok p) = 0
claimed_in (Err tries.Range) = 0
claimed_in (Err (tries.Full a b)) = a
claimed_in (Err (tries.Raced a b)) = 0

abbrev limit_in : Result Place TryWriteErr → ℕ
limit_in (Ok p) = 0
limit_in (Err tries.Range) = 0
limit_in (Err (tries.Full a b)) = b
limit_in (Err (tries.Raced a b)) = 0

abbrev is_full : Result Place TryWriteErr → ℕ
is_full (Ok p) = 0
is_full (Err tries.Range) = 0
is_full (Err (tries.Full a b)) = 1
is_full (Err (tries.Raced a b)) = 0

pub returns-after-refused-clause-full : goal.returns-after-refused-clause-full
returns-after-refused-clause-full g c claimed limit is =
    let shape = g.M.Mount.past.image.shape in
    elim c.match-refused.branch [
      | in-Full w ↦
          let a : w.in-Full.claimed ≡ claimed = ap claimed_in (sym (ap (λ (e : TryWriteErr). Err e) w.result-is) ∙ is) in
          let b : w.in-Full.limit ≡ limit = ap limit_in (sym (ap (λ (e : TryWriteErr). Err e) w.result-is) ∙ is) in
          let full = c.try_put.ensures.full w.in-Full.claimed w.in-Full.limit (c.in-Err.is ∙ ap (λ (e : TryPut). Err e) w.in-Full.is) in
          let above : w.in-Full.limit < w.in-Full.claimed + length c.args.bytes.now / shape.sector =
          subst (λ k. w.in-Full.limit < w.in-Full.claimed + k) (c.fill.ensures.count
          ∙ ap (λ k. length c.args.bytes.now / k) c.self.invariant.0.sector) full.0 in
          record {
            above = subst (λ k. k < claimed + length c.args.bytes.now / shape.sector) b
                (subst (λ k. w.in-Full.limit < k + length c.args.bytes.now / shape.sector) a above);
            claimed = full.1 ∙ a;
            granted = sym full.2 ∙ b;
          }
      | in-Raced w ↦ absurd (let no : 0 ≡ 1 = ap is_full (sym (ap (λ (e : TryWriteErr). Err e) w.result-is) ∙ is) in omega arith)
    ]
