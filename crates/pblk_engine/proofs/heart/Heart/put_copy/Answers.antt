use Rattle.std.proofs.Common.{◌≡◌, inl, inr, ℕ, ◌+◌, ◌^◌, ◌<◌, ◌≤◌, min, Some, List, [], ◌∷◌, length, refl, sym, subst, ap, ◌∙◌, arith}
use Rattle.std.specs.Prelude.{Err}
use Rattle.std.specs.List.{AllByRecursion}
use Rattle.std.proofs.lemmas.Option.{same_Some}
use Rattle.pblk_model.specs.Image.{Image}
use Rattle.pblk_world.specs.LegalMounts.{IsLegalMount}
use Rattle.pblk_world.specs.World.{World, Logs, log_of}
use Rattle.sector_pool.specs.declared.entry.Class.TheVariants as class
use Rattle.write_ring.specs.Batches.{BatchView, CanPut}
use Rattle.write_ring.specs.Handles.{WasFull, ring_key}
use Rattle.write_ring.specs.declared.seats.TryPut.{TryPut}
use Rattle.write_ring.specs.declared.seats.TryPut.TheVariants as tries
use Rattle.write_ring.specs.declared.draft.Draft.{Draft}
use Rattle.write_ring.specs.declared.view.Key.{Key}
use Rattle.write_ring.specs.declared.view.View.{View}
use Rattle.chronicle.specs.Prefixes.{logs_of}
use Rattle.pblk_core.specs.Collecting.{IsCopyReady}
use Rattle.pblk_core.specs.Named.{pad_of}
use Rattle.pblk_core.specs.declared.collecting.CopyJob.{CopyJob}
use Rattle.pblk_engine.specs.Asks.{IsRaisedByVictims}
use Rattle.pblk_engine.specs.Copying.{HasClaimed, IsFetched, WasRefused}
use Rattle.pblk_engine.specs.CopyPlaces.{copy_of}
use Rattle.pblk_engine.specs.Hearts.{HeartView, IsClaimedCopy, IsHeart}
use Rattle.pblk_engine.proofs.Copies.{claim_of, claimed_copy, inside, its_sector, none_under_way, one_draft, ready, settled_claimed, low_of}
use Rattle.pblk_engine.proofs.CopySearch.{found_alone, held_searched}
use Rattle.pblk_engine.proofs.Knowledge.{mount_of}
use Rattle.pblk_engine.proofs.heart.Heart.put_copy.Given.{Over}
use Rattle.pblk_engine.proofs.heart.Heart.put_copy.Goals.{After-self, After-clear, After-fill}
use Rattle.pblk_engine.proofs.heart.Heart.put_copy.Goals as goal

module _ (g : Over) (c : After-self g) where
  abbrev i : Image
  i = g.M.Mount.past.image

  abbrev w : World
  w = c.self.invariant.0.legal.world

  abbrev view : View
  view = c.self.inside.intake.seat.me.0

  legal : IsLegalMount i w
  legal = mount_of i c.self.inside.author.known c.self.invariant.0.legal c.self.invariant.0.fits.accepted c.self.invariant.0.fits.fit

  was : IsHeart i (log_of w) c.self.inside.core c.self.inside.intake.seat.me.0
  was = subst (λ (l : Logs). IsHeart i l c.self.inside.core c.self.inside.intake.seat.me.0) (sym c.self.invariant.0.legal.logs)
      c.self.invariant.0.settled.heart

  named : copy_of c.self.inside.core ≡ Some c.args.of.now
  named = ap (λ (v : HeartView). v.copy) c.self.view_is ∙ c.requires.copy

  is_ready : IsCopyReady c.self.inside.core c.args.of.now.job
  is_ready = ready i w c.self.inside.core c.self.inside.intake.seat.me.0 legal was c.args.of.now named

  fetched : IsFetched i (log_of w) c.args.of.now c.self.inside.sector.items
  fetched = subst (λ (l : Logs). IsFetched i l c.args.of.now c.self.inside.sector.items) (sym c.self.invariant.0.legal.logs)
      (subst (λ (v : HeartView). IsFetched i (logs_of v.author.known) c.args.of.now v.sector) (sym c.self.view_is) c.requires.fetched)

  reached : c.self.inside.intake.seat.me.0.intake.taken ≤ c.self.inside.intake.seat.me.0.found.claimed
  reached = subst (λ (v : HeartView). v.intake.intake.taken ≤ v.intake.found.claimed) (sym c.self.view_is) c.requires.reached

-- ---- the frame is filled

module _ (g : Over) (c : After-fill g) where
  abbrev draft : Draft
  draft = record {
    lba = c.args.of.now.job.lba;
    source = Some (record { line = c.args.of.now.job.line; at = c.args.of.now.job.at; position = c.args.of.now.job.position });
    frame = c.fill.ensures.filled.0;
  }

  drafts : c.fill.new.self.drafts ≡ draft ∷ []
  drafts = c.fill.ensures.filled.2 ∙ one_draft c.self.inside.batch.drafts draft c.self.invariant.1.empty

  bytes : c.fill.ensures.filled.0.bytes ≡ c.self.inside.sector.items
  bytes = c.fill.ensures.filled.1 ∙ c.as_slice.ensures.value

  none_free : c.fill.new.self.free ≡ 0
  none_free =
      let one : c.self.inside.batch.free ≡ 1 = c.self.invariant.1.free in
      let less : c.self.inside.batch.free ≡ c.fill.new.self.free + 1 = c.fill.ensures.fewer_free in
      omega arith

  freed : (free : ℕ) → free ≡ c.fill.new.self.free + length c.fill.new.self.drafts → free ≡ 1
  freed free is =
      let none : c.fill.new.self.free ≡ 0 = none_free in
      let count : length c.fill.new.self.drafts ≡ 1 = ap (λ (ds : List Draft). length ds) drafts in
      omega arith

pub try_copy-requires-clause-fits : goal.try_copy-requires-clause-fits
try_copy-requires-clause-fits g c =
    let s = (goal.at.try_copy-requires-clause-fits g c).After-self in
    let f = (goal.at.try_copy-requires-clause-fits g c).After-fill in
    let k = c.self.invariant.0 in
    let low : c.args.of.now.job.lba < g.M.Mount.past.image.shape.capacity =
    inside (i g s) (w g s) c.self.inside.core c.self.inside.intake.seat.me.0 (legal g s) (was g s) c.args.of.now.job (is_ready g s) in
    subst (λ (ds : List Draft). AllByRecursion (CanPut class.Copy (ring_key c.args.ring.now)) ds) (sym (drafts g f)) (
      (
        subst (λ (key : Key). c.args.of.now.job.lba < key.capacity) (sym c.requires.ring.1)
            (subst (λ n. c.args.of.now.job.lba < n) (sym k.fits.capacity) low),
        refl,
      ),
      tt,
    )

pub copy_claimed-requires : goal.copy_claimed-requires
copy_claimed-requires g c = record { ready = is_ready g (goal.at.copy_claimed-requires g c).After-self }

-- ---- it was claimed

pub invariant_of-self : goal.invariant_of-self
unfolding is_ready
invariant_of-self g c =
    let s = (goal.at.invariant_of-self g c).After-self in
    let f = (goal.at.invariant_of-self g c).After-fill in
    let k = c.self.invariant.0 in
    let job : CopyJob = c.args.of.now.job in
    let sector : List ℕ = c.self.inside.sector.items in
    let v : View = c.self.inside.intake.seat.me.0 in
    let v' : View = c.try_copy.new.intake.seat.me.0 in
    let claim : HasClaimed job sector v v' = claim_of job sector c.in-Ok.place c.fill.new.self.drafts (draft g f).frame v v' (drafts g f) (bytes g f)
    c.in-Ok.ensures.place c.in-Ok.ensures.place_past in
    let none = none_under_way (i g s) (log_of (w g s)) c.self.inside.core.collection.under_way v.pass v.intake.taken (is_ready g s).idle (was g s).copies in
    let claimed = claimed_copy (i g s) (w g s) c.self.inside.core v v' (legal g s) (was g s) job (is_ready g s) sector claim (low_of c.self.inside.intake) none
    (reached g s) c.in-Ok.ensures.reached
    (its_sector (i g s) (w g s) c.self.inside.core v (legal g s) (was g s) c.args.of.now (named g s) sector (fetched g s)) in (
      record {
        of = k.of;
        engine = k.engine;
        since = k.since;
        legal = k.legal;
        begun = k.begun;
        its_ring = c.in-Ok.ensures.ring.0 ∙ c.requires.ring.0;
        its_key = c.in-Ok.ensures.ring.1 ∙ c.requires.ring.1;
        fits = k.fits;
        settled = settled_claimed (i g s) (logs_of c.self.inside.author.known) c.self.inside.core c.copy_claimed.new.self v v' k.settled
            (c.copy_claimed.ensures.stands (i g s) _ k.settled.heart.stands) (c.copy_claimed.ensures.collects (i g s) _ k.settled.heart.collects)
            c.copy_claimed.ensures.rest c.copy_claimed.ensures.copying (c.in-Ok.ensures.ring.1 ∙ c.requires.ring.1 ∙ sym k.its_key)
            c.in-Ok.ensures.same_desk (subst (λ (l : Logs). IsClaimedCopy (i g s) l v'.pass v.intake.taken) k.legal.logs claimed);
      },
      record {
        region = c.in-Ok.ensures.region ∙ c.fill.ensures.region ∙ c.self.invariant.1.region;
        free = freed g f c.try_copy.new.batch.free c.in-Ok.ensures.free;
        empty = c.in-Ok.ensures.empty;
        sector = c.self.invariant.1.sector;
        slots = c.self.invariant.1.slots;
      },
      subst (IsRaisedByVictims (i g s) (logs_of c.self.inside.author.known) c.self.inside.asked) (sym (ap pad_of c.copy_claimed.ensures.rest))
          c.self.invariant.2,
    )

pub invariant_of-self-in-Err : goal.invariant_of-self-in-Err
invariant_of-self-in-Err g c =
    let f = (goal.at.invariant_of-self-in-Err g c).After-fill in
    let k = c.self.invariant.0 in
    let v : View = c.self.inside.intake.seat.me.0 in
    let v' : View = c.try_copy.new.intake.seat.me.0 in
    let same_key : v'.key ≡ v.key = c.in-Err.ensures.ring.1 ∙ c.requires.ring.1 ∙ sym k.its_key in (
      held_searched g.M.Mount.chronicle g.M.Mount.ring g.M.Mount.past g.M.Mount.key c.self.inside.intake.seat.table_id c.try_copy.new.intake.seat.table_id
          c.self.inside.core c.self.inside.core c.self.inside.author v v' k (λ j l is. is) (λ j l is. is) refl refl
          (found_alone v v' same_key c.in-Err.ensures.unchanged c.in-Err.ensures.same_desk) (c.in-Err.ensures.ring.0 ∙ c.requires.ring.0),
      record {
        region = c.clear.ensures.region ∙ c.in-Err.ensures.region ∙ c.fill.ensures.region ∙ c.self.invariant.1.region;
        free = freed g f c.clear.new.self.free (c.clear.ensures.free ∙ ap (λ (b : BatchView). b.free + length b.drafts) c.in-Err.ensures.same_batch);
        empty = c.clear.ensures.empty;
        sector = c.self.invariant.1.sector;
        slots = c.self.invariant.1.slots;
      },
      c.self.invariant.2,
    )

pub returns-in-Ok-clause-claimed : goal.returns-in-Ok-clause-claimed
returns-in-Ok-clause-claimed g c = λ at is.
    let f = (goal.at.returns-in-Ok-clause-claimed g c).After-fill in
    let same : c.in-Ok.place.first ≡ at = same_Some c.in-Ok.place.first at is in
    subst (λ (v : HeartView). (claim : HasClaimed c.args.of.now.job v.sector v.intake c.try_copy.new.intake.seat.me.0) × (claim.first ≡ at)) c.self.view_is (
      claim_of c.args.of.now.job c.self.inside.sector.items c.in-Ok.place c.fill.new.self.drafts (draft g f).frame c.self.inside.intake.seat.me.0
          c.try_copy.new.intake.seat.me.0 (drafts g f) (bytes g f) c.in-Ok.ensures.place c.in-Ok.ensures.place_past,
      same,
    )

-- ---- it was refused

-- no room for one entry, as it is told of a batch of one
full_of_one : (key : Key) (drafts : List Draft) (claimed limit : ℕ) (new : View) → length drafts ≡ 1
    → WasFull class.Copy key drafts (record { claimed = claimed; limit = limit }) new
    → min (new.found.freed + key.size) (2 ^ 62) < new.found.claimed + 1
full_of_one key drafts claimed limit new one is =
    let above : limit < claimed + length drafts = is.0 in
    let found : new.found.claimed ≡ claimed = is.1 in
    let its : limit ≡ min (new.found.freed + key.size) (2 ^ 62) = is.2 in
    omega arith

module _ (g : Over) (c : After-clear g) (one : length c.fill.new.self.drafts ≡ 1) where
  abbrev new : View
  new = c.try_copy.new.intake.seat.me.0

  refused : (e : TryPut) → c.in-Err.field-0 ≡ e → WasRefused g.M.Mount.key c.self.inside.intake.seat.me.0 c.try_copy.new.intake.seat.me.0
  refused (tries.Full claimed limit) is = inl (
    c.in-Err.ensures.full_steps claimed limit (ap (λ (x : TryPut). Err x) is),
    subst (λ (key : Key). min (new.found.freed + key.size) (2 ^ 62) < new.found.claimed + 1) c.requires.ring.1
        (full_of_one (ring_key c.args.ring.now) c.fill.new.self.drafts claimed limit new one
        (c.in-Err.ensures.full claimed limit (ap (λ (x : TryPut). Err x) is))),
  )
  refused (tries.Raced expected found) is =
      let raced = c.in-Err.ensures.raced expected found (ap (λ (x : TryPut). Err x) is) in
      inr (c.in-Err.ensures.raced_steps expected found (ap (λ (x : TryPut). Err x) is), between expected found new.found.claimed new.found.met raced)
    where
      between : (e f a b : ℕ) → (e < f) × (a ≡ e) × (b ≡ f) → a < b
      between e f a b is = omega (arith, is.0, is.1, is.2)

pub returns-in-Err-clause-why : goal.returns-in-Err-clause-why
returns-in-Err-clause-why g c = λ no.
    let f = (goal.at.returns-in-Err-clause-why g c).After-fill in
    subst (λ (v : HeartView). WasRefused g.M.Mount.key v.intake c.try_copy.new.intake.seat.me.0) c.self.view_is
    (refused g c (ap (λ (ds : List Draft). length ds) (drafts g f)) c.in-Err.field-0 refl)
