use Rattle.std.proofs.Common.{length, refl, sym, ap, ◌∙◌, subst, arith, ◌≡◌, ◌+◌, []}
use Rattle.write_ring.specs.Batches.{put_all, rows_from}
use Rattle.write_ring.specs.Frames.{IsFree}
use Rattle.write_ring.specs.Handles.{puts_rows, ring_key}
use Rattle.write_ring.specs.Steps.{with_pass}
use Rattle.write_ring.specs.Tells.{HasSlots}
use Rattle.write_ring.proofs.Puts.{now_free, now_fits, now_open, now_small, putting_next, put_rows, no_slots}
use Rattle.write_ring.proofs.table.Ring.put_batch.Goals as goal

pub loop-draft-init : goal.loop-draft-init
loop-draft-init c =
    let q = c.requires in (
      refl,
      record {
        key_is = q.key;
        sharing = q.sharing;
        next = q.next;
        until = q.until;
        high = q.high;
        small = q.small;
        slots = q.slots;
        copies = q.class;
        fits = q.fits;
        own = q.own;
        region = refl;
        count = refl;
        free = refl;
        put = refl;
      },
    )

pub put_at-frame-requires-clause-ring : goal.put_at-frame-requires-clause-ring
put_at-frame-requires-clause-ring c = c.loop-draft.invariant.0 ∙ c.requires.ring

pub put_at-frame-requires-clause-key : goal.put_at-frame-requires-clause-key
put_at-frame-requires-clause-key c = c.loop-draft.invariant.1.key_is

pub put_at-frame-requires-clause-sharing : goal.put_at-frame-requires-clause-sharing
put_at-frame-requires-clause-sharing c = c.loop-draft.invariant.1.sharing

pub put_at-frame-requires-clause-next : goal.put_at-frame-requires-clause-next
put_at-frame-requires-clause-next c = c.loop-draft.invariant.1.next

pub put_at-frame-requires-clause-some_open : goal.put_at-frame-requires-clause-some_open
put_at-frame-requires-clause-some_open c = now_open _ _ _ _ _ _ _ _ _ _ c.loop-draft.invariant.1 c.in-Some.ensures.some

pub put_at-frame-requires-clause-high : goal.put_at-frame-requires-clause-high
put_at-frame-requires-clause-high c = c.loop-draft.invariant.1.high

pub put_at-frame-requires-clause-small : goal.put_at-frame-requires-clause-small
put_at-frame-requires-clause-small c =
    let small = now_small _ _ _ _ _ _ _ _ _ _ c.loop-draft.invariant.1 c.in-Some.ensures.some in omega (arith, small)

pub put_at-frame-requires-clause-front : goal.put_at-frame-requires-clause-front
put_at-frame-requires-clause-front c = now_free _ _ _ _ _ _ _ _ _ _ c.loop-draft.invariant.1 c.in-Some.ensures.some

pub put_at-frame-requires-clause-class : goal.put_at-frame-requires-clause-class
put_at-frame-requires-clause-class c = c.loop-draft.invariant.1.copies

pub put_at-frame-requires-clause-fits : goal.put_at-frame-requires-clause-fits
put_at-frame-requires-clause-fits c = now_fits _ _ _ _ _ _ _ _ _ _ c.loop-draft.invariant.1 c.in-Some.ensures.some c.in-Some.ensures.own

pub put_at-frame-requires-clause-own : goal.put_at-frame-requires-clause-own
put_at-frame-requires-clause-own c = c.in-Some.ensures.own.0 ∙ c.loop-draft.invariant.1.own

pub keep-requires-clause-own : goal.keep-requires-clause-own
keep-requires-clause-own c = c.put_at-frame.ensures.frame ∙ sym c.loop-draft.invariant.1.own ∙ sym c.in-Some.ensures.region

pub overflow_add-at : goal.overflow_add-at
overflow_add-at c =
    let small = now_small _ _ _ _ _ _ _ _ _ _ c.loop-draft.invariant.1 c.in-Some.ensures.some in record { fits = omega (arith, small) }

pub loop-draft-preserved : goal.loop-draft-preserved
loop-draft-preserved c =
    let n = c.in-Some.ensures in
    let k = c.keep.ensures in (
      c.put_at-frame.ensures.ring ∙ c.loop-draft.invariant.0,
      putting_next _ _ _ _ _ _ _ _ _ _ c.loop-draft.invariant.1 n.some _ _ c.put_at-frame.ensures.put k.drafts
          (k.more ∙ ap (λ j. j + 1) n.free) (k.region ∙ n.region)
          (k.count ∙ n.count),
    )

pub returns-clause-put : goal.returns-clause-put
returns-clause-put c =
    let i = c.loop-draft.invariant.1 in
    let none = c.in_default.ensures.none.0 in
    let me = c.loop-draft.seat.me in
    let k = ring_key c.args.self.now in
    let last : me.1 ≡ [] = no_slots k k.size c.loop-draft.at me.1
    (subst (λ n. HasSlots IsFree k k.size c.loop-draft.at n me.1) (ap length none) i.slots) in
    let view : me.0 ≡ put_all c.args.class c.args.seat.now.me.0 c.args.first c.args.batch.now.drafts =
    sym (ap (put_all c.args.class me.0 c.loop-draft.at) none) ∙ i.put in
    let v = c.args.seat.now.me.0 in
    let ds = c.args.batch.now.drafts in
    let rows = put_rows c.args.class v c.args.first ds (c.requires.until ∙ ap (λ k. k + length ds) c.requires.next) in
    ap (λ u. (u, me.1)) (view ∙ rows) ∙ ap (λ l. (with_pass v (puts_rows v.pass (rows_from c.args.class c.args.first ds)), l)) last
