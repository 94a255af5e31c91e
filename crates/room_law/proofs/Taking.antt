-- Copies are begun, and entries are taken.
use Rattle.std.proofs.Common.{ℕ, ◌+◌, ◌-◌, ◌<◌, ◌≤◌, ◌≡◌, ◌⊎◌, inl, inr, max, Option, Some, None, refl, arith}
use Rattle.room_law.specs.Counting.{State, Victim, Copy, NoCopy, Fresh, Stale, Outlived, Loss, Elsewhere, OfVictim, OfCopied, MayBegin, MayTakeUsers, MayTakeCopy, MayLose, Begin, TakeUsers, TakeCopy, moved, copy_after, fewer_live, lost_by, live_of, begun_of, at_work, under_way, past_copy}
use Rattle.room_law.proofs.Counted.{Counted, Copies, Live, Zone, sizes, kinds, behind, own}

-- the state with this victim and this copy
abbrev pub with : State → Option Victim → Copy → State
with s v c = record s { victim = v; copy = c }

-- A copy is begun.

begun_zone : (w n rows old a b placed taken resetting p : ℕ) (v : Victim) → 1 ≤ v.live → Zone w n rows old a b placed taken resetting (Some v) NoCopy
    → Zone w n rows old a b placed taken resetting (Some (record v { begun = v.begun + 1 })) (Fresh p)
begun_zone w n rows old a b placed taken resetting p v some z = omega arith

pub begun_one : (w n p : ℕ) (s : State) (v : Option Victim) (c : Copy) → MayBegin (with s v c) p → Counted w n (with s v c)
    → Counted w n (moved (sizes w n) (with s v c) (Begin p))
begun_one w n p s None c may h = absurd (omega arith)
begun_one w n p s (Some v) (Fresh q) may h = absurd (omega arith)
begun_one w n p s (Some v) (Stale q) may h = absurd (omega arith)
begun_one w n p s (Some v) (Outlived q) may h = absurd (omega arith)
begun_one w n p s (Some v) NoCopy may h = record {
  rows = h.rows;
  over = h.over;
  old = h.old;
  left = h.left;
  fronts = h.fronts;
  copies = omega (arith, h.copies);
  live = omega (arith, h.live, may.has_live);
  position = omega (arith, may, h.fronts);
  asks = record {
    calm_claimed = omega (arith, h.asks.calm_claimed);
    urgent_claimed = omega (arith, h.asks.urgent_claimed);
    calm_is = λ two. elim (h.asks.calm_is two) [
      | inl near ↦ inl near
      | inr far ↦ absurd (omega (arith, far.0.next))
    ];
    urgent_is = λ two idle. elim (h.asks.urgent_is two idle) [
      | inl near ↦ inl near
      | inr far ↦ absurd (omega (arith, far.0))
    ];
  };
  zone = λ inside. let z = h.zone inside in (z.0, z.1, begun_zone w n h.rows h.old z.0 z.1 s.placed s.taken s.resetting p v may.has_live z.2);
}

-- A user's entry is taken: what becomes of the victim and of the copy under way.
record IsLost (w n : ℕ) (v : Option Victim) (c : Copy) (v' : Option Victim) (c' : Copy) : Type 0 where
  begun : begun_of v' ≡ begun_of v
  work : at_work v' ≡ at_work v
  fewer : live_of v' ≤ live_of v
  past : past_copy c' ≡ past_copy c
  under : under_way c' ≡ under_way c
  freed : behind c' ≡ behind c
  same_own : own c' ≡ own c
  live : Live w n v' c'

loses : (w n : ℕ) (s : State) (loss : Loss) (v : Option Victim) (c : Copy) → MayLose (with s v c) loss → Live w n v c
    → IsLost w n v c (fewer_live (lost_by loss) v) (copy_after loss c)
loses w n s Elsewhere None c may h = omega arith
loses w n s Elsewhere (Some v) c may h = omega arith
loses w n s OfVictim None c may h = absurd (omega arith)
loses w n s OfVictim (Some v) c may h = omega arith
loses w n s OfCopied None c may h = absurd (omega arith)
loses w n s OfCopied (Some v) NoCopy may h = absurd (omega arith)
loses w n s OfCopied (Some v) (Fresh p) may h = omega arith
loses w n s OfCopied (Some v) (Stale p) may h = absurd (omega arith)
loses w n s OfCopied (Some v) (Outlived p) may h = absurd (omega arith)

users_copies : {w n old placed taken users : ℕ} {v v' : Option Victim} {c c' : Copy} → IsLost w n v c v' c' → placed ≤ taken → users ≤ taken
    → Copies old placed taken users v c → Copies old placed (taken + 1) (taken + 1) v' c'
users_copies {v = v} lost order granted h = record {
  old_taken = omega (arith, h.old_taken);
  one_old = omega (arith, h.old_taken);
  own_begun = omega (arith, h.own_begun, h.old_taken, lost.begun, lost.same_own);
  none_old = λ way. omega (arith, h.old_taken);
  none_begun = λ way. let none : begun_of v ≡ 0 = h.none_begun (omega (arith, lost.freed, way)) in omega (arith, lost.begun, none);
  at_works = omega (arith, h.at_works, lost.work, lost.same_own);
  stale_past = λ gone. omega (arith, h.old_taken);
}

user_taken : (w n : ℕ) (s : State) (v : Option Victim) (c : Copy) → 1 ≤ w → s.taken < s.reach
    → (1 ≤ under_way s.copy → s.taken + 1 < past_copy s.copy) → IsLost w n s.victim s.copy v c
    → Counted w n s → Counted w n (record s { taken = s.taken + 1; users = s.taken + 1; victim = v; copy = c })
user_taken w n s v c one granted turn lost h = record {
  rows = h.rows;
  over = h.over;
  old = h.old;
  left = h.left;
  fronts = omega (arith, h.fronts, granted);
  copies = users_copies lost h.fronts.in_order h.fronts.users_taken h.copies;
  live = lost.live;
  position = record {
    from = λ way. omega (arith, lost.past, turn (omega (arith, lost.under, way)));
    to = omega (arith, lost.past, h.position.to);
    granted = λ before_due far. omega (arith, lost.past, h.position.granted before_due (omega (arith, lost.past, far)));
  };
  asks = record {
    calm_claimed = omega (arith, lost.past, h.asks.calm_claimed);
    urgent_claimed = omega (arith, lost.past, h.asks.urgent_claimed);
    calm_is = λ two. elim (h.asks.calm_is two) [
      | inl near ↦ inl (omega (arith, near))
      | inr far ↦ absurd (omega (arith, far.0.next, turn ((kinds s.copy).past (omega (arith, far.0.next)))))
    ];
    urgent_is = λ two idle. elim (h.asks.urgent_is two (was_idle idle)) [
      | inl near ↦ inl near
      | inr far ↦ inr (omega (arith, lost.freed, far.0), omega (arith, lost.past, far.1))
    ];
  };
  zone = λ inside. absurd (omega (arith, inside, granted, h.left.over_is, h.fronts));
}
  where
    was_idle : (at_work v ≡ 0) ⊎ (1 ≤ live_of v) → (at_work s.victim ≡ 0) ⊎ (1 ≤ live_of s.victim)
    was_idle (inl idle) = inl (omega (arith, lost.work, idle))
    was_idle (inr more) = inr (omega (arith, lost.fewer, more))

pub taken_users : (w n : ℕ) (s : State) (loss : Loss) → 1 ≤ w → MayTakeUsers s loss → Counted w n s
    → Counted w n (moved (sizes w n) s (TakeUsers loss))
taken_users w n s loss one may h =
    user_taken w n s (fewer_live (lost_by loss) s.victim) (copy_after loss s.copy) one may.granted may.in_turn
    (loses w n s loss s.victim s.copy may.loses h.live) h

-- The copy that was under way is taken. Copies of earlier victims lie below a position, which is
-- past this copy's where it is one of them.

copy_taken : (w n old : ℕ) (s : State) (v : Option Victim) → 1 ≤ w → past_copy s.copy ≡ s.taken + 1
    → at_work v ≡ at_work s.victim → live_of v ≤ live_of s.victim → (h : Counted w n s) → h.old ≤ old
    → (1 ≤ behind s.copy → s.taken + 1 ≤ old)
    → Copies old s.placed (s.taken + 1) s.users v NoCopy → Live w n v NoCopy
    → ((a b : ℕ) → Zone w n h.rows h.old a b s.placed s.taken s.resetting s.victim s.copy
    → Zone w n h.rows old a b s.placed (s.taken + 1) s.resetting v NoCopy)
    → Counted w n (record s { taken = s.taken + 1; victim = v; copy = NoCopy })
copy_taken w n old s v one next work fewer h later mine copies live zone = record {
  rows = h.rows;
  over = h.over;
  old = old;
  left = h.left;
  fronts = omega (arith, h.fronts);
  copies = copies;
  live = live;
  position = omega arith;
  asks = record {
    calm_claimed = omega (arith, h.asks.calm_claimed, next);
    urgent_claimed = omega (arith, h.asks.urgent_claimed, next);
    calm_is = λ two. inl (elim (h.asks.calm_is two) [
      | inl near ↦ omega (arith, near)
      | inr far ↦ omega (arith, far.0.fits, far.1, one)
    ]);
    urgent_is = λ two idle. inl (elim (h.asks.urgent_is two (was_idle idle)) [
      | inl near ↦ omega (arith, near, later)
      | inr far ↦ omega (arith, far.1, next, mine far.0)
    ]);
  };
  zone = λ inside. let z = h.zone inside in (z.0, z.1, zone z.0 z.1 z.2);
}
  where
    was_idle : (at_work v ≡ 0) ⊎ (1 ≤ live_of v) → (at_work s.victim ≡ 0) ⊎ (1 ≤ live_of s.victim)
    was_idle (inl idle) = inl (omega (arith, work, idle))
    was_idle (inr more) = inr (omega (arith, fewer, more))

fresh_zone : (w n rows old a b placed taken resetting p : ℕ) (v : Victim) → 1 ≤ v.live → Zone w n rows old a b placed taken resetting (Some v) (Fresh p)
    → Zone w n rows old a b placed (taken + 1) resetting (Some (record v { live = v.live - 1 })) NoCopy
fresh_zone w n rows old a b placed taken resetting p v some z = omega arith

stale_zone : (w n rows old a b placed taken resetting p : ℕ) (v : Victim) → Zone w n rows old a b placed taken resetting (Some v) (Stale p)
    → Zone w n rows old a b placed (taken + 1) resetting (Some (record v { live = v.live - 0 })) NoCopy
stale_zone w n rows old a b placed taken resetting p v z = omega arith

-- nothing is lost with a copy of an earlier victim
record IsSame (v v' : Option Victim) : Type 0 where
  begun : begun_of v' ≡ begun_of v
  work : at_work v' ≡ at_work v
  live : live_of v' ≡ live_of v

none_fewer : (v : Option Victim) → IsSame v (fewer_live 0 v)
none_fewer None = omega arith
none_fewer (Some v) = omega arith

outlived_copies : (old placed taken users p : ℕ) (v v' : Option Victim) → IsSame v v' → placed ≤ taken → users ≤ taken
    → Copies old placed taken users v (Outlived p) → Copies (taken + 1) placed (taken + 1) users v' NoCopy
outlived_copies old placed taken users p v v' same order granted x =
    let none : begun_of v ≡ 0 = x.none_begun (omega arith) in
    let below : old ≤ max placed users = x.none_old (omega arith) in
    omega (arith, x.own_begun, none, below, same.begun, order, granted)

outlived_zone : (w n rows old a b placed taken resetting p : ℕ) (v v' : Option Victim) → IsSame v v'
    → Zone w n rows old a b placed taken resetting v (Outlived p)
    → Zone w n rows (taken + 1) a b placed (taken + 1) resetting v' NoCopy
outlived_zone w n rows old a b placed taken resetting p v v' same z = omega arith

pub taken_copy : (w n : ℕ) (s : State) (v : Option Victim) (c : Copy) → 1 ≤ w → MayTakeCopy (with s v c) → Counted w n (with s v c)
    → Counted w n (moved (sizes w n) (with s v c) TakeCopy)
taken_copy w n s v NoCopy one may h = absurd (omega arith)
taken_copy w n s None (Fresh p) one may h = absurd (omega (arith, h.copies.at_works))
taken_copy w n s None (Stale p) one may h = absurd (omega (arith, h.copies.at_works))
taken_copy w n s (Some v) (Fresh p) one may h =
    copy_taken w n h.old (with s (Some v) (Fresh p)) (fewer_live 1 (Some v)) one may refl (omega arith) h (omega arith) (λ freed. absurd (omega arith))
    (omega (arith, h.copies)) (omega (arith, h.live))
    (λ a b z. fresh_zone w n h.rows h.old a b s.placed s.taken s.resetting p v h.live.is_live z)
taken_copy w n s (Some v) (Stale p) one may h =
    copy_taken w n h.old (with s (Some v) (Stale p)) (fewer_live 0 (Some v)) one may refl (omega arith) h (omega arith) (λ freed. absurd (omega arith))
    (omega (arith, h.copies)) (omega (arith, h.live))
    (λ a b z. stale_zone w n h.rows h.old a b s.placed s.taken s.resetting p v z)
taken_copy w n s v (Outlived p) one may h =
    let same : IsSame v (fewer_live 0 v) = none_fewer v in
    copy_taken w n (s.taken + 1) (with s v (Outlived p)) (fewer_live 0 v) one may same.work (omega (arith, same.live)) h (omega (arith, h.copies.old_taken))
    (λ freed. omega arith)
    (outlived_copies h.old s.placed s.taken s.users p v (fewer_live 0 v) same h.fronts.in_order h.fronts.users_taken h.copies)
    (omega (arith, h.live, same))
    (λ a b z. outlived_zone w n h.rows h.old a b s.placed s.taken s.resetting p v (fewer_live 0 v) same z)
