-- Entries that are taken one after another.
use Rattle.std.proofs.Common.{◌≡◌, ◌≢◌, ◌⊎◌, inl, inr, ℕ, ◌+◌, ◌-◌, ◌*◌, ◌^◌, ◌<◌, ◌≤◌, max, Bool, true, false, Some, List, [], ◌∷◌, length, length-append, refl, sym, subst, subst₂, ap, ◌∙◌, arith, le_refl, le_trans}
use Rattle.std.proofs.lemmas.Bool.{cases_lt}
use Rattle.std.specs.Prelude.{slice_get, slice_index}
use mathlib.Core.List.{IsPrefix}
use base.Growing.{prefix_refl, prefix_trans}
use Rattle.pblk_model.specs.Image.{Image}
use Rattle.pblk_model.specs.Shape.{units}
use Rattle.pblk_model.proofs.Parts.{get_last, get_more}
use Rattle.pblk_world.specs.Events.{Decides, EngineEvent, Take}
use Rattle.pblk_world.specs.Fronts.{first_position}
use Rattle.pblk_world.specs.Orders.{NoneToFree}
use Rattle.pblk_world.specs.Reasons.{WasRoom}
use Rattle.pblk_world.specs.Space.{room}
use Rattle.pblk_world.specs.World.{Logs}
use Rattle.sector_pool.specs.declared.entry.Class.{Class}
use Rattle.sector_pool.specs.declared.entry.Class.TheVariants.{User, Copy}
use Rattle.sector_pool.specs.declared.entry.Entry.{Entry as FramedEntry}
use Rattle.write_ring.specs.Frames.{entry_row}
use Rattle.write_ring.specs.Handles.{HasTaken}
use Rattle.write_ring.specs.Stock.{HasPut}
use Rattle.write_ring.specs.declared.view.Desk.{Desk}
use Rattle.write_ring.specs.declared.view.Part.{Part}
use Rattle.write_ring.specs.declared.view.Row.{Row}
use Rattle.write_ring.specs.declared.view.View.{View}
use Rattle.pblk_core.specs.Copies.{is_copying}
use Rattle.pblk_core.specs.Keeping.{KeepsStripesTaking, still_copying}
use Rattle.pblk_core.specs.Mounts.{CollectsAfter, StandsAfter}
use Rattle.pblk_core.specs.Named.{pad_of}
use Rattle.pblk_core.specs.Taken.{entry_of, mark_of}
use Rattle.pblk_core.specs.Taking.{with_waiting}
use Rattle.pblk_core.specs.declared.target_core.Core.{Core}
use Rattle.chronicle.specs.Handles.{AuthorView}
use Rattle.chronicle.specs.Prefixes.{logs_of, with_event}
use Rattle.pblk_engine.specs.Asks.{IsRaisedByVictims}
use Rattle.pblk_engine.specs.Hearts.{HasCopies, HasDecided, IsBeating, IsHeart, IsRingFor, IsSettled, KeepsWork, Parts, parts}
use Rattle.pblk_engine.specs.Takes.{HasTakenRow, TakesOn}
use Rattle.pblk_engine.proofs.Asks.{raised_appended, raised_next, raised_none}
use Rattle.pblk_engine.proofs.HeartSteps.{IsAfter}
use Rattle.pblk_engine.proofs.Knowledge.{known_next}
use Rattle.pblk_engine.proofs.Settles.{beating_appended, decided_none, decided_one, decided_then, heart_moved, is_zero}
use Rattle.pblk_engine.proofs.Takes.{after_take, may_append, none_later}

-- ---- rows that were taken

-- where no position was taken, none is between
none_between : (front other at : ℕ) → other ≡ front → front ≤ at → at < other → ⊥
none_between front other at same low high = omega arith

-- of what the intake put, at most one row isn't taken
one_row : (i : Image) (logs : Logs) (copying : Bool) (pass : Part) (front : ℕ) → HasCopies i logs copying pass front → (r s : Row) → HasPut r pass
    → HasPut s pass → front ≤ r.position → front ≤ s.position → r ≡ s
one_row i logs true pass front is r s r_put s_put r_from s_from = is.only_put r r_put r_from ∙ sym (is.only_put s s_put s_from)
one_row i logs false pass front is r s r_put s_put r_from s_from = let low : r.position < front = is.puts r r_put in absurd (omega arith)

-- what was taken before more was
row_before : (a b c : View) (r : Row) → HasTakenRow a b r → IsPrefix b.intake.took c.intake.took → HasTakenRow a c r
row_before a b c r is more = record {
  at = is.at;
  place = is.place;
  there = subst (λ (rows : List Row). slice_get rows is.at ≡ Some r) more.1 (get_more b.intake.took more.0 is.at r is.there);
}

-- and what was taken then
row_then : (a b c : View) (r : Row) → length b.intake.took + a.intake.taken ≡ length a.intake.took + b.intake.taken → HasTakenRow b c r → HasTakenRow a c r
row_then a b c r count is = record {
  at = is.at;
  place = let place : is.at + b.intake.taken ≡ length b.intake.took + r.position = is.place in omega arith;
  there = is.there;
}

-- or either
pub row_either : (a b c : View) (r : Row) → IsPrefix b.intake.took c.intake.took
    → length b.intake.took + a.intake.taken ≡ length a.intake.took + b.intake.taken → (r.position < b.intake.taken → HasTakenRow a b r)
    → (b.intake.taken ≤ r.position → HasTakenRow b c r) → HasTakenRow a c r
row_either a b c r more count early late = go (cases_lt r.position b.intake.taken)
  where
    go : (r.position < b.intake.taken) ⊎ (b.intake.taken ≤ r.position) → HasTakenRow a c r
    go (inl before) = row_before a b c r (early before) more
    go (inr since) = row_then a b c r count (late since)

-- how many were taken in two tries
pub counts : (k m n a b c : ℕ) → m + a ≡ k + b → n + b ≡ m + c → n + a ≡ k + c
counts k m n a b c p q = omega arith

-- where none was, none was in the first
pub first_none : (k m n : ℕ) → k ≤ m → m ≤ n → n ≡ k → m ≡ k
first_none k m n low high same = omega arith

-- ---- no entry, or more

-- only loads were made
pub takes_none : (a b : Parts) → b.core ≡ a.core → b.author ≡ a.author → b.intake.intake ≡ a.intake.intake → b.intake.pass ≡ a.intake.pass
    → a.intake.found.claimed ≤ b.intake.found.claimed → TakesOn a b
takes_none a b core author desk pass claimed = record {
  decided = subst (λ (x : AuthorView). HasDecided a.author x) (sym author) (decided_none a.author);
  took = subst (λ (d : Desk). IsPrefix a.intake.intake.took d.took) (sym desk) (prefix_refl a.intake.intake.took);
  rises = subst (λ (d : Desk). a.intake.intake.taken ≤ d.taken) (sym desk) (le_refl a.intake.intake.taken);
  count = subst (λ (d : Desk). length d.took + a.intake.intake.taken ≡ length a.intake.intake.took + d.taken) (sym desk) refl;
  as_put = λ r put low high. absurd (none_between a.intake.intake.taken b.intake.intake.taken r.position (ap (λ (d : Desk). d.taken) desk) low high);
  claimed = claimed;
  granted = subst (λ (d : Desk). a.intake.intake.granted ≤ d.granted) (sym desk) (le_refl a.intake.intake.granted);
  pass = pass;
  copying = λ is. subst (λ (x : Core). is_copying x ≡ true) core is;
  pad = subst (λ (x : Core). pad_of a.core ≤ pad_of x) (sym core) (le_refl (pad_of a.core));
  pads = raised_none b.author.past.image (logs_of b.author.known) (pad_of a.core) (pad_of b.core) (ap (λ (x : Core). pad_of x) core);
  none = λ same. (core, author, desk);
}

pub takes_then : (a b c : Parts) → TakesOn a b → TakesOn b c → TakesOn a c
takes_then a b c x y = record {
  decided = decided_then a.author b.author c.author x.decided y.decided;
  took = prefix_trans a.intake.intake.took b.intake.intake.took c.intake.intake.took x.took y.took;
  rises = le_trans x.rises y.rises;
  count = counts (length a.intake.intake.took) (length b.intake.intake.took) (length c.intake.intake.took) a.intake.intake.taken b.intake.intake.taken
      c.intake.intake.taken x.count y.count;
  as_put = λ r put low high. row_either a.intake b.intake c.intake r y.took x.count
      (λ before. x.as_put r (subst (HasPut r) y.pass put) low before) (λ since. y.as_put r put since high);
  claimed = le_trans x.claimed y.claimed;
  granted = le_trans x.granted y.granted;
  pass = y.pass ∙ x.pass;
  copying = λ is. x.copying (y.copying is);
  pad = le_trans x.pad y.pad;
  pads = raised_next b.author c.author (pad_of a.core) (pad_of b.core) (pad_of c.core) y.decided x.pads y.pads;
  none = λ same.
      let first : b.intake.intake.taken ≡ a.intake.intake.taken =
      first_none a.intake.intake.taken b.intake.intake.taken c.intake.intake.taken x.rises y.rises same in
      let one = x.none first in
      let two = y.none (same ∙ sym first) in
      (two.0 ∙ one.0, two.1 ∙ one.1, two.2 ∙ one.2);
}

-- ---- an entry

-- a copy that is under way then was so before
still : (class : Class) (u : Bool) → still_copying class u ≡ true → u ≡ true
still User u is = is
still Copy u is = absurd cc

module _ (h : Parts) (b : IsBeating h) (e : FramedEntry) (v : View) (t : HasTaken h.intake e v)
    (fit : (k : ℕ) → slice_index e.frame.bytes k < 256)
    (none : NoneToFree h.author.past.image (logs_of h.author.known)) (new : Core)
    (stands : StandsAfter h.core (Take (entry_of e) (mark_of h.core.map e)) new)
    (collects : CollectsAfter h.core (Take (entry_of e) (mark_of h.core.map e)) new) (pushed : new.window ≡ with_waiting h.core.window e)
    (kept : KeepsStripesTaking e.class h.core new) (key : v.key ≡ h.intake.key) (pass : v.pass ≡ h.intake.pass) (a : AuthorView)
    (appended : a ≡ record h.author { known = with_event h.author.known h.author.number (Decides (Take (entry_of e) (mark_of h.core.map e))) }) where
  abbrev event : EngineEvent
  event = Take (entry_of e) (mark_of h.core.map e)

  after_it : IsAfter h.author.past.image b.legal.world event h.core new h.intake v
  after_it = after_take h b e v t fit new none stands collects pushed kept key pass

  pub beating_taken : IsBeating (parts new a v)
  beating_taken = beating_appended h b event a appended new v (may_append h b e v t fit) key after_it

  pub none_taken : NoneToFree a.past.image (logs_of a.known)
  none_taken =
      subst (λ (x : AuthorView). NoneToFree x.past.image (logs_of x.known)) (sym (is_zero h b event a appended))
      (subst (NoneToFree h.author.past.image) (sym (known_next h.author.past.image h.author.known b.legal event))
      (none_later h b e v t fit none))

  counted : length v.intake.took + h.intake.intake.taken ≡ length h.intake.intake.took + v.intake.taken
  counted =
      let one : v.intake.taken ≡ h.intake.intake.taken + 1 = t.next in
      let more : length v.intake.took ≡ length h.intake.intake.took + 1 =
      ap (λ (rows : List Row). length rows) t.took ∙ length-append h.intake.intake.took (entry_row e ∷ []) in
      omega arith

  -- a row that the intake put at its position is that of the entry
  is_its : (r : Row) → HasPut r v.pass → r.position ≡ h.intake.intake.taken → r ≡ entry_row e
  is_its r put here = go e.class refl
    where
      its : HasPut r h.intake.pass
      its = subst (HasPut r) pass put

      go : (class : Class) → e.class ≡ class → r ≡ entry_row e
      go User is = absurd (t.apart is r its (here ∙ sym t.position))
      go Copy is =
          one_row h.author.past.image (logs_of h.author.known) (is_copying h.core) h.intake.pass h.intake.intake.taken b.heart.copies r (entry_row e) its
          (t.copy is) (let at : r.position ≡ h.intake.intake.taken = here in omega arith)
          (let at : e.position ≡ h.intake.intake.taken = t.position in omega arith)

  put_there : (r : Row) → HasPut r v.pass → h.intake.intake.taken ≤ r.position → r.position < v.intake.taken → HasTakenRow h.intake v r
  put_there r put low high = record {
    at = length h.intake.intake.took;
    place = let at : r.position ≡ h.intake.intake.taken = here in omega arith;
    there = ap (λ (rows : List Row). slice_get rows (length h.intake.intake.took)) t.took ∙ get_last h.intake.intake.took (entry_row e)
        ∙ ap (λ (row : Row). Some row) (sym (is_its r put here));
  }
    where
      here : r.position ≡ h.intake.intake.taken
      here = let one : v.intake.taken ≡ h.intake.intake.taken + 1 = t.next in omega arith

  pub takes_one : h.intake.found.claimed ≤ v.found.claimed → TakesOn h (parts new a v)
  takes_one claimed = record {
    decided = decided_one h b event a appended;
    took = (entry_row e ∷ [], sym t.took);
    rises = let one : v.intake.taken ≡ h.intake.intake.taken + 1 = t.next in omega arith;
    count = counted;
    as_put = put_there;
    claimed = claimed;
    granted = subst (λ n. h.intake.intake.granted ≤ n) (sym t.granted) (le_refl h.intake.intake.granted);
    pass = pass;
    copying = λ is. still e.class (is_copying h.core) (sym kept.copying ∙ is);
    pad = kept.pad.least;
    pads = raised_appended h b event a appended new v (may_append h b e v t fit) after_it;
    none = λ same. let one : v.intake.taken ≡ h.intake.intake.taken + 1 = t.next in absurd (omega (arith, same));
  }

-- ---- what loads found changes nothing

module _ (i : Image) (logs : Logs) (c : Core) (v w : View) (key : w.key ≡ v.key) (pass : w.pass ≡ v.pass) (desk : w.intake ≡ v.intake) where
  pub heart_seen : IsHeart i logs c v → IsHeart i logs c w
  heart_seen is = heart_moved i logs c c v w is is.stands is.collects is.own key pass (ap (λ (d : Desk). d.took) desk) (ap (λ (d : Desk). d.taken) desk) refl
      (ap (λ (d : Desk). d.freed) desk ∙ is.freed)
      (subst (λ (d : Desk). d.granted + units i.shape * i.shape.ws_opt ≤ d.freed + i.shape.ring) (sym desk) is.within)
      (subst (λ (d : Desk). d.granted ≤ max (2 ^ 61 - 2) (first_position (logs 0))) (sym desk) is.last)
      (subst (λ (d : Desk). WasRoom i logs (length (logs 0)) d.granted) (sym desk) is.once) refl refl

  pub settled_seen : IsSettled i logs c v → IsSettled i logs c w
  settled_seen is = record {
    heart = heart_seen is.heart;
    none_to_free = is.none_to_free;
    drained = is.drained;
    room = subst (λ (d : Desk). room i logs ≤ d.granted) (sym desk) is.room;
  }

pub beating_seen : (h : Parts) (b : IsBeating h) (w : View) → w.key ≡ h.intake.key → w.pass ≡ h.intake.pass → w.intake ≡ h.intake.intake
    → IsBeating (parts h.core h.author w)
beating_seen h b w key pass desk = record {
  engine = b.engine;
  legal = b.legal;
  fits = subst (IsRingFor h.author.past.image) (sym key) b.fits;
  heart = heart_seen h.author.past.image (logs_of h.author.known) h.core h.intake w key pass desk b.heart;
}

-- ---- once it settled

row_as : (a b c : View) (r : Row) → c.intake.took ≡ b.intake.took → HasTakenRow a b r → HasTakenRow a c r
row_as a b c r same is = record {
  at = is.at;
  place = is.place;
  there = subst (λ (rows : List Row). slice_get rows is.at ≡ Some r) (sym same) is.there;
}

-- where an entry was taken, and then lines were freed, frames given back and positions granted
pub takes_settled : (a b c : Parts) → TakesOn a b → b.intake.intake.taken ≢ a.intake.intake.taken → HasDecided b.author c.author → KeepsWork b.core c.core
    → IsRaisedByVictims c.author.past.image (logs_of c.author.known) (pad_of b.core) (pad_of c.core) → c.intake.pass ≡ b.intake.pass
    → c.intake.intake.taken ≡ b.intake.intake.taken → c.intake.intake.took ≡ b.intake.intake.took → c.intake.found.claimed ≡ b.intake.found.claimed
    → b.intake.intake.granted ≤ c.intake.intake.granted → TakesOn a c
takes_settled a b c x some decided kept pads pass taken took claimed granted = record {
  decided = decided_then a.author b.author c.author x.decided decided;
  took = subst (IsPrefix a.intake.intake.took) (sym took) x.took;
  rises = subst (λ n. a.intake.intake.taken ≤ n) (sym taken) x.rises;
  count = subst₂ (λ (rows : List Row) n. length rows + a.intake.intake.taken ≡ length a.intake.intake.took + n) (sym took) (sym taken) x.count;
  as_put = λ r put low high. row_as a.intake b.intake c.intake r took
      (x.as_put r (subst (HasPut r) pass put) low (subst (λ n. r.position < n) taken high));
  claimed = subst (λ n. a.intake.found.claimed ≤ n) (sym claimed) x.claimed;
  granted = le_trans x.granted granted;
  pass = pass ∙ x.pass;
  copying = λ is. x.copying (sym kept.copying ∙ is);
  pad = le_trans x.pad kept.pad;
  pads = raised_next b.author c.author (pad_of a.core) (pad_of b.core) (pad_of c.core) decided x.pads pads;
  none = λ same. absurd (some (sym taken ∙ same));
}
