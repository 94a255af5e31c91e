-- Of the copies that were taken at most the last one isn't below the front synced, and it is Void,
-- where the victim at work is emptied.
use Rattle.std.proofs.Common.{◌≡◌, ◌⊎◌, inl, inr, ℕ, ◌+◌, ◌-◌, ◌<◌, ◌≤◌, max, zero, suc, Bool, true, Some, None, Option, List, length, take, refl, sym, subst, ap, ◌∙◌, arith, length-take}
use Rattle.std.specs.Prelude.{slice_get}
use Rattle.std.specs.List.{Contains, filter}
use Rattle.std.proofs.lemmas.Bool.{cases_lt}
use Rattle.std.proofs.lemmas.Option.{slice_get_within}
use Rattle.pblk_model.specs.declared.chunk.Mark.{Mark}
use Rattle.pblk_model.specs.declared.shape.Shape.{Shape}
use Rattle.pblk_model.specs.Image.{Image}
use Rattle.pblk_model.specs.Marks.{void_mark}
use Rattle.pblk_world.specs.AtRest.{victim_now}
use Rattle.pblk_world.specs.EngineLog.{Taken, holds_position, placements, taken_by, takes}
use Rattle.pblk_world.specs.Events.{Decides, Entry, Event, Logged, Source, Take}
use Rattle.pblk_world.specs.Freeing.{MayFree}
use Rattle.pblk_world.specs.Fronts.{first_position, synced, taken, was_placed}
use Rattle.pblk_world.specs.Space.{placed_front}
use Rattle.pblk_world.specs.World.{World, log_of}
use Rattle.pblk_world.proofs.SyncedFront.{synced_is, synced_within}
use Rattle.pblk_model.proofs.Lists.{among_contained}
use Rattle.pblk_model.proofs.Maps.{fewer_taken, filter_all, given_at, in_filter}
use Rattle.pblk_model.proofs.Parts.{all_by_get, contained_among, get_taken, get_whole_within, got_within}
use Rattle.pblk_model.proofs.Tests.{lt_true}
use Rattle.pblk_world.specs.LegalMounts.{IsLegalMount}
use Rattle.pblk_world.specs.Reasons.{AreBegun, TakesCopy, WasBegun}
use Rattle.world_laws.proofs.Fronts.{IsLandedAt, landed_at, synced_from}
use Rattle.world_laws.proofs.Positions.{position_below, position_of}
use Rattle.world_laws.proofs.TakenEvents.{IsTakenAt, taken_at}
use Rattle.core_laws.specs.Spent.{IsSpent}
use Rattle.core_laws.proofs.SpentLines.{is_spent}
use Rattle.rest_laws.specs.Copies.{IsEmptied, TookCopy}
use Rattle.rest_laws.proofs.BegunCopies.{before_begun, begun_overtaken, copy_before, copy_synced_or_void}
use Rattle.rest_laws.proofs.LengthLogs.{IsWorldAt, world_at, takes_rise}
use Rattle.rest_laws.proofs.Overtaken.{IsOutlived, IsOvertaken, outlived_where_spent}

-- ---- what is below synced was placed

pub synced_placed : (s : Shape) (log : List Logged) (t : Taken) → first_position log ≤ t.entry.position → t.entry.position < synced s log
    → was_placed s log t ≡ true
synced_placed s log t from below =
    let at : IsLandedAt s log t.entry.position = landed_at s log t.entry.position (synced_is s log t.entry.position from below) in
    let x = in_filter (holds_position s t.entry.position) (placements log) at.placed (among_contained (placements log) at.placed at.there) at.holds in
    let some : x.0 < length (filter (holds_position s t.entry.position) (placements log)) =
    slice_get_within (filter (holds_position s t.entry.position) (placements log)) x.0 at.placed x.1 in
    lt_true 0 (length (filter (holds_position s t.entry.position) (placements log))) (omega arith)

-- so the front placed isn't below the front synced
pub synced_within_placed : (i : Image) (w : World) → IsLegalMount i w → synced i.shape (log_of w 0) ≤ placed_front i.shape (log_of w 0)
synced_within_placed i w mount =
    let placed : Taken → Bool = was_placed i.shape (log_of w 0) in
    let from : first_position (log_of w 0) ≤ synced i.shape (log_of w 0) = synced_from i.shape (log_of w 0) in
    let upto : synced i.shape (log_of w 0) ≤ taken (log_of w 0) = synced_within i.shape (log_of w 0) in
    let all : filter placed (take count ts) ≡ take count ts = filter_all placed (take count ts) (all_by_get (λ t. placed t ≡ true) (take count ts) each) in
    let few : length (filter placed (take count ts)) ≤ length (filter placed ts) = fewer_taken placed count ts in
    let same : length (filter placed (take count ts)) ≡ length (take count ts) = ap length all in
    omega (arith, length-take count ts)
  where
    ts : List Taken
    ts = takes (log_of w 0)

    count : ℕ
    count = synced i.shape (log_of w 0) - first_position (log_of w 0)

    each : (k : ℕ) (t : Taken) → slice_get (take count ts) k ≡ Some t → was_placed i.shape (log_of w 0) t ≡ true
    each k t at =
        let its = get_whole_within count ts k t at in
        let position : t.entry.position ≡ first_position (log_of w 0) + k = position_of i w k t mount.legal its.0 in
        let low : k < count = its.1 in
        synced_placed i.shape (log_of w 0) t (omega arith) (omega arith)

-- a victim at work that may be freed is emptied
pub freeable_emptied : (i : Image) (w : World) (line : ℕ) → IsLegalMount i w → victim_now i (log_of w) ≡ Some line → MayFree i (log_of w) line
    → IsEmptied i (log_of w) line
freeable_emptied i w line mount at may =
    let spent : IsSpent i (log_of w) line = is_spent i w mount line may in
    record { at_work = at; none_live = spent.none_live; takers_synced = spent.takers_synced }

-- ---- copies

pub takes_copy : (entry : Entry) (mark : Mark) (knows : List ℕ) (source : Source) → entry.source ≡ Some source
    → TakesCopy (record { event = Decides (Take entry mark); knows = knows })
takes_copy entry mark knows source copy =
    let its : Option Source → Entry = λ o. record { position = entry.position; lba = entry.lba; source = o; sector = entry.sector } in
    subst (λ o. TakesCopy (record { event = Decides (Take (its o) mark); knows = knows })) (sym copy)
    (record { entry = its (Some source); mark = mark }, refl, tt)

module _ (i : Image) (w : World) (mount : IsLegalMount i w) where
  abbrev log : List Logged
  log = log_of w 0

  -- a copy that was taken before another was begun lies below all that was taken since
  taken_before : (n k lba : ℕ) (source : Source) (entry : Entry) (mark : Mark) → k < n → n ≤ length (log_of w 0)
      → (b : WasBegun i (log_of w) n lba source) → TookCopy (log_of w 0) k entry mark → entry.position < taken (take b.at (log_of w 0))
  taken_before n k lba source entry mark before inside b took = go (cases_lt k b.at)
    where
      l : Logged
      l = record { event = Decides (Take entry mark); knows = took.knows }

      go : (k < b.at) ⊎ (b.at ≤ k) → entry.position < taken (take b.at (log_of w 0))
      go (inr after) = absurd (b.alone k (record { event = Decides (Take entry mark); knows = took.knows }) after before took.there
          (takes_copy entry mark took.knows took.source took.is_copy))
      go (inl early) =
          let within : b.at ≤ n = b.within in
          let v : IsWorldAt i w b.at = world_at i w b.at mount.legal (omega arith) in
          let t : Taken = record { entry = entry; mark = mark } in
          let there : slice_get (log_of v.world 0) k ≡ Some (record { event = Decides (Take entry mark); knows = took.knows }) =
          ap (λ (xs : List Logged). slice_get xs k) v.own ∙ get_taken b.at log k early ∙ took.there in
          let at = given_at (λ (x : Logged). taken_by x.event) (log_of v.world 0) (record { event = Decides (Take entry mark); knows = took.knows }) t k
          there refl in
          let low : entry.position < taken (log_of v.world 0) = position_below i v.world at.0 t v.legal at.1 in
          let same : taken (log_of v.world 0) ≡ taken (take b.at log) = ap taken v.own in
          omega arith

  module _ (line : ℕ) (empty : IsEmptied i (log_of w) line) where
    out : IsOutlived i w mount line
    out = outlived_where_spent i w mount line empty.none_live empty.takers_synced

    pub overtaken : (n lba : ℕ) (source : Source) → n ≤ length (log_of w 0) → lba < i.shape.capacity → (b : WasBegun i (log_of w) n lba source)
        → IsOvertaken i w lba (taken (take b.at (log_of w 0)))
    overtaken n lba source inside small b = begun_overtaken i w mount line empty.at_work out n lba source inside small b

    -- a copy that was taken before one that was begun
    pub below_begun : (n k lba : ℕ) (source : Source) (entry : Entry) (mark : Mark) → k < n → n ≤ length (log_of w 0) → lba < i.shape.capacity
        → WasBegun i (log_of w) n lba source → TookCopy (log_of w 0) k entry mark → entry.position < synced i.shape (log_of w 0)
    below_begun n k lba source entry mark before inside small b took =
        let low : entry.position < taken (take b.at log) = taken_before n k lba source entry mark before inside b took in
        let high : taken (take b.at log) < synced i.shape log = before_begun i w mount line empty.at_work out n lba source inside small b in
        omega arith

    module _ (begun_all : AreBegun i (log_of w)) where
      pub synced_or_void : (k : ℕ) (entry : Entry) (mark : Mark) → TookCopy (log_of w 0) k entry mark
          → (entry.position < synced i.shape (log_of w 0)) ⊎ (mark ≡ void_mark entry.position)
      synced_or_void k entry mark took =
          copy_synced_or_void i w mount line empty.at_work out begun_all k took.knows entry mark took.source took.there took.is_copy

      -- before another that was taken
      pub below_later : (k m : ℕ) (entry other : Entry) (mark other_mark : Mark) → k < m → TookCopy (log_of w 0) k entry mark
          → TookCopy (log_of w 0) m other other_mark → entry.position < synced i.shape (log_of w 0)
      below_later k m entry other mark other_mark before took later =
          let b : WasBegun i (log_of w) m other.lba later.source = begun_all.each m later.knows other other_mark later.source later.there later.is_copy in
          let inside : m < length log =
          slice_get_within log m (record { event = Decides (Take other other_mark); knows = later.knows }) later.there in
          let low : entry.position < taken (take b.at log) =
          taken_before m k other.lba later.source entry mark before (omega arith) b took in
          let high : taken (take b.at log) < synced i.shape log =
          copy_before i w mount line empty.at_work out begun_all m later.knows other other_mark later.source later.there later.is_copy in
          omega arith

    -- ---- by counting

    module _ (users : ℕ) (all : (t : Taken) → Contains (takes (log_of w 0)) t → t.entry.source ≡ None → t.entry.position < users) where
      -- an entry at a place of the list: a user's, or a copy
      data IsEither (n : ℕ) : Type 0 where
        OfUser : first_position (log_of w 0) + n < users → IsEither n
        OfCopy : (number : ℕ) (t : Taken) → TookCopy (log_of w 0) number t.entry t.mark → t.entry.position ≡ first_position (log_of w 0) + n
            → takes (take number (log_of w 0)) ≡ take n (takes (log_of w 0)) → IsEither n

      either : (n : ℕ) → n < length (takes (log_of w 0)) → IsEither n
      either n small = go at.0.entry.source refl
        where
          at : (t : Taken) × (slice_get (takes (log_of w 0)) n ≡ Some t)
          at = got_within (takes log) n small

          position : at.0.entry.position ≡ first_position (log_of w 0) + n
          position = position_of i w n at.0 mount.legal at.1

          event : IsTakenAt (log_of w 0) n at.0
          event = taken_at log n at.0 at.1

          go : (o : Option Source) → at.0.entry.source ≡ o → IsEither n
          go None e =
              let low : at.0.entry.position < users = all at.0 (contained_among (takes log) at.0 (n, at.1)) e in
              OfUser (omega (arith, position))
          go (Some source) e = OfCopy event.number at.0 (record {
            knows = event.logged.knows;
            there = event.there ∙ ap (λ (x : Event). Some (record { event = x; knows = event.logged.knows })) event.event;
            source = source;
            is_copy = e;
          }) position event.before

      -- of two neighbours of which both are copies the earlier one is below synced
      neighbours : AreBegun i (log_of w) → (n : ℕ) → suc n < length (takes (log_of w 0)) → IsEither n → IsEither (suc n)
          → first_position (log_of w 0) + suc n ≤ max (synced i.shape (log_of w 0)) users
      neighbours begun_all n small (OfUser low) next = omega arith
      neighbours begun_all n small first (OfUser low) = omega arith
      neighbours begun_all n small (OfCopy number t took position before) (OfCopy later u other at before_later) = order (cases_lt number later)
        where
          order : (number < later) ⊎ (later ≤ number) → first_position (log_of w 0) + suc n ≤ max (synced i.shape (log_of w 0)) users
          order (inl less) =
              let low : t.entry.position < synced i.shape log = below_later begun_all number later t.entry u.entry t.mark u.mark less took other in
              omega arith
          order (inr most) =
              let rise : length (takes (take later log)) ≤ length (takes (take number log)) = takes_rise log later number most in
              let one : length (takes (take number log)) ≡ length (take n (takes log)) = ap length before in
              let two : length (takes (take later log)) ≡ length (take (suc n) (takes log)) = ap length before_later in
              absurd (omega (arith, length-take n (takes log), length-take (suc n) (takes log)))

      pub count : AreBegun i (log_of w) → taken (log_of w 0) ≤ max (synced i.shape (log_of w 0)) users + 1
      count begun_all = go (length (takes log)) refl
        where
          first : first_position (log_of w 0) ≤ synced i.shape (log_of w 0)
          first = synced_from i.shape log

          go : (n : ℕ) → length (takes (log_of w 0)) ≡ n → taken (log_of w 0) ≤ max (synced i.shape (log_of w 0)) users + 1
          go zero e = omega (arith, first)
          go (suc zero) e = omega (arith, first)
          go (suc (suc n)) e =
              let least : first_position log + suc n ≤ max (synced i.shape log) users =
              neighbours begun_all n (omega arith) (either n (omega arith)) (either (suc n) (omega arith)) in
              omega arith

      pub count_under_way : (lba : ℕ) (source : Source) → lba < i.shape.capacity → WasBegun i (log_of w) (length (log_of w 0)) lba source
          → taken (log_of w 0) ≤ max (synced i.shape (log_of w 0)) users
      count_under_way lba source small b = go (length (takes log)) refl
        where
          first : first_position (log_of w 0) ≤ synced i.shape (log_of w 0)
          first = synced_from i.shape log

          by : (n : ℕ) → length (takes (log_of w 0)) ≡ suc n → IsEither n → taken (log_of w 0) ≤ max (synced i.shape (log_of w 0)) users
          by n e (OfUser low) = omega arith
          by n e (OfCopy number t took position before) =
              let inside : number < length log =
              slice_get_within log number (record { event = Decides (Take t.entry t.mark); knows = took.knows }) took.there in
              let low : t.entry.position < synced i.shape log = below_begun (length log) number lba source t.entry t.mark inside (omega arith) small b took in
              omega arith

          go : (n : ℕ) → length (takes (log_of w 0)) ≡ n → taken (log_of w 0) ≤ max (synced i.shape (log_of w 0)) users
          go zero e = omega (arith, first)
          go (suc n) e = by n e (either n (omega arith))

-- ---- the clauses

pub overtaken_exists : (i : Image) (w : World) (line n lba : ℕ) (source : Source) → IsLegalMount i w → IsEmptied i (log_of w) line
    → n ≤ length (log_of w 0) → lba < i.shape.capacity → (b : WasBegun i (log_of w) n lba source)
    → (t : Taken) × Contains (takes (log_of w 0)) t × (t.mark.lba ≡ lba) × (taken (take b.at (log_of w 0)) ≤ t.entry.position)
    × (t.entry.position < synced i.shape (log_of w 0))
overtaken_exists i w line n lba source mount empty inside small b =
    let h : IsOvertaken i w lba (taken (take b.at (log_of w 0))) = overtaken i w mount line empty n lba source inside small b in
    (h.t, contained_among (takes (log_of w 0)) h.t h.there, h.of_it, h.least, h.below)

pub all_before : (i : Image) (w : World) (line n lba : ℕ) (source : Source) → IsLegalMount i w → IsEmptied i (log_of w) line
    → n ≤ length (log_of w 0) → lba < i.shape.capacity → (b : WasBegun i (log_of w) n lba source)
    → taken (take b.at (log_of w 0)) < synced i.shape (log_of w 0)
all_before i w line n lba source mount empty inside small b =
    let h : IsOvertaken i w lba (taken (take b.at (log_of w 0))) = overtaken i w mount line empty n lba source inside small b in
    let least : taken (take b.at (log_of w 0)) ≤ h.t.entry.position = h.least in
    let below : h.t.entry.position < synced i.shape (log_of w 0) = h.below in
    omega arith

pub void_clause : (i : Image) (w : World) (line number : ℕ) (entry : Entry) (mark : Mark) → IsLegalMount i w → AreBegun i (log_of w)
    → IsEmptied i (log_of w) line → TookCopy (log_of w 0) number entry mark
    → (entry.position < synced i.shape (log_of w 0)) ⊎ (mark ≡ void_mark entry.position)
void_clause i w line number entry mark mount begun_all empty took = synced_or_void i w mount line empty begun_all number entry mark took

pub last_clause : (i : Image) (w : World) (line number later : ℕ) (entry other : Entry) (mark other_mark : Mark) → IsLegalMount i w → AreBegun i (log_of w)
    → IsEmptied i (log_of w) line → number < later → TookCopy (log_of w 0) number entry mark → TookCopy (log_of w 0) later other other_mark
    → entry.position < synced i.shape (log_of w 0)
last_clause i w line number later entry other mark other_mark mount begun_all empty before took next =
    below_later i w mount line empty begun_all number later entry other mark other_mark before took next

pub under_way_clause : (i : Image) (w : World) (line number lba : ℕ) (source : Source) (entry : Entry) (mark : Mark) → IsLegalMount i w
    → IsEmptied i (log_of w) line → lba < i.shape.capacity → WasBegun i (log_of w) (length (log_of w 0)) lba source
    → TookCopy (log_of w 0) number entry mark → entry.position < synced i.shape (log_of w 0)
under_way_clause i w line number lba source entry mark mount empty small b took =
    let inside : number < length (log_of w 0) =
    slice_get_within (log_of w 0) number (record { event = Decides (Take entry mark); knows = took.knows }) took.there in
    below_begun i w mount line empty (length (log_of w 0)) number lba source entry mark inside (omega arith) small b took

pub count_clause : (i : Image) (w : World) (line users : ℕ) → IsLegalMount i w → AreBegun i (log_of w) → IsEmptied i (log_of w) line
    → ((t : Taken) → Contains (takes (log_of w 0)) t → t.entry.source ≡ None → t.entry.position < users)
    → taken (log_of w 0) ≤ max (synced i.shape (log_of w 0)) users + 1
count_clause i w line users mount begun_all empty all = count i w mount line empty users all begun_all

pub count_under_way_clause : (i : Image) (w : World) (line users lba : ℕ) (source : Source) → IsLegalMount i w → IsEmptied i (log_of w) line
    → ((t : Taken) → Contains (takes (log_of w 0)) t → t.entry.source ≡ None → t.entry.position < users)
    → lba < i.shape.capacity → WasBegun i (log_of w) (length (log_of w 0)) lba source
    → taken (log_of w 0) ≤ max (synced i.shape (log_of w 0)) users
count_under_way_clause i w line users lba source mount empty all small b = count_under_way i w mount line empty users all lba source small b
