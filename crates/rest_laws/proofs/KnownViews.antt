-- A copy that was taken as Void: its sector was taken since the copy was begun.
use Rattle.std.proofs.Common.{◌≡◌, ◌⊎◌, inl, inr, ℕ, ◌-◌, ◌<◌, ◌≤◌, ◌++◌, zero, suc, Some, List, length, take, drop, refl, sym, subst, ap, ◌∙◌, arith, length-take}
use Rattle.std.specs.Prelude.{slice_get}
use Rattle.std.proofs.lemmas.List.{take-append-le, take-take}
use Rattle.std.proofs.lemmas.Option.{slice_get_within}
use Rattle.pblk_model.specs.declared.chunk.Mark.{Mark}
use Rattle.pblk_model.specs.Chunk.{Block}
use Rattle.pblk_model.specs.Image.{Image}
use Rattle.pblk_world.specs.AtRest.{knows_last, logs_at}
use Rattle.pblk_world.specs.EngineLog.{life_of, Taken, takes}
use Rattle.pblk_world.specs.Events.{Decides, Entry, Logged, Source, Take}
use Rattle.pblk_world.specs.Fronts.{last_take, taken}
use Rattle.pblk_world.specs.Taking.{Copies, CopiesStale, IsLatest, IsMarked, IsPlaceOfLatest}
use Rattle.pblk_world.specs.World.{World, Logs, known, log_of, prefixes}
use Rattle.pblk_model.proofs.Lists.{IsAmong, among_contained, among_more}
use Rattle.pblk_model.proofs.Numbers.{fun_same}
use Rattle.pblk_model.proofs.Parts.{contained_among, get_taken, got_within, is_in, take_and_drop}
use Rattle.pblk_world.specs.LegalMounts.{IsLegalMount}
use Rattle.pblk_world.specs.Reasons.{WasBegun}
use Rattle.world_laws.proofs.Later.{takes_joined}
use Rattle.world_laws.proofs.Made.{IsMade, known_part, log_then, made, own_then}
use Rattle.world_laws.proofs.NextLives.{IsDecided, decided}
use Rattle.rest_laws.specs.AtWork.{IsAtWorkFrom, WasTakenSince}
use Rattle.rest_laws.specs.Copies.{TookCopy}
use Rattle.rest_laws.proofs.CountedCopies.{later_at_work, own_taken}
use Rattle.rest_laws.proofs.LivesAtWork.{life_at_work}
use Rattle.world_laws.proofs.ToldSince.{told_when_made}
use Rattle.rest_laws.proofs.KnownBlocks.{known_holds}
use Rattle.rest_laws.proofs.StaleSources.{HoldsTold, stale_taken}

-- what was taken by a length was taken by the next one
pub since_next : (log : List Logged) (lba from n : ℕ) → from ≤ n → WasTakenSince (take n log) lba from → WasTakenSince (take (suc n) log) lba from
since_next log lba from n upto h =
    let parts : take n log ++ drop n (take (suc n) log) ≡ take (suc n) log =
    ap (λ (xs : List Logged). xs ++ drop n (take (suc n) log)) (sym (take-take n (suc n) log (omega arith))) ∙ take_and_drop n (take (suc n) log) in
    let begin : take from (take (suc n) log) ≡ take from (take n log) = take-take from (suc n) log (omega arith) ∙ sym (take-take from n log upto) in
    let fronts : taken (take from (take (suc n) log)) ≡ taken (take from (take n log)) = ap taken begin in
    let since : taken (take from (take n log)) ≤ h.t.entry.position = h.since in
    record {
      t = h.t;
      there = contained_among (takes (take (suc n) log)) h.t
          (subst (λ (ts : List Taken). IsAmong ts h.t) (sym (takes_joined (take n log) (drop n (take (suc n) log))) ∙ ap takes parts)
          (among_more (takes (take n log)) (takes (drop n (take (suc n) log))) h.t (among_contained (takes (take n log)) h.t h.there)));
      of_it = h.of_it;
      since = omega arith;
    }

module _ (i : Image) (w : World) (number : ℕ) (l : Logged) (mount : IsLegalMount i w) (there : slice_get (log_of w 0) number ≡ Some l) where
  abbrev log : List Logged
  log = log_of w 0

  -- the world before the event
  abbrev pub h : IsMade i w 0 number l
  h = made i w 0 number l mount.legal there

  pub mount_before : IsLegalMount i (made i w 0 number l mount.legal there).before
  mount_before = record { accepted = mount.accepted; fit = mount.fit; legal = h.legal }

  pub own_before : log_of (made i w 0 number l mount.legal there).before 0 ≡ take number (log_of w 0)
  own_before = own_then i w 0 number l h

  -- what the engine knew of it
  pub view_same : prefixes l (log_of w) ≡ prefixes l (log_of (made i w 0 number l mount.legal there).before)
  view_same = fun_same (prefixes l (log_of w)) (prefixes l (log_of h.before)) (λ other.
      let more = log_then i w 0 number l h other in
      ap (take (known l other)) more.1 ∙ take-append-le (known l other) (log_of h.before other) more.0 (h.step.knowledge.within other))

  holds : HoldsTold i (made i w 0 number l mount.legal there).before (prefixes l (log_of (made i w 0 number l mount.legal there).before))
  holds = known_holds i h.before mount_before l.knows (λ unit. h.step.knowledge.within (suc unit))
      (λ m unit in_it. h.step.knowledge.rising m (suc unit) in_it) (told_when_made i w number l h)

  inside : number < length (log_of w 0)
  inside = slice_get_within log number l there

  module _ (from : ℕ) (some : 0 < from) (upto : from ≤ number) where
    last : (x : Logged) × (slice_get (log_of (made i w 0 number l mount.legal there).before 0) (from - 1) ≡ Some x)
    last = got_within (log_of h.before 0) (from - 1)
        (let count : length (log_of h.before 0) ≡ length (take number log) = ap length own_before in omega (arith, inside, length-take number log))

    last_now : slice_get (log_of w 0) (from - 1) ≡ Some last.0
    last_now = sym (get_taken number log (from - 1) (omega arith)) ∙ ap (λ (xs : List Logged). slice_get xs (from - 1)) (sym own_before) ∙ last.1

    logs_before : logs_at from (log_of (made i w 0 number l mount.legal there).before) ≡ logs_at from (log_of w)
    logs_before = fun_same (logs_at from (log_of h.before)) (logs_at from (log_of w)) each
      where
        each : (author : ℕ) → logs_at from (log_of (made i w 0 number l mount.legal there).before) author ≡ logs_at from (log_of w) author
        each zero = ap (take from) own_before ∙ take-take from number log upto
        each (suc unit) =
            ap (λ o. take (knows_last o (suc unit)) (log_of h.before (suc unit))) last.1
            ∙ sym (known_part i w 0 number (suc unit) l last.0 h (is_in (log_of h.before 0) (from - 1) last.0 last.1))
            ∙ ap (λ o. take (knows_last o (suc unit)) (log_of w (suc unit))) (sym last_now)

    -- an entry of the sector was taken before
    pub taken_before : (lba : ℕ) (source : Source)
        → life_of (take number (log_of w 0)) source.line ≡ life_of (take from (log_of w 0)) source.line
        → IsPlaceOfLatest i (logs_at from (log_of w)) lba source (last_take (take from (log_of w 0)) lba)
        → ((block : Block) → IsLatest i (prefixes l (log_of w)) lba source block → ⊥) → WasTakenSince (take number (log_of w 0)) lba from
    taken_before lba source lives place stale =
        let count : length (log_of h.before 0) ≡ length (take number log) = ap length own_before in
        let within : from ≤ length (log_of h.before 0) = omega (arith, inside, length-take number log) in
        let front : take from (log_of h.before 0) ≡ take from log = ap (take from) own_before ∙ take-take from number log upto in
        subst (λ (xs : List Logged). WasTakenSince xs lba from) own_before (stale_taken i h.before mount_before from lba source some within
        (ap (λ (xs : List Logged). life_of xs source.line) own_before ∙ lives ∙ ap (λ (xs : List Logged). life_of xs source.line) (sym front))
        (prefixes l (log_of h.before)) holds
        (subst (λ (logs : Logs). IsPlaceOfLatest i logs lba source (last_take (logs 0) lba)) (sym logs_before) place)
        (λ block latest. stale block (subst (λ (logs : Logs). IsLatest i logs lba source block) (sym view_same) latest)))

    pub taken_before_void : (lba : ℕ) (source : Source)
        → life_of (take number (log_of w 0)) source.line ≡ life_of (take from (log_of w 0)) source.line
        → IsPlaceOfLatest i (logs_at from (log_of w)) lba source (last_take (take from (log_of w 0)) lba)
        → ((block : Block) → IsLatest i (prefixes l (log_of w)) lba source block → ⊥) → WasTakenSince (take (suc number) (log_of w 0)) lba from
    taken_before_void lba source lives place stale =
        since_next (log_of w 0) lba from number upto (taken_before lba source lives place stale)

-- ---- so each copy of the victim at work had its sector taken since it was begun

pub copy_took : (i : Image) (w : World) (line from number : ℕ) (entry : Entry) (mark : Mark) (took : TookCopy (log_of w 0) number entry mark)
    → IsLegalMount i w → IsAtWorkFrom i (log_of w) from line → (b : WasBegun i (log_of w) number entry.lba took.source) → from ≤ b.at
    → took.source.line ≡ line
    → WasTakenSince (take (suc number) (log_of w 0)) entry.lba b.at
copy_took i w line from number entry mark took mount at_work b low in_line =
    go (subst (IsMarked i (prefixes (record { event = Decides (Take entry mark); knows = took.knows }) (log_of w)) entry mark) took.is_copy
    d.allowed.2.marked)
  where
    d : IsDecided i w mount.legal number (Take entry mark) (record { event = Decides (Take entry mark); knows = took.knows })
    d = decided i w mount.legal number (Take entry mark) (record { event = Decides (Take entry mark); knows = took.knows }) took.there refl

    inside : number < length (log_of w 0)
    inside = slice_get_within (log_of w 0) number (record { event = Decides (Take entry mark); knows = took.knows }) took.there

    upto : b.at ≤ number
    upto = b.within

    lives : life_of (take number (log_of w 0)) took.source.line ≡ life_of (take b.at (log_of w 0)) took.source.line
    lives =
        ap (life_of (take number (log_of w 0))) in_line
        ∙ sym (life_at_work i w mount line number (later_at_work i (log_of w) line from number (omega (arith, low, upto)) at_work) (omega (arith, inside)))
        ∙ life_at_work i w mount line b.at (later_at_work i (log_of w) line from b.at low at_work) (omega (arith, inside, upto))
        ∙ ap (life_of (take b.at (log_of w 0))) (sym in_line)

    go : Copies i (prefixes (record { event = Decides (Take entry mark); knows = took.knows }) (log_of w)) entry mark took.source
        ⊎ CopiesStale i (prefixes (record { event = Decides (Take entry mark); knows = took.knows }) (log_of w)) entry mark took.source
        → WasTakenSince (take (suc number) (log_of w 0)) entry.lba b.at
    go (inl c) = own_taken i w mount line b.at number entry mark b.has_begun upto took c.names_sector
    go (inr stale) = taken_before_void i w number (record { event = Decides (Take entry mark); knows = took.knows }) mount took.there b.at
        b.has_begun upto entry.lba took.source lives b.latest stale.stale
