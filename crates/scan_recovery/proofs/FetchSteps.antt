-- Fetches leave the chunks as they were, and give the blocks.
use Rattle.std.proofs.Common.{◌≡◌, ◌≢◌, ℕ, ◌+◌, ◌-◌, ◌*◌, ◌^◌, ◌<◌, ◌≤◌, ◌==◌, nat_lt, zero, suc, min, inl, inr, Bool, true, false, cond, List, [], ◌∷◌, ◌++◌, length, map, Option, Some, None, Result, Ok, Err, refl, sym, ap, ◌∙◌, subst, arith, add-zero, append_assoc, length-append}
use Rattle.std.specs.List.{AllByRecursion, cons_option, filter, filter_map, range_with_len, slice_get, slice_set}
use Rattle.std.specs.Option.{option_and_then, option_map, option_map_or}
use Rattle.std.proofs.lemmas.List.{map-set}
use Rattle.std.proofs.lemmas.Option.{same_Some, slice_get-map, slice_get_within, slice_get_past}
use Rattle.std.proofs.lemmas.Grind.{fold-append}
use Rattle.std.proofs.lemmas.Bool.{cases_lt, cases_order, eq-eqb, le-ltb, lt-ltb, ne_eqb}
use Rattle.std.proofs.lemmas.List.Elements.{filter-append}
use Rattle.pblk_model.specs.declared.shape.Shape.{Shape}
use Rattle.pblk_model.specs.declared.chunk.Mark.{Mark}
use Rattle.pblk_model.specs.declared.chunk.Got.{Got}
use Rattle.pblk_model.specs.declared.chunk.Got.TheVariants as got
use Rattle.pblk_model.specs.declared.chunk.ChunkErr.TheVariants as chunk_errors
use Rattle.pblk_model.specs.declared.chunk.ChunkState.TheVariants.{Open}
use Rattle.pblk_model.specs.Chunk.{Chunk, Block, IsChunk, PointerFits, ReadableIn, pointer}
use Rattle.pblk_model.specs.ChunkStep.{ChunkCommand, Read, Gave, Empty, refusal, read_refusal_in}
use Rattle.pblk_model.specs.UnitLog.{UnitOutcome, UnitEvent, Answered, IsOutcome, after_outcome, after_event}
use Rattle.pblk_model.specs.Image.{Image, block_at, width}
use Rattle.pblk_laws.specs.LineBlocks.{chunk_in, written_at}
use Rattle.unit_port.specs.Unit.{ModelUnit, TellsBlock}
use Rattle.unit_port.specs.declared.unit.UnitErr.{UnitErr}
use Rattle.unit_port.specs.declared.unit.UnitErr.TheVariants as unit_errors
use Rattle.unit_port.specs.Commands.{UnitCommand, EventAt, IsNext, IsTaken, AreNext, with_event, after_one, after_all}
use Rattle.unit_port.specs.Did.{Did, command_at, failed_or_stopped}
use Rattle.unit_port.proofs.Units.{after_one_is}
use Rattle.scan_recovery.specs.declared.error.ScanErr.{ScanErr}
use Rattle.scan_recovery.specs.declared.error.ScanErr.TheVariants as errors
use Rattle.scan_recovery.specs.Units.{image_of, AreFit}
use Rattle.scan_recovery.specs.Fetches.{IsFetch, IsGood, FetchEnds, HasFetched, IsReadableAt, WereFewFetched, count_of, first_of, one_if, only_of, written_in, written_to}
use Rattle.world_laws.proofs.ImageLines.{img}
use Rattle.scan_recovery.proofs.PadSteps.{unit_at, chunk_of}
use Rattle.pblk_model.proofs.Lists.{all_append}
use Rattle.pblk_model.proofs.Parts.{all_get, get_set_same, set_same, got_within}
use Rattle.pblk_model.proofs.UnitLogLemmas.{read_leaves}
use Rattle.pblk_model.proofs.ChunkLemmas.{closed_by_block}
use Rattle.pblk_model.proofs.Maps.{made_last}

-- An event that is a fetch.

media_same : (u : ModelUnit) (e : UnitEvent) (b : ℕ) (c : Chunk) → e.command ≡ Read b → slice_get u.media e.chunk ≡ Some c
    → after_event u.shape u.media e ≡ u.media
media_same u e b c is there =
    ap (λ (o : Option Chunk). option_map_or (λ c. slice_set u.media e.chunk (after_outcome u.shape c e.command e.outcome)) o u.media) there
    ∙ ap (slice_set u.media e.chunk) (ap (λ command. after_outcome u.shape c command e.outcome) is ∙ read_leaves u.shape c b e.outcome)
    ∙ set_same u.media e.chunk c there

image_same : (s : Shape) (us : List ModelUnit) (e : EventAt) (b : ℕ) (h : IsNext us e) → e.event.command ≡ Read b → image_of s (after_one us e) ≡ image_of s us
image_same s us e b h is =
    let medias : List (List Chunk) = map (λ u. u.media) us in
    let there : slice_get medias e.unit ≡ Some h.unit.media = slice_get-map (λ (u : ModelUnit). u.media) us e.unit
    ∙ ap (option_map (λ (u : ModelUnit). u.media)) h.there in
    let same : map (λ u. u.media) (after_one us e) ≡ medias =
    ap (map (λ u. u.media)) (after_one_is us e h.unit h.there) ∙ map-set (λ (u : ModelUnit). u.media) us e.unit (with_event h.unit e.event)
    ∙ ap (slice_set medias e.unit) (media_same h.unit e.event b h.event.found is h.event.there) ∙ set_same medias e.unit h.unit.media there in
    ap (img s) same

-- A block that is written in a chunk that isn't Open can be read.

pub chunk_fits : (s : Shape) (us : List ModelUnit) (line unit : ℕ) (c : Chunk) → AreFit s us → chunk_in (image_of s us) line unit ≡ Some c → IsChunk s c
chunk_fits s us line unit c fit there =
    let w = unit_at s us line unit c there in
    let of = fit.each unit w.of w.there in
    subst (λ (x : Shape). IsChunk x c) of.shape (all_get (IsChunk w.of.shape) w.of.media line c of.fits.chunks w.chunk)

pub readable_here : (s : Shape) (us : List ModelUnit) (line unit block : ℕ) (c : Chunk) → AreFit s us → chunk_in (image_of s us) line unit ≡ Some c
    → c.state ≢ Open → block < pointer c → IsReadableAt (image_of s us) line unit block
readable_here s us line unit block c fit there closed below = record {
  found = c;
  there = there;
  closed = closed_by_block c.state s.clba (pointer c) block (chunk_fits s us line unit c fit there).place below closed;
  written = below;
}

pub unwritten_here : (i : Image) (line unit block : ℕ) (c : Chunk) → chunk_in i line unit ≡ Some c → pointer c ≤ block → written_at i line (unit, block) ≡ None
unwritten_here i line unit block c there past = ap (option_and_then (λ c. slice_get c.blocks block)) there ∙ slice_get_past c.blocks block past

pub fetch_taken : (s : Shape) (us : List ModelUnit) (line unit block : ℕ) → AreFit s us → IsReadableAt (image_of s us) line unit block
    → IsTaken us (command_at unit line (Read block))
fetch_taken s us line unit block fit r =
    let w = unit_at s us line unit r.found r.there in
    let of = fit.each unit w.of w.there in
    let chunk : IsChunk s r.found = chunk_fits s us line unit r.found fit r.there in
    let within : pointer r.found ≤ s.clba = subst (λ st. PointerFits st s.clba (pointer r.found)) r.closed chunk.place in
    let written = r.written in
    let below : block < w.of.shape.clba = subst (λ (x : Shape). block < x.clba) (sym of.shape) (omega arith) in
    let free : refusal w.of.shape r.found (Read block) ≡ None = ap (λ st. read_refusal_in w.of.shape st block) r.closed
    ∙ ap (λ b. cond b None (Some chunk_errors.PastEnd)) (lt-ltb block w.of.shape.clba below) in
    record { unit = w.of; there = w.there; takes = record { found = r.found; there = w.chunk; taken = inl free } }

-- What a fetch told.

event_is : (s : Shape) (us : List ModelUnit) (line unit block : ℕ) (e : EventAt) (new : List ModelUnit) → AreFit s us
    → (r : IsReadableAt (image_of s us) line unit block) → Did us (command_at unit line (Read block)) e new → IsOutcome s r.found (Read block) e.event.outcome
event_is s us line unit block e new fit r did =
    let unit_is : e.unit ≡ unit = ap (λ (x : UnitCommand). x.unit) did.command in
    let line_is : e.event.chunk ≡ line = ap (λ (x : UnitCommand). x.chunk) did.command in
    let command_is : e.event.command ≡ Read block = ap (λ (x : UnitCommand). x.command) did.command in
    let h : IsNext us e = did.next in
    let of = fit.each e.unit h.unit h.there in
    let here : chunk_in (image_of s us) line unit ≡ Some h.event.found =
    ap (λ l. chunk_in (image_of s us) l unit) (sym line_is) ∙ ap (chunk_in (image_of s us) e.event.chunk) (sym unit_is)
    ∙ chunk_of s us e.event.chunk e.unit h.unit h.there ∙ h.event.there in
    let same : h.event.found ≡ r.found = same_Some h.event.found r.found (sym here ∙ r.there) in
    subst (λ (command : ChunkCommand). IsOutcome s r.found command e.event.outcome) command_is
    (subst (λ (c : Chunk). IsOutcome s c e.event.command e.event.outcome) same
    (subst (λ (x : Shape). IsOutcome x h.event.found e.event.command e.event.outcome) of.shape h.event.outcome))

pub gave_block : (s : Shape) (us new : List ModelUnit) (line unit block : ℕ) (e : EventAt) (b : Block) → AreFit s us
    → (r : IsReadableAt (image_of s us) line unit block) → Did us (command_at unit line (Read block)) e new
    → e.event.outcome ≡ Answered (Gave b) → written_at (image_of s us) line (unit, block) ≡ Some b
gave_block s us new line unit block e b fit r did is =
    let o = subst (λ (o : UnitOutcome). IsOutcome s r.found (Read block) o) is (event_is s us line unit block e new fit r did) in
    ap (option_and_then (λ c. slice_get c.blocks block)) r.there ∙ o.1.2

pub never_empty : (s : Shape) (us new : List ModelUnit) (line unit block : ℕ) (e : EventAt) → AreFit s us → (r : IsReadableAt (image_of s us) line unit block)
    → Did us (command_at unit line (Read block)) e new → e.event.outcome ≡ Answered Empty → ⊥
never_empty s us new line unit block e fit r did is =
    let o = subst (λ (o : UnitOutcome). IsOutcome s r.found (Read block) o) is (event_is s us line unit block e new fit r did) in
    o.1.1 (subst (λ st. ReadableIn st s.mw_cunits (pointer r.found) block) (sym r.closed) r.written)

-- One after another.

next_append : (us : List ModelUnit) (xs ys : List EventAt) → AreNext us xs → AreNext (after_all us xs) ys → AreNext us (xs ++ ys)
next_append us [] ys h k = k
next_append us (e ∷ xs) ys h k = (h.0, next_append (after_one us e) xs ys h.1 k)

ends_append : (new : List ModelUnit) (xs ys : List EventAt) (o : Option ScanErr) → AllByRecursion IsGood xs → FetchEnds new ys o → FetchEnds new (xs ++ ys) o
ends_append new xs ys None h k = all_append IsGood xs ys h k
ends_append new xs ys (Some (errors.Drive unit number)) h (front, last, is, good, unit_is, lost, named) =
    (xs ++ front, last, ap (λ zs. xs ++ zs) is ∙ sym (append_assoc xs front (last ∷ [])), all_append IsGood xs front h good, unit_is, lost, named)
ends_append new xs ys (Some errors.Memory) h k = all_append IsGood xs ys h k

abbrev pub Fetched : Shape → List ModelUnit → List ModelUnit → Option ScanErr → Type 0
Fetched s old new o = (events : List EventAt) × HasFetched s old new events o

pub none_fetched : (s : Shape) (us : List ModelUnit) → Fetched s us us None
none_fetched s us = ([], record { fetches = tt; next = tt; units = refl; ends = tt; image = refl })

pub no_memory : (s : Shape) (old new : List ModelUnit) → Fetched s old new None → Fetched s old new (Some errors.Memory)
no_memory s old new (events, h) = (events, record { fetches = h.fetches; next = h.next; units = h.units; ends = h.ends; image = h.image })

pub fetched_joined : (s : Shape) (a b c : List ModelUnit) (o : Option ScanErr) → Fetched s a b None → Fetched s b c o → Fetched s a c o
fetched_joined s a b c o (xs, h) (ys, k) = (
  xs ++ ys,
  record {
    fetches = all_append (IsFetch (image_of s a)) xs ys h.fetches (subst (λ i. AllByRecursion (IsFetch i) ys) h.image k.fetches);
    next = next_append a xs ys h.next (subst (λ us. AreNext us ys) h.units k.next);
    units = k.units ∙ ap (λ us. after_all us ys) h.units ∙ sym (fold-append after_one a xs ys);
    ends = ends_append c xs ys o h.ends k.ends;
    image = k.image ∙ h.image;
  },
)

is_fetch : (s : Shape) (us new : List ModelUnit) (line unit block : ℕ) (e : EventAt) → IsReadableAt (image_of s us) line unit block
    → Did us (command_at unit line (Read block)) e new → IsFetch (image_of s us) e
is_fetch s us new line unit block e r did =
    let unit_is : e.unit ≡ unit = ap (λ (x : UnitCommand). x.unit) did.command in
    let line_is : e.event.chunk ≡ line = ap (λ (x : UnitCommand). x.chunk) did.command in
    record {
      block = block;
      command = ap (λ (x : UnitCommand). x.command) did.command;
      found = r.found;
      there = ap (λ l. chunk_in (image_of s us) l e.unit) line_is ∙ ap (chunk_in (image_of s us) line) unit_is ∙ r.there;
      written = r.written;
    }

did_image : (s : Shape) (us new : List ModelUnit) (line unit block : ℕ) (e : EventAt) → Did us (command_at unit line (Read block)) e new
    → image_of s new ≡ image_of s us
did_image s us new line unit block e did = ap (image_of s) did.units ∙ image_same s us e block did.next (ap (λ (x : UnitCommand). x.command) did.command)

pub good_fetch : (s : Shape) (us new : List ModelUnit) (line unit block : ℕ) (e : EventAt) → IsReadableAt (image_of s us) line unit block
    → Did us (command_at unit line (Read block)) e new → failed_or_stopped e.event.outcome ≡ false → Fetched s us new None
good_fetch s us new line unit block e r did good = (
  e ∷ [],
  record {
    fetches = (is_fetch s us new line unit block e r did, tt);
    next = (did.next, tt);
    units = did.units;
    ends = (good, tt);
    image = did_image s us new line unit block e did;
  },
)

pub lost_fetch : (s : Shape) (us new : List ModelUnit) (line unit block number : ℕ) (e : EventAt) (v : ModelUnit) → IsReadableAt (image_of s us) line unit block
    → Did us (command_at unit line (Read block)) e new → failed_or_stopped e.event.outcome ≡ true
    → slice_get new unit ≡ Some v → number ≡ min (length v.log) (2 ^ 64 - 1) → Fetched s us new (Some (errors.Drive unit number))
lost_fetch s us new line unit block number e v r did lost there number-is =
    let unit_is : e.unit ≡ unit = ap (λ (x : UnitCommand). x.unit) did.command in
    let h : IsNext us e = did.next in
    let is_v : with_event h.unit e.event ≡ v =
    same_Some (with_event h.unit e.event) v
    (sym (get_set_same us e.unit (with_event h.unit e.event) (slice_get_within us e.unit h.unit h.there))
    ∙ ap (λ xs. slice_get xs e.unit) (sym (after_one_is us e h.unit h.there) ∙ sym did.units) ∙ ap (slice_get new) unit_is ∙ there) in (
      e ∷ [],
      record {
        fetches = (is_fetch s us new line unit block e r did, tt);
        next = (did.next, tt);
        units = did.units;
        ends = (
          [],
          e,
          refl,
          tt,
          unit_is,
          lost,
          record { of = v; there = there; front = h.unit.log; log = ap (λ (x : ModelUnit). x.log) (sym is_v); number_is = number-is },
        );
        image = did_image s us new line unit block e did;
      },
    )

pub told_lost : (before after : List ℕ) (r : Result Got UnitErr) (e : UnitErr) (o : UnitOutcome) → r ≡ Err e → TellsBlock before after r o
    → failed_or_stopped o ≡ true
told_lost before after r unit_errors.Failed o is h = let t = subst (λ (x : Result Got UnitErr). TellsBlock before after x o) is h in ap failed_or_stopped t.0
told_lost before after r unit_errors.Stopped o is h = let t = subst (λ (x : Result Got UnitErr). TellsBlock before after x o) is h in ap failed_or_stopped t.0

pub told_sector : (before after : List ℕ) (r : Result Got UnitErr) (mark : Mark) (o : UnitOutcome) → r ≡ Ok (got.Sector mark) → TellsBlock before after r o
    → o ≡ Answered (Gave (record { sector = after; mark = mark }))
told_sector before after r mark o is h = subst (λ (x : Result Got UnitErr). TellsBlock before after x o) is h

pub told_empty : (before after : List ℕ) (r : Result Got UnitErr) (o : UnitOutcome) → r ≡ Ok got.Empty → TellsBlock before after r o → o ≡ Answered Empty
told_empty before after r o is h = (subst (λ (x : Result Got UnitErr). TellsBlock before after x o) is h).0

-- How many of a line.

abbrev pub Few : Shape → List ModelUnit → List ModelUnit → Option ScanErr → (ℕ → ℕ) → Type 0
Few = WereFewFetched

pub few_none : (s : Shape) (us : List ModelUnit) (most : ℕ → ℕ) → Few s us us None most
unfolding none_fetched
few_none s us most = let n = none_fetched s us in (n.0, n.1, λ line. omega arith)

pub few_more : (s : Shape) (old new : List ModelUnit) (o : Option ScanErr) (most more : ℕ → ℕ) → ((line : ℕ) → most line ≤ more line) → Few s old new o most
    → Few s old new o more
few_more s old new o most more up (events, h, few) = (events, h, λ line. (let a = few line in let b = up line in omega arith))

pub few_memory : (s : Shape) (old new : List ModelUnit) (most : ℕ → ℕ) → Few s old new None most → Few s old new (Some errors.Memory) most
unfolding no_memory
few_memory s old new most (events, h, few) = let m = no_memory s old new (events, h) in (m.0, m.1, few)

count_both : (line : ℕ) (xs ys : List EventAt) → count_of line (xs ++ ys) ≡ count_of line xs + count_of line ys
count_both line xs ys = ap length (filter-append (λ (e : EventAt). e.event.chunk == line) xs ys)
    ∙ length-append (filter (λ (e : EventAt). e.event.chunk == line) xs) (filter (λ (e : EventAt). e.event.chunk == line) ys)

pub few_joined : (s : Shape) (a b c : List ModelUnit) (o : Option ScanErr) (most more all : ℕ → ℕ) → ((line : ℕ) → most line + more line ≤ all line)
    → Few s a b None most → Few s b c o more → Few s a c o all
unfolding fetched_joined
few_joined s a b c o most more all up (xs, h, few) (ys, k, fewer) =
    let j = fetched_joined s a b c o (xs, h) (ys, k) in
    (j.0, j.1, λ line. (let x = few line in let y = fewer line in let z = up line in let both = count_both line xs ys in omega arith))

one_of : (e : EventAt) (line other : ℕ) → e.event.chunk ≡ line → count_of other (e ∷ []) ≤ only_of line 1 other
one_of e line other is = subst (λ l. count_of other (e ∷ []) ≤ only_of l 1 other) is (by (e.event.chunk == other)) where
  by : (b : Bool) → length (cond b (e ∷ []) []) ≤ cond b 1 0
  by true = omega arith
  by false = omega arith

pub good_few : (s : Shape) (us new : List ModelUnit) (line unit block : ℕ) (e : EventAt) → IsReadableAt (image_of s us) line unit block
    → Did us (command_at unit line (Read block)) e new → failed_or_stopped e.event.outcome ≡ false → Few s us new None (only_of line 1)
unfolding good_fetch
good_few s us new line unit block e r did good =
    let f = good_fetch s us new line unit block e r did good in
    (f.0, f.1, λ other. one_of e line other (ap (λ (x : UnitCommand). x.chunk) did.command))

pub lost_few : (s : Shape) (us new : List ModelUnit) (line unit block number : ℕ) (e : EventAt) (v : ModelUnit) → IsReadableAt (image_of s us) line unit block
    → Did us (command_at unit line (Read block)) e new → failed_or_stopped e.event.outcome ≡ true
    → slice_get new unit ≡ Some v → number ≡ min (length v.log) (2 ^ 64 - 1) → Few s us new (Some (errors.Drive unit number)) (only_of line 1)
unfolding lost_fetch
lost_few s us new line unit block number e v r did lost there number-is =
    let f = lost_fetch s us new line unit block number e v r did lost there number-is in
    (f.0, f.1, λ other. one_of e line other (ap (λ (x : UnitCommand). x.chunk) did.command))

pub only_up : (line n m other : ℕ) → n ≤ m → only_of line n other ≤ only_of line m other
only_up line n m other up = by (line == other) where
  by : (b : Bool) → cond b n 0 ≤ cond b m 0
  by true = up
  by false = omega arith

pub only_both : (line n m k other : ℕ) → n + m ≤ k → only_of line n other + only_of line m other ≤ only_of line k other
only_both line n m k other up = by (line == other) where
  by : (b : Bool) → cond b n 0 + cond b m 0 ≤ cond b k 0
  by true = up
  by false = omega arith

first_at : (lines : ℕ) (most : ℕ → ℕ) (line : ℕ) → line < lines → first_of lines most line ≡ most line
first_at lines most line below = ap (λ b. cond b (most line) 0) (lt-ltb line lines below)

pub first_more : (n : ℕ) (most : ℕ → ℕ) (line : ℕ) → first_of n most line + only_of n (most n) line ≤ first_of (n + 1) most line
first_more n most line = elim (cases_order line n) [
  | inl same ↦
      let a : first_of n most line ≡ 0 = ap (λ b. cond b (most line) 0) (le-ltb line n (omega arith)) in
      let b : only_of n (most n) line ≡ most n = ap (λ b. cond b (most n) 0) (eq-eqb n line (sym same)) in
      let c = first_at (n + 1) most line (omega arith) in
      let d : most line ≡ most n = ap most same in
      omega arith
  | inr other ↦ elim other [
    | inl less ↦
        let a = first_at n most line less in
        let b : only_of n (most n) line ≡ 0 = ap (λ b. cond b (most n) 0) (ne_eqb n line (λ e. omega arith)) in
        let c = first_at (n + 1) most line (omega arith) in
        omega arith
    | inr more ↦
        let a : first_of n most line ≡ 0 = ap (λ b. cond b (most line) 0) (le-ltb line n (omega arith)) in
        let b : only_of n (most n) line ≡ 0 = ap (λ b. cond b (most n) 0) (ne_eqb n line (λ e. omega arith)) in
        omega arith
  ]
]

pub first_up : (n m : ℕ) (most : ℕ → ℕ) (line : ℕ) → n ≤ m → first_of n most line ≤ first_of m most line
first_up n m most line up = elim (cases_lt line n) [
  | inl below ↦ let a = first_at n most line below in let b = first_at m most line (omega arith) in omega arith
  | inr past ↦ let a : first_of n most line ≡ 0 = ap (λ b. cond b (most line) 0) (le-ltb line n past) in omega arith
]

pub first_past : (n m : ℕ) (most : ℕ → ℕ) (line : ℕ) → n < m → first_of n most line + only_of n (most n) line ≤ first_of m most line
first_past n m most line inside = let a = first_more n most line in let b = first_up (n + 1) m most line (omega arith) in omega arith

pub first_most : (n : ℕ) (most : ℕ → ℕ) (line : ℕ) → first_of n most line ≤ most line
first_most n most line = by (nat_lt line n) where
  by : (b : Bool) → cond b (most line) 0 ≤ most line
  by true = omega arith
  by false = omega arith

-- A block that can be read is one that is written.

get_some : {X : Type 0} (xs : List X) (k : ℕ) → k < length xs → length (cons_option (slice_get xs k) []) ≡ 1
get_some [] k h = absurd (omega arith)
get_some (x ∷ xs) zero h = refl
get_some (x ∷ xs) (suc k) h = get_some xs k (omega arith)

pub readable_block : (i : Image) (line unit block : ℕ) → IsReadableAt i line unit block → (b : Block) × (written_at i line (unit, block) ≡ Some b)
readable_block i line unit block r =
    let b = got_within r.found.blocks block r.written in
    (b.0, ap (λ o. option_and_then (λ c. slice_get c.blocks block) o) r.there ∙ b.1)

pub readable_one : (i : Image) (line unit block : ℕ) → IsReadableAt i line unit block → one_if (written_at i line (unit, block)) ≡ 1
readable_one i line unit block r =
    ap (λ o. one_if (option_and_then (λ c. slice_get c.blocks block) o)) r.there ∙ get_some r.found.blocks block r.written

-- How many blocks of a line are written.

pub written_more : (i : Image) (line n : ℕ) → written_to i line (n + 1) ≡ written_to i line n + one_if (block_at i line n)
written_more i line n = ap length (made_last (block_at i line) n)
    ∙ length-append (filter_map (block_at i line) (range_with_len 0 n)) (cons_option (block_at i line n) [])

pub written_up : (i : Image) (line n k : ℕ) → written_to i line n ≤ written_to i line (n + k)
written_up i line n zero = let same : written_to i line (n + 0) ≡ written_to i line n = ap (written_to i line) (add-zero n) in omega arith
written_up i line n (suc k) =
    let next : n + suc k ≡ (n + k) + 1 = omega arith in
    let more = ap (written_to i line) next ∙ written_more i line (n + k) in
    let before = written_up i line n k in
    omega arith

-- a block more, whether it is written or not

pub written_step : (i : Image) (line at : ℕ) (o : Option Block) → o ≡ block_at i line at → written_to i line at + one_if o ≤ written_to i line (at + 1)
written_step i line at o is = let more = written_more i line at in let same = ap one_if is in omega arith

pub written_all : (i : Image) (line at : ℕ) → at ≤ width i line * i.shape.clba → written_to i line at ≤ written_in i line
written_all i line at inside =
    let k : ℕ = width i line * i.shape.clba - at in
    let parts : at + k ≡ width i line * i.shape.clba = omega arith in
    let up = written_up i line at k in
    let same = ap (written_to i line) parts in
    omega arith

pub written_last : (i : Image) (line at : ℕ) (o : Option Block) → o ≡ block_at i line at → at < width i line * i.shape.clba
    → written_to i line at + one_if o ≤ written_in i line
written_last i line at o is inside =
    let step = written_step i line at o is in
    let all = written_all i line (at + 1) (omega arith) in
    omega arith
