-- One past the greatest position that is written in an opened line, after each event of the engine.
-- It changes with what the engine was told of the line's chunks alone.
use Rattle.std.proofs.Common.{◌≡◌, ◌≢◌, ℕ, ◌+◌, ◌*◌, ◌<◌, ◌==◌, ◌&&◌, not, max, nat_lt, zero, suc, Bool, true, Some, None, Option, List, [], ◌∷◌, ◌++◌, length, take, refl, sym, subst, ap, ap₂, ◌∙◌, arith, if◌then◌else◌}
use Rattle.std.specs.Prelude.{map, slice_get}
use Rattle.std.specs.List.{AllByRecursion, cons_option, enumerate_from, filter_map, flat_map}
use Rattle.std.specs.Option.{is_some, option_and_then, option_map, option_map_or, option_to_list}
use Rattle.std.proofs.lemmas.List.Elements.{filter_map-append}
use Rattle.std.proofs.lemmas.List.Sums.{fold-append}
use Rattle.std.proofs.lemmas.Option.{none-some, same_Some}
use Rattle.pblk_model.specs.declared.shape.Shape.{Shape}
use Rattle.pblk_model.specs.Chunk.{Block, Chunk, IsChunk}
use Rattle.pblk_model.specs.ChunkStep.{Write}
use Rattle.pblk_model.specs.UnitLog.{UnitEvent, after_event, after_log, after_outcome}
use Rattle.pblk_model.specs.Image.{Image}
use Rattle.pblk_model.specs.StartRecord.{StartRecord}
use Rattle.pblk_laws.specs.LineBlocks.{chunk_in}
use Rattle.pblk_layout.specs.Online.{is_online}
use Rattle.pblk_world.specs.Answering.{IsNew, IsOfStripe, MayLand, MayLose, MayNoteReset}
use Rattle.pblk_world.specs.EngineLog.{Begun, begun, begun_by, life_of, Opened, Opening, Placed, placed_on, placements, answers}
use Rattle.pblk_world.specs.Events.{Decides, EngineEvent, Landed, Logged, Lost, Open, ResetDone}
use Rattle.pblk_world.specs.Lines.{are_empty, chunks_of, found_image, has_number, is_empty_state, is_given_up, is_given_up_by, known_image, strays_of, line_data, told_by, told_events}
use Rattle.pblk_world.specs.Opening.{MayOpen}
use Rattle.pblk_world.specs.Victims.{position_in, positions_in}
use Rattle.pblk_world.specs.World.{World, Logs, knows_engine, log_of, unit_event_at, unit_event_of}
use Rattle.pblk_model.proofs.Lists.{IsAmong}
use Rattle.pblk_model.proofs.Maps.{from_filter, given_at}
use Rattle.pblk_model.proofs.Options.{map_some, split_then}
use Rattle.pblk_model.proofs.Parts.{all_at, all_by_get, contained_among}
use Rattle.pblk_model.proofs.Tests.{both, not_both, other_number, same_number}
use Rattle.pblk_world.specs.LegalMounts.{IsLegalMount}
use Rattle.world_laws.specs.UnitPrograms.{IsProgramOfStripe}
use Rattle.world_laws.proofs.FoundEmpty.{all_pass}
use Rattle.world_laws.proofs.KnownPrefixes.{known_prefix}
use Rattle.world_laws.proofs.LifeBlocks.{no_blocks}
use Rattle.world_laws.proofs.Programs.{program_of_stripe}
use Rattle.world_laws.proofs.UnitLogs.{chunk_fits}
use Rattle.core_laws.specs.ClosedLines.{answered_top, top_of}
use Rattle.core_laws.specs.InOrder.{IsInPlace}
use Rattle.core_laws.specs.PlacerOf.{unanswered_on}
use Rattle.core_laws.specs.Stepping.{after}
use Rattle.core_laws.proofs.Answered.{first_unanswered}
use Rattle.core_laws.proofs.ClosedKept.{one_told}
use Rattle.core_laws.proofs.KeptLines.{still_online}
use Rattle.core_laws.proofs.KeptRows.{known_kept, told_kept}
use Rattle.core_laws.proofs.KnownChunks.{after_chunk, is_on, known_get, live_chunk}
use Rattle.core_laws.proofs.LandedRows.{chunks_beside, told_more}
use Rattle.core_laws.proofs.LandedStripe.{one_more}
use Rattle.core_laws.proofs.LogOrders.{in_order}
use Rattle.core_laws.proofs.OpeningNumbers.{life_at}
use Rattle.core_laws.proofs.SteppingLemmas.{found_kept}
use Rattle.core_laws.proofs.TopPositions.{top_more}

-- ---- lists of which one part grows

flat_mapped : {X Y Z : Type 0} (f : X → Y) (g : Y → List Z) (xs : List X) → flat_map g (map f xs) ≡ flat_map (λ x. g (f x)) xs
flat_mapped f g [] = refl
flat_mapped f g (x ∷ xs) = ap (λ zs. g (f x) ++ zs) (flat_mapped f g xs)

flat_nothing : {X Y : Type 0} (f : X → List Y) (xs : List X) → AllByRecursion (λ x. f x ≡ []) xs → flat_map f xs ≡ []
flat_nothing f [] all = refl
flat_nothing f (x ∷ xs) all = ap₂ (λ ys zs. ys ++ zs) all.0 (flat_nothing f xs all.1)

same_past : {X : Type 0} (f g : ℕ → X → List ℕ) (at n : ℕ) (xs : List X) → at < n → ((u : ℕ) (x : X) → u ≢ at → f u x ≡ g u x)
    → flat_map (λ (e : ℕ × X). f e.0 e.1) (enumerate_from n xs) ≡ flat_map (λ (e : ℕ × X). g e.0 e.1) (enumerate_from n xs)
same_past f g at n [] past same = refl
same_past f g at n (x ∷ xs) past same =
    let apart : n ≢ at = λ e. absurd (omega arith) in
    ap₂ (λ ps qs. ps ++ qs) (same n x apart) (same_past f g at (n + 1) xs (omega arith) same)

one_grows : {X : Type 0} (f g : ℕ → X → List ℕ) (most at n k : ℕ) (xs : List X) (x : X) → at ≡ n + k → slice_get xs k ≡ Some x
    → ((u : ℕ) (y : X) → u ≢ at → f u y ≡ g u y) → top_of (f at x) ≡ max (top_of (g at x)) most
    → top_of (flat_map (λ (e : ℕ × X). f e.0 e.1) (enumerate_from n xs))
    ≡ max (top_of (flat_map (λ (e : ℕ × X). g e.0 e.1) (enumerate_from n xs))) most
one_grows f g most at n k [] x is there same grown = absurd (none-some x there)
one_grows {X} f g most at n zero (y ∷ ys) x is there same grown =
    let rest : List ℕ = flat_map (λ (e : ℕ × X). g e.0 e.1) (enumerate_from (n + 1) ys) in
    let number : n ≡ at = omega arith in
    let item : y ≡ x = same_Some y x there in
    let first : top_of (f n y) ≡ max (top_of (g n y)) most =
    ap₂ (λ u z. top_of (f u z)) number item ∙ grown ∙ sym (ap₂ (λ u z. max (top_of (g u z)) most) number item) in
    let others : flat_map (λ (e : ℕ × X). f e.0 e.1) (enumerate_from (n + 1) ys) ≡ rest = same_past f g at (n + 1) ys (omega arith) same in
    let old : top_of (g n y ++ rest) ≡ max (top_of (g n y)) (top_of rest) = top_more (g n y) rest in
    ap (λ ps. top_of (f n y ++ ps)) others ∙ top_more (f n y) rest ∙ omega arith
one_grows {X} f g most at n (suc k) (y ∷ ys) x is there same grown =
    let rest : List ℕ = flat_map (λ (e : ℕ × X). g e.0 e.1) (enumerate_from (n + 1) ys) in
    let more : List ℕ = flat_map (λ (e : ℕ × X). f e.0 e.1) (enumerate_from (n + 1) ys) in
    let apart : n ≢ at = λ e. absurd (omega arith) in
    let below : top_of more ≡ max (top_of rest) most = one_grows f g most at (n + 1) k ys x (omega arith) there same grown in
    let old : top_of (g n y ++ rest) ≡ max (top_of (g n y)) (top_of rest) = top_more (g n y) rest in
    ap (λ ps. top_of (ps ++ more)) (same n y apart) ∙ top_more (g n y) more ∙ omega arith

-- ---- the positions of a line, unit by unit

abbrev positions_on : Shape → ℕ → List Chunk → List ℕ
positions_on s line cs = option_map_or (λ (c : Chunk). filter_map (position_in s) c.blocks) (slice_get cs line) []

abbrev blocks_of : ℕ → List (List Chunk) → List Block
blocks_of line us = flat_map (λ (c : Chunk). c.blocks) (filter_map (λ (cs : List Chunk). slice_get cs line) us)

by_units : (s : Shape) (line : ℕ) (us : List (List Chunk)) → filter_map (position_in s) (blocks_of line us) ≡ flat_map (positions_on s line) us
by_units s line [] = refl
by_units s line (u ∷ us) = go (slice_get u line) (by_units s line us)
  where
    go : (o : Option Chunk) → filter_map (position_in s) (blocks_of line us) ≡ flat_map (positions_on s line) us
        → filter_map (position_in s) (flat_map (λ (c : Chunk). c.blocks) (cons_option o (filter_map (λ (cs : List Chunk). slice_get cs line) us)))
        ≡ option_map_or (λ (c : Chunk). filter_map (position_in s) c.blocks) o [] ++ flat_map (positions_on s line) us
    go None rest = rest
    go (Some c) rest = filter_map-append (position_in s) c.blocks (blocks_of line us) ∙ ap (λ ps. filter_map (position_in s) c.blocks ++ ps) rest

-- by what was found in each unit, and what the engine was told of it since
abbrev on_unit : Image → Logs → ℕ → ℕ → List Chunk → List ℕ
on_unit i logs line unit cs = positions_on i.shape line (after_log i.shape cs (told_events logs unit))

by_told : (i : Image) (logs : Logs) (o : Opening) → positions_in i logs (Opened o) o.line
    ≡ flat_map (λ (e : ℕ × List Chunk). on_unit i logs o.line e.0 e.1) (enumerate_from 0 (found_image i logs).units)
by_told i logs o =
    by_units i.shape o.line (known_image i logs).units
    ∙ flat_mapped (λ (u : ℕ × List Chunk). after_log i.shape u.1 (told_events logs u.0)) (positions_on i.shape o.line)
    (enumerate_from 0 (found_image i logs).units)

-- ---- events that tell of none of the line's chunks

-- what is known of its chunks is the same
pub top_same : (i : Image) (logs new : Logs) (o : Opening) → chunks_of (known_image i new) o.line ≡ chunks_of (known_image i logs) o.line
    → answered_top i new o ≡ answered_top i logs o
top_same i logs new o chunks = ap (λ (cs : List Chunk). top_of (filter_map (position_in i.shape) (flat_map (λ (c : Chunk). c.blocks) cs))) chunks

pub top_kept : (i : Image) (logs : Logs) (e : EngineEvent) (knows : List ℕ) (o : Opening) → begun_by knows (Decides e) ≡ None
    → ((unit : ℕ) → told_by logs unit (Decides e) ≡ None)
    → answered_top i (after logs e knows) o ≡ answered_top i logs o
top_kept i logs e knows o begins untold =
    top_same i logs (after logs e knows) o (ap (λ (j : Image). chunks_of j o.line) (known_kept i logs e knows begins untold))

pub top_beside : (i : Image) (logs : Logs) (e : EngineEvent) (knows : List ℕ) (o : Opening) → begun_by knows (Decides e) ≡ None
    → ((unit : ℕ) (u : UnitEvent) → told_by logs unit (Decides e) ≡ Some u → o.line ≢ u.chunk)
    → answered_top i (after logs e knows) o ≡ answered_top i logs o
top_beside i logs e knows o begins beside = top_same i logs (after logs e knows) o (chunks_beside i logs e knows o.line begins beside)

-- a reset, of a chunk of a line that was given up
pub top_reset : (i : Image) (logs : Logs) (unit event : ℕ) (knows : List ℕ) (line : ℕ) (o : Opening) (may : MayNoteReset logs unit event)
    → is_given_up (logs 0) may.reset.chunk ≡ true → life_of (logs 0) line ≡ Opened o
    → answered_top i (after logs (ResetDone unit event) knows) o ≡ answered_top i logs o
top_reset i logs unit event knows line o may given life =
    top_beside i logs (ResetDone unit event) knows o refl (λ u x told same.
    not_both (is_given_up (logs 0) line)
    (ap (is_given_up (logs 0)) (sym (life_at (logs 0) line o life).1 ∙ same ∙ ap (λ (y : UnitEvent). y.chunk) (one_told logs unit event u x may.reset at told))
    ∙ given)
    (ap (is_given_up_by (strays_of (logs 0)) line) life))
  where
    at : unit_event_at logs unit event ≡ Some may.reset
    at = ap (option_and_then (λ (l : Logged). unit_event_of l.event)) may.new.is_known ∙ may.new.event

-- ---- a line that is opened has none, since its chunks are empty

module _ (i : Image) (w : World) (mount : IsLegalMount i w) (b : Begun) (begins : begun (log_of w 0) ≡ Some b) (line : ℕ)
    (empty : are_empty (known_image i (log_of w)) line ≡ true) where
  abbrev us : List (List Chunk)
  us = (known_image i (log_of w)).units

  no_block : (unit : ℕ) (c : Chunk) → chunk_in (known_image i (log_of w)) line unit ≡ Some c → is_empty_state c.state ≡ true → c.blocks ≡ []
  no_block unit c is_known state =
      let from = known_prefix i w mount.legal b begins unit line c is_known in
      let fits : IsChunk i.shape c = chunk_fits i w mount.legal unit line from.0 c mount.fit mount.accepted.drive.ws_min from.2 from.3 in
      go c.blocks refl fits
    where
      go : (bs : List Block) → c.blocks ≡ bs → IsChunk i.shape c → bs ≡ []
      go [] is fits = refl
      go (x ∷ bs) is fits =
          absurd (no_blocks c.state i.shape.clba 0 c.blocks x state fits.place (ap (λ (xs : List Block). slice_get xs 0) is))

  none_on : AllByRecursion (λ (cs : List Chunk). positions_on i.shape line cs ≡ []) (known_image i (log_of w)).units
  none_on = all_by_get (λ (cs : List Chunk). positions_on i.shape line cs ≡ []) us (λ unit cs at. by unit cs at (slice_get cs line) refl)
    where
      by : (unit : ℕ) (cs : List Chunk) → slice_get (known_image i (log_of w)).units unit ≡ Some cs → (o : Option Chunk) → slice_get cs line ≡ o
          → option_map_or (λ (c : Chunk). filter_map (position_in i.shape) c.blocks) (slice_get cs line) [] ≡ []
      by unit cs at None is = ap (λ (x : Option Chunk). option_map_or (λ (c : Chunk). filter_map (position_in i.shape) c.blocks) x []) is
      by unit cs at (Some c) is =
          let among : IsAmong (chunks_of (known_image i (log_of w)) line) c = given_at (λ (xs : List Chunk). slice_get xs line) us cs c unit at is in
          ap (λ (x : Option Chunk). option_map_or (λ (c : Chunk). filter_map (position_in i.shape) c.blocks) x []) is
          ∙ ap (filter_map (position_in i.shape))
          (no_block unit c (ap (option_and_then (λ (xs : List Chunk). slice_get xs line)) at ∙ is)
          (all_pass (λ (x : Chunk). is_empty_state x.state) (chunks_of (known_image i (log_of w)) line) among.0 c empty among.1))

  pub none_written : (o : Opening) → o.line ≡ line → answered_top i (log_of w) o ≡ 0
  none_written o its =
      ap (λ n. top_of (filter_map (position_in i.shape) (flat_map (λ (c : Chunk). c.blocks) (chunks_of (known_image i (log_of w)) n)))) its
      ∙ ap top_of (by_units i.shape line us ∙ flat_nothing (positions_on i.shape line) us none_on)

pub top_opened : (i : Image) (w : World) (b : Begun) (line : ℕ) (start : StartRecord) (knows : List ℕ) (o : Opening) → IsLegalMount i w
    → begun (log_of w 0) ≡ Some b → MayOpen i (log_of w) b line start → life_of (after (log_of w) (Open line start) knows 0) line ≡ Opened o
    → answered_top i (after (log_of w) (Open line start) knows) o ≡ 0
top_opened i w b line start knows o mount begins may life =
    let first = both (not (has_number i (log_of w) (life_of (log_of w 0) line) line) && are_empty (known_image i (log_of w)) line)
    (nat_lt 0 (line_data (known_image i (log_of w)) line)) may.is_free in
    let free = both (not (has_number i (log_of w) (life_of (log_of w 0) line) line)) (are_empty (known_image i (log_of w)) line) first.0 in
    top_kept i (log_of w) (Open line start) knows o refl (λ unit. refl)
    ∙ none_written i w mount b begins line free.1 o (life_at (after (log_of w) (Open line start) knows 0) line o life).1

-- ---- an event that tells of one of them, which has more blocks then

pub top_more_told : (i : Image) (logs : Logs) (e : EngineEvent) (knows : List ℕ) (unit : ℕ) (x : UnitEvent) (o : Opening) (c : Chunk) (more : List Block)
    → begun_by knows (Decides e) ≡ None → ((u : ℕ) → u ≢ unit → told_by logs u (Decides e) ≡ None) → told_by logs unit (Decides e) ≡ Some x
    → x.chunk ≡ o.line → chunk_in (known_image i logs) o.line unit ≡ Some c
    → (after_outcome i.shape c x.command x.outcome).blocks ≡ c.blocks ++ more
    → answered_top i (after logs e knows) o ≡ max (answered_top i logs o) (top_of (filter_map (position_in i.shape) more))
top_more_told i logs e knows unit x o c more begins untold told its there grows =
    let new : Logs = after logs e knows in
    let known = split_then (λ (cs : List Chunk). slice_get cs o.line) (slice_get (known_image i logs).units unit) c there in
    let found = map_some (λ (cs : List Chunk). after_log i.shape cs (told_events logs unit)) (slice_get (found_image i logs).units unit) known.0
    (sym (known_get i logs unit) ∙ known.1) in
    let number : unit ≡ 0 + unit = omega arith in
    ap top_of (by_told i new o)
    ∙ ap (λ (j : Image). top_of (flat_map (λ (p : ℕ × List Chunk). on_unit i new o.line p.0 p.1) (enumerate_from 0 j.units)))
    (found_kept i logs e knows begins)
    ∙ one_grows (on_unit i new o.line) (on_unit i logs o.line) (top_of (filter_map (position_in i.shape) more)) unit 0 unit (found_image i logs).units
    found.0 number found.1
    (λ u cs apart. ap (λ (es : List UnitEvent). positions_on i.shape o.line (after_log i.shape cs es)) (told_kept logs e knows u (untold u apart)))
    (grown found.0 known.0 found.2 known.2)
    ∙ ap (λ n. max n (top_of (filter_map (position_in i.shape) more))) (ap top_of (sym (by_told i logs o)))
  where
    grown : (cs now : List Chunk) → after_log i.shape cs (told_events logs unit) ≡ now → slice_get now o.line ≡ Some c
        → top_of (positions_on i.shape o.line (after_log i.shape cs (told_events (after logs e knows) unit)))
        ≡ max (top_of (positions_on i.shape o.line (after_log i.shape cs (told_events logs unit)))) (top_of (filter_map (position_in i.shape) more))
    grown cs now is at =
        let part : Option Chunk → List ℕ = λ d. option_map_or (λ (y : Chunk). filter_map (position_in i.shape) y.blocks) d [] in
        let then_ : after_log i.shape cs (told_events (after logs e knows) unit) ≡ after_event i.shape now x =
        ap (after_log i.shape cs) (told_more logs e knows unit ∙ ap (λ (d : Option UnitEvent). told_events logs unit ++ option_to_list d) told)
        ∙ fold-append (after_event i.shape) cs (told_events logs unit) (x ∷ []) ∙ ap (λ ds. after_event i.shape ds x) is in
        let chunk : slice_get (after_event i.shape now x) o.line ≡ Some (after_outcome i.shape c x.command x.outcome) =
        after_chunk i.shape now x o.line its ∙ ap (option_map (λ (y : Chunk). after_outcome i.shape y x.command x.outcome)) at in
        ap (λ ds. top_of (positions_on i.shape o.line ds)) then_ ∙ ap (λ d. top_of (part d)) chunk
        ∙ ap top_of (ap (filter_map (position_in i.shape)) grows ∙ filter_map-append (position_in i.shape) c.blocks more)
        ∙ top_more (filter_map (position_in i.shape) c.blocks) (filter_map (position_in i.shape) more)
        ∙ ap (λ n. max n (top_of (filter_map (position_in i.shape) more)))
        (ap (λ d. top_of (part d)) (sym at) ∙ ap (λ ds. top_of (positions_on i.shape o.line ds)) (sym is))

-- ---- the answer of a stripe

-- the program that the engine may note is that of the stripe
pub record IsOfPlaced (logs : Logs) (unit event : ℕ) (x : UnitEvent) (p : Placed) : Type 0 where
  pub is_event : unit_event_at logs unit event ≡ Some x
  pub chunk : x.chunk ≡ p.stripe.line
  pub command : x.command ≡ Write p.stripe.at p.stripe.blocks

pub of_placed : (i : Image) (w : World) (unit event : ℕ) (x : UnitEvent) (p : Placed) → IsLegalMount i w → IsNew (log_of w) unit event x
    → IsOfStripe (log_of w) unit event x → unanswered_on (log_of w 0) unit ≡ Some p → IsOfPlaced (log_of w) unit event x p
of_placed i w unit event x p mount new stripe waits =
    let one : stripe.logged ≡ new.logged = same_Some stripe.logged new.logged (sym stripe.is_logged ∙ new.is_known) in
    let s : IsProgramOfStripe (log_of w) unit event new.logged x =
    program_of_stripe i w unit event new.logged x mount.legal new.is_known new.event stripe.program
    (subst (λ (l : Logged). 0 < knows_engine l) one stripe.after_begin) in
    let it : s.placed ≡ p = same_Some s.placed p (sym s.in_order ∙ ap (slice_get (placed_on (log_of w 0) unit)) stripe.its_turn ∙ waits) in
    let among : IsAmong (placements (log_of w 0)) p =
    from_filter (λ (q : Placed). q.stripe.unit == unit) (placements (log_of w 0)) p (length (answers (log_of w 0) unit), waits) in
    let place : IsInPlace i (log_of w 0) p = all_at (IsInPlace i (log_of w 0)) (placements (log_of w 0)) among.0 p among.1 (in_order i w mount).placed in
    record {
      is_event = ap (option_and_then (λ (l : Logged). unit_event_of l.event)) new.is_known ∙ new.event;
      chunk = s.chunk ∙ ap (λ (q : Placed). q.stripe.chunk) it ∙ place.chunk;
      command = s.command ∙ ap (λ (q : Placed). Write q.stripe.at q.stripe.blocks) it;
    }

-- its chunk is known
waiting_chunk : (i : Image) (w : World) (unit : ℕ) (p : Placed) → IsLegalMount i w → unanswered_on (log_of w 0) unit ≡ Some p
    → (c : Chunk) × (chunk_in (known_image i (log_of w)) p.stripe.line unit ≡ Some c)
waiting_chunk i w unit p mount waits =
    go (chunk_in (known_image i (log_of w)) p.stripe.line unit) refl
    (sym (live_chunk (known_image i (log_of w)) p.stripe.line unit)
    ∙ subst (λ u. is_online (known_image i (log_of w)) p.stripe.line u ≡ true) on
    (still_online i w p mount (contained_among (placements (log_of w 0)) p (first_unanswered (log_of w 0) unit p waits).among)
    (ap is_some (one_more (log_of w 0) unit 0 [] p waits).before)))
  where
    on : p.stripe.unit ≡ unit
    on = (first_unanswered (log_of w 0) unit p waits).of_unit

    go : (d : Option Chunk) → chunk_in (known_image i (log_of w)) p.stripe.line unit ≡ d → is_on d ≡ true
        → (c : Chunk) × (chunk_in (known_image i (log_of w)) p.stripe.line unit ≡ Some c)
    go None e on = absurd cc
    go (Some c) e on = (c, e)

module _ (i : Image) (w : World) (mount : IsLegalMount i w) (unit event : ℕ) (knows : List ℕ) (p : Placed) (waits : unanswered_on (log_of w 0) unit ≡ Some p)
    (o : Opening) (stands : life_of (log_of w 0) p.stripe.line ≡ Opened o) where
  its_line : o.line ≡ p.stripe.line
  its_line = (life_at (log_of w 0) p.stripe.line o stands).1

  chunk : (c : Chunk) × (chunk_in (known_image i (log_of w)) o.line unit ≡ Some c)
  chunk =
      let it = waiting_chunk i w unit p mount waits in
      (it.0, ap (λ n. chunk_in (known_image i (log_of w)) n unit) its_line ∙ it.1)

  told_here : (t : Bool) (x : UnitEvent) → unit_event_at (log_of w) unit event ≡ Some x → t ≡ true
      → (if t then unit_event_at (log_of w) unit event else None) ≡ Some x
  told_here t x at is = ap (λ b. if b then unit_event_at (log_of w) unit event else None) is ∙ at

  told_there : (u : ℕ) → u ≢ unit → (if unit == u then unit_event_at (log_of w) u event else None) ≡ None
  told_there u apart = ap (λ b. if b then unit_event_at (log_of w) u event else None) (other_number unit u (λ e. apart (sym e)))

  -- all its positions are written once it has landed
  pub top_landed : MayLand (log_of w) unit event → answered_top i (after (log_of w) (Landed unit event) knows) o
      ≡ max (answered_top i (log_of w) o) (top_of (filter_map (position_in i.shape) p.stripe.blocks))
  top_landed may =
      let x : UnitEvent = may.program in
      let its : IsOfPlaced (log_of w) unit event x p = of_placed i w unit event x p mount may.new may.stripe waits in
      top_more_told i (log_of w) (Landed unit event) knows unit x o chunk.0 p.stripe.blocks refl told_there
      (told_here (unit == unit) x its.is_event (same_number unit)) (its.chunk ∙ sym its_line) chunk.1
      (ap₂ (λ c d. (after_outcome i.shape chunk.0 c d).blocks) its.command may.done)

  -- and those of the blocks that were written, once it was lost
  pub top_lost : (may : MayLose (log_of w) unit event) → answered_top i (after (log_of w) (Lost unit event) knows) o
      ≡ max (answered_top i (log_of w) o)
      (top_of (filter_map (position_in i.shape) (take (may.landed_before * i.shape.ws_min) p.stripe.blocks)))
  top_lost may =
      let x : UnitEvent = may.program in
      let its : IsOfPlaced (log_of w) unit event x p = of_placed i w unit event x p mount may.new may.stripe waits in
      top_more_told i (log_of w) (Lost unit event) knows unit x o chunk.0 (take (may.landed_before * i.shape.ws_min) p.stripe.blocks) refl told_there
      (told_here (unit == unit) x its.is_event (same_number unit)) (its.chunk ∙ sym its_line) chunk.1
      (ap₂ (λ c d. (after_outcome i.shape chunk.0 c d).blocks) its.command may.failed)

-- an answer of a stripe of another line
pub top_others : (i : Image) (w : World) (e : EngineEvent) (unit event : ℕ) (knows : List ℕ) (x : UnitEvent) (p : Placed) (other : ℕ) (o : Opening)
    → begun_by knows (Decides e) ≡ None
    → ((u : ℕ) → told_by (log_of w) u (Decides e) ≡ (if unit == u then unit_event_at (log_of w) u event else None))
    → IsOfPlaced (log_of w) unit event x p → other ≢ p.stripe.line → life_of (log_of w 0) other ≡ Opened o
    → answered_top i (after (log_of w) e knows) o ≡ answered_top i (log_of w) o
top_others i w e unit event knows x p other o begins tells its apart life =
    top_beside i (log_of w) e knows o begins (λ u y told same. apart (sym (life_at (log_of w 0) other o life).1 ∙ same
    ∙ ap (λ (z : UnitEvent). z.chunk) (one_told (log_of w) unit event u y x its.is_event (sym (tells u) ∙ told)) ∙ its.chunk))
