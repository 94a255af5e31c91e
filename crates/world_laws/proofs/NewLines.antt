-- What a line has by its last opening, whether it was freed since or not: no start record but the
-- opening's, and no record but of an entry in one of the opening's stripes. While it is opened,
-- what has landed there has its record.
use Rattle.std.proofs.Common.{◌≡◌, ℕ, ◌<◌, ◌≤◌, true, Some, List, length, take, refl, sym, subst, ap, ◌∙◌}
use Rattle.std.specs.Prelude.{slice_get}
use Rattle.std.specs.List.{Contains}
use Rattle.std.proofs.lemmas.Option.{none-some, same_Some}
use Rattle.pblk_model.specs.EndRecord.{EndRecord, end_of}
use Rattle.pblk_model.specs.Image.{Image}
use Rattle.pblk_model.specs.Records.{Record, line_records, named}
use Rattle.pblk_model.specs.Sealed.{AgreesWithLine}
use Rattle.pblk_model.specs.Shape.{units}
use Rattle.pblk_model.specs.StartRecord.{StartRecord, start_fits, start_of}
use Rattle.pblk_world.specs.Events.{Logged}
use Rattle.pblk_world.specs.World.{World, log_of, media}
use Rattle.pblk_world.specs.EngineLog.{Begun, begun, LineLife, AsFound, Freed, Opened, Opening, Placed, Taken, has_landed, holds_position, last_opening, life_of, openings, stripes_of, takes}
use Rattle.pblk_world.specs.Starts.{has_landed_start}
use Rattle.pblk_model.proofs.Lists.{IsAmong, among_contained}
use Rattle.pblk_model.proofs.Parts.{contained_among, get_more}
use Rattle.pblk_world.specs.LegalMounts.{IsLegalMount}
use Rattle.world_laws.proofs.Later.{takes_joined}
use Rattle.world_laws.proofs.Lives.{life_is_known}
use Rattle.world_laws.proofs.Openings.{opened_at}
use Rattle.world_laws.proofs.StartFits.{opening_fits, opening_narrow}
use Rattle.world_laws.proofs.Stripes.{IsOpening, opening_is}
use Rattle.world_laws.proofs.BeforeFreeing.{IsBefore, IsEarlier, before_freeing, engine_then}
use Rattle.world_laws.proofs.EndRecords.{agrees}
use Rattle.world_laws.proofs.FreedLines.{freed_records, freed_start, mount_then}
use Rattle.world_laws.proofs.LineBlocks.{opened_line}
use Rattle.world_laws.proofs.LineRecords.{IsEntryOfRecord, landed_has_record, record_is_entry, record_is_placed}
use Rattle.world_laws.proofs.LineStarts.{one_start, start_stands}
use Rattle.world_laws.proofs.LineStripes.{stripe_then}

-- the opening of a life has numbers that fit, in a mount that began
pub record IsFitOpening (i : Image) (w : World) (o : Opening) : Type 0 where
  pub begun_with : Begun
  pub begins : begun (log_of w 0) ≡ Some begun_with
  pub fits : start_fits i.shape o.line o.start.width o.start ≡ true
  pub narrow : o.start.width ≤ units i.shape
  pub in_range : o.line < i.shape.chunks

fit_opening : (i : Image) (w : World) (o : Opening) → IsLegalMount i w → Contains (openings (log_of w 0)) o → IsFitOpening i w o
fit_opening i w o mount opened =
    let at = among_contained (openings (log_of w 0)) o opened in
    let its : IsOpening (log_of w 0) at.0 o = opening_is (log_of w 0) at.0 o at.1 in
    let may = opened_at i w o.number o.line o.start its.logged mount.legal its.there its.event in
    record {
      begun_with = may.0;
      begins = may.1;
      fits = opening_fits i w o mount.legal opened;
      narrow = opening_narrow i w o mount.fit mount.legal opened;
      in_range = may.2.in_range;
    }

-- an entry of a record, and a stripe that holds its position
abbrev pub IsPlacedRecord : Image → World → Opening → Record → Type 0
IsPlacedRecord i w o r = (p : Placed) × Contains (stripes_of (log_of w 0) o) p × (holds_position i.shape r.position p ≡ true)

abbrev pub IsTakenRecord : Image → World → Record → Type 0
IsTakenRecord i w r = (t : Taken) × IsEntryOfRecord i (log_of w 0) r t

-- ---- while the line is opened

module _ (i : Image) (w : World) (mount : IsLegalMount i w) (line : ℕ) (o : Opening) (is_open : life_of (log_of w 0) line ≡ Opened o) where
  known : Contains (openings (log_of w 0)) o × (o.line ≡ line)
  known = life_is_known (log_of w 0) line o (ap last_opening is_open)

  own : life_of (log_of w 0) o.line ≡ Opened o
  own = ap (life_of (log_of w 0)) known.1 ∙ is_open

  its : IsFitOpening i w o
  its = fit_opening i w o mount known.0

  agrees_own : (e : EndRecord) → start_of (media i (log_of w)) o.line ≡ Some o.start → end_of (media i (log_of w)) o.line o.start ≡ Some e
      → AgreesWithLine (media i (log_of w)) o.line e
  agrees_own e started ended = agrees i w mount o own o.start e ended

  here : (r : Record) → Contains (line_records (media i (log_of w)) line) r → Contains (line_records (media i (log_of w)) o.line) r
  here r there = subst (λ l. Contains (line_records (media i (log_of w)) l) r) (sym known.1) there

  opened_start : (r : StartRecord) → start_of (media i (log_of w)) line ≡ Some r → r ≡ o.start
  opened_start r started = one_start i w mount o (opened_line i w mount o own) its.fits its.narrow its.in_range r
      (ap (start_of (media i (log_of w))) known.1 ∙ started)

  opened_entry : (r : Record) → Contains (line_records (media i (log_of w)) line) r → IsTakenRecord i w r
  opened_entry r there = record_is_entry i w mount o own its.fits its.narrow its.in_range agrees_own r (here r there)

  opened_placed : (r : Record) → Contains (line_records (media i (log_of w)) line) r → IsPlacedRecord i w o r
  opened_placed r there = record_is_placed i w mount o own its.fits its.narrow its.in_range agrees_own r (here r there)

  -- its start record stands once it has landed
  pub opened_stands : has_landed_start i.shape (log_of w 0) o ≡ true → start_of (media i (log_of w)) line ≡ Some o.start
  opened_stands landed = ap (start_of (media i (log_of w))) (sym known.1) ∙ start_stands i w mount o own its.fits its.narrow its.in_range landed

  -- each position of a stripe that has landed has a record
  pub opened_landed : (p : Placed) (position : ℕ) → Contains (stripes_of (log_of w 0) o) p → has_landed (log_of w 0) p ≡ true
      → holds_position i.shape position p ≡ true → (r : Record) × Contains (line_records (media i (log_of w)) line) r × (r.position ≡ position)
  opened_landed p position there landed holds =
      let r = landed_has_record i w mount o own its.fits its.narrow its.in_range agrees_own p position there landed holds in
      (r.0, subst (λ l. Contains (line_records (media i (log_of w)) l) r.0) known.1 r.1, r.2)

-- ---- after it was freed

-- what was taken and placed in an earlier world was so later too
taken_later : (i : Image) (w : World) (b : Begun) (v : World) (r : Record) → IsEarlier i w b v → IsTakenRecord i v r → IsTakenRecord i w r
taken_later i w b v r e t =
    let more = e.grows 0 in
    let among : IsAmong (takes (log_of w 0)) t.0 = (
      t.1.there.0,
      ap (λ (log : List Logged). slice_get (takes log) t.1.there.0) more.1 ∙ ap (λ ts. slice_get ts t.1.there.0) (takes_joined (log_of v 0) more.0)
          ∙ get_more (takes (log_of v 0)) (takes more.0) t.1.there.0 t.0 t.1.there.1,
    ) in
    (t.0, record { there = among; position = t.1.position; names = t.1.names; sector = t.1.sector })

placed_later : (i : Image) (w : World) (b : Begun) (v : World) (o : Opening) (r : Record) → IsEarlier i w b v → IsPlacedRecord i v o r → IsPlacedRecord i w o r
placed_later i w b v o r e p =
    let at = among_contained (stripes_of (log_of v 0) o) p.0 p.1 in
    let there : slice_get (stripes_of (take (length (log_of v 0)) (log_of w 0)) o) at.0 ≡ Some p.0 =
    ap (λ (log : List Logged). slice_get (stripes_of log o) at.0) (engine_then i w b v e) ∙ at.1 in
    (p.0, contained_among (stripes_of (log_of w 0) o) p.0 (at.0, stripe_then (log_of w 0) o (length (log_of v 0)) at.0 p.0 there), p.2)

module _ (i : Image) (w : World) (mount : IsLegalMount i w) (line : ℕ) (o : Opening) (knows : List ℕ)
    (freed : life_of (log_of w 0) line ≡ Freed (Some o) knows) where
  b : IsFitOpening i w o
  b = fit_opening i w o mount (life_is_known (log_of w 0) line o (ap last_opening freed)).0

  old : IsBefore i w b.begun_with line o knows
  old = before_freeing i w mount.legal b.begun_with b.begins line o knows freed

  then_ : IsLegalMount i old.before
  then_ = mount_then i w mount b.begun_with b.begins line o knows freed old

  -- a record that it has it had
  had : (r : Record) → Contains (line_records (media i (log_of w)) line) r → Contains (line_records (media i (log_of old.before)) line) r
  had = freed_records i w mount b.begun_with b.begins line o knows freed old

  gone_start : (r : StartRecord) → start_of (media i (log_of w)) line ≡ Some r → r ≡ o.start
  gone_start r started = opened_start i old.before then_ line o old.is_open r (freed_start i w mount b.begun_with b.begins line o knows freed old r started)

  gone_entry : (r : Record) → Contains (line_records (media i (log_of w)) line) r → IsTakenRecord i w r
  gone_entry r there = taken_later i w b.begun_with old.before r old.earlier (opened_entry i old.before then_ line o old.is_open r (had r there))

  gone_placed : (r : Record) → Contains (line_records (media i (log_of w)) line) r → IsPlacedRecord i w o r
  gone_placed r there = placed_later i w b.begun_with old.before o r old.earlier (opened_placed i old.before then_ line o old.is_open r (had r there))

-- ---- by the last opening

-- what holds of the line of an opening while it is opened, and after it was freed, holds of it
by_last : (i : Image) (w : World) (P : Type 0) (line : ℕ) (o : Opening) → (life_of (log_of w 0) line ≡ Opened o → P)
    → ((knows : List ℕ) → life_of (log_of w 0) line ≡ Freed (Some o) knows → P) → last_opening (life_of (log_of w 0) line) ≡ Some o → P
by_last i w P line o opened freed its = go (life_of (log_of w 0) line) refl its
  where
    go : (life : LineLife) → life_of (log_of w 0) line ≡ life → last_opening life ≡ Some o → P
    go AsFound is e = absurd (none-some o e)
    go (Opened p) is e = opened (is ∙ ap Opened (same_Some p o e))
    go (Freed was knows) is e = freed knows (is ∙ ap (λ x. Freed x knows) e)

pub last_start : (i : Image) (w : World) (line : ℕ) (o : Opening) (r : StartRecord) → IsLegalMount i w → last_opening (life_of (log_of w 0) line) ≡ Some o
    → start_of (media i (log_of w)) line ≡ Some r → r ≡ o.start
last_start i w line o r mount its started =
    by_last i w (r ≡ o.start) line o (λ is. opened_start i w mount line o is r started) (λ knows is. gone_start i w mount line o knows is r started) its

pub last_entry : (i : Image) (w : World) (line : ℕ) (o : Opening) (r : Record) → IsLegalMount i w → last_opening (life_of (log_of w 0) line) ≡ Some o
    → Contains (line_records (media i (log_of w)) line) r → IsTakenRecord i w r
last_entry i w line o r mount its there =
    by_last i w (IsTakenRecord i w r) line o (λ is. opened_entry i w mount line o is r there) (λ knows is. gone_entry i w mount line o knows is r there) its

pub last_placed : (i : Image) (w : World) (line : ℕ) (o : Opening) (r : Record) → IsLegalMount i w → last_opening (life_of (log_of w 0) line) ≡ Some o
    → Contains (line_records (media i (log_of w)) line) r → IsPlacedRecord i w o r
last_placed i w line o r mount its there =
    by_last i w (IsPlacedRecord i w o r) line o (λ is. opened_placed i w mount line o is r there)
    (λ knows is. gone_placed i w mount line o knows is r there) its

-- ---- the clauses

pub entry_clause : (i : Image) (w : World) (line : ℕ) (o : Opening) (r : Record) → IsLegalMount i w → last_opening (life_of (log_of w 0) line) ≡ Some o
    → Contains (line_records (media i (log_of w)) line) r
    → (t : Taken) × Contains (takes (log_of w 0)) t × (t.entry.position ≡ r.position) × (named i.shape t.mark ≡ Some r.lba) × (r.sector ≡ t.entry.sector)
entry_clause i w line o r mount its there =
    let t = last_entry i w line o r mount its there in
    (t.0, contained_among (takes (log_of w 0)) t.0 t.1.there, t.1.position, t.1.names, t.1.sector)

pub stands_clause : (i : Image) (w : World) (line : ℕ) (o : Opening) → IsLegalMount i w → life_of (log_of w 0) line ≡ Opened o
    → has_landed_start i.shape (log_of w 0) o ≡ true → start_of (media i (log_of w)) line ≡ Some o.start
stands_clause i w line o mount is landed = opened_stands i w mount line o is landed

pub landed_clause : (i : Image) (w : World) (line : ℕ) (o : Opening) (p : Placed) (position : ℕ) → IsLegalMount i w → life_of (log_of w 0) line ≡ Opened o
    → Contains (stripes_of (log_of w 0) o) p → has_landed (log_of w 0) p ≡ true → holds_position i.shape position p ≡ true
    → (r : Record) × Contains (line_records (media i (log_of w)) line) r × (r.position ≡ position)
landed_clause i w line o p position mount is there landed holds = opened_landed i w mount line o is p position there landed holds
