-- The records of a line that is opened: each is of an entry that was taken and stands in a stripe
-- of the opening, and each entry in a stripe that has landed has one.
use Rattle.std.proofs.Common.{◌≡◌, ℕ, ◌+◌, ◌-◌, ◌*◌, ◌/◌, ◌%◌, ◌<◌, ◌≤◌, ◌⊎◌, inl, inr, ◌==◌, nat_lt, Bool, true, false, Some, None, Option, List, length, take, drop, refl, sym, subst, ap, ◌∙◌, arith, if◌then◌else◌}
use Rattle.std.specs.Prelude.{slice_get}
use Rattle.std.specs.List.{Contains, range_with_len}
use Rattle.std.specs.Int.{div_ceil}
use Rattle.std.specs.Option.{is_some, option_and_then, option_map}
use Rattle.std.proofs.lemmas.Bool.{cases_lt}
use Rattle.std.proofs.lemmas.Option.{none-some, same_Some}
use Rattle.std.proofs.Math.Nat.{div-add-mod, lt_of_mul-lt-mul_right, mul-le-mul_right}
use Rattle.pblk_model.specs.declared.shape.Shape.{Shape}
use Rattle.pblk_model.specs.declared.chunk.Mark.{Mark}
use Rattle.pblk_model.specs.Accepted.{IsAccepted}
use Rattle.pblk_model.specs.Chunk.{Block}
use Rattle.pblk_model.specs.Shape.{units}
use Rattle.pblk_model.specs.LineOrder.{data_len, end_len, start_len}
use Rattle.pblk_model.specs.Marks.{meta_mark}
use Rattle.pblk_model.specs.Image.{Image, block_at, width}
use Rattle.pblk_model.specs.StartRecord.{StartRecord, start_fits, start_of}
use Rattle.pblk_model.specs.EndRecord.{EndRecord, end_of}
use Rattle.pblk_model.specs.Records.{Record, bears, line_records, mark_at, named, record_at, records_after}
use Rattle.pblk_model.specs.Sealed.{AgreesWithLine}
use Rattle.pblk_model.proofs.LineOrderLemmas.{whole_line}
use Rattle.pblk_laws.proofs.EndSpelling.{end_written}
use Rattle.pblk_laws.proofs.MarkNames.{meta_none, pad_none}
use Rattle.pblk_world.specs.Events.{Logged}
use Rattle.pblk_world.specs.World.{World, Logs, log_of, media}
use Rattle.pblk_world.specs.EngineLog.{bears_position, has_landed, holds_position, life_of, Opened, Opening, Placed, stripes_of, Taken, takes}
use Rattle.pblk_world.specs.Placing.{IsData, end_address, next_address, record_blocks, stripe_at}
use Rattle.pblk_world.specs.Starts.{has_landed_start, start_stripes}
use Rattle.pblk_world.specs.Victims.{engine_prefix}
use Rattle.pblk_model.proofs.Lists.{IsAmong, among_contained, contains_none}
use Rattle.pblk_model.proofs.Maps.{any_member, from_given, given_at, range_get}
use Rattle.pblk_model.proofs.Options.{map_some, split_then}
use Rattle.pblk_model.proofs.Parts.{all_at, contained_among, get_below, take_and_drop}
use Rattle.pblk_model.proofs.Tests.{and_both, le_of_lt_false, not_before, same_number}
use Rattle.pblk_world.specs.LegalMounts.{IsLegalMount}
use Rattle.world_laws.proofs.Entries.{IsEntryOrNone, entries_of_stripe, marks_bear}
use Rattle.world_laws.proofs.LandedRecords.{IsBlockAt, block_at_position}
use Rattle.world_laws.proofs.Newest.{have_landed_later}
use Rattle.world_laws.proofs.Stripes.{stripe_is}
use Rattle.world_laws.proofs.LineBlocks.{IsLineOf, landed_written, opened_line}
use Rattle.world_laws.proofs.LineStarts.{IsAt, cut_marks, is_at, next_written, one_start, pad_is, part_get, start_stands}
use Rattle.world_laws.proofs.LineStripes.{IsKind, before, data_behind_start, some_data, stripe_count, stripe_kind}

-- ---- the records of a line of an image

pub record IsLineRecord (img : Image) (line : ℕ) (r : Record) : Type 0 where
  pub start : StartRecord
  pub started : start_of img line ≡ Some start
  pub at : ℕ
  pub bears : record_at img line start at ≡ Some r

pub line_record : (img : Image) (line : ℕ) (r : Record) → Contains (line_records img line) r → IsLineRecord img line r
line_record img line r there = go (start_of img line) refl there
  where
    go : (o : Option StartRecord) → start_of img line ≡ o → Contains (records_after img line o) r → IsLineRecord img line r
    go None e there = absurd (contains_none r there)
    go (Some start) e there =
        let range : List ℕ = range_with_len 0 (width img line * img.shape.clba) in
        let at = among_contained (records_after img line (Some start)) r there in
        let from = from_given (record_at img line start) range r at.0 at.1 in
        record { start = start; started = e; at = from.0; bears = from.2 }

pub in_line_records : (img : Image) (line a : ℕ) (start : StartRecord) (r : Record) → start_of img line ≡ Some start → a < width img line * img.shape.clba
    → record_at img line start a ≡ Some r → Contains (line_records img line) r
in_line_records img line a start r started inside bears =
    let n : ℕ = width img line * img.shape.clba in
    let same : 0 + a ≡ a = omega arith in
    subst (λ o. Contains (records_after img line o) r) (sym started)
    (contained_among (records_after img line (Some start)) r
    (given_at (record_at img line start) (range_with_len 0 n) a r a (range_get 0 n a inside ∙ ap (λ x. Some x) same) bears))

-- ---- where the end record begins

-- it is a whole number of stripes
pub end_whole : (i : Image) (o : Opening) → IsAccepted i.shape → 0 < data_len i.shape o.start.width
    → (m : ℕ) × (end_address i.shape o ≡ m * i.shape.ws_opt)
end_whole i o accepted some =
    let n : ℕ = i.shape.ws_opt in
    let k : ℕ = div_ceil (32 + 16 * (o.start.width * i.shape.clba - start_len i.shape)) (n * (i.shape.sector + 16)) in
    let rows : ℕ = o.start.width * (i.shape.clba / n) in
    let parts : n * (i.shape.clba / n) + i.shape.clba % n ≡ i.shape.clba = div-add-mod i.shape.clba n in
    let none : i.shape.clba % n ≡ 0 = accepted.drive.whole_stripes in
    let chunk : i.shape.clba ≡ i.shape.clba / n * n = omega arith in
    let line : o.start.width * i.shape.clba ≡ rows * n =
    ap (λ x. o.start.width * x) chunk ∙ (let same : o.start.width * (i.shape.clba / n * n) ≡ o.start.width * (i.shape.clba / n) * n = omega arith in same) in
    let all : end_address i.shape o + end_len i.shape o.start.width ≡ o.start.width * i.shape.clba = whole_line i.shape o.start.width some in
    let last : end_len i.shape o.start.width ≡ k * n = omega arith in
    let less : k * n ≤ rows * n = omega arith in
    (rows - k, go n k rows (end_address i.shape o) (omega arith))
  where
    go : (n k rows a : ℕ) → a + k * n ≡ rows * n → a ≡ (rows - k) * n
    go n k rows a e = by (cases_lt rows k)
      where
        by : (rows < k) ⊎ (k ≤ rows) → a ≡ (rows - k) * n
        by (inl few) =
            let more : (rows + 1) * n ≤ k * n = mul-le-mul_right n (omega arith) in
            let same : rows - k ≡ 0 = omega arith in
            let nothing : (rows - k) * n ≡ 0 * n = ap (λ x. x * n) same in
            omega arith
        by (inr enough) =
            let sum : rows ≡ (rows - k) + k = omega arith in
            let spread : rows * n ≡ (rows - k) * n + k * n =
            ap (λ x. x * n) sum ∙ (let same : ((rows - k) + k) * n ≡ (rows - k) * n + k * n = omega arith in same) in
            omega arith

-- ---- which blocks name nothing

part_none : (s : Shape) (seq n : ℕ) (bytes : List ℕ) (begins a index : ℕ) (blocks : List Block) (b : Block) → IsAccepted s → index < s.ws_opt
    → blocks ≡ stripe_at s (record_blocks s seq n bytes) begins a → slice_get blocks index ≡ Some b → named s b.mark ≡ None
part_none s seq n bytes begins a index blocks b accepted inside are is =
    let at : slice_get (record_blocks s seq n bytes) (a - begins + index) ≡ Some b =
    sym (part_get s (record_blocks s seq n bytes) begins a index inside) ∙ ap (λ (bs : List Block). slice_get bs index) (sym are) ∙ is in
    ap (named s)
    (all_at (λ (x : Block). x.mark ≡ meta_mark seq) (record_blocks s seq n bytes) (a - begins + index) b at (cut_marks s.sector n bytes (meta_mark seq)))
    ∙ meta_none s seq accepted

-- the stripe of a block that names a sector, or is Void, is one of entries
pub is_data : (i : Image) (logs : Logs) (o : Opening) (p : Placed) (index : ℕ) (b : Block) (lba : Option ℕ) → IsAccepted i.shape → index < i.shape.ws_opt
    → slice_get p.stripe.blocks index ≡ Some b → named i.shape b.mark ≡ Some lba → IsKind i logs o p.stripe → IsData i logs o p.stripe
is_data i logs o p index b lba accepted inside is names (inl h) =
    absurd (none-some lba (sym (part_none i.shape o.start.seq _ _ _ _ index p.stripe.blocks b accepted inside h.blocks is) ∙ names))
is_data i logs o p index b lba accepted inside is names (inr (inl h)) = h
is_data i logs o p index b lba accepted inside is names (inr (inr (inl h))) =
    absurd (none-some lba (sym (part_none i.shape o.start.seq _ _ _ _ index p.stripe.blocks b accepted inside h.blocks is) ∙ names))
is_data i logs o p index b lba accepted inside is names (inr (inr (inr h))) =
    absurd (none-some lba (sym (ap (λ (x : Block). named i.shape x.mark) (pad_is i logs o p index b h is) ∙ pad_none i.shape accepted) ∙ names))

-- ---- the records of a line that is opened

-- the entry of a record
pub record IsEntryOfRecord (i : Image) (log : List Logged) (r : Record) (t : Taken) : Type 0 where
  pub there : IsAmong (takes log) t
  pub position : t.entry.position ≡ r.position
  pub names : named i.shape t.mark ≡ Some r.lba
  pub sector : r.sector ≡ t.entry.sector

module _ (i : Image) (w : World) (mount : IsLegalMount i w) (o : Opening) (is_open : life_of (log_of w 0) o.line ≡ Opened o)
    (fits : start_fits i.shape o.line o.start.width o.start ≡ true) (narrow : o.start.width ≤ units i.shape) (in_range : o.line < i.shape.chunks)
    (agrees : (e : EndRecord) → start_of (media i (log_of w)) o.line ≡ Some o.start → end_of (media i (log_of w)) o.line o.start ≡ Some e
    → AgreesWithLine (media i (log_of w)) o.line e) where
  abbrev log : List Logged
  log = log_of w 0

  abbrev now : Image
  now = media i (log_of w)

  abbrev line : IsLineOf i w o
  line = opened_line i w mount o is_open

  -- the mark that counts for a block is its own
  own_mark : (e : Option EndRecord) (a : ℕ) (b : Block) (m : Mark) → start_of (media i (log_of w)) o.line ≡ Some o.start
      → end_of (media i (log_of w)) o.line o.start ≡ e
      → block_at (media i (log_of w)) o.line a ≡ Some b → mark_at i.shape e a b ≡ Some m → m ≡ b.mark
  own_mark None a b m started ended written counts = sym (same_Some b.mark m counts)
  own_mark (Some e) a b m started ended written counts = go (nat_lt a (start_len i.shape)) refl counts
    where
      go : (t : Bool) → nat_lt a (start_len i.shape) ≡ t → (if t then None else slice_get e.pairs (a - start_len i.shape)) ≡ Some m → m ≡ b.mark
      go true low f = absurd (none-some m f)
      go false past f =
          let far : start_len i.shape ≤ a = le_of_lt_false a (start_len i.shape) past in
          let here : start_len i.shape + (a - start_len i.shape) ≡ a = omega arith in
          same_Some m b.mark (sym f ∙ (agrees e started ended).marks (a - start_len i.shape) b (get_below e.pairs (a - start_len i.shape) m f)
          (ap (block_at now o.line) here ∙ written))

  -- ---- from a record to its block

  pub record IsRecordOf (r : Record) : Type 0 where
    pub address : ℕ
    pub block : Block
    pub at : IsAt i w mount o line address block
    pub names : named i.shape block.mark ≡ Some r.lba
    pub position : block.mark.position ≡ r.position
    pub sector : r.sector ≡ block.sector

  pub record_of : (r : Record) → Contains (line_records (media i (log_of w)) o.line) r → IsRecordOf r
  record_of r there =
      let h : IsLineRecord now o.line r = line_record now o.line r there in
      let its : h.start ≡ o.start = one_start i w mount o line fits narrow in_range h.start h.started in
      let started : start_of now o.line ≡ Some o.start = h.started ∙ ap (λ x. Some x) its in
      let b = split_then (λ block. option_and_then (bears i.shape o.line o.start.seq h.at block) (mark_at i.shape (end_of now o.line o.start) h.at block))
      (block_at now o.line h.at) r (ap (λ s. record_at now o.line s h.at) (sym its) ∙ h.bears) in
      let m = split_then (bears i.shape o.line o.start.seq h.at b.0) (mark_at i.shape (end_of now o.line o.start) h.at b.0) r b.2 in
      let own : m.0 ≡ b.0.mark = own_mark (end_of now o.line o.start) h.at b.0 m.0 started refl b.1 m.1 in
      let name = map_some (λ lba. record { line = o.line; seq = o.start.seq; at = h.at; position = m.0.position; lba = lba; sector = b.0.sector })
      (named i.shape m.0) r m.2 in
      record {
        address = h.at;
        block = b.0;
        at = is_at i w mount o line h.at b.0 b.1;
        names = ap (named i.shape) (sym own) ∙ name.1 ∙ ap (λ x. Some x) (ap (λ (x : Record). x.lba) name.2);
        position = ap (λ (x : Mark). x.position) (sym own) ∙ ap (λ (x : Record). x.position) name.2;
        sector = ap (λ (x : Record). x.sector) (sym name.2);
      }

  -- a stripe of the opening holds the record's position
  pub record_is_placed : (r : Record) → Contains (line_records (media i (log_of w)) o.line) r
      → (p : Placed) × Contains (stripes_of (log_of w 0) o) p × (holds_position i.shape r.position p ≡ true)
  record_is_placed r there =
      let h : IsRecordOf r = record_of r there in
      let at : IsAt i w mount o line h.address h.block = h.at in (
        at.placed,
        at.there,
        any_member (bears_position i.shape r.position) at.placed.stripe.blocks at.index h.block at.is_block
            (and_both (is_some (named i.shape h.block.mark)) (h.block.mark.position == r.position) (ap is_some h.names)
            (ap (λ n. n == r.position) h.position ∙ same_number r.position)),
      )

  -- and it is of an entry that was taken
  pub record_is_entry : (r : Record) → Contains (line_records (media i (log_of w)) o.line) r → (t : Taken) × IsEntryOfRecord i (log_of w 0) r t
  record_is_entry r there =
      let h : IsRecordOf r = record_of r there in
      let at : IsAt i w mount o line h.address h.block = h.at in
      let placed = (stripe_is i w o at.placed mount.legal line.opened at.there).0 in
      go h (all_at (IsEntryOrNone i.shape log) at.placed.stripe.blocks at.index h.block at.is_block
      (entries_of_stripe i w at.placed mount.accepted mount.legal placed))
    where
      go : (h : IsRecordOf r) → IsEntryOrNone i.shape (log_of w 0) h.block → (t : Taken) × IsEntryOfRecord i (log_of w 0) r t
      go h (inl none) = absurd (none-some r.lba (sym none ∙ h.names))
      go h (inr entry) =
          let mark : entry.0.mark ≡ h.block.mark = ap (λ (x : Block). x.mark) entry.2 in
          let position : entry.0.mark.position ≡ entry.0.entry.position =
          all_at (λ (t : Taken). t.mark.position ≡ t.entry.position) (takes log) entry.1.0 entry.0 entry.1.1 (marks_bear i w mount.legal) in (
            entry.0,
            record {
              there = entry.1;
              position = sym position ∙ ap (λ (m : Mark). m.position) mark ∙ h.position;
              names = ap (named i.shape) mark ∙ h.names;
              sector = h.sector ∙ ap (λ (x : Block). x.sector) (sym entry.2);
            },
          )

  -- ---- from an entry that has landed to its record

  -- the mark that counts for a data block
  counted_mark : (e : Option EndRecord) (a : ℕ) (b : Block) → start_of (media i (log_of w)) o.line ≡ Some o.start
      → end_of (media i (log_of w)) o.line o.start ≡ e
      → block_at (media i (log_of w)) o.line a ≡ Some b → start_len i.shape ≤ a → a < end_address i.shape o → mark_at i.shape e a b ≡ Some b.mark
  counted_mark None a b started ended written from below = refl
  counted_mark (Some e) a b started ended written from below =
      let is = (end_written now o.line o.start e ended).0 in
      let count : length e.pairs ≡ data_len i.shape o.start.width = is.fits.count ∙ ap (data_len i.shape) (is.width_is ∙ sym line.width_is) in
      let here : start_len i.shape + (a - start_len i.shape) ≡ a = omega arith in
      ap (λ t. if t then None else slice_get e.pairs (a - start_len i.shape)) (not_before a (start_len i.shape) from)
      ∙ (agrees e started ended).marks (a - start_len i.shape) b (omega arith) (ap (block_at now o.line) here ∙ written)

  pub landed_has_record : (p : Placed) (q : ℕ) → Contains (stripes_of (log_of w 0) o) p → has_landed (log_of w 0) p ≡ true
      → holds_position i.shape q p ≡ true → (r : Record) × Contains (line_records (media i (log_of w)) o.line) r × (r.position ≡ q)
  landed_has_record p q there landed holds =
      let b : IsBlockAt i.shape p q = block_at_position i.shape p q holds in
      let count : length p.stripe.blocks ≡ i.shape.ws_opt = stripe_count i w o p mount.accepted mount.legal line.opened there in
      let inside : b.index < length p.stripe.blocks = get_below p.stripe.blocks b.index b.block b.is_block in
      let its : IsData i (engine_prefix p.number (log_of w)) o p.stripe =
      is_data i (engine_prefix p.number (log_of w)) o p b.index b.block b.lba mount.accepted (omega arith) b.is_block b.names
      (stripe_kind i w o p mount.legal line.opened there) in
      let whole : has_landed_start i.shape log o ≡ true =
      subst (λ (xs : List Logged). has_landed_start i.shape xs o ≡ true) (take_and_drop p.number log)
      (have_landed_later (take p.number log) (drop p.number log) o (start_stripes i.shape) its.start_landed) in
      let started : start_of now o.line ≡ Some o.start = start_stands i w mount o is_open fits narrow in_range whole in
      let a : ℕ = before log o p.number * i.shape.ws_opt + b.index in
      let written : block_at now o.line a ≡ Some b.block =
      next_written i w mount o line p b.index b.block there its.next (omega arith)
      (landed_written i w mount o is_open p b.index b.block there landed b.is_block) in
      let behind : start_len i.shape ≤ next_address i.shape (take p.number log) o =
      data_behind_start i (engine_prefix p.number (log_of w)) o p.stripe mount.accepted.drive.ws_opt its in
      let below : a < end_address i.shape o = in_data p b.index its.within (omega arith) in
      let some : 0 < data_len i.shape o.start.width = some_data i w o mount.legal line.opened in
      let all : start_len i.shape + data_len i.shape o.start.width + end_len i.shape o.start.width ≡ o.start.width * i.shape.clba =
      whole_line i.shape o.start.width some in
      let wide : o.start.width * i.shape.clba ≡ width now o.line * i.shape.clba = ap (λ g. g * i.shape.clba) line.width_is in
      let r : Record = record { line = o.line; seq = o.start.seq; at = a; position = b.block.mark.position; lba = b.lba; sector = b.block.sector } in
      let bears_it : record_at now o.line o.start a ≡ Some r =
      ap (option_and_then (λ block. option_and_then (bears i.shape o.line o.start.seq a block) (mark_at i.shape (end_of now o.line o.start) a block))) written
      ∙ ap (option_and_then (bears i.shape o.line o.start.seq a b.block))
      (counted_mark (end_of now o.line o.start) a b.block started refl written (omega arith) below)
      ∙ ap (option_map (λ lba. record {
        line = o.line;
        seq = o.start.seq;
        at = a;
        position = b.block.mark.position;
        lba = lba;
        sector = b.block.sector;
      })) b.names in
      (r, in_line_records now o.line a o.start r started (omega arith) bears_it, b.at)
    where
      in_data : (p : Placed) (index : ℕ) → before (log_of w 0) o p.number * i.shape.ws_opt < end_address i.shape o → index < i.shape.ws_opt
          → before (log_of w 0) o p.number * i.shape.ws_opt + index < end_address i.shape o
      in_data p index low inside =
          let m = end_whole i o mount.accepted (some_data i w o mount.legal line.opened) in
          let end : end_address i.shape o ≡ m.0 * i.shape.ws_opt = m.1 in
          let row : before log o p.number < m.0 = lt_of_mul-lt-mul_right i.shape.ws_opt (omega arith) in
          let more : (before log o p.number + 1) * i.shape.ws_opt ≤ m.0 * i.shape.ws_opt = mul-le-mul_right i.shape.ws_opt (omega arith) in
          omega arith
