-- What an image holds: for each user sector the newest of the records that count (this project's rules of
-- recovery by scanning; FAST 2017 recovers by scanning too).
use Rattle.std.specs.Prelude.{ℕ, zero, suc, ◌+◌, ◌==◌, ◌&&◌, ◌||◌, if◌then◌else◌, nat_lt, nat_le, ◌<◌, ◌≤◌, ◌≡◌, ◌⊎◌, Bool, false, List, [], map, length, Option, Some, None}
use Rattle.std.specs.List.{Contains, filter, filter_map, list_any, fold, range_with_len}
use Rattle.std.specs.Option.{option_map_or}
use Rattle.pblk_model.specs.StartRecord.{StartRecord, start_of}
use Rattle.pblk_model.specs.Bytes.{zeros}
use Rattle.pblk_model.specs.Records.{Record, records}
use Rattle.pblk_model.specs.Image.{Image}

-- The head: of all whole start records the one with the greatest sequence number, and among equals the one of
-- the least line.
abbrev pub later_start : Option StartRecord → StartRecord → Option StartRecord
later_start None r = Some r
later_start (Some best) r = if nat_lt best.seq r.seq then Some r else Some best

-- said as a fact: no whole start record has a greater sequence number, nor the same in a lesser line
pub record IsHead (i : Image) (line : ℕ) (h : StartRecord) : Type 0 where
  pub here : line < i.shape.chunks
  pub whole : start_of i line ≡ Some h
  pub greatest : (other : ℕ) (r : StartRecord) → other < i.shape.chunks → start_of i other ≡ Some r
      → (r.seq < h.seq) ⊎ ((r.seq ≡ h.seq) × (line ≤ other))

-- that of the latest of the first lines, so many
unfoldable pub head_to : Image → ℕ → Option StartRecord
head_to i n = fold later_start None (filter_map (start_of i) (range_with_len 0 n))

abbrev pub head : Image → Option StartRecord
head i = fold later_start None (filter_map (start_of i) (range_with_len 0 i.shape.chunks))

-- the record is one of a line of the head's mount, at this position
pub record Bears (h : StartRecord) (p : ℕ) (r : Record) : Type 0 where
  pub mount : h.first_seq ≤ r.seq
  pub position : r.position ≡ p

-- whether a record in a line of the head's mount bears the position
abbrev pub is_borne : List Record → StartRecord → ℕ → Bool
is_borne rs h p = list_any (λ r. nat_le h.first_seq r.seq && (r.position == p)) rs

-- the least position from p on that nothing bears, if it is found within so many turns
unfoldable pub least_missing : (ℕ → Bool) → ℕ → ℕ → ℕ
least_missing borne zero p = p
least_missing borne (suc turns) p = if borne p then least_missing borne turns (p + 1) else p

-- said as a fact: the least position from the head's front on that no record bears in a line of the head's
-- mount
pub record IsEnd (rs : List Record) (h : StartRecord) (p : ℕ) : Type 0 where
  pub from_front : h.front ≤ p
  pub missing : (r : Record) → Contains rs r → ¬ Bears h p r
  pub least : (q : ℕ) → h.front ≤ q → q < p → (r : Record) × Contains rs r × Bears h q r

-- The end: that position, and 0 without a head. Each record bears one position, so as many turns as there are
-- records are enough.
abbrev pub end_after : List Record → Option StartRecord → ℕ
end_after rs None = 0
end_after rs (Some h) = least_missing (is_borne rs h) (length rs) h.front

abbrev pub end : Image → ℕ
end i = end_after (records i) (head i)

-- A record counts where its line is of the head's mount and its position is below the end, or where its line
-- has a row in the head, for the line's sequence number, and its position is below that row's bound.
abbrev pub counts : StartRecord → ℕ → Record → Bool
counts h p r = (nat_le h.first_seq r.seq && nat_lt r.position p)
    || list_any (λ row. (row.line == r.line) && (row.seq == r.seq) && nat_lt r.position row.bound) h.rows

abbrev pub counted_after : List Record → Option StartRecord → List Record
counted_after rs None = []
counted_after rs (Some h) = filter (counts h (end_after rs (Some h))) rs

abbrev pub counted : Image → List Record
counted i = counted_after (records i) (head i)

-- b is newer than a: by position, then by sequence number, then by line address; of two that agree in all three
-- the one in the lesser line is newer
abbrev pub IsNewer : Record → Record → Type 0
IsNewer a b = (a.position < b.position) ⊎ ((a.position ≡ b.position) × ((a.seq < b.seq) ⊎ ((a.seq ≡ b.seq)
    × ((a.at < b.at) ⊎ ((a.at ≡ b.at) × (b.line < a.line))))))

-- whether it is
abbrev pub is_newer : Record → Record → Bool
is_newer a b = nat_lt a.position b.position || ((a.position == b.position) && (nat_lt a.seq b.seq || ((a.seq == b.seq)
    && (nat_lt a.at b.at || ((a.at == b.at) && nat_lt b.line a.line)))))

abbrev pub newer : Option Record → Record → Option Record
newer None r = Some r
newer (Some best) r = if is_newer best r then Some r else Some best

abbrev pub newest : List Record → Option Record
newest rs = fold newer None rs

abbrev pub is_of : ℕ → Option ℕ → Bool
is_of lba None = false
is_of lba (Some other) = other == lba

-- the newest of the records of a sector
abbrev pub winner : List Record → ℕ → Option Record
winner rs lba = newest (filter (λ r. is_of lba r.lba) rs)

-- said as a fact: a record of the sector that is newer than every other of it
pub record IsWinner (rs : List Record) (lba : ℕ) (r : Record) : Type 0 where
  pub there : Contains rs r
  pub of_it : r.lba ≡ Some lba
  pub newest : (other : Record) → Contains rs other → other.lba ≡ Some lba → (other ≡ r) ⊎ IsNewer other r

-- what a user sector holds: zeros where no record of it counts
abbrev pub sector_of : Image → ℕ → List ℕ
sector_of i lba = option_map_or (λ r. r.sector) (winner (counted i) lba) (zeros i.shape.sector)

-- the user sectors, by lba
abbrev pub contents : Image → List (List ℕ)
contents i = map (sector_of i) (range_with_len 0 i.shape.capacity)
