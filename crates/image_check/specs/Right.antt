-- When a certificate is right for an image, and why another one is refused.
use Rattle.std.specs.Prelude.{ℕ, ◌≡◌, ◌≢◌, ◌<◌, ◌-◌, ◌==◌, ◌&&◌, ⊤, not, nat_le, nat_lt, if◌then◌else◌, Bool, true, false, List, [], map, length, Option, Some, None, filter}
use Rattle.std.specs.List.{AllByRecursion, filter_map, find, list_any, range_with_len}
use Rattle.std.specs.List.Sorted.{IsStrictlyIncreasing}
use Rattle.std.specs.Option.{is_some, option_map, option_map_or}
use Rattle.pblk_model.specs.declared.found.Winner.{Winner}
use Rattle.pblk_model.specs.Bytes.{zeros}
use Rattle.pblk_model.specs.Image.{Image, block_at}
use Rattle.pblk_model.specs.StartRecord.{StartRecord, start_of}
use Rattle.pblk_model.specs.EndRecord.{end_of}
use Rattle.pblk_model.specs.Records.{Record, records}
use Rattle.pblk_model.specs.Contents.{counted, end, head, is_borne, winner}
use Rattle.image_check.specs.declared.certificate.LineEntry.{LineEntry}
use Rattle.image_check.specs.declared.certificate.Bearer.{Bearer}
use Rattle.image_check.specs.declared.certificate.LiveCount.{LiveCount}
use Rattle.image_check.specs.declared.certificate.Certificate.{Certificate}
use Rattle.image_check.specs.declared.error.CheckErr.{CheckErr}
use Rattle.image_check.specs.declared.error.CheckErr.TheVariants as errors

-- What the definitions of recovery give.

-- the row of a line with a sequence number
abbrev pub entry_by : Image → ℕ → Option StartRecord → Option LineEntry
entry_by i line o = option_map (λ start. record { line = line; seq = start.seq; full = is_some (end_of i line start) }) o

abbrev pub entry_of : Image → ℕ → Option LineEntry
entry_of i line = entry_by i line (start_of i line)

abbrev pub entries_of : Image → List LineEntry
entries_of i = filter_map (entry_of i) (range_with_len 0 i.shape.chunks)

abbrev pub head_line : Image → Option ℕ
head_line i = option_map (λ h. h.line) (head i)

-- where the newest counted record of a sector stands
abbrev pub win_by : ℕ → Option Record → Option Winner
win_by lba o = option_map (λ r. record { lba = lba; position = r.position; line = r.line; at = r.at }) o

abbrev pub wins_of : Image → List Winner
wins_of i = filter_map (λ lba. win_by lba (winner (counted i) lba)) (range_with_len 0 i.shape.capacity)

-- what is written at a line address: nothing where no block is
abbrev pub payload_at : Image → ℕ → ℕ → List ℕ
payload_at i line at = option_map_or (λ b. b.sector) (block_at i line at) []

-- how many of them stand in each line with a sequence number
abbrev pub live_in : List Winner → LineEntry → LiveCount
live_in wins e = record { line = e.line; count = length (filter (λ w. w.line == e.line) wins) }

abbrev pub lives_of : Image → List LiveCount
lives_of i = map (live_in (wins_of i)) (entries_of i)

-- whether a record is the one that is named, and the end may look at it
abbrev pub is_named : StartRecord → Bearer → Record → Bool
is_named h b r = nat_le h.first_seq r.seq && (r.position == b.position) && (r.line == b.line) && (r.at == b.at)

-- How many positions there are from the head's front up to a position. Without a head there is none.
abbrev pub borne_length : Option StartRecord → ℕ → ℕ
borne_length None p = 0
borne_length (Some h) p = p - h.front

abbrev pub front_of : Option StartRecord → ℕ
front_of None = 0
front_of (Some h) = h.front

-- each position from the head's front up to this one has a bearer, and no other has
pub record AreBearers (h : Option StartRecord) (rs : List Record) (p : ℕ) (bears : List Bearer) : Type 0 where
  pub positions : map (λ b. b.position) bears ≡ range_with_len (front_of h) (borne_length h p)
  pub named : (head : StartRecord) → h ≡ Some head → AllByRecursion (λ b. list_any (is_named head b) rs ≡ true) bears

-- Each line of the certificate is what the definitions give, and none is missing. Of the records that bear a
-- position it may name any.
pub record IsRight (i : Image) (c : Certificate) : Type 0 where
  pub lines : c.lines ≡ entries_of i
  pub head_is : c.head ≡ head_line i
  pub bears : AreBearers (head i) (records i) (end i) c.bears
  pub end_is : c.end ≡ end i
  pub wins : c.wins ≡ wins_of i
  pub lives : c.lives ≡ lives_of i

-- Its kinds rise by their first numbers, as they do where it was read.
pub record IsInOrder (c : Certificate) : Type 0 where
  pub lines : IsStrictlyIncreasing (map (λ e. e.line) c.lines)
  pub bears : IsStrictlyIncreasing (map (λ b. b.position) c.bears)
  pub wins : IsStrictlyIncreasing (map (λ w. w.lba) c.wins)
  pub lives : IsStrictlyIncreasing (map (λ l. l.line) c.lives)

-- Refusals.

-- what a list says of a number
abbrev pub said_of : {X : Type 0} → (X → ℕ) → List X → ℕ → Option X
said_of number xs n = find (λ x. number x == n) xs

-- What a sector holds by the places that are said of sectors: the payload at its place, and zeros where none is said.
abbrev pub said_sector : Image → List Winner → ℕ → List ℕ
said_sector i wins lba = option_map_or (λ w. payload_at i w.line w.at) (said_of (λ w. w.lba) wins lba) (zeros i.shape.sector)

abbrev pub said_contents : Image → List Winner → List (List ℕ)
said_contents i wins = map (said_sector i wins) (range_with_len 0 i.shape.capacity)

-- the least number of which two lists don't say the same
pub record IsLeastOther {X : Type 0} (number : X → ℕ) (xs ys : List X) (n : ℕ) : Type 0 where
  pub other : said_of number xs n ≢ said_of number ys n
  pub least : (m : ℕ) → m < n → said_of number xs m ≡ said_of number ys m

-- Whether what is said of a position's bearer is right: from the head's front up to the end there is one, and it is
-- a record that bears the position in a line of the head's mount. Of all else nothing is said.
abbrev pub is_borne_right : Option StartRecord → List Record → ℕ → ℕ → Option Bearer → Bool
is_borne_right None rs end p said = not (is_some said)
is_borne_right (Some h) rs end p said =
    if nat_le h.front p && nat_lt p end then option_map_or (λ b. list_any (is_named h b) rs) said false else not (is_some said)

abbrev pub bearer_right : Image → Certificate → ℕ → Bool
bearer_right i c p = is_borne_right (head i) (records i) c.end p (said_of (λ b. b.position) c.bears p)

pub record IsLeastWrong (right : ℕ → Bool) (n : ℕ) : Type 0 where
  pub wrong : right n ≡ false
  pub least : (m : ℕ) → m < n → right m ≡ true

-- Whether a position may be the end: it isn't below the head's front, and no record of the head's mount bears it.
-- Without a head it is 0.
abbrev pub may_end : Option StartRecord → List Record → ℕ → Bool
may_end None rs p = p == 0
may_end (Some h) rs p = nat_le h.front p && not (is_borne rs h p)

-- Why a certificate is refused. A reason stands only where none of those before it does.
abbrev pub Refuses : Image → Certificate → CheckErr → Type 0
Refuses i c (errors.Line line) = IsLeastOther (λ e. e.line) (entries_of i) c.lines line
Refuses i c errors.Head = (c.lines ≡ entries_of i) × (c.head ≢ head_line i)
Refuses i c (errors.Bearer p) = (c.lines ≡ entries_of i) × (c.head ≡ head_line i) × IsLeastWrong (bearer_right i c) p
Refuses i c errors.End = (c.lines ≡ entries_of i) × (c.head ≡ head_line i) × ((p : ℕ) → bearer_right i c p ≡ true)
    × (may_end (head i) (records i) c.end ≡ false)
Refuses i c (errors.Winner lba) = (c.lines ≡ entries_of i) × (c.head ≡ head_line i) × ((p : ℕ) → bearer_right i c p ≡ true)
    × (may_end (head i) (records i) c.end ≡ true) × IsLeastOther (λ w. w.lba) (wins_of i) c.wins lba
Refuses i c (errors.Live line) = (c.lines ≡ entries_of i) × (c.head ≡ head_line i) × ((p : ℕ) → bearer_right i c p ≡ true)
    × (may_end (head i) (records i) c.end ≡ true) × (c.wins ≡ wins_of i) × IsLeastOther (λ l. l.line) (lives_of i) c.lives line
Refuses i c errors.Memory = ⊤

-- The third and the fourth reason alone.

abbrev pub AreBearersRight : Image → Certificate → Type 0
AreBearersRight i c = ((p : ℕ) → bearer_right i c p ≡ true) × (may_end (head i) (records i) c.end ≡ true)

abbrev pub RefusesBearers : Image → Certificate → CheckErr → Type 0
RefusesBearers i c (errors.Line line) = ⊥
RefusesBearers i c errors.Head = ⊥
RefusesBearers i c (errors.Bearer p) = IsLeastWrong (bearer_right i c) p
RefusesBearers i c errors.End = ((p : ℕ) → bearer_right i c p ≡ true) × (may_end (head i) (records i) c.end ≡ false)
RefusesBearers i c (errors.Winner lba) = ⊥
RefusesBearers i c (errors.Live line) = ⊥
RefusesBearers i c errors.Memory = ⊤
