-- What is seen of the bearers of a certificate.
use Rattle.std.specs.Prelude.{ℕ, ◌+◌, ◌≡◌, ◌==◌, ◌&&◌, ◌||◌, not, nat_lt, nat_le, if◌then◌else◌, Bool, false, true, List, [], ◌∷◌, length, Option, Some, None}
use Rattle.std.specs.List.{list_any}
use Rattle.std.specs.Option.{option_map_or}
use Rattle.std.specs.List.{slice_get}
use Rattle.pblk_model.specs.StartRecord.{StartRecord}
use Rattle.pblk_model.specs.Records.{Record}
use Rattle.pblk_model.specs.Contents.{is_borne}
use Rattle.image_check.specs.declared.certificate.Bearer.{Bearer}
use Rattle.image_check.specs.declared.bearers.Seen.{Seen}
use Rattle.image_check.specs.Right.{is_named}
use Rattle.pblk_model.specs.Tables.{IsTable}

-- whether a bearer stands at the place of its position, and some record is the one that it names
abbrev pub seen_bearer : StartRecord → List Record → ℕ → Option Bearer → Bool
seen_bearer h rs k said = option_map_or (λ b. (b.position == h.front + k) && list_any (is_named h b) rs) said false

abbrev pub seen_at : StartRecord → List Bearer → List Record → ℕ → Bool
seen_at h bears rs k = seen_bearer h rs k (slice_get bears k)

pub record IsSeen (h : StartRecord) (bears : List Bearer) (last : ℕ) (rs : List Record) (s : Seen) : Type 0 where
  pub bearers : IsTable (length bears) (seen_at h bears rs) s.bearers.items
  pub end : s.end ≡ is_borne rs h last

-- the least position from this one on whose bearer is wrong
abbrev pub first_wrong : ℕ → ℕ → List Bearer → List Bool → Option ℕ
first_wrong position last [] seen = if nat_lt position last then Some position else None
first_wrong position last (b ∷ bears) [] = None
first_wrong position last (b ∷ bears) (s ∷ seen) = if nat_lt b.position position || nat_le last position then Some b.position
    else (if nat_lt position b.position || not s then Some position else first_wrong (position + 1) last bears seen)

-- whether a record is the bearer at a place, as its position has it there
abbrev pub hits : StartRecord → Record → ℕ → Bearer → Bool
hits h r k b = (b.position == h.front + k) && is_named h b r

pub record IsHit (h : StartRecord) (bears : List Bearer) (r : Record) (k : ℕ) : Type 0 where
  pub bearer : Bearer
  pub there : slice_get bears k ≡ Some bearer
  pub is : hits h r k bearer ≡ true

abbrev pub IsMissed : StartRecord → List Bearer → Record → Type 0
IsMissed h bears r = (k : ℕ) (b : Bearer) → slice_get bears k ≡ Some b → hits h r k b ≡ false
