-- What the maker of certificates finds of the positions of the head's mount.
use Rattle.std.specs.Prelude.{ℕ, ◌+◌, ◌≡◌, ◌==◌, ◌&&◌, nat_le, Bool, List, [], ◌∷◌, map, length, Option, Some, None}
use Rattle.std.specs.List.{AllByRecursion, find, range_with_len}
use Rattle.std.specs.Option.{option_map}
use Rattle.pblk_model.specs.Image.{Image}
use Rattle.pblk_model.specs.StartRecord.{StartRecord}
use Rattle.pblk_model.specs.Records.{Record, records}
use Rattle.pblk_model.specs.Contents.{head}
use Rattle.pblk_meta.specs.declared.start_record.StartRecord.{StartRecord as Start}
use Rattle.image_check.specs.declared.certificate.Bearer.{Bearer}

-- whether a record in a line of the head's mount bears a position
abbrev pub bears_it : StartRecord → ℕ → Record → Bool
bears_it h p r = nat_le h.first_seq r.seq && (r.position == p)

abbrev pub bearer_by : Option Record → Option Bearer
bearer_by o = option_map (λ r. record { position = r.position; line = r.line; at = r.at }) o

-- of the records that bear a position the first one, by line and then by line address
abbrev pub first_bearer : StartRecord → List Record → ℕ → Option Bearer
first_bearer h rs p = bearer_by (find (bears_it h p) rs)

-- each bearer is that one
abbrev pub AreFirst : Image → List Bearer → Type 0
AreFirst i bears = (h : StartRecord) → head i ≡ Some h → AllByRecursion (λ b. first_bearer h (records i) b.position ≡ Some b) bears

-- by how far a position is above the head's front
abbrev pub bearer_behind : StartRecord → List Record → ℕ → Option Bearer
bearer_behind h rs k = first_bearer h rs (h.front + k)

-- what stands before the first that is missing
abbrev pub leading : List (Option Bearer) → List Bearer
leading [] = []
leading (None ∷ found) = []
leading (Some b ∷ found) = b ∷ leading found

-- the bearers of the positions from the head's front up to the first that has none
abbrev pub made_bearers : StartRecord → List Record → List Bearer
made_bearers h rs = leading (map (bearer_behind h rs) (range_with_len 0 (length rs)))

-- the position so many behind the head's front, and 0 without a head
abbrev pub end_behind : Option Start → ℕ → ℕ
end_behind None count = 0
end_behind (Some h) count = h.front + count
