-- The slots of sectors as a finite map.
use Rattle.std.specs.Prelude.{refl, ◌≡◌, ℕ, List, Option, Some, None, ◌⊎◌}
use Rattle.std.proofs.Common.{inl, inr}
use Rattle.std.specs.List.{enumerate_from}
use Rattle.std.specs.Coded.{Coded, code_by, coded×, coded⊎, coded_option, coded_ℕ}
use Rattle.std.specs.Ordering.{nat_cmp}
use Rattle.std.specs.FinMap.{FinMap, from_entries}
use Rattle.l2p_map.specs.declared.slot.Slot.{Slot}
use Rattle.l2p_map.specs.declared.slot.Slot.TheVariants.{Unwritten, Cached, Media}

-- the sectors from 0 on have these slots
abbrev pub sectors : List Slot → FinMap nat_cmp Slot
sectors slots = from_entries (enumerate_from 0 slots)

-- a slot is stored as its position in the buffer, if it has one there, or as the numbers of its block
abbrev pub parts : Slot → Option ℕ ⊎ (ℕ × (ℕ × ℕ))
parts Unwritten = inl None
parts (Cached position) = inl (Some position)
parts (Media line at position) = inr (line, (at, position))

abbrev pub whole : Option ℕ ⊎ (ℕ × (ℕ × ℕ)) → Slot
whole (inl None) = Unwritten
whole (inl (Some position)) = Cached position
whole (inr p) = Media p.0 p.1.0 p.1.1

pub whole-parts : (s : Slot) → whole (parts s) ≡ s
whole-parts Unwritten = refl
whole-parts (Cached position) = refl
whole-parts (Media line at position) = refl

abbrev pub slot_code : Coded Slot
slot_code = code_by (Option ℕ ⊎ (ℕ × (ℕ × ℕ))) (coded⊎ (coded_option coded_ℕ) (coded× coded_ℕ (coded× coded_ℕ coded_ℕ))) parts whole whole-parts
