-- What the finite map of a list of slots has at a sector.
use Rattle.std.proofs.Common.{◌≡◌, ℕ, ◌+◌, ◌<◌, zero, suc, cond, eqb, Some, None, List, [], ◌∷◌, length, replicate, refl, sym, ap, ◌∙◌, arith}
use Rattle.std.proofs.lemmas.Bool.Decides.{nat_tests}
use Rattle.std.specs.List.{slice_get, slice_set, enumerate_from}
use Rattle.std.specs.Option.{is_some}
use Rattle.std.specs.Ordering.{nat_cmp}
use Rattle.std.specs.Cmp.{nat_cmp_total, unsigned_tied}
use Rattle.std.specs.FinMap.{find, get, len, insert, from_entries, get-from_entries, get-insert, len-empty, len-insert, same_map, nat_cmp-IsAntisymmetric}
use Rattle.l2p_map.specs.declared.slot.Slot.{Slot}
use Rattle.l2p_map.specs.Sectors.{sectors}
use Rattle.pblk_model.proofs.Tests.{other_key, same_key}

find_before : (slots : List Slot) (a q : ℕ) → q < a → find nat_cmp q (enumerate_from a slots) ≡ None
find_before [] a q h = refl
find_before (s ∷ slots) a q h =
    ap (λ b. cond b (Some s) (find nat_cmp q (enumerate_from (a + 1) slots))) (other_key q a (λ e. omega arith))
    ∙ find_before slots (a + 1) q (omega arith)

find_at_place : (slots : List Slot) (a k q : ℕ) → q ≡ a + k → find nat_cmp q (enumerate_from a slots) ≡ slice_get slots k
find_at_place [] a k q e = refl
find_at_place (s ∷ slots) a zero q e = ap (λ b. cond b (Some s) (find nat_cmp q (enumerate_from (a + 1) slots))) (same_key q a (omega arith))
find_at_place (s ∷ slots) a (suc k) q e =
    ap (λ b. cond b (Some s) (find nat_cmp q (enumerate_from (a + 1) slots))) (other_key q a (λ is. omega arith))
    ∙ find_at_place slots (a + 1) k q (omega arith)

-- the sector has its slot
pub get_sector : (slots : List Slot) (q : ℕ) → get (sectors slots) q ≡ slice_get slots q
get_sector slots q = get-from_entries nat_cmp_total (enumerate_from 0 slots) q ∙ find_at_place slots 0 q q (omega arith)

pub len_from : (slots : List Slot) (a : ℕ) → len (from_entries {R = nat_cmp} (enumerate_from a slots)) ≡ length slots
len_from [] a = len-empty nat_cmp Slot
len_from (s ∷ slots) a =
    let rest = from_entries {R = nat_cmp} (enumerate_from (a + 1) slots) in
    let absent : get rest a ≡ None = get-from_entries nat_cmp_total (enumerate_from (a + 1) slots) a ∙ find_before slots (a + 1) a (omega arith) in
    let more : len (insert rest a s) ≡ len rest + 1 = len-insert nat_cmp_total rest a s ∙ ap (λ o. cond (is_some o) (len rest) (len rest + 1)) absent in
    more ∙ omega (arith, len_from slots (a + 1))

-- the map's length is the number of sectors
pub len_sectors : (slots : List Slot) → len (sectors slots) ≡ length slots
len_sectors slots = len_from slots 0

get_set : (xs : List Slot) (k q : ℕ) (y : Slot) → k < length xs → slice_get (slice_set xs k y) q ≡ cond (eqb q k) (Some y) (slice_get xs q)
get_set [] k q y h = absurd (omega arith)
get_set (x ∷ xs) zero zero y h = refl
get_set (x ∷ xs) zero (suc q) y h = grind (arith, nat_tests)
get_set (x ∷ xs) (suc k) zero y h = grind (arith, nat_tests)
get_set (x ∷ xs) (suc k) (suc q) y h =
    let same : eqb q k ≡ eqb (suc q) (suc k) = grind (arith, nat_tests) in
    get_set xs k q y (omega arith) ∙ ap (λ b. cond b (Some y) (slice_get xs q)) same

-- and setting it in the list sets it in the map
pub set_sector : (slots : List Slot) (k : ℕ) (to : Slot) → k < length slots → sectors (slice_set slots k to) ≡ insert (sectors slots) k to
set_sector slots k to h = same_map nat_cmp_total nat_cmp-IsAntisymmetric _ _ (λ q.
    get_sector (slice_set slots k to) q ∙ get_set slots k q to h
    ∙ sym (get-insert nat_cmp_total (sectors slots) k to q
    ∙ ap (λ b. cond b (Some to) (get (sectors slots) q)) (unsigned_tied q k)
    ∙ ap (cond (eqb q k) (Some to)) (get_sector slots q)))

pub get_replicate : (n q : ℕ) (s : Slot) → q < n → slice_get (replicate n s) q ≡ Some s
get_replicate zero q s h = absurd (omega arith)
get_replicate (suc n) zero s h = refl
get_replicate (suc n) (suc q) s h = get_replicate n q s (omega arith)
