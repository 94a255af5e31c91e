-- The map as blocks become readable, one after another, and which blocks these are.
use Rattle.std.proofs.Common.{◌≡◌, ◌≢◌, ℕ, ◌+◌, ◌<◌, ◌==◌, ◌&&◌, suc, nat_eq, nat_lt, if◌then◌else◌, Bool, true, false, cond, Some, None, List, [], ◌∷◌, refl, sym, subst, ap, ap₂, ◌∙◌}
use Rattle.std.specs.Prelude.{slice_get, is_some}
use Rattle.std.specs.List.{cons_option, enumerate_from, filter_map, find}
use Rattle.std.specs.Option.{option_map, option_map_or}
use Rattle.std.specs.Ordering.{eq_by_cmp, nat_cmp}
use Rattle.std.specs.FinMap.{FinMap, get-insert}
use Rattle.std.specs.FinMap as fin
use Rattle.std.specs.Cmp.{nat_cmp_total}
use Rattle.std.proofs.lemmas.Bool.{eqb-true, eqb-false}
use Rattle.pblk_model.specs.declared.shape.Shape.{Shape}
use Rattle.pblk_model.specs.Chunk.{Block}
use Rattle.pblk_model.specs.Records.{named}
use Rattle.pblk_world.specs.EngineLog.{bears_position}
use Rattle.l2p_map.specs.declared.slot.Slot.{Slot}
use Rattle.l2p_map.specs.declared.slot.Slot.TheVariants.{Cached, Media}
use Rattle.pblk_core.specs.Readable.{ReadBlock, is_cached, moved, all_moved}
use Rattle.pblk_core.proofs.LandedEntries.{read_of}
use Rattle.pblk_model.proofs.Tests.{lt_true, other_key, other_number, same_key, same_number}

-- a block of another sector, or of one that isn't in the buffer with its entry, moves nothing
stays : (capacity line lba : ℕ) (m : FinMap nat_cmp Slot) (b : ReadBlock) (x : Slot) → fin.get m lba ≡ Some x
    → (b.mark.lba ≡ lba → is_cached (Some x) b.mark.position ≡ false) → fin.get (moved capacity line m b) lba ≡ Some x
stays capacity line lba m b x at none = go (nat_lt b.mark.lba capacity && is_cached (fin.get m b.mark.lba) b.mark.position) refl
  where
    second : (a c : Bool) → (a && c) ≡ true → c ≡ true
    second true c e = e
    second false c e = absurd cc

    go : (c : Bool) → (nat_lt b.mark.lba capacity && is_cached (fin.get m b.mark.lba) b.mark.position) ≡ c
        → fin.get (if c then fin.insert m b.mark.lba (Media line b.at b.mark.position) else m) lba ≡ Some x
    go false e = at
    go true e = get-insert nat_cmp_total m b.mark.lba (Media line b.at b.mark.position) lba
        ∙ ap (λ c. cond c (Some (Media line b.at b.mark.position)) (fin.get m lba))
        (other_key lba b.mark.lba (λ same. both (none (sym same))
        (ap (λ n. is_cached n b.mark.position) (sym (ap (fin.get m) (sym same) ∙ at))
        ∙ second (nat_lt b.mark.lba capacity) (is_cached (fin.get m b.mark.lba) b.mark.position) e)))
        ∙ at
      where
        both : is_cached (Some x) b.mark.position ≡ false → is_cached (Some x) b.mark.position ≡ true → ⊥
        both p q = cc

-- the block of its entry moves it
moves : (capacity line lba : ℕ) (m : FinMap nat_cmp Slot) (b : ReadBlock) (q : ℕ) → fin.get m lba ≡ Some (Cached q) → lba < capacity → b.mark.lba ≡ lba
    → b.mark.position ≡ q → fin.get (moved capacity line m b) lba ≡ Some (Media line b.at q)
moves capacity line lba m b q at below same its =
    ap₂ (λ (x y : Bool). fin.get (if x && y then fin.insert m b.mark.lba (Media line b.at b.mark.position) else m) lba)
    (lt_true b.mark.lba capacity (subst (λ n. n < capacity) (sym same) below))
    (ap (λ o. is_cached o b.mark.position) (ap (fin.get m) same ∙ at) ∙ ap (λ n. q == n) its ∙ same_number q)
    ∙ get-insert nat_cmp_total m b.mark.lba (Media line b.at b.mark.position) lba
    ∙ ap (λ c. cond c (Some (Media line b.at b.mark.position)) (fin.get m lba)) (same_key lba b.mark.lba (sym same))
    ∙ ap (λ n. Some (Media line b.at n)) its

-- what isn't in the buffer stays
pub settled : (s : Shape) (address : ℕ → ℕ) (capacity line lba : ℕ) (bs : List Block) (n : ℕ) (m : FinMap nat_cmp Slot) (x : Slot) → fin.get m lba ≡ Some x
    → ((q : ℕ) → is_cached (Some x) q ≡ false)
    → fin.get (all_moved capacity line m (filter_map (read_of s address) (enumerate_from n bs))) lba ≡ Some x
settled s address capacity line lba [] n m x at none = at
settled s address capacity line lba (b ∷ bs) n m x at none = go (is_some (named s b.mark)) (λ k. settled s address capacity line lba bs (n + 1) k x)
  where
    go : (c : Bool) → ((k : FinMap nat_cmp Slot) → fin.get k lba ≡ Some x → ((q : ℕ) → is_cached (Some x) q ≡ false)
        → fin.get (all_moved capacity line k (filter_map (read_of s address) (enumerate_from (n + 1) bs))) lba ≡ Some x)
        → fin.get (all_moved capacity line m
        (cons_option (if c then Some (record { at = address n; mark = b.mark }) else None) (filter_map (read_of s address) (enumerate_from (n + 1) bs))))
        lba ≡ Some x
    go true rest = rest (moved capacity line m (record { at = address n; mark = b.mark }))
        (stays capacity line lba m (record { at = address n; mark = b.mark }) x at (λ e. none b.mark.position)) none
    go false rest = rest m at none

-- where a sector of an entry in the buffer is then
abbrev pub moved_to : Shape → (ℕ → ℕ) → ℕ → ℕ → List (ℕ × Block) → Slot
moved_to s address line q xs = option_map_or (λ n. Media line (address n) q) (option_map (λ b. b.0) (find (λ b. bears_position s q b.1) xs)) (Cached q)

pub move_all : (s : Shape) (address : ℕ → ℕ) (capacity line lba q : ℕ) (bs : List Block) (n : ℕ) (m : FinMap nat_cmp Slot) → fin.get m lba ≡ Some (Cached q)
    → lba < capacity
    → ((k : ℕ) (b : Block) → slice_get bs k ≡ Some b → is_some (named s b.mark) ≡ true → b.mark.position ≡ q → b.mark.lba ≡ lba)
    → fin.get (all_moved capacity line m (filter_map (read_of s address) (enumerate_from n bs))) lba ≡ Some (moved_to s address line q (enumerate_from n bs))
move_all s address capacity line lba q [] n m at below own = at
move_all s address capacity line lba q (b ∷ bs) n m at below own =
    go (is_some (named s b.mark)) refl (nat_eq b.mark.position q) refl
    (λ k now. move_all s address capacity line lba q bs (n + 1) k now below (λ j x there. own (suc j) x there))
  where
    found : (c : Bool) → Slot
    found c = option_map_or (λ k. Media line (address k) q)
        (option_map (λ (x : ℕ × Block). x.0) (cond c (Some (n, b)) (find (λ (x : ℕ × Block). bears_position s q x.1) (enumerate_from (n + 1) bs)))) (Cached q)

    go : (c : Bool) → is_some (named s b.mark) ≡ c → (d : Bool) → nat_eq b.mark.position q ≡ d
        → ((k : FinMap nat_cmp Slot) → fin.get k lba ≡ Some (Cached q)
        → fin.get (all_moved capacity line k (filter_map (read_of s address) (enumerate_from (n + 1) bs))) lba ≡ Some
        (moved_to s address line q (enumerate_from (n + 1) bs)))
        → fin.get (all_moved capacity line m
        (cons_option (if is_some (named s b.mark) then Some (record { at = address n; mark = b.mark }) else None)
        (filter_map (read_of s address) (enumerate_from (n + 1) bs)))) lba
        ≡ Some (option_map_or (λ k. Media line (address k) q)
        (option_map (λ (x : ℕ × Block). x.0)
        (cond (is_some (named s b.mark) && (b.mark.position == q)) (Some (n, b))
        (find (λ (x : ℕ × Block). bears_position s q x.1) (enumerate_from (n + 1) bs)))) (Cached q))
    go true e true f rest =
        let its : b.mark.position ≡ q = eqb-true b.mark.position q f in
        ap (λ c. fin.get (all_moved capacity line m
        (cons_option (if c then Some (record { at = address n; mark = b.mark }) else None) (filter_map (read_of s address) (enumerate_from (n + 1) bs))))
        lba) e
        ∙ settled s address capacity line lba bs (n + 1) (moved capacity line m (record { at = address n; mark = b.mark })) (Media line (address n) q)
        (moves capacity line lba m (record { at = address n; mark = b.mark }) q at below (own 0 b refl e its) its) (λ p. refl)
        ∙ sym (ap₂ (λ (x y : Bool). Some
        (option_map_or (λ k. Media line (address k) q)
        (option_map (λ (z : ℕ × Block). z.0) (cond (x && y) (Some (n, b)) (find (λ (z : ℕ × Block). bears_position s q z.1) (enumerate_from (n + 1) bs))))
        (Cached q))) e f)
    go true e false f rest =
        let other : b.mark.position ≢ q = eqb-false b.mark.position q f in
        ap (λ c. fin.get (all_moved capacity line m
        (cons_option (if c then Some (record { at = address n; mark = b.mark }) else None) (filter_map (read_of s address) (enumerate_from (n + 1) bs))))
        lba) e
        ∙ rest (moved capacity line m (record { at = address n; mark = b.mark }))
        (stays capacity line lba m (record { at = address n; mark = b.mark }) (Cached q) at (λ same. other_number q b.mark.position (λ p. other (sym p))))
        ∙ sym (ap₂ (λ (x y : Bool). Some
        (option_map_or (λ k. Media line (address k) q)
        (option_map (λ (z : ℕ × Block). z.0) (cond (x && y) (Some (n, b)) (find (λ (z : ℕ × Block). bears_position s q z.1) (enumerate_from (n + 1) bs))))
        (Cached q))) e f)
    go false e d f rest =
        ap (λ c. fin.get (all_moved capacity line m
        (cons_option (if c then Some (record { at = address n; mark = b.mark }) else None) (filter_map (read_of s address) (enumerate_from (n + 1) bs))))
        lba) e
        ∙ rest m at
        ∙ sym (ap (λ (x : Bool). Some (option_map_or (λ k. Media line (address k) q)
        (option_map (λ (z : ℕ × Block). z.0)
        (cond (x && (b.mark.position == q)) (Some (n, b)) (find (λ (z : ℕ × Block). bears_position s q z.1) (enumerate_from (n + 1) bs)))) (Cached q))) e)

-- what is in another line was there before
moved_elsewhere : (capacity into line lba at position : ℕ) (m : FinMap nat_cmp Slot) (b : ReadBlock) → line ≢ into
    → fin.get (moved capacity into m b) lba ≡ Some (Media line at position) → fin.get m lba ≡ Some (Media line at position)
moved_elsewhere capacity into line lba at position m b other = go (nat_lt b.mark.lba capacity && is_cached (fin.get m b.mark.lba) b.mark.position)
  where
    by : (same : Bool) → cond same (Some (Media into b.at b.mark.position)) (fin.get m lba) ≡ Some (Media line at position)
        → fin.get m lba ≡ Some (Media line at position)
    by false e = e
    by true e = absurd (other (let here : into ≡ line = cc in sym here))

    go : (c : Bool) → fin.get (if c then fin.insert m b.mark.lba (Media into b.at b.mark.position) else m) lba ≡ Some (Media line at position)
        → fin.get m lba ≡ Some (Media line at position)
    go false e = e
    go true e =
        by (eq_by_cmp nat_cmp lba b.mark.lba) (sym (get-insert nat_cmp_total m b.mark.lba (Media into b.at b.mark.position) lba) ∙ e)

pub from_elsewhere : (capacity into line lba at position : ℕ) (bs : List ReadBlock) (m : FinMap nat_cmp Slot) → line ≢ into
    → fin.get (all_moved capacity into m bs) lba ≡ Some (Media line at position) → fin.get m lba ≡ Some (Media line at position)
from_elsewhere capacity into line lba at position [] m other e = e
from_elsewhere capacity into line lba at position (b ∷ bs) m other e =
    moved_elsewhere capacity into line lba at position m b other
    (from_elsewhere capacity into line lba at position bs (moved capacity into m b) other e)
