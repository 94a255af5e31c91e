-- The window as entries land and become readable, one after another, without frames.
use Rattle.std.proofs.Common.{◌≡◌, ℕ, ◌+◌, ◌-◌, ◌≤◌, ◌==◌, ◌&&◌, ◌||◌, zero, suc, if◌then◌else◌, Bool, true, false, Some, None, Option, List, [], ◌∷◌, length, take, drop, refl, sym, subst, ap, ap₂, ◌∙◌, arith}
use Rattle.std.specs.Prelude.{slice_get, map, is_some}
use Rattle.std.specs.List.{cons_option, enumerate_from, filter_map, list_any, range_with_len}
use Rattle.pblk_model.specs.declared.shape.Shape.{Shape}
use Rattle.pblk_model.specs.Chunk.{Block}
use Rattle.pblk_model.specs.Records.{named}
use Rattle.pblk_world.specs.Events.{Logged}
use Rattle.pblk_world.specs.EngineLog.{Taken, bears_position}
use Rattle.write_window.specs.Entries.{AreFrom, with_progress}
use Rattle.write_window.specs.Window.{WindowView, IsHeld, has_landed_at, turned}
use Rattle.write_window.specs.declared.held.Held.{Held}
use Rattle.write_window.specs.declared.held.Progress.{Progress}
use Rattle.write_window.specs.declared.held.Progress.TheVariants as progress
use Rattle.core_laws.specs.PlacerOf.{positions_of}
use Rattle.core_laws.specs.WindowOf.{HeldSector, HeldSectors, held_of, sectors_in, without_frame}
use Rattle.core_laws.specs.AdvancedEntries.{advanced_window}
use Rattle.core_laws.proofs.WindowSteps.{step_landed, step_again, step_readable, lands_more, reads_more, no_more}
use Rattle.core_laws.proofs.PlacedPlaces.{turned_round as turned_around}
use Rattle.pblk_core.specs.Landing.{all_landed, one_landed}
use Rattle.pblk_core.specs.Readable.{ReadBlock, all_readable}
use Rattle.pblk_core.proofs.ReadRuns.{held_stays, landed_stays}
use Rattle.pblk_model.proofs.Numbers.{fun_same}
use Rattle.write_window.proofs.EntriesLemmas.{turned_length}

-- ---- positions

turned_from : (held : List Held) (a k : ℕ) (to : Progress) → AreFrom a held → AreFrom a (with_progress held k to)
turned_from [] a k to from = from
turned_from (h ∷ held) a zero to from = from
turned_from (h ∷ held) a (suc k) to from = (from.0, turned_from held (a + 1) k to from.1)

-- the entries of a window have positions that follow one another, where those of the log have
pub numbered_from : (s : Shape) (log : List Logged) (a n : ℕ) (held : List Held) (ts : List Taken) → map without_frame held ≡ map (held_of s log) ts
    → positions_of ts ≡ range_with_len a n → AreFrom a held
numbered_from s log a n [] ts same numbered = tt
numbered_from s log a n (h ∷ held) [] same numbered = absurd cc
numbered_from s log a zero (h ∷ held) (t ∷ ts) same numbered = absurd cc
numbered_from s log a (suc n) (h ∷ held) (t ∷ ts) same numbered = (
  ap first_of same ∙ ap first_number numbered,
  numbered_from s log (a + 1) n held ts (ap rest_of same) (ap rest_numbers numbered),
)
  where
    first_of : List HeldSector → ℕ
    first_of [] = 0
    first_of (x ∷ xs) = x.position

    first_number : List ℕ → ℕ
    first_number [] = 0
    first_number (x ∷ xs) = x

    rest_of : List HeldSector → List HeldSector
    rest_of [] = []
    rest_of (x ∷ xs) = xs

    rest_numbers : List ℕ → List ℕ
    rest_numbers [] = []
    rest_numbers (x ∷ xs) = xs

pub same_advance : (lands also reads others : ℕ → Bool) (v : HeldSectors) → ((q : ℕ) → lands q ≡ also q) → ((q : ℕ) → reads q ≡ others q)
    → advanced_window lands reads v ≡ advanced_window also others v
same_advance lands also reads others v first second = ap₂ (λ (f g : ℕ → Bool). advanced_window f g v) (fun_same lands also first) (fun_same reads others second)

-- ---- entries land

pub record IsIn (w : WindowView) : Type 0 where
  pub from : AreFrom w.freed w.entries

one_lands : (w : WindowView) (q : ℕ) → IsIn w → w.freed ≤ q → sectors_in (one_landed w q) ≡ advanced_window (λ x. x == q) (λ x. false) (sectors_in w)
one_lands w q is low = go (has_landed_at w q) refl
  where
    go : (b : Bool) → has_landed_at w q ≡ b
        → sectors_in (if b then w else turned w q progress.Landed) ≡ advanced_window (λ x. x == q) (λ x. false) (sectors_in w)
    go true e = step_again w q is.from e
    go false e = step_landed w q is.from low e

one_is_in : (w : WindowView) (q : ℕ) → IsIn w → IsIn (one_landed w q)
one_is_in w q is = go (has_landed_at w q)
  where
    go : (b : Bool) → IsIn (if b then w else turned w q progress.Landed)
    go true = is
    go false = record { from = turned_from w.entries w.freed (q - w.freed) progress.Landed is.from }

one_front : (w : WindowView) (q : ℕ) → ((one_landed w q).freed ≡ w.freed) × (length (one_landed w q).entries ≡ length w.entries)
one_front w q = go (has_landed_at w q)
  where
    go : (b : Bool) → ((if b then w else turned w q progress.Landed).freed ≡ w.freed)
        × (length (if b then w else turned w q progress.Landed).entries ≡ length w.entries)
    go true = (refl, refl)
    go false = (refl, turned_length w.entries (q - w.freed) progress.Landed)

pub land_all : (qs : List ℕ) (w : WindowView) → IsIn w → ((k q : ℕ) → slice_get qs k ≡ Some q → w.freed ≤ q)
    → sectors_in (all_landed w qs) ≡ advanced_window (λ q. list_any (λ m. m == q) qs) (λ q. false) (sectors_in w)
land_all [] w is low = sym (no_more (sectors_in w))
land_all (q ∷ qs) w is low =
    land_all qs (one_landed w q) (one_is_in w q is) (λ k x at. subst (λ n. n ≤ x) (sym (one_front w q).0) (low (suc k) x at))
    ∙ ap (advanced_window (λ x. list_any (λ m. m == x) qs) (λ x. false)) (one_lands w q is (low 0 q refl))
    ∙ lands_more (λ x. x == q) (λ x. list_any (λ m. m == x) qs) (sectors_in w)
    ∙ same_advance (λ x. (x == q) || list_any (λ m. m == x) qs) (λ x. list_any (λ m. m == x) (q ∷ qs)) (λ x. false) (λ x. false) (sectors_in w)
    (λ x. ap (λ b. b || list_any (λ m. m == x) qs) (turned_around x q)) (λ x. refl)

pub landed_in : (qs : List ℕ) (w : WindowView) → IsIn w → IsIn (all_landed w qs)
landed_in [] w is = is
landed_in (q ∷ qs) w is = landed_in qs (one_landed w q) (one_is_in w q is)

pub landed_front : (qs : List ℕ) (w : WindowView) → ((all_landed w qs).freed ≡ w.freed) × (length (all_landed w qs).entries ≡ length w.entries)
landed_front [] w = (refl, refl)
landed_front (q ∷ qs) w =
    let rest = landed_front qs (one_landed w q) in
    let one = one_front w q in
    (rest.0 ∙ one.0, rest.1 ∙ one.1)

-- ---- blocks become readable

-- the block that is read at a number of a chunk, where it bears a position
abbrev pub read_of : Shape → (ℕ → ℕ) → ℕ × Block → Option ReadBlock
read_of s address (n, b) = if is_some (named s b.mark) then Some (record { at = address n; mark = b.mark }) else None

abbrev pub CanBeRead : Shape → WindowView → List (ℕ × Block) → Type 0
CanBeRead s w xs = (k n : ℕ) (b : Block) → slice_get xs k ≡ Some (n, b) → is_some (named s b.mark) ≡ true
    → IsHeld w b.mark.position × (has_landed_at w b.mark.position ≡ true)

pub read_all : (s : Shape) (address : ℕ → ℕ) (bs : List Block) (n : ℕ) (w : WindowView) → IsIn w → CanBeRead s w (enumerate_from n bs)
    → sectors_in (all_readable w (filter_map (read_of s address) (enumerate_from n bs))) ≡ advanced_window (λ q. false) (λ q. list_any (bears_position s q) bs)
    (sectors_in w)
read_all s address [] n w is can = sym (no_more (sectors_in w))
read_all s address (b ∷ bs) n w is can = go (is_some (named s b.mark)) refl (λ v. read_all s address bs (n + 1) v)
  where
    named_by : (c : Bool) → List ReadBlock
    named_by c = cons_option (if c then Some (record { at = address n; mark = b.mark }) else None) (filter_map (read_of s address) (enumerate_from (n + 1) bs))

    go : (c : Bool) → is_some (named s b.mark) ≡ c
        → ((v : WindowView) → IsIn v → CanBeRead s v (enumerate_from (n + 1) bs)
        → sectors_in (all_readable v (filter_map (read_of s address) (enumerate_from (n + 1) bs))) ≡ advanced_window (λ q. false)
        (λ q. list_any (bears_position s q) bs) (sectors_in v))
        → sectors_in (all_readable w (cons_option (if is_some (named s b.mark) then Some (record { at = address n; mark = b.mark }) else None)
        (filter_map (read_of s address) (enumerate_from (n + 1) bs))))
        ≡ advanced_window (λ q. false) (λ q. list_any (bears_position s q) (b ∷ bs)) (sectors_in w)
    go true e rest =
        let here = can 0 n b refl e in
        let v : WindowView = turned w b.mark.position progress.Readable in
        let step : sectors_in (turned w b.mark.position progress.Readable) ≡ advanced_window (λ x. false) (λ x. x == b.mark.position) (sectors_in w) =
        step_readable w b.mark.position is.from here.0.0 here.1 in
        ap (λ c. sectors_in (all_readable w
        (cons_option (if c then Some (record { at = address n; mark = b.mark }) else None) (filter_map (read_of s address) (enumerate_from (n + 1) bs))))) e
        ∙ rest v (record { from = turned_from w.entries w.freed (b.mark.position - w.freed) progress.Readable is.from })
        (λ k m x at passes. let there =
        can (suc k) m x at passes in (held_stays w b.mark.position x.mark.position there.0, landed_stays w b.mark.position x.mark.position there.1))
        ∙ ap (advanced_window (λ q. false) (λ q. list_any (bears_position s q) bs)) step
        ∙ reads_more (λ q. false) (λ x. x == b.mark.position) (λ q. list_any (bears_position s q) bs) (sectors_in w)
        ∙ same_advance (λ q. false) (λ q. false) (λ q. (q == b.mark.position) || list_any (bears_position s q) bs) (λ q. list_any (bears_position s q) (b ∷ bs))
        (sectors_in w) (λ q. refl)
        (λ q. ap (λ c. c || list_any (bears_position s q) bs) (turned_around q b.mark.position ∙ ap (λ c. c && (b.mark.position == q)) (sym e)))
    go false e rest =
        ap (λ c. sectors_in (all_readable w
        (cons_option (if c then Some (record { at = address n; mark = b.mark }) else None) (filter_map (read_of s address) (enumerate_from (n + 1) bs))))) e
        ∙ rest w is (λ k m x at passes. can (suc k) m x at passes)
        ∙ same_advance (λ q. false) (λ q. false) (λ q. list_any (bears_position s q) bs) (λ q. list_any (bears_position s q) (b ∷ bs)) (sectors_in w)
        (λ q. refl)
        (λ q. ap (λ c. (c && (b.mark.position == q)) || list_any (bears_position s q) bs) (sym e))

-- ---- the list of what is read

pub reads_list : (h : ℕ → Option ReadBlock) (g : ℕ × Block → Option ReadBlock) (bs : List Block) (a : ℕ)
    → ((k : ℕ) (b : Block) → slice_get bs k ≡ Some b → h (a + k) ≡ g (a + k, b))
    → filter_map h (range_with_len a (length bs)) ≡ filter_map g (enumerate_from a bs)
reads_list h g [] a same = refl
reads_list h g (b ∷ bs) a same =
    let from : a + 0 ≡ a = omega arith in
    ap₂ (λ (o : Option ReadBlock) rs. cons_option o rs) (ap h (sym from) ∙ same 0 b refl ∙ ap (λ n. g (n, b)) from)
    (reads_list h g bs (a + 1) (λ k x at. let next : a + 1 + k ≡ a + suc k = omega arith in ap h next ∙ same (suc k) x at ∙ ap (λ n. g (n, x)) (sym next)))

pub part_get : {X : Type 0} (from to : ℕ) (xs : List X) (k : ℕ) (x : X) → slice_get (drop from (take to xs)) k ≡ Some x → slice_get xs (from + k) ≡ Some x
part_get from to xs k x at = taken_get to xs (from + k) x (dropped_get from (take to xs) k ∙ at)
  where
    dropped_get : {X : Type 0} (n : ℕ) (ys : List X) (k : ℕ) → slice_get ys (n + k) ≡ slice_get (drop n ys) k
    dropped_get zero ys k = let same : 0 + k ≡ k = omega arith in ap (slice_get ys) same
    dropped_get (suc n) [] k = let same : suc n + k ≡ suc (n + k) = omega arith in ap (slice_get []) same
    dropped_get {X} (suc n) (y ∷ ys) k = let same : suc n + k ≡ suc (n + k) = omega arith in ap (slice_get (y ∷ ys)) same ∙ dropped_get n ys k

    taken_get : {X : Type 0} (n : ℕ) (ys : List X) (k : ℕ) (y : X) → slice_get (take n ys) k ≡ Some y → slice_get ys k ≡ Some y
    taken_get zero ys k y e = absurd cc
    taken_get (suc n) [] k y e = absurd cc
    taken_get (suc n) (z ∷ ys) zero y e = e
    taken_get (suc n) (z ∷ ys) (suc k) y e = taken_get n ys k y e
