-- What the window has at a position, and its synced front.
use Rattle.std.proofs.Common.{◌≡◌, ℕ, zero, suc, ◌+◌, ◌-◌, ◌<◌, ◌≤◌, Bool, true, false, cond, None, List, [], ◌∷◌, ◌++◌, length, get_or, slice_get, refl, ap, ◌∙◌, arith}
use Rattle.std.proofs.lemmas.Option.{slice_get_read}
use Rattle.std.specs.Option.{option_map_or}
use Rattle.std.specs.Prelude.{Option}
use Rattle.pblk_model.specs.declared.run.Front.{Front}
use Rattle.write_window.specs.declared.held.Progress.{Progress}
use Rattle.write_window.specs.declared.held.Progress.TheVariants.{Waiting, Landed, Readable}
use Rattle.write_window.specs.declared.held.Held.{Held}
use Rattle.write_window.specs.Entries.{has_landed, is_readable, user_count, users_in, landed_first, with_progress}
use Rattle.write_window.specs.Window.{WindowView, IsHeld, held_at, has_landed_at, synced}
use Rattle.write_window.proofs.Runs.{first_landed, first_waits, same_run, run_of_more}
use Rattle.pblk_model.proofs.Tests.{not_before}

pub element : (xs : List Held) (k : ℕ) → k < length xs → (h : Held) × (h ≡ get_or xs k h)
element [] k inside = absurd (omega arith)
element (x ∷ xs) zero inside = (x, refl)
element (x ∷ xs) (suc k) inside = element xs k (omega arith)

pub held_is : (w : WindowView) (position : ℕ) → IsHeld w position → held_at w position ≡ slice_get w.entries (position - w.freed)
held_is w position held = ap (λ b. cond b None (slice_get w.entries (position - w.freed))) (not_before position w.freed held.0)

pub index_inside : (w : WindowView) (position : ℕ) → IsHeld w position → position - w.freed < length w.entries
index_inside w position held = omega (arith, held.0, held.1)

pub landed_is : (w : WindowView) (position : ℕ) (h : Held) → IsHeld w position → h ≡ get_or w.entries (position - w.freed) h
    → has_landed_at w position ≡ has_landed h.progress
landed_is w position h held is = ap (λ (o : Option Held). option_map_or (λ (x : Held). has_landed x.progress) o false)
    (held_is w position held ∙ slice_get_read w.entries (length w.entries) (position - w.freed) h refl (index_inside w position held) is)

pub readable_landed : (p : Progress) → is_readable p ≡ true → has_landed p ≡ true
readable_landed Waiting e = (cc)
readable_landed Landed e = refl
readable_landed Readable e = refl

abbrev front_of : ℕ → ℕ → Front
front_of users position = record { users = users; position = position }

same_front : (a b c d : ℕ) → a ≡ c → b ≡ d → front_of a b ≡ front_of c d
same_front a b c d e f = ap (λ n. front_of n b) e ∙ ap (λ n. front_of c n) f

pub synced_popped : (size f u n : ℕ) (h : Held) (hs : List Held) → has_landed h.progress ≡ true → n ≡ user_count h.entry.class
    → synced (record { size = size; freed = f + 1; users = u + n; entries = hs }) ≡ synced (record { size = size; freed = f; users = u; entries = h ∷ hs })
synced_popped size f u n h hs e count =
    let run : landed_first (h ∷ hs) ≡ h ∷ landed_first hs = first_landed h hs e in
    same_front (u + n + users_in (landed_first hs)) (f + 1 + length (landed_first hs)) (u + users_in (landed_first (h ∷ hs)))
    (f + length (landed_first (h ∷ hs))) (omega (arith, ap users_in run, count)) (omega (arith, ap length run))

pub synced_turned : (w : WindowView) (k : ℕ) (h : Held) (to : Progress) → k < length w.entries → h ≡ get_or w.entries k h → has_landed h.progress ≡ true
    → has_landed to ≡ true
    → synced (record w { entries = with_progress w.entries k to }) ≡ synced w
synced_turned w k h to inside is e to_lands =
    let same = same_run w.entries k h to inside is e to_lands in
    same_front _ _ _ _ (ap (λ n. w.users + n) same.1) (ap (λ n. w.freed + n) same.0)

pub synced_pushed : (w : WindowView) (h : Held) → has_landed h.progress ≡ false → synced (record w { entries = w.entries ++ h ∷ [] }) ≡ synced w
synced_pushed w h waits = ap (λ (run : List Held). front_of (w.users + users_in run) (w.freed + length run)) (run_of_more w.entries h waits)

-- below the synced front all have landed, and at it none has
abbrev landed_at : List Held → ℕ → Bool
landed_at xs k = option_map_or (λ (h : Held). has_landed h.progress) (slice_get xs k) false

below_by : (b : Bool) (x : Held) (xs : List Held) → has_landed x.progress ≡ b → ((k : ℕ) → k < length (landed_first xs) → landed_at xs k ≡ true)
    → (k : ℕ) → k < length (landed_first (x ∷ xs)) → landed_at (x ∷ xs) k ≡ true
below_by true x xs e rest zero inside = e
below_by true x xs e rest (suc k) inside = rest k (omega (arith, ap length (first_landed x xs e)))
below_by false x xs e rest k inside = absurd (omega (arith, ap length (first_waits x xs e)))

below_run : (xs : List Held) (k : ℕ) → k < length (landed_first xs) → landed_at xs k ≡ true
below_run [] k inside = absurd (omega arith)
below_run (x ∷ xs) k inside = below_by (has_landed x.progress) x xs refl (below_run xs) k inside

end_by : (b : Bool) (x : Held) (xs : List Held) → has_landed x.progress ≡ b → landed_at xs (length (landed_first xs)) ≡ false
    → landed_at (x ∷ xs) (length (landed_first (x ∷ xs))) ≡ false
end_by true x xs e rest = ap (λ (ys : List Held). landed_at (x ∷ xs) (length ys)) (first_landed x xs e) ∙ rest
end_by false x xs e rest = ap (λ (ys : List Held). landed_at (x ∷ xs) (length ys)) (first_waits x xs e) ∙ e

end_of_run : (xs : List Held) → landed_at xs (length (landed_first xs)) ≡ false
end_of_run [] = refl
end_of_run (x ∷ xs) = end_by (has_landed x.progress) x xs refl (end_of_run xs)

-- what is looked up from the first position on
from_first : (w : WindowView) (position : ℕ) → w.freed ≤ position → has_landed_at w position ≡ landed_at w.entries (position - w.freed)
from_first w position after = ap
    (λ (b : Bool). option_map_or (λ (h : Held). has_landed h.progress) (cond b None (slice_get w.entries (position - w.freed))) false)
    (not_before position w.freed after)

pub synced_below : (w : WindowView) (position : ℕ) → w.freed ≤ position → position < w.freed + length (landed_first w.entries) → has_landed_at w position ≡ true
synced_below w position after below = from_first w position after ∙ below_run w.entries (position - w.freed) (omega arith)

pub synced_at : (w : WindowView) (position : ℕ) → position ≡ w.freed + length (landed_first w.entries) → has_landed_at w position ≡ false
synced_at w position is =
    let place : position - w.freed ≡ length (landed_first w.entries) = omega arith in
    from_first w position (omega arith) ∙ ap (λ k. landed_at w.entries k) place ∙ end_of_run w.entries
