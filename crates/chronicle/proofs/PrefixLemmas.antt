-- Prefixes of logs, and the longer of two.
use Rattle.std.proofs.Common.{◌≡◌, ◌≢◌, ℕ, zero, suc, ◌<◌, ◌≤◌, nat_lt, if◌then◌else◌, Bool, true, false, List, [], ◌∷◌, ◌++◌, length, take, drop, refl, sym, ap, ◌∙◌, arith, length-append, take_all, take-take, get_or-set_same, get_or-set_other}
use Rattle.std.proofs.Math.Seq.{take-append_seam}
use mathlib.Core.List.{IsPrefix}
use base.Growing.{prefix_refl}
use Rattle.pblk_model.proofs.Parts.{take_and_drop}
use Rattle.pblk_model.proofs.Tests.{below_of, le_of_lt_false}
use Rattle.pblk_world.specs.Events.{Event, Logged}
use Rattle.pblk_world.specs.World.{known}
use Rattle.chronicle.specs.Prefixes.{Prefixes, logs_of, longer, longer_of, naming, with_event}

-- ---- prefixes

module _ {A : Type 0} where
  pub nothing_begins : (l : List A) → IsPrefix [] l
  nothing_begins l = (l, refl)

  pub begins_length : (p l : List A) → IsPrefix p l → length p ≤ length l
  begins_length p l h = omega (arith, length-append p h.0, ap length h.1)

  pub begins_take : (p l : List A) → IsPrefix p l → take (length p) l ≡ p
  begins_take p l h = ap (take (length p)) (sym h.1) ∙ take-append_seam p h.0

  pub begins_whole : (p l : List A) → IsPrefix p l → length l ≤ length p → p ≡ l
  begins_whole p l h long = sym (begins_take p l h) ∙ take_all (length p) l long

  -- of two prefixes of one list the one begins the other
  pub begins_other : (p q l : List A) → IsPrefix p l → IsPrefix q l → length p ≤ length q → IsPrefix p q
  begins_other p q l h k le =
      let same : take (length p) q ≡ p =
      ap (take (length p)) (sym (begins_take q l k)) ∙ take-take (length p) (length q) l le ∙ begins_take p l h in
      (drop (length p) q, ap (λ xs. xs ++ drop (length p) q) (sym same) ∙ take_and_drop (length p) q)

-- ---- the longer of two

pub by_longer : (P : List Logged → Type 0) (xs ys : List Logged) → (length ys ≤ length xs → P xs) → (length xs < length ys → P ys) → P (longer xs ys)
by_longer P xs ys left right = go (nat_lt (length xs) (length ys)) refl
  where
    go : (b : Bool) → nat_lt (length xs) (length ys) ≡ b → P (if b then ys else xs)
    go true e = right (below_of (length xs) (length ys) e)
    go false e = left (le_of_lt_false (length xs) (length ys) e)

pub longer_left : (xs ys : List Logged) → IsPrefix ys xs → longer xs ys ≡ xs
longer_left xs ys h = by_longer (λ l. l ≡ xs) xs ys (λ _. refl) (λ lt. absurd (let le = begins_length ys xs h in omega arith))

pub longer_right : (xs ys : List Logged) → IsPrefix xs ys → longer xs ys ≡ ys
longer_right xs ys h = by_longer (λ l. l ≡ ys) xs ys (λ le. begins_whole xs ys h le) (λ _. refl)

pub longer_begins : (xs ys l : List Logged) → IsPrefix xs l → IsPrefix ys l → IsPrefix (longer xs ys) l
longer_begins xs ys l h k = by_longer (λ z. IsPrefix z l) xs ys (λ _. h) (λ _. k)

pub begins_longer : (xs ys l : List Logged) → IsPrefix xs l → IsPrefix ys l → IsPrefix xs (longer xs ys) × IsPrefix ys (longer xs ys)
begins_longer xs ys l h k = by_longer (λ z. IsPrefix xs z × IsPrefix ys z) xs ys
    (λ le. (prefix_refl xs, begins_other ys xs l k h le))
    (λ lt. (begins_other xs ys l h k (omega arith), prefix_refl ys))

pub longer_length : (xs ys : List Logged) → (length xs ≤ length (longer xs ys)) × (length ys ≤ length (longer xs ys))
longer_length xs ys = by_longer (λ z. (length xs ≤ length z) × (length ys ≤ length z)) xs ys
    (λ le. (omega arith, le)) (λ lt. (omega arith, omega arith))

-- ---- of all logs

pub longer_at : (xss yss : Prefixes) (author : ℕ) → logs_of (longer_of xss yss) author ≡ longer (logs_of xss author) (logs_of yss author)
longer_at [] yss author = sym (longer_right [] (logs_of yss author) (nothing_begins (logs_of yss author)))
longer_at (xs ∷ xss) [] author = sym (longer_left (logs_of (xs ∷ xss) author) [] (nothing_begins (logs_of (xs ∷ xss) author)))
longer_at (xs ∷ xss) (ys ∷ yss) zero = refl
longer_at (xs ∷ xss) (ys ∷ yss) (suc author) = longer_at xss yss author

pub longer_count : (xss yss : Prefixes) → length xss ≡ length yss → length (longer_of xss yss) ≡ length xss
longer_count [] [] same = refl
longer_count [] (ys ∷ yss) same = absurd (omega arith)
longer_count (xs ∷ xss) [] same = refl
longer_count (xs ∷ xss) (ys ∷ yss) same = ap suc (longer_count xss yss (omega arith))

pub longer_some : (xss yss : Prefixes) → 0 < length xss → 0 < length (longer_of xss yss)
longer_some [] yss some = absurd (omega arith)
longer_some (xs ∷ xss) [] some = some
longer_some (xs ∷ xss) (ys ∷ yss) some = omega arith

-- ---- an event more

-- the event names all that is known
pub named_length : (logs : Prefixes) (e : Event) (author : ℕ) → known (naming logs e) author ≡ length (logs_of logs author)
named_length [] e author = refl
named_length (xs ∷ xss) e zero = refl
named_length (xs ∷ xss) e (suc author) = named_length xss e author

pub own_more : (logs : Prefixes) (author : ℕ) (e : Event) → author < length logs
    → logs_of (with_event logs author e) author ≡ logs_of logs author ++ naming logs e ∷ []
own_more logs author e within = get_or-set_same logs author (logs_of logs author ++ naming logs e ∷ []) [] within

pub others_same : (logs : Prefixes) (author : ℕ) (e : Event) (other : ℕ) → other ≢ author
    → logs_of (with_event logs author e) other ≡ logs_of logs other
others_same logs author e other apart = get_or-set_other logs author other (logs_of logs author ++ naming logs e ∷ []) [] apart
