-- Faults whose numbers fall: which one a command has, and what the last one says of the rest.
use Rattle.std.proofs.Common.{◌≡◌, ℕ, zero, suc, ◌-◌, ◌<◌, ◌≢◌, List, [], ◌∷◌, length, take, Some, None, slice_get, refl, sym, subst, arith}
use Rattle.std.specs.List.{AllByRecursion}
use Rattle.std.proofs.lemmas.Bool.Decides.{nat_tests}
use Rattle.std.proofs.lemmas.Option.{slice_get_within}
use Rattle.ocssd_drive.specs.declared.tally.Fall.{Fall}
use Rattle.ocssd_drive.specs.Tally.{cut_of, IsFalling}
use Rattle.pblk_model.proofs.Parts.{all_get, all_taken}

-- no fault falls on a command that isn't among their numbers
pub cut_of-absent : (falls : List Fall) (n : ℕ) → AllByRecursion (λ (f : Fall). f.nth ≢ n) falls → cut_of falls n ≡ None
cut_of-absent [] n absent = refl
cut_of-absent (f ∷ falls) n absent = grind (arith, nat_tests, absent.0, cut_of-absent falls n absent.1)

-- each fault falls on the command with its number
pub cut_of-at : (falls : List Fall) (i n : ℕ) (fall : Fall) → IsFalling falls → slice_get falls i ≡ Some fall → fall.nth ≡ n → cut_of falls n ≡ Some fall.cut
cut_of-at [] i n fall falling at is = absurd (cc)
cut_of-at (f ∷ falls) zero n fall falling at is =
    let first : f ≡ fall = cc in
    let same : f.nth ≡ n = cc in
    let cut : f.cut ≡ fall.cut = cc in
    grind (arith, nat_tests)
cut_of-at (f ∷ falls) (suc i) n fall falling at is =
    let below : fall.nth < f.nth = all_get (λ (g : Fall). g.nth < f.nth) falls i fall falling.2 at in
    let rest = cut_of-at falls i n fall falling.3 at is in
    grind (arith, nat_tests)

pub IsFalling-take : (n : ℕ) (falls : List Fall) → IsFalling falls → IsFalling (take n falls)
IsFalling-take zero falls falling = tt
IsFalling-take (suc n) [] falling = tt
IsFalling-take (suc n) (f ∷ falls) falling = (falling.0, falling.1, all_taken _ n falls falling.2, IsFalling-take n falls falling.3)

-- those before a fault fall later
pub before_later : (falls : List Fall) (i : ℕ) (fall : Fall) → IsFalling falls → slice_get falls i ≡ Some fall → AllByRecursion (λ (f : Fall). fall.nth < f.nth) (take i falls)
before_later falls zero fall falling at = tt
before_later [] (suc i) fall falling at = tt
before_later (f ∷ falls) (suc i) fall falling at = (all_get (λ (g : Fall). g.nth < f.nth) falls i fall falling.2 at, before_later falls i fall falling.3 at)

-- the fault at the last place
pub record IsLast (falls : List Fall) (i : ℕ) (fall : Fall) : Type 0 where
  pub ends : suc i ≡ length falls
  pub at : slice_get falls i ≡ Some fall

pub last_from_read : (falls : List Fall) (n : ℕ) (fall : Fall) → n ≡ length falls → Some fall ≡ slice_get falls (length falls - 1) → IsLast falls (n - 1) fall
last_from_read falls n fall is read =
    let within : length falls - 1 < length falls = slice_get_within falls (length falls - 1) fall (sym read) in
    record { ends = omega arith; at = rw is (sym read) }

last_tail : (f : Fall) (falls : List Fall) (i : ℕ) (fall : Fall) → IsLast (f ∷ falls) (suc i) fall → IsLast falls i fall
last_tail f falls i fall last = record { ends = omega (arith, last.ends); at = last.at }

-- where the last fault is later than a command, all are
pub all_after : (falls : List Fall) (i n : ℕ) (fall : Fall) → IsFalling falls → IsLast falls i fall → n < fall.nth → AllByRecursion (λ (f : Fall). n < f.nth) falls
all_after [] i n fall falling last later = tt
all_after (f ∷ []) zero n fall falling last later = let first : fall ≡ f = cc (sym last.at) in (subst (λ (g : Fall). n < g.nth) first later, tt)
all_after (f ∷ g ∷ falls) zero n fall falling last later = absurd (omega (arith, last.ends))
all_after (f ∷ falls) (suc i) n fall falling last later =
    let below : fall.nth < f.nth = all_get (λ (g : Fall). g.nth < f.nth) falls i fall falling.2 last.at in
    (omega arith, all_after falls i n fall falling.3 (last_tail f falls i fall last) later)

-- without the last, each command but its own has what it had
pub cut_of-front : (falls : List Fall) (i m : ℕ) (fall : Fall) → IsLast falls i fall → fall.nth ≢ m → cut_of (take i falls) m ≡ cut_of falls m
cut_of-front [] i m fall last other = absurd (cc (sym last.at))
cut_of-front (f ∷ []) zero m fall last other =
    let first : fall ≡ f = cc (sym last.at) in
    let differs : f.nth ≢ m = subst (λ (g : Fall). g.nth ≢ m) first other in
    grind (arith, nat_tests)
cut_of-front (f ∷ g ∷ falls) zero m fall last other = absurd (omega (arith, last.ends))
cut_of-front (f ∷ falls) (suc i) m fall last other = let rest = cut_of-front falls i m fall (last_tail f falls i fall last) other in rw rest refl
