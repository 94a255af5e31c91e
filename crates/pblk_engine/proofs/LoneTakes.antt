-- What a log takes beyond a prefix of it, by how many entries it has taken: nothing, or one.
use Rattle.std.proofs.Common.{◌≡◌, ◌≢◌, ◌⊎◌, inl, inr, ℕ, zero, suc, ◌+◌, ◌-◌, ◌<◌, ◌≤◌, Option, Some, true, nat_lt, if◌then◌else◌, List, [], ◌∷◌, ◌++◌, length, length-append, refl, sym, ap, ◌∙◌, arith}
use Rattle.std.specs.Prelude.{slice_get}
use Rattle.std.proofs.lemmas.Bool.{cases_lt}
use Rattle.std.proofs.lemmas.Option.{none-some, same_Some}
use Rattle.pblk_model.specs.declared.chunk.Mark.{Mark}
use Rattle.pblk_model.specs.RingState.{between, covers}
use Rattle.pblk_model.proofs.Parts.{get_right}
use Rattle.pblk_model.proofs.Tests.{lt_true}
use Rattle.pblk_world.specs.EngineLog.{Taken, taken_by, takes}
use Rattle.pblk_world.specs.Events.{Decides, Does, Entry, Event, Logged, Take, Begin, Open, Place, Landed, Lost, Again, ResetDone, Free}
use Rattle.pblk_world.specs.Fronts.{first_position, taken}
use Rattle.world_laws.proofs.Later.{takes_joined}
use Rattle.write_ring.specs.Handles.{AreAllClaims}
use Rattle.write_ring.specs.declared.view.Part.{Part}
use Rattle.write_ring.proofs.ClaimLists.{covers_both, inside, none_above}
use Rattle.pblk_engine.specs.Alone.{TakesNothing}

-- ---- in a list of events

abbrev take_of : List ℕ → Entry → Mark → Logged
take_of knows entry mark = record { event = Decides (Take entry mark); knows = knows }

-- the entry that an event takes is one more than those after it take
taken_first : (l : Logged) (more : List Logged) → takes (l ∷ more) ≡ takes (l ∷ []) ++ takes more
taken_first l more = takes_joined (l ∷ []) more

-- where no entry is taken, no event takes one
none_in : (log : List Logged) (k : ℕ) (knows : List ℕ) (entry : Entry) (mark : Mark) → length (takes log) ≡ 0
    → slice_get log k ≢ Some (take_of knows entry mark)
none_in [] k knows entry mark none there = absurd cc
none_in (l ∷ log) zero knows entry mark none there =
    let same : l ≡ take_of knows entry mark = same_Some l (take_of knows entry mark) there in
    let one : length (takes (take_of knows entry mark ∷ [])) ≡ 1 = refl in
    let both : length (takes (l ∷ log)) ≡ length (takes (l ∷ [])) + length (takes log) =
    ap (λ (ts : List Taken). length ts) (taken_first l log) ∙ length-append (takes (l ∷ [])) (takes log) in
    let first : length (takes (l ∷ [])) ≡ 1 = ap (λ (x : Logged). length (takes (x ∷ []))) same ∙ one in
    omega (arith, none, both, first)
none_in (l ∷ log) (suc k) knows entry mark none there =
    none_in log k knows entry mark
    (let both : length (takes (l ∷ log)) ≡ length (takes (l ∷ [])) + length (takes log) =
    ap (λ (ts : List Taken). length ts) (taken_first l log) ∙ length-append (takes (l ∷ [])) (takes log) in
    omega (arith, none, both)) there

-- one event takes an entry, and no other does
pub record IsOnlyTake (log : List Logged) (k : ℕ) (t : Taken) : Type 0 where
  pub knows : List ℕ
  pub there : slice_get log k ≡ Some (take_of knows t.entry t.mark)
  pub all : takes log ≡ t ∷ []
  pub only : (j : ℕ) (its : List ℕ) (entry : Entry) (mark : Mark) → slice_get log j ≡ Some (take_of its entry mark) → j ≡ k

-- by what the first event is
takes_or_not : (l : Logged) → (takes (l ∷ []) ≡ []) ⊎ ((t : Taken) × (l ≡ take_of l.knows t.entry t.mark) × (takes (l ∷ []) ≡ t ∷ []))
takes_or_not l = go l.event refl
  where
    go : (e : Event) → l.event ≡ e → (takes (l ∷ []) ≡ []) ⊎ ((t : Taken) × (l ≡ take_of l.knows t.entry t.mark) × (takes (l ∷ []) ≡ t ∷ []))
    go (Decides (Take entry mark)) is = inr (
      record { entry = entry; mark = mark },
      ap (λ e. record { event = e; knows = l.knows }) is,
      ap (λ e. takes (record { event = e; knows = l.knows } ∷ [])) is,
    )
    go (Decides (Begin b)) is = inl (ap (λ e. takes (record { event = e; knows = l.knows } ∷ [])) is)
    go (Decides (Open line start)) is = inl (ap (λ e. takes (record { event = e; knows = l.knows } ∷ [])) is)
    go (Decides (Place stripe)) is = inl (ap (λ e. takes (record { event = e; knows = l.knows } ∷ [])) is)
    go (Decides (Landed unit event)) is = inl (ap (λ e. takes (record { event = e; knows = l.knows } ∷ [])) is)
    go (Decides (Lost unit event)) is = inl (ap (λ e. takes (record { event = e; knows = l.knows } ∷ [])) is)
    go (Decides (Again unit event)) is = inl (ap (λ e. takes (record { event = e; knows = l.knows } ∷ [])) is)
    go (Decides (ResetDone unit event)) is = inl (ap (λ e. takes (record { event = e; knows = l.knows } ∷ [])) is)
    go (Decides (Free line)) is = inl (ap (λ e. takes (record { event = e; knows = l.knows } ∷ [])) is)
    go (Does e maker) is = inl (ap (λ e. takes (record { event = e; knows = l.knows } ∷ [])) is)

-- an event of which it's told what it takes
pub taken_event : (l : Logged) (t : Taken) → taken_by l.event ≡ Some t → l.event ≡ Decides (Take t.entry t.mark)
taken_event l t is = go l.event refl is
  where
    go : (d : Event) → l.event ≡ d → taken_by d ≡ Some t → l.event ≡ Decides (Take t.entry t.mark)
    go (Decides (Take entry mark)) same at = same ∙ ap (λ (u : Taken). Decides (Take u.entry u.mark)) (same_Some (record { entry = entry; mark = mark }) t at)
    go d same at = absurd cc

empty_is : (ts : List Taken) → length ts ≡ 0 → ts ≡ []
empty_is [] e = refl
empty_is (t ∷ ts) e = absurd (omega arith)

-- where one entry is taken, one event takes it
one_in : (log : List Logged) → length (takes log) ≡ 1 → (k : ℕ) × (t : Taken) × IsOnlyTake log k t
one_in [] one = absurd (omega arith)
one_in (l ∷ log) one = go (takes_or_not l) (λ rest. one_in log rest)
  where
    both : length (takes (l ∷ log)) ≡ length (takes (l ∷ [])) + length (takes log)
    both = ap (λ (ts : List Taken). length ts) (taken_first l log) ∙ length-append (takes (l ∷ [])) (takes log)

    only_later : (k : ℕ) (t : Taken) → IsOnlyTake log k t → takes (l ∷ []) ≡ [] → (j : ℕ) (its : List ℕ) (entry : Entry) (mark : Mark)
        → slice_get (l ∷ log) j ≡ Some (take_of its entry mark) → j ≡ suc k
    only_later k t is none zero its entry mark there =
        absurd (none_in (l ∷ []) zero its entry mark (ap (λ (ts : List Taken). length ts) none) there)
    only_later k t is none (suc j) its entry mark there = ap suc (is.only j its entry mark there)

    only_first : length (takes log) ≡ 0 → (j : ℕ) (its : List ℕ) (entry : Entry) (mark : Mark)
        → slice_get (l ∷ log) j ≡ Some (take_of its entry mark) → j ≡ 0
    only_first rest zero its entry mark there = refl
    only_first rest (suc j) its entry mark there = absurd (none_in log j its entry mark rest there)

    go : ((takes (l ∷ []) ≡ []) ⊎ ((t : Taken) × (l ≡ take_of l.knows t.entry t.mark) × (takes (l ∷ []) ≡ t ∷ [])))
        → (length (takes log) ≡ 1 → (k : ℕ) × (t : Taken) × IsOnlyTake log k t) → (k : ℕ) × (t : Taken) × IsOnlyTake (l ∷ log) k t
    go (inl none) later =
        let first : length (takes (l ∷ [])) ≡ 0 = ap (λ (ts : List Taken). length ts) none in
        let rest = later (let sum = both in omega (arith, one, sum, first)) in (
          suc rest.0,
          rest.1,
          record {
            knows = rest.2.knows;
            there = rest.2.there;
            all = taken_first l log ∙ ap (λ (ts : List Taken). ts ++ takes log) none ∙ rest.2.all;
            only = only_later rest.0 rest.1 rest.2 none;
          },
        )
    go (inr some) later =
        let first : length (takes (l ∷ [])) ≡ 1 = ap (λ (ts : List Taken). length ts) some.2 in
        let rest : length (takes log) ≡ 0 = let sum = both in omega (arith, one, sum, first) in (
          0,
          some.0,
          record {
            knows = l.knows;
            there = ap (λ x. Some x) some.1;
            all = taken_first l log ∙ ap (λ (ts : List Taken). ts ++ takes log) some.2 ∙ ap (λ (ts : List Taken). some.0 ∷ ts) (empty_is (takes log) rest);
            only = only_first rest;
          },
        )

-- ---- beyond a prefix

-- what stands behind the first list stands in the second
pub behind : {X : Type 0} (early more : List X) (k : ℕ) (o : Option X) → length early ≤ k → slice_get (early ++ more) k ≡ o
    → slice_get more (k - length early) ≡ o
behind early more k o from there =
    let same : length early + (k - length early) ≡ k = omega arith in
    sym (get_right early more (k - length early)) ∙ ap (slice_get (early ++ more)) same ∙ there

-- the last of a list
pub last_is : {X : Type 0} (early : List X) (x y : X) (k : ℕ) → length early ≤ k → slice_get (early ++ x ∷ []) k ≡ Some y → x ≡ y
last_is early x y k from there = go (k - length early) (behind early (x ∷ []) k (Some y) from there)
  where
    go : (n : ℕ) → slice_get (x ∷ []) n ≡ Some y → x ≡ y
    go zero at = same_Some x y at
    go (suc n) at = absurd (none-some y at)

module _ (early more : List Logged) (some : 0 < length early) where
  first_same : (l : List Logged) → 0 < length l → first_position (l ++ more) ≡ first_position l
  first_same [] h = absurd (omega arith)
  first_same (x ∷ l) h = refl

  counted : taken (early ++ more) ≡ taken early + length (takes more)
  counted =
      let first : first_position (early ++ more) ≡ first_position early = first_same early some in
      let count : length (takes (early ++ more)) ≡ length (takes early) + length (takes more) =
      ap (λ (ts : List Taken). length ts) (takes_joined early more) ∙ length-append (takes early) (takes more) in
      omega (arith, first, count)

  pub takes_nothing : taken (early ++ more) ≡ taken early → TakesNothing (length early) (early ++ more)
  takes_nothing same = record {
    each = λ k knows entry mark from there.
        none_in more (k - length early) knows entry mark (let n = counted in omega (arith, same, n)) (behind early more k _ from there);
  }

  -- one entry was taken more, by one event
  pub takes_one : taken (early ++ more) ≡ taken early + 1 → (k : ℕ) × (t : Taken) × IsOnlyTake more k t
  takes_one next = one_in more (let n = counted in omega (arith, next, n))

-- ---- claims

-- by one claim more of one position, at or beyond the end of all that was claimed
claim_numbers : (first n m f : ℕ) → first ≤ n → first ≤ m → n ≤ f → ((x : ℕ) → between first m x ≡ between first n x + between f (f + 1) x)
    → (f ≡ n) × (m ≡ n + 1)
claim_numbers first n m f low low_too past sum = (here, end)
  where
    above : f < m
    above = go (cases_lt f m)
      where
        go : (f < m) ⊎ (m ≤ f) → f < m
        go (inl is) = is
        go (inr high) =
            let at = sum f in
            let now_ = none_above f first m high in
            let then_ = none_above f first n past in
            let one = inside f f (f + 1) (omega arith) (omega arith) in
            omega (arith, at, now_, then_, one)

    here : f ≡ n
    here = go (cases_lt n f)
      where
        go : (n < f) ⊎ (f ≤ n) → f ≡ n
        go (inl below) =
            let at = sum n in
            let inner = above in
            let now_ = inside n first m low (omega arith) in
            let then_ = none_above n first n (omega arith) in
            let none : between f (f + 1) n ≡ 0 = ap (λ b. if b then 0 else (if nat_lt n (f + 1) then 1 else 0)) (lt_true n f below) in
            omega (arith, at, now_, then_, none)
        go (inr high) = omega arith

    end : m ≡ n + 1
    end = go (cases_lt (n + 1) m)
      where
        go : (n + 1 < m) ⊎ (m ≤ n + 1) → m ≡ n + 1
        go (inl more) =
            let at = sum (n + 1) in
            let same = here in
            let now_ = inside (n + 1) first m (omega arith) more in
            let then_ = none_above (n + 1) first n (omega arith) in
            let none = none_above (n + 1) f (f + 1) (omega arith) in
            omega (arith, at, now_, then_, none)
        go (inr few) = let same = here in let inner = above in omega arith

pub claims_more : (first n m f : ℕ) (pass c d : Part) → first ≤ n → first ≤ m → n ≤ f → d.claims ≡ c.claims ++ record { first = f; count = 1; copy = true } ∷ []
    → AreAllClaims first n pass c → AreAllClaims first m pass d → (f ≡ n) × (m ≡ n + 1)
claims_more first n m f pass c d low low_too past more then_ now_ = claim_numbers first n m f low low_too past (λ x.
    let before : covers x pass.claims + covers x c.claims ≡ between first n x = then_ x in
    let after : covers x pass.claims + covers x d.claims ≡ between first m x = now_ x in
    let both : covers x d.claims ≡ covers x c.claims + covers x (record { first = f; count = 1; copy = true } ∷ []) =
    ap (covers x) more ∙ covers_both x c.claims (record { first = f; count = 1; copy = true } ∷ []) in
    let one : covers x (record { first = f; count = 1; copy = true } ∷ []) ≡ between f (f + 1) x + 0 = refl in
    omega (arith, before, after, both, one))

-- by the same claims the same positions are claimed
same_numbers : (first n m : ℕ) → first ≤ n → first ≤ m → ((x : ℕ) → between first m x ≡ between first n x) → m ≡ n
same_numbers first n m low low_too same = go (cases_lt n m) (cases_lt m n)
  where
    go : ((n < m) ⊎ (m ≤ n)) → ((m < n) ⊎ (n ≤ m)) → m ≡ n
    go (inl more) other =
        let at = same n in
        let now_ = inside n first m low more in
        let then_ = none_above n first n (omega arith) in
        omega (arith, at, now_, then_)
    go (inr few) (inl less) =
        let at = same m in
        let now_ = none_above m first m (omega arith) in
        let then_ = inside m first n low_too less in
        omega (arith, at, now_, then_)
    go (inr few) (inr many) = omega arith

pub claims_same : (first n m : ℕ) (pass c d : Part) → first ≤ n → first ≤ m → d.claims ≡ c.claims → AreAllClaims first n pass c → AreAllClaims first m pass d
    → m ≡ n
claims_same first n m pass c d low low_too same then_ now_ = same_numbers first n m low low_too (λ x.
    let before : covers x pass.claims + covers x c.claims ≡ between first n x = then_ x in
    let after : covers x pass.claims + covers x d.claims ≡ between first m x = now_ x in
    let both : covers x d.claims ≡ covers x c.claims = ap (covers x) same in
    omega (arith, before, after, both))
