-- What the engine has named of a unit's events: each once, and of programs the k-th that ended as
-- the answer to the k-th stripe placed there.
use Rattle.std.proofs.Common.{◌≡◌, ℕ, ◌+◌, ◌<◌, ◌≤◌, ◌⊎◌, inl, inr, ◌==◌, suc, zero, nat_lt, nat_eq, not, Bool, true, false, cond, Some, None, Option, List, [], ◌∷◌, length, take, refl, sym, subst, ap, ap₂, ◌∙◌, arith, if◌then◌else◌, length-append}
use Rattle.std.specs.Prelude.{slice_get, is_some}
use Rattle.std.specs.List.{Contains, filter, filter_map, cons_option}
use Rattle.std.specs.Option.{option_map_or}
use Rattle.std.proofs.lemmas.Bool.{cases_lt, cases_order, eqb-true}
use Rattle.std.proofs.lemmas.List.{take-take}
use Rattle.std.proofs.lemmas.List.Elements.{filter-append}
use Rattle.std.proofs.lemmas.Option.{none-some, same_Some}
use Rattle.pblk_model.specs.UnitLog.{UnitEvent}
use Rattle.pblk_model.specs.Image.{Image}
use Rattle.pblk_world.specs.Events.{Event, Decides, Landed, Lost, Again, ResetDone, Logged}
use Rattle.pblk_world.specs.World.{World, log_of, known, knows_engine, prefixes, unit_event_of}
use Rattle.pblk_world.specs.EngineLog.{Answer, DidLand, WasLost, answer_by, answers, is_answered, named_by, named_events, Placed, placed_on, turn}
use Rattle.pblk_world.specs.Commanding.{is_program, was_stopped, ends_program, ends_stripe, ended_stripes}
use Rattle.pblk_world.specs.Answering.{IsNew, IsOfStripe, MayLand, MayLose}
use Rattle.pblk_world.specs.Legal.{IsLegal}
use Rattle.pblk_model.proofs.Maps.{fewer_taken, given_at}
use Rattle.pblk_model.proofs.Options.{some_value}
use Rattle.pblk_model.proofs.Parts.{contained_among, get_taken, get_whole_within, take_next}
use Rattle.pblk_model.proofs.Tests.{and_both, lt_true}
use Rattle.world_laws.proofs.NextLives.{IsDecided, decided}
use Rattle.world_laws.proofs.UnitTurns.{unit_is, turn_is}

-- ---- where an element that was made comes from

pub record IsFrom {X Y : Type 0} (f : X → Option Y) (xs : List X) (j : ℕ) (y : Y) : Type 0 where
  pub at : ℕ
  pub from : X
  pub there : slice_get xs at ≡ Some from
  pub gives : f from ≡ Some y
  pub count : length (filter_map f (take at xs)) ≡ j

pub source : {X Y : Type 0} (f : X → Option Y) (xs : List X) (j : ℕ) (y : Y) → slice_get (filter_map f xs) j ≡ Some y → IsFrom f xs j y
source f [] j y e = absurd (none-some y e)
source {X} {Y} f (x ∷ xs) j y e = go (f x) refl j e (λ k h. source f xs k y h)
  where
    go : (o : Option Y) → f x ≡ o → (j : ℕ) → slice_get (cons_option o (filter_map f xs)) j ≡ Some y
        → ((k : ℕ) → slice_get (filter_map f xs) k ≡ Some y → IsFrom f xs k y) → IsFrom f (x ∷ xs) j y
    go None is j e later =
        let rest : IsFrom f xs j y = later j e in
        record {
          at = suc rest.at;
          from = rest.from;
          there = rest.there;
          gives = rest.gives;
          count = ap
              (λ o. length (cons_option o (filter_map f (take rest.at xs)))) is ∙ rest.count;
        }
    go (Some z) is zero e later = record { at = 0; from = x; there = refl; gives = is ∙ e; count = refl }
    go (Some z) is (suc j) e later =
        let rest : IsFrom f xs j y = later j e in
        record {
          at = suc rest.at;
          from = rest.from;
          there = rest.there;
          gives = rest.gives;
          count = ap
              (λ o. length (cons_option o (filter_map f (take rest.at xs)))) is ∙ ap suc rest.count;
        }

-- ---- how many stripes have ended

pub ended_within : (own : List Logged) (n m : ℕ) → n ≤ m → ended_stripes (take n own) ≤ ended_stripes (take m own)
ended_within own n m within =
    subst (λ (xs : List Logged). ended_stripes xs ≤ ended_stripes (take m own)) (take-take n m own within) (fewer_taken ends_stripe n (take m own))

pub ended_one : (own : List Logged) (n : ℕ) (l : Logged) → slice_get own n ≡ Some l → ends_stripe l ≡ true
    → ended_stripes (take (suc n) own) ≡ ended_stripes (take n own) + 1
ended_one own n l there ends =
    ap ended_stripes (take_next own n l there) ∙ ap length (filter-append ends_stripe (take n own) (l ∷ []))
    ∙ length-append (filter ends_stripe (take n own)) (filter ends_stripe (l ∷ []))
    ∙ ap (λ b. ended_stripes (take n own) + length {A = Logged} (cond b (l ∷ []) [])) ends

pub ends : (l : Logged) (e : UnitEvent) → unit_event_of l.event ≡ Some e → is_program e.command ≡ true → was_stopped e.outcome ≡ false → 0 < knows_engine l
    → ends_stripe l ≡ true
ends l e is program going knew =
    and_both (nat_lt 0 (knows_engine l)) (option_map_or ends_program (unit_event_of l.event) false) (lt_true 0 (knows_engine l) knew)
    (ap (λ o. option_map_or ends_program o false) is ∙ and_both (is_program e.command) (not (was_stopped e.outcome)) program (ap not going))

module _ (i : Image) (w : World) (legal : IsLegal i w) (unit : ℕ) where
  abbrev log : List Logged
  log = log_of w 0

  abbrev own : List Logged
  own = log_of w (suc unit)

  -- ---- what is named

  -- the engine's event of this number names this one of the unit
  pub record IsNamedAt (q n : ℕ) : Type 0 where
    pub logged : Logged
    pub there : slice_get (log_of w 0) q ≡ Some logged
    pub names : named_by unit logged.event ≡ Some n

  pub record IsNewAt (q n : ℕ) (l : Logged) : Type 0 where
    pub event : UnitEvent
    pub new : IsNew (prefixes l (log_of w)) unit n event
    pub own : prefixes l (log_of w) 0 ≡ take q (log_of w 0)

  new_in : (q other m n : ℕ) (l : Logged) (e : UnitEvent) → prefixes l (log_of w) 0 ≡ take q (log_of w 0) → IsNew (prefixes l (log_of w)) other m e
      → (if other == unit then Some m else None) ≡ Some n → IsNewAt q n l
  new_in q other m n l e own new is = by (nat_eq other unit) refl is
    where
      by : (b : Bool) → nat_eq other unit ≡ b → (if b then Some m else None) ≡ Some n → IsNewAt q n l
      by false apart f = absurd (none-some n f)
      by true same f = record {
        event = e;
        new = subst (λ k. IsNew (prefixes l (log_of w)) unit k e) (same_Some m n f)
            (subst (λ u. IsNew (prefixes l (log_of w)) u m e) (eqb-true other unit same) new);
        own = own;
      }

  new_by : (q n : ℕ) (l : Logged) (event : Event) → slice_get log q ≡ Some l → l.event ≡ event → named_by unit event ≡ Some n → IsNewAt q n l
  new_by q n l (Decides (Landed other m)) there is names =
      let d : IsDecided i w legal q (Landed other m) l = decided i w legal q (Landed other m) l there is in
      new_in q other m n l d.allowed.2.program d.own d.allowed.2.new names
  new_by q n l (Decides (Lost other m)) there is names =
      let d : IsDecided i w legal q (Lost other m) l = decided i w legal q (Lost other m) l there is in
      new_in q other m n l d.allowed.2.program d.own d.allowed.2.new names
  new_by q n l (Decides (Again other m)) there is names =
      let d : IsDecided i w legal q (Again other m) l = decided i w legal q (Again other m) l there is in
      new_in q other m n l d.allowed.2.program d.own d.allowed.2.new names
  new_by q n l (Decides (ResetDone other m)) there is names =
      let d : IsDecided i w legal q (ResetDone other m) l = decided i w legal q (ResetDone other m) l there is in
      new_in q other m n l d.allowed.2.reset d.own d.allowed.2.new names
  new_by q n l event there is names = absurd (none-some n names)

  pub new_at : (q n : ℕ) (at : IsNamedAt q n) → IsNewAt q n at.logged
  new_at q n at = new_by q n at.logged at.logged.event at.there refl at.names

  -- what is named is known
  pub named_known : (q n : ℕ) (at : IsNamedAt q n) → n < known at.logged (suc unit)
  named_known q n at = let new : IsNewAt q n at.logged = new_at q n at in
      (get_whole_within (known at.logged (suc unit)) own n new.new.logged new.new.is_known).1

  pub named_once : (p q n : ℕ) → p < q → IsNamedAt p n → IsNamedAt q n → ⊥
  named_once p q n below first second =
      let new : IsNewAt q n second.logged = new_at q n second in
      let there : slice_get (take q log) p ≡ Some first.logged = get_taken q log p below ∙ first.there in
      new.new.once (subst (λ (xs : List Logged). Contains (named_events xs unit) n) (sym new.own)
      (contained_among (named_events (take q log) unit) n (given_at (λ (l : Logged). named_by unit l.event) (take q log) first.logged n p there first.names)))

  pub one_naming : (p q n : ℕ) → IsNamedAt p n → IsNamedAt q n → p ≡ q
  one_naming p q n first second = go (cases_order p q)
    where
      go : (p ≡ q) ⊎ ((p < q) ⊎ (q < p)) → p ≡ q
      go (inl same) = same
      go (inr (inl below)) = absurd (named_once p q n below first second)
      go (inr (inr above)) = absurd (named_once q p n above second first)

  -- ---- answers

  -- the engine's event of number q answers the stripe of turn j, by the program of this number
  pub record IsTold (j q : ℕ) : Type 0 where
    pub number : ℕ
    pub named : IsNamedAt q number
    pub logged : Logged
    pub there : slice_get (log_of w (suc unit)) number ≡ Some logged
    pub event : UnitEvent
    pub is_event : unit_event_of logged.event ≡ Some event
    pub program : is_program event.command ≡ true
    pub going : was_stopped event.outcome ≡ false
    pub knew : 0 < knows_engine logged
    pub turn : ended_stripes (take number (log_of w (suc unit))) ≡ j

  of_stripe : (q m : ℕ) (l : Logged) (e : UnitEvent) → slice_get log q ≡ Some l → named_by unit l.event ≡ Some m → prefixes l (log_of w) 0 ≡ take q log
      → IsNew (prefixes l (log_of w)) unit m e → IsOfStripe (prefixes l (log_of w)) unit m e → was_stopped e.outcome ≡ false
      → IsTold (length (answers (take q log) unit)) q
  of_stripe q m l e there names whole new stripe going =
      let at = get_whole_within (known l (suc unit)) own m stripe.logged stripe.is_logged in
      let same : new.logged ≡ stripe.logged = same_Some new.logged stripe.logged (sym new.is_known ∙ stripe.is_logged) in
      let inside : m < known l (suc unit) = at.1 in
      let again : take m (take (known l (suc unit)) own) ≡ take m own = take-take m (known l (suc unit)) own (omega arith) in
      record {
        number = m;
        named = record { logged = l; there = there; names = names };
        logged = stripe.logged;
        there = at.0;
        event = e;
        is_event = ap (λ (x : Logged). unit_event_of x.event) (sym same) ∙ new.event;
        program = stripe.program;
        going = going;
        knew = stripe.after_begin;
        turn = ap ended_stripes (sym again) ∙ stripe.its_turn ∙ ap (λ (xs : List Logged). length (answers xs unit)) whole;
      }

  told_by_event : (q : ℕ) (l : Logged) (event : Event) (a : Answer) → slice_get log q ≡ Some l → l.event ≡ event → answer_by unit event ≡ Some a
      → IsTold (length (answers (take q log) unit)) q
  told_by_event q l (Decides (Landed other m)) a there is answers = by (nat_eq other unit) refl answers
    where
      by : (b : Bool) → nat_eq other unit ≡ b → (if b then Some (DidLand m) else None) ≡ Some a
          → IsTold (length (Rattle.pblk_world.specs.EngineLog.answers (take q log) unit)) q
      by false apart f = absurd (none-some a f)
      by true same f =
          let event : l.event ≡ Decides (Landed unit m) = is ∙ ap (λ u. Decides (Landed u m)) (eqb-true other unit same) in
          let d : IsDecided i w legal q (Landed unit m) l = decided i w legal q (Landed unit m) l there event in
          let may : MayLand (prefixes l (log_of w)) unit m = d.allowed.2 in
          of_stripe q m l may.program there (ap (named_by unit) event ∙ here) d.own may.new may.stripe (ap was_stopped may.done)
        where
          here : named_by unit (Decides (Landed unit m)) ≡ Some m
          here = ap (λ b. if b then Some m else None) (Rattle.pblk_model.proofs.Tests.same_number unit)
  told_by_event q l (Decides (Lost other m)) a there is answers = by (nat_eq other unit) refl answers
    where
      by : (b : Bool) → nat_eq other unit ≡ b → (if b then Some (WasLost m) else None) ≡ Some a
          → IsTold (length (Rattle.pblk_world.specs.EngineLog.answers (take q log) unit)) q
      by false apart f = absurd (none-some a f)
      by true same f =
          let event : l.event ≡ Decides (Lost unit m) = is ∙ ap (λ u. Decides (Lost u m)) (eqb-true other unit same) in
          let d : IsDecided i w legal q (Lost unit m) l = decided i w legal q (Lost unit m) l there event in
          let may : MayLose (prefixes l (log_of w)) unit m = d.allowed.2 in
          of_stripe q m l may.program there (ap (named_by unit) event ∙ here) d.own may.new may.stripe (ap was_stopped may.failed)
        where
          here : named_by unit (Decides (Lost unit m)) ≡ Some m
          here = ap (λ b. if b then Some m else None) (Rattle.pblk_model.proofs.Tests.same_number unit)
  told_by_event q l event a there is answers = absurd (none-some a answers)

  pub record IsToldBefore (j k : ℕ) : Type 0 where
    pub at : ℕ
    pub before : at < k
    pub told : IsTold j at

  told : (k j : ℕ) (a : Answer) → slice_get (answers (take k log) unit) j ≡ Some a → IsToldBefore j k
  told k j a there =
      let from : IsFrom (λ (l : Logged). answer_by unit l.event) (take k log) j a = source (λ (l : Logged). answer_by unit l.event) (take k log) j a there in
      let at = get_whole_within k log from.at from.from from.there in
      let again : take from.at (take k log) ≡ take from.at log = let inside : from.at < k = at.1 in take-take from.at k log (omega arith) in
      let count : length (answers (take from.at log) unit) ≡ j = ap (λ (xs : List Logged). length (answers xs unit)) (sym again) ∙ from.count in
      record {
        at = from.at;
        before = at.1;
        told = subst (λ n. IsTold n from.at) count (told_by_event from.at from.from from.from.event a at.0 refl from.gives);
      }

  -- a stripe that is answered
  pub answered_told : (k j : ℕ) (p : Placed) → slice_get (placed_on (take k log) unit) j ≡ Some p → is_answered (take k log) p ≡ true → IsToldBefore j k
  answered_told k j p there is =
      let unit_same : p.stripe.unit ≡ unit = unit_is (take k log) unit j p there in
      let turn_same : turn (take k log) p ≡ j = turn_is (take k log) unit j p there in
      let some : is_some (slice_get (answers (take k log) unit) j) ≡ true = ap₂ (λ u t. is_some (slice_get (answers (take k log) u) t)) (sym unit_same)
      (sym turn_same) ∙ is in
      let a = some_value (slice_get (answers (take k log) unit) j) some in
      told k j a.0 a.1

  -- no program of that stripe comes after the one that is told
  pub last_program : (j q n : ℕ) (t : IsTold j q) → ended_stripes (take n own) ≡ j → n ≤ t.number
  last_program j q n t same = go (cases_lt t.number n)
    where
      go : (t.number < n) ⊎ (n ≤ t.number) → n ≤ t.number
      go (inr within) = within
      go (inl past) =
          let one : ended_stripes (take (suc t.number) own) ≡ ended_stripes (take t.number own) + 1 = ended_one own t.number t.logged t.there
          (ends t.logged t.event t.is_event t.program t.going t.knew) in
          let more : ended_stripes (take (suc t.number) own) ≤ ended_stripes (take n own) = ended_within own (suc t.number) n (omega arith) in
          let turn : ended_stripes (take t.number own) ≡ j = t.turn in
          absurd (omega arith)

  -- and a program that ended is that one
  pub its_program : (j q n : ℕ) (l : Logged) (t : IsTold j q) → ended_stripes (take n own) ≡ j → slice_get own n ≡ Some l → ends_stripe l ≡ true → n ≡ t.number
  its_program j q n l t same there ending = go (cases_lt n t.number)
    where
      go : (n < t.number) ⊎ (t.number ≤ n) → n ≡ t.number
      go (inr within) = let few : n ≤ t.number = last_program j q n t same in omega arith
      go (inl before) =
          let one : ended_stripes (take (suc n) own) ≡ ended_stripes (take n own) + 1 = ended_one own n l there ending in
          let more : ended_stripes (take (suc n) own) ≤ ended_stripes (take t.number own) = ended_within own (suc n) t.number (omega arith) in
          let turn : ended_stripes (take t.number own) ≡ j = t.turn in
          absurd (omega arith)
