-- Each step on a slot keeps what the ring keeps of its slots.
use Rattle.std.proofs.Common.{◌≡◌, ◌≢◌, ℕ, ◌+◌, ◌-◌, ◌*◌, ◌%◌, ◌<◌, ◌≤◌, List, length, set, refl}
use Rattle.std.proofs.Common.{sym, ap, ◌∙◌, subst, arith, get_or-set_same, get_or-set_other}
use Rattle.std.proofs.Math.Nat.{add-mod_right}
use Rattle.std.specs.Prelude.{slice_index}
use mathlib.Core.Option.{Option, some, none}
use mathlib.Core.Logic.{dite}
use native.Mathlib.Decide.{ℕ_discrete, dec_le}
use lib.ListN.{get_elem?}
use Rattle.atomic_table.proofs.Lists.{one_turn, set_here, set_else}
use Rattle.write_ring.specs.Cells.{Cells, Holds, IsNamed, slot, turn_at}

-- two positions of one turn have slots of their own
pub apart : (size low p q : ℕ) → low ≤ p → p < low + size → low ≤ q → q < low + size → q ≢ p → slot size q ≢ slot size p
apart size low p q lp hp lq hq differ same = dite (dec_le q p)
    (λ le. differ (one_turn q p size le (omega arith) same))
    (λ more. differ (sym (one_turn p q size (omega arith) (omega arith) (sym same))))

pub other_turn : (size : ℕ) (words : List ℕ) (p q n : ℕ) → slot size q ≢ slot size p
    → slice_index (set words (turn_at size p) n) (turn_at size q) ≡ slice_index words (turn_at size q)
other_turn size words p q n differ = get_or-set_other words (turn_at size p) (turn_at size q) n 0 (λ same. differ (omega arith))

module _ {S : Type 0} (size first : ℕ) (Free Blank : S → Type 0) where
  -- a writer's entry goes into the slot of p, and its turn word names p
  pub filled : (Full Full' : ℕ → S → Type 0) (Open Open' : ℕ → Type 0) (words : List ℕ) (homes : List (Option S)) (claimed taken freed away p : ℕ) (x : S)
      → Cells size first Free Blank Full Open words homes claimed taken freed away → first ≤ freed → freed ≤ taken → claimed ≤ freed + size
      → taken ≤ p → p < claimed → turn_at size p < length words → slot size p < length homes → Full' p x → ((q : ℕ) (y : S) → Full q y → Full' q y)
      → ((q : ℕ) → q ≢ p → Open q → Open' q)
      → Cells size first Free Blank Full' Open' (set words (turn_at size p) (p - first + 1)) (set homes (slot size p) (some x)) claimed taken freed away
  filled Full Full' Open Open' words homes claimed taken freed away p x h low order room after below long wide full grows others =
      let n = p - first + 1 in
      let here : slice_index (set words (turn_at size p) n) (turn_at size p) ≡ n = get_or-set_same words (turn_at size p) n 0 long in
      let names : IsNamed size first (set words (turn_at size p) n) p = ap (λ k. k + first) here ∙ omega arith in
      let home : Holds size (set homes (slot size p) (some x)) p x = set_here homes (slot size p) (some x) wide in
      let turn = λ (q : ℕ) (le : freed ≤ q) (lt : q < freed + size) (differ : q ≢ p). other_turn size words p q n
      (apart size freed p q (omega arith) (omega arith) le lt differ) in
      let keep = λ (q : ℕ) (le : freed ≤ q) (lt : q < freed + size) (differ : q ≢ p). set_else homes (slot size p) (slot size q) (some x)
      (apart size freed p q (omega arith) (omega arith) le lt differ) in
      record {
        away_below = h.away_below;
        taken_named = λ q le lt. ap (λ k. k + first) (turn q le (omega arith) (λ e. omega arith)) ∙ h.taken_named q le lt;
        taken_cell = λ q le lt not. let was = h.taken_cell q le lt not in (was.0, keep q le (omega arith) (λ e. omega arith) ∙ was.1, was.2);
        turn_low = λ q le lt. dite (ℕ_discrete q p)
            (λ same. let now = ap (λ k. slice_index (set words (turn_at size p) n) (turn_at size k)) same ∙ here in omega arith)
            (λ differ. let now = turn q (omega arith) lt differ in let was = h.turn_low q le lt in omega arith);
        named_below = λ q le lt named. dite (ℕ_discrete q p) (λ same. omega arith)
            (λ differ. h.named_below q le lt (sym (ap (λ k. k + first) (turn q (omega arith) lt differ)) ∙ named));
        named_cell = λ q le lt named. dite (ℕ_discrete q p)
            (λ same. (x, ap (λ k. get_elem? (set homes (slot size p) (some x)) (slot size k)) same ∙ home, subst (λ k. Full' k x) (sym same) full))
            (λ differ. let was = h.named_cell q le lt (sym (ap (λ k. k + first) (turn q (omega arith) lt differ)) ∙ named) in
            (was.0, keep q (omega arith) lt differ ∙ was.1, grows q was.0 was.2));
        open_cell = λ q le lt not. dite (ℕ_discrete q p)
            (λ same. absurd (not (subst (λ k. IsNamed size first (set words (turn_at size p) n) k) (sym same) names)))
            (λ differ. others q differ (h.open_cell q le lt (λ named. not (ap (λ k. k + first) (turn q (omega arith) (omega arith) differ) ∙ named))));
        free_cell = λ q le lt. let was = h.free_cell q le lt in (was.0, keep q (omega arith) lt (λ e. omega arith) ∙ was.1, was.2);
      }

  -- the intake takes the slot of the next position, which is named
  pub taken_out : (Full : ℕ → S → Type 0) (Open : ℕ → Type 0) (words : List ℕ) (homes : List (Option S)) (claimed taken freed : ℕ)
      → Cells size first Free Blank Full Open words homes claimed taken freed 0 → freed ≤ taken → taken < claimed → claimed ≤ freed + size
      → IsNamed size first words taken
      → Cells size first Free Blank Full Open words (set homes (slot size taken) none) claimed (taken + 1) freed (taken + 1)
  taken_out Full Open words homes claimed taken freed h order below room named =
      let keep = λ (q : ℕ) (le : freed ≤ q) (lt : q < freed + size) (differ : q ≢ taken). set_else homes (slot size taken) (slot size q) none
      (apart size freed taken q order (omega arith) le lt differ) in
      record {
        away_below = λ q is. (omega arith, omega arith);
        taken_named = λ q le lt. dite (ℕ_discrete q taken) (λ same. subst (IsNamed size first words) (sym same) named)
            (λ differ. h.taken_named q le (omega arith));
        taken_cell = λ q le lt not. let was =
            h.taken_cell q le (omega arith) (λ e. omega arith) in (was.0, keep q le (omega arith) (λ e. omega arith) ∙ was.1, was.2);
        turn_low = λ q le lt. h.turn_low q (omega arith) lt;
        named_below = λ q le lt is. h.named_below q (omega arith) lt is;
        named_cell = λ q le lt is. let was = h.named_cell q (omega arith) lt is in (was.0, keep q (omega arith) lt (λ e. omega arith) ∙ was.1, was.2);
        open_cell = λ q le lt not. h.open_cell q (omega arith) lt not;
        free_cell = λ q le lt. let was = h.free_cell q le lt in (was.0, keep q (omega arith) lt (λ e. omega arith) ∙ was.1, was.2);
      }

  -- the intake gives the slot back, empty
  pub given_back : (Full : ℕ → S → Type 0) (Open : ℕ → Type 0) (words : List ℕ) (homes : List (Option S)) (claimed taken freed p : ℕ) (x : S)
      → Cells size first Free Blank Full Open words homes claimed taken freed (p + 1) → freed ≤ taken → taken ≤ claimed → claimed ≤ freed + size
      → slot size p < length homes → Blank x
      → Cells size first Free Blank Full Open words (set homes (slot size p) (some x)) claimed taken freed 0
  given_back Full Open words homes claimed taken freed p x h order below room wide blank =
      let in_range = h.away_below p refl in
      let home : Holds size (set homes (slot size p) (some x)) p x = set_here homes (slot size p) (some x) wide in
      let keep = λ (q : ℕ) (le : freed ≤ q) (lt : q < freed + size) (differ : q ≢ p). set_else homes (slot size p) (slot size q) (some x)
      (apart size freed p q in_range.0 (omega (arith, in_range)) le lt differ) in
      record {
        away_below = λ q is. absurd (omega arith);
        taken_named = h.taken_named;
        taken_cell = λ q le lt not. dite (ℕ_discrete q p)
            (λ same. (x, ap (λ k. get_elem? (set homes (slot size p) (some x)) (slot size k)) same ∙ home, blank))
            (λ differ. let was = h.taken_cell q le lt (λ e. differ (omega arith)) in (was.0, keep q le (omega arith) differ ∙ was.1, was.2));
        turn_low = h.turn_low;
        named_below = h.named_below;
        named_cell = λ q le lt is. let was = h.named_cell q le lt is in (was.0, keep q (omega arith) lt (λ e. omega (arith, in_range)) ∙ was.1, was.2);
        open_cell = h.open_cell;
        free_cell = λ q le lt. let was = h.free_cell q le lt in (was.0, keep q (omega arith) lt (λ e. omega (arith, in_range)) ∙ was.1, was.2);
      }

  -- the intake takes the slot of the first position that isn't freed, which was taken
  pub taken_free : (Full : ℕ → S → Type 0) (Open : ℕ → Type 0) (words : List ℕ) (homes : List (Option S)) (claimed taken freed : ℕ)
      → Cells size first Free Blank Full Open words homes claimed taken freed 0 → freed < taken → taken ≤ claimed → claimed ≤ freed + size
      → Cells size first Free Blank Full Open words (set homes (slot size freed) none) claimed taken freed (freed + 1)
  taken_free Full Open words homes claimed taken freed h some_taken below room =
      let keep = λ (q : ℕ) (le : freed ≤ q) (lt : q < freed + size) (differ : q ≢ freed). set_else homes (slot size freed) (slot size q) none
      (apart size freed freed q (omega arith) (omega arith) le lt differ) in
      record {
        away_below = λ q is. (omega arith, omega arith);
        taken_named = h.taken_named;
        taken_cell = λ q le lt not. let was =
            h.taken_cell q le lt (λ e. omega arith) in (was.0, keep q le (omega arith) (λ e. not (omega arith)) ∙ was.1, was.2);
        turn_low = h.turn_low;
        named_below = h.named_below;
        named_cell = λ q le lt is. let was = h.named_cell q le lt is in (was.0, keep q (omega arith) lt (λ e. omega arith) ∙ was.1, was.2);
        open_cell = h.open_cell;
        free_cell = λ q le lt. let was = h.free_cell q le lt in (was.0, keep q (omega arith) lt (λ e. omega arith) ∙ was.1, was.2);
      }

  -- a free frame goes into that slot, and the position is freed
  pub freed_next : (Full : ℕ → S → Type 0) (Open : ℕ → Type 0) (words : List ℕ) (homes : List (Option S)) (claimed taken freed : ℕ) (x : S)
      → Cells size first Free Blank Full Open words homes claimed taken freed (freed + 1) → 0 < size → taken ≤ claimed → claimed ≤ freed + size
      → slot size freed < length homes → Free x
      → Cells size first Free Blank Full Open words (set homes (slot size freed) (some x)) claimed taken (freed + 1) 0
  freed_next Full Open words homes claimed taken freed x h large below room wide free =
      let in_range = h.away_below freed refl in
      let named = h.taken_named freed in_range.0 in_range.1 in
      let home : Holds size (set homes (slot size freed) (some x)) freed x = set_here homes (slot size freed) (some x) wide in
      let again : (freed + size) % size ≡ freed % size = add-mod_right freed size in
      let turn_again : slice_index words (turn_at size (freed + size)) + first ≡ freed + 1 = ap (λ (k : ℕ). slice_index words (48 + 16 * k) + first) again
      ∙ named in
      let keep = λ (q : ℕ) (le : freed ≤ q) (lt : q < freed + size) (differ : q ≢ freed). set_else homes (slot size freed) (slot size q) (some x)
      (apart size freed freed q (omega arith) (omega arith) le lt differ) in
      record {
        away_below = λ q is. absurd (omega arith);
        taken_named = λ q le lt. h.taken_named q (omega arith) lt;
        taken_cell = λ q le lt not. let was =
            h.taken_cell q (omega arith) lt (λ e. omega arith) in (was.0, keep q (omega arith) (omega arith) (λ e. omega arith) ∙ was.1, was.2);
        turn_low = λ q le lt. dite (ℕ_discrete q (freed + size))
            (λ same. let now = ap (λ k. slice_index words (turn_at size k) + first) same ∙ turn_again in omega arith)
            (λ differ. h.turn_low q le (omega arith));
        named_below = λ q le lt is. dite (ℕ_discrete q (freed + size))
            (λ same. let now = ap (λ k. slice_index words (turn_at size k) + first) same ∙ turn_again in omega arith)
            (λ differ. h.named_below q le (omega arith) is);
        named_cell = λ q le lt is. dite (ℕ_discrete q (freed + size))
            (λ same. let now = ap (λ k. slice_index words (turn_at size k) + first) same ∙ turn_again in absurd (omega arith))
            (λ differ. let was = h.named_cell q le (omega arith) is in
            (was.0, keep q (omega (arith, in_range)) (omega arith) (λ e. omega (arith, in_range)) ∙ was.1, was.2));
        open_cell = λ q le lt not. h.open_cell q le lt not;
        free_cell = λ q le lt. dite (ℕ_discrete q (freed + size))
            (λ same. (
              x,
              ap (λ k. get_elem? (set homes (slot size freed) (some x)) (slot size k)) same
                  ∙ ap (λ k. get_elem? (set homes (slot size freed) (some x)) k) again ∙ home,
              free,
            ))
            (λ differ. let was = h.free_cell q le (omega arith) in
            (was.0, keep q (omega (arith, in_range)) (omega arith) (λ e. omega (arith, in_range)) ∙ was.1, was.2));
      }

  -- a claim takes the slots of its positions, which are open from then on
  pub claimed_slots : (Full : ℕ → S → Type 0) (Open Open' : ℕ → Type 0) (words : List ℕ) (homes homes' : List (Option S)) (claimed new taken freed away : ℕ)
      → Cells size first Free Blank Full Open words homes claimed taken freed away → freed ≤ taken → taken ≤ claimed → claimed ≤ new → new ≤ freed + size
      → ((q : ℕ) → Open q → Open' q) → ((q : ℕ) → claimed ≤ q → q < new → Open' q)
      → ((k : ℕ) → ((p : ℕ) → claimed ≤ p → p < new → k ≢ slot size p) → get_elem? homes' k ≡ get_elem? homes k)
      → Cells size first Free Blank Full Open' words homes' new taken freed away
  claimed_slots Full Open Open' words homes homes' claimed new taken freed away h order below rises room grows opened same_homes =
      let keep = λ (q : ℕ) (le : freed ≤ q) (lt : q < freed + size) (differ : (p : ℕ) → claimed ≤ p → p < new → q ≢ p). same_homes (slot size q)
      (λ p lp hp. apart size freed p q (omega arith) (omega arith) le lt (differ p lp hp)) in
      record {
        away_below = h.away_below;
        taken_named = h.taken_named;
        taken_cell = λ q le lt not. let was = h.taken_cell q le lt not in (was.0, keep q le (omega arith) (λ p lp hp e. omega arith) ∙ was.1, was.2);
        turn_low = h.turn_low;
        named_below = λ q le lt is. let was = h.named_below q le lt is in omega arith;
        named_cell = λ q le lt is. let old = h.named_below q le lt is in let was =
            h.named_cell q le lt is in (was.0, keep q (omega arith) lt (λ p lp hp e. omega arith) ∙ was.1, was.2);
        open_cell = λ q le lt not. dite (dec_le claimed q) (λ more. opened q more lt) (λ less. grows q (h.open_cell q le (omega arith) not));
        free_cell = λ q le lt. let was = h.free_cell q (omega arith) lt in (was.0, keep q (omega arith) lt (λ p lp hp e. omega arith) ∙ was.1, was.2);
      }

  -- no slot and no turn word changes
  pub left_alone : (Full Full' : ℕ → S → Type 0) (Open Open' : ℕ → Type 0) (words words' : List ℕ) (homes : List (Option S)) (claimed taken freed away : ℕ)
      → Cells size first Free Blank Full Open words homes claimed taken freed away
      → ((q : ℕ) → slice_index words' (turn_at size q) ≡ slice_index words (turn_at size q)) → ((q : ℕ) (y : S) → Full q y → Full' q y)
      → ((q : ℕ) → Open q → Open' q) → Cells size first Free Blank Full' Open' words' homes claimed taken freed away
  left_alone Full Full' Open Open' words words' homes claimed taken freed away h same grows opens =
      let back = λ (q : ℕ) (is : IsNamed size first words' q). sym (ap (λ k. k + first) (same q)) ∙ is in
      record {
        away_below = h.away_below;
        taken_named = λ q le lt. ap (λ k. k + first) (same q) ∙ h.taken_named q le lt;
        taken_cell = h.taken_cell;
        turn_low = λ q le lt. let was = h.turn_low q le lt in let now = same q in omega arith;
        named_below = λ q le lt is. h.named_below q le lt (back q is);
        named_cell = λ q le lt is. let was = h.named_cell q le lt (back q is) in (was.0, was.1, grows q was.0 was.2);
        open_cell = λ q le lt not. opens q (h.open_cell q le lt (λ named. not (ap (λ k. k + first) (same q) ∙ named)));
        free_cell = h.free_cell;
      }

  -- where a position is named that may be the next one to be taken, there is room for it
  pub named_fits : (Full : ℕ → S → Type 0) (Open : ℕ → Type 0) (words : List ℕ) (homes : List (Option S)) (claimed taken freed away : ℕ)
      → Cells size first Free Blank Full Open words homes claimed taken freed away → 0 < size → freed ≤ taken → taken ≤ claimed → claimed ≤ freed + size
      → IsNamed size first words taken → taken < freed + size
  named_fits Full Open words homes claimed taken freed away h some_room order below room named = dite (ℕ_discrete taken (freed + size))
      (λ same.
      let was = h.taken_named freed (omega arith) (omega arith) in
      let again : taken % size ≡ freed % size = ap (λ k. k % size) same ∙ add-mod_right freed size in
      let turn : slice_index words (turn_at size taken) ≡ slice_index words (turn_at size freed) = ap (λ (k : ℕ). slice_index words (48 + 16 * k)) again in
      absurd (omega arith))
      (λ differ. omega arith)
