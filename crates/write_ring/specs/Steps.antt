-- How a seat's view changes at each kind of step, and what the step tells.
use Rattle.std.specs.Prelude.{◌≡◌, ◌≢◌, ℕ, ◌+◌, ◌-◌, ◌<◌, ◌≤◌, List, [], ◌∷◌, ◌++◌, Bool, true, false, ◌||◌, not, IsTrue, None, Some, filter, max}
use mathlib.Core.Option.{some}
use lib.ListN.{get_elem?}
use Rattle.pblk_model.specs.Frames.{Region}
use Rattle.pblk_model.specs.declared.ring.Claim.{Claim}
use Rattle.pblk_model.specs.RingState.{covers, covers_copy}
use Rattle.write_ring.specs.declared.view.Row.{Row}
use Rattle.write_ring.specs.declared.view.LastFound.{LastFound}
use Rattle.write_ring.specs.declared.view.Part.{Part}
use Rattle.write_ring.specs.declared.view.Desk.{Desk}
use Rattle.write_ring.specs.declared.view.Key.{Key}
use Rattle.write_ring.specs.declared.view.View.{View}

abbrev pub nothing_found : LastFound
nothing_found = record { steps = 0; claimed = 0; met = 0; freed = 0; granted = 0; over = 0; turn = 0 }

-- a seat that is no pass
abbrev pub no_part : Part
no_part = record { shares = 0; copier = false; claims = []; puts = []; next = 0; until = 0; copy = false }

-- a seat that isn't the intake
abbrev pub no_desk : Desk
no_desk = record { on = false; took = []; taken = 0; away = None; freed = 0; granted = 0 }

abbrev pub no_key : Key
no_key =
    let region : Region = record { block = 0; start = 0; stride = 0; size = 0; count = 0 } in
    record { first = 0; size = 0; reserve = 0; capacity = 0; origin = record { region = region } }

-- what is left of a seat that went into another
abbrev pub spent : View
spent = record { found = nothing_found; pass = no_part; intake = no_desk; key = no_key }

-- The seat with which a ring begins: the first pass and the intake in one.
-- The pass has all shares and may claim for copies. Nothing is claimed, taken, freed or granted beyond the ring's first position.
abbrev pub first_view : Key → View
first_view key = record {
  found = nothing_found;
  pass = record no_part { shares = 128; copier = true };
  intake = record { on = true; took = []; taken = key.first; away = None; freed = key.first; granted = key.first };
  key = key;
}

-- a pass that was split off, with one share
abbrev pub new_pass : Key → View
new_pass key = record { found = nothing_found; pass = record no_part { shares = 1 }; intake = no_desk; key = key }

abbrev pub with_found : View → LastFound → View
with_found v found = record v { found = found }

abbrev pub with_pass : View → Part → View
with_pass v pass = record v { pass = pass }

-- A load found n in `claimed`, in `freed`, in `granted` or in a turn word.
-- With a limit, which is `freed` or `granted`, goes what the seat had found in `claimed` by then.
abbrev pub saw_claimed : View → ℕ → View
saw_claimed v n = with_found v (record v.found { steps = v.found.steps + 1; claimed = n })

abbrev pub saw_freed : View → ℕ → View
saw_freed v n = with_found v (record v.found { steps = v.found.steps + 1; freed = n; over = v.found.claimed })

abbrev pub saw_granted : View → ℕ → View
saw_granted v n = with_found v (record v.found { steps = v.found.steps + 1; granted = n; over = v.found.claimed })

abbrev pub saw_turn : View → ℕ → View
saw_turn v n = with_found v (record v.found { steps = v.found.steps + 1; turn = n })

-- an exchange found n in `claimed`
abbrev pub met_claimed : View → ℕ → View
met_claimed v n = with_found v (record v.found { steps = v.found.steps + 1; met = n })

-- one claim more, whose positions are open from then on
abbrev pub add_claim : Part → Claim → Part
add_claim p c = record p { claims = p.claims ++ c ∷ []; next = c.first; until = c.first + c.count; copy = c.copy }

-- the positions from `old` to `new` are claimed
abbrev pub claim_to : ℕ → ℕ → Bool → Claim
claim_to old new copy = record { first = old; count = new - old; copy = copy }

abbrev pub claimed_to : View → ℕ → ℕ → Bool → View
claimed_to v old new copy = with_pass (met_claimed v old) (add_claim v.pass (claim_to old new copy))

-- one row more, at the first open position
abbrev pub put_row : Part → Row → Part
put_row p r = record p { puts = p.puts ++ r ∷ []; next = p.next + 1 }

abbrev pub put_next : View → Row → View
put_next v r = with_pass v (put_row v.pass r)

-- the intake found n in a turn word and took the row, gave the slot back, or took the slot of the first position that isn't freed
abbrev pub took_row : View → ℕ → Row → View
took_row v n r = record (saw_turn v n) {
  intake = record v.intake { took = v.intake.took ++ r ∷ []; taken = v.intake.taken + 1; away = Some v.intake.taken };
}

abbrev pub gave_back : View → ℕ → View
gave_back v n = record (saw_turn v n) { intake = record v.intake { away = None } }

abbrev pub took_free : View → ℕ → View
took_free v n = record (saw_turn v n) { intake = record v.intake { away = Some v.intake.freed } }

-- the intake stored the next number in `freed`
abbrev pub freed_next : View → View
freed_next v = record v { intake = record v.intake { away = None; freed = v.intake.freed + 1 } }

-- none of these claims has a position from n on
abbrev pub LieBelow : ℕ → List Claim → Type 0
LieBelow n claims = (x : ℕ) → n ≤ x → covers x claims ≡ 0

-- Each position from the ring's first one to n is granted to users, or is one of the seat's own copies.
-- It's known of a seat that is the intake and claims the copies.
abbrev pub AreGrantedOrCopies : ℕ → View → Type 0
AreGrantedOrCopies n v = (x : ℕ) → v.key.first ≤ x → x < n → covers_copy x v.pass.claims ≡ 0 → x < v.intake.granted

-- What a claim of the positions from `old` to `new` tells.
-- It found `old` and has them, or it found more and has none. Where it has them, the intake knows what lies below them.
abbrev pub Claims : Bool → View → ℕ → ℕ → ℕ → View → Type 0
Claims copy v old new n w = (n ≡ old → (w ≡ claimed_to v old new copy) × LieBelow old v.pass.claims
    × (IsTrue v.intake.on → IsTrue v.pass.copier → AreGrantedOrCopies old v))
    × (n ≢ old → (w ≡ met_claimed v n) × (old < n))

-- the intake stored `to` in `granted`
abbrev pub granted_to : View → ℕ → View
granted_to v to = record v { intake = record v.intake { granted = to } }

-- a pass gives one of its shares away
abbrev pub less_share : View → View
less_share v = with_pass v (record v.pass { shares = v.pass.shares - 1 })

-- the shares, the claims and the puts of both
abbrev pub joined_part : Part → Part → Part
joined_part p q = record p {
  shares = p.shares + q.shares;
  copier = p.copier || q.copier;
  claims = p.claims ++ q.claims;
  puts = p.puts ++ q.puts;
}

abbrev pub joined_pass : View → View → View
joined_pass v w = with_pass v (joined_part v.pass w.pass)

-- all that was claimed and put is of this class: a pass's is for users, and the intake's are copies
pub record IsOfClass (copy : Bool) (p : Part) : Type 0 where
  pub claims : (i : ℕ) (c : Claim) → get_elem? p.claims i ≡ some c → c.copy ≡ copy
  pub puts : (i : ℕ) (r : Row) → get_elem? p.puts i ≡ some r → r.copy ≡ copy

-- a part without its copies and with a share less, and its copies with that share
abbrev pub users_part : Part → Part
users_part p = record p {
  shares = p.shares - 1;
  copier = false;
  claims = filter (λ (c : Claim). not c.copy) p.claims;
  puts = filter (λ (r : Row). not r.copy) p.puts;
}

abbrev pub copies_part : Part → Part
copies_part p = record no_part {
  shares = 1;
  copier = p.copier;
  claims = filter (λ (c : Claim). c.copy) p.claims;
  puts = filter (λ (r : Row). r.copy) p.puts;
}

-- the intake leaves a seat, and the copies go with it
abbrev pub without_intake : View → View
without_intake v = record v { pass = users_part v.pass; intake = no_desk }

abbrev pub only_intake : View → View
only_intake v = record v { pass = copies_part v.pass }

-- a pass takes the intake in, with its copies: what either found of `claimed` the seat of both has found
abbrev pub with_intake : View → View → View
with_intake v w = record v {
  found = record v.found { claimed = max v.found.claimed w.found.claimed };
  pass = joined_part v.pass w.pass;
  intake = w.intake;
}
