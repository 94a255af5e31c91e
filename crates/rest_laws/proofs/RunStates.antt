-- The states of the run of crate room_law that the engine's log makes: what holds of each of them,
-- and how one is made from the one before.
use Rattle.std.proofs.Common.{append-nil, ◌≡◌, ◌⊎◌, inl, inr, ℕ, ◌+◌, ◌-◌, ◌*◌, ◌/◌, ◌%◌, ◌<◌, ◌≤◌, ◌++◌, suc, max, Some, None, Option, List, length, take, sym, subst, ap, ap₂, ◌∙◌, arith}
use Rattle.std.specs.Prelude.{slice_get}
use Rattle.std.specs.List.{Contains}
use Rattle.std.specs.Option.{option_to_list}
use Rattle.std.proofs.Math.Nat.{div-add-mod', mul_comm, mul_left_comm, mul-sub}
use Rattle.std.proofs.lemmas.Bool.{cases_lt}
use Rattle.std.specs.Int.{div_ceil}
use Rattle.pblk_model.specs.Image.{Image}
use Rattle.pblk_model.specs.LineOrder.{end_len, start_len}
use Rattle.pblk_model.specs.Shape.{units}
use Rattle.pblk_model.proofs.LineOrderLemmas.{whole_line}
use Rattle.pblk_world.specs.AtRest.{logs_at}
use Rattle.pblk_world.specs.EngineLog.{Taken, taken_by, takes}
use Rattle.pblk_world.specs.Events.{Logged}
use Rattle.pblk_world.specs.Space.{addresses, free_addresses, full_data, room, space_limit}
use Rattle.pblk_world.specs.Victims.{engine_prefix, victim}
use Rattle.pblk_world.specs.World.{World, Logs, log_of}
use Rattle.pblk_world.proofs.EngineLogLemmas.{takes_more}
use Rattle.pblk_model.proofs.Parts.{take_next}
use Rattle.pblk_world.specs.Reasons.{WasRoom}
use Rattle.world_laws.proofs.ToldTables.{room_told}
use Rattle.room_law.specs.Counting.{AreSizes, IsReached, State}
use Rattle.room_law.specs.Counting as counting
use Rattle.room_law.proofs.Room.{reached_has_room}
use Rattle.rest_laws.specs.RoomRuns.{HasNumbers, IsCopyAt, IsReasonedMount, IsRoomRun, IsRoomState, IsVictimOf, sizes_of}
use Rattle.rest_laws.specs.RoomSteps.{free_lines}
use Rattle.rest_laws.proofs.FreeCounts.{free_are}
use Rattle.rest_laws.proofs.RoomyShapes.{some_data}
use Rattle.rest_laws.proofs.RunLogs.{told_of_length}

-- ---- the sizes

whole_parts : (w c q g a b n : ℕ) → c ≡ q * w → n ≡ g * c - w * a - w * b → n ≡ w * (g * q - a - b)
whole_parts w c q g a b n chunk is =
    let one : g * c ≡ w * (g * q) = ap (λ m. g * m) (chunk ∙ mul_comm q w) ∙ mul_left_comm g w q in
    is ∙ ap (λ m. m - w * a - w * b) one ∙ ap (λ m. m - w * b) (sym (mul-sub w (g * q) a)) ∙ sym (mul-sub w (g * q - a) b)

pub sizes : (i : Image) (w : World) → IsReasonedMount i w → AreSizes (sizes_of i)
sizes i w is = record {
  some = is.mount.accepted.drive.ws_opt;
  stripes = stripes;
  has_one = has_one (cases_lt 0 stripes);
  whole = whole;
}
  where
    n : ℕ
    n = i.shape.ws_opt

    a : ℕ
    a = div_ceil (64 + 24 * (i.shape.chunks - 1)) (i.shape.ws_opt * i.shape.sector)

    b : ℕ
    b = div_ceil (32 + 16 * (units i.shape * i.shape.clba - start_len i.shape)) (i.shape.ws_opt * (i.shape.sector + 16))

    stripes : ℕ
    stripes = units i.shape * (i.shape.clba / i.shape.ws_opt) - a - b

    some : 0 < full_data i.shape
    some = some_data i.shape is.mount.accepted

    chunk : i.shape.clba ≡ i.shape.clba / i.shape.ws_opt * i.shape.ws_opt
    chunk =
        let parts : i.shape.clba / i.shape.ws_opt * i.shape.ws_opt + i.shape.clba % i.shape.ws_opt ≡ i.shape.clba =
        div-add-mod' i.shape.clba i.shape.ws_opt in
        let none : i.shape.clba % i.shape.ws_opt ≡ 0 = is.mount.accepted.drive.whole_stripes in
        omega arith

    less : (s d e m : ℕ) → s + d + e ≡ m → d ≡ m - s - e
    less s d e m h = omega arith

    whole : full_data i.shape ≡ i.shape.ws_opt * stripes
    whole = whole_parts n i.shape.clba (i.shape.clba / n) (units i.shape) a b (full_data i.shape) chunk
        (less (start_len i.shape) (full_data i.shape) (end_len i.shape (units i.shape)) (units i.shape * i.shape.clba)
        (whole_line i.shape (units i.shape) some))

    has_one : (0 < stripes) ⊎ (stripes ≤ 0) → 1 ≤ stripes
    has_one (inl more) = more
    has_one (inr none) =
        let same : i.shape.ws_opt * stripes ≡ i.shape.ws_opt * 0 = ap (λ k. i.shape.ws_opt * k) (omega arith) in
        absurd (omega (arith, whole, some, same))

module _ (i : Image) (w : World) (is : IsReasonedMount i w) where
  -- ---- the space limit

  module _ (n : ℕ) (some : 0 < n) (within : n ≤ length (log_of w 0)) where
    pub addresses_are : (s : State) → HasNumbers i (engine_prefix n (log_of w)) s
        → addresses i (engine_prefix n (log_of w)) ≡ counting.addresses (sizes_of i) s
    addresses_are s h =
        let free : free_addresses i (engine_prefix n (log_of w)) ≡ free_lines i (engine_prefix n (log_of w)) * full_data i.shape =
        free_are i (engine_prefix n (log_of w)) (is.wide n some within) in
        let turned : free_lines i (engine_prefix n (log_of w)) * full_data i.shape ≡ full_data i.shape * s.free =
        ap (λ k. k * full_data i.shape) (sym h.free) ∙ mul_comm s.free (full_data i.shape) in
        ap₂ (λ a b. a + b) (sym h.left) (free ∙ turned)

    pub limit_is : (s : State) → HasNumbers i (engine_prefix n (log_of w)) s
        → space_limit i (engine_prefix n (log_of w)) ≡ counting.space_limit (sizes_of i) s
    limit_is s h = ap₂ (λ p a. p + (a - 2 * full_data i.shape) / i.shape.ws_opt) (sym h.placed) (addresses_are s h)

  room_within : (logs : Logs) → room i logs ≤ space_limit i logs
  room_within logs = omega arith

  -- what was granted at this length
  granted_there : (n position : ℕ) → n ≤ length (log_of w 0) → position ≤ room i (logs_at n (log_of w)) → position ≤ space_limit i (engine_prefix n (log_of w))
  granted_there n position within low =
      let same : room i (logs_at n (log_of w)) ≡ room i (engine_prefix n (log_of w)) =
      room_told i (engine_prefix n (log_of w)) (logs_at n (log_of w)) (told_of_length i w n is.mount.legal within) in
      let below : room i (engine_prefix n (log_of w)) ≤ space_limit i (engine_prefix n (log_of w)) = room_within (engine_prefix n (log_of w)) in
      omega arith

  pub reach_next : (n reach : ℕ) → suc n ≤ length (log_of w 0) → ((position : ℕ) → WasRoom i (log_of w) n position → position ≤ reach)
      → space_limit i (engine_prefix (suc n) (log_of w)) ≤ reach → (position : ℕ) → WasRoom i (log_of w) (suc n) position → position ≤ reach
  reach_next n reach within before now position r = go (cases_lt n r.at)
    where
      go : (n < r.at) ⊎ (r.at ≤ n) → position ≤ reach
      go (inr early) = before position (record { at = r.at; has_begun = r.has_begun; within = early; room = r.room })
      go (inl late) =
          let same : r.at ≡ suc n = omega (arith, r.within) in
          let there : position ≤ room i (logs_at (suc n) (log_of w)) = subst (λ k. position ≤ room i (logs_at k (log_of w))) same r.room in
          let low : position ≤ space_limit i (engine_prefix (suc n) (log_of w)) = granted_there (suc n) position within there in
          omega arith

  pub reached_reach : (s : State) → IsReached (sizes_of i) s → s.reach ≡ counting.space_limit (sizes_of i) s
  reached_reach s reached = (reached_has_room (sizes_of i) s (sizes i w is) reached).reach

  -- ---- the entries that were taken

  pub takes_now : (n : ℕ) (l : Logged) → slice_get (log_of w 0) n ≡ Some l
      → takes (take (suc n) (log_of w 0)) ≡ takes (take n (log_of w 0)) ++ option_to_list (taken_by l.event)
  takes_now n l there = ap takes (take_next (log_of w 0) n l there) ∙ takes_more (take n (log_of w 0)) l

  module _ (at : ℕ → ℕ) where
    -- ---- the next state

    pub next_state : (n : ℕ) (line : Option ℕ) (s new : State) → 0 < n → suc n ≤ length (log_of w 0) → IsRoomRun i (log_of w) at n s
        → HasNumbers i (engine_prefix (suc n) (log_of w)) new
        → IsVictimOf i (engine_prefix (suc n) (log_of w)) line new.victim → IsCopyAt i (log_of w) at n (suc n) new.copy
        → ((t : Taken) → Contains (takes (take (suc n) (log_of w 0))) t → t.entry.source ≡ None → t.entry.position < new.users)
        → s.reach ≤ new.reach → max s.before_due s.while_due ≤ max new.before_due new.while_due → IsReached (sizes_of i) new
        → IsRoomState i (log_of w) at (suc n) n n line new
    next_state n line s new some within run numbers victim copy users reach asks reached = record {
      numbers = numbers;
      victim = victim;
      copy = copy;
      users = users;
      reach = reach_next n new.reach within (λ position r. let low : position ≤ s.reach = run.reach position r in omega arith)
          (let same : new.reach ≡ counting.space_limit (sizes_of i) new = reached_reach new reached in
          let limit : space_limit i (engine_prefix (suc n) (log_of w)) ≡ counting.space_limit (sizes_of i) new =
          limit_is (suc n) (omega arith) within new numbers in
          omega arith);
      asks = λ position a. let low : position ≤ max s.before_due s.while_due = run.asks position a in omega arith;
      reached = reached;
    }

    -- users' entries, where none is taken
    pub users_still : (n : ℕ) (l : Logged) (s : State) → slice_get (log_of w 0) n ≡ Some l → taken_by l.event ≡ None
        → ((t : Taken) → Contains (takes (take n (log_of w 0))) t → t.entry.source ≡ None → t.entry.position < s.users)
        → (t : Taken) → Contains (takes (take (suc n) (log_of w 0))) t → t.entry.source ≡ None → t.entry.position < s.users
    users_still n l s there none was t at source =
        was t (subst (λ (ts : List Taken). Contains ts t) (takes_now n l there ∙ ap (λ (o : Option Taken). takes (take n (log_of w 0)) ++ option_to_list o) none
        ∙ append-nil (takes (take n (log_of w 0)))) at) source
