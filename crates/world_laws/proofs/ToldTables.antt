-- Lines, sectors, room and victims, by what the engine was told.
use Rattle.std.proofs.Common.{◌≡◌, ℕ, ◌+◌, ◌-◌, ◌*◌, ◌/◌, ◌==◌, ◌&&◌, not, nat_lt, nat_le, min, zero, suc, false, Some, None, Option, List, map, length, refl, ap, ap₂, ◌∙◌, if◌then◌else◌}
use Rattle.std.specs.Prelude.{sum_by}
use Rattle.std.specs.List.{filter, filter_map, fold, flat_map, list_all, last_or, range_with_len}
use Rattle.std.specs.Option.{option_and_then, option_map, option_map_or, is_none, is_some}
use Rattle.pblk_model.specs.Chunk.{Chunk}
use Rattle.pblk_model.specs.Image.{Image}
use Rattle.pblk_model.specs.Records.{Record}
use Rattle.pblk_model.specs.StartRecord.{StartRecord, Row, start_of}
use Rattle.pblk_model.specs.EndRecord.{end_of}
use Rattle.pblk_model.specs.Contents.{head, counted, winner, is_of}
use Rattle.pblk_world.specs.Events.{Logged}
use Rattle.pblk_world.specs.World.{Logs}
use Rattle.pblk_world.specs.EngineLog.{LineLife, AsFound, Opened, Freed, Opening, life_of, is_as_found, is_opened, openings, Taken, takes, has_failed}
use Rattle.pblk_world.specs.Fronts.{first_position, last_take}
use Rattle.pblk_world.specs.Lines.{found_image, known_image, chunks_of, is_over_state, are_empty, are_over, line_data, has_number, is_free_line, has_stripe_left}
use Rattle.pblk_world.specs.Starts.{bound_by, found_row, older_row, older_rows, has_landed_start, newest_start, seq_in, seq_of}
use Rattle.pblk_world.specs.Space.{full_data, unplaced_in, open_addresses, free_addresses, addresses, is_due, placed_front, ring_limit, position_limit, room}
use Rattle.pblk_world.specs.Victims.{line_of_position, line_of, is_live_in, live, take_before, landed_line, landed_line_of, took_from, taken_up_to, position_in, positions_in, is_failed_in, Candidate, better, may_be_collected, candidate_of, candidate, next_victim, is_freed, comes_to_work, stays_at_work, victim, engine_prefix}
use Rattle.pblk_model.proofs.Maps.{made_same}
use Rattle.pblk_model.proofs.Numbers.{fun_same}
use Rattle.world_laws.specs.SameTold.{AreSameTold}
use Rattle.world_laws.proofs.ToldImages.{by_three, image_same, told_then}

-- ---- lines

number_told : (i : Image) (a b : Logs) → AreSameTold i a b → (life : LineLife) (line : ℕ) → has_number i b life line ≡ has_number i a life line
number_told i a b h AsFound line = ap (λ (f : Image). is_some (start_of f line)) h.found
number_told i a b h (Opened o) line = refl
number_told i a b h (Freed was knows) line = refl

pub free_told : (i : Image) (a b : Logs) → AreSameTold i a b → (line : ℕ) → is_free_line i b line ≡ is_free_line i a line
free_told i a b h line =
    by_three i a b (λ log found known. not (has_number i b (life_of log line) line) && are_empty known line && nat_lt 0 (line_data known line)) h
    ∙ ap (λ n. not n && are_empty (known_image i a) line && nat_lt 0 (line_data (known_image i a) line)) (number_told i a b h (life_of (a 0) line) line)

pub over_told : (i : Image) (a b : Logs) → AreSameTold i a b → (line : ℕ) → are_over i b line ≡ are_over i a line
over_told i a b h line = by_three i a b (λ log found known. list_all (λ c. is_over_state (is_as_found (life_of log line)) c.state) (chunks_of known line)) h

pub left_told : (i : Image) (a b : Logs) → AreSameTold i a b → (line : ℕ) → has_stripe_left i b line ≡ has_stripe_left i a line
left_told i a b h line = ap₂ (λ (log : List Logged) over. is_opened (life_of log line) && not over) h.own (over_told i a b h line)

found_row_told : (i : Image) (a b : Logs) → AreSameTold i a b → (line : ℕ) (start : Option StartRecord) → found_row i b line start ≡ found_row i a line start
found_row_told i a b h line None = refl
found_row_told i a b h line (Some start) =
    by_three i a b (λ log found known. Some (record { line = line; seq = start.seq; bound = bound_by (head found) (first_position log) line start.seq })) h

older_row_told : (i : Image) (a b : Logs) → AreSameTold i a b → (line : ℕ) → older_row i b line ≡ older_row i a line
older_row_told i a b h line =
    by_three i a b (λ log found known. if is_as_found (life_of log line) then found_row i b line (start_of found line) else None) h
    ∙ ap (λ (row : Option Row). if is_as_found (life_of (a 0) line) then row else None) (found_row_told i a b h line (start_of (found_image i a) line))

pub rows_told : (i : Image) (a b : Logs) → AreSameTold i a b → older_rows i b ≡ older_rows i a
rows_told i a b h = made_same (older_row i b) (older_row i a) (older_row_told i a b h) (range_with_len 0 i.shape.chunks)

pub newest_told : (i : Image) (a b : Logs) → AreSameTold i a b → newest_start i b ≡ newest_start i a
newest_told i a b h =
    by_three i a b (λ log found known. last_or (head found) (map (λ (o : Opening). o.start) (filter (has_landed_start i.shape log) (openings log)))) h

seq_in_told : (i : Image) (a b : Logs) → AreSameTold i a b → (life : LineLife) (line : ℕ) → seq_in i b life line ≡ seq_in i a life line
seq_in_told i a b h AsFound line = ap (λ (f : Image). option_map (λ start. start.seq) (start_of f line)) h.found
seq_in_told i a b h (Opened o) line = refl
seq_in_told i a b h (Freed was knows) line = refl

pub seq_told : (i : Image) (a b : Logs) → AreSameTold i a b → (line : ℕ) → seq_of i b line ≡ seq_of i a line
seq_told i a b h line = ap (λ (log : List Logged). seq_in i b (life_of log line) line) h.own ∙ seq_in_told i a b h (life_of (a 0) line) line

-- ---- room

pub free_addresses_told : (i : Image) (a b : Logs) → AreSameTold i a b → free_addresses i b ≡ free_addresses i a
free_addresses_told i a b h = ap (λ f. sum_by f (range_with_len 0 i.shape.chunks))
    (fun_same (λ line. if is_free_line i b line then line_data (known_image i b) line else 0)
    (λ line. if is_free_line i a line then line_data (known_image i a) line else 0)
    (λ line. ap₂ (λ free (known : Image). if free then line_data known line else 0) (free_told i a b h line) (image_same i a b h)))

pub open_told : (i : Image) (a b : Logs) → AreSameTold i a b → open_addresses i b ≡ open_addresses i a
open_told i a b h = ap (λ (log : List Logged). sum_by (λ line. unplaced_in i.shape log (life_of log line)) (range_with_len 0 i.shape.chunks)) h.own

pub addresses_told : (i : Image) (a b : Logs) → AreSameTold i a b → addresses i b ≡ addresses i a
addresses_told i a b h = ap₂ (λ m n. m + n) (open_told i a b h) (free_addresses_told i a b h)

pub due_told : (i : Image) (a b : Logs) → AreSameTold i a b → is_due i b ≡ is_due i a
due_told i a b h = ap (λ n. nat_le n (3 * full_data i.shape)) (free_addresses_told i a b h)

pub room_told : (i : Image) (a b : Logs) → AreSameTold i a b → room i b ≡ room i a
room_told i a b h =
    ap₂ (λ (log : List Logged) n.
    min (min (ring_limit i.shape log) (placed_front i.shape log + (n - 2 * full_data i.shape) / i.shape.ws_opt)) (position_limit log))
    h.own (addresses_told i a b h)

-- ---- what is live

line_told : (i : Image) (a b : Logs) → AreSameTold i a b → (lba : ℕ) (t : Option Taken) → line_of i b lba t ≡ line_of i a lba t
line_told i a b h lba None =
    by_three i a b (λ log found known.
    option_and_then (λ (r : Record). if is_as_found (life_of log r.line) then Some r.line else None) (winner (counted found) lba)) h
line_told i a b h lba (Some t) = ap (λ (log : List Logged). line_of_position i.shape log t.entry.position) h.own

pub live_in_told : (i : Image) (a b : Logs) → AreSameTold i a b → (line lba : ℕ) → is_live_in i b line lba ≡ is_live_in i a line lba
live_in_told i a b h line lba =
    ap (λ (log : List Logged). is_of line (line_of i b lba (last_take log lba))) h.own ∙ ap (is_of line) (line_told i a b h lba (last_take (a 0) lba))

pub live_told : (i : Image) (a b : Logs) → AreSameTold i a b → (line : ℕ) → live i b line ≡ live i a line
live_told i a b h line =
    ap (λ f. length (filter f (range_with_len 0 i.shape.capacity))) (fun_same (is_live_in i b line) (is_live_in i a line) (live_in_told i a b h line))

landed_told : (i : Image) (a b : Logs) → AreSameTold i a b → (lba : ℕ) (t : Option Taken) → landed_line_of i b lba t ≡ landed_line_of i a lba t
landed_told i a b h lba None = line_told i a b h lba None
landed_told i a b h lba (Some t) = ap (λ (log : List Logged). landed_line i.shape log t.entry.position) h.own

took_told : (i : Image) (a b : Logs) → AreSameTold i a b → (line : ℕ) (t : Taken) → took_from i b line t ≡ took_from i a line t
took_told i a b h line t =
    ap (λ (log : List Logged). nat_lt t.mark.lba i.shape.capacity && is_of line (landed_line_of i b t.mark.lba (take_before log t))) h.own
    ∙ ap (λ o. nat_lt t.mark.lba i.shape.capacity && is_of line o) (landed_told i a b h t.mark.lba (take_before (a 0) t))

pub takers_told : (i : Image) (a b : Logs) → AreSameTold i a b → (line : ℕ) → taken_up_to i b line ≡ taken_up_to i a line
takers_told i a b h line =
    ap₂ (λ f (log : List Logged). option_map_or (λ (t : Taken). t.entry.position + 1) (last_or None (filter f (takes log))) 0)
    (λ k t. took_told i a b h line t k) h.own

-- ---- the victim

pub positions_told : (i : Image) (a b : Logs) → AreSameTold i a b → (life : LineLife) (line : ℕ) → positions_in i b life line ≡ positions_in i a life line
positions_told i a b h AsFound line = ap (λ (f : Image). map (λ (r : Record). r.position) (filter (λ r. r.line == line) (counted f))) h.found
positions_told i a b h (Opened o) line =
    ap (λ (known : Image). filter_map (position_in i.shape) (flat_map (λ (c : Chunk). c.blocks) (chunks_of known line))) (image_same i a b h)
positions_told i a b h (Freed was knows) line = refl

failed_told : (i : Image) (a b : Logs) → AreSameTold i a b → (life : LineLife) (line : ℕ) → is_failed_in i b life line ≡ is_failed_in i a life line
failed_told i a b h AsFound line = ap (λ (f : Image). option_map_or (λ start. is_none (end_of f line start)) (start_of f line) false) h.found
failed_told i a b h (Opened o) line = ap (λ (log : List Logged). has_failed log o) h.own
failed_told i a b h (Freed was knows) line = refl

-- the positions that count in a line, and whether it is Failed, by its life
in_line_told : {X : Type 0} (f : Logs → LineLife → X) (a b : Logs) (line : ℕ) → b 0 ≡ a 0 → ((life : LineLife) → f b life ≡ f a life)
    → f b (life_of (b 0) line) ≡ f a (life_of (a 0) line)
in_line_told f a b line own each = ap (λ (log : List Logged). f b (life_of log line)) own ∙ each (life_of (a 0) line)

test_told : (i : Image) (a b : Logs) → AreSameTold i a b → (newest : StartRecord) (line seq : ℕ)
    → may_be_collected i b newest line seq ≡ may_be_collected i a newest line seq
test_told i a b h newest line seq =
    ap₂ (λ over (positions : List ℕ). over && nat_lt seq newest.seq && list_all (λ position. nat_lt position newest.front) positions
    && nat_le (live i b line + i.shape.ws_opt) (line_data (known_image i b) line))
    (over_told i a b h line) (in_line_told (λ logs life. positions_in i logs life line) a b line h.own (λ life. positions_told i a b h life line))
    ∙ ap₂ (λ n (known : Image). are_over i a line && nat_lt seq newest.seq
    && list_all (λ position. nat_lt position newest.front) (positions_in i a (life_of (a 0) line) line) && nat_le (n + i.shape.ws_opt) (line_data known line))
    (live_told i a b h line) (image_same i a b h)

candidate_of_told : (i : Image) (a b : Logs) → AreSameTold i a b → (newest : StartRecord) (line seq : ℕ)
    → candidate_of i b newest line seq ≡ candidate_of i a newest line seq
candidate_of_told i a b h newest line seq =
    ap₂ (λ test (c : Candidate). if test then Some c else None) (test_told i a b h newest line seq)
    (ap₂ (λ failed n. record { line = line; failed = failed; live = n; seq = seq })
    (in_line_told (λ logs life. is_failed_in i logs life line) a b line h.own (λ life. failed_told i a b h life line)) (live_told i a b h line))

candidate_told : (i : Image) (a b : Logs) → AreSameTold i a b → (line : ℕ) → candidate i b line ≡ candidate i a line
candidate_told i a b h line =
    ap₂ (λ (f : StartRecord → ℕ → Option Candidate) (seq : Option ℕ). option_and_then (λ newest. option_and_then (f newest) seq) (newest_start i b))
    (λ k newest seq. candidate_of_told i a b h newest line seq k) (seq_told i a b h line)
    ∙ ap (option_and_then (λ newest. option_and_then (candidate_of i a newest line) (seq_of i a line))) (newest_told i a b h)

next_told : (i : Image) (a b : Logs) → AreSameTold i a b → next_victim i b ≡ next_victim i a
next_told i a b h = ap (λ cs. option_map (λ (c : Candidate). c.line) (fold better None cs))
    (made_same (candidate i b) (candidate i a) (candidate_told i a b h) (range_with_len 0 i.shape.chunks))

comes_told : (i : Image) (a b : Logs) → AreSameTold i a b → comes_to_work i b ≡ comes_to_work i a
comes_told i a b h = ap₂ (λ due (next : Option ℕ). if due then next else None) (due_told i a b h) (next_told i a b h)

stays_told : (i : Image) (a b : Logs) → AreSameTold i a b → (was : Option ℕ) → stays_at_work i b was ≡ stays_at_work i a was
stays_told i a b h None = comes_told i a b h
stays_told i a b h (Some line) =
    ap₂ (λ (log : List Logged) (next : Option ℕ). if is_freed (life_of log line) then next else Some line) h.own (comes_told i a b h)

pub victim_told : (i : Image) (a b : Logs) → AreSameTold i a b → (n : ℕ) → victim i b n ≡ victim i a n
unfolding victim
victim_told i a b h zero = refl
victim_told i a b h (suc n) =
    ap (stays_at_work i (engine_prefix (suc n) b)) (victim_told i a b h n)
    ∙ stays_told i (engine_prefix (suc n) a) (engine_prefix (suc n) b) (told_then i a b (suc n) h) (victim i a n)
