-- What is kept at a length of the log of a mount, once no user's entry is taken any more.
use Rattle.std.proofs.Common.{None, Option, Some, ap, arith, inl, inr, refl, subst, sym, take, ℕ, ◌*◌, ◌+◌, ◌<◌, ◌∙◌, ◌≡◌, ◌≤◌, ◌⊎◌}
use Rattle.std.proofs.Math.Nat.{mul-le-mul_left}
use Rattle.pblk_model.specs.Image.{Image}
use Rattle.pblk_model.specs.Shape.{units}
use Rattle.pblk_model.specs.declared.chunk.Mark.{Mark}
use Rattle.pblk_model.proofs.Maps.{few_pass}
use Rattle.pblk_world.specs.AtRest.{logs_at}
use Rattle.pblk_world.specs.Events.{Entry}
use Rattle.pblk_world.specs.Fronts.{taken}
use Rattle.pblk_world.specs.Lines.{is_free_line}
use Rattle.pblk_world.specs.Orders.{AreReset}
use Rattle.pblk_world.specs.Space.{full_data, open_addresses, placed_front}
use Rattle.pblk_world.specs.Victims.{engine_prefix, live}
use Rattle.pblk_world.specs.World.{Logs, World, log_of}
use Rattle.room_law.specs.Counting.{Victim, at_work, live_of}
use Rattle.rest_laws.specs.Copies.{TookCopy}
use Rattle.rest_laws.specs.RoomRuns.{AreBegunAt, IsReasonedMount, IsVictimOf}
use Rattle.rest_laws.specs.RoomSteps.{free_lines, is_unreset, stripes_left, unreset_chunks, unreset_lines}
use Rattle.rest_laws.proofs.RoomyShapes.{eight_stripes}
use Rattle.rest_laws.proofs.RunNumbers.{AreNumbers}
use Rattle.rest_laws.specs.Work.{work_of}
use Rattle.settle_laws.specs.Quiet.{IsQuietFrom, line_stripes}
use Rattle.settle_laws.proofs.Counts.{frees}
use Rattle.settle_laws.proofs.Sums.{Credits, Drive, IsDrive, Kept, Numbers, alike}

-- A mount in which no user's entry is taken from a length of its log on, and in which copies are
-- begun from there on where no reset is left to be made.
pub record IsQuietMount (i : Image) (w : World) (at : ℕ → ℕ) (from : ℕ) : Type 0 where
  pub is : IsReasonedMount i w
  pub turns : AreBegunAt i (log_of w) at
  pub first : 0 < from
  pub quiet : IsQuietFrom (log_of w) from
  pub reset : (number : ℕ) (entry : Entry) (mark : Mark) → TookCopy (log_of w 0) number entry mark → from ≤ at number
      → AreReset i (logs_at (at number) (log_of w))

-- ---- numbers

-- the sizes, where all addresses of lines are told by those that are left at a length
abbrev pub sizes_from : (i : Image) (w : World) (from : ℕ) → Drive
sizes_from i w from = record {
  stripe = i.shape.ws_opt;
  line = full_data i.shape;
  stripes = line_stripes i.shape;
  units = units i.shape;
  most = open_addresses i (engine_prefix from (log_of w)) + (2 * i.shape.chunks + 2) * full_data i.shape;
}

pub are_sizes : {i : Image} {w : World} {at : ℕ → ℕ} {from : ℕ} → IsQuietMount i w at from → IsDrive (sizes_from i w from)
are_sizes {i} q = record {
  some = q.is.mount.accepted.drive.ws_opt;
  long = omega (arith, eight_stripes i.shape q.is.mount.accepted);
}

-- the position past that of the first entry that is taken from a length on
abbrev pub early_end : (w : World) (from : ℕ) → ℕ
early_end w from = taken (take from (log_of w 0)) + 1

-- the numbers at a length, with this victim at work
abbrev pub numbers_at : (i : Image) (w : World) (n : ℕ) → Option Victim → Numbers
numbers_at i w n v = record {
  done = work_of (take n (log_of w 0));
  stripes = stripes_left i (engine_prefix n (log_of w));
  chunks = unreset_chunks i (engine_prefix n (log_of w));
  left = open_addresses i (engine_prefix n (log_of w));
  free = free_lines i (engine_prefix n (log_of w));
  resetting = unreset_lines i (engine_prefix n (log_of w));
  placed = placed_front i.shape (take n (log_of w 0));
  taken = taken (take n (log_of w 0));
  working = at_work v;
  live = live_of v;
}

-- all but the victim's of some numbers are those at a length
pub record AreNumbersAt (i : Image) (w : World) (n : ℕ) (y : Numbers) : Type 0 where
  pub done : y.done ≡ work_of (take n (log_of w 0))
  pub stripes : y.stripes ≡ stripes_left i (engine_prefix n (log_of w))
  pub chunks : y.chunks ≡ unreset_chunks i (engine_prefix n (log_of w))
  pub others : AreNumbers i (engine_prefix n (log_of w)) y.left y.free y.resetting y.placed y.taken

-- what is kept of them is kept there
pub kept_at : {i : Image} {w : World} {n : ℕ} {z : Drive} {old total : ℕ} {c : Credits} {y : Numbers} (v : Option Victim) → Kept z old total c y
    → AreNumbersAt i w n y → y.working ≡ at_work v → y.live ≡ live_of v → Kept z old total c (numbers_at i w n v)
kept_at {i} {w} {n} {z} {old} {total} {c} {y} v k are works lives =
    subst (Kept z old total c) (alike y (numbers_at i w n v) are.done are.stripes are.chunks are.others.left_is are.others.free_is
    are.others.resetting_is are.others.placed_is are.others.taken_is works lives) k

-- a line at work is a victim, and has its live sectors
pub victim_works : (i : Image) (logs : Logs) (line : ℕ) (v : Option Victim) → IsVictimOf i logs (Some line) v
    → (at_work v ≡ 1) × (live_of v ≡ live i logs line)
victim_works i logs line None h = absurd h
victim_works i logs line (Some v) h = (refl, h)

pub no_victim_works : (i : Image) (logs : Logs) (v : Option Victim) → IsVictimOf i logs None v → (at_work v ≡ 0) × (live_of v ≡ 0)
no_victim_works i logs None h = (refl, refl)
no_victim_works i logs (Some v) h = absurd h

-- ---- copies

-- no line was freed from a length to another, or a stripe may be padded for that
abbrev pub NoneFreed : (w : World) (since n credit : ℕ) → Type 0
NoneFreed w since n credit = (frees (take since (log_of w 0)) ≡ frees (take n (log_of w 0))) ⊎ (1 ≤ credit)

pub none_freed_now : (w : World) (since n credit : ℕ) → since ≡ n → NoneFreed w since n credit
none_freed_now w since n credit same = inl (ap (λ k. frees (take k (log_of w 0))) same)

-- so it is at a later length to which none was freed, and with more credit
pub none_freed_then : (w : World) (since n later credit more : ℕ) → frees (take later (log_of w 0)) ≡ frees (take n (log_of w 0)) → credit ≤ more
    → NoneFreed w since n credit → NoneFreed w since later more
none_freed_then w since n later credit more same few (inl none) = inl (none ∙ sym same)
none_freed_then w since n later credit more same few (inr one) = inr (omega (arith, few, one))

-- A copy past the first entries that waits at a length, or is under way there: no line was freed
-- since it was begun, or a stripe may be padded for that.
abbrev pub Waits : (i : Image) (w : World) (at : ℕ → ℕ) (from n credit : ℕ) → Type 0
Waits i w at from n credit = (m : ℕ) (entry : Entry) (mark : Mark) → TookCopy (log_of w 0) m entry mark → early_end w from ≤ entry.position → m < n
    → placed_front i.shape (take n (log_of w 0)) ≤ entry.position → NoneFreed w (at m) n credit

abbrev pub Comes : (w : World) (at : ℕ → ℕ) (from n credit : ℕ) → Type 0
Comes w at from n credit = (m : ℕ) (entry : Entry) (mark : Mark) → TookCopy (log_of w 0) m entry mark → early_end w from ≤ entry.position → n ≤ m
    → at m ≤ n → NoneFreed w (at m) n credit

-- ---- what is kept

-- what is kept at a length, where this line is at work as the victim
pub record IsKept (i : Image) (w : World) (at : ℕ → ℕ) (from total n : ℕ) (o : Option ℕ) : Type 0 where
  pub c : Credits
  pub v : Option Victim
  pub kept : Kept (sizes_from i w from) (early_end w from) total c (numbers_at i w n v)
  pub at_it : IsVictimOf i (engine_prefix n (log_of w)) o v
  pub left_low : open_addresses i (engine_prefix n (log_of w)) ≤ open_addresses i (engine_prefix from (log_of w)) + full_data i.shape
  pub waits : Waits i w at from n c.waiting
  pub comes : Comes w at from n c.coming

-- all addresses of lines at a length
pub within_at : (i : Image) (w : World) (from n : ℕ)
    → open_addresses i (engine_prefix n (log_of w)) ≤ open_addresses i (engine_prefix from (log_of w)) + full_data i.shape
    → open_addresses i (engine_prefix n (log_of w))
    + full_data i.shape * (free_lines i (engine_prefix n (log_of w)) + unreset_lines i (engine_prefix n (log_of w))) + full_data i.shape
    ≤ open_addresses i (engine_prefix from (log_of w)) + (2 * i.shape.chunks + 2) * full_data i.shape
within_at i w from n low =
    let free : free_lines i (engine_prefix n (log_of w)) ≤ i.shape.chunks = few_pass (is_free_line i (engine_prefix n (log_of w))) 0 i.shape.chunks in
    let unreset : unreset_lines i (engine_prefix n (log_of w)) ≤ i.shape.chunks = few_pass (is_unreset i (engine_prefix n (log_of w))) 0 i.shape.chunks in
    let all : full_data i.shape * (free_lines i (engine_prefix n (log_of w)) + unreset_lines i (engine_prefix n (log_of w)))
    ≤ full_data i.shape * (2 * i.shape.chunks) =
    mul-le-mul_left (full_data i.shape) (omega arith) in
    omega (arith, low, all)
