use Rattle.std.proofs.Common.{◌≡◌, ◌⊎◌, inl, inr, ℕ, ◌+◌, ◌-◌, ◌^◌, ◌<◌, ◌≤◌, ◌&&◌, nat_lt, max, Some, Bool, true, false, length, refl, sym, ◌∙◌, arith}
use Rattle.std.specs.Prelude.{slice_get}
use Rattle.std.proofs.lemmas.Option.{slice_get_within}
use Rattle.pblk_world.specs.World.{log_of}
use Rattle.line_table.specs.declared.row.Row.{Row}
use Rattle.line_table.specs.Rows.{free_addresses}
use Rattle.stripe_placer.specs.Entries.{waiting}
use Rattle.write_window.specs.Window as view
use Rattle.core_laws.specs.RowsOf.{row_of_line}
use Rattle.pblk_model.proofs.Tests.{lt_true}
use Rattle.pblk_core.specs.declared.target_core.Core.{Core}
use Rattle.pblk_core.specs.Collecting.{IsCollecting}
use Rattle.pblk_core.specs.Copies.{copy_due, is_due_in}
use Rattle.pblk_core.proofs.CopiesDue.{due_by, victim_has_row}
use Rattle.pblk_core.proofs.SmallGrant.{IsSmall, small}
use Rattle.pblk_core.proofs.target_core.Core.is_copy_due.Goals as goal

pub live-has_live-requires : goal.live-has_live-requires
live-has_live-requires c = slice_get_within c.args.self.now.lines.rows c.in-Some.line _
    (victim_has_row c.requires.collecting.image c.requires.collecting.world c.args.self.now c.requires.collecting.legal
    c.requires.collecting.stands c.requires.collecting.collects c.in-Some.line c.in-Some.is)

pub overflow_add-addresses : goal.overflow_add-addresses
overflow_add-addresses c =
    let is : IsSmall c.args.self.now =
    small c.requires.collecting.image c.requires.collecting.world c.args.self.now
    c.requires.collecting.legal
    c.requires.collecting.stands in
    let a : c.args.self.now.left ≤ 2 ^ 26 = is.left in
    let b : free_addresses c.args.self.now.lines ≤ 2 ^ 26 = is.free in
    let same : c.free_addresses.result ≡ free_addresses c.args.self.now.lines = c.free_addresses.ensures in
    omega arith

-- what the calls tell
asked : (c : Core) (is : IsCollecting c) (line : ℕ) (due : Bool) (has_live taken_ limit waits free : ℕ) → c.collection.victim ≡ Some line
    → due ≡ is_due_in c → ((row : Row) → slice_get c.lines.rows line ≡ Some row → has_live ≡ row.live)
    → taken_ ≡ view.taken c.window → limit ≡ max (2 ^ 61 - 2) c.first → waits ≡ length (waiting c.placer.entries)
    → free ≡ free_addresses c.lines → copy_due c ≡ (due && (nat_lt 0 has_live && (nat_lt taken_ limit && nat_lt waits (c.left + free))))
asked c is line due has_live taken_ limit waits free at_work d l t m n f =
    let row = victim_has_row is.image is.world c is.legal is.stands is.collects line at_work in
    due_by c line (row_of_line is.image (log_of is.world) line) due has_live taken_ limit waits free at_work row d
    (l (row_of_line is.image (log_of is.world) line) row) t m n f

last_test : (a b d e : Bool) → a ≡ true → b ≡ true → d ≡ true → e ≡ (a && (b && (d && e)))
last_test true true true e p q r = refl
last_test true true false e p q r = absurd cc
last_test true false d e p q r = absurd cc
last_test false b d e p q r = absurd cc

pub returns-then-taken-limit : goal.returns-then-taken-limit
returns-then-taken-limit c =
    last_test c.is_due.result (nat_lt 0 c.live-has_live.result) (nat_lt c.taken-taken.result c.max-limit.result) _ c.if-taken-limit.true.0
    (lt_true 0 c.live-has_live.result c.if-taken-limit.true.1) (lt_true c.taken-taken.result c.max-limit.result c.if-taken-limit.true.2)
    ∙ sym (asked c.args.self.now c.requires.collecting c.in-Some.line c.is_due.result c.live-has_live.result c.taken-taken.result c.max-limit.result
    c.waiting-waiting.result c.free_addresses.result c.in-Some.is c.is_due.ensures.tables c.live-has_live.ensures c.taken-taken.ensures c.max-limit.ensures
    c.waiting-waiting.ensures c.free_addresses.ensures)

not_chosen : (due : Bool) (n t m : ℕ) (e : Bool) → ((due ≡ true) × (0 < n) × (m ≤ t)) ⊎ (((due ≡ true) × (n ≤ 0)) ⊎ (due ≡ false))
    → (due && (nat_lt 0 n && (nat_lt t m && e))) ≡ false
not_chosen due n t m e (inl is) = grind arith
not_chosen due n t m e (inr (inl is)) = grind arith
not_chosen due n t m e (inr (inr is)) = grind arith

pub returns-else-taken-limit : goal.returns-else-taken-limit
returns-else-taken-limit c =
    let none = not_chosen c.is_due.result c.live-has_live.result c.taken-taken.result c.max-limit.result
    (nat_lt c.waiting-waiting.result (c.args.self.now.left + c.free_addresses.result))
    c.if-taken-limit.either in
    let all = asked c.args.self.now c.requires.collecting c.in-Some.line c.is_due.result c.live-has_live.result c.taken-taken.result c.max-limit.result
    c.waiting-waiting.result c.free_addresses.result c.in-Some.is c.is_due.ensures.tables c.live-has_live.ensures c.taken-taken.ensures c.max-limit.ensures
    c.waiting-waiting.ensures c.free_addresses.ensures in
    cc
