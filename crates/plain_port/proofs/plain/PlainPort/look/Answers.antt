use Rattle.std.proofs.Common.{ap, ◌∙◌, sym, arith, ◌≤◌}
use Rattle.block_port.specs.Port.{ModelPort}
use Rattle.plain_port.specs.Plain.{lines_in}
use Rattle.plain_port.proofs.Rising.{rise_later, users_all}
use Rattle.plain_port.proofs.plain.PlainPort.look.Goals as goal

past : (c : goal.After-self-2-1) → c.self.inside.taken ≤ c.next-position.result
past c = let same = ap (λ (p : ModelPort). p.taken) c.self.view_is in omega (arith, c.next-position.ensures.next, same)

pub invariant_of-self : goal.invariant_of-self
invariant_of-self c =
    let old = c.self.invariant in
    record {
      size = old.size;
      contents = old.contents;
      bytes = old.bytes;
      few = old.few;
      lines = old.lines;
      rise = rise_later 0 c.self.inside.taken c.next-position.result (lines_in c.self.inside.own) old.rise (past c);
      taken = c.next-position.ensures.small;
      seen = c.next-position.ensures.small;
    }

pub returns-clause-front : goal.returns-clause-front
returns-clause-front c =
    let old = c.self.invariant in
    record {
      known = omega arith;
      users = old.lines ∙ sym (users_all 0 c.self.inside.taken c.next-position.result (lines_in c.self.inside.own) old.rise (past c));
    }
