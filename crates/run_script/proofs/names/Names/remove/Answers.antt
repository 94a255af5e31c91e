use Rattle.std.proofs.Common.{◌≡◌, ◌&&◌, not, Bool, true, false, cond, refl, ◌∙◌}
use Rattle.std.specs.Str.{bytes_eq}
use Rattle.std.proofs.lemmas.Map.Text.{hash_set_updates_text}
use Rattle.run_script.specs.Names.{holds}
use Rattle.run_script.proofs.names.Names.remove.Goals as goal

chosen : (a b : Bool) → cond a false b ≡ (not a && b)
chosen true b = refl
chosen false b = refl

pub returns : goal.returns
returns c = λ other.
    hash_set_updates_text c.args.name.now c.args.self.now.set c.remove.new.self false c.remove.ensures.updates other
    ∙ chosen (bytes_eq c.args.name.now other) (holds c.args.self.now other)
