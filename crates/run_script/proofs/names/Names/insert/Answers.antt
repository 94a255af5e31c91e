use Rattle.std.proofs.Common.{◌≡◌, ◌||◌, Bool, true, false, cond, refl, ap, ◌∙◌}
use Rattle.std.specs.Str.{bytes_eq}
use Rattle.std.specs.String.{string_bytes}
use Rattle.std.proofs.lemmas.Map.Text.{hash_set_updates_text}
use Rattle.run_script.specs.Names.{holds}
use Rattle.run_script.proofs.names.Names.insert.Goals as goal

chosen : (a b : Bool) → cond a true b ≡ (a || b)
chosen true b = refl
chosen false b = refl

pub returns : goal.returns
returns c =
    let put = c.in_ok-insert.ensures in
    let copied = c.in_ok-name.ensures in
    λ other. hash_set_updates_text (string_bytes c.in_ok-name.name) c.args.self.now.set c.insert.new.self true put.updates other
    ∙ chosen (bytes_eq (string_bytes c.in_ok-name.name) other) (holds c.args.self.now other)
    ∙ ap (λ name. bytes_eq name other || holds c.args.self.now other) copied.ok
