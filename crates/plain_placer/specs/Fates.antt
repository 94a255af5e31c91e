-- What became of a stripe, as the definitions have it.
use Rattle.stripe_placer.specs.OpenLines.{Stripe}
use Rattle.stripe_placer.specs.OpenLines.Stripe.{Unplaced, Unanswered, Landed, Lost}
use Rattle.plain_placer.specs.declared.stripe.Fate.{Fate}
use Rattle.plain_placer.specs.declared.stripe.Fate.TheVariants as fate

abbrev pub stripe_of : Fate → Stripe
stripe_of fate.Unplaced = Unplaced
stripe_of fate.Unanswered = Unanswered
stripe_of fate.Landed = Landed
stripe_of fate.Lost = Lost
