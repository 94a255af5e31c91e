-- What a ring keeps at every moment: its words, the claims of all passes, and the entries.
use Rattle.std.specs.Prelude.{◌≡◌, ◌≢◌, ℕ, List, IsTrue}
use Rattle.atomic_table.specs.Table.{State}
use Rattle.pblk_model.specs.RingState.{Numbers}
use Rattle.write_ring.specs.declared.view.Key.{Key}
use Rattle.write_ring.specs.declared.view.Row.{Row}
use Rattle.write_ring.specs.declared.view.View.{View}
use Rattle.write_ring.specs.Rule.{Words, Seats, AllViews}
use Rattle.write_ring.specs.Stock.{Stock}

-- a pass and the intake know what the ring was made with
pub record HasKey (key : Key) (u : View) : Type 0 where
  pub pass : u.pass.shares ≢ 0 → u.key ≡ key
  pub desk : IsTrue u.intake.on → u.key ≡ key

module _ {S : Type 0} (key : Key) (Free Blank : S → Type 0) (Carries : S → Row → Type 0) (Fits : Row → Type 0) where
  pub record Kept (s : State S View) : Type 0 where
    pub claimed : ℕ
    pub taken : ℕ
    pub freed : ℕ
    pub granted : ℕ
    pub away : ℕ
    pub took : List Row
    pub words : Words key.size s.words claimed freed granted
    pub numbers : Numbers key.first key.size key.reserve claimed taken freed granted
    pub seats : Seats key claimed freed granted s.views
    pub stock : Stock key.size key.first Free Blank Carries Fits s.words s.homes s.views took claimed taken freed away
    pub keys : AllViews (HasKey key) s.views
