use Rattle.std.proofs.Common.{ℕ, ◌≡◌, ◌<◌, ◌^◌, ◌&&◌, not, Bool, Some, List, [], length, sym, subst, ap, ◌∙◌}
use Rattle.std.specs.FinMap as fin
use Rattle.std.proofs.lemmas.Option.{same_Some}
use Rattle.pblk_model.specs.Image.{Image}
use Rattle.pblk_world.specs.EngineLog.{Taken, taken_by}
use Rattle.pblk_world.specs.Events.{EngineEvent, Decides, Take}
use Rattle.pblk_world.specs.World.{World, Logs, log_of}
use Rattle.pblk_world.specs.LegalMounts.{IsLegalMount}
use Rattle.core_laws.specs.Stepping.{after}
use Rattle.pblk_core.specs.Collecting.{HasPassed, weighed}
use Rattle.pblk_core.specs.Copies.{is_copying}
use Rattle.pblk_core.specs.Keeping.{still_copying}
use Rattle.pblk_core.specs.Named.{pad_of}
use Rattle.pblk_core.specs.Stands.{Stands}
use Rattle.pblk_core.specs.Taken.{entry_of, mark_of}
use Rattle.pblk_core.specs.declared.collecting.Collection.{Collection}
use Rattle.pblk_core.specs.declared.target_core.Core.{Core}
use Rattle.pblk_core.proofs.Collected.{collected}
use Rattle.pblk_core.proofs.KeptStripes.{taking_chosen}
use Rattle.pblk_core.proofs.SmallCalls.{collecting_stands}
use Rattle.pblk_core.proofs.BarrenLines.{barren_but}
use Rattle.pblk_core.proofs.TabledLines.{tabled_by_logs, tabled_same}
use Rattle.pblk_core.proofs.target_core.Core.take.Goals as goal

-- What is collected once the entry is in the tables: all but whether a copy is under way, and
-- whether it is known that no line may be collected, is as it was.
record IsEnded (old entered ended : Core) : Type 0 where
  whole : ended ≡ record entered { collection = ended.collection }
  own : ended.collection ≡ record entered.collection { under_way = ended.collection.under_way; barren = ended.collection.barren }
  same : entered.collection ≡ old.collection

module _ (old entered ended : Core) (is : IsEnded old entered ended) where
  stands_ended : (i : Image) (logs : Logs) → Stands i logs entered → Stands i logs ended
  stands_ended i logs st = subst (Stands i logs) (sym is.whole) (collecting_stands i logs entered ended.collection st)

  same_count : length ended.collection.lines ≡ length old.collection.lines
  same_count = ap (λ (k : Collection). length k.lines) is.own ∙ ap (λ (k : Collection). length k.lines) is.same

  same_victim : ended.collection.victim ≡ old.collection.victim
  same_victim = ap (λ (k : Collection). k.victim) is.own ∙ ap (λ (k : Collection). k.victim) is.same

  passed_ended : HasPassed entered → HasPassed ended
  passed_ended was = λ lba line at position below at_work there. was lba line at position
      (subst (λ (k : Collection). lba < k.cursor) is.own below)
      (sym (ap (λ (k : Collection). k.victim) is.own) ∙ at_work)
      (sym (ap (λ (x : Core). fin.get x.map lba) is.whole) ∙ there)

-- by what the calls before the choice left
ended_by : (old entered looked ended : Core) (barren copying : Bool) → entered.collection ≡ old.collection
    → looked ≡ record entered { collection = record entered.collection { barren = barren } }
    → ended ≡ record looked { collection = record looked.collection { under_way = copying } } → IsEnded old entered ended
ended_by old entered looked ended barren copying same look is =
    let same_collection : ended.collection ≡ record looked.collection { under_way = copying } = ap (λ (x : Core). x.collection) is in
    let whole : ended ≡ record looked { collection = ended.collection } = is
    ∙ ap (λ (k : Collection). record looked { collection = k }) (sym same_collection) in
    let own : ended.collection ≡ record looked.collection { under_way = ended.collection.under_way } =
    same_collection ∙ ap (λ b. record looked.collection { under_way = b }) (sym (ap (λ (k : Collection). k.under_way) same_collection)) in
    let told : ended.collection.barren ≡ barren = ap (λ (k : Collection). k.barren) own ∙ ap (λ (x : Core). x.collection.barren) look in
    record {
      whole = whole ∙ ap (λ (x : Core). record x { collection = ended.collection }) look;
      own = own ∙ ap (λ (x : Core). record x.collection { under_way = ended.collection.under_way }) look
          ∙ ap (λ b. record entered.collection { under_way = ended.collection.under_way; barren = b }) (sym told);
      same = same;
    }

pub returns : goal.returns
returns c = record {
  stands = λ i w knows mount st. c.choose.ensures.stands i (new_logs w knows) (stands_now i w knows mount st);
  collects = λ i w knows mount st was. collected old ended chosen i w event knows mount st was few (λ line at_work same. absurd cc)
      (same_count old entered ended is) (same_victim old entered ended is) (record {
        stands = c.choose.ensures.stands i (new_logs w knows) (stands_now i w knows mount st);
        count = c.choose.ensures.count;
        victim = c.choose.ensures.victim i w (new_logs w knows) mount (stands_now i w knows mount st);
        passed = c.choose.ensures.passed (passed_ended old entered ended is (c.enter-loser.ensures.passed was.passed));
        barren = c.choose.ensures.barren;
        asked = c.choose.ensures.asked;
      });
  legal = c.enter-loser.ensures.legal;
  pushed = ap (λ (x : Core). x.window) c.choose.ensures.rest ∙ ap (λ (x : Core). x.window) is.whole ∙ c.enter-loser.ensures.pushed;
  kept = taking_chosen old ended chosen (ap (λ (x : Core). pad_of x) is.whole ∙ c.enter-loser.ensures.pad) c.choose.ensures.asked
      c.choose.ensures.rows c.choose.ensures.copying c.args.entry.class (ap (λ (x : Core). x.placer.units) is.whole ∙ c.enter-loser.ensures.rows)
      (ap (λ (x : Core). is_copying x) c.end_copy.ensures
      ∙ ap (λ (x : Core). still_copying c.args.entry.class (is_copying x)) c.look_again.ensures
      ∙ ap (λ (k : Collection). still_copying c.args.entry.class k.under_way) c.enter-loser.ensures.collection);
}
  where
    old : Core
    old = c.args.self.now

    entered : Core
    entered = c.enter-loser.new.self

    ended : Core
    ended = c.end_copy.new.self

    chosen : Core
    chosen = c.choose.new.self

    is : IsEnded old entered ended
    is = ended_by old entered c.look_again.new.self ended _ _ c.enter-loser.ensures.collection c.look_again.ensures c.end_copy.ensures

    event : EngineEvent
    event = Take (entry_of c.args.entry) (mark_of c.args.self.now.map c.args.entry)

    new_logs : World → List ℕ → Logs
    new_logs w knows = after (log_of w) event knows

    stands_now : (i : Image) (w : World) (knows : List ℕ) → IsLegalMount i w → Stands i (log_of w) c.args.self.now
        → Stands i (after (log_of w) (Take (entry_of c.args.entry) (mark_of c.args.self.now.map c.args.entry)) knows) c.end_copy.new.self
    stands_now i w knows mount st = stands_ended old entered ended is i (new_logs w knows) (c.enter-loser.ensures.stands i w knows mount st)

    few : (t : Taken) → taken_by (Decides (Take (entry_of c.args.entry) (mark_of c.args.self.now.map c.args.entry))) ≡ Some t → t.entry.position < 2 ^ 62
    few t one = subst (λ (u : Taken). u.entry.position < 2 ^ 62) (same_Some _ t one) c.requires.position

pub enter-loser-requires-clause-standing : goal.enter-loser-requires-clause-standing
enter-loser-requires-clause-standing c = record {
  image = c.requires.collecting.image;
  world = c.requires.collecting.world;
  legal = c.requires.collecting.legal;
  stands = c.requires.collecting.stands;
}

pub enter-loser-requires-clause-can : goal.enter-loser-requires-clause-can
enter-loser-requires-clause-can c = record {
  next = c.requires.next;
  position = c.requires.position;
  room = c.requires.room;
  class = c.requires.class;
  lba = c.requires.lba;
}

pub choose-requires : goal.choose-requires
choose-requires c =
    let was = c.requires.collecting in
    let logs : Logs = after (log_of was.world) (Take (entry_of c.args.entry) (mark_of c.args.self.now.map c.args.entry)) [] in
    let old : Core = c.args.self.now in
    let entered : Core = c.enter-loser.new.self in
    let ended : Core = c.end_copy.new.self in
    let is : IsEnded old entered ended =
    ended_by old entered c.look_again.new.self ended _ _ c.enter-loser.ensures.collection c.look_again.ensures c.end_copy.ensures in
    record {
      tabled = tabled_by_logs old ended was logs
          (stands_ended old entered ended is was.image logs (c.enter-loser.ensures.stands was.image was.world [] was.legal was.stands))
          (same_count old entered ended is) (λ line at_work. sym (same_victim old entered ended is) ∙ at_work);
      barren = barren_but old entered ended c.enter-loser.result c.may_collect-may_be.result was.collects.barren c.enter-loser.ensures.brings
          (λ was_barren. c.may_collect-may_be.ensures (ap (λ (k : Collection). k.barren) c.enter-loser.ensures.collection ∙ was_barren))
          (ap (λ (x : Core). x.collection.barren) c.end_copy.ensures ∙ ap (λ (x : Core). x.collection.barren) c.look_again.ensures
          ∙ ap (λ (k : Collection). k.barren && not c.may_collect-may_be.result) c.enter-loser.ensures.collection)
          (λ line none. ap (λ (x : Core). weighed x line) is.whole ∙ none);
    }

-- the line that lost a sector is weighed
pub may_collect-may_be-requires : goal.may_collect-may_be-requires
may_collect-may_be-requires c =
    let was = c.requires.collecting in
    record {
      tabled = tabled_same c.args.self.now c.enter-loser.new.self was _
          (c.enter-loser.ensures.stands was.image was.world [] was.legal was.stands) c.enter-loser.ensures.collection;
      inside = c.enter-loser.ensures.inside;
    }
