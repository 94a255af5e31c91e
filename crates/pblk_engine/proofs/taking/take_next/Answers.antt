use Rattle.std.proofs.Common.{◌≡◌, ℕ, ◌<◌, ◌^◌, List, refl, sym, subst, ap, ◌∙◌}
use Rattle.std.specs.Prelude.{slice_index}
use Rattle.pblk_world.specs.Events.{Decides, Take}
use Rattle.pblk_world.specs.Legal.{IsAllowed}
use Rattle.sector_pool.specs.declared.entry.Entry.{Entry}
use Rattle.write_ring.specs.Handles.{HasTaken}
use Rattle.write_ring.specs.declared.view.View.{View}
use Rattle.pblk_core.specs.Taken.{entry_of, mark_of}
use Rattle.chronicle.specs.Prefixes.{logs_of}
use Rattle.pblk_engine.specs.Hearts.{Parts, parts}
use Rattle.pblk_engine.proofs.Decisions.{collecting}
use Rattle.pblk_engine.proofs.Takes.{can, may_append}
use Rattle.pblk_engine.proofs.TakesOn.{beating_seen, beating_taken, none_taken, takes_none, takes_one}
use Rattle.pblk_engine.proofs.taking.take_next.Goals as goal

-- the entry's bytes
bytes_fit : (e : Entry) (bytes : List ℕ) → bytes ≡ e.frame.bytes → ((k : ℕ) → slice_index bytes k < 256) → (k : ℕ) → slice_index e.frame.bytes k < 256
bytes_fit e bytes same fit k = subst (λ (xs : List ℕ). slice_index xs k < 256) same (fit k)

pub append-requires : goal.append-requires
append-requires c =
    let h : Parts = parts c.args.core.now c.args.author.now c.args.intake.now.seat.me.0 in
    let e : Entry = c.in-Entry.entry in
    let v : View = c.take.new.intake.seat.me.0 in
    let t : HasTaken h.intake e v = c.in-Entry.ensures.entry c.in-Entry.entry refl in
    let fit = bytes_fit e c.bytes.result.now c.bytes.ensures.bytes c.are_bytes.ensures in
    let b = c.requires.beating in
    record {
      of = c.requires.of;
      allowed = subst (λ n. IsAllowed c.args.author.now.past.image n (Decides (Take (entry_of e) (mark_of c.args.core.now.map e)))
          (logs_of c.args.author.now.known)) (sym b.engine.number) (may_append h b e v t fit);
      quiet = refl;
    }

pub take-requires-in-Entry : goal.take-requires-in-Entry
take-requires-in-Entry c =
    let h : Parts = parts c.args.core.now c.args.author.now c.args.intake.now.seat.me.0 in
    let e : Entry = c.in-Entry.entry in
    let v : View = c.take.new.intake.seat.me.0 in
    let t : HasTaken h.intake e v = c.in-Entry.ensures.entry c.in-Entry.entry refl in
    let fit = bytes_fit e c.bytes.result.now c.bytes.ensures.bytes c.are_bytes.ensures in
    let is = can h c.requires.beating e v t in
    record {
      collecting = collecting h c.requires.beating;
      next = is.next;
      position = is.position;
      room = is.room;
      class = is.class;
      lba = is.lba;
    }

pub returns-in-Entry : goal.returns-in-Entry
returns-in-Entry c =
    let h : Parts = parts c.args.core.now c.args.author.now c.args.intake.now.seat.me.0 in
    let e : Entry = c.in-Entry.entry in
    let v : View = c.take.new.intake.seat.me.0 in
    let t : HasTaken h.intake e v = c.in-Entry.ensures.entry c.in-Entry.entry refl in
    let fit = bytes_fit e c.bytes.result.now c.bytes.ensures.bytes c.are_bytes.ensures in
    let b = c.requires.beating in
    let p = c.take-in-Entry.ensures in
    let key = c.take.ensures.ring.1 ∙ sym c.requires.ring.1 in
    record {
      ring = c.take.ensures.ring;
      beating = beating_taken h b e v t fit c.requires.none c.take-in-Entry.new.self p.stands p.collects p.pushed p.kept key
          c.take.ensures.same_pass c.append.new.self c.append.ensures.appended;
      none = none_taken h b e v t fit c.requires.none c.take-in-Entry.new.self p.stands p.collects p.pushed p.kept key
          c.take.ensures.same_pass c.append.new.self c.append.ensures.appended;
      takes = takes_one h b e v t fit c.requires.none c.take-in-Entry.new.self p.stands p.collects p.pushed p.kept key
          c.take.ensures.same_pass c.append.new.self c.append.ensures.appended c.take.ensures.rises;
      next = λ is. (t.next, subst (λ n. n < 2 ^ 62) t.position t.small);
      all = λ claimed is. absurd cc;
      gap = λ at is. absurd cc;
    }

pub returns-in-Empty : goal.returns-in-Empty
returns-in-Empty c =
    let h : Parts = parts c.args.core.now c.args.author.now c.args.intake.now.seat.me.0 in
    let is = c.in-Empty.ensures.empty c.in-Empty.claimed refl in
    record {
      ring = c.take.ensures.ring;
      beating = beating_seen h c.requires.beating c.take.new.intake.seat.me.0 (c.take.ensures.ring.1 ∙ sym c.requires.ring.1) c.take.ensures.same_pass is.3;
      none = c.requires.none;
      takes = takes_none h (parts c.args.core.now c.args.author.now c.take.new.intake.seat.me.0) refl refl is.3 c.take.ensures.same_pass c.take.ensures.rises;
      next = λ none. absurd cc;
      all = λ claimed same.
          let one : c.in-Empty.claimed ≡ claimed = cc in
          (is.1 ∙ one, sym one ∙ is.0 ∙ sym (ap (λ d. d.taken) is.3));
      gap = λ at same. absurd cc;
    }

pub returns-in-Unfilled : goal.returns-in-Unfilled
returns-in-Unfilled c =
    let h : Parts = parts c.args.core.now c.args.author.now c.args.intake.now.seat.me.0 in
    let is = c.in-Unfilled.ensures.unfilled c.in-Unfilled.at refl in
    record {
      ring = c.take.ensures.ring;
      beating = beating_seen h c.requires.beating c.take.new.intake.seat.me.0 (c.take.ensures.ring.1 ∙ sym c.requires.ring.1) c.take.ensures.same_pass is.3;
      none = c.requires.none;
      takes = takes_none h (parts c.args.core.now c.args.author.now c.take.new.intake.seat.me.0) refl refl is.3 c.take.ensures.same_pass c.take.ensures.rises;
      next = λ none. absurd cc;
      all = λ claimed same. absurd cc;
      gap = λ at same.
          let one : c.in-Unfilled.at ≡ at = cc in
          (sym one ∙ is.0 ∙ sym (ap (λ d. d.taken) is.3), subst (λ n. n < c.take.new.intake.seat.me.0.found.claimed) one is.1);
    }
