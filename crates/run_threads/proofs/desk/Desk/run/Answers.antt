use Rattle.std.proofs.Common.{◌+◌, ◌<◌, take, drop, length, ap, ◌∙◌, arith}
use Rattle.std.proofs.lemmas.List.{drop-set-lt, length-set, take_all}
use Rattle.pblk_model.proofs.Parts.{next_item}
use Rattle.run_threads.proofs.Placed.{take_next}
use Rattle.run_threads.proofs.Running.{as_many_rooms, may_run, starts, steps, whole_buffer}
use Rattle.run_threads.proofs.desk.Desk.run.Goals as goal

pub loop-index-init : goal.loop-index-init
loop-index-init g c =
    let r = c.requires.ready in
    let desk = c.args.self.now in
    record {
      running = rw r.has_room.answers (starts c.args.board.now (g.P.Port.model c.args.port.now) c.args.commands.now desk.rooms.items desk.seat.me.0
          c.requires.fits r.has_room.rooms r.placed r.heard r.past r.within);
      bytes = r.has_room.bytes;
      answered = desk.answers.ok.0 ∙ ap length r.has_room.answers;
      room = r.has_room.room;
      rooms = as_many_rooms c.args.commands.now desk.rooms.items r.has_room.rooms;
      of = r.of;
    }

pub run_command-answer-requires-clause-may : goal.run_command-answer-requires-clause-may
run_command-answer-requires-clause-may g c =
    let l = c.loop-index in
    let now = c.args.commands.now in
    let command = c.index-commands-index.result in
    may_run c.args.board.now (g.P.Port.model c.args.port.now) (g.P.Port.model l.port) (take l.index now) command (drop (l.index + 1) now)
    l.self.answers.items (drop l.index l.self.rooms.items) l.self.seat.me.0
    (rw (next_item now l.index command c.loop-index-test.true c.index-commands-index.is) at l.invariant.running)

pub loop-index-preserved : goal.loop-index-preserved
loop-index-preserved g c =
    let l = c.loop-index in
    let now = c.args.commands.now in
    let rooms = l.self.rooms.items in
    let command = c.index-commands-index.result in
    let ran = c.run_command-answer in
    let as_many = l.invariant.rooms in
    let below : l.index < length rooms = omega (arith, as_many, c.loop-index-test.true) in
    let running = rw (
      next_item now l.index command c.loop-index-test.true c.index-commands-index.is,
      next_item rooms l.index c.index_mut.result.now below c.index_mut.ensures.value,
    ) at l.invariant.running in
    let stepped = steps c.args.board.now (g.P.Port.model c.args.port.now) (g.P.Port.model l.port) (g.P.Port.model ran.new.port) (take l.index now) command
    (drop (l.index + 1) now) l.self.answers.items ran.result c.index_mut.result.now (drop (l.index + 1) rooms) l.self.seat.me.0 ran.new.seat.me.0
    ran.ensures.capacity running ran.ensures.answer ran.ensures.known ran.ensures.next ran.ensures.past in
    record {
      running = rw (
        take_next now l.index command c.loop-index-test.true c.index-commands-index.is,
        c.append.ensures.items,
        drop-set-lt (l.index + 1) rooms l.index c.replace-words.new.dest (omega arith),
      ) stepped;
      bytes = whole_buffer l.self.bytes.len ran.new.bytes l.self.bytes.items ran.ensures.bytes l.invariant.bytes l.self.bytes.ok.0;
      answered = omega (arith, c.append.ensures.len, l.invariant.answered);
      room = omega (arith, c.append.ensures.room, l.invariant.room);
      rooms = length-set rooms l.index c.replace-words.new.dest ∙ as_many;
      of = ran.ensures.of;
    }

pub returns-clause-ran : goal.returns-clause-ran
returns-clause-ran g c = λ at told.
    let l = c.loop-index in
    rw (take_all l.index c.args.commands.now (omega arith)) at (l.invariant.running.runs at told)
