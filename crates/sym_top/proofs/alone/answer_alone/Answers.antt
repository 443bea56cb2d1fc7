use Rattle.refusal_lines.specs.declared.exit.Exit.TheVariants as exits
use Rattle.run_files.specs.Shelves.{shelved}
use Rattle.sym_top.specs.Asked.{asked}
use Rattle.sym_top.specs.Calls.{ends, sunk}
use Rattle.sym_top.proofs.Exact.{caused, spelled, done_for}
use Rattle.sym_top.proofs.alone.answer_alone.Goals as goal

pub returns-in-Some : goal.returns-in-Some
returns-in-Some g c =
    let words = c.args.words.now in
    let command = asked c.in-Some.command in
    let found = c.in-Some.ensures.found in
    let here = ends (shelved (g.F.Shelf.files c.args.shelf.now) (g.F.Shelf.load_faults c.args.shelf.now) (g.F.Shelf.store_faults c.args.shelf.now))
    (shelved (g.F.Shelf.files c.serve.new.shelf) (g.F.Shelf.load_faults c.serve.new.shelf) (g.F.Shelf.store_faults c.serve.new.shelf))
    (sunk (g.O.Sink.written c.args.out.now) (g.O.Sink.faults c.args.out.now)) (sunk (g.O.Sink.written c.serve.new.out) (g.O.Sink.faults c.serve.new.out)) in
    let k = caused command here
    (g.E.Sink.written c.args.err.now) (g.E.Sink.faults c.args.err.now) (g.E.Sink.written c.serve.new.err) (g.E.Sink.faults c.serve.new.err) c.serve.result c.serve.ensures.answer in
    record {
      usage = (λ u. absurd (k.no_usage u), λ none. absurd (none command found));
      unasked = λ u. absurd (k.no_usage u);
      unasked_line = λ u. absurd (k.no_usage u);
      no_file = spelled _ words command found (λ none. (k.no_read none, c.serve.ensures.no_file none));
      read_fault = k.read_fault;
      write_fault = spelled _ words command found k.write_fault;
      load_shows = k.load_shows;
      store_shows = k.store_shows;
      write_shows = k.write_shows;
      bad_rig = spelled _ words command found (k.ends exits.BadRig (record { ok = λ e. absurd cc; read = λ e. absurd cc; write = λ e. absurd cc; memory = λ e. absurd cc }));
      bad_work = spelled _ words command found (k.ends exits.BadWork (record { ok = λ e. absurd cc; read = λ e. absurd cc; write = λ e. absurd cc; memory = λ e. absurd cc }));
      bad_source = spelled _ words command found (k.ends exits.BadSource (record { ok = λ e. absurd cc; read = λ e. absurd cc; write = λ e. absurd cc; memory = λ e. absurd cc }));
      bad_trace = spelled _ words command found (k.ends exits.BadTrace (record { ok = λ e. absurd cc; read = λ e. absurd cc; write = λ e. absurd cc; memory = λ e. absurd cc }));
      step_limit = spelled _ words command found (k.ends exits.StepLimit (record { ok = λ e. absurd cc; read = λ e. absurd cc; write = λ e. absurd cc; memory = λ e. absurd cc }));
      too_long = spelled _ words command found (k.ends exits.TooLong (record { ok = λ e. absurd cc; read = λ e. absurd cc; write = λ e. absurd cc; memory = λ e. absurd cc }));
      first_long = spelled _ words command found k.first_long;
      complete = spelled _ words command found k.complete;
      done = done_for words command found here c.serve.result k;
      answer = spelled _ words command found c.serve.ensures.answer;
    }
