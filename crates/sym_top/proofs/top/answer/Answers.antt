use Rattle.std.proofs.Common.{refl}
use Rattle.refusal_lines.specs.declared.exit.Exit.TheVariants as exits
use Rattle.run_files.specs.Shelves.{shelved}
use Rattle.sym_top.specs.Calls.{ends, sunk}
use Rattle.sym_top.specs.CommandLine.{Command, Spells}
use Rattle.sym_top.specs.RunAsked.{run_asked}
use Rattle.sym_top.specs.Running.{RunWords, SpellsRun}
use Rattle.sym_top.proofs.RunExact.{run_caused}
use Rattle.sym_top.proofs.RunSpelling.{apart, spelled_run}
use Rattle.sym_top.proofs.top.answer.Goals as goal

pub returns-in-Some : goal.returns-in-Some
returns-in-Some g c =
    let words = c.args.words.now in
    let a = run_asked c.in-Some.command in
    let found = c.in-Some.ensures.found in
    let other : (d : Command) → Spells words d → ⊥ = λ d s. apart words a d found s in
    let here = ends (shelved (g.F.Shelf.files c.args.shelf.now) (g.F.Shelf.load_faults c.args.shelf.now) (g.F.Shelf.store_faults c.args.shelf.now))
    (shelved (g.F.Shelf.files c.serve_run.new.shelf) (g.F.Shelf.load_faults c.serve_run.new.shelf) (g.F.Shelf.store_faults c.serve_run.new.shelf))
    (sunk (g.O.Sink.written c.args.out.now) (g.O.Sink.faults c.args.out.now)) (sunk (g.O.Sink.written c.serve_run.new.out) (g.O.Sink.faults c.serve_run.new.out)) in
    let k = run_caused a here
    (g.E.Sink.written c.args.err.now) (g.E.Sink.faults c.args.err.now) (g.E.Sink.written c.serve_run.new.err) (g.E.Sink.faults c.serve_run.new.err) c.serve_run.result c.serve_run.ensures in
    record {
      usage = (λ u. absurd (k.no_usage u), λ none. absurd (none.1 a found));
      unasked = λ u. absurd (k.no_usage u);
      unasked_line = λ u. absurd (k.no_usage u);
      no_file = λ d s. absurd (other d s);
      read_fault = k.read_fault;
      write_fault = λ d s. absurd (other d s);
      load_shows = k.load_shows;
      store_shows = k.store_shows;
      write_shows = k.write_shows;
      bad_rig = λ d s. absurd (other d s);
      bad_work = λ d s. absurd (other d s);
      bad_source = λ d s. absurd (other d s);
      bad_trace = λ d s. absurd (other d s);
      step_limit = λ d s. absurd (other d s);
      too_long = λ d s. absurd (other d s);
      first_long = λ d s. absurd (other d s);
      complete = λ d s. absurd (other d s);
      done = λ d job s. absurd (other d s);
      answer = λ d s. absurd (other d s);
      run = spelled_run _ words a found c.serve_run.ensures;
      run_drained = spelled_run _ words a found k.drained;
      run_full = spelled_run _ words a found k.full;
      run_write_fault = spelled_run _ words a found k.write_fault;
      run_bad_rig = spelled_run _ words a found (k.ends exits.BadRig (record { ok = λ e. absurd cc; read = λ e. absurd cc; write = λ e. absurd cc; memory = λ e. absurd cc }) (λ e. absurd cc));
      run_bad_work = spelled_run _ words a found (k.ends exits.BadWork (record { ok = λ e. absurd cc; read = λ e. absurd cc; write = λ e. absurd cc; memory = λ e. absurd cc }) (λ e. absurd cc));
      run_too_long = spelled_run _ words a found (k.ends exits.TooLong (record { ok = λ e. absurd cc; read = λ e. absurd cc; write = λ e. absurd cc; memory = λ e. absurd cc }) (λ e. absurd cc));
      run_long_rig = spelled_run _ words a found k.long_rig;
      run_other = spelled_run _ words a found k.other;
      run_complete = spelled_run _ words a found k.complete;
    }

pub returns-in-None : goal.returns-in-None
returns-in-None g c =
    let none : (a : RunWords) → SpellsRun c.args.words.now a → ⊥ = c.in-None.ensures.none refl in
    let k = c.answer_alone.ensures in
    record {
      usage = (λ u. (k.usage.0 u, none), λ both. k.usage.1 both.0);
      unasked = k.unasked;
      unasked_line = k.unasked_line;
      no_file = k.no_file;
      read_fault = k.read_fault;
      write_fault = k.write_fault;
      load_shows = k.load_shows;
      store_shows = k.store_shows;
      write_shows = k.write_shows;
      bad_rig = k.bad_rig;
      bad_work = k.bad_work;
      bad_source = k.bad_source;
      bad_trace = k.bad_trace;
      step_limit = k.step_limit;
      too_long = k.too_long;
      first_long = k.first_long;
      complete = k.complete;
      done = k.done;
      answer = k.answer;
      run = λ a s. absurd (none a s);
      run_drained = λ a s. absurd (none a s);
      run_full = λ a s. absurd (none a s);
      run_write_fault = λ a s. absurd (none a s);
      run_bad_rig = λ a s. absurd (none a s);
      run_bad_work = λ a s. absurd (none a s);
      run_too_long = λ a s. absurd (none a s);
      run_long_rig = λ a s. absurd (none a s);
      run_other = λ a s. absurd (none a s);
      run_complete = λ a s. absurd (none a s);
    }
