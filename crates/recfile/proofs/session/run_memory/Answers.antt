use Rattle.std.proofs.Common.{◌≡◌, true, false, [], Option, None, Result, Ok, Err, OnErr, if◌then◌else◌, refl, ap, subst, ◌∙◌}
use Rattle.std.specs.FinMap as maps
use Rattle.rec_types.specs.Calls.{no_calls}
use Rattle.rec_types.specs.LimitBounds.{Bounds}
use Rattle.rec_types.specs.Sorted.{SortedState}
use Rattle.rec_types.specs.Table.{no_damage}
use Rattle.rec_types.specs.declared.table_state.TableState.{Ghosts}
use Rattle.record_file.specs.Abstract.{OpenFile, new_file}
use Rattle.record_file.specs.Runs.{Seen, seen}
use Rattle.recfile.specs.WholeSession.{IsSession}
use Rattle.recfile.specs.Whole.{empty_file}
use Rattle.file_session.specs.declared.file_fault.FileFault.{FileFault}
use Rattle.recfile.proofs.session.run_memory.Goals as goal

-- what a sorted table shows
abbrev sorted : Ghosts SortedState
sorted = record { contents = λ t. t.contents; record_limit = λ t. t.limit; sound = λ _. true; device_failures = λ _. 0; memory_refusals = λ t. t.refusals; damages = λ _. no_damage; calls = λ t. t.calls; Source = Unit {0}; origin = λ _. tt; commits = λ _. []; doubt = λ _. [] }

-- what a run sees of a new file over an empty table
fresh : {T : Type 0} (t : Ghosts T) (f : OpenFile T) (table : T) (limits : Bounds) → f ≡ record { table = table; file = new_file (t.contents table) limits; log = [] }
    → t.contents table ≡ maps.empty → t.sound table ≡ true → t.device_failures table ≡ 0 → t.memory_refusals table ≡ 0 → t.damages table ≡ no_damage → t.calls table ≡ no_calls → seen t f ≡ empty_file limits
fresh t f table limits is contents sound failures refusals damages calls =
    ap (seen t) is
    ∙ (λ i. record {
      file = new_file (contents i) limits;
      log = [];
      records = contents i;
      sound = sound i;
      failures = failures i;
      refusals = refusals i;
      damages = damages i;
      calls = calls i;
      logged = false;
      commits = [];
      doubt = [];
    })

untried : {A E : Type 0} (answer : Result A E) (unclosed : Option FileFault) → unclosed ≡ None → OnErr answer (unclosed ≡ None)
untried (Ok x) unclosed none = tt
untried (Err fault) unclosed none = none

pub returns : goal.returns
returns g c =
    let start : seen sorted c.new-file.result ≡ empty_file c.args.limits = fresh sorted c.new-file.result c.new.result c.args.limits c.new-file.ensures (ap (λ (s : SortedState). s.contents) c.new.ensures) refl refl (ap (λ (s : SortedState). s.refusals) c.new.ensures) refl (ap (λ (s : SortedState). s.calls) c.new.ensures) in
    let known = subst (λ (s : Seen). IsSession c.args.manner (g.R.CountedRead.left c.args.reader.now) (g.R.CountedRead.left c.run_session-end.new.reader) (g.W.CountedWrite.held c.args.out.now) (g.W.CountedWrite.held c.run_session-end.new.out) s c.run_session-end.ensures.session.0 c.run_session-end.result.script c.run_session-end.result.ended (seen sorted c.run_session-end.new.file)) start c.run_session-end.ensures.session.1 in
    record {
      answer = c.run_session-end.result.script;
      ended = c.run_session-end.result.ended;
      mid = c.run_session-end.ensures.session.0;
      new = seen sorted c.run_session-end.new.file;
      session = known;
      status_is = c.exit_status.ensures ∙ (λ i. if c.is_err.ensures.value i then 4 else (if c.is_err-2.ensures.value i then 3 else 0));
      fault = tt;
      untried = untried c.run_session-end.result.ended None refl;
      failed = c.run_session-end.ensures.failed;
    }
