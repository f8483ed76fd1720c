use Rattle.std.proofs.Common.{◌≡◌, List, Result, subst, sym}
use Rattle.std.specs.String.{string_bytes}
use Rattle.rec_types.specs.declared.memory.Memory.{Memory}
use Rattle.record_file.proofs.AtMostLemmas.{front_goes}
use Rattle.record_file.specs.AtMost.{limited_to}
use Rattle.record_file.specs.declared.fault.EntriesFault.{EntriesFault}
use Rattle.recfile.specs.ListEnd.{EndsList}
use Rattle.recfile.specs.Listed.{SpellsEntries}
use Rattle.recfile.proofs.ListLemmas.{list_ends}
use Rattle.recfile.proofs.call.list_beside.Goals as goal

pub returns : goal.returns
returns g c =
    let told = c.tell_beside-told.ensures.told in
    let start = c.begin_list.result in
    let behind = c.tell_beside-told.new.sink in
    let goes = front_goes (λ es. SpellsEntries start es behind.sink) (λ es fault. Unit {0}) c.args.n behind.left told.0 c.tell_beside-told.result told.2 in
    let ends = subst (λ (r : Result (Result (Unit {0}) Memory) EntriesFault). EndsList behind.sink r c.end_list.result (string_bytes c.end_list.new.text)) c.unless_enough.ensures c.end_list.ensures in (
      told.0,
      told.1,
      list_ends start behind.sink (limited_to c.args.n told.0) _ c.end_list.result (string_bytes c.end_list.new.text) c.begin_list.ensures.empty c.begin_list.ensures.none goes ends,
    )
