use Rattle.std.proofs.Common.{refl}
use Rattle.std.specs.String.{string_bytes}
use Rattle.recfile.proofs.ListLemmas.{list_told, list_ends}
use Rattle.recfile.proofs.call.list.Goals as goal

pub returns : goal.returns
returns g c =
    let told = c.tell-told.ensures.told in
    list_told g.T.TableState c.args.file.now c.tell-told.new.self told.0 told.1 c.end_list.result (string_bytes c.end_list.new.text)
    (list_ends c.begin_list-list.result c.tell-told.new.sink told.0 c.tell-told.result c.end_list.result (string_bytes c.end_list.new.text) c.begin_list-list.ensures.empty c.begin_list-list.ensures.none told.2 c.end_list.ensures)
