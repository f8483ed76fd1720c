use Rattle.std.proofs.Common.{◌≡◌, length, slice_index_or, take}
use Rattle.page_store.specs.Blank.{blank}
use Rattle.page_store.specs.Journal.{carried}
use Rattle.recfile_c.proofs.journal.page_after.Given as goal

abbrev pub invariant-loop-step : goal.invariant-loop-step
invariant-loop-step l = record {
  count : l.count ≡ length (carried l.opened (take l.step-index l.steps));
  page : l.page ≡ slice_index_or (carried l.opened (take l.step-index l.steps)) l.n blank;
}
