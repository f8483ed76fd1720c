use Rattle.std.proofs.Common.{rules}
use Rattle.page_store.proofs.pages.Pages.into_store.Goals as goal

pub returns : goal.returns
returns g c = record {
  pages = search rules;
  tail = search rules;
  steady = search rules;
  opening = search rules;
  reads = search rules;
  shapes = search rules;
  writes = search rules;
  failures = search rules;
  journal = search rules;
  guard = search rules;
}
