use Rattle.std.proofs.Common.{None, refl}
use Rattle.page_journal.specs.Files.{no_commits}
use Rattle.page_journal.specs.Steps.{nothing_kept}
use Rattle.recfile.proofs.system_files.SystemFilesPageFiles.open_clean.Goals as goal

pub returns : goal.returns
returns g c = record {
  found = λ _. record {
    files = record {
      main = record { pages = c.in_ok-store.store.pages; tail = c.in_ok-store.store.tail };
      fresh = nothing_kept 0;
      side = None;
      commits = no_commits;
    };
    at = record {};
    main = refl;
    alone = refl;
  };
}
