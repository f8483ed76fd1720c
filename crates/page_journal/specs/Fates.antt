-- What a crash makes of the calls of a disk in memory.
use Rattle.std.specs.Prelude.{◌≡◌, ℕ, ◌-◌, List, [], ◌++◌, option_map, length, take, drop, replicate, is_some, ⊤}
use Rattle.rec_types.specs.Widths.{page_width}
use Rattle.page_journal.specs.Files.{CommitFiles, Files}
use Rattle.page_journal.specs.Steps.{nothing_kept, bytes_over, KeepsLog}
use Rattle.page_journal.specs.History.{done}
use Rattle.page_journal.specs.declared.commit_call.CommitCall.{CommitCall}
use Rattle.page_journal.specs.declared.commit_call.CommitCall.TheVariants as calls
use Rattle.page_journal.specs.declared.disk_call.DiskCall.{DiskCall}
use Rattle.page_journal.specs.declared.disk_call.DiskCall.TheVariants.{Write, Grow, Cut, Sync, Start, Keep, SyncFresh, Name, Remove, SyncNames, Commits}
use Rattle.page_journal.specs.declared.fate.Fate.{Fate}
use Rattle.page_journal.specs.declared.fate.Fate.TheVariants.{Done, Lost, Torn}

-- a page that nobody wrote
unfoldable pub noise : List ℕ
noise = replicate page_width 255

-- the files made longer by such pages
abbrev pub grown : ℕ → List ℕ → Files → Files
grown n page f = record f { main = record { pages = f.main.pages ++ replicate (n - length f.main.pages) page; tail = 0 } }

-- all but the last
abbrev pub front_of : List ℕ → List ℕ
front_of bytes = take (length bytes - 1) bytes

-- of a call on the logs of commits that is torn: of bytes that are written the last isn't there
abbrev pub commits_torn : CommitCall → CommitFiles → CommitFiles
commits_torn (calls.Start bytes) f = record f { fresh = [] }
commits_torn calls.SyncFresh f = f
commits_torn calls.Name f = f
commits_torn calls.Remove f = f
commits_torn (calls.Lengthen at n) f = f
commits_torn (calls.Write at bytes) f = record f { log = option_map (bytes_over at (front_of bytes.items)) f.log }
commits_torn calls.Sync f = f

-- where the device keeps a log, its bytes are those that are seen
abbrev pub CommitsAgree : CommitCall → CommitFiles → CommitFiles → Type 0
CommitsAgree (calls.Start bytes) seen f = ⊤
CommitsAgree calls.SyncFresh seen f = f.fresh ≡ seen.fresh
CommitsAgree calls.Name seen f = ⊤
CommitsAgree calls.Remove seen f = ⊤
CommitsAgree (calls.Lengthen at n) seen f = ⊤
CommitsAgree (calls.Write at bytes) seen f = ⊤
CommitsAgree calls.Sync seen f = KeepsLog seen f

-- the files after a call that is torn: pages are noise, a side file is begun for no pages, and what is done at once or not at all isn't done
abbrev pub torn : DiskCall → Files → Files
torn (Write n page) f = done (Write n noise) f
torn (Grow n) f = grown n noise f
torn (Cut n) f = f
torn Sync f = f
torn (Start long rest) f = record f { fresh = nothing_kept 0 }
torn (Keep n page) f = done (Keep n noise) f
torn SyncFresh f = f
torn Name f = f
torn Remove f = f
torn SyncNames f = f
torn (Commits call) f = record f { commits = commits_torn call f.commits }

-- a sync makes its part what is seen; that of the names doesn't say what a side file has
abbrev pub synced_by : DiskCall → Files → Files → Files
synced_by (Write n page) seen f = f
synced_by (Grow n) seen f = f
synced_by (Cut n) seen f = f
synced_by Sync seen f = record f { main = seen.main }
synced_by (Start long rest) seen f = f
synced_by (Keep n page) seen f = f
synced_by SyncFresh seen f = record f { fresh = seen.fresh }
synced_by Name seen f = f
synced_by Remove seen f = f
synced_by SyncNames seen f = f
synced_by (Commits call) seen f = f

-- what a crash leaves behind a call of that fate, where it would have left these files before it
abbrev pub fated : DiskCall → Fate → Files → Files → Files
fated call Done seen f = synced_by call seen (done call f)
fated call Lost seen f = synced_by call seen f
fated call Torn seen f = synced_by call seen (torn call f)

-- where the device keeps whether a file has a name, one has it after a crash where one is seen to
abbrev pub NamesAgree : DiskCall → Files → Files → Type 0
NamesAgree (Write n page) seen f = ⊤
NamesAgree (Grow n) seen f = ⊤
NamesAgree (Cut n) seen f = ⊤
NamesAgree Sync seen f = ⊤
NamesAgree (Start long rest) seen f = ⊤
NamesAgree (Keep n page) seen f = ⊤
NamesAgree SyncFresh seen f = ⊤
NamesAgree Name seen f = ⊤
NamesAgree Remove seen f = ⊤
NamesAgree SyncNames seen f = (is_some f.side ≡ is_some seen.side) × (is_some f.commits.log ≡ is_some seen.commits.log)
NamesAgree (Commits call) seen f = CommitsAgree call seen.commits f.commits

-- the first k of these calls, the newest of which stands first
abbrev pub first_calls : ℕ → List DiskCall → List DiskCall
first_calls k calls = drop (length calls - k) calls
