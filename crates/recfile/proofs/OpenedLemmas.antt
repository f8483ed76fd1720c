-- A session over the table of a page file.
use Rattle.std.proofs.Common.{◌≡◌, ℕ, Bool, true, false, List, [], Result, Ok, MatchResult, IsTrue, if◌then◌else◌, refl, sym, ap, subst, ◌∙◌, arith}
use Rattle.std.specs.FinMap as maps
use Rattle.std.specs.FinMap.{len-empty}
use Rattle.std.specs.Cmp.Lexicographic.{slice_cmp}
use Rattle.std.specs.Ordering.{nat_cmp}
use Rattle.rec_types.specs.Contents.{Contents}
use Rattle.btree_insert.proofs.ContentsLemmas.{len-contents_of}
use Rattle.rec_types.specs.LimitBounds.{Bounds}
use Rattle.rec_types.specs.declared.table_state.TableState.{Ghosts}
use Rattle.btree_insert.specs.declared.tree.Tree.{Tree}
use Rattle.btree_delete.specs.Origins.{Origin, origin_of}
use Rattle.btree_delete.specs.TableView.{IsClosed, TableView, table_contents}
use Rattle.record_file.specs.Abstract.{OpenFile, new_file}
use Rattle.record_file.specs.Runs.{seen, seen_as}
use Rattle.recfile.specs.DurableSession.{logged_file}
use Rattle.recfile.specs.Statuses.{exit_status_of}
use Rattle.recfile.specs.WholeSession.{IsUncounted, opened_file}

-- what a table in a tree shows
abbrev pub treed : Ghosts TableView
treed = record { contents = table_contents; record_limit = λ t. t.limit; sound = λ t. t.pages.steady; device_failures = λ t. t.pages.failures; memory_refusals = λ t. t.refusals; damages = λ t. t.damages; calls = λ t. t.calls; Source = Origin; origin = origin_of; commits = λ o. o.opening.commits; doubt = λ o. o.opening.doubt }

-- what a run sees of a new file over the table of a page file
pub fresh : (f : OpenFile TableView) (table : TableView) (limits : Bounds) → f ≡ record { table = table; file = new_file (table_contents table) limits; log = [] }
    → IsTrue table.pages.steady → IsUncounted table → seen treed f ≡ opened_file (table_contents table) limits table.pages.failures
fresh f table limits is steady uncounted =
    ap (seen treed) is
    ∙ (λ i. record {
      file = new_file (table_contents table) limits;
      log = [];
      records = table_contents table;
      sound = steady i;
      failures = table.pages.failures;
      refusals = uncounted.0 i;
      damages = uncounted.1 i;
      calls = uncounted.2 i;
      logged = false;
      commits = [];
      doubt = [];
    })

-- and of one beside which a log was begun
pub fresh_logged : (f : OpenFile TableView) (table : TableView) (limits : Bounds) (commits : List (List (List ℕ))) → f ≡ record { table = table; file = new_file (table_contents table) limits; log = [] }
    → IsTrue table.pages.steady → IsUncounted table → table.pages.opening.commits ≡ commits → table.pages.opening.doubt ≡ [] → seen_as true treed f ≡ logged_file (table_contents table) limits table.pages.failures commits
fresh_logged f table limits commits is steady uncounted logged undoubted =
    ap (seen_as true treed) is
    ∙ (λ i. record {
      file = new_file (table_contents table) limits;
      log = [];
      records = table_contents table;
      sound = steady i;
      failures = table.pages.failures;
      refusals = uncounted.0 i;
      damages = uncounted.1 i;
      calls = uncounted.2 i;
      logged = true;
      commits = if steady i then logged i else [];
      doubt = if steady i then undoubted i else [];
    })

-- it is new, with these limits
pub begun : (f : OpenFile TableView) (table : TableView) (limits : Bounds) → f ≡ record { table = table; file = new_file (table_contents table) limits; log = [] }
    → (seen treed f).file ≡ new_file (seen treed f).records limits
begun f table limits is = subst (λ (x : OpenFile TableView). x.file ≡ new_file (table_contents x.table) limits) (sym is) refl

pub begun_logged : (f : OpenFile TableView) (table : TableView) (limits : Bounds) → f ≡ record { table = table; file = new_file (table_contents table) limits; log = [] }
    → (seen_as true treed f).file ≡ new_file (seen_as true treed f).records limits
begun_logged f table limits is = subst (λ (x : OpenFile TableView). x.file ≡ new_file (table_contents x.table) limits) (sym is) refl

-- no status of a session whose transactions were ended is 4
pub never_4 : (file_fault script_fault : Bool) → exit_status_of false file_fault script_fault ≡ 4 → ⊥
never_4 true script_fault is = absurd (omega (arith, is))
never_4 false true is = absurd (omega (arith, is))
never_4 false false is = absurd (omega (arith, is))

pub at_ok : {A F : Type 0} (answer : Result A F) (x : A) (P : A → Type 0) (Q : F → Type 0) → answer ≡ Ok x → MatchResult answer P Q → P x
at_ok answer x P Q is known = subst (λ a. MatchResult a P Q) is known

-- a closed file without records has a tree that counts none
pub no_records : (version : ℕ) (pages : List (List ℕ)) (tail : ℕ) (tree : Tree) → IsClosed version pages tail tree maps.empty → tree.count ≡ 0
no_records version pages tail tree closed =
    closed.clean.there.holds.count ∙ sym (len-contents_of closed.es closed.clean.there.holds.ascends) ∙ ap (λ (m : Contents). maps.len m) closed.records ∙ len-empty (slice_cmp nat_cmp) (List ℕ)
