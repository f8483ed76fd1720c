use Rattle.std.proofs.Common.{◌≡◌, ◌-◌, ℕ, inl, List, Option, Some, None, IsSome, length, Result, Ok, Err, OnOk, IfErr, MatchResult, refl, ap, subst, ◌∙◌, arith}
use Rattle.std.specs.FinMap as maps
use Rattle.std.specs.Io.KnownBytes.{Appends}
use Rattle.page_store.specs.PageMap.{at}
use Rattle.page_store.specs.PagesView.{PagesView}
use Rattle.page_store.specs.FreeNumbers.{free_numbers}
use Rattle.rec_types.specs.Contents.{Contents}
use Rattle.btree_node.specs.Layout.{layout_of}
use Rattle.btree_insert.specs.declared.tree.Tree.{Tree}
use Rattle.btree_delete.specs.CleanFile.{Opens, in_file}
use Rattle.btree_delete.specs.TableView.{TableView, table_contents}
use Rattle.btree_delete.proofs.MeasureLemmas.{root_in_use}
use Rattle.btree_delete.proofs.TableLimitLemmas.{all_pages}
use Rattle.file_session.specs.Opened.{CanBeOpened}
use Rattle.recfile.specs.Dumped.{DumpStops, IsDumpFault}
use Rattle.recfile.specs.TreeLine.{counts_in, counts_line}
use Rattle.recfile.specs.declared.page_file.TreeCounts.{TreeCounts}
use Rattle.recfile.specs.declared.dump.DumpFault.{DumpFault}
use Rattle.recfile.specs.declared.dump.DumpFault.TheVariants.{File, Write}
use Rattle.file_session.proofs.OpeningLemmas.{can_be_opened}
use Rattle.recfile.proofs.page_file.check_in.Goals as goal

none_of : {A : Type 0} (o : Option A) → (IsSome o → ⊥) → o ≡ None
none_of None never = refl
none_of (Some x) never = absurd (never refl)

-- the free pages of a file that was opened
free_of : (stored : List (List ℕ)) (tail limit reads : ℕ) (pages : PagesView) (tree : Tree) → Opens stored tail limit reads pages tree
    → length (free_numbers pages.pages) ≡ length stored - 1 - tree.used
free_of stored tail limit reads pages tree opened =
    let header = none_of (at pages.pages 0) (λ there. root_in_use (layout_of opened.h.version) tree.order (in_file stored) tree.root tree.height opened.es opened.us opened.clean.there.holds.tree 0 (opened.alone 0 there) refl) in
    let some = opened.clean.begins.long.some in
    let all = all_pages pages.pages tree opened.es opened.us (omega (arith, some, opened.count)) header (record { holds = opened.holds; alone = opened.alone }) in
    omega (arith, all, opened.count, opened.holds.used)

-- the counts of the table that was opened are those of the file's tree
same_counts : (stored : List (List ℕ)) (tail limit reads : ℕ) (t : TableView) (tree : Tree) (contents : Contents) (told : TreeCounts) → Opens stored tail limit reads t.pages t.tree → t.tree ≡ tree → table_contents t ≡ contents
    → told.order ≡ t.tree.order → told.height ≡ t.tree.height → told.records ≡ maps.len (table_contents t) → told.pages ≡ length t.pages.pages → told.free ≡ length (free_numbers t.pages.pages)
    → told ≡ counts_in tree contents (length stored)
same_counts stored tail limit reads t tree contents told opened is holds order height records pages free = λ i. record {
  order = (order ∙ ap (λ (x : Tree). x.order) is) i;
  height = (height ∙ ap (λ (x : Tree). x.height) is) i;
  records = (records ∙ ap (λ (m : Contents). maps.len m) holds) i;
  pages = (pages ∙ opened.count) i;
  free = (free ∙ free_of stored tail limit reads t.pages t.tree opened ∙ ap (λ (x : Tree). length stored - 1 - x.used) is) i;
}

told_so : (answer : Result (Unit {0}) DumpFault) (held holds : Option (List ℕ)) (told counts : TreeCounts) → told ≡ counts → OnOk answer (Appends held holds (counts_line told)) → IfErr answer (DumpStops held holds (counts_line told))
    → MatchResult answer (λ _. Appends held holds (counts_line counts)) (DumpStops held holds (counts_line counts))
told_so (Ok x) held holds told counts is ok err = subst (λ (t : TreeCounts). Appends held holds (counts_line t)) is ok
told_so (Err fault) held holds told counts is ok err = subst (λ (t : TreeCounts). DumpStops held holds (counts_line t) fault) is err

first : (answer : Result (Unit {0}) DumpFault) (held holds : Option (List ℕ)) (text : List ℕ) (stored : List (List ℕ)) (tail limit : ℕ) → CanBeOpened stored tail limit → IfErr answer (DumpStops held holds text) → IfErr answer (IsDumpFault stored tail limit)
first (Ok x) held holds text stored tail limit can stops = tt
first (Err (File fault)) held holds text stored tail limit can stops = inl stops
first (Err Write) held holds text stored tail limit can stops = can

ok_so : {E : Type 0} (answer : Result (Unit {0}) E) (P : Type 0) → P → OnOk answer P
ok_so (Ok x) P p = p
ok_so (Err e) P p = tt

pub returns-clause-closed : goal.returns-clause-closed
returns-clause-closed g c steady =
    ok_so _ _ (can_be_opened _ _ c.args.limits.records _ c.in-Ok.table.pages c.in-Ok.table.tree (c.in-Ok.ensures.found steady))

pub returns-clause-first : goal.returns-clause-first
returns-clause-first g c steady =
    first c.tell_counts-told.result (g.W.Write.contents c.args.out.now) (g.W.Write.contents c.tell_counts-told.new.out) (counts_line c.counts_of.result) _ _ c.args.limits.records (can_be_opened _ _ c.args.limits.records _ c.in-Ok.table.pages c.in-Ok.table.tree (c.in-Ok.ensures.found steady)) c.tell_counts-told.ensures.stops

pub returns-clause-told : goal.returns-clause-told
returns-clause-told g c steady tree contents version closed few =
    let opened = c.in-Ok.ensures.reopened steady tree contents version closed few in
    let says = c.counts_of.ensures in
    let is = same_counts _ _ c.args.limits.records _ c.in-Ok.table tree contents c.counts_of.result (c.in-Ok.ensures.found steady) opened.0 opened.1 says.tree.0 says.tree.1 (says.records (c.in-Ok.ensures.over.steady ∙ steady)) says.pages says.free in
    told_so c.tell_counts-told.result (g.W.Write.contents c.args.out.now) (g.W.Write.contents c.tell_counts-told.new.out) c.counts_of.result _ is c.tell_counts-told.ensures.told c.tell_counts-told.ensures.stops
