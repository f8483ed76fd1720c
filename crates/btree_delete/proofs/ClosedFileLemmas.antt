-- The pages of a closed file.
use Rattle.std.proofs.Common.{◌≡◌, ℕ, zero, suc, ◌+◌, ◌<◌, ◌≤◌, ◌⊎◌, ⊎_elim, inl, inr, Bool, true, false, cond, ◌||◌, eqb, nat_lt, Option, Some, None, IsSome, IsTrue, Result, Ok, Err, List, length, slice_get, unwrap_or, [], refl, ap, sym, ◌∙◌, subst, arith}
use Rattle.std.proofs.lemmas.Bool.{false≢true}
use Rattle.std.proofs.lemmas.Bool.Decides.{nat_tests}
use Rattle.std.proofs.lemmas.List.{get_or_past}
use Rattle.std.proofs.lemmas.Option.{slice_get_past}
use Rattle.rec_types.specs.LimitBounds.{most_records}
use Rattle.rec_types.specs.Contents.{Contents}
use Rattle.rec_types.specs.declared.table_calls.TableCalls.{TableCalls}
use Rattle.rec_types.specs.Table.{Damages, counted}
use Rattle.page_store.specs.Calls.{counted_times}
use Rattle.page_store.specs.PageMap.{PageMap, at}
use Rattle.page_store.specs.PagesView.{PagesView}
use Rattle.page_store.specs.WritingBack.{AreStored}
use Rattle.btree_node.specs.declared.header.Header.{Header}
use Rattle.btree_node.specs.HeaderSpelling.{header_spelling, clean_state}
use Rattle.btree_node.specs.Layout.{second_layout, IsVersion, layout_of}
use Rattle.btree_node.specs.declared.layout.Layout.{Layout}
use Rattle.btree_node.proofs.HeaderLemmas.{header_reads, fields_same}
use Rattle.btree_node.specs.Lists.{Element}
use Rattle.btree_insert.specs.Sizes.{IsTree}
use Rattle.btree_insert.specs.declared.tree.Tree.{Tree}
use Rattle.btree_insert.specs.PageTrees.{IsIn, RootAt, HoldsIn, Holds}
use Rattle.btree_insert.specs.Contents.{contents_of}
use Rattle.btree_insert.specs.Elements.{elements_below, contents_at}
use Rattle.btree_insert.proofs.TreeElementLemmas.{node_in, held_in, held_elements}
use Rattle.btree_insert.proofs.ChangedTreeLemmas.{tree_move}
use Rattle.btree_insert.proofs.Membership.{each_in}
use Rattle.btree_delete.specs.declared.opening.open_fault.OpenFault.{OpenFault}
use Rattle.btree_delete.specs.declared.opening.open_fault.OpenFault.TheVariants.{Device, BadLength, BadMagic, BadVersion, BadOrder, NotClean, BadHeader, Damaged, WrongCount, TooManyRecords, Memory}
use Rattle.btree_delete.specs.Survey.{IsRespelt, Measured}
use Rattle.btree_delete.specs.CleanFile.{in_file, Begins, HasHeader, HasTree, IsFirst, FailsTree, Opens}
use Rattle.btree_insert.specs.Spelt.{AreSpeltIn}
use Rattle.btree_delete.specs.TableView.{HoldsTree, IsClosed, IsTable}
use Rattle.btree_delete.proofs.SurveyLemmas.{counted_before}
use Rattle.btree_delete.proofs.MeasureLemmas.{root_in_use, below_count}
use Rattle.btree_insert.proofs.InsertionLemmas.{some_not_none}
use Rattle.btree_delete.proofs.PagesLeftLemmas.{in_or_not}
use Rattle.btree_delete.proofs.RespeltTreeLemmas.{held_respelt}

-- page n of a file with free numbers
abbrev pub shown_as : List (List ℕ) → (ℕ → Bool) → ℕ → Option (List ℕ)
shown_as stored free n = cond (eqb n 0 || free n) None (slice_get stored n)

or_false : (b : Bool) → (b || false) ≡ b
or_false true = refl
or_false false = refl

none_twice : (b : Bool) → ◌≡◌ {A = Option (List ℕ)} None (cond b None None)
none_twice true = refl
none_twice false = refl

-- pages of which none is free are those of the file
pub file_map : (stored stored2 : List (List ℕ)) (pages : List (Option (List ℕ))) (count : ℕ) (free : ℕ → Bool) → stored2 ≡ stored → count ≡ length stored → length pages ≡ count
    → ((n : ℕ) → n < count → at pages n ≡ shown_as stored2 free n) → ((n : ℕ) → free n ≡ false) → at pages ≡ in_file stored
file_map stored stored2 pages count free stored_is count_is long shown none = λ i n. each n i
  where
    decide : (n : ℕ) (b : Bool) → nat_lt n count ≡ b → at pages n ≡ in_file stored n
    decide n true low =
        shown n (grind (arith, nat_tests)) ∙ ap (λ (b : Bool). cond (eqb n 0 || b) None (slice_get stored2 n)) (none n) ∙ ap (λ (b : Bool). cond b None (slice_get stored2 n)) (or_false (eqb n 0)) ∙ ap (λ (xs : List (List ℕ)). cond (eqb n 0) None (slice_get xs n)) stored_is
    decide n false past =
        let high : count ≤ n = grind (arith, nat_tests) in
        get_or_past pages n None (omega (arith, high, long)) ∙ none_twice (eqb n 0) ∙ ap (λ (o : Option (List ℕ)). cond (eqb n 0) None o) (sym (slice_get_past stored n (omega (arith, high, count_is))))

    each : (n : ℕ) → at pages n ≡ in_file stored n
    each n = decide n (nat_lt n count) refl

-- a tree whose pages are as they were
pub holds_move : (old new : PageMap) (tree : Tree) (es : List Element) (us : List ℕ) → Holds old tree es us → ((q : ℕ) → IsIn q us → new q ≡ old q) → Holds new tree es us
holds_move old new tree es us holds same = record {
  tree = root_move tree.height holds.tree;
  ascends = holds.ascends;
  apart = holds.apart;
  count = holds.count;
  used = holds.used;
}
  where
    root_move : (h : ℕ) → RootAt tree.order old h tree.root es us → RootAt tree.order new h tree.root es us
    root_move zero root = root
    root_move (suc h) root = tree_move tree.order old new 1 (suc h) tree.root es us root (each_in (λ q. new q ≡ old q) us same)

not_true : (b : Bool) → (b ≡ true → ⊥) → b ≡ false
not_true true never = absurd (never refl)
not_true false never = refl

-- pages that were as they are now, over the same store
respelt_moved : (layout : Layout) (k : ℕ) (v p : PagesView) (q : ℕ) → p.stored ≡ v.stored → at p.pages q ≡ at v.pages q → IsRespelt layout k v q → IsRespelt layout k p q
respelt_moved layout k v p q stored_is same respelt = record {
  node = respelt.node;
  was = record { page = ap (λ (xs : List (List ℕ)). in_file xs q) stored_is ∙ respelt.was.page; stands = respelt.was.stands };
  now = record { page = same ∙ respelt.now.page; stands = respelt.now.stands };
}

positive : (pages : PageMap) (q : ℕ) → pages 0 ≡ None → (pages q ≡ None → ⊥) → 1 ≤ q
positive pages zero none used = absurd (used none)
positive pages (suc q) none used = omega arith

-- a closed file was opened: the pages at first, after the walk, and in the end
pub opened : (stored : List (List ℕ)) (tail limit : ℕ) (h : Header) (first : List (Option (List ℕ))) (v p : PagesView) (tree : Tree) (free : ℕ → Bool) (reads r0 r1 : ℕ) → Begins stored tail h → at first ≡ in_file stored → length first ≡ length stored → h.order ≤ 16
    → Measured (layout_of h.version) h.order first h.root tree free r0 r1 → (tree.count ≡ h.count) × (h.count ≤ limit)
    → v.stored ≡ stored → p.stored ≡ stored → ((q : ℕ) → 1 ≤ q → q < length first → free q ≡ false → IsRespelt (layout_of h.version) h.order v q) → ((q : ℕ) → at p.pages q ≡ cond (free q) None (at v.pages q)) → at v.pages 0 ≡ None
    → length p.pages ≡ length stored → p.changed ≡ eqb h.version 1 → r0 ≡ counted reads true → p.reads ≡ r1 → Opens stored tail limit reads p tree
opened stored tail limit h first v p tree free reads r0 r1 begins first_is first_long small m counts v_stored p_stored respelt shown header long changed r0_is r1_is = record {
  h = h;
  es = m.es;
  us = m.us;
  clean = record {
    begins = begins;
    there = record { order = m.order; root = m.root_is; holds = in_stored };
    count = counts.0;
  };
  few = counts.1;
  holds = held_respelt layout p tree m.es m.us (omega (arith, small, m.order)) (subst (λ (xs : List (List ℕ)). HoldsIn layout (in_file xs) tree m.es m.us) (sym p_stored) in_stored) (λ q is.
      let used = root_in_use layout tree.order (at first) tree.root tree.height m.es m.us m.holds.tree q is in
      let low = below_count first q used in
      let some = positive (at first) q (ap (λ (f : PageMap). f 0) first_is) used in
      let held = not_true (free q) (λ yes_is. ((m.others q).0 yes_is).2 is) in
      subst (λ (o : ℕ). IsRespelt layout o p q) (sym m.order)
      (respelt_moved layout h.order v p q (p_stored ∙ sym v_stored) (shown q ∙ ap (λ (b : Bool). cond b None (at v.pages q)) held) (respelt q some low held)));
  alone = λ n there. ⊎_elim (λ is. is) (λ (out : IsIn n m.us → ⊥). absurd (hidden n out there)) (in_or_not n m.us);
  count = long;
  changed = changed;
  read = r1_is ∙ m.read ∙ ap (λ (r : ℕ). counted_times r tree.used) r0_is ∙ counted_before reads tree.used ∙ ap (counted_times reads) (next tree.used);
}
  where
    layout : Layout
    layout = layout_of h.version

    in_stored : HoldsIn (layout_of h.version) (in_file stored) tree m.es m.us
    in_stored = subst (λ (f : PageMap). HoldsIn (layout_of h.version) f tree m.es m.us) first_is m.holds

    next : (n : ℕ) → suc n ≡ n + 1
    next n = omega arith

    none_at : (b : Bool) → cond b None (at v.pages 0) ≡ None
    none_at true = refl
    none_at false = header

    hidden : (n : ℕ) → (IsIn n m.us → ⊥) → IsSome (at p.pages n) → ⊥
    hidden n out there =
        let used = some_not_none (at p.pages n) there in
        let low = below_count p.pages n used in
        let some = positive (at p.pages) n (shown 0 ∙ none_at (free 0)) used in
        used (shown n ∙ ap (λ (b : Bool). cond b None (at v.pages n)) ((m.others n).1 (some, omega (arith, low, long, first_long), out)))

-- the first check that fails behind a header
pub fails_first : (stored : List (List ℕ)) (tail limit : ℕ) (h : Header) (fault : OpenFault) → Begins stored tail h → FailsTree (in_file stored) h limit fault → IsFirst stored tail limit fault
fails_first stored tail limit h Device begins fails = tt
fails_first stored tail limit h BadLength begins fails = absurd fails
fails_first stored tail limit h BadMagic begins fails = absurd fails
fails_first stored tail limit h (BadVersion version) begins fails = absurd fails
fails_first stored tail limit h BadOrder begins fails = absurd fails
fails_first stored tail limit h NotClean begins fails = absurd fails
fails_first stored tail limit h BadHeader begins fails = absurd fails
fails_first stored tail limit h (Damaged page) begins fails = record { h = h; begins = begins; none = fails }
fails_first stored tail limit h WrongCount begins (tree, es, us, there, other) = record { h = h; begins = begins; tree = tree; es = es; us = us; there = there; fails = other }
fails_first stored tail limit h TooManyRecords begins (tree, es, us, there, count, more) = record { h = h; tree = tree; es = es; us = us; clean = record { begins = begins; there = there; count = count }; more = more }
fails_first stored tail limit h Memory begins fails = tt

-- the header that was read is the file's
pub the_header : (x h : Header) → (◌≡◌ {A = Result Header OpenFault} (Ok x) (Ok h)) ⊎ (◌≡◌ {A = Result Header OpenFault} (Ok x) (Err Device)) → x ≡ h
the_header x h (inl same) = header_one x h same
  where
    header_one : (x h : Header) → ◌≡◌ {A = Result Header OpenFault} (Ok x) (Ok h) → x ≡ h
    header_one x h same = cc
the_header x h (inr never) = absurd (cc)

-- the file's pages have the header's tree
pub tree_there : (stored : List (List ℕ)) (pages : PageMap) (h x : Header) (tree : Tree) (es : List Element) (us : List ℕ) → pages ≡ in_file stored → x ≡ h → HasTree (in_file stored) h tree es us → HasTree pages x tree es us
tree_there stored pages h x tree es us pages_is header_is there =
    subst (λ (f : PageMap). HasTree f x tree es us) (sym pages_is) (subst (λ (y : Header). HasTree (in_file stored) y tree es us) (sym header_is) there)

some_of : (o : Option (List ℕ)) → (o ≡ None → ⊥) → IsSome o
some_of (Some x) never = refl
some_of None never = absurd (never refl)

root_below : (k : ℕ) (pages : List (Option (List ℕ))) (height root : ℕ) (es : List Element) (us : List ℕ) → 1 ≤ length pages → RootAt k (at pages) height root es us → root < length pages
root_below k pages zero root es us some tree = omega (arith, tree.0)
root_below k pages (suc h) root es us some (n, below, spells, least, body, us_is) = below_count pages root (λ none. absurd (let never = sym spells.page ∙ none in cc))

-- the contents that a held tree's pages give are those of its elements
pub held_contents : (pages : PageMap) (tree : Tree) (es : List Element) (us : List ℕ) → tree.order ≤ 16 → Holds pages tree es us → contents_at tree.order pages tree.height tree.root ≡ contents_of es
held_contents pages tree es us small holds = ap contents_of (held_elements pages tree es us small holds)

-- a file that was opened is closed, and has the records of its pages
pub opened_closed : (stored : List (List ℕ)) (tail limit reads : ℕ) (pages : PagesView) (tree : Tree) → tree.order ≤ 16 → (opens : Opens stored tail limit reads pages tree) → IsClosed opens.h.version stored tail tree (contents_at tree.order (at pages.pages) tree.height tree.root)
opened_closed stored tail limit reads pages tree small opens = record {
  h = opens.h;
  es = opens.es;
  us = opens.us;
  version_is = refl;
  clean = opens.clean;
  records = sym (held_contents (at pages.pages) tree opens.es opens.us small opens.holds);
}

-- where nothing is changed it is of the version that is written
unchanged_version : (version : ℕ) (changed : Bool) → IsVersion version → changed ≡ eqb version 1 → changed ≡ false → version ≡ 2
unchanged_version version changed (inl first) is idle = absurd (false≢true (sym idle ∙ is ∙ ap (λ (n : ℕ). eqb n 1) first))
unchanged_version version changed (inr second) is idle = second

-- what was written back is a closed file
pub written_back : (pages : PagesView) (stored : List (List ℕ)) (tail count : ℕ) (tree : Tree) → HoldsTree pages tree → length stored ≡ length pages.pages → tail ≡ 0 → count ≡ length pages.pages → 1 ≤ count → count ≤ 1000001 → at pages.pages 0 ≡ None
    → slice_get stored 0 ≡ Some (header_spelling (record { version = 2; order = tree.order; pages = count; root = tree.root; count = tree.count }) clean_state) → AreStored (at pages.pages) stored
    → 1 ≤ tree.order → tree.order ≤ 16 → tree.count ≤ 1000000 → IsClosed 2 stored tail tree (contents_at tree.order (at pages.pages) tree.height tree.root)
written_back pages stored tail count tree held long tail_is count_is some most header first same some_order most_order small =
    let low = root_below tree.order pages.pages tree.height tree.root held.es held.us (omega (arith, some, count_is)) held.fills.holds.tree in
    record {
      h = record { version = 2; order = tree.order; pages = count; root = tree.root; count = tree.count };
      es = held.es;
      us = held.us;
      version_is = refl;
      clean = record {
        begins = record {
          long = record { no_tail = tail_is; some = omega (arith, some, count_is, long); most = omega (arith, most, count_is, long) };
          header = record {
            fits = record { version = inr refl; order = (some_order, most_order); pages = omega (arith, most); root = omega (arith, low, most, count_is); count = omega (arith, small) };
            page = first;
          };
          agrees = record { pages = count_is ∙ sym long; root = omega (arith, low, long) };
        };
        there = record { order = refl; root = refl; holds = holds_move (at pages.pages) (in_file stored) tree held.es held.us held.fills.holds (λ q is. stored_page q (root_in_use second_layout tree.order (at pages.pages) tree.root tree.height held.es held.us held.fills.holds.tree q is)) };
        count = refl;
      };
      records = sym (held_contents (at pages.pages) tree held.es held.us most_order held.fills.holds);
    }
  where
    nonzero : (q : ℕ) → (at pages.pages q ≡ None → ⊥) → eqb q 0 ≡ false
    nonzero zero used = absurd (used header)
    nonzero (suc q) used = grind (arith, nat_tests)

    stored_page : (q : ℕ) → (at pages.pages q ≡ None → ⊥) → in_file stored q ≡ at pages.pages q
    stored_page q used = ap (λ (b : Bool). cond b None (slice_get stored q)) (nonzero q used) ∙ same q (some_of (at pages.pages q) used)

-- a table whose file was opened
pub opened_table : (stored : List (List ℕ)) (tail most reads : ℕ) (pages : PagesView) (tree : Tree) (limit refusals : ℕ) (damages : Damages) (calls : TableCalls) (steady : Bool) → pages.stored ≡ stored → pages.tail ≡ tail → pages.steady ≡ steady → (IsTrue steady → Opens stored tail most reads pages tree)
    → IsTree tree → tree.count ≤ most → limit ≡ most → limit ≤ most_records → AreSpeltIn tree.order pages → IsTable (record { pages = pages; tree = tree; limit = limit; refusals = refusals; damages = damages; calls = calls })
opened_table stored tail most reads pages tree limit refusals damages calls steady stored_is tail_is steady_is found sizes count limit_is limit_most spelt = record {
  tree = sizes;
  count = λ _. omega (arith, count, limit_is);
  limit = limit_most;
  spelt = spelt;
  holds = λ is. let opens = found (sym steady_is ∙ is) in record { es = opens.es; us = opens.us; fills = record { holds = opens.holds; alone = opens.alone } };
  closed = λ is idle.
      let contents = contents_at tree.order (at pages.pages) tree.height tree.root in
      let opens = found (sym steady_is ∙ is) in
      let version = unchanged_version opens.h.version pages.changed opens.clean.begins.header.fits.version opens.changed idle in
      subst (λ (n : ℕ). IsClosed n pages.stored pages.tail tree contents) version (subst (λ (t : ℕ). IsClosed opens.h.version pages.stored t tree contents) (sym tail_is) (subst (λ (ps : List (List ℕ)). IsClosed opens.h.version ps tail tree contents) (sym stored_is) (opened_closed stored tail most reads pages tree sizes.order.1 opens)));
}

pub one_page : (pages : List (List ℕ)) (page other : List ℕ) → slice_get pages 0 ≡ Some page → slice_get pages 0 ≡ Some other → page ≡ other
one_page pages page other one two = ap (λ (o : Option (List ℕ)). unwrap_or o []) (sym one ∙ two)

-- a file has one header
pub one_header : (stored : List (List ℕ)) (h g : Header) → HasHeader stored h → HasHeader stored g → h ≡ g
one_header stored h g here there =
    let page = header_spelling h clean_state in
    let same : page ≡ header_spelling g clean_state = one_page stored page (header_spelling g clean_state) here.page there.page in
    sym (fields_same page h clean_state (header_reads page h clean_state here.fits refl)) ∙ fields_same page g clean_state (header_reads page g clean_state there.fits same)

-- a closed file that was opened has the records that it was closed with
pub same_records : (version : ℕ) (stored : List (List ℕ)) (tail limit reads : ℕ) (pages : PagesView) (tree t : Tree) (contents : Contents) → t.order ≤ 16 → Opens stored tail limit reads pages t → IsClosed version stored tail tree contents → t ≡ tree → contents_at t.order (at pages.pages) t.height t.root ≡ contents
same_records version stored tail limit reads pages tree t contents small opens closed same =
    let header = one_header stored opens.h closed.h opens.clean.begins.header closed.clean.begins.header in
    let nodes = λ (layout : Layout) (x : Tree). elements_below (node_in layout x.order (in_file stored)) x.height x.root in
    held_contents (at pages.pages) t opens.es opens.us small opens.holds
    ∙ ap contents_of
    (sym (held_in (layout_of opens.h.version) (in_file stored) t opens.es opens.us small opens.clean.there.holds)
    ∙ ap (λ (x : Tree). nodes (layout_of opens.h.version) x) same
    ∙ ap (λ (h : Header). nodes (layout_of h.version) tree) header
    ∙ held_in (layout_of closed.h.version) (in_file stored) tree closed.es closed.us (omega (arith, small, ap (λ (x : Tree). x.order) same)) closed.clean.there.holds)
    ∙ closed.records
