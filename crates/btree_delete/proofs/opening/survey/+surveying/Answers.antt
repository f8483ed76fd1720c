use Rattle.std.proofs.Common.{◌≡◌, ◌-◌, ◌<◌, ◌≤◌, ◌⊎◌, ℕ, Some, None, IsSome, List, length, get_or, drop, ◌+◌, ◌∷◌, [], IsTrue, true, refl, ap, sym, ◌∙◌, subst, arith}
use Rattle.std.proofs.lemmas.List.{length-drop}
use Rattle.std.proofs.lemmas.Result.{err_from_is_err_and}
use Rattle.page_store.specs.PagesView.{PagesView}
use Rattle.page_store.specs.PageMap.{at}
use Rattle.btree_node.specs.declared.node.Node.{Node}
use Rattle.btree_node.specs.declared.node.NodeKind.TheVariants.{Leaf, Inner}
use Rattle.btree_node.specs.Lists.{Element}
use Rattle.btree_node.specs.Spelling.{CanStand}
use Rattle.btree_node.proofs.VersionLemmas.{stands_written}
use Rattle.btree_node.specs.Layout.{layout_of}
use Rattle.btree_insert.specs.declared.bounds.Bounds.{Bounds}
use Rattle.btree_insert.specs.Bounds.{Between}
use Rattle.btree_insert.proofs.ReachLemmas.{on_ok, rest_within}
use Rattle.rec_types.specs.Table.{counted}
use Rattle.page_store.specs.PagesView.{is_in_memory}
use Rattle.btree_insert.specs.Growth.{IsNotOfPages}
use Rattle.btree_insert.specs.PageTrees.{SpellsIn}
use Rattle.btree_insert.specs.Spelt.{AreSpeltIn}
use Rattle.btree_delete.proofs.KeptPageLemmas.{kept_more, in_pages, in_store, outside, written_second}
use Rattle.btree_delete.specs.Survey.{SeenSoFar, unreached, AreKept, stored_page, seen_past, below_page, below_sons, Surveyed, Sound, allowed, node_in, sons_from, elements_from}
use Rattle.btree_delete.proofs.RespellLemmas.{sons_many, Standing, standing, son_first, element_of, element_first, rest_at}
use Rattle.btree_delete.proofs.SurveyLemmas.{Head, Apiece, with_leaf, leaf_found, inner_found, head, leaf_exact, leaf_after, inner_exact, last_found, last_exact, more_found, more_exact, sons_found, sons_sound, match_ok}
use Rattle.btree_delete.proofs.opening.survey.+surveying.Given as given
use Rattle.btree_delete.proofs.opening.survey.+surveying.Goals as goal
use Rattle.btree_delete.proofs.opening.survey.+surveying.Goals.{survey_page-In_ok-keep_page, survey_page-In-Leaf, survey_sons-After-son_in-son, survey_sons-Then-i-count_in, survey_sons-After-key_in-middle, survey_sons-After-add_key}

-- the node that was read is the one at the head of the tree
module _ (g : given.Over) (t : ℕ) (c : survey_page-In_ok-keep_page g t) where
  abbrev node : Node
  node = node_in c.args.order c.read_page.new.page

  node_stands : CanStand node c.args.order
  node_stands = stands_written c.args.version node c.args.order c.in_ok-read_page.ensures.stands.stands

  head_read : IsTrue c.args.pages.now.steady → (h level : ℕ) (es : List Element) (us : List ℕ) → Sound (below_page (layout_of c.args.version) c.args.order (stored_page c.args.pages.now) c.args.least c.args.n) (allowed c.args.above.now.left c.args.above.now.bounds) c.args.survey.now h level es us → Head (layout_of c.args.version) c.args.order (stored_page c.args.pages.now) c.args.least c.args.above.now.left c.args.n c.args.above.now.bounds c.args.survey.now h level es us node
  head_read steady h level es us sound =
      let top = head (layout_of c.args.version) c.args.order (stored_page c.args.pages.now) c.args.least c.args.above.now.left c.args.n c.args.above.now.bounds c.args.survey.now h level es us sound in
      let same : node ≡ top.0 = c.in_ok-read_page.ensures.exact steady top.0 (in_pages (layout_of c.args.version) c.args.order c.args.n c.args.pages.now c.args.survey.now.reached top.0 c.requires.kept (c.if-not-reach.ensures.unvisited refl) top.1.spells) top.1.some top.1.within in
      subst (Head (layout_of c.args.version) c.args.order (stored_page c.args.pages.now) c.args.least c.args.above.now.left c.args.n c.args.above.now.bounds c.args.survey.now h level es us) (sym same) top.1

  -- and spells its node in the file
  read_spells : IsTrue c.args.pages.now.steady → SpellsIn (layout_of c.args.version) c.args.order (stored_page c.args.pages.now) c.args.n node
  read_spells steady = in_store (layout_of c.args.version) c.args.order c.args.n c.args.pages.now c.args.survey.now.reached node c.requires.kept (c.if-not-reach.ensures.unvisited refl) (c.in_ok-read_page.ensures.spells steady)

  stays_steady : c.keep_page.new.pages.steady ≡ c.args.pages.now.steady
  stays_steady = ap (λ (v : PagesView). v.steady) c.keep_page.ensures.stays ∙ ap (λ (v : PagesView). v.steady) c.read_page.ensures.reading.0.unchanged

  counted_read : c.keep_page.new.pages.reads ≡ counted c.args.pages.now.reads true
  counted_read = ap (λ (v : PagesView). v.reads) c.keep_page.ensures.stays ∙ c.in_ok-read_page.ensures.reading.2

  -- the page is kept
  kept_page : AreKept (layout_of c.args.version) c.args.order c.keep_page.new.pages c.reach.new.self.reached
  kept_page =
      kept_more (layout_of c.args.version) c.args.order c.args.n c.args.pages.now c.keep_page.new.pages c.args.survey.now.reached c.reach.new.self.reached node c.requires.kept
      (c.if-not-reach.ensures.unvisited refl) (ap (λ (s : SeenSoFar). s.reached) (c.if-not-reach.ensures.reached refl))
      (c.in_ok-keep_page.ensures.count ∙ ap (λ (v : PagesView). length v.pages) c.read_page.ensures.reading.0.unchanged) (ap (λ (v : PagesView). v.stored) c.keep_page.ensures.stays ∙ ap (λ (v : PagesView). v.stored) c.read_page.ensures.reading.0.unchanged) stays_steady
      (λ q other.
      let o = c.in_ok-keep_page.ensures.others q other in
      (o.0 ∙ ap (λ (v : PagesView). at v.pages q) c.read_page.ensures.reading.0.unchanged, o.1 ∙ ap (λ (v : PagesView). is_in_memory v q) c.read_page.ensures.reading.0.unchanged))
      c.in_ok-read_page.ensures.spells
      (λ steady. c.in_ok-keep_page.ensures.here (ap (λ (v : PagesView). at v.pages c.args.n) c.read_page.ensures.reading.0.unchanged ∙ (c.in_ok-read_page.ensures.spells steady).page))
      (c.in_ok-keep_page.ensures.spelt (subst (AreSpeltIn c.args.order) (sym c.read_page.ensures.reading.0.unchanged) c.requires.kept.spelt))

  pages_read : stored_page c.keep_page.new.pages ≡ stored_page c.args.pages.now
  pages_read = ap (λ (v : PagesView). stored_page v) c.keep_page.ensures.stays ∙ ap (λ (v : PagesView). stored_page v) c.read_page.ensures.reading.0.unchanged

pub survey_page-keep_page-requires : goal.survey_page-keep_page-requires
survey_page-keep_page-requires g t c =
    let same = c.read_page.ensures.reading.0.unchanged in
    record {
      stands = c.in_ok-read_page.ensures.stands.stands;
      written = c.in_ok-read_page.ensures.written;
      in_use = subst (λ (v : PagesView). IsSome (at v.pages c.args.n)) (sym same) c.in_ok-read_page.ensures.in_use;
      read = λ other steady.
          let told = c.in_ok-read_page.ensures.spells (sym (ap (λ (v : PagesView). v.steady) same) ∙ steady) in
          ap (λ (v : PagesView). at v.pages c.args.n) same ∙ told.page
          ∙ ap Some (written_second c.args.version (node_in c.args.order c.read_page.new.page) c.args.order other ∙ sym c.in_ok-read_page.ensures.written);
      unread = ap (λ (v : PagesView). is_in_memory v c.args.n) same ∙ (c.requires.kept.unread c.args.n (c.if-not-reach.ensures.unvisited refl)).1;
    }

-- a leaf at the head is the whole tree
module _ (g : given.Over) (t : ℕ) (c : survey_page-In-Leaf g t) where
  abbrev leaf : Node
  leaf = node_in c.args.order c.read_page.new.page

  leaf_kind : leaf.kind ≡ Leaf
  leaf_kind = sym (c.kind_in.ensures c.args.order leaf c.requires.order (stands_written c.args.version leaf c.args.order c.in_ok-read_page.ensures.stands.stands) c.in_ok-read_page.ensures.written) ∙ c.in-Leaf.is

  leaf_read : (h level : ℕ) (es : List Element) (us : List ℕ) → Sound (below_page (layout_of c.args.version) c.args.order (stored_page c.args.pages.now) c.args.least c.args.n) (allowed c.args.above.now.left c.args.above.now.bounds) c.args.survey.now h level es us → Head (layout_of c.args.version) c.args.order (stored_page c.args.pages.now) c.args.least c.args.above.now.left c.args.n c.args.above.now.bounds c.args.survey.now h level es us leaf
      → (level ≡ c.args.above.now.left) × (es ≡ leaf.elements.items) × (us ≡ c.args.n ∷ [])
  leaf_read h level es us sound here = leaf_exact (layout_of c.args.version) c.args.order (stored_page c.args.pages.now) c.args.least c.args.above.now.left c.args.n c.args.above.now.bounds leaf c.args.survey.now h level es us leaf_kind sound here

abbrev behind : List ℕ → Bounds → Bounds
behind key bounds = record { low = Some key; high = bounds.high }

-- the son at the place, and what stands from there on
module _ (g : given.Over) (t : ℕ) (c : survey_sons-After-son_in-son g t) where
  abbrev sons : List ℕ
  sons = sons_from c.args.order c.args.page.now c.args.i

  abbrev els : List Element
  els = elements_from c.args.order c.args.page.now c.args.i

  stand : Standing c.args.order c.args.page.now c.args.i
  stand = standing c.args.order c.args.page.now c.args.i c.requires.page c.requires.sons

  son_is : c.son_in-son.result ≡ get_or sons 0 0
  son_is = son_first (node_in c.args.order c.args.page.now).sons.items c.args.i c.son_in-son.result (c.son_in-son.ensures (node_in c.args.order c.args.page.now) 0 stand.stands stand.is stand.next)

-- the tree below the first son, and what is below those behind it
module _ (g : given.Over) (t : ℕ) (c : survey_sons-After-key_in-middle g t) where
  abbrev sons_all : List ℕ
  sons_all = (node_in c.args.order c.args.page.now).sons.items

  abbrev els_all : List Element
  els_all = (node_in c.args.order c.args.page.now).elements.items

  abbrev first : Element
  first = element_of els_all c.args.i c.key_in-middle.result

  here : Standing c.args.order c.args.page.now c.args.i
  here = standing c.args.order c.args.page.now c.args.i c.requires.page c.requires.sons

  low : c.args.i < length els_all
  low = omega (arith, here.within, c.if-i-count_in.false, c.count_in.ensures.node c.args.order (node_in c.args.order c.args.page.now) c.requires.page.0 here.stands here.is)

  some_element : 0 < length (drop c.args.i els_all)
  some_element = omega (arith, low, length-drop c.args.i els_all)

  first_is : first ≡ get_or (drop c.args.i els_all) 0 first
  first_is = element_first els_all c.args.i c.key_in-middle.result low (c.key_in-middle.ensures (node_in c.args.order c.args.page.now) ([], []) here.stands here.is)

  sons_rest : drop (c.args.i + 1) sons_all ≡ drop 1 (drop c.args.i sons_all)
  sons_rest = rest_at sons_all c.args.i 0 here.next

  els_rest : drop (c.args.i + 1) els_all ≡ drop 1 (drop c.args.i els_all)
  els_rest = rest_at els_all c.args.i ([], []) low

  sons_apart : (h level : ℕ) (es : List Element) (us : List ℕ) → Sound (below_sons (layout_of c.args.version) c.args.order (stored_page c.args.pages.now) (drop c.args.i sons_all) (drop c.args.i els_all)) (allowed c.args.above.now.left c.args.above.now.bounds) c.args.survey.now h level es us
      → Apiece (layout_of c.args.version) c.args.order (stored_page c.args.pages.now) c.args.above.now.left c.args.above.now.bounds (drop c.args.i sons_all) (drop c.args.i els_all) first c.args.survey.now h level es us
  sons_apart h level es us sound = more_exact (layout_of c.args.version) c.args.order (stored_page c.args.pages.now) c.args.above.now.left c.args.above.now.bounds (drop c.args.i sons_all) (drop c.args.i els_all) first c.args.survey.now h level es us some_element first_is sound

-- no element is left
module _ (g : given.Over) (t : ℕ) (c : survey_sons-Then-i-count_in g t) where
  none_left : length (elements_from c.args.order c.args.page.now c.args.i) ≡ 0
  none_left =
      let node = node_in c.args.order c.args.page.now in
      let s = standing c.args.order c.args.page.now c.args.i c.requires.page c.requires.sons in
      omega (arith, c.if-i-count_in.true, c.count_in.ensures.node c.args.order node c.requires.page.0 s.stands s.is, length-drop c.args.i node.elements.items)

module _ (g : given.Over) (t : ℕ) (c : survey_sons-After-add_key g t) where
  pages_stay : stored_page c.survey_page-2.new.pages ≡ stored_page c.args.pages.now
  pages_stay = ap (λ (v : PagesView). stored_page v) c.in_ok-survey_page.ensures.surveys.store

pub survey_page-returns-in_err-read_page-clause-exact : goal.survey_page-returns-in_err-read_page-clause-exact
survey_page-returns-in_err-read_page-clause-exact g t c = λ steady h level es us sound.
    let p = err_from_is_err_and c.from_residual.result c.from_residual.ensures.1 in
    let top = head (layout_of c.args.version) c.args.order (stored_page c.args.pages.now) c.args.least c.args.above.now.left c.args.n c.args.above.now.bounds c.args.survey.now h level es us sound in
    rw (p.1, p.2) (outside _ (c.in_err-read_page.ensures.exact steady top.0 (in_pages (layout_of c.args.version) c.args.order c.args.n c.args.pages.now c.args.survey.now.reached top.0 c.requires.kept (c.if-not-reach.ensures.unvisited refl) top.1.spells) top.1.some top.1.within))

pub survey_page-returns-then-add_leaf-clause-found : goal.survey_page-returns-then-add_leaf-clause-found
survey_page-returns-then-add_leaf-clause-found g t c = λ steady.
    let node = node_in c.args.order c.read_page.new.page in
    let places = goal.at.survey_page-returns-then-add_leaf-clause-found g t c in
    let place = places.In_ok-keep_page in
    leaf_found (layout_of c.args.version) c.args.order (stored_page c.args.pages.now) c.args.least c.args.above.now.left c.args.n c.args.above.now.bounds node c.args.survey.now c.reach.new.self c.add_leaf.new.self c.args.pages.now.reads c.keep_page.new.pages.reads
    (read_spells g t place steady) (leaf_kind g t places.In-Leaf) c.in_ok-read_page.ensures.stands.enough c.in_ok-read_page.ensures.stands.within (c.if-not-reach.ensures.unvisited refl) (c.if-not-reach.ensures.reached refl) (c.if-add_leaf.ensures.fits refl)
    (c.if-add_leaf.ensures.added refl ∙ ap (λ n. with_leaf c.args.above.now.left n c.reach.new.self) (c.count_in.ensures.node c.args.order node c.requires.order (node_stands g t place) c.in_ok-read_page.ensures.written))
    (counted_read g t place)

pub survey_page-returns-then-add_leaf-clause-exact : goal.survey_page-returns-then-add_leaf-clause-exact
survey_page-returns-then-add_leaf-clause-exact g t c = λ steady h level es us sound.
    let places = goal.at.survey_page-returns-then-add_leaf-clause-exact g t c in
    let is = leaf_read g t places.In-Leaf h level es us sound (head_read g t places.In_ok-keep_page steady h level es us sound) in
    leaf_after level c.args.above.now.left c.args.n (leaf g t places.In-Leaf) es us c.args.survey.now c.reach.new.self c.add_leaf.new.self is.0 is.1 is.2 (c.if-not-reach.ensures.reached refl)
    (c.if-add_leaf.ensures.added refl ∙ ap (λ n. with_leaf c.args.above.now.left n c.reach.new.self) (c.count_in.ensures.node c.args.order (leaf g t places.In-Leaf) c.requires.order (node_stands g t places.In_ok-keep_page) c.in_ok-read_page.ensures.written))

pub survey_page-returns-else-add_leaf-clause-exact : goal.survey_page-returns-else-add_leaf-clause-exact
survey_page-returns-else-add_leaf-clause-exact g t c = λ steady h level es us sound.
    let places = goal.at.survey_page-returns-else-add_leaf-clause-exact g t c in
    let is = leaf_read g t places.In-Leaf h level es us sound (head_read g t places.In_ok-keep_page steady h level es us sound) in
    absurd (c.if-add_leaf.ensures.uneven refl (subst (λ (s : SeenSoFar). (s.leaf ≡ None) ⊎ (s.leaf ≡ Some c.args.above.now.left)) (sym (c.if-not-reach.ensures.reached refl)) (subst (λ (l : ℕ). (c.args.survey.now.leaf ≡ None) ⊎ (c.args.survey.now.leaf ≡ Some l)) is.0 sound.leaf)))

pub survey_page-returns-else-above-eq0-clause-found : goal.survey_page-returns-else-above-eq0-clause-found
survey_page-returns-else-above-eq0-clause-found g t c = λ steady.
    let node = node_in c.args.order c.read_page.new.page in
    let k = c.args.order in
    let layout = layout_of c.args.version in
    let pages = stored_page c.args.pages.now in
    let place = (goal.at.survey_page-returns-else-above-eq0-clause-found g t c).In_ok-keep_page in
    let between : Between c.args.above.now.bounds node.elements.items = record { ascends = c.in_ok-read_page.ensures.stands.stands.ascends; within = c.in_ok-read_page.ensures.stands.within } in
    let inner : node.kind ≡ Inner = sym (c.kind_in.ensures k node c.requires.order (node_stands g t place) c.in_ok-read_page.ensures.written) ∙ c.in-Inner.is in
    on_ok c.survey_sons.result (Surveyed (below_sons layout k (stored_page c.keep_page.new.pages) node.sons.items node.elements.items) (allowed (c.args.above.now.left - 1) c.args.above.now.bounds) c.reach.new.self c.survey_sons.new.survey c.keep_page.new.pages.reads c.survey_sons.new.pages.reads)
    (Surveyed (below_page layout k pages c.args.least c.args.n) (allowed c.args.above.now.left c.args.above.now.bounds) c.args.survey.now c.survey_sons.new.survey c.args.pages.now.reads c.survey_sons.new.pages.reads)
    (λ sub. inner_found layout k pages c.args.least c.args.above.now.left c.args.n c.args.above.now.bounds node c.args.survey.now c.reach.new.self c.survey_sons.new.survey c.args.pages.now.reads c.keep_page.new.pages.reads c.survey_sons.new.pages.reads
    (read_spells g t place steady) inner c.in_ok-read_page.ensures.stands.enough (omega arith) (c.if-not-reach.ensures.unvisited refl) (c.if-not-reach.ensures.reached refl) (counted_read g t place)
    (sons_found layout k pages _ node.sons.items node.sons.items node.elements.items node.elements.items (c.args.above.now.left - 1) c.args.above.now.bounds c.reach.new.self c.survey_sons.new.survey c.keep_page.new.pages.reads c.survey_sons.new.pages.reads
    (pages_read g t place) refl refl sub))
    (c.survey_sons.ensures.found (stays_steady g t place ∙ steady) between)

pub survey_page-returns-else-above-eq0-clause-exact : goal.survey_page-returns-else-above-eq0-clause-exact
survey_page-returns-else-above-eq0-clause-exact g t c = λ steady h level es us sound.
    let node = node_in c.args.order c.read_page.new.page in
    let k = c.args.order in
    let layout = layout_of c.args.version in
    let pages = stored_page c.args.pages.now in
    let place = (goal.at.survey_page-returns-else-above-eq0-clause-exact g t c).In_ok-keep_page in
    let inner : node.kind ≡ Inner = sym (c.kind_in.ensures k node c.requires.order (node_stands g t place) c.in_ok-read_page.ensures.written) ∙ c.in-Inner.is in
    let down = inner_exact layout k pages c.args.least c.args.above.now.left c.args.n c.args.above.now.bounds node c.args.survey.now c.reach.new.self h level es us inner (c.if-not-reach.ensures.reached refl) sound (head_read g t place steady h level es us sound) in
    match_ok c.survey_sons.result (c.survey_sons.new.survey ≡ seen_past level es down.below c.reach.new.self) (c.survey_sons.new.survey ≡ seen_past level es us c.args.survey.now) IsNotOfPages (down.back c.survey_sons.new.survey)
    (c.survey_sons.ensures.exact (stays_steady g t place ∙ steady) down.h1 level es down.below
    (sons_sound layout k pages _ node.sons.items node.sons.items node.elements.items node.elements.items (c.args.above.now.left - 1) c.args.above.now.bounds c.reach.new.self down.h1 level es down.below
    (pages_read g t place) refl refl down.sound))

pub survey_sons-returns-then-i-count_in-clause-found : goal.survey_sons-returns-then-i-count_in-clause-found
survey_sons-returns-then-i-count_in-clause-found g t c = λ steady between.
    let k = c.args.order in
    let layout = layout_of c.args.version in
    let pages = stored_page c.args.pages.now in
    let place = (goal.at.survey_sons-returns-then-i-count_in-clause-found g t c).After-son_in-son in
    let may = allowed c.args.above.now.left c.args.above.now.bounds in
    let none = none_left g t (goal.at.survey_sons-returns-then-i-count_in-clause-found g t c).Then-i-count_in in
    on_ok c.survey_page.result (Surveyed (below_page layout k pages k c.son_in-son.result) may c.args.survey.now c.survey_page.new.survey c.args.pages.now.reads c.survey_page.new.pages.reads)
    (Surveyed (below_sons layout k pages (sons g t place) (els g t place)) may c.args.survey.now c.survey_page.new.survey c.args.pages.now.reads c.survey_page.new.pages.reads)
    (λ sub. last_found layout k pages c.args.above.now.left c.args.above.now.bounds (sons g t place) (els g t place) c.args.survey.now c.survey_page.new.survey c.args.pages.now.reads c.survey_page.new.pages.reads none c.requires.sons
    (subst (λ p. Surveyed (below_page layout k pages k p) may c.args.survey.now c.survey_page.new.survey c.args.pages.now.reads c.survey_page.new.pages.reads) (son_is g t place) sub))
    (c.survey_page.ensures.found steady)

pub survey_sons-returns-then-i-count_in-clause-exact : goal.survey_sons-returns-then-i-count_in-clause-exact
survey_sons-returns-then-i-count_in-clause-exact g t c = λ steady h level es us sound.
    let k = c.args.order in
    let layout = layout_of c.args.version in
    let pages = stored_page c.args.pages.now in
    let place = (goal.at.survey_sons-returns-then-i-count_in-clause-exact g t c).After-son_in-son in
    let may = allowed c.args.above.now.left c.args.above.now.bounds in
    let none = none_left g t (goal.at.survey_sons-returns-then-i-count_in-clause-exact g t c).Then-i-count_in in
    c.survey_page.ensures.exact steady h level es us
    (subst (λ p. Sound (below_page layout k pages k p) may c.args.survey.now h level es us) (sym (son_is g t place)) (last_exact layout k pages c.args.above.now.left c.args.above.now.bounds (sons g t place) (els g t place) c.args.survey.now h level es us none sound))

pub survey_sons-returns-in_err-survey_page-clause-exact : goal.survey_sons-returns-in_err-survey_page-clause-exact
survey_sons-returns-in_err-survey_page-clause-exact g t c = λ steady h level es us sound.
    let k = c.args.order in
    let layout = layout_of c.args.version in
    let pages = stored_page c.args.pages.now in
    let p = err_from_is_err_and c.from_residual.result c.from_residual.ensures.1 in
    let places = goal.at.survey_sons-returns-in_err-survey_page-clause-exact g t c in
    let one = sons_apart g t places.After-key_in-middle h level es us sound in
    let before = allowed c.args.above.now.left (record { low = c.args.above.now.bounds.low; high = Some c.key_in-middle.result }) in
    rw (p.1, p.2) (c.in_err-survey_page.ensures.exact steady h level one.xs one.here (subst (λ q. Sound (below_page layout k pages k q) before c.args.survey.now h level one.xs one.here) (sym (son_is g t places.After-son_in-son)) one.first))

pub survey_sons-returns-clause-found : goal.survey_sons-returns-clause-found
survey_sons-returns-clause-found g t c = λ steady between.
    let k = c.args.order in
    let layout = layout_of c.args.version in
    let pages = stored_page c.args.pages.now in
    let places = goal.at.survey_sons-returns-clause-found g t c in
    let p = places.After-key_in-middle in
    let all_sons = sons g t places.After-son_in-son in
    let all_els = els g t places.After-son_in-son in
    let x = first g t p in
    let key = c.key_in-middle.result in
    let before = allowed c.args.above.now.left (record { low = c.args.above.now.bounds.low; high = Some key }) in
    let inner = subst (Between (behind key c.args.above.now.bounds)) (sym (els_rest g t p)) (rest_within c.args.above.now.bounds all_els x (some_element g t p) (first_is g t p) between) in
    on_ok c.survey_sons.result (Surveyed (below_sons layout k (stored_page c.survey_page-2.new.pages) (sons_from k c.args.page.now (c.args.i + 1)) (elements_from k c.args.page.now (c.args.i + 1))) (allowed c.args.above.now.left (behind key c.args.above.now.bounds)) c.add_key.new.self c.survey_sons.new.survey c.survey_page-2.new.pages.reads c.survey_sons.new.pages.reads)
    (Surveyed (below_sons layout k pages all_sons all_els) (allowed c.args.above.now.left c.args.above.now.bounds) c.args.survey.now c.survey_sons.new.survey c.args.pages.now.reads c.survey_sons.new.pages.reads)
    (λ sub. more_found layout k pages c.args.above.now.left c.args.above.now.bounds all_sons all_els x c.args.survey.now c.survey_page-2.new.survey c.add_key.new.self c.survey_sons.new.survey c.args.pages.now.reads c.survey_page-2.new.pages.reads c.survey_sons.new.pages.reads
    (some_element g t p) c.requires.sons (first_is g t p) between
    (subst (λ q. Surveyed (below_page layout k pages k q) before c.args.survey.now c.survey_page-2.new.survey c.args.pages.now.reads c.survey_page-2.new.pages.reads) (son_is g t places.After-son_in-son) (c.in_ok-survey_page.ensures.found steady)) c.add_key.ensures
    (sons_found layout k pages _ (drop 1 all_sons) _ (drop 1 all_els) _ c.args.above.now.left (behind key c.args.above.now.bounds) c.add_key.new.self c.survey_sons.new.survey c.survey_page-2.new.pages.reads c.survey_sons.new.pages.reads
    (pages_stay g t places.After-add_key) (sons_rest g t p) (els_rest g t p) sub))
    (c.survey_sons.ensures.found (ap (λ (v : PagesView). v.steady) c.in_ok-survey_page.ensures.surveys.store ∙ steady) inner)

pub survey_sons-returns-clause-exact : goal.survey_sons-returns-clause-exact
survey_sons-returns-clause-exact g t c = λ steady h level es us sound.
    let k = c.args.order in
    let layout = layout_of c.args.version in
    let pages = stored_page c.args.pages.now in
    let places = goal.at.survey_sons-returns-clause-exact g t c in
    let p = places.After-key_in-middle in
    let all_sons = sons g t places.After-son_in-son in
    let all_els = els g t places.After-son_in-son in
    let key = c.key_in-middle.result in
    let before = allowed c.args.above.now.left (record { low = c.args.above.now.bounds.low; high = Some key }) in
    let one = sons_apart g t p h level es us sound in
    let reached_is = c.in_ok-survey_page.ensures.exact steady h level one.xs one.here (subst (λ q. Sound (below_page layout k pages k q) before c.args.survey.now h level one.xs one.here) (sym (son_is g t places.After-son_in-son)) one.first) in
    match_ok c.survey_sons.result (c.survey_sons.new.survey ≡ seen_past level one.ys one.rest c.add_key.new.self) (c.survey_sons.new.survey ≡ seen_past level es us c.args.survey.now) IsNotOfPages
    (λ is. one.back c.survey_page-2.new.survey c.add_key.new.self c.survey_sons.new.survey reached_is c.add_key.ensures is)
    (c.survey_sons.ensures.exact (ap (λ (v : PagesView). v.steady) c.in_ok-survey_page.ensures.surveys.store ∙ steady) h level one.ys one.rest
    (sons_sound layout k pages _ (drop 1 all_sons) _ (drop 1 all_els) _ c.args.above.now.left (behind key c.args.above.now.bounds) c.add_key.new.self h level one.ys one.rest
    (pages_stay g t places.After-add_key) (sons_rest g t p) (els_rest g t p) (one.more c.survey_page-2.new.survey c.add_key.new.self reached_is c.add_key.ensures)))

pub survey_page-survey_sons-requires : goal.survey_page-survey_sons-requires
survey_page-survey_sons-requires g t c = λ κs sub.
    let place = (goal.at.survey_page-survey_sons-requires g t c).In_ok-keep_page in
    let here = node g t place in
    let can = node_stands g t place in
    let inner : here.kind ≡ Inner = sym (c.kind_in.ensures c.args.order here c.requires.order can c.in_ok-read_page.ensures.written) ∙ c.in-Inner.is in
    let many = sons_many here.kind (length here.elements.items) here.sons.items inner can.sons in
    let few : length here.elements.items ≤ 32 = omega (arith, can.most, c.requires.order) in
    let reached = c.if-not-reach.ensures.reached refl in (
      omega (arith, c.decreases, c.if-above-eq0.false, many, few),
      (
        sub,
        (
          kept_page g t place,
          (
            (c.requires.order, (here, can, c.in_ok-read_page.ensures.written)),
            (many, omega (arith, c.requires.room, few, c.if-not-reach.ensures.fewer refl, ap (λ (s : SeenSoFar). s.keys) reached)),
          ),
        ),
      ),
    )

pub survey_sons-survey_sons-requires : goal.survey_sons-survey_sons-requires
survey_sons-survey_sons-requires g t c = λ κs sub.
    let p = (goal.at.survey_sons-survey_sons-requires g t c).After-key_in-middle in
    let s = here g t p in
    let all_sons = sons_all g t p in
    let all_els = els_all g t p in
    let sons_now = length-drop c.args.i all_sons in
    let els_now = length-drop c.args.i all_els in
    let sons_next = length-drop (c.args.i + 1) all_sons in
    let els_next = length-drop (c.args.i + 1) all_els in (
      omega (arith, c.decreases, s.next, sons_now, sons_next),
      (
        sub,
        (
          subst (AreKept (layout_of c.args.version) c.args.order c.survey_page-2.new.pages) (sym (ap (λ (seen : SeenSoFar). seen.reached) c.add_key.ensures)) c.in_ok-survey_page.ensures.kept,
          (
            c.requires.page,
            (
              omega (arith, c.requires.sons, low g t p, s.next, sons_now, els_now, sons_next, els_next),
              omega (arith, c.requires.room, c.in_ok-survey_page.ensures.room, low g t p, els_now, els_next, ap (λ (seen : SeenSoFar). seen.keys) c.add_key.ensures, ap (λ (seen : SeenSoFar). unreached seen.reached) c.add_key.ensures),
            ),
          ),
        ),
      ),
    )

pub survey_sons-son_in-son-requires : goal.survey_sons-son_in-son-requires
survey_sons-son_in-son-requires g t c =
    let s = standing c.args.order c.args.page.now c.args.i c.requires.page c.requires.sons in
    (omega arith, c.requires.page.0, omega (arith, s.within, s.few))

pub survey_sons-key_in-middle-requires-clause-index : goal.survey_sons-key_in-middle-requires-clause-index
survey_sons-key_in-middle-requires-clause-index g t c =
    let s = standing c.args.order c.args.page.now c.args.i c.requires.page c.requires.sons in
    omega (arith, s.within, c.if-i-count_in.false, c.count_in.ensures.value, c.count_in.ensures.node c.args.order (node_in c.args.order c.args.page.now) c.requires.page.0 s.stands s.is)

pub survey_sons-add_key-requires : goal.survey_sons-add_key-requires
survey_sons-add_key-requires g t c = omega (arith, c.in_ok-survey_page.ensures.room, c.requires.room, some_element g t (goal.at.survey_sons-add_key-requires g t c).After-key_in-middle)

pub survey_sons-overflow_add-i : goal.survey_sons-overflow_add-i
survey_sons-overflow_add-i g t c =
    let s = standing c.args.order c.args.page.now c.args.i c.requires.page c.requires.sons in
    omega (arith, s.within, s.few)

pub survey_sons-returns-clause-room : goal.survey_sons-returns-clause-room
survey_sons-returns-clause-room g t c =
    let els = (node_in c.args.order c.args.page.now).elements.items in
    let here = low g t (goal.at.survey_sons-returns-clause-room g t c).After-key_in-middle in
    on_ok c.survey_sons.result _ _
    (λ room. omega (arith, room, here, c.in_ok-survey_page.ensures.room, ap (λ (s : SeenSoFar). s.keys) c.add_key.ensures, ap (λ (s : SeenSoFar). unreached s.reached) c.add_key.ensures, length-drop c.args.i els, length-drop (c.args.i + 1) els))
    c.survey_sons.ensures.room

pub survey_page-returns-then-add_leaf-clause-kept : goal.survey_page-returns-then-add_leaf-clause-kept
survey_page-returns-then-add_leaf-clause-kept g t c =
    subst (AreKept (layout_of c.args.version) c.args.order c.keep_page.new.pages) (sym (ap (λ (s : SeenSoFar). s.reached) (c.if-add_leaf.ensures.added refl)))
    (kept_page g t (goal.at.survey_page-returns-then-add_leaf-clause-kept g t c).In_ok-keep_page)
