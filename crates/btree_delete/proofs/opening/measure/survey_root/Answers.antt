use Rattle.std.proofs.Common.{◌≡◌, ◌-◌, ℕ, Bool, List, length, ap, sym, ◌∙◌, subst, arith}
use Rattle.std.proofs.lemmas.Result.{err_from_is_err_and}
use Rattle.page_store.specs.PageMap.{PageMap, at}
use Rattle.btree_node.specs.Layout.{layout_of}
use Rattle.btree_insert.specs.Bounds.{unbounded}
use Rattle.btree_delete.specs.Survey.{SeenSoFar, Surveyed, stored_page, below_page, Sound, allowed}
use Rattle.btree_delete.proofs.KeptPageLemmas.{nothing_kept}
use Rattle.btree_node.specs.Lists.{Element}
use Rattle.btree_delete.specs.Survey.{none_of, IsRooted}
use Rattle.btree_delete.proofs.MeasureLemmas.{begin_with, SoundRoot, room_start, rooted_found, rooted_exact}
use Rattle.btree_delete.proofs.opening.measure.survey_root.Given as given
use Rattle.btree_delete.proofs.opening.measure.survey_root.Goals as goal
use Rattle.btree_delete.proofs.opening.measure.survey_root.Goals.{Else-root-eq0}

-- the walk begins with no page reached, and the whole tree is below the root
module _ (g : given.Over) (c : Else-root-eq0 g) where
  start_is : c.new-survey.result ≡ begin_with (none_of (length c.args.pages.now.pages))
  start_is = c.new-survey.ensures ∙ ap (λ (xs : List Bool). begin_with xs) (c.in_ok-reached.ensures.items_if_clones_equal (λ y h. h) ∙ ap none_of c.page_count-count.ensures.value)

  root_sound : (height : ℕ) (es : List Element) (us : List ℕ) → IsRooted (layout_of c.args.version) c.args.order (at c.args.pages.now.pages) c.args.root height es us → SoundRoot (layout_of c.args.version) c.args.order c.args.pages.now.pages c.args.root height es us c.new-survey.result
  root_sound height es us rooted =
      rooted_exact (layout_of c.args.version) c.args.order c.args.pages.now.pages c.args.root height es us c.new-survey.result (λ none. omega (arith, none)) (omega arith) (omega (arith, c.page_count-count.ensures.value, c.page_count-count.ensures.most)) start_is rooted

-- the pages are the file's, so far
module _ (g : given.Over) (c : Else-root-eq0 g) where
  pages_are : at c.args.pages.now.pages ≡ stored_page c.args.pages.now
  pages_are = λ i n. c.requires.1.same n i

  from_stored : (h : ℕ) (es : List Element) (us : List ℕ) → Sound (below_page (layout_of c.args.version) c.args.order (at c.args.pages.now.pages) 1 c.args.root) (allowed 18 unbounded) c.new-survey.result h (18 - h) es us → Sound (below_page (layout_of c.args.version) c.args.order (stored_page c.args.pages.now) 1 c.args.root) (allowed 18 unbounded) c.new-survey.result h (18 - h) es us
  from_stored h es us sound = subst (λ (pages : PageMap). Sound (below_page (layout_of c.args.version) c.args.order pages 1 c.args.root) (allowed 18 unbounded) c.new-survey.result h (18 - h) es us) pages_are sound

pub survey_page-requires-clause-kept : goal.survey_page-requires-clause-kept
survey_page-requires-clause-kept g c =
    nothing_kept (layout_of c.args.version) c.args.order c.args.pages.now (length c.args.pages.now.pages) c.new-survey.result.reached c.requires.1 (ap (λ (s : SeenSoFar). s.reached) (start_is g (goal.at.survey_page-requires-clause-kept g c).Else-root-eq0))

pub survey_page-requires-clause-room : goal.survey_page-requires-clause-room
survey_page-requires-clause-room g c =
    room_start (length c.args.pages.now.pages) c.new-survey.result (start_is g (goal.at.survey_page-requires-clause-room g c).Else-root-eq0) (omega (arith, c.page_count-count.ensures.value, c.page_count-count.ensures.most))

pub returns-in_err-survey_page-clause-exact : goal.returns-in_err-survey_page-clause-exact
returns-in_err-survey_page-clause-exact g c = λ steady height es us rooted.
    let p = err_from_is_err_and c.from_residual-in_err-survey_page.result c.from_residual-in_err-survey_page.ensures.1 in
    let one = root_sound g (goal.at.returns-in_err-survey_page-clause-exact g c).Else-root-eq0 height es us rooted in
    rw (p.1, p.2) (c.in_err-survey_page.ensures.exact steady one.0 (18 - one.0) es us (from_stored g (goal.at.returns-in_err-survey_page-clause-exact g c).Else-root-eq0 one.0 es us one.1))

pub returns-clause-found : goal.returns-clause-found
returns-clause-found g c = λ steady.
    rooted_found (layout_of c.args.version) c.args.order c.args.pages.now.pages c.args.root c.new-survey.result c.survey_page.new.survey c.args.pages.now.reads c.survey_page.new.pages.reads (start_is g (goal.at.returns-clause-found g c).Else-root-eq0)
    (subst (λ (pages : PageMap). Surveyed (below_page (layout_of c.args.version) c.args.order pages 1 c.args.root) (allowed 18 unbounded) c.new-survey.result c.survey_page.new.survey c.args.pages.now.reads c.survey_page.new.pages.reads) (sym (pages_are g (goal.at.returns-clause-found g c).Else-root-eq0)) (c.in_ok-survey_page.ensures.found steady))

pub returns-clause-exact : goal.returns-clause-exact
returns-clause-exact g c = λ steady height es us rooted.
    let one = root_sound g (goal.at.returns-clause-exact g c).Else-root-eq0 height es us rooted in
    c.in_ok-survey_page.ensures.exact steady one.0 (18 - one.0) es us (from_stored g (goal.at.returns-clause-exact g c).Else-root-eq0 one.0 es us one.1) ∙ one.2
