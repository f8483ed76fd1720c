use Rattle.std.proofs.lemmas.Bool.{false≢true}
use Rattle.page_store.specs.PagesView.{PagesView}
use Rattle.btree_delete.proofs.FreeNumberLemmas.{within}
use Rattle.btree_delete.proofs.KeptPageLemmas.{reached_of}
use Rattle.std.proofs.Common.{length, get_or, sym, true, ℕ, ◌-◌, Bool, List, drop, ap, ◌∙◌, arith, refl}
use Rattle.std.specs.BTreeSet.{contains}
use Rattle.std.specs.Ordering.{nat_cmp}
use Rattle.page_store.specs.PageMap.{at}
use Rattle.btree_node.specs.Layout.{layout_of}
use Rattle.btree_delete.specs.Survey.{unreached, height_of}
use Rattle.btree_delete.proofs.FreeNumberLemmas.{few_free}
use Rattle.btree_delete.proofs.MeasureLemmas.{measured, rooted_holds, same_tree, free_of}
use Rattle.btree_delete.proofs.opening.measure.measure_tree.Goals as goal

pub overflow_sub-used-2 : goal.overflow_sub-used-2
overflow_sub-used-2 g c =
    let few = few_free c.into_reached-reached.result.items in
    let free_is = c.len-2.ensures.len ∙ c.in_ok-free.ensures.count ∙ ap (λ (xs : List Bool). unreached (drop 1 xs)) c.as_slice.ensures.value in
    omega (arith, few, free_is, c.len.ensures, c.into_reached-reached.result.ok.0)

pub returns-clause-found : goal.returns-clause-found
returns-clause-found g c = λ steady.
    let reached = c.into_reached-reached.result.items in
    let free_is = c.len-2.ensures.len ∙ c.in_ok-free.ensures.count ∙ ap (λ (xs : List Bool). unreached (drop 1 xs)) c.as_slice.ensures.value in
    measured (layout_of c.args.version) c.args.order c.args.pages.now.pages c.args.root (record { order = c.args.order; root = c.args.root; height = c.height_of-height.result; count = c.keys-count.result; used = c.len.result - 1 - c.len-2.result }) c.in_ok-survey.survey reached c.len-2.result (contains nat_cmp c.in_ok-free.free)
    c.args.pages.now.reads c.survey_root.new.pages.reads (omega arith) c.survey_root.ensures.some c.survey_root.ensures.most c.survey_root.ensures.header (c.in_ok-survey.ensures.found steady) c.into_reached-reached.ensures free_is
    refl refl (c.height_of-height.ensures.value ∙ ap height_of c.leaf.ensures) c.keys-count.ensures (ap (λ (n : ℕ). n - 1 - c.len-2.result) (c.len.ensures ∙ c.into_reached-reached.result.ok.0))
    (λ n. free_of c.as_slice.result.now reached n (contains nat_cmp c.in_ok-free.free n) c.as_slice.ensures.value (c.in_ok-free.ensures.free n))

pub returns-clause-exact : goal.returns-clause-exact
returns-clause-exact g c = λ steady tree es us order_is root_is holds.
    let reached = c.into_reached-reached.result.items in
    let free_is = c.len-2.ensures.len ∙ c.in_ok-free.ensures.count ∙ ap (λ (xs : List Bool). unreached (drop 1 xs)) c.as_slice.ensures.value in
    let new_is = c.in_ok-survey.ensures.exact steady tree.height es us (rooted_holds (layout_of c.args.version) c.args.order (at c.args.pages.now.pages) c.args.root tree es us order_is root_is holds) in
    same_tree (layout_of c.args.version) c.args.order c.args.pages.now.pages c.args.root c.height_of-height.result c.keys-count.result (c.len.result - 1 - c.len-2.result) tree es us c.in_ok-survey.survey reached c.len-2.result
    (omega arith) c.survey_root.ensures.some c.survey_root.ensures.most c.survey_root.ensures.header order_is root_is holds new_is c.into_reached-reached.ensures free_is
    (c.height_of-height.ensures.value ∙ ap height_of c.leaf.ensures) c.keys-count.ensures (ap (λ (n : ℕ). n - 1 - c.len-2.result) (c.len.ensures ∙ c.into_reached-reached.result.ok.0))

pub returns-clause-left : goal.returns-clause-left
returns-clause-left g c =
    let reached = c.in_ok-survey.survey.reached in
    let kept = c.in_ok-survey.ensures.kept in
    let free = c.in_ok-free.ensures.free in
    let bits = c.as_slice.ensures.value ∙ c.into_reached-reached.ensures in record {
      free_fits = λ n is.
          let both = (free n).0 is in
          let low = within c.as_slice.result.now n both.1 in
          (both.0, omega (arith, low, ap length c.as_slice.ensures.value, ap length c.into_reached-reached.ensures, c.in_ok-survey.ensures.long));
      free_stay = λ q is. (kept.unread q (ap (λ (xs : List Bool). get_or xs q true) (sym bits) ∙ ((free q).0 is).1)).0;
      respelt = λ steady q some low in_use.
          let was = reached_of reached q (omega (arith, low, c.in_ok-survey.ensures.long)) (λ unread. absurd (false≢true (sym in_use ∙ (free q).1 (some, ap (λ (xs : List Bool). get_or xs q true) bits ∙ unread)))) in
          kept.respelt (ap (λ (v : PagesView). v.steady) c.survey_root.ensures.surveys.store ∙ steady) q was;
      whole = kept.whole;
      spelt = kept.spelt;
    }
