use Rattle.std.proofs.Common.{rules, ◌≡◌, ℕ, ◌+◌, ◌<◌, zero, suc, Bool, true, List, Option, Some, IsSome, IsTrue, slice_get, is_some, refl, subst, sym, ap, ◌∙◌, arith}
use Rattle.std.proofs.lemmas.Grind.{elements}
use Rattle.rec_types.specs.Table.{counted}
use Rattle.page_store.specs.Overlaid.{slots_of}
use Rattle.page_store.specs.Calls.{counted_times, how_many}
use Rattle.page_store.specs.PageMap.{PageMap}
use Rattle.page_store.specs.WritingBack.{to_write, SameBut}
use Rattle.page_store.proofs.CallCountLemmas.{counted_once, one_more_yes, one_more_no, how_many_below, all_calls, on_err}
use Rattle.page_store.specs.Guards.{Guard, AllowsAll, may_write}
use Rattle.page_store.specs.Journal.{noted_steps, writes_below}
use Rattle.page_store.proofs.GuardLemmas.{allowed_at}
use Rattle.page_store.proofs.JournalLemmas.{write_noted, skip_noted, failed_writes, noted_none}
use Rattle.page_store.proofs.WriteBackLemmas.{others_put, pages_put, pages_skipped}
use Rattle.page_store.proofs.write_back.put_changed.Goals as goal
use Rattle.page_store.proofs.write_back.put_changed.Goals.{in-Some+in_ok-write, in_default}

-- a page that is written passes where all do
written_guard : (pages : PageMap) (n count : ℕ) (page : List ℕ) (old mid new : Guard) → n < count → Some page ≡ pages n → mid ≡ old → (IsTrue (may_write mid n) → new ≡ mid) → AllowsAll old (writes_below pages count) → new ≡ old
written_guard pages n count page old mid new below is same passes all =
    passes (subst (λ (k : Guard). IsTrue (may_write k n)) (sym same) (allowed_at old pages count n page all below is)) ∙ same

-- page 0 is none of the pages to write
page_0_left : (slots : List (Option (List ℕ))) (free : List ℕ) (count : ℕ) (stored : List (List ℕ)) (n : ℕ) → n < 1 → IsSome (to_write slots free count n) → slice_get stored n ≡ to_write slots free count n
page_0_left slots free count stored zero below some = absurd (cc)
page_0_left slots free count stored (suc n) below some = absurd (omega (arith, below))

pub loop-n-init : goal.loop-n-init
loop-n-init g c = record {
  others = record { long = refl; same = λ n out. refl };
  pages = λ steady. page_0_left (slots_of c.args.changed.now) c.args.free.now.keys c.args.count (g.S.StoreState.pages c.args.store.now);
  tail = refl;
  steady = refl;
  opening = refl;
  reads = refl;
  shapes = refl;
  writes = refl;
  failures = refl;
  journal = noted_none (g.S.StoreState.journal c.args.store.now);
  guard = λ all. refl;
}

pub loop-n-preserved : goal.loop-n-preserved
loop-n-preserved g c =
    let pages : PageMap = to_write (slots_of c.args.changed.now) c.args.free.now.keys c.args.count in
    let test : ℕ → Bool = λ n. is_some (pages n) in
    let old = g.S.StoreState.writes c.args.store.now in
    record {
      others = elim c.match-page_to_write.branch [
        | in-Some+in_ok-write w ↦ others_put pages _ _ _ c.loop-n.n c.loop-n.invariant.others (ap is_some (sym w.in-Some.ensures)) (w.write.ensures.other_pages.0, ap g.S.StoreState.pages w.store-is ∙ w.write.ensures.other_pages.1)
        | in_default w ↦ subst (SameBut test (g.S.StoreState.pages c.args.store.now)) (ap g.S.StoreState.pages (sym w.store-is)) c.loop-n.invariant.others
      ];
      pages = elim c.match-page_to_write.branch [
        | in-Some+in_ok-write w ↦ λ steady. pages_put pages _ _ c.loop-n.n w.in-Some.page.now
            (let long = c.loop-n.invariant.others.long in let all = c.requires.long in let below = c.loop-n-test.true in omega arith)
            (c.loop-n.invariant.pages steady) (sym w.in-Some.ensures)
            (ap g.S.StoreState.pages w.store-is ∙ w.in_ok-write.ensures.page (c.loop-n.invariant.steady ∙ steady))
        | in_default w ↦ λ steady k below some. ap (λ s. slice_get (g.S.StoreState.pages s) k) w.store-is ∙ pages_skipped pages _ c.loop-n.n (c.loop-n.invariant.pages steady) (sym w.in_default.ensures) k below some
      ];
      tail = elim c.match-page_to_write.branch [ in-Some+in_ok-write w ↦ ap g.S.StoreState.tail w.store-is ∙ w.write.ensures.same_tail ∙ c.loop-n.invariant.tail | in_default w ↦ ap g.S.StoreState.tail w.store-is ∙ c.loop-n.invariant.tail ];
      steady = elim c.match-page_to_write.branch [ in-Some+in_ok-write w ↦ ap g.S.StoreState.steady w.store-is ∙ w.write.ensures.changes.steady ∙ c.loop-n.invariant.steady | in_default w ↦ ap g.S.StoreState.steady w.store-is ∙ c.loop-n.invariant.steady ];
      opening = elim c.match-page_to_write.branch [ in-Some+in_ok-write w ↦ ap g.S.StoreState.opening w.store-is ∙ w.write.ensures.changes.opening ∙ c.loop-n.invariant.opening | in_default w ↦ ap g.S.StoreState.opening w.store-is ∙ c.loop-n.invariant.opening ];
      reads = elim c.match-page_to_write.branch [ in-Some+in_ok-write w ↦ ap g.S.StoreState.reads w.store-is ∙ w.write.ensures.changes.reads ∙ c.loop-n.invariant.reads | in_default w ↦ ap g.S.StoreState.reads w.store-is ∙ c.loop-n.invariant.reads ];
      shapes = elim c.match-page_to_write.branch [ in-Some+in_ok-write w ↦ ap g.S.StoreState.shapes w.store-is ∙ w.write.ensures.changes.shapes ∙ c.loop-n.invariant.shapes | in_default w ↦ ap g.S.StoreState.shapes w.store-is ∙ c.loop-n.invariant.shapes ];
      writes = elim c.match-page_to_write.branch [
        | in-Some+in_ok-write w ↦ ap g.S.StoreState.writes w.store-is ∙ w.write.ensures.changes.writes ∙ ap (λ k. counted k true) c.loop-n.invariant.writes
            ∙ counted_once old (how_many test c.loop-n.n) ∙ ap (counted_times old) (sym (one_more_yes test c.loop-n.n (ap is_some (sym w.in-Some.ensures))))
        | in_default w ↦ ap g.S.StoreState.writes w.store-is ∙ c.loop-n.invariant.writes ∙ ap (counted_times old) (sym (one_more_no test c.loop-n.n (ap is_some (sym w.in_default.ensures))))
      ];
      failures = elim c.match-page_to_write.branch [ in-Some+in_ok-write w ↦ ap g.S.StoreState.failures w.store-is ∙ w.in_ok-write.ensures.changes.failures ∙ c.loop-n.invariant.failures | in_default w ↦ ap g.S.StoreState.failures w.store-is ∙ c.loop-n.invariant.failures ];
      journal = elim c.match-page_to_write.branch [
        | in-Some+in_ok-write w ↦ write_noted pages c.loop-n.n w.in-Some.page.now (g.S.StoreState.journal c.args.store.now) (g.S.StoreState.journal c.loop-n.store) _ w.in-Some.ensures c.loop-n.invariant.journal (ap g.S.StoreState.journal w.store-is ∙ w.in_ok-write.ensures.changes.journal)
        | in_default w ↦ skip_noted pages c.loop-n.n (g.S.StoreState.journal c.args.store.now) _ w.in_default.ensures (ap g.S.StoreState.journal w.store-is ∙ c.loop-n.invariant.journal)
      ];
      guard = elim c.match-page_to_write.branch [
        | in-Some+in_ok-write w ↦ λ all. ap g.S.StoreState.guard w.store-is ∙ written_guard pages c.loop-n.n c.args.count w.in-Some.page.now (g.S.StoreState.guard c.args.store.now) (g.S.StoreState.guard c.loop-n.store) _ c.loop-n-test.true w.in-Some.ensures (c.loop-n.invariant.guard all) w.write.ensures.changes.guard all
        | in_default w ↦ λ all. ap g.S.StoreState.guard w.store-is ∙ c.loop-n.invariant.guard all
      ];
    }

pub returns-in_err-write-clause-others : goal.returns-in_err-write-clause-others
returns-in_err-write-clause-others g c = grind (arith, elements)

pub returns-in_err-write-clause-carries : goal.returns-in_err-write-clause-carries
returns-in_err-write-clause-carries g c = record {
  steady = search rules;
  opening = search rules;
  reads = search rules;
  shapes = search rules;
  writes = search rules;
  writes_err =
      let pages : PageMap = to_write (slots_of c.args.changed.now) c.args.free.now.keys c.args.count in
      let many : ℕ → ℕ = how_many (λ n. is_some (pages n)) in
      let old = g.S.StoreState.writes c.args.store.now in
      let made : g.S.StoreState.writes c.write.new.self ≡ counted_times old (many c.loop-n.n + 1) = c.write.ensures.changes.writes ∙ ap (λ k. counted k true) c.loop-n.invariant.writes ∙ counted_once old (many c.loop-n.n) in
      on_err _ (all_calls old _ (many c.loop-n.n + 1) (many c.args.count) (omega arith) (how_many_below (λ n. is_some (pages n)) c.loop-n.n c.args.count c.loop-n-test.true (ap is_some (sym c.in-Some.ensures))) made);
  failures = search rules;
  journal = search rules;
  journal_err =
      let pages : PageMap = to_write (slots_of c.args.changed.now) c.args.free.now.keys c.args.count in
      on_err _ (failed_writes pages c.loop-n.n c.args.count (g.S.StoreState.journal c.args.store.now) (g.S.StoreState.journal c.loop-n.store) (g.S.StoreState.journal c.write.new.self) (let below = c.loop-n-test.true in omega arith) c.loop-n.invariant.journal c.in_err-write.ensures.changes.same_journal);
  guard = λ all. written_guard (to_write (slots_of c.args.changed.now) c.args.free.now.keys c.args.count) c.loop-n.n c.args.count c.in-Some.page.now (g.S.StoreState.guard c.args.store.now) (g.S.StoreState.guard c.loop-n.store) _ c.loop-n-test.true c.in-Some.ensures (c.loop-n.invariant.guard all) c.write.ensures.changes.guard all;
}

pub returns-clause-carries : goal.returns-clause-carries
returns-clause-carries g c = record {
  steady = search rules;
  opening = search rules;
  reads = search rules;
  shapes = search rules;
  writes =
      let pages : PageMap = to_write (slots_of c.args.changed.now) c.args.free.now.keys c.args.count in
      let low = c.loop-n.auto.n-end c.requires.some in
      let high = c.loop-n-test.false in
      let done : c.loop-n.n ≡ c.args.count = omega arith in
      c.loop-n.invariant.writes ∙ ap (λ n. counted_times (g.S.StoreState.writes c.args.store.now) (how_many (λ k. is_some (pages k)) n)) done;
  writes_err = search rules;
  failures = search rules;
  journal =
      let pages : PageMap = to_write (slots_of c.args.changed.now) c.args.free.now.keys c.args.count in
      let low = c.loop-n.auto.n-end c.requires.some in
      let high = c.loop-n-test.false in
      let done : c.loop-n.n ≡ c.args.count = omega arith in
      c.loop-n.invariant.journal ∙ ap (λ n. noted_steps (g.S.StoreState.journal c.args.store.now) (writes_below pages n)) done;
  journal_err = search rules;
  guard = c.loop-n.invariant.guard;
}
