use Rattle.std.proofs.Common.{◌≡◌, ◌≢◌, ℕ, IsTrue, ◌+◌, ◌-◌, ◌++◌, Bool, false, if◌then◌else◌, get_or, [], List, Option, None, Result, Err, Box, Global, is_some, length, slice_get, sym, ap, ◌∙◌, refl, subst, rules}
use Rattle.std.proofs.lemmas.Bool.{false≢true}
use Rattle.page_store.specs.declared.store_fault.StoreFault.{StoreFault}
use Rattle.page_store.specs.declared.store_fault.StoreFault.TheVariants.{Failed, Memory as NoMemory}
use Rattle.page_store.specs.declared.page_edit.WriteFault.{WriteFault}
use Rattle.page_store.specs.declared.page_edit.WriteFault.TheVariants.{Memory}
use Rattle.page_store.specs.PagesView.{PagesView, is_in_memory, memory_pages}
use Rattle.page_store.specs.PageMap.{at}
use Rattle.page_store.specs.FreeNumbers.{free_numbers}
use Rattle.page_store.specs.Blank.{blanks}
use Rattle.page_store.specs.Calls.{counted_times, CountedUpTo, how_many}
use Rattle.page_store.specs.Growth.{GrowsTo}
use Rattle.page_store.specs.Overlaid.{slots_of, pages_of}
use Rattle.page_store.specs.WriteFaults.{write_by_device, told}
use Rattle.page_store.specs.WritingBack.{to_write, in_memory_of, AreStored, KeepsOthers, Stopped}
use Rattle.page_store.specs.Guards.{Guard, AllowsAll}
use Rattle.page_store.specs.declared.step.Step.{Step}
use Rattle.page_store.specs.Journal.{noted_steps, NotesFront, writing_back}
use Rattle.page_store.proofs.JournalLemmas.{writing_alike}
use Rattle.page_store.proofs.InMemoryLemmas.{none_in_memory, many_in_memory, written_in_memory}
use Rattle.page_store.proofs.NewestPageLemmas.{length-pages_of}
use Rattle.page_store.proofs.WriteBackLemmas.{pages_kept, leaves_pages, unwritten_pages, all_stored, stopped_pages, same_use, same_free, pages_dropped}
use Rattle.page_store.proofs.pages.Pages.write_back.Given as given
use Rattle.page_store.proofs.pages.Pages.write_back.Goals as goal
use Rattle.page_store.proofs.pages.Pages.write_back.Goals.{In-Err, After-clear-arg-1}

memory_back : (fault : StoreFault) (answer : WriteFault) → answer ≡ told fault → ◌≡◌ {A = Result (Unit {0}) WriteFault} (Err answer) (Err Memory) → ◌≡◌ {A = Result (Unit {0}) StoreFault} (Err fault) (Err NoMemory)
memory_back Failed answer is same =
    absurd (false≢true (sym (ap (λ (r : Result (Unit {0}) WriteFault). write_by_device r) same) ∙ ap (λ (fault : WriteFault). write_by_device {X = Unit {0}} (Err fault)) is))
memory_back NoMemory answer is same = refl

calls_in : (v : PagesView) (stored : List (List ℕ)) (seen items : List (Option (Box (List ℕ) Global))) (free : List ℕ) (count : ℕ) → seen ≡ items → pages_of stored (slots_of items) free count ≡ v.pages → in_memory_of (slots_of items) free count ≡ v.in_memory → how_many (λ n. is_some (to_write (slots_of seen) free count n)) count ≡ how_many (is_in_memory v) (length v.pages)
calls_in v stored seen items free count same pages memory =
    ap (λ (xs : List (Option (Box (List ℕ) Global))). how_many (λ n. is_some (to_write (slots_of xs) free count n)) count) same
    ∙ sym (many_in_memory stored (slots_of items) free count)
    ∙ ap (λ (ps : List (Option (List ℕ))). how_many (λ n. get_or (in_memory_of (slots_of items) free count) n false) (length ps)) pages
    ∙ ap (λ (bs : List Bool). how_many (λ n. get_or bs n false) (length v.pages)) memory

-- what is said of the slots that were passed holds of the changed pages
leaves_in : (seen items : List (Option (Box (List ℕ) Global))) (free : List ℕ) (count : ℕ) (old new : List (List ℕ)) → seen ≡ items → KeepsOthers (to_write (slots_of seen) free count) count old new → KeepsOthers (to_write (slots_of items) free count) count old new
leaves_in seen items free count old new same leaves =
    subst (λ (xs : List (Option (Box (List ℕ) Global))). KeepsOthers (to_write (slots_of xs) free count) count old new) same leaves

stored_in : (seen items : List (Option (Box (List ℕ) Global))) (free : List ℕ) (count : ℕ) (new : List (List ℕ)) → seen ≡ items → AreStored (to_write (slots_of seen) free count) new → AreStored (to_write (slots_of items) free count) new
stored_in seen items free count new same put =
    subst (λ (xs : List (Option (Box (List ℕ) Global))). AreStored (to_write (slots_of xs) free count) new) same put

-- what a writing back that was stopped leaves in the store, and the pages that are seen as before
module _ (g : given.Over) (c : In-Err g) where
  stopped_leaves : KeepsOthers (to_write (slots_of c.self.inside.changed.items) c.self.inside.free.keys c.self.inside.count) c.self.inside.count (g.S.StoreState.pages c.self.inside.store) (g.S.StoreState.pages c.write_out-written.new.store)
  stopped_leaves = leaves_in _ _ c.self.inside.free.keys _ _ _ c.deref.ensures.value c.write_out-written.ensures.others

  same_pages : pages_of (g.S.StoreState.pages c.write_out-written.new.store) (slots_of c.self.inside.changed.items) c.self.inside.free.keys c.self.inside.count ≡ c.args.self.now.pages
  same_pages = pages_kept _ _ _ _ _ c.self.invariant.0 _ stopped_leaves ∙ ap (λ (v : PagesView). v.pages) c.self.view_is

-- what a whole one leaves
module _ (g : given.Over) (c : After-clear-arg-1 g) where
  leaves : KeepsOthers (to_write (slots_of c.self.inside.changed.items) c.self.inside.free.keys c.self.inside.count) c.self.inside.count (g.S.StoreState.pages c.self.inside.store) (g.S.StoreState.pages c.write_out-written.new.store)
  leaves = leaves_in _ _ c.self.inside.free.keys _ _ _ c.deref.ensures.value c.write_out-written.ensures.others

  put : IsTrue c.args.self.now.steady → AreStored (to_write (slots_of c.self.inside.changed.items) c.self.inside.free.keys c.self.inside.count) (g.S.StoreState.pages c.write_out-written.new.store)
  put steady = stored_in _ _ c.self.inside.free.keys c.self.inside.count _ c.deref.ensures.value (c.in_default.ensures.pages (ap (λ (v : PagesView). v.steady) c.self.view_is ∙ steady))

-- the calls that write the slots that were passed are those that write the pages in memory
steps_in : (v : PagesView) (stored : List (List ℕ)) (seen items : List (Option (Box (List ℕ) Global))) (free : List ℕ) (count : ℕ) (writing clean : List ℕ) → seen ≡ items → pages_of stored (slots_of items) free count ≡ v.pages → in_memory_of (slots_of items) free count ≡ v.in_memory
    → writing_back (to_write (slots_of seen) free count) count writing clean ≡ writing_back (memory_pages v) (length v.pages) writing clean
steps_in v stored seen items free count writing clean same pages memory =
    ap (λ (xs : List (Option (Box (List ℕ) Global))). writing_back (to_write (slots_of xs) free count) count writing clean) same
    ∙ writing_alike (to_write (slots_of items) free count) (memory_pages v) count (length v.pages) writing clean (sym (length-pages_of stored (slots_of items) free count) ∙ ap (λ (ps : List (Option (List ℕ))). length ps) pages)
    (λ n. written_in_memory stored (slots_of items) free count n ∙ ap (λ (bs : List Bool). if get_or bs n false then at (pages_of stored (slots_of items) free count) n else None) memory ∙ ap (λ (ps : List (Option (List ℕ))). if get_or v.in_memory n false then at ps n else None) pages)

-- the guard stays where the pages in memory are allowed
stays_allowed : (v : PagesView) (steps other : List Step) (old new : Guard) → steps ≡ other → old ≡ v.guard → (AllowsAll old steps → new ≡ old) → AllowsAll v.guard other → new ≡ v.guard
stays_allowed v steps other old new same is passes all =
    passes (subst (AllowsAll old) (sym same) (subst (λ (k : Guard). AllowsAll k other) (sym is) all)) ∙ is

pub returns-in-Err-clause-keeps : goal.returns-in-Err-clause-keeps
returns-in-Err-clause-keeps g c = record {
  pages =
      λ _.
      same_pages g (goal.at.returns-in-Err-clause-keeps g c).In-Err;
  count =
      length-pages_of _ _ _ _ ∙ sym (length-pages_of (g.S.StoreState.pages c.self.inside.store) (slots_of c.self.inside.changed.items) c.self.inside.free.keys c.self.inside.count) ∙ ap (λ (v : PagesView). length v.pages) c.self.view_is;
  free =
      ap free_numbers (same_pages g (goal.at.returns-in-Err-clause-keeps g c).In-Err);
  in_use =
      λ n.
      ap (λ (ps : List (Option (List ℕ))). is_some (at ps n)) (same_pages g (goal.at.returns-in-Err-clause-keeps g c).In-Err);
}

pub returns-in-Err-clause-err : goal.returns-in-Err-clause-err
returns-in-Err-clause-err g c =
    λ i. record {
      pages = (same_pages g (goal.at.returns-in-Err-clause-err g c).In-Err) i;
      changed = ap (λ (v : PagesView). v.changed) c.self.view_is i;
      in_memory = ap (λ (v : PagesView). v.in_memory) c.self.view_is i;
      stored = g.S.StoreState.pages c.write_out-written.new.store;
      tail = g.S.StoreState.tail c.write_out-written.new.store;
      steady = (c.write_out-written.ensures.carries.steady ∙ ap (λ (v : PagesView). v.steady) c.self.view_is) i;
      opening = (c.write_out-written.ensures.carries.opening ∙ ap (λ (v : PagesView). v.opening) c.self.view_is) i;
      reads = (c.write_out-written.ensures.carries.reads ∙ ap (λ (v : PagesView). v.reads) c.self.view_is) i;
      shapes = (c.write_out-written.ensures.carries.shapes ∙ ap (λ (v : PagesView). v.shapes) c.self.view_is) i;
      writes = g.S.StoreState.writes c.write_out-written.new.store;
      failures = g.S.StoreState.failures c.write_out-written.new.store;
      journal = g.S.StoreState.journal c.write_out-written.new.store;
      guard = g.S.StoreState.guard c.write_out-written.new.store;
    }

pub returns-in-Err-clause-others : goal.returns-in-Err-clause-others
returns-in-Err-clause-others g c =
    subst (λ (v : PagesView). KeepsOthers (at v.pages) (length v.pages) v.stored (g.S.StoreState.pages c.write_out-written.new.store)) c.self.view_is (leaves_pages _ _ _ _ _ c.self.invariant.0 _ (stopped_leaves g (goal.at.returns-in-Err-clause-others g c).In-Err))

pub returns-in-Err-clause-stopped : goal.returns-in-Err-clause-stopped
returns-in-Err-clause-stopped g c = λ steady.
    let stopped = subst (λ (xs : List (Option (Box (List ℕ) Global))). Stopped (to_write (slots_of xs) c.self.inside.free.keys c.self.inside.count) c.args.writing.now (g.S.StoreState.pages c.self.inside.store) (g.S.StoreState.pages c.write_out-written.new.store)) c.deref.ensures.value (c.in-Err.ensures.stopped (ap (λ (v : PagesView). v.steady) c.self.view_is ∙ steady)) in
    subst (λ (v : PagesView). Stopped (at v.pages) c.args.writing.now v.stored (g.S.StoreState.pages c.write_out-written.new.store)) c.self.view_is (stopped_pages _ _ _ _ _ c.self.invariant.0 _ (stopped_leaves g (goal.at.returns-in-Err-clause-stopped g c).In-Err) c.args.writing.now stopped)

pub returns-in-Err-clause-memory : goal.returns-in-Err-clause-memory
returns-in-Err-clause-memory g c = λ same.
    let only = c.in-Err.ensures.memory (memory_back c.in-Err.fault c.from.result c.from.ensures same) in
    let long = length-pages_of (g.S.StoreState.pages c.self.inside.store) (slots_of c.self.inside.changed.items) c.self.inside.free.keys c.self.inside.count in
    record {
      grows =
          subst (λ (v : PagesView). GrowsTo (length v.pages) v.stored (g.S.StoreState.pages c.write_out-written.new.store)) c.self.view_is
          (subst (λ (k : ℕ). GrowsTo k (g.S.StoreState.pages c.self.inside.store) (g.S.StoreState.pages c.write_out-written.new.store)) (sym long) only.grows);
      journal = only.journal ∙ ap (λ (v : PagesView). v.journal) c.self.view_is;
    }

pub returns-in-Err-clause-calls : goal.returns-in-Err-clause-calls
returns-in-Err-clause-calls g c = record {
  writes = search rules;
  writes_err =
      let many = calls_in c.args.self.now (g.S.StoreState.pages c.self.inside.store) _ c.self.inside.changed.items c.self.inside.free.keys c.self.inside.count c.deref.ensures.value (ap (λ (v : PagesView). v.pages) c.self.view_is) (ap (λ (v : PagesView). v.in_memory) c.self.view_is) in
      let before = ap (λ (v : PagesView). v.writes) c.self.view_is in
      subst (λ k. CountedUpTo (6 + k) c.args.self.now.writes (g.S.StoreState.writes c.write_out-written.new.store)) many
      (subst (λ old. CountedUpTo (6 + how_many (λ n. is_some (to_write (slots_of c.deref.result.now) c.self.inside.free.keys c.self.inside.count n)) c.self.inside.count) old (g.S.StoreState.writes c.write_out-written.new.store)) before c.in-Err.ensures.carries.writes_err);
  failures = search rules;
  journal = search rules;
  journal_err =
      let all = steps_in c.args.self.now (g.S.StoreState.pages c.self.inside.store) _ c.self.inside.changed.items c.self.inside.free.keys c.self.inside.count c.args.writing.now c.args.clean.now c.deref.ensures.value (ap (λ (v : PagesView). v.pages) c.self.view_is) (ap (λ (v : PagesView). v.in_memory) c.self.view_is) in
      subst (λ steps. NotesFront steps c.args.self.now.journal (g.S.StoreState.journal c.write_out-written.new.store)) all
      (subst (λ old. NotesFront (writing_back (to_write (slots_of c.deref.result.now) c.self.inside.free.keys c.self.inside.count) c.self.inside.count c.args.writing.now c.args.clean.now) old (g.S.StoreState.journal c.write_out-written.new.store)) (ap (λ (v : PagesView). v.journal) c.self.view_is) c.in-Err.ensures.carries.journal_err);
  guard =
      let all = steps_in c.args.self.now (g.S.StoreState.pages c.self.inside.store) _ c.self.inside.changed.items c.self.inside.free.keys c.self.inside.count c.args.writing.now c.args.clean.now c.deref.ensures.value (ap (λ (v : PagesView). v.pages) c.self.view_is) (ap (λ (v : PagesView). v.in_memory) c.self.view_is) in
      stays_allowed c.args.self.now _ _ _ _ all (ap (λ (v : PagesView). v.guard) c.self.view_is) c.write_out-written.ensures.carries.guard;
}

pub returns-clause-written : goal.returns-clause-written
returns-clause-written g c = record {
  count =
      c.in_default.ensures.long.count ∙ sym (length-pages_of (g.S.StoreState.pages c.self.inside.store) (slots_of c.self.inside.changed.items) c.self.inside.free.keys c.self.inside.count) ∙ ap (λ (v : PagesView). length v.pages) c.self.view_is;
  tail = search rules;
  header = search rules;
  stored =
      λ steady.
      let place = (goal.at.returns-clause-written g c).After-clear-arg-1 in
      subst (λ (v : PagesView). AreStored (at v.pages) (g.S.StoreState.pages c.write_out-written.new.store)) c.self.view_is (all_stored _ _ _ _ _ c.self.invariant.0 _ (leaves g place) (put g place steady));
  unwritten =
      let same = subst (λ (xs : List (Option (Box (List ℕ) Global))). (n : ℕ) → n ≢ 0 → to_write (slots_of xs) c.self.inside.free.keys c.self.inside.count n ≡ None → slice_get (g.S.StoreState.pages c.write_out-written.new.store) n ≡ slice_get (g.S.StoreState.pages c.self.inside.store ++ blanks (c.self.inside.count - length (g.S.StoreState.pages c.self.inside.store))) n) c.deref.ensures.value c.in_default.ensures.unwritten in
      subst (λ (v : PagesView). (n : ℕ) → n ≢ 0 → at v.pages n ≡ None → slice_get (g.S.StoreState.pages c.write_out-written.new.store) n ≡ slice_get (v.stored ++ blanks (length v.pages - length v.stored)) n) c.self.view_is (unwritten_pages _ _ _ _ _ c.self.invariant.0 _ (leaves g (goal.at.returns-clause-written g c).After-clear-arg-1) same);
  idle = search rules;
  in_memory =
      λ n.
      ap (λ (xs : List (Option (Box (List ℕ) Global))). get_or (in_memory_of (slots_of xs) c.self.inside.free.keys c.self.inside.count) n false) c.clear.ensures.items
      ∙ none_in_memory [] c.self.inside.free.keys c.self.inside.count n refl;
}

pub returns-clause-keeps : goal.returns-clause-keeps
returns-clause-keeps g c = record {
  pages =
      λ steady.
      let place = (goal.at.returns-clause-keeps g c).After-clear-arg-1 in
      ap (λ (xs : List (Option (Box (List ℕ) Global))). pages_of (g.S.StoreState.pages c.write_out-written.new.store) (slots_of xs) c.self.inside.free.keys c.self.inside.count) c.clear.ensures.items
      ∙ pages_dropped _ _ _ _ _ c.self.invariant.0 _ (leaves g place) c.in_default.ensures.long.count (put g place steady)
      ∙ ap (λ (v : PagesView). v.pages) c.self.view_is;
  count =
      length-pages_of _ _ _ _ ∙ sym (length-pages_of (g.S.StoreState.pages c.self.inside.store) (slots_of c.self.inside.changed.items) c.self.inside.free.keys c.self.inside.count) ∙ ap (λ (v : PagesView). length v.pages) c.self.view_is;
  free =
      ap (λ (xs : List (Option (Box (List ℕ) Global))). free_numbers (pages_of (g.S.StoreState.pages c.write_out-written.new.store) (slots_of xs) c.self.inside.free.keys c.self.inside.count)) c.clear.ensures.items
      ∙ same_free _ _ _ _ _ c.self.invariant.0 _ (leaves g (goal.at.returns-clause-keeps g c).After-clear-arg-1) c.in_default.ensures.long.count
      ∙ ap (λ (v : PagesView). free_numbers v.pages) c.self.view_is;
  in_use =
      λ n.
      ap (λ (xs : List (Option (Box (List ℕ) Global))). is_some (at (pages_of (g.S.StoreState.pages c.write_out-written.new.store) (slots_of xs) c.self.inside.free.keys c.self.inside.count) n)) c.clear.ensures.items
      ∙ same_use _ _ _ _ _ c.self.invariant.0 _ (leaves g (goal.at.returns-clause-keeps g c).After-clear-arg-1) c.in_default.ensures.long.count n
      ∙ ap (λ (v : PagesView). is_some (at v.pages n)) c.self.view_is;
}

pub returns-clause-others : goal.returns-clause-others
returns-clause-others g c =
    subst (λ (v : PagesView). KeepsOthers (at v.pages) (length v.pages) v.stored (g.S.StoreState.pages c.write_out-written.new.store)) c.self.view_is (leaves_pages _ _ _ _ _ c.self.invariant.0 _ (leaves g (goal.at.returns-clause-others g c).After-clear-arg-1))

pub returns-clause-calls : goal.returns-clause-calls
returns-clause-calls g c = record {
  writes =
      let many = calls_in c.args.self.now (g.S.StoreState.pages c.self.inside.store) _ c.self.inside.changed.items c.self.inside.free.keys c.self.inside.count c.deref.ensures.value (ap (λ (v : PagesView). v.pages) c.self.view_is) (ap (λ (v : PagesView). v.in_memory) c.self.view_is) in
      let before = ap (λ (v : PagesView). v.writes) c.self.view_is in
      c.in_default.ensures.carries.writes ∙ ap (λ old. counted_times old (6 + how_many (λ n. is_some (to_write (slots_of c.deref.result.now) c.self.inside.free.keys c.self.inside.count n)) c.self.inside.count)) before ∙ ap (λ k. counted_times c.args.self.now.writes (6 + k)) many;
  writes_err = search rules;
  failures = search rules;
  journal =
      let all = steps_in c.args.self.now (g.S.StoreState.pages c.self.inside.store) _ c.self.inside.changed.items c.self.inside.free.keys c.self.inside.count c.args.writing.now c.args.clean.now c.deref.ensures.value (ap (λ (v : PagesView). v.pages) c.self.view_is) (ap (λ (v : PagesView). v.in_memory) c.self.view_is) in
      c.in_default.ensures.carries.journal ∙ ap (λ old. noted_steps old (writing_back (to_write (slots_of c.deref.result.now) c.self.inside.free.keys c.self.inside.count) c.self.inside.count c.args.writing.now c.args.clean.now)) (ap (λ (v : PagesView). v.journal) c.self.view_is)
      ∙ ap (noted_steps c.args.self.now.journal) all;
  journal_err = search rules;
  guard =
      let all = steps_in c.args.self.now (g.S.StoreState.pages c.self.inside.store) _ c.self.inside.changed.items c.self.inside.free.keys c.self.inside.count c.args.writing.now c.args.clean.now c.deref.ensures.value (ap (λ (v : PagesView). v.pages) c.self.view_is) (ap (λ (v : PagesView). v.in_memory) c.self.view_is) in
      stays_allowed c.args.self.now _ _ _ _ all (ap (λ (v : PagesView). v.guard) c.self.view_is) c.write_out-written.ensures.carries.guard;
}
