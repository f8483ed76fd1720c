use Rattle.std.proofs.Common.{rules, ◌≡◌, ℕ, ◌+◌, true, List, [], ◌∷◌, ◌++◌, length, is_some, slice_get, IsTrue, refl, ap, ◌∙◌, arith}
use Rattle.std.proofs.lemmas.Bool.Decides.{nat_tests}
use Rattle.std.proofs.lemmas.Grind.{common_steps, elements}
use Rattle.page_store.specs.Overlaid.{slots_of}
use Rattle.page_store.specs.Calls.{counted_times, how_many}
use Rattle.page_store.specs.Guards.{Guard, may_grow}
use Rattle.page_store.specs.Journal.{writes_below, writing_back}
use Rattle.page_store.specs.PageMap.{PageMap}
use Rattle.page_store.specs.declared.step.Step.TheVariants.{SetPages, Write, Sync}
use Rattle.page_store.proofs.GuardLemmas.{Passes, and_more, one_passes, then_passes}
use Rattle.page_store.specs.WritingBack.{to_write}
use Rattle.page_store.proofs.CallCountLemmas.{always, then_calls, after_calls, no_more, all_calls, on_err, last_calls, last_up_to}
use Rattle.page_store.proofs.WriteBackLemmas.{leaves_by, same_two}
use Rattle.page_store.proofs.JournalLemmas.{no_header, no_writes, no_sync, all_noted, no_close}
use Rattle.page_store.proofs.write_back.write_out.Given as given
use Rattle.page_store.proofs.write_back.write_out.Goals as goal
use Rattle.page_store.proofs.write_back.write_out.Goals.{After-put_changed, After-sync}

-- how many changing calls were made by then, and how many pages there are to write
module _ (g : given.Over) (c : After-put_changed g) where
  marked : g.S.StoreState.writes c.put_header.new.store ≡ counted_times (g.S.StoreState.writes c.args.store.now) 3
  marked =
      let W = g.S.StoreState.writes in
      then_calls (W c.args.store.now) (W c.set_pages.new.self) _ 1 2 c.set_pages.ensures.changes.writes c.in_ok-put_header.ensures.carries.writes

module _ (g : given.Over) (c : After-sync g) where
  abbrev many : ℕ
  many = how_many (λ n. is_some (to_write (slots_of c.args.changed.now) c.args.free.now.keys c.args.count n)) c.args.count

  kept : g.S.StoreState.writes c.put_header.new.store ≡ counted_times (g.S.StoreState.writes c.args.store.now) 3 → g.S.StoreState.writes c.sync.new.self ≡ counted_times (g.S.StoreState.writes c.args.store.now) (3 + many + 1)
  kept was_marked =
      let W = g.S.StoreState.writes in
      let put = then_calls (W c.args.store.now) (W c.put_header.new.store) _ 3 many was_marked c.in_ok-put_changed.ensures.carries.writes in
      then_calls (W c.args.store.now) (W c.put_changed.new.store) _ (3 + many) 1 put c.sync.ensures.changes.writes

-- the calls up to the header, up to the pages, and all of them are refused nothing where all are allowed
header_guard : (pages : PageMap) (count : ℕ) (writing clean : List ℕ) (old mid new : Guard) → (IsTrue (may_grow old) → mid ≡ old) → Passes (Write 0 writing ∷ Sync ∷ []) mid new → Passes (writing_back pages count writing clean) old new
header_guard pages count writing clean old mid new grown marked =
    and_more (SetPages count ∷ Write 0 writing ∷ Sync ∷ []) _ old new (then_passes (SetPages count ∷ []) (Write 0 writing ∷ Sync ∷ []) old mid new (one_passes (SetPages count) old mid grown) marked)

pages_guard : (pages : PageMap) (count : ℕ) (writing clean : List ℕ) (old mid marked new : Guard) → (IsTrue (may_grow old) → mid ≡ old) → Passes (Write 0 writing ∷ Sync ∷ []) mid marked → Passes (writes_below pages count) marked new → Passes (writing_back pages count writing clean) old new
pages_guard pages count writing clean old mid marked new grown header written =
    let first = then_passes (SetPages count ∷ []) (Write 0 writing ∷ Sync ∷ []) old mid marked (one_passes (SetPages count) old mid grown) header in
    then_passes (SetPages count ∷ Write 0 writing ∷ Sync ∷ []) (writes_below pages count ++ (Sync ∷ Write 0 clean ∷ Sync ∷ [])) old marked new first (and_more (writes_below pages count) (Sync ∷ Write 0 clean ∷ Sync ∷ []) marked new written)

closed_guard : (pages : PageMap) (count : ℕ) (writing clean : List ℕ) (old mid marked put kept new : Guard) → (IsTrue (may_grow old) → mid ≡ old) → Passes (Write 0 writing ∷ Sync ∷ []) mid marked → Passes (writes_below pages count) marked put → (IsTrue true → kept ≡ put) → Passes (Write 0 clean ∷ Sync ∷ []) kept new → Passes (writing_back pages count writing clean) old new
closed_guard pages count writing clean old mid marked put kept new grown header written synced closed =
    let first = then_passes (SetPages count ∷ []) (Write 0 writing ∷ Sync ∷ []) old mid marked (one_passes (SetPages count) old mid grown) header in
    let last = then_passes (Sync ∷ []) (Write 0 clean ∷ Sync ∷ []) put kept new (one_passes Sync put kept synced) closed in
    then_passes (SetPages count ∷ Write 0 writing ∷ Sync ∷ []) (writes_below pages count ++ (Sync ∷ Write 0 clean ∷ Sync ∷ [])) old marked new first (then_passes (writes_below pages count) (Sync ∷ Write 0 clean ∷ Sync ∷ []) marked put new written last)

pub returns-in_err-put_changed-clause-others : goal.returns-in_err-put_changed-clause-others
returns-in_err-put_changed-clause-others g c =
    let pages : PageMap = to_write (slots_of c.args.changed.now) c.args.free.now.keys c.args.count in
    leaves_by pages _ _ _ _ c.requires.fits c.in_ok-set_pages.ensures.pages (c.put_changed.ensures.others.long ∙ c.put_header.ensures.others.long)
    (same_two pages _ _ _ c.put_header.ensures.others c.put_changed.ensures.others)

pub returns-in_err-sync-clause-others : goal.returns-in_err-sync-clause-others
returns-in_err-sync-clause-others g c =
    let pages : PageMap = to_write (slots_of c.args.changed.now) c.args.free.now.keys c.args.count in
    leaves_by pages _ _ _ _ c.requires.fits c.in_ok-set_pages.ensures.pages
    (ap (λ (ps : List (List ℕ)). length ps) c.sync.ensures.same_pages ∙ c.put_changed.ensures.others.long ∙ c.put_header.ensures.others.long)
    (λ n some none. ap (λ (ps : List (List ℕ)). slice_get ps n) c.sync.ensures.same_pages ∙ same_two pages _ _ _ c.put_header.ensures.others c.put_changed.ensures.others n some none)

pub returns-clause-others : goal.returns-clause-others
returns-clause-others g c =
    let pages : PageMap = to_write (slots_of c.args.changed.now) c.args.free.now.keys c.args.count in
    leaves_by pages _ _ _ _ c.requires.fits c.in_ok-set_pages.ensures.pages
    (c.put_header-2.ensures.others.long ∙ ap (λ (ps : List (List ℕ)). length ps) c.sync.ensures.same_pages ∙ c.put_changed.ensures.others.long ∙ c.put_header.ensures.others.long)
    (λ n some none. c.put_header-2.ensures.others.same n (grind (arith, nat_tests)) ∙ ap (λ (ps : List (List ℕ)). slice_get ps n) c.sync.ensures.same_pages ∙ same_two pages _ _ _ c.put_header.ensures.others c.put_changed.ensures.others n some none)

pub put_header-requires : goal.put_header-requires
put_header-requires g c = grind (arith, common_steps)

pub put_changed-requires-clause-long : goal.put_changed-requires-clause-long
put_changed-requires-clause-long g c = grind (arith, common_steps)

pub put_header-requires-2 : goal.put_header-requires-2
put_header-requires-2 g c = grind (arith, common_steps)

pub returns-clause-long : goal.returns-clause-long
returns-clause-long g c = always c.put_header-2.result (record {
  count = grind (arith, common_steps);
  tail = search rules;
})

pub returns-in_err-set_pages-clause-others : goal.returns-in_err-set_pages-clause-others
returns-in_err-set_pages-clause-others g c = grind (arith, elements)

pub returns-in_err-set_pages-clause-stopped : goal.returns-in_err-set_pages-clause-stopped
returns-in_err-set_pages-clause-stopped g c = grind (arith, elements)

pub returns-in_err-put_header-clause-others : goal.returns-in_err-put_header-clause-others
returns-in_err-put_header-clause-others g c = grind (arith, elements)

pub returns-in_err-put_header-clause-stopped : goal.returns-in_err-put_header-clause-stopped
returns-in_err-put_header-clause-stopped g c = grind (arith, elements)

pub returns-in_err-put_header-clause-carries : goal.returns-in_err-put_header-clause-carries
returns-in_err-put_header-clause-carries g c = record {
  steady = search rules;
  opening = search rules;
  reads = search rules;
  shapes = search rules;
  writes = search rules;
  writes_err =
      let W = g.S.StoreState.writes in
      let k = how_many (λ n. is_some (to_write (slots_of c.args.changed.now) c.args.free.now.keys c.args.count n)) c.args.count in
      on_err _ (no_more (W c.args.store.now) _ (1 + 2) (6 + k) (omega arith) (after_calls (W c.args.store.now) (W c.set_pages.new.self) _ 1 2 c.set_pages.ensures.changes.writes c.in_err-put_header.ensures.carries.writes_err));
  failures = search rules;
  journal = search rules;
  journal_err =
      let pages : PageMap = to_write (slots_of c.args.changed.now) c.args.free.now.keys c.args.count in
      let J = g.S.StoreState.journal in
      on_err _ (no_header pages c.args.count c.args.writing.now c.args.clean.now (J c.args.store.now) (J c.set_pages.new.self) (J c.set_pages.new.self) (J c.set_pages.new.self) (J c.set_pages.new.self) (J c.put_header.new.store) c.in_ok-set_pages.ensures.changes.journal c.in_err-put_header.ensures.carries.journal_err);
  guard = λ all. header_guard _ c.args.count c.args.writing.now c.args.clean.now _ (g.S.StoreState.guard c.set_pages.new.self) _ c.set_pages.ensures.changes.guard c.put_header.ensures.carries.guard all;
}

pub returns-in_err-put_changed-clause-carries : goal.returns-in_err-put_changed-clause-carries
returns-in_err-put_changed-clause-carries g c = record {
  steady = search rules;
  opening = search rules;
  reads = search rules;
  shapes = search rules;
  writes = search rules;
  writes_err =
      let W = g.S.StoreState.writes in
      let k = how_many (λ n. is_some (to_write (slots_of c.args.changed.now) c.args.free.now.keys c.args.count n)) c.args.count in
      on_err _ (no_more (W c.args.store.now) _ (3 + k) (6 + k) (omega arith) (after_calls (W c.args.store.now) (W c.put_header.new.store) _ 3 k (marked g (goal.at.returns-in_err-put_changed-clause-carries g c).After-put_changed) c.in_err-put_changed.ensures.carries.writes_err));
  failures = search rules;
  journal = search rules;
  journal_err =
      let pages : PageMap = to_write (slots_of c.args.changed.now) c.args.free.now.keys c.args.count in
      let J = g.S.StoreState.journal in
      on_err _ (no_writes pages c.args.count c.args.writing.now c.args.clean.now (J c.args.store.now) (J c.set_pages.new.self) (J c.put_header.new.store) (J c.put_header.new.store) (J c.put_header.new.store) (J c.put_changed.new.store) c.in_ok-set_pages.ensures.changes.journal c.in_ok-put_header.ensures.carries.journal c.in_err-put_changed.ensures.carries.journal_err);
  guard = λ all. pages_guard _ c.args.count c.args.writing.now c.args.clean.now _ (g.S.StoreState.guard c.set_pages.new.self) (g.S.StoreState.guard c.put_header.new.store) _ c.set_pages.ensures.changes.guard c.put_header.ensures.carries.guard c.put_changed.ensures.carries.guard all;
}

pub returns-in_err-sync-clause-carries : goal.returns-in_err-sync-clause-carries
returns-in_err-sync-clause-carries g c = record {
  steady = search rules;
  opening = search rules;
  reads = search rules;
  shapes = search rules;
  writes = search rules;
  writes_err =
      let W = g.S.StoreState.writes in
      let place = goal.at.returns-in_err-sync-clause-carries g c in
      let k = many g place.After-sync in
      on_err _ (all_calls (W c.args.store.now) _ (3 + k + 1) (6 + k) (omega arith) (omega arith) (kept g place.After-sync (marked g place.After-put_changed)));
  failures = search rules;
  journal = search rules;
  journal_err =
      let pages : PageMap = to_write (slots_of c.args.changed.now) c.args.free.now.keys c.args.count in
      let J = g.S.StoreState.journal in
      on_err _ (no_sync pages c.args.count c.args.writing.now c.args.clean.now (J c.args.store.now) (J c.set_pages.new.self) (J c.put_header.new.store) (J c.put_changed.new.store) (J c.put_changed.new.store) (J c.sync.new.self) c.in_ok-set_pages.ensures.changes.journal c.in_ok-put_header.ensures.carries.journal c.in_ok-put_changed.ensures.carries.journal c.in_err-sync.ensures.changes.same_journal);
  guard = λ all. c.sync.ensures.changes.guard refl ∙ pages_guard _ c.args.count c.args.writing.now c.args.clean.now _ (g.S.StoreState.guard c.set_pages.new.self) (g.S.StoreState.guard c.put_header.new.store) (g.S.StoreState.guard c.put_changed.new.store) c.set_pages.ensures.changes.guard c.put_header.ensures.carries.guard c.put_changed.ensures.carries.guard all;
}

pub returns-clause-carries : goal.returns-clause-carries
returns-clause-carries g c = record {
  steady = search rules;
  opening = search rules;
  reads = search rules;
  shapes = search rules;
  writes =
      let W = g.S.StoreState.writes in
      let place = goal.at.returns-clause-carries g c in
      let k = many g place.After-sync in
      last_calls c.put_header-2.result (W c.args.store.now) (W c.sync.new.self) (W c.put_header-2.new.store) (3 + k + 1) 2 (6 + k) (kept g place.After-sync (marked g place.After-put_changed)) (omega arith) c.put_header-2.ensures.carries.writes;
  writes_err =
      let W = g.S.StoreState.writes in
      let place = goal.at.returns-clause-carries g c in
      let k = many g place.After-sync in
      last_up_to c.put_header-2.result (W c.args.store.now) (W c.sync.new.self) (W c.put_header-2.new.store) (3 + k + 1) 2 (6 + k) (kept g place.After-sync (marked g place.After-put_changed)) (omega arith) c.put_header-2.ensures.carries.writes_err;
  failures = search rules;
  journal =
      let pages : PageMap = to_write (slots_of c.args.changed.now) c.args.free.now.keys c.args.count in
      let J = g.S.StoreState.journal in
      all_noted pages c.args.count c.args.writing.now c.args.clean.now (J c.args.store.now) (J c.set_pages.new.self) (J c.put_header.new.store) (J c.put_changed.new.store) (J c.sync.new.self) (J c.put_header-2.new.store) c.in_ok-set_pages.ensures.changes.journal c.in_ok-put_header.ensures.carries.journal c.in_ok-put_changed.ensures.carries.journal c.in_ok-sync.ensures.changes.journal c.put_header-2.result c.put_header-2.ensures.carries.journal;
  journal_err =
      let pages : PageMap = to_write (slots_of c.args.changed.now) c.args.free.now.keys c.args.count in
      let J = g.S.StoreState.journal in
      no_close pages c.args.count c.args.writing.now c.args.clean.now (J c.args.store.now) (J c.set_pages.new.self) (J c.put_header.new.store) (J c.put_changed.new.store) (J c.sync.new.self) (J c.put_header-2.new.store) c.in_ok-set_pages.ensures.changes.journal c.in_ok-put_header.ensures.carries.journal c.in_ok-put_changed.ensures.carries.journal c.in_ok-sync.ensures.changes.journal c.put_header-2.result c.put_header-2.ensures.carries.journal_err;
  guard = λ all. closed_guard _ c.args.count c.args.writing.now c.args.clean.now _ (g.S.StoreState.guard c.set_pages.new.self) (g.S.StoreState.guard c.put_header.new.store) (g.S.StoreState.guard c.put_changed.new.store) (g.S.StoreState.guard c.sync.new.self) _ c.set_pages.ensures.changes.guard c.put_header.ensures.carries.guard c.put_changed.ensures.carries.guard c.sync.ensures.changes.guard c.put_header-2.ensures.carries.guard all;
}
