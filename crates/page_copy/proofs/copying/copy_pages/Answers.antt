use Rattle.std.proofs.Common.{◌≡◌, ◌∙◌, ℕ, List, length, ap}
use Rattle.std.proofs.lemmas.Result.{err_from_is_err_and}
use Rattle.page_copy.specs.Copying.{copying}
use Rattle.page_copy.proofs.CopyingLemmas.{all_calls, counted_not, longer_is, made_long, no_sync, no_writes, same_copy, same_front, same_last, same_stored, same_writes, stopped}
use Rattle.page_copy.proofs.copying.copy_pages.Goals as goal

pub returns-in_err-count-clause-copy_fails : goal.returns-in_err-count-clause-copy_fails
returns-in_err-count-clause-copy_fails g c =
    let told = err_from_is_err_and c.from_residual.result c.from_residual.ensures.1 in
    counted_not _ c.count_of.result c.from_residual.result c.in_err-count.field-0.0 c.in_err-count.was told c.count_of.ensures.other

pub returns-in_err-copy_rest-clause-calls : goal.returns-in_err-copy_rest-clause-calls
returns-in_err-copy_rest-clause-calls g c steady =
    let told = err_from_is_err_and c.from_residual-in_err-copy_rest.result c.from_residual-in_err-copy_rest.ensures.1 in
    let pages = g.S.StoreState.pages c.args.source.now in
    let old = g.T.StoreState.journal c.args.copy.now in
    let longer = g.T.StoreState.journal c.set_pages.new.self in
    let now = g.T.StoreState.journal c.copy_rest.new.copy in
    stopped (copying pages) old now told.0 c.from_residual-in_err-copy_rest.result told.1
    (no_writes pages old longer longer longer now (longer_is old longer c.in_ok-count.count (length pages) c.in_ok-count.ensures.count.0 c.in_ok-set_pages.ensures.changes.journal)
    (same_front pages (g.S.StoreState.pages c.count_of.new.source) longer now c.count_of.ensures.stays.pages (c.in_err-copy_rest.ensures.calls (c.count_of.ensures.stays.steady ∙ steady))))

pub returns-in_err-sync-clause-calls : goal.returns-in_err-sync-clause-calls
returns-in_err-sync-clause-calls g c steady =
    let told = err_from_is_err_and c.from_residual-in_err-sync.result c.from_residual-in_err-sync.ensures.1 in
    let pages = g.S.StoreState.pages c.args.source.now in
    let old = g.T.StoreState.journal c.args.copy.now in
    let longer = g.T.StoreState.journal c.set_pages.new.self in
    let put = g.T.StoreState.journal c.copy_rest.new.copy in
    let now = g.T.StoreState.journal c.sync.new.self in
    stopped (copying pages) old now told.0 c.from_residual-in_err-sync.result told.1
    (no_sync pages old longer put put now (longer_is old longer c.in_ok-count.count (length pages) c.in_ok-count.ensures.count.0 c.in_ok-set_pages.ensures.changes.journal)
    (same_writes pages (g.S.StoreState.pages c.count_of.new.source) longer put c.count_of.ensures.stays.pages (c.in_ok-copy_rest.ensures.calls (c.count_of.ensures.stays.steady ∙ steady)))
    c.in_err-sync.ensures.changes.same_journal)

pub returns-clause-calls : goal.returns-clause-calls
returns-clause-calls g c steady =
    let pages = g.S.StoreState.pages c.args.source.now in
    let old = g.T.StoreState.journal c.args.copy.now in
    let longer = g.T.StoreState.journal c.set_pages.new.self in
    let put = g.T.StoreState.journal c.copy_rest.new.copy in
    let kept = g.T.StoreState.journal c.sync.new.self in
    let now = g.T.StoreState.journal c.copy_first.new.copy in
    all_calls pages old longer put kept now (longer_is old longer c.in_ok-count.count (length pages) c.in_ok-count.ensures.count.0 c.in_ok-set_pages.ensures.changes.journal)
    (same_writes pages (g.S.StoreState.pages c.count_of.new.source) longer put c.count_of.ensures.stays.pages (c.in_ok-copy_rest.ensures.calls (c.count_of.ensures.stays.steady ∙ steady)))
    c.in_ok-sync.ensures.changes.journal c.copy_first.result
    (same_last pages (g.S.StoreState.pages c.copy_rest.new.source) kept now c.copy_first.result (c.copy_rest.ensures.stays.pages ∙ c.count_of.ensures.stays.pages)
    (c.copy_first.ensures.calls (c.copy_rest.ensures.stays.steady ∙ c.count_of.ensures.stays.steady ∙ steady)))

pub returns-clause-same : goal.returns-clause-same
returns-clause-same g c steady steady_copy =
    let pages = g.S.StoreState.pages c.args.source.now in
    let first = c.count_of.ensures.stays in
    let second = c.copy_rest.ensures.stays in
    let as_long : length (g.T.StoreState.pages c.set_pages.new.self) ≡ c.in_ok-count.count = made_long (g.T.StoreState.pages c.args.copy.now) (g.T.StoreState.pages c.set_pages.new.self) c.in_ok-count.count c.requires c.in_ok-set_pages.ensures.pages in
    let steady_now = c.set_pages.ensures.changes.steady ∙ steady_copy in
    let long : length (g.T.StoreState.pages c.sync.new.self) ≡ length pages = ap (λ (ps : List (List ℕ)). length ps) c.sync.ensures.same_pages ∙ c.copy_rest.ensures.shape.0 ∙ as_long ∙ c.in_ok-count.ensures.count.0 in
    same_copy pages (g.S.StoreState.pages c.copy_rest.new.source) (g.T.StoreState.pages c.sync.new.self) (g.T.StoreState.pages c.copy_first.new.copy) c.copy_first.result
    (second.pages ∙ first.pages) long
    (same_stored pages (g.S.StoreState.pages c.count_of.new.source) (g.T.StoreState.pages c.copy_rest.new.copy) (g.T.StoreState.pages c.sync.new.self) first.pages c.sync.ensures.same_pages (c.in_ok-copy_rest.ensures.put (first.steady ∙ steady) steady_now))
    (c.copy_first.ensures.put (second.steady ∙ first.steady ∙ steady) (c.sync.ensures.changes.steady ∙ c.copy_rest.ensures.shape.2 ∙ steady_now))
