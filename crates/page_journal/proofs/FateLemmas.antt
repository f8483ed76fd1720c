-- What a crash leaves by the fates of the calls is one of what it may leave.
use Rattle.std.proofs.Common.{◌≡◌, inl, inr, ℕ, ◌+◌, ◌-◌, ◌≤◌, ◌<◌, List, [], ◌∷◌, ◌++◌, length, take, drop, reverse, replicate, get_or, Option, Some, Result, Ok, Err, IfOk, IfSome, IsSome, refl, sym, ◌∙◌, ap, subst, arith, length-append}
use Rattle.std.proofs.Math.Numerals.{add-one}
use Rattle.std.proofs.Math.Seq.{take-suc, drop-append_seam}
use Rattle.std.proofs.lemmas.List.{append-nil, length-replicate, length-reverse, length-drop, reverse-append, take-append-drop}
use Rattle.page_store.specs.Blank.{blank}
use Rattle.page_journal.specs.Files.{Files}
use Rattle.page_journal.specs.Steps.{GrowsUpTo}
use Rattle.rec_types.specs.declared.memory.Memory.{Memory}
use Rattle.page_journal.specs.History.{History, done, all_done, MayLeave, LeftSince, left_now}
use Rattle.page_journal.specs.Fates.{noise, grown, synced_by, fated, NamesAgree, first_calls}
use Rattle.page_journal.specs.declared.disk_call.DiskCall.{DiskCall}
use Rattle.page_journal.specs.declared.disk_call.DiskCall.TheVariants.{Write, Grow, Cut, Sync, Start, Keep, SyncFresh, Name, Remove, SyncNames, Commits}
use Rattle.page_journal.specs.declared.fate.Fate.{Fate}
use Rattle.page_journal.specs.declared.fate.Fate.TheVariants.{Done, Lost, Torn}
use Rattle.page_journal.proofs.CommitFateLemmas.{commits_fated, commits_itself}
use Rattle.page_journal.proofs.MemDiskLemmas.{torn_none, cut_none}

grows_by : (n : ℕ) (page : List ℕ) (d : Files) → GrowsUpTo n d (grown n page d)
grows_by n page d = record {
  more = replicate (n - length d.main.pages) page;
  pages = refl;
  fits = λ le. omega (arith, length-append d.main.pages (replicate (n - length d.main.pages) page), length-replicate (n - length d.main.pages) page);
  fresh = refl;
  side = refl;
  commits = refl;
}

grow_none : (n : ℕ) (d : Files) → GrowsUpTo n d d
grow_none n d = record { more = []; pages = sym (append-nil d.main.pages); fits = λ le. le; fresh = refl; side = refl; commits = refl }

-- the file may be all done, whatever became of the rest
main_kept : (first : Files) (calls : List DiskCall) (c : Files) → MayLeave first calls c → MayLeave first calls (record c { main = (all_done first calls).main })
unfolding grows_by
main_kept first [] c left = λ i. record { main = first.main; fresh = (left i).fresh; side = (left i).side; commits = (left i).commits }
main_kept first (Write n page ∷ earlier) c left = (record left.0 { main = (all_done first earlier).main }, main_kept first earlier left.0 left.1, record { page = page; main = refl; fresh = left.2.fresh; side = left.2.side; commits = left.2.commits })
main_kept first (Grow n ∷ earlier) c left =
    let d = record left.0 { main = (all_done first earlier).main } in
    let grows = grows_by n blank d in
    (d, main_kept first earlier left.0 left.1, record { more = grows.more; pages = refl; fits = grows.fits; fresh = left.2.fresh; side = left.2.side; commits = left.2.commits })
main_kept first (Cut n ∷ earlier) c left = (record left.0 { main = (all_done first earlier).main }, main_kept first earlier left.0 left.1, record { to = n; least = omega arith; pages = refl; fresh = left.2.fresh; side = left.2.side; commits = left.2.commits })
main_kept first (Sync ∷ earlier) c left = (record left.0 { main = (all_done first earlier).main }, main_kept first earlier left.0 left.1, (ap (λ (f : Files). record f { main = (all_done first earlier).main }) left.2.0, refl))
main_kept first (Start long rest ∷ earlier) c left = (record left.0 { main = (all_done first earlier).main }, main_kept first earlier left.0 left.1, record { main = refl; side = left.2.side; commits = left.2.commits })
main_kept first (Keep n page ∷ earlier) c left = (record left.0 { main = (all_done first earlier).main }, main_kept first earlier left.0 left.1, record { main = refl; side = left.2.side; commits = left.2.commits })
main_kept first (SyncFresh ∷ earlier) c left = (record left.0 { main = (all_done first earlier).main }, main_kept first earlier left.0 left.1, (ap (λ (f : Files). record f { main = (all_done first earlier).main }) left.2.0, left.2.1))
main_kept first (Name ∷ earlier) c left = (record left.0 { main = (all_done first earlier).main }, main_kept first earlier left.0 left.1, record { main = refl; side = left.2.side; commits = left.2.commits })
main_kept first (Remove ∷ earlier) c left = (record left.0 { main = (all_done first earlier).main }, main_kept first earlier left.0 left.1, record { main = refl; side = left.2.side; commits = left.2.commits })
main_kept first (SyncNames ∷ earlier) c left = (record left.0 { main = (all_done first earlier).main }, main_kept first earlier left.0 left.1, (ap (λ (f : Files). record f { main = (all_done first earlier).main }) left.2.0, left.2.1, left.2.2))
main_kept first (Commits call ∷ earlier) c left = (record left.0 { main = (all_done first earlier).main }, main_kept first earlier left.0 left.1, record { main = refl; fresh = left.2.fresh; side = left.2.side; commits = left.2.commits })

-- and so may the side file that is being made
fresh_kept : (first : Files) (calls : List DiskCall) (c : Files) → MayLeave first calls c → MayLeave first calls (record c { fresh = (all_done first calls).fresh })
fresh_kept first [] c left = λ i. record { main = (left i).main; fresh = first.fresh; side = (left i).side; commits = (left i).commits }
fresh_kept first (Write n page ∷ earlier) c left = (record left.0 { fresh = (all_done first earlier).fresh }, fresh_kept first earlier left.0 left.1, record { page = left.2.page; main = left.2.main; fresh = refl; side = left.2.side; commits = left.2.commits })
fresh_kept first (Grow n ∷ earlier) c left = (record left.0 { fresh = (all_done first earlier).fresh }, fresh_kept first earlier left.0 left.1, record { more = left.2.more; pages = left.2.pages; fits = left.2.fits; fresh = refl; side = left.2.side; commits = left.2.commits })
fresh_kept first (Cut n ∷ earlier) c left = (record left.0 { fresh = (all_done first earlier).fresh }, fresh_kept first earlier left.0 left.1, record { to = left.2.to; least = left.2.least; pages = left.2.pages; fresh = refl; side = left.2.side; commits = left.2.commits })
fresh_kept first (Sync ∷ earlier) c left = (record left.0 { fresh = (all_done first earlier).fresh }, fresh_kept first earlier left.0 left.1, (ap (λ (f : Files). record f { fresh = (all_done first earlier).fresh }) left.2.0, left.2.1))
fresh_kept first (Start long rest ∷ earlier) c left = (left.0, left.1, record { main = left.2.main; side = left.2.side; commits = left.2.commits })
fresh_kept first (Keep n page ∷ earlier) c left = (left.0, left.1, record { main = left.2.main; side = left.2.side; commits = left.2.commits })
fresh_kept first (SyncFresh ∷ earlier) c left = (record left.0 { fresh = (all_done first earlier).fresh }, fresh_kept first earlier left.0 left.1, (ap (λ (f : Files). record f { fresh = (all_done first earlier).fresh }) left.2.0, refl))
fresh_kept first (Name ∷ earlier) c left = (left.0, left.1, record { main = left.2.main; side = left.2.side; commits = left.2.commits })
fresh_kept first (Remove ∷ earlier) c left = (left.0, left.1, record { main = left.2.main; side = left.2.side; commits = left.2.commits })
fresh_kept first (SyncNames ∷ earlier) c left = (record left.0 { fresh = (all_done first earlier).fresh }, fresh_kept first earlier left.0 left.1, (ap (λ (f : Files). record f { fresh = (all_done first earlier).fresh }) left.2.0, left.2.1, left.2.2))
fresh_kept first (Commits call ∷ earlier) c left = (record left.0 { fresh = (all_done first earlier).fresh }, fresh_kept first earlier left.0 left.1, record { main = left.2.main; fresh = refl; side = left.2.side; commits = left.2.commits })

may_fated : (first : Files) (earlier : List DiskCall) (call : DiskCall) (fate : Fate) (d : Files) → MayLeave first earlier d → NamesAgree call (all_done first (call ∷ earlier)) d → MayLeave first (call ∷ earlier) (fated call fate (all_done first (call ∷ earlier)) d)
may_fated first earlier (Write n page) Done d left agree = (d, left, record { page = page; main = refl; fresh = refl; side = refl; commits = refl })
may_fated first earlier (Write n page) Lost d left agree = (d, left, torn_none n d)
may_fated first earlier (Write n page) Torn d left agree = (d, left, record { page = noise; main = refl; fresh = refl; side = refl; commits = refl })
may_fated first earlier (Grow n) Done d left agree = (d, left, grows_by n blank d)
may_fated first earlier (Grow n) Lost d left agree = (d, left, grow_none n d)
may_fated first earlier (Grow n) Torn d left agree = (d, left, grows_by n noise d)
may_fated first earlier (Cut n) Done d left agree = (d, left, record { to = n; least = omega arith; pages = refl; fresh = refl; side = refl; commits = refl })
may_fated first earlier (Cut n) Lost d left agree = (d, left, cut_none n d)
may_fated first earlier (Cut n) Torn d left agree = (d, left, cut_none n d)
may_fated first earlier Sync Done d left agree = (record d { main = (all_done first earlier).main }, main_kept first earlier d left, (refl, refl))
may_fated first earlier Sync Lost d left agree = (record d { main = (all_done first earlier).main }, main_kept first earlier d left, (refl, refl))
may_fated first earlier Sync Torn d left agree = (record d { main = (all_done first earlier).main }, main_kept first earlier d left, (refl, refl))
may_fated first earlier (Start long rest) Done d left agree = (d, left, record { main = refl; side = refl; commits = refl })
may_fated first earlier (Start long rest) Lost d left agree = (d, left, record { main = refl; side = refl; commits = refl })
may_fated first earlier (Start long rest) Torn d left agree = (d, left, record { main = refl; side = refl; commits = refl })
may_fated first earlier (Keep n page) Done d left agree = (d, left, record { main = refl; side = refl; commits = refl })
may_fated first earlier (Keep n page) Lost d left agree = (d, left, record { main = refl; side = refl; commits = refl })
may_fated first earlier (Keep n page) Torn d left agree = (d, left, record { main = refl; side = refl; commits = refl })
may_fated first earlier SyncFresh Done d left agree = (record d { fresh = (all_done first earlier).fresh }, fresh_kept first earlier d left, (refl, refl))
may_fated first earlier SyncFresh Lost d left agree = (record d { fresh = (all_done first earlier).fresh }, fresh_kept first earlier d left, (refl, refl))
may_fated first earlier SyncFresh Torn d left agree = (record d { fresh = (all_done first earlier).fresh }, fresh_kept first earlier d left, (refl, refl))
may_fated first earlier Name Done d left agree = (d, left, record { main = refl; side = inr refl; commits = refl })
may_fated first earlier Name Lost d left agree = (d, left, record { main = refl; side = inl refl; commits = refl })
may_fated first earlier Name Torn d left agree = (d, left, record { main = refl; side = inl refl; commits = refl })
may_fated first earlier Remove Done d left agree = (d, left, record { main = refl; side = inr refl; commits = refl })
may_fated first earlier Remove Lost d left agree = (d, left, record { main = refl; side = inl refl; commits = refl })
may_fated first earlier Remove Torn d left agree = (d, left, record { main = refl; side = inl refl; commits = refl })
may_fated first earlier SyncNames Done d left agree = (d, left, (refl, agree.0, agree.1))
may_fated first earlier SyncNames Lost d left agree = (d, left, (refl, agree.0, agree.1))
may_fated first earlier SyncNames Torn d left agree = (d, left, (refl, agree.0, agree.1))
may_fated first earlier (Commits call) Done d left agree = (d, left, record { main = refl; fresh = refl; side = refl; commits = (commits_fated call (all_done first earlier).commits d.commits agree).0 })
may_fated first earlier (Commits call) Lost d left agree = (d, left, record { main = refl; fresh = refl; side = refl; commits = (commits_fated call (all_done first earlier).commits d.commits agree).1 })
may_fated first earlier (Commits call) Torn d left agree = (d, left, record { main = refl; fresh = refl; side = refl; commits = (commits_fated call (all_done first earlier).commits d.commits agree).2 })

-- calls taken from the oldest on are calls left out from the newest on
pub first_of : (calls items : List DiskCall) (k : ℕ) → reverse items ≡ calls → k ≤ length items → reverse (take k items) ≡ first_calls k calls
first_of calls items k view fits =
    let late = reverse (drop k items) in
    let parts : reverse items ≡ late ++ reverse (take k items) = ap reverse (sym (take-append-drop k items)) ∙ reverse-append (take k items) (drop k items) in
    let long : length (reverse items) - k ≡ length late = omega (arith, length-reverse items, length-reverse (drop k items), length-drop k items) in
    sym (ap (λ n. drop n (reverse items)) long ∙ ap (λ l. drop (length late) l) parts ∙ drop-append_seam late (reverse (take k items))) ∙ ap (first_calls k) view

-- one call more
next_call : (items : List DiskCall) (k : ℕ) (none : DiskCall) → k < length items → reverse (take (k + 1) items) ≡ get_or items k none ∷ reverse (take k items)
next_call items k none below = ap (λ n. reverse (take n items)) (add-one k) ∙ ap reverse (take-suc items k none below) ∙ reverse-append (take k items) (get_or items k none ∷ [])

-- a call that is done leaves what is seen
pub kept_itself : (call : DiskCall) (f : Files) → synced_by call f f ≡ f
kept_itself (Write n page) f = refl
kept_itself (Grow n) f = refl
kept_itself (Cut n) f = refl
kept_itself Sync f = refl
kept_itself (Start long rest) f = refl
kept_itself (Keep n page) f = refl
kept_itself SyncFresh f = refl
kept_itself Name f = refl
kept_itself Remove f = refl
kept_itself SyncNames f = refl
kept_itself (Commits call) f = refl

pub all_fated : (call : DiskCall) (fate : Fate) (left seen next new : Files) → fate ≡ Done → left ≡ seen → next ≡ done call seen → new ≡ fated call fate next left → new ≡ next
all_fated call fate left seen next new is same does gives =
    gives ∙ ap (λ fate. fated call fate next left) is ∙ ap (λ f. synced_by call next (done call f)) same ∙ ap (synced_by call next) (sym does) ∙ kept_itself call next

-- the crash that the fates say, one call on
pub fated_next : (first : Files) (items : List DiskCall) (k : ℕ) (none : DiskCall) (fate : Fate) (left seen next new : Files) → k < length items → MayLeave first (reverse (take k items)) left → seen ≡ all_done first (reverse (take k items)) → next ≡ done (get_or items k none) seen → NamesAgree (get_or items k none) next left → new ≡ fated (get_or items k none) fate next left → MayLeave first (reverse (take (k + 1) items)) new
fated_next first items k none fate left seen next new below may see does agree gives =
    let calls = reverse (take k items) in
    let call = get_or items k none in
    let then_seen : next ≡ all_done first (call ∷ calls) = does ∙ ap (done call) see in
    let one : MayLeave first (call ∷ calls) (fated call fate (all_done first (call ∷ calls)) left) = may_fated first calls call fate left may (subst (λ s. NamesAgree call s left) then_seen agree) in
    subst (λ l. MayLeave first l new) (sym (next_call items k none below)) (subst (λ f. MayLeave first (call ∷ calls) f) (sym (gives ∙ ap (λ s. fated call fate s left) then_seen)) one)

pub seen_next : (first : Files) (items : List DiskCall) (k : ℕ) (none : DiskCall) (seen next : Files) → k < length items → seen ≡ all_done first (reverse (take k items)) → next ≡ done (get_or items k none) seen → next ≡ all_done first (reverse (take (k + 1) items))
seen_next first items k none seen next below see does = does ∙ ap (done (get_or items k none)) see ∙ ap (all_done first) (sym (next_call items k none below))

names_itself : (call : DiskCall) (f : Files) → NamesAgree call (done call f) f
names_itself (Write n page) f = tt
names_itself (Grow n) f = tt
names_itself (Cut n) f = tt
names_itself Sync f = tt
names_itself (Start long rest) f = tt
names_itself (Keep n page) f = tt
names_itself SyncFresh f = tt
names_itself Name f = tt
names_itself Remove f = tt
names_itself SyncNames f = (refl, refl)
names_itself (Commits call) f = commits_itself call f.commits

-- what is seen is left where nothing is lost
pub seen_left : (first : Files) (calls : List DiskCall) → MayLeave first calls (all_done first calls)
seen_left first [] = refl
seen_left first (call ∷ earlier) =
    let seen = all_done first earlier in
    subst (λ f. MayLeave first (call ∷ earlier) f) (kept_itself call (done call seen)) (may_fated first earlier call Done seen (seen_left first earlier) (names_itself call seen))

-- what is left behind fewer calls might have been left since the beginning
pub left_earlier : (first : Files) (late calls : List DiskCall) (c : Files) → MayLeave first calls c → LeftSince first (late ++ calls) 0 c
left_earlier first [] calls c left = left_now first calls 0 c left
left_earlier first (x ∷ late) calls c left = inr (omega arith, left_earlier first late calls c left)

-- the disk that starts again from there
pub crash_left : (first : Files) (calls items : List DiskCall) (k : ℕ) (result : Result (Option History) Memory) (seen left : Files) → IfOk result (λ found. found ≡ Some (record { first = left; calls = []; failures = 0 })) → reverse items ≡ calls → k ≤ length items → seen ≡ first → MayLeave seen (reverse (take k items)) left → IfOk result (λ found. IfSome found (λ d. (d.calls ≡ []) × (d.failures ≡ 0) × MayLeave first (first_calls k calls) d.first))
crash_left first calls items k (Err fault) seen left made view fits is may = tt
crash_left first calls items k (Ok found) seen left made view fits is may =
    let may_now : MayLeave first (first_calls k calls) left = subst (λ l. MayLeave first l left) (first_of calls items k view fits) (subst (λ f. MayLeave f (reverse (take k items)) left) is may) in
    subst (λ (o : Option History). IfSome o (λ d. (d.calls ≡ []) × (d.failures ≡ 0) × MayLeave first (first_calls k calls) d.first)) (sym made) (refl, refl, may_now)

pub crash_whole : (first : Files) (calls items : List DiskCall) (k : ℕ) (result : Result (Option History) Memory) (seen left : Files) → IfOk result (λ found. found ≡ Some (record { first = left; calls = []; failures = 0 })) → reverse items ≡ calls → k ≤ length items → seen ≡ first → left ≡ all_done seen (reverse (take k items)) → IfOk result (λ found. IsSome found × IfSome found (λ d. d.first ≡ all_done first (first_calls k calls)))
crash_whole first calls items k (Err fault) seen left made view fits is whole = tt
crash_whole first calls items k (Ok found) seen left made view fits is whole =
    let whole_now : left ≡ all_done first (first_calls k calls) = whole ∙ ap (λ f. all_done f (reverse (take k items))) is ∙ ap (all_done first) (first_of calls items k view fits) in
    subst (λ (o : Option History). IsSome o × IfSome o (λ d. d.first ≡ all_done first (first_calls k calls))) (sym made) (refl, whole_now)
