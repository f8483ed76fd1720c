-- Outcomes of the examples, and why there are no others.
use Rattle.std.proofs.Common.{◌≡◌, ◌≢◌, ◌⊎◌, ⊎_elim, inl, inr, ℕ, zero, suc, ◌<◌, true, false, List, [], ◌∷◌, ◌++◌, get_or, set, slice_get, Option, Some, None, unwrap_or, All, is_some, refl, sym, ◌∙◌, ap, arith}
use Rattle.page_journal.specs.Files.{PageFile, SideFile, Files, no_commits, Agree, IsOf, is_kept, restored}
use Rattle.page_journal.specs.Sums.{sum_start}
use Rattle.page_journal.specs.Crash.{FilesStandFor, StandsForEither, Gathered}
use Rattle.page_journal.specs.History.{MayLeave}
use Rattle.page_journal.specs.Examples.{pages_of_two, without_side_file, old_file, word, words, word_kept, page_1_kept, page_1_written_over, both_written, both_writes, side_made, side_named, named_early, bad_side, page_1_steps, both_steps}
use Rattle.page_journal.specs.declared.disk_call.DiskCall.TheVariants.{Write, Name, Remove, SyncNames}
use Rattle.page_store.specs.Journal.{carried}
use Rattle.page_store.specs.declared.step.Step.TheVariants as steps
use Rattle.page_journal.specs.Carrying.{WritesKept}
use Rattle.page_journal.proofs.MemDiskLemmas.{mem_ghosts}
use Rattle.page_journal.proofs.RestoreLemmas.{agree_itself, agree_put}
use Rattle.page_journal.proofs.SealedLemmas.{named_so, named_stands, kept_stands}

pub page_1_agrees : Agree page_1_kept old_file.pages page_1_written_over
page_1_agrees = record { first_long = omega arith; long = omega arith; same = at }
  where
    at : (n : ℕ) → n < 2 → is_kept page_1_kept.pages n ≡ false → slice_get page_1_written_over n ≡ slice_get old_file.pages n
    at zero below none = refl
    at (suc zero) below none = absurd (cc)
    at (suc (suc n)) below none = absurd (omega (arith, below))

pub both_disagree : Agree page_1_kept old_file.pages both_written → ⊥
both_disagree agree = omega (arith, ap (λ (o : Option (List ℕ)). get_or (unwrap_or o []) 0 0) (agree.same 0 (omega arith) refl))

pub both_not_restored : restored page_1_kept both_written ≢ old_file
both_not_restored is = omega (arith, ap (λ (m : PageFile). get_or (get_or m.pages 0 []) 0 0) is)

pub steps_kept : All (WritesKept page_1_kept) page_1_steps
steps_kept zero d below = tt
steps_kept (suc zero) d below = inl refl
steps_kept (suc (suc zero)) d below = tt
steps_kept (suc (suc (suc n))) d below = absurd (omega (arith, below))

pub steps_not_kept : All (WritesKept page_1_kept) both_steps → ⊥
steps_not_kept all = ⊎_elim (λ (is_in : is_kept page_1_kept.pages 0 ≡ true). absurd (cc)) (λ past. omega (arith, past)) (all zero (steps.Write 0 (7 ∷ [])) (omega arith))

pub steps_not_restored : restored page_1_kept (carried old_file.pages both_steps) ≢ old_file
steps_not_restored is = omega (arith, ap (λ (m : PageFile). get_or (get_or m.pages 0 []) 0 0) is)

pub one_lost : MayLeave (without_side_file old_file) both_writes (without_side_file (pages_of_two 1 9))
one_lost = (without_side_file old_file, (without_side_file old_file, refl, record { page = 1 ∷ []; main = refl; fresh = refl; side = refl; commits = refl }), record { page = 9 ∷ []; main = refl; fresh = refl; side = refl; commits = refl })

pub one_torn : MayLeave (without_side_file old_file) both_writes (without_side_file (pages_of_two 5 9))
one_torn = (without_side_file (pages_of_two 5 2), (without_side_file old_file, refl, record { page = 5 ∷ []; main = refl; fresh = refl; side = refl; commits = refl }), record { page = 9 ∷ []; main = refl; fresh = refl; side = refl; commits = refl })

pub names_synced : MayLeave (without_side_file old_file) (SyncNames ∷ both_writes) (without_side_file (pages_of_two 1 9))
names_synced = (without_side_file (pages_of_two 1 9), one_lost, (refl, refl, refl))

pub never_durable : ((c : Files) → MayLeave (without_side_file old_file) both_writes c → c.main ≡ pages_of_two 7 9) → ⊥
never_durable all = omega (arith, ap (λ (m : PageFile). get_or (get_or m.pages 0 []) 0 0) (all (without_side_file (pages_of_two 1 9)) one_lost))

pub never_other : MayLeave (without_side_file old_file) (Write 0 (7 ∷ []) ∷ []) (without_side_file (pages_of_two 7 9)) → ⊥
never_other left =
    let page = left.2.page in
    let there : 9 ≡ get_or (get_or (set left.0.main.pages 0 page) 1 []) 0 0 = ap (λ (m : PageFile). get_or (get_or m.pages 1 []) 0 0) left.2.main in
    let was : get_or (get_or (set left.0.main.pages 0 page) 1 []) 0 0 ≡ 2 = ap (λ (f : Files). get_or (get_or (set f.main.pages 0 page) 1 []) 0 0) left.1 in
    omega (arith, there, was)

abbrev both_kept : SideFile
both_kept = record { long = 2; rest = Some sum_start; pages = (0, 1 ∷ []) ∷ (1, 2 ∷ []) ∷ [] }

both_gathered : Gathered old_file.pages both_kept
both_gathered = record { long = refl; pages_there = at }
  where
    at : All (λ (p : ℕ × List ℕ). slice_get old_file.pages p.0 ≡ Some p.1) both_kept.pages
    at zero d below = refl
    at (suc zero) d below = refl
    at (suc (suc k)) d below = absurd (omega (arith, below))

both_own : IsOf both_kept old_file.pages
both_own = record { long = omega arith; rest = ((omega arith, omega arith, (omega arith, omega arith, tt)), refl) }

-- whose side file it is
pub word_own : (b : ℕ) → IsOf word_kept (words 1 b)
word_own b = record { long = omega arith; rest = ((omega arith, omega arith, tt), refl) }

pub word_other : IsOf word_kept (words 7 2) → ⊥
word_other own = omega (arith, own.rest.1)

pub word_short : IsOf word_kept (word 1 ∷ []) → ⊥
word_short own = omega (arith, own.long)

-- the side file that the device keeps, beside the old file
made : (d : Files) → MayLeave (without_side_file old_file) side_made d → (d.main ≡ old_file) × (d.side ≡ None) × (d.fresh ≡ both_kept)
made d m = (
  ap (λ (f : Files). f.main) m.2.0 ∙ m.1.2.main ∙ m.1.1.2.main ∙ m.1.1.1.2.main ∙ ap (λ (f : Files). f.main) m.1.1.1.1,
  ap (λ (f : Files). f.side) m.2.0 ∙ m.1.2.side ∙ m.1.1.2.side ∙ m.1.1.1.2.side ∙ ap (λ (f : Files). f.side) m.1.1.1.1,
  m.2.1,
)

-- it has the name or not
named : (c : Files) → MayLeave (without_side_file old_file) (Name ∷ side_made) c → (c.main ≡ old_file) × ((c.side ≡ None) ⊎ (c.side ≡ Some both_kept))
named c left =
    let was = made left.0 left.1 in
    (left.2.main ∙ was.0, ⊎_elim (λ stays. inl (stays ∙ was.1)) (λ now. inr (now ∙ ap (λ (k : SideFile). Some k) was.2)) left.2.side)

pub named_old : (c : Files) → MayLeave (without_side_file old_file) (Name ∷ side_made) c → FilesStandFor old_file c
named_old c left = named_stands mem_ghosts old_file both_kept refl both_gathered both_own c (named c left)

-- it has the name
side_there : (c : Files) → MayLeave (without_side_file old_file) side_named c → (c.main ≡ old_file) × (c.side ≡ Some both_kept)
side_there c left =
    let was = named left.0 left.1 in
    (ap (λ (f : Files). f.main) left.2.0 ∙ was.0, ap (λ (f : Files). f.side) left.2.0 ∙ named_so left.0.side both_kept was.1 (ap (λ (f : Files). is_some f.side) (sym left.2.0) ∙ left.2.1))

pub sealed_old : (c : Files) → MayLeave (without_side_file old_file) (both_writes ++ side_named) c → FilesStandFor old_file c
sealed_old c left =
    let was = side_there left.1.0 left.1.1 in
    let first : Agree both_kept old_file.pages left.0.main.pages = agree_put both_kept old_file.pages old_file.pages left.0.main.pages 0 left.1.2.page (agree_itself both_kept old_file.pages (omega arith)) (ap (λ (m : PageFile). m.pages) left.1.2.main ∙ ap (λ (m : PageFile). set m.pages 0 left.1.2.page) was.0) (inl refl) in
    let second : Agree both_kept old_file.pages c.main.pages = agree_put both_kept old_file.pages left.0.main.pages c.main.pages 1 left.2.page first (ap (λ (m : PageFile). m.pages) left.2.main) (inl refl) in
    kept_stands both_kept old_file.pages c (left.2.side ∙ left.1.2.side ∙ was.1) second both_own

abbrev bad_kept : SideFile
bad_kept = record { long = 2; rest = None; pages = (0, 5 ∷ []) ∷ [] }

pub never_named_early : ((c : Files) → MayLeave (without_side_file old_file) named_early c → FilesStandFor old_file c) → ⊥
never_named_early all =
    let begun : Files = record { main = old_file; fresh = bad_kept; side = None; commits = no_commits } in
    let left : MayLeave (without_side_file old_file) named_early bad_side =
    (bad_side, (begun, (without_side_file old_file, (without_side_file old_file, (without_side_file old_file, refl, record { main = refl; side = refl; commits = refl }), record { main = refl; side = refl; commits = refl }), record { main = refl; side = refl; commits = refl }), record { main = refl; side = inr refl; commits = refl }), (refl, refl, refl)) in
    omega (arith, ap (λ (m : PageFile). get_or (get_or m.pages 0 []) 0 0) (all bad_side left).1)

-- an outcome with the side file made and nothing lost
abbrev ready : PageFile → Option SideFile → Files
ready main side = record { main = main; fresh = both_kept; side = side; commits = no_commits }

ready_left : MayLeave (without_side_file old_file) side_made (ready old_file None)
ready_left = (ready old_file None, (without_side_file old_file, (without_side_file old_file, (without_side_file old_file, refl, record { main = refl; side = refl; commits = refl }), record { main = refl; side = refl; commits = refl }), record { main = refl; side = refl; commits = refl }), (refl, refl))

pub never_written_early : ((c : Files) → MayLeave (without_side_file old_file) (both_writes ++ Name ∷ side_made) c → FilesStandFor old_file c) → ⊥
never_written_early all =
    let c = ready (pages_of_two 7 2) None in
    let left : MayLeave (without_side_file old_file) (both_writes ++ Name ∷ side_made) c =
    (c, (ready old_file None, (ready old_file None, ready_left, record { main = refl; side = inl refl; commits = refl }), record { page = 7 ∷ []; main = refl; fresh = refl; side = refl; commits = refl }), record { page = 2 ∷ []; main = refl; fresh = refl; side = refl; commits = refl }) in
    omega (arith, ap (λ (m : PageFile). get_or (get_or m.pages 0 []) 0 0) (all c left).1)

pub never_removed_early : ((c : Files) → MayLeave (without_side_file old_file) (SyncNames ∷ Remove ∷ both_writes ++ side_named) c → StandsForEither old_file (pages_of_two 7 9) c) → ⊥
never_removed_early all =
    let there = ready old_file (Some both_kept) in
    let part = ready (pages_of_two 7 2) (Some both_kept) in
    let c = ready (pages_of_two 7 2) None in
    let left : MayLeave (without_side_file old_file) (SyncNames ∷ Remove ∷ both_writes ++ side_named) c =
    (c, (part, (part, (there, (there, (ready old_file None, ready_left, record { main = refl; side = inr refl; commits = refl }), (refl, refl, refl)), record { page = 7 ∷ []; main = refl; fresh = refl; side = refl; commits = refl }), record { page = 2 ∷ []; main = refl; fresh = refl; side = refl; commits = refl }), record { main = refl; side = inr refl; commits = refl }), (refl, refl, refl)) in
    ⊎_elim (λ (is : FilesStandFor old_file c). omega (arith, ap (λ (m : PageFile). get_or (get_or m.pages 0 []) 0 0) is.1))
    (λ (is : FilesStandFor (pages_of_two 7 9) c). omega (arith, ap (λ (m : PageFile). get_or (get_or m.pages 1 []) 0 0) is.1))
    (all c left)
