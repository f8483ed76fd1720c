-- What a store whose disk records its calls hands out.
use Rattle.std.proofs.Common.{◌≡◌, ◌++◌, ◌≤◌, ℕ, Bool, List, Option, inl, refl, sym, subst, arith}
use Rattle.page_journal.specs.Files.{Files, recovered}
use Rattle.page_journal.specs.Steps.{Does, Nothing, Stays}
use Rattle.page_journal.specs.Crash.{FilesStandFor}
use Rattle.page_journal.specs.History.{MayLeave, all_done, left_now, only_left_now}
use Rattle.page_journal.specs.LoggedStores.{FindsNow, IsLogged, KnowsCommits, MayFind, commits_in}
use Rattle.page_journal.specs.CallDisks.{Recorded, handed_out, EachFrontLeaves}
use Rattle.page_journal.specs.declared.log_place.LogPlace.{LogPlace}
use Rattle.page_journal.specs.declared.seal_state.SealState.{SealState}
use Rattle.page_journal.proofs.CallDiskLemmas.{call_ghosts, each_front}
use Rattle.page_journal.proofs.LoggedLemmas.{all_now}
use Rattle.page_journal.proofs.StayingLemmas.{Guards, guards_stay, logged_stays}

-- a disk whose calls were handed out is what it was
pub handed_stays : (old new : Recorded) → new ≡ handed_out old → Stays call_ghosts old new
handed_stays old new told = subst (λ (r : Recorded). Does call_ghosts Nothing old r) (sym told) (record {
  seen = refl;
  steady = refl;
  began = refl;
  crash = λ c left. (c, left, refl);
  later = omega arith;
  nothing_else = λ t c le left. inl left;
  keeps = λ t c le left. left;
})

pub call_counts : (disk : Recorded) (t : ℕ) (c : Files) → t ≤ call_ghosts.moment disk → call_ghosts.may_leave disk c → call_ghosts.left_since disk t c
call_counts disk t c fits left = left_now disk.first (disk.calls ++ disk.past) t c left

pub call_only : (disk : Recorded) (c : Files) → call_ghosts.left_since disk (call_ghosts.moment disk) c → call_ghosts.may_leave disk c
call_only disk c left = only_left_now disk.first (disk.calls ++ disk.past) c left

module _ (state : SealState) (flags : List Bool) (log : Option LogPlace) (doubt : List ℕ) (old new : Recorded) (told : new ≡ handed_out old) (knows : KnowsCommits call_ghosts log doubt old) (guards : Guards call_ghosts call_counts state flags log old) where
  logged : IsLogged call_ghosts log doubt old
  logged = knows (guards refl).1

  pub logged_out : KnowsCommits call_ghosts log doubt new
  logged_out = logged_stays call_ghosts call_counts log doubt old new (call_only old) knows (handed_stays old new told)

  pub guards_out : Guards call_ghosts call_counts state flags log new
  guards_out = guards_stay call_ghosts call_counts state flags log old new guards (handed_stays old new told)

  pub fronts_handed : EachFrontLeaves new.first new.past 0 (λ c. FilesStandFor (recovered new.first) c × MayFind log new.first (commits_in log (all_done new.first new.past)) doubt c)
  fronts_handed =
      let guarded = (guards refl).0 in
      subst (λ (r : Recorded). EachFrontLeaves r.first r.past 0 (λ c. FilesStandFor (recovered r.first) c × MayFind log r.first (commits_in log (all_done r.first r.past)) doubt c)) (sym told)
      (each_front old.first (old.calls ++ old.past) 0 (λ c. FilesStandFor (recovered old.first) c × MayFind log old.first (commits_in log (all_done old.first (old.calls ++ old.past))) doubt c) (λ c left. (guarded.time c left, logged.time c left)))

  pub now_handed : (c : Files) → MayLeave new.first new.past c → FindsNow log new.first (commits_in log (all_done new.first new.past)) doubt c
  now_handed =
      subst (λ (r : Recorded). (c : Files) → MayLeave r.first r.past c → FindsNow log r.first (commits_in log (all_done r.first r.past)) doubt c) (sym told)
      (λ c left. all_now call_ghosts call_counts log doubt old logged c left)
