-- Which calls leave a file that is settled or sealed so, and what its outcomes stand for.
use Rattle.std.proofs.Common.{◌≡◌, ◌⊎◌, inl, inr, ⊎_elim, ℕ, ◌≤◌, true, false, List, Option, Some, None, is_some, refl, sym, ◌∙◌, ap, subst, arith}
use Rattle.std.proofs.lemmas.Bool.{false≢true}
use Rattle.page_journal.specs.Files.{PageFile, SideFile, Files, IsOf, BelongsTo, restored, recovered, recovered_by, Agree}
use Rattle.page_journal.specs.Steps.{Does, Stays, TornAt, GrowsUpTo, CutsTo, Fresh, Names, RemovesSide}
use Rattle.page_journal.specs.Crash.{IsSettled, IsSealed, IsAtRest, StandsAs, FilesStandFor, StandsForEither, MayWrite, Gathered}
use Rattle.page_journal.specs.declared.disk_state.DiskState.{Ghosts}
use Rattle.page_journal.proofs.RestoreLemmas.{of_agree, restores_same, restored_itself, agree_itself, agree_put, agree_more, agree_cut}

-- where a name was there or wasn't, and the device kept that it is, it is
pub named_so : (side : Option SideFile) (kept : SideFile) → (side ≡ None) ⊎ (side ≡ Some kept) → is_some side ≡ true → side ≡ Some kept
named_so side kept (inl none) there = absurd (false≢true (sym (ap is_some none) ∙ there))
named_so side kept (inr some) there = some

pub unnamed : (side : Option SideFile) → is_some side ≡ false → side ≡ None
unnamed None gone = refl
unnamed (Some kept) gone = absurd (false≢true (sym gone))

-- a file beside its side file stands for the old one, and beside none for itself
pub kept_stands : (kept : SideFile) (base : List (List ℕ)) (c : Files) → c.side ≡ Some kept → Agree kept base c.main.pages → IsOf kept base → FilesStandFor (restored kept base) c
kept_stands kept base c side agree own = (
  subst (λ (s : Option SideFile). BelongsTo s c.main.pages) (sym side) (of_agree kept base c.main.pages agree own),
  ap (λ (s : Option SideFile). recovered_by s c.main) side ∙ restores_same kept base c.main.pages agree,
)

pub alone_stands : (main : PageFile) (c : Files) → c.side ≡ None → c.main ≡ main → FilesStandFor main c
alone_stands main c none is = (subst (λ (s : Option SideFile). BelongsTo s c.main.pages) (sym none) tt, ap (λ (s : Option SideFile). recovered_by s c.main) none ∙ is)

-- what stands for the file that the files stood for stands as they did
pub stands_as : (old c : Files) (main : PageFile) → main ≡ recovered old → FilesStandFor main c → StandsAs old c
stands_as old c main is stands = (λ _. stands.0, stands.1 ∙ is)

module _ {D : Type 0} (g : Ghosts D) where
  pub sealed_stands : (kept : SideFile) (base : List (List ℕ)) (disk : D) → IsSealed g kept base disk → (c : Files) → g.may_leave disk c → FilesStandFor (restored kept base) c
  sealed_stands kept base disk sealed c left =
      let was = sealed.crash c left in
      kept_stands kept base c was.0 was.1 sealed.own

  pub settled_stands : (main : PageFile) (disk : D) → IsSettled g main disk → (c : Files) → g.may_leave disk c → FilesStandFor main c
  settled_stands main disk settled c left =
      let was = settled.crash c left in
      alone_stands main c was.1 was.0

  pub settled_stays : (main : PageFile) (old new : D) → IsSettled g main old → Stays g old new → IsSettled g main new
  settled_stays main old new settled does = record {
    seen = ap (λ (f : Files). f.main) does.seen ∙ settled.seen;
    no_side = ap (λ (f : Files). f.side) does.seen ∙ settled.no_side;
    crash = λ c left.
        let from = does.crash c left in
        let was = settled.crash from.0 from.1 in
        (ap (λ (f : Files). f.main) from.2 ∙ was.0, ap (λ (f : Files). f.side) from.2 ∙ was.1);
  }

  pub settled_fresh : (main : PageFile) (old new : D) → IsSettled g main old → Does g Fresh old new → IsSettled g main new
  settled_fresh main old new settled does = record {
    seen = does.seen.main ∙ settled.seen;
    no_side = does.seen.side ∙ settled.no_side;
    crash = λ c left.
        let from = does.crash c left in
        let was = settled.crash from.0 from.1 in
        (from.2.main ∙ was.0, from.2.side ∙ was.1);
  }

  pub sealed_stays : (kept : SideFile) (base : List (List ℕ)) (old new : D) → IsSealed g kept base old → Stays g old new → IsSealed g kept base new
  sealed_stays kept base old new sealed does = record {
    own = sealed.own;
    side = ap (λ (f : Files). f.side) does.seen ∙ sealed.side;
    main = subst (λ (f : Files). Agree kept base f.main.pages) (sym does.seen) sealed.main;
    crash = λ c left.
        let from = does.crash c left in
        let was = sealed.crash from.0 from.1 in
        (ap (λ (f : Files). f.side) from.2 ∙ was.0, subst (λ (f : Files). Agree kept base f.main.pages) (sym from.2) was.1);
  }

  pub sealed_write : (kept : SideFile) (base : List (List ℕ)) (n : ℕ) (old new : D) → IsSealed g kept base old → MayWrite kept n → Does g (TornAt n) old new → IsSealed g kept base new
  sealed_write kept base n old new sealed may does = record {
    own = sealed.own;
    side = does.seen.side ∙ sealed.side;
    main = agree_put kept base _ _ n does.seen.page sealed.main (ap (λ (m : PageFile). m.pages) does.seen.main) may;
    crash = λ c left.
        let from = does.crash c left in
        let was = sealed.crash from.0 from.1 in
        (from.2.side ∙ was.0, agree_put kept base _ _ n from.2.page was.1 (ap (λ (m : PageFile). m.pages) from.2.main) may);
  }

  pub sealed_grow : (kept : SideFile) (base : List (List ℕ)) (n : ℕ) (old new : D) → IsSealed g kept base old → Does g (GrowsUpTo n) old new → IsSealed g kept base new
  sealed_grow kept base n old new sealed does = record {
    own = sealed.own;
    side = does.seen.side ∙ sealed.side;
    main = agree_more kept base _ _ does.seen.more sealed.main does.seen.pages;
    crash = λ c left.
        let from = does.crash c left in
        let was = sealed.crash from.0 from.1 in
        (from.2.side ∙ was.0, agree_more kept base _ _ from.2.more was.1 from.2.pages);
  }

  pub sealed_cut : (kept : SideFile) (base : List (List ℕ)) (n : ℕ) (old new : D) → IsSealed g kept base old → kept.long ≤ n → Does g (CutsTo n) old new → IsSealed g kept base new
  sealed_cut kept base n old new sealed fits does = record {
    own = sealed.own;
    side = does.seen.side ∙ sealed.side;
    main = agree_cut kept base _ _ does.seen.to sealed.main (omega (arith, fits, does.seen.least)) does.seen.pages;
    crash = λ c left.
        let from = does.crash c left in
        let was = sealed.crash from.0 from.1 in
        (from.2.side ∙ was.0, agree_cut kept base _ _ from.2.to was.1 (omega (arith, fits, from.2.least)) from.2.pages);
  }

  -- what held of every outcome holds of fewer
  pub still : (P : Files → Type 0) (old new : D) → ((c : Files) → g.may_leave old c → P c) → Stays g old new → (c : Files) → g.may_leave new c → P c
  still P old new had does c left =
      let from = does.crash c left in
      subst P (sym from.2) (had from.0 from.1)

  -- after a restart that finds a side file of the file
  pub sealed_at_rest : (kept : SideFile) (disk : D) → IsAtRest g disk → (g.seen disk).side ≡ Some kept → IsOf kept (g.seen disk).main.pages → IsSealed g kept (g.seen disk).main.pages disk
  sealed_at_rest kept disk rest side own = record {
    own = own;
    side = side;
    main = agree_itself kept (g.seen disk).main.pages own.long;
    crash = λ c left.
        let was = rest c left in
        (was.1 ∙ side, subst (λ (m : PageFile). Agree kept (g.seen disk).main.pages m.pages) (sym was.0) (agree_itself kept (g.seen disk).main.pages own.long));
  }

  -- a side file that the device keeps gets the name, or doesn't yet: where the file is the same, its side file is this or none
  pub naming : (main : PageFile) (mid new : D) → IsSettled g main mid → ((c : Files) → g.may_leave mid c → c.fresh ≡ (g.seen mid).fresh) → Does g Names mid new → (c : Files) → g.may_leave new c → (c.main ≡ main) × ((c.side ≡ None) ⊎ (c.side ≡ Some (g.seen mid).fresh))
  naming main mid new settled durable does c left =
      let from = does.crash c left in
      let was = settled.crash from.0 from.1 in
      (from.2.main ∙ was.0, ⊎_elim (λ stays. inl (stays ∙ was.1)) (λ named. inr (named ∙ ap (λ (k : SideFile). Some k) (durable from.0 from.1))) from.2.side)

  -- it stands for the file either way
  pub named_stands : (main : PageFile) (kept : SideFile) → main.tail ≡ 0 → Gathered main.pages kept → IsOf kept main.pages → (c : Files) → (c.main ≡ main) × ((c.side ≡ None) ⊎ (c.side ≡ Some kept)) → FilesStandFor main c
  named_stands main kept no_tail gathered own c was =
      ⊎_elim (λ none. alone_stands main c none was.0)
      (λ named. (
        subst (λ (s : Option SideFile). BelongsTo s c.main.pages) (sym named) (subst (λ (m : PageFile). IsOf kept m.pages) (sym was.0) own),
        ap (λ side. recovered_by side c.main) named ∙ ap (λ (m : PageFile). restored kept m.pages) was.0 ∙ restored_itself main kept no_tail gathered.long gathered.pages_there,
      ))
      was.1

  -- and where the device keeps the name, too, the file is sealed
  pub named_sealed : (main : PageFile) (kept : SideFile) (mid new : D) → ((c : Files) → g.may_leave mid c → (c.main ≡ main) × ((c.side ≡ None) ⊎ (c.side ≡ Some kept))) → (g.seen mid).main ≡ main → (g.seen mid).side ≡ Some kept → IsOf kept main.pages → ((c : Files) → g.may_leave new c → is_some c.side ≡ is_some (g.seen mid).side) → Stays g mid new → IsSealed g kept main.pages new
  named_sealed main kept mid new was seen side own durable does = record {
    own = own;
    side = ap (λ (f : Files). f.side) does.seen ∙ side;
    main = subst (λ (m : PageFile). Agree kept main.pages m.pages) (sym (ap (λ (f : Files). f.main) does.seen ∙ seen)) itself;
    crash = λ c left.
        let now = still (λ f. (f.main ≡ main) × ((f.side ≡ None) ⊎ (f.side ≡ Some kept))) mid new was does c left in
        (named_so c.side kept now.1 (durable c left ∙ ap is_some side), subst (λ (m : PageFile). Agree kept main.pages m.pages) (sym now.0) itself);
  }
    where
      itself : Agree kept main.pages main.pages
      itself = agree_itself kept main.pages own.long

  -- the side file is taken away, once the device keeps the file
  pub removed : (kept : SideFile) (base : List (List ℕ)) (main : PageFile) (mid new : D) → IsSealed g kept base mid → ((c : Files) → g.may_leave mid c → c.main ≡ main) → Does g RemovesSide mid new → (c : Files) → g.may_leave new c → (c.main ≡ main) × ((c.side ≡ Some kept) ⊎ (c.side ≡ None)) × Agree kept base c.main.pages
  removed kept base main mid new sealed durable does c left =
      let from = does.crash c left in
      let was = sealed.crash from.0 from.1 in
      (from.2.main ∙ durable from.0 from.1, ⊎_elim (λ stays. inl (stays ∙ was.0)) (λ gone. inr gone) from.2.side, subst (λ (m : PageFile). Agree kept base m.pages) (sym from.2.main) was.1)

  pub removed_stands : (kept : SideFile) (base : List (List ℕ)) (main : PageFile) → IsOf kept base → (c : Files) → (c.main ≡ main) × ((c.side ≡ Some kept) ⊎ (c.side ≡ None)) × Agree kept base c.main.pages → StandsForEither (restored kept base) main c
  removed_stands kept base main own c was =
      ⊎_elim (λ stays. inl (kept_stands kept base c stays was.2 own))
      (λ gone. inr (alone_stands main c gone was.0))
      was.1

  -- and where the device keeps that it is gone, the file is settled
  pub removed_settled : (main : PageFile) (mid new : D) → ((c : Files) → g.may_leave mid c → c.main ≡ main) → (g.seen mid).main ≡ main → (g.seen mid).side ≡ None → ((c : Files) → g.may_leave new c → is_some c.side ≡ is_some (g.seen mid).side) → Stays g mid new → IsSettled g main new
  removed_settled main mid new was seen gone durable does = record {
    seen = ap (λ (f : Files). f.main) does.seen ∙ seen;
    no_side = ap (λ (f : Files). f.side) does.seen ∙ gone;
    crash = λ c left. (still (λ f. f.main ≡ main) mid new was does c left, unnamed c.side (durable c left ∙ ap is_some gone));
  }
