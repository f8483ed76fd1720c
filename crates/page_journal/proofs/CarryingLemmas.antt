-- Steps carried out in part leave a file that is the old one but for kept pages.
use Rattle.std.proofs.Common.{◌≡◌, inl, inr, ℕ, zero, suc, List, [], ◌∷◌, take, All, refl, sym, subst, ◌∙◌, arith}
use Rattle.std.proofs.lemmas.List.{append-nil}
use Rattle.page_store.specs.Journal.{carry, carried}
use Rattle.page_store.specs.declared.step.Step.{Step}
use Rattle.page_store.specs.declared.step.Step.TheVariants.{SetPages, Write, Sync}
use Rattle.page_journal.specs.Files.{SideFile, Agree, restored}
use Rattle.page_journal.specs.Crash.{Gathered}
use Rattle.page_journal.specs.Carrying.{StepLeads, LeavesOf, WritesKept}
use Rattle.page_journal.proofs.RestoreLemmas.{restores_same, restored_itself, agree_itself, agree_put, agree_more}

agree_step : (kept : SideFile) (base old new : List (List ℕ)) (step : Step) → Agree kept base old → WritesKept kept step → StepLeads step old new → Agree kept base new
agree_step kept base old new (SetPages n) agree may leads = agree_more kept base old new leads.0 agree leads.1
agree_step kept base old new (Write n page) agree may (inl same) = subst (λ l. Agree kept base l) (sym same) agree
agree_step kept base old new (Write n page) agree may (inr torn) = agree_put kept base old new n torn.0 agree torn.1 may
agree_step kept base old new Sync agree may same = subst (λ l. Agree kept base l) (sym same) agree

agree_steps : (kept : SideFile) (base old new : List (List ℕ)) (steps : List Step) → Agree kept base old → All (WritesKept kept) steps → LeavesOf steps old new → Agree kept base new
agree_steps kept base old new [] agree all same = subst (λ l. Agree kept base l) (sym same) agree
agree_steps kept base old new (step ∷ steps) agree all leaves =
    agree_steps kept base leaves.0 new steps (agree_step kept base old leaves.0 step agree (all zero step (omega arith)) leaves.1) (λ k s below. all (suc k) s (omega (arith, below))) leaves.2

pub steps_restored : (kept : SideFile) (old now : List (List ℕ)) (steps : List Step) → Gathered old kept → All (WritesKept kept) steps → LeavesOf steps old now → restored kept now ≡ record { pages = old; tail = 0 }
steps_restored kept old now steps gathered all leaves =
    restores_same kept old now (agree_steps kept old old now steps (agree_itself kept old (omega (arith, gathered.long))) all leaves)
    ∙ restored_itself (record { pages = old; tail = 0 }) kept refl gathered.long gathered.pages_there

step_done : (step : Step) (old : List (List ℕ)) → StepLeads step old (carry old step)
step_done (SetPages n) old = (_, refl)
step_done (Write n page) old = inr (page, refl)
step_done Sync old = refl

step_lost : (step : Step) (old : List (List ℕ)) → StepLeads step old old
step_lost (SetPages n) old = ([], sym (append-nil old))
step_lost (Write n page) old = inl refl
step_lost Sync old = refl

none_done : (old : List (List ℕ)) (steps : List Step) → LeavesOf steps old old
none_done old [] = refl
none_done old (step ∷ steps) = (old, step_lost step old, none_done old steps)

pub front_done : (old : List (List ℕ)) (steps : List Step) (k : ℕ) → LeavesOf steps old (carried old (take k steps))
front_done old steps zero = none_done old steps
front_done old [] (suc k) = refl
front_done old (step ∷ steps) (suc k) = (carry old step, step_done step old, front_done (carry old step) steps k)
