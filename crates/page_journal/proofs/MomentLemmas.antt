-- How a run of calls goes on.
use Rattle.std.proofs.Common.{inl, inr, ⊎_elim, ℕ, ◌≤◌, true, refl, subst, sym, ◌∙◌, arith}
use Rattle.std.proofs.lemmas.Bool.Decides.{nat_tests}
use Rattle.rec_types.specs.Table.{counted}
use Rattle.page_store.specs.Calls.{counted_times}
use Rattle.page_journal.specs.Files.{Files}
use Rattle.page_journal.specs.Steps.{Does, Stays}
use Rattle.page_journal.specs.Crash.{LeavesOnly}
use Rattle.page_journal.specs.declared.disk_state.DiskState.{Ghosts}

module _ {D : Type 0} (g : Ghosts D) where
  -- before the first call
  pub started : (P : Files → Type 0) (old : D) → ((c : Files) → g.left_since old (g.moment old) c → g.may_leave old c) → ((c : Files) → g.may_leave old c → P c) → LeavesOnly g P old old
  started P old only here = record { later = omega arith; each = λ c left. here c (only c left); before = λ t c le left. inl left }

  -- one call more, after which a crash leaves what has P
  pub goes_on : (P : Files → Type 0) (step : Files → Files → Type 0) (old mid new : D) → LeavesOnly g P old mid → Does g step mid new → ((c : Files) → g.may_leave new c → P c) → LeavesOnly g P old new
  goes_on P step old mid new so_far does here = record {
    later = omega (arith, so_far.later, does.later);
    each = λ c left. ⊎_elim (so_far.each c) (here c) (does.nothing_else (g.moment old) c so_far.later left);
    before = λ t c le left. ⊎_elim (so_far.before t c le) (λ now. inr (here c now)) (does.nothing_else t c (omega (arith, le, so_far.later)) left);
  }

  -- a run after another
  pub then_runs : (P : Files → Type 0) (old mid new : D) → LeavesOnly g P old mid → LeavesOnly g P mid new → LeavesOnly g P old new
  then_runs P old mid new first second = record {
    later = omega (arith, first.later, second.later);
    each = λ c left. ⊎_elim (first.each c) (λ p. p) (second.before (g.moment old) c first.later left);
    before = λ t c le left. ⊎_elim (first.before t c le) (λ p. inr p) (second.before t c (omega (arith, le, first.later)) left);
  }

  -- what says less
  pub weaker : (P Q : Files → Type 0) (old new : D) → ((c : Files) → P c → Q c) → LeavesOnly g P old new → LeavesOnly g Q old new
  weaker P Q old new implies run = record {
    later = run.later;
    each = λ c left. implies c (run.each c left);
    before = λ t c le left. ⊎_elim (λ was. inl was) (λ p. inr (implies c p)) (run.before t c le left);
  }

  -- no call at all, and calls that change nothing one after another
  pub stays_itself : (old : D) → Stays g old old
  stays_itself old = record { seen = refl; steady = refl; began = refl; crash = λ c left. (c, left, refl); later = omega arith; nothing_else = λ t c le left. inl left; keeps = λ t c le left. left }

  pub stays_then : ((disk : D) (t : ℕ) (c : Files) → t ≤ g.moment disk → g.may_leave disk c → g.left_since disk t c) → (old mid new : D) → Stays g old mid → Stays g mid new → Stays g old new
  stays_then counts old mid new first second = record {
    seen = second.seen ∙ first.seen;
    steady = second.steady ∙ first.steady;
    began = second.began ∙ first.began;
    crash = λ c left.
        let from = second.crash c left in
        let before = first.crash from.0 from.1 in
        (before.0, before.1, from.2 ∙ before.2);
    later = omega (arith, first.later, second.later);
    nothing_else = λ t c le left. ⊎_elim
        (λ was. ⊎_elim (λ long_ago. inl long_ago) (λ now.
        let from = first.crash c now in
        inl (subst (g.left_since old t) (sym from.2) (counts old t from.0 le from.1)))
        (first.nothing_else t c le was))
        (λ now. inr now)
        (second.nothing_else t c (omega (arith, le, first.later)) left);
    keeps = λ t c le left. second.keeps t c (omega (arith, le, first.later)) (first.keeps t c le left);
  }

-- numbers that are counted keep their order
counted_both : (a b : ℕ) → a ≤ b → counted a true ≤ counted b true
counted_both a b le = grind (arith, nat_tests)

-- three calls, one after another
pub three_moments : (a b c d : ℕ) → counted a true ≤ b → counted b true ≤ c → counted c true ≤ d → counted_times a 3 ≤ d
three_moments a b c d first second third =
    let one = counted_both (counted a true) b first in
    let two = counted_both (counted (counted a true) true) c (omega (arith, one, second)) in
    omega (arith, two, third)
