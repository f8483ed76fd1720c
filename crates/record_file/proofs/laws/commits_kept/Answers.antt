use Rattle.std.proofs.Common.{◌≡◌, ℕ, List, [], ◌∷◌, Option, Some, None, refl, sym, ap, ◌∙◌, arith}
use Rattle.std.specs.FinMap as maps
use Rattle.std.specs.FinMap.{get, get-empty}
use Rattle.std.specs.Cmp.Lexicographic.{slice_cmp}
use Rattle.std.specs.Ordering.{nat_cmp}
use Rattle.rec_types.specs.Contents.{Contents, set_to}
use Rattle.rec_types.specs.History.{Change, replay}
use Rattle.rec_types.proofs.ContentsLemmas.{get-set_to-here, get-set_to-there, set_to-twice}
use Rattle.record_file.specs.Abstract.{open_of}
use Rattle.tx_log.specs.Written.{own}
use Rattle.record_file.proofs.CommitLemmas.{overlay-again, writes-replay, ended-all, start_commits, all_kept, put_kept, begun_kept, last_commit}
use Rattle.record_file.proofs.laws.commits_kept.Goals as goal

abbrev first_byte : Option (List ℕ) → ℕ
first_byte (Some (b ∷ bs)) = b
first_byte w = 0

abbrev one_byte : ℕ → Option (List ℕ)
one_byte b = Some (b ∷ [])

two_apart : one_byte 121 ≡ one_byte 120 → ⊥
two_apart same = absurd (omega (arith, ap first_byte same))

abbrev a : List ℕ
a = 97 ∷ []

pub returns-clause-replayed : goal.returns-clause-replayed
returns-clause-replayed c = start_commits

pub returns-clause-each : goal.returns-clause-each
returns-clause-each c = all_kept

pub returns-clause-all_ended : goal.returns-clause-all_ended
returns-clause-all_ended c = λ f none. ap (λ (h : List Change). replay f.opening h) (ended-all (open_of f) f.history none)

pub returns-clause-again : goal.returns-clause-again
returns-clause-again c = overlay-again

pub returns-clause-some : goal.returns-clause-some
returns-clause-some c = writes-replay

pub returns-clause-written : goal.returns-clause-written
returns-clause-written c = refl

pub returns-clause-last_wins : goal.returns-clause-last_wins
returns-clause-last_wins c = λ m. set_to-twice m a (Some (120 ∷ [])) None

pub returns-clause-example : goal.returns-clause-example
returns-clause-example c = λ old new t kept start ran. put_kept old new t a (120 ∷ []) kept start ran

pub returns-clause-uncommitted : goal.returns-clause-uncommitted
returns-clause-uncommitted c = λ old new t kept ran. begun_kept old new t a (120 ∷ []) kept ran

-- over no records each list leaves another record at a key
pub returns-clause-others : goal.returns-clause-others
returns-clause-others c = λ f is keeps.
    let b : List ℕ = 98 ∷ [] in
    let first : Contents = set_to maps.empty a (Some (120 ∷ [])) in
    absurd (cc (sym (get-set_to-here first b (Some (121 ∷ [])))
    ∙ ap (λ (m : Contents). get m b) (keeps maps.empty ∙ ap (λ (h : List Change). replay maps.empty (own 1 h)) is)
    ∙ get-set_to-there maps.empty a (Some (120 ∷ [])) b refl
    ∙ get-empty (slice_cmp nat_cmp) b))

pub returns-clause-gone_back : goal.returns-clause-gone_back
returns-clause-gone_back c = λ f is keeps.
    let first : Contents = set_to maps.empty a (Some (120 ∷ [])) in
    two_apart (sym (get-set_to-here first a (Some (121 ∷ [])))
    ∙ ap (λ (m : Contents). get m a) (keeps maps.empty ∙ ap (λ (h : List Change). replay maps.empty (own 1 h)) is)
    ∙ get-set_to-here maps.empty a (Some (120 ∷ [])))

pub returns-clause-newest_first : goal.returns-clause-newest_first
returns-clause-newest_first c = λ f is keeps.
    two_apart (sym (get-set_to-here (set_to maps.empty a (Some (120 ∷ []))) a (Some (121 ∷ [])))
    ∙ sym (ap (λ (m : Contents). get m a) (keeps maps.empty ∙ ap (λ (h : List Change). replay maps.empty (own 1 h)) is))
    ∙ get-set_to-here (set_to maps.empty a (Some (121 ∷ []))) a (Some (120 ∷ [])))

pub returns-clause-other_order : goal.returns-clause-other_order
returns-clause-other_order c = λ old new t u ran.
    two_apart (sym (last_commit old new t u a (120 ∷ []) (121 ∷ []) None (Some (120 ∷ [])) ((a, Some (121 ∷ [])) ∷ (a, Some (120 ∷ [])) ∷ []) maps.empty ran)
    ∙ get-set_to-here (set_to maps.empty a (Some (121 ∷ []))) a (Some (120 ∷ [])))
