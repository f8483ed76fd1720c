use Rattle.std.proofs.Common.{◌≡◌, ℕ, Bool, true, false, cond, not, List, [], ◌∷◌, Some, None, is_some, ap, ◌∙◌}
use Rattle.std.specs.FinMap as maps
use Rattle.std.specs.FinMap.{get-empty, get-insert}
use Rattle.std.specs.Cmp.Lexicographic.{nat_list_cmp_total}
use Rattle.rec_types.specs.Contents.{Contents, same_key}
use Rattle.rec_types.specs.History.{Change, replay}
use Rattle.record_file.specs.Abstract.{File, open_of}
use Rattle.recfile.specs.Ending.{rest_of}
use Rattle.recfile.specs.Examples.{change, four_changes}
use Rattle.recfile.proofs.laws.sessions_by_example.Goals as goal

kept_changes : (f : ℕ → Bool) → f 1 ≡ true → f 2 ≡ false → f 3 ≡ true → rest_of f four_changes ≡ change 2 98 (Some (121 ∷ [])) true ∷ change 1 99 None false ∷ []
kept_changes f first second third = λ i.
    let last = cond (not (third i)) (change 3 100 (Some (122 ∷ [])) true ∷ []) [] in
    let later = cond (not (second i)) (change 2 98 (Some (121 ∷ [])) true ∷ change 1 99 None false ∷ last) (change 1 99 None false ∷ last) in
    cond (not (first i)) (change 1 97 (Some (120 ∷ [])) true ∷ later) later

left_records : (f : ℕ → Bool) (m : Contents) (h : List Change) → m ≡ maps.empty → h ≡ four_changes → f 1 ≡ true → f 2 ≡ false → f 3 ≡ true
    → replay m (rest_of f h) ≡ replay maps.empty (change 2 98 (Some (121 ∷ [])) true ∷ change 1 99 None false ∷ [])
left_records f m h none four first second third =
    (λ i. replay (none i) (rest_of f (four i))) ∙ ap (replay maps.empty) (kept_changes f first second third)

-- transaction 2 alone put a record
abbrev one_record : Contents
one_record = replay maps.empty (change 2 98 (Some (121 ∷ [])) true ∷ change 1 99 None false ∷ [])

at_key : (k : List ℕ) → maps.get one_record k ≡ cond (same_key k (98 ∷ [])) (Some (121 ∷ [])) None
at_key k = get-insert nat_list_cmp_total maps.empty (98 ∷ []) (121 ∷ []) k ∙ ap (cond (same_key k (98 ∷ [])) (Some (121 ∷ []))) (get-empty _ k)

pub returns-clause-open : goal.returns-clause-open
returns-clause-open c = λ manner left leaves held holds old mid new answer ended t session.
    ap (λ (f : File). open_of f t) session.ending.rest ∙ ap is_some (get-empty _ t)

pub returns-clause-gone : goal.returns-clause-gone
returns-clause-gone c = λ manner left leaves held holds old mid new answer ended session sound none four first second third.
    let are = session.records sound ∙ left_records (open_of mid.file) mid.file.opening mid.file.history none four first second third in
    (ap (λ (m : Contents). maps.get m (97 ∷ [])) are ∙ at_key (97 ∷ []), ap (λ (m : Contents). maps.get m (98 ∷ [])) are ∙ at_key (98 ∷ []))
