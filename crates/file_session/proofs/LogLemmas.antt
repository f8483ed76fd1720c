-- What a log of commits says is what its units say, one after another.
use Rattle.std.proofs.Common.{◌≡◌, ℕ, ◌<◌, false, List, [], ◌∷◌, ◌++◌, length, map, Option, Some, None, Ok, Err, codes, refl, sym, ap, ◌∙◌, arith}
use Rattle.std.proofs.lemmas.Bool.Decides.{nat_tests}
use Rattle.std.specs.List.{All, flat_map, slice_split}
use Rattle.std.proofs.lemmas.List.{append_assoc, append-nil}
use Rattle.std.proofs.lemmas.List.Concat.{flat_map-append}
use Rattle.std.proofs.lemmas.List.Elements.{All-nil, All-cons}
use Rattle.std.proofs.lemmas.List.Splits.{length-slice_split, slice_split_at}
use Rattle.rec_types.specs.declared.transaction.TxId.{TxId}
use Rattle.commit_paper.specs.Text.{line_text, unit_text, log_text, IsLine, IsUnit, AreUnits}
use Rattle.command_text.specs.declared.command.Command.{Command}
use Rattle.command_text.specs.declared.command.Command.TheVariants as command
use Rattle.command_text.specs.Examples.{tx}
use Rattle.command_text.specs.Grammar.{Read, line_of}
use Rattle.command_text.specs.Script.{HasNoLf, is_lf, keep, without_empty_last, lines_of, entries_in, commands_of}
use Rattle.command_text.specs.Units.{Write, change_command, write_command, unit_commands}
use Rattle.file_session.specs.Overlaid.{write_said, writes_said, IsLogCommand, SayWrites, writes_in_turn}
use Rattle.file_session.proofs.ScriptCutLemmas.{first_stays}

no_lf : (line : List ℕ) → IsLine line → HasNoLf line
no_lf [] is = All-nil (λ b. is_lf b ≡ false)
no_lf (b ∷ bs) is = All-cons (λ b. is_lf b ≡ false) b bs (grind (arith, nat_tests, is.1)) (no_lf bs is.2)

line_first : (line rest : List ℕ) → IsLine line → lines_of (line_text line ++ rest) ≡ line ∷ lines_of rest
line_first line rest is =
    let some : 0 < length (slice_split is_lf rest) = omega (arith, length-slice_split is_lf rest) in
    ap lines_of (append_assoc line (10 ∷ []) rest)
    ∙ ap without_empty_last (slice_split_at is_lf line 10 rest (no_lf line is) refl)
    ∙ first_stays line (slice_split is_lf rest) some

pub unit_first : (unit : List (List ℕ)) (rest : List ℕ) → IsUnit unit → lines_of (unit_text unit ++ rest) ≡ unit ++ lines_of rest
unit_first [] rest is = absurd is
unit_first (line ∷ []) rest is =
    ap lines_of (append_assoc (line_text line) [] rest)
    ∙ line_first line rest is.0
unit_first (line ∷ next ∷ lines) rest is =
    ap lines_of (append_assoc (line_text line) (unit_text (next ∷ lines)) rest)
    ∙ line_first line (unit_text (next ∷ lines) ++ rest) is.0
    ∙ ap (λ (ls : List (List ℕ)). line ∷ ls) (unit_first (next ∷ lines) rest is.2)

keep_front : (said : Read (Option Command)) (front rest : List (Read Command)) → keep said (front ++ rest) ≡ keep said front ++ rest
keep_front (Ok None) front rest = refl
keep_front (Ok (Some c)) front rest = refl
keep_front (Err fault) front rest = refl

entries_front : (lines rest : List (List ℕ)) → entries_in (lines ++ rest) ≡ entries_in lines ++ entries_in rest
entries_front [] rest = refl
entries_front (line ∷ lines) rest =
    ap (keep (line_of line)) (entries_front lines rest)
    ∙ keep_front (line_of line) (entries_in lines) (entries_in rest)

pub log_said : (units : List (List (List ℕ))) → AreUnits units → commands_of (log_text units) ≡ flat_map entries_in units
log_said [] are = refl
log_said (unit ∷ units) are =
    ap entries_in (unit_first unit (log_text units) are.0)
    ∙ entries_front unit (lines_of (log_text units))
    ∙ ap (λ (es : List (Read Command)). entries_in unit ++ es) (log_said units are.1)

pub unit_said : (unit : List (List ℕ)) → IsUnit unit → commands_of (unit_text unit) ≡ entries_in unit
unit_said unit is = ap commands_of (sym (append-nil (unit_text unit))) ∙ log_said (unit ∷ []) (is, tt) ∙ append-nil (entries_in unit)

-- what the commands of a unit write
change_writes : (n : ℕ) (key : List ℕ) (value : Option (List ℕ)) → write_said (Ok (change_command n key value)) ≡ (key, value) ∷ []
change_writes n key (Some value) = refl
change_writes n key None = refl

those : (n : ℕ) (es : List Write) → writes_said (map (λ w. Ok (write_command n w)) es ++ Ok (command.Commit (tx n)) ∷ []) ≡ es
those n [] = refl
those n (w ∷ ws) = λ i. change_writes n w.0 w.1 i ++ those n ws i

pub unit_writes : (n : ℕ) (es : List Write) → writes_said (unit_commands n es) ≡ es
unit_writes n es = those n es

pub log_writes : (units : List (List (List ℕ))) (kept : List (List Write)) → SayWrites units kept → writes_said (flat_map entries_in units) ≡ writes_in_turn kept
log_writes [] [] say = refl
log_writes [] (es ∷ kept) say = absurd say
log_writes (unit ∷ units) [] say = absurd say
log_writes (unit ∷ units) (es ∷ kept) say =
    flat_map-append write_said (entries_in unit) (flat_map entries_in units)
    ∙ (λ i. (ap writes_said say.1 ∙ unit_writes say.0 es) i ++ log_writes units kept say.2 i)

change_logged : (n : ℕ) (key : List ℕ) (value : Option (List ℕ)) → IsLogCommand (Ok (change_command n key value))
change_logged n key (Some value) = tt
change_logged n key None = tt

those_logged : (n : ℕ) (es : List Write) → All IsLogCommand (map (λ w. Ok (write_command n w)) es ++ Ok (command.Commit (tx n)) ∷ [])
those_logged n [] = All-cons IsLogCommand (Ok (command.Commit (tx n))) [] tt (All-nil IsLogCommand)
those_logged n (w ∷ ws) = All-cons IsLogCommand (Ok (write_command n w)) (map (λ v. Ok (write_command n v)) ws ++ Ok (command.Commit (tx n)) ∷ []) (change_logged n w.0 w.1) (those_logged n ws)

pub unit_logged : (n : ℕ) (es : List Write) → All IsLogCommand (unit_commands n es)
unit_logged n es = All-cons IsLogCommand (Ok command.Begin) (map (λ w. Ok (write_command n w)) es ++ Ok (command.Commit (tx n)) ∷ []) tt (those_logged n es)

pub log_found : (units : List (List (List ℕ))) (kept : List (List Write)) → AreUnits units → SayWrites units kept → writes_said (commands_of (log_text units)) ≡ writes_in_turn kept
log_found units kept are say = ap writes_said (log_said units are) ∙ log_writes units kept say

-- what they don't say
abbrev head_or : List ℕ → ℕ
head_or [] = 0
head_or (b ∷ bs) = b

abbrev first_of : List Write → ℕ
first_of [] = 0
first_of (w ∷ ws) = head_or w.0

abbrev pub a_gone : Write
a_gone = (97 ∷ [], None)

abbrev pub b_gone : Write
b_gone = (98 ∷ [], None)

abbrev pub both : List (List Write)
both = (a_gone ∷ []) ∷ (b_gone ∷ []) ∷ []

abbrev pub newest : List Write
newest = b_gone ∷ a_gone ∷ []

not_newest : writes_in_turn both ≡ newest → ⊥
not_newest same =
    let heads : 97 ≡ 98 = ap first_of same in
    absurd (omega (arith, heads))

pub found_in_order : (units : List (List (List ℕ))) → AreUnits units → SayWrites units both → writes_said (commands_of (log_text units)) ≡ newest → ⊥
found_in_order units are say others = not_newest (sym (log_found units both are say) ∙ others)

pub open_unit : AreUnits ((codes "begin" ∷ codes "del 1 a" ∷ []) ∷ []) → ⊥
open_unit are = cc

pub no_rollback : (t : TxId) → IsLogCommand (Ok (command.Abort t)) → ⊥
no_rollback t is = is
