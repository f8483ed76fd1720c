-- What the lines of a dump say.
use Rattle.std.proofs.Common.{◌≡◌, ℕ, ◌-◌, ◌<◌, Bool, true, false, cond, ◌&&◌, nat_le, nat_lt, ◌==◌, List, [], ◌∷◌, ◌++◌, length, map, filter, take, get_or, Ok, Option, Some, codes, refl, ap, ◌∙◌, arith}
use Rattle.std.specs.List.{All, list_all, slice_split, flat_map}
use Rattle.std.specs.Io.BufRead.{strip_last}
use Rattle.std.proofs.lemmas.Bool.Decides.{nat_tests}
use Rattle.std.proofs.lemmas.List.{append_assoc}
use Rattle.std.proofs.lemmas.List.Folds.{list_all-append}
use Rattle.std.proofs.lemmas.List.Elements.{All-nil, All-cons, All-head, All-tail, All-get_or}
use Rattle.std.proofs.lemmas.List.Splits.{slice_split_at, slice_split_none, length-slice_split}
use Rattle.percent_encoding.specs.Percent.{percent_encode_byte}
use Rattle.rec_types.specs.Key.{key_of}
use Rattle.rec_types.specs.Record.{record_of}
use Rattle.rec_types.specs.declared.transaction.TxId.{TxId}
use Rattle.command_text.specs.declared.command.Command.{Command}
use Rattle.command_text.specs.declared.command.Command.TheVariants as command
use Rattle.command_text.specs.declared.command.LineFault.TheVariants.{KeyTooLong, RecordTooLong}
use Rattle.command_text.specs.Dump.{put_text, put_line, dump_text, put_of, dump_commands, CanBePut}
use Rattle.command_text.specs.Examples.{tx}
use Rattle.command_text.specs.Grammar.{Read, ◌>>=◌, read_as, or_fault, is_space, is_word, words_of, key_from_word, record_from_word, command_of, value_of, tx_command_of, line_of_words, line_of}
use Rattle.command_text.specs.Script.{is_lf, without_empty_last, lines_of, keep, entries_in, commands_of}
use Rattle.command_text.specs.Texts.{is_escaped, is_plain, escaped_byte, escaped, line}
use Rattle.command_text.proofs.EscapeLaws.{read_back, plain}

-- the bytes of a line: plain ones and spaces
abbrev pub in_line : ℕ → Bool
in_line b = nat_le 32 b && nat_le b 126

plain_in_line : (b : ℕ) → is_plain b ≡ true → in_line b ≡ true
plain_in_line b is = grind (arith, nat_tests, is)

no_lf : (b : ℕ) → in_line b ≡ true → is_lf b ≡ false
no_lf b is = grind (arith, nat_tests, is)

no_cr : (b : ℕ) → in_line b ≡ true → (b == 13) ≡ false
no_cr b is = grind (arith, nat_tests, is)

pub no_space : (b : ℕ) → is_plain b ≡ true → is_space b ≡ false
no_space b is = grind (arith, nat_tests, is)

both : (a b : Bool) → a && b ≡ true → (a ≡ true) × (b ≡ true)
both true b is = (refl, is)
both false b is = absurd (cc)

-- what holds of each byte that passes a test
pub each : (p : ℕ → Bool) (P : ℕ → Type 0) → ((b : ℕ) → p b ≡ true → P b) → (xs : List ℕ) → list_all p xs ≡ true → All P xs
each p P holds [] all = All-nil P
each p P holds (b ∷ bs) all =
    let parts = both (p b) (list_all p bs) all in
    All-cons P b bs (holds b parts.0) (each p P holds bs parts.1)

pub all_in_line : (xs : List ℕ) → list_all is_plain xs ≡ true → list_all in_line xs ≡ true
all_in_line [] all = refl
all_in_line (b ∷ bs) all =
    let parts = both (is_plain b) (list_all is_plain bs) all in
    λ i. plain_in_line b parts.0 i && all_in_line bs parts.1 i

-- no CR is taken off a line that has none
unstripped : (xs : List ℕ) → All (λ b. (b == 13) ≡ false) xs → strip_last 13 xs ≡ xs
unstripped [] none = refl
unstripped (b ∷ bs) none = at (nat_lt 0 (length (b ∷ bs))) (get_or (b ∷ bs) (length (b ∷ bs) - 1) 0 == 13) (All-get_or (λ x. (x == 13) ≡ false) (b ∷ bs) (length (b ∷ bs) - 1) 0 (omega arith) none)
  where
    at : (some last : Bool) → last ≡ false → cond (some && last) (take (length (b ∷ bs) - 1) (b ∷ bs)) (b ∷ bs) ≡ b ∷ bs
    at true true is = absurd (cc)
    at true false is = refl
    at false last is = refl

-- a line without LF, and what follows it
first_stays : (text : List ℕ) (rest : List (List ℕ)) → 0 < length rest → without_empty_last (text ∷ rest) ≡ text ∷ without_empty_last rest
first_stays text [] some = absurd (omega arith)
first_stays text (next ∷ rest) some = refl

lines_line : (text rest : List ℕ) → list_all in_line text ≡ true → lines_of (line text ++ rest) ≡ text ∷ lines_of rest
lines_line text rest all =
    ap lines_of (append_assoc text (10 ∷ []) rest)
    ∙ ap without_empty_last (slice_split_at is_lf text 10 rest (each in_line (λ b. is_lf b ≡ false) no_lf text all) refl)
    ∙ first_stays text (slice_split is_lf rest) (omega (arith, length-slice_split is_lf rest))

-- what an escape begins with has a byte, and so has what is written of a key
some_escaped : (b : ℕ) → is_word (escaped_byte b) ≡ true
unfolding percent_encode_byte
some_escaped b = at (is_escaped b)
  where
    at : (t : Bool) → is_word (cond t (percent_encode_byte b) (b ∷ [])) ≡ true
    at true = refl
    at false = refl

word_append : (xs ys : List ℕ) → is_word xs ≡ true → is_word (xs ++ ys) ≡ true
word_append [] ys is = absurd (cc)
word_append (x ∷ xs) ys is = refl

pub key_word : (key : List ℕ) → key_of key ≡ Ok key → is_word (escaped key) ≡ true
unfolding escaped
key_word [] is = absurd (cc)
key_word (b ∷ bs) is = word_append (escaped_byte b) (flat_map escaped_byte bs) (some_escaped b)

-- the same text, its last part put together first
put_text_is : (key value : List ℕ) → codes "put 1 " ++ key ++ codes " =" ++ value ≡ codes "put 1 " ++ (key ++ 32 ∷ 61 ∷ value)
put_text_is key value = append_assoc (codes "put 1 " ++ key) (codes " =") value

-- the words of a line that puts a record
put_words : (key value : List ℕ) → list_all is_plain key ≡ true → list_all is_plain value ≡ true → is_word key ≡ true → words_of (codes "put 1 " ++ key ++ codes " =" ++ value) ≡ codes "put" ∷ codes "1" ∷ key ∷ (61 ∷ value) ∷ []
put_words key value key_plain value_plain word =
    ap words_of (put_text_is key value)
    ∙ ap (filter is_word) (
    slice_split_at is_space (codes "put") 32 (codes "1" ++ 32 ∷ key ++ 32 ∷ 61 ∷ value) (each is_plain (λ b. is_space b ≡ false) no_space (codes "put") refl) refl
    ∙ ap (λ (ws : List (List ℕ)). codes "put" ∷ ws) (
    slice_split_at is_space (codes "1") 32 (key ++ 32 ∷ 61 ∷ value) (each is_plain (λ b. is_space b ≡ false) no_space (codes "1") refl) refl
    ∙ ap (λ (ws : List (List ℕ)). codes "1" ∷ ws) (
    slice_split_at is_space key 32 (61 ∷ value) (each is_plain (λ b. is_space b ≡ false) no_space key key_plain) refl
    ∙ ap (λ (ws : List (List ℕ)). key ∷ ws) (slice_split_none is_space (61 ∷ value) (All-cons (λ b. is_space b ≡ false) 61 value refl (each is_plain (λ b. is_space b ≡ false) no_space value value_plain)))
    )
    )
    )
    ∙ ap (λ (t : Bool). codes "put" ∷ codes "1" ∷ cond t (key ∷ (61 ∷ value) ∷ []) ((61 ∷ value) ∷ [])) word

-- what those words say
put_said : (key value : List ℕ) (k r : List ℕ) → key_from_word key ≡ Ok k → record_from_word (61 ∷ value) ≡ Ok r → line_of_words (codes "put" ∷ codes "1" ∷ key ∷ (61 ∷ value) ∷ []) ≡ Ok (Some (command.Put (tx 1) k r))
unfolding command_of value_of
put_said key value k r key_is value_is = λ i. read_as Some (read_as (λ (a : TxId × List ℕ × List ℕ). command.Put a.0 a.1 a.2) (key_is i >>= λ (x : List ℕ). value_is i >>= λ (y : List ℕ). Ok (tx 1, x, y)))

pub line-of : (text : List ℕ) → list_all in_line text ≡ true → line_of text ≡ line_of_words (words_of text)
unfolding line_of
line-of text all = ap (λ (xs : List ℕ). line_of_words (words_of xs)) (unstripped text (each in_line (λ b. (b == 13) ≡ false) no_cr text all))

put_in_line : (e : List ℕ × List ℕ) → CanBePut e → list_all in_line (put_text e) ≡ true
put_in_line e can =
    let key = all_in_line (escaped e.0) (plain e.0 can.key_bytes) in
    let value = all_in_line (escaped e.1) (plain e.1 can.record_bytes) in
    ap (list_all in_line) (put_text_is (escaped e.0) (escaped e.1)) ∙ list_all-append in_line (escaped e.0) (32 ∷ 61 ∷ escaped e.1) ∙ (λ i. key i && value i)

-- a line that puts a record says so
pub put_line_says : (e : List ℕ × List ℕ) → CanBePut e → line_of (put_text e) ≡ Ok (Some (command.Put (tx 1) e.0 e.1))
put_line_says e can =
    let key : key_from_word (escaped e.0) ≡ Ok e.0 = ap (λ (bytes : List ℕ). or_fault KeyTooLong (key_of bytes)) (read_back e.0 can.key_bytes) ∙ ap (or_fault KeyTooLong) can.key in
    let value : record_from_word (61 ∷ escaped e.1) ≡ Ok e.1 = ap (λ (bytes : List ℕ). or_fault RecordTooLong (record_of bytes)) (read_back e.1 can.record_bytes) ∙ ap (or_fault RecordTooLong) can.value in
    line-of (put_text e) (put_in_line e can)
    ∙ ap line_of_words (put_words (escaped e.0) (escaped e.1) (plain e.0 can.key_bytes) (plain e.1 can.record_bytes) (key_word e.0 can.key))
    ∙ put_said (escaped e.0) (escaped e.1) e.0 e.1 key value

pub begin_says : line_of (codes "begin") ≡ Ok (Some command.Begin)
unfolding line_of command_of tx_command_of
begin_says = refl

commit_says : line_of (codes "commit 1") ≡ Ok (Some (command.Commit (tx 1)))
unfolding line_of command_of tx_command_of value_of
commit_says = refl

-- a line that says a command, and what follows it
pub entries_line : (text rest : List ℕ) (c : Command) → list_all in_line text ≡ true → line_of text ≡ Ok (Some c) → commands_of (line text ++ rest) ≡ Ok c ∷ commands_of rest
entries_line text rest c all says =
    ap entries_in (lines_line text rest all)
    ∙ ap (λ (l : Read (Option Command)). keep l (commands_of rest)) says

last_line : commands_of (line (codes "commit 1")) ≡ Ok (command.Commit (tx 1)) ∷ []
last_line = ap (λ (l : Read (Option Command)). keep l []) commit_says

puts_said : (records : List (List ℕ × List ℕ)) (rest : List ℕ) → All CanBePut records → commands_of (flat_map put_line records ++ rest) ≡ map put_of records ++ commands_of rest
puts_said [] rest can = refl
puts_said (e ∷ es) rest can =
    let here = All-head CanBePut e es can in
    ap commands_of (append_assoc (put_line e) (flat_map put_line es) rest)
    ∙ entries_line (put_text e) (flat_map put_line es ++ rest) (command.Put (tx 1) e.0 e.1) (put_in_line e here) (put_line_says e here)
    ∙ ap (λ (es : List (Read Command)). put_of e ∷ es) (puts_said es rest (All-tail CanBePut e es can))

-- a dump says its commands
pub dump_said : (records : List (List ℕ × List ℕ)) → All CanBePut records → commands_of (dump_text records) ≡ dump_commands records
dump_said records can =
    entries_line (codes "begin") (flat_map put_line records ++ line (codes "commit 1")) command.Begin refl begin_says
    ∙ ap (λ (es : List (Read Command)). Ok command.Begin ∷ es) (puts_said records (line (codes "commit 1")) can ∙ ap (λ (es : List (Read Command)). map put_of records ++ es) last_line)
