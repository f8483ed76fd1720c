-- The words of a line, and the command or the first fault that they say.
use Rattle.std.specs.Prelude.{ℕ, ◌+◌, ◌-◌, ◌*◌, ◌^◌, Bool, true, false, ◌&&◌, ◌==◌, nat_lt, nat_le, if◌then◌else◌, List, [], ◌∷◌, length, filter, Option, Some, None, ok_or, Result, Ok, Err, codes}
use Rattle.std.specs.List.{slice_split, list_all}
use Rattle.std.specs.Cmp.Lexicographic.{pointwise}
use Rattle.std.specs.Io.BufRead.{strip_last}
use Rattle.percent_encoding.specs.Percent.{percent_decode}
use Rattle.rec_types.specs.Key.{key_of}
use Rattle.rec_types.specs.Record.{record_of}
use Rattle.rec_types.specs.declared.transaction.TxId.{TxId}
use Rattle.command_text.specs.declared.command.Command.{Command}
use Rattle.command_text.specs.declared.command.Command.TheVariants as command
use Rattle.command_text.specs.declared.command.LineFault.{LineFault}
use Rattle.command_text.specs.declared.command.LineFault.TheVariants.{UnknownCommand, WordCount, BadNumber, KeyTooLong, NoRecordMark, RecordTooLong}

abbrev pub is_space : ℕ → Bool
is_space b = b == 32

-- a piece between spaces that has a byte
abbrev pub is_word : List ℕ → Bool
is_word [] = false
is_word (b ∷ bs) = true

-- the words of a line, between one or more spaces
abbrev pub words_of : List ℕ → List (List ℕ)
words_of line = filter is_word (slice_split is_space line)

-- what can be read, or its first fault
abbrev pub Read : Type 0 → Type 0
Read A = Result A LineFault

-- what was read, and then the rest, up to the first fault
infixl 10 ◌>>=◌
abbrev pub ◌>>=◌ : {A B : Type 0} → Read A → (A → Read B) → Read B
(Ok x) >>= f = f x
(Err fault) >>= f = Err fault

-- what was read, made into something else
abbrev pub read_as : {A B : Type 0} → (A → B) → Read A → Read B
read_as f (Ok x) = Ok (f x)
read_as f (Err fault) = Err fault

-- the same value, or this fault for any other
abbrev pub or_fault : {A E : Type 0} → LineFault → Result A E → Read A
or_fault fault (Ok x) = Ok x
or_fault fault (Err e) = Err fault

abbrev pub is_digit : ℕ → Bool
is_digit b = nat_le 48 b && nat_le b 57

-- the number that decimal digits stand for
unfoldable pub value_of : List ℕ → ℕ
value_of [] = 0
value_of (b ∷ bs) = (b - 48) * 10 ^ length bs + value_of bs

-- one or more digits, below 2 ^ 32
abbrev pub number_of : List ℕ → Option ℕ
number_of word =
    if is_word word && list_all is_digit word && nat_lt (value_of word) (2 ^ 32)
    then Some (value_of word) else None

abbrev pub number_at : List ℕ → Read ℕ
number_at word = ok_or (number_of word) BadNumber

-- a transaction's number
abbrev pub tx_from_word : List ℕ → Read TxId
tx_from_word word = read_as (λ n. record { 0 = n }) (number_at word)

-- a key: its escapes are read first. A word has a byte, and so has its key.
abbrev pub key_from_word : List ℕ → Read (List ℕ)
key_from_word word = or_fault KeyTooLong (key_of (percent_decode word))

-- a record: what follows the `=` with which its word begins
abbrev pub record_from_word : List ℕ → Read (List ℕ)
record_from_word [] = Err NoRecordMark
record_from_word (b ∷ bs) =
    if b == 61 then or_fault RecordTooLong (record_of (percent_decode bs)) else Err NoRecordMark

-- so many words, and no more
abbrev pub one_of : List (List ℕ) → Read (List ℕ)
one_of (a ∷ []) = Ok a
one_of words = Err WordCount

abbrev pub two_of : List (List ℕ) → Read (List ℕ × List ℕ)
two_of (a ∷ b ∷ []) = Ok (a, b)
two_of words = Err WordCount

abbrev pub three_of : List (List ℕ) → Read (List ℕ × List ℕ × List ℕ)
three_of (a ∷ b ∷ c ∷ []) = Ok (a, b, c)
three_of words = Err WordCount

-- the arguments of a command: none, a transaction, or one and a number, a key, or a key and a record; a key, or one and a number
abbrev pub alone : List (List ℕ) → Command → Read Command
alone [] c = Ok c
alone (word ∷ words) c = Err WordCount

abbrev pub tx_of_word : List (List ℕ) → Read TxId
tx_of_word words = one_of words >>= tx_from_word

abbrev pub tx_number_of : List (List ℕ) → Read (TxId × ℕ)
tx_number_of words = two_of words >>= λ w. tx_from_word w.0 >>= λ t. number_at w.1 >>= λ n. Ok (t, n)

abbrev pub tx_key_of : List (List ℕ) → Read (TxId × List ℕ)
tx_key_of words = two_of words >>= λ w. tx_from_word w.0 >>= λ t. key_from_word w.1 >>= λ k. Ok (t, k)

abbrev pub tx_key_record_of : List (List ℕ) → Read (TxId × List ℕ × List ℕ)
tx_key_record_of words =
    three_of words >>= λ w. tx_from_word w.0 >>= λ t. key_from_word w.1 >>= λ k. record_from_word w.2 >>= λ r.
    Ok (t, k, r)

abbrev pub key_of_word : List (List ℕ) → Read (List ℕ)
key_of_word words = one_of words >>= key_from_word

abbrev pub key_number_of : List (List ℕ) → Read (List ℕ × ℕ)
key_number_of words = two_of words >>= λ w. key_from_word w.0 >>= λ k. number_at w.1 >>= λ n. Ok (k, n)

-- whether the bytes are the text
abbrev pub is_text : List ℕ → List ℕ → Bool
is_text a b = pointwise ◌==◌ a b

-- A command on the file beside its transactions, on a transaction, or on a key of one, by its name and the words after it.
unfoldable pub file_command_of : List ℕ → List (List ℕ) → Read Command
file_command_of name words =
    if is_text name (codes "list") then alone words command.List
    else (if is_text name (codes "from") then read_as (λ a. command.From a.0 a.1) (key_number_of words)
    else (if is_text name (codes "upto") then read_as (λ a. command.Upto a.0 a.1) (key_number_of words)
    else (if is_text name (codes "committed") then read_as command.Committed (key_of_word words)
    else (if is_text name (codes "keys") then read_as command.Keys (tx_of_word words)
    else (if is_text name (codes "log") then alone words command.Log
    else Err UnknownCommand)))))

unfoldable pub tx_command_of : List ℕ → List (List ℕ) → Read Command
tx_command_of name words =
    if is_text name (codes "begin") then alone words command.Begin
    else (if is_text name (codes "save") then read_as command.Save (tx_of_word words)
    else (if is_text name (codes "release") then read_as (λ a. command.Release a.0 a.1) (tx_number_of words)
    else (if is_text name (codes "back") then read_as (λ a. command.Back a.0 a.1) (tx_number_of words)
    else (if is_text name (codes "resume") then read_as command.Resume (tx_of_word words)
    else (if is_text name (codes "abort") then read_as command.Abort (tx_of_word words)
    else (if is_text name (codes "commit") then read_as command.Commit (tx_of_word words)
    else file_command_of name words))))))

unfoldable pub command_of : List ℕ → List (List ℕ) → Read Command
command_of name words =
    if is_text name (codes "put") then read_as (λ a. command.Put a.0 a.1 a.2) (tx_key_record_of words)
    else (if is_text name (codes "del") then read_as (λ a. command.Del a.0 a.1) (tx_key_of words)
    else (if is_text name (codes "get") then read_as (λ a. command.Get a.0 a.1) (tx_key_of words)
    else (if is_text name (codes "claim") then read_as (λ a. command.Claim a.0 a.1) (tx_key_of words)
    else tx_command_of name words)))

abbrev pub begins_with_hash : List ℕ → Bool
begins_with_hash [] = false
begins_with_hash (b ∷ bs) = b == 35

-- a line without words, or whose first word begins with `#`, says nothing
abbrev pub line_of_words : List (List ℕ) → Read (Option Command)
line_of_words [] = Ok None
line_of_words (name ∷ words) =
    if begins_with_hash name then Ok None else read_as Some (command_of name words)

-- what a line says; one CR at its end doesn't count
unfoldable pub line_of : List ℕ → Read (Option Command)
line_of line = line_of_words (words_of (strip_last 13 line))
