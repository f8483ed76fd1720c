-- What the lines of a unit say.
use Rattle.std.proofs.Common.{◌≡◌, ℕ, ◌^◌, ◌<◌, Bool, true, false, cond, ◌&&◌, nat_lt, List, [], ◌∷◌, ◌++◌, length, map, filter, Option, Some, None, Ok, ok_or, codes, refl, ap, ◌∙◌, arith}
use Rattle.std.specs.Fmt.{decimal}
use Rattle.std.specs.List.{All, list_all, flat_map}
use Rattle.std.proofs.lemmas.Bool.Decides.{nat_tests}
use Rattle.std.proofs.lemmas.Fmt.{decimal_is_IsNumeral, digits_decimal, digits_value-decimal}
use Rattle.std.proofs.lemmas.List.{append-nil}
use Rattle.std.proofs.lemmas.List.Concat.{flat_map-append}
use Rattle.std.proofs.lemmas.List.Folds.{list_all-append}
use Rattle.std.proofs.lemmas.List.Elements.{All-cons, All-head, All-tail}
use Rattle.std.proofs.lemmas.List.Splits.{slice_split_at, slice_split_none}
use Rattle.std.proofs.lemmas.Str.Parse.{IsDigitsTest, WeighsDigits, IsNumeralModel, numerals_by_weight}
use Rattle.rec_types.specs.Key.{key_of}
use Rattle.rec_types.specs.Record.{record_of}
use Rattle.rec_types.specs.declared.transaction.TxId.{TxId}
use Rattle.commit_paper.specs.Text.{closes, line_text, unit_text, IsLine, IsUnit}
use Rattle.command_text.specs.declared.command.Command.{Command}
use Rattle.command_text.specs.declared.command.Command.TheVariants as command
use Rattle.command_text.specs.declared.command.LineFault.TheVariants.{BadNumber, KeyTooLong, RecordTooLong}
use Rattle.command_text.specs.Dump.{CanBePut}
use Rattle.command_text.specs.Examples.{tx}
use Rattle.command_text.specs.Grammar.{Read, ◌>>=◌, read_as, or_fault, is_space, is_word, is_digit, value_of, number_of, tx_from_word, words_of, key_from_word, record_from_word, command_of, tx_command_of, line_of_words, line_of}
use Rattle.command_text.specs.Script.{commands_of}
use Rattle.command_text.specs.Texts.{is_plain, escaped}
use Rattle.command_text.specs.Units.{Write, write_text, write_line, commit_text, unit_lines, write_command, unit_commands, CanBeWritten, change_text, change_command}
use Rattle.command_text.proofs.EscapeLaws.{read_back, plain}
use Rattle.command_text.proofs.DumpLemmas.{in_line, each, no_space, all_in_line, key_word, line-of, begin_says, entries_line}

-- digits by the grammar are decimal digits
digits_test : IsDigitsTest (λ ds. list_all is_digit ds ≡ true)
digits_test = record {
  empty = refl;
  parts = λ c cs e. (grind (arith, nat_tests, e), grind (arith, nat_tests, e));
  more = λ c cs k e. grind (arith, nat_tests, k, e);
}

weighs : WeighsDigits value_of
unfolding value_of
weighs = record { empty = refl; more = λ c cs k. refl }

model : IsNumeralModel (λ ds. list_all is_digit ds ≡ true) value_of
model = numerals_by_weight (λ ds. list_all is_digit ds ≡ true) digits_test value_of weighs

decimal_digits : (n : ℕ) → n < 2 ^ 32 → list_all is_digit (decimal n) ≡ true
decimal_digits n small = digits_decimal model n (omega (arith, small))

-- a number is read again
number_read : (n : ℕ) → n < 2 ^ 32 → number_of (decimal n) ≡ Some n
number_read n small =
    let value : value_of (decimal n) ≡ n = digits_value-decimal model n (omega (arith, small)) in
    let some = (decimal_is_IsNumeral n (omega (arith, small))).0.0 in
    at (decimal n) (decimal_digits n small) value some
  where
    at : (word : List ℕ) → list_all is_digit word ≡ true → value_of word ≡ n → 0 < length word → number_of word ≡ Some n
    at [] digits value some = absurd (omega (arith, some))
    at (b ∷ bs) digits value some =
        let less : nat_lt (value_of (b ∷ bs)) (2 ^ 32) ≡ true = grind (arith, nat_tests, value, small) in
        (λ i. cond (digits i && less i) (Some (value i)) None)

tx_read : (n : ℕ) → n < 2 ^ 32 → tx_from_word (decimal n) ≡ Ok (tx n)
tx_read n small = ap (λ (o : Option ℕ). read_as (λ k. record { 0 = k }) (ok_or o BadNumber)) (number_read n small)

digit_plain : (b : ℕ) → is_digit b ≡ true → is_plain b ≡ true
digit_plain b is = grind (arith, nat_tests, is)

two : (a b : Bool) → a && b ≡ true → (a ≡ true) × (b ≡ true)
two true b is = (refl, is)
two false b is = absurd (cc)

all_plain : (xs : List ℕ) → list_all is_digit xs ≡ true → list_all is_plain xs ≡ true
all_plain [] all = refl
all_plain (b ∷ bs) all =
    let parts = two (is_digit b) (list_all is_digit bs) all in
    λ i. digit_plain b parts.0 i && all_plain bs parts.1 i

number_plain : (n : ℕ) → n < 2 ^ 32 → list_all is_plain (decimal n) ≡ true
number_plain n small = all_plain (decimal n) (decimal_digits n small)

number_word : (n : ℕ) → n < 2 ^ 32 → is_word (decimal n) ≡ true
number_word n small = at (decimal n) (decimal_is_IsNumeral n (omega (arith, small))).0.0
  where
    at : (word : List ℕ) → 0 < length word → is_word word ≡ true
    at [] some = absurd (omega (arith, some))
    at (b ∷ bs) some = refl

spaceless : (word : List ℕ) → list_all is_plain word ≡ true → All (λ b. is_space b ≡ false) word
spaceless word all = each is_plain (λ b. is_space b ≡ false) no_space word all

-- the words of a line that puts a record, and of one that takes a key out
put_words : (num key value : List ℕ) → list_all is_plain num ≡ true → list_all is_plain key ≡ true → list_all is_plain value ≡ true → is_word num ≡ true → is_word key ≡ true → words_of (codes "put " ++ (num ++ 32 ∷ (key ++ 32 ∷ 61 ∷ value))) ≡ codes "put" ∷ num ∷ key ∷ (61 ∷ value) ∷ []
put_words num key value num_plain key_plain value_plain word key_is =
    ap (filter is_word) (
    slice_split_at is_space (codes "put") 32 (num ++ 32 ∷ (key ++ 32 ∷ 61 ∷ value)) (spaceless (codes "put") refl) refl
    ∙ ap (λ (ws : List (List ℕ)). codes "put" ∷ ws) (
    slice_split_at is_space num 32 (key ++ 32 ∷ 61 ∷ value) (spaceless num num_plain) refl
    ∙ ap (λ (ws : List (List ℕ)). num ∷ ws) (
    slice_split_at is_space key 32 (61 ∷ value) (spaceless key key_plain) refl
    ∙ ap (λ (ws : List (List ℕ)). key ∷ ws) (slice_split_none is_space (61 ∷ value) (All-cons (λ b. is_space b ≡ false) 61 value refl (spaceless value value_plain)))
    )
    )
    )
    ∙ ap (λ (t : Bool). codes "put" ∷ cond t (num ∷ cond (is_word key) (key ∷ (61 ∷ value) ∷ []) ((61 ∷ value) ∷ [])) (cond (is_word key) (key ∷ (61 ∷ value) ∷ []) ((61 ∷ value) ∷ []))) word
    ∙ ap (λ (t : Bool). codes "put" ∷ num ∷ cond t (key ∷ (61 ∷ value) ∷ []) ((61 ∷ value) ∷ [])) key_is

del_words : (num key : List ℕ) → list_all is_plain num ≡ true → list_all is_plain key ≡ true → is_word num ≡ true → is_word key ≡ true → words_of (codes "del " ++ (num ++ 32 ∷ key)) ≡ codes "del" ∷ num ∷ key ∷ []
del_words num key num_plain key_plain word key_is =
    ap (filter is_word) (
    slice_split_at is_space (codes "del") 32 (num ++ 32 ∷ key) (spaceless (codes "del") refl) refl
    ∙ ap (λ (ws : List (List ℕ)). codes "del" ∷ ws) (
    slice_split_at is_space num 32 key (spaceless num num_plain) refl
    ∙ ap (λ (ws : List (List ℕ)). num ∷ ws) (slice_split_none is_space key (spaceless key key_plain))
    )
    )
    ∙ ap (λ (t : Bool). codes "del" ∷ cond t (num ∷ cond (is_word key) (key ∷ []) []) (cond (is_word key) (key ∷ []) [])) word
    ∙ ap (λ (t : Bool). codes "del" ∷ num ∷ cond t (key ∷ []) []) key_is

commit_words : (num : List ℕ) → list_all is_plain num ≡ true → is_word num ≡ true → words_of (codes "commit " ++ num) ≡ codes "commit" ∷ num ∷ []
commit_words num num_plain word =
    ap (filter is_word) (
    slice_split_at is_space (codes "commit") 32 num (spaceless (codes "commit") refl) refl
    ∙ ap (λ (ws : List (List ℕ)). codes "commit" ∷ ws) (slice_split_none is_space num (spaceless num num_plain))
    )
    ∙ ap (λ (t : Bool). codes "commit" ∷ cond t (num ∷ []) []) word

-- what those words say
put_said : (n : ℕ) (num key value k r : List ℕ) → tx_from_word num ≡ Ok (tx n) → key_from_word key ≡ Ok k → record_from_word (61 ∷ value) ≡ Ok r → line_of_words (codes "put" ∷ num ∷ key ∷ (61 ∷ value) ∷ []) ≡ Ok (Some (command.Put (tx n) k r))
unfolding command_of
put_said n num key value k r tx_is key_is value_is = λ i. read_as Some (read_as (λ (a : TxId × List ℕ × List ℕ). command.Put a.0 a.1 a.2) (tx_is i >>= λ (t : TxId). key_is i >>= λ (x : List ℕ). value_is i >>= λ (y : List ℕ). Ok (t, x, y)))

del_said : (n : ℕ) (num key k : List ℕ) → tx_from_word num ≡ Ok (tx n) → key_from_word key ≡ Ok k → line_of_words (codes "del" ∷ num ∷ key ∷ []) ≡ Ok (Some (command.Del (tx n) k))
unfolding command_of
del_said n num key k tx_is key_is = λ i. read_as Some (read_as (λ (a : TxId × List ℕ). command.Del a.0 a.1) (tx_is i >>= λ (t : TxId). key_is i >>= λ (x : List ℕ). Ok (t, x)))

commit_said : (n : ℕ) (num : List ℕ) → tx_from_word num ≡ Ok (tx n) → line_of_words (codes "commit" ∷ num ∷ []) ≡ Ok (Some (command.Commit (tx n)))
unfolding command_of tx_command_of
commit_said n num tx_is = λ i. read_as Some (read_as command.Commit (tx_is i))

key_reads : (key value : List ℕ) → CanBePut (key, value) → key_from_word (escaped key) ≡ Ok key
key_reads key value can = ap (λ (bytes : List ℕ). or_fault KeyTooLong (key_of bytes)) (read_back key can.key_bytes) ∙ ap (or_fault KeyTooLong) can.key

value_reads : (key value : List ℕ) → CanBePut (key, value) → record_from_word (61 ∷ escaped value) ≡ Ok value
value_reads key value can = ap (λ (bytes : List ℕ). or_fault RecordTooLong (record_of bytes)) (read_back value can.record_bytes) ∙ ap (or_fault RecordTooLong) can.value

-- a line of plain bytes and spaces is one of a unit
pub is_line : (xs : List ℕ) → list_all in_line xs ≡ true → IsLine xs
is_line [] all = tt
is_line (b ∷ bs) all =
    let parts = two (in_line b) (list_all in_line bs) all in
    (grind (arith, nat_tests, parts.0), grind (arith, nat_tests, parts.0), is_line bs parts.1)

module _ (n : ℕ) (small : n < 2 ^ 32) where
  num_in_line : list_all in_line (decimal n) ≡ true
  num_in_line = all_in_line (decimal n) (number_plain n small)

  change_in_line : (key : List ℕ) (value : Option (List ℕ)) → CanBeWritten (key, value) → list_all in_line (change_text n key value) ≡ true
  change_in_line key (Some value) can =
      let k = all_in_line (escaped key) (plain key can.key_bytes) in
      let v = all_in_line (escaped value) (plain value can.record_bytes) in
      let rest : list_all in_line (32 ∷ (escaped key ++ 32 ∷ 61 ∷ escaped value)) ≡ true = list_all-append in_line (escaped key) (32 ∷ 61 ∷ escaped value) ∙ (λ i. k i && v i) in
      list_all-append in_line (decimal n) (32 ∷ (escaped key ++ 32 ∷ 61 ∷ escaped value)) ∙ (λ i. num_in_line i && rest i)
  change_in_line key None can =
      let k : list_all in_line (32 ∷ escaped key) ≡ true = all_in_line (escaped key) (plain key can.key_bytes) in
      list_all-append in_line (decimal n) (32 ∷ escaped key) ∙ (λ i. num_in_line i && k i)

  commit_in_line : list_all in_line (commit_text n) ≡ true
  commit_in_line = num_in_line

  -- a line says its write
  change_says : (key : List ℕ) (value : Option (List ℕ)) → CanBeWritten (key, value) → line_of (change_text n key value) ≡ Ok (Some (change_command n key value))
  change_says key (Some value) can =
      line-of (change_text n key (Some value)) (change_in_line key (Some value) can)
      ∙ ap line_of_words (put_words (decimal n) (escaped key) (escaped value) (number_plain n small) (plain key can.key_bytes) (plain value can.record_bytes) (number_word n small) (key_word key can.key))
      ∙ put_said n (decimal n) (escaped key) (escaped value) key value (tx_read n small) (key_reads key value can) (value_reads key value can)
  change_says key None can =
      line-of (change_text n key None) (change_in_line key None can)
      ∙ ap line_of_words (del_words (decimal n) (escaped key) (number_plain n small) (plain key can.key_bytes) (number_word n small) (key_word key can.key))
      ∙ del_said n (decimal n) (escaped key) key (tx_read n small) (key_reads key [] can)

  commit_says : line_of (commit_text n) ≡ Ok (Some (command.Commit (tx n)))
  commit_says =
      line-of (commit_text n) commit_in_line
      ∙ ap line_of_words (commit_words (decimal n) (number_plain n small) (number_word n small))
      ∙ commit_said n (decimal n) (tx_read n small)

  -- and so do all of them
  writes_said : (writes : List Write) → All CanBeWritten writes → commands_of (unit_text (map (write_text n) writes ++ commit_text n ∷ [])) ≡ map (λ w. Ok (write_command n w)) writes ++ Ok (command.Commit (tx n)) ∷ []
  writes_said [] can = entries_line (commit_text n) [] (command.Commit (tx n)) commit_in_line commit_says
  writes_said (w ∷ ws) can =
      let here = All-head CanBeWritten w ws can in
      entries_line (write_text n w) (unit_text (map (write_text n) ws ++ commit_text n ∷ [])) (write_command n w) (change_in_line w.0 w.1 here) (change_says w.0 w.1 here)
      ∙ ap (λ (es : List (Read Command)). Ok (write_command n w) ∷ es) (writes_said ws (All-tail CanBeWritten w ws can))

  pub unit_said : (writes : List Write) → All CanBeWritten writes → commands_of (unit_text (unit_lines n writes)) ≡ unit_commands n writes
  unit_said writes can =
      entries_line (codes "begin") (unit_text (map (write_text n) writes ++ commit_text n ∷ [])) command.Begin refl begin_says
      ∙ ap (λ (es : List (Read Command)). Ok command.Begin ∷ es) (writes_said writes can)

  -- no line but the last ends a unit
  opens : (key : List ℕ) (value : Option (List ℕ)) → closes (change_text n key value) ≡ false
  opens key (Some value) = refl
  opens key None = refl

  unit_cons : (line : List ℕ) (rest : List (List ℕ)) → IsLine line → closes line ≡ false → IsUnit rest → IsUnit (line ∷ rest)
  unit_cons line [] is opens_not unit = absurd unit
  unit_cons line (next ∷ rest) is opens_not unit = (is, opens_not, unit)

  writes_unit : (writes : List Write) → All CanBeWritten writes → IsUnit (map (write_text n) writes ++ commit_text n ∷ [])
  writes_unit [] can = (is_line (commit_text n) commit_in_line, refl)
  writes_unit (w ∷ ws) can =
      let here = All-head CanBeWritten w ws can in
      unit_cons (write_text n w) (map (write_text n) ws ++ commit_text n ∷ []) (is_line (write_text n w) (change_in_line w.0 w.1 here)) (opens w.0 w.1) (writes_unit ws (All-tail CanBeWritten w ws can))

  pub unit_is : (writes : List Write) → All CanBeWritten writes → IsUnit (unit_lines n writes)
  unit_is writes can = unit_cons (codes "begin") (map (write_text n) writes ++ commit_text n ∷ []) (is_line (codes "begin") refl) refl (writes_unit writes can)

-- the text of a unit, put together in another order
lines_map : (n : ℕ) (ws : List Write) → flat_map line_text (map (write_text n) ws) ≡ flat_map (write_line n) ws
lines_map n [] = refl
lines_map n (w ∷ ws) = ap (λ (k : List ℕ). write_line n w ++ k) (lines_map n ws)

pub unit_text_is : (n : ℕ) (ws : List Write) → unit_text (unit_lines n ws) ≡ line_text (codes "begin") ++ (flat_map (write_line n) ws ++ line_text (commit_text n))
unit_text_is n ws =
    ap (λ (k : List ℕ). line_text (codes "begin") ++ k)
    (flat_map-append line_text (map (write_text n) ws) (commit_text n ∷ []) ∙ (λ i. lines_map n ws i ++ append-nil (line_text (commit_text n)) i))
