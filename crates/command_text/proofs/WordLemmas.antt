-- The words of a line from its first one on.
use Rattle.std.proofs.Common.{◌≡◌, ℕ, ◌+◌, ◌-◌, ◌<◌, ◌≤◌, zero, suc, Bool, true, false, not, cond, List, [], ◌∷◌, length, take, drop, get_or, Option, Some, None, Ok, codes, if◌then◌else◌, refl, sym, ap, subst, ◌∙◌, arith}
use Rattle.std.specs.Option.{unwrap_or}
use Rattle.std.specs.List.{slice_split, onto_first, position, filter}
use Rattle.std.proofs.lemmas.List.Quantifiers.{position-Some}
use Rattle.std.proofs.lemmas.List.{drop_all}
use Rattle.std.specs.Io.BufRead.{strip_last}
use Rattle.command_text.specs.Grammar.{is_text, tx_key_of, tx_key_record_of, tx_command_of, is_space, is_word, words_of, begins_with_hash, read_as, command_of, line_of_words, line_of}
use Rattle.rec_types.specs.declared.transaction.TxId.{TxId}
use Rattle.command_text.specs.declared.command.Command.TheVariants as commands
use Rattle.command_text.specs.Words.{StartsWord}
use Rattle.command_text.proofs.TextCutLemmas.{cut_some, cut_none, rest_cut, all_fail}

not_true : (b : Bool) → not b ≡ true → b ≡ false
not_true true is = absurd (cc)
not_true false is = refl

not_false : (b : Bool) → not b ≡ false → b ≡ true
not_false true is = refl
not_false false is = absurd (cc)

-- a space before a line doesn't count
words-space : (b : ℕ) (bs : List ℕ) → is_space b ≡ true → words_of (b ∷ bs) ≡ words_of bs
words-space b bs is = ap (λ (t : Bool). filter is_word (cond t ([] ∷ slice_split is_space bs) (onto_first b (slice_split is_space bs)))) is

words_skip : (xs : List ℕ) (i : ℕ) → i ≤ length xs → ((k : ℕ) → k < i → is_space (get_or xs k 0) ≡ true) → words_of (drop i xs) ≡ words_of xs
words_skip xs zero le spaces = refl
words_skip [] (suc i) le spaces = refl
words_skip (b ∷ bs) (suc i) le spaces = words_skip bs i (omega arith) (λ k lt. spaces (suc k) (omega arith)) ∙ sym (words-space b bs (spaces 0 (omega arith)))

starts_at : (xs : List ℕ) (i : ℕ) → i < length xs → is_space (get_or xs i 0) ≡ false → StartsWord (drop i xs)
starts_at [] i lt is = absurd (omega arith)
starts_at (b ∷ bs) zero lt is = is
starts_at (b ∷ bs) (suc i) lt is = starts_at bs i (omega arith) is

abbrev no_space : ℕ → Bool
no_space b = not (is_space b)

-- spaces in front change no word, and a word begins behind them
pub skip_some : (xs : List ℕ) (i : ℕ) → position no_space xs ≡ Some i → (words_of (take (length xs - i) (drop i xs)) ≡ words_of xs) × StartsWord (take (length xs - i) (drop i xs))
skip_some xs i is =
    let found = position-Some no_space xs i 0 is in
    let le : i ≤ length xs = omega (arith, found.0) in (
      ap words_of (rest_cut xs i) ∙ words_skip xs i le (λ k lt. not_false (is_space (get_or xs k 0)) (found.2 k lt)),
      subst StartsWord (sym (rest_cut xs i)) (starts_at xs i found.0 (not_true (is_space (get_or xs i 0)) found.1)),
    )

-- a text of spaces has no word
pub skip_none : (xs : List ℕ) → position no_space xs ≡ None → words_of (take (length xs - length xs) (drop (length xs) xs)) ≡ words_of xs
skip_none xs is = ap words_of (rest_cut xs (length xs)) ∙ words_skip xs (length xs) (omega arith) (λ k lt. not_false (is_space (get_or xs k 0)) (all_fail no_space xs is k lt))

-- a text from its first byte on that is no space, and from its end where there is none
pub skipped : (xs : List ℕ) (at : Option ℕ) → position no_space xs ≡ at → let i = unwrap_or at (length xs) in (words_of (take (length xs - i) (drop i xs)) ≡ words_of xs) × StartsWord (take (length xs - i) (drop i xs))
skipped xs (Some i) is = skip_some xs i is
skipped xs None is = (skip_none xs is, subst StartsWord (sym (rest_cut xs (length xs) ∙ drop_all (length xs) xs (omega arith))) tt)

taken_word : (xs : List ℕ) (i : ℕ) → StartsWord xs → i < length xs → position is_space xs ≡ Some i → is_word (take i xs) ≡ true
taken_word [] i starts lt is = absurd (omega arith)
taken_word (b ∷ bs) zero starts lt is = absurd (cc (sym starts ∙ (position-Some is_space (b ∷ bs) 0 0 is).1))
taken_word (b ∷ bs) (suc i) starts lt is = refl

-- the word up to a space
pub word_some : (xs : List ℕ) (i : ℕ) → StartsWord xs → position is_space xs ≡ Some i → words_of xs ≡ take i xs ∷ words_of (take (length xs - (i + 1)) (drop (i + 1) xs))
word_some xs i starts is =
    let cut = cut_some is_space xs i is in
    ap (filter is_word) cut.1
    ∙ ap (λ (t : Bool). cond t (take i xs ∷ words_of (drop (i + 1) xs)) (words_of (drop (i + 1) xs))) (taken_word xs i starts cut.0 is)
    ∙ ap (λ (rest : List ℕ). take i xs ∷ words_of rest) (sym (rest_cut xs (i + 1)))

whole_word : (xs : List ℕ) → 0 < length xs → is_word xs ≡ true
whole_word [] some = absurd (omega arith)
whole_word (b ∷ bs) some = refl

-- the last word of a line
pub word_none : (xs : List ℕ) → 0 < length xs → position is_space xs ≡ None → words_of xs ≡ xs ∷ words_of (take (length xs - length xs) (drop (length xs) xs))
word_none xs some is =
    ap (filter is_word) (cut_none is_space xs is)
    ∙ ap (λ (t : Bool). cond t (xs ∷ []) []) (whole_word xs some)
    ∙ ap (λ (rest : List ℕ). xs ∷ words_of rest) (sym (rest_cut xs (length xs) ∙ drop_all (length xs) xs (omega arith)))

-- a line whose first word isn't a comment's says the command of that name
pub named : (line name : List ℕ) (words : List (List ℕ)) → words_of (strip_last 13 line) ≡ name ∷ words → begins_with_hash name ≡ false → line_of line ≡ read_as Some (command_of name words)
unfolding line_of
named line name words is hash = ap line_of_words is ∙ ap (λ (b : Bool). if b then Ok None else read_as Some (command_of name words)) hash

-- the command of each of the names that most lines have, and of the others
pub said_put : (name : List ℕ) (words : List (List ℕ)) → is_text name (codes "put") ≡ true → command_of name words ≡ read_as (λ (a : TxId × List ℕ × List ℕ). commands.Put a.0 a.1 a.2) (tx_key_record_of words)
unfolding command_of
said_put name words put = simp (put)

pub said_del : (name : List ℕ) (words : List (List ℕ)) → is_text name (codes "put") ≡ false → is_text name (codes "del") ≡ true → command_of name words ≡ read_as (λ (a : TxId × List ℕ). commands.Del a.0 a.1) (tx_key_of words)
unfolding command_of
said_del name words put del = simp (put, del)

pub said_get : (name : List ℕ) (words : List (List ℕ)) → is_text name (codes "put") ≡ false → is_text name (codes "del") ≡ false → is_text name (codes "get") ≡ true → command_of name words ≡ read_as (λ (a : TxId × List ℕ). commands.Get a.0 a.1) (tx_key_of words)
unfolding command_of
said_get name words put del get = simp (put, del, get)

pub said_other : (name : List ℕ) (words : List (List ℕ)) → is_text name (codes "put") ≡ false → is_text name (codes "del") ≡ false → is_text name (codes "get") ≡ false → command_of name words ≡ (if is_text name (codes "claim") then read_as (λ (a : TxId × List ℕ). commands.Claim a.0 a.1) (tx_key_of words) else tx_command_of name words)
unfolding command_of
said_other name words put del get = simp (put, del, get)
