-- A word without `%` stands for itself.
use Rattle.std.proofs.Common.{◌≡◌, ◌≢◌, ℕ, Bool, true, false, ◌||◌, ◌==◌, List, [], ◌∷◌, Ok, Err, refl, sym, ap, ◌∙◌, arith}
use Rattle.std.specs.List.{list_any}
use Rattle.std.proofs.lemmas.Bool.Decides.{nat_tests}
use Rattle.percent_encoding.specs.Percent.{percent_decode}
use Rattle.percent_encoding.proofs.PercentLemmas.{percent_decode-nil, percent_decode_not_percent}
use Rattle.rec_types.specs.declared.transaction.TxId.{TxId}
use Rattle.command_text.specs.declared.command.Command.TheVariants as commands
use Rattle.command_text.specs.Grammar.{Read, read_as, ◌>>=◌, three_of, tx_from_word, key_from_word, record_from_word, tx_key_record_of}
use Rattle.command_text.specs.Words.{is_percent, key_from, record_from}

neither : (a b : Bool) → (a || b) ≡ false → (a ≡ false) × (b ≡ false)
neither true b is = absurd (cc)
neither false b is = (refl, is)

other : (b : ℕ) → (b == 37) ≡ false → b ≢ 37
other b is = grind (arith, nat_tests, is)

-- a word without `%` stands for its own bytes
pub stands_for_itself : (word : List ℕ) → list_any is_percent word ≡ false → percent_decode word ≡ word
stands_for_itself [] none = percent_decode-nil
stands_for_itself (b ∷ bs) none =
    let parts = neither (is_percent b) (list_any is_percent bs) none in
    percent_decode_not_percent b bs (other b parts.0) ∙ ap (λ (rest : List ℕ). b ∷ rest) (stands_for_itself bs parts.1)

-- its key is that of the decoded bytes
pub plain_key : (word : List ℕ) → list_any is_percent word ≡ false → key_from word ≡ key_from (percent_decode word)
plain_key word none = ap (λ (bytes : List ℕ). key_from bytes) (sym (stands_for_itself word none))

-- its record is that of the decoded bytes
pub plain_record : (word : List ℕ) → list_any is_percent word ≡ false → record_from word ≡ record_from (percent_decode word)
plain_record word none = ap (λ (bytes : List ℕ). record_from bytes) (sym (stands_for_itself word none))

made : (t : TxId) (k : List ℕ) (r : Read (List ℕ)) → read_as (λ (a : TxId × List ℕ × List ℕ). commands.Put a.0 a.1 a.2) (r >>= λ bytes. Ok (t, k, bytes)) ≡ read_as (commands.Put t k) r
made t k (Ok bytes) = refl
made t k (Err fault) = refl

-- the record is what a put still has to read once its words, its transaction and its key are read
pub put_by_record : (words : List (List ℕ)) (w : List ℕ × List ℕ × List ℕ) (t : TxId) (k : List ℕ) (r : Read (List ℕ)) → three_of words ≡ Ok w → tx_from_word w.0 ≡ Ok t → key_from_word w.1 ≡ Ok k → record_from_word w.2 ≡ r → read_as (λ (a : TxId × List ℕ × List ℕ). commands.Put a.0 a.1 a.2) (tx_key_record_of words) ≡ read_as (commands.Put t k) r
put_by_record words w t k r is tx key rec =
    let make = read_as (λ (a : TxId × List ℕ × List ℕ). commands.Put a.0 a.1 a.2) in
    let read = ap (λ (x : Read (List ℕ × List ℕ × List ℕ)). make (x >>= λ v. tx_from_word v.0 >>= λ u. key_from_word v.1 >>= λ q. record_from_word v.2 >>= λ bytes. Ok (u, q, bytes))) is
    ∙ ap (λ (x : Read TxId). make (x >>= λ u. key_from_word w.1 >>= λ q. record_from_word w.2 >>= λ bytes. Ok (u, q, bytes))) tx
    ∙ ap (λ (x : Read (List ℕ)). make (x >>= λ q. record_from_word w.2 >>= λ bytes. Ok (t, q, bytes))) key
    ∙ ap (λ (x : Read (List ℕ)). make (x >>= λ bytes. Ok (t, k, bytes))) rec in
    read ∙ made t k r
