use Rattle.std.proofs.Common.{◌≡◌, Some, Ok, sym, ap, ◌∙◌, rules}
use Rattle.command_text.specs.Grammar.{words_of, three_of, tx_from_word, key_from_word, record_from_word, read_as, or_fault}
use Rattle.command_text.specs.Words.{record_from}
use Rattle.percent_encoding.specs.Percent.{percent_decode}
use Rattle.command_text.specs.declared.command.LineFault.TheVariants.{RecordTooLong}
use Rattle.command_text.proofs.PlainLemmas.{plain_record, put_by_record}
use Rattle.command_text.proofs.reading.put.Goals as goal

-- bytes without `%` stand for themselves
pub returns-in-Ok : goal.returns-in-Ok
returns-in-Ok c =
    let words : three_of (words_of c.args.rest.now) ≡ Ok (c.in_ok-first.first.now, c.in_ok-first.second.now, c.in_ok-first.third.now) = search rules in
    let tx : tx_from_word c.in_ok-first.first.now ≡ Ok c.in_ok-tx.tx = search rules in
    let key : key_from_word c.in_ok-first.second.now ≡ Ok c.in_ok-key.key = search rules in
    let mark : record_from_word c.in_ok-first.third.now ≡ record_from (percent_decode c.in_ok-escaped.escaped.now) = search rules in
    let made : or_fault RecordTooLong c.new.result ≡ Ok c.in-Ok.record = ap (or_fault RecordTooLong) c.in-Ok.is in
    let plain = sym (plain_record c.in_ok-escaped.escaped.now (sym c.has_percent.ensures ∙ c.if-has_percent.false)) in
    let whole = mark ∙ plain ∙ ap (or_fault RecordTooLong) (sym c.new.ensures) ∙ made in
    sym (ap (read_as Some) (put_by_record _ _ _ _ _ words tx key whole))

pub returns-in-Err : goal.returns-in-Err
returns-in-Err c =
    let words : three_of (words_of c.args.rest.now) ≡ Ok (c.in_ok-first.first.now, c.in_ok-first.second.now, c.in_ok-first.third.now) = search rules in
    let tx : tx_from_word c.in_ok-first.first.now ≡ Ok c.in_ok-tx.tx = search rules in
    let key : key_from_word c.in_ok-first.second.now ≡ Ok c.in_ok-key.key = search rules in
    let mark : record_from_word c.in_ok-first.third.now ≡ record_from (percent_decode c.in_ok-escaped.escaped.now) = search rules in
    let made = ap (or_fault RecordTooLong) c.in-Err.is in
    let plain = sym (plain_record c.in_ok-escaped.escaped.now (sym c.has_percent.ensures ∙ c.if-has_percent.false)) in
    let whole = mark ∙ plain ∙ ap (or_fault RecordTooLong) (sym c.new.ensures) ∙ made in
    sym (ap (read_as Some) (put_by_record _ _ _ _ _ words tx key whole))
