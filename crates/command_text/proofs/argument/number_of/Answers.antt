use Rattle.std.proofs.Common.{◌≡◌, ◌-◌, ◌*◌, ◌+◌, ◌<◌, ℕ, get_or, length, take, sym, ap, subst, ◌∙◌, arith}
use Rattle.std.proofs.lemmas.Bool.Decides.{nat_tests}
use Rattle.std.specs.List.{list_all}
use Rattle.command_text.specs.Grammar.{is_digit}
use Rattle.command_text.proofs.NumberLemmas.{Reads, reads_digit, digits_more, reads_large, reads_all}
use Rattle.command_text.proofs.argument.number_of.Goals as goal

pub returns-then-number-from : goal.returns-then-number-from
returns-then-number-from c =
    let word = c.args.word.now in
    let i = c.loop-byte.byte-index in
    let lt : i < length word = omega arith in
    let told = c.in-Some.ensures in
    let digit : c.from.result ≡ get_or word i 0 - 48 = c.from.ensures ∙ told.1 in
    sym (reads_large word (i + 1) (c.loop-byte.number * 10 + c.from.result) (reads_digit word i c.loop-byte.number c.from.result lt digit c.loop-byte.invariant.reads) (omega (arith, c.if-number-from.true, c.from-in-loop-byte.ensures)))

pub loop-byte-preserved : goal.loop-byte-preserved
loop-byte-preserved c =
    let word = c.args.word.now in
    let i = c.loop-byte.byte-index in
    let lt : i < length word = omega arith in
    let told = c.in-Some.ensures in
    let digit : c.from.result ≡ get_or word i 0 - 48 = c.from.ensures ∙ told.1 in
    record {
      reads = reads_digit word i c.loop-byte.number c.from.result lt digit c.loop-byte.invariant.reads;
      digits = digits_more word i lt c.loop-byte.invariant.digits told.0;
      small = omega (arith, c.if-number-from.false, c.from-in-loop-byte.ensures);
    }

-- every byte was a digit
pub returns : goal.returns
returns c =
    let word = c.args.word.now in
    let some : 0 < length word = grind (arith, nat_tests) in
    let all : c.loop-byte.byte-index ≡ length word = omega arith in
    sym (reads_all word c.loop-byte.number some
    (subst (λ (i : ℕ). Reads word i c.loop-byte.number) all c.loop-byte.invariant.reads)
    (ap (λ (i : ℕ). list_all is_digit (take i word)) (sym all) ∙ c.loop-byte.invariant.digits)
    c.loop-byte.invariant.small)
