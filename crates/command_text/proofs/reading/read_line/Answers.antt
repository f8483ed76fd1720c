use Rattle.std.proofs.Common.{◌≡◌, ◌∷◌, true, false, Some, codes, sym, ap, ◌∙◌, arith, rules}
use Rattle.std.specs.Io.BufRead.{strip_last}
use Rattle.std.proofs.lemmas.Grind.{common_steps}
use Rattle.command_text.specs.Grammar.{is_text, read_as, words_of, begins_with_hash, line_of}
use Rattle.command_text.proofs.WordLemmas.{named, said_put, said_del, said_get, said_other}
use Rattle.command_text.proofs.reading.read_line.Goals as goal

pub returns-in_default : goal.returns-in_default
unfolding line_of
returns-in_default c = grind (arith, common_steps)

pub returns-then-starts_with : goal.returns-then-starts_with
unfolding line_of
returns-then-starts_with c = grind (arith, common_steps)

pub returns-then-eq : goal.returns-then-eq
returns-then-eq c =
    let is : words_of (strip_last 13 c.args.line.now) ≡ c.in-Some.name.now ∷ words_of c.in-Some.rest.now = grind (arith, common_steps) in
    let hash : begins_with_hash c.in-Some.name.now ≡ false = grind (arith, common_steps) in
    let put : is_text c.in-Some.name.now (codes "put") ≡ true = search rules in
    c.put.ensures ∙ ap (read_as Some) (sym (said_put _ _ put)) ∙ sym (named c.args.line.now _ _ is hash)

pub returns-then-eq-2 : goal.returns-then-eq-2
returns-then-eq-2 c =
    let is : words_of (strip_last 13 c.args.line.now) ≡ c.in-Some.name.now ∷ words_of c.in-Some.rest.now = grind (arith, common_steps) in
    let hash : begins_with_hash c.in-Some.name.now ≡ false = grind (arith, common_steps) in
    let put : is_text c.in-Some.name.now (codes "put") ≡ false = search rules in
    let del : is_text c.in-Some.name.now (codes "del") ≡ true = search rules in
    c.del.ensures ∙ ap (read_as Some) (sym (said_del _ _ put del)) ∙ sym (named c.args.line.now _ _ is hash)

pub returns-then-eq-3 : goal.returns-then-eq-3
returns-then-eq-3 c =
    let is : words_of (strip_last 13 c.args.line.now) ≡ c.in-Some.name.now ∷ words_of c.in-Some.rest.now = grind (arith, common_steps) in
    let hash : begins_with_hash c.in-Some.name.now ≡ false = grind (arith, common_steps) in
    let put : is_text c.in-Some.name.now (codes "put") ≡ false = search rules in
    let del : is_text c.in-Some.name.now (codes "del") ≡ false = search rules in
    let get : is_text c.in-Some.name.now (codes "get") ≡ true = search rules in
    c.get.ensures ∙ ap (read_as Some) (sym (said_get _ _ put del get)) ∙ sym (named c.args.line.now _ _ is hash)

pub returns : goal.returns
returns c =
    let is : words_of (strip_last 13 c.args.line.now) ≡ c.in-Some.name.now ∷ words_of c.in-Some.rest.now = grind (arith, common_steps) in
    let hash : begins_with_hash c.in-Some.name.now ≡ false = grind (arith, common_steps) in
    let put : is_text c.in-Some.name.now (codes "put") ≡ false = search rules in
    let del : is_text c.in-Some.name.now (codes "del") ≡ false = search rules in
    let get : is_text c.in-Some.name.now (codes "get") ≡ false = search rules in
    c.other_command.ensures ∙ ap (read_as Some) (sym (said_other _ _ put del get)) ∙ sym (named c.args.line.now _ _ is hash)
