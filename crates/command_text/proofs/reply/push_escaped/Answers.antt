use Rattle.std.proofs.Common.{refl, sym, ◌∙◌, arith}
use Rattle.percent_encoding.specs.AsciiSet.{should_percent_encode}
use Rattle.command_text.proofs.EscapeLemmas.{percent_encode-escaped, unescaped, none_escaped, where_ok}
use Rattle.command_text.proofs.reply.push_escaped.Goals as goal

-- the bytes, escaped by the set, are the bytes escaped
pub returns : goal.returns
unfolding should_percent_encode
returns c =
    let text = c.percent_encode.ensures.text ∙ percent_encode-escaped _ refl c.args.bytes.now (λ i. omega (arith, c.type_inv.bytes i)) in
    rw (← text) c.append_to.ensures.ok

-- they are the bytes themselves where none needs an escape
pub returns-then-needs_no_escape : goal.returns-then-needs_no_escape
returns-then-needs_no_escape c =
    let none = none_escaped c.needs_no_escape.result _ c.needs_no_escape.ensures c.if-needs_no_escape.true in
    let text = c.ascii_str.ensures ∙ sym (unescaped c.args.bytes.now none) in
    rw (← text) (where_ok c.push_str.result _ _ _ c.push_str.ensures.bytes)
