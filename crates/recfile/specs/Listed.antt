-- The text of a list while its entries come.
use Rattle.std.specs.Prelude.{◌≡◌, ◌+◌, List, [], ◌++◌, length}
use Rattle.std.specs.List.{flat_map}
use Rattle.std.specs.String.{string_bytes}
use Rattle.std.proofs.Common.{sym, ap, ◌∙◌, append-nil, append_assoc, length-append, arith}
use Rattle.std.proofs.lemmas.Grind.{flat_map-append}
use Rattle.rec_types.specs.declared.transaction.Entry.{Entry}
use Rattle.command_text.specs.Texts.{entry_line}
use Rattle.recfile.specs.declared.list_text.ListText.{ListText}

-- the lines of the entries came behind the text, and each was counted
abbrev pub SpellsEntries : ListText → List Entry → ListText → Type 0
SpellsEntries old es new = (string_bytes new.text ≡ string_bytes old.text ++ flat_map entry_line es) × (new.count ≡ old.count + length es)

pub no_entries : (text : ListText) → SpellsEntries text [] text
no_entries text = (sym (append-nil (string_bytes text.text)), omega arith)

pub entries_on : (a b c : ListText) (es fs : List Entry) → SpellsEntries a es b → SpellsEntries b fs c → SpellsEntries a (es ++ fs) c
entries_on a b c es fs one two = (
  two.0 ∙ ap (λ text. text ++ flat_map entry_line fs) one.0 ∙ append_assoc (string_bytes a.text) (flat_map entry_line es) (flat_map entry_line fs) ∙ ap (λ lines. string_bytes a.text ++ lines) (sym (flat_map-append entry_line es fs)),
  let more = length-append es fs in omega (arith, one.1, two.1, more),
)
