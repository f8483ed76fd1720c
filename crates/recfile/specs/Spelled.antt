-- How the text of a dump is written piece by piece.
use Rattle.std.specs.Prelude.{◌≡◌, ℕ, List, [], ◌∷◌, ◌++◌, codes, Option, Some, None}
use Rattle.std.specs.List.{flat_map}
use Rattle.std.specs.Io.KnownBytes.{Appends}
use Rattle.std.proofs.Common.{refl, sym, ap, subst, ◌∙◌, append-nil, append_assoc}
use Rattle.std.proofs.KnownBytes.{Appends-nil, Appends-trans}
use Rattle.std.proofs.lemmas.Grind.{flat_map-append}
use Rattle.std.proofs.lemmas.List.Elements.{All-nil, All-append}
use Rattle.command_text.specs.Dump.{CanBePut, put_line}
use Rattle.command_text.specs.Texts.{line}
use Rattle.record_texts.specs.Forms.{record_line}
use Rattle.record_texts.specs.declared.form.Form.{Form}
use Rattle.recfile.specs.Dumped.{AreSaidIn}
use Rattle.recfile.specs.declared.dump.DumpFault.{DumpFault}
use Rattle.recfile.specs.declared.dump.DumpFault.TheVariants.{File, Write}
use Rattle.recfile.specs.declared.dump_text.DumpText.{DumpText}
use Rattle.file_session.specs.declared.file_fault.FileFault.TheVariants.{Memory}

-- what stands before the lines of the records, these lines, and what stands behind them
abbrev pub head_in : Option Form → List ℕ
head_in None = line (codes "begin")
head_in (Some form) = []

abbrev pub line_in : Option Form → List ℕ × List ℕ → List ℕ
line_in None e = put_line e
line_in (Some form) e = record_line form e

abbrev pub lines_in : Option Form → List (List ℕ × List ℕ) → List ℕ
lines_in form es = flat_map (line_in form) es

abbrev pub foot_in : Option Form → List ℕ
foot_in None = line (codes "commit 1")
foot_in (Some form) = []

-- behind what waited the lines of records were spelled: some of it is written now, and the rest waits
pub record SpellsLines (form : Option Form) (waited : List ℕ) (held : Option (List ℕ)) (es : List (List ℕ × List ℕ)) (waits : List ℕ) (holds : Option (List ℕ)) : Type 0 where
  pub sent : List ℕ
  pub written : Appends held holds sent
  pub text : sent ++ waits ≡ waited ++ lines_in form es
  pub said : AreSaidIn form es

-- a front of the text is written, and not all of it
pub record PartWritten (held holds : Option (List ℕ)) (text : List ℕ) : Type 0 where
  pub sent : List ℕ
  pub next : ℕ
  pub rest : List ℕ
  pub written : Appends held holds sent
  pub whole : text ≡ sent ++ next ∷ rest

-- it was the memory for the text that was refused, or the writer that failed
abbrev pub IsOfText : DumpFault → Type 0
IsOfText (File fault) = fault ≡ Memory
IsOfText Write = Unit {0}

-- the text of a dump took the records, or stopped at one of them
abbrev pub Took : DumpText → Option (List ℕ) → List (List ℕ × List ℕ) → DumpText → Option (List ℕ) → Type 0
Took old held es new holds = (new.form ≡ old.form) × SpellsLines old.form old.waiting.items held es new.waiting.items holds

abbrev pub Stops : DumpText → Option (List ℕ) → List (List ℕ × List ℕ) → DumpFault → Option (List ℕ) → Type 0
Stops old held es fault holds = IsOfText fault × PartWritten held holds (old.waiting.items ++ lines_in old.form es)

abbrev pub Records : Type 0
Records = List (List ℕ × List ℕ)

pub said_none : (form : Option Form) → AreSaidIn form []
said_none None = All-nil CanBePut
said_none (Some form) = tt

pub said_on : (form : Option Form) (es fs : Records) → AreSaidIn form es → AreSaidIn form fs → AreSaidIn form (es ++ fs)
said_on None es fs first second = All-append CanBePut es fs first second
said_on (Some form) es fs first second = tt

pub spells_none : (form : Option Form) (waits : List ℕ) (held : Option (List ℕ)) → SpellsLines form waits held [] waits held
spells_none form waits held = record {
  sent = [];
  written = Appends-nil held;
  text = sym (append-nil waits);
  said = said_none form;
}

-- the text behind what was sent
joined : (sent sent2 waits last waited lines lines2 : List ℕ) → sent ++ waits ≡ waited ++ lines → sent2 ++ last ≡ waits ++ lines2 → (sent ++ sent2) ++ last ≡ waited ++ (lines ++ lines2)
joined sent sent2 waits last waited lines lines2 first second =
    append_assoc sent sent2 last ∙ ap (λ (t : List ℕ). sent ++ t) second ∙ sym (append_assoc sent waits lines2) ∙ ap (λ (t : List ℕ). t ++ lines2) first ∙ append_assoc waited lines lines2

lines_of_both : (form : Option Form) (waited : List ℕ) (es fs : Records) → waited ++ (lines_in form es ++ lines_in form fs) ≡ waited ++ lines_in form (es ++ fs)
lines_of_both form waited es fs = ap (λ (t : List ℕ). waited ++ t) (sym (flat_map-append (line_in form) es fs))

pub spells_on : (form : Option Form) (waited waits last : List ℕ) (a b c : Option (List ℕ)) (es fs : Records) → SpellsLines form waited a es waits b → SpellsLines form waits b fs last c → SpellsLines form waited a (es ++ fs) last c
spells_on form waited waits last a b c es fs one two = record {
  sent = one.sent ++ two.sent;
  written = Appends-trans a b c one.sent two.sent one.written two.written;
  text = joined one.sent two.sent waits last waited (lines_in form es) (lines_in form fs) one.text two.text ∙ lines_of_both form waited es fs;
  said = said_on form es fs one.said two.said;
}

pub part_on : (form : Option Form) (waited waits : List ℕ) (a b c : Option (List ℕ)) (es fs : Records) → SpellsLines form waited a es waits b → PartWritten b c (waits ++ lines_in form fs) → PartWritten a c (waited ++ lines_in form (es ++ fs))
part_on form waited waits a b c es fs one two = record {
  sent = one.sent ++ two.sent;
  next = two.next;
  rest = two.rest;
  written = Appends-trans a b c one.sent two.sent one.written two.written;
  whole = sym (joined one.sent two.sent waits (two.next ∷ two.rest) waited (lines_in form es) (lines_in form fs) one.text (sym two.whole) ∙ lines_of_both form waited es fs);
}

-- a front of a text is one of a longer text
pub part_longer : (held holds : Option (List ℕ)) (text more : List ℕ) → PartWritten held holds text → PartWritten held holds (text ++ more)
part_longer held holds text more part = record {
  sent = part.sent;
  next = part.next;
  rest = part.rest ++ more;
  written = part.written;
  whole = ap (λ (t : List ℕ). t ++ more) part.whole ∙ append_assoc part.sent (part.next ∷ part.rest) more;
}

pub part_before : (form : Option Form) (waited : List ℕ) (held holds : Option (List ℕ)) (es fs : Records) → PartWritten held holds (waited ++ lines_in form es) → PartWritten held holds (waited ++ lines_in form (es ++ fs))
part_before form waited held holds es fs part =
    subst (PartWritten held holds) (append_assoc waited (lines_in form es) (lines_in form fs) ∙ lines_of_both form waited es fs) (part_longer held holds (waited ++ lines_in form es) (lines_in form fs) part)

pub took_none : (text : DumpText) (held : Option (List ℕ)) → Took text held [] text held
took_none text held = (refl, spells_none text.form text.waiting.items held)

pub took_on : (a b c : DumpText) (p q r : Option (List ℕ)) (es fs : Records) → Took a p es b q → Took b q fs c r → Took a p (es ++ fs) c r
took_on a b c p q r es fs one two = (
  two.0 ∙ one.0,
  spells_on a.form a.waiting.items b.waiting.items c.waiting.items p q r es fs one.1 (subst (λ (form : Option Form). SpellsLines form b.waiting.items q fs c.waiting.items r) one.0 two.1),
)

pub stops_on : (a b : DumpText) (p q r : Option (List ℕ)) (es fs : Records) (fault : DumpFault) → Took a p es b q → Stops b q fs fault r → Stops a p (es ++ fs) fault r
stops_on a b p q r es fs fault one two = (
  two.0,
  part_on a.form a.waiting.items b.waiting.items p q r es fs one.1 (subst (λ (form : Option Form). PartWritten q r (b.waiting.items ++ lines_in form fs)) one.0 two.1),
)

pub stops_before : (a : DumpText) (p q : Option (List ℕ)) (es fs : Records) (fault : DumpFault) → Stops a p es fault q → Stops a p (es ++ fs) fault q
stops_before a p q es fs fault stops = (stops.0, part_before a.form a.waiting.items p q es fs stops.1)
