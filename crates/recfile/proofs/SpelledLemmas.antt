-- The text of a dump piece by piece.
use Rattle.std.proofs.Common.{◌≡◌, ℕ, ◌<◌, false, codes, List, [], ◌∷◌, ◌++◌, Option, Some, None, length, take, drop, refl, sym, ap, subst, ◌∙◌, arith, append-nil, append_assoc, length-append}
use Rattle.std.specs.Io.KnownBytes.{Appends}
use Rattle.std.specs.Option.{is_some}
use Rattle.std.proofs.KnownBytes.{Appends-nil, Appends-trans}
use Rattle.std.proofs.lemmas.Grind.{flat_map-append}
use Rattle.std.proofs.lemmas.List.{take-append-drop, length-drop}
use Rattle.std.proofs.lemmas.List.Concat.{flat_map-cons}
use Rattle.command_text.specs.Dump.{put_text}
use Rattle.record_texts.specs.Forms.{before, between, behind, field_text, records_text}
use Rattle.record_texts.specs.declared.form.Form.{Form}
use Rattle.record_texts.specs.declared.form.Form.TheVariants.{Tsv, Csv, Json}
use Rattle.recfile.specs.Dumped.{Dumps, IsPartWritten, text_in}
use Rattle.recfile.specs.Spelled.{Records, SpellsLines, PartWritten, IsOfText, Took, Stops, head_in, line_in, lines_in, foot_in, part_longer}
use Rattle.recfile.specs.declared.dump.DumpFault.{DumpFault}
use Rattle.recfile.specs.declared.dump_text.DumpText.{DumpText}

-- a list that isn't empty has a first element
record First (xs : List ℕ) : Type 0 where
  first : ℕ
  rest : List ℕ
  is : xs ≡ first ∷ rest

first_of : (xs : List ℕ) → 0 < length xs → First xs
first_of [] some = absurd (omega arith)
first_of (x ∷ xs) some = record { first = x; rest = xs; is = refl }

-- a line has its end at least
behind_some : (form : Form) → 0 < length (behind form)
behind_some Tsv = omega arith
behind_some Csv = omega arith
behind_some Json = omega arith

line_some : (form : Option Form) (e : List ℕ × List ℕ) → 0 < length (line_in form e)
line_some None e = let long = length-append (put_text e) (10 ∷ []) in omega (arith, long)
line_some (Some form) e = let long = length-append (before form ++ field_text form e.0 ++ between form ++ field_text form e.1) (behind form) in let end = behind_some form in omega (arith, long, end)

lines_more : (form : Option Form) (e : List ℕ × List ℕ) (es : Records) → lines_in form (e ∷ es) ≡ line_in form e ++ lines_in form es
lines_more form e es = flat_map-cons (line_in form) e es

lines_one : (form : Option Form) (e : List ℕ × List ℕ) → lines_in form (e ∷ []) ≡ line_in form e
lines_one form e = lines_more form e [] ∙ append-nil (line_in form e)

-- a text of which some waits isn't written whole
pub part_none : (held : Option (List ℕ)) (text : List ℕ) → 0 < length text → PartWritten held held text
part_none held text some =
    let cut = first_of text some in
    record { sent = []; next = cut.first; rest = cut.rest; written = Appends-nil held; whole = cut.is }

-- a front by its length
pub part_of_front : (held holds : Option (List ℕ)) (text : List ℕ) → IsPartWritten held holds text → PartWritten held holds text
part_of_front held holds text (n, few, written) =
    let cut = first_of (drop n text) (omega (arith, few, length-drop n text)) in
    record { sent = take n text; next = cut.first; rest = cut.rest; written = written; whole = sym (take-append-drop n text) ∙ ap (λ (t : List ℕ). take n text ++ t) cut.is }

take_front : (xs ys : List ℕ) → take (length xs) (xs ++ ys) ≡ xs
take_front [] ys = refl
take_front (x ∷ xs) ys = ap (λ (t : List ℕ). x ∷ t) (take_front xs ys)

pub front_of_part : (held holds : Option (List ℕ)) (text : List ℕ) → PartWritten held holds text → IsPartWritten held holds text
front_of_part held holds text part =
    let long = ap length part.whole in (
      length part.sent,
      omega (arith, long, length-append part.sent (part.next ∷ part.rest)),
      subst (λ (t : List ℕ). Appends held holds t) (sym (ap (take (length part.sent)) part.whole ∙ take_front part.sent (part.next ∷ part.rest))) part.written,
    )

pub stops_unspelled : (old : DumpText) (held : Option (List ℕ)) (e : List ℕ × List ℕ) (fault : DumpFault) → IsOfText fault → Stops old held (e ∷ []) fault held
stops_unspelled old held e fault why =
    let line = line_some old.form e in
    let lines = ap length (lines_one old.form e) in
    (why, part_none held (old.waiting.items ++ lines_in old.form (e ∷ [])) (omega (arith, line, lines, length-append old.waiting.items (lines_in old.form (e ∷ [])))))

-- the whole text by its parts
pub text_is : (form : Option Form) (es : Records) → (head_in form ++ lines_in form es) ++ foot_in form ≡ text_in form es
text_is None es = refl
text_is (Some form) es = append-nil (records_text form es)

module _ (form : Option Form) (begun text : DumpText) (held mid holds : Option (List ℕ)) (es : Records) (form_is : begun.form ≡ form) (waits_is : begun.waiting.items ≡ head_in form) where
  -- what was sent and what waits, before the foot
  begun_text : Took begun held es text mid → SpellsLines form (head_in form) held es text.waiting.items mid
  begun_text took = subst (λ (w : List ℕ). SpellsLines form w held es text.waiting.items mid) waits_is (subst (λ (f : Option Form). SpellsLines f begun.waiting.items held es text.waiting.items mid) form_is took.1)

  foot_is : Took begun held es text mid → foot_in text.form ≡ foot_in form
  foot_is took = ap (λ (f : Option Form). foot_in f) (took.0 ∙ form_is)

  ended : (took : Took begun held es text mid) → (begun_text took).sent ++ (text.waiting.items ++ foot_in text.form) ≡ text_in form es
  ended took =
      let s = begun_text took in
      sym (append_assoc s.sent text.waiting.items (foot_in text.form)) ∙ ap (λ (t : List ℕ). t ++ foot_in text.form) s.text ∙ ap (λ (t : List ℕ). (head_in form ++ lines_in form es) ++ t) (foot_is took) ∙ text_is form es

  pub dumps : Took begun held es text mid → Appends mid holds (text.waiting.items ++ foot_in text.form) → Dumps form held holds es
  dumps took last = (
    subst (λ (t : List ℕ). Appends held holds t) (ended took) (Appends-trans held mid holds (begun_text took).sent (text.waiting.items ++ foot_in text.form) (begun_text took).written last),
    (begun_text took).said,
  )

  pub ends_in_part : Took begun held es text mid → PartWritten mid holds (text.waiting.items ++ foot_in text.form) → PartWritten held holds (text_in form es)
  ends_in_part took part =
      let s = begun_text took in
      record {
        sent = s.sent ++ part.sent;
        next = part.next;
        rest = part.rest;
        written = Appends-trans held mid holds s.sent part.sent s.written part.written;
        whole = sym (ended took) ∙ ap (λ (t : List ℕ). s.sent ++ t) part.whole ∙ sym (append_assoc s.sent part.sent (part.next ∷ part.rest));
      }

  pub stops_in_part : (fault : DumpFault) → Stops begun held es fault holds → PartWritten held holds (text_in form es)
  stops_in_part fault stops =
      subst (PartWritten held holds) (text_is form es) (part_longer held holds (head_in form ++ lines_in form es) (foot_in form)
      (subst (λ (w : List ℕ). PartWritten held holds (w ++ lines_in form es)) waits_is (subst (λ (f : Option Form). PartWritten held holds (begun.waiting.items ++ lines_in f es)) form_is stops.1)))

-- a front of the records was taken
pub front_in_part : (form : Option Form) (begun text : DumpText) (held holds : Option (List ℕ)) (front rest all : Records) (next : List ℕ × List ℕ) → begun.form ≡ form → begun.waiting.items ≡ head_in form → all ≡ front ++ next ∷ rest → Took begun held front text holds → PartWritten held holds (text_in form all)
front_in_part form begun text held holds front rest all next form_is waits_is whole took =
    let s = begun_text form begun text held holds holds front form_is waits_is took in
    let tail = line_in form next ++ lines_in form rest in
    let behind_sent = text.waiting.items ++ tail in
    let lines : lines_in form all ≡ lines_in form front ++ tail = ap (λ (es : Records). lines_in form es) whole ∙ flat_map-append (line_in form) front (next ∷ rest) ∙ ap (λ (t : List ℕ). lines_in form front ++ t) (lines_more form next rest) in
    let some = line_some form next in
    let cut = first_of behind_sent (omega (arith, some, length-append text.waiting.items tail, length-append (line_in form next) (lines_in form rest))) in
    let body : head_in form ++ lines_in form all ≡ s.sent ++ cut.first ∷ cut.rest
    = ap (λ (t : List ℕ). head_in form ++ t) lines ∙ sym (append_assoc (head_in form) (lines_in form front) tail) ∙ ap (λ (t : List ℕ). t ++ tail) (sym s.text) ∙ append_assoc s.sent text.waiting.items tail ∙ ap (λ (t : List ℕ). s.sent ++ t) cut.is in
    subst (PartWritten held holds) (text_is form all) (part_longer held holds (head_in form ++ lines_in form all) (foot_in form) (record { sent = s.sent; next = cut.first; rest = cut.rest; written = s.written; whole = body }))

-- a script has a foot
pub foot_some : (form : Option Form) → is_some form ≡ false → 0 < length (foot_in form)
foot_some None none = let long = length-append (codes "commit 1") (10 ∷ []) in omega (arith, long)
foot_some (Some form) none = absurd (cc none)

pub foot_in_part : (form : Option Form) (held : Option (List ℕ)) (waits : List ℕ) → is_some form ≡ false → PartWritten held held (waits ++ foot_in form)
foot_in_part form held waits none = let some = foot_some form none in part_none held (waits ++ foot_in form) (omega (arith, some, length-append waits (foot_in form)))
