-- Lines that are answered as they come.
use Rattle.std.proofs.Common.{◌≡◌, ℕ, ◌+◌, ◌≤◌, ◌<◌, Bool, true, false, if◌then◌else◌, List, [], ◌∷◌, ◌++◌, length, Option, Some, None, Result, Ok, Err, MatchResult, IsTrue, inl, inr, refl, sym, ap, subst, ◌∙◌, arith, append-nil, add-zero, ◌==◌}
use Rattle.std.specs.FinMap as maps
use Rattle.std.specs.List.{flat_map}
use Rattle.std.specs.Io.KnownBytes.{Appends, Consumes, IsAtEnd}
use Rattle.std.proofs.KnownBytes.{Consumes-trans}
use Rattle.std.proofs.lemmas.List.{length-append}
use Rattle.std.proofs.lemmas.Bool.Decides.{nat_tests}
use Rattle.std.proofs.lemmas.List.Elements.{All-nil}
use Rattle.record_file.specs.Runs.{Seen}
use Rattle.command_text.specs.declared.command.Command.{Command}
use Rattle.command_text.specs.Grammar.{Read, is_word}
use Rattle.command_text.specs.Script.{HasNoLf, bounded_entries_in, bounded_line_of, ended_lines, entries_by, keep, lines_of}
use Rattle.command_text.specs.Texts.{text_of}
use Rattle.recfile.specs.declared.shell.Counts.{Counts}
use Rattle.recfile.specs.declared.script.RunFault.{RunFault}
use Rattle.recfile.specs.declared.script.RunFault.TheVariants.{Flush}
use Rattle.recfile.specs.PartLine.{IsPartOfLine, Part, no_part}
use Rattle.recfile.specs.Run.{Session, commands, says_command}
use Rattle.recfile.specs.Shell.{AsksFlush, LinesAnswered, AnsweredSoFar, Come, Fed, IsAnswered, LineAnswered, LineStops, RanLines, Start, StopsAtLine, counted_to}
use Rattle.recfile.proofs.FedLemmas.{fed_none, fed_on, fed_end, ended_so_far, lines_at_end, ended_at}
use Rattle.recfile.proofs.ScriptRunLemmas.{entry_of, session-more, commands-more, written-none, written-more, accepted-more, length-more}
use Rattle.file_session.proofs.ScriptCutLemmas.{keep-append}

entries_by-append : (says : List ℕ → Read (Option Command)) (xs ys : List (List ℕ)) → entries_by says (xs ++ ys) ≡ entries_by says xs ++ entries_by says ys
entries_by-append says [] ys = refl
entries_by-append says (x ∷ xs) ys = ap (keep (says x)) (entries_by-append says xs ys) ∙ keep-append (says x) (entries_by says xs) (entries_by says ys)

-- counting on from a count
counts_on : (done more n m : ℕ) → done ≡ counted_to n → m ≡ n + more → counted_to (done + more) ≡ counted_to m
counts_on done more n m is sums = omega (arith, is, sums)

-- no line has begun with no byte
pub part_begins : IsPartOfLine no_part []
part_begins = record { kept = λ _. refl; fits = λ _. omega arith; longer = λ never. absurd (cc) }

-- nothing has come
pub none_so_far : (strict : Bool) (held : Option (List ℕ)) (old : Seen) (part : Part) (counts : Counts) → part ≡ no_part → counts ≡ record { done = 0; lines = 0 } → AnsweredSoFar strict held held old old [] part counts
none_so_far strict held old part counts is none = record {
  passed = [];
  begun = [];
  fed = fed_none;
  kept = subst (λ (p : Part). IsPartOfLine p []) (sym is) part_begins;
  answered = record { replies = []; ran = refl; written = written-none held; accepted = λ strict. All-nil _ };
  done = ap (λ (c : Counts). c.done) none;
  number = ap (λ (c : Counts). c.lines) none;
}

entries_with : (passed : List (List ℕ)) (line : List ℕ) (said : Read (Option Command)) → said ≡ bounded_line_of line → bounded_entries_in (passed ++ line ∷ []) ≡ bounded_entries_in passed ++ keep said []
entries_with passed line said is = entries_by-append bounded_line_of passed (line ∷ []) ∙ ap (λ (l : Read (Option Command)). bounded_entries_in passed ++ keep l []) (sym is)

-- a line is counted as a command where it says one
commands_with : (passed : List (List ℕ)) (line : List ℕ) (said : Read (Option Command)) → said ≡ bounded_line_of line → commands (bounded_entries_in (passed ++ line ∷ [])) ≡ commands (bounded_entries_in passed) + (if says_command said then 1 else 0)
commands_with passed line said is = ap commands (entries_with passed line said is) ∙ at said
  where
    at : (s : Read (Option Command)) → commands (bounded_entries_in passed ++ keep s []) ≡ commands (bounded_entries_in passed) + (if says_command s then 1 else 0)
    at (Ok None) = ap commands (append-nil (bounded_entries_in passed)) ∙ sym (add-zero (commands (bounded_entries_in passed)))
    at (Ok (Some c)) = commands-more (bounded_entries_in passed) (Ok c)
    at (Err fault) = commands-more (bounded_entries_in passed) (Err fault)

-- one more line is answered
answered_with : (strict : Bool) (held between holds : Option (List ℕ)) (old mid new : Seen) (passed : List (List ℕ)) (line : List ℕ) (said : Read (Option Command)) → LinesAnswered strict held between old passed mid → said ≡ bounded_line_of line → LineAnswered strict between holds mid said new → LinesAnswered strict held holds old (passed ++ line ∷ []) new
answered_with strict held between holds old mid new passed line said before is (inl nothing) =
    let entries : bounded_entries_in (passed ++ line ∷ []) ≡ bounded_entries_in passed = entries_with passed line said is ∙ ap (λ (l : Read (Option Command)). bounded_entries_in passed ++ keep l []) nothing.0 ∙ append-nil (bounded_entries_in passed) in
    record {
      replies = before.replies;
      ran = subst (λ es. Session old es before.replies new) (sym entries) (subst (Session old (bounded_entries_in passed) before.replies) (sym nothing.1) before.ran);
      written = subst (λ (h : Option (List ℕ)). Appends held h (flat_map text_of before.replies)) (sym nothing.2) before.written;
      accepted = before.accepted;
    }
answered_with strict held between holds old mid new passed line said before is (inr replied) =
    let e = entry_of mid new said replied.0 replied.1 in
    let entries : bounded_entries_in (passed ++ line ∷ []) ≡ bounded_entries_in passed ++ e.said ∷ [] = entries_with passed line said is ∙ ap (λ es. bounded_entries_in passed ++ es) (e.kept []) in
    record {
      replies = before.replies ++ replied.0 ∷ [];
      ran = subst (λ es. Session old es (before.replies ++ replied.0 ∷ []) new) (sym entries) (session-more old mid new (bounded_entries_in passed) before.replies e.said replied.0 before.ran e.step);
      written = written-more held between holds before.replies replied.0 (text_of replied.0) before.written replied.2 refl;
      accepted = accepted-more strict before.replies replied.0 before.accepted replied.3;
    }

-- the line that has begun is ended by these bytes, with no LF in them, and answered
pub so_far_ended : (strict : Bool) (held between holds : Option (List ℕ)) (old mid new : Seen) (taken last : List ℕ) (part next : Part) (counts more : Counts) (said : Read (Option Command))
    → AnsweredSoFar strict held between old mid taken part counts → HasNoLf last → ((begun : List ℕ) → IsPartOfLine part begun → said ≡ bounded_line_of (begun ++ last)) → next ≡ no_part
    → LineAnswered strict between holds mid said new → more.done ≡ counted_to (counts.done + (if says_command said then 1 else 0)) → more.lines ≡ counted_to (counts.lines + 1)
    → AnsweredSoFar strict held holds old new (taken ++ (last ++ 10 ∷ [])) next more
so_far_ended strict held between holds old mid new taken last part next counts more said so_far none reads cleared answered done number =
    let line : List ℕ = so_far.begun ++ last in
    let says : said ≡ bounded_line_of line = reads so_far.begun so_far.kept in
    record {
      passed = so_far.passed ++ line ∷ [];
      begun = [];
      fed = fed_end taken so_far.passed so_far.begun last so_far.fed none;
      kept = subst (λ (p : Part). IsPartOfLine p []) (sym cleared) part_begins;
      answered = answered_with strict held between holds old mid new so_far.passed line said so_far.answered says answered;
      done = done ∙ counts_on counts.done (if says_command said then 1 else 0) (commands (bounded_entries_in so_far.passed)) (commands (bounded_entries_in (so_far.passed ++ line ∷ []))) so_far.done (commands_with so_far.passed line said says);
      number = number ∙ counts_on counts.lines 1 (length so_far.passed) (length (so_far.passed ++ line ∷ [])) so_far.number (sym (length-more so_far.passed line));
    }

-- more of the line that has begun
pub so_far_on : (strict : Bool) (held holds : Option (List ℕ)) (old new : Seen) (taken piece : List ℕ) (part next : Part) (counts : Counts)
    → AnsweredSoFar strict held holds old new taken part counts → HasNoLf piece → ((begun : List ℕ) → IsPartOfLine part begun → IsPartOfLine next (begun ++ piece))
    → AnsweredSoFar strict held holds old new (taken ++ piece) next counts
so_far_on strict held holds old new taken piece part next counts so_far none keeps = record {
  passed = so_far.passed;
  begun = so_far.begun ++ piece;
  fed = fed_on taken so_far.passed so_far.begun piece so_far.fed none;
  kept = keeps so_far.begun so_far.kept;
  answered = so_far.answered;
  done = so_far.done;
  number = so_far.number;
}

-- the line that has begun is ended by these bytes, and ends the run
stops_at_line : (strict : Bool) (held between holds : Option (List ℕ)) (old mid new : Seen) (taken last : List ℕ) (part : Part) (counts more : Counts) (said : Read (Option Command)) (fault : RunFault) (lines after : List (List ℕ))
    → (so_far : AnsweredSoFar strict held between old mid taken part counts) → ((begun : List ℕ) → IsPartOfLine part begun → said ≡ bounded_line_of (begun ++ last))
    → lines ≡ so_far.passed ++ (so_far.begun ++ last) ∷ after
    → LineStops strict between holds mid said new more.done more.lines fault → more.done ≡ counted_to (counts.done + (if says_command said then 1 else 0)) → more.lines ≡ counted_to (counts.lines + 1)
    → StopsAtLine strict held holds old new lines fault
stops_at_line strict held between holds old mid new taken last part counts more said fault lines after so_far reads are stops done number =
    let line : List ℕ = so_far.begun ++ last in
    let says : said ≡ bounded_line_of line = reads so_far.begun so_far.kept in
    let counted : more.done ≡ counted_to (commands (bounded_entries_in (so_far.passed ++ line ∷ []))) = done ∙ counts_on counts.done (if says_command said then 1 else 0) (commands (bounded_entries_in so_far.passed)) (commands (bounded_entries_in (so_far.passed ++ line ∷ []))) so_far.done (commands_with so_far.passed line said says) in
    let place : more.lines ≡ counted_to (length so_far.passed + 1) = number ∙ counts_on counts.lines 1 (length so_far.passed) (length so_far.passed + 1) so_far.number refl in
    record {
      before = so_far.passed;
      line = line;
      after = after;
      split = are;
      mid = mid;
      between = between;
      answered = so_far.answered;
      stops = subst (λ (s : Read (Option Command)). LineStops strict between holds mid s new (counted_to (commands (bounded_entries_in (so_far.passed ++ line ∷ [])))) (counted_to (length so_far.passed + 1)) fault) says
          (subst (λ n. LineStops strict between holds mid said new n (counted_to (length so_far.passed + 1)) fault) counted
          (subst (λ n. LineStops strict between holds mid said new more.done n fault) place stops));
    }

-- a line with its LF
pub stops_ended : (strict : Bool) (held between holds : Option (List ℕ)) (old mid new : Seen) (taken last rest text : List ℕ) (part : Part) (counts more : Counts) (said : Read (Option Command)) (fault : RunFault)
    → AnsweredSoFar strict held between old mid taken part counts → HasNoLf last → ((begun : List ℕ) → IsPartOfLine part begun → said ≡ bounded_line_of (begun ++ last))
    → text ≡ taken ++ (last ++ 10 ∷ rest)
    → LineStops strict between holds mid said new more.done more.lines fault → more.done ≡ counted_to (counts.done + (if says_command said then 1 else 0)) → more.lines ≡ counted_to (counts.lines + 1)
    → StopsAtLine strict held holds old new (ended_lines text) fault
stops_ended strict held between holds old mid new taken last rest text part counts more said fault so_far none reads is stops done number =
    stops_at_line strict held between holds old mid new taken last part counts more said fault (ended_lines text) (ended_lines rest) so_far reads (ap ended_lines is ∙ ended_at taken so_far.passed so_far.begun last rest so_far.fed none) stops done number

-- the line at the end
last_line : (begun : List ℕ) → (length begun == 0) ≡ false → (if is_word begun then begun ∷ [] else []) ≡ begun ∷ []
last_line [] some = absurd (cc)
last_line (b ∷ bs) some = refl

no_last_line : (begun : List ℕ) → (length begun == 0) ≡ true → (if is_word begun then begun ∷ [] else []) ≡ []
no_last_line [] none = refl
no_last_line (b ∷ bs) none = absurd (grind (arith, nat_tests))

-- all lines, where one has begun
lines_with_last : (strict : Bool) (held holds : Option (List ℕ)) (old new : Seen) (taken : List ℕ) (part : Part) (counts : Counts) (empty : Bool) (so_far : AnsweredSoFar strict held holds old new taken part counts) → ((begun : List ℕ) → IsPartOfLine part begun → empty ≡ (length begun == 0)) → empty ≡ false → lines_of taken ≡ so_far.passed ++ (so_far.begun ++ []) ∷ []
lines_with_last strict held holds old new taken part counts empty so_far tells some =
    lines_at_end taken so_far.passed so_far.begun so_far.fed
    ∙ ap (λ ls. so_far.passed ++ ls) (last_line so_far.begun (sym (tells so_far.begun so_far.kept) ∙ some) ∙ ap (λ (l : List ℕ). l ∷ []) (sym (append-nil so_far.begun)))

pub stops_last : (strict : Bool) (held between holds : Option (List ℕ)) (old mid new : Seen) (taken : List ℕ) (part : Part) (counts more : Counts) (said : Read (Option Command)) (fault : RunFault) (empty : Bool)
    → AnsweredSoFar strict held between old mid taken part counts → ((begun : List ℕ) → IsPartOfLine part begun → empty ≡ (length begun == 0)) → empty ≡ false
    → ((begun : List ℕ) → IsPartOfLine part begun → said ≡ bounded_line_of (begun ++ []))
    → LineStops strict between holds mid said new more.done more.lines fault → more.done ≡ counted_to (counts.done + (if says_command said then 1 else 0)) → more.lines ≡ counted_to (counts.lines + 1)
    → StopsAtLine strict held holds old new (lines_of taken) fault
stops_last strict held between holds old mid new taken part counts more said fault empty so_far tells some reads stops done number =
    stops_at_line strict held between holds old mid new taken [] part counts more said fault (lines_of taken) [] so_far reads (lines_with_last strict held between old mid taken part counts empty so_far tells some) stops done number

-- all lines are answered, and so many commands were run
abbrev pub AllAnswered : Bool → Option (List ℕ) → Option (List ℕ) → Seen → List ℕ → Seen → ℕ → Type 0
AllAnswered strict held holds old taken new done = LinesAnswered strict held holds old (lines_of taken) new × (done ≡ counted_to (commands (bounded_entries_in (lines_of taken))))

pub answered_last : (strict : Bool) (held between holds : Option (List ℕ)) (old mid new : Seen) (taken : List ℕ) (part : Part) (counts more : Counts) (said : Read (Option Command)) (empty : Bool)
    → AnsweredSoFar strict held between old mid taken part counts → ((begun : List ℕ) → IsPartOfLine part begun → empty ≡ (length begun == 0)) → empty ≡ false
    → ((begun : List ℕ) → IsPartOfLine part begun → said ≡ bounded_line_of (begun ++ []))
    → LineAnswered strict between holds mid said new → more.done ≡ counted_to (counts.done + (if says_command said then 1 else 0))
    → AllAnswered strict held holds old taken new more.done
answered_last strict held between holds old mid new taken part counts more said empty so_far tells some reads answered done =
    let line : List ℕ = so_far.begun ++ [] in
    let says : said ≡ bounded_line_of line = reads so_far.begun so_far.kept in
    let all = lines_with_last strict held between old mid taken part counts empty so_far tells some in (
      subst (λ ls. LinesAnswered strict held holds old ls new) (sym all) (answered_with strict held between holds old mid new so_far.passed line said so_far.answered says answered),
      done ∙ counts_on counts.done (if says_command said then 1 else 0) (commands (bounded_entries_in so_far.passed)) (commands (bounded_entries_in (so_far.passed ++ line ∷ []))) so_far.done (commands_with so_far.passed line said says)
          ∙ ap (λ ls. counted_to (commands (bounded_entries_in ls))) (sym all),
    )

pub answered_none : (strict : Bool) (held holds : Option (List ℕ)) (old new : Seen) (taken : List ℕ) (part : Part) (counts : Counts) (empty : Bool)
    → AnsweredSoFar strict held holds old new taken part counts → ((begun : List ℕ) → IsPartOfLine part begun → empty ≡ (length begun == 0)) → empty ≡ true
    → AllAnswered strict held holds old taken new counts.done
answered_none strict held holds old new taken part counts empty so_far tells none =
    let all : lines_of taken ≡ so_far.passed = lines_at_end taken so_far.passed so_far.begun so_far.fed ∙ ap (λ ls. so_far.passed ++ ls) (no_last_line so_far.begun (sym (tells so_far.begun so_far.kept) ∙ none)) ∙ append-nil so_far.passed in (
      subst (λ ls. LinesAnswered strict held holds old ls new) (sym all) so_far.answered,
      so_far.done ∙ ap (λ ls. counted_to (commands (bounded_entries_in ls))) (sym all),
    )

-- what isn't at its end needn't be
pub not_ended : (P : Type 0) → IsTrue false → P
not_ended P never = absurd (cc)

-- the lines that have their LF have come
abbrev pub come_ended : (strict : Bool) (left leaves held holds : Option (List ℕ)) (old new : Seen) (taken : List ℕ) (part : Part) (counts : Counts) → Consumes left leaves taken → (so_far : AnsweredSoFar strict held holds old new taken part counts) → Come left leaves false so_far.passed
come_ended strict left leaves held holds old new taken part counts consumed so_far = record {
  taken = taken;
  consumed = consumed;
  are = sym (ended_so_far taken so_far.passed so_far.begun so_far.fed);
  end = not_ended (IsAtEnd leaves);
}

pub is_answered : (start : Start) (strict : Bool) (left leaves held holds : Option (List ℕ)) (old new : Seen) (taken : List ℕ) (part : Part) (counts : Counts) → start ≡ record { strict = strict; left = left; held = held; old = old } → Consumes left leaves taken → AnsweredSoFar strict held holds old new taken part counts → IsAnswered start leaves holds
is_answered start strict left leaves held holds old new taken part counts is consumed so_far = subst (λ (s : Start). IsAnswered s leaves holds) (sym is) (record { lines = so_far.passed; come = come_ended strict left leaves held holds old new taken part counts consumed so_far; new = new; answered = so_far.answered })

-- the end was read
pub ran_last : (strict : Bool) (left mid leaves held holds : Option (List ℕ)) (old new : Seen) (taken last : List ℕ) (result : Result ℕ RunFault) → Consumes left mid taken → Consumes mid leaves last → last ≡ [] → IsAtEnd leaves
    → MatchResult result (AllAnswered strict held holds old taken new) (StopsAtLine strict held holds old new (lines_of taken)) → RanLines strict left leaves held holds old new result
ran_last strict left mid leaves held holds old new taken last result before now none ended known = at result known
  where
    come : Come left leaves true (lines_of taken)
    come = record {
      taken = taken;
      consumed = subst (Consumes left leaves) (ap (λ (bytes : List ℕ). taken ++ bytes) none ∙ append-nil taken) (Consumes-trans left mid leaves taken last before now);
      are = refl;
      end = λ _. ended;
    }

    at : (r : Result ℕ RunFault) → MatchResult r (AllAnswered strict held holds old taken new) (StopsAtLine strict held holds old new (lines_of taken)) → RanLines strict left leaves held holds old new r
    at (Ok done) all = (lines_of taken, come, all.0, all.1)
    at (Err fault) stops = inr (true, lines_of taken, come, stops)

-- a line with its LF ended the run
pub ran_to : (strict : Bool) (left mid leaves held holds : Option (List ℕ)) (old new : Seen) (taken bytes : List ℕ) (result : Result ℕ RunFault) (fault : RunFault) → result ≡ Err fault → Consumes left mid taken → Consumes mid leaves bytes
    → StopsAtLine strict held holds old new (ended_lines (taken ++ bytes)) fault → RanLines strict left leaves held holds old new result
ran_to strict left mid leaves held holds old new taken bytes result fault is before now stops = subst (RanLines strict left leaves held holds old new) (sym is)
    (inr (false, ended_lines (taken ++ bytes), record { taken = taken ++ bytes; consumed = Consumes-trans left mid leaves taken bytes before now; are = refl; end = not_ended (IsAtEnd leaves) }, stops))

-- a flush was asked for
pub ran_to_flush : (strict : Bool) (left mid leaves held holds : Option (List ℕ)) (old new : Seen) (taken bytes : List ℕ) (part : Part) (counts : Counts) (logged : Bool) (many : ℕ) → Consumes left mid taken → Consumes mid leaves bytes
    → AnsweredSoFar strict held holds old new taken part counts → AsksFlush logged many part bytes → new.logged ≡ logged → maps.len new.file.txs ≡ many → RanLines strict left leaves held holds old new (Err Flush)
ran_to_flush strict left mid leaves held holds old new taken bytes part counts logged many before now so_far asks logged_is many_is = inl (record {
  taken = taken;
  lines = so_far.passed;
  consumed = subst (λ (bs : List ℕ). Consumes left leaves (taken ++ bs)) asks.line (Consumes-trans left mid leaves taken bytes before now);
  are = subst (λ (bs : List ℕ). Fed taken so_far.passed bs) (sym (so_far.kept.kept (ap (λ (p : Part). p.long) asks.begins)) ∙ ap (λ (p : Part). p.bytes) asks.begins) so_far.fed;
  answered = so_far.answered;
  kept = logged_is ∙ asks.kept;
  none = many_is ∙ asks.none;
})

-- a read took a byte
pub turns_on : (turn n : ℕ) (taken bytes : List ℕ) → turn ≤ length taken → length bytes ≡ n → 0 < n → turn + 1 ≤ length (taken ++ bytes)
turns_on turn n taken bytes before is some = omega (arith, before, is, some, length-append taken bytes)
