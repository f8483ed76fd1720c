-- A dump that is written while its records are listed.
use Rattle.std.proofs.Common.{◌≡◌, ℕ, inl, inr, List, [], ◌∷◌, ◌++◌, Option, Result, Ok, Err, OnOk, IfErr, MatchResult, refl}
use Rattle.std.specs.Io.KnownBytes.{Appends}
use Rattle.rec_types.specs.declared.table.TableFault.{TableFault}
use Rattle.rec_types.specs.declared.table.TableFault.TheVariants as listing
use Rattle.record_texts.specs.declared.form.Form.{Form}
use Rattle.rec_types.specs.Told.{TakesFront}
use Rattle.file_session.specs.Opened.{CanBeOpened, IsOutsideFile}
use Rattle.recfile.specs.Dumped.{Dumps, IsDumpFault, IsOfListing, IsPartWritten, IsSilent, IsSilentInside, ReadingStops, text_in}
use Rattle.file_session.specs.FileFaults.{fault_of_listing}
use Rattle.recfile.specs.Spelled.{IsOfText, PartWritten, Stops, Took, foot_in, head_in}
use Rattle.recfile.specs.Tasks.{IsDump, WritesListed}
use Rattle.recfile.specs.declared.dump.DumpFault.{DumpFault}
use Rattle.recfile.specs.declared.dump.DumpFault.TheVariants.{File, Write}
use Rattle.recfile.specs.declared.dump_text.DumpText.{DumpText}
use Rattle.file_session.specs.declared.file_fault.FileFault.{FileFault}
use Rattle.recfile.proofs.SpelledLemmas.{dumps, ends_in_part, front_in_part, front_of_part, stops_in_part}

-- a dump of these records, or why it isn't whole
abbrev pub Told : Option Form → Option (List ℕ) → Option (List ℕ) → List (List ℕ × List ℕ) → Result (Unit {0}) DumpFault → Type 0
Told form held holds es answer = MatchResult answer (λ _. Dumps form held holds es) (ReadingStops held holds (text_in form es))

-- a front at a fault of the text
stops_at : (form : Option Form) (held holds : Option (List ℕ)) (es : List (List ℕ × List ℕ)) (fault : DumpFault) → IsOfText fault → PartWritten held holds (text_in form es) → ReadingStops held holds (text_in form es) fault
stops_at form held holds es (File fault) why part = (inr why, inr (front_of_part held holds (text_in form es) part))
stops_at form held holds es Write why part = front_of_part held holds (text_in form es) part

module _ (form : Option Form) (begun text : DumpText) (held mid holds : Option (List ℕ)) (form_is : begun.form ≡ form) (waits_is : begun.waiting.items ≡ head_in form) where
  pub told_ended : (es : List (List ℕ × List ℕ)) (answer : Result (Unit {0}) DumpFault) → Took begun held es text mid → OnOk answer (Appends mid holds (text.waiting.items ++ foot_in text.form)) → IfErr answer (λ fault. IsOfText fault × PartWritten mid holds (text.waiting.items ++ foot_in text.form)) → Told form held holds es answer
  told_ended es (Ok done) took whole stops = dumps form begun text held mid holds es form_is waits_is took whole
  told_ended es (Err fault) took whole stops = stops_at form held holds es fault stops.0 (ends_in_part form begun text held mid holds es form_is waits_is took stops.1)

  pub told_stopped : (es : List (List ℕ × List ℕ)) (fault : DumpFault) → Stops begun held es fault holds → ReadingStops held holds (text_in form es) fault
  told_stopped es fault stops = stops_at form held holds es fault stops.0 (stops_in_part form begun text held mid holds es form_is waits_is fault stops)

  pub told_front : (es : List (List ℕ × List ℕ)) → TakesFront (λ xs. Took begun held xs text holds) es → IsPartWritten held holds (text_in form es)
  told_front es part = front_of_part held holds (text_in form es) (front_in_part form begun text held holds part.front part.rest es part.next form_is waits_is part.whole part.took)

  -- whatever the pages hold: as if a record came behind those that were told
  pub told_some : (fault : TableFault) (es : List (List ℕ × List ℕ)) → Took begun held es text holds → WritesListed (IsDump form) held holds (Err (File (fault_of_listing fault)))
  told_some fault es took =
      let more = es ++ ([], []) ∷ [] in
      inr ((fault, refl), (text_in form more, (more, refl), front_of_part held holds (text_in form more) (front_in_part form begun text held holds es [] more ([], []) form_is waits_is refl took)))

listing_of : (fault : FileFault) → IsOutsideFile fault → IsOfListing fault
listing_of fault (inl is) = (listing.Device, is)
listing_of fault (inr is) = (listing.Memory, is)

-- what is written, whoever reads it
pub listed : (form : Option Form) (held holds : Option (List ℕ)) (es : List (List ℕ × List ℕ)) (answer : Result (Unit {0}) DumpFault) → Told form held holds es answer → WritesListed (IsDump form) held holds answer
listed form held holds es (Ok done) told = (text_in form es, (es, refl), told.0)
listed form held holds es (Err (File fault)) (why, inl same) = inl same
listed form held holds es (Err (File fault)) (why, inr part) = inr (listing_of fault why, (text_in form es, (es, refl), part))
listed form held holds es (Err Write) part = (text_in form es, (es, refl), part)

-- the fault of a dump whose file was opened
pub fault_told : (form : Option Form) (held holds : Option (List ℕ)) (es : List (List ℕ × List ℕ)) (answer : Result (Unit {0}) DumpFault) (stored : List (List ℕ)) (tail limit : ℕ) → CanBeOpened stored tail limit → Told form held holds es answer → IfErr answer (IsDumpFault stored tail limit)
fault_told form held holds es (Ok done) stored tail limit can told = tt
fault_told form held holds es (Err (File fault)) stored tail limit can told = inl told.0
fault_told form held holds es (Err Write) stored tail limit can told = can

pub silent_told : (form : Option Form) (held holds : Option (List ℕ)) (es : List (List ℕ × List ℕ)) (answer : Result (Unit {0}) DumpFault) → Told form held holds es answer → IfErr answer (IsSilentInside held holds)
silent_told form held holds es (Ok done) told = tt
silent_told form held holds es (Err (File fault)) told = inl told.0
silent_told form held holds es (Err Write) told = tt

-- silence at each fault of the file
pub silent_inside : (held holds : Option (List ℕ)) (answer : Result (Unit {0}) DumpFault) → IfErr answer (IsSilent held holds) → IfErr answer (IsSilentInside held holds)
silent_inside held holds (Ok done) silent = tt
silent_inside held holds (Err (File fault)) silent = inr silent
silent_inside held holds (Err Write) silent = tt
