use Rattle.std.proofs.Common.{◌≡◌, ℕ, inl, inr, ◌⊎◌, List, [], ◌∷◌, Option, Some, None, Err, length, refl, ap, arith, length-append}
use Rattle.std.proofs.lemmas.List.{length-take}
use Rattle.command_text.specs.Dump.{dump_text}
use Rattle.rec_types.specs.declared.table.TableFault.{TableFault}
use Rattle.rec_types.specs.declared.table.TableFault.TheVariants as listing
use Rattle.file_session.specs.Opened.{IsOutsideFile}
use Rattle.recfile.specs.Dumped.{IsPartWritten}
use Rattle.file_session.specs.FileFaults.{fault_of_listing}
use Rattle.recfile.specs.Tasks.{IsDump, WritesListed}
use Rattle.recfile.specs.declared.dump.DumpFault.TheVariants.{File}
use Rattle.file_session.specs.declared.file_fault.FileFault.TheVariants.{BadMagic, Damaged}
use Rattle.recfile.proofs.laws.dumps_in_part.Goals as goal

-- a text of which a part is written isn't written whole
never_whole : (text : List ℕ) → IsPartWritten (Some []) (Some text) text → ⊥
never_whole text (sent, few, written) = let long = ap length written in omega (arith, long, few, length-take sent text)

not_of_listing : (late : TableFault) → BadMagic ≡ fault_of_listing late → ⊥
not_of_listing listing.Device is = absurd (cc is)
not_of_listing (listing.Damaged page) is = absurd (cc is)
not_of_listing listing.NoRoom is = absurd (cc is)
not_of_listing listing.Memory is = absurd (cc is)

not_damaged : (page : ℕ) → IsOutsideFile (Damaged page) → ⊥
not_damaged page (inl is) = absurd (cc is)
not_damaged page (inr is) = absurd (cc is)

not_whole : (text : List ℕ) → length text ≡ 15 → (Some text ≡ Some []) ⊎ IsPartWritten (Some []) (Some text) text → ⊥
not_whole [] long (inl same) = absurd (cc long)
not_whole (b ∷ text) long (inl same) = absurd (cc same)
not_whole text long (inr part) = never_whole text part

still : (held holds : Option (List ℕ)) → WritesListed (IsDump None) held holds (Err (File BadMagic)) → holds ≡ held
still held holds (inl same) = same
still held holds (inr late) = absurd (not_of_listing late.0.0 late.0.1)

pub returns-clause-front : goal.returns-clause-front
returns-clause-front c = (inl refl, inr (5, omega arith, refl))

pub returns-clause-whole : goal.returns-clause-whole
returns-clause-whole c = λ stops. not_whole (dump_text []) refl stops.1

pub returns-clause-damaged : goal.returns-clause-damaged
returns-clause-damaged c = λ page held holds text stops. not_damaged page stops.0

pub returns-clause-unopened : goal.returns-clause-unopened
returns-clause-unopened c = λ held holds written. still held holds written

pub returns-clause-waits : goal.returns-clause-waits
returns-clause-waits c = record { sent = 97 ∷ 9 ∷ 98 ∷ []; written = refl; text = refl; said = tt }

pub returns-clause-lost : goal.returns-clause-lost
returns-clause-lost c = λ spells.
    let long = ap length spells.text in
    let sent = ap length spells.written in
    absurd (omega (arith, long, sent, length-append spells.sent []))
