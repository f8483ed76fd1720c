-- The text of records is written whole, not at all, or a front of it.
use Rattle.std.proofs.Common.{◌≡◌, ℕ, List, Option, Result, Ok, Err, OnOk, IfErr, refl}
use Rattle.record_texts.specs.declared.form.Form.{Form}
use Rattle.recfile.specs.Dumped.{Dumps, DumpStops, IsSilent, text_in}
use Rattle.recfile.specs.Tasks.{Writes}
use Rattle.recfile.specs.declared.dump.DumpFault.{DumpFault}
use Rattle.recfile.specs.declared.dump.DumpFault.TheVariants.{File, Write}

pub written : {Is : List ℕ → Type 0} (form : Option Form) (answer : Result (Unit {0}) DumpFault) (held holds : Option (List ℕ)) (records : List (List ℕ × List ℕ)) → ((text : List ℕ) → text ≡ text_in form records → Is text)
    → OnOk answer (Dumps form held holds records) → IfErr answer (DumpStops held holds (text_in form records)) → IfErr answer (IsSilent held holds) → Writes Is held holds answer
written form (Ok done) held holds records is ok stops silent = (text_in form records, is _ refl, ok.0)
written form (Err (File fault)) held holds records is ok stops silent = silent
written form (Err Write) held holds records is ok stops silent = (text_in form records, is _ refl, stops)
