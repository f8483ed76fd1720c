-- Which calls of a reader and a writer failed.
use Rattle.std.proofs.Common.{◌≡◌, ◌||◌, ℕ, Bool, false, Option, Some, None, List, [], sym, ap, ◌∙◌, append-nil}
use Rattle.std.specs.Io.KnownBytes.{Appends, Keeps}
use Rattle.recfile.specs.Streams.{CallsMade, TellsFailed}

-- what was written last tells of the writer, after calls of which none failed
pub tells_last : (old mid new : CallsMade) (read_fault write_fault : Bool) → mid.read_failed ≡ old.read_failed → mid.write_failed ≡ old.write_failed → new ≡ record mid { write_failed = write_fault || mid.write_failed } → read_fault ≡ false → TellsFailed old read_fault write_fault new
tells_last old mid new read_fault write_fault read written is none = record {
  read = ap (λ (c : CallsMade). c.read_failed) is ∙ read ∙ ap (λ b. b || old.read_failed) (sym none);
  written = ap (λ (c : CallsMade). c.write_failed) is ∙ ap (λ b. write_fault || b) written;
}

-- a write of no byte leaves what is held
pub keeps_none : (old new : Option (List ℕ)) → Appends old new [] → Keeps old new
keeps_none None new kept = tt
keeps_none (Some xs) None kept = kept
keeps_none (Some xs) (Some ys) kept = kept ∙ append-nil xs
