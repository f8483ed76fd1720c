-- What is known of a file besides its bytes.
use Rattle.std.specs.Prelude.{◌≡◌}
use Rattle.file_system.specs.declared.facts.FileFacts.{FileFacts}

-- both are of one file, by whatever names
abbrev pub IsSameFile : FileFacts → FileFacts → Type 0
IsSameFile a b = (a.device ≡ b.device) × (a.node ≡ b.node)

-- what was found is the file that was opened, and has no other name
abbrev pub IsAlone : FileFacts → FileFacts → Type 0
IsAlone opened found = IsSameFile found opened × (found.links ≡ 1)
