-- The version of the library.
use Rattle.std.specs.Prelude.{ℕ, ◌+◌, ◌*◌}

abbrev pub major : ℕ
major = 1

abbrev pub minor : ℕ
minor = 0

-- both in one number
abbrev pub version_number : ℕ
version_number = 65536 * major + minor
