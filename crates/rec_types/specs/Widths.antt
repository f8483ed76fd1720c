-- How many bytes keys, records and pages have.
use Rattle.std.specs.Prelude.{ℕ}

-- the bytes that a key may take
abbrev pub key_width : ℕ
key_width = 16

-- the bytes that a record may take
abbrev pub widest_record : ℕ
widest_record = 100

-- the bytes that a short record may take
abbrev pub short_width : ℕ
short_width = 32

-- the bytes of a page
abbrev pub page_width : ℕ
page_width = 4096
