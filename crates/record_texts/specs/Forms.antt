-- Records as the lines of other programs.
use Rattle.std.specs.Prelude.{ℕ, ◌+◌, ◌/◌, ◌%◌, ◌==◌, nat_lt, if◌then◌else◌, List, [], ◌∷◌, ◌++◌, codes}
use Rattle.std.specs.List.{flat_map}
use Rattle.record_texts.specs.declared.form.Form.{Form}
use Rattle.record_texts.specs.declared.form.Form.TheVariants.{Tsv, Csv, Json}

-- a tab, LF, CR and backslash are a backslash and t, n, r and a backslash
abbrev pub tsv_byte : ℕ → List ℕ
tsv_byte b =
    if b == 9 then 92 ∷ 116 ∷ []
    else if b == 10 then 92 ∷ 110 ∷ []
    else if b == 13 then 92 ∷ 114 ∷ []
    else if b == 92 then 92 ∷ 92 ∷ []
    else b ∷ []

-- a quotation mark is two
abbrev pub csv_byte : ℕ → List ℕ
csv_byte b = if b == 34 then 34 ∷ 34 ∷ [] else b ∷ []

-- the digit of a number below 16
abbrev pub hex_digit : ℕ → ℕ
hex_digit n = if nat_lt n 10 then n + 48 else n + 87

-- a character by its number, which is below 256
abbrev pub hex_text : ℕ → List ℕ
hex_text b = codes "\\u00" ++ hex_digit (b / 16) ∷ hex_digit (b % 16) ∷ []

-- a quotation mark and a backslash stand behind a backslash, and a byte that is no printed character of ASCII by its number
abbrev pub json_byte : ℕ → List ℕ
json_byte b =
    if b == 34 then 92 ∷ 34 ∷ []
    else if b == 92 then 92 ∷ 92 ∷ []
    else if nat_lt b 32 then hex_text b
    else if nat_lt b 127 then b ∷ []
    else hex_text b

-- a byte of a key or a record
abbrev pub byte_text : Form → ℕ → List ℕ
byte_text Tsv b = tsv_byte b
byte_text Csv b = csv_byte b
byte_text Json b = json_byte b

abbrev pub field_text : Form → List ℕ → List ℕ
field_text form bytes = flat_map (byte_text form) bytes

-- what stands before the key of a line, between it and the record, and behind the record
abbrev pub before : Form → List ℕ
before Tsv = []
before Csv = 34 ∷ []
before Json = codes "{\"key\":\""

abbrev pub between : Form → List ℕ
between Tsv = 9 ∷ []
between Csv = 34 ∷ 44 ∷ 34 ∷ []
between Json = codes "\",\"record\":\""

abbrev pub behind : Form → List ℕ
behind Tsv = 10 ∷ []
behind Csv = 34 ∷ 10 ∷ []
behind Json = 34 ∷ 125 ∷ 10 ∷ []

-- a line of a form
abbrev pub record_line : Form → List ℕ × List ℕ → List ℕ
record_line form e = before form ++ field_text form e.0 ++ between form ++ field_text form e.1 ++ behind form

-- the lines of records
abbrev pub records_text : Form → List (List ℕ × List ℕ) → List ℕ
records_text form records = flat_map (record_line form) records
