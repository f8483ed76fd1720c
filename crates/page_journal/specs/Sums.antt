-- The sum by which bytes are told from others: FNV-1a of 64 bits over words of four bytes in the place of bytes.
use Rattle.std.specs.Prelude.{◌≡◌, ℕ, ◌*◌, ◌/◌, ◌%◌, ◌^◌, ◌<◌, ◌≤◌, zero, suc, Bool, false, cond, List, [], length, drop, slice_index_or, bit_xor}
use Rattle.byteorder.specs.Endian.{big_number}

-- what it begins with, and one word more
abbrev pub sum_start : ℕ
sum_start = 0xcbf29ce484222325

abbrev pub sum_more : ℕ → ℕ → ℕ
sum_more sum word = (bit_xor sum word * 0x100000001b3) % 2 ^ 64

-- the sum goes on over the first words of these bytes
abbrev pub sum_words : ℕ → ℕ → List ℕ → ℕ
sum_words zero sum bytes = sum
sum_words (suc i) sum bytes = sum_more (sum_words i sum bytes) (big_number 4 (drop (4 * i) bytes))

-- and over all of them
abbrev pub sum_on : ℕ → List ℕ → ℕ
sum_on sum bytes = sum_words (length bytes / 4) sum bytes

-- the sum over the first n pages but those that are left out
abbrev pub sum_without : (ℕ → Bool) → ℕ → List (List ℕ) → ℕ
sum_without out zero pages = sum_start
sum_without out (suc n) pages = cond (out n) (sum_without out n pages) (sum_on (sum_without out n pages) (slice_index_or pages n []))

-- the sum over all pages of a file
abbrev pub sum_of_all : List (List ℕ) → ℕ
sum_of_all pages = sum_without (λ _. false) (length pages) pages

-- a sum over the pages up to one goes on up to another, and leaves none of these out
abbrev pub SumsOn : List (List ℕ) → ℕ → ℕ → ℕ → ℕ → Type 0
SumsOn pages from to sum more = (out : ℕ → Bool) → ((n : ℕ) → from ≤ n → n < to → out n ≡ false) → sum ≡ sum_without out from pages → more ≡ sum_without out to pages
