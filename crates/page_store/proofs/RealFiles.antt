-- With these values the clauses of a store hold over any file. This module is private to the proofs of this crate.
use Rattle.std.proofs.Common.{◌≡◌, ℕ, false, refl}
use Rattle.page_store.specs.Blank.{blanks}
use Rattle.page_store.specs.FileValues.{gives_back, pages_in_file}

-- of a real file nothing is claimed
pub gives_back-is : gives_back ≡ false
unfolding gives_back
gives_back-is = refl

-- what is written of its pages
pub pages_in_file-are : (n : ℕ) → pages_in_file n ≡ blanks n
unfolding pages_in_file
pages_in_file-are n = refl
