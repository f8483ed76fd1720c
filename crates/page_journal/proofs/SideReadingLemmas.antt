-- What is read of the bytes of a side file, one old page after another.
use Rattle.std.proofs.Common.{◌≡◌, ℕ, zero, suc, ◌+◌, ◌*◌, List, [], ◌∷◌, ◌++◌, Option, take, drop, refl, ap, sym, ◌∙◌, arith}
use Rattle.byteorder.specs.Endian.{big_number}
use Rattle.rec_types.specs.Widths.{page_width}
use Rattle.page_journal.specs.Files.{SideFile}
use Rattle.page_journal.specs.SideBytes.{entry_width, header_width, read_entries, read_rest, read_side}

drop_none : (b : ℕ) → ◌≡◌ {A = List ℕ} [] (drop b [])
drop_none zero = refl
drop_none (suc b) = refl

drop_more : (a b : ℕ) (xs : List ℕ) → drop (a + b) xs ≡ drop b (drop a xs)
drop_more zero b xs =
    let none : 0 + b ≡ b = omega arith in
    ap (λ k. drop k xs) none
drop_more (suc a) b [] =
    let one : suc a + b ≡ suc (a + b) = omega arith in
    ap (λ k. drop k []) one ∙ drop_none b
drop_more (suc a) b (x ∷ xs) =
    let one : suc a + b ≡ suc (a + b) = omega arith in
    ap (λ k. drop k (x ∷ xs)) one ∙ drop_more a b xs

abbrev Entry : Type 0
Entry = ℕ × List ℕ

-- the entry at a place
abbrev entry_at : ℕ → List ℕ → Entry
entry_at k bytes = (big_number 4 (drop k bytes), take page_width (drop 4 (drop k bytes)))

read_more : (m : ℕ) (bytes : List ℕ) → read_entries (suc m) bytes ≡ read_entries m bytes ++ entry_at (4100 * m) bytes ∷ []
read_more zero bytes = refl
read_more (suc m) bytes =
    let far : 4100 + 4100 * m ≡ 4100 * suc m = omega arith in
    let at : drop (4100 * m) (drop entry_width bytes) ≡ drop (4100 * suc m) bytes = sym (drop_more 4100 (4100 * m) bytes) ∙ ap (λ k. drop k bytes) far in
    let first : Entry = (big_number 4 bytes, take page_width (drop 4 bytes)) in
    ap (λ (r : List Entry). first ∷ r) (read_more m (drop entry_width bytes))
    ∙ ap (λ (d : List ℕ). first ∷ (read_entries m (drop entry_width bytes) ++ (big_number 4 d, take page_width (drop 4 d)) ∷ [])) at

pub entry_next : (width i at n : ℕ) (bytes page : List ℕ) (items : List (ℕ × List ℕ)) → items ≡ read_entries i (drop width bytes) → at ≡ width + 4100 * i → n ≡ big_number 4 (drop at bytes) → page ≡ take page_width (drop (at + 4) bytes)
    → items ++ (n, page) ∷ [] ≡ read_entries (i + 1) (drop width bytes)
entry_next width i at n bytes page items were is number read =
    let from : drop at bytes ≡ drop (4100 * i) (drop width bytes) = ap (λ k. drop k bytes) is ∙ drop_more width (4100 * i) bytes in
    let more : i + 1 ≡ suc i = omega arith in
    let page_is : page ≡ take page_width (drop 4 (drop (4100 * i) (drop width bytes))) = read ∙ ap (take page_width) (drop_more at 4 bytes ∙ ap (drop 4) from) in
    ap (λ (l : List Entry). l ++ (n, page) ∷ []) were
    ∙ ap (λ (k : ℕ). read_entries i (drop width bytes) ++ (k, page) ∷ []) (number ∙ ap (big_number 4) from)
    ∙ ap (λ (p : List ℕ). read_entries i (drop width bytes) ++ (big_number 4 (drop (4100 * i) (drop width bytes)), p) ∷ []) page_is
    ∙ sym (read_more i (drop width bytes))
    ∙ ap (λ (k : ℕ). read_entries k (drop width bytes)) (sym more)

-- the whole side file
pub side_is : (bytes : List ℕ) (long said count : ℕ) (rest : Option ℕ) (pages : List (ℕ × List ℕ)) → rest ≡ read_rest bytes → long ≡ big_number 4 (drop 12 bytes) → said ≡ big_number 4 (drop 16 bytes) → count ≡ said → pages ≡ read_entries count (drop (header_width rest) bytes)
    → ◌≡◌ {A = SideFile} (record { long = long; rest = rest; pages = pages }) (read_side bytes)
side_is bytes long said count rest pages is long_is said_is same read =
    let are : pages ≡ read_entries (big_number 4 (drop 16 bytes)) (drop (header_width (read_rest bytes)) bytes) =
    read ∙ ap (λ (k : ℕ). read_entries k (drop (header_width rest) bytes)) (same ∙ said_is) ∙ ap (λ (r : Option ℕ). read_entries (big_number 4 (drop 16 bytes)) (drop (header_width r) bytes)) is in
    λ i. record { long = long_is i; rest = is i; pages = are i }
