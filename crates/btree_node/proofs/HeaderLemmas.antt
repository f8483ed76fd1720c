-- A page that spells a header reads as that header, and passes every test.
use Rattle.byteorder.specs.Endian.{big_bytes}
use Rattle.btree_node.proofs.PaddingLemmas.{zeros, all_zero, part-drop, two_bytes, four_bytes, one_byte}
use Rattle.std.proofs.lemmas.List.{drop_at, length-drop}
use Rattle.std.proofs.Common.{◌≡◌, ℕ, ◌-◌, ◌<◌, ◌^◌, List, [], ◌∷◌, ◌++◌, length, replicate, slice_index, refl, ap, sym, ◌∙◌, subst, arith, inl, inr, drop, append_assoc}
use Rattle.rec_types.specs.Padded.{padded}
use Rattle.btree_node.specs.declared.header.Header.{Header}
use Rattle.btree_node.specs.declared.header.HeaderFault.{HeaderFault}
use Rattle.btree_node.specs.declared.header.HeaderFault.TheVariants.{BadMagic, BadVersion, BadOrder, NotClean, BadHeader}
use Rattle.btree_node.specs.Layout.{IsVersion}
use Rattle.btree_node.specs.Reading.{part, number_at, IsZero}
use Rattle.btree_node.specs.HeaderSpelling.{magic, header_bytes, header_spelling, HeaderFits, header_at, state_at, version_at, HeaderPasses, HeaderPassesBefore, FirstHeaderFault, clean_state}
use Rattle.btree_node.proofs.PagePartLemmas.{number_reads, number_fits}

-- what a page that spells h reads as
pub record HeaderReads (page : List ℕ) (h : Header) (byte : ℕ) : Type 0 where
  pub text : part 0 8 page ≡ magic
  pub version : version_at page ≡ h.version
  pub order : number_at 2 10 page ≡ h.order
  pub pages : number_at 4 12 page ≡ h.pages
  pub root : number_at 4 16 page ≡ h.root
  pub count : number_at 4 20 page ≡ h.count
  pub state : state_at page ≡ byte

small_version : (version : ℕ) → IsVersion version → version < 2 ^ 16
small_version version is = elim is [
  | inl first ↦ omega (arith, first)
  | inr second ↦ omega (arith, second)
]

fields_read : (h : Header) (state : ℕ) (rest : List ℕ) → HeaderFits h → HeaderReads (header_bytes h state ++ rest) h state
unfolding header_bytes magic part state_at
fields_read h state rest fits = record {
  text = refl;
  version = number_reads 2 8 h.version (header_bytes h state ++ rest) refl (small_version h.version fits.version);
  order = number_reads 2 10 h.order (header_bytes h state ++ rest) refl (omega (arith, fits.order.1));
  pages = number_reads 4 12 h.pages (header_bytes h state ++ rest) refl fits.pages;
  root = number_reads 4 16 h.root (header_bytes h state ++ rest) refl fits.root;
  count = number_reads 4 20 h.count (header_bytes h state ++ rest) refl fits.count;
  state = refl;
}

padded_is : (width : ℕ) (bytes : List ℕ) → padded width bytes ≡ bytes ++ replicate (width - length bytes) 0
unfolding padded
padded_is width bytes = refl

-- a page that spells a header reads as it
pub header_reads : (page : List ℕ) (h : Header) (state : ℕ) → HeaderFits h → page ≡ header_spelling h state → HeaderReads page h state
unfolding header_spelling
header_reads page h state fits is =
    subst (λ p. HeaderReads p h state) (sym (is ∙ padded_is 4096 (header_bytes h state))) (fields_read h state _ fits)

-- its fields are the header's
pub fields_same : (page : List ℕ) (h : Header) (state : ℕ) → HeaderReads page h state → header_at page ≡ h
unfolding header_at
fields_same page h state r = λ i. record { version = r.version i; order = r.order i; pages = r.pages i; root = r.root i; count = r.count i }

length-header_bytes : (h : Header) (state : ℕ) → length (header_bytes h state) ≡ 25
unfolding header_bytes magic
length-header_bytes h state = refl

rest_zero : (page : List ℕ) (h : Header) (state : ℕ) → page ≡ header_spelling h state → IsZero (drop 25 page)
unfolding header_spelling
rest_zero page h state is =
    subst IsZero
    (sym (ap (drop 25) (is ∙ padded_is 4096 (header_bytes h state)) ∙ drop_at (header_bytes h state) (replicate (4096 - length (header_bytes h state)) 0) 25 (length-header_bytes h state)))
    (all_zero (4096 - length (header_bytes h state)))

-- eight parts
regrouped : (a b c d e f g y : List ℕ) → a ++ (b ++ (c ++ (d ++ (e ++ (f ++ (g ++ y)))))) ≡ (a ++ b ++ c ++ d ++ e ++ f ++ g) ++ y
regrouped a b c d e f g y = simp append_assoc

-- the page in its fields
in_fields : (page : List ℕ) → page ≡ part 0 8 page ++ (part 8 2 page ++ (part 10 2 page ++ (part 12 4 page ++ (part 16 4 page ++ (part 20 4 page ++ (part 24 1 page ++ drop 25 page))))))
in_fields page =
    sym (part-drop 0 8 page)
    ∙ ap (λ r. part 0 8 page ++ r) (sym (part-drop 8 2 page)
    ∙ ap (λ r. part 8 2 page ++ r) (sym (part-drop 10 2 page)
    ∙ ap (λ r. part 10 2 page ++ r) (sym (part-drop 12 4 page)
    ∙ ap (λ r. part 12 4 page ++ r) (sym (part-drop 16 4 page)
    ∙ ap (λ r. part 16 4 page ++ r) (sym (part-drop 20 4 page)
    ∙ ap (λ r. part 20 4 page ++ r) (sym (part-drop 24 1 page)))))))

same_fields : (a b c d e f g y a' b' c' d' e' f' g' : List ℕ) → a ≡ a' → b ≡ b' → c ≡ c' → d ≡ d' → e ≡ e' → f ≡ f' → g ≡ g'
    → a ++ (b ++ (c ++ (d ++ (e ++ (f ++ (g ++ y)))))) ≡ (a' ++ b' ++ c' ++ d' ++ e' ++ f' ++ g') ++ y
same_fields a b c d e f g y a' b' c' d' e' f' g' ea eb ec ed ee ef eg =
    regrouped a b c d e f g y ∙ cc

fields_are : (page : List ℕ) → length page ≡ 4096 → ((i : ℕ) → slice_index page i < 256) → part 0 8 page ≡ magic → state_at page ≡ clean_state → page ≡ header_bytes (header_at page) clean_state ++ drop 25 page
unfolding header_bytes header_at state_at
fields_are page size bytes text state =
    in_fields page
    ∙ same_fields _ _ _ _ _ _ _ (drop 25 page) magic (big_bytes 2 (version_at page)) (big_bytes 2 (number_at 2 10 page)) (big_bytes 4 (number_at 4 12 page)) (big_bytes 4 (number_at 4 16 page)) (big_bytes 4 (number_at 4 20 page)) (clean_state ∷ [])
    text
    (two_bytes 8 page bytes (omega arith))
    (two_bytes 10 page bytes (omega arith))
    (four_bytes 12 page bytes (omega arith))
    (four_bytes 16 page bytes (omega arith))
    (four_bytes 20 page bytes (omega arith))
    (one_byte 24 page (omega arith) ∙ ap (λ n. n ∷ []) state)

header_is : (page : List ℕ) → length page ≡ 4096 → ((i : ℕ) → slice_index page i < 256) → part 0 8 page ≡ magic → state_at page ≡ clean_state → IsZero (drop 25 page) → page ≡ header_spelling (header_at page) clean_state
unfolding header_spelling
header_is page size bytes text state none =
    fields_are page size bytes text state
    ∙ ap (λ y. header_bytes (header_at page) clean_state ++ y)
    (zeros (drop 25 page) none ∙ ap (λ n. replicate n 0) (omega (arith, size, length-drop 25 page, length-header_bytes (header_at page) clean_state)))
    ∙ sym (padded_is 4096 (header_bytes (header_at page) clean_state))

-- the page is the spelling of what it reads as
pub header_spelled : (page : List ℕ) → length page ≡ 4096 → ((i : ℕ) → slice_index page i < 256) → HeaderPassesBefore page BadHeader → HeaderPasses page BadHeader → page ≡ header_spelling (header_at page) clean_state
unfolding HeaderPasses
header_spelled page size bytes before last =
    elim last.0 [
      | inl clean ↦ header_is page size bytes before.0 clean last.1
      | inr writing ↦ absurd (before.3 writing)
    ]

header_passes : (page : List ℕ) (h : Header) → HeaderFits h → page ≡ header_spelling h clean_state → HeaderReads page h clean_state → (fault : HeaderFault) → HeaderPasses page fault
unfolding HeaderPasses
header_passes page h fits is r BadMagic = r.text
header_passes page h fits is r (BadVersion version) = subst IsVersion (sym r.version) fits.version
header_passes page h fits is r BadOrder = (omega (arith, r.order, fits.order.0), omega (arith, r.order, fits.order.1))
header_passes page h fits is r NotClean = λ writing. absurd (omega (arith, r.state, writing))
header_passes page h fits is r BadHeader = (inl r.state, rest_zero page h clean_state is)

-- a page that spells a header has no fault
pub no_header_fault : (page : List ℕ) (h : Header) (fault : HeaderFault) → HeaderFits h → page ≡ header_spelling h clean_state → FirstHeaderFault page fault → ⊥
no_header_fault page h fault fits is first = first.fails (header_passes page h fits is (header_reads page h clean_state fits is) fault)

-- and reads as no other header
pub same_header : (page : List ℕ) (h g : Header) → HeaderFits h → page ≡ header_spelling h clean_state → g ≡ header_at page → g ≡ h
same_header page h g fits is read = read ∙ fields_same page h clean_state (header_reads page h clean_state fits is)

-- what was read fits
pub read_fits : (page : List ℕ) (g : Header) → ((i : ℕ) → slice_index page i < 256) → HeaderPassesBefore page BadHeader → g ≡ header_at page → HeaderFits g
unfolding header_at HeaderPasses
read_fits page g bytes before read = subst HeaderFits (sym read) record {
  version = before.1;
  order = before.2;
  pages = number_fits 4 12 page bytes;
  root = number_fits 4 16 page bytes;
  count = number_fits 4 20 page bytes;
}

-- seven parts written one behind the other
pub written_in_turn : (p0 p1 p2 p3 p4 p5 p6 p7 text version order pages root count : List ℕ) (byte state : ℕ)
    → p0 ≡ [] → p1 ≡ p0 ++ text → p2 ≡ p1 ++ version → p3 ≡ p2 ++ order → p4 ≡ p3 ++ pages → p5 ≡ p4 ++ root → p6 ≡ p5 ++ count → p7 ≡ p6 ++ byte ∷ [] → byte ≡ state
    → p7 ≡ text ++ version ++ order ++ pages ++ root ++ count ++ (state ∷ [])
written_in_turn p0 p1 p2 p3 p4 p5 p6 p7 text version order pages root count byte state e0 e1 e2 e3 e4 e5 e6 e7 e8 =
    let first : p1 ≡ text = e1 ∙ ap (λ p. p ++ text) e0 in
    cc
