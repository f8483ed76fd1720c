-- A page that passes every test is the spelling of the node that stands at its fixed places.
use Rattle.std.proofs.Common.{◌≡◌, ℕ, ◌+◌, ◌-◌, ◌*◌, ◌<◌, ◌≤◌, Bool, true, false, cond, eqb, List, [], ◌∷◌, ◌++◌, length, drop, replicate, slice_index, Some, None, IsSome, unwrap_or, refl, ap, sym, ◌∙◌, append_assoc, arith, length-append}
use Rattle.std.specs.List.{flat_map}
use Rattle.std.proofs.lemmas.Bool.{eqb-true, false≢true}
use Rattle.std.proofs.lemmas.List.{append-nil, drop_all, length-drop}
use Rattle.std.proofs.lemmas.List.FromFn.{length-map-range_with_len}
use Rattle.std.proofs.Math.Nat.{mul-add}
use Rattle.byteorder.specs.Endian.{big_bytes}
use Rattle.rec_types.specs.Padded.{padded}
use Rattle.rec_types.proofs.Padding.{length-padded}
use Rattle.btree_node.specs.declared.layout.Layout.{Layout}
use Rattle.btree_node.specs.declared.node.NodeKind.{NodeKind}
use Rattle.btree_node.specs.declared.node.NodeKind.TheVariants.{Leaf, Inner}
use Rattle.btree_node.specs.declared.node.NodeFault.TheVariants.{NotZero}
use Rattle.btree_node.specs.Layout.{place_width, place_start, sons_start}
use Rattle.btree_node.specs.Spelling.{field, place, kind_byte, head, sons_bytes, spelling_in}
use Rattle.btree_node.specs.Reading.{part, kind_at, count_at, place_at, key_length, record_length, element_in, elements_at, son_at, sons_at, sons_of_kind, kind_read, node_at, KeyLengths, RecordLengths, IsZero, PaddingIsZero, Passes, PassesBefore}
use Rattle.btree_node.proofs.PagePartLemmas.{length-part}
use Rattle.btree_node.proofs.PlaceLemmas.{places_within}
use Rattle.btree_node.proofs.PaddingLemmas.{zeros, part-drop, part-part, blocks_are, two_bytes, four_bytes, one_byte, zero_part}

-- a field whose rest is zero
field_is : (at width len : ℕ) (page : List ℕ) → at + width ≤ length page → len ≤ width → IsZero (part (at + len) (width - len) page) → part at width page ≡ padded width (part at len page)
unfolding padded
field_is at width len page within short none =
    let whole : width ≡ len + (width - len) = omega arith in
    ap (λ n. part at n page) whole ∙ part-part at len (width - len) page
    ∙ ap (λ back. part at len page ++ back) (zero_part (at + len) (width - len) page (omega arith) none ∙ ap (λ n. replicate (width - n) 0) (sym (length-part at len page (omega arith))))

-- a place
place_is : (layout : Layout) (p : List ℕ) → length p ≡ place_width layout → key_length p ≤ 16 → record_length p ≤ layout.record_width
    → IsZero (part (1 + key_length p) (16 - key_length p) p) → IsZero (part (18 + record_length p) (layout.record_width - record_length p) p) → p ≡ place layout (element_in p)
unfolding place field element_in key_length record_length
place_is layout p size key_short record_short key_zero record_zero =
    let kl = slice_index p 0 in
    let rl = slice_index p 17 in
    let w = layout.record_width in
    let key = part 1 kl p in
    let value = part 18 rl p in
    let k_is : kl ≡ length key = sym (length-part 1 kl p (omega arith)) in
    let v_is : rl ≡ length value = sym (length-part 18 rl p (omega arith)) in
    let key_field = field_is 1 16 kl p (omega arith) key_short key_zero in
    let value_field = field_is 18 w rl p (omega arith) record_short record_zero in
    let none : drop (18 + w) p ≡ [] = drop_all (18 + w) p (omega arith) in
    sym (part-drop 0 1 p)
    ∙ ap (λ front. front ++ drop 1 p) (one_byte 0 p (omega arith) ∙ ap (λ n. n ∷ []) k_is)
    ∙ ap (λ rest. length key ∷ rest)
    (sym (part-drop 1 16 p)
    ∙ ap (λ front. front ++ drop 17 p) key_field
    ∙ ap (λ rest. padded 16 key ++ rest)
    (sym (part-drop 17 1 p)
    ∙ ap (λ front. front ++ drop 18 p) (one_byte 17 p (omega arith) ∙ ap (λ n. n ∷ []) v_is)
    ∙ ap (λ rest. length value ∷ rest) (sym (part-drop 18 w p) ∙ ap (λ back. part 18 w p ++ back) none ∙ append-nil (part 18 w p) ∙ value_field)))

-- the first byte
kind_case : (b : ℕ) (t u : Bool) → (t ≡ true → b ≡ 1) → (u ≡ true → b ≡ 2) → IsSome (cond t (Some Leaf) (cond u (Some Inner) None)) → b ≡ kind_byte (unwrap_or (cond t (Some Leaf) (cond u (Some Inner) None)) Leaf)
kind_case b true u one two some = one refl
kind_case b false true one two some = two refl
kind_case b false false one two some = absurd (false≢true some)

kind_is : (page : List ℕ) → IsSome (kind_at page) → slice_index page 0 ≡ kind_byte (kind_read page)
unfolding kind_at
kind_is page some = kind_case (slice_index page 0) (eqb (slice_index page 0) 1) (eqb (slice_index page 0) 2) (eqb-true (slice_index page 0) 1) (eqb-true (slice_index page 0) 2) some

head_is : (page : List ℕ) → ((i : ℕ) → slice_index page i < 256) → 8 ≤ length page → IsSome (kind_at page) → IsZero (part 1 1 page) → IsZero (part 4 4 page) → part 0 8 page ≡ head (kind_read page) (count_at page)
unfolding head
head_is page bytes within some second last =
    part-part 0 1 7 page
    ∙ ap (λ front. front ++ part 1 7 page) (one_byte 0 page (omega arith) ∙ ap (λ n. n ∷ []) (kind_is page some))
    ∙ ap (λ rest. kind_byte (kind_read page) ∷ rest)
    (part-part 1 1 6 page
    ∙ ap (λ front. front ++ part 2 6 page) (zero_part 1 1 page (omega arith) second)
    ∙ ap (λ rest. 0 ∷ rest)
    (part-part 2 2 4 page
    ∙ ap (λ front. front ++ part 4 4 page) (two_bytes 2 page bytes (omega arith))
    ∙ ap (λ back. big_bytes 2 (count_at page) ++ back) (zero_part 4 4 page (omega arith) last)))

-- at most one son more than keys
pub length-sons : (kind : NodeKind) (layout : Layout) (k : ℕ) (page : List ℕ) (count : ℕ) → length (sons_of_kind kind layout k page count) ≤ count + 1
unfolding sons_at
length-sons Leaf layout k page count = omega arith
length-sons Inner layout k page count = omega (arith, length-map-range_with_len (son_at layout k page) 0 (count + 1))

sons_are : (kind : NodeKind) (layout : Layout) (k : ℕ) (page : List ℕ) (count : ℕ) → ((i : ℕ) → slice_index page i < 256) → sons_start layout k + 4 * (count + 1) ≤ length page
    → part (sons_start layout k) (4 * length (sons_of_kind kind layout k page count)) page ≡ sons_bytes (sons_of_kind kind layout k page count)
unfolding sons_bytes sons_at part
sons_are Leaf layout k page count bytes within = refl
sons_are Inner layout k page count bytes within =
    ap (λ n. part (sons_start layout k) (4 * n) page) (length-map-range_with_len (son_at layout k page) 0 (count + 1))
    ∙ blocks_are (big_bytes 4) (son_at layout k page) (sons_start layout k) 4 (count + 1) page (λ j low. four_bytes (sons_start layout k + 4 * j) page bytes (omega arith))

elements_are : (layout : Layout) (k : ℕ) (page : List ℕ) (count sons : ℕ) → layout.record_width ≤ 100 → length page ≡ 4096 → count ≤ 32 → KeyLengths layout page count → RecordLengths layout page count → PaddingIsZero layout k page count sons
    → part 8 (place_width layout * count) page ≡ flat_map (place layout) (elements_at layout page count)
unfolding elements_at
elements_are layout k page count sons narrow size few keys records padding =
    blocks_are (place layout) (λ i. element_in (place_at layout page i)) 8 (place_width layout) count page
    (λ i low. place_is layout (place_at layout page i) (length-part (place_start layout i) (place_width layout) page (omega (arith, places_within layout i narrow (omega arith))))
    (keys.most i low) (records.most i low) (padding.keys i low) (padding.records i low))

-- five parts, the third and the last zeros
joined : (page h e z b y : List ℕ) (start width : ℕ) → page ≡ h ++ (e ++ (z ++ (b ++ y))) → z ≡ replicate (start - length (h ++ e)) 0 → y ≡ replicate (width - length (padded start (h ++ e) ++ b)) 0 → page ≡ padded width (padded start (h ++ e) ++ b)
unfolding padded
joined page h e z b y start width is middle last =
    is
    ∙ ap (λ x. h ++ (e ++ (x ++ (b ++ y)))) middle
    ∙ ap (λ x. h ++ (e ++ (replicate (start - length (h ++ e)) 0 ++ (b ++ x)))) last
    ∙ simp (← append_assoc)

-- the page in its five parts
in_parts : (layout : Layout) (k : ℕ) (page : List ℕ) (count sons : ℕ) → count ≤ 2 * k
    → page ≡ part 0 8 page ++ (part 8 (place_width layout * count) page ++ (part (place_start layout count) (place_width layout * (2 * k - count)) page ++ (part (sons_start layout k) (4 * sons) page ++ drop (sons_start layout k + 4 * sons) page)))
in_parts layout k page count sons few =
    let w = place_width layout in
    let split : 2 * k ≡ count + (2 * k - count) = omega arith in
    let all_places : w * (2 * k) ≡ w * count + w * (2 * k - count) = ap (λ n. w * n) split ∙ mul-add w count (2 * k - count) in
    let start : place_start layout count + w * (2 * k - count) ≡ sons_start layout k = omega (arith, all_places) in
    sym (part-drop 0 8 page)
    ∙ ap (λ rest. part 0 8 page ++ rest)
    (sym (part-drop 8 (w * count) page)
    ∙ ap (λ rest. part 8 (w * count) page ++ rest)
    (sym (part-drop (place_start layout count) (w * (2 * k - count)) page)
    ∙ ap (λ rest. part (place_start layout count) (w * (2 * k - count)) page ++ rest)
    (ap (λ n. drop n page) start ∙ sym (part-drop (sons_start layout k) (4 * sons) page))))

-- five parts of known widths
assembled : (page h e z b y : List ℕ) (start w c d s : ℕ) → page ≡ h ++ (e ++ (z ++ (b ++ y))) → length page ≡ 4096
    → length h ≡ 8 → length e ≡ w * c → length b ≡ 4 * s → start ≡ 8 + w * c + w * d → start + 4 * s ≤ 4096
    → z ≡ replicate (w * d) 0 → y ≡ replicate (4096 - (start + 4 * s)) 0 → page ≡ padded 4096 (padded start (h ++ e) ++ b)
assembled page h e z b y start w c d s is size h_is e_is b_is start_is within middle last =
    let front : length (padded start (h ++ e)) ≡ start = length-padded start (h ++ e) (omega (arith, length-append h e)) in
    let gap : w * d ≡ start - length (h ++ e) = omega (arith, length-append h e) in
    let rest : 4096 - (start + 4 * s) ≡ 4096 - length (padded start (h ++ e) ++ b) = omega (arith, length-append (padded start (h ++ e)) b) in
    joined page h e z b y start 4096 is (middle ∙ ap (λ n. replicate n 0) gap) (last ∙ ap (λ n. replicate n 0) rest)

-- as many elements as the head names
pub length-elements_at : (layout : Layout) (page : List ℕ) (count : ℕ) → length (elements_at layout page count) ≡ count
unfolding elements_at
length-elements_at layout page count = length-map-range_with_len (λ i. element_in (place_at layout page i)) 0 count

-- the page is the spelling of what it reads as
pub spelled : (layout : Layout) (k : ℕ) (page : List ℕ) → k ≤ 16 → layout.record_width ≤ 100 → length page ≡ 4096 → ((i : ℕ) → slice_index page i < 256) → PassesBefore layout k page NotZero → Passes layout k page NotZero → page ≡ spelling_in layout (node_at layout k page) k
unfolding spelling_in node_at Passes
spelled layout k page small narrow size bytes before padding =
    let c = count_at page in
    let w = place_width layout in
    let start = sons_start layout k in
    let list = sons_of_kind (kind_read page) layout k page c in
    let s = length list in
    let few : c ≤ 2 * k = before.1.1 in
    let start_most : start ≤ 3784 = places_within layout (2 * k) narrow (omega arith) in
    let sons_most : s ≤ c + 1 = length-sons (kind_read page) layout k page c in
    let split : 2 * k ≡ c + (2 * k - c) = omega arith in
    let all_places : w * (2 * k) ≡ w * c + w * (2 * k - c) = ap (λ n. w * n) split ∙ mul-add w c (2 * k - c) in
    let h_is : part 0 8 page ≡ head (kind_read page) c = head_is page bytes (omega arith) before.0 padding.second padding.head in
    let e_is : part 8 (w * c) page ≡ flat_map (place layout) (elements_at layout page c) = elements_are layout k page c s narrow size (omega arith) before.2 before.3 padding in
    let b_is : part start (4 * s) page ≡ sons_bytes list = sons_are (kind_read page) layout k page c bytes (omega arith) in
    let e_size : length (part 8 (w * c) page) ≡ w * c = length-part 8 (w * c) page (omega arith) in
    assembled page (head (kind_read page) c) (flat_map (place layout) (elements_at layout page c)) (part (place_start layout c) (w * (2 * k - c)) page) (sons_bytes list) (drop (start + 4 * s) page) start w c (2 * k - c) s
    (in_parts layout k page c s few
    ∙ ap (λ x. x ++ (part 8 (w * c) page ++ (part (place_start layout c) (w * (2 * k - c)) page ++ (part start (4 * s) page ++ drop (start + 4 * s) page)))) h_is
    ∙ ap (λ x. head (kind_read page) c ++ (x ++ (part (place_start layout c) (w * (2 * k - c)) page ++ (part start (4 * s) page ++ drop (start + 4 * s) page)))) e_is
    ∙ ap (λ x. head (kind_read page) c ++ (flat_map (place layout) (elements_at layout page c) ++ (part (place_start layout c) (w * (2 * k - c)) page ++ (x ++ drop (start + 4 * s) page)))) b_is)
    size
    (sym (ap length h_is) ∙ length-part 0 8 page (omega arith))
    (sym (ap length e_is) ∙ e_size)
    (sym (ap length b_is) ∙ length-part start (4 * s) page (omega arith))
    (omega (arith, all_places))
    (omega arith)
    (zero_part (place_start layout c) (w * (2 * k - c)) page (omega (arith, all_places)) padding.places)
    (zeros (drop (start + 4 * s) page) padding.rest ∙ ap (λ n. replicate n 0) (omega (arith, length-drop (start + 4 * s) page)))
    ∙ ap (λ n. padded 4096 (padded start (head (kind_read page) n ++ flat_map (place layout) (elements_at layout page c)) ++ sons_bytes list)) (sym (length-elements_at layout page c))
