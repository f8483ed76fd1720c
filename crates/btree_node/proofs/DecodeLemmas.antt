-- A page that spells a node reads as that node, and passes every test; what passes them can stand.
use Rattle.std.proofs.Common.{◌≡◌, ℕ, ◌+◌, ◌-◌, ◌*◌, ◌^◌, ◌<◌, ◌≤◌, List, [], ◌∷◌, ◌++◌, map, length, get_or, replicate, slice_index, Some, IsSome, unwrap_or, refl, ap, sym, ◌∙◌, subst, append_assoc, arith, length-append, drop, suc}
use Rattle.std.specs.List.{flat_map, range_with_len, All}
use Rattle.std.proofs.lemmas.List.{get_or_default, length-replicate, append-nil, drop_at}
use Rattle.std.proofs.Math.Nat.{mul-le-mul_left, mul-add}
use Rattle.std.proofs.lemmas.List.FromFn.{length-map-range_with_len, get_or-map-range_with_len}
use Rattle.byteorder.specs.Endian.{big_bytes}
use Rattle.rec_types.specs.Padded.{padded}
use Rattle.rec_types.proofs.Padding.{length-padded}
use Rattle.btree_node.specs.declared.layout.Layout.{Layout}
use Rattle.btree_node.specs.declared.node.Node.{Node}
use Rattle.btree_node.specs.declared.node.NodeKind.{NodeKind}
use Rattle.btree_node.specs.declared.node.NodeKind.TheVariants.{Leaf, Inner}
use Rattle.btree_node.specs.declared.node.NodeFault.{NodeFault}
use Rattle.btree_node.specs.declared.node.NodeFault.TheVariants.{Kind, Count, KeyLength, RecordLength, Order, Son, NotZero}
use Rattle.btree_node.specs.Layout.{place_width, place_start, sons_start}
use Rattle.btree_node.specs.Lists.{Element, Each, Ascends}
use Rattle.btree_node.specs.Spelling.{place, head, sons_bytes, spelling_in, ElementFits, IsSon, SonsFit, CanStandIn, field}
use Rattle.btree_node.specs.Reading.{part, kind_at, count_at, place_at, key_length, record_length, element_in, elements_at, son_at, sons_at, sons_of_kind, kind_read, node_at, KeyLengths, RecordLengths, IsZero, PaddingIsZero, Passes, PassesBefore, FirstFaultIn}
use Rattle.btree_node.proofs.PagePartLemmas.{length-part, block_at, number_reads, number_fits, read_all, part_middle}
use Rattle.btree_node.proofs.ElementOrderLemmas.{Each_at, Each-map, Each_from}
use Rattle.btree_node.proofs.SpellingLemmas.{length-elements_at}
use Rattle.btree_node.proofs.WriterLemmas.{length-field}
use Rattle.btree_node.proofs.PaddingLemmas.{all_zero}
use Rattle.btree_node.proofs.PlaceLemmas.{length-place, key_length-place, record_length-place, element_in-place, places_within, element_in_fits}

pub length-head : (kind : NodeKind) (count : ℕ) → length (head kind count) ≡ 8
unfolding head
length-head kind count = refl

-- a list of blocks of one width
pub length-blocks : {X : Type 0} (f : X → List ℕ) (width : ℕ) (xs : List X) → Each (λ x. length (f x) ≡ width) xs → length (flat_map f xs) ≡ width * length xs
length-blocks f width [] each = omega arith
length-blocks f width (x ∷ xs) each = omega (arith, length-append (f x) (flat_map f xs), each.0, length-blocks f width xs each.1)

-- a page in three parts and zeros
grouped : (a e z b y : List ℕ) → (((a ++ e) ++ z) ++ b) ++ y ≡ a ++ (e ++ (z ++ (b ++ y)))
grouped a e z b y = simp append_assoc

behind_places : (a e z b y : List ℕ) → (((a ++ e) ++ z) ++ b) ++ y ≡ (a ++ e) ++ (z ++ (b ++ y))
behind_places a e z b y = simp append_assoc

-- the head and places of a spelling, and its sons
record Parts (layout : Layout) (k : ℕ) (page : List ℕ) (n : Node) : Type 0 where
  behind : List ℕ
  rest : List ℕ
  front : List ℕ
  as_places : page ≡ head n.kind (length n.elements.items) ++ (flat_map (place layout) n.elements.items ++ behind)
  as_sons : page ≡ front ++ (sons_bytes n.sons.items ++ rest)
  front_is : length front ≡ sons_start layout k
  gap : List ℕ
  last : List ℕ
  as_gap : page ≡ (head n.kind (length n.elements.items) ++ flat_map (place layout) n.elements.items) ++ (gap ++ last)
  gap_zero : IsZero gap
  gap_is : length gap ≡ place_width layout * (2 * k - length n.elements.items)
  places_end : length (head n.kind (length n.elements.items) ++ flat_map (place layout) n.elements.items) ≡ place_start layout (length n.elements.items)
  rest_zero : IsZero rest

pub widths : (layout : Layout) (els : List Element) → Each (ElementFits layout) els → Each (λ e. length (place layout e) ≡ place_width layout) els
widths layout els fit = Each-map (ElementFits layout) (λ e. length (place layout e) ≡ place_width layout) els (length-place layout) fit

parts : (layout : Layout) (k : ℕ) (page : List ℕ) (n : Node) → CanStandIn layout n k → page ≡ spelling_in layout n k → Parts layout k page n
unfolding spelling_in padded
parts layout k page n stands is =
    let count = length n.elements.items in
    let w = place_width layout in
    let h = head n.kind count in
    let e = flat_map (place layout) n.elements.items in
    let blocks : length e ≡ w * count = length-blocks (place layout) w n.elements.items (widths layout n.elements.items stands.fit) in
    let ends : length (h ++ e) ≡ place_start layout count = omega (arith, length-append h e, length-head n.kind count, blocks) in
    let size : length (h ++ e) ≤ sons_start layout k = omega (arith, ends, mul-le-mul_left w stands.most) in
    let split : 2 * k ≡ count + (2 * k - count) = omega (arith, stands.most) in
    let all_places : w * (2 * k) ≡ w * count + w * (2 * k - count) = ap (λ m. w * m) split ∙ mul-add w count (2 * k - count) in
    let z : List ℕ = replicate (sons_start layout k - length (h ++ e)) 0 in
    let b = sons_bytes n.sons.items in
    let y : List ℕ = replicate (4096 - length (((h ++ e) ++ z) ++ b)) 0 in
    record {
      behind = z ++ (b ++ y);
      rest = y;
      front = (h ++ e) ++ z;
      as_places = is ∙ grouped h e z b y;
      as_sons = is ∙ append_assoc ((h ++ e) ++ z) b y;
      front_is = length-padded (sons_start layout k) (h ++ e) size;
      gap = z;
      last = b ++ y;
      as_gap = is ∙ behind_places h e z b y;
      gap_zero = all_zero (sons_start layout k - length (h ++ e));
      gap_is = length-replicate (sons_start layout k - length (h ++ e)) 0 ∙ omega (arith, ends, all_places);
      places_end = ends;
      rest_zero = all_zero (4096 - length (((h ++ e) ++ z) ++ b));
    }

kind_at-head : (kind : NodeKind) (count : ℕ) (rest : List ℕ) → kind_at (head kind count ++ rest) ≡ Some kind
unfolding kind_at head
kind_at-head Leaf count rest = refl
kind_at-head Inner count rest = refl

count_part : (kind : NodeKind) (count : ℕ) (rest : List ℕ) → part 2 2 (head kind count ++ rest) ≡ big_bytes 2 count
unfolding part head
count_part kind count rest = refl

-- what a page that spells n reads as
pub record Reads (layout : Layout) (k : ℕ) (page : List ℕ) (n : Node) : Type 0 where
  pub kind : kind_at page ≡ Some n.kind
  pub count : count_at page ≡ length n.elements.items
  pub place_is : (i : ℕ) (d : Element) → i < length n.elements.items → place_at layout page i ≡ place layout (get_or n.elements.items i d)
  pub elements : elements_at layout page (count_at page) ≡ n.elements.items
  pub sons : sons_of_kind (kind_read page) layout k page (count_at page) ≡ n.sons.items

place_reads : (layout : Layout) (k : ℕ) (page : List ℕ) (n : Node) → CanStandIn layout n k → Parts layout k page n
    → (i : ℕ) (d : Element) → i < length n.elements.items → place_at layout page i ≡ place layout (get_or n.elements.items i d)
place_reads layout k page n stands p i d low =
    ap (part (place_start layout i) (place_width layout)) p.as_places
    ∙ block_at (place layout) (place_width layout) n.elements.items (head n.kind (length n.elements.items)) p.behind 8 i d (widths layout n.elements.items stands.fit) (length-head n.kind (length n.elements.items)) low

elements_read : (layout : Layout) (k : ℕ) (page : List ℕ) (n : Node) → CanStandIn layout n k → Parts layout k page n → elements_at layout page (length n.elements.items) ≡ n.elements.items
unfolding elements_at
elements_read layout k page n stands p =
    read_all (λ i. element_in (place_at layout page i)) n.elements.items
    (λ i d low. ap element_in (place_reads layout k page n stands p i d low)
    ∙ element_in-place layout (get_or n.elements.items i d) (Each_at (ElementFits layout) n.elements.items i (get_or n.elements.items i d) stands.fit low (get_or_default n.elements.items i d (get_or n.elements.items i d) low)))

pub son_widths : (sons : List ℕ) → Each (λ s. length (big_bytes 4 s) ≡ 4) sons
son_widths sons = Each_from (λ s. length (big_bytes 4 s) ≡ 4) sons (λ i d low. refl)

sons_read : (layout : Layout) (k : ℕ) (page : List ℕ) (n : Node) → Each IsSon n.sons.items → Parts layout k page n → sons_at layout k page (length n.sons.items) ≡ n.sons.items
unfolding sons_at sons_bytes
sons_read layout k page n each p =
    read_all (son_at layout k page) n.sons.items
    (λ j d low. let son = Each_at IsSon n.sons.items j (get_or n.sons.items j d) each low (get_or_default n.sons.items j d (get_or n.sons.items j d) low) in
    number_reads 4 (sons_start layout k + 4 * j) (get_or n.sons.items j d) page
    (ap (part (sons_start layout k + 4 * j) 4) p.as_sons ∙ block_at (big_bytes 4) 4 n.sons.items p.front p.rest (sons_start layout k) j d (son_widths n.sons.items) p.front_is low)
    son.most)

kind_sons : (kind : NodeKind) (layout : Layout) (k : ℕ) (page : List ℕ) (n : Node) → SonsFit kind (length n.elements.items) n.sons.items → Parts layout k page n → sons_of_kind kind layout k page (length n.elements.items) ≡ n.sons.items
kind_sons Leaf layout k page n fit p = sym fit
kind_sons Inner layout k page n fit p = ap (sons_at layout k page) (sym fit.0) ∙ sons_read layout k page n fit.1 p

-- a page that spells a node reads as it
pub reads : (layout : Layout) (k : ℕ) (page : List ℕ) (n : Node) → k ≤ 16 → CanStandIn layout n k → page ≡ spelling_in layout n k → Reads layout k page n
reads layout k page n small stands is =
    let p = parts layout k page n stands is in
    let kind : kind_at page ≡ Some n.kind = ap kind_at p.as_places ∙ kind_at-head n.kind (length n.elements.items) _ in
    let count : count_at page ≡ length n.elements.items =
    number_reads 2 2 (length n.elements.items) page (ap (part 2 2) p.as_places ∙ count_part n.kind (length n.elements.items) _) (omega (arith, stands.most)) in
    record {
      kind = kind;
      count = count;
      place_is = place_reads layout k page n stands p;
      elements = ap (elements_at layout page) count ∙ elements_read layout k page n stands p;
      sons = ap (λ o. sons_of_kind (unwrap_or o Leaf) layout k page (count_at page)) kind ∙ ap (sons_of_kind n.kind layout k page) count ∙ kind_sons n.kind layout k page n stands.sons p;
    }

-- the page reads as the node that it spells
pub node_reads : (layout : Layout) (k : ℕ) (page : List ℕ) (n : Node) → Reads layout k page n → node_at layout k page ≡ n
unfolding node_at
node_reads layout k page n r =
    let kind : kind_read page ≡ n.kind = ap (λ o. unwrap_or o Leaf) r.kind in
    λ i. record { kind = kind i; elements = record { items = r.elements i }; sons = record { items = r.sons i } }

no_zero_son : (kind : NodeKind) (count : ℕ) (sons : List ℕ) → SonsFit kind count sons → All (λ son. 0 < son) sons
no_zero_son Leaf count sons fit = λ i d low. absurd (omega (arith, ap length fit))
no_zero_son Inner count sons fit = λ i d low. (Each_at IsSon sons i (get_or sons i d) fit.1 low (get_or_default sons i d (get_or sons i d) low)).some

-- each element of a node that can stand fits a place
pub fits_at : (layout : Layout) (k : ℕ) (n : Node) → CanStandIn layout n k → (i : ℕ) (d : Element) → i < length n.elements.items → ElementFits layout (get_or n.elements.items i d)
fits_at layout k n stands i d low = Each_at (ElementFits layout) n.elements.items i (get_or n.elements.items i d) stands.fit low (get_or_default n.elements.items i d (get_or n.elements.items i d) low)

key_lengths : (layout : Layout) (k : ℕ) (page : List ℕ) (n : Node) → CanStandIn layout n k → Reads layout k page n → (i : ℕ) → i < length n.elements.items → (0 < key_length (place_at layout page i)) × (key_length (place_at layout page i) ≤ 16)
key_lengths layout k page n stands r i low =
    let e = get_or n.elements.items i ([], []) in
    let fits = fits_at layout k n stands i ([], []) low in
    let is : key_length (place_at layout page i) ≡ length e.0 = ap key_length (r.place_is i ([], []) low) ∙ key_length-place layout e in
    (omega (arith, is, fits.key_some), omega (arith, is, fits.key_most))

record_lengths : (layout : Layout) (k : ℕ) (page : List ℕ) (n : Node) → CanStandIn layout n k → Reads layout k page n → (i : ℕ) → i < length n.elements.items → record_length (place_at layout page i) ≤ layout.record_width
record_lengths layout k page n stands r i low =
    let e = get_or n.elements.items i ([], []) in
    let fits = fits_at layout k n stands i ([], []) low in
    let is : record_length (place_at layout page i) ≡ length e.1 = ap record_length (r.place_is i ([], []) low) ∙ record_length-place layout e fits in
    omega (arith, is, fits.record_most)

second_zero : (kind : NodeKind) (count : ℕ) (rest : List ℕ) → IsZero (part 1 1 (head kind count ++ rest))
unfolding part head
second_zero kind count rest = (refl, tt)

head_zero : (kind : NodeKind) (count : ℕ) (rest : List ℕ) → IsZero (part 4 4 (head kind count ++ rest))
unfolding part head
head_zero kind count rest = (refl, (refl, (refl, (refl, tt))))

-- what stands behind the sons
behind_sons : (layout : Layout) (k : ℕ) (page : List ℕ) (n : Node) (p : Parts layout k page n) → drop (sons_start layout k + 4 * length n.sons.items) page ≡ p.rest
unfolding sons_bytes
behind_sons layout k page n p =
    let b = flat_map (big_bytes 4) n.sons.items in
    let size : length b ≡ 4 * length n.sons.items = length-blocks (big_bytes 4) 4 n.sons.items (son_widths n.sons.items) in
    ap (drop (sons_start layout k + 4 * length n.sons.items)) (p.as_sons ∙ sym (append_assoc p.front b p.rest))
    ∙ drop_at (p.front ++ b) p.rest (sons_start layout k + 4 * length n.sons.items) (omega (arith, length-append p.front b, p.front_is, size))

-- a place up to the record, and the zeros past it
record_split : (layout : Layout) (e : Element) → place layout e ≡ (field 16 e.0 ++ length e.1 ∷ e.1) ++ (replicate (layout.record_width - length e.1) 0 ++ [])
unfolding place field padded
record_split layout e = simp (append_assoc, append-nil)

-- the zeros past a key and past a record
key_zero : (layout : Layout) (e : Element) → ElementFits layout e → IsZero (part (1 + length e.0) (16 - length e.0) (place layout e))
unfolding place field padded
key_zero layout e fits =
    let behind = field layout.record_width e.1 in
    let size : 1 + length e.0 ≡ suc (length e.0) = omega arith in
    subst IsZero
    (sym (ap (part (1 + length e.0) (16 - length e.0)) (ap (λ rest. length e.0 ∷ rest) (append_assoc e.0 (replicate (16 - length e.0) 0) behind))
    ∙ part_middle (1 + length e.0) (16 - length e.0) (length e.0 ∷ e.0) (replicate (16 - length e.0) 0) behind (sym size) (length-replicate (16 - length e.0) 0)))
    (all_zero (16 - length e.0))

record_zero : (layout : Layout) (e : Element) → ElementFits layout e → IsZero (part (18 + length e.1) (layout.record_width - length e.1) (place layout e))
unfolding place
record_zero layout e fits =
    let w = layout.record_width in
    let gap : List ℕ = replicate (w - length e.1) 0 in
    subst IsZero
    (sym (ap (part (18 + length e.1) (w - length e.1)) (record_split layout e)
    ∙ part_middle (18 + length e.1) (w - length e.1) (field 16 e.0 ++ length e.1 ∷ e.1) gap []
    (omega (arith, length-append (field 16 e.0) (length e.1 ∷ e.1), length-field 16 e.0 fits.key_most)) (length-replicate (w - length e.1) 0)))
    (all_zero (w - length e.1))

-- the padding of a page that spells a node
padding_zero : (layout : Layout) (k : ℕ) (page : List ℕ) (n : Node) → CanStandIn layout n k → Parts layout k page n → Reads layout k page n → PaddingIsZero layout k page (length n.elements.items) (length n.sons.items)
padding_zero layout k page n stands p r =
    let key_gap = λ (q : List ℕ). IsZero (part (1 + key_length q) (16 - key_length q) q) in
    let record_gap = λ (q : List ℕ). IsZero (part (18 + record_length q) (layout.record_width - record_length q) q) in
    record {
      second = subst (λ q. IsZero (part 1 1 q)) (sym p.as_places) (second_zero n.kind (length n.elements.items) _);
      head = subst (λ q. IsZero (part 4 4 q)) (sym p.as_places) (head_zero n.kind (length n.elements.items) _);
      keys = λ i low. let e = get_or n.elements.items i ([], []) in
          subst key_gap (sym (r.place_is i ([], []) low))
          (subst (λ m. IsZero (part (1 + m) (16 - m) (place layout e))) (sym (key_length-place layout e)) (key_zero layout e (fits_at layout k n stands i ([], []) low)));
      records = λ i low. let e = get_or n.elements.items i ([], []) in
          let fits = fits_at layout k n stands i ([], []) low in
          subst record_gap (sym (r.place_is i ([], []) low))
          (subst (λ m. IsZero (part (18 + m) (layout.record_width - m) (place layout e))) (sym (record_length-place layout e fits)) (record_zero layout e fits));
      places = subst IsZero
          (sym (ap (part (place_start layout (length n.elements.items)) (place_width layout * (2 * k - length n.elements.items))) p.as_gap
          ∙ part_middle (place_start layout (length n.elements.items)) (place_width layout * (2 * k - length n.elements.items)) _ p.gap p.last p.places_end p.gap_is))
          p.gap_zero;
      rest = subst IsZero (sym (behind_sons layout k page n p)) p.rest_zero;
    }

-- a page that spells a node passes every test
pub passes : (layout : Layout) (k : ℕ) (page : List ℕ) (n : Node) → CanStandIn layout n k → page ≡ spelling_in layout n k → Reads layout k page n → (fault : NodeFault) → Passes layout k page fault
unfolding Passes
passes layout k page n stands is r Kind = subst IsSome (sym r.kind) refl
passes layout k page n stands is r Count = (omega (arith, r.count, stands.some), omega (arith, r.count, stands.most))
passes layout k page n stands is r KeyLength = record {
  some = λ i low. (key_lengths layout k page n stands r i (omega (arith, r.count))).0;
  most = λ i low. (key_lengths layout k page n stands r i (omega (arith, r.count))).1;
}
passes layout k page n stands is r RecordLength = record { most = λ i low. record_lengths layout k page n stands r i (omega (arith, r.count)) }
passes layout k page n stands is r Order = subst Ascends (sym r.elements) stands.ascends
passes layout k page n stands is r Son = subst (All (λ son. 0 < son)) (sym r.sons) (no_zero_son n.kind (length n.elements.items) n.sons.items stands.sons)
passes layout k page n stands is r NotZero =
    subst (λ sons. PaddingIsZero layout k page (count_at page) (length sons)) (sym r.sons)
    (subst (λ count. PaddingIsZero layout k page count (length n.sons.items)) (sym r.count) (padding_zero layout k page n stands (parts layout k page n stands is) r))

-- what passes the tests but the last can stand
sons_stand : (kind : NodeKind) (layout : Layout) (k : ℕ) (page : List ℕ) (count : ℕ) → ((i : ℕ) → slice_index page i < 256) → All (λ son. 0 < son) (sons_of_kind kind layout k page count) → SonsFit kind count (sons_of_kind kind layout k page count)
unfolding sons_at
sons_stand Leaf layout k page count bytes some = refl
sons_stand Inner layout k page count bytes some = (
  length-map-range_with_len (son_at layout k page) 0 (count + 1),
  Each_from IsSon (map (son_at layout k page) (range_with_len 0 (count + 1)))
      (λ i d low. record {
        some = some i d low;
        most = subst (λ s. s < 2 ^ 32) (sym (get_or-map-range_with_len (son_at layout k page) 0 (count + 1) i i d (omega (arith, length-map-range_with_len (son_at layout k page) 0 (count + 1))) (omega arith)))
            (number_fits 4 (sons_start layout k + 4 * i) page bytes);
      }),
)

elements_fit : (layout : Layout) (page : List ℕ) (count : ℕ) → layout.record_width ≤ 100 → length page ≡ 4096 → count ≤ 32 → KeyLengths layout page count → RecordLengths layout page count → Each (ElementFits layout) (elements_at layout page count)
unfolding elements_at
elements_fit layout page count narrow size few keys records =
    let read = λ (i : ℕ). element_in (place_at layout page i) in
    Each_from (ElementFits layout) (map read (range_with_len 0 count))
    (λ i d low. let below : i < count = omega (arith, length-map-range_with_len read 0 count) in
    subst (ElementFits layout) (sym (get_or-map-range_with_len read 0 count i i d below (omega arith)))
    (element_in_fits layout (place_at layout page i) (length-part (place_start layout i) (place_width layout) page (omega (arith, size, places_within layout i narrow (omega arith)))) (keys.some i below) (keys.most i below) (records.most i below)))

stands : (layout : Layout) (k : ℕ) (page : List ℕ) → k ≤ 16 → layout.record_width ≤ 100 → length page ≡ 4096 → ((i : ℕ) → slice_index page i < 256) → PassesBefore layout k page NotZero → CanStandIn layout (node_at layout k page) k
unfolding node_at Passes
stands layout k page small narrow size bytes before =
    let count = length-elements_at layout page (count_at page) in
    record {
      some = omega (arith, count, before.1.0);
      most = omega (arith, count, before.1.1);
      fit = elements_fit layout page (count_at page) narrow size (omega (arith, before.1.1)) before.2 before.3;
      ascends = before.4;
      sons = subst (λ n. SonsFit (kind_read page) n (sons_of_kind (kind_read page) layout k page (count_at page))) (sym count) (sons_stand (kind_read page) layout k page (count_at page) bytes before.5);
    }

-- a page that spells a node has no fault
pub no_fault : (layout : Layout) (k : ℕ) (page : List ℕ) (n : Node) (fault : NodeFault) → k ≤ 16 → CanStandIn layout n k → page ≡ spelling_in layout n k → FirstFaultIn layout k page fault → ⊥
no_fault layout k page n fault small can is first = first.fails (passes layout k page n can is (reads layout k page n small can is) fault)

-- and reads as no other node
pub same_node : (layout : Layout) (k : ℕ) (page : List ℕ) (n m : Node) → k ≤ 16 → CanStandIn layout n k → page ≡ spelling_in layout n k → m ≡ node_at layout k page → m ≡ n
same_node layout k page n m small can is read = read ∙ node_reads layout k page n (reads layout k page n small can is)

-- what was read can stand
pub read_stands : (layout : Layout) (k : ℕ) (page : List ℕ) (m : Node) → k ≤ 16 → layout.record_width ≤ 100 → length page ≡ 4096 → ((i : ℕ) → slice_index page i < 256) → PassesBefore layout k page NotZero → m ≡ node_at layout k page → CanStandIn layout m k
read_stands layout k page m small narrow size bytes before read =
    subst (λ n. CanStandIn layout n k) (sym read) (stands layout k page small narrow size bytes before)
