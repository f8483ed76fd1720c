-- What stands at the places of a page that spells a node.
use Rattle.std.proofs.Common.{◌≡◌, ℕ, zero, suc, ◌+◌, ◌-◌, ◌<◌, ◌≤◌, List, [], ◌∷◌, ◌++◌, length, get_or, take, drop, replicate, slice_index, unwrap_or, refl, ap, sym, ◌∙◌, subst, append_assoc, arith, length-append}
use Rattle.std.proofs.lemmas.List.{get_or-drop, drop_at, take_at, take_all}
use Rattle.std.proofs.lemmas.List.FromFn.{get_or-map-range_with_len}
use Rattle.rec_types.specs.Padded.{padded, IsZeroFrom}
use Rattle.rec_types.proofs.Padding.{length-padded, take-padded}
use Rattle.btree_node.specs.Layout.{second_layout}
use Rattle.btree_node.specs.Lists.{Element}
use Rattle.btree_node.specs.Reading.{part, kind_read, count_at, place_at, key_length, record_length, son_at, sons_at, sons_of_kind}
use Rattle.btree_node.specs.Spelling.{field, place, spelling, SonsFit, CanStand, IsElement, IsSpelt}
use Rattle.btree_node.specs.declared.node.Node.{Node}
use Rattle.btree_node.specs.declared.node.NodeKind.{NodeKind}
use Rattle.btree_node.specs.declared.node.NodeKind.TheVariants.{Leaf, Inner}
use Rattle.btree_node.proofs.DecodeLemmas.{reads, fits_at}
use Rattle.btree_node.proofs.PlaceLemmas.{key_length-place, record_length-place}

-- the page names as many keys as the node has
pub count_spelt : (k : ℕ) (page : List ℕ) (n : Node) → k ≤ 16 → CanStand n k → page ≡ spelling n k → count_at page ≡ length n.elements.items
count_spelt k page n small can is = (reads second_layout k page n small can is).count

-- they are no more than there are places
pub few_places : (k : ℕ) (page : List ℕ) → k ≤ 16 → IsSpelt k page → count_at page ≤ 32
few_places k page small spelt = omega (arith, count_spelt k page spelt.0 small spelt.1 spelt.2, spelt.1.most)

zeros_at : (n j : ℕ) → slice_index (replicate n 0) j ≡ 0
zeros_at zero j = refl
zeros_at (suc n) zero = refl
zeros_at (suc n) (suc j) = zeros_at n j

zero_behind : (width : ℕ) (bytes : List ℕ) → IsZeroFrom (length bytes) (padded width bytes)
unfolding padded
zero_behind width bytes i low =
    let zeros : List ℕ = replicate (width - length bytes) 0 in
    let moved : length bytes + (i - length bytes) ≡ i = omega (arith, low) in
    ap (slice_index (bytes ++ zeros)) (sym moved)
    ∙ sym (get_or-drop (length bytes) (bytes ++ zeros) (i - length bytes) 0)
    ∙ ap (λ (xs : List ℕ). slice_index xs (i - length bytes)) (drop_at bytes zeros (length bytes) refl)
    ∙ zeros_at (width - length bytes) (i - length bytes)

key_field : (e : Element) → IsElement e → part 1 16 (place second_layout e) ≡ padded 16 e.0
unfolding place field part
key_field e fits = take_at (padded 16 e.0) (length e.1 ∷ padded 100 e.1) 16 (length-padded 16 e.0 fits.key_most)

record_field : (e : Element) → IsElement e → part 18 100 (place second_layout e) ≡ padded 100 e.1
unfolding place field part
record_field e fits =
    let behind : drop 17 (padded 16 e.0 ++ length e.1 ∷ padded 100 e.1) ≡ padded 100 e.1 =
    ap (drop 17) (sym (append_assoc (padded 16 e.0) (length e.1 ∷ []) (padded 100 e.1)))
    ∙ drop_at (padded 16 e.0 ++ length e.1 ∷ []) (padded 100 e.1) 17 (omega (arith, length-append (padded 16 e.0) (length e.1 ∷ []), length-padded 16 e.0 fits.key_most)) in
    ap (take 100) behind ∙ take_all 100 (padded 100 e.1) (omega (arith, length-padded 100 e.1 fits.record_most))

-- what a field is where it is taken from a place
pub record Field (width len : ℕ) (bytes cells : List ℕ) : Type 0 where
  pub len_is : len ≡ length bytes
  pub fits : len ≤ width
  pub zeros : IsZeroFrom len cells
  pub front : take len cells ≡ bytes

field_of : (width len : ℕ) (bytes cells : List ℕ) → len ≡ length bytes → length bytes ≤ width → cells ≡ padded width bytes → Field width len bytes cells
field_of width len bytes cells len_is fits is = record {
  len_is = len_is;
  fits = omega (arith, len_is, fits);
  zeros = subst (λ n. IsZeroFrom n cells) (sym len_is) (subst (IsZeroFrom (length bytes)) (sym is) (zero_behind width bytes));
  front = ap (λ n. take n cells) len_is ∙ ap (take (length bytes)) is ∙ take-padded width bytes;
}

place_spelt : (k : ℕ) (page : List ℕ) (n : Node) (i : ℕ) (d : Element) → k ≤ 16 → CanStand n k → page ≡ spelling n k → i < count_at page → (place_at second_layout page i ≡ place second_layout (get_or n.elements.items i d)) × IsElement (get_or n.elements.items i d)
place_spelt k page n i d small can is low =
    let r = reads second_layout k page n small can is in
    let within : i < length n.elements.items = omega (arith, low, r.count) in
    (r.place_is i d within, fits_at second_layout k n can i d within)

-- the key at a place
pub key_spelt : (k : ℕ) (page here cells : List ℕ) (n : Node) (i : ℕ) (d : Element) → k ≤ 16 → CanStand n k → page ≡ spelling n k → i < count_at page
    → here ≡ place_at second_layout page i → cells ≡ part 1 16 here → (0 < slice_index here 0) × Field 16 (slice_index here 0) (get_or n.elements.items i d).0 cells
unfolding key_length
key_spelt k page here cells n i d small can is low here_is cells_is =
    let p = place_spelt k page n i d small can is low in
    let e = get_or n.elements.items i d in
    let len : slice_index here 0 ≡ length e.0 = ap key_length (here_is ∙ p.0) ∙ key_length-place second_layout e in
    (omega (arith, len, p.1.key_some), field_of 16 (slice_index here 0) e.0 cells len p.1.key_most (cells_is ∙ ap (part 1 16) (here_is ∙ p.0) ∙ key_field e p.1))

-- the record at a place
pub record_spelt : (k : ℕ) (page here cells : List ℕ) (n : Node) (i : ℕ) (d : Element) → k ≤ 16 → CanStand n k → page ≡ spelling n k → i < count_at page
    → here ≡ place_at second_layout page i → cells ≡ part 18 100 here → Field 100 (slice_index here 17) (get_or n.elements.items i d).1 cells
unfolding record_length
record_spelt k page here cells n i d small can is low here_is cells_is =
    let p = place_spelt k page n i d small can is low in
    let e = get_or n.elements.items i d in
    let len : slice_index here 17 ≡ length e.1 = ap record_length (here_is ∙ p.0) ∙ record_length-place second_layout e p.1 in
    field_of 100 (slice_index here 17) e.1 cells len p.1.record_most (cells_is ∙ ap (part 18 100) (here_is ∙ p.0) ∙ record_field e p.1)

-- the kind of the node
pub kind_spelt : (k : ℕ) (page : List ℕ) (n : Node) → k ≤ 16 → CanStand n k → page ≡ spelling n k → kind_read page ≡ n.kind
kind_spelt k page n small can is = ap (λ o. unwrap_or o Leaf) (reads second_layout k page n small can is).kind

-- a son of the node
son_of_kind : (kind : NodeKind) (k : ℕ) (page : List ℕ) (sons : List ℕ) (count j d : ℕ) → SonsFit kind count sons → sons_of_kind kind second_layout k page count ≡ sons → j < length sons → son_at second_layout k page j ≡ get_or sons j d
unfolding sons_at
son_of_kind Leaf k page sons count j d fit is low = absurd (omega (arith, ap length fit, low))
son_of_kind Inner k page sons count j d fit is low =
    sym (get_or-map-range_with_len (son_at second_layout k page) 0 (count + 1) j j d (omega (arith, fit.0, low)) (omega arith)) ∙ ap (λ (xs : List ℕ). get_or xs j d) is

-- a son is read at its place
pub son_spelt : (k : ℕ) (page : List ℕ) (n : Node) (j d : ℕ) → k ≤ 16 → CanStand n k → page ≡ spelling n k → j < length n.sons.items → son_at second_layout k page j ≡ get_or n.sons.items j d
son_spelt k page n j d small can is low =
    let r = reads second_layout k page n small can is in
    son_of_kind n.kind k page n.sons.items (length n.elements.items) j d can.sons
    (ap (λ m. sons_of_kind n.kind second_layout k page m) (sym r.count) ∙ ap (λ kind. sons_of_kind kind second_layout k page (count_at page)) (sym (kind_spelt k page n small can is)) ∙ r.sons) low
