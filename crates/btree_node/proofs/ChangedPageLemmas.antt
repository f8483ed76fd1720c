-- What a page spells after some of its bytes are written over.
use Rattle.std.proofs.Common.{◌≡◌, ℕ, zero, suc, ◌+◌, ◌-◌, ◌*◌, ◌<◌, ◌≤◌, List, [], ◌∷◌, ◌++◌, length, take, drop, replicate, get_or, set, refl, ap, sym, ◌∙◌, append_assoc, arith, length-append, length-drop, take-add}
use Rattle.std.specs.List.{flat_map, insert, remove}
use Rattle.std.proofs.lemmas.List.{take_at, drop_at, drop-drop, length-take-le, length-replicate, length-set, take-append-drop, replicate-append-replicate}
use Rattle.std.proofs.lemmas.List.Edits.{length-insert, length-remove}
use Rattle.std.proofs.lemmas.List.Concat.{flat_map-append}
use Rattle.std.proofs.Math.Seq.{set_split, drop-cons}
use Rattle.std.proofs.Math.Nat.{mul-suc, mul-le-mul_left}
use lib.Seq.{paste}
use borrow.Rule.Slice.PartMut.{put_mid, mid_of}
use Rattle.byteorder.specs.Endian.{big_bytes}
use Rattle.rec_types.specs.Padded.{padded}
use Rattle.btree_node.specs.declared.node.Node.{Node}
use Rattle.btree_node.specs.declared.node.NodeKind.{NodeKind}
use Rattle.btree_node.specs.Layout.{second_layout, sons_start}
use Rattle.btree_node.specs.Lists.{Element, Each}
use Rattle.btree_node.specs.Reading.{part}
use Rattle.btree_node.specs.Spelling.{field, head, place, sons_bytes, spelling, spelling_in, IsElement, CanStand}
use Rattle.btree_node.specs.Written.{put_at, with_elements}
use Rattle.btree_node.proofs.DecodeLemmas.{length-head, length-blocks, widths, fits_at}
use Rattle.btree_node.proofs.PagePartLemmas.{part_middle}
use Rattle.btree_node.proofs.PlaceLemmas.{length-place}
use Rattle.btree_node.proofs.WriterLemmas.{length-field}

-- bytes over as many in the middle of a page
pub put_middle : (at : ℕ) (pre old new post : List ℕ) → length pre ≡ at → length old ≡ length new → put_at at new (pre ++ (old ++ post)) ≡ pre ++ (new ++ post)
unfolding put_at
put_middle at pre old new post before same =
    let front : take at (pre ++ (old ++ post)) ≡ pre = take_at pre (old ++ post) at before in
    let back : drop (at + length new) (pre ++ (old ++ post)) ≡ post =
    ap (drop (at + length new)) (sym (append_assoc pre old post)) ∙ drop_at (pre ++ old) post (at + length new) (omega (arith, length-append pre old)) in
    rw (front, back) refl

-- bytes, and then others behind them
pub put_next : (at : ℕ) (xs ys page : List ℕ) → at + length xs ≤ length page → put_at (at + length xs) ys (put_at at xs page) ≡ put_at at (xs ++ ys) page
unfolding put_at
put_next at xs ys page within =
    let p = take at page in
    let r = drop (at + length xs) page in
    let size : length (p ++ xs) ≡ at + length xs = omega (arith, length-append p xs, length-take-le at page (omega arith)) in
    let whole : p ++ (xs ++ r) ≡ (p ++ xs) ++ r = sym (append_assoc p xs r) in
    let front : take (at + length xs) (p ++ (xs ++ r)) ≡ p ++ xs = ap (take (at + length xs)) whole ∙ take_at (p ++ xs) r (at + length xs) size in
    let back : drop (at + length xs + length ys) (p ++ (xs ++ r)) ≡ drop (at + length (xs ++ ys)) page =
    sym (drop-drop (length ys) (at + length xs) (p ++ (xs ++ r)))
    ∙ ap (drop (length ys)) (ap (drop (at + length xs)) whole ∙ drop_at (p ++ xs) r (at + length xs) size)
    ∙ drop-drop (length ys) (at + length xs) page
    ∙ ap (λ n. drop n page) (omega (arith, length-append xs ys)) in
    ap (λ x. x ++ (ys ++ drop (at + length xs + length ys) (p ++ (xs ++ r)))) front
    ∙ ap (λ x. (p ++ xs) ++ (ys ++ x)) back
    ∙ simp append_assoc

-- bytes, and then others before them
pub put_before : (at : ℕ) (xs ys page : List ℕ) → at + length xs ≤ length page → put_at at xs (put_at (at + length xs) ys page) ≡ put_at at (xs ++ ys) page
unfolding put_at
put_before at xs ys page within =
    let p = take at page in
    let m = take (length xs) (drop at page) in
    let post = drop (at + length xs + length ys) page in
    let size : length (take (at + length xs) page) ≡ at + length xs = length-take-le (at + length xs) page within in
    let front : take at (take (at + length xs) page ++ (ys ++ post)) ≡ p =
    ap (λ x. take at (x ++ (ys ++ post))) (take-add at (length xs) page) ∙ ap (take at) (append_assoc p m (ys ++ post))
    ∙ take_at p (m ++ (ys ++ post)) at (length-take-le at page (omega arith)) in
    let back : drop (at + length xs) (take (at + length xs) page ++ (ys ++ post)) ≡ ys ++ post = drop_at (take (at + length xs) page) (ys ++ post) (at + length xs) size in
    ap (λ x. x ++ (xs ++ drop (at + length xs) (take (at + length xs) page ++ (ys ++ post)))) front
    ∙ ap (λ x. p ++ (xs ++ x)) back
    ∙ ap (λ n. p ++ (xs ++ (ys ++ drop n page))) (omega (arith, length-append xs ys))
    ∙ ap (λ x. p ++ x) (sym (append_assoc xs ys (drop (at + length (xs ++ ys)) page)))

-- bytes of the page written over others
pub moved_put : (at start len : ℕ) (now page : List ℕ) → start + len ≤ length page → now ≡ paste page at (drop start page) len → now ≡ put_at at (part start len page) page
unfolding put_at part
moved_put at start len now page within is =
    let size : length (take len (drop start page)) ≡ len = length-take-le len (drop start page) (omega (arith, length-drop {A = ℕ})) in
    is ∙ append_assoc (take at page) (take len (drop start page)) (drop (at + len) page)
    ∙ ap (λ n. take at page ++ (take len (drop start page) ++ drop (at + n) page)) (sym size)

-- a write to a part of the page
pub put_mid-put_at : (at n : ℕ) (now bytes page : List ℕ) → now ≡ bytes → n ≡ length bytes → put_mid at n page now ≡ put_at at bytes page
unfolding put_at
put_mid-put_at at n now bytes page is count =
    ap (put_mid at n page) is ∙ ap (λ m. put_mid at m page bytes) count ∙ ap (λ x. take at page ++ (bytes ++ x)) (drop-drop (length bytes) at page ∙ ap (λ m. drop m page) (omega arith))

-- zeros over a part of the page
pub filled : (at n count : ℕ) (now page : List ℕ) → at + count ≤ length page → n ≡ count → now ≡ replicate (length (mid_of at n page)) 0 → put_mid at n page now ≡ put_at at (replicate count 0) page
filled at n count now page within is zeros =
    let size : length (mid_of at n page) ≡ count = length-take-le n (drop at page) (omega (arith, length-drop {A = ℕ})) ∙ is in
    put_mid-put_at at n now (replicate count 0) page (zeros ∙ ap (λ m. replicate m 0) size) (omega (arith, length-replicate {A = ℕ}))

-- a field over a part of the page
pub field_put : (at width : ℕ) (bytes page p q r : List ℕ) → at + (1 + width) ≤ length page → length bytes ≤ width → p ≡ put_at at (length bytes ∷ []) page → q ≡ put_at (at + 1) bytes p → r ≡ put_at (at + 1 + length bytes) (replicate (width - length bytes) 0) q → r ≡ put_at at (field width bytes) page
unfolding field padded
field_put at width bytes page p q r within fits p_is q_is r_is =
    let two : q ≡ put_at at (length bytes ∷ bytes) page =
    q_is ∙ ap (put_at (at + 1) bytes) p_is ∙ put_next at (length bytes ∷ []) bytes page (omega arith) in
    r_is
    ∙ ap (put_at (at + 1 + length bytes) (replicate (width - length bytes) 0)) two
    ∙ ap (λ n. put_at n (replicate (width - length bytes) 0) (put_at at (length bytes ∷ bytes) page)) (omega arith)
    ∙ put_next at (length bytes ∷ bytes) (replicate (width - length bytes) 0) page (omega arith)

-- a place over a part of the page
pub place_put : (at : ℕ) (e : Element) (page p q : List ℕ) → at + 118 ≤ length page → IsElement e → p ≡ put_at at (field 16 e.0) page → q ≡ put_at (at + 17) (field 100 e.1) p → q ≡ put_at at (place second_layout e) page
unfolding place
place_put at e page p q within fits p_is q_is =
    let size = length-field 16 e.0 fits.key_most in
    q_is
    ∙ ap (put_at (at + 17) (field 100 e.1)) p_is
    ∙ ap (λ n. put_at n (field 100 e.1) (put_at at (field 16 e.0) page)) (omega (arith, size))
    ∙ put_next at (field 16 e.0) (field 100 e.1) page (omega (arith, size))

-- the first blocks of one width
pub length-first_blocks : {X : Type 0} (f : X → List ℕ) (width i : ℕ) (xs : List X) → Each (λ x. length (f x) ≡ width) xs → i ≤ length xs → length (flat_map f (take i xs)) ≡ width * i
length-first_blocks f width zero xs each low = omega arith
length-first_blocks f width (suc i) [] each low = absurd (omega arith)
length-first_blocks f width (suc i) (x ∷ xs) each low = omega (arith, length-append (f x) (flat_map f (take i xs)), each.0, length-first_blocks f width i xs each.1 (omega arith), mul-suc width i)

-- the head and the places of a page
unfoldable pub front : NodeKind → List Element → List ℕ
front kind els = head kind (length els) ++ flat_map (place second_layout) els

-- what stands behind them, up to the place of the sons and from there on
unfoldable pub behind : ℕ → ℕ → List ℕ → List ℕ
behind start len sons = replicate (start - len) 0 ++ (sons ++ replicate (4096 - (start + length sons)) 0)

-- a page is its front and what stands behind
pub spelled_in_two : (k : ℕ) (n : Node) → length (front n.kind n.elements.items) ≤ sons_start second_layout k
    → spelling n k ≡ front n.kind n.elements.items ++ behind (sons_start second_layout k) (length (front n.kind n.elements.items)) (sons_bytes n.sons.items)
unfolding spelling_in padded front behind
spelled_in_two k n few =
    let f = front n.kind n.elements.items in
    let start = sons_start second_layout k in
    let gap : List ℕ = replicate (start - length f) 0 in
    let sons = sons_bytes n.sons.items in
    let size : length ((f ++ gap) ++ sons) ≡ start + length sons = omega (arith, length-append (f ++ gap) sons, length-append f gap, length-replicate {A = ℕ} (start - length f) 0) in
    ap (λ m. ((f ++ gap) ++ sons) ++ replicate (4096 - m) 0) size ∙ simp append_assoc

regrouped : (a x b rest : List ℕ) → (a ++ (x ++ b)) ++ rest ≡ a ++ (x ++ (b ++ rest))
regrouped a x b rest = simp append_assoc

-- blocks of which one is another
blocks_split : (els : List Element) (i : ℕ) (d : Element) → i < length els → flat_map (place second_layout) els ≡ flat_map (place second_layout) (take i els) ++ (place second_layout (get_or els i d) ++ flat_map (place second_layout) (drop (suc i) els))
blocks_split els i d low =
    ap (flat_map (place second_layout)) (sym (take-append-drop i els) ∙ ap (λ xs. take i els ++ xs) (drop-cons els i d low))
    ∙ flat_map-append (place second_layout) (take i els) (get_or els i d ∷ drop (suc i) els)

blocks_set : (els : List Element) (i : ℕ) (e : Element) → i < length els → flat_map (place second_layout) (set els i e) ≡ flat_map (place second_layout) (take i els) ++ (place second_layout e ++ flat_map (place second_layout) (drop (suc i) els))
blocks_set els i e low =
    ap (flat_map (place second_layout)) (set_split els i e low)
    ∙ flat_map-append (place second_layout) (take i els) (e ∷ drop (suc i) els)

-- the length of the front of a page
pub length-front : (k : ℕ) (n : Node) → CanStand n k → length (front n.kind n.elements.items) ≡ 8 + 118 * length n.elements.items
unfolding front
length-front k n can =
    omega (arith, length-append (head n.kind (length n.elements.items)) (flat_map (place second_layout) n.elements.items), length-head n.kind (length n.elements.items), length-blocks (place second_layout) 118 n.elements.items (widths second_layout n.elements.items can.fit))

-- the front up to place i
up_to : NodeKind → ℕ → ℕ → List Element → List ℕ
up_to kind count i els = head kind count ++ flat_map (place second_layout) (take i els)

length-up_to : (k : ℕ) (n : Node) (count i : ℕ) → CanStand n k → i ≤ length n.elements.items → length (up_to n.kind count i n.elements.items) ≡ 8 + 118 * i
unfolding up_to
length-up_to k n count i can low =
    omega (arith, length-append (head n.kind count) (flat_map (place second_layout) (take i n.elements.items)), length-head n.kind count, length-first_blocks (place second_layout) 118 i n.elements.items (widths second_layout n.elements.items can.fit) low)

-- a page with a place written over spells the node with the element there
pub replaced_spelt : (k i : ℕ) (n : Node) (e : Element) (page : List ℕ) → CanStand n k → IsElement e → page ≡ spelling n k → i < length n.elements.items
    → put_at (8 + 118 * i) (place second_layout e) page ≡ spelling (with_elements n (set n.elements.items i e)) k
unfolding front up_to
replaced_spelt k i n e page can fits is low =
    let els = n.elements.items in
    let m = with_elements n (set els i e) in
    let start = sons_start second_layout k in
    let sons = sons_bytes n.sons.items in
    let old = place second_layout (get_or els i e) in
    let new = place second_layout e in
    let a = up_to n.kind (length els) i els in
    let b = flat_map (place second_layout) (drop (suc i) els) in
    let same : length old ≡ length new = length-place second_layout (get_or els i e) (fits_at second_layout k n can i e low) ∙ sym (length-place second_layout e fits) in
    let was : front n.kind els ≡ a ++ (old ++ b) = ap (λ x. head n.kind (length els) ++ x) (blocks_split els i e low) ∙ sym (append_assoc (head n.kind (length els)) _ _) in
    let now : front n.kind (set els i e) ≡ a ++ (new ++ b) =
    ap (λ c. head n.kind c ++ flat_map (place second_layout) (set els i e)) (length-set els i e)
    ∙ ap (λ x. head n.kind (length els) ++ x) (blocks_set els i e low) ∙ sym (append_assoc (head n.kind (length els)) _ _) in
    let len : length (front n.kind (set els i e)) ≡ length (front n.kind els) = omega (arith, ap length was, ap length now, length-append a (old ++ b), length-append a (new ++ b), length-append old b, length-append new b, same) in
    let few : length (front n.kind els) ≤ start = omega (arith, length-front k n can, mul-le-mul_left 118 can.most) in
    let rest = behind start (length (front n.kind els)) sons in
    let was_whole : spelling n k ≡ a ++ (old ++ (b ++ rest)) = spelled_in_two k n few ∙ ap (λ x. x ++ rest) was ∙ regrouped a old b rest in
    let now_whole : spelling m k ≡ a ++ (new ++ (b ++ rest)) =
    spelled_in_two k m (omega (arith, len, few)) ∙ ap (λ c. front n.kind (set els i e) ++ behind start c sons) len ∙ ap (λ x. x ++ rest) now ∙ regrouped a new b rest in
    ap (put_at (8 + 118 * i) new) (is ∙ was_whole)
    ∙ put_middle (8 + 118 * i) a old new (b ++ rest) (length-up_to k n (length els) i can (omega arith)) same
    ∙ sym now_whole

-- another number of keys
pub count_put : (kind : NodeKind) (count more : ℕ) (rest : List ℕ) → put_at 2 (big_bytes 2 more) (head kind count ++ rest) ≡ head kind more ++ rest
unfolding put_at head
count_put kind count more rest = refl

-- the gap behind the places gives room for one more
gap_split : (start len : ℕ) (sons : List ℕ) → len + 118 ≤ start → behind start len sons ≡ replicate 118 0 ++ behind start (len + 118) sons
unfolding behind
gap_split start len sons room =
    ap (λ m. replicate m 0 ++ (sons ++ replicate (4096 - (start + length sons)) 0)) (omega arith)
    ∙ ap (λ zs. zs ++ (sons ++ replicate (4096 - (start + length sons)) 0)) (sym (replicate-append-replicate 118 (start - (len + 118)) 0))
    ∙ append_assoc (replicate 118 0) (replicate (start - (len + 118)) 0) _

-- what an insertion starts from: the page around the place, and the places from there on
record Opened (k i : ℕ) (n : Node) (page : List ℕ) : Type 0 where
  rest : List ℕ
  whole : page ≡ up_to n.kind (length n.elements.items) i n.elements.items ++ ((flat_map (place second_layout) (drop i n.elements.items) ++ replicate 118 0) ++ rest)
  rest_is : rest ≡ behind (sons_start second_layout k) (length (front n.kind n.elements.items) + 118) (sons_bytes n.sons.items)
  front_is : front n.kind n.elements.items ≡ up_to n.kind (length n.elements.items) i n.elements.items ++ flat_map (place second_layout) (drop i n.elements.items)
  before : length (up_to n.kind (length n.elements.items) i n.elements.items) ≡ 8 + 118 * i
  moved : length (flat_map (place second_layout) (drop i n.elements.items)) + 118 * i ≡ 118 * length n.elements.items
  room : length (front n.kind n.elements.items) + 118 ≤ sons_start second_layout k

opened : (k i : ℕ) (n : Node) (page : List ℕ) → CanStand n k → page ≡ spelling n k → i ≤ length n.elements.items → length n.elements.items < 2 * k → Opened k i n page
unfolding front up_to
opened k i n page can is low less =
    let els = n.elements.items in
    let start = sons_start second_layout k in
    let sons = sons_bytes n.sons.items in
    let a = up_to n.kind (length els) i els in
    let b = flat_map (place second_layout) (drop i els) in
    let f = front n.kind els in
    let split : f ≡ a ++ b =
    ap (λ xs. head n.kind (length els) ++ xs) (ap (flat_map (place second_layout)) (sym (take-append-drop i els)) ∙ flat_map-append (place second_layout) (take i els) (drop i els))
    ∙ sym (append_assoc (head n.kind (length els)) _ _) in
    let size = length-front k n can in
    let room : length f + 118 ≤ start = omega (arith, size, mul-le-mul_left {m = length els + 1} {n = 2 * k} 118 (omega (arith, less))) in
    let before = length-up_to k n (length els) i can low in
    record {
      rest = behind start (length f + 118) sons;
      whole = is ∙ spelled_in_two k n (omega (arith, room)) ∙ ap (λ x. f ++ x) (gap_split start (length f) sons room) ∙ ap (λ x. x ++ (replicate 118 0 ++ behind start (length f + 118) sons)) split ∙ simp append_assoc;
      rest_is = refl;
      front_is = split;
      before = before;
      moved = omega (arith, ap length split, length-append a b, before, size);
      room = room;
    }

-- a page with one element more: the places behind it are moved, then its place is written, then the number of keys
pub inserted_spelt : (k i : ℕ) (n : Node) (e : Element) (page moved p q r : List ℕ) → CanStand n k → IsElement e → page ≡ spelling n k → length page ≡ 4096 → k ≤ 16
    → i ≤ length n.elements.items → length n.elements.items < 2 * k
    → moved ≡ part (8 + 118 * i) (8 + 118 * length n.elements.items - (8 + 118 * i)) page
    → p ≡ put_at (8 + 118 * (i + 1)) moved page
    → q ≡ put_at (8 + 118 * i) (place second_layout e) p
    → r ≡ put_at 2 (big_bytes 2 (length n.elements.items + 1)) q
    → r ≡ spelling (with_elements n (insert n.elements.items i e)) k
unfolding front up_to
inserted_spelt k i n e page moved p q r can fits is size small low less moved_is p_is q_is r_is =
    let els = n.elements.items in
    let count = length els in
    let o = opened k i n page can is low less in
    let new = place second_layout e in
    let f = flat_map (place second_layout) (take i els) in
    let a = up_to n.kind count i els in
    let b = flat_map (place second_layout) (drop i els) in
    let m = with_elements n (insert els i e) in
    let wide : length new ≡ 118 = length-place second_layout e fits in
    let gap : List ℕ = replicate 118 0 in
    let tail : moved ≡ b =
    moved_is ∙ ap (part (8 + 118 * i) (8 + 118 * count - (8 + 118 * i))) (o.whole ∙ ap (λ x. a ++ x) (append_assoc b gap o.rest))
    ∙ part_middle (8 + 118 * i) (8 + 118 * count - (8 + 118 * i)) a b (gap ++ o.rest) o.before (omega (arith, o.moved)) in
    let both : q ≡ put_at (8 + 118 * i) (new ++ b) page =
    q_is ∙ ap (put_at (8 + 118 * i) new) (p_is ∙ ap (λ x. put_at (8 + 118 * (i + 1)) x page) tail ∙ ap (λ at. put_at at b page) (omega (arith, wide)))
    ∙ put_before (8 + 118 * i) new b page (omega (arith, wide, size, small, low, less)) in
    let laid : q ≡ a ++ ((new ++ b) ++ o.rest) =
    both ∙ ap (put_at (8 + 118 * i) (new ++ b)) o.whole
    ∙ put_middle (8 + 118 * i) a (b ++ gap) (new ++ b) o.rest o.before (omega (arith, length-append b gap, length-append new b, wide)) in
    let counted : r ≡ head n.kind (count + 1) ++ (f ++ ((new ++ b) ++ o.rest)) =
    r_is ∙ ap (put_at 2 (big_bytes 2 (count + 1))) (laid ∙ append_assoc (head n.kind count) f _)
    ∙ count_put n.kind count (count + 1) (f ++ ((new ++ b) ++ o.rest)) in
    let more : length (insert els i e) ≡ count + 1 = length-insert els i e low in
    let now : front n.kind (insert els i e) ≡ head n.kind (count + 1) ++ (f ++ (new ++ b)) =
    ap (λ c. head n.kind c ++ flat_map (place second_layout) (insert els i e)) more
    ∙ ap (λ x. head n.kind (count + 1) ++ x) (flat_map-append (place second_layout) (take i els) (e ∷ drop i els)) in
    let len : length (front n.kind (insert els i e)) ≡ length (front n.kind els) + 118 =
    omega (arith, ap length now, ap length o.front_is, length-append a b, length-append (head n.kind count) f, length-append (head n.kind (count + 1)) (f ++ (new ++ b)), length-append f (new ++ b), length-append new b, wide, length-head n.kind count, length-head n.kind (count + 1)) in
    let spelt : spelling m k ≡ (head n.kind (count + 1) ++ (f ++ (new ++ b))) ++ o.rest =
    spelled_in_two k m (omega (arith, len, o.room))
    ∙ ap (λ c. front n.kind (insert els i e) ++ behind (sons_start second_layout k) c (sons_bytes n.sons.items)) len
    ∙ ap (λ x. front n.kind (insert els i e) ++ x) (sym o.rest_is)
    ∙ ap (λ x. x ++ o.rest) now in
    counted ∙ sym (spelt ∙ regrouped (head n.kind (count + 1)) f (new ++ b) o.rest)

-- the length of the front of a page with one element more
pub length-front_more : (k i : ℕ) (n : Node) (e : Element) → CanStand n k → IsElement e → i ≤ length n.elements.items → length (front n.kind (insert n.elements.items i e)) ≡ 8 + 118 * (length n.elements.items + 1)
unfolding front
length-front_more k i n e can fits low =
    let els = n.elements.items in
    let f = flat_map (place second_layout) (take i els) in
    let b = flat_map (place second_layout) (drop i els) in
    let whole : flat_map (place second_layout) els ≡ f ++ b = ap (flat_map (place second_layout)) (sym (take-append-drop i els)) ∙ flat_map-append (place second_layout) (take i els) (drop i els) in
    let longer : flat_map (place second_layout) (insert els i e) ≡ f ++ (place second_layout e ++ b) = flat_map-append (place second_layout) (take i els) (e ∷ drop i els) in
    omega (
      arith,
      ap length whole,
      ap length longer,
      length-append f b,
      length-append f (place second_layout e ++ b),
      length-append (place second_layout e) b,
      length-place second_layout e fits,
      length-blocks (place second_layout) 118 els (widths second_layout els can.fit),
      length-append (head n.kind (length (insert els i e))) (flat_map (place second_layout) (insert els i e)),
      length-head n.kind (length (insert els i e)),
    )

-- blocks without one of them
blocks_without : (els : List Element) (i : ℕ) → flat_map (place second_layout) (remove els i) ≡ flat_map (place second_layout) (take i els) ++ flat_map (place second_layout) (drop (suc i) els)
blocks_without els i = flat_map-append (place second_layout) (take i els) (drop (suc i) els)

-- bytes of which the first go and zeros come behind
grouped : (a old b rest : List ℕ) → a ++ (old ++ (b ++ rest)) ≡ a ++ ((old ++ b) ++ rest)
grouped a old b rest = ap (λ x. a ++ x) (sym (append_assoc old b rest))

-- a page with one element less: the places behind it are moved, then the last is cleared, then the number of keys is written
pub removed_spelt : (k i : ℕ) (n : Node) (d : Element) (page moved p q r : List ℕ) → CanStand n k → page ≡ spelling n k → length page ≡ 4096 → k ≤ 16
    → i < length n.elements.items
    → moved ≡ part (8 + 118 * (i + 1)) (8 + 118 * length n.elements.items - (8 + 118 * (i + 1))) page
    → p ≡ put_at (8 + 118 * i) moved page
    → q ≡ put_at (8 + 118 * (length n.elements.items - 1)) (replicate 118 0) p
    → r ≡ put_at 2 (big_bytes 2 (length n.elements.items - 1)) q
    → r ≡ spelling (with_elements n (remove n.elements.items i)) k
unfolding front up_to
removed_spelt k i n d page moved p q r can is size small low moved_is p_is q_is r_is =
    let els = n.elements.items in
    let count = length els in
    let start = sons_start second_layout k in
    let sons = sons_bytes n.sons.items in
    let m = with_elements n (remove els i) in
    let old = place second_layout (get_or els i d) in
    let f = flat_map (place second_layout) (take i els) in
    let a = up_to n.kind count i els in
    let b = flat_map (place second_layout) (drop (suc i) els) in
    let gap : List ℕ = replicate 118 0 in
    let wide : length old ≡ 118 = length-place second_layout (get_or els i d) (fits_at second_layout k n can i d low) in
    let zeros : length gap ≡ 118 = length-replicate {A = ℕ} 118 0 in
    let before : length a ≡ 8 + 118 * i = length-up_to k n count i can (omega (arith, low)) in
    let front_size = length-front k n can in
    let few : length (front n.kind els) ≤ start = omega (arith, front_size, mul-le-mul_left 118 can.most) in
    let rest = behind start (length (front n.kind els)) sons in
    let was : front n.kind els ≡ a ++ (old ++ b) = ap (λ x. head n.kind count ++ x) (blocks_split els i d low) ∙ sym (append_assoc (head n.kind count) _ _) in
    let long : length b + (8 + 118 * i) + 118 ≡ 8 + 118 * count = omega (arith, ap length was, front_size, length-append a (old ++ b), length-append old b, before, wide) in
    let whole : page ≡ a ++ (old ++ (b ++ rest)) = is ∙ spelled_in_two k n few ∙ ap (λ x. x ++ rest) was ∙ regrouped a old b rest in
    let tail : moved ≡ b =
    moved_is ∙ ap (part (8 + 118 * (i + 1)) (8 + 118 * count - (8 + 118 * (i + 1)))) (whole ∙ sym (append_assoc a old (b ++ rest)))
    ∙ part_middle (8 + 118 * (i + 1)) (8 + 118 * count - (8 + 118 * (i + 1))) (a ++ old) b rest (omega (arith, length-append a old, before, wide)) (omega (arith, long)) in
    let both : q ≡ put_at (8 + 118 * i) (b ++ gap) page =
    q_is ∙ ap (put_at (8 + 118 * (count - 1)) gap) (p_is ∙ ap (λ x. put_at (8 + 118 * i) x page) tail)
    ∙ ap (λ at. put_at at gap (put_at (8 + 118 * i) b page)) (omega (arith, long, low))
    ∙ put_next (8 + 118 * i) b gap page (omega (arith, long, front_size, few, ap length whole, size, length-append a (old ++ (b ++ rest)), length-append old (b ++ rest), length-append b rest, before, wide)) in
    let laid : q ≡ a ++ ((b ++ gap) ++ rest) =
    both ∙ ap (put_at (8 + 118 * i) (b ++ gap)) (whole ∙ grouped a old b rest)
    ∙ put_middle (8 + 118 * i) a (old ++ b) (b ++ gap) rest before (omega (arith, length-append old b, length-append b gap, wide, zeros)) in
    let counted : r ≡ head n.kind (count - 1) ++ (f ++ ((b ++ gap) ++ rest)) =
    r_is ∙ ap (put_at 2 (big_bytes 2 (count - 1))) (laid ∙ append_assoc (head n.kind count) f _)
    ∙ count_put n.kind count (count - 1) (f ++ ((b ++ gap) ++ rest)) in
    let less : length (remove els i) ≡ count - 1 = omega (arith, length-remove els i low) in
    let now : front n.kind (remove els i) ≡ head n.kind (count - 1) ++ (f ++ b) =
    ap (λ c. head n.kind c ++ flat_map (place second_layout) (remove els i)) less
    ∙ ap (λ x. head n.kind (count - 1) ++ x) (blocks_without els i) in
    let len : length (front n.kind (remove els i)) + 118 ≡ length (front n.kind els) =
    omega (arith, ap length now, ap length was, length-append a (old ++ b), length-append old b, length-append (head n.kind count) f, length-append (head n.kind (count - 1)) (f ++ b), length-append f b, wide, length-head n.kind count, length-head n.kind (count - 1)) in
    let spelt : spelling m k ≡ (head n.kind (count - 1) ++ (f ++ b)) ++ (gap ++ rest) =
    spelled_in_two k m (omega (arith, len, few))
    ∙ ap (λ x. front n.kind (remove els i) ++ x) (gap_split start (length (front n.kind (remove els i))) sons (omega (arith, len, few)) ∙ ap (λ c. gap ++ behind start c sons) len)
    ∙ ap (λ x. x ++ (gap ++ rest)) now in
    counted ∙ ap (λ x. head n.kind (count - 1) ++ (f ++ x)) (append_assoc b gap rest) ∙ sym (spelt ∙ last_grouped (head n.kind (count - 1)) f b (gap ++ rest))
  where
    last_grouped : (h f b rest : List ℕ) → (h ++ (f ++ b)) ++ rest ≡ h ++ (f ++ (b ++ rest))
    last_grouped h f b rest = simp append_assoc
