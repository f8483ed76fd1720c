-- What a page spells with the first of its elements alone, or with the last.
use Rattle.std.proofs.Common.{◌≡◌, ℕ, ◌+◌, ◌-◌, ◌*◌, ◌≤◌, List, ◌++◌, length, take, drop, replicate, refl, ap, sym, ◌∙◌, append_assoc, arith, length-append, length-drop}
use Rattle.std.specs.List.{flat_map}
use Rattle.std.proofs.lemmas.List.{length-take-le, length-replicate, take-append-drop, replicate-append-replicate}
use Rattle.std.proofs.lemmas.List.Concat.{flat_map-append}
use Rattle.std.proofs.Math.Nat.{mul-le-mul_left}
use Rattle.byteorder.specs.Endian.{big_bytes}
use Rattle.btree_node.specs.declared.node.Node.{Node}
use Rattle.btree_node.specs.Layout.{second_layout, sons_start}
use Rattle.btree_node.specs.Lists.{Element}
use Rattle.btree_node.specs.Reading.{part, count_at}
use Rattle.btree_node.specs.Spelling.{head, place, sons_bytes, spelling, CanStand, IsSpelt}
use Rattle.btree_node.specs.Written.{put_at, with_elements}
use Rattle.btree_node.proofs.ChangedPageLemmas.{front, behind, spelled_in_two, put_next, put_middle, length-first_blocks, length-front, count_put}
use Rattle.btree_node.proofs.DecodeLemmas.{length-head, widths}
use Rattle.btree_node.proofs.SpeltPageLemmas.{count_spelt}
use Rattle.btree_node.proofs.PagePartLemmas.{part_middle}

-- a page has at most 32 keys
pub count_few : (k : ℕ) (page : List ℕ) → k ≤ 16 → IsSpelt k page → count_at page ≤ 32
count_few k page small spelt = omega (arith, count_spelt k page spelt.0 small spelt.1 spelt.2, spelt.1.most)

-- the gap behind the places is zeros, and a shorter gap
gap_wide : (start len wide : ℕ) (sons : List ℕ) → len + wide ≤ start → behind start len sons ≡ replicate wide 0 ++ behind start (len + wide) sons
unfolding behind
gap_wide start len wide sons room =
    ap (λ m. replicate m 0 ++ (sons ++ replicate (4096 - (start + length sons)) 0)) (omega (arith, room))
    ∙ ap (λ zs. zs ++ (sons ++ replicate (4096 - (start + length sons)) 0)) (sym (replicate-append-replicate wide (start - (len + wide)) 0))
    ∙ append_assoc (replicate wide 0) (replicate (start - (len + wide)) 0) _

-- a page around place m
record Around (k m : ℕ) (n : Node) (page : List ℕ) : Type 0 where
  rest : List ℕ
  rest_is : rest ≡ behind (sons_start second_layout k) (8 + 118 * length n.elements.items) (sons_bytes n.sons.items)
  whole : page ≡ head n.kind (length n.elements.items) ++ ((flat_map (place second_layout) (take m n.elements.items) ++ flat_map (place second_layout) (drop m n.elements.items)) ++ rest)
  first : length (flat_map (place second_layout) (take m n.elements.items)) ≡ 118 * m
  last : length (flat_map (place second_layout) (drop m n.elements.items)) + 118 * m ≡ 118 * length n.elements.items
  few : 8 + 118 * length n.elements.items ≤ sons_start second_layout k

around : (k m : ℕ) (n : Node) (page : List ℕ) → CanStand n k → page ≡ spelling n k → m ≤ length n.elements.items → Around k m n page
unfolding front
around k m n page can is low =
    let els = n.elements.items in
    let start = sons_start second_layout k in
    let f = flat_map (place second_layout) (take m els) in
    let b = flat_map (place second_layout) (drop m els) in
    let split : flat_map (place second_layout) els ≡ f ++ b = ap (flat_map (place second_layout)) (sym (take-append-drop m els)) ∙ flat_map-append (place second_layout) (take m els) (drop m els) in
    let size = length-front k n can in
    let few : length (front n.kind els) ≤ start = omega (arith, size, mul-le-mul_left 118 can.most) in
    let first = length-first_blocks (place second_layout) 118 m els (widths second_layout els can.fit) low in
    record {
      rest = behind start (8 + 118 * length els) (sons_bytes n.sons.items);
      rest_is = refl;
      whole = is ∙ spelled_in_two k n few ∙ ap (λ c. front n.kind els ++ behind start c (sons_bytes n.sons.items)) size ∙ append_assoc (head n.kind (length els)) (flat_map (place second_layout) els) _ ∙ ap (λ x. head n.kind (length els) ++ (x ++ behind start (8 + 118 * length els) (sons_bytes n.sons.items))) split;
      first = first;
      last = omega (arith, size, ap length split, length-append f b, first, length-append (head n.kind (length els)) (flat_map (place second_layout) els), length-head n.kind (length els));
      few = omega (arith, few, size);
    }

-- a page that has left so many of its elements, whose places take these bytes
spelt_left : (k wide : ℕ) (n : Node) (els : List Element) (rest bytes : List ℕ) → bytes ≡ flat_map (place second_layout) els → length bytes ≡ 118 * length els → 118 * length els + wide ≡ 118 * length n.elements.items
    → rest ≡ behind (sons_start second_layout k) (8 + 118 * length n.elements.items) (sons_bytes n.sons.items) → 8 + 118 * length n.elements.items ≤ sons_start second_layout k
    → head n.kind (length els) ++ (bytes ++ (replicate wide 0 ++ rest)) ≡ spelling (with_elements n els) k
unfolding front
spelt_left k wide n els rest bytes bytes_is size fewer rest_is few =
    let start = sons_start second_layout k in
    let sons = sons_bytes n.sons.items in
    let h = head n.kind (length els) in
    let m = with_elements n els in
    let front_is : h ++ bytes ≡ front n.kind els = ap (λ x. h ++ x) bytes_is in
    let len : length (front n.kind els) ≡ 8 + 118 * length els = omega (arith, ap length front_is, length-append h bytes, length-head n.kind (length els), size) in
    let gap : behind start (length (front n.kind els)) sons ≡ replicate wide 0 ++ rest =
    ap (λ c. behind start c sons) len ∙ gap_wide start (8 + 118 * length els) wide sons (omega (arith, few, fewer)) ∙ ap (λ c. replicate wide 0 ++ behind start c sons) (omega (arith, fewer)) ∙ ap (λ x. replicate wide 0 ++ x) (sym rest_is) in
    sym (append_assoc h bytes (replicate wide 0 ++ rest)) ∙ ap (λ x. x ++ (replicate wide 0 ++ rest)) front_is ∙ ap (λ x. front n.kind els ++ x) (sym gap) ∙ sym (spelled_in_two k m (omega (arith, len, few, fewer)))

-- the first elements alone: the other places are cleared, then the number of keys is written
pub kept_first : (k m : ℕ) (n : Node) (page p q : List ℕ) → CanStand n k → page ≡ spelling n k → m ≤ length n.elements.items
    → p ≡ put_at (8 + 118 * m) (replicate (118 * (length n.elements.items - m)) 0) page
    → q ≡ put_at 2 (big_bytes 2 m) p
    → q ≡ spelling (with_elements n (take m n.elements.items)) k
kept_first k m n page p q can is low p_is q_is =
    let els = n.elements.items in
    let count = length els in
    let o = around k m n page can is low in
    let h = head n.kind count in
    let f = flat_map (place second_layout) (take m els) in
    let b = flat_map (place second_layout) (drop m els) in
    let wide = 118 * (count - m) in
    let zeros : List ℕ = replicate wide 0 in
    let fewer : length (take m els) ≡ m = length-take-le m els low in
    let whole : page ≡ (h ++ f) ++ (b ++ o.rest) = o.whole ∙ grouped h f b o.rest in
    let laid : p ≡ (h ++ f) ++ (zeros ++ o.rest) =
    p_is ∙ ap (put_at (8 + 118 * m) zeros) whole
    ∙ put_middle (8 + 118 * m) (h ++ f) b zeros o.rest (omega (arith, length-append h f, length-head n.kind count, o.first)) (omega (arith, o.last, length-replicate {A = ℕ} wide 0, low)) in
    q_is ∙ ap (put_at 2 (big_bytes 2 m)) (laid ∙ append_assoc h f (zeros ++ o.rest)) ∙ count_put n.kind count m (f ++ (zeros ++ o.rest))
    ∙ ap (λ c. head n.kind c ++ (f ++ (zeros ++ o.rest))) (sym fewer)
    ∙ spelt_left k wide n (take m els) o.rest f refl (omega (arith, o.first, fewer)) (omega (arith, fewer, low)) o.rest_is o.few
  where
    grouped : (h f b rest : List ℕ) → h ++ ((f ++ b) ++ rest) ≡ (h ++ f) ++ (b ++ rest)
    grouped h f b rest = simp append_assoc

-- the last elements alone: their places are moved to the front, the others are cleared, then the number of keys is written
pub kept_last : (k m : ℕ) (n : Node) (page p q r : List ℕ) → CanStand n k → page ≡ spelling n k → length page ≡ 4096 → m ≤ length n.elements.items
    → p ≡ put_at 8 (part (8 + 118 * m) (8 + 118 * length n.elements.items - (8 + 118 * m)) page) page
    → q ≡ put_at (8 + 118 * (length n.elements.items - m)) (replicate (118 * m) 0) p
    → r ≡ put_at 2 (big_bytes 2 (length n.elements.items - m)) q
    → r ≡ spelling (with_elements n (drop m n.elements.items)) k
kept_last k m n page p q r can is size low p_is q_is r_is =
    let els = n.elements.items in
    let count = length els in
    let o = around k m n page can is low in
    let h = head n.kind count in
    let f = flat_map (place second_layout) (take m els) in
    let b = flat_map (place second_layout) (drop m els) in
    let zeros : List ℕ = replicate (118 * m) 0 in
    let fewer : length (drop m els) ≡ count - m = length-drop m els in
    let tail : part (8 + 118 * m) (8 + 118 * count - (8 + 118 * m)) page ≡ b =
    ap (part (8 + 118 * m) (8 + 118 * count - (8 + 118 * m))) (o.whole ∙ grouped h f b o.rest)
    ∙ part_middle (8 + 118 * m) (8 + 118 * count - (8 + 118 * m)) (h ++ f) b o.rest (omega (arith, length-append h f, length-head n.kind count, o.first)) (omega (arith, o.last)) in
    let fits : 8 + length b ≤ length page = omega (arith, ap length o.whole, length-append h ((f ++ b) ++ o.rest), length-append (f ++ b) o.rest, length-append f b, length-head n.kind count) in
    let both : q ≡ put_at 8 (b ++ zeros) page =
    q_is ∙ ap (put_at (8 + 118 * (count - m)) zeros) (p_is ∙ ap (λ x. put_at 8 x page) tail) ∙ ap (λ at. put_at at zeros (put_at 8 b page)) (omega (arith, o.last, low)) ∙ put_next 8 b zeros page fits in
    let laid : q ≡ h ++ ((b ++ zeros) ++ o.rest) =
    both ∙ ap (put_at 8 (b ++ zeros)) o.whole
    ∙ put_middle 8 h (f ++ b) (b ++ zeros) o.rest (length-head n.kind count) (omega (arith, length-append f b, length-append b zeros, length-replicate {A = ℕ} (118 * m) 0, o.first)) in
    r_is ∙ ap (put_at 2 (big_bytes 2 (count - m))) laid ∙ count_put n.kind count (count - m) ((b ++ zeros) ++ o.rest)
    ∙ ap (λ x. head n.kind (count - m) ++ x) (append_assoc b zeros o.rest)
    ∙ ap (λ c. head n.kind c ++ (b ++ (zeros ++ o.rest))) (sym fewer)
    ∙ spelt_left k (118 * m) n (drop m els) o.rest b refl (omega (arith, o.last, fewer, low)) (omega (arith, fewer, low)) o.rest_is o.few
  where
    grouped : (h f b rest : List ℕ) → h ++ ((f ++ b) ++ rest) ≡ (h ++ f) ++ (b ++ rest)
    grouped h f b rest = simp append_assoc
