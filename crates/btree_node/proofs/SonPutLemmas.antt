-- What a page spells with one son more.
use Rattle.std.proofs.Common.{◌≡◌, ℕ, ◌+◌, ◌-◌, ◌*◌, ◌≤◌, List, ◌∷◌, ◌++◌, length, take, drop, replicate, refl, ap, sym, ◌∙◌, append_assoc, arith, length-append}
use Rattle.std.specs.List.{flat_map, insert}
use Rattle.std.proofs.lemmas.List.{length-take-le, length-replicate, take-append-drop, replicate-append-replicate}
use Rattle.std.proofs.lemmas.List.Concat.{flat_map-append}
use Rattle.byteorder.specs.Endian.{big_bytes}
use Rattle.btree_node.specs.declared.node.Node.{Node}
use Rattle.btree_node.specs.Layout.{second_layout, sons_start}
use Rattle.btree_node.specs.Reading.{part}
use Rattle.btree_node.specs.Spelling.{sons_bytes, spelling}
use Rattle.btree_node.specs.Written.{put_at, with_parts}
use Rattle.btree_node.proofs.ChangedPageLemmas.{front, behind, spelled_in_two, put_before, put_middle}
use Rattle.btree_node.proofs.DecodeLemmas.{length-blocks, son_widths}
use Rattle.btree_node.proofs.PagePartLemmas.{part_middle}

-- the bytes of sons take four each
length-sons : (sons : List ℕ) → length (sons_bytes sons) ≡ 4 * length sons
unfolding sons_bytes
length-sons sons = length-blocks (big_bytes 4) 4 sons (son_widths sons)

-- the sons of which one comes at place j
sons_split : (sons : List ℕ) (j : ℕ) → sons_bytes sons ≡ sons_bytes (take j sons) ++ sons_bytes (drop j sons)
unfolding sons_bytes
sons_split sons j = ap (flat_map (big_bytes 4)) (sym (take-append-drop j sons)) ∙ flat_map-append (big_bytes 4) (take j sons) (drop j sons)

sons_more : (sons : List ℕ) (j son : ℕ) → sons_bytes (insert sons j son) ≡ sons_bytes (take j sons) ++ (big_bytes 4 son ++ sons_bytes (drop j sons))
unfolding sons_bytes
sons_more sons j son = flat_map-append (big_bytes 4) (take j sons) (son ∷ drop j sons)

-- bytes in four parts and zeros behind them
laid : (f g a b z : List ℕ) → f ++ (g ++ ((a ++ b) ++ z)) ≡ (f ++ (g ++ a)) ++ (b ++ z)
laid f g a b z = simp append_assoc

-- a page with one son more: the sons behind it are moved, then it is written
pub son_put : (k j son : ℕ) (m : Node) (page p q : List ℕ) → page ≡ spelling m k → length page ≡ 4096 → length (front m.kind m.elements.items) ≤ sons_start second_layout k
    → j ≤ length m.sons.items → sons_start second_layout k + 4 * (length m.sons.items + 1) ≤ 4096
    → p ≡ put_at (sons_start second_layout k + 4 * (j + 1)) (part (sons_start second_layout k + 4 * j) (4 * length m.sons.items - 4 * j) page) page
    → q ≡ put_at (sons_start second_layout k + 4 * j) (big_bytes 4 son) p
    → q ≡ spelling (with_parts m m.elements.items (insert m.sons.items j son)) k
unfolding behind
son_put k j son m page p q is size few low room p_is q_is =
    let start = sons_start second_layout k in
    let sons = m.sons.items in
    let count = length sons in
    let f = front m.kind m.elements.items in
    let gap : List ℕ = replicate (start - length f) 0 in
    let a = sons_bytes (take j sons) in
    let b = sons_bytes (drop j sons) in
    let new = big_bytes 4 son in
    let hole : List ℕ = replicate 4 0 in
    let rest : List ℕ = replicate (4096 - (start + 4 * (count + 1))) 0 in
    let h = f ++ (gap ++ a) in
    let wide : length new ≡ 4 = refl in
    let parts : length a + length b ≡ 4 * count = sym (length-append a b) ∙ ap length (sym (sons_split sons j)) ∙ length-sons sons in
    let before_sons : length a ≡ 4 * j = length-sons (take j sons) ∙ ap (λ n. 4 * n) (length-take-le j sons low) in
    let before : length h ≡ start + 4 * j = omega (arith, few, length-append f (gap ++ a), length-append gap a, length-replicate {A = ℕ} (start - length f) 0, before_sons) in
    let zeros : replicate (4096 - (start + length (sons_bytes sons))) 0 ≡ hole ++ rest =
    ap (λ n. replicate n 0) (omega (arith, length-sons sons, room)) ∙ sym (replicate-append-replicate 4 (4096 - (start + 4 * (count + 1))) 0) in
    let whole : page ≡ h ++ ((b ++ hole) ++ rest) =
    is ∙ spelled_in_two k m few ∙ ap (λ z. f ++ (gap ++ (sons_bytes sons ++ z))) zeros ∙ ap (λ x. f ++ (gap ++ (x ++ (hole ++ rest)))) (sons_split sons j) ∙ laid f gap a b (hole ++ rest) ∙ ap (λ x. h ++ x) (sym (append_assoc b hole rest)) in
    let tail : part (start + 4 * j) (4 * count - 4 * j) page ≡ b =
    ap (part (start + 4 * j) (4 * count - 4 * j)) (whole ∙ ap (λ x. h ++ x) (append_assoc b hole rest))
    ∙ part_middle (start + 4 * j) (4 * count - 4 * j) h b (hole ++ rest) before (omega (arith, parts, before_sons)) in
    let both : q ≡ put_at (start + 4 * j) (new ++ b) page =
    q_is ∙ ap (put_at (start + 4 * j) new) (p_is ∙ ap (λ x. put_at (start + 4 * (j + 1)) x page) tail ∙ ap (λ at. put_at at b page) (omega (arith, wide)))
    ∙ put_before (start + 4 * j) new b page (omega (arith, wide, size, room, low)) in
    let now : q ≡ h ++ ((new ++ b) ++ rest) =
    both ∙ ap (put_at (start + 4 * j) (new ++ b)) whole
    ∙ put_middle (start + 4 * j) h (b ++ hole) (new ++ b) rest before (omega (arith, length-append b hole, length-append new b, wide, length-replicate {A = ℕ} 4 0)) in
    let more : length (sons_bytes (insert sons j son)) ≡ 4 * (count + 1) = omega (arith, ap length (sons_more sons j son), length-append a (new ++ b), length-append new b, wide, parts) in
    let spelt : spelling (with_parts m m.elements.items (insert sons j son)) k ≡ f ++ (gap ++ (sons_bytes (insert sons j son) ++ rest)) =
    spelled_in_two k (with_parts m m.elements.items (insert sons j son)) few ∙ ap (λ n. f ++ (gap ++ (sons_bytes (insert sons j son) ++ replicate (4096 - (start + n)) 0))) more in
    now ∙ sym (spelt ∙ ap (λ x. f ++ (gap ++ (x ++ rest))) (sons_more sons j son) ∙ laid f gap a (new ++ b) rest)
