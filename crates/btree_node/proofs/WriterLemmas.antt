-- What a writer's page is after more bytes or zeros.
use Rattle.std.proofs.Common.{◌≡◌, ℕ, ◌+◌, ◌-◌, ◌≤◌, List, [], ◌∷◌, ◌++◌, length, take, drop, replicate, ap, sym, ◌∙◌, append_assoc, arith, length-append}
use Rattle.std.proofs.lemmas.List.{length-replicate, length-take-le, take_at, drop_at, drop-replicate, replicate-append-replicate}
use Rattle.rec_types.specs.Padded.{padded}
use borrow.Rule.Slice.PartMut.{put_mid}
use Rattle.rec_types.proofs.Padding.{length-padded, take-padded}
use Rattle.btree_node.specs.declared.page_writer.PageWriter.TheInside.{Inside}
use Rattle.btree_node.specs.Spelling.{field}
use Rattle.btree_node.specs.Written.{written_bytes, IsWriter}

-- a list, padded and then cut at a later place
pub padded_more : (width : ℕ) (xs : List ℕ) (more : ℕ) → length xs + more ≤ width → padded width xs ≡ padded width (xs ++ replicate more 0)
unfolding padded
padded_more width xs more fits =
    let zeros : replicate (width - length xs) 0 ≡ replicate more 0 ++ replicate (width - length (xs ++ replicate more 0)) 0 =
    sym (replicate-append-replicate more (width - length (xs ++ replicate more 0)) 0 ∙ ap (λ (n : ℕ). replicate n 0) (omega (arith, length-append {A = ℕ}, length-replicate {A = ℕ}))) in
    ap (λ (zs : List ℕ). xs ++ zs) zeros ∙ sym (append_assoc xs (replicate more 0) _)

-- the front of a padded list, up to a later place
pub front_more : (width : ℕ) (xs : List ℕ) (more : ℕ) → length xs + more ≤ width → take (length xs + more) (padded width xs) ≡ xs ++ replicate more 0
front_more width xs more fits =
    ap (take (length xs + more)) (padded_more width xs more fits)
    ∙ ap (λ (n : ℕ). take n (padded width (xs ++ replicate more 0))) (omega (arith, length-append {A = ℕ}, length-replicate {A = ℕ}))
    ∙ take-padded width (xs ++ replicate more 0)

-- bytes written over the zeros of a padded list
pub put_padded : (width : ℕ) (xs ys page : List ℕ) (at : ℕ) → page ≡ padded width xs → length xs ≡ at → length xs + length ys ≤ width → take at page ++ (ys ++ drop (length ys) (drop at page)) ≡ padded width (xs ++ ys)
unfolding padded
put_padded width xs ys page at is len fits =
    let front : take at page ≡ xs = ap (take at) is ∙ take_at xs _ at len in
    let back : drop at page ≡ replicate (width - length xs) 0 = ap (drop at) is ∙ drop_at xs _ at len in
    let zeros : drop (length ys) (drop at page) ≡ replicate (width - length (xs ++ ys)) 0 =
    ap (drop (length ys)) back ∙ drop-replicate (length ys) (width - length xs) 0 ∙ ap (λ (n : ℕ). replicate n 0) (omega (arith, length-append {A = ℕ})) in
    rw (front, zeros) (sym (append_assoc xs ys _))

-- the front of a writer's page up to a later place
pub written_more : (w : Inside) (to : ℕ) → IsWriter w → w.at ≤ to → to ≤ 4096 → take to w.page ≡ written_bytes w ++ replicate (to - w.at) 0
written_more w to is up within =
    let len : length (take w.at w.page) ≡ w.at = length-take-le w.at w.page (omega (arith, is.whole, is.within)) in
    ap (take to) is.zeros
    ∙ ap (λ (n : ℕ). take n (padded 4096 (take w.at w.page))) (omega arith)
    ∙ front_more 4096 (take w.at w.page) (to - w.at) (omega arith)

-- a writer that has moved on over zeros
pub skipped : (w : Inside) (to : ℕ) → IsWriter w → w.at ≤ to → to ≤ 4096 → IsWriter record { page = w.page; at = to }
skipped w to is up within =
    let len : length (take w.at w.page) ≡ w.at = length-take-le w.at w.page (omega (arith, is.whole, is.within)) in
    record {
      within = within;
      whole = is.whole;
      zeros = is.zeros ∙ padded_more 4096 (take w.at w.page) (to - w.at) (omega arith) ∙ ap (padded 4096) (sym (written_more w to is up within));
    }

-- a page after bytes are written over its zeros
put_page : (w : Inside) (bytes page : List ℕ) (n : ℕ) → IsWriter w → w.at + length bytes ≤ 4096 → n ≡ length bytes → page ≡ put_mid w.at n w.page bytes → page ≡ padded 4096 (take w.at w.page ++ bytes)
put_page w bytes page n is fits count at =
    let len : length (take w.at w.page) ≡ w.at = length-take-le w.at w.page (omega (arith, is.whole, is.within)) in
    at ∙ ap (λ (m : ℕ). put_mid w.at m w.page bytes) count ∙ put_padded 4096 (take w.at w.page) bytes w.page w.at is.zeros len (omega arith)

-- a writer after bytes are written
pub put_written : (w : Inside) (bytes now page : List ℕ) (n : ℕ) → IsWriter w → w.at + length bytes ≤ 4096 → now ≡ bytes → n ≡ length bytes → page ≡ put_mid w.at n w.page now → IsWriter record { page = page; at = w.at + length bytes }
put_written w bytes now page n is fits same count at =
    let len : length (take w.at w.page) ≡ w.at = length-take-le w.at w.page (omega (arith, is.whole, is.within)) in
    let cells = put_page w bytes page n is fits count (at ∙ ap (put_mid w.at n w.page) same) in
    let size : length (take w.at w.page ++ bytes) ≡ w.at + length bytes = omega (arith, length-append {A = ℕ}) in
    let front : take (w.at + length bytes) page ≡ take w.at w.page ++ bytes =
    ap (take (w.at + length bytes)) cells ∙ ap (λ (m : ℕ). take m (padded 4096 (take w.at w.page ++ bytes))) (sym size) ∙ take-padded 4096 (take w.at w.page ++ bytes) in
    record {
      within = fits;
      whole = ap length cells ∙ length-padded 4096 (take w.at w.page ++ bytes) (omega arith);
      zeros = cells ∙ ap (padded 4096) (sym front);
    }

-- bytes behind their number, then zeros
pub field_written : (old bytes : List ℕ) (width : ℕ) → length bytes ≤ width → ((old ++ length bytes ∷ []) ++ bytes) ++ replicate (width - length bytes) 0 ≡ old ++ field width bytes
unfolding padded field
field_written old bytes width fits = simp append_assoc

-- a field is its width and one byte
pub length-field : (width : ℕ) (bytes : List ℕ) → length bytes ≤ width → length (field width bytes) ≡ 1 + width
unfolding field
length-field width bytes fits = omega (arith, length-padded width bytes fits)
