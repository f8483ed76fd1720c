-- Bytes written over zeros are the fields of a key or a record.
use Rattle.std.proofs.Common.{◌≡◌, ℕ, ◌<◌, ◌≤◌, List, ◌++◌, length, take, drop, replicate, sym, ap, ◌∙◌, arith}
use Rattle.std.proofs.lemmas.List.{drop-replicate, length-take-le}
use Rattle.rec_types.specs.KeyBytes.{IsKey}
use Rattle.rec_types.specs.RecordBytes.{IsRecord}
use Rattle.rec_types.specs.Padded.{padded}
use Rattle.rec_types.specs.ShortBytes.{IsShortRecord}
use Rattle.rec_types.proofs.Padding.{length-padded, take-padded, padded-front, written, cut-padded, grown-padded}

-- bytes copied to the front of sixteen zeros are a key's fields
pub key_written : (bytes front : List ℕ) → front ≡ bytes → 0 < length bytes → length bytes ≤ 16 → IsKey record { bytes = front ++ drop (length bytes) (replicate 16 0); len = length bytes }
key_written bytes front is some most =
    let cells = written 16 bytes front is most in
    record { some = some; most = most; whole = ap length cells ∙ length-padded 16 bytes most; zeros = padded-front 16 bytes _ cells }

-- bytes copied to the front of a hundred zeros are a record's fields
pub record_written : (bytes front : List ℕ) → front ≡ bytes → length bytes ≤ 100 → IsRecord record { bytes = front ++ drop (length bytes) (replicate 100 0); len = length bytes }
record_written bytes front is most =
    let cells = written 100 bytes front is most in
    record { most = most; whole = ap length cells ∙ length-padded 100 bytes most; zeros = padded-front 100 bytes _ cells }

module _ (cells front : List ℕ) (len : ℕ) (few : len ≤ 32) where
  -- the front of a record's field is a short record's
  module _ (long : length cells ≡ 100) (zeros : padded 100 (take len cells) ≡ cells) (is : front ≡ take 32 cells) where
    bytes_long : length (take len cells) ≡ len
    bytes_long = length-take-le len cells (omega (arith, few, long))

    front_is : front ≡ padded 32 (take len cells)
    front_is = is ∙ ap (take 32) (sym zeros) ∙ cut-padded 32 100 (take len cells) (omega (arith, few, bytes_long)) (omega arith)

    pub record_cut : IsShortRecord record { bytes = front; len = len }
    record_cut = record {
      most = few;
      whole = ap length front_is ∙ length-padded 32 (take len cells) (omega (arith, few, bytes_long));
      zeros = ap (λ n. padded 32 (take n front)) (sym bytes_long) ∙ padded-front 32 (take len cells) front front_is;
    }

    pub cut_bytes : take len front ≡ take len cells
    cut_bytes = ap (λ n. take n front) (sym bytes_long) ∙ ap (take (length (take len cells))) front_is ∙ take-padded 32 (take len cells)

  -- a short record's field over the front of a hundred zeros is a record's
  module _ (long : length cells ≡ 32) (zeros : padded 32 (take len cells) ≡ cells) (is : front ≡ cells) where
    short_long : length (take len cells) ≡ len
    short_long = length-take-le len cells (omega (arith, few, long))

    whole_is : front ++ drop 32 (replicate 100 0) ≡ padded 100 (take len cells)
    whole_is =
        ap (λ (xs : List ℕ). xs ++ drop 32 (replicate 100 0)) (is ∙ sym zeros)
        ∙ ap (λ (xs : List ℕ). padded 32 (take len cells) ++ xs) (drop-replicate 32 100 0)
        ∙ grown-padded 32 100 (take len cells) (omega (arith, few, short_long)) (omega arith)

    pub short_grown : IsRecord record { bytes = front ++ drop 32 (replicate 100 0); len = len }
    short_grown = record {
      most = omega (arith, few);
      whole = ap length whole_is ∙ length-padded 100 (take len cells) (omega (arith, few, short_long));
      zeros = ap (λ n. padded 100 (take n (front ++ drop 32 (replicate 100 0)))) (sym short_long) ∙ padded-front 100 (take len cells) _ whole_is;
    }
