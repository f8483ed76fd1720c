-- What is kept beside each record of a log.
use Rattle.std.proofs.Common.{true, ◌≡◌, ℕ, zero, suc, ◌+◌, ◌-◌, ◌<◌, ◌≤◌, Bool, cond, List, [], ◌∷◌, ◌++◌, length, get_or, slice_get, take, drop, reverse, Some, None, refl, sym, ap, subst, ◌∙◌, arith, eq-eqb}
use Rattle.std.proofs.lemmas.List.{length-reverse, length-take-le, length-append}
use Rattle.std.proofs.lemmas.Option.{get_or_from_slice_get}
use Rattle.tx_log.proofs.Chains.{chain-skip, chain-head, numbered-part, length-part}
use Rattle.tx_log.proofs.LogIndex.{chain-zero, chain_stands, cut_at, record_of_chain, reverse-push}
use Rattle.tx_log.specs.Log.{lsn_of, key_of_record, leads_to, led, tells_change, chain, record_at, IsNumbered}
use Rattle.tx_log.specs.Marks.{first_lsn, IsMarked, AreMarked}
use Rattle.tx_log.specs.Walks.{newest_in, absent_at}
use Rattle.tx_log.specs.declared.log_record.LogRecord.{LogRecord}
use Rattle.tx_log.specs.declared.mark.Mark.{Mark}

-- there are as many marks as records
pub marked_length : (rs : List LogRecord) (ms : List Mark) → AreMarked rs ms → length rs ≡ length ms
marked_length [] [] marked = refl
marked_length [] (m ∷ ms) marked = absurd marked
marked_length (r ∷ rs) [] marked = absurd marked
marked_length (r ∷ rs) (m ∷ ms) marked = ap suc (marked_length rs ms marked.1)

-- as many marks as records
pub as_many : (log : List LogRecord) (marks : List Mark) → AreMarked (reverse log) (reverse marks) → length log ≡ length marks
as_many log marks marked = sym (length-reverse log) ∙ marked_length (reverse log) (reverse marks) marked ∙ length-reverse marks

-- ---- a mark of a list that is cut there

newest_at : (above : List Mark) (m : Mark) (below : List Mark) (rs : List LogRecord) → IsNumbered rs → AreMarked rs (above ++ m ∷ below) → m.newest ≡ first_lsn (chain rs (length below + 1))
newest_at [] m below [] is marked = absurd marked
newest_at [] m below (r ∷ rs) is marked =
    let many = marked_length rs below marked.1 in
    marked.0.newest ∙ sym (ap (λ (b : Bool). first_lsn (cond b (led (tells_change r) r (chain rs (leads_to r))) (chain rs (length below + 1)))) (eq-eqb (lsn_of r) (length below + 1) (omega (arith, is.0, many))))
newest_at (x ∷ above) m below [] is marked = absurd marked
newest_at (x ∷ above) m below (r ∷ rs) is marked =
    let many = marked_length rs (above ++ m ∷ below) marked.1 in
    let parts : length (above ++ m ∷ below) ≡ length above + length (m ∷ below) = length-append above (m ∷ below) in
    newest_at above m below rs is.3 marked.1
    ∙ sym (ap first_lsn (chain-skip r rs (length below + 1) is.0 (omega (arith, many, parts))))

marked_part : (newer : List LogRecord) (r : LogRecord) (older : List LogRecord) (above : List Mark) (m : Mark) (below : List Mark) → length older ≡ length below → AreMarked (newer ++ r ∷ older) (above ++ m ∷ below) → IsMarked r older m
marked_part [] r older [] m below many marked = marked.0
marked_part [] r older (x ∷ above) m below many marked =
    let too_many = marked_length older (above ++ m ∷ below) marked.1 in
    let parts : length (above ++ m ∷ below) ≡ length above + length (m ∷ below) = length-append above (m ∷ below) in
    absurd (omega (arith, too_many, parts))
marked_part (y ∷ newer) r older [] m below many marked =
    let too_many = marked_length (newer ++ r ∷ older) below marked.1 in
    absurd (omega (arith, too_many, length-part newer r older))
marked_part (y ∷ newer) r older (x ∷ above) m below many marked = marked_part newer r older above m below many marked.1

chain-below : (newer : List LogRecord) (r : LogRecord) (older : List LogRecord) (n : ℕ) → IsNumbered (newer ++ r ∷ older) → n ≤ length older → chain (newer ++ r ∷ older) n ≡ chain older n
chain-below [] r older n is low = chain-skip r older n is.0 low
chain-below (x ∷ newer) r older n is low = chain-skip x (newer ++ r ∷ older) n is.0 (omega (arith, length-part newer r older)) ∙ chain-below newer r older n is.3 low

absent_at_mark : (above : List Mark) (m : Mark) (below : List Mark) (rs us : List LogRecord) (n : ℕ) (u : LogRecord) → IsNumbered rs → AreMarked rs (above ++ m ∷ below) → chain rs n ≡ u ∷ us → lsn_of u ≡ length below + 1 → m.absent ≡ absent_at (key_of_record u) us
absent_at_mark above m below rs us n u is marked e at =
    let s = chain_stands rs n u us e in
    let whole = subst IsNumbered s.is is in
    let part = numbered-part s.newer u s.older whole in
    let there : IsMarked u s.older m = marked_part s.newer u s.older above m below (omega (arith, part.0)) (subst (λ (xs : List LogRecord). AreMarked xs (above ++ m ∷ below)) s.is marked) in
    let down : chain s.older (leads_to u) ≡ us =
    sym (chain-below s.newer u s.older (leads_to u) whole part.2) ∙ ap (λ (xs : List LogRecord). chain xs (leads_to u)) (sym s.is) ∙ (chain-head rs n u us is e).tail in
    there.absent ∙ ap (absent_at (key_of_record u)) down

-- ---- a mark that is read at a number

below_is : (marks : List Mark) (n : ℕ) → n < length marks → length (reverse (take n marks)) ≡ n
below_is marks n within = length-reverse (take n marks) ∙ length-take-le n marks (omega arith)

-- the mark of a record tells the head of the chain from it
pub newest_read : (marks : List Mark) (rs : List LogRecord) (from : ℕ) (m : Mark) → IsNumbered rs → AreMarked rs (reverse marks) → 0 < from → from ≤ length marks → slice_get marks (from - 1) ≡ Some m → m.newest ≡ first_lsn (chain rs from)
newest_read marks rs from m is marked some within read =
    let n = from - 1 in
    let below = reverse (take n marks) in
    let cut = cut_at marks n m m (omega arith) (get_or_from_slice_get marks n m m read) in
    let at : length below + 1 ≡ from = omega (arith, below_is marks n (omega arith)) in
    newest_at (reverse (drop (n + 1) marks)) m below rs is (subst (AreMarked rs) cut marked) ∙ ap (λ k. first_lsn (chain rs k)) at

-- from no record there is no chain
pub none_read : (rs : List LogRecord) (from : ℕ) → IsNumbered rs → from ≡ 0 → 0 ≡ first_lsn (chain rs from)
none_read rs from is zero_is = sym (ap (λ k. first_lsn (chain rs k)) zero_is ∙ ap first_lsn (chain-zero rs is))

-- the mark of an update tells whether its key is out below it
pub absent_read : (marks : List Mark) (rs us : List LogRecord) (n lsn : ℕ) (u : LogRecord) (m : Mark) → IsNumbered rs → AreMarked rs (reverse marks) → chain rs n ≡ u ∷ us → lsn_of u ≡ lsn → 0 < lsn → lsn ≤ length marks → slice_get marks (lsn - 1) ≡ Some m → m.absent ≡ absent_at (key_of_record u) us
absent_read marks rs us n lsn u m is marked e at some within read =
    let k = lsn - 1 in
    let below = reverse (take k marks) in
    let cut = cut_at marks k m m (omega arith) (get_or_from_slice_get marks k m m read) in
    let place : lsn_of u ≡ length below + 1 = omega (arith, at, below_is marks k (omega arith)) in
    absent_at_mark (reverse (drop (k + 1) marks)) m below rs us n u is (subst (AreMarked rs) cut marked) e place

-- ---- the change that stands at the number

nothing_case : (rs us : List LogRecord) (from : ℕ) → IsNumbered rs → chain rs from ≡ us → first_lsn us ≡ 0 → None ≡ newest_in us
nothing_case rs [] from is e none = refl
nothing_case rs (u ∷ us) from is e none = absurd (let head = chain-head rs from u us is e in omega (arith, head.falls, none))

-- where the head has no number there is none
pub nothing_there : (rs : List LogRecord) (from at : ℕ) → IsNumbered rs → at ≡ first_lsn (chain rs from) → at ≡ 0 → None ≡ newest_in (chain rs from)
nothing_there rs from at is first none = nothing_case rs (chain rs from) from is refl (sym first ∙ none)

first_within : (rs us : List LogRecord) (from : ℕ) → IsNumbered rs → chain rs from ≡ us → first_lsn us ≤ length rs
first_within rs [] from is e = omega arith
first_within rs (u ∷ us) from is e = (chain-head rs from u us is e).within

-- the head's number is one of the log's
pub within_log : (log : List LogRecord) (from at : ℕ) → IsNumbered (reverse log) → at ≡ first_lsn (chain (reverse log) from) → at ≤ length log
within_log log from at is first =
    let low = first_within (reverse log) (chain (reverse log) from) from is refl in
    omega (arith, low, first, length-reverse log)

got : {A : Type 0} (xs : List A) (n : ℕ) (d x : A) → slice_get xs n ≡ Some x → get_or xs n d ≡ x
got [] n d x h = absurd (cc)
got (y ∷ xs) zero d x h = cc
got (y ∷ xs) (suc n) d x h = got xs n d x h

-- an update is the head of the chain from a number
pub record IsFirst (rs : List LogRecord) (from : ℕ) (r : LogRecord) : Type 0 where
  pub rest : List LogRecord
  pub is : chain rs from ≡ r ∷ rest
  pub update : tells_change r ≡ true

first_case : (log us : List LogRecord) (from at : ℕ) (d r : LogRecord) → IsNumbered (reverse log) → chain (reverse log) from ≡ us → at ≡ first_lsn us → 0 < at → get_or log (at - 1) d ≡ r → IsFirst (reverse log) from r
first_case log [] from at d r is e first some read = absurd (omega (arith, first))
first_case log (u ∷ us) from at d r is e first some read =
    let head = chain-head (reverse log) from u us is e in
    let number : lsn_of u ≡ suc (at - 1) = omega (arith, first) in
    let stands = ap (record_at log) (sym number) ∙ record_of_chain log from u us is e in
    let same : u ≡ r = sym (got log (at - 1) d u stands) ∙ read in
    record { rest = us; is = e ∙ ap (λ x. x ∷ us) same; update = ap tells_change (sym same) ∙ head.update }

-- what is read at the head's number is the head
pub first_there : (log : List LogRecord) (from at : ℕ) (d r : LogRecord) → IsNumbered (reverse log) → at ≡ first_lsn (chain (reverse log) from) → 0 < at → get_or log (at - 1) d ≡ r → IsFirst (reverse log) from r
first_there log from at d r is first some read = first_case log (chain (reverse log) from) from at d r is refl first some read

-- an empty log is marked
pub nothing_marked : (rs : List LogRecord) (ms : List Mark) → rs ≡ [] → ms ≡ [] → AreMarked rs ms
nothing_marked rs ms no_records no_marks = subst (λ (xs : List LogRecord). AreMarked xs ms) (sym no_records) (subst (AreMarked []) (sym no_marks) tt)

-- ---- a record more

-- a log with one more record and its mark
pub marked_more : (log log_new : List LogRecord) (marks marks_new : List Mark) (r : LogRecord) (m : Mark) → reverse log_new ≡ r ∷ reverse log → marks_new ≡ marks ++ m ∷ [] → IsMarked r (reverse log) m → AreMarked (reverse log) (reverse marks) → AreMarked (reverse log_new) (reverse marks_new)
marked_more log log_new marks marks_new r m turned pushed one all =
    let marks_turned : reverse marks_new ≡ m ∷ reverse marks = ap reverse pushed ∙ reverse-push marks m in
    subst (AreMarked (reverse log_new)) (sym marks_turned) (subst (λ (xs : List LogRecord). AreMarked xs (m ∷ reverse marks)) (sym turned) (one, all))
