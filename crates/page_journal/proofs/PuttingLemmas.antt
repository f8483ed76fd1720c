-- Old pages put back one after another, and gathered one after another.
use Rattle.std.proofs.Common.{◌≡◌, ◌≢◌, inl, ⊎_elim, ℕ, zero, suc, ◌+◌, ◌<◌, ◌≤◌, Bool, true, false, ◌||◌, eqb, List, [], ◌∷◌, ◌++◌, length, take, Option, Some, None, slice_get, set, get_or, unwrap_or, refl, sym, ◌∙◌, ap, subst, arith, length-set}
use Rattle.std.proofs.Math.Numerals.{add-one}
use Rattle.std.proofs.lemmas.Bool.{cases_eq, eq-eqb, ne_eqb}
use Rattle.std.proofs.lemmas.List.Elements.{All-push}
use Rattle.page_journal.specs.Files.{PageFile, SideFile, Files, AscendBelow, SaysRest, IsOf, is_kept, put_back, restored}
use Rattle.page_journal.specs.Sums.{sum_without}
use Rattle.page_journal.specs.Steps.{Does, Stays, Fresh, TornAt, begun, kept_at, kept_more, side_shape}
use Rattle.page_journal.specs.Crash.{IsSealed, LeavesOnly, FilesStandFor, MayWrite, Gathered, KeepsMarked}
use Rattle.page_journal.specs.declared.disk_state.DiskState.{Ghosts}
use Rattle.page_journal.specs.declared.side_shape.SideShape.{SideShape}
use Rattle.page_journal.proofs.RestoreLemmas.{set_past, sum_alike}
use Rattle.page_journal.proofs.RunLemmas.{Quiet, Holds, quiet_stays, quiet_fresh, holds_stays, holds_then}

or_true : (b : Bool) → (b || true) ≡ true
or_true true = refl
or_true false = refl

pub same_page : (p q : ℕ × List ℕ) → Some q ≡ Some p → q ≡ p
same_page p q is = ap (λ (o : Option (ℕ × List ℕ)). unwrap_or o p) is

kept_in : (kept : List (ℕ × List ℕ)) (i : ℕ) (p : ℕ × List ℕ) → slice_get kept i ≡ Some p → is_kept kept p.0 ≡ true
kept_in [] i p is = absurd (cc)
kept_in (q ∷ kept) zero p is = ap (λ (b : Bool). b || is_kept kept p.0) (eq-eqb p.0 q.0 (ap (λ (r : ℕ × List ℕ). r.0) (sym (same_page p q is))))
kept_in (q ∷ kept) (suc i) p is = ap (λ (b : Bool). eqb p.0 q.0 || b) (kept_in kept i p is) ∙ or_true (eqb p.0 q.0)

put_back_more : (kept : List (ℕ × List ℕ)) (i : ℕ) (p : ℕ × List ℕ) (pages : List (List ℕ)) → slice_get kept i ≡ Some p → put_back (take (suc i) kept) pages ≡ set (put_back (take i kept) pages) p.0 p.1
put_back_more [] i p pages is = absurd (cc)
put_back_more (q ∷ kept) zero p pages is = ap (λ (r : ℕ × List ℕ). set pages r.0 r.1) (same_page p q is)
put_back_more (q ∷ kept) (suc i) p pages is = put_back_more kept i p (set pages q.0 q.1) is

-- a page written keeps the length, and the tail
pub long_torn : (n : ℕ) (d c : Files) → TornAt n d c → length c.main.pages ≡ length d.main.pages
long_torn n d c torn = ap (λ (m : PageFile). length m.pages) torn.main ∙ length-set d.main.pages n torn.page

pub tail_torn : (n : ℕ) (d c : Files) → TornAt n d c → c.main.tail ≡ d.main.tail
tail_torn n d c torn = ap (λ (m : PageFile). m.tail) torn.main

-- a page of the side file may be written over
pub may_of : (kept : SideFile) (side : Option SideFile) (i : ℕ) (p : ℕ × List ℕ) → side ≡ Some kept → kept_at side i ≡ Some p → MayWrite kept p.0
may_of kept side i p is found = inl (kept_in kept.pages i p (ap (λ s. kept_at s i) (sym is) ∙ found))

-- a page more, and which are kept
pub kept_other : (kept : List (ℕ × List ℕ)) (n : ℕ) (page : List ℕ) (k : ℕ) → k ≢ n → is_kept (kept ++ (n, page) ∷ []) k ≡ is_kept kept k
kept_other [] n page k other = ap (λ (b : Bool). b || false) (ne_eqb k n other)
kept_other (q ∷ kept) n page k other = ap (λ (b : Bool). eqb k q.0 || b) (kept_other kept n page k other)

-- and their numbers ascend
ascend_weaker : (least end : ℕ) (kept : List (ℕ × List ℕ)) → AscendBelow least end kept → AscendBelow least (suc end) kept
ascend_weaker least end [] up = tt
ascend_weaker least end (p ∷ kept) up = (up.0, omega (arith, up.1), ascend_weaker (suc p.0) end kept up.2)

pub ascend_push : (least end : ℕ) (kept : List (ℕ × List ℕ)) (page : List ℕ) → AscendBelow least end kept → least ≤ end → AscendBelow least (suc end) (kept ++ (end, page) ∷ [])
ascend_push least end [] page up fits = (fits, omega arith, tt)
ascend_push least end (p ∷ kept) page up fits = (up.0, omega (arith, up.1), ascend_push (suc p.0) end kept page up.2 (omega (arith, up.1)))

pub kept_last : (kept : List (ℕ × List ℕ)) (n : ℕ) (page : List ℕ) → is_kept (kept ++ (n, page) ∷ []) n ≡ true
kept_last [] n page = ap (λ (b : Bool). b || false) (eq-eqb n n refl)
kept_last (q ∷ kept) n page = ap (λ (b : Bool). eqb n q.0 || b) (kept_last kept n page) ∙ or_true (eqb n q.0)

-- a side file whose marked pages were gathered, and which says the sum over the others
pub own_of : (pages : List (List ℕ)) (marks : List Bool) (fresh : SideFile) (rest : ℕ) → length marks ≡ length pages → Gathered pages fresh → KeepsMarked marks fresh → AscendBelow 0 (length marks) fresh.pages → fresh.rest ≡ Some rest → rest ≡ sum_without (λ n. get_or marks n false) (length marks) pages → IsOf fresh pages
own_of pages marks fresh rest long gathered keeps up says sum =
    let same : length marks ≡ fresh.long = long ∙ sym gathered.long in
    record {
      long = omega (arith, gathered.long);
      rest = subst (SaysRest fresh pages) (sym says) (
        subst (λ n. AscendBelow 0 n fresh.pages) same up,
        sum ∙ sym (sum_alike (is_kept fresh.pages) (λ n. get_or marks n false) (length marks) pages keeps) ∙ ap (λ n. sum_without (is_kept fresh.pages) n pages) same,
      );
    }

-- the side file that was found
pub side_cases : (side : Option SideFile) (found : SideShape) → Some found ≡ side_shape side → (kept : SideFile) × (side ≡ Some kept) × (kept.long ≡ found.long) × (length kept.pages ≡ found.kept)
side_cases None found is = absurd (cc)
side_cases (Some kept) found is =
    let same : found ≡ record { long = kept.long; kept = length kept.pages; rest = kept.rest } = ap (λ (o : Option SideShape). unwrap_or o found) is in
    (kept, refl, sym (ap (λ (p : SideShape). p.long) same), sym (ap (λ (p : SideShape). p.kept) same))

pub shape_parts : (kept : SideFile) (side : SideShape) → side_shape (Some kept) ≡ Some side → (kept.long ≡ side.long) × (length kept.pages ≡ side.kept)
shape_parts kept side is =
    let same : record { long = kept.long; kept = length kept.pages; rest = kept.rest } ≡ side = ap (λ (o : Option SideShape). unwrap_or o side) is in
    (ap (λ (p : SideShape). p.long) same, ap (λ (p : SideShape). p.kept) same)

module _ {D : Type 0} (g : Ghosts D) where
  -- so many of the pages are put back over what was there
  pub record Puts (kept : SideFile) (base : List (List ℕ)) (i : ℕ) (old new : D) : Type 0 where
    pub holds : Holds g kept base old new
    pub put : (g.seen new).main.pages ≡ put_back (take i kept.pages) (g.seen old).main.pages

  pub puts_read : (kept : SideFile) (base : List (List ℕ)) (i : ℕ) (old mid new : D) → Puts kept base i old mid → Stays g mid new → Puts kept base i old new
  puts_read kept base i old mid new puts does = record {
    holds = holds_stays g kept base old mid new puts.holds does;
    put = ap (λ (f : Files). f.main.pages) does.seen ∙ puts.put;
  }

  pub puts_change : (kept : SideFile) (base : List (List ℕ)) (i n : ℕ) (page : List ℕ) (old mid new : D) → Puts kept base i old mid → IsSealed g kept base new × LeavesOnly g (FilesStandFor (restored kept base)) mid new → (g.seen new).main.pages ≡ set (g.seen mid).main.pages n page → slice_get kept.pages i ≡ Some (n, page) → Puts kept base (i + 1) old new
  puts_change kept base i n page old mid new puts more is there = record {
    holds = holds_then g kept base old mid new puts.holds more.0 more.1;
    put = is ∙ ap (λ m. set m n page) puts.put ∙ sym (put_back_more kept.pages i (n, page) (g.seen old).main.pages there) ∙ ap (λ k. put_back (take k kept.pages) (g.seen old).main.pages) (sym (add-one i));
  }

  pub puts_skip : (kept : SideFile) (base : List (List ℕ)) (i n : ℕ) (page : List ℕ) (old mid : D) → Puts kept base i old mid → length (g.seen mid).main.pages ≤ n → slice_get kept.pages i ≡ Some (n, page) → Puts kept base (i + 1) old mid
  puts_skip kept base i n page old mid puts past there = record {
    holds = puts.holds;
    put = sym (set_past (g.seen mid).main.pages n page past) ∙ ap (λ m. set m n page) puts.put ∙ sym (put_back_more kept.pages i (n, page) (g.seen old).main.pages there) ∙ ap (λ k. put_back (take k kept.pages) (g.seen old).main.pages) (sym (add-one i));
  }

  -- the marked ones of the first pages are gathered, in their order
  pub record Gathers (main : PageFile) (marks : List Bool) (i : ℕ) (old new : D) : Type 0 where
    pub quiet : Quiet g main old new
    pub kept : Gathered main.pages (g.seen new).fresh
    pub rest : (g.seen new).fresh.rest ≡ (g.seen old).fresh.rest
    pub below : (n : ℕ) → n < i → is_kept (g.seen new).fresh.pages n ≡ get_or marks n false
    pub none : (n : ℕ) → i ≤ n → is_kept (g.seen new).fresh.pages n ≡ false
    pub up : AscendBelow 0 i (g.seen new).fresh.pages

  pub gathers_begin : (main : PageFile) (marks : List Bool) (rest : ℕ) (old : D) → Quiet g main old old → (g.seen old).fresh ≡ begun (length marks) rest → length marks ≡ length main.pages → Gathers main marks 0 old old
  gathers_begin main marks rest old quiet fresh long = record {
    quiet = quiet;
    kept = subst (λ (f : SideFile). Gathered main.pages f) (sym fresh) (record { long = long; pages_there = λ k d below. absurd (omega (arith, below)) });
    rest = refl;
    below = λ n below. absurd (omega (arith, below));
    none = λ n past. ap (λ (f : SideFile). is_kept f.pages n) fresh;
    up = subst (λ (f : SideFile). AscendBelow 0 0 f.pages) (sym fresh) tt;
  }

  pub gathers_read : (main : PageFile) (marks : List Bool) (i : ℕ) (old mid new : D) → Gathers main marks i old mid → Stays g mid new → Gathers main marks i old new
  gathers_read main marks i old mid new had does =
      let same : (g.seen mid).fresh ≡ (g.seen new).fresh = sym (ap (λ (f : Files). f.fresh) does.seen) in
      record {
        quiet = quiet_stays g main old mid new had.quiet does;
        kept = subst (λ (f : SideFile). Gathered main.pages f) same had.kept;
        rest = ap (λ (f : SideFile). f.rest) (sym same) ∙ had.rest;
        below = λ n inside. ap (λ (f : SideFile). is_kept f.pages n) (sym same) ∙ had.below n inside;
        none = λ n past. ap (λ (f : SideFile). is_kept f.pages n) (sym same) ∙ had.none n past;
        up = subst (λ (f : SideFile). AscendBelow 0 i f.pages) same had.up;
      }

  pub gathers_skip : (main : PageFile) (marks : List Bool) (i : ℕ) (old new : D) → Gathers main marks i old new → get_or marks i false ≡ false → Gathers main marks (i + 1) old new
  gathers_skip main marks i old new had unmarked = record {
    quiet = had.quiet;
    kept = had.kept;
    rest = had.rest;
    below = λ n inside. ⊎_elim (λ (here : n ≡ i). ap (λ m. is_kept (g.seen new).fresh.pages m) here ∙ had.none i (omega arith) ∙ sym unmarked ∙ ap (λ m. get_or marks m false) (sym here))
        (λ (other : n ≢ i). had.below n (omega (arith, inside, other)))
        (cases_eq n i);
    none = λ n past. had.none n (omega (arith, past));
    up = subst (λ m. AscendBelow 0 m (g.seen new).fresh.pages) (sym (add-one i)) (ascend_weaker 0 i (g.seen new).fresh.pages had.up);
  }

  pub gathers_keep : (main : PageFile) (marks : List Bool) (i : ℕ) (page : List ℕ) (old mid new : D) → Gathers main marks i old mid → get_or marks i false ≡ true → Does g Fresh mid new → slice_get main.pages i ≡ Some page → (g.seen new).fresh ≡ kept_more (g.seen mid).fresh i page → Gathers main marks (i + 1) old new
  gathers_keep main marks i page old mid new had marked keeps there is =
      let was = (g.seen mid).fresh.pages in
      record {
        quiet = quiet_fresh g main old mid new had.quiet keeps;
        kept = subst (λ (f : SideFile). Gathered main.pages f) (sym is) (record { long = had.kept.long; pages_there = All-push (λ (x : ℕ × List ℕ). slice_get main.pages x.0 ≡ Some x.1) was (i, page) had.kept.pages_there there });
        rest = ap (λ (f : SideFile). f.rest) is ∙ had.rest;
        below = λ n inside. ap (λ (f : SideFile). is_kept f.pages n) is ∙ ⊎_elim
            (λ (here : n ≡ i). ap (λ m. is_kept (was ++ (i, page) ∷ []) m) here ∙ kept_last was i page ∙ sym marked ∙ ap (λ m. get_or marks m false) (sym here))
            (λ (other : n ≢ i). kept_other was i page n other ∙ had.below n (omega (arith, inside, other)))
            (cases_eq n i);
        none = λ n past. ap (λ (f : SideFile). is_kept f.pages n) is ∙ kept_other was i page n (λ here. omega (arith, here, past)) ∙ had.none n (omega (arith, past));
        up = subst (λ (f : SideFile). AscendBelow 0 (i + 1) f.pages) (sym is) (subst (λ m. AscendBelow 0 m (was ++ (i, page) ∷ [])) (sym (add-one i)) (ascend_push 0 i was page had.up (omega arith)));
      }
