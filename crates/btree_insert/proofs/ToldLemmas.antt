-- What a sink was told of a tree, part by part.
use Rattle.std.proofs.Common.{◌≡◌, ℕ, zero, suc, ◌+◌, ◌<◌, List, [], ◌∷◌, ◌++◌, Result, Ok, Err, IfOk, OnOk, length, get_or, take, drop, refl, ap, sym, ◌∙◌, subst, arith, append_assoc, length-append}
use Rattle.std.proofs.lemmas.List.{take-append-drop, take_more}
use Rattle.btree_node.specs.declared.node.Node.{Node}
use Rattle.btree_node.specs.Lists.{Element}
use Rattle.btree_insert.specs.PageTrees.{Fan, Body}
use Rattle.rec_types.specs.Told.{Takes, TakesFront, TellsAll, TellsSome}
use Rattle.btree_insert.proofs.SonsAroundLemmas.{Stands}

abbrev pub Told : Type 1
Told = List Element → Type 0

-- what follows where all was taken
pub if_taken : {E F : Type 0} (r : Result (Result (Unit {0}) F) E) (A B : Type 0) → (A → B) → IfOk r (λ taken. OnOk taken A) → IfOk r (λ taken. OnOk taken B)
if_taken (Ok (Ok done)) A B follows is = follows is
if_taken (Ok (Err stop)) A B follows is = tt
if_taken (Err fault) A B follows is = tt

-- what was taken was told
pub taken_told : {F : Type 0} (r : Result (Unit {0}) F) (told : Told) (stops : List Element → F → Type 0) (es : List Element) → Takes told stops es r → OnOk r (told es)
taken_told (Ok done) told stops es is = is
taken_told (Err stop) told stops es is = tt

-- elements of which none was told yet
pub none_told : (told : Told) (es : List Element) → 0 < length es → told [] → TakesFront told es
none_told told [] some none = absurd (omega arith)
none_told told (e ∷ es) some none = record { front = []; next = e; rest = es; whole = refl; took = none }

-- a front of the first elements is one of all
pub front_of_more : (told : Told) (xs ys es : List Element) (x : Element) → es ≡ xs ++ x ∷ ys → TakesFront told xs → TakesFront told es
front_of_more told xs ys es x es_is part = record {
  front = part.front;
  next = part.next;
  rest = part.rest ++ x ∷ ys;
  whole = es_is ∙ ap (λ (zs : List Element). zs ++ x ∷ ys) part.whole ∙ append_assoc part.front (part.next ∷ part.rest) (x ∷ ys);
  took = part.took;
}

-- the elements behind those that were told are told
pub all_behind : {E F : Type 0} (device : E) (last all : Told) (last_stop all_stop : List Element → F → Type 0) (xs ys es : List Element) (x : Element) (r : Result (Result (Unit {0}) F) E) → es ≡ xs ++ x ∷ ys
    → ((zs : List Element) → last zs → all (xs ++ x ∷ zs)) → ((zs : List Element) (fault : F) → last_stop zs fault → all_stop (xs ++ x ∷ zs) fault) → TellsAll device last last_stop ys r → TellsAll device all all_stop es r
all_behind device last all last_stop all_stop xs ys es x (Ok (Ok done)) es_is join stop is = subst all (sym es_is) (join ys is)
all_behind device last all last_stop all_stop xs ys es x (Ok (Err fault)) es_is join stop is = subst (λ (zs : List Element). all_stop zs fault) (sym es_is) (stop ys fault is)
all_behind device last all last_stop all_stop xs ys es x (Err fault) es_is join stop is = (
  is.0,
  record {
    front = xs ++ x ∷ is.1.front;
    next = is.1.next;
    rest = is.1.rest;
    whole = es_is ∙ ap (λ (zs : List Element). xs ++ x ∷ zs) is.1.whole ∙ sym (append_assoc xs (x ∷ is.1.front) (is.1.next ∷ is.1.rest));
    took = join is.1.front is.1.took;
  },
)

-- the same of some elements
pub some_behind : {E F : Type 0} (last all : Told) (last_stop all_stop : List Element → F → Type 0) (xs : List Element) (x : Element) (r : Result (Result (Unit {0}) F) E)
    → ((zs : List Element) → last zs → all (xs ++ x ∷ zs)) → ((zs : List Element) (fault : F) → last_stop zs fault → all_stop (xs ++ x ∷ zs) fault) → TellsSome last last_stop r → TellsSome all all_stop r
some_behind last all last_stop all_stop xs x (Ok (Ok done)) join stop (zs, is) = (xs ++ x ∷ zs, join zs is)
some_behind last all last_stop all_stop xs x (Ok (Err fault)) join stop (zs, is) = (xs ++ x ∷ zs, stop zs fault is)
some_behind last all last_stop all_stop xs x (Err fault) join stop (zs, is) = (xs ++ x ∷ zs, join zs is)

-- a page with an element stands for some
pub fan_some : (tree : Stands) (sons : List ℕ) (els es : List Element) (us : List ℕ) → 0 < length els → Fan tree sons els es us → 0 < length es
fan_some tree [] els es us some fan = absurd fan
fan_some tree (s ∷ []) [] es us some fan = absurd (omega arith)
fan_some tree (s ∷ []) (e ∷ els) es us some fan = absurd fan
fan_some tree (s ∷ (t ∷ ss)) [] es us some fan = absurd fan
fan_some tree (s ∷ (t ∷ ss)) (e ∷ els) es us some (xs, ys, here, rest, first, more, es_is, us_is) = let long = ap length es_is in omega (arith, long, length-append xs (e ∷ ys))

pub body_some : (tree : Stands) (h : ℕ) (n : Node) (es : List Element) (us : List ℕ) → 0 < length n.elements.items → Body tree h n es us → 0 < length es
body_some tree zero n es us some (kind, es_is, us_is) = let long = ap length es_is in omega (arith, long)
body_some tree (suc h) n es us some (kind, fan) = fan_some tree n.sons.items n.elements.items es us some fan

-- a sink that took elements was told them, and one that stopped stopped at them
pub took : {F : Type 0} (told : Told) (stops : List Element → F → Type 0) (es : List Element) (r : Result (Unit {0}) F) (done : Unit {0}) → r ≡ Ok done → Takes told stops es r → told es
took {F} told stops es r done is taken = subst (λ (a : Result (Unit {0}) F). Takes told stops es a) is taken

pub stopped : {F : Type 0} (told : Told) (stops : List Element → F → Type 0) (es : List Element) (r : Result (Unit {0}) F) (fault : F) → r ≡ Err fault → Takes told stops es r → stops es fault
stopped {F} told stops es r fault is taken = subst (λ (a : Result (Unit {0}) F). Takes told stops es a) is taken

-- what is known where all was taken
pub all_taken : {F : Type 0} (r : Result (Unit {0}) F) (A : Type 0) (done : Unit {0}) → r ≡ Ok done → OnOk r A → A
all_taken {F} r A done is known = subst (λ (a : Result (Unit {0}) F). OnOk a A) is known

-- the elements up to the next one, and with those behind it
pub one_more : (es : List Element) (i : ℕ) (x : Element) → i < length es → x ≡ get_or es i x → take i es ++ x ∷ [] ≡ take (i + 1) es
one_more es i x below is = ap (λ (y : Element). take i es ++ y ∷ []) is ∙ sym (take_more es i x below)

pub all_of : (es : List Element) (i : ℕ) (x : Element) → i < length es → x ≡ get_or es i x → (take i es ++ x ∷ []) ++ drop (i + 1) es ≡ es
all_of es i x below is = ap (λ (zs : List Element). zs ++ drop (i + 1) es) (one_more es i x below is) ∙ take-append-drop (i + 1) es
