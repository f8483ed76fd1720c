-- The record that is committed at a key, by what stood there before the first change of the key's owner.
use Rattle.std.proofs.Common.{◌≡◌, ℕ, Bool, true, false, cond, not, ◌&&◌, List, [], ◌∷◌, Option, Some, None, is_some, refl, sym, ap, subst, ◌∙◌, IsTrue}
use Rattle.std.specs.FinMap.{get}
use Rattle.rec_types.specs.Contents.{Contents, set_to, write_to, same_key}
use Rattle.rec_types.specs.History.{Change, applied, replay}
use Rattle.rec_types.specs.Kept.{Kept, change_of, history_of, OnlyOf, IsOwned, BeforesFit}
use Rattle.rec_types.proofs.ContentsLemmas.{get-set_to-here, get-set_to-there, get-write_to-there, same_key-is, same_key-sym}
use Rattle.tx_log.specs.Owners.{claims, owner_of, before_owned}
use Rattle.record_file.specs.Committed.{ended}
use Rattle.record_file.proofs.CommitLemmas.{none_ended}
use Rattle.record_file.proofs.UndoLemmas.{NoneLiveAt}

-- ---- a write, at one key

-- what was alike stays alike
write_alike : (m n : Contents) (k x : List ℕ) (w : Option (Option (List ℕ))) → get n x ≡ get m x → get (write_to n k w) x ≡ get (write_to m k w) x
write_alike m n k x None same = same
write_alike m n k x (Some w) same = at (same_key x k) refl
  where
    here : (o : Contents) → same_key x k ≡ true → get (set_to o k w) x ≡ w
    here o is = ap (get (set_to o k w)) (same_key-is x k is) ∙ get-set_to-here o k w

    at : (b : Bool) → same_key x k ≡ b → get (set_to n k w) x ≡ get (set_to m k w) x
    at true is = here n is ∙ sym (here m is)
    at false is = get-set_to-there n k w x is ∙ same ∙ sym (get-set_to-there m k w x is)

applied_apart : (c : Change) (m : Contents) (x : List ℕ) → same_key x c.key ≡ false → get (applied c m) x ≡ get m x
applied_apart c m x apart = at c.live
  where
    at : (live : Bool) → get (cond live (write_to m c.key c.after) m) x ≡ get m x
    at true = get-write_to-there m c.key c.after x apart
    at false = refl

applied_alike : (c : Change) (m n : Contents) (x : List ℕ) → get n x ≡ get m x → get (applied c n) x ≡ get (applied c m) x
applied_alike c m n x same = at c.live
  where
    at : (live : Bool) → get (cond live (write_to n c.key c.after) n) x ≡ get (cond live (write_to m c.key c.after) m) x
    at true = write_alike m n c.key x c.after same
    at false = same

-- changes of which none is live at a key leave it
none_at : (x : List ℕ) (h : List Change) (n : Contents) → NoneLiveAt x h → get (replay n h) x ≡ get n x
none_at x [] n none = refl
none_at x (d ∷ ds) n none = none_at x ds (applied d n) none.1 ∙ at d.live refl
  where
    apart : IsTrue d.live → same_key x d.key ≡ false
    apart live = at (same_key x d.key) refl
      where
        at : (b : Bool) → same_key x d.key ≡ b → b ≡ false
        at true is = absurd (none.0 live (sym (same_key-is x d.key is)))
        at false is = refl

    at : (live : Bool) → d.live ≡ live → get (cond live (write_to n d.key d.after) n) x ≡ get n x
    at true live = get-write_to-there n d.key d.after x (apart live)
    at false live = refl

-- ---- at a key

not_live : (c : Change) (m : Contents) (x : List ℕ) → c.live ≡ false → get (applied c m) x ≡ get m x
not_live c m x dead = ap (λ (b : Bool). get (cond b (write_to m c.key c.after) m) x) dead

-- what stood there before the owner's first change is committed
pub before_at : (o : ℕ → Bool) (x : List ℕ) (cs : List Kept) (m n : Contents) (b : Option (List ℕ)) → get n x ≡ get m x → IsOwned o cs → BeforesFit m cs → before_owned o cs x ≡ Some b → get (replay n (ended o (history_of cs))) x ≡ b
before_at o x [] m n b same owned fit is = absurd (cc)
before_at o x (c ∷ cs) m n b same owned fit is = at c.live (o c.tx) (same_key c.key x) refl refl refl is (λ m2 n2 same2 fit2 is2. before_at o x cs m2 n2 b same2 owned.1 fit2 is2)
  where
    one : (a : Option (List ℕ)) → Some a ≡ Some b → a ≡ b
    one a is = cc

    at : (live begun here : Bool) → c.live ≡ live → o c.tx ≡ begun → same_key c.key x ≡ here → cond ((live && begun) && here) (Some c.before) (before_owned o cs x) ≡ Some b
        → ((m2 n2 : Contents) → get n2 x ≡ get m2 x → BeforesFit m2 cs → before_owned o cs x ≡ Some b → get (replay n2 (ended o (history_of cs))) x ≡ b)
        → get (replay n (cond (not begun) (change_of c ∷ ended o (history_of cs)) (ended o (history_of cs)))) x ≡ b
    at true true true live opened here is ih =
        let key_is : c.key ≡ x = same_key-is c.key x here in
        none_at x (ended o (history_of cs)) n (none_ended o c.tx x cs opened (subst (λ (k : List ℕ). OnlyOf c.tx k cs) key_is (owned.0 live opened)))
        ∙ same ∙ ap (get m) (sym key_is) ∙ sym (fit.0 live) ∙ one c.before is
    at true true false live opened apart is ih = ih (applied (change_of c) m) n (same ∙ sym (applied_apart (change_of c) m x (same_key-sym x c.key ∙ apart))) fit.1 is
    at true false true live opened here is ih = ih (applied (change_of c) m) (applied (change_of c) n) (applied_alike (change_of c) m n x same) fit.1 is
    at true false false live opened here is ih = ih (applied (change_of c) m) (applied (change_of c) n) (applied_alike (change_of c) m n x same) fit.1 is
    at false true here dead opened where_ is ih = ih (applied (change_of c) m) n (same ∙ sym (not_live (change_of c) m x dead)) fit.1 is
    at false false here dead opened where_ is ih = ih (applied (change_of c) m) (applied (change_of c) n) (applied_alike (change_of c) m n x same) fit.1 is

-- where the key has no owner what stands there is committed
pub unowned_at : (o : ℕ → Bool) (x : List ℕ) (cs : List Kept) (m n : Contents) → get n x ≡ get m x → before_owned o cs x ≡ None → get (replay n (ended o (history_of cs))) x ≡ get (replay m (history_of cs)) x
unowned_at o x [] m n same is = same
unowned_at o x (c ∷ cs) m n same is = at c.live (o c.tx) (same_key c.key x) refl refl refl is (λ m2 n2 same2 is2. unowned_at o x cs m2 n2 same2 is2)
  where
    at : (live begun here : Bool) → c.live ≡ live → o c.tx ≡ begun → same_key c.key x ≡ here → cond ((live && begun) && here) (Some c.before) (before_owned o cs x) ≡ None
        → ((m2 n2 : Contents) → get n2 x ≡ get m2 x → before_owned o cs x ≡ None → get (replay n2 (ended o (history_of cs))) x ≡ get (replay m2 (history_of cs)) x)
        → get (replay n (cond (not begun) (change_of c ∷ ended o (history_of cs)) (ended o (history_of cs)))) x ≡ get (replay (applied (change_of c) m) (history_of cs)) x
    at true true true live opened here is ih = absurd (cc)
    at true true false live opened apart is ih = ih (applied (change_of c) m) n (same ∙ sym (applied_apart (change_of c) m x (same_key-sym x c.key ∙ apart))) is
    at true false true live opened here is ih = ih (applied (change_of c) m) (applied (change_of c) n) (applied_alike (change_of c) m n x same) is
    at true false false live opened here is ih = ih (applied (change_of c) m) (applied (change_of c) n) (applied_alike (change_of c) m n x same) is
    at false true here dead opened where_ is ih = ih (applied (change_of c) m) n (same ∙ sym (not_live (change_of c) m x dead)) is
    at false false here dead opened where_ is ih = ih (applied (change_of c) m) (applied (change_of c) n) (applied_alike (change_of c) m n x same) is

-- something stood before an owner's change exactly where there is an owner
pub owned_alike : (o : ℕ → Bool) (x : List ℕ) (cs : List Kept) → is_some (owner_of o (history_of cs) x) ≡ is_some (before_owned o cs x)
owned_alike o x [] = refl
owned_alike o x (c ∷ cs) = at (claims o x (change_of c)) (owned_alike o x cs)
  where
    at : (b : Bool) → is_some (owner_of o (history_of cs) x) ≡ is_some (before_owned o cs x) → is_some (cond b (Some c.tx) (owner_of o (history_of cs) x)) ≡ is_some (cond b (Some c.before) (before_owned o cs x))
    at true rest = refl
    at false rest = rest
