-- Contents that grow.
use Rattle.std.proofs.Common.{◌≡◌, ◌⊎◌, inl, inr, ℕ, Bool, true, false, not, is_some, cond, List, Option, Some, None, refl, sym, ap, subst, ◌∙◌}
use Rattle.std.specs.Prelude.{IsSome}
use Rattle.std.specs.FinMap.{get}
use Rattle.rec_types.specs.Contents.{Contents, set_to, same_key}
use Rattle.rec_types.proofs.ContentsLemmas.{get-set_to, get-set_to-here, same_key-is}
use Rattle.page_rescue.specs.Rescue.{GrowsBy, Is}

-- what grew twice grew
pub grows_on : {From : List ℕ → List ℕ → Type 0} (a b c : Contents) → GrowsBy From a b → GrowsBy From b c → GrowsBy From a c
grows_on {From} a b c first next = record {
  stays = λ k v is. next.stays k v (first.stays k v is);
  only = λ k v is. at k v (next.only k v is);
}
  where
    at : (k v : List ℕ) → (get b k ≡ Some v) ⊎ From k v → (get a k ≡ Some v) ⊎ From k v
    at k v (inl was) = first.only k v was
    at k v (inr from) = inr from

-- what grew from there grew from more
pub grows_from : {From More : List ℕ → List ℕ → Type 0} (a b : Contents) → ((k v : List ℕ) → From k v → More k v) → GrowsBy From a b → GrowsBy More a b
grows_from {From} {More} a b more grew = record { stays = grew.stays; only = λ k v is. at k v (grew.only k v is) }
  where
    at : (k v : List ℕ) → (get a k ≡ Some v) ⊎ From k v → (get a k ≡ Some v) ⊎ More k v
    at k v (inl was) = inl was
    at k v (inr from) = inr (more k v from)

-- a record at a key that has none
pub grows_by : (m : Contents) (key value : List ℕ) → get m key ≡ None → GrowsBy (Is key value) m (set_to m key (Some value))
grows_by m key value none = record {
  stays = λ k v is. stays (same_key k key) k v refl is;
  only = λ k v is. only (same_key k key) k v refl (sym (get-set_to m key (Some value) k) ∙ is);
}
  where
    some_is : (x y : List ℕ) → Some x ≡ Some y → y ≡ x
    some_is x y is = cc (sym is)

    stays : (b : Bool) (k v : List ℕ) → same_key k key ≡ b → get m k ≡ Some v → get (set_to m key (Some value)) k ≡ Some v
    stays true k v same is = absurd (cc (sym none ∙ ap (get m) (sym (same_key-is k key same)) ∙ is))
    stays false k v apart is = get-set_to m key (Some value) k ∙ ap (λ b. cond b (Some value) (get m k)) apart ∙ is

    only : (b : Bool) (k v : List ℕ) → same_key k key ≡ b → cond (same_key k key) (Some value) (get m k) ≡ Some v → (get m k ≡ Some v) ⊎ Is key value k v
    only true k v same is = inr (same_key-is k key same, some_is value v (ap (λ b. cond b (Some value) (get m k)) (sym same) ∙ is))
    only false k v apart is = inl (ap (λ b. cond b (Some value) (get m k)) (sym apart) ∙ is)

-- a key that had a record has one
pub has_still : {From : List ℕ → List ℕ → Type 0} (a b : Contents) (key : List ℕ) → GrowsBy From a b → IsSome (get a key) → IsSome (get b key)
has_still a b key grew some = at (get a key) refl some
  where
    at : (o : Option (List ℕ)) → get a key ≡ o → IsSome o → IsSome (get b key)
    at None is some = absurd (cc)
    at (Some v) is some = subst IsSome (sym (grew.stays key v is)) refl

-- what isn't there is none
pub none_of : (o : Option (List ℕ)) (b : Bool) → is_some o ≡ not b → b ≡ true → o ≡ None
none_of None b is set = refl
none_of (Some v) b is set = absurd (cc (is ∙ ap not set))

-- a record that is put at a key that has none, by a call that changed nothing else
pub grows_put : (old mid new : Contents) (key value : List ℕ) → get old key ≡ None → mid ≡ old → new ≡ set_to mid key (Some value) → GrowsBy (Is key value) old new
grows_put old mid new key value none same put = subst (GrowsBy (Is key value) old) (sym (put ∙ ap (λ m. set_to m key (Some value)) same)) (grows_by old key value none)

-- that key has a record then
pub has_put : (mid new : Contents) (key value : List ℕ) → new ≡ set_to mid key (Some value) → IsSome (get new key)
has_put mid new key value put = subst IsSome (sym (ap (λ m. get m key) put ∙ get-set_to-here mid key (Some value))) refl
