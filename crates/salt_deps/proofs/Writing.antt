-- Places are listed at their last writers, and what goes where a program is dropped.
use Rattle.law_states.specs.KeptSources.{unless_among}
use Rattle.law_states.specs.Members.{In}
use Rattle.law_story.proofs.Ids.{is_same_id-refl, is_same_id-true}
use Rattle.law_story.proofs.Lists.{in-cases}
use Rattle.law_story.proofs.Places.{equal-is, place_same}
use Rattle.salt_deps.proofs.Linking.{viewed}
use Rattle.salt_values.specs.Order.{id_cmp}
use Rattle.salt_deps.specs.Written.{AreListed, HasDropped, is_writer, places_at, places_in}
use Rattle.salt_model.specs.Tables.{place_cmp, place_total}
use Rattle.salt_model.specs.declared.places.Place.{Place}
use Rattle.salt_values.specs.Id.{has_id, is_same_id}
use Rattle.salt_values.specs.declared.id.Id.{Id}
use Rattle.std.proofs.Common.{ap, inl, inr, subst, sym, take, ◌∙◌}
use Rattle.std.proofs.lemmas.Cmp.{tied_itself}
use Rattle.std.proofs.lemmas.List.{take_more}
use Rattle.std.proofs.lemmas.List.Folds.{list_any-append}
use Rattle.std.specs.BTreeMap.{BTreeMap, get}
use Rattle.std.specs.Bool.{then_some}
use Rattle.std.specs.Global.{Global}
use Rattle.std.specs.Ordering.{is_eq}
use Rattle.std.specs.Prelude.{Bool, List, None, Option, Some, Vec, [], cond, false, get_or, length, not, refl, true, ℕ, ◌+◌, ◌++◌, ◌<◌, ◌||◌, ◌∷◌, ◌≡◌, ◌⊎◌}

pub none-some : (b : Id) (o : Option Id) → o ≡ None → o ≡ Some b → ⊥
none-some b o n s = let e : ◌≡◌ {A = Option Id} None (Some b) = sym n ∙ s in absurd cc

some-same : (a b : Id) → ◌≡◌ {A = Option Id} (Some a) (Some b) → a ≡ b
some-same a b e = cc

-- where a program is dropped

pub dropped-none : (name : Id) (old : Place → Option Id) → HasDropped name [] old old
dropped-none name old = record { only = λ q. inl refl; gone = λ q i h. i }

pub dropped-more : (name : Id) (ps : List Place) (p : Place) (old mid new : Place → Option Id) → HasDropped name ps old mid → HasDropped name (p ∷ []) mid new →
    HasDropped name (ps ++ p ∷ []) old new
dropped-more name ps p old mid new a b = record {
  only = λ q. both q (a.only q) (b.only q);
  gone = λ q i h. at q (in-cases q ps (p ∷ []) i) h (b.only q);
}
  where
    both : (q : Place) → (mid q ≡ old q) ⊎ ((old q ≡ Some name) × (mid q ≡ None)) → (new q ≡ mid q) ⊎ ((mid q ≡ Some name) × (new q ≡ None)) →
        (new q ≡ old q) ⊎ ((old q ≡ Some name) × (new q ≡ None))
    both q (inl f) (inl e) = inl (e ∙ f)
    both q (inl f) (inr e) = inr (sym f ∙ e.0, e.1)
    both q (inr f) (inl e) = inr (f.0, e ∙ f.1)
    both q (inr f) (inr e) = inr (f.0, e.1)

    at : (q : Place) → In q ps ⊎ In q (p ∷ []) → new q ≡ Some name → (new q ≡ mid q) ⊎ ((mid q ≡ Some name) × (new q ≡ None)) → ⊥
    at q (inl i) h (inl e) = a.gone q i (sym e ∙ h)
    at q (inl i) h (inr e) = none-some name (new q) e.1 h
    at q (inr i) h e = b.gone q i h

pub writes : (name : Id) (o : Option Id) → is_writer name o ≡ true → o ≡ Some name
writes name None h = cc
writes name (Some b) h = ap (λ x. Some x) (is_same_id-true b name h)

-- of one place
pub dropped-one : (name : Id) (p : Place) (old new : BTreeMap Place Id) → get place_cmp old p ≡ Some name →
    ((q : Place) → get place_cmp new q ≡ cond (is_eq (place_cmp p q)) None (get place_cmp old q)) → HasDropped name (p ∷ []) (get place_cmp old) (get place_cmp new)
dropped-one name p old new there u = record { only = λ q. by q (is_eq (place_cmp p q)) refl (u q); gone = gone }
  where
    by : (q : Place) (t : Bool) → is_eq (place_cmp p q) ≡ t → get place_cmp new q ≡ cond t None (get place_cmp old q) →
        (get place_cmp new q ≡ get place_cmp old q) ⊎ ((get place_cmp old q ≡ Some name) × (get place_cmp new q ≡ None))
    by q true e f = inr (subst (λ z. get place_cmp old z ≡ Some name) (place_same p q (equal-is (place_cmp p q) e)) there, f)
    by q false e f = inl f

    here : get place_cmp new p ≡ None
    here = u p ∙ ap (λ t. cond (is_eq t) None (get place_cmp old p)) (tied_itself place_total p)

    gone : (q : Place) → In q (p ∷ []) → get place_cmp new q ≡ Some name → ⊥
    gone q (inl e) h = none-some name (get place_cmp new q) (subst (λ z. get place_cmp new z ≡ None) e here) h
    gone q (inr e) h = e

pub dropped-not : (name : Id) (p : Place) (old : Place → Option Id) → is_writer name (old p) ≡ false → HasDropped name (p ∷ []) old old
dropped-not name p old not_it = record { only = λ q. inl refl; gone = gone }
  where
    gone : (q : Place) → In q (p ∷ []) → old q ≡ Some name → ⊥
    gone q (inl e) h =
        let yes : is_writer name (old p) ≡ true = ap (is_writer name) (subst (λ z. old z ≡ Some name) (sym e) h) ∙ is_same_id-refl name in
        let no : is_writer name (old p) ≡ false = not_it in
        absurd cc
    gone q (inr e) h = e

pub took : {A : Type 0} (xs : List A) (k : ℕ) (x : A) → k < length xs → x ≡ get_or xs k x → take k xs ++ x ∷ [] ≡ take (k + 1) xs
took xs k x h at = sym (take_more xs k x h ∙ ap (λ y. take k xs ++ y ∷ []) (sym at))

-- of all places that are listed at it
pub drops-one : (name : Id) (ps : List Place) (old new : Place → Option Id) → ((q : Place) → old q ≡ Some name → (In q ps → ⊥) → ⊥) → HasDropped name ps old new → (q : Place) →
    new q ≡ unless_among (name ∷ []) (old q)
drops-one name ps old new listed d q = by (old q) refl (d.only q)
  where
    at : (b : Id) → old q ≡ Some b → (t : Bool) → is_same_id b name ≡ t → (new q ≡ old q) ⊎ ((old q ≡ Some name) × (new q ≡ None)) → new q ≡ then_some (not (t || false)) b
    at b e true s (inl f) = let is : old q ≡ Some name = e ∙ ap (λ x. Some x) (is_same_id-true b name s) in absurd (listed q is (λ i. d.gone q i (f ∙ is)))
    at b e true s (inr f) = f.1
    at b e false s (inl f) = f ∙ e
    at b e false s (inr f) =
        let yes : is_same_id b name ≡ true = subst (λ z. is_same_id b z ≡ true) (some-same b name (sym e ∙ f.0)) (is_same_id-refl b) in
        let no : is_same_id b name ≡ false = s in
        absurd cc

    by : (o : Option Id) → old q ≡ o → (new q ≡ old q) ⊎ ((old q ≡ Some name) × (new q ≡ None)) → new q ≡ unless_among (name ∷ []) o
    by None e (inl f) = f ∙ e
    by None e (inr f) = absurd (none-some name (old q) e f.0)
    by (Some b) e h = at b e (is_same_id b name) refl h

-- of one program more
pub unless-more : (names : List Id) (name : Id) (o : Option Id) → unless_among (name ∷ []) (unless_among names o) ≡ unless_among (names ++ name ∷ []) o
unless-more names name None = refl
unless-more names name (Some b) = by (has_id b names) ∙ ap (λ t. then_some (not t) b) (sym (list_any-append (is_same_id b) names (name ∷ [])))
  where
    by : (t : Bool) → unless_among (name ∷ []) (then_some (not t) b) ≡ then_some (not (t || (is_same_id b name || false))) b
    by true = refl
    by false = refl

pub unless-none : (o : Option Id) → o ≡ unless_among [] o
unless-none None = refl
unless-none (Some b) = refl

-- what is listed

pub places-kept : (old new : BTreeMap Id (Vec Place Global)) (names : Vec Place Global) (base : Id) → ((q : Place) → In q (places_at old base) → In q names.items) →
    ((q : Id) → get id_cmp new q ≡ cond (is_eq (id_cmp base q)) (Some names) (get id_cmp old q)) → (b : Id) (q : Place) → In q (places_at old b) → In q (places_at new b)
places-kept old new names base more u b q i = subst (In q) (sym (viewed places_in old new base (Some names) u b)) (by (is_same_id b base) refl)
  where
    by : (t : Bool) → is_same_id b base ≡ t → In q (cond t names.items (places_at old b))
    by true e = more q (subst (λ z. In q (places_at old z)) (is_same_id-true b base e) i)
    by false e = i

pub place-added : (old new : BTreeMap Id (Vec Place Global)) (names : Vec Place Global) (base : Id) (p : Place) → In p names.items →
    ((q : Id) → get id_cmp new q ≡ cond (is_eq (id_cmp base q)) (Some names) (get id_cmp old q)) → In p (places_at new base)
place-added old new names base p i u =
    subst (In p) (sym (viewed places_in old new base (Some names) u base ∙ ap (λ t. cond t names.items (places_at old base)) (is_same_id-refl base))) i

pub listed-written : (old new : BTreeMap Place Id) (before after : BTreeMap Id (Vec Place Global)) (p : Place) (base : Id) → AreListed old before →
    ((b : Id) (q : Place) → In q (places_at before b) → In q (places_at after b)) → In p (places_at after base) →
    ((q : Place) → get place_cmp new q ≡ cond (is_eq (place_cmp p q)) (Some base) (get place_cmp old q)) → AreListed new after
listed-written old new before after p base listed kept added u q b h = by (is_eq (place_cmp p q)) refl (sym (u q) ∙ h)
  where
    by : (t : Bool) → is_eq (place_cmp p q) ≡ t → cond t (Some base) (get place_cmp old q) ≡ Some b → (In q (places_at after b) → ⊥) → ⊥
    by true e f missing = missing (subst (λ z. In z (places_at after b)) (place_same p q (equal-is (place_cmp p q) e)) (subst (λ z. In p (places_at after z)) (some-same base b f) added))
    by false e f missing = listed q b f (λ i. missing (kept b q i))

pub listed-removed : (old new : BTreeMap Place Id) (places : BTreeMap Id (Vec Place Global)) (p : Place) → AreListed old places →
    ((q : Place) → get place_cmp new q ≡ cond (is_eq (place_cmp p q)) None (get place_cmp old q)) → AreListed new places
listed-removed old new places p listed u q b h = by (is_eq (place_cmp p q)) (sym (u q) ∙ h)
  where
    by : (t : Bool) → cond t None (get place_cmp old q) ≡ Some b → (In q (places_at places b) → ⊥) → ⊥
    by true f = absurd (none-some b None refl f)
    by false f = listed q b f

pub listed-dropped : (old new : BTreeMap Place Id) (before after : BTreeMap Id (Vec Place Global)) (name : Id) → AreListed old before →
    ((q : Id) → get id_cmp after q ≡ cond (is_eq (id_cmp name q)) None (get id_cmp before q)) →
    ((q : Place) → get place_cmp new q ≡ unless_among (name ∷ []) (get place_cmp old q)) → AreListed new after
listed-dropped old new before after name listed u out q b h =
    let k = kept (get place_cmp old q) (sym (out q) ∙ h) in
    λ missing. listed q b k.0 (λ i. missing (subst (In q) (sym (viewed places_in before after name None u b ∙ ap (λ t. cond t [] (places_at before b)) k.1)) i))
  where
    kept : (o : Option Id) → unless_among (name ∷ []) o ≡ Some b → (o ≡ Some b) × (is_same_id b name ≡ false)
    kept None g = absurd (none-some b None refl g)
    kept (Some x) g = by (is_same_id x name) refl g
      where
        by : (t : Bool) → is_same_id x name ≡ t → then_some (not (t || false)) x ≡ Some b → (◌≡◌ {A = Option Id} (Some x) (Some b)) × (is_same_id b name ≡ false)
        by true e f = absurd (none-some b None refl f)
        by false e f = (f, subst (λ z. is_same_id z name ≡ false) (some-same x b f) e)
