-- Names in lists, and names that are marked.
use Rattle.salt_audit.proofs.Named.{Puts, one_put}
use Rattle.salt_audit.specs.Marks.{AreMarks, is_marked}
use Rattle.salt_audit.specs.Order.{id_cmp}
use Rattle.salt_values.specs.Id.{has_id, is_same_id}
use Rattle.salt_values.specs.declared.id.Id.{Id}
use Rattle.std.proofs.Common.{Bool, List, None, Option, Some, [], ap, false, get_or, if◌then◌else◌, is_some, length, refl, sym, take, true, ℕ, ◌+◌, ◌++◌, ◌<◌, ◌∙◌, ◌∷◌, ◌≡◌, ◌||◌}
use Rattle.std.proofs.lemmas.List.{take_more}
use Rattle.std.specs.BTreeMap.{BTreeMap, get}
use Rattle.std.specs.Prelude.{MatchOption}

or_turn : (a b c : Bool) → (a || (b || c)) ≡ (b || (a || c))
or_turn true true c = refl
or_turn true false c = refl
or_turn false b c = refl

pub or_group : (a b c : Bool) → (a || (b || c)) ≡ ((a || b) || c)
or_group true b c = refl
or_group false b c = refl

pub has_more : (u v : Id) (us : List Id) → has_id u (us ++ v ∷ []) ≡ (is_same_id u v || has_id u us)
has_more u v [] = refl
has_more u v (w ∷ us) = ap (λ (t : Bool). is_same_id u w || t) (has_more u v us) ∙ or_turn (is_same_id u w) (is_same_id u v) (has_id u us)

pub mark_put : (old new : BTreeMap Id Bool) (v : Id) → Puts old new v (Some true) → (u : Id) → is_marked u new ≡ (is_same_id u v || is_marked u old)
mark_put old new v w u = ap (λ (o : Option Bool). is_some o) (one_put old new v (Some true) w u) ∙ by (is_same_id u v)
  where
    by : (t : Bool) → is_some (if t then Some true else get id_cmp old u) ≡ (t || is_some (get id_cmp old u))
    by true = refl
    by false = refl

pub marked_more : (old new : BTreeMap Id Bool) (found : List Id) (v : Id) → AreMarks old found → ((u : Id) → is_marked u new ≡ (is_same_id u v || is_marked u old)) →
    AreMarks new (found ++ v ∷ [])
marked_more old new found v h w u = w u ∙ ap (λ (t : Bool). is_same_id u v || t) (h u) ∙ sym (has_more u v found)

-- one more is marked
pub has_taken : (u : Id) (us : List Id) (i : ℕ) (d : Id) → i < length us → has_id u (take (i + 1) us) ≡ (is_same_id u (get_or us i d) || has_id u (take i us))
has_taken u us i d within = ap (has_id u) (take_more us i d within) ∙ has_more u (get_or us i d) (take i us)

pub marked_on : (u v : Id) (new old first : Bool) (taken : Bool) → new ≡ (is_same_id u v || old) → old ≡ (taken || first) → new ≡ ((is_same_id u v || taken) || first)
marked_on u v new old first taken e f = e ∙ ap (λ (t : Bool). is_same_id u v || t) f ∙ or_group (is_same_id u v) taken first

-- THE LAST NAME IS TAKEN

no_snoc : (ys : List Id) (y : Id) → [] ≡ ys ++ y ∷ [] → ⊥
no_snoc [] y e = cc
no_snoc (x ∷ ys) y e = cc

snoc_front : (xs ys : List Id) (x y : Id) → xs ++ x ∷ [] ≡ ys ++ y ∷ [] → xs ≡ ys
snoc_front [] [] x y e = refl
snoc_front [] (z ∷ ys) x y e = let none : [] ≡ ys ++ y ∷ [] = cc in absurd (no_snoc ys y none)
snoc_front (z ∷ xs) [] x y e = let none : [] ≡ xs ++ x ∷ [] = sym (tail_of e) in absurd (no_snoc xs x none)
  where
    tail_of : z ∷ (xs ++ x ∷ []) ≡ y ∷ [] → xs ++ x ∷ [] ≡ []
    tail_of same = cc
snoc_front (z ∷ xs) (w ∷ ys) x y e =
    let head : z ≡ w = cc in
    let tail : xs ++ x ∷ [] ≡ ys ++ y ∷ [] = cc in
    (λ i. head i ∷ snoc_front xs ys x y tail i)

pub popped : (o : Option Id) (old new ids : List Id) (id : Id) → old ≡ ids ++ id ∷ [] → MatchOption o ((old ≡ []) × (new ≡ [])) (λ last. old ≡ new ++ last ∷ []) → new ≡ ids
popped None old new ids id e h = absurd (no_snoc ids id (sym h.0 ∙ e))
popped (Some last) old new ids id e h = snoc_front new ids last id (sym h ∙ e)
