-- A walk goes through the group once.
use Rattle.law_states.specs.Members.{In}
use Rattle.law_story.proofs.Ids.{and_left, and_right, is_same_id-true}
use Rattle.law_story.proofs.Lists.{either, has-in, in-has, in-right, or_cases, or_left_true, or_right_true}
use Rattle.salt_deps.proofs.Walking.{IsWalk, against, walks-on}
use Rattle.salt_deps.specs.Due.{reads_done}
use Rattle.salt_deps.specs.Group.{are_mutual, is_told}
use Rattle.salt_deps.specs.Walks.{SeesAll}
use Rattle.salt_values.specs.Id.{has_id, is_same_id}
use Rattle.salt_values.specs.declared.id.Id.{Id}
use Rattle.std.proofs.Common.{ap, inl, inr, subst, sym, ◌∙◌}
use Rattle.std.specs.Prelude.{Bool, List, [], false, not, refl, true, ◌&&◌, ◌++◌, ◌||◌, ◌∷◌, ◌≡◌, ◌⊎◌}

-- what the walk has met is seen
abbrev pub IsMet : Bool → (Id → Bool) → List Id → Type 0
IsMet met test seen = met ≡ true → (y : Id) → test y ≡ true → In y seen

pub unmet : (test : Id → Bool) (seen : List Id) → IsMet false test seen
unmet test seen h = absurd cc

seen-still : (names seen rest new onward : List Id) → SeesAll names seen rest new onward → (q : Id) → In q seen → In q new
seen-still names seen rest new onward s q i = has-in q new (s.seen q ∙ or_right_true (has_id q names) (has_id q seen) (in-has q seen i))

-- it has met the group now, or had met it before
meets : (met now : Bool) (test : Id → Bool) (names seen rest new onward : List Id) → IsMet met test seen → SeesAll names seen rest new onward →
    (met ≡ false → now ≡ true → (y : Id) → test y ≡ true → has_id y names ≡ true) → IsMet (met || now) test new
meets true now test names seen rest new onward m s tells h y t = seen-still names seen rest new onward s y (m refl y t)
meets false now test names seen rest new onward m s tells h y t = has-in y new (s.seen y ∙ or_left_true (has_id y names) (has_id y seen) (tells refl h y t))

pub meets-sources : (pair : Id → Id → Bool) (met : Bool) (readers sources : List Id) (next : Id) (names seen rest new onward : List Id) → IsMet met (λ y. has_id y sources) seen →
    ((y : Id) → has_id y names ≡ (pair next y || is_told met readers sources next y)) → SeesAll names seen rest new onward →
    IsMet (met || has_id next readers) (λ y. has_id y sources) new
meets-sources pair met readers sources next names seen rest new onward m are s = meets met (has_id next readers) (λ y. has_id y sources) names seen rest new onward m s tells
  where
    tells : met ≡ false → has_id next readers ≡ true → (y : Id) → has_id y sources ≡ true → has_id y names ≡ true
    tells e f y g = let told : is_told met readers sources next y ≡ true = rw (e, f, g) refl in are y ∙ or_right_true (pair next y) (is_told met readers sources next y) told

pub meets-readers : (pair : Id → Id → Bool) (met : Bool) (readers sources finished : List Id) (next : Id) (names seen rest new onward : List Id) →
    IsMet met (λ x. has_id x readers && has_id x finished) seen →
    ((x : Id) → has_id x names ≡ ((pair x next || is_told met sources readers next x) && has_id x finished)) → SeesAll names seen rest new onward →
    IsMet (met || has_id next sources) (λ x. has_id x readers && has_id x finished) new
meets-readers pair met readers sources finished next names seen rest new onward m are s = meets met (has_id next sources) (λ x. has_id x readers && has_id x finished) names seen rest new onward m s tells
  where
    tells : met ≡ false → has_id next sources ≡ true → (x : Id) → (has_id x readers && has_id x finished) ≡ true → has_id x names ≡ true
    tells e f x g =
        let reader = and_left (has_id x readers) (has_id x finished) g in
        let done = and_right (has_id x readers) (has_id x finished) g in
        let told : is_told met sources readers next x ≡ true = rw (e, f, reader) refl in
        are x ∙ (ap (λ t. t && has_id x finished) (or_right_true (pair x next) (is_told met sources readers next x) told) ∙ done)

-- one of a group, where it is another one
mutual-other : (readers sources : List Id) (x y : Id) → has_id x readers ≡ true → has_id y sources ≡ true → is_same_id y x ≡ false → are_mutual readers sources x y ≡ true
mutual-other readers sources x y f g e = rw (f, g, e) refl

told-parts : (met : Bool) (ones others : List Id) (x y : Id) → is_told met ones others x y ≡ true → (has_id x ones ≡ true) × (has_id y others ≡ true)
told-parts true ones others x y h = absurd cc
told-parts false ones others x y h = (and_left (has_id x ones) (has_id y others) h, and_right (has_id x ones) (has_id y others) h)

mutual-parts : (readers sources : List Id) (x y : Id) → are_mutual readers sources x y ≡ true → (has_id x readers ≡ true) × (has_id y sources ≡ true)
mutual-parts readers sources x y h = split (has_id x readers) (has_id y sources) (not (is_same_id y x)) h
  where
    split : (a b c : Bool) → (a && (b && c)) ≡ true → (a ≡ true) × (b ≡ true)
    split true true c g = (refl, refl)
    split true false c g = absurd cc
    split false b c g = absurd cc

last-seen : (step : Id → Id → Bool) (starts seen rest : List Id) (next : Id) → IsWalk step starts seen (rest ++ next ∷ []) → In next seen
last-seen step starts seen rest next w = w.among next (in-right next rest (next ∷ []) (inl refl))

-- a step of the walk along the readings
pub reaches-on : (pair reads : Id → Id → Bool) (met : Bool) (readers sources starts seen rest new onward names : List Id) (next : Id) →
    ((x y : Id) → reads x y ≡ (pair x y || are_mutual readers sources x y)) → IsWalk reads starts seen (rest ++ next ∷ []) → IsMet met (λ y. has_id y sources) seen →
    ((y : Id) → has_id y names ≡ (pair next y || is_told met readers sources next y)) → SeesAll names seen rest new onward → IsWalk reads starts new onward
reaches-on pair reads met readers sources starts seen rest new onward names next is w m are s = walks-on reads starts seen rest new onward names next w steps told s
  where
    steps : (y : Id) → has_id y names ≡ true → (reads next y ≡ true) ⊎ In y seen
    steps y h = either (λ e. inl (is next y ∙ or_left_true (pair next y) (are_mutual readers sources next y) e)) (λ e. at (told-parts met readers sources next y e) (is_same_id y next) refl)
        (or_cases (pair next y) (is_told met readers sources next y) (sym (are y) ∙ h))
      where
        at : (has_id next readers ≡ true) × (has_id y sources ≡ true) → (t : Bool) → is_same_id y next ≡ t → (reads next y ≡ true) ⊎ In y seen
        at p true e = inr (subst (λ z. In z seen) (sym (is_same_id-true y next e)) (last-seen reads starts seen rest next w))
        at p false e = inl (is next y ∙ or_right_true (pair next y) (are_mutual readers sources next y) (mutual-other readers sources next y p.0 p.1 e))

    told : (y : Id) → reads next y ≡ true → (has_id y names ≡ true) ⊎ In y seen
    told y h = either (λ e. inl (are y ∙ or_left_true (pair next y) (is_told met readers sources next y) e)) (λ e. at (mutual-parts readers sources next y e) met refl)
        (or_cases (pair next y) (are_mutual readers sources next y) (sym (is next y) ∙ h))
      where
        at : (has_id next readers ≡ true) × (has_id y sources ≡ true) → (t : Bool) → met ≡ t → (has_id y names ≡ true) ⊎ In y seen
        at p true e = inr (m e y p.1)
        at p false e =
            let yes : is_told met readers sources next y ≡ true = rw (e, p.0, p.1) refl in
            inl (are y ∙ or_right_true (pair next y) (is_told met readers sources next y) yes)

-- a step of the walk against the readings, among finished programs
pub comes-on : (pair reads : Id → Id → Bool) (met : Bool) (readers sources finished starts seen rest new onward names : List Id) (next : Id) →
    ((x y : Id) → reads x y ≡ (pair x y || are_mutual readers sources x y)) → IsWalk (against (reads_done reads finished)) starts seen (rest ++ next ∷ []) →
    IsMet met (λ x. has_id x readers && has_id x finished) seen →
    ((x : Id) → has_id x names ≡ ((pair x next || is_told met sources readers next x) && has_id x finished)) → SeesAll names seen rest new onward →
    IsWalk (against (reads_done reads finished)) starts new onward
comes-on pair reads met readers sources finished starts seen rest new onward names next is w m are s = walks-on (against (reads_done reads finished)) starts seen rest new onward names next w steps told s
  where
    both : (a b : Bool) → a ≡ true → b ≡ true → (a && b) ≡ true
    both a b f g = rw (f, g) refl

    steps : (x : Id) → has_id x names ≡ true → (reads_done reads finished x next ≡ true) ⊎ In x seen
    steps x h = either (λ e. inl (both (reads x next) (has_id x finished) (is x next ∙ or_left_true (pair x next) (are_mutual readers sources x next) e) done))
        (λ e. at (told-parts met sources readers next x e) (is_same_id next x) refl)
        (or_cases (pair x next) (is_told met sources readers next x) (and_left (pair x next || is_told met sources readers next x) (has_id x finished) (sym (are x) ∙ h)))
      where
        done : has_id x finished ≡ true
        done = and_right (pair x next || is_told met sources readers next x) (has_id x finished) (sym (are x) ∙ h)

        at : (has_id next sources ≡ true) × (has_id x readers ≡ true) → (t : Bool) → is_same_id next x ≡ t → (reads_done reads finished x next ≡ true) ⊎ In x seen
        at p true e = inr (subst (λ z. In z seen) (is_same_id-true next x e) (last-seen (against (reads_done reads finished)) starts seen rest next w))
        at p false e = inl (both (reads x next) (has_id x finished)
            (is x next ∙ or_right_true (pair x next) (are_mutual readers sources x next) (mutual-other readers sources x next p.1 p.0 e)) done)

    told : (x : Id) → reads_done reads finished x next ≡ true → (has_id x names ≡ true) ⊎ In x seen
    told x h = either (λ e. inl (named (or_left_true (pair x next) (is_told met sources readers next x) e))) (λ e. at (mutual-parts readers sources x next e) met refl)
        (or_cases (pair x next) (are_mutual readers sources x next) (sym (is x next) ∙ and_left (reads x next) (has_id x finished) h))
      where
        done : has_id x finished ≡ true
        done = and_right (reads x next) (has_id x finished) h

        named : (pair x next || is_told met sources readers next x) ≡ true → has_id x names ≡ true
        named e = are x ∙ both (pair x next || is_told met sources readers next x) (has_id x finished) e done

        at : (has_id x readers ≡ true) × (has_id next sources ≡ true) → (t : Bool) → met ≡ t → (has_id x names ≡ true) ⊎ In x seen
        at p true e = inr (m e x (both (has_id x readers) (has_id x finished) p.0 done))
        at p false e =
            let yes : is_told met sources readers next x ≡ true = rw (e, p.1, p.0) refl in
            inl (named (or_right_true (pair x next) (is_told met sources readers next x) yes))
