-- Who reads from whom in the group, and what is among some names.
use Rattle.law_story.proofs.Ids.{is_same_id-refl, is_same_id-true}
use Rattle.law_story.proofs.Lists.{all-in, either, has-in, in-has, or_cases, or_left_true, or_right_true}
use Rattle.law_states.specs.Members.{In}
use Rattle.salt_deps.proofs.Leaving.{some-out}
use Rattle.salt_deps.specs.Group.{ReadsAmong, are_mutual, is_told}
use Rattle.salt_values.specs.Id.{has_id, is_same_id}
use Rattle.salt_values.specs.declared.id.Id.{Id}
use Rattle.std.proofs.Common.{ap, arith, get_or, inl, inr, subst, suc, sym, zero, ◌∙◌}
use Rattle.std.proofs.lemmas.List.Folds.{list_any-append}
use Rattle.std.specs.List.{list_all}
use Rattle.std.specs.Prelude.{Bool, List, [], false, length, not, refl, true, ℕ, ◌&&◌, ◌++◌, ◌<◌, ◌||◌, ◌∷◌, ◌≡◌}

pub mutual-none : (readers sources : List Id) → readers ≡ [] → (x y : Id) → are_mutual readers sources x y ≡ false
mutual-none readers sources e x y = ap (λ (l : List Id). are_mutual l sources x y) e

pub mutual-same : (readers sources ones others : List Id) → ((q : Id) → has_id q readers ≡ has_id q ones) → ((q : Id) → has_id q sources ≡ has_id q others) → (x y : Id) →
    are_mutual readers sources x y ≡ are_mutual ones others x y
mutual-same readers sources ones others f g x y =
    ap (λ a. a && (has_id y sources && not (is_same_id y x))) (f x) ∙ ap (λ b. has_id x ones && (b && not (is_same_id y x))) (g y)

-- one reads no more
pub mutual-unread : (before after sources : List Id) (reader : Id) → ((q : Id) → has_id q after ≡ (has_id q before && not (is_same_id q reader))) → (x y : Id) →
    are_mutual after sources x y ≡ (are_mutual before sources x y && not (is_same_id x reader))
mutual-unread before after sources reader f x y =
    ap (λ a. a && (has_id y sources && not (is_same_id y x))) (f x) ∙ move (has_id x before) (is_same_id x reader) (has_id y sources && not (is_same_id y x))
  where
    move : (a n b : Bool) → ((a && not n) && b) ≡ ((a && b) && not n)
    move true true true = refl
    move true true false = refl
    move true false true = refl
    move true false false = refl
    move false n b = refl

-- some are in it no more
pub mutual-forgot : (before after sources rest names : List Id) → ((q : Id) → has_id q after ≡ (has_id q before && not (has_id q names))) →
    ((q : Id) → has_id q rest ≡ (has_id q sources && not (has_id q names))) → (x y : Id) →
    are_mutual after rest x y ≡ (are_mutual before sources x y && not (has_id x names || has_id y names))
mutual-forgot before after sources rest names f g x y =
    ap (λ a. a && (has_id y rest && not (is_same_id y x))) (f x)
    ∙ (ap (λ b. (has_id x before && not (has_id x names)) && (b && not (is_same_id y x))) (g y)
    ∙ move (has_id x before) (has_id x names) (has_id y sources) (has_id y names) (not (is_same_id y x)))
  where
    move : (a p b q c : Bool) → ((a && not p) && ((b && not q) && c)) ≡ ((a && (b && c)) && not (p || q))
    move false p b q c = refl
    move true true false q c = refl
    move true true true q false = refl
    move true true true q true = refl
    move true false false q c = refl
    move true false true true false = refl
    move true false true true true = refl
    move true false true false false = refl
    move true false true false true = refl

-- what goes with pairs and with the group goes with both
pub both-left : (s m s' m' b : Bool) → s' ≡ (s && not b) → m' ≡ (m && not b) → (s' || m') ≡ ((s || m) && not b)
both-left s m s' m' b f g = ap (λ t. t || m') f ∙ (ap (λ t. (s && not b) || t) g ∙ at s m b)
  where
    at : (s m b : Bool) → ((s && not b) || (m && not b)) ≡ ((s || m) && not b)
    at true true true = refl
    at true true false = refl
    at true false true = refl
    at true false false = refl
    at false m b = refl

pub one-more : (s m s' a : Bool) → s' ≡ (s || a) → (s' || m) ≡ ((s || m) || a)
one-more s m s' a f = ap (λ t. t || m) f ∙ at s m a
  where
    at : (s m a : Bool) → ((s || a) || m) ≡ ((s || m) || a)
    at true m a = refl
    at false true true = refl
    at false true false = refl
    at false false true = refl
    at false false false = refl

pub still : (s m s' : Bool) → (s ≡ true → s' ≡ true) → (s || m) ≡ true → (s' || m) ≡ true
still s m s' f h = either (λ e. or_left_true s' m (f e)) (λ e. or_right_true s' m e) (or_cases s m h)

or-end : (a : Bool) → (a || false) ≡ a
or-end true = refl
or-end false = refl

-- nothing is told where the group has been gone through, or where a program is not in it
pub told-none : (met : Bool) (ones others : List Id) (x y : Id) → (met || not (has_id x ones)) ≡ true → is_told met ones others x y ≡ false
told-none true ones others x y h = refl
told-none false ones others x y h = by (has_id x ones) h
  where
    by : (t : Bool) → not t ≡ true → (t && has_id y others) ≡ false
    by true g = absurd cc
    by false g = refl

pub told-all : (met : Bool) (ones others : List Id) (x y : Id) → (met || not (has_id x ones)) ≡ false → is_told met ones others x y ≡ has_id y others
told-all true ones others x y h = absurd cc
told-all false ones others x y h = by (has_id x ones) h
  where
    by : (t : Bool) → not t ≡ false → (t && has_id y others) ≡ has_id y others
    by true g = refl
    by false g = absurd cc

-- the names alone
pub alone : (y : Id) (names : List Id) (pair told : Bool) → has_id y names ≡ pair → told ≡ false → has_id y names ≡ (pair || told)
alone y names pair told f g = f ∙ sym (ap (λ t. pair || t) g ∙ or-end pair)

-- the names, and those of the group behind them
pub beside : (y : Id) (before after members given others : List Id) (pair told : Bool) → after ≡ before ++ given → given ≡ members → members ≡ others → has_id y before ≡ pair →
    told ≡ has_id y others → has_id y after ≡ (pair || told)
beside y before after members given others pair told so is are f g =
    ap (has_id y) so ∙ (list_any-append (is_same_id y) before given ∙ (ap (λ t. t || has_id y given) f
    ∙ ap (λ t. pair || t) (ap (has_id y) (is ∙ are) ∙ sym g)))

pub reads-itself : (base : Id) (names : List Id) → has_id base (base ∷ names) ≡ true
reads-itself base names = or_left_true (is_same_id base base) (has_id base names) (is_same_id-refl base)

pub found-too : (base x : Id) (names : List Id) → In x names → has_id x (base ∷ names) ≡ true
found-too base x names i = or_right_true (is_same_id x base) (has_id x names) (in-has x names i)

pub in-got : (names : List Id) (i : ℕ) (d : Id) → i < length names → In (get_or names i d) names
in-got [] i d h = absurd (omega (arith, h))
in-got (x ∷ xs) zero d h = inl refl
in-got (x ∷ xs) (suc i) d h = inr (in-got xs i d (omega (arith, h)))

-- by the pairs of a program, and by all sources of the group
pub among-by : (reads : Id → Id → Bool) (found own readers sources : List Id) (name : Id) (whole : Bool) →
    ((y : Id) → reads name y ≡ (has_id y own || are_mutual readers sources name y)) → has_id name found ≡ true →
    (has_id name readers ≡ true → whole ≡ list_all (λ y. has_id y found) sources) →
    ReadsAmong reads found name (list_all (λ y. has_id y found) own && (whole || not (has_id name readers)))
among-by reads found own readers sources name whole are here told =
    by (list_all (λ y. has_id y found) own) refl (has_id name readers) refl whole refl
  where
    pairs : list_all (λ y. has_id y found) own ≡ true → (y : Id) → has_id y own ≡ true → has_id y found ≡ true
    pairs e y h = all-in (λ z. has_id z found) y own e (has-in y own h)

    parts : (y : Id) → are_mutual readers sources name y ≡ true → (has_id name readers ≡ true) × (has_id y sources ≡ true)
    parts y h = split (has_id name readers) (has_id y sources) (not (is_same_id y name)) h
      where
        split : (a b c : Bool) → (a && (b && c)) ≡ true → (a ≡ true) × (b ≡ true)
        split true true c g = (refl, refl)
        split true false c g = absurd cc
        split false b c g = absurd cc

    other : (y : Id) → has_id y found ≡ false → is_same_id y name ≡ false
    other y out = at (is_same_id y name) refl
      where
        at : (t : Bool) → is_same_id y name ≡ t → t ≡ false
        at false e = refl
        at true e = let yes : has_id y found ≡ true = subst (λ z. has_id z found ≡ true) (sym (is_same_id-true y name e)) here in let no : has_id y found ≡ false = out in absurd cc

    by : (o : Bool) → list_all (λ y. has_id y found) own ≡ o → (r : Bool) → has_id name readers ≡ r → (w : Bool) → whole ≡ w → ReadsAmong reads found name (o && (w || not r))
    by false e r f w g =
        let out = some-out found own e in
        (out.0, are out.0 ∙ or_left_true (has_id out.0 own) (are_mutual readers sources name out.0) (in-has out.0 own out.1), out.2)
    by true e false f true g = λ y h. either (λ i. pairs e y i) (λ i. let yes = (parts y i).0 in absurd cc) (or_cases (has_id y own) (are_mutual readers sources name y) (sym (are y) ∙ h))
    by true e false f false g = λ y h. either (λ i. pairs e y i) (λ i. let yes = (parts y i).0 in absurd cc) (or_cases (has_id y own) (are_mutual readers sources name y) (sym (are y) ∙ h))
    by true e true f true g = λ y h. either (λ i. pairs e y i)
        (λ i. all-in (λ z. has_id z found) y sources (sym (told f) ∙ g) (has-in y sources (parts y i).1))
        (or_cases (has_id y own) (are_mutual readers sources name y) (sym (are y) ∙ h))
    by true e true f false g =
        let out = some-out found sources (sym (told f) ∙ g) in
        let there : has_id out.0 sources ≡ true = in-has out.0 sources out.1 in
        let apart : is_same_id out.0 name ≡ false = other out.0 out.2 in
        let reads : are_mutual readers sources name out.0 ≡ true = rw (f, there, apart) refl in
        (out.0, are out.0 ∙ or_right_true (has_id out.0 own) (are_mutual readers sources name out.0) reads, out.2)

-- whether the group's sources are known to be among some, where a program reads in it
pub known-if : (reader whole among : Bool) → whole ≡ (not reader || among) → reader ≡ true → whole ≡ among
known-if true whole among f h = f
known-if false whole among f h = absurd cc

-- the result as it is computed: by the pairs, by the whole group, or by the reader
pub by-pairs : (pairs whole reader : Bool) → pairs ≡ false → (pairs && (whole || reader)) ≡ pairs
by-pairs false whole reader h = refl
by-pairs true whole reader h = absurd cc

pub by-whole : (pairs whole reader : Bool) → pairs ≡ true → whole ≡ true → (pairs && (whole || reader)) ≡ whole
by-whole true true reader h g = refl
by-whole true false reader h g = absurd cc
by-whole false whole reader h g = absurd cc

pub by-reader : (pairs whole reader : Bool) → pairs ≡ true → whole ≡ false → (pairs && (whole || reader)) ≡ reader
by-reader true false reader h g = refl
by-reader true true reader h g = absurd cc
by-reader false whole reader h g = absurd cc
