-- Continuations in the order of their programs: where one stands, and what is left where it is replaced or taken out.
use Rattle.law_states.proofs.Ascending.{older-strict}
use Rattle.law_states.specs.Rising.{AreInOrder, Rising}
use Rattle.law_story.proofs.Ids.{is_same_id-sym, is_same_id-true}
use Rattle.law_story.proofs.Lists.{either}
use Rattle.salt_books.specs.Bases.{bases_in}
use Rattle.salt_model.specs.Kept.{cont_in}
use Rattle.salt_model.specs.Words.{Every}
use Rattle.salt_stands.specs.OpenConts.{is_not_of, replace_cont}
use Rattle.salt_values.specs.Id.{is_older, is_same_id}
use Rattle.salt_values.specs.declared.cont.Cont.{Cont}
use Rattle.salt_values.specs.declared.id.Id.{Id}
use Rattle.std.proofs.Common.{ap, arith, refl, subst, sym, ◌∙◌}
use Rattle.std.proofs.lemmas.Bool.{both_ways, cases_order}
use Rattle.std.specs.List.{filter, find, remove}
use Rattle.std.specs.List.Sorted.{IsPartitionPoint, IsPartitionedBy}
use Rattle.std.specs.Prelude.{Bool, List, None, Some, [], cond, false, get_or, is_some, length, not, set, suc, true, zero, ℕ, ◌++◌, ◌<◌, ◌∷◌, ◌≡◌}

-- of two names of which one is older neither is the other
older-other : (a b : Id) → is_older a b ≡ true → is_same_id b a ≡ false
older-other a b h = by (is_same_id b a) refl
  where
    by : (t : Bool) → is_same_id b a ≡ t → t ≡ false
    by false e = refl
    by true e = absurd (older-strict.not_self a (subst (λ z. is_older a z ≡ true) (is_same_id-true b a e) h))

every-at : (P : Id → Type 0) (cs : List Cont) → Every P (bases_in cs) → (k : ℕ) (d : Cont) → k < length cs → P (get_or cs k d).base
every-at P [] all k d h = absurd (omega (arith, h))
every-at P (c ∷ cs) all zero d h = all.0
every-at P (c ∷ cs) all (suc k) d h = every-at P cs all.1 k d (omega (arith, h))

id-at : (P : Id → Type 0) (ids : List Id) → Every P ids → (k : ℕ) (d : Id) → k < length ids → P (get_or ids k d)
id-at P [] all k d h = absurd (omega (arith, h))
id-at P (x ∷ xs) all zero d h = all.0
id-at P (x ∷ xs) all (suc k) d h = id-at P xs all.1 k d (omega (arith, h))

rising-at : (cs : List Cont) → Rising (bases_in cs) → (i k : ℕ) (d : Cont) → i < k → k < length cs → is_older (get_or cs i d).base (get_or cs k d).base ≡ true
rising-at [] r i k d h g = absurd (omega (arith, g))
rising-at (c ∷ cs) r i zero d h g = absurd (omega (arith, h))
rising-at (c ∷ cs) r zero (suc k) d h g = every-at (λ v. is_older c.base v ≡ true) cs r.0 k d (omega (arith, g))
rising-at (c ∷ cs) r (suc i) (suc k) d h g = rising-at cs r.1 i k d (omega (arith, h)) (omega (arith, g))

-- names in order, told by places and one after another
pub in-order : (ids : List Id) → Rising ids → AreInOrder ids
in-order [] r i k d h g = absurd (omega (arith, g))
in-order (x ∷ xs) r i zero d h g = absurd (omega (arith, h))
in-order (x ∷ xs) r zero (suc k) d h g = id-at (λ v. is_older x v ≡ true) xs r.0 k d (omega (arith, g))
in-order (x ∷ xs) r (suc i) (suc k) d h g = in-order xs r.1 i k d (omega (arith, h)) (omega (arith, g))

pub rising-of : (ids : List Id) → AreInOrder ids → Rising ids
rising-of [] r = tt
rising-of (x ∷ xs) r = (all xs (λ k d h. r 0 (suc k) d (omega arith) (omega (arith, h))), rising-of xs (λ i k d h g. r (suc i) (suc k) d (omega (arith, h)) (omega (arith, g))))
  where
    all : (ys : List Id) → ((k : ℕ) (d : Id) → k < length ys → is_older x (get_or ys k d) ≡ true) → Every (λ v. is_older x v ≡ true) ys
    all [] h = tt
    all (y ∷ ys) h = (h 0 y (omega arith), all ys (λ k d l. h (suc k) d (omega (arith, l))))

-- those of older programs stand before the others
pub parted-by-age : (b : Id) (cs : List Cont) → Rising (bases_in cs) → IsPartitionedBy (λ (c : Cont). is_older c.base b) cs
parted-by-age b [] r i j d le l h = absurd (omega (arith, l))
parted-by-age b (c ∷ cs) r zero zero d le l h = h
parted-by-age b (c ∷ cs) r zero (suc j) d le l h = older-strict.through c.base (get_or cs j d).base b (every-at (λ v. is_older c.base v ≡ true) cs r.0 j d (omega (arith, l))) h
parted-by-age b (c ∷ cs) r (suc i) zero d le l h = absurd (omega (arith, le))
parted-by-age b (c ∷ cs) r (suc i) (suc j) d le l h = parted-by-age b cs r.1 i j d (omega (arith, le)) (omega (arith, l)) h

abbrev pub AreCut : Id → List Cont → ℕ → Type 0
AreCut b cs n = IsPartitionPoint (λ (c : Cont). is_older c.base b ≡ true) (λ (c : Cont). is_older c.base b ≡ false) cs n

abbrev pub NoneOf : Id → List Cont → Type 0
NoneOf b cs = (k : ℕ) (d : Cont) → k < length cs → is_same_id b (get_or cs k d).base ≡ false

-- where it would stand another one does, or none: then there is none
pub none-of : (b : Id) (cs : List Cont) (n : ℕ) → Rising (bases_in cs) → AreCut b cs n → (n < length cs → (d : Cont) → is_same_id b (get_or cs n d).base ≡ false) → NoneOf b cs
none-of b cs n r cut other k d h = by (is_same_id b (get_or cs k d).base) refl
  where
    by : (t : Bool) → is_same_id b (get_or cs k d).base ≡ t → t ≡ false
    by false e = refl
    by true e =
        let same = is_same_id-true b (get_or cs k d).base e in
        absurd (either
        (λ s. both_ways (is_same_id b (get_or cs k d).base) (ap (λ j. is_same_id b (get_or cs j d).base) s ∙ other (omega (arith, h, s)) d) e)
        (λ c. either
        (λ a. older-strict.not_self b (subst (λ z. is_older z b ≡ true) (sym same) (cut.0 k d (omega arith) a)))
        (λ a. both_ways (is_older (get_or cs n d).base b) (cut.1 n d (omega arith) (omega (arith, a, h)))
        (subst (λ z. is_older (get_or cs n d).base z ≡ true) (sym same) (rising-at cs r n k d a h)))
        c)
        (cases_order k n))

less : (b : Id) (c : Cont) (cs : List Cont) → NoneOf b (c ∷ cs) → NoneOf b cs
less b c cs none k d h = none (suc k) d (omega (arith, h))

pub none-found : (b : Id) (cs : List Cont) → NoneOf b cs → find (λ (c : Cont). is_same_id b c.base) cs ≡ None
none-found b [] none = refl
none-found b (c ∷ cs) none = ap (λ t. cond t (Some c) (find (λ (c : Cont). is_same_id b c.base) cs)) (none 0 c (omega arith)) ∙ none-found b cs (less b c cs none)

pub none-left-out : (b : Id) (cs : List Cont) → NoneOf b cs → filter (is_not_of b) cs ≡ cs
none-left-out b [] none = refl
none-left-out b (c ∷ cs) none =
    ap (λ t. cond (not t) (c ∷ filter (is_not_of b) cs) (filter (is_not_of b) cs)) (none 0 c (omega arith)) ∙ ap (λ l. c ∷ l) (none-left-out b cs (less b c cs none))

-- those behind one are of other programs
behind : (b : Id) (c : Cont) (cs : List Cont) → is_same_id b c.base ≡ true → Every (λ v. is_older c.base v ≡ true) (bases_in cs) → NoneOf b cs
behind b c cs same all k d h =
    subst (λ z. is_same_id z (get_or cs k d).base ≡ false) (sym (is_same_id-true b c.base same))
    (is_same_id-sym c.base (get_or cs k d).base ∙ older-other c.base (get_or cs k d).base (every-at (λ v. is_older c.base v ≡ true) cs all k d h))

-- and so are those before it
before : (b : Id) (c : Cont) (cs : List Cont) (n : ℕ) (d : Cont) → n < length cs → is_same_id b (get_or cs n d).base ≡ true → Every (λ v. is_older c.base v ≡ true) (bases_in cs) →
    is_same_id b c.base ≡ false
before b c cs n d h same all =
    older-other c.base b (subst (λ z. is_older c.base z ≡ true) (sym (is_same_id-true b (get_or cs n d).base same)) (every-at (λ v. is_older c.base v ≡ true) cs all n d h))

pub found-there : (b : Id) (cs : List Cont) (n : ℕ) (d : Cont) → Rising (bases_in cs) → n < length cs → is_same_id b (get_or cs n d).base ≡ true →
    find (λ (c : Cont). is_same_id b c.base) cs ≡ Some (get_or cs n d)
found-there b [] n d r h same = absurd (omega (arith, h))
found-there b (c ∷ cs) zero d r h same = ap (λ t. cond t (Some c) (find (λ (c : Cont). is_same_id b c.base) cs)) same
found-there b (c ∷ cs) (suc n) d r h same =
    ap (λ t. cond t (Some c) (find (λ (c : Cont). is_same_id b c.base) cs)) (before b c cs n d (omega (arith, h)) same r.0)
    ∙ found-there b cs n d r.1 (omega (arith, h)) same

pub left-out : (b : Id) (cs : List Cont) (n : ℕ) (d : Cont) → Rising (bases_in cs) → n < length cs → is_same_id b (get_or cs n d).base ≡ true → filter (is_not_of b) cs ≡ remove cs n
left-out b [] n d r h same = absurd (omega (arith, h))
left-out b (c ∷ cs) zero d r h same =
    ap (λ t. cond (not t) (c ∷ filter (is_not_of b) cs) (filter (is_not_of b) cs)) same ∙ none-left-out b cs (behind b c cs same r.0)
left-out b (c ∷ cs) (suc n) d r h same =
    ap (λ t. cond (not t) (c ∷ filter (is_not_of b) cs) (filter (is_not_of b) cs)) (before b c cs n d (omega (arith, h)) same r.0)
    ∙ ap (λ l. c ∷ l) (left-out b cs n d r.1 (omega (arith, h)) same)

none-replaced : (x : Cont) (cs : List Cont) → NoneOf x.base cs → replace_cont x cs ≡ cs
none-replaced x [] none = refl
none-replaced x (c ∷ cs) none = ap (λ t. cond t x c ∷ replace_cont x cs) (none 0 c (omega arith)) ∙ ap (λ l. c ∷ l) (none-replaced x cs (less x.base c cs none))

pub one-replaced : (x : Cont) (cs : List Cont) (n : ℕ) (d : Cont) → Rising (bases_in cs) → n < length cs → is_same_id x.base (get_or cs n d).base ≡ true →
    replace_cont x cs ≡ set cs n x
one-replaced x [] n d r h same = absurd (omega (arith, h))
one-replaced x (c ∷ cs) zero d r h same = ap (λ t. cond t x c ∷ replace_cont x cs) same ∙ ap (λ l. x ∷ l) (none-replaced x cs (behind x.base c cs same r.0))
one-replaced x (c ∷ cs) (suc n) d r h same =
    ap (λ t. cond t x c ∷ replace_cont x cs) (before x.base c cs n d (omega (arith, h)) same r.0) ∙ ap (λ l. c ∷ l) (one-replaced x cs n d r.1 (omega (arith, h)) same)

-- the programs are the same where one is replaced
pub same-bases : (x : Cont) (cs : List Cont) (n : ℕ) (d : Cont) → n < length cs → is_same_id x.base (get_or cs n d).base ≡ true → bases_in (set cs n x) ≡ bases_in cs
same-bases x [] n d h same = absurd (omega (arith, h))
same-bases x (c ∷ cs) zero d h same = ap (λ b. b ∷ bases_in cs) (is_same_id-true x.base c.base same)
same-bases x (c ∷ cs) (suc n) d h same = ap (λ l. c.base ∷ l) (same-bases x cs n d (omega (arith, h)) same)

every-removed : (P : Id → Type 0) (cs : List Cont) (k : ℕ) → Every P (bases_in cs) → Every P (bases_in (remove cs k))
every-removed P [] zero all = all
every-removed P [] (suc k) all = all
every-removed P (c ∷ cs) zero all = all.1
every-removed P (c ∷ cs) (suc k) all = (all.0, every-removed P cs k all.1)

pub rising-removed : (cs : List Cont) (k : ℕ) → Rising (bases_in cs) → Rising (bases_in (remove cs k))
rising-removed [] zero r = r
rising-removed [] (suc k) r = r
rising-removed (c ∷ cs) zero r = r.1
rising-removed (c ∷ cs) (suc k) r = (every-removed (λ v. is_older c.base v ≡ true) cs k r.0, rising-removed cs k r.1)

every-last : (P : Id → Type 0) (cs : List Cont) (x : Cont) → Every P (bases_in cs) → P x.base → Every P (bases_in (cs ++ x ∷ []))
every-last P [] x all h = (h, tt)
every-last P (c ∷ cs) x all h = (all.0, every-last P cs x all.1 h)

pub rising-more : (cs : List Cont) (x : Cont) → Rising (bases_in cs) → ((k : ℕ) (d : Cont) → k < length cs → is_older (get_or cs k d).base x.base ≡ true) → Rising (bases_in (cs ++ x ∷ []))
rising-more [] x r h = (tt, tt)
rising-more (c ∷ cs) x r h = (every-last (λ v. is_older c.base v ≡ true) cs x r.0 (h 0 c (omega arith)), rising-more cs x r.1 (λ k d l. h (suc k) d (omega (arith, l))))

pub rising-one : (cs : List Cont) (x : Cont) → cs ≡ [] → Rising (bases_in (cs ++ x ∷ []))
rising-one cs x none = subst (λ (ds : List Cont). Rising (bases_in (ds ++ x ∷ []))) (sym none) (tt, tt)

pub rising-none : (cs : List Cont) → cs ≡ [] → Rising (bases_in cs)
rising-none cs none = subst (λ (ds : List Cont). Rising (bases_in ds)) (sym none) tt

-- whether one of the program goes on
pub there-in : (b : Id) (cs : List Cont) (x : Cont) → find (λ (c : Cont). is_same_id b c.base) cs ≡ Some x → cont_in b cs ≡ find (λ (c : Cont). is_same_id b c.base) cs → is_some (cont_in b cs) ≡ true
there-in b cs x found same = ap is_some (same ∙ found)

pub none-in : (b : Id) (cs : List Cont) → find (λ (c : Cont). is_same_id b c.base) cs ≡ None → cont_in b cs ≡ find (λ (c : Cont). is_same_id b c.base) cs → is_some (cont_in b cs) ≡ false
none-in b cs none same = ap is_some (same ∙ none)
