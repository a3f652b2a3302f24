-- Units in the order of their names: where one stands, and what becomes of the order.
use Rattle.law_states.proofs.Ascending.{older-strict}
use Rattle.law_states.specs.Rising.{AreInOrder, Rising}
use Rattle.law_story.proofs.Ids.{is_same_id-true}
use Rattle.law_story.proofs.Lists.{either}
use Rattle.salt_books.proofs.LookUps.{none-found}
use Rattle.salt_books.proofs.Ordered.{in-order, rising-of}
use Rattle.salt_books.specs.Names.{IsPlaceOf, has_name, names_held}
use Rattle.salt_books.specs.declared.held.Held.{Held}
use Rattle.salt_model.specs.Words.{Every}
use Rattle.salt_values.specs.Id.{is_older, is_same_id}
use Rattle.salt_values.specs.declared.id.Id.{Id}
use Rattle.std.proofs.Common.{ap, arith, refl, subst, sym, ◌∙◌}
use Rattle.std.proofs.lemmas.Bool.{both_ways, cases_order}
use Rattle.std.proofs.lemmas.List.{get_or-map, length-map, map-append}
use Rattle.std.proofs.lemmas.List.Quantifiers.{position-Some}
use Rattle.std.specs.List.{find, position, remove}
use Rattle.std.specs.List.Sorted.{IsPartitionPoint, IsPartitionedBy}
use Rattle.std.specs.Prelude.{Bool, List, None, Option, Some, [], cond, false, get_or, length, set, suc, true, zero, ℕ, ◌++◌, ◌<◌, ◌∷◌, ◌≡◌}

abbrev name : Held → Id
name h = h.open.unit

-- THE ONE OF A NAME

older-not : (a b : Id) → is_older a b ≡ true → is_same_id a b ≡ false
older-not a b h = by (is_same_id a b) refl
  where
    by : (t : Bool) → is_same_id a b ≡ t → t ≡ false
    by false e = refl
    by true e = absurd (older-strict.not_self b (subst (λ z. is_older z b ≡ true) (is_same_id-true a b e) h))

older-at : (hs : List Held) → AreInOrder (names_held hs) → (i k : ℕ) (d : Held) → i < k → k < length hs → is_older (name (get_or hs i d)) (name (get_or hs k d)) ≡ true
older-at hs o i k d h g =
    let len = length-map hs name in
    let a = get_or-map name hs i d (name d) (omega (arith, h, g)) in
    let b = get_or-map name hs k d (name d) g in
    subst (λ y. is_older (name (get_or hs i d)) y ≡ true) b (subst (λ x. is_older x (get_or (names_held hs) k (name d)) ≡ true) a (o i k (name d) h (omega (arith, g, len))))

-- the older ones stand before the others
pub parted-by-name : (u : Id) (hs : List Held) → AreInOrder (names_held hs) → IsPartitionedBy (λ (h : Held). is_older h.open.unit u) hs
parted-by-name u hs o i j d le l h = either
    (λ e. subst (λ n. is_older (name (get_or hs n d)) u ≡ true) (sym e) h)
    (λ c. either (λ a. older-strict.through (name (get_or hs i d)) (name (get_or hs j d)) u (older-at hs o i j d a l) h) (λ a. absurd (omega (arith, a, le))) c)
    (cases_order i j)

abbrev pub AreCut : Id → List Held → ℕ → Type 0
AreCut u hs n = IsPartitionPoint (λ (h : Held). is_older h.open.unit u ≡ true) (λ (h : Held). is_older h.open.unit u ≡ false) hs n

none-at : (u : Id) (hs : List Held) (n : ℕ) → AreInOrder (names_held hs) → AreCut u hs n → (n < length hs → (d : Held) → has_name u (get_or hs n d) ≡ false) →
    (k : ℕ) (d : Held) → k < length hs → has_name u (get_or hs k d) ≡ false
none-at u hs n o cut other k d h = by (has_name u (get_or hs k d)) refl
  where
    by : (t : Bool) → has_name u (get_or hs k d) ≡ t → t ≡ false
    by false e = refl
    by true e =
        let same = is_same_id-true (name (get_or hs k d)) u e in
        absurd (either
        (λ s. both_ways (has_name u (get_or hs k d)) (ap (λ j. has_name u (get_or hs j d)) s ∙ other (omega (arith, h, s)) d) e)
        (λ c. either
        (λ a. older-strict.not_self u (subst (λ z. is_older z u ≡ true) same (cut.0 k d (omega arith) a)))
        (λ a. both_ways (is_older (name (get_or hs n d)) u) (cut.1 n d (omega arith) (omega (arith, a, h)))
        (subst (λ z. is_older (name (get_or hs n d)) z ≡ true) same (older-at hs o n k d a h)))
        c)
        (cases_order k n))

none-named : (u : Id) (hs : List Held) → ((k : ℕ) (d : Held) → k < length hs → has_name u (get_or hs k d) ≡ false) → find (has_name u) hs ≡ None
none-named u [] none = refl
none-named u (h ∷ hs) none =
    ap (λ t. cond t (Some h) (find (has_name u) hs)) (none 0 h (omega arith)) ∙ none-named u hs (λ k d l. none (suc k) d (omega (arith, l)))

first-named : (u : Id) (hs : List Held) (n : ℕ) (d : Held) → n < length hs → has_name u (get_or hs n d) ≡ true → ((k : ℕ) → k < n → has_name u (get_or hs k d) ≡ false) →
    find (has_name u) hs ≡ Some (get_or hs n d)
first-named u [] n d h here others = absurd (omega (arith, h))
first-named u (x ∷ xs) zero d h here others = ap (λ t. cond t (Some x) (find (has_name u) xs)) here
first-named u (x ∷ xs) (suc n) d h here others =
    ap (λ t. cond t (Some x) (find (has_name u) xs)) (others 0 (omega arith)) ∙ first-named u xs n d (omega (arith, h)) here (λ k l. others (suc k) (omega (arith, l)))

pub named-there : (u : Id) (hs : List Held) (n : ℕ) → AreInOrder (names_held hs) → (n < length hs) × ((d : Held) → has_name u (get_or hs n d) ≡ true) → IsPlaceOf u hs (Some n)
named-there u hs n o there = (
  there.0,
  λ d.
      let same = is_same_id-true (name (get_or hs n d)) u (there.1 d) in
      first-named u hs n d there.0 (there.1 d) (λ k l. older-not (name (get_or hs k d)) u (subst (λ z. is_older (name (get_or hs k d)) z ≡ true) same (older-at hs o k n d l there.0))),
)

pub named-nowhere : (u : Id) (hs : List Held) (n : ℕ) → AreInOrder (names_held hs) → AreCut u hs n → (n < length hs → (d : Held) → has_name u (get_or hs n d) ≡ false) →
    IsPlaceOf u hs None
named-nowhere u hs n o cut other = none-named u hs (none-at u hs n o cut other)

-- and where a search from the front has come to
pub searched : (u : Id) (hs : List Held) (found : Option ℕ) → found ≡ position (has_name u) hs → IsPlaceOf u hs found
searched u hs None is = none-found (has_name u) hs (sym is)
searched u [] (Some at) is = cc
searched u (h ∷ hs) (Some at) is =
    let found = λ (d : Held). position-Some (has_name u) (h ∷ hs) at d (sym is) in
    ((found h).0, λ d. first-named u (h ∷ hs) at d (found d).0 (found d).1 (found d).2)

-- WHAT BECOMES OF THE ORDER

every-left : (P : Id → Type 0) (ids : List Id) (k : ℕ) → Every P ids → Every P (remove ids k)
every-left P [] zero all = all
every-left P [] (suc k) all = all
every-left P (x ∷ xs) zero all = all.1
every-left P (x ∷ xs) (suc k) all = (all.0, every-left P xs k all.1)

rising-left : (ids : List Id) (k : ℕ) → Rising ids → Rising (remove ids k)
rising-left [] zero r = r
rising-left [] (suc k) r = r
rising-left (x ∷ xs) zero r = r.1
rising-left (x ∷ xs) (suc k) r = (every-left (λ v. is_older x v ≡ true) xs k r.0, rising-left xs k r.1)

names-left : (hs : List Held) (k : ℕ) → names_held (remove hs k) ≡ remove (names_held hs) k
names-left [] zero = refl
names-left [] (suc k) = refl
names-left (h ∷ hs) zero = refl
names-left (h ∷ hs) (suc k) = ap (λ l. name h ∷ l) (names-left hs k)

pub order-left : (hs : List Held) (k : ℕ) → AreInOrder (names_held hs) → AreInOrder (names_held (remove hs k))
order-left hs k o =
    let ids = names_held hs in
    subst AreInOrder (sym (names-left hs k)) (in-order (remove ids k) (rising-left ids k (rising-of ids o)))

pub names-set : (hs : List Held) (k : ℕ) (x y : Held) → k < length hs → x ≡ get_or hs k x → name y ≡ name x → names_held (set hs k y) ≡ names_held hs
names-set [] k x y h is e = absurd (omega (arith, h))
names-set (z ∷ zs) zero x y h is e = ap (λ u. u ∷ names_held zs) (e ∙ ap name is)
names-set (z ∷ zs) (suc k) x y h is e = ap (λ l. name z ∷ l) (names-set zs k x y (omega (arith, h)) is e)

every-last : (P : Id → Type 0) (ids : List Id) (u : Id) → Every P ids → P u → Every P (ids ++ u ∷ [])
every-last P [] u all h = (h, tt)
every-last P (x ∷ xs) u all h = (all.0, every-last P xs u all.1 h)

rising-last : (ids : List Id) (u : Id) → Rising ids → Every (λ v. is_older v u ≡ true) ids → Rising (ids ++ u ∷ [])
rising-last [] u r all = (tt, tt)
rising-last (x ∷ xs) u r all = (every-last (λ v. is_older x v ≡ true) xs u r.0 all.0, rising-last xs u r.1 all.1)

every-name : (u : Id) (hs : List Held) → ((k : ℕ) (d : Held) → k < length hs → is_older (name (get_or hs k d)) u ≡ true) → Every (λ v. is_older v u ≡ true) (names_held hs)
every-name u [] h = tt
every-name u (x ∷ xs) h = (h 0 x (omega arith), every-name u xs (λ k d l. h (suc k) d (omega (arith, l))))

-- where all are older than one that is put behind them
pub order-last : (u : Id) (hs : List Held) (n : ℕ) → AreInOrder (names_held hs) → AreCut u hs n → n ≡ length hs → AreInOrder (names_held hs ++ u ∷ [])
order-last u hs n o cut all =
    let ids = names_held hs in
    in-order (ids ++ u ∷ []) (rising-last ids u (rising-of ids o) (every-name u hs (λ k d h. cut.0 k d (omega arith) (omega (arith, h, all)))))

pub order-begun : (hs new : List Held) (x : Held) (u : Id) → new ≡ hs ++ x ∷ [] → name x ≡ u → AreInOrder (names_held hs ++ u ∷ []) → AreInOrder (names_held new)
order-begun hs new x u is e o =
    subst (λ (ys : List Held). AreInOrder (names_held ys)) (sym is)
    (subst AreInOrder (sym (map-append name hs (x ∷ []))) (subst (λ v. AreInOrder (names_held hs ++ v ∷ [])) (sym e) o))
