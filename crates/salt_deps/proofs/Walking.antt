-- A walk sees all to which steps lead from where it starts.
use Rattle.law_states.specs.KeptSources.{Through, itself, through}
use Rattle.law_states.specs.Members.{In}
use Rattle.law_story.proofs.Ids.{and_left, and_right, is_same_id-true}
use Rattle.law_story.proofs.Lists.{either, has-in, in-cases, in-has, in-left, in-right, or_cases, or_left_true, or_right_true}
use Rattle.salt_deps.proofs.Names.{same-at}
use Rattle.salt_deps.specs.Due.{AreComers, AreReached}
use Rattle.salt_deps.specs.Group.{is_told}
use Rattle.salt_deps.specs.Maps.{is_source, keys_in}
use Rattle.salt_deps.specs.Walks.{SeesName, SeesAll, unseen}
use Rattle.salt_values.specs.Id.{has_id, is_same_id}
use Rattle.salt_values.specs.Order.{id_cmp}
use Rattle.salt_values.specs.declared.id.Id.{Id}
use Rattle.std.proofs.Common.{ap, arith, inl, inr, length-append, subst, sym, ◌∙◌}
use Rattle.std.specs.BTreeMap.{BTreeMap, is_at}
use Rattle.std.specs.BTreeSet.{BTreeSet}
use Rattle.std.specs.Map.{keys_of, lookup}
use Rattle.std.specs.Ordering.{is_eq}
use Rattle.std.specs.Prelude.{Bool, List, Some, [], cond, false, length, refl, true, ◌&&◌, ◌++◌, ◌+◌, ◌<◌, ◌||◌, ◌∷◌, ◌≡◌, ◌⊎◌}

-- steps lead from one name to another
pub data Led (step : Id → Id → Bool) : Id → Id → Type 0 where
  here : {b : Id} → Led step b b
  on : {b c d : Id} → Led step b c → step c d ≡ true → Led step b d

-- all that is seen is led to, and what is not to be gone on from has been gone on from
pub record IsWalk (step : Id → Id → Bool) (starts seen ahead : List Id) : Type 0 where
  pub begun : (s : Id) → In s starts → In s seen
  pub led : (c : Id) → In c seen → (s : Id) × In s starts × Led step s c
  pub followed : (y : Id) → In y seen → In y ahead ⊎ ((x : Id) → step y x ≡ true → In x seen)
  pub among : (y : Id) → In y ahead → In y seen

pub starts-all : (step : Id → Id → Bool) (starts old none seen ahead : List Id) → old ≡ [] → none ≡ [] → SeesAll starts old none seen ahead → IsWalk step starts seen ahead
starts-all step starts old none seen ahead empty nil s = record {
  begun = λ q i. has-in q seen (s.seen q ∙ or_left_true (has_id q starts) (has_id q old) (in-has q starts i));
  led = λ c i. (c, only c (in-has c seen i), here);
  followed = λ y i. inl (either (λ e. absurd (nothing y e)) (λ e. e) (s.fresh y (in-has y seen i)));
  among = λ y i. has-in y seen (s.seen y ∙ or_left_true (has_id y starts) (has_id y old) (in-has y starts (either (λ e. absurd (subst (In y) nil e)) (λ e. e) (s.none_else y i))));
}
  where
    nothing : (q : Id) → has_id q old ≡ true → ⊥
    nothing q h = let no : has_id q [] ≡ true = subst (λ l. has_id q l ≡ true) empty h in absurd cc

    only : (q : Id) → has_id q seen ≡ true → In q starts
    only q h = has-in q starts (either (λ e. e) (λ e. absurd (nothing q e)) (or_cases (has_id q starts) (has_id q old) (sym (s.seen q) ∙ h)))

pub starts-one : (step : Id → Id → Bool) (name : Id) (old none seen ahead : List Id) → old ≡ [] → none ≡ [] → SeesName name old none seen ahead → IsWalk step (name ∷ []) seen ahead
starts-one step name old none seen ahead empty nil s = record {
  begun = λ q i. has-in q seen (at q i);
  led = λ c i. (c, inl (only c (in-has c seen i)), here);
  followed = λ y i. inl (subst (In y) (sym ahead-is) (inl (only y (in-has y seen i))));
  among = λ y i. has-in y seen (at y (subst (In y) ahead-is i));
}
  where
    out : has_id name old ≡ false
    out = ap (has_id name) empty

    ahead-is : ahead ≡ name ∷ []
    ahead-is = s.ahead_of ∙ (ap (λ t. cond t none (none ++ name ∷ [])) out ∙ ap (λ (l : List Id). l ++ name ∷ []) nil)

    at : (q : Id) → In q (name ∷ []) → has_id q seen ≡ true
    at q (inl e) = s.seen q ∙ or_left_true (is_same_id name q) (has_id q old) (subst (λ z. is_same_id name z ≡ true) e (self name))
      where
        self : (a : Id) → is_same_id a a ≡ true
        self a = or-same (in-has a (a ∷ []) (inl refl))
          where
            or-same : has_id a (a ∷ []) ≡ true → is_same_id a a ≡ true
            or-same h = either (λ e. e) (λ e. absurd cc) (or_cases (is_same_id a a) false h)
    at q (inr e) = absurd e

    only : (q : Id) → has_id q seen ≡ true → name ≡ q
    only q h = is_same_id-true name q (either (λ e. e) (λ e. let no : has_id q [] ≡ true = subst (λ l. has_id q l ≡ true) empty e in absurd cc) (or_cases (is_same_id name q) (has_id q old) (sym (s.seen q) ∙ h)))

-- the walk goes on from the last name ahead
pub walks-on : (step : Id → Id → Bool) (starts seen rest new onward names : List Id) (next : Id) → IsWalk step starts seen (rest ++ next ∷ []) →
    ((x : Id) → has_id x names ≡ true → (step next x ≡ true) ⊎ In x seen) → ((x : Id) → step next x ≡ true → (has_id x names ≡ true) ⊎ In x seen) →
    SeesAll names seen rest new onward → IsWalk step starts new onward
walks-on step starts seen rest new onward names next w steps told s = record {
  begun = λ q i. stays q (w.begun q i);
  led = λ c i. either (λ e. w.led c (has-in c seen (e))) (λ e. from c e) (swapped (has_id c names) (has_id c seen) (sym (s.seen c) ∙ in-has c new i));
  followed = λ y i. either (λ e. was y (w.followed y (has-in y seen e))) (λ e. inl e) (s.fresh y (in-has y new i));
  among = λ y i. either (λ e. stays y (w.among y (in-left y rest (next ∷ []) e))) (λ e. has-in y new (s.seen y ∙ or_left_true (has_id y names) (has_id y seen) (in-has y names e))) (s.none_else y i);
}
  where
    swapped : (a b : Bool) → (a || b) ≡ true → (b ≡ true) ⊎ (a ≡ true)
    swapped true b h = inr refl
    swapped false b h = inl h

    stays : (q : Id) → In q seen → In q new
    stays q i = has-in q new (s.seen q ∙ or_right_true (has_id q names) (has_id q seen) (in-has q seen i))

    from : (c : Id) → has_id c names ≡ true → (z : Id) × In z starts × Led step z c
    from c h = either (λ e. let l = w.led next (w.among next (in-right next rest (next ∷ []) (inl refl))) in (l.0, l.1, on l.2 e)) (λ i. w.led c i) (steps c h)

    after : (x : Id) → (has_id x names ≡ true) ⊎ In x seen → In x new
    after x (inl e) = has-in x new (s.seen x ∙ or_left_true (has_id x names) (has_id x seen) e)
    after x (inr i) = stays x i

    gone : (y : Id) → In y (next ∷ []) → (x : Id) → step y x ≡ true → In x new
    gone y (inl e) x h = after x (told x (subst (λ z. step z x ≡ true) (sym e) h))
    gone y (inr e) x h = absurd e

    was : (y : Id) → In y (rest ++ next ∷ []) ⊎ ((x : Id) → step y x ≡ true → In x seen) → In y onward ⊎ ((x : Id) → step y x ≡ true → In x new)
    was y (inl i) = either (λ e. inl (s.kept y e)) (λ e. inr (gone y e)) (in-cases y rest (next ∷ []) i)
    was y (inr f) = inr (λ x h. stays x (f x h))

-- at its end all is seen to which steps lead
pub all-seen : (step : Id → Id → Bool) (starts seen ahead : List Id) → IsWalk step starts seen ahead → ahead ≡ [] → (s c : Id) → In s starts → Led step s c → In c seen
all-seen step starts seen ahead w nil s c i here = w.begun s i
all-seen step starts seen ahead w nil s c i (on {c = b} l h) = either (λ e. absurd (subst (In b) nil e)) (λ f. f c h) (w.followed b (all-seen step starts seen ahead w nil s b i l))

snoc : (reads : Id → Id → Bool) (a b c : Id) → Through reads a b → reads b c ≡ true → Through reads a c
snoc reads a b c itself h = through h itself
snoc reads a b c (through {c = x} g r) h = through g (snoc reads x b c r h)

pub forth : (reads : Id → Id → Bool) (a b : Id) → Led reads a b → Through reads a b
forth reads a b here = itself
forth reads a b (on {c = x} l h) = snoc reads a x b (forth reads a x l) h

join : (reads : Id → Id → Bool) (a b c : Id) → Led reads a b → Through reads b c → Led reads a c
join reads a b c l itself = l
join reads a b c l (through {c = x} h r) = join reads a x c (on l h) r

pub led-forth : (reads : Id → Id → Bool) (a b : Id) → Through reads a b → Led reads a b
led-forth reads a b r = join reads a a b here r

-- against the readings
abbrev pub against : (Id → Id → Bool) → Id → Id → Bool
against reads y x = reads x y

pub back : (reads : Id → Id → Bool) (a b : Id) → Led (against reads) a b → Through reads b a
back reads a b here = itself
back reads a b (on {c = x} l h) = through h (back reads a x l)

pub led-back : (reads : Id → Id → Bool) (a b : Id) → Through reads b a → Led (against reads) a b
led-back reads a b itself = here
led-back reads a b (through {c = x} h r) = on (led-back reads a x r) h

pub are-reached : (reads : Id → Id → Bool) (name : Id) (seen ahead : List Id) → IsWalk reads (name ∷ []) seen ahead → ahead ≡ [] → AreReached reads name seen
are-reached reads name seen ahead w nil c = (
  (λ i. let l = w.led c i in only l.0 l.1 l.2),
  (λ r. all-seen reads (name ∷ []) seen ahead w nil name c (inl refl) (led-forth reads name c r)),
)
  where
    only : (s : Id) → In s (name ∷ []) → Led reads s c → Through reads name c
    only s (inl e) l = subst (λ z. Through reads z c) (sym e) (forth reads s c l)
    only s (inr e) l = absurd e

pub are-comers : (reads : Id → Id → Bool) (starts seen ahead : List Id) → IsWalk (against reads) starts seen ahead → ahead ≡ [] → AreComers reads starts seen
are-comers reads starts seen ahead w nil b = (
  (λ i. let l = w.led b i in (l.0, l.1, back reads l.0 b l.2)),
  (λ h. all-seen (against reads) starts seen ahead w nil h.0 b h.1 (led-back reads h.0 b h.2)),
)

-- all sources
abbrev pub all_sources : List (Id × BTreeSet Id) → List Id
all_sources [] = []
all_sources (e ∷ es) = e.1.keys ++ all_sources es

in-sources : (x y : Id) (es : List (Id × BTreeSet Id)) → has_id y (keys_in (lookup (is_at (id_cmp x)) es)) ≡ true → In y (all_sources es)
in-sources x y [] h = absurd cc
in-sources x y (e ∷ es) h = by (is_eq (id_cmp x e.0)) h (in-sources x y es)
  where
    by : (t : Bool) → has_id y (keys_in (cond t (Some e.1) (lookup (is_at (id_cmp x)) es))) ≡ true → (has_id y (keys_in (lookup (is_at (id_cmp x)) es)) ≡ true → In y (all_sources es)) → In y (all_sources (e ∷ es))
    by true g more = in-left y e.1.keys (all_sources es) (has-in y e.1.keys g)
    by false g more = in-right y e.1.keys (all_sources es) (more g)

in-readers : (x y : Id) (es : List (Id × BTreeSet Id)) → has_id y (keys_in (lookup (is_at (id_cmp x)) es)) ≡ true → In x (keys_of es)
in-readers x y [] h = absurd cc
in-readers x y (e ∷ es) h = by (is_eq (id_cmp x e.0)) refl h (in-readers x y es)
  where
    by : (t : Bool) → is_eq (id_cmp x e.0) ≡ t → has_id y (keys_in (cond t (Some e.1) (lookup (is_at (id_cmp x)) es))) ≡ true → (has_id y (keys_in (lookup (is_at (id_cmp x)) es)) ≡ true → In x (keys_of es)) → In x (keys_of (e ∷ es))
    by true tie g more = inl (sym (is_same_id-true x e.0 (sym (same-at x e.0) ∙ tie)))
    by false tie g more = inr (more g)

told-of : (met : Bool) (ones others : List Id) (x y : Id) → is_told met ones others x y ≡ true → has_id y others ≡ true
told-of true ones others x y h = absurd cc
told-of false ones others x y h = and_right (has_id x ones) (has_id y others) h

-- a step of the walk leaves less to be seen
less-ahead : (all : List Id) (next : Id) (names seen rest new onward : List Id) → ((q : Id) → In q names → In q all) → SeesAll names seen rest new onward →
    unseen all new + length onward < unseen all seen + length (rest ++ next ∷ [])
less-ahead all next names seen rest new onward within s =
    let less = s.once all within in
    let longer = length-append rest (next ∷ []) in
    omega (arith, less, longer)

pub sources-less : (m : BTreeMap Id (BTreeSet Id)) (met : Bool) (readers sources : List Id) (next : Id) (names seen rest new onward : List Id) →
    ((y : Id) → has_id y names ≡ (is_source m next y || is_told met readers sources next y)) → SeesAll names seen rest new onward →
    unseen (all_sources m.entries ++ sources) new + length onward < unseen (all_sources m.entries ++ sources) seen + length (rest ++ next ∷ [])
sources-less m met readers sources next names seen rest new onward are s = less-ahead (all_sources m.entries ++ sources) next names seen rest new onward within s
  where
    within : (q : Id) → In q names → In q (all_sources m.entries ++ sources)
    within q i = either (λ e. in-left q (all_sources m.entries) sources (in-sources next q m.entries e))
        (λ e. in-right q (all_sources m.entries) sources (has-in q sources (told-of met readers sources next q e)))
        (or_cases (is_source m next q) (is_told met readers sources next q) (sym (are q) ∙ in-has q names i))

pub readers-less : (m : BTreeMap Id (BTreeSet Id)) (met : Bool) (readers sources finished : List Id) (next : Id) (names seen rest new onward : List Id) →
    ((x : Id) → has_id x names ≡ ((is_source m x next || is_told met sources readers next x) && has_id x finished)) → SeesAll names seen rest new onward →
    unseen (keys_of m.entries ++ readers) new + length onward < unseen (keys_of m.entries ++ readers) seen + length (rest ++ next ∷ [])
readers-less m met readers sources finished next names seen rest new onward are s = less-ahead (keys_of m.entries ++ readers) next names seen rest new onward within s
  where
    within : (q : Id) → In q names → In q (keys_of m.entries ++ readers)
    within q i = either (λ e. in-left q (keys_of m.entries) readers (in-readers q next m.entries e))
        (λ e. in-right q (keys_of m.entries) readers (has-in q readers (told-of met sources readers next q e)))
        (or_cases (is_source m q next) (is_told met sources readers next q)
        (and_left (is_source m q next || is_told met sources readers next q) (has_id q finished) (sym (are q) ∙ in-has q names i)))

pub nil-from : (names : List Id) → length names ≡ 0 → names ≡ []
nil-from [] h = refl
nil-from (x ∷ xs) h = absurd (omega (arith, h))
