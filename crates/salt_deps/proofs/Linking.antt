-- What changes of the two maps make of who reads from whom.
use Rattle.law_story.proofs.Ids.{and_left, and_right, is_same_id-sym, is_same_id-true}
use Rattle.law_story.proofs.Lists.{has-in, in-filter, in-has, into-filter, or_right_true}
use Rattle.salt_deps.proofs.Names.{has-key, same-at}
use Rattle.salt_deps.specs.Maps.{is_listed, is_source, items_in, keys_in, readers_at, sources_at}
use Rattle.salt_values.specs.Order.{id_cmp}
use Rattle.salt_values.specs.Id.{has_id}
use Rattle.salt_values.specs.Id.{is_same_id}
use Rattle.salt_values.specs.declared.id.Id.{Id}
use Rattle.std.proofs.Common.{ap, subst, sym, ◌∙◌}
use Rattle.std.proofs.lemmas.List.Folds.{list_any-append}
use Rattle.std.specs.BTreeMap.{BTreeMap, get, is_at}
use Rattle.std.specs.BTreeSet.{BTreeSet}
use Rattle.std.specs.Global.{Global}
use Rattle.std.specs.List.{filter, list_any}
use Rattle.std.specs.Ordering.{is_eq}
use Rattle.std.specs.Prelude.{Bool, List, None, Option, Some, Vec, [], cond, false, not, refl, true, ◌&&◌, ◌++◌, ◌||◌, ◌∷◌, ◌≡◌}

-- the names at each key of a map that changes at one
pub viewed : {V A : Type 0} (view : Option V → List A) (old new : BTreeMap Id V) (k : Id) (w : Option V) →
    ((q : Id) → get id_cmp new q ≡ cond (is_eq (id_cmp k q)) w (get id_cmp old q)) → (x : Id) →
    view (get id_cmp new x) ≡ cond (is_same_id x k) (view w) (view (get id_cmp old x))
viewed {V = V} {A = A} view old new k w u x = ap view (u x) ∙ (ap (λ t. view (cond t w (get id_cmp old x))) (same-at k x ∙ is_same_id-sym k x) ∙ by (is_same_id x k) (get id_cmp old x))
  where
    by : (t : Bool) (o : Option V) → view (cond t w o) ≡ cond t (view w) (view o)
    by true o = refl
    by false o = refl

and-end : (a : Bool) → (a && true) ≡ a
and-end true = refl
and-end false = refl

or-end : (a : Bool) → (a || false) ≡ a
or-end true = refl
or-end false = refl

-- a name is taken out of a set
pub taken-out : (name : Id) (old new : BTreeSet Id) → ((q : Id) → list_any (is_at (id_cmp q)) new.keys ≡ cond (is_eq (id_cmp name q)) false (list_any (is_at (id_cmp q)) old.keys)) → (q : Id) →
    has_id q new.keys ≡ (has_id q old.keys && not (is_same_id q name))
taken-out name old new u q = sym (has-key q new.keys) ∙ (u q ∙ (ap (λ t. cond t false (list_any (is_at (id_cmp q)) old.keys)) (same-at name q ∙ is_same_id-sym name q) ∙ (ap (λ b. cond (is_same_id q name) false b) (has-key q old.keys) ∙ by (is_same_id q name) (has_id q old.keys))))
  where
    by : (t b : Bool) → cond t false b ≡ (b && not t)
    by true true = refl
    by true false = refl
    by false b = sym (and-end b)

-- a name is put into a set
pub put-in : (name : Id) (old new : BTreeSet Id) → ((q : Id) → list_any (is_at (id_cmp q)) new.keys ≡ cond (is_eq (id_cmp name q)) true (list_any (is_at (id_cmp q)) old.keys)) → (q : Id) →
    has_id q new.keys ≡ (is_same_id name q || has_id q old.keys)
put-in name old new u q = sym (has-key q new.keys) ∙ (u q ∙ (ap (λ t. cond t true (list_any (is_at (id_cmp q)) old.keys)) (same-at name q) ∙ (ap (λ b. cond (is_same_id name q) true b) (has-key q old.keys) ∙ by (is_same_id name q) (has_id q old.keys))))
  where
    by : (t b : Bool) → cond t true b ≡ (t || b)
    by true b = refl
    by false b = refl

-- one source of one reader is struck
pub unlinked : (old new : BTreeMap Id (BTreeSet Id)) (s t : BTreeSet Id) (reader source : Id) → get id_cmp old reader ≡ Some s →
    ((q : Id) → get id_cmp new q ≡ cond (is_eq (id_cmp reader q)) (Some t) (get id_cmp old q)) →
    ((q : Id) → list_any (is_at (id_cmp q)) t.keys ≡ cond (is_eq (id_cmp source q)) false (list_any (is_at (id_cmp q)) s.keys)) → (x y : Id) →
    is_source new x y ≡ (is_source old x y && not (is_same_id x reader && is_same_id y source))
unlinked old new s t reader source there u out x y = ap (has_id y) (viewed keys_in old new reader (Some t) u x) ∙ by (is_same_id x reader) refl
  where
    by : (b : Bool) → is_same_id x reader ≡ b → has_id y (cond b t.keys (sources_at old x)) ≡ (is_source old x y && not (b && is_same_id y source))
    by false e = sym (and-end (is_source old x y))
    by true e = taken-out source s t out y ∙ ap (λ (l : List Id). has_id y l && not (is_same_id y source)) (sym (subst (λ z. sources_at old z ≡ s.keys) (sym (is_same_id-true x reader e)) (ap keys_in there)))

-- a reader is listed at a source, behind those that are listed there
pub listed-one : (old new : BTreeMap Id (Vec Id Global)) (names : Vec Id Global) (reader source : Id) → names.items ≡ readers_at old source ++ reader ∷ [] →
    ((q : Id) → get id_cmp new q ≡ cond (is_eq (id_cmp source q)) (Some names) (get id_cmp old q)) → (x y : Id) →
    is_listed new x y ≡ (is_listed old x y || (is_same_id x reader && is_same_id y source))
listed-one old new names reader source is u x y = ap (has_id x) (viewed items_in old new source (Some names) u y) ∙ by (is_same_id y source) refl
  where
    flip : (a b : Bool) → (a && b) ≡ (b && a)
    flip true true = refl
    flip true false = refl
    flip false true = refl
    flip false false = refl

    by : (b : Bool) → is_same_id y source ≡ b → has_id x (cond b names.items (readers_at old y)) ≡ (is_listed old x y || (is_same_id x reader && b))
    by false e = sym (ap (λ t. is_listed old x y || t) (flip (is_same_id x reader) false) ∙ or-end (is_listed old x y))
    by true e = ap (has_id x) is ∙ (list_any-append (is_same_id x) (readers_at old source) (reader ∷ [])
        ∙ (ap (λ t. has_id x (readers_at old source) || t) (or-end (is_same_id x reader) ∙ sym (and-end (is_same_id x reader)))
        ∙ ap (λ z. has_id x (readers_at old z) || (is_same_id x reader && true)) (sym (is_same_id-true y source e))))

pub listed-same : (old new : BTreeMap Id (Vec Id Global)) (names : Vec Id Global) (source : Id) → names.items ≡ readers_at old source →
    ((q : Id) → get id_cmp new q ≡ cond (is_eq (id_cmp source q)) (Some names) (get id_cmp old q)) → (x y : Id) → is_listed new x y ≡ is_listed old x y
listed-same old new names source is u x y = ap (has_id x) (viewed items_in old new source (Some names) u y) ∙ by (is_same_id y source) refl
  where
    by : (b : Bool) → is_same_id y source ≡ b → has_id x (cond b names.items (readers_at old y)) ≡ is_listed old x y
    by false e = refl
    by true e = ap (has_id x) (is ∙ ap (readers_at old) (sym (is_same_id-true y source e)))

or-move : (a b c : Bool) → ((a || b) || c) ≡ (a || (b || c))
or-move true b c = refl
or-move false b c = refl

and-both : (r a b : Bool) → ((r && a) || (r && b)) ≡ (r && (a || b))
and-both true a b = refl
and-both false a b = refl

-- the reader is listed at one more of the names
pub lists-next : (old mid new : BTreeMap Id (Vec Id Global)) (reader source : Id) (names : List Id) →
    ((x y : Id) → is_listed mid x y ≡ (is_listed old x y || (is_same_id x reader && has_id y names))) →
    ((x y : Id) → is_listed new x y ≡ (is_listed mid x y || (is_same_id x reader && is_same_id y source))) → (x y : Id) →
    is_listed new x y ≡ (is_listed old x y || (is_same_id x reader && has_id y (names ++ source ∷ [])))
lists-next old mid new reader source names so one x y = one x y ∙ (ap (λ b. b || (is_same_id x reader && is_same_id y source)) (so x y)
    ∙ (or-move (is_listed old x y) (is_same_id x reader && has_id y names) (is_same_id x reader && is_same_id y source)
    ∙ ap (λ b. is_listed old x y || b) (and-both (is_same_id x reader) (has_id y names) (is_same_id y source)
    ∙ ap (λ b. is_same_id x reader && b) (sym (list_any-append (is_same_id y) names (source ∷ []) ∙ ap (λ b. has_id y names || b) (or-end (is_same_id y source)))))))

pub lists-none : (old : BTreeMap Id (Vec Id Global)) (reader : Id) (x y : Id) → is_listed old x y ≡ (is_listed old x y || (is_same_id x reader && has_id y []))
lists-none old reader x y = sym (ap (λ b. is_listed old x y || b) (none (is_same_id x reader)) ∙ or-end (is_listed old x y))
  where
    none : (a : Bool) → (a && false) ≡ false
    none true = refl
    none false = refl

-- and stays listed where it was
pub lists-kept : (old new : BTreeMap Id (Vec Id Global)) (more : Id → Id → Bool) → ((x y : Id) → is_listed new x y ≡ (is_listed old x y || more x y)) → (x y : Id) →
    is_listed old x y ≡ true → is_listed new x y ≡ true
lists-kept old new more so x y h = so x y ∙ ap (λ b. b || more x y) h

and-not : (a b c : Bool) → ((a && not b) && not c) ≡ (a && not (b || c))
and-not true true c = refl
and-not true false c = refl
and-not false b c = refl

-- a source is struck of one more reader
pub unlinks-next : (old mid new : BTreeMap Id (BTreeSet Id)) (reader source : Id) (names : List Id) →
    ((x y : Id) → is_source mid x y ≡ (is_source old x y && not (has_id x names && is_same_id y source))) →
    ((x y : Id) → is_source new x y ≡ (is_source mid x y && not (is_same_id x reader && is_same_id y source))) → (x y : Id) →
    is_source new x y ≡ (is_source old x y && not (has_id x (names ++ reader ∷ []) && is_same_id y source))
unlinks-next old mid new reader source names so one x y = one x y ∙ (ap (λ b. b && not (is_same_id x reader && is_same_id y source)) (so x y)
    ∙ (and-not (is_source old x y) (has_id x names && is_same_id y source) (is_same_id x reader && is_same_id y source)
    ∙ ap (λ b. is_source old x y && not b) (right (has_id x names) (is_same_id x reader) (is_same_id y source)
    ∙ ap (λ b. b && is_same_id y source) (sym (list_any-append (is_same_id x) names (reader ∷ []) ∙ ap (λ b. has_id x names || b) (or-end (is_same_id x reader)))))))
  where
    right : (a b r : Bool) → ((a && r) || (b && r)) ≡ ((a || b) && r)
    right true true true = refl
    right true true false = refl
    right true false true = refl
    right true false false = refl
    right false b r = refl

pub unlinks-none : (old : BTreeMap Id (BTreeSet Id)) (source x y : Id) → is_source old x y ≡ (is_source old x y && not (has_id x [] && is_same_id y source))
unlinks-none old source x y = sym (and-end (is_source old x y))

-- a reader's sources become these
pub linked : (old new : BTreeMap Id (BTreeSet Id)) (made : BTreeSet Id) (reader : Id) (fresh : List Id) →
    ((y : Id) → has_id y made.keys ≡ (is_source old reader y || has_id y fresh)) →
    ((q : Id) → get id_cmp new q ≡ cond (is_eq (id_cmp reader q)) (Some made) (get id_cmp old q)) → (x y : Id) →
    is_source new x y ≡ (is_source old x y || (is_same_id x reader && has_id y fresh))
linked old new made reader fresh is u x y = ap (has_id y) (viewed keys_in old new reader (Some made) u x) ∙ by (is_same_id x reader) refl
  where
    by : (b : Bool) → is_same_id x reader ≡ b → has_id y (cond b made.keys (sources_at old x)) ≡ (is_source old x y || (b && has_id y fresh))
    by false e = sym (or-end (is_source old x y))
    by true e = is y ∙ ap (λ z. is_source old z y || has_id y fresh) (sym (is_same_id-true x reader e))

-- a reader has no sources
pub unread : (old new : BTreeMap Id (BTreeSet Id)) (reader : Id) → ((q : Id) → get id_cmp new q ≡ cond (is_eq (id_cmp reader q)) None (get id_cmp old q)) → (x y : Id) →
    is_source new x y ≡ (is_source old x y && not (is_same_id x reader))
unread old new reader u x y = ap (has_id y) (viewed keys_in old new reader None u x) ∙ by (is_same_id x reader)
  where
    by : (b : Bool) → has_id y (cond b [] (sources_at old x)) ≡ (is_source old x y && not b)
    by false = sym (and-end (is_source old x y))
    by true = sym (no (is_source old x y))
      where
        no : (a : Bool) → (a && false) ≡ false
        no true = refl
        no false = refl

pub unchanged : (old new : BTreeMap Id (Vec Id Global)) → new.entries ≡ old.entries → (x y : Id) → is_listed old x y ≡ true → is_listed new x y ≡ true
unchanged old new is x y h = rw is h

-- a program neither reads nor is read from
pub forgotten : (old mid new : BTreeMap Id (BTreeSet Id)) (readers : List Id) (name : Id) → ((x : Id) → is_source old x name ≡ true → has_id x readers ≡ true) →
    ((x y : Id) → is_source mid x y ≡ (is_source old x y && not (has_id x readers && is_same_id y name))) →
    ((x y : Id) → is_source new x y ≡ (is_source mid x y && not (is_same_id x name))) → (x y : Id) →
    is_source new x y ≡ (is_source old x y && not (is_same_id x name || is_same_id y name))
forgotten old mid new readers name all out none x y = none x y ∙ (ap (λ b. b && not (is_same_id x name)) (out x y) ∙ by (is_same_id y name) (is_source old x y) refl refl)
  where
    by : (b s : Bool) → is_same_id y name ≡ b → is_source old x y ≡ s → ((s && not (has_id x readers && b)) && not (is_same_id x name)) ≡ (s && not (is_same_id x name || b))
    by b false e h = refl
    by false true e h = at (has_id x readers) (is_same_id x name)
      where
        at : (r t : Bool) → (not (r && false) && not t) ≡ not (t || false)
        at true true = refl
        at true false = refl
        at false true = refl
        at false false = refl
    by true true e h = rw (all x (subst (λ z. is_source old x z ≡ true) (is_same_id-true y name e) h)) (at (is_same_id x name))
      where
        at : (t : Bool) → false ≡ not (t || true)
        at true = refl
        at false = refl

-- what is left is listed still
pub listed-left : (old new : BTreeMap Id (BTreeSet Id)) (before after : BTreeMap Id (Vec Id Global)) (name : Id) →
    ((x y : Id) → is_source old x y ≡ true → is_listed before x y ≡ true) →
    ((q : Id) → get id_cmp after q ≡ cond (is_eq (id_cmp name q)) None (get id_cmp before q)) →
    ((x y : Id) → is_source new x y ≡ (is_source old x y && not (is_same_id x name || is_same_id y name))) → (x y : Id) →
    is_source new x y ≡ true → is_listed after x y ≡ true
listed-left old new before after name listed u left x y h =
    let both = sym (left x y) ∙ h in
    ap (has_id x) (viewed items_in before after name None u y) ∙ (ap (λ b. has_id x (cond b [] (readers_at before y))) (other (is_same_id x name) (is_same_id y name) (and_right (is_source old x y) (not (is_same_id x name || is_same_id y name)) both))
    ∙ listed x y (and_left (is_source old x y) (not (is_same_id x name || is_same_id y name)) both))
  where
    other : (a b : Bool) → not (a || b) ≡ true → b ≡ false
    other true b h = cc
    other false true h = cc
    other false false h = refl

and-fewer : (a b : Bool) → (a && b) ≡ true → a ≡ true
and-fewer true b h = refl
and-fewer false b h = h

pub listed-fewer : (old new : BTreeMap Id (BTreeSet Id)) (readers : BTreeMap Id (Vec Id Global)) (reader : Id) →
    ((x y : Id) → is_source old x y ≡ true → is_listed readers x y ≡ true) → ((x y : Id) → is_source new x y ≡ (is_source old x y && not (is_same_id x reader))) → (x y : Id) →
    is_source new x y ≡ true → is_listed readers x y ≡ true
listed-fewer old new readers reader listed left x y h = listed x y (and-fewer (is_source old x y) (not (is_same_id x reader)) (sym (left x y) ∙ h))

pub listed-more : (old new : BTreeMap Id (BTreeSet Id)) (before after : BTreeMap Id (Vec Id Global)) (reader : Id) (fresh : List Id) →
    ((x y : Id) → is_source old x y ≡ true → is_listed before x y ≡ true) →
    ((x y : Id) → is_listed after x y ≡ (is_listed before x y || (is_same_id x reader && has_id y fresh))) →
    ((x y : Id) → is_source new x y ≡ (is_source old x y || (is_same_id x reader && has_id y fresh))) → (x y : Id) →
    is_source new x y ≡ true → is_listed after x y ≡ true
listed-more old new before after reader fresh listed more linked x y h = more x y ∙ by (is_source old x y) refl (sym (linked x y) ∙ h)
  where
    by : (s : Bool) → is_source old x y ≡ s → (s || (is_same_id x reader && has_id y fresh)) ≡ true → (is_listed before x y || (is_same_id x reader && has_id y fresh)) ≡ true
    by true e g = ap (λ b. b || (is_same_id x reader && has_id y fresh)) (listed x y e)
    by false e g = or_right_true (is_listed before x y) (is_same_id x reader && has_id y fresh) g

-- one more program is forgotten
pub forgets-next : (old mid new : BTreeMap Id (BTreeSet Id)) (names : List Id) (name : Id) →
    ((x y : Id) → is_source mid x y ≡ (is_source old x y && not (has_id x names || has_id y names))) →
    ((x y : Id) → is_source new x y ≡ (is_source mid x y && not (is_same_id x name || is_same_id y name))) → (x y : Id) →
    is_source new x y ≡ (is_source old x y && not (has_id x (names ++ name ∷ []) || has_id y (names ++ name ∷ [])))
forgets-next old mid new names name so one x y = one x y ∙ (ap (λ b. b && not (is_same_id x name || is_same_id y name)) (so x y)
    ∙ (and-not (is_source old x y) (has_id x names || has_id y names) (is_same_id x name || is_same_id y name)
    ∙ ap (λ b. is_source old x y && not b) (four (has_id x names) (has_id y names) (is_same_id x name) (is_same_id y name)
    ∙ (ap (λ b. b || (has_id y names || is_same_id y name)) (last x) ∙ ap (λ b. has_id x (names ++ name ∷ []) || b) (last y)))))
  where
    last : (z : Id) → (has_id z names || is_same_id z name) ≡ has_id z (names ++ name ∷ [])
    last z = sym (list_any-append (is_same_id z) names (name ∷ []) ∙ ap (λ b. has_id z names || b) (or-end (is_same_id z name)))

    four : (a b c d : Bool) → ((a || b) || (c || d)) ≡ ((a || c) || (b || d))
    four true b c d = refl
    four false true true d = refl
    four false true false d = refl
    four false false true d = refl
    four false false false d = refl

pub forgets-none : (old : BTreeMap Id (BTreeSet Id)) (x y : Id) → is_source old x y ≡ (is_source old x y && not (has_id x [] || has_id y []))
forgets-none old x y = sym (and-end (is_source old x y))

-- of those that are listed, the ones that read
pub still-reading : (test : Id → Bool) (names : List Id) (x : Id) → (test x ≡ true → has_id x names ≡ true) → has_id x (filter test names) ≡ test x
still-reading test names x listed = by (test x) refl (has_id x (filter test names)) refl
  where
    by : (t : Bool) → test x ≡ t → (h : Bool) → has_id x (filter test names) ≡ h → h ≡ t
    by true e true g = refl
    by false e false g = refl
    by true e false g = let yes : has_id x (filter test names) ≡ true = in-has x (filter test names) (into-filter test x names (has-in x names (listed e)) e) in absurd cc
    by false e true g = let i = in-filter test x names (has-in x (filter test names) g) in let yes : test x ≡ true = i.1 in absurd cc

-- one name more is taken out
pub takes-next : (q : Id) (names : List Id) (name : Id) (old mid new : List Id) → has_id q mid ≡ (has_id q old && not (has_id q names)) →
    has_id q new ≡ (has_id q mid && not (is_same_id q name)) → has_id q new ≡ (has_id q old && not (has_id q (names ++ name ∷ [])))
takes-next q names name old mid new so one = one ∙ (ap (λ b. b && not (is_same_id q name)) so ∙ (and-not (has_id q old) (has_id q names) (is_same_id q name)
    ∙ ap (λ b. has_id q old && not b) (sym (list_any-append (is_same_id q) names (name ∷ []) ∙ ap (λ b. has_id q names || b) (or-end (is_same_id q name))))))

pub takes-none : (q : Id) (old : List Id) → has_id q old ≡ (has_id q old && not (has_id q []))
takes-none q old = sym (and-end (has_id q old))

pub links-none : (r : Bool) (a : Bool) → r ≡ (r || (a && false))
links-none true a = refl
links-none false true = refl
links-none false false = refl

-- a program still reads from what it read from
pub sources-kept : (old new : BTreeMap Id (BTreeSet Id)) (more : Id → Id → Bool) → ((x y : Id) → is_source new x y ≡ (is_source old x y || more x y)) → (x y : Id) →
    is_source old x y ≡ true → is_source new x y ≡ true
sources-kept old new more so x y h = so x y ∙ ap (λ b. b || more x y) h
