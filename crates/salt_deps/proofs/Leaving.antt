-- Which of those that are looked at are left.
use Rattle.law_states.specs.KeptSources.{Through, itself, through}
use Rattle.law_states.specs.Members.{In}
use Rattle.law_story.proofs.Ids.{and_left, is_same_id-true}
use Rattle.law_story.proofs.Lists.{either, has-in, in-cases, in-filter, in-has, in-left, in-right, into-filter, not-true, or_cases, or_right_true}
use Rattle.salt_deps.specs.Due.{AreComers, AreHeld, AreSettled, IsHeld, IsSettled, SettledComeTo, reads_done}
use Rattle.salt_deps.specs.Group.{ReadsAmong}
use Rattle.salt_values.specs.Id.{has_id, is_same_id}
use Rattle.salt_values.specs.declared.id.Id.{Id}
use Rattle.std.proofs.Common.{ap, inl, inr, subst, sym, ◌∙◌}
use Rattle.std.specs.List.{filter, list_all}
use Rattle.std.specs.Prelude.{Bool, List, [], cond, false, not, refl, true, ◌&&◌, ◌++◌, ◌||◌, ◌∷◌, ◌≡◌, ◌⊎◌}

longer : (reads : Id → Id → Bool) (a b c : Id) → Through reads a b → Through reads b c → Through reads a c
longer reads a b c itself s = s
longer reads a b c (through {c = x} h r) s = through h (longer reads x b c r s)

both : (a b : Bool) → a ≡ true → b ≡ true → (a && b) ≡ true
both a b f g = rw (f, g) refl

-- one that comes to finished ones alone comes to each of them through finished ones
done-through : (reads : Id → Id → Bool) (finished : List Id) (x z : Id) → IsSettled reads finished x → Through reads x z → Through (reads_done reads finished) x z
done-through reads finished x z s itself = itself
done-through reads finished x z s (through {c = y} h r) =
    through (both (reads x y) (has_id x finished) h (s x itself)) (done-through reads finished y z (λ c t. s c (through h t)) r)

done-less : (reads : Id → Id → Bool) (finished : List Id) (x z : Id) → Through (reads_done reads finished) x z → Through reads x z
done-less reads finished x z itself = itself
done-less reads finished x z (through {c = y} h r) = through (and_left (reads x y) (has_id x finished) h) (done-less reads finished y z r)

by-test : (b : Bool) → (b ≡ false → ⊥) → b ≡ true
by-test true h = refl
by-test false h = absurd (h refl)

-- what comes to none that is held, of all that is looked at
pub are-settled : (reads : Id → Id → Bool) (finished starts found held struck : List Id) (base : Id) → In base starts → SettledComeTo reads finished starts →
    AreComers (reads_done reads finished) starts found → AreHeld reads finished (base ∷ found) found held → AreComers (reads_done reads finished) held struck →
    AreSettled reads finished (filter (λ b. not (has_id b struck)) found)
are-settled reads finished starts found held struck base here come comers are strikes b = (
  (λ i c r. let l = in-filter (λ b. not (has_id b struck)) b found i in let at = goes b c r l.0 (not-true (has_id b struck) l.1) in whole c at.0 at.1),
  (λ s. into-filter (λ b. not (has_id b struck)) b found (inside b s) (rw (unstruck b s) refl)),
)
  where
    step : Id → Id → Bool
    step = reads_done reads finished

    -- the program that has finished is looked at itself
    among : (y : Id) → has_id y (base ∷ found) ≡ true → In y found
    among y h = either (λ e. subst (λ z. In z found) (sym (is_same_id-true y base e)) ((comers base).1 (base, here, itself))) (λ e. has-in y found e) (or_cases (is_same_id y base) (has_id y found) h)

    inside : (x : Id) → IsSettled reads finished x → In x found
    inside x s = has-in x found (by-test (has_id x found)
        (λ out. come x s (λ z i r. let yes : has_id x found ≡ true = in-has x found ((comers x).1 (z, i, done-through reads finished x z s r)) in let no : has_id x found ≡ false = out in absurd cc)))

    clear : (x : Id) → IsSettled reads finished x → (h : Id) → Through reads x h → IsHeld reads finished (base ∷ found) h true → ⊥
    clear x s h r (inl out) = let yes : has_id h finished ≡ true = s h r in let no : has_id h finished ≡ false = out in absurd cc
    clear x s h r (inr out) =
        let yes : has_id out.0 (base ∷ found) ≡ true = or_right_true (is_same_id out.0 base) (has_id out.0 found) (in-has out.0 found (inside out.0 (λ c t. s c (longer reads x h c r (through out.1 t))))) in
        let no : has_id out.0 (base ∷ found) ≡ false = out.2 in
        absurd cc

    unstruck : (x : Id) → IsSettled reads finished x → has_id x struck ≡ false
    unstruck x s = by (has_id x struck) refl
      where
        by : (t : Bool) → has_id x struck ≡ t → t ≡ false
        by false e = refl
        by true e = let u = (strikes x).0 (has-in x struck e) in absurd (clear x s u.0 (done-less reads finished x u.0 u.2) ((are u.0).0 u.1).1)

    free : (x : Id) → In x found → has_id x struck ≡ false → IsHeld reads finished (base ∷ found) x true → ⊥
    free x i out h = let yes : has_id x struck ≡ true = in-has x struck ((strikes x).1 (x, (are x).1 (i, h), itself)) in let no : has_id x struck ≡ false = out in absurd cc

    whole : (x : Id) → In x found → has_id x struck ≡ false → has_id x finished ≡ true
    whole x i out = by-test (has_id x finished) (λ no. free x i out (inl no))

    goes : (x c : Id) → Through reads x c → In x found → has_id x struck ≡ false → In c found × (has_id c struck ≡ false)
    goes x c itself i out = (i, out)
    goes x c (through {c = y} h r) i out = goes y c r
        (among y (by-test (has_id y (base ∷ found)) (λ no. free x i out (inr (y, h, no)))))
        (by (has_id y struck) refl)
      where
        by : (t : Bool) → has_id y struck ≡ t → t ≡ false
        by false e = refl
        by true e =
            let u = (strikes y).0 (has-in y struck e) in
            let one : Through step x u.0 = through (both (reads x y) (has_id x finished) h (whole x i out)) u.2 in
            let yes : has_id x struck ≡ true = in-has x struck ((strikes x).1 (u.0, u.1, one)) in
            let no : has_id x struck ≡ false = out in
            absurd cc

pub held-none : (reads : Id → Id → Bool) (finished found : List Id) → AreHeld reads finished found [] []
held-none reads finished found b = ((λ i. absurd i), (λ h. h.0))

pub held-one : (reads : Id → Id → Bool) (finished found names held : List Id) (name : Id) → AreHeld reads finished found names held → IsHeld reads finished found name true →
    AreHeld reads finished found (names ++ name ∷ []) (held ++ name ∷ [])
held-one reads finished found names held name are is b = (
  (λ i. either (λ e. let u = (are b).0 e in (in-left b names (name ∷ []) u.0, u.1)) (λ e. at e) (in-cases b held (name ∷ []) i)),
  (λ h. either (λ e. in-left b held (name ∷ []) ((are b).1 (e, h.1))) (λ e. in-right b held (name ∷ []) e) (in-cases b names (name ∷ []) h.0)),
)
  where
    at : In b (name ∷ []) → In b (names ++ name ∷ []) × IsHeld reads finished found b true
    at (inl e) = (in-right b names (name ∷ []) (inl e), subst (λ z. IsHeld reads finished found z true) e is)
    at (inr e) = absurd e

pub held-other : (reads : Id → Id → Bool) (finished found names held : List Id) (name : Id) → AreHeld reads finished found names held → IsHeld reads finished found name false →
    AreHeld reads finished found (names ++ name ∷ []) held
held-other reads finished found names held name are is b = (
  (λ i. let u = (are b).0 i in (in-left b names (name ∷ []) u.0, u.1)),
  (λ h. either (λ e. (are b).1 (e, h.1)) (λ e. absurd (at e h.1)) (in-cases b names (name ∷ []) h.0)),
)
  where
    not-held : (x : Id) → IsHeld reads finished found x false → IsHeld reads finished found x true → ⊥
    not-held x f (inl out) = let yes : has_id x finished ≡ true = f.0 in absurd cc
    not-held x f (inr out) = let yes : has_id out.0 found ≡ true = f.1 out.0 out.1 in let no : has_id out.0 found ≡ false = out.2 in absurd cc

    at : In b (name ∷ []) → IsHeld reads finished found b true → ⊥
    at (inl e) h = not-held b (subst (λ z. IsHeld reads finished found z false) e is) h
    at (inr e) h = absurd e

pub some-out : (found names : List Id) → list_all (λ s. has_id s found) names ≡ false → (y : Id) × In y names × (has_id y found ≡ false)
some-out found [] h = absurd cc
some-out found (x ∷ xs) h = by (has_id x found) refl h (some-out found xs)
  where
    by : (t : Bool) → has_id x found ≡ t → (t && list_all (λ s. has_id s found) xs) ≡ false → (list_all (λ s. has_id s found) xs ≡ false → (y : Id) × In y xs × (has_id y found ≡ false)) →
        (y : Id) × In y (x ∷ xs) × (has_id y found ≡ false)
    by false e g more = (x, inl refl, e)
    by true e g more = let r = more g in (r.0, inr r.1, r.2)

-- a test of all sources
pub held-by-sources : (reads : Id → Id → Bool) (finished found : List Id) (b : Id) (whole : Bool) → has_id b finished ≡ true → ReadsAmong reads found b whole →
    IsHeld reads finished found b (not whole)
held-by-sources reads finished found b true done among = (done, among)
held-by-sources reads finished found b false done among = inr among

-- all finished programs are starts
pub all-come : (reads : Id → Id → Bool) (base : Id) (finished starts : List Id) → starts ≡ finished ++ base ∷ [] → SettledComeTo reads (base ∷ finished) starts
all-come reads base finished starts are b s apart = apart b (subst (In b) (sym are) (at (or_cases (is_same_id b base) (has_id b finished) (s b itself)))) itself
  where
    at : (is_same_id b base ≡ true) ⊎ (has_id b finished ≡ true) → In b (finished ++ base ∷ [])
    at (inl e) = in-right b finished (base ∷ []) (inl (sym (is_same_id-true b base e)))
    at (inr e) = in-left b finished (base ∷ []) (has-in b finished e)

pub last-in : (finished starts : List Id) (base : Id) → starts ≡ finished ++ base ∷ [] → In base starts
last-in finished starts base are = subst (In base) (sym are) (in-right base finished (base ∷ []) (inl refl))

-- none is settled where the one that all come to reads from one that is not finished
pub none-settled : (reads : Id → Id → Bool) (base : Id) (finished due : List Id) → due ≡ [] → SettledComeTo reads finished (base ∷ []) → ReadsAmong reads finished base false →
    AreSettled reads finished due
none-settled reads base finished due empty come some b = ((λ i. absurd (subst (In b) empty i)), (λ s. absurd (come b s (λ z i r. at s z i r))))
  where
    at : IsSettled reads finished b → (z : Id) → In z (base ∷ []) → Through reads b z → ⊥
    at s z (inl e) r =
        let one : Through reads base some.0 = through some.1 itself in
        let yes : has_id some.0 finished ≡ true = s some.0 (longer reads b base some.0 (subst (Through reads b) (sym e) r) one) in
        let no : has_id some.0 finished ≡ false = some.2 in
        absurd cc
    at s z (inr e) r = absurd e

-- those of a list that pass a test
pub of-those : (test : Id → Bool) (q : Id) (names : List Id) → has_id q (filter test names) ≡ (has_id q names && test q)
of-those test q [] = refl
of-those test q (x ∷ xs) = by (is_same_id q x) (test x) refl refl (of-those test q xs)
  where
    by : (s t : Bool) → is_same_id q x ≡ s → test x ≡ t → has_id q (filter test xs) ≡ (has_id q xs && test q) → has_id q (cond t (x ∷ filter test xs) (filter test xs)) ≡ ((s || has_id q xs) && test q)
    by true true e f more = ap (λ b. b || has_id q (filter test xs)) e ∙ sym (subst (λ z. test z ≡ true) (sym (is_same_id-true q x e)) f)
    by true false e f more = more ∙ (ap (λ b. has_id q xs && b) no ∙ (none (has_id q xs) ∙ sym no))
      where
        no : test q ≡ false
        no = subst (λ z. test z ≡ false) (sym (is_same_id-true q x e)) f

        none : (a : Bool) → (a && false) ≡ false
        none true = refl
        none false = refl
    by false true e f more = ap (λ b. b || has_id q (filter test xs)) e ∙ more
    by false false e f more = more
