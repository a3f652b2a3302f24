-- What is read is spelled so, and what is spelled so is read.
use Rattle.std.proofs.Common.{◌≡◌, ℕ, zero, suc, ◌<◌, ◌≤◌, Bool, true, false, cond, eqb, [], ◌∷◌, ◌++◌, length, Option, Some, None, refl, sym, ap}
use Rattle.std.proofs.Common.{subst, ◌∙◌, append_assoc, arith, length-append}
use Rattle.std.proofs.lemmas.Bool.{eq-eqb, eqb-true}
use Rattle.std.proofs.lemmas.List.{append-nil}
use Rattle.salt_ast.specs.Grammar.{Atom, Conjunction, Expression, Left, Nots, Once, Sum, Within, alone, colon, literal}
use Rattle.salt_ast.specs.Grammar.{is_not_null, is_null, minus_int, more, named, not, one, pair, paren, plain, plus_int}
use Rattle.salt_ast.specs.Operators.{operator, precedence}
use Rattle.salt_ast.specs.Trees.{negation, null_test, operation}
use Rattle.salt_ast.specs.declared.trees.Expr.{Expr}
use Rattle.salt_ast.specs.declared.trees.Op.{Op}
use Rattle.salt_parse.specs.Reading.{after, at_operator, either, is_same, next_operator, of_level}
use Rattle.salt_parse.proofs.Loop.{after_is}
use Rattle.salt_parse.proofs.Trees.{TreeReader, atom_of, colon_of, comparison_of, conjunction_of, expression_of, left_of, minus_of, negation_of}
use Rattle.salt_parse.proofs.Trees.{is_of, nots_of, null_test_of, once_of, paren_of, product_of, second_of, sum_of, tail_of, tested_of, within_of}
use Rattle.salt_ast.specs.Scanning.{◌>>=◌}
use Rattle.salt_ast.specs.Symbols.{Symbols, Symbol, int, key, name, sign, text}
use Rattle.salt_ast.specs.declared.keyword.Keyword.{Keyword}
use Rattle.salt_ast.specs.declared.keyword.Keyword.TheVariants as word
use Rattle.salt_ast.specs.declared.sign.Sign.TheVariants as mark

-- one step, by what the next token stands for
pub tail_step : (level : ℕ) (operand : TreeReader Expr) (n : ℕ) (l : Expr) (rest rest1 : Symbols) (o : Op) →
    next_operator level rest ≡ (Some o, rest1) →
    (length rest ≡ suc (length rest1)) × (tail_of level operand (suc n) l rest ≡ (operand rest1 >>= λ x. tail_of level operand n (operation o l x.0) x.1))
unfolding tail_of
tail_step level operand n l [] rest1 o h = absurd (cc (ap (λ (p : Option Op × Symbols). p.0) h))
tail_step level operand n l (t ∷ ts) rest1 o h = go (of_level level (operator t)) h
  where
    go : (q : Option Op) → at_operator {A = Option Op × Symbols} q (None, t ∷ ts) (λ o. (Some o, ts)) ≡ (Some o, rest1) →
        (suc (length ts) ≡ suc (length rest1)) ×
        (at_operator q (Some (l, t ∷ ts)) (λ o. operand ts >>= λ x. tail_of level operand n (operation o l x.0) x.1) ≡
        (operand rest1 >>= λ x. tail_of level operand n (operation o l x.0) x.1))
    go None e = absurd (cc (ap (λ (p : Option Op × Symbols). p.0) e))
    go (Some p) e =
        let same : ts ≡ rest1 = ap (λ (p : Option Op × Symbols). p.1) e in
        let the_op : p ≡ o = cc (ap (λ (p : Option Op × Symbols). p.0) e) in
        (ap (λ (x : Symbols). suc (length x)) same, rw (the_op, same) refl)

pub tail_stop : (level : ℕ) (operand : TreeReader Expr) (n : ℕ) (l : Expr) (rest rest1 : Symbols) → next_operator level rest ≡ (None, rest1) →
    tail_of level operand (suc n) l rest ≡ Some (l, rest1)
unfolding tail_of
tail_stop level operand n l [] rest1 h = ap (λ (p : Option Op × Symbols). Some (l, p.1)) h
tail_stop level operand n l (t ∷ ts) rest1 h = go (of_level level (operator t)) h
  where
    go : (q : Option Op) → at_operator {A = Option Op × Symbols} q (None, t ∷ ts) (λ o. (Some o, ts)) ≡ (None, rest1) →
        at_operator q (Some (l, t ∷ ts)) (λ o. operand ts >>= λ x. tail_of level operand n (operation o l x.0) x.1) ≡ Some (l, rest1)
    go None e = ap (λ (p : Option Op × Symbols). Some (l, p.1)) e
    go (Some p) e = absurd (cc (ap (λ (p : Option Op × Symbols). p.0) e))

pub nots_stop : (operand : TreeReader Expr) (ts : Symbols) → after (key word.Not) ts ≡ None → nots_of operand ts ≡ operand ts
unfolding nots_of after
nots_stop operand [] h = refl
nots_stop operand (key word.Not ∷ ts) h = absurd cc
nots_stop operand _ h = refl

-- the value of a step that did not fail
pub bind_some : {A B : Type 0} (o : Option A) (f : A → Option B) (y : B) → (o >>= f) ≡ Some y → (x : A) × (o ≡ Some x) × (f x ≡ Some y)
bind_some None f y e = absurd cc
bind_some (Some x) f y e = (x, refl, e)

-- the same, for what follows from it
pub bind_is : {A B : Type 0} (o : Option A) (f : A → Option B) (y : B) (C : Type 0) → (o >>= f) ≡ Some y →
    ((x : A) → o ≡ Some x → f x ≡ Some y → C) → C
bind_is None f y C e k = absurd cc
bind_is (Some x) f y C e k = k x refl e

abbrev pub found : {A : Type 0} → A → Option A
found x = Some x

pub some_is : {A : Type 0} (x y : A) → found x ≡ found y → x ≡ y
some_is x y e = cc

-- which of two ways reading went
pub either_is : {A : Type 0} (o : Option Symbols) (a : Option A) (f : Symbols → Option A) (y : A) (B : Type 0) → either o a f ≡ Some y →
    (o ≡ None → a ≡ Some y → B) → ((us : Symbols) → o ≡ Some us → f us ≡ Some y → B) → B
either_is None a f y B h g k = g refl h
either_is (Some us) a f y B h g k = k us refl h

-- the same tree under another name
at_tree : (G : Symbols → Expr → Type 0) (front : Symbols) (x y : Expr × Symbols) → x ≡ y → G front x.0 → G front y.0
at_tree G front x y e g = subst (λ (z : Expr × Symbols). G front z.0) e g

-- what is read is spelled so
abbrev pub Sound : (Symbols → Expr → Type 0) → TreeReader Expr → Type 0
Sound G read = (ts : Symbols) (e : Expr) (rest : Symbols) → read ts ≡ Some (e, rest) → (front : Symbols) × (ts ≡ front ++ rest) × G front e

-- how tightly what a symbol begins binds to the operand before it, a test for NULL as tightly as a comparison, or 0
abbrev pub tightness : Option Op → Symbol → ℕ
tightness (Some o) t = precedence o
tightness None (key word.Is) = 3
tightness None t = 0

-- nothing that binds as tightly as this comes next
abbrev pub Stops : ℕ → Symbols → Type 0
Stops level [] = Unit {0}
Stops level (t ∷ ts) = tightness (operator t) t < level

-- what is spelled so is read
abbrev pub Complete : ℕ → (Symbols → Expr → Type 0) → TreeReader Expr → Type 0
Complete level G read = (ts rest : Symbols) (e : Expr) → G ts e → Stops level rest → read (ts ++ rest) ≡ Some (e, rest)

pub Stops-weaker : (k n : ℕ) (ts : Symbols) → k ≤ n → Stops k ts → Stops n ts
Stops-weaker k n [] le h = tt
Stops-weaker k n (t ∷ ts) le h = omega arith

-- a token of this level
of_level-at : (level : ℕ) (o : Op) → precedence o ≡ level → of_level level (Some o) ≡ Some o
of_level-at level o e = let b : eqb (precedence o) level ≡ true = eq-eqb (precedence o) level e in rw b refl

of_level-below : (level : ℕ) (q : Option Op) (t : Symbol) → tightness q t < level → of_level level q ≡ None
of_level-below level None t h = refl
of_level-below level (Some o) t h = go (eqb (precedence o) level) refl
  where
    go : (b : Bool) → eqb (precedence o) level ≡ b → cond b (Some o) None ≡ None
    go true e = let k : precedence o ≡ level = eqb-true (precedence o) level e in absurd (omega arith)
    go false e = refl

of_level-is : (level : ℕ) (q : Option Op) (o : Op) → of_level level q ≡ Some o → (q ≡ Some o) × (precedence o ≡ level)
of_level-is level None o h = absurd cc
of_level-is level (Some p) o h = go (eqb (precedence p) level) refl h
  where
    go : (b : Bool) → eqb (precedence p) level ≡ b → cond b (Some p) None ≡ Some o → (Some p ≡ Some o) × (precedence o ≡ level)
    go true e k = let same : p ≡ o = cc k in (k, rw (← same) (eqb-true (precedence p) level e))
    go false e k = absurd cc

next-at : (level : ℕ) (t : Symbol) (ts : Symbols) (o : Op) → operator t ≡ Some o → precedence o ≡ level → next_operator level (t ∷ ts) ≡ (Some o, ts)
next-at level t ts o e lv =
    let h : of_level level (operator t) ≡ Some o = ap (of_level level) e ∙ of_level-at level o lv in
    ap (λ (q : Option Op). at_operator {A = Option Op × Symbols} q (None, t ∷ ts) (λ o. (Some o, ts))) h

next-stops : (level : ℕ) (ts : Symbols) → Stops level ts → next_operator level ts ≡ (None, ts)
next-stops level [] h = refl
next-stops level (t ∷ ts) h = ap (λ (q : Option Op). at_operator {A = Option Op × Symbols} q (None, t ∷ ts) (λ o. (Some o, ts)))
    (of_level-below level (operator t) t h)

no_test : (t : Symbol) (ts : Symbols) → Stops 3 (t ∷ ts) → after (key word.Is) (t ∷ ts) ≡ None
unfolding after
no_test (key word.Is) ts h = absurd (omega arith)
no_test _ ts h = refl

second_stops : (read : TreeReader Expr) (l : Expr) (ts : Symbols) → Stops 3 ts → second_of 3 read l ts ≡ Some (l, ts)
second_stops read l [] h = refl
second_stops read l (t ∷ ts) h = rw (of_level-below 3 (operator t) t h, no_test t ts h) refl

-- ---- tests for NULL

module _ (level : ℕ) (G : Symbols → Expr → Type 0) (l e : Expr) (rest ts front : Symbols) where
  abbrev IsRead : Type 0
  IsRead = (whole : Symbols) × (ts ≡ whole ++ rest) × Once level G whole e

  alone_sound : (us : Symbols) → ts ≡ front ++ us → G front l → ◌≡◌ {A = Option (Expr × Symbols)} (Some (l, us)) (Some (e, rest)) → IsRead
  alone_sound us is g k =
      let p = some_is (l, us) (e, rest) k in
      (front, is ∙ ap (λ (x : Expr × Symbols). front ++ x.1) p, at_tree (Once level G) _ _ (e, rest) p (alone g))

  tested_sound : (negated : Bool) (mid us : Symbols) → ts ≡ front ++ (mid ++ us) → Once level G (front ++ (mid ++ key word.Null ∷ [])) (null_test negated l) →
      tested_of negated l us ≡ Some (e, rest) → IsRead
  tested_sound negated mid us is g k =
      let b = bind_some (after (key word.Null) us) (λ vs. Some (null_test negated l, vs)) (e, rest) k in
      let p = some_is (null_test negated l, b.0) (e, rest) b.2 in
      let last : Symbols = key word.Null ∷ [] in
      let read : us ≡ key word.Null ∷ rest = after_is (key word.Null) us b.0 b.1 ∙ ap (λ (x : Expr × Symbols). key word.Null ∷ x.1) p in
      let regroup : front ++ (mid ++ key word.Null ∷ rest) ≡ (front ++ (mid ++ last)) ++ rest = ap (λ (x : Symbols). front ++ x)
      (sym (append_assoc mid last rest)) ∙ sym (append_assoc front (mid ++ last) rest) in
      (front ++ (mid ++ last), is ∙ ap (λ (x : Symbols). front ++ (mid ++ x)) read ∙ regroup, at_tree (Once level G) _ _ (e, rest) p g)

  null_test_sound : (us : Symbols) → ts ≡ front ++ us → G front l → null_test_of l us ≡ Some (e, rest) → IsRead
  null_test_sound us is g k =
      either_is (after (key word.Is) us) (Some (l, us)) (is_of l) (e, rest) IsRead k
      (λ none j. alone_sound us is g j)
      (λ vs some j.
      let tested : ts ≡ front ++ key word.Is ∷ vs = is ∙ ap (λ (x : Symbols). front ++ x) (after_is (key word.Is) us vs some) in
      either_is (after (key word.Not) vs) (tested_of false l vs) (tested_of true l) (e, rest) IsRead j
      (λ none m. tested_sound false (key word.Is ∷ []) vs tested (is_null g) m)
      (λ ws any m. tested_sound true (key word.Is ∷ key word.Not ∷ []) ws
      (tested ∙ ap (λ (x : Symbols). front ++ key word.Is ∷ x) (after_is (key word.Not) vs ws any)) (is_not_null g) m))

-- ---- operands grouped to the left

module _ (level : ℕ) (G : Symbols → Expr → Type 0) (read : TreeReader Expr) (sound : Sound G read) where
  shrinks : (ts : Symbols) (e : Expr) (rest : Symbols) → read ts ≡ Some (e, rest) → length rest ≤ length ts
  shrinks ts e rest h =
      let s = sound ts e rest h in
      omega (arith, length-append s.0 rest, ap length s.1)

  -- more fuel than tokens is enough
  tail_enough : (n m : ℕ) (l : Expr) (ts : Symbols) → length ts < n → length ts < m → tail_of level read n l ts ≡ tail_of level read m l ts
  unfolding tail_of
  tail_enough zero m l ts a b = absurd (omega arith)
  tail_enough (suc n) zero l ts a b = absurd (omega arith)
  tail_enough (suc n) (suc m) l [] a b = refl
  tail_enough (suc n) (suc m) l (t ∷ ts) a b = go (of_level level (operator t)) (read ts) refl (λ l' ts' p q. tail_enough n m l' ts' p q)
    where
      go : (q : Option Op) (r : Option (Expr × Symbols)) → read ts ≡ r →
          ((l' : Expr) (ts' : Symbols) → length ts' < n → length ts' < m → tail_of level read n l' ts' ≡ tail_of level read m l' ts') →
          at_operator q (Some (l, t ∷ ts)) (λ o. r >>= λ x. tail_of level read n (operation o l x.0) x.1) ≡ at_operator q (Some (l, t ∷ ts))
          (λ o. r >>= λ x. tail_of level read m (operation o l x.0) x.1)
      go None r e ih = refl
      go (Some o) None e ih = refl
      go (Some o) (Some x) e ih = let le = shrinks ts x.0 x.1 e in ih (operation o l x.0) x.1 (omega arith) (omega arith)

  left_continues : Complete (suc level) G read → {ts : Symbols} {e : Expr} (rest : Symbols) → Left level G ts e → Stops (suc level) rest →
      left_of level read (ts ++ rest) ≡ tail_of level read (suc (length rest)) e rest
  unfolding left_of
  left_continues c {ts} {e} rest (one g) st = rw (c ts rest e g st) refl
  left_continues c rest (more {a = a} {b = b} {o = o} {l = l} {r = r} d t eq lv g) st =
      let tail = b ++ rest in
      let regroup : (a ++ t ∷ b) ++ rest ≡ a ++ t ∷ tail = append_assoc a (t ∷ b) rest in
      let stops : Stops (suc level) (t ∷ tail) = rw (eq, lv) (omega arith) in
      let ih = left_continues c (t ∷ tail) d stops in
      let step = (tail_step level read (length (t ∷ tail)) l (t ∷ tail) tail o (next-at level t tail o eq lv)).1 in
      let operand : read tail ≡ Some (r, rest) = c b rest r g st in
      let long = length-append b rest in
      ap (left_of level read) regroup ∙ ih ∙ step
      ∙ rw operand (tail_enough (length (t ∷ tail)) (suc (length rest)) (operation o l r) rest (omega (arith, long)) (omega arith))

  pub left_complete : Complete (suc level) G read → Complete level (Left level G) (left_of level read)
  left_complete c ts rest e d st =
      left_continues c rest d (Stops-weaker level (suc level) rest (omega arith) st) ∙ tail_stop level read (length rest) e rest rest (next-stops level rest st)

  tail_sound : (n : ℕ) (front : Symbols) (l : Expr) (ts : Symbols) (e : Expr) (rest : Symbols) → Left level G front l →
      tail_of level read n l ts ≡ Some (e, rest) → (more : Symbols) × (ts ≡ more ++ rest) × Left level G (front ++ more) e
  unfolding tail_of
  tail_sound zero front l ts e rest d h = absurd cc
  tail_sound (suc n) front l [] e rest d h =
      let p = some_is (l, []) (e, rest) h in
      let same : l ≡ e = ap (λ (x : Expr × Symbols). x.0) p in
      ([], ap (λ (x : Expr × Symbols). x.1) p, rw (append-nil front, ← same) d)
  tail_sound (suc n) front l (t ∷ ts) e rest d h = go (of_level level (operator t)) refl (λ front' l' ts' d' h'. tail_sound n front' l' ts' e rest d' h') h
    where
      go : (q : Option Op) → of_level level (operator t) ≡ q →
          ((front' : Symbols) (l' : Expr) (ts' : Symbols) → Left level G front' l' → tail_of level read n l' ts' ≡ Some (e, rest) →
          (more : Symbols) × (ts' ≡ more ++ rest) × Left level G (front' ++ more) e) →
          at_operator q (Some (l, t ∷ ts)) (λ o. read ts >>= λ x. tail_of level read n (operation o l x.0) x.1) ≡ Some (e, rest) →
          (more : Symbols) × (t ∷ ts ≡ more ++ rest) × Left level G (front ++ more) e
      go None k ih h =
          let p = some_is (l, t ∷ ts) (e, rest) h in
          let same : l ≡ e = ap (λ (x : Expr × Symbols). x.0) p in
          ([], ap (λ (x : Expr × Symbols). x.1) p, rw (append-nil front, ← same) d)
      go (Some o) k ih h =
          let is = of_level-is level (operator t) o k in
          let b = bind_some (read ts) (λ x. tail_of level read n (operation o l x.0) x.1) (e, rest) h in
          let s = sound ts b.0.0 b.0.1 b.1 in
          let r = ih (front ++ t ∷ s.0) (operation o l b.0.0) b.0.1 (more d t is.0 is.1 s.2) b.2 in (
            t ∷ (s.0 ++ r.0),
            ap (λ (x : Symbols). t ∷ x) (s.1 ∙ ap (λ (x : Symbols). s.0 ++ x) r.1 ∙ sym (append_assoc s.0 r.0 rest)),
            rw (← append_assoc front (t ∷ s.0) r.0) r.2,
          )

  pub left_sound : Sound (Left level G) (left_of level read)
  unfolding left_of
  left_sound ts e rest h =
      let b = bind_some (read ts) (λ x. tail_of level read (suc (length x.1)) x.0 x.1) (e, rest) h in
      let s = sound ts b.0.0 b.0.1 b.1 in
      let r = tail_sound (suc (length b.0.1)) s.0 b.0.0 b.0.1 e rest (one s.2) b.2 in
      (s.0 ++ r.0, s.1 ∙ ap (λ (x : Symbols). s.0 ++ x) r.1 ∙ sym (append_assoc s.0 r.0 rest), r.2)

  -- ---- at most one operation

  pub once_sound : Sound (Once level G) (once_of level read)
  unfolding once_of
  once_sound ts e rest h = finish b.0.1 s.0 s.1 s.2 b.2
    where
      b : (x : Expr × Symbols) × (read ts ≡ Some x) × (second_of level read x.0 x.1 ≡ Some (e, rest))
      b = bind_some (read ts) (λ x. second_of level read x.0 x.1) (e, rest) h

      s : (front : Symbols) × (ts ≡ front ++ b.0.1) × G front b.0.0
      s = sound ts b.0.0 b.0.1 b.1

      finish : (us : Symbols) (front : Symbols) → ts ≡ front ++ us → G front b.0.0 → second_of level read b.0.0 us ≡ Some (e, rest) →
          (whole : Symbols) × (ts ≡ whole ++ rest) × Once level G whole e
      finish [] front is g k = alone_sound level G b.0.0 e rest ts front [] is g k
      finish (t ∷ us) front is g k = go (of_level level (operator t)) refl k
        where
          go : (q : Option Op) → of_level level (operator t) ≡ q →
              at_operator {A = Option (Expr × Symbols)} q (null_test_of b.0.0 (t ∷ us)) (λ o. read us >>= λ x. Some (operation o b.0.0 x.0, x.1)) ≡ Some
              (e, rest) → (whole : Symbols) × (ts ≡ whole ++ rest) × Once level G whole e
          go None j k = null_test_sound level G b.0.0 e rest ts front (t ∷ us) is g k
          go (Some o) j k =
              let op = of_level-is level (operator t) o j in
              let b2 = bind_some (read us) (λ x. Some (operation o b.0.0 x.0, x.1)) (e, rest) k in
              let s2 = sound us b2.0.0 b2.0.1 b2.1 in
              let p = some_is (operation o b.0.0 b2.0.0, b2.0.1) (e, rest) b2.2 in
              let parts : ts ≡ (front ++ t ∷ s2.0) ++ rest = is
              ∙ ap (λ (x : Symbols). front ++ t ∷ x) (s2.1 ∙ ap (λ (x : Expr × Symbols). s2.0 ++ x.1) p) ∙ sym (append_assoc front (t ∷ s2.0) rest) in
              (front ++ t ∷ s2.0, parts, at_tree (Once level G) _ _ (e, rest) p (pair g t op.0 op.1 s2.2))

-- a test for NULL binds as tightly as a comparison
module _ (G : Symbols → Expr → Type 0) (read : TreeReader Expr) where
  pub once_complete : Complete 4 G read → Complete 3 (Once 3 G) (once_of 3 read)
  unfolding once_of after
  once_complete c ts rest e (alone g) st = rw (c ts rest e g (Stops-weaker 3 4 rest (omega arith) st)) (second_stops read e rest st)
  once_complete c _ rest _ (is_null {ts = ts} {e = e} g) st =
      let behind : Symbols = key word.Is ∷ key word.Null ∷ rest in
      let first : read ((ts ++ key word.Is ∷ key word.Null ∷ []) ++ rest) ≡ Some (e, behind) = ap read
      (append_assoc ts (key word.Is ∷ key word.Null ∷ []) rest) ∙ c ts behind e g (omega arith) in
      rw first refl
  once_complete c _ rest _ (is_not_null {ts = ts} {e = e} g) st =
      let behind : Symbols = key word.Is ∷ key word.Not ∷ key word.Null ∷ rest in
      let first : read ((ts ++ key word.Is ∷ key word.Not ∷ key word.Null ∷ []) ++ rest) ≡ Some (e, behind) = ap read
      (append_assoc ts (key word.Is ∷ key word.Not ∷ key word.Null ∷ []) rest) ∙ c ts behind e g (omega arith) in
      rw first refl
  once_complete c _ rest _ (pair {a = a} {b = b} {o = o} {l = l} {r = r} g t eq lv g2) st =
      let tail = b ++ rest in
      let stops : Stops 4 (t ∷ tail) = rw (eq, lv) (omega arith) in
      let first : read ((a ++ t ∷ b) ++ rest) ≡ Some (l, t ∷ tail) = ap read (append_assoc a (t ∷ b) rest) ∙ c a (t ∷ tail) l g stops in
      let second : read tail ≡ Some (r, rest) = c b rest r g2 (Stops-weaker 3 4 rest (omega arith) st) in
      let at : of_level 3 (operator t) ≡ Some o = ap (of_level 3) eq ∙ of_level-at 3 o lv in
      rw (first, at, second) refl

-- ---- rows of `not`

module _ (G : Symbols → Expr → Type 0) (read : TreeReader Expr) where
  pub nots_sound : Sound G read → Sound (Nots G) (nots_of read)
  unfolding nots_of
  nots_sound s (key word.Not ∷ ts) e rest h =
      let b = bind_some (nots_of read ts) (λ x. Some (negation x.0, x.1)) (e, rest) h in
      let r = nots_sound s ts b.0.0 b.0.1 b.1 in
      let p = some_is (negation b.0.0, b.0.1) (e, rest) b.2 in
      (key word.Not ∷ r.0, ap (λ (x : Symbols). key word.Not ∷ x) (r.1 ∙ ap (λ (x : Expr × Symbols). r.0 ++ x.1) p), at_tree (Nots G) _ _ (e, rest) p (not r.2))
  nots_sound s ts e rest h = let r = s ts e rest h in (r.0, r.1, plain r.2)

  -- no `not` begins an operand
  pub nots_complete : (level : ℕ) → ((ts rest : Symbols) (e : Expr) → G ts e → nots_of read (ts ++ rest) ≡ read (ts ++ rest)) →
      Complete level G read → Complete level (Nots G) (nots_of read)
  unfolding nots_of
  nots_complete level other c ts rest e (plain g) st = other ts rest e g ∙ c ts rest e g st
  nots_complete level other c _ rest _ (not {ts = ts} {e = e} d) st = rw (nots_complete level other c ts rest e d st) refl

-- ---- atoms

module _ (Inner : Symbols → Expr → Type 0) (read : TreeReader Expr) where
  paren_sound : Sound Inner read → (ts : Symbols) (e : Expr) (rest : Symbols) → paren_of read ts ≡ Some (e, rest) →
      (front : Symbols) × (sign mark.Open ∷ ts ≡ front ++ rest) × Atom Inner front e
  paren_sound s ts e rest h =
      let b = bind_some (read ts) (λ x. after (sign mark.Close) x.1 >>= λ us. Some (x.0, us)) (e, rest) h in
      let r = s ts b.0.0 b.0.1 b.1 in
      let k = bind_some (after (sign mark.Close) b.0.1) (λ us. Some (b.0.0, us)) (e, rest) b.2 in
      let p = some_is (b.0.0, k.0) (e, rest) k.2 in
      let is : b.0.1 ≡ sign mark.Close ∷ rest = after_is (sign mark.Close) b.0.1 k.0 k.1 ∙ ap (λ (x : Expr × Symbols). sign mark.Close ∷ x.1) p in (
        sign mark.Open ∷ (r.0 ++ sign mark.Close ∷ []),
        ap (λ (x : Symbols). sign mark.Open ∷ x) (r.1 ∙ ap (λ (x : Symbols). r.0 ++ x) is ∙ sym (append_assoc r.0 (sign mark.Close ∷ []) rest)),
        at_tree (Atom Inner) _ _ (e, rest) p (paren r.2),
      )

  minus_sound : (ts : Symbols) (e : Expr) (rest : Symbols) → minus_of ts ≡ Some (e, rest) →
      (front : Symbols) × (sign mark.Minus ∷ ts ≡ front ++ rest) × Atom Inner front e
  minus_sound (int n ∷ ts) e rest h =
      let p = some_is _ (e, rest) h in
      (sign mark.Minus ∷ int n ∷ [], ap (λ (x : Expr × Symbols). sign mark.Minus ∷ int n ∷ x.1) p, at_tree (Atom Inner) _ _ (e, rest) p minus_int)
  minus_sound _ e rest h = absurd cc

  variable_sound : (ts : Symbols) (e : Expr) (rest : Symbols) → colon_of ts ≡ Some (e, rest) →
      (front : Symbols) × (sign mark.Colon ∷ ts ≡ front ++ rest) × Atom Inner front e
  variable_sound (name n ∷ ts) e rest h =
      let p = some_is _ (e, rest) h in
      (sign mark.Colon ∷ name n ∷ [], ap (λ (x : Expr × Symbols). sign mark.Colon ∷ name n ∷ x.1) p, at_tree (Atom Inner) _ _ (e, rest) p colon)
  variable_sound _ e rest h = absurd cc

  pub atom_sound : Sound Inner read → Sound (Atom Inner) (atom_of read)
  unfolding atom_of
  atom_sound s (int n ∷ ts) e rest h =
      let p = some_is _ (e, rest) h in
      (int n ∷ [], ap (λ (x : Expr × Symbols). int n ∷ x.1) p, at_tree (Atom Inner) _ _ (e, rest) p plus_int)
  atom_sound s (text t ∷ ts) e rest h =
      let p = some_is _ (e, rest) h in
      (text t ∷ [], ap (λ (x : Expr × Symbols). text t ∷ x.1) p, at_tree (Atom Inner) _ _ (e, rest) p literal)
  atom_sound s (name n ∷ ts) e rest h =
      let p = some_is _ (e, rest) h in
      (name n ∷ [], ap (λ (x : Expr × Symbols). name n ∷ x.1) p, at_tree (Atom Inner) _ _ (e, rest) p named)
  atom_sound s (sign mark.Minus ∷ ts) e rest h = minus_sound ts e rest h
  atom_sound s (sign mark.Colon ∷ ts) e rest h = variable_sound ts e rest h
  atom_sound s (sign mark.Open ∷ ts) e rest h = paren_sound s ts e rest h
  atom_sound s _ e rest h = absurd cc

  pub atom_complete : (level : ℕ) → Complete 1 Inner read → Complete level (Atom Inner) (atom_of read)
  unfolding atom_of after
  atom_complete level c _ rest _ plus_int st = refl
  atom_complete level c _ rest _ minus_int st = refl
  atom_complete level c _ rest _ literal st = refl
  atom_complete level c _ rest _ named st = refl
  atom_complete level c _ rest _ colon st = refl
  atom_complete level c _ rest _ (paren {ts = ts} {e = e} d) st =
      let stops : Stops 1 (sign mark.Close ∷ rest) = omega arith in
      let inside : read ((ts ++ sign mark.Close ∷ []) ++ rest) ≡ Some (e, sign mark.Close ∷ rest) = ap read
      (append_assoc ts (sign mark.Close ∷ []) rest) ∙ c ts (sign mark.Close ∷ rest) e d stops in
      rw inside refl

-- ---- the keywords that no operand begins with

abbrev pub Begins : Keyword → Symbols → Type 0
Begins k [] = ⊥
Begins k (t ∷ ts) = is_same t (key k) ≡ false

pub Begins-append : (k : Keyword) (a b : Symbols) → Begins k a → Begins k (a ++ b)
Begins-append k [] b h = absurd h
Begins-append k (t ∷ ts) b h = h

pub Begins-after : (k : Keyword) (ts : Symbols) → Begins k ts → after (key k) ts ≡ None
unfolding after
Begins-after k [] h = absurd h
Begins-after k (t ∷ ts) h = rw h refl

Begins-nots : (read : TreeReader Expr) (ts : Symbols) → Begins word.Not ts → nots_of read ts ≡ read ts
Begins-nots read ts h = nots_stop read ts (Begins-after word.Not ts h)

atom_begins : (k : Keyword) {Inner : Symbols → Expr → Type 0} {ts : Symbols} {e : Expr} → Atom Inner ts e → Begins k ts
atom_begins k plus_int = refl
atom_begins k minus_int = refl
atom_begins k literal = refl
atom_begins k named = refl
atom_begins k colon = refl
atom_begins k (paren d) = refl

left_begins : (k : Keyword) (level : ℕ) (G : Symbols → Expr → Type 0) → ((ts : Symbols) (e : Expr) → G ts e → Begins k ts) →
    {ts : Symbols} {e : Expr} → Left level G ts e → Begins k ts
left_begins k level G b {ts} {e} (one g) = b ts e g
left_begins k level G b (more {a = a} {b = rest} d t eq lv g) = Begins-append k a (t ∷ rest) (left_begins k level G b d)

once_begins : (k : Keyword) (level : ℕ) (G : Symbols → Expr → Type 0) → ((ts : Symbols) (e : Expr) → G ts e → Begins k ts) →
    {ts : Symbols} {e : Expr} → Once level G ts e → Begins k ts
once_begins k level G b {ts} {e} (alone g) = b ts e g
once_begins k level G b (pair {a = a} {b = rest} {l = l} g t eq lv g2) = Begins-append k a (t ∷ rest) (b a l g)
once_begins k level G b (is_null {ts = ts} {e = e} g) = Begins-append k ts (key word.Is ∷ key word.Null ∷ []) (b ts e g)
once_begins k level G b (is_not_null {ts = ts} {e = e} g) = Begins-append k ts (key word.Is ∷ key word.Not ∷ key word.Null ∷ []) (b ts e g)

nots_begins : (k : Keyword) (G : Symbols → Expr → Type 0) → is_same (key word.Not) (key k) ≡ false →
    ((ts : Symbols) (e : Expr) → G ts e → Begins k ts) → {ts : Symbols} {e : Expr} → Nots G ts e → Begins k ts
nots_begins k G n b {ts} {e} (plain g) = b ts e g
nots_begins k G n b (not d) = n

comparison_begins : (k : Keyword) (Inner : Symbols → Expr → Type 0) (ts : Symbols) (e : Expr) → Once 3 (Sum Inner) ts e → Begins k ts
comparison_begins k Inner ts e d = once_begins k 3 (Sum Inner)
    (λ ts e d. left_begins k 4 (Left 5 (Atom Inner)) (λ ts e d. left_begins k 5 (Atom Inner) (λ ts e d. atom_begins k d) d) d) d

pub expression_begins : (k : Keyword) → is_same (key word.Not) (key k) ≡ false → (Inner : Symbols → Expr → Type 0) (ts : Symbols) (e : Expr) →
    Expression Inner ts e → Begins k ts
expression_begins k n Inner ts e d = left_begins k 1 (Conjunction Inner)
    (λ ts e d. left_begins k 2 (Nots (Once 3 (Sum Inner))) (λ ts e d. nots_begins k (Once 3 (Sum Inner)) n (comparison_begins k Inner) d) d) d

-- ---- the levels together

module _ (Inner : Symbols → Expr → Type 0) (read : TreeReader Expr) (s : Sound Inner read) where
  product_sound : Sound (Left 5 (Atom Inner)) (product_of read)
  product_sound = left_sound 5 (Atom Inner) (atom_of read) (atom_sound Inner read s)

  pub sum_sound : Sound (Sum Inner) (sum_of read)
  sum_sound = left_sound 4 (Left 5 (Atom Inner)) (product_of read) product_sound

  comparison_sound : Sound (Once 3 (Sum Inner)) (comparison_of read)
  comparison_sound = once_sound 3 (Sum Inner) (sum_of read) sum_sound

  negation_sound : Sound (Nots (Once 3 (Sum Inner))) (negation_of read)
  negation_sound = nots_sound (Once 3 (Sum Inner)) (comparison_of read) comparison_sound

  pub conjunction_sound : Sound (Conjunction Inner) (conjunction_of read)
  conjunction_sound = left_sound 2 (Nots (Once 3 (Sum Inner))) (negation_of read) negation_sound

  pub expression_sound : Sound (Expression Inner) (expression_of read)
  expression_sound = left_sound 1 (Conjunction Inner) (conjunction_of read) conjunction_sound

  module _ (c : Complete 1 Inner read) where
    product_complete : Complete 5 (Left 5 (Atom Inner)) (product_of read)
    product_complete = left_complete 5 (Atom Inner) (atom_of read) (atom_sound Inner read s) (atom_complete Inner read 6 c)

    pub sum_complete : Complete 4 (Sum Inner) (sum_of read)
    sum_complete = left_complete 4 (Left 5 (Atom Inner)) (product_of read) product_sound product_complete

    comparison_complete : Complete 3 (Once 3 (Sum Inner)) (comparison_of read)
    comparison_complete = once_complete (Sum Inner) (sum_of read) sum_complete

    negation_complete : Complete 3 (Nots (Once 3 (Sum Inner))) (negation_of read)
    negation_complete = nots_complete (Once 3 (Sum Inner)) (comparison_of read) 3
        (λ ts rest e d. Begins-nots (comparison_of read) (ts ++ rest) (Begins-append word.Not ts rest (comparison_begins word.Not Inner ts e d)))
        comparison_complete

    pub conjunction_complete : Complete 2 (Conjunction Inner) (conjunction_of read)
    conjunction_complete = left_complete 2 (Nots (Once 3 (Sum Inner))) (negation_of read) negation_sound negation_complete

    pub expression_complete : Complete 1 (Expression Inner) (expression_of read)
    expression_complete = left_complete 1 (Conjunction Inner) (conjunction_of read) conjunction_sound conjunction_complete

pub within_sound : (depth : ℕ) → Sound (Within depth) (within_of depth)
unfolding Within within_of
within_sound zero ts e rest h = absurd cc
within_sound (suc depth) ts e rest h = expression_sound (Within depth) (within_of depth) (within_sound depth) ts e rest h

pub within_complete : (depth : ℕ) → Complete 1 (Within depth) (within_of depth)
unfolding Within within_of
within_complete zero ts rest e d st = absurd d
within_complete (suc depth) ts rest e d st = expression_complete (Within depth) (within_of depth) (within_sound depth) (within_complete depth) ts rest e d st
