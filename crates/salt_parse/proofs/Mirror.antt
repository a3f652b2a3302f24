-- Reading with what is passed finds the trees that reading alone finds, notes what they pass, and builds them while nothing is passed.
use Rattle.std.proofs.Common.{◌≡◌, ℕ, suc, zero, ◌+◌, ◌-◌, ◌^◌, max, min, pos, Bool, true, false, cond, not, ◌&&◌, ◌||◌, ltb, leb, List, [], ◌∷◌}
use Rattle.std.proofs.Common.{length, Option, Some, None, refl, sym, ap, subst, ◌∙◌, arith}
use Rattle.std.proofs.lemmas.Bool.Decides.{nat_tests}
use Rattle.std.specs.List.{list_all}
use Rattle.std.specs.Prelude.{is_none, neg_ℤ, ℤ}
use Rattle.salt_ast.specs.Limits.{expr_passed, height, is_high, name_passed}
use Rattle.salt_ast.specs.Operators.{operator}
use Rattle.salt_ast.specs.Trees.{letters, negation, null_test, number, operation}
use Rattle.std.specs.Bool.{then_some}
use Rattle.std.specs.Option.{option_or}
use Rattle.salt_ast.specs.declared.limit.LimitName.{LimitName}
use Rattle.salt_ast.specs.declared.limit.LimitName.TheVariants as limit
use Rattle.salt_ast.specs.declared.trees.Expr.{Column, Expr, Variable}
use Rattle.salt_ast.specs.declared.trees.Op.{Op}
use Rattle.salt_parse.specs.Flags.{BuiltTree, Flags, around_flags, around_tree, clear, int_tree, join_flags, join_tree, kept, kept_name, note, signed}
use Rattle.salt_parse.specs.Flags.{stand_in, text_tree}
use Rattle.salt_parse.specs.Reading.{Read, Reader, after, at_operator, atom_at, colon_at, column_at, comparison_at, conjunction_at, either, expression_at}
use Rattle.salt_parse.specs.Reading.{int_at, is_at, is_same, left_at, minus_at, name_flags, named_at, negate, negation_at, nots_at, null_test_at, of_level, once_at}
use Rattle.salt_parse.specs.Reading.{paren_at, product_at, second_at, sum_at, tail_at, tested, text_at, text_flags, within_at}
use Rattle.salt_parse.specs.Settling.{ArePrintable}
use Rattle.salt_parse.proofs.Trees.{TreeReader, atom_of, colon_of, comparison_of, conjunction_of, expression_of, left_of, minus_of, negation_of}
use Rattle.salt_parse.proofs.Trees.{is_of, nots_of, null_test_of, once_of, paren_of, product_of, second_of, sum_of, tail_of, tested_of, within_of}
use Rattle.salt_ast.specs.Scanning.{◌>>=◌}
use Rattle.salt_ast.specs.Symbols.{Symbols, Symbol, int, key, name, sign, text}
use Rattle.salt_ast.specs.declared.keyword.Keyword.TheVariants as word
use Rattle.salt_ast.specs.declared.sign.Sign.TheVariants as mark
use Rattle.salt_values.specs.Text.{is_printable}

-- ---- flags

pub option_or_assoc : (a b c : Option LimitName) → option_or (option_or a b) c ≡ option_or a (option_or b c)
option_or_assoc None b c = refl
option_or_assoc (Some x) b c = refl

pub option_or_none : (a : Option LimitName) → option_or a None ≡ a
option_or_none None = refl
option_or_none (Some x) = refl

pub or_assoc : (a b c : Bool) → ((a || b) || c) ≡ (a || (b || c))
or_assoc true b c = refl
or_assoc false b c = refl

pub or_false : (a : Bool) → (a || false) ≡ a
or_false true = refl
or_false false = refl

pub note_note : (f : Flags) (p q : Option LimitName) (d e : Bool) → note (note f p d) q e ≡ note f (option_or p q) (d || e)
note_note f p q d e = λ i. record { over = option_or_assoc f.over p q i; deep = or_assoc f.deep d e i }

-- flags that are clear were clear before
pub clear_before : (f : Flags) (p : Option LimitName) (d : Bool) → clear (note f p d) ≡ true → clear f ≡ true
clear_before f p d h = go f.over f.deep h
  where
    go : (v : Option LimitName) (b : Bool) → (is_none (option_or v p) && not (b || d)) ≡ true → (is_none v && not b) ≡ true
    go None false h = refl
    go None true h = go2 (is_none p) h
      where
        go2 : (b : Bool) → (b && false) ≡ true → false ≡ true
        go2 true h = h
        go2 false h = h
    go (Some x) b h = h

-- what is passed by a clear note is nothing
pub clear_passes : (f : Flags) (p : Option LimitName) (d : Bool) → clear (note f p d) ≡ true → p ≡ None
clear_passes f None d h = refl
clear_passes f (Some x) d h = go f.over h
  where
    go : (v : Option LimitName) → (is_none (option_or v (Some x)) && not (f.deep || d)) ≡ true → Some x ≡ None
    go None h = absurd cc
    go (Some y) h = absurd cc

-- ---- what a tree passes

pub record Marks (A : Type 0) : Type 0 where
  pub passed : A → Option LimitName
  pub high : A → Bool

abbrev pub noted : {A : Type 0} → Marks A → Flags → A → Flags
noted m f a = note f (m.passed a) (m.high a)

abbrev pub expr_marks : Marks Expr
expr_marks = record { passed = expr_passed; high = is_high }

abbrev pub name_marks : Marks (List ℕ)
name_marks = record { passed = name_passed; high = λ n. false }

-- ---- what was read and built, beside what was found

-- what was built is what was found, while nothing is passed
abbrev pub AreKept : {A : Type 0} → Flags → A → A → Type 0
AreKept f x a = clear f ≡ true → x ≡ a

abbrev pub IsBuilt : Flags → BuiltTree → Expr → Type 0
IsBuilt f b e = (b.height ≡ min (height e) 65) × (clear f ≡ true → b.tree ≡ e)

pub record Agree {X A : Type 0} (m : Marks A) (Is : Flags → X → A → Type 0) (f : Flags) (x : Read X) (y : A × Symbols) : Type 0 where
  pub left : x.2 ≡ y.1
  pub flags : x.1 ≡ noted m f y.0
  pub is : Is x.1 x.0 y.0
  pub printable : ArePrintable y.1

abbrev pub Agrees : {X A : Type 0} → Marks A → (Flags → X → A → Type 0) → Flags → Option (Read X) → Option (A × Symbols) → Type 0
Agrees m Is f None None = Unit {0}
Agrees m Is f None (Some y) = ⊥
Agrees m Is f (Some x) None = ⊥
Agrees m Is f (Some x) (Some y) = Agree m Is f x y

pub agrees_bind : {X A Y B : Type 0} (m : Marks A) (Is : Flags → X → A → Type 0) (n : Marks B) (Js : Flags → Y → B → Type 0) (f g : Flags)
    (r : Option (Read X)) (q : Option (A × Symbols)) (k : Read X → Option (Read Y)) (k' : A × Symbols → Option (B × Symbols)) → Agrees m Is g r q →
    ((x : X) (a : A) (us : Symbols) → Is (noted m g a) x a → ArePrintable us → Agrees n Js f (k (x, noted m g a, us)) (k' (a, us))) →
    Agrees n Js f (r >>= k) (q >>= k')
agrees_bind m Is n Js f g None None k k' h c = tt
agrees_bind m Is n Js f g None (Some y) k k' h c = absurd h
agrees_bind m Is n Js f g (Some x) None k k' h c = absurd h
agrees_bind {X} {A} {Y} {B} m Is n Js f g (Some x) (Some y) k k' h c = go x.0 x.1 x.2 y.0 y.1 h.left h.flags h.is h.printable
  where
    go : (x : X) (e : Flags) (us : Symbols) (a : A) (vs : Symbols) → us ≡ vs → e ≡ noted m g a → Is e x a → ArePrintable vs →
        Agrees n Js f (k (x, e, us)) (k' (a, vs))
    go x e us a vs p q i pr = rw (p, q) (c x a vs (subst (λ (z : Flags). Is z x a) q i) pr)

-- the rest behind what comes next
pub after_printable : (t : Symbol) (ts us : Symbols) → ArePrintable ts → after t ts ≡ Some us → ArePrintable us
unfolding after
after_printable t [] us p h = absurd cc
after_printable t (u ∷ ts) us p h = go (is_same u t) h
  where
    go : (b : Bool) → cond b (Some ts) None ≡ Some us → ArePrintable us
    go true k = let same : ts ≡ us = cc k in subst ArePrintable same p.1
    go false k = absurd cc

pub agrees_after : {Y B : Type 0} (n : Marks B) (Js : Flags → Y → B → Type 0) (f : Flags) (o : Option Symbols) (k : Symbols → Option (Read Y))
    (k' : Symbols → Option (B × Symbols)) → ((us : Symbols) → o ≡ Some us → ArePrintable us) →
    ((us : Symbols) → ArePrintable us → Agrees n Js f (k us) (k' us)) → Agrees n Js f (o >>= k) (o >>= k')
agrees_after n Js f None k k' p c = tt
agrees_after n Js f (Some us) k k' p c = c us (p us refl)

pub agrees_either : {Y B : Type 0} (n : Marks B) (Js : Flags → Y → B → Type 0) (f : Flags) (o : Option Symbols) (a : Option (Read Y))
    (a' : Option (B × Symbols)) (k : Symbols → Option (Read Y)) (k' : Symbols → Option (B × Symbols)) →
    ((us : Symbols) → o ≡ Some us → ArePrintable us) → Agrees n Js f a a' → ((us : Symbols) → ArePrintable us → Agrees n Js f (k us) (k' us)) →
    Agrees n Js f (either o a k) (either o a' k')
agrees_either n Js f None a a' k k' p h c = h
agrees_either n Js f (Some us) a a' k k' p h c = c us (p us refl)

-- ---- nodes

deep_joins : (l r : ℕ) (d : Bool) → (((d || ltb 64 l) || ltb 64 r) || ltb 64 (suc (max (min l 65) (min r 65)))) ≡ (d || ltb 64 (suc (max l r)))
deep_joins l r d = grind (arith, nat_tests)

deep_negates : (h : ℕ) (d : Bool) → ((d || ltb 64 h) || ltb 64 (suc (min h 65))) ≡ (d || ltb 64 (suc h))
deep_negates h d = grind (arith, nat_tests)

capped : (l r : ℕ) → min (suc (max (min l 65) (min r 65))) 65 ≡ min (suc (max l r)) 65
capped l r = omega arith

capped_suc : (h : ℕ) → min (suc (min h 65)) 65 ≡ min (suc h) 65
capped_suc h = omega arith

module _ (f : Flags) (o : Op) (l r : Expr) (bl br : BuiltTree) (il : IsBuilt (noted expr_marks f l) bl l)
    (ir : IsBuilt (noted expr_marks (noted expr_marks f l) r) br r) where
  abbrev f1 : Flags
  f1 = noted expr_marks f l

  abbrev f2 : Flags
  f2 = noted expr_marks f1 r

  joined_deep : (f2.deep || ltb 64 (suc (max bl.height br.height))) ≡ (f.deep || ltb 64 (suc (max (height l) (height r))))
  joined_deep = (λ i. f2.deep || ltb 64 (suc (max (il.0 i) (ir.0 i)))) ∙ deep_joins (height l) (height r) f.deep

  pub joined_flags : join_flags bl br f2 ≡ noted expr_marks f (operation o l r)
  joined_flags = λ i. record { over = (option_or_none f2.over ∙ option_or_assoc f.over (expr_passed l) (expr_passed r)) i; deep = joined_deep i }

  joined_tree : (b : Bool) → clear (join_flags bl br f2) ≡ b → b ≡ true → cond b (operation o bl.tree br.tree) stand_in ≡ operation o l r
  joined_tree true e h =
      let c2 : clear f2 ≡ true = clear_before f2 None (ltb 64 (suc (max bl.height br.height))) e in
      let c1 : clear f1 ≡ true = clear_before f1 (expr_passed r) (is_high r) c2 in
      let tl : bl.tree ≡ l = il.1 c1 in
      let tr : br.tree ≡ r = ir.1 c2 in
      λ i. operation o (tl i) (tr i)
  joined_tree false e h = absurd cc

  joined_height : min (suc (max bl.height br.height)) 65 ≡ min (suc (max (height l) (height r))) 65
  joined_height = (λ i. min (suc (max (il.0 i) (ir.0 i))) 65) ∙ capped (height l) (height r)

  pub joined_is : IsBuilt (noted expr_marks f (operation o l r)) (join_tree o bl br f2) (operation o l r)
  joined_is = (joined_height, λ c. joined_tree (clear (join_flags bl br f2)) refl (ap clear joined_flags ∙ c))

-- an operation on one operand, which passes what the operand passes and is one higher
module _ (node : Expr → Expr) (f : Flags) (e : Expr) (b : BuiltTree) (is : IsBuilt (noted expr_marks f e) b e) where
  abbrev g1 : Flags
  g1 = noted expr_marks f e

  abbrev around_noted : Flags
  around_noted = note f (expr_passed e) (ltb 64 (suc (height e)))

  around_deep : (g1.deep || ltb 64 (suc b.height)) ≡ (f.deep || ltb 64 (suc (height e)))
  around_deep = (λ i. g1.deep || ltb 64 (suc (is.0 i))) ∙ deep_negates (height e) f.deep

  pub around_flags_are : around_flags b g1 ≡ around_noted
  around_flags_are = λ i. record { over = option_or_none g1.over i; deep = around_deep i }

  around_is : (t : Bool) → clear (around_flags b g1) ≡ t → t ≡ true → cond t (node b.tree) stand_in ≡ node e
  around_is true h k =
      let c1 : clear g1 ≡ true = clear_before g1 None (ltb 64 (suc b.height)) h in
      let te : b.tree ≡ e = is.1 c1 in
      λ i. node (te i)
  around_is false h k = absurd cc

  around_height : min (suc b.height) 65 ≡ min (suc (height e)) 65
  around_height = (λ i. min (suc (is.0 i)) 65) ∙ capped_suc (height e)

  pub around_built : ((around_tree node b g1).height ≡ min (suc (height e)) 65) × (clear around_noted ≡ true → (around_tree node b g1).tree ≡ node e)
  around_built = (around_height, λ c. around_is (clear (around_flags b g1)) refl (ap clear around_flags_are ∙ c))

-- ---- levels

abbrev pub AgreesAll : {X A : Type 0} → Marks A → (Flags → X → A → Type 0) → Reader X → TreeReader A → Type 0
AgreesAll m Is read find = (f : Flags) (ts : Symbols) → ArePrintable ts → Agrees m Is f (read f ts) (find ts)

abbrev pub Mirrors : Reader BuiltTree → TreeReader Expr → Type 0
Mirrors read find = AgreesAll expr_marks IsBuilt read find

one_built : (f : Flags) (b : BuiltTree) (e : Expr) (ts : Symbols) → IsBuilt (noted expr_marks f e) b e → ArePrintable ts →
    Agree expr_marks IsBuilt f (b, noted expr_marks f e, ts) (e, ts)
one_built f b e ts i p = record { left = refl; flags = refl; is = i; printable = p }

module _ (f : Flags) (b : BuiltTree) (l : Expr) (i : IsBuilt (noted expr_marks f l) b l) where
  abbrev f0 : Flags
  f0 = noted expr_marks f l

  tested_mirrors : (negated : Bool) (ts : Symbols) → ArePrintable ts → Agrees expr_marks IsBuilt f (tested negated b f0 ts) (tested_of negated l ts)
  tested_mirrors negated ts p =
      let same = around_flags_are (null_test negated) f l b i in
      agrees_after expr_marks IsBuilt f (after (key word.Null) ts) (λ us. Some (around_tree (null_test negated) b f0, around_flags b f0, us))
      (λ us. Some (null_test negated l, us)) (λ us e. after_printable (key word.Null) ts us p e)
      (λ us pu. record {
        left = refl;
        flags = same;
        is = subst (λ (z : Flags). IsBuilt z (around_tree (null_test negated) b f0) (null_test negated l)) (sym same)
            (around_built (null_test negated) f l b i);
        printable = pu;
      })

  null_test_mirrors : (ts : Symbols) → ArePrintable ts → Agrees expr_marks IsBuilt f (null_test_at b f0 ts) (null_test_of l ts)
  null_test_mirrors ts p =
      agrees_either expr_marks IsBuilt f (after (key word.Is) ts) (Some (b, f0, ts)) (Some (l, ts)) (is_at b f0) (is_of l)
      (λ us e. after_printable (key word.Is) ts us p e) (one_built f b l ts i p)
      (λ us pu.
      agrees_either expr_marks IsBuilt f (after (key word.Not) us) (tested false b f0 us) (tested_of false l us) (tested true b f0) (tested_of true l)
      (λ vs e. after_printable (key word.Not) us vs pu e) (tested_mirrors false us pu) (λ vs pv. tested_mirrors true vs pv))

module _ (level : ℕ) (read : Reader BuiltTree) (find : TreeReader Expr) (c : Mirrors read find) where
  tail_mirrors : (n : ℕ) (f : Flags) (b : BuiltTree) (l : Expr) (ts : Symbols) → IsBuilt (noted expr_marks f l) b l → ArePrintable ts →
      Agrees expr_marks IsBuilt f (tail_at level read n b (noted expr_marks f l) ts) (tail_of level find n l ts)
  unfolding tail_at tail_of
  tail_mirrors zero f b l ts i p = tt
  tail_mirrors (suc n) f b l [] i p = one_built f b l [] i p
  tail_mirrors (suc n) f b l (t ∷ ts) i p = go (of_level level (operator t)) (λ b' l' ts' i' p'. tail_mirrors n f b' l' ts' i' p')
    where
      g : Flags
      g = noted expr_marks f l

      go : (q : Option Op) → ((b' : BuiltTree) (l' : Expr) (ts' : Symbols) → IsBuilt (noted expr_marks f l') b' l' → ArePrintable ts' →
          Agrees expr_marks IsBuilt f (tail_at level read n b' (noted expr_marks f l') ts') (tail_of level find n l' ts')) →
          Agrees expr_marks IsBuilt f (at_operator {A = Option (Read BuiltTree)} q (Some (b, g, t ∷ ts))
          (λ o. read g ts >>= λ x. tail_at level read n (join_tree o b x.0 x.1) (join_flags b x.0 x.1) x.2))
          (at_operator {A = Option (Expr × Symbols)} q (Some (l, t ∷ ts)) (λ o. find ts >>= λ x. tail_of level find n (operation o l x.0) x.1))
      go None ih = one_built f b l (t ∷ ts) i p
      go (Some o) ih =
          agrees_bind expr_marks IsBuilt expr_marks IsBuilt f g (read g ts) (find ts)
          (λ x. tail_at level read n (join_tree o b x.0 x.1) (join_flags b x.0 x.1) x.2) (λ x. tail_of level find n (operation o l x.0) x.1) (c g ts p.1)
          (λ x a us ix pu. (let same = joined_flags f o l a b x i ix in rw same
          (ih (join_tree o b x (noted expr_marks g a)) (operation o l a) us (joined_is f o l a b x i ix) pu)))

  pub left_mirrors : Mirrors (left_at level read) (left_of level find)
  unfolding left_at left_of
  left_mirrors f ts p =
      agrees_bind expr_marks IsBuilt expr_marks IsBuilt f f (read f ts) (find ts) (λ x. tail_at level read (suc (length x.2)) x.0 x.1 x.2)
      (λ x. tail_of level find (suc (length x.1)) x.0 x.1) (c f ts p)
      (λ x a us i pu. tail_mirrors (suc (length us)) f x a us i pu)

  second_mirrors : (f : Flags) (b : BuiltTree) (l : Expr) (ts : Symbols) → IsBuilt (noted expr_marks f l) b l → ArePrintable ts →
      Agrees expr_marks IsBuilt f (second_at level read b (noted expr_marks f l) ts) (second_of level find l ts)
  second_mirrors f b l [] i p = one_built f b l [] i p
  second_mirrors f b l (t ∷ ts) i p = go (of_level level (operator t))
    where
      g : Flags
      g = noted expr_marks f l

      go : (q : Option Op) → Agrees expr_marks IsBuilt f
          (at_operator {A = Option (Read BuiltTree)} q (null_test_at b g (t ∷ ts))
          (λ o. read g ts >>= λ x. Some (join_tree o b x.0 x.1, join_flags b x.0 x.1, x.2)))
          (at_operator {A = Option (Expr × Symbols)} q (null_test_of l (t ∷ ts)) (λ o. find ts >>= λ x. Some (operation o l x.0, x.1)))
      go None = null_test_mirrors f b l i (t ∷ ts) p
      go (Some o) =
          agrees_bind expr_marks IsBuilt expr_marks IsBuilt f g (read g ts) (find ts) (λ x. Some (join_tree o b x.0 x.1, join_flags b x.0 x.1, x.2))
          (λ x. Some (operation o l x.0, x.1)) (c g ts p.1)
          (λ x a us ix pu. (let same = joined_flags f o l a b x i ix in record {
            left = refl;
            flags = same;
            is = subst (λ (z : Flags). IsBuilt z (join_tree o b x (noted expr_marks g a)) (operation o l a)) (sym same)
                (joined_is f o l a b x i ix);
            printable = pu;
          }))

  pub once_mirrors : Mirrors (once_at level read) (once_of level find)
  unfolding once_at once_of
  once_mirrors f ts p =
      agrees_bind expr_marks IsBuilt expr_marks IsBuilt f f (read f ts) (find ts) (λ x. second_at level read x.0 x.1 x.2)
      (λ x. second_of level find x.0 x.1) (c f ts p)
      (λ x a us i pu. second_mirrors f x a us i pu)

module _ (read : Reader BuiltTree) (find : TreeReader Expr) (c : Mirrors read find) where
  pub nots_mirrors : Mirrors (nots_at read) (nots_of find)
  unfolding nots_at nots_of
  nots_mirrors f [] p = c f [] p
  nots_mirrors f (key word.Not ∷ ts) p =
      agrees_bind expr_marks IsBuilt expr_marks IsBuilt f f (nots_at read f ts) (nots_of find ts) (λ x. Some (negate x))
      (λ x. Some (negation x.0, x.1)) (nots_mirrors f ts p.1)
      (λ x a us i pu. (let same = around_flags_are negation f a x i in record {
        left = refl;
        flags = same;
        is = subst (λ (z : Flags). IsBuilt z (around_tree negation x (noted expr_marks f a)) (negation a)) (sym same)
            (around_built negation f a x i);
        printable = pu;
      }))
  nots_mirrors f (t ∷ ts) p = c f (t ∷ ts) p

-- ---- leaves

plain_limit : (n : ℕ) → then_some (is_none (signed false n)) limit.Number ≡ expr_passed (number (pos n))
plain_limit n = go (ltb n (2 ^ 63)) (ltb (2 ^ 63 - 1) n) refl refl
  where
    go : (a b : Bool) → ltb n (2 ^ 63) ≡ a → ltb (2 ^ 63 - 1) n ≡ b → then_some (is_none (cond a (Some (pos n)) None)) limit.Number ≡ then_some b limit.Number
    go true false h k = refl
    go false true h k = refl
    go true true h k = absurd (grind (arith, nat_tests))
    go false false h k = absurd (grind (arith, nat_tests))

plain_tree : (n : ℕ) → then_some (is_none (signed false n)) limit.Number ≡ None → int_tree (signed false n) ≡ number (pos n)
plain_tree n h = go (ltb n (2 ^ 63)) h
  where
    go : (a : Bool) → then_some (is_none (cond a (Some (pos n)) None)) limit.Number ≡ None → int_tree (cond a (Some (pos n)) None) ≡ number (pos n)
    go true h = refl
    go false h = absurd cc

minus_limit : (n : ℕ) → then_some (is_none (signed true n)) limit.Number ≡ expr_passed (number (neg_ℤ (pos n)))
minus_limit zero = refl
minus_limit (suc n) = go (leb (suc n) (2 ^ 63)) (ltb (2 ^ 63) (n + 1)) refl refl
  where
    go : (a b : Bool) → leb (suc n) (2 ^ 63) ≡ a → ltb (2 ^ 63) (n + 1) ≡ b →
        then_some (is_none (cond a (Some (neg_ℤ (pos (suc n)))) None)) limit.Number ≡ then_some b limit.Number
    go true false h k = refl
    go false true h k = refl
    go true true h k = absurd (grind (arith, nat_tests))
    go false false h k = absurd (grind (arith, nat_tests))

minus_tree : (n : ℕ) → then_some (is_none (signed true n)) limit.Number ≡ None → int_tree (signed true n) ≡ number (neg_ℤ (pos n))
minus_tree n h = go (leb n (2 ^ 63)) h
  where
    go : (a : Bool) → then_some (is_none (cond a (Some (neg_ℤ (pos n))) None)) limit.Number ≡ None →
        int_tree (cond a (Some (neg_ℤ (pos n))) None) ≡ number (neg_ℤ (pos n))
    go true h = refl
    go false h = absurd cc

-- a number that is read, beside the one that is found
int_agrees : (z : Option ℤ) (x : ℤ) (f : Flags) (ts : Symbols) → then_some (is_none z) limit.Number ≡ expr_passed (number x) →
    (then_some (is_none z) limit.Number ≡ None → int_tree z ≡ number x) → ArePrintable ts → Agrees expr_marks IsBuilt f (int_at z f ts) (Some (number x, ts))
int_agrees z x f ts l t p =
    let same : note f (then_some (is_none z) limit.Number) false ≡ note f (expr_passed (number x)) false = ap (λ (o : Option LimitName). note f o false) l in
    let built : clear (note f (then_some (is_none z) limit.Number) false) ≡ true →
    int_tree z ≡ number x = λ c. t (clear_passes f (then_some (is_none z) limit.Number) false c) in
    record { left = refl; flags = same; is = (refl, built); printable = p }

short_text : (t : List ℕ) → list_all is_printable t ≡ true → then_some (ltb 255 (length t)) limit.Text ≡ None → text_tree t ≡ letters t
short_text t p h = go (leb (length t) 255) (list_all is_printable t) refl p h
  where
    go : (a b : Bool) → leb (length t) 255 ≡ a → b ≡ true → then_some (ltb 255 (length t)) limit.Text ≡ None → cond (a && b) (letters t) stand_in ≡ letters t
    go true true e p h = refl
    go true false e p h = absurd cc
    go false b e p h = absurd (long (ltb 255 (length t)) refl h)
      where
        long : (d : Bool) → ltb 255 (length t) ≡ d → then_some d limit.Text ≡ None → ⊥
        long true k h = cc
        long false k h = grind (arith, nat_tests)

kept_is : (f : Flags) (x e : Expr) → (clear f ≡ true → x ≡ e) → clear f ≡ true → kept f x ≡ e
kept_is f x e h c = rw c (h c)

text_agrees : (t : List ℕ) (f : Flags) (ts : Symbols) → list_all is_printable t ≡ true → ArePrintable ts →
    Agrees expr_marks IsBuilt f (text_at t f ts) (Some (letters t, ts))
unfolding text_at
text_agrees t f ts q p =
    record {
      left = refl;
      flags = refl;
      is =
          (refl, λ c. kept_is (text_flags t f) (text_tree t) (letters t) (λ k. short_text t q (clear_passes f (expr_passed (letters t)) false k)) c);
      printable = p;
    }

pub kept_name_is : (f : Flags) (n : List ℕ) → clear f ≡ true → kept_name f n ≡ n
kept_name_is f n c = rw c refl

column_agrees : (n : List ℕ) (f : Flags) (ts : Symbols) → ArePrintable ts → Agrees expr_marks IsBuilt f (column_at n f ts) (Some (Column n, ts))
column_agrees n f ts p = record
    { left = refl; flags = refl; is = (refl, λ c. ap (λ (x : List ℕ). Column x) (kept_name_is (name_flags n f) n c)); printable = p }

named_agrees : (n : List ℕ) (f : Flags) (ts : Symbols) → ArePrintable ts → Agrees expr_marks IsBuilt f (named_at n f ts) (Some (Variable n, ts))
named_agrees n f ts p = record {
  left = refl;
  flags = refl;
  is =
      (refl, λ c. ap (λ (x : List ℕ). Variable x) (kept_name_is (name_flags n f) n c));
  printable = p;
}

minus_agrees : (f : Flags) (ts : Symbols) → ArePrintable ts → Agrees expr_marks IsBuilt f (minus_at f ts) (minus_of ts)
minus_agrees f (int n ∷ ts) p = int_agrees (signed true n) (neg_ℤ (pos n)) f ts (minus_limit n) (minus_tree n) p.1
minus_agrees f [] p = tt
minus_agrees f (key k ∷ ts) p = tt
minus_agrees f (name n ∷ ts) p = tt
minus_agrees f (text t ∷ ts) p = tt
minus_agrees f (sign s ∷ ts) p = tt

colon_agrees : (f : Flags) (ts : Symbols) → ArePrintable ts → Agrees expr_marks IsBuilt f (colon_at f ts) (colon_of ts)
colon_agrees f (name n ∷ ts) p = named_agrees n f ts p.1
colon_agrees f [] p = tt
colon_agrees f (key k ∷ ts) p = tt
colon_agrees f (int n ∷ ts) p = tt
colon_agrees f (text t ∷ ts) p = tt
colon_agrees f (sign s ∷ ts) p = tt

module _ (read : Reader BuiltTree) (find : TreeReader Expr) (c : Mirrors read find) where
  paren_agrees : (f : Flags) (ts : Symbols) → ArePrintable ts → Agrees expr_marks IsBuilt f (paren_at read f ts) (paren_of find ts)
  paren_agrees f ts p =
      agrees_bind expr_marks IsBuilt expr_marks IsBuilt f f (read f ts) (find ts) (λ x. after (sign mark.Close) x.2 >>= λ us. Some (x.0, x.1, us))
      (λ x. after (sign mark.Close) x.1 >>= λ us. Some (x.0, us)) (c f ts p)
      (λ x a us i pu. agrees_after expr_marks IsBuilt f (after (sign mark.Close) us) (λ vs. Some (x, noted expr_marks f a, vs)) (λ vs. Some (a, vs))
      (λ vs e. after_printable (sign mark.Close) us vs pu e) (λ vs pv. one_built f x a vs i pv))

  atom_mirrors : Mirrors (atom_at read) (atom_of find)
  unfolding atom_at atom_of
  atom_mirrors f [] p = tt
  atom_mirrors f (int n ∷ ts) p = int_agrees (signed false n) (pos n) f ts (plain_limit n) (plain_tree n) p.1
  atom_mirrors f (text t ∷ ts) p = text_agrees t f ts p.0 p.1
  atom_mirrors f (name n ∷ ts) p = column_agrees n f ts p.1
  atom_mirrors f (sign mark.Minus ∷ ts) p = minus_agrees f ts p.1
  atom_mirrors f (sign mark.Colon ∷ ts) p = colon_agrees f ts p.1
  atom_mirrors f (sign mark.Open ∷ ts) p = paren_agrees f ts p.1
  atom_mirrors f (t ∷ ts) p = tt

  product_mirrors : Mirrors (product_at read) (product_of find)
  product_mirrors = left_mirrors 5 (atom_at read) (atom_of find) atom_mirrors

  pub sum_mirrors : Mirrors (sum_at read) (sum_of find)
  sum_mirrors = left_mirrors 4 (product_at read) (product_of find) product_mirrors

  comparison_mirrors : Mirrors (comparison_at read) (comparison_of find)
  comparison_mirrors = once_mirrors 3 (sum_at read) (sum_of find) sum_mirrors

  negation_mirrors : Mirrors (negation_at read) (negation_of find)
  negation_mirrors = nots_mirrors (comparison_at read) (comparison_of find) comparison_mirrors

  pub conjunction_mirrors : Mirrors (conjunction_at read) (conjunction_of find)
  conjunction_mirrors = left_mirrors 2 (negation_at read) (negation_of find) negation_mirrors

  pub expression_mirrors : Mirrors (expression_at read) (expression_of find)
  expression_mirrors = left_mirrors 1 (conjunction_at read) (conjunction_of find) conjunction_mirrors

pub within_mirrors : (depth : ℕ) → Mirrors (within_at depth) (within_of depth)
unfolding within_at within_of
within_mirrors zero f ts p = tt
within_mirrors (suc depth) f ts p = expression_mirrors (within_at depth) (within_of depth) (within_mirrors depth) f ts p
