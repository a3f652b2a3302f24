-- Reading operands and operations one after the other, as a loop does.
use Rattle.std.proofs.Common.{◌≡◌, ◌≢◌, ℕ, zero, suc, ◌+◌, ◌-◌, ◌<◌, ◌≤◌, Bool, true, false, cond, [], ◌∷◌, length, Option, Some, None, Result, Ok, Err, refl, sym, ap}
use Rattle.std.proofs.Common.{subst, ◌∙◌, arith, add-one, sub-one}
use denote.Enum.Bare.{same_true}
use Rattle.salt_ast.specs.Operators.{operator}
use Rattle.salt_ast.specs.declared.trees.Op.{Op}
use Rattle.salt_parse.specs.Answers.{Fails}
use Rattle.salt_parse.specs.Flags.{BuiltTree, Flags, join_flags, join_tree}
use Rattle.salt_parse.specs.Parsing.{Parsing, ReadsBuilt}
use Rattle.salt_parse.specs.Reading.{Read, Reader, after, at_operator, expression_at, is_same, left_at, negate, negations, next_operator, nots_at}
use Rattle.salt_parse.specs.Reading.{null_test_at, once_at, second_at}
use Rattle.salt_parse.specs.Reading.{of_level, tail_at, under_nots, within_at}
use Rattle.salt_parse.specs.declared.built.Built.{Built}
use Rattle.salt_parse.specs.declared.error.ParseErr.{ParseErr}
use Rattle.salt_parse.specs.declared.error.ParseErr.TheVariants.{Limit, Memory, Syntax}
use Rattle.salt_ast.specs.Scanning.{◌>>=◌}
use Rattle.salt_ast.specs.Symbols.{Symbols, Symbol, key, sign}
use Rattle.salt_ast.specs.contracts.keyword.Keyword.{the_type as keywords}
use Rattle.salt_ast.specs.contracts.sign.Sign.{the_type as signs}
use Rattle.salt_ast.specs.declared.keyword.Keyword.TheVariants as word

-- what was read, with what is still to be read, makes the whole
pub record IsTail (level : ℕ) (operand : Reader BuiltTree) (left : BuiltTree) (p : Parsing) (total : Option (Read BuiltTree)) : Type 0 where
  pub fuel : ℕ
  pub enough : length p.left < fuel
  pub so_far : tail_at level operand fuel left p.flags p.left ≡ total

pub IsTail-starts : (level : ℕ) (operand : Reader BuiltTree) (p q : Parsing) (l : BuiltTree) → operand p.flags p.left ≡ Some (l, q.flags, q.left) →
    IsTail level operand l q (left_at level operand p.flags p.left)
unfolding left_at
IsTail-starts level operand p q l h = record { fuel = suc (length q.left); enough = omega arith; so_far = rw h refl }

-- one step, by what the next token stands for
pub tail_step : (level : ℕ) (operand : Reader BuiltTree) (n : ℕ) (l : BuiltTree) (f : Flags) (rest rest1 : Symbols) (o : Op) →
    next_operator level rest ≡ (Some o, rest1) →
    (length rest ≡ suc (length rest1)) ×
    (tail_at level operand (suc n) l f rest ≡ (operand f rest1 >>= λ x. tail_at level operand n (join_tree o l x.0 x.1) (join_flags l x.0 x.1) x.2))
unfolding tail_at
tail_step level operand n l f [] rest1 o h = absurd (cc (ap (λ (p : Option Op × Symbols). p.0) h))
tail_step level operand n l f (t ∷ ts) rest1 o h = go (of_level level (operator t)) h
  where
    go : (q : Option Op) → at_operator {A = Option Op × Symbols} q (None, t ∷ ts) (λ o. (Some o, ts)) ≡ (Some o, rest1) →
        (suc (length ts) ≡ suc (length rest1)) ×
        (at_operator {A = Option (Read BuiltTree)} q (Some (l, f, t ∷ ts))
        (λ o. operand f ts >>= λ x. tail_at level operand n (join_tree o l x.0 x.1) (join_flags l x.0 x.1) x.2) ≡
        (operand f rest1 >>= λ x. tail_at level operand n (join_tree o l x.0 x.1) (join_flags l x.0 x.1) x.2))
    go None e = absurd (cc (ap (λ (p : Option Op × Symbols). p.0) e))
    go (Some p) e =
        let same : ts ≡ rest1 = ap (λ (p : Option Op × Symbols). p.1) e in
        let the_op : p ≡ o = cc (ap (λ (p : Option Op × Symbols). p.0) e) in
        (ap (λ (x : Symbols). suc (length x)) same, rw (the_op, same) refl)

pub tail_stop : (level : ℕ) (operand : Reader BuiltTree) (n : ℕ) (l : BuiltTree) (f : Flags) (rest rest1 : Symbols) →
    next_operator level rest ≡ (None, rest1) → tail_at level operand (suc n) l f rest ≡ Some (l, f, rest1)
unfolding tail_at
tail_stop level operand n l f [] rest1 h = ap (λ (p : Option Op × Symbols). Some (l, f, p.1)) h
tail_stop level operand n l f (t ∷ ts) rest1 h = go (of_level level (operator t)) h
  where
    go : (q : Option Op) → at_operator {A = Option Op × Symbols} q (None, t ∷ ts) (λ o. (Some o, ts)) ≡ (None, rest1) →
        at_operator {A = Option (Read BuiltTree)} q (Some (l, f, t ∷ ts))
        (λ o. operand f ts >>= λ x. tail_at level operand n (join_tree o l x.0 x.1) (join_flags l x.0 x.1) x.2) ≡ Some (l, f, rest1)
    go None e = ap (λ (p : Option Op × Symbols). Some (l, f, p.1)) e
    go (Some p) e = absurd (cc (ap (λ (p : Option Op × Symbols). p.0) e))

-- behind an operation and its right operand `r` stands `t`, where `l2` is the operation on `l` and `r`
pub IsTail-goes_on : (level : ℕ) (operand : Reader BuiltTree) (l r l2 : BuiltTree) (p q s t : Parsing) (o : Op) (total : Option (Read BuiltTree)) →
    IsTail level operand l p total → next_operator level p.left ≡ (Some o, q.left) → q.flags ≡ p.flags →
    operand q.flags q.left ≡ Some (r, s.flags, s.left) → length s.left < length q.left → l2 ≡ join_tree o l r s.flags →
    t.flags ≡ join_flags l r s.flags → t.left ≡ s.left → IsTail level operand l2 t total
IsTail-goes_on level operand l r l2 p q s t o total h next same read shorter is_tree is_flags is_left = go h.fuel h.enough h.so_far
  where
    read_on : operand p.flags q.left ≡ Some (r, s.flags, s.left)
    read_on = rw (← same) read

    go : (n : ℕ) → length p.left < n → tail_at level operand n l p.flags p.left ≡ total → IsTail level operand l2 t total
    go zero lt e = absurd (omega arith)
    go (suc n) lt e =
        let step = tail_step level operand n l p.flags p.left q.left o next in
        let one : tail_at level operand (suc n) l p.flags p.left ≡ tail_at level operand n (join_tree o l r s.flags)
        (join_flags l r s.flags) s.left = step.1 ∙ rw read_on refl in
        record { fuel = n; enough = omega (arith, step.0, ap length is_left); so_far = rw (is_tree, is_flags, is_left) (sym one ∙ e) }

pub IsTail-ends : (level : ℕ) (operand : Reader BuiltTree) (l : BuiltTree) (p q : Parsing) (total : Option (Read BuiltTree)) →
    IsTail level operand l p total → next_operator level p.left ≡ (None, q.left) → q.flags ≡ p.flags → total ≡ Some (l, q.flags, q.left)
IsTail-ends level operand l p q total h next same = rw same (go h.fuel h.enough h.so_far)
  where
    go : (n : ℕ) → length p.left < n → tail_at level operand n l p.flags p.left ≡ total → total ≡ Some (l, p.flags, q.left)
    go zero lt e = absurd (omega arith)
    go (suc n) lt e = sym e ∙ tail_stop level operand n l p.flags p.left q.left next

pub IsTail-fails : (level : ℕ) (operand : Reader BuiltTree) (l : BuiltTree) (p q : Parsing) (o : Op) (err : ParseErr)
    (total : Option (Read BuiltTree)) → IsTail level operand l p total → next_operator level p.left ≡ (Some o, q.left) → q.flags ≡ p.flags →
    Fails err (operand q.flags q.left) → Fails err total
IsTail-fails level operand l p q o Memory total h next same read = tt
IsTail-fails level operand l p q o (Limit n) total h next same read = read
IsTail-fails level operand l p q o Syntax total h next same read = go h.fuel h.enough h.so_far
  where
    none : operand p.flags q.left ≡ None
    none = rw (← same) read

    go : (n : ℕ) → length p.left < n → tail_at level operand n l p.flags p.left ≡ total → total ≡ None
    go zero lt e = absurd (omega arith)
    go (suc n) lt e = sym e ∙ (tail_step level operand n l p.flags p.left q.left o next).1 ∙ rw none refl

pub under_nots-goes_on : (operand : Reader BuiltTree) (f : Flags) (n : ℕ) (ts : Symbols) →
    under_nots n (nots_at operand f (key word.Not ∷ ts)) ≡ under_nots (n + 1) (nots_at operand f ts)
unfolding nots_at
under_nots-goes_on operand f n ts = rw add-one (go (nots_at operand f ts))
  where
    go : (read : Option (Read BuiltTree)) → under_nots n (read >>= λ x. Some (negate x)) ≡ under_nots (suc n) read
    go None = refl
    go (Some x) = refl

-- what follows a keyword or a sign stands behind it
pub is_same-true : (t u : Symbol) → is_same t u ≡ true → t ≡ u
is_same-true (key a) (key b) h = ap key (same_true keywords tt a b h)
is_same-true (sign a) (sign b) h = ap sign (same_true signs tt a b h)
is_same-true _ _ h = absurd cc

pub after_is : (t : Symbol) (ts us : Symbols) → after t ts ≡ Some us → ts ≡ t ∷ us
unfolding after
after_is t [] us h = absurd cc
after_is t (u ∷ ts) us h = go (is_same u t) refl h
  where
    go : (b : Bool) → is_same u t ≡ b → cond b (Some ts) None ≡ Some us → u ∷ ts ≡ t ∷ us
    go true e k = let same : u ≡ t = is_same-true u t e in let others : ts ≡ us = cc k in cc
    go false e k = absurd cc

pub nots_more : (operand : Reader BuiltTree) (f : Flags) (n : ℕ) (total : Option (Read BuiltTree)) (ts us : Symbols) →
    after (key word.Not) ts ≡ Some us → total ≡ under_nots n (nots_at operand f ts) → total ≡ under_nots (n + 1) (nots_at operand f us)
nots_more operand f n total ts us h e = e ∙ ap (λ (r : Symbols). under_nots n (nots_at operand f r)) (after_is (key word.Not) ts us h)
    ∙ under_nots-goes_on operand f n us

pub nots_stop : (operand : Reader BuiltTree) (f : Flags) (ts : Symbols) → after (key word.Not) ts ≡ None → nots_at operand f ts ≡ operand f ts
unfolding nots_at after
nots_stop operand f [] h = refl
nots_stop operand f (key word.Not ∷ ts) h = absurd cc
nots_stop operand f _ h = refl

pub ruleset tail_steps = (IsTail-starts)

pub within_opens : (depth : ℕ) (f : Flags) (ts : Symbols) → depth ≢ 0 → within_at depth f ts ≡ expression_at (within_at (depth - 1)) f ts
unfolding within_at
within_opens zero f ts h = absurd (h refl)
within_opens (suc depth) f ts h = rw sub-one refl

pub within_shut : (depth : ℕ) (f : Flags) (ts : Symbols) → depth ≡ 0 → within_at depth f ts ≡ None
unfolding within_at
within_shut zero f ts h = refl
within_shut (suc depth) f ts h = absurd (omega arith)

pub ruleset within_laws = (within_opens, within_shut)

pub negations-goes_on : (n i : ℕ) (x total : Read BuiltTree) → i < n → negations (n - i) x ≡ total → negations (n - (i + 1)) (negate x) ≡ total
negations-goes_on n i x total lt h =
    let k : n - i ≡ suc (n - (i + 1)) = omega arith in
    rw k at h

pub negations-ends : (n i : ℕ) (x total : Read BuiltTree) → n ≤ i → negations (n - i) x ≡ total → x ≡ total
negations-ends n i x total le h =
    let k : n - i ≡ 0 = omega arith in
    rw k at h

pub same_read : (b b' : BuiltTree) (f f' : Flags) (ts ts' : Symbols) → b' ≡ b → f' ≡ f → ts' ≡ ts → ◌≡◌ {A = Read BuiltTree} (b', f', ts') (b, f, ts)
same_read b b' f f' ts ts' p q r = rw (p, q, r) refl

-- where no operation stands behind an operand, a test for NULL may
second_alone : (operand : Reader BuiltTree) (l : BuiltTree) (f : Flags) (ts us : Symbols) → next_operator 3 ts ≡ (None, us) →
    second_at 3 operand l f ts ≡ null_test_at l f ts
unfolding after
second_alone operand l f [] us h = refl
second_alone operand l f (t ∷ ts) us h = go (of_level 3 (operator t)) h
  where
    go : (q : Option Op) → at_operator {A = Option Op × Symbols} q (None, t ∷ ts) (λ o. (Some o, ts)) ≡ (None, us) →
        at_operator {A = Option (Read BuiltTree)} q (null_test_at l f (t ∷ ts))
        (λ o. operand f ts >>= λ x. Some (join_tree o l x.0 x.1, join_flags l x.0 x.1, x.2)) ≡ null_test_at l f (t ∷ ts)
    go None e = refl
    go (Some p) e = absurd (cc (ap (λ (p : Option Op × Symbols). p.0) e))

pub once_alone : (operand : Reader BuiltTree) (l : BuiltTree) (p q r s : Parsing) (result : Result Built ParseErr) →
    operand p.flags p.left ≡ Some (l, q.flags, q.left) → next_operator 3 q.left ≡ (None, r.left) → r ≡ q →
    ReadsBuilt result (null_test_at l) r s → ReadsBuilt result (once_at 3 operand) p s
unfolding once_at
once_alone operand l p q r s result read next stays h = go result (subst (λ (z : Parsing). ReadsBuilt result (null_test_at l) z s) stays h)
  where
    whole : once_at 3 operand p.flags p.left ≡ null_test_at l q.flags q.left
    whole = rw read (second_alone operand l q.flags q.left r.left next)

    go : (result : Result Built ParseErr) → ReadsBuilt result (null_test_at l) q s → ReadsBuilt result (once_at 3 operand) p s
    go (Ok b) h = whole ∙ h
    go (Err Memory) h = tt
    go (Err Syntax) h = whole ∙ h
    go (Err (Limit n)) h = h
