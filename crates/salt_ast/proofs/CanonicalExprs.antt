-- Canonical texts of expressions are read as their trees.
use Rattle.salt_ast.proofs.Each.{Each, each_of_append}
use Rattle.salt_ast.proofs.Fragments.{IsFragment, IsNameWord, IsReadAs, Stops, behind, behind_space, closed, colon_before, minus_before, name_fragment, number_fragment, open_before, regrouped, space_before, space_stops, spaced_sign, spaced_word, text_fragment, word_fragment}
use Rattle.salt_ast.proofs.TokenRows.{HasToken}
use Rattle.salt_ast.specs.TokenLaws.{TokenLaws}
use Rattle.salt_ast.specs.Grammar.{Atom, Conjunction, Expression, Left, Nots, Once, Spells, Sum, Within, alone, colon as colon_name, is_not_null, is_null, literal, minus_int, more, named, not, one, pair, paren, plain, plus_int}
use Rattle.salt_ast.specs.Limits.{height}
use Rattle.salt_ast.specs.Operators.{op_text}
use Rattle.salt_ast.specs.Texts.{expr_text, null_test_text}
use Rattle.salt_ast.specs.Trees.{letters, negation, null_test, number, operation}
use Rattle.salt_ast.specs.declared.trees.Expr.{Binary', Column, Expr, IsNull', Lit, Not', Variable, end_of-Expr, more_of-Expr}
use Rattle.salt_ast.specs.declared.trees.Op.{Op}
use Rattle.salt_ast.specs.declared.trees.Op.TheVariants as op
use Rattle.salt_ast.specs.Bytes.{is_printable}
use Rattle.salt_ast.specs.Pieces.{EachPasses}
use Rattle.salt_ast.specs.Symbols.{Symbols, Symbol, int, key, name, sign, text}
use Rattle.salt_ast.specs.declared.keyword.Keyword.TheVariants as word
use Rattle.salt_ast.specs.declared.sign.Sign.TheVariants as mark
use Rattle.std.proofs.Common.{Bool, List, [], append_assoc, arith, codes, false, neg_ℤ, pos, refl, suc, sym, true, zero, ℕ, ◌++◌, ◌<◌, ◌^◌, ◌∷◌, ◌≤◌}

-- the canonical text is read as the expression, wherever one open parenthesis less than it is high is allowed
abbrev pub IsReadExpr : Expr → Type 0
IsReadExpr e = (depth : ℕ) → height e ≤ suc depth → IsReadAs (Atom (Within depth)) (expr_text e) e

-- so is the text of each expression that tokens spell in this form
abbrev pub AreRead : Spells → Type 0
AreRead Form = (ts : Symbols) (e : Expr) → Form ts e → Each HasToken ts → IsReadExpr e

-- ---- the levels of an atom

module _ {Inner : Spells} {ts : Symbols} {e : Expr} (a : Atom Inner ts e) where
  as_product : (Left 5 (Atom Inner)) ts e
  as_product = one a

  pub as_sum : Sum Inner ts e
  as_sum = one as_product

  as_negation : (Nots (Once 3 (Sum Inner))) ts e
  as_negation = plain (alone as_sum)

  pub as_conjunction : Conjunction Inner ts e
  as_conjunction = one as_negation

  pub as_expression : Expression Inner ts e
  as_expression = one as_conjunction

op_symbol : Op → Symbol
op_symbol op.Or = key word.Or
op_symbol op.And = key word.And
op_symbol op.Equal = sign mark.Equal
op_symbol op.Unequal = sign mark.Unequal
op_symbol op.Less = sign mark.Less
op_symbol op.AtMost = sign mark.AtMost
op_symbol op.Greater = sign mark.Greater
op_symbol op.AtLeast = sign mark.AtLeast
op_symbol op.Add = sign mark.Plus
op_symbol op.Sub = sign mark.Minus
op_symbol op.Join = sign mark.Bars
op_symbol op.Mul = sign mark.Star

-- two atoms and an operation
joined : {Inner : Spells} {a b : Symbols} {l r : Expr} → Atom Inner a l → Atom Inner b r → (o : Op) → Expression Inner (a ++ op_symbol o ∷ b) (operation o l r)
unfolding op_symbol
joined x y op.Or = more (as_expression x) _ refl refl (as_conjunction y)
joined x y op.And = one (more (as_conjunction x) _ refl refl (as_negation y))
joined x y op.Equal = one (one (plain (pair (as_sum x) _ refl refl (as_sum y))))
joined x y op.Unequal = one (one (plain (pair (as_sum x) _ refl refl (as_sum y))))
joined x y op.Less = one (one (plain (pair (as_sum x) _ refl refl (as_sum y))))
joined x y op.AtMost = one (one (plain (pair (as_sum x) _ refl refl (as_sum y))))
joined x y op.Greater = one (one (plain (pair (as_sum x) _ refl refl (as_sum y))))
joined x y op.AtLeast = one (one (plain (pair (as_sum x) _ refl refl (as_sum y))))
joined x y op.Add = one (one (plain (alone (more (as_sum x) _ refl refl (as_product y)))))
joined x y op.Sub = one (one (plain (alone (more (as_sum x) _ refl refl (as_product y)))))
joined x y op.Join = one (one (plain (alone (more (as_sum x) _ refl refl (as_product y)))))
joined x y op.Mul = one (one (plain (alone (one (more (as_product x) _ refl refl y)))))

-- the words of a test for NULL
null_symbols : (negated : Bool) → Symbols
null_symbols false = key word.Is ∷ key word.Null ∷ []
null_symbols true = key word.Is ∷ key word.Not ∷ key word.Null ∷ []

tested : {Inner : Spells} {ts : Symbols} {e : Expr} → Atom Inner ts e → (negated : Bool) →
    Expression Inner (ts ++ null_symbols negated) (null_test negated e)
unfolding null_symbols
tested x false = one (one (plain (is_null (as_sum x))))
tested x true = one (one (plain (is_not_null (as_sum x))))

height_positive : (e : Expr) → 0 < height e
height_positive (Lit v) = omega arith
height_positive (Column n) = omega arith
height_positive (Variable n) = omega arith
height_positive (Not' _ (more_of-Expr e end_of-Expr)) = omega arith
height_positive (IsNull' _ (more_of-Expr e end_of-Expr) negated) = omega arith
height_positive (Binary' o _ (more_of-Expr l end_of-Expr) _ (more_of-Expr r end_of-Expr)) = omega arith

-- ---- texts of expressions

null_test_stops : (negated : Bool) (rest : List ℕ) → Stops rest → Stops ((null_test_text negated ++ codes ")") ++ rest)
null_test_stops false rest next = space_stops _
null_test_stops true rest next = space_stops _

module _ (laws : TokenLaws) where
  op_fragment : (o : Op) {b : List ℕ} {us : Symbols} → IsFragment Stops b us → IsFragment Stops (op_text o ++ (codes " " ++ b)) (op_symbol o ∷ us)
  unfolding op_symbol
  op_fragment op.Or f = spaced_word laws word.Or f
  op_fragment op.And f = spaced_word laws word.And f
  op_fragment op.Equal f = spaced_sign laws mark.Equal f
  op_fragment op.Unequal f = spaced_sign laws mark.Unequal f
  op_fragment op.Less f = spaced_sign laws mark.Less f
  op_fragment op.AtMost f = spaced_sign laws mark.AtMost f
  op_fragment op.Greater f = spaced_sign laws mark.Greater f
  op_fragment op.AtLeast f = spaced_sign laws mark.AtLeast f
  op_fragment op.Add f = spaced_sign laws mark.Plus f
  op_fragment op.Sub f = spaced_sign laws mark.Minus f
  op_fragment op.Join f = spaced_sign laws mark.Bars f
  op_fragment op.Mul f = spaced_sign laws mark.Star f

  plus_int_read : (n : ℕ) → n < 2 ^ 64 → IsReadExpr (number (pos n))
  plus_int_read n h = λ depth le. record { symbols = int n ∷ []; fragment = number_fragment laws n h; spelled = plus_int }

  minus_int_read : (n : ℕ) → n < 2 ^ 64 → IsReadExpr (number (neg_ℤ (pos n)))
  minus_int_read zero h = plus_int_read zero h
  minus_int_read (suc n) h = λ depth le. record {
    symbols = sign mark.Minus ∷ int (suc n) ∷ [];
    fragment = minus_before laws (number_fragment laws (suc n) h);
    spelled = minus_int;
  }

  letters_read : (t : List ℕ) → EachPasses is_printable t → IsReadExpr (letters t)
  letters_read t h = λ depth le. record { symbols = text t ∷ []; fragment = text_fragment laws t h; spelled = literal }

  column_read : (n : List ℕ) → IsNameWord n → IsReadExpr (Column n)
  column_read n h = λ depth le. record { symbols = name n ∷ []; fragment = name_fragment n h; spelled = named }

  variable_read : (n : List ℕ) → IsNameWord n → IsReadExpr (Variable n)
  variable_read n h = λ depth le. record {
    symbols = sign mark.Colon ∷ name n ∷ [];
    fragment = colon_before laws (name_fragment n h);
    spelled = colon_name;
  }

  negation_at : (depth : ℕ) (e : Expr) → IsReadAs (Atom (Within depth)) (expr_text e) e → IsReadAs (Atom (Within (suc depth))) (expr_text (negation e)) (negation e)
  unfolding Within
  negation_at depth e x = record {
    symbols = sign mark.Open ∷ ((key word.Not ∷ x.symbols) ++ sign mark.Close ∷ []);
    fragment = open_before laws (spaced_word laws word.Not (closed laws x.fragment));
    spelled = paren (one (one (not (as_negation x.spelled))));
  }

  negation_read : (e : Expr) → IsReadExpr e → IsReadExpr (negation e)
  negation_read e x zero le = absurd (omega (arith, height_positive e))
  negation_read e x (suc depth) le = negation_at depth e (x depth (omega arith))

  null_fragment : (negated : Bool) → IsFragment Stops (null_test_text negated) (null_symbols negated)
  unfolding null_symbols
  null_fragment false = space_before (spaced_word laws word.Is (word_fragment laws word.Null))
  null_fragment true = space_before (spaced_word laws word.Is (spaced_word laws word.Not (word_fragment laws word.Null)))

  null_test_at : (depth : ℕ) (negated : Bool) (e : Expr) → IsReadAs (Atom (Within depth)) (expr_text e) e →
      IsReadAs (Atom (Within (suc depth))) (expr_text (null_test negated e)) (null_test negated e)
  unfolding Within
  null_test_at depth negated e x =
      let test = behind x.fragment (null_test_stops negated) (closed laws (null_fragment negated)) in
      record {
        symbols = sign mark.Open ∷ ((x.symbols ++ null_symbols negated) ++ sign mark.Close ∷ []);
        fragment = open_before laws (regrouped (sym (append_assoc x.symbols (null_symbols negated) (sign mark.Close ∷ []))) test);
        spelled = paren (tested x.spelled negated);
      }

  null_test_read : (negated : Bool) (e : Expr) → IsReadExpr e → IsReadExpr (null_test negated e)
  null_test_read negated e x zero le = absurd (omega (arith, height_positive e))
  null_test_read negated e x (suc depth) le = null_test_at depth negated e (x depth (omega arith))

  operation_at : (depth : ℕ) (o : Op) (l r : Expr) → IsReadAs (Atom (Within depth)) (expr_text l) l → IsReadAs (Atom (Within depth)) (expr_text r) r → IsReadAs (Atom (Within (suc depth))) (expr_text (operation o l r)) (operation o l r)
  unfolding Within
  operation_at depth o l r x y =
      let last = closed laws y.fragment in
      let operands = behind_space x.fragment (op_fragment o last) in
      record {
        symbols = sign mark.Open ∷ ((x.symbols ++ op_symbol o ∷ y.symbols) ++ sign mark.Close ∷ []);
        fragment = open_before laws (regrouped (sym (append_assoc x.symbols (op_symbol o ∷ y.symbols) (sign mark.Close ∷ []))) operands);
        spelled = paren (joined x.spelled y.spelled o);
      }

  operation_read : (o : Op) (l r : Expr) → IsReadExpr l → IsReadExpr r → IsReadExpr (operation o l r)
  operation_read o l r x y zero le = absurd (omega (arith, height_positive l))
  operation_read o l r x y (suc depth) le = operation_at depth o l r (x depth (omega arith)) (y depth (omega arith))

  -- ---- the expressions that tokens spell

  left_read : (level : ℕ) {Operand : Spells} → AreRead Operand → AreRead (Left level Operand)
  left_read level f ts e (one d) h = f ts e d h
  left_read level f _ _ (more {a = a} {b = b} {o = o} {l = l} {r = r} d t is at k) h =
      let parts = each_of_append HasToken a (t ∷ b) h in
      operation_read o l r (left_read level f a l d parts.0) (f b r k parts.1.1)

  once_read : (level : ℕ) {Operand : Spells} → AreRead Operand → AreRead (Once level Operand)
  once_read level f ts e (alone d) h = f ts e d h
  once_read level f _ _ (pair {a = a} {b = b} {o = o} {l = l} {r = r} d t is at k) h =
      let parts = each_of_append HasToken a (t ∷ b) h in
      operation_read o l r (f a l d parts.0) (f b r k parts.1.1)
  once_read level f _ _ (is_null {ts = ts} {e = e} d) h = null_test_read false e (f ts e d (each_of_append HasToken ts (key word.Is ∷ key word.Null ∷ []) h).0)
  once_read level f _ _ (is_not_null {ts = ts} {e = e} d) h = null_test_read true e (f ts e d (each_of_append HasToken ts (key word.Is ∷ key word.Not ∷ key word.Null ∷ []) h).0)

  nots_read : {Operand : Spells} → AreRead Operand → AreRead (Nots Operand)
  nots_read f ts e (plain d) h = f ts e d h
  nots_read f _ _ (not {ts = ts} {e = e} d) (_, row) = negation_read e (nots_read f ts e d row)

  atom_read : {Inner : Spells} → AreRead Inner → AreRead (Atom Inner)
  atom_read f _ _ (plus_int {n}) (written, _) = plus_int_read n written
  atom_read f _ _ (minus_int {n}) (_, (written, _)) = minus_int_read n written
  atom_read f _ _ (literal {t}) (printable, _) = letters_read t printable
  atom_read f _ _ (named {n}) (word, _) = column_read n word
  atom_read f _ _ (colon_name {n}) (_, (word, _)) = variable_read n word
  atom_read f _ _ (paren {ts = ts} {e = e} d) (_, row) = f ts e d (each_of_append HasToken ts (sign mark.Close ∷ []) row).0

  pub sum_read : {Inner : Spells} → AreRead Inner → AreRead (Sum Inner)
  sum_read f = left_read 4 (left_read 5 (atom_read f))

  pub conjunction_read : {Inner : Spells} → AreRead Inner → AreRead (Conjunction Inner)
  conjunction_read f = left_read 2 (nots_read (once_read 3 (sum_read f)))

  pub expression_read : {Inner : Spells} → AreRead Inner → AreRead (Expression Inner)
  expression_read f = left_read 1 (conjunction_read f)

  pub within_read : (depth : ℕ) → AreRead (Within depth)
  unfolding Within
  within_read zero ts e d h = absurd d
  within_read (suc depth) ts e d h = expression_read (within_read depth) ts e d h
