-- What expressions give is of their kinds.
use Rattle.salt_ast.specs.Judgement.{Kind, closed_kind, comparison_kind, expr_kind, field_named, is_null_literal, is_nullable, is_of_kind, is_same_kind, is_same_type, is_value, gives_type, may_be_null, operation_kind, same_types, takes, truths, type_named, value_type, values}
use Rattle.salt_ast.specs.ProgramJudgement.{are_arguments}
use Rattle.salt_ast.specs.declared.trees.ColType.TheVariants as kind
use Rattle.salt_ast.specs.declared.trees.ColType.{ColType}
use Rattle.salt_ast.specs.declared.trees.Expr.{Binary', Column, Expr, IsNull', Lit, Not', Variable, end_of-Expr, more_of-Expr}
use Rattle.salt_ast.specs.declared.trees.Field.{Field}
use Rattle.salt_ast.specs.declared.trees.Op.TheVariants as op
use Rattle.salt_ast.specs.declared.trees.Op.{Op}
use Rattle.salt_stands.specs.Fitting.{are_of_columns, is_of_column}
use Rattle.law_story.proofs.Every.{IfOk}
use Rattle.law_story.proofs.Ids.{and_left, and_right}
use Rattle.salt_model.specs.Eval.{Datum, Gives, Holds, No, Truth, Unknown, Visible, Yes, eval, int_or_overflow, is_int64, known, named_values, negated, null_tested, of_null, of_values, operate, text_or_too_long, value_in, value_named, value_of, with_truth}
use Rattle.salt_model.specs.Words.{and_then}
use Rattle.salt_model.specs.declared.events.Cause.{Cause}
use Rattle.salt_model.specs.declared.events.Cause.TheVariants.{Overflow, TooLong}
use Rattle.salt_ast.specs.TokenSpelling.{same_bytes}
use Rattle.law_types.specs.Typed.{is_datum_of}
use Rattle.salt_values.specs.Value.{is_null}
use Rattle.salt_values.specs.declared.limits.TheConstants.{TEXT_MOST}
use Rattle.salt_values.specs.declared.value.Value.TheVariants.{Int, Null, Text}
use Rattle.salt_values.specs.declared.value.Value.{Value}
use Rattle.std.proofs.Common.{ap, subst, sym}
use Rattle.std.specs.Bool.{then_some}
use Rattle.std.specs.Prelude.{Bool, Err, List, None, Ok, Option, Result, Some, [], cond, false, length, nat_le, not, option_and_then, option_map, refl, true, ℕ, ℤ, ◌&&◌, ◌+ℤ◌, ◌*ℤ◌, ◌++◌, ◌-ℤ◌, ◌||◌, ◌∷◌, ◌≡◌}

-- of the kind, or a cause
abbrev pub IsGiven : Bool → Kind → Result Datum Cause → Type 0
IsGiven nullable k r = IfOk (λ d. is_datum_of nullable k d ≡ true) r

-- WORDS

pub or_none : (p m : Bool) → (p || (m && false)) ≡ true → p ≡ true
or_none true m h = refl
or_none false true h = h
or_none false false h = h

same-type : (a b : ColType) → is_same_type a b ≡ true → a ≡ b
same-type kind.Int kind.Int h = refl
same-type kind.Text kind.Text h = refl
same-type kind.Int kind.Text h = absurd cc
same-type kind.Text kind.Int h = absurd cc

same-kind : (a b : Kind) → is_same_kind a b ≡ true → a ≡ b
same-kind (values a) (values b) h = ap values (same-type a b h)
same-kind truths truths h = refl
same-kind (values a) truths h = absurd cc
same-kind truths (values b) h = absurd cc

pub of-kind : (k : Kind) (o : Option Kind) → is_of_kind k o ≡ true → o ≡ Some k
of-kind k None h = absurd cc
of-kind k (Some j) h = ap Some (sym (same-kind k j h))

closed : (k i j q : Kind) → closed_kind k i j ≡ Some q → (k ≡ i) × (k ≡ j) × (k ≡ q)
closed k i j q h = by (is_same_kind k i) refl (is_same_kind k j) refl h
  where
    by : (x : Bool) → is_same_kind k i ≡ x → (y : Bool) → is_same_kind k j ≡ y → then_some (x && y) k ≡ Some q → (k ≡ i) × (k ≡ j) × (k ≡ q)
    by true e true f g = (same-kind k i e, same-kind k j f, cc)
    by true e false f g = absurd cc
    by false e y f g = absurd cc

compared : (i j q : Kind) → comparison_kind i j ≡ Some q → (t : ColType) × (values t ≡ i) × (values t ≡ j) × (truths ≡ q)
compared (values a) (values b) q h = by (is_same_type a b) refl h
  where
    by : (x : Bool) → is_same_type a b ≡ x → then_some x truths ≡ Some q → (t : ColType) × (values t ≡ values a) × (values t ≡ values b) × (truths ≡ q)
    by true e g = (a, refl, ap values (same-type a b e), cc)
    by false e g = absurd cc
compared (values a) truths q h = absurd cc
compared truths j q h = absurd cc

-- VALUES

-- NULL, where it may be
nullable-of : (m : Bool) (t : ColType) (v : Value) → is_datum_of m (values t) (Gives v) ≡ true → is_null v ≡ true → m ≡ true
nullable-of m t (Int z) h e = absurd cc
nullable-of m t (Text s) h e = absurd cc
nullable-of m t Null h e = by t h
  where
    by : (t : ColType) → is_datum_of m (values t) (Gives Null) ≡ true → m ≡ true
    by kind.Int g = and_left m true g
    by kind.Text g = and_left m true g

type-of : (m : Bool) (t : ColType) (v : Value) → is_datum_of m (values t) (Gives v) ≡ true → is_null v ≡ false → same_types (Some t) (value_type v) ≡ true
type-of m t (Int z) h e = or_none _ m h
type-of m t (Text s) h e = or_none _ m h
type-of m t Null h e = absurd cc

-- OPERATIONS

null-of : (m : Bool) (t : ColType) → m ≡ true → is_datum_of m (values t) (Gives Null) ≡ true
null-of m kind.Int h = rw h refl
null-of m kind.Text h = rw h refl

int-given : (m : Bool) (z : ℤ) → IsGiven m (values kind.Int) (int_or_overflow z)
int-given m z = by (is_int64 z)
  where
    by : (b : Bool) → IsGiven m (values kind.Int) (cond b (Ok (Gives (Int z))) (Err Overflow))
    by true = refl
    by false = tt

text-given : (m : Bool) (s : List ℕ) → IsGiven m (values kind.Text) (text_or_too_long s)
text-given m s = by (nat_le (length s) TEXT_MOST)
  where
    by : (b : Bool) → IsGiven m (values kind.Text) (cond b (Ok (Gives (Text s))) (Err TooLong))
    by true = refl
    by false = tt

-- an operation on two values of a type
on-values : (o : Op) (t : ColType) (k : Kind) (m n : Bool) (a b : Result Datum Cause) → IsGiven m (values t) a → IsGiven n (values t) b →
    ((v w : Value) → same_types (Some t) (value_type v) ≡ true → same_types (Some t) (value_type w) ≡ true → IsGiven (m || n) k (of_values o v w)) →
    ((m || n) ≡ true → IsGiven (m || n) k (of_null o)) → IsGiven (m || n) k (operate o a b)
on-values o t k m n (Err c) b ha hb f g = tt
on-values o t k m n (Ok (Holds u)) b ha hb f g = absurd cc
on-values o t k m n (Ok (Gives v)) (Err c) ha hb f g = tt
on-values o t k m n (Ok (Gives v)) (Ok (Holds u)) ha hb f g = absurd cc
on-values o t k m n (Ok (Gives v)) (Ok (Gives w)) ha hb f g = by (is_null v) refl (is_null w) refl
  where
    left : (x y : Bool) → x ≡ true → (x || y) ≡ true
    left true y e = refl
    left false y e = absurd cc

    right : (x y : Bool) → y ≡ true → (x || y) ≡ true
    right true y e = refl
    right false y e = e

    by : (x : Bool) → is_null v ≡ x → (y : Bool) → is_null w ≡ y → IsGiven (m || n) k (cond (x || y) (of_null o) (of_values o v w))
    by true e y h = g (left m n (nullable-of m t v ha e))
    by false e true h = g (right m n (nullable-of n t w hb h))
    by false e false h = f v w (type-of m t v ha e) (type-of n t w hb h)

abbrev Operands : Op → Kind → Type 0
Operands o k = (v w : Value) (m : Bool) → same_types (Some kind.Int) (value_type v) ≡ true → same_types (Some kind.Int) (value_type w) ≡ true → IsGiven m k (of_values o v w)

add-ints : Operands op.Add (values kind.Int)
add-ints (Int x) (Int y) m h g = int-given m (x +ℤ y)
add-ints (Int x) (Text s) m h g = absurd cc
add-ints (Int x) Null m h g = absurd cc
add-ints (Text s) w m h g = absurd cc
add-ints Null w m h g = absurd cc

sub-ints : Operands op.Sub (values kind.Int)
sub-ints (Int x) (Int y) m h g = int-given m (x -ℤ y)
sub-ints (Int x) (Text s) m h g = absurd cc
sub-ints (Int x) Null m h g = absurd cc
sub-ints (Text s) w m h g = absurd cc
sub-ints Null w m h g = absurd cc

mul-ints : Operands op.Mul (values kind.Int)
mul-ints (Int x) (Int y) m h g = int-given m (x *ℤ y)
mul-ints (Int x) (Text s) m h g = absurd cc
mul-ints (Int x) Null m h g = absurd cc
mul-ints (Text s) w m h g = absurd cc
mul-ints Null w m h g = absurd cc

join-texts : (v w : Value) (m : Bool) → same_types (Some kind.Text) (value_type v) ≡ true → same_types (Some kind.Text) (value_type w) ≡ true → IsGiven m (values kind.Text) (of_values op.Join v w)
join-texts (Text s) (Text t) m h g = text-given m (s ++ t)
join-texts (Text s) (Int y) m h g = absurd cc
join-texts (Text s) Null m h g = absurd cc
join-texts (Int x) w m h g = absurd cc
join-texts Null w m h g = absurd cc

-- a connective on two truth values
on-truths : (o : Op) (m n x : Bool) (a b : Result Datum Cause) → ((t : Truth) → IsGiven x truths (with_truth o t b)) → IsGiven m truths a → IsGiven x truths (operate o a b)
on-truths o m n x (Err c) b f ha = tt
on-truths o m n x (Ok (Gives v)) b f ha = absurd cc
on-truths o m n x (Ok (Holds t)) b f ha = f t

and-truths : (n x : Bool) (b : Result Datum Cause) → IsGiven n truths b → (t : Truth) → IsGiven x truths (with_truth op.And t b)
and-truths n x b hb No = refl
and-truths n x (Err c) hb Yes = tt
and-truths n x (Ok (Holds u)) hb Yes = refl
and-truths n x (Ok (Gives v)) hb Yes = absurd cc
and-truths n x (Err c) hb Unknown = tt
and-truths n x (Ok (Holds u)) hb Unknown = refl
and-truths n x (Ok (Gives v)) hb Unknown = absurd cc

or-truths : (n x : Bool) (b : Result Datum Cause) → IsGiven n truths b → (t : Truth) → IsGiven x truths (with_truth op.Or t b)
or-truths n x b hb Yes = refl
or-truths n x (Err c) hb No = tt
or-truths n x (Ok (Holds u)) hb No = refl
or-truths n x (Ok (Gives v)) hb No = absurd cc
or-truths n x (Err c) hb Unknown = tt
or-truths n x (Ok (Holds u)) hb Unknown = refl
or-truths n x (Ok (Gives v)) hb Unknown = absurd cc

module _ (m n : Bool) (a b : Result Datum Cause) where
  abbrev From : Kind → Kind → Type 0
  From i j = IsGiven m i a × IsGiven n j b

  abbrev Into : Op → Kind → Type 0
  Into o k = IsGiven (m || n) k (operate o a b)

  comparing : (o : Op) (i j k : Kind) → comparison_kind i j ≡ Some k → ((v w : Value) → IsGiven (m || n) truths (of_values o v w)) → IsGiven (m || n) truths (of_null o) →
      IsGiven m i a → IsGiven n j b → Into o k
  comparing o i j k h f g ha hb =
      let c = compared i j k h in
      subst (Into o) c.3 (on-values o c.0 truths m n a b (subst (λ x. IsGiven m x a) (sym c.1) ha) (subst (λ x. IsGiven n x b) (sym c.2) hb) (λ v w _ _. f v w) (λ _. g))

  calculating : (o : Op) (t : ColType) (i j k : Kind) → closed_kind (values t) i j ≡ Some k →
      ((v w : Value) → same_types (Some t) (value_type v) ≡ true → same_types (Some t) (value_type w) ≡ true → IsGiven (m || n) (values t) (of_values o v w)) →
      ((m || n) ≡ true → IsGiven (m || n) (values t) (of_null o)) → IsGiven m i a → IsGiven n j b → Into o k
  calculating o t i j k h f g ha hb =
      let c = closed (values t) i j k h in
      subst (Into o) c.2 (on-values o t (values t) m n a b (subst (λ x. IsGiven m x a) (sym c.0) ha) (subst (λ x. IsGiven n x b) (sym c.1) hb) f g)

  connecting : (o : Op) (i j k : Kind) → closed_kind truths i j ≡ Some k → (IsGiven n truths b → (t : Truth) → IsGiven (m || n) truths (with_truth o t b)) → IsGiven m i a → IsGiven n j b → Into o k
  connecting o i j k h f ha hb =
      let c = closed truths i j k h in
      subst (Into o) c.2 (on-truths o m n (m || n) a b (f (subst (λ x. IsGiven n x b) (sym c.1) hb)) (subst (λ x. IsGiven m x a) (sym c.0) ha))

  operating : (o : Op) (i j k : Kind) → operation_kind o i j ≡ Some k → IsGiven m i a → IsGiven n j b → Into o k
  operating op.Or i j k h ha hb = connecting op.Or i j k h (or-truths n (m || n) b) ha hb
  operating op.And i j k h ha hb = connecting op.And i j k h (and-truths n (m || n) b) ha hb
  operating op.Equal i j k h ha hb = comparing op.Equal i j k h (λ v w. refl) refl ha hb
  operating op.Unequal i j k h ha hb = comparing op.Unequal i j k h (λ v w. refl) refl ha hb
  operating op.Less i j k h ha hb = comparing op.Less i j k h (λ v w. refl) refl ha hb
  operating op.AtMost i j k h ha hb = comparing op.AtMost i j k h (λ v w. refl) refl ha hb
  operating op.Greater i j k h ha hb = comparing op.Greater i j k h (λ v w. refl) refl ha hb
  operating op.AtLeast i j k h ha hb = comparing op.AtLeast i j k h (λ v w. refl) refl ha hb
  operating op.Add i j k h ha hb = calculating op.Add kind.Int i j k h (λ v w. add-ints v w (m || n)) (null-of (m || n) kind.Int) ha hb
  operating op.Sub i j k h ha hb = calculating op.Sub kind.Int i j k h (λ v w. sub-ints v w (m || n)) (null-of (m || n) kind.Int) ha hb
  operating op.Mul i j k h ha hb = calculating op.Mul kind.Int i j k h (λ v w. mul-ints v w (m || n)) (null-of (m || n) kind.Int) ha hb
  operating op.Join i j k h ha hb = calculating op.Join kind.Text i j k h (λ v w. join-texts v w (m || n)) (null-of (m || n) kind.Text) ha hb

-- NAMES

pub column-given : (fields : List Field) (row : List Value) (n : List ℕ) (k : Kind) → are_of_columns fields row ≡ true → option_map values (type_named fields n) ≡ Some k →
    IsGiven (is_nullable fields n) k (known (value_named n (named_values fields row)))
column-given [] row n k h e = absurd cc
column-given (f ∷ fields) [] n k h e = absurd cc
column-given (f ∷ fields) (v ∷ row) n k h e = by (same_bytes n f.name) e (column-given fields row n k (and_right (is_of_column f v) _ h))
  where
    by : (b : Bool) → option_map values (option_map (λ (f : Field). f.kind) (cond b (Some f) (field_named fields n))) ≡ Some k →
        (option_map values (type_named fields n) ≡ Some k → IsGiven (is_nullable fields n) k (known (value_named n (named_values fields row)))) →
        IsGiven (elim (cond b (Some f) (field_named fields n)) [ None ↦ false | Some f ↦ f.nullable ]) k (known (cond b (Some v) (value_named n (named_values fields row))))
    by true g more = let same : values f.kind ≡ k = cc in subst (λ j. IsGiven f.nullable j (known (Some v))) same (and_left (is_of_column f v) _ h)
    by false g more = more g

pub variable-given : (fields : List Field) (vs : List Value) (n : List ℕ) (k : Kind) → are_arguments fields vs ≡ true → option_map values (type_named fields n) ≡ Some k →
    IsGiven false k (known (value_named n (named_values fields vs)))
variable-given [] vs n k h e = absurd cc
variable-given (f ∷ fields) [] n k h e = absurd cc
variable-given (f ∷ fields) (v ∷ vs) n k h e = by (same_bytes n f.name) e (variable-given fields vs n k (and_right (same_types (Some f.kind) (value_type v)) _ h))
  where
    own : same_types (Some f.kind) (value_type v) ≡ true
    own = and_left _ _ h

    by : (b : Bool) → option_map values (option_map (λ (f : Field). f.kind) (cond b (Some f) (field_named fields n))) ≡ Some k →
        (option_map values (type_named fields n) ≡ Some k → IsGiven false k (known (value_named n (named_values fields vs)))) →
        IsGiven false k (known (cond b (Some v) (value_named n (named_values fields vs))))
    by true g more = let same : values f.kind ≡ k = cc in subst (λ j. IsGiven false j (known (Some v))) same (rw own refl)
    by false g more = more g

-- EXPRESSIONS

literal-given : (v : Value) (k : Kind) → option_map values (value_type v) ≡ Some k → is_datum_of (is_null v) k (Gives v) ≡ true
literal-given (Int z) k h = let same : values kind.Int ≡ k = cc in subst (λ j. is_datum_of false j (Gives (Int z)) ≡ true) same refl
literal-given (Text s) k h = let same : values kind.Text ≡ k = cc in subst (λ j. is_datum_of false j (Gives (Text s)) ≡ true) same refl
literal-given Null k h = absurd cc

negated-given : (o : Option Kind) (m : Bool) (r : Result Datum Cause) (k : Kind) → ((j : Kind) → o ≡ Some j → IsGiven m j r) →
    then_some (is_of_kind truths o) truths ≡ Some k → IsGiven m k (and_then r negated)
negated-given None m r k each h = absurd cc
negated-given (Some (values t)) m r k each h = absurd cc
negated-given (Some truths) m r k each h = let same : truths ≡ k = cc in subst (λ j. IsGiven m j (and_then r negated)) same (by r (each truths refl))
  where
    by : (r : Result Datum Cause) → IsGiven m truths r → IsGiven m truths (and_then r negated)
    by (Err c) g = tt
    by (Ok (Holds t)) g = refl
    by (Ok (Gives v)) g = absurd cc

tested-given : (o : Option Kind) (m neg : Bool) (r : Result Datum Cause) (k : Kind) → ((j : Kind) → o ≡ Some j → IsGiven m j r) →
    then_some (is_value o) truths ≡ Some k → IsGiven m k (and_then r (null_tested neg))
tested-given None m neg r k each h = absurd cc
tested-given (Some truths) m neg r k each h = absurd cc
tested-given (Some (values t)) m neg r k each h = let same : truths ≡ k = cc in subst (λ j. IsGiven m j (and_then r (null_tested neg))) same (by neg r (each (values t) refl))
  where
    by : (neg : Bool) (r : Result Datum Cause) → IsGiven m (values t) r → IsGiven m truths (and_then r (null_tested neg))
    by neg (Err c) g = tt
    by true (Ok (Gives v)) g = refl
    by false (Ok (Gives v)) g = refl
    by neg (Ok (Holds u)) g = absurd cc

operated-given : (o : Op) (l r : Option Kind) (m n : Bool) (a b : Result Datum Cause) (k : Kind) → ((j : Kind) → l ≡ Some j → IsGiven m j a) → ((j : Kind) → r ≡ Some j → IsGiven n j b) →
    option_and_then (λ i. option_and_then (operation_kind o i) r) l ≡ Some k → IsGiven (m || n) k (operate o a b)
operated-given o None r m n a b k left right h = absurd cc
operated-given o (Some i) None m n a b k left right h = absurd cc
operated-given o (Some i) (Some j) m n a b k left right h = operating m n a b o i j k h (left i refl) (right j refl)

module _ (columns : List Field) (row : List Value) (variables : List Field) (vs : List Value)
    (cells : are_of_columns columns row ≡ true) (held : are_arguments variables vs ≡ true) where
  abbrev seen : Visible
  seen = record { columns = named_values columns row; vars = named_values variables vs }

  pub expression-given : (e : Expr) (k : Kind) → expr_kind columns variables e ≡ Some k → IsGiven (may_be_null columns e) k (eval seen e)
  expression-given (Lit v) k h = literal-given v k h
  expression-given (Column n) k h = column-given columns row n k cells h
  expression-given (Variable n) k h = variable-given variables vs n k held h
  expression-given (Not' _ (more_of-Expr e end_of-Expr)) k h =
      negated-given (expr_kind columns variables e) (may_be_null columns e) (eval seen e) k (expression-given e) h
  expression-given (IsNull' _ (more_of-Expr e end_of-Expr) neg) k h =
      tested-given (expr_kind columns variables e) (may_be_null columns e) neg (eval seen e) k (expression-given e) h
  expression-given (Binary' o _ (more_of-Expr l end_of-Expr) _ (more_of-Expr r end_of-Expr)) k h =
      operated-given o (expr_kind columns variables l) (expr_kind columns variables r) (may_be_null columns l) (may_be_null columns r) (eval seen l) (eval seen r) k
      (expression-given l) (expression-given r) h

  -- what a column takes is of the column
  pub taken : (f : Field) (e : Expr) → takes columns variables f e ≡ true → IfOk (λ v. is_of_column f v ≡ true) (value_of seen e)
  taken f e h = by (is_null_literal e) refl (and_right (f.nullable || not (may_be_null columns e)) _ h)
    where
      may : (f.nullable || not (may_be_null columns e)) ≡ true
      may = and_left _ _ h

      of-null : (t : ColType) → f.nullable ≡ true → is_of_column f Null ≡ true
      of-null t g = nulls f.kind
        where
          nulls : (t : ColType) → (same_types (Some t) None || (f.nullable && true)) ≡ true
          nulls t = rw g refl

      null-taken : (e : Expr) → is_null_literal e ≡ true → (f.nullable || not (may_be_null columns e)) ≡ true → IfOk (λ v. is_of_column f v ≡ true) (value_of seen e)
      null-taken (Lit Null) g m = of-null f.kind (stays f.nullable m)
        where
          stays : (b : Bool) → (b || not true) ≡ true → b ≡ true
          stays true p = refl
          stays false p = p
      null-taken (Lit (Int z)) g m = absurd cc
      null-taken (Lit (Text s)) g m = absurd cc
      null-taken (Column n) g m = absurd cc
      null-taken (Variable n) g m = absurd cc
      null-taken (Not' _ x) g m = absurd cc
      null-taken (IsNull' _ x neg) g m = absurd cc
      null-taken (Binary' o _ x _ y) g m = absurd cc

      wider : (p n b c : Bool) → (n || not b) ≡ true → (p || (b && c)) ≡ true → (p || (n && c)) ≡ true
      wider true n b c g k = refl
      wider false true true c g k = k
      wider false true false c g k = absurd cc
      wider false false true c g k = absurd cc
      wider false false false c g k = absurd cc

      value-taken : (r : Result Datum Cause) → IsGiven (may_be_null columns e) (values f.kind) r → IfOk (λ v. is_of_column f v ≡ true) (and_then r value_in)
      value-taken (Err c) g = tt
      value-taken (Ok (Holds u)) g = absurd cc
      value-taken (Ok (Gives v)) g = wider (same_types (Some f.kind) (value_type v)) f.nullable (may_be_null columns e) (is_null v) may g

      by : (b : Bool) → is_null_literal e ≡ b → (b || gives_type columns variables (Some f.kind) e) ≡ true → IfOk (λ v. is_of_column f v ≡ true) (value_of seen e)
      by true q g = null-taken e q may
      by false q g = value-taken (eval seen e) (expression-given e (values f.kind) (of-kind (values f.kind) (expr_kind columns variables e) g))
