-- In the tokens of a statement no `>` and no `>=` comes behind a minus sign.
use Rattle.salt_ast.specs.Grammar.{Atom, Conjunction, Expression, Left, Nots, Once, Sum, Within, alone, colon, is_not_null, is_null, literal}
use Rattle.salt_ast.specs.Grammar.{minus_int, more, named, not as not_of, one, pair, paren, plain, plus_int}
use Rattle.salt_ast.specs.Statements as form
use Rattle.salt_ast.specs.Statements.{ColumnValue, FollowingBy, IsAnd, IsName, IsScan, IsSet, IsStatement, IsWhat, ListedBy}
use Rattle.salt_ast.specs.declared.trees.Expr.{Expr}
use Rattle.salt_ast.specs.declared.trees.Scan.{Scan}
use Rattle.salt_ast.specs.declared.trees.Statement.{Statement}
use Rattle.salt_ast.specs.Symbols.{Symbols, Symbol, sign}
use Rattle.salt_ast.specs.declared.sign.Sign.TheVariants as mark
use Rattle.salt_ast.specs.declared.sign.Sign.{Sign}
use Rattle.std.proofs.Common.{Bool, List, Option, [], append_assoc, false, refl, suc, true, zero, ℕ, ◌&&◌, ◌++◌, ◌∷◌, ◌≡◌}

abbrev pub is_minus : Symbol → Bool
is_minus (sign mark.Minus) = true
is_minus s = false

abbrev pub is_greater : Symbol → Bool
is_greater (sign mark.Greater) = true
is_greater (sign mark.AtLeast) = true
is_greater s = false

-- no such sign comes behind a minus sign, nor first where a minus sign is before the row
abbrev pub Quiet : Bool → Symbols → Type 0
Quiet m [] = Unit {0}
Quiet m (s ∷ ts) = ((m && is_greater s) ≡ false) × Quiet (is_minus s) ts

quieter : (m : Bool) (ts : Symbols) → Quiet true ts → Quiet m ts
quieter true ts h = h
quieter false [] h = tt
quieter false (s ∷ ts) h = (refl, h.1)

-- so with this row before one, also behind a minus sign
abbrev Firm : Symbols → Type 0
Firm ts = (rest : Symbols) → Quiet false rest → Quiet true (ts ++ rest)

abbrev Calm : Symbols → Type 0
Calm ts = (rest : Symbols) → Quiet false rest → Quiet false (ts ++ rest)

abbrev AreFirm : {A : Type 0} → (Symbols → A → Type 0) → Type 0
AreFirm {A} Form = (ts : Symbols) (e : A) → Form ts e → Firm ts

firm_calm : (ts : Symbols) → Firm ts → Calm ts
firm_calm ts f rest h = quieter false (ts ++ rest) (f rest h)

-- an operation or another symbol between two parts
joined : (a b : Symbols) (t : Symbol) → Firm a → Firm b → Firm (a ++ t ∷ b)
joined a b t f g rest h = rw (append_assoc a (t ∷ b) rest) (f (t ∷ (b ++ rest)) (refl, quieter (is_minus t) (b ++ rest) (g rest h)))

behind : (a b : Symbols) → Firm a → Calm b → Firm (a ++ b)
behind a b f g rest h = rw (append_assoc a b rest) (f (b ++ rest) (g rest h))

calm_behind : (a b : Symbols) → Firm a → Calm b → Calm (a ++ b)
calm_behind a b f g = firm_calm (a ++ b) (behind a b f g)

module _ {I : Symbols → Expr → Type 0} (firm : AreFirm I) where
  left_firm : (level : ℕ) → AreFirm (Left level I)
  left_firm level ts e (one d) = firm ts e d
  left_firm level _ _ (more {a = a} {b = b} {l = l} {r = r} d t is at k) = joined a b t (left_firm level a l d) (firm b r k)

  once_firm : (level : ℕ) → AreFirm (Once level I)
  once_firm level ts e (alone d) = firm ts e d
  once_firm level _ _ (pair {a = a} {b = b} {l = l} {r = r} d t is at k) = joined a b t (firm a l d) (firm b r k)
  once_firm level _ _ (is_null {ts = ts} {e = e} d) = behind ts _ (firm ts e d) (λ more h. (refl, (refl, h)))
  once_firm level _ _ (is_not_null {ts = ts} {e = e} d) = behind ts _ (firm ts e d) (λ more h. (refl, (refl, (refl, h))))

  nots_firm : AreFirm (Nots I)
  nots_firm ts e (plain d) = firm ts e d
  nots_firm _ _ (not_of {ts = ts} {e = e} d) = λ rest h. (refl, quieter false (ts ++ rest) (nots_firm ts e d rest h))

  atom_firm : AreFirm (Atom I)
  atom_firm _ _ plus_int = λ rest h. (refl, h)
  atom_firm _ _ minus_int = λ rest h. (refl, (refl, h))
  atom_firm _ _ literal = λ rest h. (refl, h)
  atom_firm _ _ named = λ rest h. (refl, h)
  atom_firm _ _ colon = λ rest h. (refl, (refl, h))
  atom_firm _ _ (paren {ts = ts} {e = e} d) = λ rest h. (refl, calm_behind ts (sign mark.Close ∷ []) (firm ts e d) (λ more k. (refl, k)) rest h)

module _ {I : Symbols → Expr → Type 0} (firm : AreFirm I) where
  sum_firm : AreFirm (Sum I)
  sum_firm = left_firm (left_firm (atom_firm firm) 5) 4

  conjunction_firm : AreFirm (Conjunction I)
  conjunction_firm = left_firm (nots_firm (once_firm sum_firm 3)) 2

  expression_firm : AreFirm (Expression I)
  expression_firm = left_firm conjunction_firm 1

pub within_firm : (depth : ℕ) → AreFirm (Within depth)
unfolding Within
within_firm zero ts e d = absurd d
within_firm (suc depth) ts e d = expression_firm (within_firm depth) ts e d

-- ---- lists

module _ {A : Type 0} {m : Sign} {Form : Symbols → A → Type 0} (firm : AreFirm Form) where
  following_calm : (ts : Symbols) (xs : List A) → FollowingBy m Form ts xs → Calm ts
  following_calm _ _ form.no_more = λ rest h. h
  following_calm _ _ (form.one_more {a = a} {b = b} {x = x} {xs = xs} d k) =
      λ rest h. (refl, quieter (is_minus (sign m)) ((a ++ b) ++ rest) (behind a b (firm a x d) (following_calm b xs k) rest h))

  listed_firm : (ts : Symbols) (xs : List A) → ListedBy m Form ts xs → Firm ts
  listed_firm _ _ (form.items {a = a} {b = b} {x = x} {xs = xs} d k) = behind a b (firm a x d) (following_calm b xs k)

-- ---- statements

name_firm : AreFirm IsName
name_firm _ _ form.is_name = λ rest h. (refl, h)

what_firm : AreFirm IsWhat
what_firm _ _ form.every_column = λ rest h. (refl, h)
what_firm _ _ (form.named_columns {ts = ts} {ns = ns} d) = listed_firm name_firm ts ns d
what_firm _ _ form.count_rows = λ rest h. (refl, (refl, (refl, (refl, h))))
what_firm _ _ form.sum_of = λ rest h. (refl, (refl, (refl, (refl, h))))
what_firm _ _ form.min_of = λ rest h. (refl, (refl, (refl, (refl, h))))
what_firm _ _ form.max_of = λ rest h. (refl, (refl, (refl, (refl, h))))

module _ {I : Symbols → Expr → Type 0} (firm : AreFirm I) where
  value_firm : AreFirm (ColumnValue I)
  value_firm _ _ (form.is_expression {ts = ts} {e = e} d) = expression_firm firm ts e d
  value_firm _ _ form.is_null = λ rest h. (refl, h)

  set_firm : AreFirm (IsSet I)
  set_firm _ _ (form.is_set {ts = ts} {e = e} d) = λ rest h. (refl, (refl, firm_calm ts (value_firm ts e d) rest h))

  and_calm : (ts : Symbols) (w : Option Expr) → IsAnd I ts w → Calm ts
  and_calm _ _ form.no_and = λ rest h. h
  and_calm _ _ (form.and {ts = ts} {e = e} d) = λ rest h. (refl, firm_calm ts (conjunction_firm firm ts e d) rest h)

  scan_calm : (ts : Symbols) (s : Scan) → IsScan I ts s → Calm ts
  scan_calm _ _ form.no_where = λ rest h. h
  scan_calm _ _ (form.where_key {a = a} {b = b} {e = e} {f = f} d k) =
      λ rest h. (refl, (refl, (refl, calm_behind a b (sum_firm firm a e d) (and_calm b f k) rest h)))
  scan_calm _ _ (form.where_between {a = a} {b = b} {c = c} {low = low} {high = high} {f = f} d k w) = λ rest h. (
    refl,
    (
      refl,
      (
        refl,
        calm_behind a _ (sum_firm firm a low d)
            (λ more m. (refl, calm_behind b c (sum_firm firm b high k) (and_calm c f w) more m)) rest h,
      ),
    ),
  )
  scan_calm _ _ (form.where_filter {ts = ts} {e = e} d) = λ rest h. (refl, firm_calm ts (expression_firm firm ts e d) rest h)

pub statement_calm : {I J : Symbols → Expr → Type 0} → AreFirm I → AreFirm J → (ts : Symbols) (st : Statement) → IsStatement I J ts st → Calm ts
statement_calm f g _ _ (form.is_insert {ts = ts} {es = es} d) = λ rest h.
    (refl, (refl, (refl, (refl, (refl, calm_behind ts (sign mark.Close ∷ []) (listed_firm (value_firm g) ts es d) (λ more k. (refl, k)) rest h)))))
statement_calm f g _ _ (form.is_select {t = t} {a = a} {b = b} {w = w} {scan = scan} d k) =
    λ rest h. (refl, calm_behind a _ (what_firm a w d) (λ more m. (refl, (refl, scan_calm f b scan k more m))) rest h)
statement_calm f g _ _ (form.is_select_into {ts = ts} {e = e} d) =
    λ rest h. (refl, (refl, (refl, (refl, (refl, (refl, (refl, (refl, (refl, (refl, firm_calm ts (sum_firm f ts e d) rest h))))))))))
statement_calm f g _ _ (form.is_update {a = a} {b = b} {sets = sets} {scan = scan} d k) =
    λ rest h. (refl, (refl, (refl, calm_behind a b (listed_firm (set_firm f) a sets d) (scan_calm f b scan k) rest h)))
statement_calm f g _ _ (form.is_delete {ts = ts} {scan = scan} d) = λ rest h. (refl, (refl, (refl, scan_calm f ts scan d rest h)))
statement_calm f g _ _ (form.is_ensure {ts = ts} {e = e} d) = λ rest h. (refl, firm_calm ts (expression_firm f ts e d) rest h)
