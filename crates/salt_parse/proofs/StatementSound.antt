-- The statements and tables that are found are spelled so.
use Rattle.std.proofs.Common.{◌≡◌, ℕ, Bool, true, false, cond, List, [], ◌∷◌, ◌++◌, length, Option, Some, None, refl, sym, ap, ◌∙◌}
use Rattle.std.proofs.Common.{append_assoc}
use Rattle.salt_ast.specs.Statements as form
use Rattle.salt_ast.specs.Statements.{ColumnValue, Following, IsAnd, IsName, IsScan, IsSet, IsStatement, IsWhat, Listed}
use Rattle.salt_ast.specs.Tables as table
use Rattle.salt_ast.specs.Tables.{IsCheck, IsColumn, IsField, IsTable}
use Rattle.salt_ast.specs.Trees.{null}
use Rattle.salt_ast.specs.declared.trees.Bound.TheVariants as bound
use Rattle.salt_ast.specs.declared.trees.ColType.{ColType}
use Rattle.salt_ast.specs.declared.trees.ColType.TheVariants as kind
use Rattle.salt_ast.specs.declared.trees.Expr.{Expr}
use Rattle.salt_ast.specs.declared.trees.Field.{Field}
use Rattle.salt_ast.specs.declared.trees.Statement.TheVariants as statement
use Rattle.salt_ast.specs.declared.trees.What.TheVariants as what
use Rattle.salt_parse.specs.Lists.{comma}
use Rattle.salt_parse.specs.Reading.{after, either}
use Rattle.salt_parse.specs.StatementReading.{is_into}
use Rattle.salt_parse.specs.TableReading.{field_comma, kind_at}
use Rattle.salt_parse.proofs.ExpressionLaws.{Sound, bind_is, conjunction_sound, either_is, expression_sound, some_is, sum_sound}
use Rattle.salt_parse.proofs.ListLaws.{SoundFor, by_sign, following_sound, listed_by_sign, listed_sound, renamed}
use Rattle.salt_parse.proofs.Loop.{after_is}
use Rattle.salt_parse.proofs.StatementTrees.{aggregate_of, ahead, and_of, between_of, bound_of, change_of, check_of, checks_of, column_of, columns_of, count_of}
use Rattle.salt_parse.proofs.StatementTrees.{definition_of, delete_of, enclosed_of, ensure_of, equal_of, field_of, fields_of, filter_of, following_of}
use Rattle.salt_parse.proofs.StatementTrees.{insert_of, into_of, largest_of, least_of, listed_of, name_of, names_of, nullable_of, only_key_of, scan_of}
use Rattle.salt_parse.proofs.StatementTrees.{select_into_of, select_of, select_rows_of, set_of, sets_of, statement_of, table_of, total_of, update_of}
use Rattle.salt_parse.proofs.StatementTrees.{value_of, values_of, what_of, where_of}
use Rattle.salt_parse.proofs.Trees.{TreeReader, conjunction_of, expression_of, sum_of}
use Rattle.salt_ast.specs.Scanning.{◌>>=◌}
use Rattle.salt_ast.specs.Symbols.{Symbols, Symbol, key, name, sign}
use Rattle.salt_ast.specs.declared.keyword.Keyword.TheVariants as word
use Rattle.salt_ast.specs.declared.sign.Sign.TheVariants as mark

-- what is found is spelled by the symbols that were taken, where these symbols were taken before
abbrev pub SoundBehind : {A : Type 0} → Symbols → (Symbols → A → Type 0) → TreeReader A → Type 0
SoundBehind {A} before G find = (ts : Symbols) (x : A) (rest : Symbols) → find ts ≡ Some (x, rest) →
    (front : Symbols) × (before ++ ts ≡ front ++ rest) × G front x

name_is : (ts : Symbols) (n : List ℕ) (rest : Symbols) → name_of ts ≡ Some (n, rest) → ts ≡ name n ∷ rest
name_is (name m ∷ ts) n rest h = let p = some_is (m, ts) (n, rest) h in rw (ap (λ (x : List ℕ × Symbols). x.0) p, ap (λ (x : List ℕ × Symbols). x.1) p) refl
name_is _ n rest h = absurd cc

pub name_sound : SoundFor IsName name_of
name_sound ts n rest h = (name n ∷ [], name_is ts n rest h, form.is_name)

-- ---- lists

pub comma_is : (ts us : Symbols) → comma ts ≡ Some us → ts ≡ sign mark.Comma ∷ us
comma_is ts us h = after_is (sign mark.Comma) ts us h

module _ {A : Type 0} (G : Symbols → A → Type 0) (find : TreeReader A) (s : SoundFor G find) where
  commas_sound : SoundFor (Listed G) (listed_of comma find)
  commas_sound ts xs rest h =
      let r = listed_sound (sign mark.Comma) comma comma_is G find s ts xs rest h in
      (r.0, r.1, listed_by_sign r.2)

names_sound : SoundFor (Listed IsName) names_of
names_sound ts xs rest h = commas_sound IsName name_of name_sound ts xs rest h

-- ---- what a SELECT shows

-- a name in parentheses
enclosed_is : (ts : Symbols) (n : List ℕ) (rest : Symbols) → enclosed_of ts ≡ Some (n, rest) → ts ≡ sign mark.Open ∷ name n ∷ sign mark.Close ∷ rest
enclosed_is ts n rest h =
    bind_is (after (sign mark.Open) ts) (λ us. name_of us >>= λ n. after (sign mark.Close) n.1 >>= λ vs. Some (n.0, vs)) (n, rest) _ h (λ a a_is a_goes.
    bind_is (name_of a) (λ n. after (sign mark.Close) n.1 >>= λ vs. Some (n.0, vs)) (n, rest) _ a_goes (λ b b_is b_goes.
    bind_is (after (sign mark.Close) b.1) (λ vs. Some (b.0, vs)) (n, rest) _ b_goes (λ c c_is c_goes.
    let p = some_is (b.0, c) (n, rest) c_goes in
    let closed : b.1 ≡ sign mark.Close ∷ rest = after_is (sign mark.Close) b.1 c c_is ∙ ap (λ (x : List ℕ × Symbols). sign mark.Close ∷ x.1) p in
    let named : a ≡ name n ∷ sign mark.Close ∷ rest = name_is a b.0 b.1 b_is ∙ (λ t. name (p t).0 ∷ closed t) in
    after_is (sign mark.Open) ts a a_is ∙ ap (λ (x : Symbols). sign mark.Open ∷ x) named)))

total_sound : SoundBehind (key word.Sum ∷ []) IsWhat total_of
total_sound ts x rest h =
    bind_is (enclosed_of ts) (λ n. Some (what.Sum n.0, n.1)) (x, rest) _ h (λ b b_is b_goes.
    let front : Symbols = key word.Sum ∷ sign mark.Open ∷ name b.0 ∷ sign mark.Close ∷ [] in
    renamed IsWhat (key word.Sum ∷ ts) front (what.Sum b.0) b.1 x rest b_goes
    (ap (λ (z : Symbols). key word.Sum ∷ z) (enclosed_is ts b.0 b.1 b_is)) form.sum_of)

least_sound : SoundBehind (key word.Min ∷ []) IsWhat least_of
least_sound ts x rest h =
    bind_is (enclosed_of ts) (λ n. Some (what.Min n.0, n.1)) (x, rest) _ h (λ b b_is b_goes.
    let front : Symbols = key word.Min ∷ sign mark.Open ∷ name b.0 ∷ sign mark.Close ∷ [] in
    renamed IsWhat (key word.Min ∷ ts) front (what.Min b.0) b.1 x rest b_goes
    (ap (λ (z : Symbols). key word.Min ∷ z) (enclosed_is ts b.0 b.1 b_is)) form.min_of)

largest_sound : SoundBehind (key word.Max ∷ []) IsWhat largest_of
largest_sound ts x rest h =
    bind_is (enclosed_of ts) (λ n. Some (what.Max n.0, n.1)) (x, rest) _ h (λ b b_is b_goes.
    let front : Symbols = key word.Max ∷ sign mark.Open ∷ name b.0 ∷ sign mark.Close ∷ [] in
    renamed IsWhat (key word.Max ∷ ts) front (what.Max b.0) b.1 x rest b_goes
    (ap (λ (z : Symbols). key word.Max ∷ z) (enclosed_is ts b.0 b.1 b_is)) form.max_of)

columns_sound : SoundFor IsWhat columns_of
columns_sound ts x rest h =
    bind_is (names_of ts) (λ ns. Some (what.Columns ns.0, ns.1)) (x, rest) _ h (λ b b_is b_goes.
    let r = names_sound ts b.0 b.1 b_is in
    renamed IsWhat ts r.0 (what.Columns b.0) b.1 x rest b_goes r.1 (form.named_columns r.2))

count_sound : SoundBehind (key word.Count ∷ []) IsWhat count_of
count_sound ts x rest h =
    bind_is (after (sign mark.Open) ts) (λ us. after (sign mark.Star) us >>= λ vs. after (sign mark.Close) vs >>= λ ws. Some (what.Count, ws)) (x, rest) _ h (λ a a_is a_goes.
    bind_is (after (sign mark.Star) a) (λ vs. after (sign mark.Close) vs >>= λ ws. Some (what.Count, ws)) (x, rest) _ a_goes (λ b b_is b_goes.
    bind_is (after (sign mark.Close) b) (λ ws. Some (what.Count, ws)) (x, rest) _ b_goes (λ c c_is c_goes.
    let starred : a ≡ sign mark.Star ∷ sign mark.Close ∷ c = after_is (sign mark.Star) a b b_is
    ∙ ap (λ (z : Symbols). sign mark.Star ∷ z) (after_is (sign mark.Close) b c c_is) in
    renamed IsWhat (key word.Count ∷ ts) (key word.Count ∷ sign mark.Open ∷ sign mark.Star ∷ sign mark.Close ∷ []) what.Count c x rest c_goes
    (ap (λ (z : Symbols). key word.Count ∷ z) (after_is (sign mark.Open) ts a a_is ∙ ap (λ (z : Symbols). sign mark.Open ∷ z) starred)) form.count_rows)))

-- behind a keyword or a sign
behind : {A : Type 0} (G : Symbols → A → Type 0) (find : TreeReader A) (t : Symbol) → SoundBehind (t ∷ []) G find →
    (ts us : Symbols) (x : A) (rest : Symbols) → after t ts ≡ Some us → find us ≡ Some (x, rest) → (front : Symbols) × (ts ≡ front ++ rest) × G front x
behind G find t s ts us x rest a h = let r = s us x rest h in (r.0, after_is t ts us a ∙ r.1, r.2)

aggregate_sound : SoundFor IsWhat aggregate_of
aggregate_sound ts x rest h =
    either_is (after (key word.Sum) ts)
    (either (after (key word.Min) ts) (either (after (key word.Max) ts) (columns_of ts) largest_of) least_of) total_of (x, rest) _ h
    (λ none e. either_is (after (key word.Min) ts) (either (after (key word.Max) ts) (columns_of ts) largest_of) least_of (x, rest) _ e
    (λ none e. either_is (after (key word.Max) ts) (columns_of ts) largest_of (x, rest) _ e (λ none e. columns_sound ts x rest e)
    (λ us some e. behind IsWhat largest_of (key word.Max) largest_sound ts us x rest some e))
    (λ us some e. behind IsWhat least_of (key word.Min) least_sound ts us x rest some e))
    (λ us some e. behind IsWhat total_of (key word.Sum) total_sound ts us x rest some e)

what_sound : SoundFor IsWhat what_of
what_sound ts x rest h =
    either_is (after (sign mark.Star) ts) (either (after (key word.Count) ts) (aggregate_of ts) count_of) (λ us. Some (what.All, us)) (x, rest) _ h
    (λ none e. either_is (after (key word.Count) ts) (aggregate_of ts) count_of (x, rest) _ e (λ none e. aggregate_sound ts x rest e)
    (λ us some e. behind IsWhat count_of (key word.Count) count_sound ts us x rest some e))
    (λ us some e. renamed IsWhat ts (sign mark.Star ∷ []) what.All us x rest e (after_is (sign mark.Star) ts us some) form.every_column)

into_is : (ts : Symbols) (x : List ℕ × List ℕ) (rest : Symbols) → into_of ts ≡ Some (x, rest) →
    ts ≡ name x.0 ∷ key word.Into ∷ sign mark.Colon ∷ name x.1 ∷ rest
into_is ts x rest h =
    bind_is (name_of ts) (λ c. after (key word.Into) c.1 >>= λ us. after (sign mark.Colon) us >>= λ vs. name_of vs >>= λ v. Some
    ((c.0, v.0), v.1)) (x, rest) _ h (λ a a_is a_goes.
    bind_is (after (key word.Into) a.1) (λ us. after (sign mark.Colon) us >>= λ vs. name_of vs >>= λ v. Some ((a.0, v.0), v.1)) (x, rest) _ a_goes (λ b b_is b_goes.
    bind_is (after (sign mark.Colon) b) (λ vs. name_of vs >>= λ v. Some ((a.0, v.0), v.1)) (x, rest) _ b_goes (λ c c_is c_goes.
    bind_is (name_of c) (λ v. Some ((a.0, v.0), v.1)) (x, rest) _ c_goes (λ d d_is d_goes.
    let p = some_is ((a.0, d.0), d.1) (x, rest) d_goes in
    let var : c ≡ name x.1 ∷ rest = name_is c d.0 d.1 d_is ∙ (λ t. name (p t).0.1 ∷ (p t).1) in
    let into : a.1 ≡ key word.Into ∷ sign mark.Colon ∷ name x.1 ∷ rest = after_is (key word.Into) a.1 b b_is
    ∙ ap (λ (z : Symbols). key word.Into ∷ z) (after_is (sign mark.Colon) b c c_is ∙ ap (λ (z : Symbols). sign mark.Colon ∷ z) var) in
    name_is ts a.0 a.1 a_is ∙ (λ t. name (p t).0.0 ∷ into t)))))

module _ (Inner : Symbols → Expr → Type 0) (find : TreeReader Expr) (s : Sound Inner find) where
  some_and_sound : SoundBehind (key word.And ∷ []) (IsAnd Inner) (λ us. conjunction_of find us >>= λ x. Some (Some x.0, x.1))
  some_and_sound ts x rest h =
      bind_is (conjunction_of find ts) (λ v. Some (Some v.0, v.1)) (x, rest) _ h (λ b0 b0_is b0_goes.
      let s0 = conjunction_sound Inner find s ts b0.0 b0.1 b0_is in
      let q0 : ts ≡ (s0.0) ++ b0.1 = s0.1 in
      renamed (IsAnd Inner) (key word.And ∷ ts) (key word.And ∷ (s0.0)) (Some b0.0) b0.1 x rest b0_goes (ap (λ (z : Symbols). key word.And ∷ z) q0)
      (form.and s0.2))

  and_sound : SoundFor (IsAnd Inner) (and_of find)
  and_sound ts x rest h =
      either_is (after (key word.And) ts) (Some (None, ts)) (λ us. conjunction_of find us >>= λ x. Some (Some x.0, x.1)) (x, rest) _ h
      (λ none e. renamed (IsAnd Inner) ts [] None ts x rest e refl form.no_and)
      (λ us some e. behind (IsAnd Inner) (λ us. conjunction_of find us >>= λ x. Some (Some x.0, x.1)) (key word.And) some_and_sound ts us x rest some e)

  equal_sound : SoundBehind (key word.Where ∷ key word.Key ∷ []) (IsScan Inner) (equal_of find)
  equal_sound ts x rest h =
      bind_is (after (sign mark.Equal) ts) (λ v. sum_of find v >>= λ v1. and_of find v1.1 >>= λ v2. Some (record { bound = bound.Key v1.0; filter = v2.0 }, v2.1)) (x, rest) _ h (λ b0 b0_is b0_goes.
      bind_is (sum_of find b0) (λ v. and_of find v.1 >>= λ v2. Some (record { bound = bound.Key v.0; filter = v2.0 }, v2.1)) (x, rest) _ b0_goes (λ b1 b1_is b1_goes.
      let s1 = sum_sound Inner find s b0 b1.0 b1.1 b1_is in
      bind_is (and_of find b1.1) (λ v. Some (record { bound = bound.Key b1.0; filter = v.0 }, v.1)) (x, rest) _ b1_goes (λ b2 b2_is b2_goes.
      let s2 = and_sound b1.1 b2.0 b2.1 b2_is in
      let q2 : b1.1 ≡ (s2.0) ++ b2.1 = s2.1 in
      let q1 : b0 ≡ (s1.0 ++ s2.0) ++ b2.1 = s1.1 ∙ ap (λ (z : Symbols). s1.0 ++ z) q2 ∙ sym (append_assoc s1.0 (s2.0) b2.1) in
      let q0 : ts ≡ (sign mark.Equal ∷ (s1.0 ++ s2.0)) ++ b2.1 = after_is (sign mark.Equal) ts b0 b0_is ∙ ap (λ (z : Symbols). sign mark.Equal ∷ z) q1 in
      renamed (IsScan Inner) (key word.Where ∷ key word.Key ∷ ts) (key word.Where ∷ key word.Key ∷ (sign mark.Equal ∷ (s1.0 ++ s2.0)))
      (record { bound = bound.Key b1.0; filter = b2.0 }) b2.1 x rest b2_goes (ap (λ (z : Symbols). key word.Where ∷ key word.Key ∷ z) q0)
      (form.where_key s1.2 s2.2))))

  between_sound : SoundBehind (key word.Where ∷ key word.Key ∷ key word.Between ∷ []) (IsScan Inner) (between_of find)
  between_sound ts x rest h =
      bind_is (sum_of find ts) (λ v. after (key word.And) v.1 >>= λ v1. sum_of find v1 >>= λ v2. and_of find v2.1 >>= λ v3. Some
      (record { bound = bound.Between v.0 v2.0; filter = v3.0 }, v3.1)) (x, rest) _ h (λ b0 b0_is b0_goes.
      let s0 = sum_sound Inner find s ts b0.0 b0.1 b0_is in
      bind_is (after (key word.And) b0.1) (λ v. sum_of find v >>= λ v2. and_of find v2.1 >>= λ v3. Some (record { bound = bound.Between b0.0 v2.0; filter = v3.0 }, v3.1)) (x, rest) _ b0_goes (λ b1 b1_is b1_goes.
      bind_is (sum_of find b1) (λ v. and_of find v.1 >>= λ v3. Some (record { bound = bound.Between b0.0 v.0; filter = v3.0 }, v3.1)) (x, rest) _ b1_goes (λ b2 b2_is b2_goes.
      let s2 = sum_sound Inner find s b1 b2.0 b2.1 b2_is in
      bind_is (and_of find b2.1) (λ v. Some (record { bound = bound.Between b0.0 b2.0; filter = v.0 }, v.1)) (x, rest) _ b2_goes (λ b3 b3_is b3_goes.
      let s3 = and_sound b2.1 b3.0 b3.1 b3_is in
      let q3 : b2.1 ≡ (s3.0) ++ b3.1 = s3.1 in
      let q2 : b1 ≡ (s2.0 ++ s3.0) ++ b3.1 = s2.1 ∙ ap (λ (z : Symbols). s2.0 ++ z) q3 ∙ sym (append_assoc s2.0 (s3.0) b3.1) in
      let q1 : b0.1 ≡ (key word.And ∷ (s2.0 ++ s3.0)) ++ b3.1 = after_is (key word.And) b0.1 b1 b1_is ∙ ap (λ (z : Symbols). key word.And ∷ z) q2 in
      let q0 : ts ≡ (s0.0 ++ (key word.And ∷ (s2.0 ++ s3.0))) ++ b3.1 = s0.1 ∙ ap (λ (z : Symbols). s0.0 ++ z) q1
      ∙ sym (append_assoc s0.0 (key word.And ∷ (s2.0 ++ s3.0)) b3.1) in
      renamed (IsScan Inner) (key word.Where ∷ key word.Key ∷ key word.Between ∷ ts)
      (key word.Where ∷ key word.Key ∷ key word.Between ∷ (s0.0 ++ (key word.And ∷ (s2.0 ++ s3.0))))
      (record { bound = bound.Between b0.0 b2.0; filter = b3.0 }) b3.1 x rest b3_goes
      (ap (λ (z : Symbols). key word.Where ∷ key word.Key ∷ key word.Between ∷ z) q0) (form.where_between s0.2 s2.2 s3.2)))))

  filter_sound : SoundBehind (key word.Where ∷ []) (IsScan Inner) (filter_of find)
  filter_sound ts x rest h =
      bind_is (expression_of find ts) (λ v. Some (record { bound = bound.All; filter = Some v.0 }, v.1)) (x, rest) _ h (λ b0 b0_is b0_goes.
      let s0 = expression_sound Inner find s ts b0.0 b0.1 b0_is in
      let q0 : ts ≡ (s0.0) ++ b0.1 = s0.1 in
      renamed (IsScan Inner) (key word.Where ∷ ts) (key word.Where ∷ (s0.0)) (record { bound = bound.All; filter = Some b0.0 }) b0.1 x rest b0_goes
      (ap (λ (z : Symbols). key word.Where ∷ z) q0) (form.where_filter s0.2))

  bound_sound : SoundBehind (key word.Where ∷ key word.Key ∷ []) (IsScan Inner) (bound_of find)
  bound_sound ts x rest h =
      either_is (after (key word.Between) ts) (equal_of find ts) (between_of find) (x, rest) _ h
      (λ none e. equal_sound ts x rest e)
      (λ us some e. let r = between_sound us x rest e in
      (r.0, ap (λ (z : Symbols). key word.Where ∷ key word.Key ∷ z) (after_is (key word.Between) ts us some) ∙ r.1, r.2))

  where_sound : SoundBehind (key word.Where ∷ []) (IsScan Inner) (where_of find)
  where_sound ts x rest h =
      either_is (after (key word.Key) ts) (filter_of find ts) (bound_of find) (x, rest) _ h
      (λ none e. filter_sound ts x rest e)
      (λ us some e. let r = bound_sound us x rest e in (r.0, ap (λ (z : Symbols). key word.Where ∷ z) (after_is (key word.Key) ts us some) ∙ r.1, r.2))

  scan_sound : SoundFor (IsScan Inner) (scan_of find)
  scan_sound ts x rest h =
      either_is (after (key word.Where) ts) (Some (record { bound = bound.All; filter = None }, ts)) (where_of find) (x, rest) _ h
      (λ none e. renamed (IsScan Inner) ts [] (record { bound = bound.All; filter = None }) ts x rest e refl form.no_where)
      (λ us some e. behind (IsScan Inner) (where_of find) (key word.Where) where_sound ts us x rest some e)

  value_sound : SoundFor (ColumnValue Inner) (value_of find)
  value_sound ts x rest h =
      either_is (after (key word.Null) ts) (expression_of find ts) (λ us. Some (null, us)) (x, rest) _ h
      (λ none e. let r = expression_sound Inner find s ts x rest e in (r.0, r.1, form.is_expression r.2))
      (λ us some e. renamed (ColumnValue Inner) ts (key word.Null ∷ []) null us x rest e (after_is (key word.Null) ts us some) form.is_null)

  values_sound : SoundFor (Listed (ColumnValue Inner)) (values_of find)
  values_sound ts x rest h = commas_sound (ColumnValue Inner) (value_of find) value_sound ts x rest h

  set_sound : SoundFor (IsSet Inner) (set_of find)
  set_sound ts x rest h =
      bind_is (name_of ts) (λ v. after (sign mark.Equal) v.1 >>= λ v1. value_of find v1 >>= λ v2. Some (record { column = v.0; value = v2.0 }, v2.1)) (x, rest) _ h (λ b0 b0_is b0_goes.
      let s0 = name_is ts b0.0 b0.1 b0_is in
      bind_is (after (sign mark.Equal) b0.1) (λ v. value_of find v >>= λ v2. Some (record { column = b0.0; value = v2.0 }, v2.1)) (x, rest) _ b0_goes (λ b1 b1_is b1_goes.
      bind_is (value_of find b1) (λ v. Some (record { column = b0.0; value = v.0 }, v.1)) (x, rest) _ b1_goes (λ b2 b2_is b2_goes.
      let s2 = value_sound b1 b2.0 b2.1 b2_is in
      let q2 : b1 ≡ (s2.0) ++ b2.1 = s2.1 in
      let q1 : b0.1 ≡ (sign mark.Equal ∷ s2.0) ++ b2.1 = after_is (sign mark.Equal) b0.1 b1 b1_is ∙ ap (λ (z : Symbols). sign mark.Equal ∷ z) q2 in
      let q0 : ts ≡ (name b0.0 ∷ sign mark.Equal ∷ s2.0) ++ b2.1 = s0 ∙ ap (λ (z : Symbols). name b0.0 ∷ z) q1 in
      renamed (IsSet Inner) (ts) (name b0.0 ∷ sign mark.Equal ∷ s2.0) (record { column = b0.0; value = b2.0 }) b2.1 x rest b2_goes q0 (form.is_set s2.2))))

  sets_sound : SoundFor (Listed (IsSet Inner)) (sets_of find)
  sets_sound ts x rest h = commas_sound (IsSet Inner) (set_of find) set_sound ts x rest h

module _ (Outer : Symbols → Expr → Type 0) (Inner : Symbols → Expr → Type 0) (find : TreeReader Expr) (s : Sound Inner find) where
  insert_sound : SoundBehind (key word.Insert ∷ []) (IsStatement Outer Inner) (insert_of find)
  insert_sound ts x rest h =
      bind_is (after (key word.Into) ts) (λ v. name_of v >>= λ v1. after (key word.Values) v1.1 >>= λ v2. after (sign mark.Open) v2 >>= λ v3. values_of find v3 >>= λ v4. after
      (sign mark.Close) v4.1 >>= λ v5. Some (statement.Insert v1.0 v4.0, v5)) (x, rest) _ h (λ b0 b0_is b0_goes.
      bind_is (name_of b0) (λ v. after (key word.Values) v.1 >>= λ v2. after (sign mark.Open) v2 >>= λ v3. values_of find v3 >>= λ v4. after
      (sign mark.Close) v4.1 >>= λ v5. Some (statement.Insert v.0 v4.0, v5)) (x, rest) _ b0_goes (λ b1 b1_is b1_goes.
      let s1 = name_is b0 b1.0 b1.1 b1_is in
      bind_is (after (key word.Values) b1.1) (λ v. after (sign mark.Open) v >>= λ v3. values_of find v3 >>= λ v4. after (sign mark.Close) v4.1 >>= λ v5. Some
      (statement.Insert b1.0 v4.0, v5)) (x, rest) _ b1_goes (λ b2 b2_is b2_goes.
      bind_is (after (sign mark.Open) b2) (λ v. values_of find v >>= λ v4. after (sign mark.Close) v4.1 >>= λ v5. Some (statement.Insert b1.0 v4.0, v5)) (x, rest) _ b2_goes (λ b3 b3_is b3_goes.
      bind_is (values_of find b3) (λ v. after (sign mark.Close) v.1 >>= λ v5. Some (statement.Insert b1.0 v.0, v5)) (x, rest) _ b3_goes (λ b4 b4_is b4_goes.
      let s4 = values_sound Inner find s b3 b4.0 b4.1 b4_is in
      bind_is (after (sign mark.Close) b4.1) (λ v. Some (statement.Insert b1.0 b4.0, v)) (x, rest) _ b4_goes (λ b5 b5_is b5_goes.
      let q5 : b4.1 ≡ (sign mark.Close ∷ []) ++ b5 = after_is (sign mark.Close) b4.1 b5 b5_is in
      let q4 : b3 ≡ (s4.0 ++ (sign mark.Close ∷ [])) ++ b5 = s4.1 ∙ ap (λ (z : Symbols). s4.0 ++ z) q5
      ∙ sym (append_assoc s4.0 (sign mark.Close ∷ []) b5) in
      let q3 : b2 ≡ (sign mark.Open ∷ (s4.0 ++ (sign mark.Close ∷ []))) ++ b5 = after_is (sign mark.Open) b2 b3 b3_is
      ∙ ap (λ (z : Symbols). sign mark.Open ∷ z) q4 in
      let q2 : b1.1 ≡ (key word.Values ∷ (sign mark.Open ∷ (s4.0 ++ (sign mark.Close ∷ [])))) ++ b5 = after_is (key word.Values) b1.1 b2 b2_is
      ∙ ap (λ (z : Symbols). key word.Values ∷ z) q3 in
      let q1 : b0 ≡ (name b1.0 ∷ (key word.Values ∷ (sign mark.Open ∷ (s4.0 ++ (sign mark.Close ∷ []))))) ++ b5 = s1
      ∙ ap (λ (z : Symbols). name b1.0 ∷ z) q2 in
      let q0 : ts ≡ (key word.Into ∷ (name b1.0 ∷ (key word.Values ∷ (sign mark.Open ∷ (s4.0 ++ (sign mark.Close ∷ [])))))) ++ b5 = after_is
      (key word.Into) ts b0 b0_is ∙ ap (λ (z : Symbols). key word.Into ∷ z) q1 in
      renamed (IsStatement Outer Inner) (key word.Insert ∷ ts)
      (key word.Insert ∷ (key word.Into ∷ (name b1.0 ∷ (key word.Values ∷ (sign mark.Open ∷ (s4.0 ++ (sign mark.Close ∷ [])))))))
      (statement.Insert b1.0 b4.0) b5 x rest b5_goes (ap (λ (z : Symbols). key word.Insert ∷ z) q0) (form.is_insert s4.2)))))))

module _ (Inner Deeper : Symbols → Expr → Type 0) (find : TreeReader Expr) (s : Sound Inner find) where
  update_sound : SoundBehind (key word.Update ∷ []) (IsStatement Inner Deeper) (update_of find)
  update_sound ts x rest h =
      bind_is (name_of ts) (λ v. after (key word.Set) v.1 >>= λ v1. sets_of find v1 >>= λ v2. scan_of find v2.1 >>= λ v3. Some (statement.Update v.0 v2.0 v3.0, v3.1)) (x, rest) _ h (λ b0 b0_is b0_goes.
      let s0 = name_is ts b0.0 b0.1 b0_is in
      bind_is (after (key word.Set) b0.1) (λ v. sets_of find v >>= λ v2. scan_of find v2.1 >>= λ v3. Some (statement.Update b0.0 v2.0 v3.0, v3.1)) (x, rest) _ b0_goes (λ b1 b1_is b1_goes.
      bind_is (sets_of find b1) (λ v. scan_of find v.1 >>= λ v3. Some (statement.Update b0.0 v.0 v3.0, v3.1)) (x, rest) _ b1_goes (λ b2 b2_is b2_goes.
      let s2 = sets_sound Inner find s b1 b2.0 b2.1 b2_is in
      bind_is (scan_of find b2.1) (λ v. Some (statement.Update b0.0 b2.0 v.0, v.1)) (x, rest) _ b2_goes (λ b3 b3_is b3_goes.
      let s3 = scan_sound Inner find s b2.1 b3.0 b3.1 b3_is in
      let q3 : b2.1 ≡ (s3.0) ++ b3.1 = s3.1 in
      let q2 : b1 ≡ (s2.0 ++ s3.0) ++ b3.1 = s2.1 ∙ ap (λ (z : Symbols). s2.0 ++ z) q3 ∙ sym (append_assoc s2.0 (s3.0) b3.1) in
      let q1 : b0.1 ≡ (key word.Set ∷ (s2.0 ++ s3.0)) ++ b3.1 = after_is (key word.Set) b0.1 b1 b1_is ∙ ap (λ (z : Symbols). key word.Set ∷ z) q2 in
      let q0 : ts ≡ (name b0.0 ∷ (key word.Set ∷ (s2.0 ++ s3.0))) ++ b3.1 = s0 ∙ ap (λ (z : Symbols). name b0.0 ∷ z) q1 in
      renamed (IsStatement Inner Deeper) (key word.Update ∷ ts) (key word.Update ∷ (name b0.0 ∷ (key word.Set ∷ (s2.0 ++ s3.0))))
      (statement.Update b0.0 b2.0 b3.0) b3.1 x rest b3_goes (ap (λ (z : Symbols). key word.Update ∷ z) q0) (form.is_update s2.2 s3.2)))))

  delete_sound : SoundBehind (key word.Delete ∷ []) (IsStatement Inner Deeper) (delete_of find)
  delete_sound ts x rest h =
      bind_is (after (key word.From) ts) (λ v. name_of v >>= λ v1. scan_of find v1.1 >>= λ v2. Some (statement.Delete v1.0 v2.0, v2.1)) (x, rest) _ h (λ b0 b0_is b0_goes.
      bind_is (name_of b0) (λ v. scan_of find v.1 >>= λ v2. Some (statement.Delete v.0 v2.0, v2.1)) (x, rest) _ b0_goes (λ b1 b1_is b1_goes.
      let s1 = name_is b0 b1.0 b1.1 b1_is in
      bind_is (scan_of find b1.1) (λ v. Some (statement.Delete b1.0 v.0, v.1)) (x, rest) _ b1_goes (λ b2 b2_is b2_goes.
      let s2 = scan_sound Inner find s b1.1 b2.0 b2.1 b2_is in
      let q2 : b1.1 ≡ (s2.0) ++ b2.1 = s2.1 in
      let q1 : b0 ≡ (name b1.0 ∷ s2.0) ++ b2.1 = s1 ∙ ap (λ (z : Symbols). name b1.0 ∷ z) q2 in
      let q0 : ts ≡ (key word.From ∷ name b1.0 ∷ s2.0) ++ b2.1 = after_is (key word.From) ts b0 b0_is ∙ ap (λ (z : Symbols). key word.From ∷ z) q1 in
      renamed (IsStatement Inner Deeper) (key word.Delete ∷ ts) (key word.Delete ∷ (key word.From ∷ name b1.0 ∷ s2.0))
      (statement.Delete b1.0 b2.0) b2.1 x rest b2_goes (ap (λ (z : Symbols). key word.Delete ∷ z) q0) (form.is_delete s2.2))))

  ensure_sound : SoundFor (IsStatement Inner Deeper) (ensure_of find)
  ensure_sound ts x rest h =
      bind_is (after (key word.Ensure) ts) (λ v. expression_of find v >>= λ v1. Some (statement.Ensure v1.0, v1.1)) (x, rest) _ h (λ b0 b0_is b0_goes.
      bind_is (expression_of find b0) (λ v. Some (statement.Ensure v.0, v.1)) (x, rest) _ b0_goes (λ b1 b1_is b1_goes.
      let s1 = expression_sound Inner find s b0 b1.0 b1.1 b1_is in
      let q1 : b0 ≡ (s1.0) ++ b1.1 = s1.1 in
      let q0 : ts ≡ (key word.Ensure ∷ s1.0) ++ b1.1 = after_is (key word.Ensure) ts b0 b0_is ∙ ap (λ (z : Symbols). key word.Ensure ∷ z) q1 in
      renamed (IsStatement Inner Deeper) (ts) (key word.Ensure ∷ s1.0) (statement.Ensure b1.0) b1.1 x rest b1_goes q0 (form.is_ensure s1.2)))

  select_rows_sound : SoundBehind (key word.Select ∷ []) (IsStatement Inner Deeper) (select_rows_of find)
  select_rows_sound ts x rest h =
      bind_is (what_of ts) (λ v. after (key word.From) v.1 >>= λ v1. name_of v1 >>= λ v2. scan_of find v2.1 >>= λ v3. Some (statement.Select v.0 v2.0 v3.0, v3.1)) (x, rest) _ h (λ b0 b0_is b0_goes.
      let s0 = what_sound ts b0.0 b0.1 b0_is in
      bind_is (after (key word.From) b0.1) (λ v. name_of v >>= λ v2. scan_of find v2.1 >>= λ v3. Some (statement.Select b0.0 v2.0 v3.0, v3.1)) (x, rest) _ b0_goes (λ b1 b1_is b1_goes.
      bind_is (name_of b1) (λ v. scan_of find v.1 >>= λ v3. Some (statement.Select b0.0 v.0 v3.0, v3.1)) (x, rest) _ b1_goes (λ b2 b2_is b2_goes.
      let s2 = name_is b1 b2.0 b2.1 b2_is in
      bind_is (scan_of find b2.1) (λ v. Some (statement.Select b0.0 b2.0 v.0, v.1)) (x, rest) _ b2_goes (λ b3 b3_is b3_goes.
      let s3 = scan_sound Inner find s b2.1 b3.0 b3.1 b3_is in
      let q3 : b2.1 ≡ (s3.0) ++ b3.1 = s3.1 in
      let q2 : b1 ≡ (name b2.0 ∷ s3.0) ++ b3.1 = s2 ∙ ap (λ (z : Symbols). name b2.0 ∷ z) q3 in
      let q1 : b0.1 ≡ (key word.From ∷ name b2.0 ∷ s3.0) ++ b3.1 = after_is (key word.From) b0.1 b1 b1_is
      ∙ ap (λ (z : Symbols). key word.From ∷ z) q2 in
      let q0 : ts ≡ (s0.0 ++ (key word.From ∷ name b2.0 ∷ s3.0)) ++ b3.1 = s0.1 ∙ ap (λ (z : Symbols). s0.0 ++ z) q1
      ∙ sym (append_assoc s0.0 (key word.From ∷ name b2.0 ∷ s3.0) b3.1) in
      renamed (IsStatement Inner Deeper) (key word.Select ∷ ts) (key word.Select ∷ (s0.0 ++ (key word.From ∷ name b2.0 ∷ s3.0)))
      (statement.Select b0.0 b2.0 b3.0) b3.1 x rest b3_goes (ap (λ (z : Symbols). key word.Select ∷ z) q0) (form.is_select s0.2 s3.2)))))

  only_key_is : (ts : Symbols) (e : Expr) (rest : Symbols) → only_key_of find ts ≡ Some (e, rest) →
      (us : Symbols) × (ts ≡ key word.Where ∷ key word.Key ∷ sign mark.Equal ∷ us) × (sum_of find us ≡ Some (e, rest))
  only_key_is ts e rest h =
      bind_is (after (key word.Where) ts) (λ us. after (key word.Key) us >>= λ vs. after (sign mark.Equal) vs >>= λ ws. sum_of find ws) (e, rest) _ h (λ a a_is a_goes.
      bind_is (after (key word.Key) a) (λ vs. after (sign mark.Equal) vs >>= λ ws. sum_of find ws) (e, rest) _ a_goes (λ b b_is b_goes.
      bind_is (after (sign mark.Equal) b) (λ ws. sum_of find ws) (e, rest) _ b_goes (λ c c_is c_goes. (
        c,
        after_is (key word.Where) ts a a_is
            ∙ ap (λ (z : Symbols). key word.Where ∷ z)
            (after_is (key word.Key) a b b_is ∙ ap (λ (z : Symbols). key word.Key ∷ z) (after_is (sign mark.Equal) b c c_is)),
        c_goes,
      ))))

  select_into_sound : SoundBehind (key word.Select ∷ []) (IsStatement Inner Deeper) (select_into_of find)
  select_into_sound ts x rest h =
      bind_is (into_of ts) (λ c. after (key word.From) c.1 >>= λ us. name_of us >>= λ n. only_key_of find n.1 >>= λ e. Some
      (statement.SelectInto c.0.0 c.0.1 n.0 e.0, e.1)) (x, rest) _ h (λ a a_is a_goes.
      bind_is (after (key word.From) a.1) (λ us. name_of us >>= λ n. only_key_of find n.1 >>= λ e. Some (statement.SelectInto a.0.0 a.0.1 n.0 e.0, e.1)) (x, rest) _ a_goes (λ b b_is b_goes.
      bind_is (name_of b) (λ n. only_key_of find n.1 >>= λ e. Some (statement.SelectInto a.0.0 a.0.1 n.0 e.0, e.1)) (x, rest) _ b_goes (λ c c_is c_goes.
      bind_is (only_key_of find c.1) (λ e. Some (statement.SelectInto a.0.0 a.0.1 c.0 e.0, e.1)) (x, rest) _ c_goes (λ d d_is d_goes.
      let k = only_key_is c.1 d.0 d.1 d_is in
      let r = sum_sound Inner find s k.0 d.0 d.1 k.2 in
      let keyed : c.1 ≡ key word.Where ∷ key word.Key ∷ sign mark.Equal ∷ (r.0 ++ d.1) = k.1
      ∙ ap (λ (z : Symbols). key word.Where ∷ key word.Key ∷ sign mark.Equal ∷ z) r.1 in
      let from : a.1 ≡ key word.From ∷ name c.0 ∷ key word.Where ∷ key word.Key ∷ sign mark.Equal ∷ (r.0 ++ d.1) = after_is
      (key word.From) a.1 b b_is ∙ ap (λ (z : Symbols). key word.From ∷ z) (name_is b c.0 c.1 c_is ∙ ap (λ (z : Symbols). name c.0 ∷ z) keyed) in
      let front : Symbols = key word.Select ∷ name a.0.0 ∷ key word.Into ∷ sign mark.Colon ∷ name a.0.1 ∷ key word.From ∷ name c.0 ∷ key
      word.Where ∷ key word.Key ∷ sign mark.Equal ∷ r.0 in
      renamed (IsStatement Inner Deeper) (key word.Select ∷ ts) front (statement.SelectInto a.0.0 a.0.1 c.0 d.0) d.1 x rest d_goes
      (ap (λ (z : Symbols). key word.Select ∷ z)
      (into_is ts a.0 a.1 a_is ∙ ap (λ (z : Symbols). name a.0.0 ∷ key word.Into ∷ sign mark.Colon ∷ name a.0.1 ∷ z) from)) (form.is_select_into r.2)))))

  select_sound : SoundBehind (key word.Select ∷ []) (IsStatement Inner Deeper) (select_of find)
  select_sound ts x rest h = go (is_into ts) h
    where
      go : (b : Bool) → cond b (select_into_of find ts) (select_rows_of find ts) ≡ Some (x, rest) →
          (front : Symbols) × (key word.Select ∷ ts ≡ front ++ rest) × IsStatement Inner Deeper front x
      go true h = select_into_sound ts x rest h
      go false h = select_rows_sound ts x rest h

  change_sound : SoundFor (IsStatement Inner Deeper) (change_of find)
  change_sound ts x rest h =
      either_is (after (key word.Update) ts) (either (after (key word.Delete) ts) (ensure_of find ts) (delete_of find)) (update_of find) (x, rest) _ h
      (λ none e. either_is (after (key word.Delete) ts) (ensure_of find ts) (delete_of find) (x, rest) _ e (λ none e. ensure_sound ts x rest e)
      (λ us some e. behind (IsStatement Inner Deeper) (delete_of find) (key word.Delete) delete_sound ts us x rest some e))
      (λ us some e. behind (IsStatement Inner Deeper) (update_of find) (key word.Update) update_sound ts us x rest some e)

  pub statement_sound : (found : TreeReader Expr) → Sound Deeper found → SoundFor (IsStatement Inner Deeper) (statement_of find found)
  statement_sound found t ts x rest h =
      either_is (after (key word.Insert) ts) (either (after (key word.Select) ts) (change_of find ts) (select_of find)) (insert_of found) (x, rest) _ h
      (λ none e. either_is (after (key word.Select) ts) (change_of find ts) (select_of find) (x, rest) _ e (λ none e. change_sound ts x rest e)
      (λ us some e. behind (IsStatement Inner Deeper) (select_of find) (key word.Select) select_sound ts us x rest some e))
      (λ us some e. behind (IsStatement Inner Deeper) (insert_of found) (key word.Insert) (insert_sound Inner Deeper found t) ts us x rest some e)

-- ---- tables

pub field_sound : SoundFor IsField field_of
field_sound ts x rest h =
    bind_is (name_of ts) (λ n. kind_at n.1 >>= λ k. Some (record { name = n.0; kind = k.0; nullable = false }, k.1)) (x, rest) _ h (λ a a_is a_goes.
    bind_is (kind_at a.1) (λ k. Some (record { name = a.0; kind = k.0; nullable = false }, k.1)) (x, rest) _ a_goes (λ b b_is b_goes.
    either_is (after (key word.Int) a.1) (after (key word.Text) a.1 >>= λ us. Some (kind.Text, us)) (λ us. Some (kind.Int, us)) b _ b_is
    (λ none e.
    bind_is (after (key word.Text) a.1) (λ us. Some (kind.Text, us)) b _ e (λ c c_is c_goes.
    let p = some_is (kind.Text, c) b c_goes in
    renamed IsField ts (name a.0 ∷ key word.Text ∷ []) (record { name = a.0; kind = kind.Text; nullable = false }) c x rest
    (ap (λ (k : ColType × Symbols). let y : Option (Field × Symbols) = Some (record { name = a.0; kind = k.0; nullable = false }, k.1) in y) p ∙ b_goes)
    (name_is ts a.0 a.1 a_is ∙ ap (λ (z : Symbols). name a.0 ∷ z) (after_is (key word.Text) a.1 c c_is)) table.text_field))
    (λ us some e.
    let p = some_is (kind.Int, us) b e in
    renamed IsField ts (name a.0 ∷ key word.Int ∷ []) (record { name = a.0; kind = kind.Int; nullable = false }) us x rest
    (ap (λ (k : ColType × Symbols). let y : Option (Field × Symbols) = Some (record { name = a.0; kind = k.0; nullable = false }, k.1) in y) p ∙ b_goes)
    (name_is ts a.0 a.1 a_is ∙ ap (λ (z : Symbols). name a.0 ∷ z) (after_is (key word.Int) a.1 us some)) table.int_field)))

column_sound : SoundFor IsColumn column_of
column_sound ts x rest h =
    bind_is (field_of ts) (λ c. nullable_of c.0 c.1) (x, rest) _ h (λ a a_is a_goes.
    let r = field_sound ts a.0 a.1 a_is in
    either_is (after (key word.Null) a.1) (Some (a.0, a.1)) (λ us. Some (record a.0 { nullable = true }, us)) (x, rest) _ a_goes
    (λ none e. renamed IsColumn ts r.0 a.0 a.1 x rest e r.1 (table.is_plain r.2))
    (λ us some e.
    let whole : ts ≡ (r.0 ++ key word.Null ∷ []) ++ us = r.1 ∙ ap (λ (z : Symbols). r.0 ++ z) (after_is (key word.Null) a.1 us some)
    ∙ sym (append_assoc r.0 (key word.Null ∷ []) us) in
    renamed IsColumn ts (r.0 ++ key word.Null ∷ []) (record a.0 { nullable = true }) us x rest e whole (table.is_nullable r.2)))

field_comma_is : (ts us : Symbols) → field_comma ts ≡ Some us → ts ≡ sign mark.Comma ∷ us
field_comma_is ts us h =
    bind_is (comma ts) (λ vs. either (after (key word.Check) vs) (Some vs) (λ ws. None)) us _ h (λ b b_is b_goes.
    either_is (after (key word.Check) b) (Some b) (λ ws. None) us _ b_goes
    (λ none e. comma_is ts b b_is ∙ ap (λ (z : Symbols). sign mark.Comma ∷ z) (some_is b us e))
    (λ vs some e. absurd cc))

-- the columns, with `key` behind the first
pub data IsFields : Symbols → List Field → Type 0 where
  is_fields : {a b : Symbols} {f : Field} {fs : List Field} → IsField a f → Following IsColumn b fs → IsFields (a ++ key word.Key ∷ b) (f ∷ fs)

fields_sound : SoundFor IsFields fields_of
fields_sound ts x rest h =
    bind_is (field_of ts) (λ c. after (key word.Key) c.1 >>= λ us. ahead (c.0 ∷ []) (following_of field_comma column_of (length us) us)) (x, rest) _ h (λ a a_is a_goes.
    bind_is (after (key word.Key) a.1) (λ us. ahead (a.0 ∷ []) (following_of field_comma column_of (length us) us)) (x, rest) _ a_goes (λ b b_is b_goes.
    bind_is (following_of field_comma column_of (length b) b) (λ y. Some (a.0 ∷ y.0, y.1)) (x, rest) _ b_goes (λ c c_is c_goes.
    let r = field_sound ts a.0 a.1 a_is in
    let q = following_sound (sign mark.Comma) field_comma field_comma_is IsColumn column_of column_sound (length b) b c.0 c.1 c_is in
    let keyed : a.1 ≡ (key word.Key ∷ q.0) ++ c.1 = after_is (key word.Key) a.1 b b_is ∙ ap (λ (z : Symbols). key word.Key ∷ z) q.1 in
    renamed IsFields ts (r.0 ++ key word.Key ∷ q.0) (a.0 ∷ c.0) c.1 x rest c_goes
    (r.1 ∙ ap (λ (z : Symbols). r.0 ++ z) keyed ∙ sym (append_assoc r.0 (key word.Key ∷ q.0) c.1)) (is_fields r.2 (by_sign q.2)))))

module _ (Inner : Symbols → Expr → Type 0) (find : TreeReader Expr) (s : Sound Inner find) where
  check_sound : SoundFor (IsCheck Inner) (check_of find)
  check_sound ts x rest h =
      bind_is (after (key word.Check) ts) (λ us. expression_of find us) (x, rest) _ h (λ a a_is a_goes.
      let r = expression_sound Inner find s a x rest a_goes in
      (key word.Check ∷ r.0, after_is (key word.Check) ts a a_is ∙ ap (λ (z : Symbols). key word.Check ∷ z) r.1, table.is_check r.2))

  checks_sound : SoundFor (Following (IsCheck Inner)) (checks_of find)
  checks_sound ts x rest h =
      let r = following_sound (sign mark.Comma) comma comma_is (IsCheck Inner) (check_of find) check_sound (length ts) ts x rest h in
      (r.0, r.1, by_sign r.2)

  -- a table, by its columns in one
  is_defined : {t : List ℕ} {a c : Symbols} {fs : List Field} {es : List Expr} → IsFields a fs → Following (IsCheck Inner) c es →
      IsTable Inner (key word.Create ∷ key word.Table ∷ name t ∷ sign mark.Open ∷ (a ++ (c ++ sign mark.Close ∷ [])))
      (record { name = t; columns = fs; checks = es })
  is_defined {c = c} (is_fields {a = a} {b = b} f d) k = rw (append_assoc a (key word.Key ∷ b) (c ++ sign mark.Close ∷ [])) (table.is_table f d k)

  definition_sound : SoundBehind (key word.Create ∷ key word.Table ∷ []) (IsTable Inner) (definition_of find)
  definition_sound ts x rest h =
      bind_is (name_of ts) (λ v. after (sign mark.Open) v.1 >>= λ v1. fields_of v1 >>= λ v2. checks_of find v2.1 >>= λ v3. after (sign mark.Close) v3.1 >>= λ v4. Some
      (record { name = v.0; columns = v2.0; checks = v3.0 }, v4)) (x, rest) _ h (λ b0 b0_is b0_goes.
      let s0 = name_is ts b0.0 b0.1 b0_is in
      bind_is (after (sign mark.Open) b0.1) (λ v. fields_of v >>= λ v2. checks_of find v2.1 >>= λ v3. after (sign mark.Close) v3.1 >>= λ v4. Some
      (record { name = b0.0; columns = v2.0; checks = v3.0 }, v4)) (x, rest) _ b0_goes (λ b1 b1_is b1_goes.
      bind_is (fields_of b1) (λ v. checks_of find v.1 >>= λ v3. after (sign mark.Close) v3.1 >>= λ v4. Some (record { name = b0.0; columns = v.0; checks = v3.0 }, v4)) (x, rest) _ b1_goes (λ b2 b2_is b2_goes.
      let s2 = fields_sound b1 b2.0 b2.1 b2_is in
      bind_is (checks_of find b2.1) (λ v. after (sign mark.Close) v.1 >>= λ v4. Some (record { name = b0.0; columns = b2.0; checks = v.0 }, v4)) (x, rest) _ b2_goes (λ b3 b3_is b3_goes.
      let s3 = checks_sound b2.1 b3.0 b3.1 b3_is in
      bind_is (after (sign mark.Close) b3.1) (λ v. Some (record { name = b0.0; columns = b2.0; checks = b3.0 }, v)) (x, rest) _ b3_goes (λ b4 b4_is b4_goes.
      let q4 : b3.1 ≡ (sign mark.Close ∷ []) ++ b4 = after_is (sign mark.Close) b3.1 b4 b4_is in
      let q3 : b2.1 ≡ (s3.0 ++ (sign mark.Close ∷ [])) ++ b4 = s3.1 ∙ ap (λ (z : Symbols). s3.0 ++ z) q4
      ∙ sym (append_assoc s3.0 (sign mark.Close ∷ []) b4) in
      let q2 : b1 ≡ (s2.0 ++ (s3.0 ++ (sign mark.Close ∷ []))) ++ b4 = s2.1 ∙ ap (λ (z : Symbols). s2.0 ++ z) q3
      ∙ sym (append_assoc s2.0 (s3.0 ++ (sign mark.Close ∷ [])) b4) in
      let q1 : b0.1 ≡ (sign mark.Open ∷ (s2.0 ++ (s3.0 ++ (sign mark.Close ∷ [])))) ++ b4 = after_is (sign mark.Open) b0.1 b1 b1_is
      ∙ ap (λ (z : Symbols). sign mark.Open ∷ z) q2 in
      let q0 : ts ≡ (name b0.0 ∷ (sign mark.Open ∷ (s2.0 ++ (s3.0 ++ (sign mark.Close ∷ []))))) ++ b4 = s0 ∙ ap (λ (z : Symbols). name b0.0 ∷ z) q1 in
      renamed (IsTable Inner) (key word.Create ∷ key word.Table ∷ ts)
      (key word.Create ∷ key word.Table ∷ (name b0.0 ∷ (sign mark.Open ∷ (s2.0 ++ (s3.0 ++ (sign mark.Close ∷ []))))))
      (record { name = b0.0; columns = b2.0; checks = b3.0 }) b4 x rest b4_goes
      (ap (λ (z : Symbols). key word.Create ∷ key word.Table ∷ z) q0) (is_defined s2.2 s3.2))))))

  pub table_sound : SoundFor (IsTable Inner) (table_of find)
  table_sound ts x rest h =
      bind_is (after (key word.Create) ts) (λ us. after (key word.Table) us >>= λ vs. definition_of find vs) (x, rest) _ h (λ a a_is a_goes.
      bind_is (after (key word.Table) a) (λ vs. definition_of find vs) (x, rest) _ a_goes (λ b b_is b_goes.
      let r = definition_sound b x rest b_goes in
      (r.0, after_is (key word.Create) ts a a_is ∙ ap (λ (z : Symbols). key word.Create ∷ z) (after_is (key word.Table) a b b_is) ∙ r.1, r.2)))
