-- The same of statements and tables.
use Rattle.std.proofs.Common.{◌≡◌, ℕ, Bool, true, false, cond, ◌||◌, List, [], ◌∷◌, ◌++◌, length, map, Option, Some, None, refl, sym, ap, subst, ◌∙◌}
use Rattle.std.specs.List.{list_any}
use Rattle.salt_ast.specs.Limits.{expr_passed, is_high, name_passed, passed_in_list, scan_passed, set_passed, statement_passed}
use Rattle.salt_ast.specs.Limits.{table_passed, what_passed}
use Rattle.salt_ast.specs.Trees.{null, scan_exprs, statement_exprs}
use Rattle.salt_ast.specs.Words.{first_in}
use Rattle.std.specs.Prelude.{option_and_then, option_to_list}
use Rattle.std.specs.Option.{option_or}
use Rattle.salt_ast.specs.declared.limit.LimitName.{LimitName}
use Rattle.salt_ast.specs.declared.limit.LimitName.TheVariants as limit
use Rattle.salt_ast.specs.declared.trees.Bound.TheVariants as bound
use Rattle.salt_ast.specs.declared.trees.ColType.{ColType}
use Rattle.salt_ast.specs.declared.trees.ColType.TheVariants as kind
use Rattle.salt_ast.specs.declared.trees.Expr.{Expr}
use Rattle.salt_ast.specs.declared.trees.Field.{Field}
use Rattle.salt_ast.specs.declared.trees.Scan.{Scan}
use Rattle.salt_ast.specs.declared.trees.Set.{Set}
use Rattle.salt_ast.specs.declared.trees.Statement.{Statement}
use Rattle.salt_ast.specs.declared.trees.Statement.TheVariants as statement
use Rattle.salt_ast.specs.declared.trees.TableDef.{TableDef}
use Rattle.salt_ast.specs.declared.trees.What.{What}
use Rattle.salt_ast.specs.declared.trees.What.TheVariants as what
use Rattle.salt_parse.specs.Flags.{BuiltTree, Flags, clear, note}
use Rattle.salt_parse.specs.Lists.{comma, counted, following_at, with_front}
use Rattle.salt_parse.specs.Reading.{Read, Reader, after, conjunction_at, either, expression_at, name_flags, sum_at}
use Rattle.salt_parse.specs.StatementReading.{aggregate_at, and_at, between_at, bound_at, change_at, columns_at, count_at, delete_at, ensure_at}
use Rattle.salt_parse.specs.StatementReading.{enclosed_at, equal_at, filter_at, insert_at, into_at, is_into, max_of_at, min_of_at, name_at, names_at}
use Rattle.salt_parse.specs.StatementReading.{only_key_at, scan_at, select_at, select_into_at, select_rows_at, set_at, sets_at, statement_at}
use Rattle.salt_parse.specs.StatementReading.{sum_of_at, tree_at, update_at, value_at, values_at, what_at, where_at}
use Rattle.salt_parse.specs.TableReading.{check_at, checks_at, definition_at, field_at, field_comma, fields_at, further_column_at, kind_at, nullable_at}
use Rattle.salt_parse.specs.TableReading.{plain_column_at, table_at}
use Rattle.salt_parse.specs.Settling.{ArePrintable}
use Rattle.salt_parse.proofs.Mirror.{Agrees, AgreesAll, IsBuilt, AreKept, Marks, Mirrors, after_printable, agrees_after, agrees_bind}
use Rattle.salt_parse.proofs.Mirror.{agrees_either, clear_before, conjunction_mirrors, expr_marks, expression_mirrors, kept_name_is, name_marks}
use Rattle.salt_parse.proofs.Mirror.{note_note, noted, or_assoc, option_or_assoc, or_false, sum_mirrors}
use Rattle.salt_parse.proofs.MirrorLists.{Keeps, after_keeps, agrees_counted, agrees_named, commas_agree, counted_agrees, counted_marks, counted_note, done}
use Rattle.salt_parse.proofs.MirrorLists.{following_agrees, from_marks, list_marks, note_none}
use Rattle.salt_parse.proofs.StatementTrees.{aggregate_of, ahead, and_of, between_of, bound_of, change_of, check_of, checks_of, column_of, columns_of, count_of}
use Rattle.salt_parse.proofs.StatementTrees.{definition_of, delete_of, enclosed_of, ensure_of, equal_of, field_of, fields_of, filter_of, following_of}
use Rattle.salt_parse.proofs.StatementTrees.{insert_of, into_of, largest_of, least_of, name_of, names_of, nullable_of, only_key_of, scan_of, select_into_of}
use Rattle.salt_parse.proofs.StatementTrees.{select_of, select_rows_of, set_of, sets_of, statement_of, table_of, total_of, update_of, value_of, values_of}
use Rattle.salt_parse.proofs.StatementTrees.{what_of, where_of}
use Rattle.salt_parse.proofs.Trees.{TreeReader, conjunction_of, expression_of, sum_of}
use Rattle.salt_ast.specs.Scanning.{◌>>=◌}
use Rattle.salt_ast.specs.Symbols.{Symbols, int, key, name, sign, text}
use Rattle.salt_ast.specs.declared.keyword.Keyword.TheVariants as word
use Rattle.salt_ast.specs.declared.sign.Sign.TheVariants as mark

-- ---- notes one after the other

note_three : (f : Flags) (p q r : Option LimitName) (d e g : Bool) → note (note (note f p d) q e) r g ≡ note f (option_or p (option_or q r)) (d || (e || g))
note_three f p q r d e g = note_note (note f p d) q r e g ∙ note_note f p (option_or q r) d (e || g)

between_note : (f : Flags) (p q r : Option LimitName) (d e g : Bool) → note (note (note f p d) q e) r g ≡ note f (option_or (option_or p q) r) (d || (e || g))
between_note f p q r d e g =
    ap (λ (x : Flags). note x r g) (note_note f p q d e) ∙ note_note f (option_or p q) r (d || e) g
    ∙ ap (λ (b : Bool). note f (option_or (option_or p q) r) b) (or_assoc d e g)

-- a height alone in a list
alone_note : (f : Flags) (p : Option LimitName) (d : Bool) → note f p d ≡ note f p (d || false)
alone_note f p d = ap (λ (b : Bool). note f p b) (sym (or_false d))

into_note : (f : Flags) (p q r s : Option LimitName) (d : Bool) →
    note (note (note f (option_or p q) false) r false) s d ≡ note f (option_or p (option_or q (option_or r s))) (d || false)
into_note f p q r s d =
    note_three f (option_or p q) r s false false d ∙ ap (λ (o : Option LimitName). note f o d) (option_or_assoc p q (option_or r s))
    ∙ alone_note f (option_or p (option_or q (option_or r s))) d

-- ---- what is passed

abbrev filter_marks : Marks (Option Expr)
filter_marks = record { passed = option_and_then expr_passed; high = λ w. list_any is_high (option_to_list w) }

abbrev scan_marks : Marks Scan
scan_marks = record { passed = scan_passed; high = λ s. list_any is_high (scan_exprs s) }

abbrev set_marks : Marks Set
set_marks = record { passed = set_passed; high = λ s. is_high s.value }

abbrev what_marks : Marks What
what_marks = record { passed = what_passed; high = λ w. false }

abbrev into_marks : Marks (List ℕ × List ℕ)
into_marks = record { passed = λ c. option_or (name_passed c.0) (name_passed c.1); high = λ c. false }

abbrev pub statement_marks : Marks Statement
statement_marks = record { passed = statement_passed; high = λ s. list_any is_high (statement_exprs s) }

abbrev pub field_marks : Marks Field
field_marks = record { passed = (λ f. name_passed f.name); high = λ c. false }

abbrev fields_marks : Marks (List Field)
fields_marks = record { passed = passed_in_list 16 limit.Columns (λ f. name_passed f.name); high = λ cs. false }

abbrev checks_marks : Marks (List Expr)
checks_marks = record { passed = passed_in_list 16 limit.Checks expr_passed; high = list_any is_high }

abbrev pub table_marks : Marks TableDef
table_marks = record { passed = table_passed; high = λ d. list_any is_high d.checks }

pub none_high : {A : Type 0} (xs : List A) → list_any (λ x. false) xs ≡ false
none_high [] = refl
none_high (x ∷ xs) = none_high xs

-- the heights of values and of further expressions
sets_high : (sets : List Set) (es : List Expr) → (list_any set_marks.high sets || list_any is_high es) ≡ list_any is_high (map (λ (s : Set). s.value) sets ++ es)
sets_high [] es = refl
sets_high (x ∷ xs) es = or_assoc (is_high x.value) (list_any set_marks.high xs) (list_any is_high es)
    ∙ ap (λ (b : Bool). is_high x.value || b) (sets_high xs es)

-- ---- statements

pub name_agrees : AgreesAll name_marks AreKept name_at name_of
name_agrees f (name n ∷ ts) p = record { left = refl; flags = refl; is = λ c. kept_name_is (name_flags n f) n c; printable = p.1 }
name_agrees f [] p = tt
name_agrees f (key k ∷ ts) p = tt
name_agrees f (int n ∷ ts) p = tt
name_agrees f (text t ∷ ts) p = tt
name_agrees f (sign s ∷ ts) p = tt

names_agrees : AgreesAll (list_marks name_marks) AreKept names_at names_of
names_agrees f ts p = commas_agree name_marks name_at name_of name_agrees f ts p

tree_agrees : (f : Flags) (r : Option (Read BuiltTree)) (q : Option (Expr × Symbols)) → Agrees expr_marks IsBuilt f r q →
    Agrees expr_marks AreKept f (r >>= λ x. Some (x.0.tree, x.1, x.2)) q
tree_agrees f None None h = tt
tree_agrees f None (Some y) h = h
tree_agrees f (Some x) None h = h
tree_agrees f (Some x) (Some y) h = record { left = h.left; flags = h.flags; is = h.is.1; printable = h.printable }

enclosed_agrees : AgreesAll name_marks AreKept (enclosed_at) (enclosed_of)
enclosed_agrees f ts p =
    agrees_after name_marks AreKept f (after (sign mark.Open) ts)
    (λ v. name_at f v >>= λ v1. after (sign mark.Close) v1.2 >>= λ v2. Some (v1.0, v1.1, v2))
    (λ v. name_of v >>= λ v1. after (sign mark.Close) v1.1 >>= λ v2. Some (v1.0, v2)) (λ us e. after_printable (sign mark.Open) ts us p e)
    (λ u0 p0.
    agrees_bind name_marks AreKept name_marks AreKept f f (name_at f u0) (name_of u0) (λ v. after (sign mark.Close) v.2 >>= λ v2. Some (v.0, v.1, v2))
    (λ v. after (sign mark.Close) v.1 >>= λ v2. Some (v.0, v2)) (name_agrees f u0 p0)
    (λ x1 a1 u1 i1 p1.
    agrees_after name_marks AreKept f (after (sign mark.Close) u1) (λ v. Some (x1, (noted name_marks f a1), v)) (λ v. Some (a1, v))
    (λ us e. after_printable (sign mark.Close) u1 us p1 e)
    (λ u2 p2.
    done name_marks f (x1) (a1) (noted name_marks f a1) u2 (refl) (λ c1. (let e0 : x1 ≡ a1 = i1 c1 in λ t. (e0 t))) p2)))

count_agrees : AgreesAll what_marks AreKept (count_at) (count_of)
count_agrees f ts p =
    agrees_after what_marks AreKept f (after (sign mark.Open) ts)
    (λ v. after (sign mark.Star) v >>= λ v1. after (sign mark.Close) v1 >>= λ v2. Some (what.Count, f, v2))
    (λ v. after (sign mark.Star) v >>= λ v1. after (sign mark.Close) v1 >>= λ v2. Some (what.Count, v2))
    (λ us e. after_printable (sign mark.Open) ts us p e)
    (λ u0 p0.
    agrees_after what_marks AreKept f (after (sign mark.Star) u0) (λ v. after (sign mark.Close) v >>= λ v2. Some (what.Count, f, v2))
    (λ v. after (sign mark.Close) v >>= λ v2. Some (what.Count, v2)) (λ us e. after_printable (sign mark.Star) u0 us p0 e)
    (λ u1 p1.
    agrees_after what_marks AreKept f (after (sign mark.Close) u1) (λ v. Some (what.Count, f, v)) (λ v. Some (what.Count, v))
    (λ us e. after_printable (sign mark.Close) u1 us p1 e)
    (λ u2 p2.
    done what_marks f (what.Count) (what.Count) f u2 (sym (note_none f)) (λ c. refl) p2)))

sum_of_agrees : AgreesAll what_marks AreKept (sum_of_at) (total_of)
sum_of_agrees f ts p =
    agrees_bind name_marks AreKept what_marks AreKept f f (enclosed_at f ts) (enclosed_of ts) (λ v. Some (what.Sum v.0, v.1, v.2))
    (λ v. Some (what.Sum v.0, v.1)) (enclosed_agrees f ts p)
    (λ x0 a0 u0 i0 p0.
    done what_marks f (what.Sum x0) (what.Sum a0) (noted name_marks f a0) u0 (refl) (λ c1. (let e0 : x0 ≡ a0 = i0 c1 in λ t. what.Sum (e0 t))) p0)

min_of_agrees : AgreesAll what_marks AreKept (min_of_at) (least_of)
min_of_agrees f ts p =
    agrees_bind name_marks AreKept what_marks AreKept f f (enclosed_at f ts) (enclosed_of ts) (λ v. Some (what.Min v.0, v.1, v.2))
    (λ v. Some (what.Min v.0, v.1)) (enclosed_agrees f ts p)
    (λ x0 a0 u0 i0 p0.
    done what_marks f (what.Min x0) (what.Min a0) (noted name_marks f a0) u0 (refl) (λ c1. (let e0 : x0 ≡ a0 = i0 c1 in λ t. what.Min (e0 t))) p0)

max_of_agrees : AgreesAll what_marks AreKept (max_of_at) (largest_of)
max_of_agrees f ts p =
    agrees_bind name_marks AreKept what_marks AreKept f f (enclosed_at f ts) (enclosed_of ts) (λ v. Some (what.Max v.0, v.1, v.2))
    (λ v. Some (what.Max v.0, v.1)) (enclosed_agrees f ts p)
    (λ x0 a0 u0 i0 p0.
    done what_marks f (what.Max x0) (what.Max a0) (noted name_marks f a0) u0 (refl) (λ c1. (let e0 : x0 ≡ a0 = i0 c1 in λ t. what.Max (e0 t))) p0)

columns_agrees : AgreesAll what_marks AreKept (columns_at) (columns_of)
columns_agrees f ts p =
    agrees_bind (list_marks name_marks) AreKept what_marks AreKept f f (names_at f ts) (names_of ts) (λ v. Some (what.Columns v.0, v.1, v.2))
    (λ v. Some (what.Columns v.0, v.1)) (names_agrees f ts p)
    (λ x0 a0 u0 i0 p0.
    done what_marks f (what.Columns x0) (what.Columns a0) (noted (list_marks name_marks) f a0) u0
    (ap (λ (b : Bool). note f (first_in name_passed a0) b) (none_high a0)) (λ c1. (let e0 : x0 ≡ a0 = i0 c1 in λ t. what.Columns (e0 t))) p0)

aggregate_agrees : AgreesAll what_marks AreKept aggregate_at aggregate_of
aggregate_agrees f ts p =
    agrees_either what_marks AreKept f (after (key word.Sum) ts)
    (either (after (key word.Min) ts) (either (after (key word.Max) ts) (columns_at f ts) (max_of_at f)) (min_of_at f))
    (either (after (key word.Min) ts) (either (after (key word.Max) ts) (columns_of ts) largest_of) least_of) (sum_of_at f) (total_of)
    (λ us e. after_printable (key word.Sum) ts us p e)
    (agrees_either what_marks AreKept f (after (key word.Min) ts) (either (after (key word.Max) ts) (columns_at f ts) (max_of_at f))
    (either (after (key word.Max) ts) (columns_of ts) largest_of) (min_of_at f) (least_of) (λ us e. after_printable (key word.Min) ts us p e)
    (agrees_either what_marks AreKept f (after (key word.Max) ts) (columns_at f ts) (columns_of ts) (max_of_at f) (largest_of)
    (λ us e. after_printable (key word.Max) ts us p e) (columns_agrees f ts p) (λ us pu. max_of_agrees f us pu)) (λ us pu. min_of_agrees f us pu))
    (λ us pu. sum_of_agrees f us pu)

what_agrees : AgreesAll what_marks AreKept what_at what_of
what_agrees f ts p =
    agrees_either what_marks AreKept f (after (sign mark.Star) ts) (either (after (key word.Count) ts) (aggregate_at f ts) (count_at f))
    (either (after (key word.Count) ts) (aggregate_of ts) count_of) (λ us. Some (what.All, f, us)) (λ us. Some (what.All, us))
    (λ us e. after_printable (sign mark.Star) ts us p e)
    (agrees_either what_marks AreKept f (after (key word.Count) ts) (aggregate_at f ts) (aggregate_of ts) (count_at f) (count_of)
    (λ us e. after_printable (key word.Count) ts us p e) (aggregate_agrees f ts p) (λ us pu. count_agrees f us pu))
    (λ us pu. done what_marks f what.All what.All f us (sym (note_none f)) (λ c. refl) pu)

into_agrees : AgreesAll into_marks AreKept (into_at) (into_of)
into_agrees f ts p =
    agrees_bind name_marks AreKept into_marks AreKept f f (name_at f ts) (name_of ts)
    (λ v. after (key word.Into) v.2 >>= λ v1. after (sign mark.Colon) v1 >>= λ v2. name_at v.1 v2 >>= λ v3. Some ((v.0, v3.0), v3.1, v3.2))
    (λ v. after (key word.Into) v.1 >>= λ v1. after (sign mark.Colon) v1 >>= λ v2. name_of v2 >>= λ v3. Some ((v.0, v3.0), v3.1)) (name_agrees f ts p)
    (λ x0 a0 u0 i0 p0.
    agrees_after into_marks AreKept f (after (key word.Into) u0)
    (λ v. after (sign mark.Colon) v >>= λ v2. name_at (noted name_marks f a0) v2 >>= λ v3. Some ((x0, v3.0), v3.1, v3.2))
    (λ v. after (sign mark.Colon) v >>= λ v2. name_of v2 >>= λ v3. Some ((a0, v3.0), v3.1)) (λ us e. after_printable (key word.Into) u0 us p0 e)
    (λ u1 p1.
    agrees_after into_marks AreKept f (after (sign mark.Colon) u1) (λ v. name_at (noted name_marks f a0) v >>= λ v3. Some ((x0, v3.0), v3.1, v3.2))
    (λ v. name_of v >>= λ v3. Some ((a0, v3.0), v3.1)) (λ us e. after_printable (sign mark.Colon) u1 us p1 e)
    (λ u2 p2.
    agrees_bind name_marks AreKept into_marks AreKept f (noted name_marks f a0) (name_at (noted name_marks f a0) u2) (name_of u2)
    (λ v. Some ((x0, v.0), v.1, v.2)) (λ v. Some ((a0, v.0), v.1)) (name_agrees (noted name_marks f a0) u2 p2)
    (λ x3 a3 u3 i3 p3.
    done into_marks f ((x0, x3)) ((a0, a3)) (noted name_marks (noted name_marks f a0) a3) u3
    (note_note f (name_passed a0) (name_passed a3) false false)
    (λ c2. (let c1 : clear (noted name_marks f a0) ≡ true = clear_before (noted name_marks f a0) (name_marks.passed a3)
    (name_marks.high a3) c2 in let e0 : x0 ≡ a0 = i0 c1 in let e1 : x3 ≡ a3 = i3 c2 in λ t. ((e0 t), (e1 t)))) p3))))

module _ (read : Reader BuiltTree) (find : TreeReader Expr) (c : Mirrors read find) where
  sum_agrees : AgreesAll expr_marks AreKept (tree_at (sum_at read)) (sum_of find)
  sum_agrees f ts p = tree_agrees f (sum_at read f ts) (sum_of find ts) (sum_mirrors read find c f ts p)

  conjunction_agrees : AgreesAll expr_marks AreKept (tree_at (conjunction_at read)) (conjunction_of find)
  conjunction_agrees f ts p = tree_agrees f (conjunction_at read f ts) (conjunction_of find ts) (conjunction_mirrors read find c f ts p)

  expression_agrees : AgreesAll expr_marks AreKept (tree_at (expression_at read)) (expression_of find)
  expression_agrees f ts p = tree_agrees f (expression_at read f ts) (expression_of find ts) (expression_mirrors read find c f ts p)

  and_agrees : AgreesAll filter_marks AreKept (and_at read) (and_of find)
  and_agrees f ts p =
      agrees_either filter_marks AreKept f (after (key word.And) ts) (Some (None, f, ts)) (Some (None, ts))
      (λ us. tree_at (conjunction_at read) f us >>= λ x. Some (Some x.0, x.1, x.2)) (λ us. conjunction_of find us >>= λ x. Some (Some x.0, x.1))
      (λ us e. after_printable (key word.And) ts us p e) (done filter_marks f None None f ts (sym (note_none f)) (λ c. refl) p)
      (λ us pu.
      agrees_bind expr_marks AreKept filter_marks AreKept f f (tree_at (conjunction_at read) f us) (conjunction_of find us)
      (λ v. Some (Some v.0, v.1, v.2)) (λ v. Some (Some v.0, v.1)) (conjunction_agrees f us pu)
      (λ x0 a0 u0 i0 p0.
      done filter_marks f (Some x0) (Some a0) (noted expr_marks f a0) u0 (alone_note f (expr_passed a0) (is_high a0))
      (λ c1. (let e0 : x0 ≡ a0 = i0 c1 in λ t. Some (e0 t))) p0))

  equal_agrees : AgreesAll scan_marks AreKept (equal_at read) (equal_of find)
  equal_agrees f ts p =
      agrees_after scan_marks AreKept f (after (sign mark.Equal) ts)
      (λ v. tree_at (sum_at read) f v >>= λ v1. and_at read v1.1 v1.2 >>= λ v2. Some
      (record { bound = bound.Key v1.0; filter = v2.0 }, v2.1, v2.2))
      (λ v. sum_of find v >>= λ v1. and_of find v1.1 >>= λ v2. Some (record { bound = bound.Key v1.0; filter = v2.0 }, v2.1))
      (λ us e. after_printable (sign mark.Equal) ts us p e)
      (λ u0 p0.
      agrees_bind expr_marks AreKept scan_marks AreKept f f (tree_at (sum_at read) f u0) (sum_of find u0)
      (λ v. and_at read v.1 v.2 >>= λ v2. Some (record { bound = bound.Key v.0; filter = v2.0 }, v2.1, v2.2))
      (λ v. and_of find v.1 >>= λ v2. Some (record { bound = bound.Key v.0; filter = v2.0 }, v2.1)) (sum_agrees f u0 p0)
      (λ x1 a1 u1 i1 p1.
      agrees_bind filter_marks AreKept scan_marks AreKept f (noted expr_marks f a1) (and_at read (noted expr_marks f a1) u1) (and_of find u1)
      (λ v. Some (record { bound = bound.Key x1; filter = v.0 }, v.1, v.2)) (λ v. Some (record { bound = bound.Key a1; filter = v.0 }, v.1))
      (and_agrees (noted expr_marks f a1) u1 p1)
      (λ x2 a2 u2 i2 p2.
      done scan_marks f (record { bound = bound.Key x1; filter = x2 }) (record { bound = bound.Key a1; filter = a2 })
      (noted filter_marks (noted expr_marks f a1) a2) u2
      (note_note f (expr_passed a1) (option_and_then expr_passed a2) (is_high a1) (list_any is_high (option_to_list a2)))
      (λ c2. (let c1 : clear (noted expr_marks f a1) ≡ true = clear_before (noted expr_marks f a1) (filter_marks.passed a2)
      (filter_marks.high a2) c2 in let e0 : x1 ≡ a1 = i1 c1 in let e1 : x2 ≡ a2 = i2 c2 in λ t. record { bound = bound.Key (e0 t); filter = (e1 t) })) p2)))

  between_agrees : AgreesAll scan_marks AreKept (between_at read) (between_of find)
  between_agrees f ts p =
      agrees_bind expr_marks AreKept scan_marks AreKept f f (tree_at (sum_at read) f ts) (sum_of find ts)
      (λ v. after (key word.And) v.2 >>= λ v1. tree_at (sum_at read) v.1 v1 >>= λ v2. and_at read v2.1 v2.2 >>= λ v3. Some
      (record { bound = bound.Between v.0 v2.0; filter = v3.0 }, v3.1, v3.2))
      (λ v. after (key word.And) v.1 >>= λ v1. sum_of find v1 >>= λ v2. and_of find v2.1 >>= λ v3. Some
      (record { bound = bound.Between v.0 v2.0; filter = v3.0 }, v3.1)) (sum_agrees f ts p)
      (λ x0 a0 u0 i0 p0.
      agrees_after scan_marks AreKept f (after (key word.And) u0)
      (λ v. tree_at (sum_at read) (noted expr_marks f a0) v >>= λ v2. and_at read v2.1 v2.2 >>= λ v3. Some
      (record { bound = bound.Between x0 v2.0; filter = v3.0 }, v3.1, v3.2))
      (λ v. sum_of find v >>= λ v2. and_of find v2.1 >>= λ v3. Some (record { bound = bound.Between a0 v2.0; filter = v3.0 }, v3.1))
      (λ us e. after_printable (key word.And) u0 us p0 e)
      (λ u1 p1.
      agrees_bind expr_marks AreKept scan_marks AreKept f (noted expr_marks f a0) (tree_at (sum_at read) (noted expr_marks f a0) u1) (sum_of find u1)
      (λ v. and_at read v.1 v.2 >>= λ v3. Some (record { bound = bound.Between x0 v.0; filter = v3.0 }, v3.1, v3.2))
      (λ v. and_of find v.1 >>= λ v3. Some (record { bound = bound.Between a0 v.0; filter = v3.0 }, v3.1)) (sum_agrees (noted expr_marks f a0) u1 p1)
      (λ x2 a2 u2 i2 p2.
      agrees_bind filter_marks AreKept scan_marks AreKept f (noted expr_marks (noted expr_marks f a0) a2)
      (and_at read (noted expr_marks (noted expr_marks f a0) a2) u2) (and_of find u2)
      (λ v. Some (record { bound = bound.Between x0 x2; filter = v.0 }, v.1, v.2))
      (λ v. Some (record { bound = bound.Between a0 a2; filter = v.0 }, v.1)) (and_agrees (noted expr_marks (noted expr_marks f a0) a2) u2 p2)
      (λ x3 a3 u3 i3 p3.
      done scan_marks f (record { bound = bound.Between x0 x2; filter = x3 }) (record { bound = bound.Between a0 a2; filter = a3 })
      (noted filter_marks (noted expr_marks (noted expr_marks f a0) a2) a3) u3
      (between_note f (expr_passed a0) (expr_passed a2) (option_and_then expr_passed a3) (is_high a0) (is_high a2)
      (list_any is_high (option_to_list a3)))
      (λ c3. (let c2 : clear (noted expr_marks (noted expr_marks f a0) a2) ≡ true = clear_before (noted expr_marks (noted expr_marks f a0) a2)
      (filter_marks.passed a3) (filter_marks.high a3) c3 in let c1 : clear (noted expr_marks f a0) ≡ true = clear_before (noted expr_marks f a0)
      (expr_marks.passed a2) (expr_marks.high a2) c2 in let e0 : x0 ≡ a0 = i0 c1 in let e1 : x2 ≡ a2 = i2 c2 in let e2 : x3 ≡ a3 = i3 c3 in λ t.
      record { bound = bound.Between (e0 t) (e1 t); filter = (e2 t) })) p3))))

  filter_agrees : AgreesAll scan_marks AreKept (filter_at read) (filter_of find)
  filter_agrees f ts p =
      agrees_bind expr_marks AreKept scan_marks AreKept f f (tree_at (expression_at read) f ts) (expression_of find ts)
      (λ v. Some (record { bound = bound.All; filter = Some v.0 }, v.1, v.2)) (λ v. Some (record { bound = bound.All; filter = Some v.0 }, v.1))
      (expression_agrees f ts p)
      (λ x0 a0 u0 i0 p0.
      done scan_marks f (record { bound = bound.All; filter = Some x0 }) (record { bound = bound.All; filter = Some a0 }) (noted expr_marks f a0) u0
      (alone_note f (expr_passed a0) (is_high a0)) (λ c1. (let e0 : x0 ≡ a0 = i0 c1 in λ t. record { bound = bound.All; filter = Some (e0 t) })) p0)

  bound_agrees : AgreesAll scan_marks AreKept (bound_at read) (bound_of find)
  bound_agrees f ts p =
      agrees_either scan_marks AreKept f (after (key word.Between) ts) (equal_at read f ts) (equal_of find ts) (between_at read f) (between_of find)
      (λ us e. after_printable (key word.Between) ts us p e) (equal_agrees f ts p) (λ us pu. between_agrees f us pu)

  where_agrees : AgreesAll scan_marks AreKept (where_at read) (where_of find)
  where_agrees f ts p =
      agrees_either scan_marks AreKept f (after (key word.Key) ts) (filter_at read f ts) (filter_of find ts) (bound_at read f) (bound_of find)
      (λ us e. after_printable (key word.Key) ts us p e) (filter_agrees f ts p) (λ us pu. bound_agrees f us pu)

  scan_agrees : AgreesAll scan_marks AreKept (scan_at read) (scan_of find)
  scan_agrees f ts p =
      agrees_either scan_marks AreKept f (after (key word.Where) ts) (Some (record { bound = bound.All; filter = None }, f, ts))
      (Some (record { bound = bound.All; filter = None }, ts)) (where_at read f) (where_of find)
      (λ us e. after_printable (key word.Where) ts us p e)
      (done scan_marks f (record { bound = bound.All; filter = None }) (record { bound = bound.All; filter = None }) f ts (sym (note_none f))
      (λ c. refl) p) (λ us pu. where_agrees f us pu)

  value_agrees : AgreesAll expr_marks AreKept (value_at read) (value_of find)
  value_agrees f ts p =
      agrees_either expr_marks AreKept f (after (key word.Null) ts) (tree_at (expression_at read) f ts) (expression_of find ts)
      (λ us. Some (null, f, us)) (λ us. Some (null, us)) (λ us e. after_printable (key word.Null) ts us p e) (expression_agrees f ts p)
      (λ us pu. done expr_marks f null null f us (sym (note_none f)) (λ c. refl) pu)

  values_agrees : AgreesAll (list_marks expr_marks) AreKept (values_at read) (values_of find)
  values_agrees f ts p = commas_agree expr_marks (value_at read) (value_of find) value_agrees f ts p

  set_agrees : AgreesAll set_marks AreKept (set_at read) (set_of find)
  set_agrees f ts p =
      agrees_bind name_marks AreKept set_marks AreKept f f (name_at f ts) (name_of ts)
      (λ v. after (sign mark.Equal) v.2 >>= λ v1. value_at read v.1 v1 >>= λ v2. Some
      (record { column = v.0; value = v2.0 }, v2.1, v2.2))
      (λ v. after (sign mark.Equal) v.1 >>= λ v1. value_of find v1 >>= λ v2. Some (record { column = v.0; value = v2.0 }, v2.1)) (name_agrees f ts p)
      (λ x0 a0 u0 i0 p0.
      agrees_after set_marks AreKept f (after (sign mark.Equal) u0)
      (λ v. value_at read (noted name_marks f a0) v >>= λ v2. Some (record { column = x0; value = v2.0 }, v2.1, v2.2))
      (λ v. value_of find v >>= λ v2. Some (record { column = a0; value = v2.0 }, v2.1)) (λ us e. after_printable (sign mark.Equal) u0 us p0 e)
      (λ u1 p1.
      agrees_bind expr_marks AreKept set_marks AreKept f (noted name_marks f a0) (value_at read (noted name_marks f a0) u1)
      (value_of find u1) (λ v. Some (record { column = x0; value = v.0 }, v.1, v.2)) (λ v. Some (record { column = a0; value = v.0 }, v.1))
      (value_agrees (noted name_marks f a0) u1 p1)
      (λ x2 a2 u2 i2 p2.
      done set_marks f (record { column = x0; value = x2 }) (record { column = a0; value = a2 }) (noted expr_marks (noted name_marks f a0) a2) u2
      (note_note f (name_passed a0) (expr_passed a2) false (is_high a2))
      (λ c2. (let c1 : clear (noted name_marks f a0) ≡ true = clear_before (noted name_marks f a0) (expr_marks.passed a2)
      (expr_marks.high a2) c2 in let e0 : x0 ≡ a0 = i0 c1 in let e1 : x2 ≡ a2 = i2 c2 in λ t. record { column = (e0 t); value = (e1 t) })) p2)))

  sets_agrees : AgreesAll (list_marks set_marks) AreKept (sets_at read) (sets_of find)
  sets_agrees f ts p = commas_agree set_marks (set_at read) (set_of find) set_agrees f ts p

  insert_agrees : AgreesAll statement_marks AreKept (insert_at read) (insert_of find)
  insert_agrees f ts p =
      agrees_after statement_marks AreKept f (after (key word.Into) ts)
      (λ v. name_at f v >>= λ v1. after (key word.Values) v1.2 >>= λ v2. after
      (sign mark.Open) v2 >>= λ v3. values_at read v1.1 v3 >>= λ v4. after (sign mark.Close) v4.2 >>= λ v5. Some
      (statement.Insert v1.0 v4.0, v4.1, v5))
      (λ v. name_of v >>= λ v1. after (key word.Values) v1.1 >>= λ v2. after (sign mark.Open) v2 >>= λ v3. values_of find v3 >>= λ v4. after
      (sign mark.Close) v4.1 >>= λ v5. Some (statement.Insert v1.0 v4.0, v5)) (λ us e. after_printable (key word.Into) ts us p e)
      (λ u0 p0.
      agrees_bind name_marks AreKept statement_marks AreKept f f (name_at f u0) (name_of u0)
      (λ v. after (key word.Values) v.2 >>= λ v2. after (sign mark.Open) v2 >>= λ v3. values_at read v.1 v3 >>= λ v4. after
      (sign mark.Close) v4.2 >>= λ v5. Some (statement.Insert v.0 v4.0, v4.1, v5))
      (λ v. after (key word.Values) v.1 >>= λ v2. after (sign mark.Open) v2 >>= λ v3. values_of find v3 >>= λ v4. after
      (sign mark.Close) v4.1 >>= λ v5. Some (statement.Insert v.0 v4.0, v5)) (name_agrees f u0 p0)
      (λ x1 a1 u1 i1 p1.
      agrees_after statement_marks AreKept f (after (key word.Values) u1)
      (λ v. after (sign mark.Open) v >>= λ v3. values_at read (noted name_marks f a1) v3 >>= λ v4. after (sign mark.Close) v4.2 >>= λ v5. Some
      (statement.Insert x1 v4.0, v4.1, v5))
      (λ v. after (sign mark.Open) v >>= λ v3. values_of find v3 >>= λ v4. after (sign mark.Close) v4.1 >>= λ v5. Some
      (statement.Insert a1 v4.0, v5)) (λ us e. after_printable (key word.Values) u1 us p1 e)
      (λ u2 p2.
      agrees_after statement_marks AreKept f (after (sign mark.Open) u2)
      (λ v. values_at read (noted name_marks f a1) v >>= λ v4. after (sign mark.Close) v4.2 >>= λ v5. Some (statement.Insert x1 v4.0, v4.1, v5))
      (λ v. values_of find v >>= λ v4. after (sign mark.Close) v4.1 >>= λ v5. Some (statement.Insert a1 v4.0, v5))
      (λ us e. after_printable (sign mark.Open) u2 us p2 e)
      (λ u3 p3.
      agrees_bind (list_marks expr_marks) AreKept statement_marks AreKept f (noted name_marks f a1) (values_at read (noted name_marks f a1) u3)
      (values_of find u3) (λ v. after (sign mark.Close) v.2 >>= λ v5. Some (statement.Insert x1 v.0, v.1, v5))
      (λ v. after (sign mark.Close) v.1 >>= λ v5. Some (statement.Insert a1 v.0, v5)) (values_agrees (noted name_marks f a1) u3 p3)
      (λ x4 a4 u4 i4 p4.
      agrees_after statement_marks AreKept f (after (sign mark.Close) u4)
      (λ v. Some (statement.Insert x1 x4, (noted (list_marks expr_marks) (noted name_marks f a1) a4), v)) (λ v. Some (statement.Insert a1 a4, v))
      (λ us e. after_printable (sign mark.Close) u4 us p4 e)
      (λ u5 p5.
      done statement_marks f (statement.Insert x1 x4) (statement.Insert a1 a4) (noted (list_marks expr_marks) (noted name_marks f a1) a4) u5
      (note_note f (name_passed a1) (first_in expr_passed a4) false (list_any is_high a4))
      (λ c2. (let c1 : clear (noted name_marks f a1) ≡ true = clear_before (noted name_marks f a1) ((list_marks expr_marks).passed a4)
      ((list_marks expr_marks).high a4) c2 in let e0 : x1 ≡ a1 = i1 c1 in let e1 : x4 ≡ a4 = i4 c2 in λ t. statement.Insert (e0 t) (e1 t))) p5))))))

  only_key_agrees : AgreesAll expr_marks AreKept (only_key_at read) (only_key_of find)
  only_key_agrees f ts p =
      agrees_after expr_marks AreKept f (after (key word.Where) ts)
      (λ v. after (key word.Key) v >>= λ w. after (sign mark.Equal) w >>= λ x. tree_at (sum_at read) f x)
      (λ v. after (key word.Key) v >>= λ w. after (sign mark.Equal) w >>= λ x. sum_of find x) (λ us e. after_printable (key word.Where) ts us p e)
      (λ u q. agrees_after expr_marks AreKept f (after (key word.Key) u) (λ w. after (sign mark.Equal) w >>= λ x. tree_at (sum_at read) f x)
      (λ w. after (sign mark.Equal) w >>= λ x. sum_of find x) (λ us e. after_printable (key word.Key) u us q e)
      (λ v r. agrees_after expr_marks AreKept f (after (sign mark.Equal) v) (λ x. tree_at (sum_at read) f x) (λ x. sum_of find x)
      (λ us e. after_printable (sign mark.Equal) v us r e) (λ w s. sum_agrees f w s)))

  select_into_agrees : AgreesAll statement_marks AreKept (select_into_at read) (select_into_of find)
  select_into_agrees f ts p =
      agrees_bind into_marks AreKept statement_marks AreKept f f (into_at f ts) (into_of ts)
      (λ v. after (key word.From) v.2 >>= λ v1. name_at v.1 v1 >>= λ v2. only_key_at read v2.1 v2.2 >>= λ v3. Some
      (statement.SelectInto v.0.0 v.0.1 v2.0 v3.0, v3.1, v3.2))
      (λ v. after (key word.From) v.1 >>= λ v1. name_of v1 >>= λ v2. only_key_of find v2.1 >>= λ v3. Some
      (statement.SelectInto v.0.0 v.0.1 v2.0 v3.0, v3.1)) (into_agrees f ts p)
      (λ x0 a0 u0 i0 p0.
      agrees_after statement_marks AreKept f (after (key word.From) u0)
      (λ v. name_at (noted into_marks f a0) v >>= λ v2. only_key_at read v2.1 v2.2 >>= λ v3. Some
      (statement.SelectInto x0.0 x0.1 v2.0 v3.0, v3.1, v3.2))
      (λ v. name_of v >>= λ v2. only_key_of find v2.1 >>= λ v3. Some (statement.SelectInto a0.0 a0.1 v2.0 v3.0, v3.1))
      (λ us e. after_printable (key word.From) u0 us p0 e)
      (λ u1 p1.
      agrees_bind name_marks AreKept statement_marks AreKept f (noted into_marks f a0) (name_at (noted into_marks f a0) u1) (name_of u1)
      (λ v. only_key_at read v.1 v.2 >>= λ v3. Some (statement.SelectInto x0.0 x0.1 v.0 v3.0, v3.1, v3.2))
      (λ v. only_key_of find v.1 >>= λ v3. Some (statement.SelectInto a0.0 a0.1 v.0 v3.0, v3.1)) (name_agrees (noted into_marks f a0) u1 p1)
      (λ x2 a2 u2 i2 p2.
      agrees_bind expr_marks AreKept statement_marks AreKept f (noted name_marks (noted into_marks f a0) a2)
      (only_key_at read (noted name_marks (noted into_marks f a0) a2) u2) (only_key_of find u2)
      (λ v. Some (statement.SelectInto x0.0 x0.1 x2 v.0, v.1, v.2)) (λ v. Some (statement.SelectInto a0.0 a0.1 a2 v.0, v.1))
      (only_key_agrees (noted name_marks (noted into_marks f a0) a2) u2 p2)
      (λ x3 a3 u3 i3 p3.
      done statement_marks f (statement.SelectInto x0.0 x0.1 x2 x3) (statement.SelectInto a0.0 a0.1 a2 a3)
      (noted expr_marks (noted name_marks (noted into_marks f a0) a2) a3) u3
      (into_note f (name_passed a0.0) (name_passed a0.1) (name_passed a2) (expr_passed a3) (is_high a3))
      (λ c3. (let c2 : clear (noted name_marks (noted into_marks f a0) a2) ≡ true = clear_before (noted name_marks (noted into_marks f a0) a2)
      (expr_marks.passed a3) (expr_marks.high a3) c3 in let c1 : clear (noted into_marks f a0) ≡ true = clear_before (noted into_marks f a0)
      (name_marks.passed a2) (name_marks.high a2) c2 in let e0 : x0 ≡ a0 = i0 c1 in let e1 : x2 ≡ a2 = i2 c2 in let e2 : x3 ≡ a3 = i3 c3 in λ t.
      statement.SelectInto (e0 t).0 (e0 t).1 (e1 t) (e2 t))) p3))))

  select_rows_agrees : AgreesAll statement_marks AreKept (select_rows_at read) (select_rows_of find)
  select_rows_agrees f ts p =
      agrees_bind what_marks AreKept statement_marks AreKept f f (what_at f ts) (what_of ts)
      (λ v. after (key word.From) v.2 >>= λ v1. name_at v.1 v1 >>= λ v2. scan_at read v2.1 v2.2 >>= λ v3. Some
      (statement.Select v.0 v2.0 v3.0, v3.1, v3.2))
      (λ v. after (key word.From) v.1 >>= λ v1. name_of v1 >>= λ v2. scan_of find v2.1 >>= λ v3. Some (statement.Select v.0 v2.0 v3.0, v3.1))
      (what_agrees f ts p)
      (λ x0 a0 u0 i0 p0.
      agrees_after statement_marks AreKept f (after (key word.From) u0)
      (λ v. name_at (noted what_marks f a0) v >>= λ v2. scan_at read v2.1 v2.2 >>= λ v3. Some (statement.Select x0 v2.0 v3.0, v3.1, v3.2))
      (λ v. name_of v >>= λ v2. scan_of find v2.1 >>= λ v3. Some (statement.Select a0 v2.0 v3.0, v3.1)) (λ us e. after_printable (key word.From) u0 us p0 e)
      (λ u1 p1.
      agrees_bind name_marks AreKept statement_marks AreKept f (noted what_marks f a0) (name_at (noted what_marks f a0) u1) (name_of u1)
      (λ v. scan_at read v.1 v.2 >>= λ v3. Some (statement.Select x0 v.0 v3.0, v3.1, v3.2))
      (λ v. scan_of find v.1 >>= λ v3. Some (statement.Select a0 v.0 v3.0, v3.1)) (name_agrees (noted what_marks f a0) u1 p1)
      (λ x2 a2 u2 i2 p2.
      agrees_bind scan_marks AreKept statement_marks AreKept f (noted name_marks (noted what_marks f a0) a2)
      (scan_at read (noted name_marks (noted what_marks f a0) a2) u2) (scan_of find u2) (λ v. Some (statement.Select x0 x2 v.0, v.1, v.2))
      (λ v. Some (statement.Select a0 a2 v.0, v.1)) (scan_agrees (noted name_marks (noted what_marks f a0) a2) u2 p2)
      (λ x3 a3 u3 i3 p3.
      done statement_marks f (statement.Select x0 x2 x3) (statement.Select a0 a2 a3)
      (noted scan_marks (noted name_marks (noted what_marks f a0) a2) a3) u3
      (note_three f (what_passed a0) (name_passed a2) (scan_passed a3) false false (list_any is_high (scan_exprs a3)))
      (λ c3. (let c2 : clear (noted name_marks (noted what_marks f a0) a2) ≡ true = clear_before (noted name_marks (noted what_marks f a0) a2)
      (scan_marks.passed a3) (scan_marks.high a3) c3 in let c1 : clear (noted what_marks f a0) ≡ true = clear_before (noted what_marks f a0)
      (name_marks.passed a2) (name_marks.high a2) c2 in let e0 : x0 ≡ a0 = i0 c1 in let e1 : x2 ≡ a2 = i2 c2 in let e2 : x3 ≡ a3 = i3 c3 in λ t.
      statement.Select (e0 t) (e1 t) (e2 t))) p3))))

  select_agrees : AgreesAll statement_marks AreKept (select_at read) (select_of find)
  select_agrees f ts p = go (is_into ts)
    where
      go : (b : Bool) → Agrees statement_marks AreKept f (cond b (select_into_at read f ts) (select_rows_at read f ts))
          (cond b (select_into_of find ts) (select_rows_of find ts))
      go true = select_into_agrees f ts p
      go false = select_rows_agrees f ts p

  update_agrees : AgreesAll statement_marks AreKept (update_at read) (update_of find)
  update_agrees f ts p =
      agrees_bind name_marks AreKept statement_marks AreKept f f (name_at f ts) (name_of ts)
      (λ v. after (key word.Set) v.2 >>= λ v1. sets_at read v.1 v1 >>= λ v2. scan_at read v2.1 v2.2 >>= λ v3. Some
      (statement.Update v.0 v2.0 v3.0, v3.1, v3.2))
      (λ v. after (key word.Set) v.1 >>= λ v1. sets_of find v1 >>= λ v2. scan_of find v2.1 >>= λ v3. Some (statement.Update v.0 v2.0 v3.0, v3.1))
      (name_agrees f ts p)
      (λ x0 a0 u0 i0 p0.
      agrees_after statement_marks AreKept f (after (key word.Set) u0)
      (λ v. sets_at read (noted name_marks f a0) v >>= λ v2. scan_at read v2.1 v2.2 >>= λ v3. Some (statement.Update x0 v2.0 v3.0, v3.1, v3.2))
      (λ v. sets_of find v >>= λ v2. scan_of find v2.1 >>= λ v3. Some (statement.Update a0 v2.0 v3.0, v3.1))
      (λ us e. after_printable (key word.Set) u0 us p0 e)
      (λ u1 p1.
      agrees_bind (list_marks set_marks) AreKept statement_marks AreKept f (noted name_marks f a0) (sets_at read (noted name_marks f a0) u1)
      (sets_of find u1) (λ v. scan_at read v.1 v.2 >>= λ v3. Some (statement.Update x0 v.0 v3.0, v3.1, v3.2))
      (λ v. scan_of find v.1 >>= λ v3. Some (statement.Update a0 v.0 v3.0, v3.1)) (sets_agrees (noted name_marks f a0) u1 p1)
      (λ x2 a2 u2 i2 p2.
      agrees_bind scan_marks AreKept statement_marks AreKept f (noted (list_marks set_marks) (noted name_marks f a0) a2)
      (scan_at read (noted (list_marks set_marks) (noted name_marks f a0) a2) u2) (scan_of find u2)
      (λ v. Some (statement.Update x0 x2 v.0, v.1, v.2)) (λ v. Some (statement.Update a0 a2 v.0, v.1))
      (scan_agrees (noted (list_marks set_marks) (noted name_marks f a0) a2) u2 p2)
      (λ x3 a3 u3 i3 p3.
      done statement_marks f (statement.Update x0 x2 x3) (statement.Update a0 a2 a3)
      (noted scan_marks (noted (list_marks set_marks) (noted name_marks f a0) a2) a3) u3
      (note_three f (name_passed a0) (first_in set_passed a2) (scan_passed a3) false (list_any set_marks.high a2)
      (list_any is_high (scan_exprs a3))
      ∙ ap (λ (b : Bool). note f (option_or (name_passed a0) (option_or (first_in set_passed a2) (scan_passed a3))) b)
      (sets_high a2 (scan_exprs a3)))
      (λ c3. (let c2 : clear (noted (list_marks set_marks) (noted name_marks f a0) a2) ≡ true = clear_before
      (noted (list_marks set_marks) (noted name_marks f a0) a2) (scan_marks.passed a3) (scan_marks.high a3) c3 in let c1 : clear
      (noted name_marks f a0) ≡ true = clear_before (noted name_marks f a0) ((list_marks set_marks).passed a2)
      ((list_marks set_marks).high a2) c2 in let e0 : x0 ≡ a0 = i0 c1 in let e1 : x2 ≡ a2 = i2 c2 in let e2 : x3 ≡ a3 = i3 c3 in λ t.
      statement.Update (e0 t) (e1 t) (e2 t))) p3))))

  delete_agrees : AgreesAll statement_marks AreKept (delete_at read) (delete_of find)
  delete_agrees f ts p =
      agrees_after statement_marks AreKept f (after (key word.From) ts)
      (λ v. name_at f v >>= λ v1. scan_at read v1.1 v1.2 >>= λ v2. Some (statement.Delete v1.0 v2.0, v2.1, v2.2))
      (λ v. name_of v >>= λ v1. scan_of find v1.1 >>= λ v2. Some (statement.Delete v1.0 v2.0, v2.1)) (λ us e. after_printable (key word.From) ts us p e)
      (λ u0 p0.
      agrees_bind name_marks AreKept statement_marks AreKept f f (name_at f u0) (name_of u0)
      (λ v. scan_at read v.1 v.2 >>= λ v2. Some (statement.Delete v.0 v2.0, v2.1, v2.2))
      (λ v. scan_of find v.1 >>= λ v2. Some (statement.Delete v.0 v2.0, v2.1)) (name_agrees f u0 p0)
      (λ x1 a1 u1 i1 p1.
      agrees_bind scan_marks AreKept statement_marks AreKept f (noted name_marks f a1) (scan_at read (noted name_marks f a1) u1) (scan_of find u1)
      (λ v. Some (statement.Delete x1 v.0, v.1, v.2)) (λ v. Some (statement.Delete a1 v.0, v.1)) (scan_agrees (noted name_marks f a1) u1 p1)
      (λ x2 a2 u2 i2 p2.
      done statement_marks f (statement.Delete x1 x2) (statement.Delete a1 a2) (noted scan_marks (noted name_marks f a1) a2) u2
      (note_note f (name_passed a1) (scan_passed a2) false (list_any is_high (scan_exprs a2)))
      (λ c2. (let c1 : clear (noted name_marks f a1) ≡ true = clear_before (noted name_marks f a1) (scan_marks.passed a2)
      (scan_marks.high a2) c2 in let e0 : x1 ≡ a1 = i1 c1 in let e1 : x2 ≡ a2 = i2 c2 in λ t. statement.Delete (e0 t) (e1 t))) p2)))

  ensure_agrees : AgreesAll statement_marks AreKept (ensure_at read) (ensure_of find)
  ensure_agrees f ts p =
      agrees_after statement_marks AreKept f (after (key word.Ensure) ts)
      (λ v. tree_at (expression_at read) f v >>= λ v1. Some (statement.Ensure v1.0, v1.1, v1.2))
      (λ v. expression_of find v >>= λ v1. Some (statement.Ensure v1.0, v1.1)) (λ us e. after_printable (key word.Ensure) ts us p e)
      (λ u0 p0.
      agrees_bind expr_marks AreKept statement_marks AreKept f f (tree_at (expression_at read) f u0) (expression_of find u0)
      (λ v. Some (statement.Ensure v.0, v.1, v.2)) (λ v. Some (statement.Ensure v.0, v.1)) (expression_agrees f u0 p0)
      (λ x1 a1 u1 i1 p1.
      done statement_marks f (statement.Ensure x1) (statement.Ensure a1) (noted expr_marks f a1) u1 (alone_note f (expr_passed a1) (is_high a1))
      (λ c1. (let e0 : x1 ≡ a1 = i1 c1 in λ t. statement.Ensure (e0 t))) p1))

  change_agrees : AgreesAll statement_marks AreKept (change_at read) (change_of find)
  change_agrees f ts p =
      agrees_either statement_marks AreKept f (after (key word.Update) ts)
      (either (after (key word.Delete) ts) (ensure_at read f ts) (delete_at read f))
      (either (after (key word.Delete) ts) (ensure_of find ts) (delete_of find)) (update_at read f) (update_of find)
      (λ us e. after_printable (key word.Update) ts us p e)
      (agrees_either statement_marks AreKept f (after (key word.Delete) ts) (ensure_at read f ts) (ensure_of find ts) (delete_at read f)
      (delete_of find) (λ us e. after_printable (key word.Delete) ts us p e) (ensure_agrees f ts p) (λ us pu. delete_agrees f us pu))
      (λ us pu. update_agrees f us pu)

pub statement_agrees : (read deeper : Reader BuiltTree) (find found : TreeReader Expr) → Mirrors read find → Mirrors deeper found →
    AgreesAll statement_marks AreKept (statement_at read deeper) (statement_of find found)
unfolding statement_at
statement_agrees read deeper find found c d f ts p =
    agrees_either statement_marks AreKept f (after (key word.Insert) ts)
    (either (after (key word.Select) ts) (change_at read f ts) (select_at read f))
    (either (after (key word.Select) ts) (change_of find ts) (select_of find)) (insert_at deeper f) (insert_of found)
    (λ us e. after_printable (key word.Insert) ts us p e)
    (agrees_either statement_marks AreKept f (after (key word.Select) ts) (change_at read f ts) (change_of find ts) (select_at read f)
    (select_of find) (λ us e. after_printable (key word.Select) ts us p e) (change_agrees read find c f ts p)
    (λ us pu. select_agrees read find c f us pu)) (λ us pu. insert_agrees deeper found d f us pu)

-- ---- tables

kind_printable : (ts : Symbols) (k : ColType × Symbols) → ArePrintable ts → kind_at ts ≡ Some k → ArePrintable k.1
kind_printable ts k p h = go (after (key word.Int) ts) refl h
  where
    go2 : (o : Option Symbols) → after (key word.Text) ts ≡ o → ◌>>=◌ {B = ColType × Symbols} o (λ us. Some (kind.Text, us)) ≡ Some k → ArePrintable k.1
    go2 None e j = absurd cc
    go2 (Some us) e j = let same : us ≡ k.1 = cc j in subst ArePrintable same (after_printable (key word.Text) ts us p e)

    go : (o : Option Symbols) → after (key word.Int) ts ≡ o →
        either o (after (key word.Text) ts >>= λ us. Some (kind.Text, us)) (λ us. Some (kind.Int, us)) ≡ Some k → ArePrintable k.1
    go None e j = go2 (after (key word.Text) ts) refl j
    go (Some us) e j = let same : us ≡ k.1 = cc j in subst ArePrintable same (after_printable (key word.Int) ts us p e)

-- where a column's type comes next
agrees_kind : (f g : Flags) (n m : List ℕ) (o : Option (ColType × Symbols)) → ((k : ColType × Symbols) → o ≡ Some k → ArePrintable k.1) →
    g ≡ note f (name_passed m) false → (clear g ≡ true → n ≡ m) →
    Agrees field_marks AreKept f (o >>= λ k. Some (record { name = n; kind = k.0; nullable = false }, g, k.1))
    (o >>= λ k. Some (record { name = m; kind = k.0; nullable = false }, k.1))
agrees_kind f g n m None p e i = tt
agrees_kind f g n m (Some k) p e i =
    done field_marks f (record { name = n; kind = k.0; nullable = false }) (record { name = m; kind = k.0; nullable = false }) g k.1 e
    (λ c. (let same : n ≡ m = i c in λ t. record { name = same t; kind = k.0; nullable = false })) (p k refl)

pub field_agrees : AgreesAll field_marks AreKept field_at field_of
field_agrees f ts p =
    agrees_bind name_marks AreKept field_marks AreKept f f (name_at f ts) (name_of ts)
    (λ v. kind_at v.2 >>= λ k. Some (record { name = v.0; kind = k.0; nullable = false }, v.1, k.1))
    (λ v. kind_at v.1 >>= λ k. Some (record { name = v.0; kind = k.0; nullable = false }, k.1)) (name_agrees f ts p)
    (λ x a us i pu. agrees_kind f (noted name_marks f a) x a (kind_at us) (λ k e. kind_printable us k pu e) refl i)

column_agrees : AgreesAll field_marks AreKept plain_column_at column_of
column_agrees f ts p =
    agrees_bind field_marks AreKept field_marks AreKept f f (field_at f ts) (field_of ts) (λ c. nullable_at c.0 c.1 c.2) (λ c. nullable_of c.0 c.1)
    (field_agrees f ts p)
    (λ x a us i pu.
    let g = noted field_marks f a in
    agrees_either field_marks AreKept f (after (key word.Null) us) (Some (x, g, us)) (Some (a, us))
    (λ vs. Some (record x { nullable = true }, g, vs)) (λ vs. Some (record a { nullable = true }, vs))
    (λ vs e. after_printable (key word.Null) us vs pu e) (done field_marks f x a g us refl i pu)
    (λ vs pv. done field_marks f (record x { nullable = true }) (record a { nullable = true }) g vs refl
    (λ c. (let same : x ≡ a = i c in λ t. record (same t) { nullable = true })) pv))

field_comma_keeps : Keeps field_comma
field_comma_keeps ts us p h = go (comma ts) refl h
  where
    go2 : (vs : Symbols) (o : Option Symbols) → ArePrintable vs → either o (Some vs) (λ ws. None) ≡ Some us → ArePrintable us
    go2 vs None q k = let same : vs ≡ us = cc k in subst ArePrintable same q
    go2 vs (Some ws) q k = absurd cc

    go : (o : Option Symbols) → comma ts ≡ o → (o >>= λ vs. either (after (key word.Check) vs) (Some vs) (λ ws. None)) ≡ Some us → ArePrintable us
    go None e k = absurd cc
    go (Some vs) e k = go2 vs (after (key word.Check) vs) (after_printable (sign mark.Comma) ts vs p e) k

-- the marks of further columns
abbrev further_marks : Marks (List Field)
further_marks = from_marks (counted_marks 16 limit.Columns field_marks) 1

-- the marks of all columns, by those of the further ones
fields_note : (f : Flags) (a : Field) (b : List Field) → noted further_marks (noted field_marks f a) b ≡ noted fields_marks f (a ∷ b)
fields_note f a b =
    let g = noted field_marks f a in
    counted_note 16 limit.Columns field_marks 1 15 refl g b ∙ note_note f (name_passed a.name) (passed_in_list 15 limit.Columns (λ f. name_passed f.name) b) false
    (list_any field_marks.high b)
    ∙ (λ t. note f (option_or (name_passed a.name) (passed_in_list 15 limit.Columns (λ f. name_passed f.name) b)) (none_high b t))

fields_agrees : AgreesAll fields_marks AreKept fields_at fields_of
fields_agrees f ts p =
    agrees_bind field_marks AreKept fields_marks AreKept f f (field_at f ts) (field_of ts)
    (λ c. after (key word.Key) c.2 >>= λ us. with_front (c.0 ∷ []) (following_at field_comma further_column_at 1 (length us) c.1 us))
    (λ c. after (key word.Key) c.1 >>= λ us. ahead (c.0 ∷ []) (following_of field_comma column_of (length us) us)) (field_agrees f ts p)
    (λ x a us i pu.
    agrees_after fields_marks AreKept f (after (key word.Key) us)
    (λ vs. with_front (x ∷ []) (following_at field_comma further_column_at 1 (length vs) (noted field_marks f a) vs))
    (λ vs. ahead (a ∷ []) (following_of field_comma column_of (length vs) vs)) (λ vs e. after_printable (key word.Key) us vs pu e)
    (λ vs pv.
    agrees_bind further_marks AreKept fields_marks AreKept f (noted field_marks f a)
    (following_at field_comma further_column_at 1 (length vs) (noted field_marks f a) vs) (following_of field_comma column_of (length vs) vs)
    (λ y. Some (x ∷ y.0, y.1, y.2)) (λ y. Some (a ∷ y.0, y.1))
    (following_agrees field_comma field_comma_keeps (counted_marks 16 limit.Columns field_marks) further_column_at column_of
    (counted_agrees 16 limit.Columns field_marks plain_column_at column_of column_agrees) 1
    (length vs) (noted field_marks f a) vs pv)
    (λ y b ws j pw. done fields_marks f (x ∷ y) (a ∷ b) (noted further_marks (noted field_marks f a) b) ws
    (fields_note f a b)
    (λ c2. (let c1 : clear (noted field_marks f a) ≡ true = clear_before (noted field_marks f a)
    (further_marks.passed b)
    (further_marks.high b) c2 in let e0 : x ≡ a = i c1 in let e1 : y ≡ b = j c2 in λ t. e0 t ∷ e1 t)) pw)))

module _ (read : Reader BuiltTree) (find : TreeReader Expr) (c : Mirrors read find) where
  check_agrees : (n : ℕ) → AgreesAll (counted_marks 16 limit.Checks expr_marks n) AreKept (check_at read n) (check_of find)
  check_agrees n f ts p =
      agrees_after (counted_marks 16 limit.Checks expr_marks n) AreKept f (after (key word.Check) ts)
      (λ us. tree_at (expression_at read) (counted 16 limit.Checks n f) us) (λ us. expression_of find us)
      (λ us e. after_printable (key word.Check) ts us p e)
      (λ us pu. agrees_counted 16 limit.Checks expr_marks n f (tree_at (expression_at read) (counted 16 limit.Checks n f) us) (expression_of find us)
      (expression_agrees read find c (counted 16 limit.Checks n f) us pu))

  checks_agrees : AgreesAll checks_marks AreKept (checks_at read) (checks_of find)
  checks_agrees f ts p =
      agrees_named (from_marks (counted_marks 16 limit.Checks expr_marks) 0) checks_marks f (checks_at read f ts) (checks_of find ts)
      (counted_note 16 limit.Checks expr_marks 0 16 refl f)
      (following_agrees comma (after_keeps (sign mark.Comma)) (counted_marks 16 limit.Checks expr_marks) (check_at read) (check_of find) check_agrees 0 (length ts) f ts p)

  definition_agrees : AgreesAll table_marks AreKept (definition_at read) (definition_of find)
  definition_agrees f ts p =
      agrees_bind name_marks AreKept table_marks AreKept f f (name_at f ts) (name_of ts)
      (λ v. after (sign mark.Open) v.2 >>= λ v1. fields_at v.1 v1 >>= λ v2. checks_at read v2.1 v2.2 >>= λ v3. after
      (sign mark.Close) v3.2 >>= λ v4. Some (record { name = v.0; columns = v2.0; checks = v3.0 }, v3.1, v4))
      (λ v. after (sign mark.Open) v.1 >>= λ v1. fields_of v1 >>= λ v2. checks_of find v2.1 >>= λ v3. after (sign mark.Close) v3.1 >>= λ v4. Some
      (record { name = v.0; columns = v2.0; checks = v3.0 }, v4)) (name_agrees f ts p)
      (λ x0 a0 u0 i0 p0.
      agrees_after table_marks AreKept f (after (sign mark.Open) u0)
      (λ v. fields_at (noted name_marks f a0) v >>= λ v2. checks_at read v2.1 v2.2 >>= λ v3. after (sign mark.Close) v3.2 >>= λ v4. Some
      (record { name = x0; columns = v2.0; checks = v3.0 }, v3.1, v4))
      (λ v. fields_of v >>= λ v2. checks_of find v2.1 >>= λ v3. after (sign mark.Close) v3.1 >>= λ v4. Some
      (record { name = a0; columns = v2.0; checks = v3.0 }, v4)) (λ us e. after_printable (sign mark.Open) u0 us p0 e)
      (λ u1 p1.
      agrees_bind fields_marks AreKept table_marks AreKept f (noted name_marks f a0) (fields_at (noted name_marks f a0) u1) (fields_of u1)
      (λ v. checks_at read v.1 v.2 >>= λ v3. after (sign mark.Close) v3.2 >>= λ v4. Some
      (record { name = x0; columns = v.0; checks = v3.0 }, v3.1, v4))
      (λ v. checks_of find v.1 >>= λ v3. after (sign mark.Close) v3.1 >>= λ v4. Some (record { name = a0; columns = v.0; checks = v3.0 }, v4))
      (fields_agrees (noted name_marks f a0) u1 p1)
      (λ x2 a2 u2 i2 p2.
      agrees_bind checks_marks AreKept table_marks AreKept f (noted fields_marks (noted name_marks f a0) a2)
      (checks_at read (noted fields_marks (noted name_marks f a0) a2) u2) (checks_of find u2)
      (λ v. after (sign mark.Close) v.2 >>= λ v4. Some (record { name = x0; columns = x2; checks = v.0 }, v.1, v4))
      (λ v. after (sign mark.Close) v.1 >>= λ v4. Some (record { name = a0; columns = a2; checks = v.0 }, v4))
      (checks_agrees (noted fields_marks (noted name_marks f a0) a2) u2 p2)
      (λ x3 a3 u3 i3 p3.
      agrees_after table_marks AreKept f (after (sign mark.Close) u3)
      (λ v. Some (record { name = x0; columns = x2; checks = x3 }, (noted checks_marks (noted fields_marks (noted name_marks f a0) a2) a3), v))
      (λ v. Some (record { name = a0; columns = a2; checks = a3 }, v)) (λ us e. after_printable (sign mark.Close) u3 us p3 e)
      (λ u4 p4.
      done table_marks f (record { name = x0; columns = x2; checks = x3 }) (record { name = a0; columns = a2; checks = a3 })
      (noted checks_marks (noted fields_marks (noted name_marks f a0) a2) a3) u4
      (note_three f (name_passed a0) (passed_in_list 16 limit.Columns (λ f. name_passed f.name) a2) (passed_in_list 16 limit.Checks expr_passed a3) false false
      (list_any is_high a3)) (λ c3. (let c2 : clear (noted fields_marks (noted name_marks f a0) a2) ≡ true = clear_before
      (noted fields_marks (noted name_marks f a0) a2) (checks_marks.passed a3) (checks_marks.high a3) c3 in let c1 : clear
      (noted name_marks f a0) ≡ true = clear_before (noted name_marks f a0) (fields_marks.passed a2)
      (fields_marks.high a2) c2 in let e0 : x0 ≡ a0 = i0 c1 in let e1 : x2 ≡ a2 = i2 c2 in let e2 : x3 ≡ a3 = i3 c3 in λ t. record
      { name = (e0 t); columns = (e1 t); checks = (e2 t) })) p4)))))

  pub table_agrees : AgreesAll table_marks AreKept (table_at read) (table_of find)
  unfolding table_at
  table_agrees f ts p =
      agrees_after table_marks AreKept f (after (key word.Create) ts) (λ us. after (key word.Table) us >>= λ vs. definition_at read f vs)
      (λ us. after (key word.Table) us >>= λ vs. definition_of find vs) (λ us e. after_printable (key word.Create) ts us p e)
      (λ us pu. agrees_after table_marks AreKept f (after (key word.Table) us) (λ vs. definition_at read f vs) (λ vs. definition_of find vs)
      (λ vs e. after_printable (key word.Table) us vs pu e) (λ vs pv. definition_agrees f vs pv))
