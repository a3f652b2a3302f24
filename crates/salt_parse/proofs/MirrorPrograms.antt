-- Reading programs with what they pass finds what reading alone finds, and notes what they pass.
use Rattle.salt_values.specs.declared.limits.TheConstants.{RETRY_MOST}
use Rattle.std.proofs.Common.{◌≡◌, ℕ, Bool, true, false, cond, ◌||◌, ltb, List, [], ◌∷◌, ◌++◌, map, Option, Some, None, refl, sym, ap, ◌∙◌}
use Rattle.std.specs.List.{list_any}
use Rattle.std.specs.Prelude.{flat_map, option_and_then}
use Rattle.std.specs.Bool.{then_some}
use Rattle.std.specs.Option.{option_or}
use Rattle.salt_ast.specs.Limits.{is_high, name_passed, passed_in_list}
use Rattle.salt_ast.specs.Paths.{body_statements, part_block, statements_in}
use Rattle.salt_ast.specs.ProgramLimits.{body_passed, next_passed, number_passed, outside, part_passed, program_exprs, program_passed}
use Rattle.salt_ast.specs.Trees.{statement_exprs}
use Rattle.salt_ast.specs.declared.limit.LimitName.{LimitName}
use Rattle.salt_ast.specs.declared.limit.LimitName.TheVariants as limit
use Rattle.salt_ast.specs.declared.programs.Body.{Body}
use Rattle.salt_ast.specs.declared.programs.Body.TheVariants as body
use Rattle.salt_ast.specs.declared.programs.Next.{Next}
use Rattle.salt_ast.specs.declared.programs.Next.TheVariants as next
use Rattle.salt_ast.specs.declared.programs.PartDef.{PartDef}
use Rattle.salt_ast.specs.declared.programs.ProgramDef.{ProgramDef}
use Rattle.salt_ast.specs.declared.trees.Expr.{Expr}
use Rattle.salt_ast.specs.declared.trees.Field.{Field}
use Rattle.salt_ast.specs.declared.trees.Statement.{Statement}
use Rattle.salt_parse.specs.Combining.{before_at, behind_at, both_at, made_at, nothing_at}
use Rattle.salt_parse.specs.Flags.{BuiltTree, Flags, clear, note}
use Rattle.salt_parse.specs.ProgramReading.{base_at, block_at, body_at, branch_at, fields_within, kept_retry, number_at, on_commit_at, on_failure_at}
use Rattle.salt_parse.specs.ProgramReading.{parameters_at, part_at, part_def, parts_at, program_at, program_def, rest_at, retry_at, statements_at}
use Rattle.salt_parse.specs.ProgramReading.{tried, untried, variables_at, way_at}
use Rattle.salt_parse.specs.Reading.{Reader}
use Rattle.salt_parse.specs.StatementReading.{name_at, statement_at}
use Rattle.salt_parse.specs.TableReading.{field_at}
use Rattle.salt_parse.proofs.Combined.{before_agrees, before_of, behind_agrees, behind_of, both_agrees, both_marks, both_of, choice_agrees}
use Rattle.salt_parse.proofs.Combined.{made_agrees, made_of, nothing_agrees, nothing_of}
use Rattle.salt_parse.proofs.Mirror.{AgreesAll, AreKept, Marks, Mirrors, clear_passes, name_marks, noted, or_assoc, or_false}
use Rattle.salt_parse.proofs.MirrorLists.{agrees_named, counted_items_agree, counted_list}
use Rattle.salt_parse.proofs.MirrorStatements.{field_agrees, field_marks, name_agrees, none_high, statement_agrees, statement_marks}
use Rattle.salt_parse.proofs.ProgramTrees.{base_of, block_of, body_of, branch_of, ended_of, listed_fields_of, number_of, on_commit_of, on_failure_of}
use Rattle.salt_parse.proofs.ProgramTrees.{parameters_of, part_of, parts_of, program_of, rest_of, retried_of, statements_of, variables_of, way_of}
use Rattle.salt_parse.proofs.StatementTrees.{field_of, name_of, statement_of}
use Rattle.salt_parse.proofs.Trees.{TreeReader}
use Rattle.salt_ast.specs.Symbols.{int, key, name, sign, text}
use Rattle.salt_ast.specs.declared.keyword.Keyword.TheVariants as word
use Rattle.salt_ast.specs.declared.sign.Sign.TheVariants as mark

-- ---- what is passed

abbrev fields_marks : ℕ → LimitName → Marks (List Field)
fields_marks most l = record { passed = passed_in_list most l (λ f. name_passed f.name); high = λ fs. false }

abbrev block_marks : Marks (List Statement)
block_marks = counted_list 64 limit.Statements statement_marks

abbrev number_marks : Marks ℕ
number_marks = record { passed = number_passed; high = λ k. false }

abbrev retry_marks : Marks ℕ
retry_marks = record { passed = (outside 1 RETRY_MOST limit.Retry); high = λ k. false }

abbrev next_marks : Marks Next
next_marks = record { passed = next_passed; high = λ n. false }

abbrev commit_marks : Marks (Option Next)
commit_marks = record { passed = option_and_then next_passed; high = λ n. false }

abbrev failure_marks : Marks (Option ℕ × Option Next)
failure_marks = record { passed = λ x. option_or (option_and_then (outside 1 RETRY_MOST limit.Retry) x.0) (option_and_then next_passed x.1); high = λ x. false }

abbrev part_marks : Marks PartDef
part_marks = record { passed = part_passed; high = λ p. list_any statement_marks.high p.block }

abbrev parts_marks : Marks (List PartDef)
parts_marks = counted_list 32 limit.Parts part_marks

abbrev body_marks : Marks Body
body_marks = record { passed = body_passed; high = λ b. list_any is_high (flat_map statement_exprs (body_statements b)) }

abbrev pub program_marks : Marks ProgramDef
program_marks = record { passed = program_passed; high = λ p. list_any is_high (program_exprs p) }

abbrev rest_marks : Marks (List Field × (List Field × Body))
rest_marks = both_marks (fields_marks 16 limit.Parameters) (both_marks (fields_marks 16 limit.Variables) body_marks)

-- ---- the heights of expressions, block by block

any_append : (es fs : List Expr) → list_any is_high (es ++ fs) ≡ (list_any is_high es || list_any is_high fs)
any_append [] fs = refl
any_append (e ∷ es) fs = ap (λ (b : Bool). is_high e || b) (any_append es fs) ∙ sym (or_assoc (is_high e) (list_any is_high es) (list_any is_high fs))

block_high : (sts more : List Statement) →
    list_any is_high (flat_map statement_exprs (sts ++ more)) ≡ (list_any statement_marks.high sts || list_any is_high (flat_map statement_exprs more))
block_high [] more = refl
block_high (st ∷ sts) more =
    any_append (statement_exprs st) (flat_map statement_exprs (sts ++ more))
    ∙ ap (λ (b : Bool). statement_marks.high st || b) (block_high sts more)
    ∙ sym (or_assoc (statement_marks.high st) (list_any statement_marks.high sts) (list_any is_high (flat_map statement_exprs more)))

acid_high : (sts : List Statement) → list_any statement_marks.high sts ≡ body_marks.high (body.Acid sts)
acid_high sts = sym (block_high sts [] ∙ or_false (list_any statement_marks.high sts))

base_high : (parts : List PartDef) → list_any part_marks.high parts ≡ body_marks.high (body.Base parts)
base_high [] = refl
base_high (p ∷ ps) = ap (λ (b : Bool). part_marks.high p || b) (base_high ps) ∙ sym (block_high p.block (statements_in (map part_block ps)))

-- ---- parameters and variables

fields_agree : (most : ℕ) (l : LimitName) → AgreesAll (fields_marks most l) AreKept (fields_within most l) listed_fields_of
fields_agree most l f ts p =
    agrees_named (counted_list most l field_marks) (fields_marks most l) f (fields_within most l f ts) (listed_fields_of ts)
    (λ a. ap (λ (b : Bool). note f (passed_in_list most l (λ f. name_passed f.name) a) b) (none_high a))
    (counted_items_agree (sign mark.Comma) most l field_marks field_at field_of field_agrees f ts p)

parameters_agree : AgreesAll (fields_marks 16 limit.Parameters) AreKept parameters_at parameters_of
parameters_agree =
    choice_agrees (sign mark.Close) (fields_marks 16 limit.Parameters) (nothing_at []) (before_at (fields_within 16 limit.Parameters) (sign mark.Close))
    (nothing_of []) (before_of listed_fields_of (sign mark.Close)) (nothing_agrees (fields_marks 16 limit.Parameters) [] refl refl)
    (before_agrees (fields_marks 16 limit.Parameters) (fields_within 16 limit.Parameters) listed_fields_of (fields_agree 16 limit.Parameters) (sign mark.Close))

variables_agree : AgreesAll (fields_marks 16 limit.Variables) AreKept variables_at variables_of
variables_agree =
    choice_agrees (key word.Var) (fields_marks 16 limit.Variables) (fields_within 16 limit.Variables) (nothing_at []) listed_fields_of (nothing_of [])
    (fields_agree 16 limit.Variables) (nothing_agrees (fields_marks 16 limit.Variables) [] refl refl)

-- ---- ways

number_agrees : AgreesAll number_marks AreKept number_at number_of
number_agrees f (int k ∷ ts) p = record { left = refl; flags = refl; is = λ c. refl; printable = p.1 }
number_agrees f [] p = tt
number_agrees f (key k ∷ ts) p = tt
number_agrees f (name n ∷ ts) p = tt
number_agrees f (text t ∷ ts) p = tt
number_agrees f (sign s ∷ ts) p = tt

retry_is : (f : Flags) (k : ℕ) → clear (note f (outside 1 RETRY_MOST limit.Retry k) false) ≡ true → kept_retry k ≡ k
retry_is f k c = go (ltb k 1 || ltb 9 k) (clear_passes f (outside 1 RETRY_MOST limit.Retry k) false c)
  where
    go : (b : Bool) → then_some b limit.Retry ≡ None → cond b 0 k ≡ k
    go true h = absurd cc
    go false h = refl

retry_agrees : AgreesAll retry_marks AreKept retry_at number_of
retry_agrees f (int k ∷ ts) p = record { left = refl; flags = refl; is = λ c. retry_is f k c; printable = p.1 }
retry_agrees f [] p = tt
retry_agrees f (key k ∷ ts) p = tt
retry_agrees f (name n ∷ ts) p = tt
retry_agrees f (text t ∷ ts) p = tt
retry_agrees f (sign s ∷ ts) p = tt

way_agrees : AgreesAll next_marks AreKept way_at way_of
way_agrees =
    choice_agrees (key word.End) next_marks (nothing_at next.End) (behind_at (key word.Go) (made_at next.Part number_at)) (nothing_of next.End)
    (behind_of (key word.Go) (made_of next.Part number_of)) (nothing_agrees next_marks next.End refl refl)
    (behind_agrees next_marks (made_at next.Part number_at) (made_of next.Part number_of)
    (made_agrees number_marks number_at number_of number_agrees next_marks next.Part (λ f a. refl)) (key word.Go))

on_commit_agrees : AgreesAll commit_marks AreKept on_commit_at on_commit_of
on_commit_agrees =
    choice_agrees (key word.Then) commit_marks (made_at Some way_at) (nothing_at None) (made_of Some way_of) (nothing_of None)
    (made_agrees next_marks way_at way_of way_agrees commit_marks Some (λ f a. refl)) (nothing_agrees commit_marks None refl refl)

abbrev retried_at : Reader (ℕ × Next)
retried_at = both_at (before_at retry_at (key word.Then)) way_at

retried_agrees : AgreesAll (both_marks retry_marks next_marks) AreKept retried_at retried_of
retried_agrees = both_agrees retry_marks next_marks (before_at retry_at (key word.Then)) way_at (before_of number_of (key word.Then)) way_of
    (before_agrees retry_marks retry_at number_of retry_agrees (key word.Then)) way_agrees

branch_agrees : AgreesAll failure_marks AreKept branch_at branch_of
branch_agrees =
    choice_agrees (key word.Retry) failure_marks (made_at tried retried_at) (made_at untried way_at) (made_of tried retried_of) (made_of untried way_of)
    (made_agrees (both_marks retry_marks next_marks) retried_at retried_of retried_agrees failure_marks tried (λ f a. refl))
    (made_agrees next_marks way_at way_of way_agrees failure_marks untried (λ f a. refl))

on_failure_agrees : AgreesAll failure_marks AreKept on_failure_at on_failure_of
on_failure_agrees =
    choice_agrees (key word.On) failure_marks (behind_at (key word.Failure) branch_at) (nothing_at (None, None)) (behind_of (key word.Failure) branch_of)
    (nothing_of (None, None)) (behind_agrees failure_marks branch_at branch_of branch_agrees (key word.Failure))
    (nothing_agrees failure_marks (None, None) refl refl)

-- ---- blocks and parts

module _ (read deeper : Reader BuiltTree) (find found : TreeReader Expr) (c : Mirrors read find) (d : Mirrors deeper found) where
  statements_agree : AgreesAll block_marks AreKept (statements_at read deeper) (statements_of find found)
  statements_agree = counted_items_agree (sign mark.Semicolon) 64 limit.Statements statement_marks (statement_at read deeper) (statement_of find found)
      (statement_agrees read deeper find found c d)

  block_agrees : AgreesAll block_marks AreKept (block_at read deeper) (block_of find found)
  block_agrees =
      behind_agrees block_marks (before_at (statements_at read deeper) (sign mark.CloseBrace)) (before_of (statements_of find found) (sign mark.CloseBrace))
      (before_agrees block_marks (statements_at read deeper) (statements_of find found) statements_agree (sign mark.CloseBrace)) (sign mark.OpenBrace)

  ways_agree : AgreesAll (both_marks commit_marks failure_marks) AreKept (both_at on_commit_at on_failure_at) (both_of on_commit_of on_failure_of)
  ways_agree = both_agrees commit_marks failure_marks on_commit_at on_failure_at on_commit_of on_failure_of on_commit_agrees on_failure_agrees

  abbrev made_marks : Marks (List Statement × (Option Next × (Option ℕ × Option Next)))
  made_marks = both_marks block_marks (both_marks commit_marks failure_marks)

  part_note : (f : Flags) (x : List Statement × (Option Next × (Option ℕ × Option Next))) → noted made_marks f x ≡ noted part_marks f (part_def x)
  part_note f x = ap (λ (b : Bool). note f (part_passed (part_def x)) b) (or_false (list_any statement_marks.high x.0))

  part_agrees : AgreesAll part_marks AreKept (part_at read deeper) (part_of find found)
  part_agrees =
      made_agrees made_marks (both_at (block_at read deeper) (both_at on_commit_at on_failure_at))
      (both_of (block_of find found) (both_of on_commit_of on_failure_of))
      (both_agrees block_marks (both_marks commit_marks failure_marks) (block_at read deeper) (both_at on_commit_at on_failure_at) (block_of find found)
      (both_of on_commit_of on_failure_of) block_agrees ways_agree) part_marks part_def part_note

  base_agrees : AgreesAll parts_marks AreKept (base_at read deeper) (base_of find found)
  base_agrees =
      behind_agrees parts_marks (parts_at read deeper) (parts_of find found)
      (counted_items_agree (key word.Part) 32 limit.Parts part_marks (part_at read deeper) (part_of find found) part_agrees) (key word.Part)

  acid_note : (f : Flags) (sts : List Statement) → noted block_marks f sts ≡ noted body_marks f (body.Acid sts)
  acid_note f sts = ap (λ (b : Bool). note f (block_marks.passed sts) b) (acid_high sts)

  base_note : (f : Flags) (ps : List PartDef) → noted parts_marks f ps ≡ noted body_marks f (body.Base ps)
  base_note f ps = ap (λ (b : Bool). note f (parts_marks.passed ps) b) (base_high ps)

  body_agrees : AgreesAll body_marks AreKept (body_at read deeper) (body_of find found)
  body_agrees =
      choice_agrees (key word.Acid) body_marks (made_at body.Acid (block_at read deeper))
      (behind_at (key word.Base) (made_at body.Base (base_at read deeper))) (made_of body.Acid (block_of find found))
      (behind_of (key word.Base) (made_of body.Base (base_of find found)))
      (made_agrees block_marks (block_at read deeper) (block_of find found) block_agrees body_marks body.Acid acid_note)
      (behind_agrees body_marks (made_at body.Base (base_at read deeper)) (made_of body.Base (base_of find found))
      (made_agrees parts_marks (base_at read deeper) (base_of find found) base_agrees body_marks body.Base base_note) (key word.Base))

  abbrev ended_at : Reader Body
  ended_at = before_at (body_at read deeper) (key word.End)

  rest_agrees : AgreesAll rest_marks AreKept (rest_at read deeper) (rest_of find found)
  rest_agrees =
      behind_agrees rest_marks (both_at parameters_at (both_at variables_at ended_at))
      (both_of parameters_of (both_of variables_of (ended_of find found)))
      (both_agrees (fields_marks 16 limit.Parameters) (both_marks (fields_marks 16 limit.Variables) body_marks) parameters_at
      (both_at variables_at ended_at) parameters_of (both_of variables_of (ended_of find found)) parameters_agree
      (both_agrees (fields_marks 16 limit.Variables) body_marks variables_at ended_at variables_of (ended_of find found) variables_agree
      (before_agrees body_marks (body_at read deeper) (body_of find found) body_agrees (key word.End)))) (sign mark.Open)

  pub program_agrees : AgreesAll program_marks AreKept (program_at read deeper) (program_of find found)
  unfolding program_at
  program_agrees f ts p =
      behind_agrees program_marks (made_at program_def (both_at name_at (rest_at read deeper))) (made_of program_def (both_of name_of (rest_of find found)))
      (made_agrees (both_marks name_marks rest_marks) (both_at name_at (rest_at read deeper)) (both_of name_of (rest_of find found))
      (both_agrees name_marks rest_marks name_at (rest_at read deeper) name_of (rest_of find found) name_agrees rest_agrees) program_marks program_def
      (λ f a. refl)) (key word.Program) f ts p
