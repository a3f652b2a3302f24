-- The programs that reading from left to right finds, whatever they pass.
use Rattle.salt_ast.specs.declared.programs.Body.{Body}
use Rattle.salt_ast.specs.declared.programs.Body.TheVariants as body
use Rattle.salt_ast.specs.declared.programs.Next.{Next}
use Rattle.salt_ast.specs.declared.programs.Next.TheVariants as next
use Rattle.salt_ast.specs.declared.programs.PartDef.{PartDef}
use Rattle.salt_ast.specs.declared.programs.ProgramDef.{ProgramDef}
use Rattle.salt_ast.specs.declared.trees.Expr.{Expr}
use Rattle.salt_ast.specs.declared.trees.Field.{Field}
use Rattle.salt_ast.specs.declared.trees.Statement.{Statement}
use Rattle.salt_parse.specs.Lists.{comma}
use Rattle.salt_parse.specs.ProgramReading.{part_def, program_def, tried, untried}
use Rattle.salt_parse.specs.Reading.{after}
use Rattle.salt_parse.proofs.Combined.{before_of, behind_of, both_of, choice_of, made_of, nothing_of}
use Rattle.salt_parse.proofs.StatementTrees.{field_of, listed_of, name_of, statement_of}
use Rattle.salt_parse.proofs.Trees.{TreeReader}
use Rattle.salt_ast.specs.Symbols.{int, key, sign}
use Rattle.salt_ast.specs.declared.keyword.Keyword.TheVariants as word
use Rattle.salt_ast.specs.declared.sign.Sign.TheVariants as mark
use Rattle.std.proofs.Common.{List, None, Option, Some, [], ℕ, ◌∷◌}

abbrev pub listed_fields_of : TreeReader (List Field)
listed_fields_of = listed_of comma field_of

abbrev pub parameters_of : TreeReader (List Field)
parameters_of = choice_of (sign mark.Close) (nothing_of []) (before_of listed_fields_of (sign mark.Close))

abbrev pub variables_of : TreeReader (List Field)
variables_of = choice_of (key word.Var) listed_fields_of (nothing_of [])

abbrev pub statements_of : TreeReader Expr → TreeReader Expr → TreeReader (List Statement)
statements_of inner deeper = listed_of (after (sign mark.Semicolon)) (statement_of inner deeper)

abbrev pub block_of : TreeReader Expr → TreeReader Expr → TreeReader (List Statement)
block_of inner deeper = behind_of (sign mark.OpenBrace) (before_of (statements_of inner deeper) (sign mark.CloseBrace))

abbrev pub number_of : TreeReader ℕ
number_of (int k ∷ ts) = Some (k, ts)
number_of _ = None

abbrev pub way_of : TreeReader Next
way_of = choice_of (key word.End) (nothing_of next.End) (behind_of (key word.Go) (made_of next.Part number_of))

abbrev pub on_commit_of : TreeReader (Option Next)
on_commit_of = choice_of (key word.Then) (made_of Some way_of) (nothing_of None)

abbrev pub retried_of : TreeReader (ℕ × Next)
retried_of = both_of (before_of number_of (key word.Then)) way_of

abbrev pub branch_of : TreeReader (Option ℕ × Option Next)
branch_of = choice_of (key word.Retry) (made_of tried retried_of) (made_of untried way_of)

abbrev pub on_failure_of : TreeReader (Option ℕ × Option Next)
on_failure_of = choice_of (key word.On) (behind_of (key word.Failure) branch_of) (nothing_of (None, None))

abbrev pub part_of : TreeReader Expr → TreeReader Expr → TreeReader PartDef
part_of inner deeper = made_of part_def (both_of (block_of inner deeper) (both_of on_commit_of on_failure_of))

abbrev pub parts_of : TreeReader Expr → TreeReader Expr → TreeReader (List PartDef)
parts_of inner deeper = listed_of (after (key word.Part)) (part_of inner deeper)

abbrev pub base_of : TreeReader Expr → TreeReader Expr → TreeReader (List PartDef)
base_of inner deeper = behind_of (key word.Part) (parts_of inner deeper)

abbrev pub body_of : TreeReader Expr → TreeReader Expr → TreeReader Body
body_of inner deeper =
    choice_of (key word.Acid) (made_of body.Acid (block_of inner deeper)) (behind_of (key word.Base) (made_of body.Base (base_of inner deeper)))

abbrev pub ended_of : TreeReader Expr → TreeReader Expr → TreeReader Body
ended_of inner deeper = before_of (body_of inner deeper) (key word.End)

abbrev pub rest_of : TreeReader Expr → TreeReader Expr → TreeReader (List Field × (List Field × Body))
rest_of inner deeper = behind_of (sign mark.Open) (both_of parameters_of (both_of variables_of (ended_of inner deeper)))

abbrev pub program_of : TreeReader Expr → TreeReader Expr → TreeReader ProgramDef
program_of inner deeper = behind_of (key word.Program) (made_of program_def (both_of name_of (rest_of inner deeper)))
