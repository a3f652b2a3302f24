-- The programs that are found are spelled so, those that are spelled so are found, and fewer parentheses spell the same.
use Rattle.std.proofs.Common.{◌≡◌, ℕ, List, [], ◌∷◌, ◌++◌, Option, Some, None, refl, subst, append_assoc, arith}
use Rattle.std.proofs.lemmas.List.{append-nil}
use Rattle.salt_ast.specs.Programs as form
use Rattle.salt_ast.specs.Programs.{AnyListed, AreVariables, IsBlock, IsBody, IsOnFailure, IsPart, IsProgram, IsThen, IsWay, Several}
use Rattle.salt_ast.specs.Statements as statement
use Rattle.salt_ast.specs.Statements.{IsName, IsStatement, Listed, ListedBy}
use Rattle.salt_ast.specs.Tables as table
use Rattle.salt_ast.specs.Tables.{IsField}
use Rattle.salt_ast.specs.declared.programs.Body.{Body}
use Rattle.salt_ast.specs.declared.programs.Body.TheVariants as body
use Rattle.salt_ast.specs.declared.programs.Next.{Next}
use Rattle.salt_ast.specs.declared.programs.Next.TheVariants as next
use Rattle.salt_ast.specs.declared.programs.PartDef.{PartDef}
use Rattle.salt_ast.specs.declared.programs.ProgramDef.{ProgramDef}
use Rattle.salt_ast.specs.declared.trees.Expr.{Expr}
use Rattle.salt_ast.specs.declared.trees.Field.{Field}
use Rattle.salt_ast.specs.declared.trees.Statement.{Statement}
use Rattle.salt_parse.specs.Lists.{comma}
use Rattle.salt_parse.specs.ProgramReading.{part_def, program_def, tried, untried}
use Rattle.salt_parse.specs.Reading.{after}
use Rattle.salt_parse.proofs.Combined.{Before, Behind, Both, Choice, Made, Nothing, before, behind, both, first, made, nothing, other}
use Rattle.salt_parse.proofs.Combined.{before_complete, before_of, before_sound, behind_complete, behind_of, behind_sound, both_complete, both_of, both_sound}
use Rattle.salt_parse.proofs.Combined.{choice_complete, choice_sound, complete_as, key_opens, made_complete, made_of, made_sound, nothing_complete}
use Rattle.salt_parse.proofs.Combined.{nothing_of, nothing_sound, sign_opens, sound_as}
use Rattle.salt_parse.proofs.ExpressionLaws.{Complete, Sound}
use Rattle.salt_parse.proofs.ListLaws.{CompleteFor, FollowingOf, ListedOf, SoundFor, listed, listed_by_sign, listed_complete, listed_of_sign, listed_sound}
use Rattle.salt_parse.proofs.ListLaws.{none_follow, one_follows, renamed}
use Rattle.salt_parse.proofs.Loop.{after_is}
use Rattle.salt_parse.proofs.ProgramTrees.{base_of, block_of, body_of, branch_of, ended_of, listed_fields_of, number_of, on_commit_of, on_failure_of}
use Rattle.salt_parse.proofs.ProgramTrees.{parameters_of, part_of, parts_of, program_of, rest_of, retried_of, statements_of, variables_of, way_of}
use Rattle.salt_parse.proofs.StatementComplete.{Ends, comma_opens, field_complete, name_complete, statement_complete}
use Rattle.salt_parse.proofs.StatementSound.{comma_is, field_sound, name_sound, statement_sound}
use Rattle.salt_parse.proofs.StatementTrees.{field_of, name_of, statement_of}
use Rattle.salt_parse.proofs.Trees.{TreeReader}
use Rattle.salt_parse.proofs.Up.{Upwards, listed_up, statement_up}
use Rattle.salt_ast.specs.Symbols.{Symbols, int, key, name, sign}
use Rattle.salt_ast.specs.declared.keyword.Keyword.TheVariants as word
use Rattle.salt_ast.specs.declared.sign.Sign.TheVariants as mark

-- ---- the grammar's forms, by what they are made of

pub data IsNumber : Symbols → ℕ → Type 0 where
  is_number : {k : ℕ} → IsNumber (int k ∷ []) k

abbrev Parameters : Symbols → List Field → Type 0
Parameters = Choice (Behind (sign mark.Close) (Nothing [])) (Before (Listed IsField) (sign mark.Close))

parameters_to : (ts : Symbols) (fs : List Field) → Parameters ts fs → Before (AnyListed IsField) (sign mark.Close) ts fs
parameters_to _ _ (first (behind nothing)) = before form.no_items
parameters_to _ _ (other (before l)) = before (form.some_items l)

parameters_from : (ts : Symbols) (fs : List Field) → Before (AnyListed IsField) (sign mark.Close) ts fs → Parameters ts fs
parameters_from _ _ (before form.no_items) = first (behind nothing)
parameters_from _ _ (before (form.some_items l)) = other (before l)

abbrev Variables : Symbols → List Field → Type 0
Variables = Choice (Behind (key word.Var) (Listed IsField)) (Nothing [])

variables_to : (ts : Symbols) (fs : List Field) → Variables ts fs → AreVariables ts fs
variables_to _ _ (first (behind l)) = form.variables l
variables_to _ _ (other nothing) = form.no_variables

variables_from : (ts : Symbols) (fs : List Field) → AreVariables ts fs → Variables ts fs
variables_from _ _ (form.variables l) = first (behind l)
variables_from _ _ form.no_variables = other nothing

abbrev Way : Symbols → Next → Type 0
Way = Choice (Behind (key word.End) (Nothing next.End)) (Behind (key word.Go) (Made next.Part IsNumber))

way_to : (ts : Symbols) (n : Next) → Way ts n → IsWay ts n
way_to _ _ (first (behind nothing)) = form.to_end
way_to _ _ (other (behind (made is_number))) = form.to_part

way_from : (ts : Symbols) (n : Next) → IsWay ts n → Way ts n
way_from _ _ form.to_end = first (behind nothing)
way_from _ _ form.to_part = other (behind (made is_number))

abbrev OnCommit : Symbols → Option Next → Type 0
OnCommit = Choice (Behind (key word.Then) (Made Some IsWay)) (Nothing None)

on_commit_to : (ts : Symbols) (n : Option Next) → OnCommit ts n → IsThen ts n
on_commit_to _ _ (first (behind (made w))) = form.then_way w
on_commit_to _ _ (other nothing) = form.no_then

on_commit_from : (ts : Symbols) (n : Option Next) → IsThen ts n → OnCommit ts n
on_commit_from _ _ (form.then_way w) = first (behind (made w))
on_commit_from _ _ form.no_then = other nothing

abbrev Retried : Symbols → ℕ × Next → Type 0
Retried = Both (Before IsNumber (key word.Then)) IsWay

abbrev Branch : Symbols → Option ℕ × Option Next → Type 0
Branch = Choice (Behind (key word.Retry) (Made tried Retried)) (Made untried IsWay)

abbrev OnFailure : Symbols → Option ℕ × Option Next → Type 0
OnFailure = Choice (Behind (key word.On) (Behind (key word.Failure) Branch)) (Nothing (None, None))

on_failure_to : (ts : Symbols) (x : Option ℕ × Option Next) → OnFailure ts x → IsOnFailure ts x
on_failure_to _ _ (first (behind (behind (first (behind (made (both (before is_number) w))))))) = form.retried w
on_failure_to _ _ (first (behind (behind (other (made w))))) = form.branch w
on_failure_to _ _ (other nothing) = form.no_branch

on_failure_from : (ts : Symbols) (x : Option ℕ × Option Next) → IsOnFailure ts x → OnFailure ts x
on_failure_from _ _ (form.retried w) = first (behind (behind (first (behind (made (both (before is_number) w))))))
on_failure_from _ _ (form.branch w) = first (behind (behind (other (made w))))
on_failure_from _ _ form.no_branch = other nothing

module _ (Inner Deeper : Symbols → Expr → Type 0) where
  abbrev Block : Symbols → List Statement → Type 0
  Block = Behind (sign mark.OpenBrace) (Before (ListedBy mark.Semicolon (IsStatement Inner Deeper)) (sign mark.CloseBrace))

  block_to : (ts : Symbols) (sts : List Statement) → Block ts sts → IsBlock Inner Deeper ts sts
  block_to _ _ (behind (before l)) = form.is_block l

  block_from : (ts : Symbols) (sts : List Statement) → IsBlock Inner Deeper ts sts → Block ts sts
  block_from _ _ (form.is_block l) = behind (before l)

  -- a part without its keyword
  abbrev IsPartBehind : Symbols → PartDef → Type 0
  IsPartBehind ts p = IsPart Inner Deeper (key word.Part ∷ ts) p

  abbrev Part : Symbols → PartDef → Type 0
  Part = Made part_def (Both (IsBlock Inner Deeper) (Both IsThen IsOnFailure))

  part_to : (ts : Symbols) (p : PartDef) → Part ts p → IsPartBehind ts p
  part_to _ _ (made (both g (both h i))) = form.is_part g h i

  part_from : (ts : Symbols) (p : PartDef) → IsPartBehind ts p → Part ts p
  part_from _ _ (form.is_part g h i) = made (both g (both h i))

  abbrev Parts : Symbols → List PartDef → Type 0
  Parts = Behind (key word.Part) (ListedOf (key word.Part) IsPartBehind)

  several : {a b : Symbols} {p : PartDef} {ps : List PartDef} → IsPartBehind a p → FollowingOf (key word.Part) IsPartBehind b ps →
      Several (IsPart Inner Deeper) (key word.Part ∷ (a ++ b)) (p ∷ ps)
  several {a = a} g none_follow = rw (append-nil a) (form.last_one g)
  several g (one_follows h d) = form.and_more g (several h d)

  parts_to : (ts : Symbols) (ps : List PartDef) → Parts ts ps → Several (IsPart Inner Deeper) ts ps
  parts_to _ _ (behind (listed g d)) = several g d

  following : {ts : Symbols} {ps : List PartDef} → Parts ts ps → FollowingOf (key word.Part) IsPartBehind ts ps
  following (behind (listed g d)) = one_follows g d

  parts_from : (ts : Symbols) (ps : List PartDef) → Several (IsPart Inner Deeper) ts ps → Parts ts ps
  parts_from _ _ (form.last_one {x = p} (form.is_part {a = a} {b = b} {c = c} g h i)) =
      let whole : Symbols = a ++ (b ++ c) in
      subst (λ (z : Symbols). Parts (key word.Part ∷ z) (p ∷ [])) (append-nil whole)
      (behind (listed {a = whole} {b = []} (form.is_part g h i) none_follow))
  parts_from _ _ (form.and_more {b = b} {xs = ps} (form.is_part g h i) d) = behind (listed (form.is_part g h i) (following (parts_from b ps d)))

  abbrev Does : Symbols → Body → Type 0
  Does = Choice (Behind (key word.Acid) (Made body.Acid (IsBlock Inner Deeper))) (Behind (key word.Base) (Made body.Base (Several (IsPart Inner Deeper))))

  body_to : (ts : Symbols) (b : Body) → Does ts b → IsBody Inner Deeper ts b
  body_to _ _ (first (behind (made g))) = form.is_acid g
  body_to _ _ (other (behind (made g))) = form.is_base g

  body_from : (ts : Symbols) (b : Body) → IsBody Inner Deeper ts b → Does ts b
  body_from _ _ (form.is_acid g) = first (behind (made g))
  body_from _ _ (form.is_base g) = other (behind (made g))

  abbrev Ended : Symbols → Body → Type 0
  Ended = Before (IsBody Inner Deeper) (key word.End)

  abbrev Rest : Symbols → List Field × (List Field × Body) → Type 0
  Rest = Behind (sign mark.Open) (Both (Before (AnyListed IsField) (sign mark.Close)) (Both AreVariables Ended))

  abbrev Program : Symbols → ProgramDef → Type 0
  Program = Behind (key word.Program) (Made program_def (Both IsName Rest))

  program_to : (ts : Symbols) (p : ProgramDef) → Program ts p → IsProgram Inner Deeper ts p
  program_to _ _ (behind (made (both statement.is_name (behind (both (before {ts = a} l) (both {a = b} v (before {ts = c} d))))))) =
      rw (append_assoc a (sign mark.Close ∷ []) (b ++ (c ++ key word.End ∷ []))) (form.is_program l v d)

  program_from : (ts : Symbols) (p : ProgramDef) → IsProgram Inner Deeper ts p → Program ts p
  program_from _ _ (form.is_program {p = n} {a = a} {b = b} {c = c} l v d) =
      let whole : Program (key word.Program ∷ name n ∷ sign mark.Open ∷ ((a ++ sign mark.Close ∷ []) ++ (b ++ (c ++ key word.End ∷ [])))) _ = behind
      (made (both statement.is_name (behind (both (before l) (both v (before d)))))) in
      rw (← append_assoc a (sign mark.Close ∷ []) (b ++ (c ++ key word.End ∷ []))) whole

-- ---- what is found is spelled so

number_sound : SoundFor IsNumber number_of
number_sound (int k ∷ ts) n rest h = renamed IsNumber (int k ∷ ts) (int k ∷ []) k ts n rest h refl is_number
number_sound _ n rest h = absurd cc

listed_fields_sound : SoundFor (Listed IsField) listed_fields_of
listed_fields_sound = sound_as (ListedOf (sign mark.Comma) IsField) (Listed IsField) listed_fields_of (λ ts xs l. listed_by_sign l)
    (listed_sound (sign mark.Comma) comma comma_is IsField field_of field_sound)

parameters_sound : SoundFor (Before (AnyListed IsField) (sign mark.Close)) parameters_of
parameters_sound = sound_as Parameters (Before (AnyListed IsField) (sign mark.Close)) parameters_of parameters_to
    (choice_sound (sign mark.Close) (Nothing []) (Before (Listed IsField) (sign mark.Close)) (nothing_of [])
    (before_of listed_fields_of (sign mark.Close)) (nothing_sound [])
    (before_sound (Listed IsField) listed_fields_of listed_fields_sound (sign mark.Close)))

variables_sound : SoundFor AreVariables variables_of
variables_sound = sound_as Variables AreVariables variables_of variables_to
    (choice_sound (key word.Var) (Listed IsField) (Nothing []) listed_fields_of (nothing_of []) listed_fields_sound (nothing_sound []))

way_sound : SoundFor IsWay way_of
way_sound = sound_as Way IsWay way_of way_to
    (choice_sound (key word.End) (Nothing next.End) (Behind (key word.Go) (Made next.Part IsNumber)) (nothing_of next.End)
    (behind_of (key word.Go) (made_of next.Part number_of)) (nothing_sound next.End)
    (behind_sound (Made next.Part IsNumber) (made_of next.Part number_of) (made_sound IsNumber number_of number_sound next.Part) (key word.Go)))

on_commit_sound : SoundFor IsThen on_commit_of
on_commit_sound = sound_as OnCommit IsThen on_commit_of on_commit_to
    (choice_sound (key word.Then) (Made Some IsWay) (Nothing None) (made_of Some way_of) (nothing_of None)
    (made_sound IsWay way_of way_sound Some) (nothing_sound None))

retried_sound : SoundFor Retried retried_of
retried_sound = both_sound (Before IsNumber (key word.Then)) IsWay (before_of number_of (key word.Then)) way_of
    (before_sound IsNumber number_of number_sound (key word.Then)) way_sound

branch_sound : SoundFor Branch branch_of
branch_sound = choice_sound (key word.Retry) (Made tried Retried) (Made untried IsWay) (made_of tried retried_of) (made_of untried way_of)
    (made_sound Retried retried_of retried_sound tried) (made_sound IsWay way_of way_sound untried)

on_failure_sound : SoundFor IsOnFailure on_failure_of
on_failure_sound = sound_as OnFailure IsOnFailure on_failure_of on_failure_to
    (choice_sound (key word.On) (Behind (key word.Failure) Branch) (Nothing (None, None)) (behind_of (key word.Failure) branch_of)
    (nothing_of (None, None)) (behind_sound Branch branch_of branch_sound (key word.Failure)) (nothing_sound (None, None)))

module _ (Inner Deeper : Symbols → Expr → Type 0) (find found : TreeReader Expr) (s : Sound Inner find) (t : Sound Deeper found) where
  statements_sound : SoundFor (ListedBy mark.Semicolon (IsStatement Inner Deeper)) (statements_of find found)
  statements_sound = sound_as (ListedOf (sign mark.Semicolon) (IsStatement Inner Deeper)) (ListedBy mark.Semicolon (IsStatement Inner Deeper))
      (statements_of find found) (λ ts xs l. listed_by_sign l)
      (listed_sound (sign mark.Semicolon) (after (sign mark.Semicolon)) (λ ts us h. after_is (sign mark.Semicolon) ts us h) (IsStatement Inner Deeper)
      (statement_of find found) (statement_sound Inner Deeper find s found t))

  block_sound : SoundFor (IsBlock Inner Deeper) (block_of find found)
  block_sound = sound_as (Block Inner Deeper) (IsBlock Inner Deeper) (block_of find found) (block_to Inner Deeper)
      (behind_sound (Before (ListedBy mark.Semicolon (IsStatement Inner Deeper)) (sign mark.CloseBrace))
      (before_of (statements_of find found) (sign mark.CloseBrace))
      (before_sound (ListedBy mark.Semicolon (IsStatement Inner Deeper)) (statements_of find found) statements_sound (sign mark.CloseBrace))
      (sign mark.OpenBrace))

  part_sound : SoundFor (IsPartBehind Inner Deeper) (part_of find found)
  part_sound = sound_as (Part Inner Deeper) (IsPartBehind Inner Deeper) (part_of find found) (part_to Inner Deeper)
      (made_sound (Both (IsBlock Inner Deeper) (Both IsThen IsOnFailure)) (both_of (block_of find found) (both_of on_commit_of on_failure_of))
      (both_sound (IsBlock Inner Deeper) (Both IsThen IsOnFailure) (block_of find found) (both_of on_commit_of on_failure_of) block_sound
      (both_sound IsThen IsOnFailure on_commit_of on_failure_of on_commit_sound on_failure_sound)) part_def)

  base_sound : SoundFor (Several (IsPart Inner Deeper)) (base_of find found)
  base_sound = sound_as (Parts Inner Deeper) (Several (IsPart Inner Deeper)) (base_of find found) (parts_to Inner Deeper)
      (behind_sound (ListedOf (key word.Part) (IsPartBehind Inner Deeper)) (parts_of find found)
      (listed_sound (key word.Part) (after (key word.Part)) (λ ts us h. after_is (key word.Part) ts us h) (IsPartBehind Inner Deeper) (part_of find found)
      part_sound) (key word.Part))

  body_sound : SoundFor (IsBody Inner Deeper) (body_of find found)
  body_sound = sound_as (Does Inner Deeper) (IsBody Inner Deeper) (body_of find found) (body_to Inner Deeper)
      (choice_sound (key word.Acid) (Made body.Acid (IsBlock Inner Deeper)) (Behind (key word.Base) (Made body.Base (Several (IsPart Inner Deeper))))
      (made_of body.Acid (block_of find found)) (behind_of (key word.Base) (made_of body.Base (base_of find found)))
      (made_sound (IsBlock Inner Deeper) (block_of find found) block_sound body.Acid)
      (behind_sound (Made body.Base (Several (IsPart Inner Deeper))) (made_of body.Base (base_of find found))
      (made_sound (Several (IsPart Inner Deeper)) (base_of find found) base_sound body.Base) (key word.Base)))

  rest_sound : SoundFor (Rest Inner Deeper) (rest_of find found)
  rest_sound =
      behind_sound (Both (Before (AnyListed IsField) (sign mark.Close)) (Both AreVariables (Ended Inner Deeper)))
      (both_of parameters_of (both_of variables_of (ended_of find found)))
      (both_sound (Before (AnyListed IsField) (sign mark.Close)) (Both AreVariables (Ended Inner Deeper)) parameters_of
      (both_of variables_of (ended_of find found)) parameters_sound
      (both_sound AreVariables (Ended Inner Deeper) variables_of (ended_of find found) variables_sound
      (before_sound (IsBody Inner Deeper) (body_of find found) body_sound (key word.End)))) (sign mark.Open)

  pub program_sound : SoundFor (IsProgram Inner Deeper) (program_of find found)
  program_sound = sound_as (Program Inner Deeper) (IsProgram Inner Deeper) (program_of find found) (program_to Inner Deeper)
      (behind_sound (Made program_def (Both IsName (Rest Inner Deeper))) (made_of program_def (both_of name_of (rest_of find found)))
      (made_sound (Both IsName (Rest Inner Deeper)) (both_of name_of (rest_of find found))
      (both_sound IsName (Rest Inner Deeper) name_of (rest_of find found) name_sound rest_sound) program_def) (key word.Program))

-- ---- what is spelled so is found

abbrev Anything : Symbols → Type 0
Anything rest = Unit {0}

abbrev NoComma : Symbols → Type 0
NoComma rest = comma rest ≡ None

abbrev NoVariables : Symbols → Type 0
NoVariables rest = (comma rest ≡ None) × (after (key word.Var) rest ≡ None)

abbrev NoThen : Symbols → Type 0
NoThen rest = after (key word.Then) rest ≡ None

abbrev NoOn : Symbols → Type 0
NoOn rest = after (key word.On) rest ≡ None

-- nothing that belongs to a part comes next
abbrev NoMore : Symbols → Type 0
NoMore rest = NoThen rest × NoOn rest

-- nor a further part
abbrev NoParts : Symbols → Type 0
NoParts rest = NoMore rest × (after (key word.Part) rest ≡ None)

-- what may follow the statements of a block
abbrev NoStatements : Symbols → Type 0
NoStatements rest = Ends rest × (after (sign mark.Semicolon) rest ≡ None)

number_complete : CompleteFor Anything IsNumber number_of
number_complete _ rest _ is_number f = refl

listed_fields_complete : CompleteFor NoComma (Listed IsField) listed_fields_of
listed_fields_complete ts rest x l f = listed_complete (sign mark.Comma) comma IsField field_of Anything field_complete (λ us. tt) (comma_opens IsField) rest
    (listed_of_sign l) tt f

close_no_comma : (us : Symbols) → NoComma (sign mark.Close ∷ us)
unfolding after
close_no_comma us = refl

no_close : (ts rest : Symbols) (x : List Field) → Before (Listed IsField) (sign mark.Close) ts x → Anything rest → after (sign mark.Close) (ts ++ rest) ≡ None
unfolding after
no_close _ rest _ (before (statement.items table.int_field d)) f = refl
no_close _ rest _ (before (statement.items table.text_field d)) f = refl

parameters_complete : CompleteFor Anything (Before (AnyListed IsField) (sign mark.Close)) parameters_of
parameters_complete = complete_as Anything Parameters (Before (AnyListed IsField) (sign mark.Close)) parameters_of parameters_from
    (choice_complete (sign mark.Close) (sign_opens mark.Close) Anything (Nothing []) (Before (Listed IsField) (sign mark.Close)) (nothing_of [])
    (before_of listed_fields_of (sign mark.Close)) (nothing_complete [] Anything)
    (before_complete NoComma (Listed IsField) listed_fields_of listed_fields_complete (sign mark.Close) (sign_opens mark.Close) close_no_comma Anything)
    no_close)

no_variable : (ts rest : Symbols) (x : List Field) → Nothing [] ts x → NoVariables rest → after (key word.Var) (ts ++ rest) ≡ None
no_variable _ rest _ nothing f = f.1

variables_complete : CompleteFor NoVariables AreVariables variables_of
variables_complete = complete_as NoVariables Variables AreVariables variables_of variables_from
    (choice_complete (key word.Var) (key_opens word.Var) NoVariables (Listed IsField) (Nothing []) listed_fields_of (nothing_of [])
    (λ ts rest x l f. listed_fields_complete ts rest x l f.0) (nothing_complete [] NoVariables) no_variable)

no_end : (ts rest : Symbols) (x : Next) → Behind (key word.Go) (Made next.Part IsNumber) ts x → Anything rest → after (key word.End) (ts ++ rest) ≡ None
unfolding after
no_end _ rest _ (behind g) f = refl

way_complete : CompleteFor Anything IsWay way_of
way_complete = complete_as Anything Way IsWay way_of way_from
    (choice_complete (key word.End) (key_opens word.End) Anything (Nothing next.End) (Behind (key word.Go) (Made next.Part IsNumber)) (nothing_of next.End)
    (behind_of (key word.Go) (made_of next.Part number_of)) (nothing_complete next.End Anything)
    (behind_complete Anything (Made next.Part IsNumber) (made_of next.Part number_of) (made_complete Anything IsNumber number_of number_complete next.Part)
    (key word.Go) (key_opens word.Go)) no_end)

no_then : (ts rest : Symbols) (x : Option Next) → Nothing None ts x → NoThen rest → after (key word.Then) (ts ++ rest) ≡ None
no_then _ rest _ nothing f = f

on_commit_complete : CompleteFor NoThen IsThen on_commit_of
on_commit_complete = complete_as NoThen OnCommit IsThen on_commit_of on_commit_from
    (choice_complete (key word.Then) (key_opens word.Then) NoThen (Made Some IsWay) (Nothing None) (made_of Some way_of) (nothing_of None)
    (λ ts rest x g f. made_complete Anything IsWay way_of way_complete Some ts rest x g tt) (nothing_complete None NoThen) no_then)

retried_complete : CompleteFor Anything Retried retried_of
retried_complete = both_complete Anything Anything (Before IsNumber (key word.Then)) IsWay (before_of number_of (key word.Then)) way_of
    (before_complete Anything IsNumber number_of number_complete (key word.Then) (key_opens word.Then) (λ us. tt) Anything) way_complete
    (λ b rest y h f. tt)

no_retry : (ts rest : Symbols) (x : Option ℕ × Option Next) → Made untried IsWay ts x → Anything rest → after (key word.Retry) (ts ++ rest) ≡ None
unfolding after
no_retry _ rest _ (made form.to_end) f = refl
no_retry _ rest _ (made form.to_part) f = refl

branch_complete : CompleteFor Anything Branch branch_of
branch_complete = choice_complete (key word.Retry) (key_opens word.Retry) Anything (Made tried Retried) (Made untried IsWay) (made_of tried retried_of)
    (made_of untried way_of) (made_complete Anything Retried retried_of retried_complete tried) (made_complete Anything IsWay way_of way_complete untried)
    no_retry

no_on : (ts rest : Symbols) (x : Option ℕ × Option Next) → Nothing (None, None) ts x → NoMore rest → after (key word.On) (ts ++ rest) ≡ None
no_on _ rest _ nothing f = f.1

on_failure_complete : CompleteFor NoMore IsOnFailure on_failure_of
on_failure_complete = complete_as NoMore OnFailure IsOnFailure on_failure_of on_failure_from
    (choice_complete (key word.On) (key_opens word.On) NoMore (Behind (key word.Failure) Branch) (Nothing (None, None))
    (behind_of (key word.Failure) branch_of) (nothing_of (None, None))
    (λ ts rest x g f. behind_complete Anything Branch branch_of branch_complete (key word.Failure) (key_opens word.Failure) ts rest x g tt)
    (nothing_complete (None, None) NoMore) no_on)

-- what stands behind the way behind a commit
failure_follows : (b rest : Symbols) (y : Option ℕ × Option Next) → IsOnFailure b y → NoMore rest → NoThen (b ++ rest)
unfolding after
failure_follows _ rest _ form.no_branch f = f.0
failure_follows _ rest _ (form.branch w) f = refl
failure_follows _ rest _ (form.retried w) f = refl

semicolon_follows : (us : Symbols) → Ends (sign mark.Semicolon ∷ us)
unfolding after
semicolon_follows us = record { stops = omega arith; no_where = refl; no_comma = refl }

brace_follows : (us : Symbols) → NoStatements (sign mark.CloseBrace ∷ us)
unfolding after
brace_follows us = (record { stops = omega arith; no_where = refl; no_comma = refl }, refl)

part_follows : (us : Symbols) → NoMore (key word.Part ∷ us)
unfolding after
part_follows us = (refl, refl)

end_follows : (us : Symbols) → NoParts (key word.End ∷ us)
unfolding after
end_follows us = ((refl, refl), refl)

module _ (Inner Deeper : Symbols → Expr → Type 0) (find found : TreeReader Expr) (s : Sound Inner find) (t : Sound Deeper found)
    (c : Complete 1 Inner find) (d : Complete 1 Deeper found) where
  statements_complete : CompleteFor NoStatements (ListedBy mark.Semicolon (IsStatement Inner Deeper)) (statements_of find found)
  statements_complete ts rest x l f =
      listed_complete (sign mark.Semicolon) (after (sign mark.Semicolon)) (IsStatement Inner Deeper) (statement_of find found) Ends
      (statement_complete Inner Deeper find found s t c d) semicolon_follows (λ u us x g. sign_opens mark.Semicolon (u ++ us)) rest (listed_of_sign l)
      f.0 f.1

  block_complete : CompleteFor Anything (IsBlock Inner Deeper) (block_of find found)
  block_complete = complete_as Anything (Block Inner Deeper) (IsBlock Inner Deeper) (block_of find found) (block_from Inner Deeper)
      (behind_complete Anything (Before (ListedBy mark.Semicolon (IsStatement Inner Deeper)) (sign mark.CloseBrace))
      (before_of (statements_of find found) (sign mark.CloseBrace))
      (before_complete NoStatements (ListedBy mark.Semicolon (IsStatement Inner Deeper)) (statements_of find found) statements_complete
      (sign mark.CloseBrace) (sign_opens mark.CloseBrace) brace_follows Anything) (sign mark.OpenBrace) (sign_opens mark.OpenBrace))

  ways_complete : CompleteFor NoMore (Both IsThen IsOnFailure) (both_of on_commit_of on_failure_of)
  ways_complete = both_complete NoThen NoMore IsThen IsOnFailure on_commit_of on_failure_of on_commit_complete on_failure_complete failure_follows

  part_complete : CompleteFor NoMore (IsPartBehind Inner Deeper) (part_of find found)
  part_complete = complete_as NoMore (Part Inner Deeper) (IsPartBehind Inner Deeper) (part_of find found) (part_from Inner Deeper)
      (made_complete NoMore (Both (IsBlock Inner Deeper) (Both IsThen IsOnFailure)) (both_of (block_of find found) (both_of on_commit_of on_failure_of))
      (both_complete Anything NoMore (IsBlock Inner Deeper) (Both IsThen IsOnFailure) (block_of find found) (both_of on_commit_of on_failure_of)
      block_complete ways_complete (λ b rest y h f. tt)) part_def)

  base_complete : CompleteFor NoParts (Several (IsPart Inner Deeper)) (base_of find found)
  base_complete = complete_as NoParts (Parts Inner Deeper) (Several (IsPart Inner Deeper)) (base_of find found) (parts_from Inner Deeper)
      (behind_complete NoParts (ListedOf (key word.Part) (IsPartBehind Inner Deeper)) (parts_of find found)
      (λ ts rest x l f. listed_complete (key word.Part) (after (key word.Part)) (IsPartBehind Inner Deeper) (part_of find found) NoMore part_complete
      part_follows (λ u us x g. key_opens word.Part (u ++ us)) rest l f.0 f.1) (key word.Part) (key_opens word.Part))

  no_acid : (ts rest : Symbols) (x : Body) → Behind (key word.Base) (Made body.Base (Several (IsPart Inner Deeper))) ts x → NoParts rest →
      after (key word.Acid) (ts ++ rest) ≡ None
  unfolding after
  no_acid _ rest _ (behind g) f = refl

  body_complete : CompleteFor NoParts (IsBody Inner Deeper) (body_of find found)
  body_complete = complete_as NoParts (Does Inner Deeper) (IsBody Inner Deeper) (body_of find found) (body_from Inner Deeper)
      (choice_complete (key word.Acid) (key_opens word.Acid) NoParts (Made body.Acid (IsBlock Inner Deeper))
      (Behind (key word.Base) (Made body.Base (Several (IsPart Inner Deeper)))) (made_of body.Acid (block_of find found))
      (behind_of (key word.Base) (made_of body.Base (base_of find found)))
      (λ ts rest x g f. made_complete Anything (IsBlock Inner Deeper) (block_of find found) block_complete body.Acid ts rest x g tt)
      (behind_complete NoParts (Made body.Base (Several (IsPart Inner Deeper))) (made_of body.Base (base_of find found))
      (made_complete NoParts (Several (IsPart Inner Deeper)) (base_of find found) base_complete body.Base) (key word.Base) (key_opens word.Base)) no_acid)

  body_follows : (b rest : Symbols) (y : Body) → Ended Inner Deeper b y → Anything rest → NoVariables (b ++ rest)
  unfolding after
  body_follows _ rest _ (before (form.is_acid g)) f = (refl, refl)
  body_follows _ rest _ (before (form.is_base g)) f = (refl, refl)

  ended_complete : CompleteFor Anything (Ended Inner Deeper) (ended_of find found)
  ended_complete = before_complete NoParts (IsBody Inner Deeper) (body_of find found) body_complete (key word.End) (key_opens word.End) end_follows Anything

  rest_complete : CompleteFor Anything (Rest Inner Deeper) (rest_of find found)
  rest_complete =
      behind_complete Anything (Both (Before (AnyListed IsField) (sign mark.Close)) (Both AreVariables (Ended Inner Deeper)))
      (both_of parameters_of (both_of variables_of (ended_of find found)))
      (both_complete Anything Anything (Before (AnyListed IsField) (sign mark.Close)) (Both AreVariables (Ended Inner Deeper)) parameters_of
      (both_of variables_of (ended_of find found)) parameters_complete
      (both_complete NoVariables Anything AreVariables (Ended Inner Deeper) variables_of (ended_of find found) variables_complete ended_complete
      body_follows) (λ b rest y h f. tt)) (sign mark.Open) (sign_opens mark.Open)

  pub program_complete : CompleteFor Anything (IsProgram Inner Deeper) (program_of find found)
  program_complete = complete_as Anything (Program Inner Deeper) (IsProgram Inner Deeper) (program_of find found) (program_from Inner Deeper)
      (behind_complete Anything (Made program_def (Both IsName (Rest Inner Deeper))) (made_of program_def (both_of name_of (rest_of find found)))
      (made_complete Anything (Both IsName (Rest Inner Deeper)) (both_of name_of (rest_of find found))
      (both_complete Anything Anything IsName (Rest Inner Deeper) name_of (rest_of find found) name_complete rest_complete (λ b rest y h f. tt))
      program_def) (key word.Program) (key_opens word.Program))

-- ---- with fewer parentheses

module _ {I J K L : Symbols → Expr → Type 0} (up : Upwards I J) (deeper : Upwards K L) where
  block_up : Upwards (IsBlock I K) (IsBlock J L)
  block_up _ _ (form.is_block l) = form.is_block (listed_up (statement_up up deeper) l)

  part_up : Upwards (IsPart I K) (IsPart J L)
  part_up _ _ (form.is_part {a = a} {sts = sts} g h i) = form.is_part (block_up a sts g) h i

  parts_up : Upwards (Several (IsPart I K)) (Several (IsPart J L))
  parts_up _ _ (form.last_one {ts = ts} {x = x} g) = form.last_one (part_up ts x g)
  parts_up _ _ (form.and_more {a = a} {b = b} {x = x} {xs = xs} g d) = form.and_more (part_up a x g) (parts_up b xs d)

  body_up : Upwards (IsBody I K) (IsBody J L)
  body_up _ _ (form.is_acid {ts = ts} {sts = sts} g) = form.is_acid (block_up ts sts g)
  body_up _ _ (form.is_base {ts = ts} {parts = parts} g) = form.is_base (parts_up ts parts g)

  pub program_up : Upwards (IsProgram I K) (IsProgram J L)
  program_up _ _ (form.is_program {c = c} {does = does} l v d) = form.is_program l v (body_up c does d)
