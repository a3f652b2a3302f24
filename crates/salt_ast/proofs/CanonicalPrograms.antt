-- Canonical texts of programs are read as their trees.
use Rattle.salt_ast.proofs.CanonicalExprs.{AreRead, within_read}
use Rattle.salt_ast.proofs.CanonicalLists.{any_listed_read, listed_by_read, listed_read, preceded_stops, several_read}
use Rattle.salt_ast.proofs.CanonicalStatements.{IsLowStatement, statement_read}
use Rattle.salt_ast.proofs.CanonicalTables.{field_read}
use Rattle.salt_ast.proofs.Each.{Anything, Each, each_is_anything, each_of_append, each_of_flat_map}
use Rattle.salt_ast.proofs.Fragments.{IsFragment, Stops, behind, behind_space, close_brace_before, close_stops, nothing, number_fragment, open_before, open_stops, regrouped, same_bytes_read, semicolon_stops, space_before, space_first, space_stops, spaced_sign, spaced_word, name_fragment, word_before, word_first, word_fragment}
use Rattle.salt_ast.proofs.LowExprs.{IsLow, Shallow, all_low, other_is_none}
use Rattle.salt_ast.proofs.TokenRows.{AreReadAs, HasToken, canonical_spells}
use Rattle.salt_ast.specs.TokenLaws.{TokenLaws}
use Rattle.salt_ast.specs.Grammar.{Spells}
use Rattle.salt_ast.specs.Limits.{height_passed}
use Rattle.salt_ast.specs.Paths.{body_statements, part_block, statements_in}
use Rattle.salt_ast.specs.ProgramLimits.{program_exprs, program_limit, program_passed}
use Rattle.salt_ast.specs.ProgramTexts.{block_text, body_text, failure_text, next_text, program_part_text, program_text, then_text, variables_text}
use Rattle.salt_ast.specs.Programs.{AreVariables, IsBlock, IsBody, IsOnFailure, IsPart, IsProgram, IsThen, IsWay, branch, is_acid, is_base, is_block, is_part, is_program, no_branch, no_then, no_variables, retried, then_way, to_end, to_part, variables}
use Rattle.salt_ast.specs.Spelling.{SpellsProgram, SpellsShallowProgram}
use Rattle.salt_ast.specs.Statements.{items}
use Rattle.salt_ast.specs.Texts.{field_text, preceded, statement_text}
use Rattle.salt_ast.specs.Trees.{statement_exprs}
use Rattle.salt_ast.specs.declared.programs.Next.{Next}
use Rattle.salt_ast.specs.declared.programs.PartDef.{PartDef}
use Rattle.salt_ast.specs.declared.programs.ProgramDef.{ProgramDef}
use Rattle.salt_ast.specs.declared.trees.Field.{Field}
use Rattle.salt_ast.specs.declared.trees.Statement.{Statement}
use Rattle.salt_ast.specs.Symbols.{Symbols, int, key, name, sign}
use Rattle.salt_ast.specs.declared.keyword.Keyword.TheVariants as word
use Rattle.salt_ast.specs.declared.sign.Sign.TheVariants as mark
use Rattle.std.proofs.Common.{List, None, Option, Some, [], append-nil, append_assoc, codes, map, sym, ℕ, ◌++◌, ◌∷◌, ◌≡◌}
use Rattle.std.specs.Fmt.{decimal}

-- ---- ways

then_stops : (n : Option Next) (rest : List ℕ) → Stops rest → Stops (then_text n ++ rest)
then_stops None rest h = h
then_stops (Some n) rest h = space_stops _

failure_stops : (tries : Option ℕ) (n : Option Next) (rest : List ℕ) → Stops rest → Stops (failure_text tries n ++ rest)
failure_stops tries None rest h = h
failure_stops tries (Some n) rest h = space_stops _

ways_stop : (commit : Option Next) (tries : Option ℕ) (failure : Option Next) (rest : List ℕ) → Stops rest →
    Stops ((then_text commit ++ failure_text tries failure) ++ rest)
ways_stop commit tries failure rest h =
    rw (append_assoc (then_text commit) (failure_text tries failure) rest) (then_stops commit _ (failure_stops tries failure rest h))

-- where the program goes on behind a failure, behind so many tries
abbrev failure_of : Option ℕ × Option Next → List ℕ
failure_of told = failure_text told.0 told.1

module _ (laws : TokenLaws) where
  way_read : AreReadAs IsWay IsWay next_text Anything
  way_read _ _ (to_part {k}) (_, (written, _)) _ = record {
    symbols = key word.Go ∷ int k ∷ [];
    fragment = spaced_word laws word.Go (number_fragment laws k written);
    spelled = to_part;
  }
  way_read _ _ to_end h _ = record { symbols = key word.End ∷ []; fragment = word_fragment laws word.End; spelled = to_end }

  then_read : AreReadAs IsThen IsThen then_text Anything
  then_read _ _ no_then h _ = record { symbols = []; fragment = nothing; spelled = no_then }
  then_read _ _ (then_way {ts = ts} {n = n} d) (_, row) _ = space_first (word_first laws word.Then (λ _ k. then_way k) (way_read ts n d row tt))

  on_failure_read : AreReadAs IsOnFailure IsOnFailure failure_of Anything
  on_failure_read _ _ no_branch h _ = record { symbols = []; fragment = nothing; spelled = no_branch }
  on_failure_read _ _ (branch {ts = ts} {n = n} d) (_, (_, row)) _ =
      let way = way_read ts n d row tt in
      record {
        symbols = key word.On ∷ key word.Failure ∷ way.symbols;
        fragment = space_before (spaced_word laws word.On (spaced_word laws word.Failure way.fragment));
        spelled = branch way.spelled;
      }
  on_failure_read _ _ (retried {k = k} {ts = ts} {n = n} d) (_, (_, (_, (written, (_, row))))) _ =
      let way = way_read ts n d row tt in
      let tries = behind_space (number_fragment laws k written) (spaced_word laws word.Then way.fragment) in
      record {
        symbols = key word.On ∷ key word.Failure ∷ key word.Retry ∷ int k ∷ key word.Then ∷ way.symbols;
        fragment = space_before (spaced_word laws word.On (spaced_word laws word.Failure (spaced_word laws word.Retry
            (same_bytes_read (sym (append_assoc (decimal k) (codes " then ") (next_text n))) tries))));
        spelled = retried way.spelled;
      }

-- ---- variables

-- the variables' text is read as them, whatever comes behind it
record AreReadVariables (vs : List Field) : Type 0 where
  symbols : Symbols
  fragment : IsFragment Anything (variables_text vs) symbols
  spelled : AreVariables symbols vs

variables_read : TokenLaws → (ts : Symbols) (vs : List Field) → AreVariables ts vs → Each HasToken ts → AreReadVariables vs
variables_read laws _ _ no_variables h = record { symbols = []; fragment = nothing; spelled = no_variables }
variables_read laws _ _ (variables (items {a = a} {b = b} {x = f} {xs = fs} d k)) (_, row) =
    let x = listed_read laws (field_read laws) (a ++ b) (f ∷ fs) (items d k) row (each_is_anything (f ∷ fs)) in
    let spaced = behind x.fragment (λ rest next. space_stops _) (space_before nothing) in
    record {
      symbols = key word.Var ∷ x.symbols;
      fragment = spaced_word laws word.Var
          (same_bytes_read (append_assoc (field_text f) (preceded (codes ", ") field_text fs) (codes " ")) (regrouped (append-nil x.symbols) spaced));
      spelled = variables x.spelled;
    }

-- ---- parts

-- all statements of a block are low
abbrev IsLowBlock : List Statement → Type 0
IsLowBlock block = Each IsLowStatement block

module _ (laws : TokenLaws) {Inner Deeper : Spells} (inner : AreRead Inner) (deeper : AreRead Deeper) where
  block_read : AreReadAs (IsBlock Inner Deeper) (IsBlock Shallow Shallow) block_text IsLowBlock
  block_read _ _ (is_block (items {a = a} {b = b} {x = st} {xs = sts} d k)) (_, row) low =
      let rows = each_of_append HasToken (a ++ b) (sign mark.CloseBrace ∷ []) row in
      let statements = listed_by_read laws (statement_read laws inner deeper) mark.Semicolon (λ rest. semicolon_stops _) in
      let x = statements (a ++ b) (st ∷ sts) (items d k) rows.0 low in
      let last = space_before (close_brace_before laws nothing) in
      let within = behind x.fragment (λ rest next. space_stops _) last in
      record {
        symbols = sign mark.OpenBrace ∷ (x.symbols ++ sign mark.CloseBrace ∷ []);
        fragment = spaced_sign laws mark.OpenBrace
            (same_bytes_read (append_assoc (statement_text st) (preceded (codes "; ") statement_text sts) (codes " }")) within);
        spelled = is_block x.spelled;
      }

  part_read : AreReadAs (IsPart Inner Deeper) (IsPart Shallow Shallow) program_part_text (λ p. IsLowBlock p.block)
  part_read _ _ (is_part {a = a} {b = b} {c = c} {sts = sts} {commit = commit} {failure = failure} {tries = tries} d k g) (_, row) low =
      let first = each_of_append HasToken a (b ++ c) row in
      let others = each_of_append HasToken b c first.1 in
      let x = block_read a sts d first.0 low in
      let y = then_read laws b commit k others.0 tt in
      let z = on_failure_read laws c (tries, failure) g others.1 tt in
      let ways = behind y.fragment (failure_stops tries failure) z.fragment in
      let all = behind x.fragment (ways_stop commit tries failure) ways in
      record {
        symbols = key word.Part ∷ (x.symbols ++ (y.symbols ++ z.symbols));
        fragment = spaced_word laws word.Part all;
        spelled = is_part x.spelled y.spelled z.spelled;
      }

  lows_of_parts : (parts : List PartDef) → Each IsLowStatement (statements_in (map part_block parts)) → Each (λ p. IsLowBlock p.block) parts
  lows_of_parts [] low = tt
  lows_of_parts (p ∷ ps) low =
      let lows = each_of_append IsLowStatement p.block (statements_in (map part_block ps)) low in
      (lows.0, lows_of_parts ps lows.1)

  body_read : AreReadAs (IsBody Inner Deeper) (IsBody Shallow Shallow) body_text (λ b. Each IsLowStatement (body_statements b))
  body_read _ _ (is_acid {ts = ts} {sts = sts} d) (_, row) low =
      word_first laws word.Acid (λ _ k. is_acid k) (block_read ts sts d row (each_of_append IsLowStatement sts [] low).0)
  body_read _ _ (is_base {ts = ts} {parts = parts} d) (_, row) low =
      let x = several_read laws part_read ts parts d row (lows_of_parts parts low) in
      record {
        symbols = key word.Base ∷ x.symbols;
        fragment = word_before laws word.Base
            (λ rest next. (preceded_stops (codes " ") (λ r. space_stops _) program_part_text parts rest next).words) x.fragment;
        spelled = is_base x.spelled;
      }

  program_read : AreReadAs (IsProgram Inner Deeper) (IsProgram Shallow Shallow) program_text (λ p. Each IsLowStatement (body_statements p.body))
  program_read _ _ (is_program {p = p} {a = a} {b = b} {c = c} {fs = fs} {vs = vs} {does = does} d k g) (_, (named, (_, row))) low =
      let first = each_of_append HasToken a (sign mark.Close ∷ (b ++ (c ++ key word.End ∷ []))) row in
      let others = each_of_append HasToken b (c ++ key word.End ∷ []) first.1.1 in
      let last = each_of_append HasToken c (key word.End ∷ []) others.1 in
      let x = any_listed_read laws (field_read laws) a fs d first.0 (each_is_anything fs) in
      let y = variables_read laws b vs k others.0 in
      let z = body_read c does g last.0 low in
      let behind_parameters = behind y.fragment (λ rest next. tt) (behind_space z.fragment (word_fragment laws word.End)) in
      let parameters = behind x.fragment (λ rest next. close_stops _) (spaced_sign laws mark.Close behind_parameters) in
      record {
        symbols = key word.Program ∷ name p ∷ sign mark.Open ∷ (x.symbols ++ sign mark.Close ∷ (y.symbols ++ (z.symbols ++ key word.End ∷ [])));
        fragment = spaced_word laws word.Program (behind (name_fragment p named) (λ rest next. open_stops _) (open_before laws parameters));
        spelled = is_program x.spelled y.spelled z.spelled;
      }

pub canonical_program : TokenLaws → (bytes : List ℕ) (p : ProgramDef) → SpellsProgram bytes p → program_limit p ≡ None →
    SpellsShallowProgram (program_text p) p
unfolding program_limit
canonical_program laws bytes p spells limit =
    canonical_spells laws (program_read laws (within_read laws _) (within_read laws _)) bytes p spells
    (each_of_flat_map IsLow statement_exprs (body_statements p.body)
    (all_low (program_exprs p) (other_is_none (program_passed p) (height_passed (program_exprs p)) limit)))
