-- A statement's text, read by the parser and compared with what is printed.
use Rattle.salt_ast.specs.Limits.{statement_limit}
use Rattle.salt_ast.specs.Spelling.{IsStatementWithinLimits, SpellsShallowStatement, SpellsStatement, StatementPasses, by_parentheses, by_tree}
use Rattle.salt_ast.specs.Texts.{statement_text}
use Rattle.salt_ast.specs.declared.limit.LimitName.{LimitName}
use Rattle.salt_ast.specs.declared.trees.Statement.{Statement}
use Rattle.law_definitions.specs.Texts.{IsStatementText, statement_in}
use Rattle.salt_parse.specs.Settling.{DeepStatement, ShallowStatement}
use Rattle.salt_ast.specs.Symbols.{Symbols}
use Rattle.salt_ast.specs.TokenSpelling.{same_bytes}
use Rattle.std.proofs.Common.{List, None, Option, Some, [], ap, arith, false, refl, subst, sym, true, true≢false, ℕ, ◌==◌, ◌∙◌, ◌∷◌, ◌≡◌}
use Rattle.std.proofs.lemmas.Bool.Decides.{nat_tests}

pub record Below : Type 0 where
  pub read : (text : List ℕ) (st : Statement) → statement_in text ≡ Some st → IsStatementText st text
  pub back : (text : List ℕ) (st : Statement) → IsStatementText st text → statement_in text ≡ Some st
  pub canonical : (bytes : List ℕ) (st : Statement) → SpellsStatement bytes st → statement_limit st ≡ None → SpellsShallowStatement (statement_text st) st
  pub one : (bytes : List ℕ) (a b : Statement) → SpellsStatement bytes a → SpellsStatement bytes b → a ≡ b
  pub deepens : (ts : Symbols) (st : Statement) → ShallowStatement ts st → DeepStatement ts st

module _ (laws : Below) (bytes : List ℕ) where
  deep : (text : List ℕ) (st : Statement) → SpellsShallowStatement text st → SpellsStatement text st
  deep text st s = record { tokens = s.tokens; lexes = s.lexes; spelled = laws.deepens _ st s.spelled }

  pub found : (st : Statement) → IsStatementWithinLimits bytes st → statement_text st ≡ bytes → Some st ≡ statement_in bytes
  found st h e = sym (laws.back bytes st (record { text = bytes; spells = deep bytes st h.parentheses; within = h.tree }, sym e))

  -- what is read of the bytes is spelled by them
  spelled_by : (st : Statement) → statement_in bytes ≡ Some st → SpellsShallowStatement bytes st
  spelled_by st e =
      let is = laws.read bytes st e in
      subst (λ b. SpellsShallowStatement b st) (sym is.1) (laws.canonical is.0.text st is.0.spells is.0.within)

  none_if : (o : Option Statement) → statement_in bytes ≡ o → ((st : Statement) → statement_in bytes ≡ Some st → ⊥) → None ≡ o
  none_if None e h = refl
  none_if (Some st) e h = absurd (h st e)

  pub differs : (st : Statement) → IsStatementWithinLimits bytes st → (statement_text st ≡ bytes → ⊥) → None ≡ statement_in bytes
  differs st w h =
      none_if (statement_in bytes) refl
      (λ su e. h (subst (λ x. statement_text x ≡ bytes) (laws.one bytes su st (deep bytes su (spelled_by su e)) (deep bytes st w.parentheses)) (sym (laws.read bytes su e).1)))

  pub unspelled : ((st : Statement) → SpellsStatement bytes st → ⊥) → None ≡ statement_in bytes
  unspelled h = none_if (statement_in bytes) refl (λ su e. h su (deep bytes su (spelled_by su e)))

  passes_none : (st : Statement) (l : LimitName) → statement_limit st ≡ None → SpellsShallowStatement bytes st → StatementPasses bytes st l → ⊥
  passes_none st l w s (by_tree e) = let z : Some l ≡ None = sym e ∙ w in cc
  passes_none st l w s (by_parentheses e n) = n s

  pub passed : (l : LimitName) (st : Statement) → SpellsStatement bytes st → StatementPasses bytes st l → None ≡ statement_in bytes
  passed l st s p =
      none_if (statement_in bytes) refl
      (λ su e. let same = laws.one bytes su st (deep bytes su (spelled_by su e)) s in
      passes_none su l (laws.read bytes su e).0.within (spelled_by su e) (subst (λ x. StatementPasses bytes x l) (sym same) p))

self_same : (xs : List ℕ) → same_bytes xs xs ≡ true
self_same [] = refl
self_same (x ∷ xs) = let t : (x == x) ≡ true = grind (arith, nat_tests) in rw t (self_same xs)

pub same_self : (xs : List ℕ) → same_bytes xs xs ≡ true
same_self = self_same

pub not_same : (a b : List ℕ) → same_bytes a b ≡ false → a ≡ b → ⊥
not_same a b h e = true≢false (sym (self_same a) ∙ ap (same_bytes a) e ∙ h)
