-- Where a statement's text ends, and which statement it is of.
use Rattle.salt_ast.specs.Spelling.{SpellsShallowStatement, SpellsStatement}
use Rattle.salt_ast.specs.Texts.{statement_text}
use Rattle.salt_ast.specs.declared.trees.Statement.{Statement}
use Rattle.salt_model.specs.Printable.{IsSpelled}
use Rattle.law_texts.proofs.Arrows.{lexed_after}
use Rattle.law_texts.specs.Arrow.{after, open_place}
use Rattle.law_texts.proofs.Quiet.{Quiet, statement_calm, within_firm}
use Rattle.law_texts.specs.Below.{LawsBelow}
use Rattle.salt_ast.specs.Symbols.{symbols_of}
use Rattle.salt_values.specs.declared.limits.TheConstants.{DEPTH_MOST}
use Rattle.std.proofs.Common.{List, [], ap, append-nil, false, subst, sym, ℕ, ◌++◌, ◌∙◌, ◌∷◌, ◌≡◌}
use Rattle.std.proofs.lemmas.List.{append_cancel_right}

module _ (laws : LawsBelow) where
  pub shallow : (st : Statement) → IsSpelled st → SpellsShallowStatement (statement_text st) st
  shallow st h = laws.statement h.text st h.spells h.within

  spelled : (st : Statement) → IsSpelled st → SpellsStatement (statement_text st) st
  spelled st h =
      let s = shallow st h in record { tokens = s.tokens; lexes = s.lexes; spelled = laws.deepens (symbols_of s.tokens) st s.spelled }

  quiet : (st : Statement) (h : IsSpelled st) → Quiet false (symbols_of (shallow st h).tokens)
  quiet st h =
      let s = shallow st h in
      subst (Quiet false) (append-nil (symbols_of s.tokens))
      (statement_calm (within_firm DEPTH_MOST) (within_firm DEPTH_MOST) (symbols_of s.tokens) st s.spelled [] tt)

  -- what stands behind the first arrow outside quotes stands behind the statement
  pub arrow_found : (st : Statement) (x : List ℕ) → IsSpelled st → after open_place (statement_text st ++ (32 ∷ 45 ∷ 62 ∷ x)) ≡ x
  arrow_found st x h = let s = shallow st h in lexed_after laws.signs s.lexes false (quiet st h) (45 ∷ 62 ∷ x)

  pub statement_one : (a b : Statement) (x y : List ℕ) → IsSpelled a → IsSpelled b →
      statement_text a ++ (32 ∷ 45 ∷ 62 ∷ x) ≡ statement_text b ++ (32 ∷ 45 ∷ 62 ∷ y) → (a ≡ b) × (x ≡ y)
  statement_one a b x y g h e =
      let rest = sym (arrow_found a x g) ∙ ap (after open_place) e ∙ arrow_found b y h in
      let aligned = e ∙ ap (λ (z : List ℕ). statement_text b ++ (32 ∷ 45 ∷ 62 ∷ z)) (sym rest) in
      let same = append_cancel_right (statement_text a) (statement_text b) (32 ∷ 45 ∷ 62 ∷ x) aligned in
      (laws.one (statement_text a) a b (spelled a g) (subst (λ (l : List ℕ). SpellsStatement l b) (sym same) (spelled b h)), rest)
