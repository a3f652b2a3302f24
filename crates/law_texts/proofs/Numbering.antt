-- A table's name tells its number.
use Rattle.salt_ast.specs.Judgement.{doubled_name}
use Rattle.salt_ast.specs.Words.{is_among}
use Rattle.salt_ast.specs.declared.trees.TableDef.{TableDef}
use Rattle.salt_model.specs.EventTexts.{table_name}
use Rattle.salt_model.specs.Words.{Every}
use Rattle.salt_model.specs.Naming.{IsName, IsNaming, table_names}
use Rattle.salt_ast.specs.TokenSpelling.{same_bytes}
use Rattle.std.proofs.Common.{Bool, List, None, Option, Some, [], ap, arith, cond, eq-eqb, false, length, refl, suc, sym, true, true≢false, zero, ℕ}
use Rattle.std.proofs.Common.{◌<◌, ◌∙◌, ◌∷◌, ◌≡◌, ◌||◌}

named : (schema : List TableDef) (n : ℕ) → Every IsName (table_names schema) → n < length schema → IsName (table_name schema n)
named [] n h lt = absurd (omega arith)
named (d ∷ ds) zero h lt = h.0
named (d ∷ ds) (suc n) h lt = named ds n h.1 (omega arith)

neither : (a b : Bool) → (a || b) ≡ false → (a ≡ false) × (b ≡ false)
neither false b h = (refl, h)
neither true b h = absurd (true≢false h)

pub first_fresh : (n : List ℕ) (t : Bool) (rest : Option (List ℕ)) → cond t (Some n) rest ≡ None → (t ≡ false) × (rest ≡ None)
first_fresh n false rest h = (refl, h)
first_fresh n true rest h = absurd cc

same_as_itself : (n : List ℕ) → same_bytes n n ≡ true
same_as_itself [] = refl
same_as_itself (x ∷ xs) = rw (eq-eqb x x refl) (same_as_itself xs)

fresh : (before : List (List ℕ)) (schema : List TableDef) → doubled_name before (table_names schema) ≡ None → (j : ℕ) → j < length schema →
    is_among (table_name schema j) before ≡ false
fresh before [] h j lt = absurd (omega arith)
fresh before (d ∷ ds) h zero lt = (first_fresh d.name (is_among d.name before) (doubled_name (d.name ∷ before) (table_names ds)) h).0
fresh before (d ∷ ds) h (suc j) lt =
    let rest = (first_fresh d.name (is_among d.name before) (doubled_name (d.name ∷ before) (table_names ds)) h).1 in
    (neither (same_bytes (table_name ds j) d.name) (is_among (table_name ds j) before) (fresh (d.name ∷ before) ds rest j (omega arith))).1

first_differs : (before : List (List ℕ)) (d : TableDef) (ds : List TableDef) → doubled_name (d.name ∷ before) (table_names ds) ≡ None → (j : ℕ) →
    j < length ds → table_name ds j ≡ d.name → ⊥
first_differs before d ds h j lt e =
    let no_same = (neither (same_bytes (table_name ds j) d.name) (is_among (table_name ds j) before) (fresh (d.name ∷ before) ds h j lt)).0 in
    true≢false (sym (same_as_itself d.name) ∙ ap (λ (n : List ℕ). same_bytes n d.name) (sym e) ∙ no_same)

numbered : (before : List (List ℕ)) (schema : List TableDef) → doubled_name before (table_names schema) ≡ None → (i j : ℕ) → i < length schema →
    j < length schema → table_name schema i ≡ table_name schema j → i ≡ j
numbered before [] h i j p q e = absurd (omega arith)
numbered before (d ∷ ds) h zero zero p q e = refl
numbered before (d ∷ ds) h zero (suc j) p q e =
    let rest = (first_fresh d.name (is_among d.name before) (doubled_name (d.name ∷ before) (table_names ds)) h).1 in
    absurd (first_differs before d ds rest j (omega arith) (sym e))
numbered before (d ∷ ds) h (suc i) zero p q e =
    let rest = (first_fresh d.name (is_among d.name before) (doubled_name (d.name ∷ before) (table_names ds)) h).1 in
    absurd (first_differs before d ds rest i (omega arith) e)
numbered before (d ∷ ds) h (suc i) (suc j) p q e =
    let rest = (first_fresh d.name (is_among d.name before) (doubled_name (d.name ∷ before) (table_names ds)) h).1 in
    ap suc (numbered (d.name ∷ before) ds rest i j (omega arith) (omega arith) e)

module _ (schema : List TableDef) (naming : IsNaming schema) where
  pub table_is_name : (n : ℕ) → n < length schema → IsName (table_name schema n)
  table_is_name n lt = named schema n naming.names lt

  pub table_number_one : (i j : ℕ) → i < length schema → j < length schema → table_name schema i ≡ table_name schema j → i ≡ j
  table_number_one i j p q e = numbered [] schema naming.apart i j p q e
