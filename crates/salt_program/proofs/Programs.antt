-- Programs by their names, their fields and their arguments.
use Rattle.salt_ast.specs.Judgement.{doubled_name, field_names, same_types, value_type}
use Rattle.salt_ast.specs.ProgramJudgement.{are_arguments, is_program, program_named}
use Rattle.salt_ast.specs.Words.{is_among}
use Rattle.salt_ast.specs.declared.programs.ProgramDef.{ProgramDef}
use Rattle.salt_ast.specs.declared.trees.Field.{Field}
use Rattle.salt_schema.specs.Definitions.{definition_named, is_named, number_named}
use Rattle.salt_ast.specs.TokenSpelling.{same_bytes}
use Rattle.salt_values.specs.declared.value.Value.{Value}
use Rattle.std.proofs.Common.{Bool, List, None, Some, [], ap, cond, false, is_some, length, refl, suc, sym, true, ℕ, ◌+◌, ◌++◌, ◌&&◌, ◌||◌, ◌∙◌, ◌∷◌, ◌≡◌, ◌≢◌}
use Rattle.std.proofs.lemmas.List.{map-append}
use Rattle.std.specs.List.{position_from}
use Rattle.std.specs.Option.{option_or}

pub program_named-definition : (ps : List ProgramDef) (n : List ℕ) → definition_named (λ (p : ProgramDef). p.name) n ps ≡ program_named ps n
program_named-definition [] n = refl
program_named-definition (p ∷ ps) n = ap (cond (same_bytes n p.name) (Some p)) (program_named-definition ps n)

from-is_program : (ps : List ProgramDef) (n : List ℕ) (i : ℕ) → is_program ps n ≡ false → position_from (is_named (λ (p : ProgramDef). p.name) n) i ps ≡ None
from-is_program [] n i h = refl
from-is_program (p ∷ ps) n i h = by (same_bytes n p.name) h (from-is_program ps n (i + 1))
  where
    by : (b : Bool) → is_some (cond b (Some p) (program_named ps n)) ≡ false → (is_program ps n ≡ false → position_from (is_named (λ (q : ProgramDef). q.name) n) (i + 1) ps ≡ None) →
        cond b (Some i) (position_from (is_named (λ (q : ProgramDef). q.name) n) (i + 1) ps) ≡ None
    by true h rest = absurd cc
    by false h rest = rest h

-- a name that no program has is no number's
pub number_named-none : (ps : List ProgramDef) (n : List ℕ) → is_program ps n ≡ false → number_named (λ (p : ProgramDef). p.name) n ps ≡ None
number_named-none ps n h = from-is_program ps n 0 h

-- as many arguments as parameters
pub are_arguments-length : (fs : List Field) (vs : List Value) → length fs ≢ length vs → false ≡ are_arguments fs vs
are_arguments-length [] [] h = absurd (h refl)
are_arguments-length [] (v ∷ vs) h = refl
are_arguments-length (f ∷ fs) [] h = refl
are_arguments-length (f ∷ fs) (v ∷ vs) h = by (same_types (Some f.kind) (value_type v)) (are_arguments-length fs vs (λ same. h (ap (λ n. suc n) same)))
  where
    by : (b : Bool) → false ≡ are_arguments fs vs → false ≡ (b && are_arguments fs vs)
    by true rest = rest
    by false rest = refl

-- NAMES THAT COME TWICE: in what order names were seen does not matter.

doubled_name-same : (a b : List (List ℕ)) (ns : List (List ℕ)) → ((n : List ℕ) → is_among n a ≡ is_among n b) → doubled_name a ns ≡ doubled_name b ns
doubled_name-same a b [] same = refl
doubled_name-same a b (n ∷ ns) same =
    rw (same n) (ap (cond (is_among n b) (Some n)) (doubled_name-same (n ∷ a) (n ∷ b) ns (λ m. ap (λ c. same_bytes m n || c) (same m))))

doubled_name-append : (before seen ns ms : List (List ℕ)) → ((n : List ℕ) → is_among n seen ≡ (is_among n before || is_among n ns)) →
    doubled_name before (ns ++ ms) ≡ option_or (doubled_name before ns) (doubled_name seen ms)
doubled_name-append before seen [] ms same = doubled_name-same before seen ms (λ n. sym (or-false (is_among n before)) ∙ sym (same n))
  where
    or-false : (b : Bool) → (b || false) ≡ b
    or-false true = refl
    or-false false = refl
doubled_name-append before seen (k ∷ ns) ms same =
    by (is_among k before) (doubled_name-append (k ∷ before) seen ns ms (λ n. same n ∙ or-rotate (is_among n before) (same_bytes n k) (is_among n ns)))
  where
    or-rotate : (a b c : Bool) → (a || (b || c)) ≡ ((b || a) || c)
    or-rotate true true c = refl
    or-rotate true false c = refl
    or-rotate false true c = refl
    or-rotate false false c = refl

    by : (b : Bool) → doubled_name (k ∷ before) (ns ++ ms) ≡ option_or (doubled_name (k ∷ before) ns) (doubled_name seen ms) →
        cond b (Some k) (doubled_name (k ∷ before) (ns ++ ms)) ≡ option_or (cond b (Some k) (doubled_name (k ∷ before) ns)) (doubled_name seen ms)
    by true rest = refl
    by false rest = rest

-- of parameters, and then of variables behind them
pub doubled_name-fields : (params vars : List Field) →
    doubled_name [] (field_names (params ++ vars)) ≡ option_or (doubled_name [] (field_names params)) (doubled_name (field_names params) (field_names vars))
doubled_name-fields params vars =
    ap (doubled_name []) (map-append (λ (f : Field). f.name) params vars) ∙ doubled_name-append [] (field_names params) (field_names params) (field_names vars) (λ n. refl)
