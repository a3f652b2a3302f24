-- What is defined within the limits is short.
use Rattle.salt_ast.specs.Limits.{above, name_passed, passed_in_list, table_limit}
use Rattle.salt_ast.specs.ProgramJudgement.{are_arguments}
use Rattle.salt_ast.specs.ProgramLimits.{program_limit}
use Rattle.salt_ast.specs.declared.limit.LimitName.{LimitName}
use Rattle.salt_ast.specs.declared.programs.ProgramDef.{ProgramDef}
use Rattle.salt_ast.specs.declared.trees.Field.{Field}
use Rattle.salt_ast.specs.declared.trees.TableDef.{TableDef}
use Rattle.salt_stands.specs.Fitting.{are_of_columns}
use Rattle.salt_model.specs.Words.{Every}
use Rattle.salt_values.specs.declared.value.Value.{Value}
use Rattle.std.proofs.Common.{Bool, List, None, Option, Some, [], ap, arith, false, length, refl, subst, true, ℕ, ◌≡◌, ◌≤◌, ◌∷◌}
use Rattle.std.proofs.lemmas.Bool.Decides.{nat_tests}
use Rattle.std.specs.Bool.{then_some}
use Rattle.std.specs.Option.{option_or}
use Rattle.std.specs.Prelude.{nat_lt, suc, zero, slice_get}

pub or_first : {A : Type 0} (a b : Option A) → option_or a b ≡ None → a ≡ None
or_first None b e = refl
or_first (Some x) b e = absurd cc

pub or_second : {A : Type 0} (a b : Option A) → option_or a b ≡ None → b ≡ None
or_second None b e = e
or_second (Some x) b e = absurd cc

pub short_list : {A : Type 0} (room : ℕ) (l : LimitName) (f : A → Option LimitName) (xs : List A) → passed_in_list room l f xs ≡ None → length xs ≤ room
short_list room l f [] e = omega arith
short_list zero l f (x ∷ xs) e = absurd cc
short_list (suc room) l f (x ∷ xs) e = let more = short_list room l f xs (or_second (f x) (passed_in_list room l f xs) e) in omega (arith, more)

pub at_most : (most : ℕ) (l : LimitName) (n : ℕ) → above most l n ≡ None → n ≤ most
at_most most l n e = by (nat_lt most n) refl e
  where
    by : (b : Bool) → nat_lt most n ≡ b → then_some b l ≡ None → n ≤ most
    by true less e = absurd cc
    by false not e = grind (arith, nat_tests)

pub arguments_length : (fs : List Field) (vs : List Value) → are_arguments fs vs ≡ true → length vs ≡ length fs
arguments_length [] [] e = refl
arguments_length (f ∷ fs) (v ∷ vs) e = ap suc (arguments_length fs vs (Rattle.salt_stands.proofs.Booleans.right _ _ e))
arguments_length [] (v ∷ vs) e = absurd cc
arguments_length (f ∷ fs) [] e = absurd cc

pub columns_length : (fs : List Field) (vs : List Value) → are_of_columns fs vs ≡ true → length vs ≡ length fs
columns_length [] [] e = refl
columns_length (f ∷ fs) (v ∷ vs) e = ap suc (columns_length fs vs (Rattle.salt_stands.proofs.Booleans.right _ _ e))
columns_length [] (v ∷ vs) e = absurd cc
columns_length (f ∷ fs) [] e = absurd cc

pub few_columns : (d : TableDef) → table_limit d ≡ None → length d.columns ≤ 16
unfolding table_limit
few_columns d e = short_list 16 _ (λ f. name_passed f.name) d.columns (or_first _ _ (or_second (name_passed d.name) _ (or_first _ _ e)))

pub few_params : (p : ProgramDef) → program_limit p ≡ None → length p.params ≤ 16
unfolding program_limit
few_params p e = short_list 16 _ (λ f. name_passed f.name) p.params (or_first _ _ (or_second (name_passed p.name) _ (or_first _ _ e)))

pub few_vars : (p : ProgramDef) → program_limit p ≡ None → length p.vars ≤ 16
unfolding program_limit
few_vars p e = short_list 16 _ (λ f. name_passed f.name) p.vars (or_first _ _ (or_second _ _ (or_second (name_passed p.name) _ (or_first _ _ e))))

pub short_name : (p : ProgramDef) → program_limit p ≡ None → length p.name ≤ 32
unfolding program_limit
short_name p e = at_most 32 _ (length p.name) (or_first (name_passed p.name) _ (or_first _ _ e))

-- what is found in a list
pub at_every : {A : Type 0} (P : A → Type 0) (xs : List A) (n : ℕ) (x : A) → Every P xs → slice_get xs n ≡ Some x → P x
at_every P [] n x all e = absurd cc
at_every P (y ∷ ys) zero x all e = let same : y ≡ x = cc e in subst P same all.0
at_every P (y ∷ ys) (suc n) x all e = at_every P ys n x all.1 e
