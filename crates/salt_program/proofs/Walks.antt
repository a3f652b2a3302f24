-- Going over the statements of a program, part by part.
use Rattle.salt_ast.specs.Paths.{part_block, statements_in}
use Rattle.salt_ast.specs.Words.{first_in}
use Rattle.salt_ast.specs.declared.programs.PartDef.{PartDef}
use Rattle.salt_ast.specs.declared.trees.Statement.{Statement}
use Rattle.std.proofs.Common.{Bool, List, None, Option, Some, [], ap, arith, drop, drop-cons, false, get_or, length, map, refl, suc, sym, true, ℕ, ◌+◌, ◌++◌, ◌&&◌, ◌∙◌, ◌∷◌, ◌<◌, ◌≡◌}
use Rattle.std.specs.List.{list_all}
use Rattle.std.specs.Option.{option_or}

or_assoc : {A : Type 0} (a b c : Option A) → option_or a (option_or b c) ≡ option_or (option_or a b) c
or_assoc None b c = refl
or_assoc (Some x) b c = refl

and_assoc : (a b c : Bool) → (a && (b && c)) ≡ ((a && b) && c)
and_assoc true b c = refl
and_assoc false b c = refl

first_in_append : {A B : Type 0} (f : A → Option B) (xs ys : List A) → first_in f (xs ++ ys) ≡ option_or (first_in f xs) (first_in f ys)
first_in_append f [] ys = refl
first_in_append f (x ∷ xs) ys = ap (option_or (f x)) (first_in_append f xs ys) ∙ or_assoc (f x) (first_in f xs) (first_in f ys)

list_all_append : {A : Type 0} (p : A → Bool) (xs ys : List A) → list_all p (xs ++ ys) ≡ (list_all p xs && list_all p ys)
list_all_append p [] ys = refl
list_all_append p (x ∷ xs) ys = ap (λ b. p x && b) (list_all_append p xs ys) ∙ and_assoc (p x) (list_all p xs) (list_all p ys)

-- the statements of these parts
abbrev pub in_parts : List PartDef → List Statement
in_parts parts = statements_in (map part_block parts)

split : (parts : List PartDef) (i : ℕ) (p : PartDef) → i < length parts → p ≡ get_or parts i p → in_parts (drop i parts) ≡ p.block ++ in_parts (drop (i + 1) parts)
split parts i p within is =
    let one : suc i ≡ i + 1 = omega arith in
    ap in_parts (drop-cons parts i p within ∙ ap (λ q. q ∷ drop (suc i) parts) (sym is)) ∙ ap (λ k. p.block ++ in_parts (drop k parts)) one

-- the first answer in a part, and else in the parts behind it
pub first_in_part : {B : Type 0} (f : Statement → Option B) (parts : List PartDef) (i : ℕ) (p : PartDef) → i < length parts → p ≡ get_or parts i p →
    first_in f (in_parts (drop i parts)) ≡ option_or (first_in f p.block) (first_in f (in_parts (drop (i + 1) parts)))
first_in_part f parts i p within is = ap (first_in f) (split parts i p within is) ∙ first_in_append f p.block (in_parts (drop (i + 1) parts))

pub all_in_part : (f : Statement → Bool) (parts : List PartDef) (i : ℕ) (p : PartDef) → i < length parts → p ≡ get_or parts i p →
    list_all f (in_parts (drop i parts)) ≡ (list_all f p.block && list_all f (in_parts (drop (i + 1) parts)))
all_in_part f parts i p within is = ap (list_all f) (split parts i p within is) ∙ list_all_append f p.block (in_parts (drop (i + 1) parts))
