-- Arguments and variables of a program: put one after another, and taken apart.
use Rattle.salt_ast.specs.Judgement.{same_types, value_type}
use Rattle.salt_ast.specs.ProgramJudgement.{are_arguments}
use Rattle.salt_ast.specs.declared.trees.ColType.TheVariants as kind
use Rattle.salt_ast.specs.declared.trees.ColType.{ColType}
use Rattle.salt_ast.specs.declared.trees.Field.{Field}
use Rattle.law_story.proofs.Ids.{and_left, and_right}
use Rattle.salt_model.specs.Eval.{named_values}
use Rattle.salt_model.specs.Kept.{zero_of, zeros}
use Rattle.salt_model.specs.declared.vars.Binding.{Binding}
use Rattle.law_types.proofs.Words.{both}
use Rattle.law_types.specs.Typed.{AreVariables}
use Rattle.salt_values.specs.declared.value.Value.{Value}
use Rattle.std.proofs.Common.{ap, subst, sym}
use Rattle.std.specs.Prelude.{List, Some, [], drop, length, map, refl, true, ◌++◌, ◌∷◌, ◌≡◌}

abbrev value_in : Binding → Value
value_in b = b.value

are-joined : (fs gs : List Field) (vs ws : List Value) → are_arguments fs vs ≡ true → are_arguments gs ws ≡ true → are_arguments (fs ++ gs) (vs ++ ws) ≡ true
are-joined [] gs [] ws h g = g
are-joined [] gs (v ∷ vs) ws h g = absurd cc
are-joined (f ∷ fs) gs [] ws h g = absurd cc
are-joined (f ∷ fs) gs (v ∷ vs) ws h g = both _ _ (and_left _ _ h) (are-joined fs gs vs ws (and_right (same_types (Some f.kind) (value_type v)) _ h) g)

names-joined : (fs gs : List Field) (vs ws : List Value) → are_arguments fs vs ≡ true → named_values fs vs ++ named_values gs ws ≡ named_values (fs ++ gs) (vs ++ ws)
names-joined [] gs [] ws h = refl
names-joined [] gs (v ∷ vs) ws h = absurd cc
names-joined (f ∷ fs) gs [] ws h = absurd cc
names-joined (f ∷ fs) gs (v ∷ vs) ws h =
    ap (λ bs. record { name = f.name; value = v } ∷ bs) (names-joined fs gs vs ws (and_right (same_types (Some f.kind) (value_type v)) _ h))

pub joined : (fs gs : List Field) (vs ws : List Value) → are_arguments fs vs ≡ true → are_arguments gs ws ≡ true → AreVariables (fs ++ gs) (named_values fs vs ++ named_values gs ws)
joined fs gs vs ws h g = record { values = vs ++ ws; named = names-joined fs gs vs ws h; typed = are-joined fs gs vs ws h g }

pub zeros-typed : (fs : List Field) → are_arguments fs (zeros fs) ≡ true
zeros-typed [] = refl
zeros-typed (f ∷ fs) = both _ _ (zero-typed f.kind) (zeros-typed fs)
  where
    zero-typed : (t : ColType) → same_types (Some t) (value_type (zero_of t)) ≡ true
    zero-typed kind.Int = refl
    zero-typed kind.Text = refl

own-values : (fs : List Field) (vs : List Value) → are_arguments fs vs ≡ true → vs ≡ map value_in (named_values fs vs)
own-values [] [] h = refl
own-values [] (v ∷ vs) h = absurd cc
own-values (f ∷ fs) [] h = absurd cc
own-values (f ∷ fs) (v ∷ vs) h = ap (λ ws. v ∷ ws) (own-values fs vs (and_right (same_types (Some f.kind) (value_type v)) _ h))

behind : (fs gs : List Field) (vs : List Value) → are_arguments (fs ++ gs) vs ≡ true → are_arguments gs (map value_in (drop (length fs) (named_values (fs ++ gs) vs))) ≡ true
behind [] gs vs h = subst (λ ws. are_arguments gs ws ≡ true) (own-values gs vs h) h
behind (f ∷ fs) gs [] h = absurd cc
behind (f ∷ fs) gs (v ∷ vs) h = behind fs gs vs (and_right (same_types (Some f.kind) (value_type v)) _ h)

-- the values behind those of the first fields
pub kept-behind : (fs gs : List Field) (vars : List Binding) → AreVariables (fs ++ gs) vars → are_arguments gs (map value_in (drop (length fs) vars)) ≡ true
kept-behind fs gs vars h = subst (λ bs. are_arguments gs (map value_in (drop (length fs) bs)) ≡ true) (sym h.named) (behind fs gs h.values h.typed)
