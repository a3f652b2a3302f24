-- Names found by position.
use Rattle.salt_ast.specs.declared.trees.Field.{Field}
use Rattle.salt_exprs.specs.Names.{IsNumberOf, has_name, is_named}
use Rattle.salt_model.specs.Eval.{named_values, value_named}
use Rattle.salt_model.specs.declared.vars.Binding.{Binding}
use Rattle.salt_ast.specs.TokenSpelling.{same_bytes}
use Rattle.salt_values.specs.declared.value.Value.{Value}
use Rattle.std.proofs.Common.{List, Some, add-one, ap, refl, ◌∙◌, ◌≡◌}
use Rattle.std.specs.List.{position_from}
use Rattle.std.specs.Prelude.{Bool, None, Option, [], cond, false, find, option_and_then, option_map, slice_get, suc, true, ℕ, ◌+◌, ◌∷◌}

-- from an index on, the position is one more than from the index before
shifted : (p : Field → Bool) (i : ℕ) (fs : List Field) → position_from p (i + 1) fs ≡ option_map (λ k. suc k) (position_from p i fs)
shifted p i [] = refl
shifted p i (f ∷ fs) = by (shifted p (i + 1) fs) (p f)
  where
    by : position_from p (i + 1 + 1) fs ≡ option_map (λ k. suc k) (position_from p (i + 1) fs) → (b : Bool) → cond b (Some (i + 1)) (position_from p (i + 1 + 1) fs) ≡ option_map (λ k. suc k) (cond b (Some i) (position_from p (i + 1) fs))
    by more true = ap Some (add-one i)
    by more false = more

behind : (v : Value) (vs : List Value) (o : Option ℕ) → option_and_then (slice_get vs) o ≡ option_and_then (slice_get (v ∷ vs)) (option_map (λ k. suc k) o)
behind v vs None = refl
behind v vs (Some k) = refl

nothing_in_none : (o : Option ℕ) → None ≡ option_and_then (slice_get {X = Value} []) o
nothing_in_none None = refl
nothing_in_none (Some k) = refl

pub position-is_number : (fs : List Field) (n : List ℕ) → IsNumberOf fs n (position_from (has_name n) 0 fs)
position-is_number [] n row = refl
position-is_number (f ∷ fs) n [] = nothing_in_none _
position-is_number (f ∷ fs) n (v ∷ vs) = by (position-is_number fs n vs) (same_bytes n f.name)
  where
    by : value_named n (named_values fs vs) ≡ option_and_then (slice_get vs) (position_from (has_name n) 0 fs) → (b : Bool) → cond b (Some v) (value_named n (named_values fs vs)) ≡ option_and_then (slice_get (v ∷ vs)) (cond b (Some 0) (position_from (has_name n) 1 fs))
    by more true = refl
    by more false = rw (shifted (has_name n) 0 fs) (more ∙ behind v vs (position_from (has_name n) 0 fs))

pub value_named-find : (n : List ℕ) (bs : List Binding) → value_named n bs ≡ option_map (λ (b : Binding). b.value) (find (is_named n) bs)
value_named-find n [] = refl
value_named-find n (b ∷ bs) = by (value_named-find n bs) (same_bytes n b.name)
  where
    by : value_named n bs ≡ option_map (λ (x : Binding). x.value) (find (is_named n) bs) → (t : Bool) → cond t (Some b.value) (value_named n bs) ≡ option_map (λ (x : Binding). x.value) (cond t (Some b) (find (is_named n) bs))
    by more true = refl
    by more false = more
