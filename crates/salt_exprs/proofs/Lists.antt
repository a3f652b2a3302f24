-- Lists of values and of sets, from what is known of each.
use Rattle.salt_ast.specs.declared.trees.Field.{Field}
use Rattle.salt_ast.specs.declared.trees.Set.{Set}
use Rattle.salt_ast.specs.declared.trees.TableDef.{TableDef}
use Rattle.salt_model.specs.Eval.{Visible, value_of}
use Rattle.salt_model.specs.Statements.{set_field, with_sets}
use Rattle.salt_model.specs.Words.{and_then}
use Rattle.salt_model.specs.declared.events.Cause.{Cause}
use Rattle.salt_ast.specs.TokenSpelling.{same_bytes}
use Rattle.salt_values.specs.declared.value.Value.{Value}
use Rattle.std.proofs.Common.{ap, arith, Bool, List, Ok, get_or, length, refl, slice_set, sym, take, ℕ, ◌++◌, ◌∷◌, ◌≡◌, ◌<◌}
use Rattle.std.specs.Prelude.{Result, [], cond, false, suc, true, zero}

-- values before those that come
abbrev pub values_behind : List Value → Result (List Value) Cause → Result (List Value) Cause
values_behind row r = and_then r (λ vs. Ok (row ++ vs))

-- one column more
pub set_field-more : (fs : List Field) (i : ℕ) (n : List ℕ) (v : Value) (ws : List Value) (f : Field) → i < length fs → f ≡ get_or fs i f
    → set_field (take (suc i) fs) n v ws ≡ cond (same_bytes n f.name) (slice_set (set_field (take i fs) n v ws) i v) (set_field (take i fs) n v ws)
set_field-more [] i n v ws f h is = absurd (omega arith)
set_field-more (g ∷ fs) zero n v [] f h is = by (same_bytes n f.name)
  where
    by : (b : Bool) → [] ≡ cond b (slice_set [] 0 v) []
    by true = refl
    by false = refl
set_field-more (g ∷ fs) zero n v (w ∷ ws) f h is = let same : f ≡ g = is in rw same (by (same_bytes n g.name))
  where
    by : (b : Bool) → cond b v w ∷ ws ≡ cond b (slice_set (w ∷ ws) 0 v) (w ∷ ws)
    by true = refl
    by false = refl
set_field-more (g ∷ fs) (suc i) n v [] f h is = by (same_bytes n f.name)
  where
    by : (b : Bool) → [] ≡ cond b (slice_set [] (suc i) v) []
    by true = refl
    by false = refl
set_field-more (g ∷ fs) (suc i) n v (w ∷ ws) f h is = by (same_bytes n f.name) (set_field-more fs i n v ws f (omega arith) is)
  where
    by : (b : Bool) → set_field (take (suc i) fs) n v ws ≡ cond b (slice_set (set_field (take i fs) n v ws) i v) (set_field (take i fs) n v ws) →
        cond (same_bytes n g.name) v w ∷ set_field (take (suc i) fs) n v ws
        ≡ cond b (slice_set (cond (same_bytes n g.name) v w ∷ set_field (take i fs) n v ws) (suc i) v) (cond (same_bytes n g.name) v w ∷ set_field (take i fs) n v ws)
    by true e = rw e refl
    by false e = rw e refl

-- the first set is done, and the others are left
pub with_sets-goes_on : (def : TableDef) (seen : Visible) (s : Set) (sets : List Set) (row new : List Value) (v : Value)
    → value_of seen s.value ≡ Ok v → new ≡ set_field def.columns s.column v row → with_sets def seen (s ∷ sets) row ≡ with_sets def seen sets new
with_sets-goes_on def seen s sets row new v h k = rw (h, k) refl

pub one_set : (sets : List Set) (s : Set) → length sets ≡ 1 → s ≡ get_or sets 0 s → sets ≡ s ∷ []
one_set [] s one is = absurd (omega arith)
one_set (x ∷ []) s one is = ap (λ (y : Set). y ∷ []) (sym is)
one_set (x ∷ y ∷ sets) s one is = absurd (omega arith)
