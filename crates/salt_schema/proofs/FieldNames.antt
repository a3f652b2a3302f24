-- Finding a field by its name.
use Rattle.salt_ast.specs.Judgement.{field_named, field_names, unknown_name}
use Rattle.salt_ast.specs.Words.{is_among}
use Rattle.salt_ast.specs.declared.trees.Field.{Field}
use Rattle.salt_ast.specs.TokenSpelling.{same_bytes}
use Rattle.std.proofs.Common.{Bool, List, None, Some, [], cond, false, is_some, refl, true, ℕ, ◌++◌, ◌||◌, ◌∷◌, ◌≡◌}

is_among-field_named : (fs : List Field) (n : List ℕ) → is_among n (field_names fs) ≡ is_some (field_named fs n)
is_among-field_named [] n = refl
is_among-field_named (f ∷ fs) n = by (same_bytes n f.name) (is_among-field_named fs n)
  where
    by : (b : Bool) → is_among n (field_names fs) ≡ is_some (field_named fs n) → (b || is_among n (field_names fs)) ≡ is_some (cond b (Some f) (field_named fs n))
    by true rest = refl
    by false rest = rest

pub unknown_name-some : (fs : List Field) (n : List ℕ) (f : Field) → Some f ≡ field_named fs n → None ≡ unknown_name fs n
unknown_name-some fs n f h = rw (is_among-field_named fs n, ← h) refl

pub unknown_name-none : (fs : List Field) (n : List ℕ) → None ≡ field_named fs n → Some n ≡ unknown_name fs n
unknown_name-none fs n h = rw (is_among-field_named fs n, ← h) refl

pub field_named-first : (fs gs : List Field) (n : List ℕ) (f : Field) → Some f ≡ field_named fs n → Some f ≡ field_named (fs ++ gs) n
field_named-first [] gs n f h = absurd cc
field_named-first (g ∷ fs) gs n f h = by (same_bytes n g.name) h (field_named-first fs gs n f)
  where
    by : (b : Bool) → Some f ≡ cond b (Some g) (field_named fs n) → (Some f ≡ field_named fs n → Some f ≡ field_named (fs ++ gs) n) →
        Some f ≡ cond b (Some g) (field_named (fs ++ gs) n)
    by true h rest = h
    by false h rest = rest h

pub field_named-second : (fs gs : List Field) (n : List ℕ) → None ≡ field_named fs n → field_named gs n ≡ field_named (fs ++ gs) n
field_named-second [] gs n h = refl
field_named-second (g ∷ fs) gs n h = by (same_bytes n g.name) h (field_named-second fs gs n)
  where
    by : (b : Bool) → None ≡ cond b (Some g) (field_named fs n) → (None ≡ field_named fs n → field_named gs n ≡ field_named (fs ++ gs) n) →
        field_named gs n ≡ cond b (Some g) (field_named (fs ++ gs) n)
    by true h rest = absurd cc
    by false h rest = rest h
