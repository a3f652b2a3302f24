-- Entries that stand under their names.
use Rattle.indexmap.specs.IndexMap.{insert_entry}
use Rattle.salt_schema.proofs.Distinct.{doubled_name-push}
use Rattle.salt_schema.specs.Definitions.{AreDistinct, AreKeyed, definition_named, is_named, number_named}
use Rattle.salt_ast.specs.TokenSpelling.{same_bytes}
use Rattle.std.proofs.Common.{Bool, List, None, Some, [], ap, cond, false, map, nat_eq, position, refl, true, ℕ, ◌+◌, ◌++◌, ◌∙◌, ◌∷◌, ◌≡◌}
use Rattle.std.proofs.lemmas.List.{map-append}
use Rattle.std.proofs.lemmas.Iterator.Adapters.{position_from-zero}
use Rattle.std.specs.Cmp.Lexicographic.{pointwise}
use Rattle.std.specs.List.{position_from}
use Rattle.std.specs.Map.{lookup}

-- two tests of bytes
pub pointwise-same_bytes : (a b : List ℕ) → pointwise nat_eq a b ≡ same_bytes a b
pointwise-same_bytes [] [] = refl
pointwise-same_bytes [] (y ∷ ys) = refl
pointwise-same_bytes (x ∷ xs) [] = refl
pointwise-same_bytes (x ∷ xs) (y ∷ ys) = rw (pointwise-same_bytes xs ys) refl

module _ {K T : Type 0} (spelled : K → List ℕ) (name : T → List ℕ) where
  from-AreKeyed : (n : List ℕ) (i : ℕ) (es : List (K × T)) → AreKeyed spelled name es →
      position_from (λ k. pointwise nat_eq n (spelled k)) i (map (λ (e : K × T). e.0) es) ≡ position_from (is_named name n) i (map (λ (e : K × T). e.1) es)
  from-AreKeyed n i [] keyed = refl
  from-AreKeyed n i (e ∷ es) keyed =
      rw (pointwise-same_bytes n (spelled e.0), keyed.0, from-AreKeyed n (i + 1) es keyed.1) refl

  -- a key's place is its name's
  pub position-AreKeyed : (n : List ℕ) (es : List (K × T)) → AreKeyed spelled name es →
      position (λ k. pointwise nat_eq n (spelled k)) (map (λ (e : K × T). e.0) es) ≡ number_named name n (map (λ (e : K × T). e.1) es)
  position-AreKeyed n es keyed = position_from-zero _ (map (λ (e : K × T). e.0) es) ∙ from-AreKeyed n 0 es keyed

  -- a key's value is its name's
  pub lookup-AreKeyed : (n : List ℕ) (es : List (K × T)) → AreKeyed spelled name es →
      lookup (λ k. pointwise nat_eq n (spelled k)) es ≡ definition_named name n (map (λ (e : K × T). e.1) es)
  lookup-AreKeyed n [] keyed = refl
  lookup-AreKeyed n (e ∷ es) keyed = rw (pointwise-same_bytes n (spelled e.0), keyed.0, lookup-AreKeyed n es keyed.1) refl

  -- an entry behind the others
  AreKeyed-push : (es : List (K × T)) (e : K × T) → AreKeyed spelled name es → spelled e.0 ≡ name e.1 → AreKeyed spelled name (es ++ e ∷ [])
  AreKeyed-push [] e keyed own = (own, tt)
  AreKeyed-push (d ∷ es) e keyed own = (keyed.0, AreKeyed-push es e keyed.1 own)

  -- an entry of a new name goes behind the others
  insert_entry-AreKeyed : (es : List (K × T)) (k : K) (x : T) (i : ℕ) → AreKeyed spelled name es → spelled k ≡ name x →
      position_from (is_named name (name x)) i (map (λ (e : K × T). e.1) es) ≡ None →
      insert_entry (λ a b. pointwise nat_eq (spelled a) (spelled b)) es k x ≡ es ++ (k, x) ∷ []
  insert_entry-AreKeyed [] k x i keyed own new = refl
  insert_entry-AreKeyed (e ∷ es) k x i keyed own new =
      rw (pointwise-same_bytes (spelled k) (spelled e.0), own, keyed.0)
      (by (same_bytes (name x) (name e.1)) new (insert_entry-AreKeyed es k x (i + 1) keyed.1 own))
    where
      by : (b : Bool) → cond b (Some i) (position_from (is_named name (name x)) (i + 1) (map (λ (e : K × T). e.1) es)) ≡ None →
          (position_from (is_named name (name x)) (i + 1) (map (λ (e : K × T). e.1) es) ≡ None → insert_entry (λ a b. pointwise nat_eq (spelled a) (spelled b)) es k x ≡ es ++ (k, x) ∷ []) →
          cond b ((e.0, x) ∷ es) (e ∷ insert_entry (λ a b. pointwise nat_eq (spelled a) (spelled b)) es k x) ≡ e ∷ (es ++ (k, x) ∷ [])
      by true h rest = absurd cc
      by false h rest = ap (λ l. e ∷ l) (rest h)

  -- what a new entry makes of those that are there
  pub record Grown (old new : List (K × T)) (x : T) : Type 0 where
    pub keyed : AreKeyed spelled name new
    pub distinct : AreDistinct name (map (λ (e : K × T). e.1) new)
    pub behind : map (λ (e : K × T). e.1) new ≡ map (λ (e : K × T). e.1) old ++ x ∷ []

  pub insert_entry-Grown : (old new : List (K × T)) (k : K) (x : T) → AreKeyed spelled name old → AreDistinct name (map (λ (e : K × T). e.1) old) →
      number_named name (name x) (map (λ (e : K × T). e.1) old) ≡ None → spelled k ≡ name x →
      new ≡ insert_entry (λ a b. pointwise nat_eq (spelled a) (spelled b)) old k x → Grown old new x
  insert_entry-Grown old new k x keyed distinct absent own inserted =
      let pushed : new ≡ old ++ (k, x) ∷ [] = inserted ∙ insert_entry-AreKeyed old k x 0 keyed own absent in
      let behind : map (λ (e : K × T). e.1) new ≡ map (λ (e : K × T). e.1) old ++ x ∷ [] = rw pushed (map-append (λ (e : K × T). e.1) old ((k, x) ∷ [])) in
      let names : map name (map (λ (e : K × T). e.1) new) ≡ map name (map (λ (e : K × T). e.1) old) ++ name x ∷ [] = rw behind (map-append name (map (λ (e : K × T). e.1) old) (x ∷ [])) in
      record {
        keyed = rw pushed (AreKeyed-push old (k, x) keyed own);
        distinct = rw names (doubled_name-push name [] (map (λ (e : K × T). e.1) old) (name x) 0 distinct refl absent);
        behind = behind;
      }
