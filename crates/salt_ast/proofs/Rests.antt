-- From each part on as many statements may run as its block has and as behind its greater way.
use Rattle.salt_ast.proofs.Ways.{AreFrom, LeadsOn, StandsAt, no_part_zero, other_branch, part_stands, ways_on, without_first}
use Rattle.salt_ast.specs.Paths.{Position, Rest, at_number, next_on_commit, next_on_failure, part_rest, position_at, rest_among, rest_from, rest_of, retries, rests, way_on_commit, way_on_failure}
use Rattle.salt_ast.specs.ProgramJudgement.{fault_in_parts}
use Rattle.salt_ast.specs.declared.programs.PartDef.{PartDef}
use Rattle.std.proofs.Common.{List, None, Option, Some, [], ap, arith, if◌then◌else◌, refl, subst, suc, sym, zero, ℕ, ◌+◌, ◌-◌, ◌∙◌, ◌∷◌, ◌≡◌}
use Rattle.std.proofs.lemmas.Bool.Decides.{nat_tests}
use Rattle.std.specs.Prelude.{◌==◌, length, max, option_map}

same_branch : {A : Type 0} (n k : ℕ) (x y : A) → n ≡ k → (if n == k then x else y) ≡ x
same_branch n k x y e = grind (arith, nat_tests)

-- what is told of a part is its rest where a program comes to it
told_rest : (count k : ℕ) (ps : List PartDef) (i : ℕ) →
    rest_among (rests count k ps) (Some (k + i)) ≡ rest_from count k ps (record { part = k + i; tries = retries (at_number (suc i) ps) })
told_rest count k [] i = refl
told_rest count k (q ∷ qs) zero =
    let behind : List Rest = rests count (suc k) qs in
    let rest : ℕ = part_rest count k q (retries (Some q)) behind in
    same_branch k (k + zero) rest (rest_among behind (Some (k + zero))) (omega arith)
    ∙ sym (same_branch (k + zero) k rest (rest_from count (suc k) qs (record { part = k + zero; tries = retries (Some q) })) (omega arith))
told_rest count k (q ∷ qs) (suc i) =
    let behind : List Rest = rests count (suc k) qs in
    let tries : ℕ = retries (at_number (suc i) qs) in
    let rest : ℕ = part_rest count k q (retries (Some q)) behind in
    let e : suc k + i ≡ k + suc i = omega arith in
    let others : rest_among behind (Some (k + suc i)) ≡ rest_from count (suc k) qs (record { part = k + suc i; tries = tries }) =
    subst (λ (n : ℕ). rest_among behind (Some n) ≡ rest_from count (suc k) qs (record { part = n; tries = tries })) e (told_rest count (suc k) qs i) in
    other_branch k (k + suc i) rest (rest_among behind (Some (k + suc i))) (λ f. omega arith) ∙ others
    ∙ sym (other_branch (k + suc i) k (part_rest count k q tries behind)
    (rest_from count (suc k) qs (record { part = k + suc i; tries = tries })) (λ f. omega arith))

told_where_it_leads : (parts : List PartDef) (count k : ℕ) (ps : List PartDef) → AreFrom parts count k ps → (i : ℕ) →
    rest_among (rests count k ps) (Some (k + i)) ≡ rest_from count 1 parts (position_at parts (k + i))
told_where_it_leads parts count k ps all i =
    told_rest count k ps i
    ∙ ap (λ (o : Option PartDef). rest_from count k ps (record { part = k + i; tries = retries o })) (sym (all.numbered i))
    ∙ sym (all.rest (position_at parts (k + i)) (omega arith))

-- what is told of a later way is the rest where the way leads
way_rest : (parts : List PartDef) (k : ℕ) (qs : List PartDef) → AreFrom parts (length parts) (suc k) qs → (w : Option ℕ) → LeadsOn (length parts) k w →
    rest_among (rests (length parts) (suc k) qs) w ≡ rest_of parts (option_map (position_at parts) w)
way_rest parts k qs all None on = refl
way_rest parts k qs all (Some j) (later, _) =
    let e : suc k + (j - suc k) ≡ j = omega arith in
    subst (λ (n : ℕ). rest_among (rests (length parts) (suc k) qs) (Some n) ≡ rest_from (length parts) 1 parts (position_at parts n)) e
    (told_where_it_leads parts (length parts) (suc k) qs all (j - suc k))

module _ (parts : List PartDef) (k : ℕ) (p : PartDef) (at : StandsAt parts (length parts) k p) where
  -- the rest at the part itself, among the rests of those behind it
  own_rest : (tries : ℕ) →
      rest_of parts (Some (record { part = k; tries = tries })) ≡ part_rest (length parts) k p tries (rests (length parts) (suc k) at.behind)
  own_rest tries =
      let here : Position = record { part = k; tries = tries } in
      at.from_it.rest here (omega arith)
      ∙ same_branch k k (part_rest (length parts) k p tries (rests (length parts) (suc k) at.behind))
      (rest_from (length parts) (suc k) at.behind here) refl

  told_on : (w : Option ℕ) → LeadsOn (length parts) k w →
      rest_among (rests (length parts) (suc k) at.behind) w ≡ rest_of parts (option_map (position_at parts) w)
  told_on = way_rest parts k at.behind (without_first parts (length parts) k p at.behind at.from_it)

  -- where the program goes on behind a failure with so many tries left
  abbrev goes_on : ℕ → Option Position
  goes_on zero = option_map (position_at parts) (way_on_failure p.on_failure)
  goes_on (suc tries) = Some (record { part = k; tries = tries })

  rest_of_standing : (tries : ℕ) → rest_of parts (Some (record { part = k; tries = tries }))
      ≡ length p.block + max (rest_of parts (option_map (position_at parts) (way_on_commit (length parts) k p.then))) (rest_of parts (goes_on tries))
  rest_of_standing zero =
      let ways = ways_on parts (length parts) k p at in
      own_rest zero
      ∙ ap (λ (m : ℕ). length p.block + max m (rest_among (rests (length parts) (suc k) at.behind) (way_on_failure p.on_failure)))
      (told_on (way_on_commit (length parts) k p.then) ways.commit)
      ∙ ap (λ (m : ℕ). length p.block + max (rest_of parts (option_map (position_at parts) (way_on_commit (length parts) k p.then))) m)
      (told_on (way_on_failure p.on_failure) ways.failure)
  rest_of_standing (suc tries) =
      let ways = ways_on parts (length parts) k p at in
      own_rest (suc tries)
      ∙ ap (λ (m : ℕ). length p.block + max m (part_rest (length parts) k p tries (rests (length parts) (suc k) at.behind)))
      (told_on (way_on_commit (length parts) k p.then) ways.commit)
      ∙ ap (λ (m : ℕ). length p.block + max (rest_of parts (option_map (position_at parts) (way_on_commit (length parts) k p.then))) m)
      (sym (own_rest tries))

pub rest_of_part : (parts : List PartDef) (k tries : ℕ) (p : PartDef) → fault_in_parts (length parts) 1 parts ≡ None → at_number k parts ≡ Some p →
    rest_of parts (Some (record { part = k; tries = tries }))
    ≡ length p.block + max (rest_of parts (next_on_commit parts k)) (rest_of parts (next_on_failure parts k tries))
rest_of_part parts zero tries p sound is = absurd (no_part_zero parts p is)
rest_of_part parts (suc i) zero p sound is = rw is (rest_of_standing parts (suc i) p (part_stands parts sound i p is) zero)
rest_of_part parts (suc i) (suc tries) p sound is = rw is (rest_of_standing parts (suc i) p (part_stands parts sound i p is) (suc tries))
