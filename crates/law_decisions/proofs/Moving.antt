-- A move of continuations that rise leaves some that rise.
use Rattle.salt_bytes.specs.declared.moves.Move.TheVariants.{Continue, Finish, Plain}
use Rattle.salt_bytes.specs.declared.moves.Move.{Move}
use Rattle.salt_model.specs.Kept.{cont_in}
use Rattle.salt_stands.proofs.Booleans.{all_push, join, left, right}
use Rattle.salt_stands.proofs.Decided.{same_id_sym}
use Rattle.salt_stands.proofs.OpenConts.{all_filter, replace_rises}
use Rattle.salt_stands.specs.OpenConts.{do_rise, go_to, is_accepted_before, is_later_than, is_not_of, make_move, replace_cont}
use Rattle.salt_values.specs.Id.{is_same_id}
use Rattle.salt_values.specs.declared.cont.Cont.{Cont}
use Rattle.salt_values.specs.declared.id.Id.{Id}
use Rattle.std.proofs.Common.{ap, subst, sym, ◌∙◌}
use Rattle.std.proofs.lemmas.Bool.Decides.{Decides-eqb}
use Rattle.std.specs.List.{filter, list_all}
use Rattle.std.specs.Prelude.{Bool, List, None, Option, Some, [], cond, false, if◌then◌else◌, nat_lt, not, option_map, refl, true, ◌++◌, ◌==◌, ◌∷◌, ◌≡◌}
use Rattle.std.specs.Bool.{then_some}

rise-filter : (q : Cont → Bool) (cs : List Cont) → do_rise cs ≡ true → do_rise (filter q cs) ≡ true
rise-filter q [] e = refl
rise-filter q (c ∷ cs) e = by (q c) (rise-filter q cs (right (list_all (is_later_than c) cs) (do_rise cs) e))
  where
    by : (b : Bool) → do_rise (filter q cs) ≡ true → do_rise (cond b (c ∷ filter q cs) (filter q cs)) ≡ true
    by true h =
        join (list_all (is_later_than c) (filter q cs)) (do_rise (filter q cs))
        (all_filter (is_later_than c) q cs (left (list_all (is_later_than c) cs) (do_rise cs) e)) h
    by false h = h

-- one of a program that is not there, accepted behind the others
rise-push : (c : Cont) (cs : List Cont) → do_rise cs ≡ true → list_all (is_accepted_before c) cs ≡ true → cont_in c.base cs ≡ None → do_rise (cs ++ c ∷ []) ≡ true
rise-push c [] e before new = refl
rise-push c (d ∷ ds) e before new =
    let other : is_same_id c.base d.base ≡ false = none-here (is_same_id c.base d.base) new in
    let none : cont_in c.base ds ≡ None = ap (λ b. if b then Some d else cont_in c.base ds) (sym other) ∙ new in
    let later : is_later_than d c ≡ true = join (nat_lt d.accepted c.accepted) (is_not_of d.base c) (left (is_accepted_before c d) (list_all (is_accepted_before c) ds) before) (ap not (same_id_sym d.base c.base ∙ other)) in
    join (list_all (is_later_than d) (ds ++ c ∷ [])) (do_rise (ds ++ c ∷ []))
    (all_push (is_later_than d) ds c (left (list_all (is_later_than d) ds) (do_rise ds) e) later)
    (rise-push c ds (right (list_all (is_later_than d) ds) (do_rise ds) e) (right (is_accepted_before c d) (list_all (is_accepted_before c) ds) before) none)
  where
    none-here : (b : Bool) → (if b then Some d else cont_in c.base ds) ≡ None → b ≡ false
    none-here true e = cc
    none-here false e = refl

given-is : {A : Type 0} (b : Bool) (x y : A) → then_some b x ≡ Some y → (b ≡ true) × (x ≡ y)
given-is true x y e = (refl, cc)
given-is false x y e = cc

goes-rise : (c : Cont) (o : Option Cont) (cs ds : List Cont) → cont_in c.base cs ≡ o → do_rise cs ≡ true → go_to c o cs ≡ Some ds → do_rise ds ≡ true
goes-rise c None cs ds found rise e =
    let is = given-is (list_all (is_accepted_before c) cs) (cs ++ c ∷ []) ds e in
    subst (λ (xs : List Cont). do_rise xs ≡ true) is.1 (rise-push c cs rise is.0 found)
goes-rise c (Some d) cs ds found rise e =
    let is = given-is (c.accepted == d.accepted) (replace_cont c cs) ds e in
    subst (λ (xs : List Cont). do_rise xs ≡ true) is.1 (replace_rises c d ((Decides-eqb c.accepted d.accepted).0 is.0) cs rise found)

ends-rise : (b : Id) (o : Option Cont) (cs ds : List Cont) → do_rise cs ≡ true → option_map (λ d. filter (is_not_of b) cs) o ≡ Some ds → do_rise ds ≡ true
ends-rise b None cs ds rise e = cc
ends-rise b (Some d) cs ds rise e = subst (λ (xs : List Cont). do_rise xs ≡ true) is (rise-filter (is_not_of b) cs rise)
  where
    is : (filter (is_not_of b) cs) ≡ ds
    is = cc

pub move-rises : (m : Move) (cs ds : List Cont) → do_rise cs ≡ true → make_move cs m ≡ Some ds → do_rise ds ≡ true
move-rises Plain cs ds rise e = subst (λ (xs : List Cont). do_rise xs ≡ true) is rise
  where
    is : cs ≡ ds
    is = cc
move-rises (Continue c) cs ds rise e = goes-rise c (cont_in c.base cs) cs ds refl rise e
move-rises (Finish b) cs ds rise e = ends-rise b (cont_in b cs) cs ds rise e
