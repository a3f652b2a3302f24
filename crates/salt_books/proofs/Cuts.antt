-- The units that an opening cuts, the first of them.
use Rattle.salt_books.specs.Held.{seen}
use Rattle.salt_books.specs.declared.held.Held.{Held}
use Rattle.salt_books.proofs.LookUps.{names-seen}
use Rattle.law_states.specs.OpenUnits.{names_in}
use Rattle.law_states.specs.Rising.{Rising}
use Rattle.law_story.proofs.Every.{every-filter}
use Rattle.salt_model.specs.Words.{Every, first_of_list}
use Rattle.salt_values.specs.Id.{in_order, insert_id}
use Rattle.salt_values.specs.Id.{is_older, is_same_id}
use Rattle.salt_values.specs.declared.id.Id.{Id}
use Rattle.std.proofs.Common.{ap, sym, ◌∙◌}
use Rattle.std.specs.List.{filter, find}
use Rattle.std.specs.Prelude.{Bool, List, Some, [], cond, false, if◌then◌else◌, map, option_map, refl, true, ◌∷◌, ◌≡◌}

-- a name older than all others is put in front
put-first : (u : Id) (us : List Id) → Every (λ v. is_older u v ≡ true) us → insert_id u us ≡ u ∷ us
put-first u [] h = refl
put-first u (v ∷ vs) h = ap (λ t. if t then u ∷ v ∷ vs else (if is_same_id u v then v ∷ vs else v ∷ insert_id u vs)) h.0

-- of names that rise those that pass a test are in order
in-order : (p : Id → Bool) (us : List Id) → Rising us → in_order (filter p us) ≡ filter p us
in-order p [] h = refl
in-order p (u ∷ us) h = by (p u) (in-order p us h.1)
  where
    by : (t : Bool) → in_order (filter p us) ≡ filter p us → in_order (cond t (u ∷ filter p us) (filter p us)) ≡ cond t (u ∷ filter p us) (filter p us)
    by true more = ap (insert_id u) more ∙ put-first u (filter p us) (every-filter (λ v. is_older u v ≡ true) p us h.0)
    by false more = more

first-found : (p : Id → Bool) (hs : List Held) →
    option_map (λ (h : Held). (seen h).unit) (find (λ (h : Held). p (seen h).unit) hs) ≡ first_of_list (filter p (map (λ (h : Held). (seen h).unit) hs))
first-found p [] = refl
first-found p (h ∷ hs) = by (p (seen h).unit) (first-found p hs)
  where
    by : (t : Bool) → option_map (λ (h : Held). (seen h).unit) (find (λ (h : Held). p (seen h).unit) hs) ≡ first_of_list (filter p (map (λ (h : Held). (seen h).unit) hs)) →
        option_map (λ (h : Held). (seen h).unit) (cond t (Some h) (find (λ (h : Held). p (seen h).unit) hs))
        ≡ first_of_list (cond t ((seen h).unit ∷ filter p (map (λ (h : Held). (seen h).unit) hs)) (filter p (map (λ (h : Held). (seen h).unit) hs)))
    by true more = refl
    by false more = more

pub first-cut : (p : Id → Bool) (hs : List Held) → Rising (names_in (map seen hs)) →
    option_map (λ (h : Held). (seen h).unit) (find (λ (h : Held). p (seen h).unit) hs) ≡ first_of_list (in_order (filter p (names_in (map seen hs))))
first-cut p hs rises =
    first-found p hs ∙ ap (λ us. first_of_list (filter p us)) (names-seen hs)
    ∙ ap first_of_list (sym (in-order p (names_in (map seen hs)) rises))
