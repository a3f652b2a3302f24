-- Rows gathered one after another are those that a statement collects.
use Rattle.salt_ast.specs.declared.trees.Expr.{Expr}
use Rattle.salt_ast.specs.declared.trees.TableDef.{TableDef}
use Rattle.salt_eval.proofs.InOrder.{less_is, parted}
use Rattle.salt_eval.proofs.Nexts.{both_true}
use Rattle.salt_eval.specs.Filtered.{filtered}
use Rattle.salt_eval.specs.Scans.{IsKeyed, gathered}
use Rattle.salt_eval.specs.Views.{is_next, rows_after}
use Rattle.salt_model.specs.Eval as eval
use Rattle.salt_model.specs.Reaches.{in_row}
use Rattle.salt_model.specs.Statements.{collect, on_match}
use Rattle.salt_model.specs.Tables.{Entry, Tables, place, place_cmp, place_total}
use Rattle.salt_model.specs.Words.{Every, and_then}
use Rattle.salt_model.specs.declared.events.Cause.{Cause}
use Rattle.salt_model.specs.declared.places.Place.{Place}
use Rattle.salt_model.specs.declared.vars.Binding.{Binding}
use Rattle.salt_ranges.specs.Ranges.{has_key}
use Rattle.salt_ranges.specs.declared.range.KeyRange.{KeyRange}
use Rattle.salt_values.specs.declared.value.Value.{Value}
use Rattle.std.proofs.Common.{ap, subst, sym, ◌∙◌}
use Rattle.std.proofs.lemmas.Bool.{eqb-true}
use Rattle.std.proofs.lemmas.Cmp.{tied_itself}
use Rattle.std.specs.FinMap.Entries.{below_all, find, is_sorted}
use Rattle.std.specs.List.{cons_option, filter}
use Rattle.std.specs.Ordering.{is_eq}
use Rattle.std.specs.Prelude.{Bool, Err, IfSome, List, None, Ok, Option, Result, Some, [], cond, false, fold, map, refl, true, ℕ, ◌&&◌, ◌==◌, ◌∷◌, ◌≡◌}
use Rattle.std.specs.declared.cmp.Ordering.TheVariants.{Equal, Greater, Less}
use Rattle.std.specs.declared.cmp.Ordering.{Ordering}
use Rattle.salt_values.specs.Value.{key_of}
use lib.Dec.{T}

-- each stands at the place of its key, in the table
abbrev pub AtKeys : ℕ → List Entry → Type 0
AtKeys t es = Every (λ e. e.0 ≡ place t (key_of e.1)) es

none-found : (q k : Place) → place_cmp q k ≡ Equal → (es : List Entry) → T (below_all place_cmp k es) → find place_cmp q es ≡ None
none-found q k tied [] h = refl
none-found q k tied (e ∷ es) h =
    ap (λ o. cond (is_eq o) (Some e.1) (find place_cmp q es)) (place_total.congr q k e.0 tied ∙ less_is _ (parted _ _ h).0) ∙ none-found q k tied es (parted _ _ h).1

abbrev pub HasKeys : List Entry → Type 0
HasKeys es = (p : Place) → IfSome (find place_cmp p es) (λ row. key_of row ≡ p.key)

pub tail-keys : (e : Entry) (es : List Entry) → T (below_all place_cmp e.0 es) → HasKeys (e ∷ es) → HasKeys es
tail-keys e es below keys p = by (place_cmp p e.0) refl (keys p)
  where
    by : (o : Ordering) → place_cmp p e.0 ≡ o → IfSome (cond (is_eq o) (Some e.1) (find place_cmp p es)) (λ row. key_of row ≡ p.key) → IfSome (find place_cmp p es) (λ row. key_of row ≡ p.key)
    by Less is h = h
    by Greater is h = h
    by Equal is h = subst (λ o. IfSome o (λ row. key_of row ≡ p.key)) (sym (none-found p e.0 is es below)) tt

pub head-key : (e : Entry) (es : List Entry) → HasKeys (e ∷ es) → key_of e.1 ≡ e.0.key
head-key e es keys = subst (λ o. IfSome (cond (is_eq o) (Some e.1) (find place_cmp e.0 es)) (λ row. key_of row ≡ e.0.key)) (tied_itself place_total e.0) (keys e.0)

next-keys : (t : ℕ) (range : KeyRange) (es : List Entry) → T (is_sorted place_cmp es) → HasKeys es → AtKeys t (filter (λ e. is_next t range None e.0) es)
next-keys t range [] sorted keys = tt
next-keys t range (e ∷ es) sorted keys = by (is_next t range None e.0) refl (next-keys t range es (parted _ _ sorted).1 (tail-keys e es (parted _ _ sorted).0 keys))
  where
    by : (b : Bool) → is_next t range None e.0 ≡ b → AtKeys t (filter (λ e. is_next t range None e.0) es) → AtKeys t (cond b (e ∷ filter (λ e. is_next t range None e.0) es) (filter (λ e. is_next t range None e.0) es))
    by false is more = more
    by true is more =
        let p = both_true ((t == e.0.table) && has_key range e.0.key) true is in
        let table : t ≡ e.0.table = eqb-true t e.0.table (both_true (t == e.0.table) (has_key range e.0.key) p.0).0 in
        let key : key_of e.1 ≡ e.0.key = head-key e es keys in
        (λ i. record { table = sym table i; key = sym key i }, more)

pub rows-at_keys : (t : ℕ) (range : KeyRange) (es : Tables) → IsKeyed es → AtKeys t (rows_after t range None es)
rows-at_keys t range es keys = next-keys t range es.list es.sorted keys

-- of a result, in two steps
then-then : {A B C E : Type 0} (r : Result A E) (f : A → B) (g : B → Result C E) → and_then (and_then r (λ x. Ok (f x))) g ≡ and_then r (λ x. g (f x))
then-then (Ok x) f g = refl
then-then (Err c) f g = refl

module _ (t : ℕ) (def : TableDef) (vars : List Binding) (filter_by : Option Expr) {B S : Type 0} (f : Entry → Result B Cause) (passes : List Value → Result Bool Cause) (take : S → List Value → Result S Cause) (add : S → B → S)
    (Fits : S → Type 0) (stays : (s : S) (b : B) → Fits s → Fits (add s b))
    (same : (row : List Value) → passes row ≡ eval.passes (in_row def row vars) filter_by)
    (step : (s : S) (e : Entry) → Fits s → e.0 ≡ place t (key_of e.1) → take s e.1 ≡ and_then (f e) (λ b. Ok (add s b))) where
  pub gathered-collected : (s : S) (es : List Entry) → Fits s → AtKeys t es → gathered (filtered passes take) s (map (λ (e : Entry). e.1) es) ≡ and_then (collect (on_match def vars filter_by f) es) (λ bs. Ok (fold add s bs))
  gathered-collected s [] fits keys = refl
  gathered-collected s (e ∷ es) fits keys =
      ap (λ p. and_then (and_then p (λ b. cond b (take s e.1) (Ok s))) (λ next. gathered (filtered passes take) next (map (λ (e : Entry). e.1) es))) (same e.1)
      ∙ by (eval.passes (in_row def e.1 vars) filter_by) (gathered-collected s es fits keys.1) (λ b. gathered-collected (add s b) es (stays s b fits) keys.1)
    where
      rest : Result (List B) Cause
      rest = collect (on_match def vars filter_by f) es

      more : S → Result S Cause
      more s = gathered (filtered passes take) s (map (λ (e : Entry). e.1) es)

      taken : (r : Result B Cause) → take s e.1 ≡ and_then r (λ b. Ok (add s b)) → ((b : B) → more (add s b) ≡ and_then rest (λ bs. Ok (fold add (add s b) bs)))
          → and_then (take s e.1) more ≡ and_then (and_then (and_then r (λ x. Ok (Some x))) (λ o. and_then rest (λ l. Ok (cons_option o l)))) (λ bs. Ok (fold add s bs))
      taken (Err c) is on = ap (λ r. and_then r more) is
      taken (Ok b) is on = ap (λ r. and_then r more) is ∙ on b ∙ sym (then-then rest (λ l. b ∷ l) (λ bs. Ok (fold add s bs)))

      by : (p : Result Bool Cause) → more s ≡ and_then rest (λ bs. Ok (fold add s bs)) → ((b : B) → more (add s b) ≡ and_then rest (λ bs. Ok (fold add (add s b) bs)))
          → and_then (and_then p (λ b. cond b (take s e.1) (Ok s))) more
          ≡ and_then (and_then (and_then p (λ b. cond b (and_then (f e) (λ x. Ok (Some x))) (Ok None))) (λ o. and_then rest (λ l. Ok (cons_option o l)))) (λ bs. Ok (fold add s bs))
      by (Err c) passed on = refl
      by (Ok false) passed on = passed ∙ sym (then-then rest (λ l. l) (λ bs. Ok (fold add s bs)))
      by (Ok true) passed on = taken (f e) (step s e fits keys.0) on
