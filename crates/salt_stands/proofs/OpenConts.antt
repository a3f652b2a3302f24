-- The open continuations rise, and each is sound, as the header's are.
use Rattle.salt_bytes.specs.declared.moves.Move.{Move}
use Rattle.salt_bytes.specs.declared.moves.Move.TheVariants.{Continue, Finish, Plain}
use Rattle.salt_model.specs.Kept.{cont_in}
use Rattle.salt_values.specs.declared.cont.Cont.{Cont}
use Rattle.salt_bytes.specs.Conts.{move_in}
use Rattle.salt_bytes.specs.Coordinator.{Decision}
use Rattle.salt_stands.proofs.Booleans.{all_push, join, left, right}
use Rattle.salt_stands.proofs.Decided.{same_id_sym}
use Rattle.salt_stands.specs.OpenConts.{conts_of_move, do_rise, go_to, is_accepted_before, is_later_than, is_not_of, make_move, moved, replace_cont}
use Rattle.salt_values.specs.Id.{is_same_id}
use Rattle.salt_values.specs.declared.id.Id.{Id}
use Rattle.std.proofs.Common.{Bool, List, None, Option, Some, [], ap, false, refl, subst, sym, true, ℕ, ◌++◌, ◌≡◌, ◌∙◌, ◌∷◌}
use Rattle.std.proofs.lemmas.Bool.Decides.{Decides-eqb}
use Rattle.std.specs.List.{filter, list_all}
use Rattle.std.specs.Prelude.{cond, if◌then◌else◌, nat_lt, not, option_and_then, option_map, ◌&&◌, ◌==◌}
use Rattle.std.specs.Bool.{then_some}

pub same_id : (u v : Id) → is_same_id u v ≡ true → u ≡ v
same_id u v e =
    let b : u.boot ≡ v.boot = (Decides-eqb u.boot v.boot).0 (left (u.boot == v.boot) (u.seq == v.seq) e) in
    let s : u.seq ≡ v.seq = (Decides-eqb u.seq v.seq).0 (right (u.boot == v.boot) (u.seq == v.seq) e) in
    λ i. record { boot = b i; seq = s i }

pub all_filter : {A : Type 0} (p q : A → Bool) (xs : List A) → list_all p xs ≡ true → list_all p (filter q xs) ≡ true
all_filter p q [] e = refl
all_filter p q (x ∷ xs) e = by (q x) (all_filter p q xs (right (p x) (list_all p xs) e))
  where
    by : (b : Bool) → list_all p (filter q xs) ≡ true → list_all p (cond b (x ∷ filter q xs) (filter q xs)) ≡ true
    by true h = join (p x) (list_all p (filter q xs)) (left (p x) (list_all p xs) e) h
    by false h = h

rise_filter : (q : Cont → Bool) (cs : List Cont) → do_rise cs ≡ true → do_rise (filter q cs) ≡ true
rise_filter q [] e = refl
rise_filter q (c ∷ cs) e = by (q c) (rise_filter q cs (right (list_all (is_later_than c) cs) (do_rise cs) e))
  where
    by : (b : Bool) → do_rise (filter q cs) ≡ true → do_rise (cond b (c ∷ filter q cs) (filter q cs)) ≡ true
    by true h = join (list_all (is_later_than c) (filter q cs)) (do_rise (filter q cs)) (all_filter (is_later_than c) q cs (left (list_all (is_later_than c) cs) (do_rise cs) e)) h
    by false h = h

rise_push : (c : Cont) (cs : List Cont) → do_rise cs ≡ true → list_all (is_accepted_before c) cs ≡ true → cont_in c.base cs ≡ None → do_rise (cs ++ c ∷ []) ≡ true
rise_push c [] e before new = refl
rise_push c (d ∷ ds) e before new =
    let not_same : is_same_id c.base d.base ≡ false = none_here (is_same_id c.base d.base) new in
    let none : cont_in c.base ds ≡ None = ap (λ b. if b then Some d else cont_in c.base ds) (sym not_same) ∙ new in
    let apart : is_later_than d c ≡ true = join (nat_lt d.accepted c.accepted) (is_not_of d.base c) (left (is_accepted_before c d) (list_all (is_accepted_before c) ds) before) (ap not (same_id_sym d.base c.base ∙ not_same)) in
    join (list_all (is_later_than d) (ds ++ c ∷ [])) (do_rise (ds ++ c ∷ []))
    (all_push (is_later_than d) ds c (left (list_all (is_later_than d) ds) (do_rise ds) e) apart)
    (rise_push c ds (right (list_all (is_later_than d) ds) (do_rise ds) e) (right (is_accepted_before c d) (list_all (is_accepted_before c) ds) before) none)
  where
    none_here : (b : Bool) → (if b then Some d else cont_in c.base ds) ≡ None → b ≡ false
    none_here true e = cc
    none_here false e = refl

-- behind a continuation of this program there is no other
replace_none : (c d : Cont) (ds : List Cont) → is_same_id c.base d.base ≡ true → list_all (is_later_than d) ds ≡ true → replace_cont c ds ≡ ds
replace_none c d [] same e = refl
replace_none c d (x ∷ xs) same e =
    let apart : is_not_of d.base x ≡ true = right (nat_lt d.accepted x.accepted) (is_not_of d.base x) (left (is_later_than d x) (list_all (is_later_than d) xs) e) in
    let other : is_same_id c.base x.base ≡ false = ap (λ b. is_same_id b x.base) (same_id c.base d.base same) ∙ from_not (is_same_id d.base x.base) apart in
    ap (λ b. (if b then c else x) ∷ replace_cont c xs) other ∙ ap (λ ys. x ∷ ys) (replace_none c d xs same (right (is_later_than d x) (list_all (is_later_than d) xs) e))
  where
    from_not : (b : Bool) → not b ≡ true → b ≡ false
    from_not true e = cc
    from_not false e = refl

-- the same number and program: what comes later than one comes later than the other
later_as : (c d : Cont) (xs : List Cont) → c.accepted ≡ d.accepted → c.base ≡ d.base → list_all (is_later_than d) xs ≡ true → list_all (is_later_than c) xs ≡ true
later_as c d xs n b e = ap (λ m. list_all (λ x. nat_lt m x.accepted && is_not_of c.base x) xs) n ∙ ap (λ u. list_all (λ x. nat_lt d.accepted x.accepted && is_not_of u x) xs) b ∙ e

than_as : (x c d : Cont) → c.accepted ≡ d.accepted → c.base ≡ d.base → is_later_than x d ≡ true → is_later_than x c ≡ true
than_as x c d n b e = ap (λ m. nat_lt x.accepted m && not (is_same_id x.base c.base)) n ∙ ap (λ u. nat_lt x.accepted d.accepted && not (is_same_id x.base u)) b ∙ e

module _ (c d : Cont) (number : c.accepted ≡ d.accepted) where
  replace_later : (x : Cont) (xs : List Cont) → do_rise xs ≡ true → cont_in c.base xs ≡ Some d → list_all (is_later_than x) xs ≡ true → list_all (is_later_than x) (replace_cont c xs) ≡ true
  replace_later x [] rise found e = refl
  replace_later x (y ∷ ys) rise found e = by (is_same_id c.base y.base) refl found (replace_later x ys (right (list_all (is_later_than y) ys) (do_rise ys) rise))
    where
      rest : list_all (is_later_than x) ys ≡ true
      rest = right (is_later_than x y) (list_all (is_later_than x) ys) e

      by : (b : Bool) → is_same_id c.base y.base ≡ b → (if b then Some y else cont_in c.base ys) ≡ Some d
          → (cont_in c.base ys ≡ Some d → list_all (is_later_than x) ys ≡ true → list_all (is_later_than x) (replace_cont c ys) ≡ true)
          → list_all (is_later_than x) ((if b then c else y) ∷ replace_cont c ys) ≡ true
      by true same f h =
          let is : y ≡ d = cc in
          join (is_later_than x c) (list_all (is_later_than x) (replace_cont c ys))
          (than_as x c y (number ∙ ap (λ (z : Cont). z.accepted) (sym is)) (same_id c.base y.base same) (left (is_later_than x y) (list_all (is_later_than x) ys) e))
          (ap (λ zs. list_all (is_later_than x) zs) (replace_none c y ys same (left (list_all (is_later_than y) ys) (do_rise ys) rise)) ∙ rest)
      by false same f h = join (is_later_than x y) (list_all (is_later_than x) (replace_cont c ys)) (left (is_later_than x y) (list_all (is_later_than x) ys) e) (h f rest)

  replace_rise : (xs : List Cont) → do_rise xs ≡ true → cont_in c.base xs ≡ Some d → do_rise (replace_cont c xs) ≡ true
  replace_rise [] rise found = refl
  replace_rise (y ∷ ys) rise found = by (is_same_id c.base y.base) refl found (replace_rise ys tail)
    where
      head : list_all (is_later_than y) ys ≡ true
      head = left (list_all (is_later_than y) ys) (do_rise ys) rise

      tail : do_rise ys ≡ true
      tail = right (list_all (is_later_than y) ys) (do_rise ys) rise

      by : (b : Bool) → is_same_id c.base y.base ≡ b → (if b then Some y else cont_in c.base ys) ≡ Some d
          → (cont_in c.base ys ≡ Some d → do_rise (replace_cont c ys) ≡ true)
          → do_rise ((if b then c else y) ∷ replace_cont c ys) ≡ true
      by true same f h =
          let is : y ≡ d = cc in
          let same_rest : replace_cont c ys ≡ ys = replace_none c y ys same head in
          ap (λ zs. do_rise (c ∷ zs)) same_rest ∙ join (list_all (is_later_than c) ys) (do_rise ys) (later_as c y ys (number ∙ ap (λ (z : Cont). z.accepted) (sym is)) (same_id c.base y.base same) head) tail
      by false same f h = join (list_all (is_later_than y) (replace_cont c ys)) (do_rise (replace_cont c ys)) (replace_later y ys tail f head) (h f)

  pub replace_rises : (xs : List Cont) → do_rise xs ≡ true → cont_in c.base xs ≡ Some d → do_rise (replace_cont c xs) ≡ true
  replace_rises xs = replace_rise xs

all_replace : (p : Cont → Bool) (c : Cont) (xs : List Cont) → p c ≡ true → list_all p xs ≡ true → list_all p (replace_cont c xs) ≡ true
all_replace p c [] good e = refl
all_replace p c (x ∷ xs) good e = join (p (if is_same_id c.base x.base then c else x)) (list_all p (replace_cont c xs)) (by (is_same_id c.base x.base)) (all_replace p c xs good (right (p x) (list_all p xs) e))
  where
    by : (b : Bool) → p (if b then c else x) ≡ true
    by true = good
    by false = left (p x) (list_all p xs) e

-- what open continuations are
pub record AreOpen (p : Cont → Bool) (cs : List Cont) : Type 0 where
  pub rise : do_rise cs ≡ true
  pub each : list_all p cs ≡ true

given_is : {A : Type 0} (b : Bool) (x y : A) → then_some b x ≡ Some y → (b ≡ true) × (x ≡ y)
given_is true x y e = (refl, cc)
given_is false x y e = cc

module _ (p : Cont → Bool) where
  goes : (c : Cont) (o : Option Cont) (cs ds : List Cont) → cont_in c.base cs ≡ o → p c ≡ true → AreOpen p cs → go_to c o cs ≡ Some ds → AreOpen p ds
  goes c None cs ds found good open' e =
      let is = given_is (list_all (is_accepted_before c) cs) (cs ++ c ∷ []) ds e in
      subst (AreOpen p) is.1 (record { rise = rise_push c cs open'.rise is.0 found; each = all_push p cs c open'.each good })
  goes c (Some d) cs ds found good open' e =
      let is = given_is (c.accepted == d.accepted) (replace_cont c cs) ds e in
      subst (AreOpen p) is.1 (record { rise = replace_rises c d ((Decides-eqb c.accepted d.accepted).0 is.0) cs open'.rise found; each = all_replace p c cs good open'.each })

  ends : (b : Id) (o : Option Cont) (cs ds : List Cont) → AreOpen p cs → option_map (λ d. filter (is_not_of b) cs) o ≡ Some ds → AreOpen p ds
  ends b None cs ds open' e = cc
  ends b (Some d) cs ds open' e = subst (AreOpen p) is (record { rise = rise_filter (is_not_of b) cs open'.rise; each = all_filter p (is_not_of b) cs open'.each })
    where
      is : (filter (is_not_of b) cs) ≡ ds
      is = cc

  move_keeps : (m : Move) (cs ds : List Cont) → list_all p (conts_of_move (Some m)) ≡ true → AreOpen p cs → make_move cs m ≡ Some ds → AreOpen p ds
  move_keeps Plain cs ds good open' e = subst (AreOpen p) is open'
    where
      is : cs ≡ ds
      is = cc
  move_keeps (Continue c) cs ds good open' e = goes c (cont_in c.base cs) cs ds refl (left (p c) true good) open' e
  move_keeps (Finish b) cs ds good open' e = ends b (cont_in b cs) cs ds open' e

  nothing : (format : ℕ) (ds : List Decision) → moved format None ds ≡ None
  nothing format [] = refl
  nothing format (d ∷ ds) = nothing format ds

  on_move : (format : ℕ) (ds : List Decision) (cs es : List Cont) (o : Option Move) → list_all p (conts_of_move o) ≡ true → AreOpen p cs
      → ((now : List Cont) → AreOpen p now → moved format (Some now) ds ≡ Some es → AreOpen p es)
      → moved format (option_and_then (make_move cs) o) ds ≡ Some es → AreOpen p es
  on_move format ds cs es None good open' h e = none (sym (nothing format ds) ∙ e)
    where
      none : None ≡ Some es → AreOpen p es
      none e = cc
  on_move format ds cs es (Some m) good open' h e = on (make_move cs m) refl e
    where
      none : None ≡ Some es → AreOpen p es
      none e = cc

      on : (q : Option (List Cont)) → make_move cs m ≡ q → moved format q ds ≡ Some es → AreOpen p es
      on None is e = none (sym (nothing format ds) ∙ e)
      on (Some now) is e = h now (move_keeps m cs now good open' is) e

  pub moved_keeps : (format : ℕ) (ds : List Decision) (cs es : List Cont) → list_all (λ d. list_all p (conts_of_move (move_in format d.move))) ds ≡ true → AreOpen p cs → moved format (Some cs) ds ≡ Some es → AreOpen p es
  moved_keeps format [] cs es good open' e = subst (AreOpen p) is open'
    where
      is : cs ≡ es
      is = cc
  moved_keeps format (d ∷ ds) cs es good open' e =
      let one : Decision → Bool = λ d. list_all p (conts_of_move (move_in format d.move)) in
      on_move format ds cs es (move_in format d.move) (left (one d) (list_all one ds) good) open' (λ now o f. moved_keeps format ds now es (right (one d) (list_all one ds) good) o f) e
