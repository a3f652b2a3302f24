-- Locks that are taken out of a list one after another, with what stands beside them.
use Rattle.law_states.specs.KeptLocks.{Numbered, is_owned_by}
use Rattle.salt_locks.proofs.Puts.{is_left}
use Rattle.salt_locks.specs.Clear.{IsMarked, ends_by}
use Rattle.salt_locks.specs.Places.{AreInOrder, NoLater}
use Rattle.salt_locks.specs.Tables.{is_of_another, numbered}
use Rattle.salt_model.specs.Words.{Every}
use Rattle.salt_model.specs.declared.events.Owner.{Owner}
use Rattle.salt_model.specs.declared.locks.Lock.{Lock}
use Rattle.std.proofs.Common.{ap, arith, refl, subst, sym, ◌∙◌}
use Rattle.std.proofs.lemmas.Bool.{ltb-true}
use Rattle.std.proofs.lemmas.Bool.Decides.{nat_tests}
use Rattle.std.proofs.lemmas.List.{drop_all, drop_more}
use Rattle.std.proofs.lemmas.List.Edits.{get_or-remove_above, get_or-remove_below, length-remove}
use Rattle.std.specs.List.{filter, remove}
use Rattle.std.specs.Prelude.{Bool, List, [], cond, drop, false, get_or, length, nat_lt, not, suc, true, zero, ℕ, ◌+◌, ◌-◌, ◌<◌, ◌∷◌, ◌≡◌, ◌≤◌}

every_removed : {X : Type 0} (P : X → Type 0) (xs : List X) (k : ℕ) → Every P xs → Every P (remove xs k)
every_removed P [] zero all = all
every_removed P [] (suc k) all = all
every_removed P (x ∷ xs) zero all = all.1
every_removed P (x ∷ xs) (suc k) all = (all.0, every_removed P xs k all.1)

pub order_removed : (ls : List Lock) (k : ℕ) → AreInOrder ls → AreInOrder (remove ls k)
order_removed [] zero o = o
order_removed [] (suc k) o = o
order_removed (l ∷ ls) zero o = o.1
order_removed (l ∷ ls) (suc k) o = (every_removed (NoLater l) ls k o.0, order_removed ls k o.1)

-- where an element stood before one was taken out
abbrev stood : ℕ → ℕ → ℕ
stood k j = cond (nat_lt j k) j (j + 1)

no_less : (a b : ℕ) → nat_lt a b ≡ false → b ≤ a
no_less a b e = grind (arith, nat_tests)

from_removed : {X : Type 0} (xs : List X) (k j : ℕ) (d : X) → k < length xs → get_or (remove xs k) j d ≡ get_or xs (stood k j) d
from_removed {X} xs k j d h = by (nat_lt j k) refl
  where
    by : (b : Bool) → nat_lt j k ≡ b → get_or (remove xs k) j d ≡ get_or xs (cond b j (j + 1)) d
    by true e = get_or-remove_below xs k d j (ltb-true j k e) h
    by false e = get_or-remove_above xs k d j (no_less j k e) h

stood_less : (k i j : ℕ) → i < j → stood k i < stood k j
stood_less k i j h = by (nat_lt i k) refl (nat_lt j k) refl
  where
    by : (a : Bool) → nat_lt i k ≡ a → (b : Bool) → nat_lt j k ≡ b → cond a i (i + 1) < cond b j (j + 1)
    by true e true f = h
    by true e false f = omega (arith, h)
    by false e true f = let a = no_less i k e in let b = ltb-true j k f in absurd (omega (arith, h, a, b))
    by false e false f = omega (arith, h)

stood_under : (k j n : ℕ) → j + 1 < n → stood k j < n
stood_under k j n h = by (nat_lt j k)
  where
    by : (b : Bool) → cond b j (j + 1) < n
    by true = omega (arith, h)
    by false = h

pub marked_removed : (cs : List Bool) (ls : List Lock) (k : ℕ) → k < length ls → IsMarked cs ls → IsMarked (remove cs k) (remove ls k)
marked_removed cs ls k h marked =
    let same = marked.0 in
    let c = length-remove cs k (omega (arith, h, same)) in
    let l = length-remove ls k h in (
      omega (arith, same, c, l),
      λ i j d b p q e. ap (λ x. ends_by x (get_or (remove ls k) j d)) (from_removed ls k i d h)
          ∙ (ap (ends_by (get_or ls (stood k i) d)) (from_removed ls k j d h)
          ∙ marked.1 (stood k i) (stood k j) d b (stood_less k i j p) (stood_under k j (length ls) (omega (arith, q, l))) (sym (from_removed cs k j b (omega (arith, h, same))) ∙ e)),
    )

numbered_removed : (ns : List ℕ) (ls : List Lock) (k : ℕ) → length ns ≡ length ls → numbered (remove ns k) (remove ls k) ≡ remove (numbered ns ls) k
numbered_removed [] [] zero e = refl
numbered_removed [] [] (suc k) e = refl
numbered_removed [] (l ∷ ls) k e = absurd (omega (arith, e))
numbered_removed (n ∷ ns) [] k e = absurd (omega (arith, e))
numbered_removed (n ∷ ns) (l ∷ ls) zero e = refl
numbered_removed (n ∷ ns) (l ∷ ls) (suc k) e = ap (λ xs. record { number = n; lock = l } ∷ xs) (numbered_removed ns ls k (omega (arith, e)))

filter_removed : {X : Type 0} (p : X → Bool) (xs : List X) (k : ℕ) (d : X) → k < length xs → p (get_or xs k d) ≡ false → filter p (remove xs k) ≡ filter p xs
filter_removed p [] k d h e = absurd (omega (arith, h))
filter_removed p (x ∷ xs) zero d h e = rw e refl
filter_removed {X} p (x ∷ xs) (suc k) d h e = by (filter_removed p xs k d (omega (arith, h)) e) (p x) refl
  where
    by : filter p (remove xs k) ≡ filter p xs → (b : Bool) → p x ≡ b → filter p (x ∷ remove xs k) ≡ filter p (x ∷ xs)
    by ih true f = rw f (ap (λ l. x ∷ l) ih)
    by ih false f = rw f ih

drop_removed : {X : Type 0} (xs : List X) (k : ℕ) → k < length xs → drop k (remove xs k) ≡ drop (suc k) xs
drop_removed [] k h = absurd (omega (arith, h))
drop_removed (x ∷ xs) zero h = refl
drop_removed (x ∷ xs) (suc k) h = drop_removed xs k (omega (arith, h))

numbered_length : (ns : List ℕ) (ls : List Lock) → length ns ≡ length ls → length (numbered ns ls) ≡ length ls
numbered_length [] [] e = refl
numbered_length [] (l ∷ ls) e = absurd (omega (arith, e))
numbered_length (n ∷ ns) [] e = absurd (omega (arith, e))
numbered_length (n ∷ ns) (l ∷ ls) e = ap suc (numbered_length ns ls (omega (arith, e)))

lock_at : (ns : List ℕ) (ls : List Lock) (k : ℕ) (m : Numbered) → length ns ≡ length ls → k < length ls → (get_or (numbered ns ls) k m).lock ≡ get_or ls k m.lock
lock_at [] ls k m e h = absurd (omega (arith, e, h))
lock_at (n ∷ ns) [] k m e h = absurd (omega (arith, h))
lock_at (n ∷ ns) (l ∷ ls) zero m e h = refl
lock_at (n ∷ ns) (l ∷ ls) (suc k) m e h = lock_at ns ls k m (omega (arith, e)) (omega (arith, h))

-- the last locks are all of others
abbrev pub AreOthers : Owner → ℕ → List Numbered → Type 0
AreOthers o left table = filter (is_of_another o) (drop left table) ≡ drop left table

step_back : (left : ℕ) → 0 < left → suc (left - 1) ≡ left
step_back left h = omega (arith, h)

pub own_gone : (o : Owner) (ns new_ns : List ℕ) (ls new_ls : List Lock) (left : ℕ) (l : Lock) → length ns ≡ length ls → 0 < left → left ≤ length ls →
    new_ns ≡ remove ns (left - 1) → new_ls ≡ remove ls (left - 1) → l ≡ get_or ls (left - 1) l → is_owned_by o l ≡ true → AreOthers o left (numbered ns ls) →
    (filter (is_of_another o) (numbered new_ns new_ls) ≡ filter (is_of_another o) (numbered ns ls)) × AreOthers o (left - 1) (numbered new_ns new_ls)
own_gone o ns new_ns ls new_ls left l same some under n_is l_is is own others =
    let k = left - 1 in
    let table = numbered ns ls in
    let len = numbered_length ns ls same in
    let new : numbered new_ns new_ls ≡ remove table k = ap (λ xs. numbered xs new_ls) n_is ∙ (ap (numbered (remove ns k)) l_is ∙ numbered_removed ns ls k same) in
    let rest : drop k (remove table k) ≡ drop left table = drop_removed table k (omega (arith, some, under, len)) ∙ ap (λ i. drop i table) (step_back left some) in
    let m : Numbered = record { number = 0; lock = l } in
    let mine : is_of_another o (get_or table k m) ≡ false = ap (is_left (is_owned_by o)) (lock_at ns ls k m same (omega (arith, some, under)) ∙ sym is) ∙ ap not own in (
      ap (filter (is_of_another o)) new ∙ filter_removed (is_of_another o) table k m (omega (arith, some, under, len)) mine,
      subst (λ xs. filter (is_of_another o) (drop k xs) ≡ drop k xs) (sym new) (subst (λ xs. filter (is_of_another o) xs ≡ xs) (sym rest) others),
    )

-- one of the owner's locks goes
pub own_out : (o : Owner) (ns new_ns : List ℕ) (ls new_ls : List Lock) (left : ℕ) (l : Lock) → length ns ≡ length ls → 0 < left → left ≤ length ls →
    new_ns ≡ remove ns (left - 1) → new_ls ≡ remove ls (left - 1) → l ≡ get_or ls (left - 1) l → is_owned_by o l ≡ true →
    filter (is_of_another o) (numbered new_ns new_ls) ≡ filter (is_of_another o) (numbered ns ls)
own_out o ns new_ns ls new_ls left l same some under n_is l_is is own =
    let k = left - 1 in
    let table = numbered ns ls in
    let len = numbered_length ns ls same in
    let new : numbered new_ns new_ls ≡ remove table k = ap (λ xs. numbered xs new_ls) n_is ∙ (ap (numbered (remove ns k)) l_is ∙ numbered_removed ns ls k same) in
    let m : Numbered = record { number = 0; lock = l } in
    let mine : is_of_another o (get_or table k m) ≡ false = ap (is_left (is_owned_by o)) (lock_at ns ls k m same (omega (arith, some, under)) ∙ sym is) ∙ ap not own in
    ap (filter (is_of_another o)) new ∙ filter_removed (is_of_another o) table k m (omega (arith, some, under, len)) mine

filter_one : {X : Type 0} (p : X → Bool) (x : X) (xs : List X) → p x ≡ true → filter p xs ≡ xs → filter p (x ∷ xs) ≡ x ∷ xs
filter_one p x xs e h = rw e (ap (λ l. x ∷ l) h)

pub other_stays : (o : Owner) (ns : List ℕ) (ls : List Lock) (left : ℕ) (l : Lock) → length ns ≡ length ls → 0 < left → left ≤ length ls →
    l ≡ get_or ls (left - 1) l → is_owned_by o l ≡ false → AreOthers o left (numbered ns ls) → AreOthers o (left - 1) (numbered ns ls)
other_stays o ns ls left l same some under is other others =
    let k = left - 1 in
    let table = numbered ns ls in
    let len = numbered_length ns ls same in
    let m : Numbered = record { number = 0; lock = l } in
    let back : left - 1 + 1 ≡ left = omega (arith, some) in
    let parts : drop k table ≡ get_or table k m ∷ drop left table = drop_more table k m (omega (arith, some, under, len)) ∙ ap (λ i. get_or table k m ∷ drop i table) back in
    let kept : is_of_another o (get_or table k m) ≡ true = ap (is_left (is_owned_by o)) (lock_at ns ls k m same (omega (arith, some, under)) ∙ sym is) ∙ ap not other in
    subst (λ xs. filter (is_of_another o) xs ≡ xs) (sym parts) (filter_one (is_of_another o) (get_or table k m) (drop left table) kept others)

-- at first no lock is looked at
pub none_seen : (o : Owner) (ns : List ℕ) (ls : List Lock) (left : ℕ) → left ≡ length ls → length ns ≡ length ls → AreOthers o left (numbered ns ls)
none_seen o ns ls left e same =
    let len = numbered_length ns ls same in
    subst (λ xs. filter (is_of_another o) xs ≡ xs) (sym (drop_all left (numbered ns ls) (omega (arith, e, len)))) refl
