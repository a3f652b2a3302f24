-- Locks and numbers beside them, and what becomes of both.
use Rattle.law_states.specs.KeptLocks.{Numbered, is_owned_by}
use Rattle.salt_locks.proofs.Orders.{every_map, no_later-chain, no_later-other}
use Rattle.salt_locks.specs.Leaving.{is_leaving}
use Rattle.salt_locks.specs.Places.{AreInOrder, NoLater, is_low_at_most, is_no_later, is_up_to}
use Rattle.salt_locks.specs.Tables.{locks_in, numbered, numbers_in, put, salted, salted_lock}
use Rattle.salt_locks.specs.declared.leaving.Leaving.{Leaving}
use Rattle.salt_model.specs.Words.{Every}
use Rattle.salt_model.specs.declared.events.Owner.{Owner}
use Rattle.salt_model.specs.declared.locks.Lock.{Lock}
use Rattle.salt_values.specs.declared.id.Id.{Id}
use Rattle.std.proofs.Common.{ap, arith, refl, subst, sym, ◌∙◌}
use Rattle.std.specs.List.{filter, insert, prefix_len}
use Rattle.std.specs.Prelude.{Bool, List, [], false, if◌then◌else◌, length, map, not, suc, true, zero, ℕ, ◌+◌, ◌∷◌, ◌≡◌}

pub locks_beside : (ns : List ℕ) (ls : List Lock) → length ns ≡ length ls → locks_in (numbered ns ls) ≡ ls
locks_beside [] [] e = refl
locks_beside [] (l ∷ ls) e = absurd (omega (arith, e))
locks_beside (n ∷ ns) [] e = absurd (omega (arith, e))
locks_beside (n ∷ ns) (l ∷ ls) e = ap (λ xs. l ∷ xs) (locks_beside ns ls (omega (arith, e)))

pub numbers_beside : (ns : List ℕ) (ls : List Lock) → length ns ≡ length ls → numbers_in (numbered ns ls) ≡ ns
numbers_beside [] ls e = refl
numbers_beside (n ∷ ns) [] e = absurd (omega (arith, e))
numbers_beside (n ∷ ns) (l ∷ ls) e = ap (λ xs. n ∷ xs) (numbers_beside ns ls (omega (arith, e)))

pub salted_beside : (u b : Id) (ns : List ℕ) (ls : List Lock) → numbered ns (map (salted_lock u b) ls) ≡ map (salted u b) (numbered ns ls)
salted_beside u b [] ls = refl
salted_beside u b (n ∷ ns) [] = refl
salted_beside u b (n ∷ ns) (l ∷ ls) = ap (λ xs. salted u b (record { number = n; lock = l }) ∷ xs) (salted_beside u b ns ls)

-- a lock of one of those that go
abbrev pub goes : Leaving → Lock → Bool
goes leaving l = is_leaving leaving l.owner

-- what is left where some locks go
abbrev pub is_left : (Lock → Bool) → Lock → Bool
is_left out l = not (out l)

abbrev pub left_of : (Lock → Bool) → List ℕ → List Lock → List Numbered
left_of out ns ls = filter (λ n. is_left out n.lock) (numbered ns ls)

abbrev pub numbers_left : (Lock → Bool) → List ℕ → List Lock → List ℕ
numbers_left out ns ls = map (λ n. n.number) (left_of out ns ls)

pub left_beside : (out : Lock → Bool) (ns : List ℕ) (ls : List Lock) → numbered (numbers_left out ns ls) (filter (is_left out) ls) ≡ left_of out ns ls
left_beside out [] ls = refl
left_beside out (n ∷ ns) [] = refl
left_beside out (n ∷ ns) (l ∷ ls) = by (left_beside out ns ls) (out l) refl
  where
    by : numbered (numbers_left out ns ls) (filter (is_left out) ls) ≡ left_of out ns ls → (b : Bool) → out l ≡ b → numbered (numbers_left out (n ∷ ns) (l ∷ ls)) (filter (is_left out) (l ∷ ls)) ≡ left_of out (n ∷ ns) (l ∷ ls)
    by ih true e = rw e ih
    by ih false e = rw e (ap (λ xs. record { number = n; lock = l } ∷ xs) ih)

pub left_length : (out : Lock → Bool) (ns : List ℕ) (ls : List Lock) → length ns ≡ length ls → length (numbers_left out ns ls) ≡ length (filter (is_left out) ls)
left_length out [] [] e = refl
left_length out [] (l ∷ ls) e = absurd (omega (arith, e))
left_length out (n ∷ ns) [] e = absurd (omega (arith, e))
left_length out (n ∷ ns) (l ∷ ls) e = by (left_length out ns ls (omega (arith, e))) (out l) refl
  where
    by : length (numbers_left out ns ls) ≡ length (filter (is_left out) ls) → (b : Bool) → out l ≡ b → length (numbers_left out (n ∷ ns) (l ∷ ls)) ≡ length (filter (is_left out) (l ∷ ls))
    by ih true h = rw h ih
    by ih false h = rw h (ap suc ih)

every_filter : {X : Type 0} (P : X → Type 0) (p : X → Bool) (xs : List X) → Every P xs → Every P (filter p xs)
every_filter P p [] all = all
every_filter {X} P p (x ∷ xs) all = by (every_filter P p xs all.1) (p x) refl
  where
    by : Every P (filter p xs) → (b : Bool) → p x ≡ b → Every P (filter p (x ∷ xs))
    by rest true e = rw e (all.0, rest)
    by rest false e = rw e rest

pub order_left : (p : Lock → Bool) (ls : List Lock) → AreInOrder ls → AreInOrder (filter p ls)
order_left p [] o = o
order_left p (l ∷ ls) o = by (order_left p ls o.1) (p l) refl
  where
    by : AreInOrder (filter p ls) → (b : Bool) → p l ≡ b → AreInOrder (filter p (l ∷ ls))
    by rest true e = rw e (every_filter (NoLater l) p ls o.0, rest)
    by rest false e = rw e rest

salted_place : (u b : Id) (l m : Lock) → is_no_later (salted_lock u b l) (salted_lock u b m) ≡ is_no_later l m
salted_place u b l m = by (is_owned_by (Owner.Unit u) l) (is_owned_by (Owner.Unit u) m) refl refl
  where
    by : (x y : Bool) → is_owned_by (Owner.Unit u) l ≡ x → is_owned_by (Owner.Unit u) m ≡ y → is_no_later (salted_lock u b l) (salted_lock u b m) ≡ is_no_later l m
    by true true e f = rw (e, f) refl
    by true false e f = rw (e, f) refl
    by false true e f = rw (e, f) refl
    by false false e f = rw (e, f) refl

every_salted : (u b : Id) (l : Lock) (ls : List Lock) → Every (NoLater l) ls → Every (NoLater (salted_lock u b l)) (map (salted_lock u b) ls)
every_salted u b l [] all = all
every_salted u b l (m ∷ ms) all = (salted_place u b l m ∙ all.0, every_salted u b l ms all.1)

pub order_salted : (u b : Id) (ls : List Lock) → AreInOrder ls → AreInOrder (map (salted_lock u b) ls)
order_salted u b [] o = o
order_salted u b (l ∷ ls) o = (every_salted u b l ls o.0, order_salted u b ls o.1)

-- a lock in its place
abbrev pub place_of : Lock → List Lock → ℕ
place_of l ls = prefix_len (is_up_to l.table (λ lo. is_low_at_most lo l.range.lo)) ls

abbrev pub put_lock : Lock → List Lock → List Lock
put_lock l [] = l ∷ []
put_lock l (m ∷ ms) = if is_no_later m l then m ∷ put_lock l ms else l ∷ m ∷ ms

pub one_more : (n : ℕ) → 1 + n ≡ suc n
one_more n = omega arith

pub in_place : (l : Lock) (ls : List Lock) → insert ls (place_of l ls) l ≡ put_lock l ls
in_place l [] = refl
in_place l (m ∷ ms) = by (in_place l ms) (is_no_later m l) refl
  where
    by : insert ms (place_of l ms) l ≡ put_lock l ms → (b : Bool) → is_no_later m l ≡ b → insert (m ∷ ms) (place_of l (m ∷ ms)) l ≡ put_lock l (m ∷ ms)
    by ih true e = rw e (ap (λ k. insert (m ∷ ms) k l) (one_more (place_of l ms)) ∙ ap (λ xs. m ∷ xs) ih)
    by ih false e = rw e refl

pub put_beside : (n : ℕ) (l : Lock) (ns : List ℕ) (ls : List Lock) → length ns ≡ length ls →
    numbered (insert ns (place_of l ls) n) (insert ls (place_of l ls) l) ≡ put (record { number = n; lock = l }) (numbered ns ls)
put_beside n l [] [] e = refl
put_beside n l [] (m ∷ ms) e = absurd (omega (arith, e))
put_beside n l (k ∷ ks) [] e = absurd (omega (arith, e))
put_beside n l (k ∷ ks) (m ∷ ms) e = by (put_beside n l ks ms (omega (arith, e))) (is_no_later m l) refl
  where
    by : numbered (insert ks (place_of l ms) n) (insert ms (place_of l ms) l) ≡ put (record { number = n; lock = l }) (numbered ks ms) → (b : Bool) → is_no_later m l ≡ b → numbered (insert (k ∷ ks) (place_of l (m ∷ ms)) n) (insert (m ∷ ms) (place_of l (m ∷ ms)) l) ≡ put (record { number = n; lock = l }) (numbered (k ∷ ks) (m ∷ ms))
    by ih true h = rw h (ap (λ at. numbered (insert (k ∷ ks) at n) (insert (m ∷ ms) at l)) (one_more (place_of l ms)) ∙ ap (λ xs. record { number = k; lock = m } ∷ xs) ih)
    by ih false h = rw h refl

every_put : (P : Lock → Type 0) (l : Lock) (ms : List Lock) → P l → Every P ms → Every P (put_lock l ms)
every_put P l [] h all = (h, all)
every_put P l (m ∷ ms) h all = by (every_put P l ms h all.1) (is_no_later m l) refl
  where
    by : Every P (put_lock l ms) → (b : Bool) → is_no_later m l ≡ b → Every P (put_lock l (m ∷ ms))
    by rest true e = rw e (all.0, rest)
    by rest false e = rw e (h, all)

order_lock : (l : Lock) (ms : List Lock) → AreInOrder ms → AreInOrder (put_lock l ms)
order_lock l [] o = (o, o)
order_lock l (m ∷ ms) o = by (order_lock l ms o.1) (is_no_later m l) refl
  where
    by : AreInOrder (put_lock l ms) → (b : Bool) → is_no_later m l ≡ b → AreInOrder (put_lock l (m ∷ ms))
    by rest true e = rw e (every_put (NoLater m) l ms e o.0, rest)
    by rest false e =
        let before = no_later-other m l e in
        rw e ((before, every_map ms (λ x h. no_later-chain l m x before h) o.0), o)

pub order_put : (l : Lock) (ls : List Lock) → AreInOrder ls → AreInOrder (insert ls (place_of l ls) l)
order_put l ls o = subst AreInOrder (sym (in_place l ls)) (order_lock l ls o)

insert_length : {X : Type 0} (xs : List X) (i : ℕ) (x : X) → length (insert xs i x) ≡ suc (length xs)
insert_length [] zero x = refl
insert_length [] (suc i) x = refl
insert_length (y ∷ ys) zero x = refl
insert_length (y ∷ ys) (suc i) x = ap suc (insert_length ys i x)

-- what stands beside each other after both were put in one place
pub put_invariant : (ns new_ns : List ℕ) (ls new_ls : List Lock) (place n : ℕ) (l : Lock) → (length ns ≡ length ls) × AreInOrder ls → place ≡ place_of l ls →
    new_ns ≡ insert ns place n → new_ls ≡ insert ls place l → (length new_ns ≡ length new_ls) × AreInOrder new_ls
put_invariant ns new_ns ls new_ls place n l inv is e f = (
  ap length e ∙ (insert_length ns place n ∙ (ap suc inv.0 ∙ (sym (insert_length ls place l) ∙ sym (ap length f)))),
  subst AreInOrder (sym (f ∙ ap (λ k. insert ls k l) is)) (order_put l ls inv.1),
)

pub put_view : (ns new_ns : List ℕ) (ls new_ls : List Lock) (place n : ℕ) (l : Lock) → (length ns ≡ length ls) × AreInOrder ls → place ≡ place_of l ls →
    new_ns ≡ insert ns place n → new_ls ≡ insert ls place l → numbered new_ns new_ls ≡ put (record { number = n; lock = l }) (numbered ns ls)
put_view ns new_ns ls new_ls place n l inv is e f =
    ap (λ xs. numbered xs new_ls) (e ∙ ap (λ k. insert ns k n) is) ∙ (ap (numbered (insert ns (place_of l ls) n)) (f ∙ ap (λ k. insert ls k l) is) ∙ put_beside n l ns ls inv.0)

map_length : {X Y : Type 0} (f : X → Y) (xs : List X) → length (map f xs) ≡ length xs
map_length f [] = refl
map_length f (x ∷ xs) = ap suc (map_length f xs)

pub salted_invariant : (u b : Id) (ns : List ℕ) (ls new_ls : List Lock) → (length ns ≡ length ls) × AreInOrder ls → new_ls ≡ map (salted_lock u b) ls → (length ns ≡ length new_ls) × AreInOrder new_ls
salted_invariant u b ns ls new_ls inv f = (inv.0 ∙ (sym (map_length (salted_lock u b) ls) ∙ sym (ap length f)), subst AreInOrder (sym f) (order_salted u b ls inv.1))

pub left_invariant : (out : Lock → Bool) (ns new_ns : List ℕ) (ls new_ls : List Lock) → (length ns ≡ length ls) × AreInOrder ls → new_ns ≡ numbers_left out ns ls → new_ls ≡ filter (is_left out) ls →
    (length new_ns ≡ length new_ls) × AreInOrder new_ls
left_invariant out ns new_ns ls new_ls inv e f = (ap length e ∙ (left_length out ns ls inv.0 ∙ sym (ap length f)), subst AreInOrder (sym f) (order_left (is_left out) ls inv.1))

pub left_view : (out : Lock → Bool) (ns new_ns : List ℕ) (ls new_ls : List Lock) → new_ns ≡ numbers_left out ns ls → new_ls ≡ filter (is_left out) ls →
    numbered new_ns new_ls ≡ left_of out ns ls
left_view out ns new_ns ls new_ls e f = ap (λ xs. numbered xs new_ls) e ∙ (ap (numbered (numbers_left out ns ls)) f ∙ left_beside out ns ls)
