-- An owner's locks by their numbers ascend, and are all that it holds.
use Rattle.law_states.proofs.Ascending.{every-in}
use Rattle.law_states.proofs.KeptTable.{keeps-shown}
use Rattle.law_states.specs.KeptLocks.{KeepsLocks, Numbered, Sooner, is_owned_by}
use Rattle.law_states.specs.Members.{Ascends, In}
use Rattle.law_story.proofs.Lists.{either, in-filter, into-filter}
use Rattle.salt_locks.specs.Tables.{numbered}
use Rattle.salt_locks.specs.Turns.{at_numbers, in_turn, is_of, locks_in_turn, put_in_turn}
use Rattle.salt_model.specs.Words.{Every}
use Rattle.salt_model.specs.declared.events.Owner.{Owner}
use Rattle.salt_model.specs.declared.locks.Lock.{Lock}
use Rattle.std.proofs.Common.{ap, arith, inl, inr, refl, subst, sym, ◌∙◌}
use Rattle.std.proofs.lemmas.Bool.{eqb-true, ltb-true}
use Rattle.std.proofs.lemmas.Bool.Decides.{nat_tests}
use Rattle.std.specs.BTreeMap.{insert_entry, is_at}
use Rattle.std.specs.List.{filter}
use Rattle.std.specs.Map.{lookup}
use Rattle.std.specs.Ordering.{is_eq, match_ordering, nat_cmp}
use Rattle.std.specs.Prelude.{Bool, List, Some, [], cond, drop, false, get_or, is_some, length, map, nat_lt, suc, true, zero, ℕ, ◌-◌, ◌<◌, ◌==◌, ◌∷◌, ◌≡◌, ◌≤◌}
use Rattle.std.specs.declared.cmp.Ordering.{Ordering}
use Rattle.std.specs.declared.cmp.Ordering.TheVariants.{Equal, Greater, Less}

abbrev put : Numbered → List Numbered → List Numbered
put n ns = put_in_turn (λ m. m.number) n ns

abbrev ordered : List Numbered → List Numbered
ordered ns = in_turn (λ m. m.number) ns

in-put : (n m : Numbered) (ns : List Numbered) → In n (put m ns) → In n (m ∷ ns)
in-put n m [] h = h
in-put n m (x ∷ xs) h = by (in-put n m xs) (nat_lt m.number x.number) (m.number == x.number) h
  where
    by : (In n (put m xs) → In n (m ∷ xs)) → (a b : Bool) → In n (cond a (m ∷ x ∷ xs) (cond b (x ∷ xs) (x ∷ put m xs))) → In n (m ∷ x ∷ xs)
    by more true b g = g
    by more false true g = inr g
    by more false false (inl e) = inr (inl e)
    by more false false (inr g) = either (λ e. inl e) (λ i. inr (inr i)) (more g)

-- where a number has one lock
abbrev IsNamed : Numbered → List Numbered → Type 0
IsNamed m ns = (x : Numbered) → In x ns → m.number ≡ x.number → m ≡ x

into-put : (n m : Numbered) (ns : List Numbered) → IsNamed m ns → In n (m ∷ ns) → In n (put m ns)
into-put n m [] one h = h
into-put n m (x ∷ xs) one h = by (into-put n m xs (λ y i. one y (inr i))) (nat_lt m.number x.number) (m.number == x.number) refl h
  where
    by : (In n (m ∷ xs) → In n (put m xs)) → (a b : Bool) → (m.number == x.number) ≡ b → In n (m ∷ x ∷ xs) → In n (cond a (m ∷ x ∷ xs) (cond b (x ∷ xs) (x ∷ put m xs)))
    by more true b e g = g
    by more false true e (inl s) = inl (sym (one x (inl refl) (eqb-true m.number x.number e)) ∙ s)
    by more false true e (inr g) = g
    by more false false e (inl s) = inr (more (inl s))
    by more false false e (inr (inl s)) = inl s
    by more false false e (inr (inr g)) = inr (more (inr g))

every-put : (m n : Numbered) (ns : List Numbered) → Sooner m n → Every (Sooner m) ns → Every (Sooner m) (put n ns)
every-put m n [] s all = (s, tt)
every-put m n (x ∷ xs) s all = by (every-put m n xs s all.1) (nat_lt n.number x.number) (n.number == x.number)
  where
    by : Every (Sooner m) (put n xs) → (a b : Bool) → Every (Sooner m) (cond a (n ∷ x ∷ xs) (cond b (x ∷ xs) (x ∷ put n xs)))
    by more true b = (s, all)
    by more false true = all
    by more false false = (all.0, more)

every-sooner : (m n : Numbered) (ns : List Numbered) → Sooner m n → Every (Sooner n) ns → Every (Sooner m) ns
every-sooner m n [] s all = tt
every-sooner m n (x ∷ xs) s all = let a = all.0 in (omega (arith, s, a), every-sooner m n xs s all.1)

later : (a b : ℕ) → nat_lt a b ≡ false → (a == b) ≡ false → b < a
later a b e f = grind (arith, nat_tests)

put-ascends : (n : Numbered) (ns : List Numbered) → Ascends Sooner ns → Ascends Sooner (put n ns)
put-ascends n [] h = (tt, tt)
put-ascends n (x ∷ xs) h = by (put-ascends n xs h.1) (nat_lt n.number x.number) refl (n.number == x.number) refl
  where
    by : Ascends Sooner (put n xs) → (a : Bool) → nat_lt n.number x.number ≡ a → (b : Bool) → (n.number == x.number) ≡ b →
        Ascends Sooner (cond a (n ∷ x ∷ xs) (cond b (x ∷ xs) (x ∷ put n xs)))
    by more true e b f = let s = ltb-true n.number x.number e in ((s, every-sooner n x xs s h.0), h)
    by more false e true f = h
    by more false e false f = (every-put x n xs (later n.number x.number e f) h.0, more)

in-turn-ascends : (ns : List Numbered) → Ascends Sooner (ordered ns)
in-turn-ascends [] = tt
in-turn-ascends (n ∷ ns) = put-ascends n (ordered ns) (in-turn-ascends ns)

in-turn : (n : Numbered) (ns : List Numbered) → In n (ordered ns) → In n ns
in-turn n [] h = h
in-turn n (m ∷ ms) h = either (λ e. inl e) (λ i. inr (in-turn n ms i)) (in-put n m (ordered ms) h)

abbrev AreNamed : List Numbered → Type 0
AreNamed ns = (m x : Numbered) → In m ns → In x ns → m.number ≡ x.number → m ≡ x

into-turn : (n : Numbered) (ns : List Numbered) → AreNamed ns → In n ns → In n (ordered ns)
into-turn n [] one h = h
into-turn n (m ∷ ms) one h = into-put n m (ordered ms) (λ x i. one m x (inl refl) (inr (in-turn x ms i)))
    (either (λ e. inl e) (λ i. inr (into-turn n ms (λ y z j k. one y z (inr j) (inr k)) i)) h)

-- of locks that ascend each number has one
ascending-named : (ns : List Numbered) → Ascends Sooner ns → AreNamed ns
ascending-named [] a m x i j e = absurd i
ascending-named (n ∷ ns) a m x (inl e) (inl f) g = sym e ∙ f
ascending-named (n ∷ ns) a m x (inl e) (inr j) g = let s = every-in (Sooner n) x ns a.0 j in let t = ap (λ (y : Numbered). y.number) e in absurd (omega (arith, s, t, g))
ascending-named (n ∷ ns) a m x (inr i) (inl f) g = let s = every-in (Sooner n) m ns a.0 i in let t = ap (λ (y : Numbered). y.number) f in absurd (omega (arith, s, t, g))
ascending-named (n ∷ ns) a m x (inr i) (inr j) g = ascending-named ns a.1 m x i j g

pub turns : (table : List Numbered) (ls : List Lock) (o : Owner) → KeepsLocks table ls → map (λ n. n.lock) (locks_in_turn o table) ≡ filter (is_owned_by o) ls
turns table ls o k =
    let mine = filter (is_of o) table in
    keeps-shown table (ordered mine) ls o k (in-turn-ascends mine) (λ n. (
      (λ i. in-filter (is_of o) n table (in-turn n mine i)),
      (λ h. into-turn n mine (λ m x i j. ascending-named k.in_turn k.rises m x ((k.same m).0 (in-filter (is_of o) m table i).0) ((k.same x).0 (in-filter (is_of o) x table j).0)) (into-filter (is_of o) n table h.0 h.1)),
    ))

-- locks at their numbers in a map

less-than : (m n : ℕ) → nat_cmp m n ≡ Less → nat_lt m n ≡ true
less-than m n h = grind (arith, nat_tests)

tied : (m n : ℕ) → nat_cmp m n ≡ Equal → m ≡ n
tied m n h = grind (arith, nat_tests)

more-than : (m n : ℕ) → nat_cmp m n ≡ Greater → (nat_lt m n ≡ false) × ((m == n) ≡ false)
more-than m n h = (grind (arith, nat_tests), grind (arith, nat_tests))

tied-itself : (m n : ℕ) → m ≡ n → (nat_lt m n ≡ false) × ((m == n) ≡ true)
tied-itself m n h = (grind (arith, nat_tests), grind (arith, nat_tests))

abbrev at : ℕ → Lock → Numbered
at k l = record { number = k; lock = l }

-- a lock whose number is not there comes before those of greater numbers
pub put-new : (k : ℕ) (l : Lock) (es : List (ℕ × Lock)) → is_some (lookup (is_at (nat_cmp k)) es) ≡ false → at_numbers (insert_entry nat_cmp es k l) ≡ put (at k l) (at_numbers es)
put-new k l [] h = refl
put-new k l (e ∷ es) h = by (nat_cmp k e.0) refl h (put-new k l es)
  where
    by : (o : Ordering) → nat_cmp k e.0 ≡ o → is_some (cond (is_eq o) (Some e.1) (lookup (is_at (nat_cmp k)) es)) ≡ false →
        (is_some (lookup (is_at (nat_cmp k)) es) ≡ false → at_numbers (insert_entry nat_cmp es k l) ≡ put (at k l) (at_numbers es)) →
        at_numbers (match_ordering o ((k, l) ∷ e ∷ es) ((e.0, l) ∷ es) (e ∷ insert_entry nat_cmp es k l)) ≡ put (at k l) (at_numbers (e ∷ es))
    by Less q g more = sym (ap (λ t. cond t (at k l ∷ at_numbers (e ∷ es)) (cond (k == e.0) (at_numbers (e ∷ es)) (at e.0 e.1 ∷ put (at k l) (at_numbers es)))) (less-than k e.0 q))
    by Equal q g more = cc
    by Greater q g more =
        let apart = more-than k e.0 q in
        ap (λ ns. at e.0 e.1 ∷ ns) (more g)
        ∙ sym (ap (λ t. cond t (at k l ∷ at_numbers (e ∷ es)) (cond (k == e.0) (at_numbers (e ∷ es)) (at e.0 e.1 ∷ put (at k l) (at_numbers es)))) apart.0
        ∙ ap (λ t. cond t (at_numbers (e ∷ es)) (at e.0 e.1 ∷ put (at k l) (at_numbers es))) apart.1)

found-in : (k : ℕ) (es : List (ℕ × Lock)) → is_some (lookup (is_at (nat_cmp k)) es) ≡ true → (l : Lock) × In (at k l) (at_numbers es)
found-in k [] h = cc
found-in k (e ∷ es) h = by (nat_cmp k e.0) refl h (found-in k es)
  where
    by : (o : Ordering) → nat_cmp k e.0 ≡ o → is_some (cond (is_eq o) (Some e.1) (lookup (is_at (nat_cmp k)) es)) ≡ true →
        (is_some (lookup (is_at (nat_cmp k)) es) ≡ true → (l : Lock) × In (at k l) (at_numbers es)) → (l : Lock) × In (at k l) (at_numbers (e ∷ es))
    by Less q g more = let m = more g in (m.0, inr m.1)
    by Equal q g more = (e.1, inl (ap (λ n. at n e.1) (sym (tied k e.0 q))))
    by Greater q g more = let m = more g in (m.0, inr m.1)

-- where the number is there, nothing is put
pub put-old : (k : ℕ) (l m : Lock) (ns : List Numbered) → Ascends Sooner ns → In (at k m) ns → put (at k l) ns ≡ ns
put-old k l m [] a i = absurd i
put-old k l m (n ∷ ns) a (inl e) =
    let same = tied-itself k n.number (sym (ap (λ (x : Numbered). x.number) e)) in
    ap (λ t. cond t (at k l ∷ n ∷ ns) (cond (k == n.number) (n ∷ ns) (n ∷ put (at k l) ns))) same.0 ∙ ap (λ t. cond t (n ∷ ns) (n ∷ put (at k l) ns)) same.1
put-old k l m (n ∷ ns) a (inr i) =
    let s : n.number < k = every-in (Sooner n) (at k m) ns a.0 i in
    let far = behind k n.number s in
    ap (λ t. cond t (at k l ∷ n ∷ ns) (cond (k == n.number) (n ∷ ns) (n ∷ put (at k l) ns))) far.0
    ∙ (ap (λ t. cond t (n ∷ ns) (n ∷ put (at k l) ns)) far.1 ∙ ap (λ x. n ∷ x) (put-old k l m ns a.1 i))
  where
    behind : (k n : ℕ) → n < k → (nat_lt k n ≡ false) × ((k == n) ≡ false)
    behind k n h = (grind (arith, nat_tests), grind (arith, nat_tests))

pub put-found : (k : ℕ) (l : Lock) (es : List (ℕ × Lock)) → Ascends Sooner (at_numbers es) → is_some (lookup (is_at (nat_cmp k)) es) ≡ true → at_numbers es ≡ put (at k l) (at_numbers es)
put-found k l es a h = let m = found-in k es h in sym (put-old k l m.0 (at_numbers es) a m.1)

numbered_at : (k : ℕ) (ns : List ℕ) (ls : List Lock) (n : ℕ) (l : Lock) → k < length ls → length ns ≡ length ls →
    numbered (drop k ns) (drop k ls) ≡ record { number = get_or ns k n; lock = get_or ls k l } ∷ numbered (drop (suc k) ns) (drop (suc k) ls)
numbered_at k [] ls n l h same = absurd (omega (arith, h, same))
numbered_at k (m ∷ ns) [] n l h same = absurd (omega (arith, h))
numbered_at zero (m ∷ ns) (x ∷ ls) n l h same = refl
numbered_at (suc k) (m ∷ ns) (x ∷ ls) n l h same = numbered_at k ns ls n l (omega (arith, h)) (omega (arith, same))

one_own : (o : Owner) (m : Numbered) (ms : List Numbered) → is_of o m ≡ true → locks_in_turn o (m ∷ ms) ≡ put m (locks_in_turn o ms)
one_own o m ms e = rw e refl

one_other : (o : Owner) (m : Numbered) (ms : List Numbered) → is_of o m ≡ false → locks_in_turn o (m ∷ ms) ≡ locks_in_turn o ms
one_other o m ms e = rw e refl

one_before : (o : Owner) (ns : List ℕ) (ls : List Lock) (left n : ℕ) (l : Lock) → 0 < left → left ≤ length ls → length ns ≡ length ls →
    locks_in_turn o (numbered (drop (left - 1) ns) (drop (left - 1) ls))
    ≡ locks_in_turn o (record { number = get_or ns (left - 1) n; lock = get_or ls (left - 1) l } ∷ numbered (drop left ns) (drop left ls))
one_before o ns ls left n l some h same =
    let back : suc (left - 1) ≡ left = omega (arith, some) in
    ap (locks_in_turn o) (numbered_at (left - 1) ns ls n l (omega (arith, some, h)) same)
    ∙ ap (λ k. locks_in_turn o (record { number = get_or ns (left - 1) n; lock = get_or ls (left - 1) l } ∷ numbered (drop k ns) (drop k ls))) back

-- what the loop keeps, where the lock is the owner's
pub owned_step : (o : Owner) (ns : List ℕ) (ls : List Lock) (left n : ℕ) (l : Lock) (old new : List Numbered) → 0 < left → left ≤ length ls → length ns ≡ length ls →
    l ≡ get_or ls (left - 1) l → is_owned_by o l ≡ true → old ≡ locks_in_turn o (numbered (drop left ns) (drop left ls)) →
    (Ascends Sooner old → new ≡ put (at (get_or ns (left - 1) n) l) old) →
    new ≡ locks_in_turn o (numbered (drop (left - 1) ns) (drop (left - 1) ls))
owned_step o ns ls left n l old new some h same here own before puts =
    let k = get_or ns (left - 1) n in
    let m : Numbered = record { number = k; lock = get_or ls (left - 1) l } in
    let rest = numbered (drop left ns) (drop left ls) in
    puts (subst (Ascends Sooner) (sym before) (in-turn-ascends (filter (is_of o) rest)))
    ∙ (ap (λ x. put (at k x) old) here
    ∙ (ap (put m) before ∙ (sym (one_own o m rest (ap (is_owned_by o) (sym here) ∙ own)) ∙ sym (one_before o ns ls left n l some h same))))

-- and where it is another's
pub other_step : (o : Owner) (ns : List ℕ) (ls : List Lock) (left : ℕ) (l : Lock) (old : List Numbered) → 0 < left → left ≤ length ls → length ns ≡ length ls →
    l ≡ get_or ls (left - 1) l → is_owned_by o l ≡ false → old ≡ locks_in_turn o (numbered (drop left ns) (drop left ls)) →
    old ≡ locks_in_turn o (numbered (drop (left - 1) ns) (drop (left - 1) ls))
other_step o ns ls left l old some h same here other before =
    let m : Numbered = record { number = get_or ns (left - 1) 0; lock = get_or ls (left - 1) l } in
    before ∙ (sym (one_other o m (numbered (drop left ns) (drop left ls)) (ap (is_owned_by o) (sym here) ∙ other)) ∙ sym (one_before o ns ls left 0 l some h same))
