-- The nodes of a unit's shares.
use Rattle.salt_commit.specs.Messages.{nodes_from, nodes_of}
use Rattle.salt_net.specs.Flags.{are_nodes, has_node}
use Rattle.salt_model.specs.Words.{is_empty}
use Rattle.salt_place.specs.declared.placement.Shape.{Shape}
use Rattle.salt_shares.specs.Shares.{has_changes, share_at}
use Rattle.salt_stands.specs.Pieces.{listed}
use Rattle.salt_stands.specs.Placed as placed
use Rattle.salt_stands.specs.Placed.{changes_at}
use Rattle.salt_values.specs.declared.change.Change.{Change}
use Rattle.std.proofs.Common.{Bool, IsTrue, List, [], ap, arith, false, get_or, length, refl, suc, sym, take, true, subst, zero, ℕ, ◌+◌, ◌++◌, ◌<◌, ◌↔◌, ◌≡◌, ◌≤◌, ◌∙◌, ◌∷◌}
use Rattle.std.proofs.lemmas.Bool.Decides.{nat_tests}
use Rattle.std.proofs.lemmas.Bool.{eqb-true}
use Rattle.std.proofs.lemmas.List.{length-take-le, take_more}
use Rattle.std.specs.Prelude.{if◌then◌else◌, nat_le, not, ◌&&◌, ◌==◌, ◌||◌}

-- with one share more
pub nodes_push : (p : ℕ) (ss : List (List Change)) (s : List Change) → nodes_from p (ss ++ s ∷ []) ≡ nodes_from p ss ++ (if has_changes s then suc (p + length ss) ∷ [] else [])
nodes_push p [] s = let e : p ≡ p + 0 = omega arith in ap (λ (k : ℕ). if has_changes s then suc k ∷ [] else []) e
nodes_push p (x ∷ ss) s =
    let e : suc p + length ss ≡ p + suc (length ss) = omega arith in
    by (has_changes x) (nodes_push (suc p) ss s ∙ ap (λ (k : ℕ). nodes_from (suc p) ss ++ (if has_changes s then suc k ∷ [] else [])) e)
  where
    by : (b : Bool) → nodes_from (suc p) (ss ++ s ∷ []) ≡ nodes_from (suc p) ss ++ (if has_changes s then suc (p + suc (length ss)) ∷ [] else [])
        → (if b then suc p ∷ nodes_from (suc p) (ss ++ s ∷ []) else nodes_from (suc p) (ss ++ s ∷ [])) ≡ (if b then suc p ∷ nodes_from (suc p) ss else nodes_from (suc p) ss) ++ (if has_changes s then suc (p + suc (length ss)) ∷ [] else [])
    by true h = ap (λ (l : List ℕ). suc p ∷ l) h
    by false h = h

-- a list is empty where its length is 0
pub changes_some : (cs : List Change) (b : Bool) → IsTrue b ↔ (cs ≡ []) → has_changes cs ≡ not b
changes_some [] b h = sym (ap not (h.1 refl))
changes_some (c ∷ cs) true h = absurd (let wrong : c ∷ cs ≡ [] = h.0 refl in cc)
changes_some (c ∷ cs) false h = refl

-- in a loop over the shares
pub nodes_next : (ss : List (List Change)) (n : ℕ) (s : List Change) (b : Bool) → n < length ss → s ≡ get_or ss n s → has_changes s ≡ b → (made now : List ℕ) → made ≡ nodes_of (take n ss) → now ≡ made ++ (if b then (n + 1) ∷ [] else []) → now ≡ nodes_of (take (n + 1) ss)
nodes_next ss n s b low read some made now so_far is =
    is ∙ (ap (λ (l : List ℕ). l ++ (if b then (n + 1) ∷ [] else [])) so_far ∙ sym (more ∙ (nodes_push 0 (take n ss) s ∙ (ap (λ (x : Bool). nodes_of (take n ss) ++ (if x then suc (0 + length (take n ss)) ∷ [] else [])) some ∙ ap (λ (k : ℕ). nodes_of (take n ss) ++ (if b then k ∷ [] else [])) same))))
  where
    more : nodes_of (take (n + 1) ss) ≡ nodes_of (take n ss ++ s ∷ [])
    more = ap nodes_of (take_more ss n s low ∙ ap (λ (x : List Change). take n ss ++ x ∷ []) (sym read))

    same : suc (0 + length (take n ss)) ≡ n + 1
    same = omega (arith, length-take-le n ss (omega (arith, low)))

-- each node is that of one of these partitions or of a later one
none_below : (p q : ℕ) (ss : List (List Change)) → q ≤ p → has_node q (nodes_from p ss) ≡ false
none_below p q [] low = refl
none_below p q (s ∷ ss) low = by (has_changes s) (none_below (suc p) q ss (omega (arith, low)))
  where
    by : (b : Bool) → has_node q (nodes_from (suc p) ss) ≡ false → has_node q (if b then suc p ∷ nodes_from (suc p) ss else nodes_from (suc p) ss) ≡ false
    by true h = let other : (suc p == q) ≡ false = grind (arith, nat_tests, low) in ap (λ (b : Bool). b || has_node q (nodes_from (suc p) ss)) other ∙ h
    by false h = h

pub may_be_nodes : (p : ℕ) (ss : List (List Change)) → p + length ss ≤ 8 → are_nodes (nodes_from p ss) ≡ true
may_be_nodes p [] few = refl
may_be_nodes p (s ∷ ss) few = by (has_changes s) (may_be_nodes (suc p) ss (omega (arith, few)))
  where
    by : (b : Bool) → are_nodes (nodes_from (suc p) ss) ≡ true → are_nodes (if b then suc p ∷ nodes_from (suc p) ss else nodes_from (suc p) ss) ≡ true
    by true h =
        let one : (nat_le 1 (suc p) && nat_le (suc p) 8) ≡ true = grind (arith, nat_tests, few) in
        let rest = nodes_from (suc p) ss in
        ap (λ (b : Bool). b && (not (has_node (suc p) rest) && are_nodes rest)) one ∙ ap (λ (b : Bool). not b && are_nodes rest) (none_below (suc p) (suc p) ss (omega arith)) ∙ h
    by false h = h

-- there are no more nodes than shares
pub nodes_few : (p : ℕ) (ss : List (List Change)) → length (nodes_from p ss) ≤ length ss
nodes_few p [] = omega arith
nodes_few p (s ∷ ss) = by (has_changes s) (nodes_few (suc p) ss)
  where
    by : (b : Bool) → length (nodes_from (suc p) ss) ≤ length ss → length (if b then suc p ∷ nodes_from (suc p) ss else nodes_from (suc p) ss) ≤ suc (length ss)
    by true h = omega (arith, h)
    by false h = omega (arith, h)

-- a share with changes has its node, and each node is that of a share
named_share : (q : ℕ) (ss : List (List Change)) (p : ℕ) → has_changes (share_at ss p) ≡ true → has_node (suc (q + p)) (nodes_from q ss) ≡ true
named_share q [] p some = absurd cc
named_share q (s ∷ ss) zero some = ap (λ (b : Bool). has_node (suc (q + 0)) (if b then suc q ∷ nodes_from (suc q) ss else nodes_from (suc q) ss)) some ∙ ap (λ (b : Bool). b || has_node (suc (q + 0)) (nodes_from (suc q) ss)) mine
  where
    mine : (suc q == suc (q + 0)) ≡ true
    mine = grind (arith, nat_tests)
named_share q (s ∷ ss) (suc p) some = by (has_changes s) (subst (λ (k : ℕ). has_node (suc k) (nodes_from (suc q) ss) ≡ true) (let same : suc q + p ≡ q + suc p = omega arith in same) (named_share (suc q) ss p some))
  where
    by : (b : Bool) → has_node (suc (q + suc p)) (nodes_from (suc q) ss) ≡ true → has_node (suc (q + suc p)) (if b then suc q ∷ nodes_from (suc q) ss else nodes_from (suc q) ss) ≡ true
    by true h = one (suc q == suc (q + suc p)) h
      where
        one : (b : Bool) → has_node (suc (q + suc p)) (nodes_from (suc q) ss) ≡ true → (b || has_node (suc (q + suc p)) (nodes_from (suc q) ss)) ≡ true
        one true k = refl
        one false k = k
    by false h = h

pub node_within : (q : ℕ) (ss : List (List Change)) (k : ℕ) → has_node k (nodes_from q ss) ≡ true → (q < k) × (k ≤ q + length ss)
node_within q [] k named = absurd cc
node_within q (s ∷ ss) k named = by (has_changes s) named (node_within (suc q) ss k)
  where
    later : (suc q < k) × (k ≤ suc q + length ss) → (q < k) × (k ≤ q + length (s ∷ ss))
    later h = (omega (arith, h.0), omega (arith, h.1))

    one : (b : Bool) → (suc q == k) ≡ b → (b || has_node k (nodes_from (suc q) ss)) ≡ true → (has_node k (nodes_from (suc q) ss) ≡ true → (suc q < k) × (k ≤ suc q + length ss)) → (q < k) × (k ≤ q + length (s ∷ ss))
    one true e h f = let same : suc q ≡ k = eqb-true (suc q) k e in (omega (arith, same), omega (arith, same))
    one false e h f = later (f h)

    by : (b : Bool) → has_node k (if b then suc q ∷ nodes_from (suc q) ss else nodes_from (suc q) ss) ≡ true → (has_node k (nodes_from (suc q) ss) ≡ true → (suc q < k) × (k ≤ suc q + length ss)) → (q < k) × (k ≤ q + length (s ∷ ss))
    by true h f = one (suc q == k) refl h f
    by false h f = later (f h)

share_named : (q : ℕ) (ss : List (List Change)) (p : ℕ) → has_node (suc (q + p)) (nodes_from q ss) ≡ true → has_changes (share_at ss p) ≡ true
share_named q [] p named = absurd cc
share_named q (s ∷ ss) zero named = by (has_changes s) refl named
  where
    by : (b : Bool) → has_changes s ≡ b → has_node (suc (q + 0)) (if b then suc q ∷ nodes_from (suc q) ss else nodes_from (suc q) ss) ≡ true → has_changes s ≡ true
    by true e h = e
    by false e h = absurd (omega (arith, (node_within (suc q) ss (suc (q + 0)) h).0))
share_named q (s ∷ ss) (suc p) named = by (has_changes s) named (λ h. share_named (suc q) ss p (subst (λ (k : ℕ). has_node (suc k) (nodes_from (suc q) ss) ≡ true) same h))
  where
    same : q + suc p ≡ suc q + p
    same = omega arith

    one : (b : Bool) → (suc q == suc (q + suc p)) ≡ b → (b || has_node (suc (q + suc p)) (nodes_from (suc q) ss)) ≡ true → (has_node (suc (q + suc p)) (nodes_from (suc q) ss) ≡ true → has_changes (share_at ss p) ≡ true)
        → has_changes (share_at ss p) ≡ true
    one true e k later = absurd (let wrong : suc q ≡ suc (q + suc p) = eqb-true (suc q) (suc (q + suc p)) e in omega (arith, wrong))
    one false e k later = later k

    by : (b : Bool) → has_node (suc (q + suc p)) (if b then suc q ∷ nodes_from (suc q) ss else nodes_from (suc q) ss) ≡ true → (has_node (suc (q + suc p)) (nodes_from (suc q) ss) ≡ true → has_changes (share_at ss p) ≡ true)
        → has_changes (share_at ss p) ≡ true
    by true h later = one (suc q == suc (q + suc p)) refl h later
    by false h later = later h

pub named_of : (ss : List (List Change)) (p : ℕ) → has_changes (share_at ss p) ≡ true → has_node (suc p) (nodes_of ss) ≡ true
named_of ss p some = let same : 0 + p ≡ p = omega arith in subst (λ (k : ℕ). has_node (suc k) (nodes_of ss) ≡ true) same (named_share 0 ss p some)

pub shared_of : (ss : List (List Change)) (p : ℕ) → has_node (suc p) (nodes_of ss) ≡ true → has_changes (share_at ss p) ≡ true
shared_of ss p named = let same : p ≡ 0 + p = omega arith in share_named 0 ss p (subst (λ (k : ℕ). has_node (suc k) (nodes_of ss) ≡ true) same named)

-- they are the nodes of the changes
pub nodes_are : (shape : Shape) (cs : List Change) (p n : ℕ) → nodes_from p (listed (λ q. changes_at shape q cs) p n) ≡ placed.nodes_from shape cs p n
nodes_are shape cs p zero = refl
nodes_are shape cs p (suc n) = by (changes_at shape p cs) (nodes_are shape cs (suc p) n)
  where
    by : (s : List Change) → nodes_from (suc p) (listed (λ q. changes_at shape q cs) (suc p) n) ≡ placed.nodes_from shape cs (suc p) n
        → (if has_changes s then suc p ∷ nodes_from (suc p) (listed (λ q. changes_at shape q cs) (suc p) n) else nodes_from (suc p) (listed (λ q. changes_at shape q cs) (suc p) n))
        ≡ (if is_empty s then placed.nodes_from shape cs (suc p) n else suc p ∷ placed.nodes_from shape cs (suc p) n)
    by [] h = h
    by (c ∷ s) h = ap (λ (l : List ℕ). suc p ∷ l) h
