-- Lists of items: what is found is spelled so, and what is spelled so is found.
use Rattle.std.proofs.Common.{◌≡◌, ℕ, suc, zero, List, [], ◌∷◌, ◌++◌, ◌≤◌, length, Option, Some, None, refl, sym, ap, subst, ◌∙◌, append_assoc, arith}
use Rattle.std.proofs.Common.{length-append}
use Rattle.salt_ast.specs.Statements as form
use Rattle.salt_ast.specs.Statements.{FollowingBy, ListedBy}
use Rattle.salt_parse.proofs.ExpressionLaws.{bind_is, either_is, some_is}
use Rattle.salt_parse.proofs.StatementTrees.{ahead, following_of, listed_of}
use Rattle.salt_parse.proofs.Trees.{TreeReader}
use Rattle.salt_ast.specs.Scanning.{◌>>=◌}
use Rattle.salt_ast.specs.Symbols.{Symbols, Symbol, sign}
use Rattle.salt_ast.specs.declared.sign.Sign.{Sign}

-- what is found is spelled by the symbols that were taken
abbrev pub SoundFor : {A : Type 0} → (Symbols → A → Type 0) → TreeReader A → Type 0
SoundFor {A} G find = (ts : Symbols) (x : A) (rest : Symbols) → find ts ≡ Some (x, rest) → (front : Symbols) × (ts ≡ front ++ rest) × G front x

-- what is spelled so is found, where `Follow` holds of what follows
abbrev pub CompleteFor : {A : Type 0} → (Symbols → Type 0) → (Symbols → A → Type 0) → TreeReader A → Type 0
CompleteFor {A} Follow G find = (ts rest : Symbols) (x : A) → G ts x → Follow rest → find (ts ++ rest) ≡ Some (x, rest)

-- the same under another name of what was found
pub renamed : {A : Type 0} (G : Symbols → A → Type 0) (ts front : Symbols) (x : A) (left : Symbols) (y : A) (rest : Symbols) →
    ◌≡◌ {A = Option (A × Symbols)} (Some (x, left)) (Some (y, rest)) → ts ≡ front ++ left → G front x → (f : Symbols) × (ts ≡ f ++ rest) × G f y
renamed {A} G ts front x left y rest h e g =
    let p = some_is (x, left) (y, rest) h in
    (front, e ∙ ap (λ (z : A × Symbols). front ++ z.1) p, subst (λ (z : A × Symbols). G front z.0) p g)

-- items, each behind a symbol
pub data FollowingOf (t : Symbol) {A : Type 0} (Item : Symbols → A → Type 0) : Symbols → List A → Type 0 where
  none_follow : FollowingOf t Item [] []
  one_follows : {a b : Symbols} {x : A} {xs : List A} → Item a x → FollowingOf t Item b xs → FollowingOf t Item (t ∷ (a ++ b)) (x ∷ xs)

-- an item, and further ones behind a symbol
pub data ListedOf (t : Symbol) {A : Type 0} (Item : Symbols → A → Type 0) : Symbols → List A → Type 0 where
  listed : {a b : Symbols} {x : A} {xs : List A} → Item a x → FollowingOf t Item b xs → ListedOf t Item (a ++ b) (x ∷ xs)

-- where the symbol is a sign, the grammar has its own forms
module _ {A : Type 0} {m : Sign} {G : Symbols → A → Type 0} where
  pub by_sign : {ts : Symbols} {xs : List A} → FollowingOf (sign m) G ts xs → FollowingBy m G ts xs
  by_sign none_follow = form.no_more
  by_sign (one_follows g d) = form.one_more g (by_sign d)

  pub of_sign : {ts : Symbols} {xs : List A} → FollowingBy m G ts xs → FollowingOf (sign m) G ts xs
  of_sign form.no_more = none_follow
  of_sign (form.one_more g d) = one_follows g (of_sign d)

  pub listed_by_sign : {ts : Symbols} {xs : List A} → ListedOf (sign m) G ts xs → ListedBy m G ts xs
  listed_by_sign (listed g d) = form.items g (by_sign d)

  pub listed_of_sign : {ts : Symbols} {xs : List A} → ListedBy m G ts xs → ListedOf (sign m) G ts xs
  listed_of_sign (form.items g d) = listed g (of_sign d)

-- ---- what is found is spelled so

module _ {A : Type 0} (t : Symbol) (separator : Symbols → Option Symbols) (separates : (ts us : Symbols) → separator ts ≡ Some us → ts ≡ t ∷ us)
    (G : Symbols → A → Type 0) (find : TreeReader A) (s : SoundFor G find) where
  pub following_sound : (room : ℕ) → SoundFor (FollowingOf t G) (following_of separator find room)
  unfolding following_of
  following_sound zero ts xs rest h =
      either_is (separator ts) (Some ([], ts)) (λ us. None) (xs, rest) _ h
      (λ none e. renamed (FollowingOf t G) ts [] [] ts xs rest e refl none_follow)
      (λ us some e. absurd cc)
  following_sound (suc room) ts xs rest h =
      either_is (separator ts) (Some ([], ts)) (λ us. find us >>= λ x. ahead (x.0 ∷ []) (following_of separator find room x.1)) (xs, rest) _ h
      (λ none e. renamed (FollowingOf t G) ts [] [] ts xs rest e refl none_follow)
      (λ us some e.
      bind_is (find us) (λ x. ahead (x.0 ∷ []) (following_of separator find room x.1)) (xs, rest) _ e (λ b b_is b_goes.
      bind_is (following_of separator find room b.1) (λ y. Some (b.0 ∷ y.0, y.1)) (xs, rest) _ b_goes (λ k k_is k_goes.
      let r = s us b.0 b.1 b_is in
      let q = following_sound room b.1 k.0 k.1 k_is in
      let is : us ≡ (r.0 ++ q.0) ++ k.1 = r.1 ∙ ap (λ (x : Symbols). r.0 ++ x) q.1 ∙ sym (append_assoc r.0 q.0 k.1) in
      renamed (FollowingOf t G) ts (t ∷ (r.0 ++ q.0)) (b.0 ∷ k.0) k.1 xs rest k_goes
      (separates ts us some ∙ ap (λ (x : Symbols). t ∷ x) is) (one_follows r.2 q.2))))

  pub listed_sound : SoundFor (ListedOf t G) (listed_of separator find)
  listed_sound ts xs rest h =
      bind_is (find ts) (λ x. ahead (x.0 ∷ []) (following_of separator find (length x.1) x.1)) (xs, rest) _ h (λ b b_is b_goes.
      bind_is (following_of separator find (length b.1) b.1) (λ y. Some (b.0 ∷ y.0, y.1)) (xs, rest) _ b_goes (λ k k_is k_goes.
      let r = s ts b.0 b.1 b_is in
      let q = following_sound (length b.1) b.1 k.0 k.1 k_is in
      renamed (ListedOf t G) ts (r.0 ++ q.0) (b.0 ∷ k.0) k.1 xs rest k_goes
      (r.1 ∙ ap (λ (x : Symbols). r.0 ++ x) q.1 ∙ sym (append_assoc r.0 q.0 k.1)) (listed r.2 q.2)))

-- ---- what is spelled so is found

following_few : {A : Type 0} {t : Symbol} {G : Symbols → A → Type 0} {ts : Symbols} {xs : List A} → FollowingOf t G ts xs → length xs ≤ length ts
following_few none_follow = omega arith
following_few (one_follows {a = u} {b = v} g d) = omega (arith, length-append u v, following_few d)

module _ {A : Type 0} (t : Symbol) (separator : Symbols → Option Symbols) (G : Symbols → A → Type 0) (find : TreeReader A) (Follow : Symbols → Type 0)
    (c : CompleteFor Follow G find) (goes : (us : Symbols) → Follow (t ∷ us))
    (opens : (u us : Symbols) (x : A) → G u x → separator (t ∷ (u ++ us)) ≡ Some (u ++ us)) where
  follows : {ts : Symbols} {xs : List A} (rest : Symbols) → FollowingOf t G ts xs → Follow rest → Follow (ts ++ rest)
  follows rest none_follow f = f
  follows rest (one_follows {a = u} {b = v} g d) f = goes ((u ++ v) ++ rest)

  following_fits : {ts : Symbols} {xs : List A} (room : ℕ) (rest : Symbols) → FollowingOf t G ts xs → Follow rest → separator rest ≡ None →
      length xs ≤ room → following_of separator find room (ts ++ rest) ≡ Some (xs, rest)
  unfolding following_of
  following_fits zero rest none_follow f a few = rw a refl
  following_fits (suc room) rest none_follow f a few = rw a refl
  following_fits zero rest (one_follows g d) f a few = absurd (omega arith)
  following_fits (suc room) rest (one_follows {a = u} {b = v} {x = x} {xs = xs} g d) f a few =
      let ih = following_fits {ts = v} {xs = xs} room rest d f a (omega arith) in
      rw (append_assoc u v rest, opens u (v ++ rest) x g, c u (v ++ rest) x g (follows rest d f), ih) refl

  pub following_complete : {ts : Symbols} {xs : List A} (rest : Symbols) → FollowingOf t G ts xs → Follow rest → separator rest ≡ None →
      following_of separator find (length (ts ++ rest)) (ts ++ rest) ≡ Some (xs, rest)
  following_complete {ts} {xs} rest d f a =
      let few : length xs ≤ length (ts ++ rest) = omega (arith, length-append ts rest, following_few d) in
      following_fits {ts = ts} {xs = xs} (length (ts ++ rest)) rest d f a few

  pub listed_complete : {ts : Symbols} {xs : List A} (rest : Symbols) → ListedOf t G ts xs → Follow rest → separator rest ≡ None →
      listed_of separator find (ts ++ rest) ≡ Some (xs, rest)
  listed_complete rest (listed {a = u} {b = v} {x = x} {xs = xs} g d) f a =
      let others = following_complete {ts = v} {xs = xs} rest d f a in
      rw (append_assoc u v rest, c u (v ++ rest) x g (follows rest d f), others) refl
