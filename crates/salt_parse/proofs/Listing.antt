-- Items and what separates them one after the other, as a loop takes them.
use Rattle.std.proofs.Common.{◌≡◌, ℕ, zero, suc, ◌<◌, ◌≤◌, Bool, true, false, cond, List, [], ◌∷◌, ◌++◌, length, Option, Some, None, refl, sym, ap}
use Rattle.std.proofs.Common.{◌∙◌, arith, append_assoc, length-append}
use Rattle.std.proofs.lemmas.List.{append-nil}
use Rattle.salt_parse.specs.Answers.{Fails}
use Rattle.salt_ast.specs.declared.trees.Expr.{Expr}
use Rattle.salt_ast.specs.declared.trees.Field.{Field}
use Rattle.salt_parse.specs.Flags.{BuiltTree, Flags}
use Rattle.salt_parse.specs.Lists.{comma, following_at, listed_at, with_front}
use Rattle.salt_parse.specs.Parsing.{Parsing}
use Rattle.salt_parse.specs.Reading.{Read, Reader, after, either, is_same}
use Rattle.salt_parse.specs.TableReading.{check_at, checks_at, field_at, field_comma, fields_at, further_column_at}
use Rattle.salt_parse.specs.declared.error.ParseErr.{ParseErr}
use Rattle.salt_parse.specs.declared.error.ParseErr.TheVariants.{Limit, Memory, Syntax}
use Rattle.salt_ast.specs.Scanning.{◌>>=◌}
use Rattle.salt_ast.specs.Symbols.{Symbols, Symbol, key, sign}
use Rattle.salt_ast.specs.declared.keyword.Keyword.TheVariants as word
use Rattle.salt_ast.specs.declared.sign.Sign.TheVariants as mark

-- what stands behind a separator is shorter
abbrev pub Shortens : (Symbols → Option Symbols) → Type 0
Shortens separator = (ts us : Symbols) → separator ts ≡ Some us → length us < length ts

pub after_shortens : (t : Symbol) → Shortens (after t)
unfolding after
after_shortens t [] us h = absurd cc
after_shortens t (u ∷ ts) us h = go (is_same u t) h
  where
    go : (b : Bool) → cond b (Some ts) None ≡ Some us → length us < suc (length ts)
    go true k = let same : ts ≡ us = cc k in omega (arith, ap length same)
    go false k = absurd cc

-- what was read, with what is still to be read, makes the whole
pub record IsListing {A : Type 0} (separator : Symbols → Option Symbols) (item : ℕ → Reader A) (front : List A) (p : Parsing)
    (total : Option (Read (List A))) : Type 0 where
  pub room : ℕ
  pub enough : length p.left ≤ room
  pub so_far : with_front front (following_at separator item (length front) room p.flags p.left) ≡ total

module _ {A : Type 0} (separator : Symbols → Option Symbols) (item : ℕ → Reader A) (short : Shortens separator) where
  regroup : (front : List A) (x : A) (r : Option (Read (List A))) → with_front front (with_front (x ∷ []) r) ≡ with_front (front ++ x ∷ []) r
  regroup front x None = refl
  regroup front x (Some y) = ap (λ (z : List A). Some (z, y.1, y.2)) (sym (append_assoc front (x ∷ []) y.0))

  stops : (front : List A) (count room : ℕ) (f : Flags) (ts : Symbols) → separator ts ≡ None →
      with_front front (following_at separator item count room f ts) ≡ Some (front ++ [], f, ts)
  unfolding following_at
  stops front count zero f ts a = rw a refl
  stops front count (suc room) f ts a = rw a refl

  pub IsListing-ends : (front : List A) (p : Parsing) (total : Option (Read (List A))) → IsListing separator item front p total →
      separator p.left ≡ None → total ≡ Some (front, p.flags, p.left)
  IsListing-ends front p total h a =
      sym h.so_far ∙ stops front (length front) h.room p.flags p.left a ∙ ap (λ (z : List A). Some (z, p.flags, p.left)) (append-nil front)

  -- there is room for what a separator comes before
  has_room : (ts us : Symbols) (room : ℕ) → length ts ≤ room → separator ts ≡ Some us → (next : ℕ) × (room ≡ suc next)
  has_room ts us zero enough a = absurd (omega (arith, short ts us a))
  has_room ts us (suc next) enough a = (next, refl)

  step : (front : List A) (count next : ℕ) (f g : Flags) (ts us vs : Symbols) (x : A) → separator ts ≡ Some us → item count f us ≡ Some (x, g, vs) →
      with_front front (following_at separator item count (suc next) f ts) ≡ with_front (front ++ x ∷ []) (following_at separator item (suc count) next g vs)
  unfolding following_at
  step front count next f g ts us vs x a r =
      let one : following_at separator item count (suc next) f ts ≡ with_front (x ∷ []) (following_at separator item (suc count) next g vs) = rw (a, r) refl in
      ap (with_front front) one ∙ regroup front x (following_at separator item (suc count) next g vs)

  -- the item stands behind as many others as `count` says, and the separator changes no flags
  pub IsListing-goes_on : (front : List A) (count : ℕ) (p q r : Parsing) (x : A) (total : Option (Read (List A))) → count ≡ length front →
      IsListing separator item front p total → separator p.left ≡ Some q.left → q.flags ≡ p.flags →
      item count q.flags q.left ≡ Some (x, r.flags, r.left) → length r.left < length q.left → IsListing separator item (front ++ x ∷ []) r total
  IsListing-goes_on front count p q r x total is h a same read shorter =
      let k = has_room p.left q.left h.room h.enough a in
      let less = short p.left q.left a in
      let enough : length r.left ≤ k.0 = omega (arith, k.1, h.enough) in
      let more : length (front ++ x ∷ []) ≡ suc (length front) = omega (arith, length-append front (x ∷ [])) in
      let one : item (length front) p.flags q.left ≡ Some (x, r.flags, r.left) = rw (← is, ← same) read in
      record {
        room = k.0;
        enough = enough;
        so_far = ap (λ (n : ℕ). with_front (front ++ x ∷ []) (following_at separator item n k.0 r.flags r.left)) more
            ∙ sym (step front (length front) k.0 p.flags r.flags p.left q.left r.left x a one)
            ∙ ap (λ (n : ℕ). with_front front (following_at separator item (length front) n p.flags p.left)) (sym k.1) ∙ h.so_far;
      }

  fails : (front : List A) (count next : ℕ) (f : Flags) (ts us : Symbols) → separator ts ≡ Some us → item count f us ≡ None →
      with_front front (following_at separator item count (suc next) f ts) ≡ None
  unfolding following_at
  fails front count next f ts us a r = rw (a, r) refl

  pub IsListing-fails : (front : List A) (count : ℕ) (p q : Parsing) (err : ParseErr) (total : Option (Read (List A))) → count ≡ length front →
      IsListing separator item front p total → separator p.left ≡ Some q.left → q.flags ≡ p.flags → Fails err (item count q.flags q.left) → Fails err total
  IsListing-fails front count p q Memory total is h a same read = tt
  IsListing-fails front count p q (Limit l) total is h a same read = read
  IsListing-fails front count p q Syntax total is h a same read =
      let k = has_room p.left q.left h.room h.enough a in
      let none : item (length front) p.flags q.left ≡ None = rw (← is, ← same) read in
      sym h.so_far ∙ ap (λ (n : ℕ). with_front front (following_at separator item (length front) n p.flags p.left)) k.1
      ∙ fails front (length front) k.0 p.flags p.left q.left a none

pub IsListing-starts : {A : Type 0} (separator : Symbols → Option Symbols) (item : ℕ → Reader A) (p q : Parsing) (x : A) →
    item 0 p.flags p.left ≡ Some (x, q.flags, q.left) → IsListing separator item (x ∷ []) q (listed_at separator item p.flags p.left)
IsListing-starts separator item p q x h = record { room = length q.left; enough = omega arith; so_far = rw h refl }

pub comma_shortens : Shortens comma
comma_shortens = after_shortens (sign mark.Comma)

-- ---- of tables

pub field_comma_shortens : Shortens field_comma
field_comma_shortens ts us h = go (comma ts) refl h
  where
    go : (o : Option Symbols) → comma ts ≡ o → (o >>= λ vs. either (after (key word.Check) vs) (Some vs) (λ ws. None)) ≡ Some us → length us < length ts
    go None e k = absurd cc
    go (Some vs) e k = go2 (after (key word.Check) vs) k
      where
        go2 : (o : Option Symbols) → either o (Some vs) (λ ws. None) ≡ Some us → length us < length ts
        go2 None k = let same : vs ≡ us = cc k in let less = comma_shortens ts vs e in omega (arith, ap length same)
        go2 (Some ws) k = absurd cc

pub fields_start : (p q r : Parsing) (x : Field) → field_at p.flags p.left ≡ Some (x, q.flags, q.left) → after (key word.Key) q.left ≡ Some r.left →
    r.flags ≡ q.flags → IsListing field_comma further_column_at (x ∷ []) r (fields_at p.flags p.left)
fields_start p q r x h a same = record { room = length r.left; enough = omega arith; so_far = rw (h, a, same) refl }

pub checks_start : (inner : Reader BuiltTree) (p : Parsing) → IsListing comma (check_at inner) [] p (checks_at inner p.flags p.left)
checks_start inner p = record { room = length p.left; enough = omega arith; so_far = go (following_at comma (check_at inner) 0 (length p.left) p.flags p.left) }
  where
    go : (r : Option (Read (List Expr))) → with_front [] r ≡ r
    go None = refl
    go (Some x) = refl
