-- The same of lists of items.
use Rattle.std.proofs.Common.{◌≡◌, ℕ, suc, zero, ◌-◌, Bool, true, false, ◌||◌, leb, List, [], ◌∷◌, length, Option, Some, None, refl, sym}
use Rattle.std.proofs.Common.{ap, ◌∙◌, arith}
use Rattle.std.proofs.lemmas.Bool.Decides.{nat_tests}
use Rattle.std.specs.List.{list_any}
use Rattle.salt_ast.specs.Limits.{passed_in_list}
use Rattle.salt_ast.specs.Words.{first_in}
use Rattle.std.specs.Bool.{then_some}
use Rattle.std.specs.Option.{option_or}
use Rattle.salt_ast.specs.declared.limit.LimitName.{LimitName}
use Rattle.salt_parse.specs.Flags.{Flags, clear, note}
use Rattle.salt_parse.specs.Lists.{comma, counted, counted_at, following_at, listed_at, with_front}
use Rattle.salt_parse.specs.Reading.{Read, Reader, after}
use Rattle.salt_parse.proofs.Mirror.{Agree, Agrees, AgreesAll, AreKept, Marks, after_printable, agrees_bind, agrees_either}
use Rattle.salt_parse.specs.Settling.{ArePrintable}
use Rattle.salt_parse.proofs.Mirror.{clear_before, note_note, noted, option_or_none, or_false}
use Rattle.salt_parse.proofs.StatementTrees.{ahead, following_of, listed_of}
use Rattle.salt_parse.proofs.Trees.{TreeReader}
use Rattle.salt_ast.specs.Scanning.{◌>>=◌}
use Rattle.salt_ast.specs.Symbols.{Symbols, Symbol, sign}
use Rattle.salt_ast.specs.declared.sign.Sign.TheVariants as mark

pub note_none : (f : Flags) → note f None false ≡ f
note_none f = λ i. record { over = option_or_none f.over i; deep = or_false f.deep i }

pub done : {A : Type 0} (m : Marks A) (f : Flags) (x a : A) (g : Flags) (us : Symbols) → g ≡ noted m f a → (clear g ≡ true → x ≡ a) →
    ArePrintable us → Agree m AreKept f (x, g, us) (a, us)
done m f x a g us e i p = record { left = refl; flags = e; is = i; printable = p }

-- the marks of a list, from its first item's number on
abbrev passed_from : {A : Type 0} → (ℕ → Marks A) → ℕ → List A → Option LimitName
passed_from m n [] = None
passed_from m n (x ∷ xs) = option_or ((m n).passed x) (passed_from m (suc n) xs)

abbrev high_from : {A : Type 0} → (ℕ → Marks A) → ℕ → List A → Bool
high_from m n [] = false
high_from m n (x ∷ xs) = (m n).high x || high_from m (suc n) xs

abbrev pub from_marks : {A : Type 0} → (ℕ → Marks A) → ℕ → Marks (List A)
from_marks m n = record { passed = passed_from m n; high = high_from m n }

-- what stands behind a separator is printable too
abbrev pub Keeps : (Symbols → Option Symbols) → Type 0
Keeps separator = (ts us : Symbols) → ArePrintable ts → separator ts ≡ Some us → ArePrintable us

module _ {A : Type 0} (separator : Symbols → Option Symbols) (keeps : Keeps separator) (m : ℕ → Marks A) (item : ℕ → Reader A) (find : TreeReader A)
    (c : (n : ℕ) → AgreesAll (m n) AreKept (item n) find) where
  empty : (n : ℕ) (f : Flags) (ts : Symbols) → ArePrintable ts → Agree (from_marks m n) AreKept f ([], f, ts) ([], ts)
  empty n f ts p = done (from_marks m n) f [] [] f ts (sym (note_none f)) (λ c. refl) p

  pub following_agrees : (n room : ℕ) → AgreesAll (from_marks m n) AreKept (following_at separator item n room) (following_of separator find room)
  unfolding following_at following_of
  following_agrees n zero f ts p =
      agrees_either (from_marks m n) AreKept f (separator ts) (Some ([], f, ts)) (Some ([], ts)) (λ us. None) (λ us. None) (λ us e. keeps ts us p e)
      (empty n f ts p) (λ us pu. tt)
  following_agrees n (suc room) f ts p =
      agrees_either (from_marks m n) AreKept f (separator ts) (Some ([], f, ts)) (Some ([], ts))
      (λ us. item n f us >>= λ x. with_front (x.0 ∷ []) (following_at separator item (suc n) room x.1 x.2))
      (λ us. find us >>= λ x. ahead (x.0 ∷ []) (following_of separator find room x.1)) (λ us e. keeps ts us p e) (empty n f ts p)
      (λ us pu.
      agrees_bind (m n) AreKept (from_marks m n) AreKept f f (item n f us) (find us)
      (λ x. with_front (x.0 ∷ []) (following_at separator item (suc n) room x.1 x.2))
      (λ x. ahead (x.0 ∷ []) (following_of separator find room x.1)) (c n f us pu)
      (λ x a vs i pv.
      agrees_bind (from_marks m (suc n)) AreKept (from_marks m n) AreKept f (noted (m n) f a)
      (following_at separator item (suc n) room (noted (m n) f a) vs) (following_of separator find room vs) (λ y. Some (x ∷ y.0, y.1, y.2))
      (λ y. Some (a ∷ y.0, y.1)) (following_agrees (suc n) room (noted (m n) f a) vs pv)
      (λ y b ws j pw. done (from_marks m n) f (x ∷ y) (a ∷ b) (noted (from_marks m (suc n)) (noted (m n) f a) b) ws
      (note_note f ((m n).passed a) (passed_from m (suc n) b) ((m n).high a) (high_from m (suc n) b))
      (λ c2. (let c1 : clear (noted (m n) f a) ≡ true = clear_before (noted (m n) f a) (passed_from m (suc n) b)
      (high_from m (suc n) b) c2 in let e0 : x ≡ a = i c1 in let e1 : y ≡ b = j c2 in λ t. e0 t ∷ e1 t)) pw)))

  -- a first item and further ones
  pub items_agree : AgreesAll (from_marks m 0) AreKept (listed_at separator item) (listed_of separator find)
  items_agree f ts p =
      agrees_bind (m 0) AreKept (from_marks m 0) AreKept f f (item 0 f ts) (find ts)
      (λ x. with_front (x.0 ∷ []) (following_at separator item 1 (length x.2) x.1 x.2))
      (λ x. ahead (x.0 ∷ []) (following_of separator find (length x.1) x.1)) (c 0 f ts p)
      (λ x a us i pu.
      agrees_bind (from_marks m 1) AreKept (from_marks m 0) AreKept f (noted (m 0) f a)
      (following_at separator item 1 (length us) (noted (m 0) f a) us) (following_of separator find (length us) us) (λ y. Some (x ∷ y.0, y.1, y.2))
      (λ y. Some (a ∷ y.0, y.1)) (following_agrees 1 (length us) (noted (m 0) f a) us pu)
      (λ y b ws j pw. done (from_marks m 0) f (x ∷ y) (a ∷ b) (noted (from_marks m 1) (noted (m 0) f a) b) ws
      (note_note f ((m 0).passed a) (passed_from m 1 b) ((m 0).high a) (high_from m 1 b))
      (λ c2. (let c1 : clear (noted (m 0) f a) ≡ true = clear_before (noted (m 0) f a) (passed_from m 1 b)
      (high_from m 1 b) c2 in let e0 : x ≡ a = i c1 in let e1 : y ≡ b = j c2 in λ t. e0 t ∷ e1 t)) pw))

-- the same under other marks
pub agrees_named : {A : Type 0} (m n : Marks A) (f : Flags) (r : Option (Read A)) (q : Option (A × Symbols)) → ((a : A) → noted m f a ≡ noted n f a) →
    Agrees m AreKept f r q → Agrees n AreKept f r q
agrees_named m n f None None e h = tt
agrees_named m n f None (Some y) e h = h
agrees_named m n f (Some x) None e h = h
agrees_named m n f (Some x) (Some y) e h = record { left = h.left; flags = h.flags ∙ e y.0; is = h.is; printable = h.printable }

pub after_keeps : (t : Symbol) → Keeps (after t)
after_keeps t ts us p e = after_printable t ts us p e

-- ---- plain lists

abbrev pub list_marks : {A : Type 0} → Marks A → Marks (List A)
list_marks m = record { passed = first_in m.passed; high = list_any m.high }

plain_passed : {A : Type 0} (m : Marks A) (n : ℕ) (xs : List A) → passed_from (λ k. m) n xs ≡ first_in m.passed xs
plain_passed m n [] = refl
plain_passed m n (x ∷ xs) = ap (λ (o : Option LimitName). option_or (m.passed x) o) (plain_passed m (suc n) xs)

plain_high : {A : Type 0} (m : Marks A) (n : ℕ) (xs : List A) → high_from (λ k. m) n xs ≡ list_any m.high xs
plain_high m n [] = refl
plain_high m n (x ∷ xs) = ap (λ (b : Bool). m.high x || b) (plain_high m (suc n) xs)

pub commas_agree : {A : Type 0} (m : Marks A) (item : Reader A) (find : TreeReader A) → AgreesAll m AreKept item find →
    AgreesAll (list_marks m) AreKept (listed_at comma (λ n. item)) (listed_of comma find)
commas_agree m item find c f ts p =
    agrees_named (from_marks (λ n. m) 0) (list_marks m) f (listed_at comma (λ n. item) f ts) (listed_of comma find ts)
    (λ b t. note f (plain_passed m 0 b t) (plain_high m 0 b t)) (items_agree comma (after_keeps (sign mark.Comma)) (λ n. m) (λ n. item) find (λ n. c) f ts p)

-- ---- counted lists

-- the marks of an item behind so many others, where there may be `most` in all
abbrev pub counted_marks : {A : Type 0} → ℕ → LimitName → Marks A → ℕ → Marks A
counted_marks most l m n = record { passed = λ x. option_or (then_some (leb most n) l) (m.passed x); high = m.high }

-- the flags are noted before the item
pub agrees_counted : {A : Type 0} (most : ℕ) (l : LimitName) (m : Marks A) (n : ℕ) (f : Flags) (r : Option (Read A)) (q : Option (A × Symbols)) →
    Agrees m AreKept (counted most l n f) r q → Agrees (counted_marks most l m n) AreKept f r q
agrees_counted most l m n f None None h = tt
agrees_counted most l m n f None (Some y) h = h
agrees_counted most l m n f (Some x) None h = h
agrees_counted most l m n f (Some x) (Some y) h =
    record { left = h.left; flags = h.flags ∙ note_note f (then_some (leb most n) l) (m.passed y.0) false (m.high y.0); is = h.is; printable = h.printable }

pub counted_agrees : {A : Type 0} (most : ℕ) (l : LimitName) (m : Marks A) (item : Reader A) (find : TreeReader A) → AgreesAll m AreKept item find →
    (n : ℕ) → AgreesAll (counted_marks most l m n) AreKept (counted_at most l item n) find
counted_agrees most l m item find c n f ts p = agrees_counted most l m n f (item (counted most l n f) ts) (find ts) (c (counted most l n f) ts p)

counted_high : {A : Type 0} (most : ℕ) (l : LimitName) (m : Marks A) (n : ℕ) (xs : List A) → high_from (counted_marks most l m) n xs ≡ list_any m.high xs
counted_high most l m n [] = refl
counted_high most l m n (x ∷ xs) = ap (λ (b : Bool). m.high x || b) (counted_high most l m (suc n) xs)

counted_passed : {A : Type 0} (most : ℕ) (l : LimitName) (m : Marks A) (n room : ℕ) (xs : List A) → room ≡ most - n →
    passed_from (counted_marks most l m) n xs ≡ passed_in_list room l m.passed xs
counted_passed most l m n room [] e = refl
counted_passed {A} most l m n zero (x ∷ xs) e =
    let full : leb most n ≡ true = grind (arith, nat_tests) in
    rw full refl
counted_passed {A} most l m n (suc room) (x ∷ xs) e =
    let less : leb most n ≡ false = grind (arith, nat_tests) in
    let ih = counted_passed most l m (suc n) room xs (omega arith) in
    rw less (ap (λ (o : Option LimitName). option_or (m.passed x) o) ih)

-- the marks of a list of at most so many items
abbrev pub counted_list : {A : Type 0} → ℕ → LimitName → Marks A → Marks (List A)
counted_list most l m = record { passed = passed_in_list most l m.passed; high = list_any m.high }

-- of further items, where there may be `room` of them, and so many stand before them
pub counted_note : {A : Type 0} (most : ℕ) (l : LimitName) (m : Marks A) (n room : ℕ) → room ≡ most - n → (f : Flags) (xs : List A) →
    noted (from_marks (counted_marks most l m) n) f xs ≡ note f (passed_in_list room l m.passed xs) (list_any m.high xs)
counted_note most l m n room e f xs = λ t. note f (counted_passed most l m n room xs e t) (counted_high most l m n xs t)

-- a list whose items are counted
pub counted_items_agree : {A : Type 0} (t : Symbol) (most : ℕ) (l : LimitName) (m : Marks A) (item : Reader A) (find : TreeReader A) →
    AgreesAll m AreKept item find → AgreesAll (counted_list most l m) AreKept (listed_at (after t) (counted_at most l item)) (listed_of (after t) find)
counted_items_agree t most l m item find c f ts p =
    agrees_named (from_marks (counted_marks most l m) 0) (counted_list most l m) f (listed_at (after t) (counted_at most l item) f ts)
    (listed_of (after t) find ts) (counted_note most l m 0 most (omega arith) f)
    (items_agree (after t) (after_keeps t) (counted_marks most l m) (counted_at most l item) find (counted_agrees most l m item find c) f ts p)
