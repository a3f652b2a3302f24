-- Readers one behind the other: what is found is spelled so, what is spelled so is found, and what is passed is noted.
use Rattle.std.proofs.Common.{◌≡◌, false, true, [], ◌∷◌, ◌++◌, ◌||◌, Some, None, refl, sym, ap, ◌∙◌, append_assoc}
use denote.Enum.Bare.{true_same}
use Rattle.std.specs.Option.{option_or}
use Rattle.salt_parse.specs.Combining.{before_at, behind_at, both_at, choice_at, made_at, nothing_at}
use Rattle.salt_parse.specs.Flags.{Flags, clear}
use Rattle.salt_parse.specs.Reading.{Reader, after, either}
use Rattle.salt_parse.proofs.ExpressionLaws.{bind_is, either_is}
use Rattle.salt_parse.proofs.ListLaws.{CompleteFor, SoundFor, renamed}
use Rattle.salt_parse.proofs.Loop.{after_is}
use Rattle.salt_parse.proofs.Mirror.{AgreesAll, AreKept, Marks, after_printable, agrees_after, agrees_bind, agrees_either, clear_before}
use Rattle.salt_parse.proofs.Mirror.{note_note, noted}
use Rattle.salt_parse.proofs.MirrorLists.{done, note_none}
use Rattle.salt_parse.proofs.Trees.{TreeReader}
use Rattle.salt_ast.specs.Scanning.{◌>>=◌}
use Rattle.salt_ast.specs.Symbols.{Symbols, Symbol, key, sign}
use Rattle.salt_ast.specs.contracts.keyword.Keyword.{the_type as keywords}
use Rattle.salt_ast.specs.contracts.sign.Sign.{the_type as signs}
use Rattle.salt_ast.specs.declared.keyword.Keyword.{Keyword}
use Rattle.salt_ast.specs.declared.sign.Sign.{Sign}

-- ---- what is found

abbrev pub nothing_of : {A : Type 0} → A → TreeReader A
nothing_of x ts = Some (x, ts)

abbrev pub behind_of : {A : Type 0} → Symbol → TreeReader A → TreeReader A
behind_of t find ts = after t ts >>= λ us. find us

abbrev pub before_of : {A : Type 0} → TreeReader A → Symbol → TreeReader A
before_of find t ts = find ts >>= λ x. after t x.1 >>= λ us. Some (x.0, us)

abbrev pub both_of : {A B : Type 0} → TreeReader A → TreeReader B → TreeReader (A × B)
both_of find next ts = find ts >>= λ x. next x.1 >>= λ y. Some ((x.0, y.0), y.1)

abbrev pub made_of : {A B : Type 0} → (A → B) → TreeReader A → TreeReader B
made_of form find ts = find ts >>= λ x. Some (form x.0, x.1)

abbrev pub choice_of : {A : Type 0} → Symbol → TreeReader A → TreeReader A → TreeReader A
choice_of t find other ts = either (after t ts) (other ts) find

-- ---- forms

pub data Nothing {A : Type 0} (x : A) : Symbols → A → Type 0 where
  nothing : Nothing x [] x

pub data Behind (t : Symbol) {A : Type 0} (G : Symbols → A → Type 0) : Symbols → A → Type 0 where
  behind : {ts : Symbols} {x : A} → G ts x → Behind t G (t ∷ ts) x

pub data Before {A : Type 0} (G : Symbols → A → Type 0) (t : Symbol) : Symbols → A → Type 0 where
  before : {ts : Symbols} {x : A} → G ts x → Before G t (ts ++ t ∷ []) x

pub data Both {A B : Type 0} (G : Symbols → A → Type 0) (H : Symbols → B → Type 0) : Symbols → A × B → Type 0 where
  both : {a b : Symbols} {x : A} {y : B} → G a x → H b y → Both G H (a ++ b) (x, y)

pub data Made {A B : Type 0} (form : A → B) (G : Symbols → A → Type 0) : Symbols → B → Type 0 where
  made : {ts : Symbols} {x : A} → G ts x → Made form G ts (form x)

pub data Choice {A : Type 0} (G H : Symbols → A → Type 0) : Symbols → A → Type 0 where
  first : {ts : Symbols} {x : A} → G ts x → Choice G H ts x
  other : {ts : Symbols} {x : A} → H ts x → Choice G H ts x

-- ---- what is found is spelled so

pub nothing_sound : {A : Type 0} (x : A) → SoundFor (Nothing x) (nothing_of x)
nothing_sound x ts y rest h = renamed (Nothing x) ts [] x ts y rest h refl nothing

module _ {A : Type 0} (G : Symbols → A → Type 0) (find : TreeReader A) (s : SoundFor G find) where
  pub behind_sound : (t : Symbol) → SoundFor (Behind t G) (behind_of t find)
  behind_sound t ts x rest h =
      bind_is (after t ts) (λ us. find us) (x, rest) _ h (λ b b_is b_goes.
      let r = s b x rest b_goes in
      (t ∷ r.0, after_is t ts b b_is ∙ ap (λ (z : Symbols). t ∷ z) r.1, behind r.2))

  pub before_sound : (t : Symbol) → SoundFor (Before G t) (before_of find t)
  before_sound t ts x rest h =
      bind_is (find ts) (λ y. after t y.1 >>= λ us. Some (y.0, us)) (x, rest) _ h (λ b b_is b_goes.
      bind_is (after t b.1) (λ us. Some (b.0, us)) (x, rest) _ b_goes (λ c c_is c_goes.
      let r = s ts b.0 b.1 b_is in
      let whole : ts ≡ (r.0 ++ t ∷ []) ++ c = r.1 ∙ ap (λ (z : Symbols). r.0 ++ z) (after_is t b.1 c c_is) ∙ sym (append_assoc r.0 (t ∷ []) c) in
      renamed (Before G t) ts (r.0 ++ t ∷ []) b.0 c x rest c_goes whole (before r.2)))

  pub made_sound : {B : Type 0} (form : A → B) → SoundFor (Made form G) (made_of form find)
  made_sound form ts y rest h =
      bind_is (find ts) (λ x. Some (form x.0, x.1)) (y, rest) _ h (λ b b_is b_goes.
      let r = s ts b.0 b.1 b_is in
      renamed (Made form G) ts r.0 (form b.0) b.1 y rest b_goes r.1 (made r.2))

module _ {A B : Type 0} (G : Symbols → A → Type 0) (H : Symbols → B → Type 0) (find : TreeReader A) (next : TreeReader B) (s : SoundFor G find)
    (n : SoundFor H next) where
  pub both_sound : SoundFor (Both G H) (both_of find next)
  both_sound ts x rest h =
      bind_is (find ts) (λ y. next y.1 >>= λ z. Some ((y.0, z.0), z.1)) (x, rest) _ h (λ b b_is b_goes.
      bind_is (next b.1) (λ z. Some ((b.0, z.0), z.1)) (x, rest) _ b_goes (λ c c_is c_goes.
      let r = s ts b.0 b.1 b_is in
      let q = n b.1 c.0 c.1 c_is in
      let whole : ts ≡ (r.0 ++ q.0) ++ c.1 = r.1 ∙ ap (λ (z : Symbols). r.0 ++ z) q.1 ∙ sym (append_assoc r.0 q.0 c.1) in
      renamed (Both G H) ts (r.0 ++ q.0) (b.0, c.0) c.1 x rest c_goes whole (both r.2 q.2)))

module _ {A : Type 0} (t : Symbol) (G H : Symbols → A → Type 0) (find next : TreeReader A) (s : SoundFor G find) (n : SoundFor H next) where
  pub choice_sound : SoundFor (Choice (Behind t G) H) (choice_of t find next)
  choice_sound ts x rest h =
      either_is (after t ts) (next ts) find (x, rest) _ h
      (λ none e. let r = n ts x rest e in (r.0, r.1, other r.2))
      (λ us some e.
      let r = s us x rest e in
      (t ∷ r.0, after_is t ts us some ∙ ap (λ (z : Symbols). t ∷ z) r.1, first (behind r.2)))

-- the same under another form
pub sound_as : {A : Type 0} (G H : Symbols → A → Type 0) (find : TreeReader A) → ((ts : Symbols) (x : A) → G ts x → H ts x) → SoundFor G find →
    SoundFor H find
sound_as G H find to s ts x rest h = let r = s ts x rest h in (r.0, r.1, to r.0 x r.2)

-- ---- what is spelled so is found

-- a keyword or a sign, which is itself
abbrev pub Opens : Symbol → Type 0
Opens t = (us : Symbols) → after t (t ∷ us) ≡ Some us

pub key_opens : (k : Keyword) → Opens (key k)
unfolding after
key_opens k us = rw (true_same keywords k k refl) refl

pub sign_opens : (s : Sign) → Opens (sign s)
unfolding after
sign_opens s us = rw (true_same signs s s refl) refl

pub nothing_complete : {A : Type 0} (x : A) (Follow : Symbols → Type 0) → CompleteFor Follow (Nothing x) (nothing_of x)
nothing_complete x Follow _ rest _ nothing f = refl

module _ {A : Type 0} (Follow : Symbols → Type 0) (G : Symbols → A → Type 0) (find : TreeReader A) (c : CompleteFor Follow G find) where
  pub behind_complete : (t : Symbol) → Opens t → CompleteFor Follow (Behind t G) (behind_of t find)
  behind_complete t o _ rest _ (behind {ts = ts} {x = x} g) f = rw (o (ts ++ rest)) (c ts rest x g f)

  pub made_complete : {B : Type 0} (form : A → B) → CompleteFor Follow (Made form G) (made_of form find)
  made_complete form _ rest _ (made {ts = ts} {x = x} g) f = rw (c ts rest x g f) refl

  pub before_complete : (t : Symbol) → Opens t → ((us : Symbols) → Follow (t ∷ us)) → (Any : Symbols → Type 0) → CompleteFor Any (Before G t) (before_of find t)
  before_complete t o goes Any _ rest _ (before {ts = ts} {x = x} g) f =
      rw (append_assoc ts (t ∷ []) rest, c ts (t ∷ rest) x g (goes rest), o rest) refl

module _ {A B : Type 0} (Follow Next : Symbols → Type 0) (G : Symbols → A → Type 0) (H : Symbols → B → Type 0) (find : TreeReader A)
    (next : TreeReader B) (c : CompleteFor Follow G find) (d : CompleteFor Next H next)
    (goes : (b rest : Symbols) (y : B) → H b y → Next rest → Follow (b ++ rest)) where
  pub both_complete : CompleteFor Next (Both G H) (both_of find next)
  both_complete _ rest _ (both {a = a} {b = b} {x = x} {y = y} g h) f =
      rw (append_assoc a b rest, c a (b ++ rest) x g (goes b rest y h f), d b rest y h f) refl

module _ {A : Type 0} (t : Symbol) (opens : Opens t) (Follow : Symbols → Type 0) (G H : Symbols → A → Type 0) (find next : TreeReader A)
    (c : CompleteFor Follow G find) (d : CompleteFor Follow H next)
    (misses : (ts rest : Symbols) (x : A) → H ts x → Follow rest → after t (ts ++ rest) ≡ None) where
  pub choice_complete : CompleteFor Follow (Choice (Behind t G) H) (choice_of t find next)
  choice_complete _ rest _ (first (behind {ts = ts} {x = x} g)) f = rw (opens (ts ++ rest)) (c ts rest x g f)
  choice_complete ts rest x (other h) f = rw (misses ts rest x h f) (d ts rest x h f)

-- the same under another form
pub complete_as : {A : Type 0} (Follow : Symbols → Type 0) (G H : Symbols → A → Type 0) (find : TreeReader A) →
    ((ts : Symbols) (x : A) → H ts x → G ts x) → CompleteFor Follow G find → CompleteFor Follow H find
complete_as Follow G H find from c ts rest x h f = c ts rest x (from ts x h) f

-- ---- what is passed is noted

-- what two things pass, one behind the other
abbrev pub both_marks : {A B : Type 0} → Marks A → Marks B → Marks (A × B)
both_marks m n = record { passed = λ x. option_or (m.passed x.0) (n.passed x.1); high = λ x. m.high x.0 || n.high x.1 }

pub nothing_agrees : {A : Type 0} (m : Marks A) (x : A) → m.passed x ≡ None → m.high x ≡ false → AgreesAll m AreKept (nothing_at x) (nothing_of x)
nothing_agrees m x p h f ts pr = done m f x x f ts (sym (rw (p, h) (note_none f))) (λ c. refl) pr

module _ {A : Type 0} (m : Marks A) (read : Reader A) (find : TreeReader A) (c : AgreesAll m AreKept read find) where
  pub behind_agrees : (t : Symbol) → AgreesAll m AreKept (behind_at t read) (behind_of t find)
  behind_agrees t f ts p =
      agrees_after m AreKept f (after t ts) (λ us. read f us) (λ us. find us) (λ us e. after_printable t ts us p e) (λ us pu. c f us pu)

  pub before_agrees : (t : Symbol) → AgreesAll m AreKept (before_at read t) (before_of find t)
  before_agrees t f ts p =
      agrees_bind m AreKept m AreKept f f (read f ts) (find ts) (λ x. after t x.2 >>= λ us. Some (x.0, x.1, us)) (λ x. after t x.1 >>= λ us. Some (x.0, us))
      (c f ts p)
      (λ x a us i pu.
      agrees_after m AreKept f (after t us) (λ vs. Some (x, noted m f a, vs)) (λ vs. Some (a, vs)) (λ vs e. after_printable t us vs pu e)
      (λ vs pv. done m f x a (noted m f a) vs refl i pv))

  pub made_agrees : {B : Type 0} (n : Marks B) (form : A → B) → ((f : Flags) (a : A) → noted m f a ≡ noted n f (form a)) →
      AgreesAll n AreKept (made_at form read) (made_of form find)
  made_agrees n form same f ts p =
      agrees_bind m AreKept n AreKept f f (read f ts) (find ts) (λ x. Some (form x.0, x.1, x.2)) (λ x. Some (form x.0, x.1)) (c f ts p)
      (λ x a us i pu. done n f (form x) (form a) (noted m f a) us (same f a) (λ k. ap form (i k)) pu)

module _ {A B : Type 0} (m : Marks A) (n : Marks B) (read : Reader A) (next : Reader B) (find : TreeReader A) (found : TreeReader B)
    (c : AgreesAll m AreKept read find) (d : AgreesAll n AreKept next found) where
  pub both_agrees : AgreesAll (both_marks m n) AreKept (both_at read next) (both_of find found)
  both_agrees f ts p =
      agrees_bind m AreKept (both_marks m n) AreKept f f (read f ts) (find ts) (λ x. next x.1 x.2 >>= λ y. Some ((x.0, y.0), y.1, y.2))
      (λ x. found x.1 >>= λ y. Some ((x.0, y.0), y.1)) (c f ts p)
      (λ x a us i pu.
      agrees_bind n AreKept (both_marks m n) AreKept f (noted m f a) (next (noted m f a) us) (found us) (λ y. Some ((x, y.0), y.1, y.2))
      (λ y. Some ((a, y.0), y.1)) (d (noted m f a) us pu)
      (λ y b vs j pv. done (both_marks m n) f (x, y) (a, b) (noted n (noted m f a) b) vs
      (note_note f (m.passed a) (n.passed b) (m.high a) (n.high b))
      (λ k. (let before : clear (noted m f a) ≡ true = clear_before (noted m f a) (n.passed b) (n.high b) k in
      let e0 : x ≡ a = i before in let e1 : y ≡ b = j k in λ t. (e0 t, e1 t))) pv))

module _ {A : Type 0} (t : Symbol) (m : Marks A) (read next : Reader A) (find found : TreeReader A)
    (c : AgreesAll m AreKept read find) (d : AgreesAll m AreKept next found) where
  pub choice_agrees : AgreesAll m AreKept (choice_at t read next) (choice_of t find found)
  choice_agrees f ts p =
      agrees_either m AreKept f (after t ts) (next f ts) (found ts) (read f) find (λ us e. after_printable t ts us p e) (d f ts p) (λ us pu. c f us pu)
