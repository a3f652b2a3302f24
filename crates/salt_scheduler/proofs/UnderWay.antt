-- The names of programs that are not under way are forgotten, one after another.
use Rattle.salt_books.specs.Called.{name_told}
use Rattle.salt_books.specs.declared.called.CalledNames.{CalledNames}
use Rattle.salt_scheduler.specs.Calling.{Forgets, is_under_way}
use Rattle.law_story.proofs.Ids.{is_same_id-refl, is_same_id-true}
use Rattle.law_story.proofs.Lists.{In, in-cases, in-has, in-left, in-right, or_left_true, or_right_true}
use Rattle.salt_values.specs.Id.{has_id}
use Rattle.salt_values.specs.Id.{is_same_id}
use Rattle.salt_values.specs.declared.id.Id.{Id}
use Rattle.std.proofs.Common.{ap, inl, inr, subst, sym, ◌∙◌}
use Rattle.std.specs.Prelude.{Bool, List, None, Option, [], false, if◌then◌else◌, refl, true, ◌++◌, ◌∷◌, ◌≡◌, ◌⊎◌}

pub under-way : (b : Id) (programs firsts : List Id) → In b (programs ++ firsts) → is_under_way programs firsts b ≡ true
under-way b programs firsts i = by (in-cases b programs firsts i)
  where
    by : In b programs ⊎ In b firsts → is_under_way programs firsts b ≡ true
    by (inl j) = or_left_true (has_id b programs) (has_id b firsts) (in-has b programs j)
    by (inr j) = or_right_true (has_id b programs) (has_id b firsts) (in-has b firsts j)

-- the names of programs that are under way stay where that of another one is forgotten
stays : (old new : CalledNames) (accepted beginning : List Id) (base b : Id) → is_under_way accepted beginning base ≡ false →
    is_under_way accepted beginning b ≡ true → name_told new b ≡ (if is_same_id b base then None else name_told old b) → name_told new b ≡ name_told old b
stays old new accepted beginning base b idle under told = told ∙ by (is_same_id b base) refl
  where
    by : (t : Bool) → is_same_id b base ≡ t → (if t then None else name_told old b) ≡ name_told old b
    by true e = let other = subst (λ c. is_under_way accepted beginning c ≡ true) (is_same_id-true b base e) under in cc
    by false e = refl

left-none : {A : Type 0} (t : Bool) (o : Option A) → o ≡ None → (if t then None else o) ≡ None
left-none true o e = refl
left-none false o e = e

left-same : {A : Type 0} (t : Bool) (o : Option A) → t ≡ true → (if t then None else o) ≡ None
left-same true o e = refl
left-same false o e = cc

-- one program more, that is not under way
pub one-forgotten : (accepted beginning gone : List Id) (base : Id) (old mid new : CalledNames) → Forgets accepted beginning gone old mid →
    is_under_way accepted beginning base ≡ false → ((b : Id) → name_told new b ≡ (if is_same_id b base then None else name_told mid b)) →
    Forgets accepted beginning (gone ++ base ∷ []) old new
one-forgotten accepted beginning gone base old mid new f idle told = record {
  kept = λ b under. stays mid new accepted beginning base b idle under (told b) ∙ f.kept b under;
  others = λ b out. other b (is_same_id b base) refl out;
  forgotten = λ b i off. by b off (in-cases b gone (base ∷ []) i);
}
  where
    other : (b : Id) (t : Bool) → is_same_id b base ≡ t → (In b (gone ++ base ∷ []) → ⊥) → name_told new b ≡ name_told old b
    other b true e out = absurd (out (in-right b gone (base ∷ []) (inl (sym (is_same_id-true b base e)))))
    other b false e out = told b ∙ ap (λ t. if t then None else name_told mid b) e ∙ f.others b (λ i. out (in-left b gone (base ∷ []) i))

    by : (b : Id) → is_under_way accepted beginning b ≡ false → In b gone ⊎ In b (base ∷ []) → name_told new b ≡ None
    by b off (inl i) = told b ∙ left-none (is_same_id b base) (name_told mid b) (f.forgotten b i off)
    by b off (inr (inl e)) = told b ∙ left-same (is_same_id b base) (name_told mid b) (subst (λ c. is_same_id b c ≡ true) (sym e) (is_same_id-refl b))
    by b off (inr (inr i)) = absurd i

-- or one that is, and then nothing changes
pub one-left : (accepted beginning gone : List Id) (base : Id) (old mid new : CalledNames) → Forgets accepted beginning gone old mid →
    is_under_way accepted beginning base ≡ true → new ≡ mid → Forgets accepted beginning (gone ++ base ∷ []) old new
one-left accepted beginning gone base old mid new f under same = record {
  kept = λ b on. told b ∙ f.kept b on;
  others = λ b out. told b ∙ f.others b (λ i. out (in-left b gone (base ∷ []) i));
  forgotten = λ b i off. told b ∙ by b off (in-cases b gone (base ∷ []) i);
}
  where
    told : (b : Id) → name_told new b ≡ name_told mid b
    told b = ap (λ (x : CalledNames). name_told x b) same

    by : (b : Id) → is_under_way accepted beginning b ≡ false → In b gone ⊎ In b (base ∷ []) → name_told mid b ≡ None
    by b off (inl i) = f.forgotten b i off
    by b off (inr (inl e)) = let other = subst (λ c. is_under_way accepted beginning c ≡ true) e under in cc
    by b off (inr (inr i)) = absurd i
